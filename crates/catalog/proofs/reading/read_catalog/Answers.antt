use Rattle.std.proofs.Common.{◌∙◌}
use Rattle.catalog.proofs.Agreements.{misfit_is}
use Rattle.catalog.specs.Reading.IsBad.{unfit}
use Rattle.catalog.proofs.reading.read_catalog.Goals as goal

pub returns-in-Some-clause-stop : goal.returns-in-Some-clause-stop
returns-in-Some-clause-stop g c = unfit c.in_ok-lines.lines c.in_ok-lines.ensures.lines
    (misfit_is c.in_ok-lines.lines c.as_slice.result.now c.as_slice-2.result.now c.as_slice-3.result.now c.in-Ok.directory c.in-Ok-tables_of.tables c.misfit.result
    c.as_slice.ensures c.as_slice-2.ensures c.as_slice-3.ensures c.in-Ok.ensures c.in-Ok-tables_of.ensures c.misfit.ensures ∙ c.in-Some.is)
