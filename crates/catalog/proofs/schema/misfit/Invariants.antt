use Rattle.std.proofs.Common.{◌≡◌, drop}
use Rattle.catalog.specs.Schema.{misfit_from}
use Rattle.catalog.proofs.schema.misfit.Given as goal

abbrev pub invariant-loop-line : goal.invariant-loop-line
invariant-loop-line l = misfit_from l.directory l.tables (drop l.line-index l.lines) ≡ misfit_from l.directory l.tables l.lines
