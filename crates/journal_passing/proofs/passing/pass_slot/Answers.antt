use Rattle.std.proofs.Common.{◌∙◌, ap, None, Some, Option}
use Rattle.journal_reading.specs.aij_journal.declared.part.AijPart.{AijPart}
use Rattle.journal_reading.proofs.of_journal_scan.Stands.{only_stands}
use Rattle.journal_passing.specs.Passing.{continued, passed_by}
use Rattle.journal_passing.specs.declared.passing.Passing.{Passing}
use Rattle.journal_passing.proofs.passing.pass_slot.Goals as goal

pub returns-in_default : goal.returns-in_default
returns-in_default c = ap (λ (what : Option AijPart). passed_by c.args.before c.args.number what) (only_stands c.args.slot.now None c.in_default.ensures.none)

pub returns : goal.returns
returns c =
    c.goes_on.ensures
    ∙ ap (λ (p : Passing). continued p c.args.number c.in-Some.part) c.begun_by-passing.ensures
    ∙ ap (λ (what : Option AijPart). passed_by c.args.before c.args.number what) (only_stands c.args.slot.now (Some c.in-Some.part) c.in-Some.ensures.found)
