use Rattle.std.proofs.Common.{rules, ◌≡◌, ◌∙◌, true, false, None, Some, refl}
use Rattle.journal_passing.specs.Passing.{is_its, closed, grown, continued}
use Rattle.journal_passing.proofs.passing.Passing.goes_on.Goals as goal

pub returns-then-not-is_its : goal.returns-then-not-is_its
returns-then-not-is_its c = let off : is_its c.args.self.now c.args.number c.args.part.now ≡ false = search rules in rw off refl

pub returns-in-None : goal.returns-in-None
returns-in-None c =
    let on : is_its c.args.self.now c.args.number c.args.part.now ≡ true = search rules in
    let what : c.args.part.now.line ≡ None = search rules in
    let same : closed c.args.self.now ≡ continued c.args.self.now c.args.number c.args.part.now = rw (on, what) refl in
    c.close.ensures ∙ same

pub returns-in-Some : goal.returns-in-Some
returns-in-Some c =
    let on : is_its c.args.self.now c.args.number c.args.part.now ≡ true = search rules in
    let what : c.args.part.now.line ≡ Some c.in-Some.line = search rules in
    let same : grown c.args.self.now c.in-Some.line.key ≡ continued c.args.self.now c.args.number c.args.part.now = rw (on, what) refl in
    c.grow.ensures ∙ same
