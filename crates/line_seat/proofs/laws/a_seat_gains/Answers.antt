use Rattle.std.proofs.Common.{◌∙◌}
use Rattle.line_seat.proofs.Stable.{holds_all}
use Rattle.line_seat.proofs.laws.a_seat_gains.Goals as goal

pub returns : goal.returns
returns g c = let v = g.D.Disk.view in let keeps = c.requires.reads.keeps c.requires.tells in λ now s o all n was.
    holds_all (v c.args.before.now) (v c.args.after.now) keeps (λ f i x p. c.requires.stable f i x p ∙ keeps.content f i) now s o all n was
