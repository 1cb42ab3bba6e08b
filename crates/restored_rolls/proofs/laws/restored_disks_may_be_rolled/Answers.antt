use Rattle.std.proofs.Common.{List, ℕ, sym, subst}
use Rattle.rmu_recover.specs.Recovering.{MayStand}
use Rattle.backup_file.specs.Whole.{lines_in}
use Rattle.restored_rolls.specs.Meeting.{forward_over}
use Rattle.restored_rolls.proofs.Source.{may}
use Rattle.restored_rolls.proofs.laws.restored_disks_may_be_rolled.Goals as goal

pub returns : goal.returns
returns g c = let v = g.D.Disk.view c.args.disk.now in
    λ was classes head lines journal groups stable keeps is f i x pends.
    subst (λ (b : List ℕ). MayStand was is.root (forward_over v.content is.root (lines_in lines) groups) f i b) (sym (stable f i x pends)) (may was v.content classes head lines journal groups keeps is f i)
