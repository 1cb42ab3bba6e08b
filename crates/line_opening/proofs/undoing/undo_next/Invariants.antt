use Rattle.std.proofs.Common.{◌≡◌, ◌≤◌, ◌-◌, ◌⊎◌, length, IsTrue}
use Rattle.rdb_types.specs.declared.keys.Dbkey.{Dbkey}
use Rattle.rdb_outside.specs.Disk.{Pending, LeavesOnly, OnlyReads}
use Rattle.line_moves.specs.stable_lines.Slots.{line_at}
use Rattle.line_moves.specs.stable_lines.Progress.{Open, Progress}
use Rattle.line_moves.specs.stable_lines.Facts.{IsNotOpen, Facts, StandsAs}
use Rattle.line_opening.specs.Undoing.{AreUndone, MayUndo}
use Rattle.line_opening.proofs.undoing.undo_next.Given as goal

abbrev pub invariant-loop-back : goal.invariant-loop-back
invariant-loop-back g l =
    let before = g.D.Disk.view l.fn.disk in let now = g.D.Disk.view l.disk in
    record {
      size : length l.page ≡ 1024;
      reads : OnlyReads before now;
      told : now.tells ≡ before.tells;
      no_fewer : before.faults ≤ now.faults;
      facts : IsTrue before.tells → (p : Progress) (o : Open) → MayUndo (Pending before) p l.member o l.entries l.pages → l.tsn ≡ o.tsn → Facts (Pending now) p;
      undone : IsTrue before.tells → (p : Progress) (o : Open) → MayUndo (Pending before) p l.member o l.entries l.pages → l.tsn ≡ o.tsn
          → AreUndone before.content o l.entries → AreUndone now.content o (l.entries - l.back);
      ended : IsTrue before.tells → (p : Progress) (o : Open) (key : Dbkey) → MayUndo (Pending before) p l.member o l.entries l.pages → l.tsn ≡ o.tsn
          → (line_at now.content key ≡ line_at before.content key) ⊎ IsNotOpen p (line_at now.content key).tsn.number;
      leaves : IsTrue before.tells → (p : Progress) (o : Open) → MayUndo (Pending before) p l.member o l.entries l.pages → l.tsn ≡ o.tsn → LeavesOnly before now (StandsAs p);
    }
