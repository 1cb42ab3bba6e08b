use Rattle.std.proofs.Common.{◌≡◌, ◌+◌, ◌-◌, ◌≤◌, IsTrue}
use Rattle.guarded_root.specs.Guarded.{RunsBehind}
use Rattle.guarded_lines.specs.Laying.{IsArea}
use Rattle.stable_lines.specs.Journal.{Journal}
use Rattle.stable_lines.specs.Rolling.{groups_above}
use Rattle.laid_groups.specs.Forward.{Forward, FitAll, IsReady, KeepsReady}
use Rattle.laid_groups.specs.Passing.{IsJournalIn}
use Rattle.laid_groups.proofs.Walking.{AtGroup, LaidUpTo}
use Rattle.laid_groups.proofs.journals.lay_groups.Given as goal

abbrev pub decreases-loop-group : goal.decreases-loop-group
decreases-loop-group g l = (l.end + 1) - l.slot

abbrev pub invariant-loop-group : goal.invariant-loop-group
invariant-loop-group g l =
    let before = g.D.Disk.view l.fn.disk in let now = g.D.Disk.view l.disk in
    record {
      runs : RunsBehind IsArea before now;
      few : l.number ≤ l.first + l.slot;
      at : IsTrue before.tells → (journal : Journal) → IsJournalIn before.content l.file journal → l.first ≡ journal.first → AtGroup journal l.slot l.number;
      ready : IsTrue before.tells → (forward : Forward) (journal : Journal) → IsJournalIn before.content l.file journal → l.first ≡ journal.first → FitAll forward (groups_above l.last journal.groups) → KeepsReady forward before now;
      laid : IsTrue before.tells → (forward : Forward) (journal : Journal) → IsReady forward before → IsJournalIn before.content l.file journal → l.first ≡ journal.first → FitAll forward (groups_above l.last journal.groups) → LaidUpTo forward journal l.last l.slot l.number before.content now.content;
    }
