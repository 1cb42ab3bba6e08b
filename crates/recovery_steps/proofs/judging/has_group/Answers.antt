use Rattle.std.proofs.Common.{◌≡◌, ◌≢◌, ◌+◌, ℕ, length, ap, subst, arith}
use Rattle.rdb_types.specs.declared.keys.Tsn.{Tsn}
use Rattle.rdb_outside.specs.Disk.{View}
use Rattle.journal_scan.specs.Standing.{what_stands}
use Rattle.new_database.specs.Maker.{aij_file}
use Rattle.line_opening.specs.declared.groups.NextGroup.{NextGroup}
use Rattle.stable_lines.specs.Journal.{commit_of}
use Rattle.stable_lines.specs.Progress.{Flight, Progress}
use Rattle.line_moves.specs.Changes.{IsCommitOf}
use Rattle.line_moves.specs.Lines.{ChangedLines}
use Rattle.store_endings.specs.disk_store.declared.member.Member.{Member}
use Rattle.store_endings.proofs.of_disk_store.Closing.{one-member}
use Rattle.store_endings.proofs.of_disk_store.CommitsKept.{due-room}
use Rattle.recovery_steps.proofs.Awaited.{awaited}
use Rattle.recovery_steps.proofs.judging.has_group.Goals as goal

pub has_commit-requires-clause-within : goal.has_commit-requires-clause-within
has_commit-requires-clause-within g c =
    let held = c.args.held.now in
    let s = c.args.s.number in
    let m : Member = c.member-member.result.now in
    let was = c.member-member.ensures in
    let its = awaited held s m c.requires.died.0 c.keeps_commits.ensures c.requires.died.1 was in
    let room = due-room held s m c.requires.member was its.flies its.some c.keeps_commits.ensures in
    let few = c.keeps_commits.ensures.few in
    let slot = ap (λ (n : NextGroup). n.slot) c.next_group-next.ensures in
    let long = (c.sound.ensures.each s m was).keys.long in
    let count = ap (λ (ls : ChangedLines). length ls) c.lines.ensures.value in
    omega (arith, room, few, slot, long, count)

pub has_commit-requires-clause-count : goal.has_commit-requires-clause-count
has_commit-requires-clause-count g c =
    let held = c.args.held.now in
    let s = c.args.s.number in
    let m : Member = c.member-member.result.now in
    let was = c.member-member.ensures in
    let its = awaited held s m c.requires.died.0 c.keeps_commits.ensures c.requires.died.1 was in
    let room = due-room held s m c.requires.member was its.flies its.some c.keeps_commits.ensures in
    let few = c.keeps_commits.ensures.few in
    let long = (c.sound.ensures.each s m was).keys.long in
    let count = ap (λ (ls : ChangedLines). length ls) c.lines.ensures.value in
    omega (arith, room, few, long, count)

-- what stands in the commit slot of a group at this place, of so many lines
abbrev Stands : View → NextGroup → Tsn → ℕ → Type 0
Stands w next tsn lines = (now : Progress) (flight : Flight) → IsCommitOf now flight next.slot next.number tsn lines → what_stands (w.content aij_file (next.slot + lines)) ≡ commit_of flight.group

abbrev IsLost : View → NextGroup → Tsn → ℕ → Type 0
IsLost w next tsn lines = (now : Progress) (flight : Flight) → IsCommitOf now flight next.slot next.number tsn lines → what_stands (w.content aij_file (next.slot + lines)) ≢ commit_of flight.group

pub returns-clause-stands : goal.returns-clause-stands
returns-clause-stands g c is told m got =
    let w = g.D.Disk.view c.has_commit.new.disk in
    let held = c.args.held.now in
    let x : Member = c.member-member.result.now in
    subst (λ (y : Member). Stands w held.next y.tsn (length y.written.lines)) (one-member held.members c.args.s.number x m c.member-member.ensures got)
    (subst (λ (ls : ChangedLines). Stands w held.next x.tsn (length ls)) c.lines.ensures.value
    (subst (λ (n : NextGroup). Stands w n x.tsn (length c.lines.result.now)) c.next_group-next.ensures (λ now flight its. c.has_commit.ensures.stands is told now flight its)))

pub returns-clause-lost : goal.returns-clause-lost
returns-clause-lost g c is told m got =
    let w = g.D.Disk.view c.has_commit.new.disk in
    let held = c.args.held.now in
    let x : Member = c.member-member.result.now in
    subst (λ (y : Member). IsLost w held.next y.tsn (length y.written.lines)) (one-member held.members c.args.s.number x m c.member-member.ensures got)
    (subst (λ (ls : ChangedLines). IsLost w held.next x.tsn (length ls)) c.lines.ensures.value
    (subst (λ (n : NextGroup). IsLost w n x.tsn (length c.lines.result.now)) c.next_group-next.ensures (λ now flight its. c.has_commit.ensures.lost is told now flight its)))
