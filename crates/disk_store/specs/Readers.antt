-- Which transactions go on, and what a reader keeps of that, as a store has it in memory.
use Rattle.std.specs.Prelude.{ℕ, Bool, true, false, List, map}
use Rattle.std.specs.List.{filter}
use Rattle.line_versions.specs.Versions.{Start}
use Rattle.disk_store.specs.declared.member.Member.{Member}
use Rattle.disk_store.specs.declared.member.MemberStage.{MemberStage}
use Rattle.disk_store.specs.declared.member.MemberStage.TheVariants as stage
use Rattle.disk_store.specs.declared.member.Recovery.{Recovery}
use Rattle.disk_store.specs.declared.member.Recovery.TheVariants as recovery

abbrev pub goes_in : Recovery → Bool
goes_in recovery.Ending = false
goes_in _ = true

-- whether a read-write transaction is open on the disk
abbrev pub goes_at : MemberStage → Bool
goes_at stage.Writing = true
goes_at stage.Changing = true
goes_at stage.Broken = true
goes_at stage.Prepared = true
goes_at (stage.Committing turn) = true
goes_at (stage.Dead commits left) = goes_in left
goes_at _ = false

-- the numbers of those of these members
abbrev pub numbers_going : List Member → List ℕ
numbers_going members = map (λ m. m.tsn.number) (filter (λ m. goes_at m.stage) members)

-- a member at another stage, which keeps this of a reader's start
abbrev pub keeping : MemberStage → Start → Member → Member
keeping next start m = record m { stage = next; reader = start }
