-- Numbers that are kept free for members whose beginning raised the ceiling.
use Rattle.std.specs.Prelude.{ℕ, ◌≤◌, ◌^◌, List, sum_by}
use Rattle.rdb_types.specs.declared.keys.Limits.{Limits}
use Rattle.root_file.specs.Root.{AreLimits}
use Rattle.disk_store.specs.declared.member.Ceiling.TheVariants.{Raised}
use Rattle.disk_store.specs.declared.member.Member.{Member}
use Rattle.disk_store.specs.declared.member.MemberStage.{MemberStage}
use Rattle.disk_store.specs.declared.member.MemberStage.TheVariants as stage
use Rattle.disk_store.specs.declared.held.Numbers.{Numbers}
use Rattle.disk_store.specs.Memory.{StoreMemory, with_member, at_stage}

-- so many numbers are kept free at a stage
abbrev pub kept_at : MemberStage → ℕ
kept_at (stage.Beginning Raised) = 1
kept_at _ = 0

abbrev pub kept_by : Member → ℕ
kept_by m = kept_at m.stage

-- and for all members
abbrev pub kept_in : List Member → ℕ
kept_in members = sum_by kept_by members

-- Limits and numbers are such as a root may have, whatever the disk tells.
pub record AreAllowed (limits : Limits) (numbers : Numbers) : Type 0 where
  pub limited : AreLimits limits
  pub applied : numbers.applied ≤ 2 ^ 62
  pub written : numbers.written ≤ 2 ^ 62

-- a root with this ceiling was written
abbrev pub raised_to : ℕ → Numbers → Numbers
raised_to ceiling numbers = record numbers { written = ceiling }

-- behind a barrier each root that a crash may leave is the one that was written last
abbrev pub settled : Numbers → Numbers
settled numbers = record numbers { ceiling = numbers.written }

abbrev pub with_settled : StoreMemory → StoreMemory
with_settled held = record held { numbers = settled held.numbers }

-- a root was written for a session
abbrev pub with_raised : ℕ → ℕ → Member → StoreMemory → StoreMemory
with_raised s ceiling m held = record (with_member s (at_stage (stage.Beginning Raised) m) held) { numbers = raised_to ceiling held.numbers }
