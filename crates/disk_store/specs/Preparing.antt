-- What is set aside of the journal for commits, as memory knows it.
use Rattle.std.specs.Prelude.{ℕ, ◌==◌, if◌then◌else◌, List, [], sum_by, Option, Some, None, slice_get}
use Rattle.line_store.specs.Seats.{members, set_aside}
use Rattle.member_memory.specs.Memory.{writes_in}
use Rattle.disk_store.specs.declared.member.Member.{Member}
use Rattle.disk_store.specs.Seats.{seat_with}

-- for a session
abbrev pub aside_of : Option Member → ℕ
aside_of None = 0
aside_of (Some m) = set_aside (seat_with m.stage (writes_in m.written.lines) [])

-- for all but s
abbrev pub aside_beside : ℕ → List Member → ℕ
aside_beside s ms = sum_by (λ t. if t == s then 0 else aside_of (slice_get ms t)) members
