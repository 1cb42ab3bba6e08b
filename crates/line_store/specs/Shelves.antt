-- What a store of lines holds.
use Rattle.std.specs.Prelude.{◌≡◌, ◌≤◌, ◌<◌, ◌-◌, ◌^◌, ◌==◌, if◌then◌else◌, ℕ, Bool, false, None, sum_by}
use Rattle.rdb_outside.specs.rdb_types.declared.keys.Limits.{Limits}
use Rattle.line_view.specs.Knowledge.{Lines}
use Rattle.line_view.specs.Writes.{laid_all}
use Rattle.line_store.specs.Seats.{Seat, outside, beginning, writing, changing, broken, prepared, committing, rolling_back, closing, reading, copying, dead, in_flight, members, set_aside}

-- The room that there is: the limits, which pages of the area files are taken, and at most how many slots of the snapshot files and of the after-image journal are in use. (What is set aside for a commit is told by its seat.)
pub record Space : Type 0 where
  pub limits : Limits
  pub taken : (file page : ℕ) → Bool
  pub snaps : ℕ
  pub slots : ℕ

-- the disk's moment, its count of faults, and below which number transactions may be numbered, whatever a crash leaves
pub record Clock : Type 0 where
  pub time : ℕ
  pub faults : ℕ
  pub promised : ℕ

-- The numbers of transactions are used up: they end at 2^62, and are promised 64 at a time.
abbrev pub AreSpent : Clock → Type 0
AreSpent clock = 2 ^ 62 - 64 < clock.promised

pub record Shelf : Type 0 where
  -- the committed lines
  pub now : Lines
  pub seat : ℕ → Seat
  -- how often at most a call of a session may still answer that there is more to do
  pub steps : ℕ → ℕ
  pub space : Space
  pub clock : Clock

-- the lines as they are seen from a seat: a reader's start, else the committed lines under what was written
abbrev pub seen_from : Seat → Lines → Lines
seen_from outside now = now
seen_from beginning now = now
seen_from (writing ws) now = laid_all ws now
seen_from (changing ws) now = laid_all ws now
seen_from (broken ws) now = laid_all ws now
seen_from (prepared ws) now = laid_all ws now
seen_from (committing ws) now = laid_all ws now
seen_from (rolling_back ws) now = laid_all ws now
seen_from closing now = now
seen_from (reading start) now = start
seen_from (copying number start) now = start
seen_from (dead commits ws) now = laid_all ws now

abbrev pub seen_by : ℕ → Shelf → Lines
seen_by s h = seen_from (h.seat s) h.now

-- no other session's commit is under way
abbrev pub IsAlone : ℕ → Shelf → Type 0
IsAlone s h = (t : ℕ) → (t == s) ≡ false → in_flight (h.seat t) ≡ None

-- the slots of the journal that are set aside for others
abbrev pub set_aside_beside : ℕ → Shelf → ℕ
set_aside_beside s h = sum_by (λ t. if t == s then 0 else set_aside (h.seat t)) members

-- time goes on, and faults are counted
pub record Elapses (old new : Clock) : Type 0 where
  pub later : old.time ≤ new.time
  pub no_fewer : old.faults ≤ new.faults
