-- What a store in memory holds.
use Rattle.std.specs.Prelude.{◌≡◌, ◌≢◌, ◌≤◌, ◌<◌, ◌+◌, ◌⊎◌, ◌==◌, ◌&&◌, ◌++◌, ◌^◌, if◌then◌else◌, ℕ, Bool, true, false, List, [], ◌∷◌, length, Option, Some, None, slice_get, slice_set, replicate}
use Rattle.std.specs.List.{list_any}
use Rattle.std.proofs.Common.{refl}
use Rattle.std.proofs.lemmas.Bool.{ltb-true}
use Rattle.rdb_types.specs.declared.keys.Dbkey.{Dbkey}
use Rattle.rdb_types.specs.declared.keys.Limits.{Limits}
use Rattle.rdb_types.specs.declared.session.Session.{Session}
use Rattle.area_files.specs.Areas.{IsSpacePage}
use Rattle.line_view.specs.declared.writes.Write.{Write}
use Rattle.line_view.specs.Knowledge.{Lines, line_in}
use Rattle.line_store.specs.declared.answers.Stepped.{Stepped}
use Rattle.line_store.specs.declared.answers.Stepped.TheVariants.{More, Done, Committed, Recovered}
use Rattle.line_store.specs.Seats.{Seat, outside, beginning, writing, changing, prepared, committing, rolling_back, closing, reading, copying, dead, done_at, writes_of, Adds}
use Rattle.line_store.specs.Shelves.{Shelf, seen_by}
use Rattle.line_store.specs.Sights.{Sight}
use Rattle.line_store.specs.Rooms.{IsBehind, first_line}
use Rattle.member_memory.specs.Memory.{writes_in}
use Rattle.memory_store.specs.declared.seat.Seat.{Seat as Held}
use Rattle.memory_store.specs.declared.seat.Seat.TheVariants as held
use Rattle.memory_store.specs.declared.store.PageUse.{PageUse}
use Rattle.memory_store.specs.Copiers.{copier_in}

-- ---- seats

abbrev pub seat_of : Held → Seat
seat_of held.Outside = outside
seat_of held.Beginning = beginning
seat_of (held.Writing ws) = writing (writes_in ws.lines)
seat_of (held.Changing ws) = changing (writes_in ws.lines)
seat_of (held.Prepared ws) = prepared (writes_in ws.lines)
seat_of (held.Committing ws) = committing (writes_in ws.lines)
seat_of (held.RollingBack ws) = rolling_back (writes_in ws.lines)
seat_of held.Closing = closing
seat_of (held.Reading start) = reading start
seat_of (held.Copying number start) = copying number start
seat_of (held.Dead commits ws) = dead commits (writes_in ws.lines)

abbrev pub seat_or : Option Held → Seat
seat_or (Some h) = seat_of h
seat_or None = outside

abbrev pub seat_at : List Held → ℕ → Seat
seat_at seats s = seat_or (slice_get seats s)

abbrev pub empty_seats : List Held
empty_seats = replicate 17 held.Outside

-- the lines over which a session's writes are laid
abbrev pub base_of : Seat → Lines → Lines
base_of (reading start) now = start
base_of (copying number start) now = start
base_of _ now = now

-- a commit of this seat may still land
abbrev pub is_ready : Seat → Bool
is_ready (prepared ws) = true
is_ready (committing ws) = true
is_ready _ = false

abbrev pub count_ready : List Held → ℕ
count_ready [] = 0
count_ready (h ∷ hs) = (if is_ready (seat_of h) then 1 else 0) + count_ready hs

-- There is a seat for each session, and room for each commit that may land.
pub record AreKept (room : ℕ) (seats : List Held) : Type 0 where
  pub count : length seats ≡ 17
  pub fits : count_ready seats ≤ room

-- what a step makes of a seat where nothing is committed
abbrev pub StepsTo : Seat → Seat → Stepped → Type 0
StepsTo old new More = ⊥
StepsTo old new Done = done_at old ≡ Some new
StepsTo old new (Committed moment) = ⊥
StepsTo old new (Recovered is_committed moment) = (is_committed ≡ false) × (moment.number ≡ 0) × (new ≡ outside) × ((commits : Bool) × (ws : List Write) × (old ≡ dead commits ws))

-- these writes were laid over those of the transaction
pub record IsChanged (more : List Write) (old new : Seat) : Type 0 where
  pub behind : List Write
  pub adds : Adds more (writes_of old) behind
  pub is : new ≡ changing behind

-- ---- the store

pub record Kept : Type 0 where
  pub limits : Limits
  pub lines : Lines
  -- how many commits may land before memory is wanted
  pub room : ℕ
  pub seats : List Held
  -- who began the backup of a number last
  pub copiers : List (Option Session)
  pub pages : List PageUse

abbrev pub is_taken : List PageUse → ℕ → ℕ → Bool
is_taken pages file page = list_any (λ u. (u.file == file) && (u.page == page)) pages

-- as its users see it: no journal and no snapshot file is in use, no time goes by, and transactions have no numbers
abbrev pub shelf_of : Kept → Shelf
shelf_of k = record {
  now = k.lines;
  seat = seat_at k.seats;
  steps = λ s. 0;
  space = record { limits = k.limits; taken = is_taken k.pages; snaps = 0; slots = 0 };
  clock = record { time = 0; faults = 0; promised = 0 };
}

-- a crash leaves nothing
abbrev pub left_of : Kept → ℕ → Lines → Type 0
left_of k t lines = ⊥

-- so none has to be opened, and none lacks a backup
abbrev pub none_of : Kept → ℕ → Type 0
none_of k t = (lines : Lines) → left_of k t lines → ⊥

abbrev pub copier_of : Kept → ℕ → Option ℕ
copier_of k = copier_in k.copiers

-- it shows the one shelf that it holds
abbrev pub sight_of : Kept → Sight
sight_of k = record { shows = λ h. h ≡ shelf_of k; stand = seat_at k.seats; steps = λ s. 0; left = left_of k; opens = none_of k; copier = copier_of k; backed = λ number t lines. none_of k t }

-- no step is ever left
pub none_left : 0 < 2 ^ 64
none_left = ltb-true 0 (2 ^ 64) refl

abbrev pub with_seat : ℕ → Held → Kept → Kept
with_seat s h k = record k { seats = slice_set k.seats s h }

abbrev pub with_copiers : List (Option Session) → Kept → Kept
with_copiers copiers k = record k { copiers = copiers }

abbrev pub with_stock : Lines → ℕ → Kept → Kept
with_stock lines room k = record k { lines = lines; room = room }

abbrev pub with_page : PageUse → Kept → Kept
with_page page k = record k { pages = k.pages ++ page ∷ [] }

-- it is no commit, or there is room for one more
abbrev pub MayHave : Kept → Held → Type 0
MayHave k h = (is_ready (seat_of h) ≡ false) ⊎ (count_ready k.seats < k.room)

-- ---- rooms

-- a line of the page, behind another, that s doesn't see
pub record IsFree (k : Kept) (s : ℕ) (page : PageUse) (from : Option Dbkey) (key : Dbkey) : Type 0 where
  pub area_is : key.area ≡ page.area
  pub page_is : key.page ≡ page.page
  pub behind : IsBehind from key
  pub free : line_in key (seen_by s (shelf_of k)) ≡ None

-- a page that isn't taken, has no first line and may hold lines
pub record IsNew (k : Kept) (s file area page : ℕ) : Type 0 where
  pub plain : IsSpacePage page → ⊥
  pub free : is_taken k.pages file page ≡ false
  pub empty : line_in (first_line area page) (seen_by s (shelf_of k)) ≡ None

abbrev pub IsUsed : Kept → (s file area page : ℕ) → Type 0
IsUsed k s file area page = IsSpacePage page ⊎ ((is_taken k.pages file page ≡ true) ⊎ (line_in (first_line area page) (seen_by s (shelf_of k)) ≢ None))

abbrev pub AreUsed : Kept → (s file area last : ℕ) → Type 0
AreUsed k s file area last = (page : ℕ) → 1 ≤ page → page ≤ last → IsUsed k s file area page
