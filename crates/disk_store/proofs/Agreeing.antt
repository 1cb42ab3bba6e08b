-- Memory agrees with each shelf that is shown.
use Rattle.std.proofs.Common.{◌≡◌, ℕ, List, [], Option, Some, None, refl, sym, ap, subst, ◌∙◌}
use Rattle.std.specs.Prelude.{slice_get}
use Rattle.rdb_outside.specs.Disk.{View, Image, IsPending}
use Rattle.rdb_outside.specs.Moments.{each_slot}
use Rattle.line_view.specs.declared.writes.Write.{Write}
use Rattle.line_view.specs.Knowledge.{Lines}
use Rattle.line_store.specs.Seats.{Seat}
use Rattle.line_store.specs.Sights.{bare, Agrees, MayBeOpened, Stands}
use Rattle.member_rooms.specs.store_shows.Shows.{OpensTo}
use Rattle.store_shows.proofs.Standing.{now_stands, pending-opens}
use Rattle.ledger_versions.specs.disk_seats.Ledgers.{Ledger}
use Rattle.member_memory.specs.Memory.{writes_in}
use Rattle.disk_store.specs.declared.member.Member.{Member}
use Rattle.disk_store.specs.declared.member.MemberStage.{MemberStage}
use Rattle.disk_store.specs.declared.member.MemberStage.TheVariants as stage
use Rattle.disk_store.specs.Memory.{StoreMemory}
use Rattle.disk_store.specs.Seats.{seat_with, stand_of}
use Rattle.line_store.specs.Shelves.{Shelf}
use Rattle.disk_store.specs.Shown.{Shown, Sits, sight_of}

bare-alike : (st : MemberStage) (ws : List Write) (start : Lines) → bare (seat_with st [] []) ≡ bare (seat_with st ws start)
bare-alike stage.Outside ws start = refl
bare-alike (stage.Beginning ceiling) ws start = refl
bare-alike stage.Writing ws start = refl
bare-alike stage.Changing ws start = refl
bare-alike stage.Broken ws start = refl
bare-alike stage.Prepared ws start = refl
bare-alike (stage.Committing turn) ws start = refl
bare-alike stage.RollingBack ws start = refl
bare-alike stage.Closing ws start = refl
bare-alike stage.Reading ws start = refl
bare-alike (stage.Dead commits left) ws start = refl

sits-bare : (v : View) (g : Ledger) (s : ℕ) (x : Option Member) (seat : Seat) → Sits v g s x seat → bare (stand_of x) ≡ bare seat
sits-bare v g s None seat sits = ap bare (sym sits.0)
sits-bare v g s (Some m) seat sits = bare-alike m.stage (writes_in m.written.lines) sits.start ∙ ap bare (sym sits.is)

pub agreeing : (v : View) (held : StoreMemory) → Agrees (sight_of v held)
agreeing v held h shown s = sits-bare v shown.ledger s (slice_get held.members s) (h.seat s) (shown.seats s)

pub standing : (v : View) (held : StoreMemory) → Stands (sight_of v held)
standing v held h shown lines left = now_stands v shown.ledger h shown.facts shown.lines lines left

-- opening can start from an image of pending contents
pub shown-opens : (v : View) (held : StoreMemory) (h : Shelf) → Shown v held h → (image : Image) → IsPending v image → (lines : Lines) × OpensTo image lines
shown-opens v held h shown image pending = pending-opens v shown.ledger shown.facts shown.tables.classes shown.tables.lie image pending

pub opening : (v : View) (held : StoreMemory) → MayBeOpened (sight_of v held)
opening v held h shown image left = shown-opens v held h shown image (each_slot v image (subst (λ (t : ℕ). v.left_since t image) shown.lines.time left))
