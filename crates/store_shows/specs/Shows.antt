-- What a store on a disk shows of the ledger of its members' transactions.
use Rattle.std.specs.Prelude.{ℕ, ◌≡◌, List, Some}
use Rattle.rdb_outside.specs.Disk.{View, Image}
use Rattle.line_view.specs.declared.writes.Write.{Write}
use Rattle.line_view.specs.Knowledge.{Lines}
use Rattle.line_view.specs.Writes.{laid_all}
use Rattle.line_store.specs.Seats.{Seat, in_flight}
use Rattle.line_store.specs.Shelves.{Shelf}
use Rattle.stable_lines.specs.Progress.{Flight, lines_with}
use Rattle.line_moves.specs.Classes.{IsClassed}
use Rattle.member_steps.specs.disk_seats.Ledgers.{Commit, Ledger}
use Rattle.member_steps.specs.Standing.{HasLines}

-- An image that a crash since this moment might have left stands for these lines, and opening can start from it.
pub record Leaves (v : View) (t : ℕ) (lines : Lines) : Type 0 where
  pub image : Image
  pub left : v.left_since t image
  pub stands : HasLines image lines

-- An image behind whose opening these lines are shown: it stands for them, and its pages have the classes of their areas.
pub record OpensTo (image : Image) (lines : Lines) : Type 0 where
  pub has : HasLines image lines
  pub by_area : ℕ → ℕ
  pub lie : IsClassed by_area image

-- Each image that a crash since this moment might have left can be opened.
abbrev pub AllOpen : View → ℕ → Type 0
AllOpen v t = (image : Image) → v.left_since t image → (lines : Lines) × OpensTo image lines

-- The seat has a commit that is under way, and its writes come to the lines of the group.
pub record IsInFlight (g : Ledger) (f : Flight) (seat : Seat) : Type 0 where
  pub writes : List Write
  pub under_way : in_flight seat ≡ Some writes
  pub laid : lines_with g.base f ≡ laid_all writes g.base.lines

-- The shelf has the committed lines of the ledger, and the disk's moment and faults. The commit that is under way is that of its member's seat.
pub record ShowsLines (v : View) (g : Ledger) (h : Shelf) : Type 0 where
  pub now : h.now ≡ g.base.lines
  pub time : h.clock.time ≡ v.moment
  pub faults : h.clock.faults ≡ v.faults
  pub flight : (c : Commit) → g.commit ≡ Some c → IsInFlight g c.flight (h.seat c.member)
