-- What a call of a session that copies nothing does, beside what others copy.
use Rattle.std.proofs.Common.{◌≡◌, ◌<◌, ◌==◌, ℕ, true, false, List, Option, None, Result, Ok, Err, sym, ap, subst, ◌∙◌}
use Rattle.line_view.specs.declared.writes.Write.{Write}
use Rattle.rdb_types.specs.declared.keys.Dbkey.{Dbkey}
use Rattle.line_store.specs.declared.answers.Fault.{Fault}
use Rattle.line_store.specs.declared.answers.Progress.{Progress}
use Rattle.line_store.specs.declared.answers.Progress.TheVariants as progress
use Rattle.line_store.specs.declared.answers.ReadStop.{ReadStop}
use Rattle.line_store.specs.declared.answers.ReadStop.TheVariants as read
use Rattle.line_store.specs.declared.answers.Stepped.{Stepped}
use Rattle.line_store.specs.declared.answers.Stepped.TheVariants.{More, Done, Committed, Recovered}
use Rattle.line_store.specs.Seats.{Seat, failed_at, done_at, writes_of, Adds}
use Rattle.line_store.specs.Shelves.{Shelf}
use Rattle.line_store.specs.Rooms.{Takes}
use Rattle.line_store.specs.Calls.{Changes, Comes, Commits, Fails, GoesOn, IsRead, KeepsOthers, Moves, TakesSlots}
use Rattle.backup_steps.specs.next_lines.partial_backup.declared.copying.Copying.{Copying}
use Rattle.store_copies.specs.Shown.{seated, steps_with, with_copies}
use Rattle.store_copies.proofs.Seated.{seat-with, steps-plain}

module _ (before after : ℕ → Option Copying) (s : ℕ) (beside : (t : ℕ) → (t == s) ≡ false → after t ≡ before t) where
  pub others-with : (h g : Shelf) → KeepsOthers s h g → KeepsOthers s (with_copies before h) (with_copies after g)
  others-with h g keeps = record {
    seat = λ t apart. λ i. seated (beside t apart i) (keeps.seat t apart i);
    steps = λ t apart. λ i. steps_with (beside t apart i) (keeps.steps t apart i);
    later = keeps.later;
  }

  -- a move to a seat as it is seen beside the copies
  pub moves-to : (there seen : Seat) (h g : Shelf) → seated (after s) there ≡ seen → Moves s there h g → Moves s seen (with_copies before h) (with_copies after g)
  moves-to there seen h g is moves = record {
    now = moves.now;
    mine = ap (seated (after s)) moves.mine ∙ is;
    others = others-with h g moves.others;
    space = moves.space;
  }

  module _ (none : before s ≡ None) (gone : after s ≡ None) where
    pub moves-with : (there : Seat) (h g : Shelf) → Moves s there h g → Moves s there (with_copies before h) (with_copies after g)
    moves-with there h g moves = moves-to there there h g (ap (λ (c : Option Copying). seated c there) gone) moves

    -- to a seat that the one before it says
    pub moves-from : (to : Seat → Seat) (h g : Shelf) → Moves s (to (h.seat s)) h g → Moves s (to ((with_copies before h).seat s)) (with_copies before h) (with_copies after g)
    moves-from to h g moves = subst (λ (seat : Seat). Moves s (to seat) (with_copies before h) (with_copies after g)) (sym (seat-with before h s none)) (moves-with (to (h.seat s)) h g moves)

    was-at : (h : Shelf) (seat : Seat) → h.seat s ≡ seat → (with_copies before h).seat s ≡ seat
    was-at h seat was = seat-with before h s none ∙ was

    goes-on-with : (h g : Shelf) → GoesOn s h g → GoesOn s (with_copies before h) (with_copies after g)
    goes-on-with h g goes = record {
      moves = moves-from (λ (seat : Seat). seat) h g goes.moves;
      less = subst (λ (n : ℕ). n < (with_copies before h).steps s) (sym (steps-plain after g s gone)) (subst (λ (n : ℕ). g.steps s < n) (sym (steps-plain before h s none)) goes.less);
    }

    fails-with : (fault : Fault) (h g : Shelf) → Fails s fault h g → Fails s fault (with_copies before h) (with_copies after g)
    fails-with fault h g fails = record { moves = moves-from failed_at h g fails.moves; cause = fails.cause }

    pub reads-with : (result : Result Progress ReadStop) (h g : Shelf) → IsRead s h g result → IsRead s (with_copies before h) (with_copies after g) result
    reads-with (Ok progress.Done) h g is = moves-from (λ (seat : Seat). seat) h g is
    reads-with (Ok progress.More) h g is = goes-on-with h g is
    reads-with (Err read.NoMemory) h g is = moves-from (λ (seat : Seat). seat) h g is
    reads-with (Err (read.Fault fault)) h g is = fails-with fault h g is

    pub changes-with : (more : List Write) (h g : Shelf) → Changes s more h g → Changes s more (with_copies before h) (with_copies after g)
    changes-with more h g changes = record {
      behind = changes.behind;
      adds = subst (λ (seat : Seat). Adds more (writes_of seat) changes.behind) (sym (seat-with before h s none)) changes.adds;
      now = changes.now;
      mine = was-after changes.mine;
      others = others-with h g changes.others;
      space = subst (λ (seat : Seat). TakesSlots more (writes_of seat) h.space g.space) (sym (seat-with before h s none)) changes.space;
    }
      where
        was-after : {seat : Seat} → g.seat s ≡ seat → (with_copies after g).seat s ≡ seat
        was-after is = seat-with after g s gone ∙ is

    commits-with : (ws : List Write) (there : Seat) (moment : ℕ) (h g : Shelf) → Commits s ws there moment h g → Commits s ws there moment (with_copies before h) (with_copies after g)
    commits-with ws there moment h g commits = record {
      now = commits.now;
      mine = seat-with after g s gone ∙ commits.mine;
      others = others-with h g commits.others;
      space = commits.space;
      at = commits.at;
    }

    pub comes-with : (result : Result Stepped Fault) (h g : Shelf) → Comes s h g result → Comes s (with_copies before h) (with_copies after g) result
    comes-with (Ok More) h g is = goes-on-with h g is
    comes-with (Ok Done) h g is = record { seat = is.seat; comes = ap done_at (seat-with before h s none) ∙ is.comes; moves = moves-with is.seat h g is.moves }
    comes-with (Ok (Committed moment)) h g is = record { writes = is.writes; was = was-at h _ is.was; commits = commits-with is.writes _ moment.number h g is.commits }
    comes-with (Ok (Recovered true moment)) h g is = record { writes = is.writes; was = was-at h _ is.was; commits = commits-with is.writes _ moment.number h g is.commits }
    comes-with (Ok (Recovered false moment)) h g is = record { commits = is.commits; writes = is.writes; was = was-at h _ is.was; moves = moves-with _ h g is.moves; at = is.at }
    comes-with (Err fault) h g is = fails-with fault h g is

-- a page is taken, by whomever
pub takes-with : (copied : ℕ → Option Copying) (key : Dbkey) (h g : Shelf) → Takes key h g → Takes key (with_copies copied h) (with_copies copied g)
takes-with copied key h g takes = record {
  file = takes.file;
  lies = takes.lies;
  page = takes.page;
  now = takes.now;
  seat = λ t. ap (seated (copied t)) (takes.seat t);
  steps = λ t. ap (steps_with (copied t)) (takes.steps t);
  later = takes.later;
}
