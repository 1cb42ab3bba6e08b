-- A step of a commit: it goes on, or failed.
use Rattle.std.proofs.Common.{◌≡◌, ◌≢◌, ◌≤◌, ◌<◌, ◌==◌, ◌⊎◌, inl, inr, ℕ, Bool, cond, IsTrue, List, [], length, Ok, Option, Some, refl, sym, ap, subst, ◌∙◌, arith}
use Rattle.std.specs.Prelude.{IsErrOf, slice_get, if◌then◌else◌}
use Rattle.rdb_types.specs.declared.file.FileId.{FileId}
use Rattle.rdb_outside.specs.Causes.{Rose}
use Rattle.rdb_outside.specs.Disk.{View, LeftNow}
use Rattle.line_view.specs.declared.writes.Write.{Write}
use Rattle.line_view.specs.Knowledge.{Lines}
use Rattle.line_store.specs.declared.answers.Fault.{Fault}
use Rattle.line_store.specs.declared.answers.Fault.TheVariants.{Failed, Bad}
use Rattle.line_store.specs.Seats.{Seat, in_flight, committing, failed_at}
use Rattle.line_store.specs.Shelves.{Shelf}
use Rattle.line_store.specs.Calls.{Moves, GoesOn, Fails}
use Rattle.line_store.specs.Sights.{bare}
use Rattle.line_store.proofs.Causes.{cause-of}
use Rattle.line_seat.specs.declared.commit.CommitStage.{CommitStage}
use Rattle.line_seat.specs.declared.commit.CommitStage.TheVariants.{Changing, Imaging, Gathering, Sealing, Landing, Committed}
use Rattle.line_seat.specs.Stages.{IsFurther, IsNextStage}
use Rattle.member_steps.specs.declared.committing.CommitTurn.{CommitTurn}
use Rattle.member_steps.specs.declared.committing.CommitTurn.TheVariants.{Entering, Securing, Going}
use Rattle.member_steps.specs.Turns.{IsFurtherTurn, IsNextTurn}
use Rattle.member_memory.specs.Memory.{writes_in}
use Rattle.disk_store.specs.declared.member.Member.{Member}
use Rattle.disk_store.specs.declared.member.MemberStage.TheVariants as stage
use Rattle.disk_store.specs.Memory.{StoreMemory, with_member}
use Rattle.disk_store.specs.Seats.{seat_with, stand_of, stand_at, steps_in, turns_left}
use Rattle.disk_store.specs.Standing.{StageStands}
use Rattle.disk_store.specs.Shown.{DoesOn, Shown}
use Rattle.disk_store.specs.Sound.{IsSound}
use Rattle.disk_store.specs.Commits.{AreOfPages, HasSome, KeepsCommits}
use Rattle.commit_steps.specs.Turns.{group_for, turn_again, MakesTurn}
use Rattle.disk_store.proofs.Failing.{does-failed, moves-failed}
use Rattle.disk_store.proofs.Moving.{itself}
use Rattle.disk_store.proofs.Stepping.{does-moves, becomes-member, space-same}
use Rattle.commit_steps.proofs.Turning.{TurnedTo}
use Rattle.commit_steps.proofs.TurnCases.{at-turn, comes-again, comes-further, none-refused}

-- ---- how much is left

stage-falls : (n : ℕ) (st nx : CommitStage) → IsNextStage st nx → IsFurther n st nx → nx ≢ Committed → turns_left n (Going nx) < turns_left n (Going st)
stage-falls n (Changing a) (Changing b) is further off = let low = further.0 in let more = further.1 in omega (arith, low, more)
stage-falls n (Changing a) (Imaging b) is further off = omega arith
stage-falls n (Changing a) Gathering is further off = absurd is
stage-falls n (Changing a) Sealing is further off = absurd is
stage-falls n (Changing a) Landing is further off = absurd is
stage-falls n (Changing a) Committed is further off = absurd is
stage-falls n (Imaging a) (Changing b) is further off = absurd is
stage-falls n (Imaging a) (Imaging b) is further off = let low = further.0 in let more = further.1 in omega (arith, low, more)
stage-falls n (Imaging a) Gathering is further off = omega arith
stage-falls n (Imaging a) Sealing is further off = absurd is
stage-falls n (Imaging a) Landing is further off = absurd is
stage-falls n (Imaging a) Committed is further off = absurd is
stage-falls n Gathering (Changing b) is further off = absurd is
stage-falls n Gathering (Imaging b) is further off = absurd is
stage-falls n Gathering Gathering is further off = absurd is
stage-falls n Gathering Sealing is further off = omega arith
stage-falls n Gathering Landing is further off = absurd is
stage-falls n Gathering Committed is further off = absurd is
stage-falls n Sealing (Changing b) is further off = absurd is
stage-falls n Sealing (Imaging b) is further off = absurd is
stage-falls n Sealing Gathering is further off = absurd is
stage-falls n Sealing Sealing is further off = absurd is
stage-falls n Sealing Landing is further off = omega arith
stage-falls n Sealing Committed is further off = absurd is
stage-falls n Landing (Changing b) is further off = absurd is
stage-falls n Landing (Imaging b) is further off = absurd is
stage-falls n Landing Gathering is further off = absurd is
stage-falls n Landing Sealing is further off = absurd is
stage-falls n Landing Landing is further off = absurd is
stage-falls n Landing Committed is further off = absurd (off refl)
stage-falls n Committed (Changing b) is further off = absurd is
stage-falls n Committed (Imaging b) is further off = absurd is
stage-falls n Committed Gathering is further off = absurd is
stage-falls n Committed Sealing is further off = absurd is
stage-falls n Committed Landing is further off = absurd is
stage-falls n Committed Committed is further off = absurd (off refl)

pub turn-falls : (n : ℕ) (turn next : CommitTurn) → IsNextTurn turn next → IsFurtherTurn n turn next → next ≢ Going Committed → turns_left n next < turns_left n turn
turn-falls n (Entering a) (Entering b) is further off = let low = further.0 in let more = further.1 in omega (arith, low, more)
turn-falls n (Entering a) Securing is further off = omega arith
turn-falls n (Entering a) (Going nx) is further off = absurd is
turn-falls n Securing (Entering b) is further off = absurd is
turn-falls n Securing Securing is further off = absurd is
turn-falls n Securing (Going (Changing b)) is further off = omega arith
turn-falls n Securing (Going (Imaging b)) is further off = absurd is
turn-falls n Securing (Going Gathering) is further off = absurd is
turn-falls n Securing (Going Sealing) is further off = absurd is
turn-falls n Securing (Going Landing) is further off = absurd is
turn-falls n Securing (Going Committed) is further off = absurd is
turn-falls n (Going st) (Entering b) is further off = absurd is
turn-falls n (Going st) Securing is further off = absurd is
turn-falls n (Going st) (Going nx) is further off = stage-falls n st nx is further (λ e. off (ap Going e))

-- ---- which turns there are

-- a commit of a line may come to any turn
pub has-some : (turn : CommitTurn) (n : ℕ) → 1 ≤ n → HasSome turn n
has-some (Entering at) n some = tt
has-some Securing n some = some
has-some (Going at) n some = some

-- only the last turn commits
pub lands-from : (turn : CommitTurn) → IsNextTurn turn (Going Committed) → (turn ≡ Going Landing) ⊎ (turn ≡ Going Committed)
lands-from (Entering at) is = absurd is
lands-from Securing is = absurd is
lands-from (Going (Changing at)) is = absurd is
lands-from (Going (Imaging at)) is = absurd is
lands-from (Going Gathering) is = absurd is
lands-from (Going Sealing) is = absurd is
lands-from (Going Landing) is = inl refl
lands-from (Going Committed) is = inr refl

-- ---- what the step does

module _ (v w : View) (held : StoreMemory) (s : ℕ) (m : Member) (was : slice_get held.members s ≡ Some m) (turn : CommitTurn) (at : m.stage ≡ stage.Committing turn) (sound : IsSound held) (commits : KeepsCommits held) (are : AreOfPages held.tables m.written.lines m.classes.items)
    (result : _) (makes : MakesTurn v w turn (group_for held m) m.written.lines m.classes.items result) where
  abbrev ws : List Write
  ws = writes_in m.written.lines

  -- its seat stays
  seat-same : (next : CommitTurn) (h : Shelf) (start : Lines) → h.seat s ≡ seat_with m.stage ws start → committing ws ≡ h.seat s
  seat-same next h start seat = ap (λ st. seat_with st ws start) (sym at) ∙ sym seat

  module _ (next : CommitTurn) (comes : (h : Shelf) (shown : Shown v held h) → StageStands m.stage v shown.ledger s m → TurnedTo v w (record (with_member s (at-turn next m) held) { numbers = held.numbers }) s (at-turn next m) shown.ledger shown.versions.course shown.versions.waiting) where
    pub does-turn : (R : Shelf → Shelf → Type 0) →
        ((h g : Shelf) (shown : Shown v held h) → StageStands m.stage v shown.ledger s m → Moves s (h.seat s) h g → h.steps s ≡ turns_left (length m.written.keys) turn → g.steps s ≡ turns_left (length m.written.keys) next → h.clock.faults ≡ v.faults → g.clock.faults ≡ w.faults → R h g) →
        DoesOn s (stand_at held.members s) R v held w (with_member s (at-turn next m) held)
    does-turn R as-asked = subst (λ (x : Option Member). DoesOn s (stand_of x) R v held w (with_member s (at-turn next m) held)) (sym was)
        (does-moves v w held (record (with_member s (at-turn next m) held) { numbers = held.numbers }) s m (at-turn next m) was (becomes-member held held.numbers s (at-turn next m)) (λ e. cc) makes.writes.only.told makes.writes.only.leaves
        (λ h shown stands. (comes h shown stands).comes) makes.writes.only.later makes.writes.only.no_fewer (stand_of (Some m)) R (ap (λ st. bare (seat_with st [] [])) (sym at))
        (λ h shown c is. let to = comes h shown _ in let own = to.flies c is in record {
          writes = ws;
          under_way = ap (λ (t : ℕ). in_flight (if t == s then committing ws else h.seat t)) own.0 ∙ ap (λ (b : Bool). in_flight (cond b (committing ws) (h.seat s))) (itself s);
          laid = own.1;
        })
        (λ h shown stands. (comes h shown stands).same) (λ h shown stands. (comes h shown stands).journal) space-same
        (λ h g start related moves. as-asked h g related.shown related.stands (subst (λ (x : Seat). Moves s x h g) (seat-same next h start related.seat) moves) (related.steps ∙ ap (λ st. steps_in st m) at) related.steps_behind related.shown.lines.faults related.faults_behind))

  -- it failed, and is made again
  pub does-again : (fault : Fault) → (fault ≡ Failed → Rose v.faults w.faults) → ((file : FileId) (slot : ℕ) → fault ≡ Bad file slot → IsErrOf result (Bad file slot)) → DoesOn s (failed_at (stand_at held.members s)) (λ h g. Fails s fault h g) v held w (with_member s (at-turn (turn_again turn) m) held)
  does-again fault rose told = does-failed held s m was (λ changes. cc) (λ h g. Fails s fault h g) v w held (with_member s (at-turn (turn_again turn) m) held) (does-turn (turn_again turn) (λ h shown stands. comes-again v w held s m was sound commits are h shown turn at result makes (subst (λ st. StageStands st v shown.ledger s m) at stands)) (λ h g. Fails s fault h g)
      (λ h g shown stands moves before behind faults faults-behind. record {
        moves = moves-failed v held s m was (λ changes. cc) h g shown moves;
        cause = cause-of fault h.clock g.clock v.faults w.faults rose
            (λ file slot is. absurd (none-refused v w held s m was sound commits are h shown turn at result makes (subst (λ st. StageStands st v shown.ledger s m) at stands) file slot (told file slot is))) faults faults-behind;
      }))

module _ (v w : View) (held : StoreMemory) (s : ℕ) (m : Member) (was : slice_get held.members s ≡ Some m) (turn next : CommitTurn) (at : m.stage ≡ stage.Committing turn) (sound : IsSound held) (commits : KeepsCommits held) (are : AreOfPages held.tables m.written.lines m.classes.items)
    (makes : MakesTurn v w turn (group_for held m) m.written.lines m.classes.items (Ok next)) (off : next ≢ Going Committed) where
  -- less is left
  pub less-left : turns_left (length m.written.keys) next < turns_left (length m.written.keys) turn
  less-left = turn-falls (length m.written.keys) turn next makes.order (subst (λ (n : ℕ). IsFurtherTurn n turn next) (sym (sound.each s m was).keys.long) makes.further) off

  -- it goes on
  pub does-further : (IsTrue v.tells → LeftNow v v.content) → DoesOn s (stand_at held.members s) (λ h g. GoesOn s h g) v held w (with_member s (at-turn next m) held)
  does-further left = does-turn v w held s m was turn at sound commits are (Ok next) makes next (λ h shown stands. comes-further v w held s m was sound commits are left h shown turn next at makes (subst (λ st. StageStands st v shown.ledger s m) at stands) off) (λ h g. GoesOn s h g)
      (λ h g shown stands moves before behind faults faults-behind. record { moves = moves; less = subst (λ (n : ℕ). n < h.steps s) (sym behind) (subst (λ (n : ℕ). turns_left (length m.written.keys) next < n) (sym before) less-left) })
