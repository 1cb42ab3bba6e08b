-- A step that fails, or that comes to no other stage: the session stands as it did.
use Rattle.std.proofs.Common.{◌≡◌, ◌≢◌, ◌≤◌, ◌⊎◌, ℕ, IsTrue, List, [], Option, Some, refl, sym, ap, subst, ◌∙◌, arith}
use Rattle.std.specs.Prelude.{slice_get}
use Rattle.rdb_outside.specs.Disk.{View, LeavesOnly, IsPending}
use Rattle.rdb_outside.specs.Causes.{Rose}
use Rattle.line_view.specs.declared.writes.Write.{Write}
use Rattle.line_view.specs.Knowledge.{Lines}
use Rattle.line_store.specs.Seats.{Seat, failed_at}
use Rattle.line_store.specs.Shelves.{Shelf}
use Rattle.line_store.specs.Calls.{Moves, Fails}
use Rattle.line_store.specs.declared.answers.Fault.TheVariants.{Failed}
use Rattle.ledger_versions.specs.disk_seats.Members.{LedgerFacts}
use Rattle.disk_store.specs.declared.member.Member.{Member}
use Rattle.member_memory.specs.Memory.{writes_in}
use Rattle.disk_store.specs.declared.member.MemberStage.{MemberStage}
use Rattle.disk_store.specs.declared.member.MemberStage.TheVariants as stage
use Rattle.disk_store.specs.Memory.{StoreMemory, with_member}
use Rattle.disk_store.specs.Seats.{seat_with, stand_of, stand_at}
use Rattle.disk_store.specs.Standing.{StageStands}
use Rattle.disk_store.specs.Shown.{DoesOn, CeilingStands, Sits, SitsAs, Shown}
use Rattle.disk_store.proofs.Members.{set-same}
use Rattle.disk_store.proofs.Kept.{kept-stays}
use Rattle.disk_store.proofs.Beside.{SameHeader, SameHeaders, stays-here}
use Rattle.disk_store.proofs.Stepping.{does-seated, becomes-member, space-same}
use Rattle.disk_store.proofs.Passing.{Passes, same-ledger}

-- A change alone is broken by a step that failed.
pub failed-plain : (st : MemberStage) (ws : List Write) (start : Lines) → st ≢ stage.Changing → failed_at (seat_with st ws start) ≡ seat_with st ws start
failed-plain stage.Outside ws start other = refl
failed-plain (stage.Beginning ceiling) ws start other = refl
failed-plain stage.Writing ws start other = refl
failed-plain stage.Changing ws start other = absurd (other refl)
failed-plain stage.Broken ws start other = refl
failed-plain stage.Prepared ws start other = refl
failed-plain (stage.Committing turn) ws start other = refl
failed-plain stage.RollingBack ws start other = refl
failed-plain stage.Closing ws start other = refl
failed-plain stage.Reading ws start other = refl
failed-plain (stage.Dead commits left) ws start other = refl

-- so at another stage the session stays in its seat
module _ (held : StoreMemory) (s : ℕ) (m : Member) (was : slice_get held.members s ≡ Some m) (other : m.stage ≢ stage.Changing) where
  stands-failed : failed_at (stand_at held.members s) ≡ stand_at held.members s
  stands-failed = subst (λ (x : Option Member). failed_at (stand_of x) ≡ stand_of x) (sym was) (failed-plain m.stage [] [] other)

  pub does-failed : (R : Shelf → Shelf → Type 0) (v w : View) (old new : StoreMemory) → DoesOn s (stand_at held.members s) R v old w new → DoesOn s (failed_at (stand_at held.members s)) R v old w new
  does-failed R v w old new does = subst (λ (seat : Seat). DoesOn s seat R v old w new) (sym stands-failed) does

module _ (v : View) (held : StoreMemory) (s : ℕ) (m : Member) (was : slice_get held.members s ≡ Some m) (other : m.stage ≢ stage.Changing) where
  pub sits-failed : (h : Shelf) → Shown v held h → failed_at (h.seat s) ≡ h.seat s
  sits-failed h shown =
      let it : SitsAs v shown.ledger s m (h.seat s) = subst (λ (x : Option Member). Sits v shown.ledger s x (h.seat s)) was (shown.seats s) in
      ap failed_at it.is ∙ failed-plain m.stage (writes_in m.written.lines) it.start other ∙ sym it.is

  pub moves-failed : (h g : Shelf) → Shown v held h → Moves s (h.seat s) h g → Moves s (failed_at (h.seat s)) h g
  moves-failed h g shown moves = subst (λ (seat : Seat). Moves s seat h g) (sym (sits-failed h shown)) moves

-- what a device call of a session comes to that keeps the ledger
pub record KeepsIt (v w : View) (held : StoreMemory) (s : ℕ) (m : Member) : Type 0 where
  pub told : w.tells ≡ v.tells
  pub later : v.moment ≤ w.moment
  pub no_fewer : v.faults ≤ w.faults
  pub leaves : IsTrue v.tells → LeavesOnly v w (λ image. IsPending v image ⊎ IsPending w image)
  pub passes : IsTrue v.tells → Passes v w
  pub ceiling : IsTrue v.tells → CeilingStands v held.numbers → CeilingStands w held.numbers
  -- headers of others read as they did, and the session's own where it changes lines
  pub headers : IsTrue v.tells → SameHeaders s v w
  pub own : (h : Shelf) (shown : Shown v held h) → StageStands m.stage v shown.ledger s m → m.stage ≡ stage.Changing → SameHeader s v w
  pub facts : (h : Shelf) (shown : Shown v held h) → StageStands m.stage v shown.ledger s m → LedgerFacts w shown.ledger

module _ (v w : View) (held : StoreMemory) (s : ℕ) (m : Member) (was : slice_get held.members s ≡ Some m) (writes : m.stage ≢ stage.Reading) (keeps : KeepsIt v w held s m) where
  -- nothing changes but time and faults
  pub does-stay : (R : Shelf → Shelf → Type 0) → ((h g : Shelf) → Shown v held h → Moves s (h.seat s) h g → h.clock.faults ≡ v.faults → g.clock.faults ≡ w.faults → h.clock.time ≡ v.moment → g.clock.time ≡ w.moment → R h g) → DoesOn s (stand_at held.members s) R v held w held
  does-stay R as-asked =
      let does : DoesOn s (stand_of (Some m)) R v held w (record (with_member s m held) { numbers = held.numbers }) =
      does-seated v w held (record (with_member s m held) { numbers = held.numbers }) s m m was (becomes-member held held.numbers s m) writes keeps.told keeps.leaves
      (λ h shown stands. let p = keeps.passes shown.tells in same-ledger v w p held s m h shown (keeps.headers shown.tells) (keeps.ceiling shown.tells shown.numbers.ceiling) (kept-stays held.members s held.numbers.next held.numbers.written m m was (omega arith) shown.kept) (keeps.facts h shown stands)
      (stays-here v w shown.ledger s p.areas m (keeps.own h shown stands) stands) (shown.versions.waits s m was))
      keeps.later keeps.no_fewer (stand_of (Some m)) R refl
      (λ start. refl) (λ h shown stands. record { lines = refl; journal = refl; commit = refl }) space-same
      (λ h g start related moves. as-asked h g related.shown (subst (λ seat. Moves s seat h g) (sym related.seat) moves) related.shown.lines.faults related.faults_behind related.shown.lines.time related.time_behind) in
      subst (λ x. DoesOn s (stand_of x) R v held w held) (sym was)
      (subst (λ members. DoesOn s (stand_of (Some m)) R v held w (record held { members = members })) (set-same held.members s m was) does)

  pub does-fail : m.stage ≢ stage.Changing → Rose v.faults w.faults → DoesOn s (failed_at (stand_at held.members s)) (λ h g. Fails s Failed h g) v held w held
  does-fail other rose = does-failed held s m was other (λ h g. Fails s Failed h g) v w held held
      (does-stay (λ h g. Fails s Failed h g) (λ h g shown moves faults faults-behind time time-behind. record {
        moves = moves-failed v held s m was other h g shown moves;
        cause = subst (λ n. Rose n g.clock.faults) (sym faults) (subst (λ n. Rose v.faults n) (sym faults-behind) rose);
      }))
