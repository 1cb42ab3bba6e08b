-- Which stages a death and a commit come to, and from which.
use Rattle.std.proofs.Common.{◌≡◌, ℕ, zero, suc, Bool, true, false, List, [], Option, Some, None, refl, sym, ap, ◌∙◌}
use Rattle.std.specs.Prelude.{slice_get}
use Rattle.std.proofs.lemmas.Bool.{true≢false}
use Rattle.std.proofs.lemmas.Option.{none-some}
use Rattle.line_store.specs.Seats.{IsPrepared, in_flight}
use Rattle.line_seat.specs.declared.commit.CommitStage.TheVariants.{Changing, Imaging, Gathering, Sealing, Landing, Committed}
use Rattle.member_rooms.specs.member_steps.declared.committing.CommitTurn.TheVariants.{Entering, Securing, Going}
use Rattle.disk_store.specs.declared.member.Member.{Member}
use Rattle.disk_store.specs.declared.member.MemberStage.{MemberStage}
use Rattle.disk_store.specs.declared.member.MemberStage.TheVariants as stage
use Rattle.disk_store.specs.declared.member.Recovery.TheVariants as recovery
use Rattle.disk_store.specs.declared.held.Tables.{Tables}
use Rattle.disk_store.specs.Dying.{dead_at, has_none, recovery_at, undoing_with}
use Rattle.disk_store.specs.Memory.{at_stage}
use Rattle.disk_store.specs.Seats.{seat_with, stand_of, stand_at, IsAtStage}
use Rattle.disk_store.specs.Commits.{is_free, is_flying, IsReady}
use Rattle.disk_store.proofs.Stages.{is-prepared}

-- a session that dies is dead
pub dead-is : (st : MemberStage) (n : ℕ) → (commits : Bool) × (left : _) × (dead_at st n ≡ stage.Dead commits left)
dead-is stage.Outside n = (false, _, refl)
dead-is (stage.Beginning ceiling) n = (false, _, refl)
dead-is stage.Writing n = (false, _, refl)
dead-is stage.Changing n = (false, _, refl)
dead-is stage.Broken n = (false, _, refl)
dead-is stage.Prepared n = (false, _, refl)
dead-is (stage.Committing turn) n = (true, recovery_at turn n, refl)
dead-is stage.RollingBack n = (false, _, refl)
dead-is stage.Closing n = (false, _, refl)
dead-is stage.Reading n = (false, _, refl)
dead-is (stage.Dead commits left) n = (commits, left, refl)

pub dead-flies : (st : MemberStage) (n : ℕ) → is_flying (dead_at st n) ≡ true → is_flying st ≡ true
dead-flies stage.Outside n flies = absurd (true≢false (sym flies))
dead-flies (stage.Beginning ceiling) n flies = absurd (true≢false (sym flies))
dead-flies stage.Writing n flies = absurd (true≢false (sym flies))
dead-flies stage.Changing n flies = absurd (true≢false (sym flies))
dead-flies stage.Broken n flies = absurd (true≢false (sym flies))
dead-flies stage.Prepared n flies = absurd (true≢false (sym flies))
dead-flies (stage.Committing turn) n flies = refl
dead-flies stage.RollingBack n flies = absurd (true≢false (sym flies))
dead-flies stage.Closing n flies = absurd (true≢false (sym flies))
dead-flies stage.Reading n flies = absurd (true≢false (sym flies))
dead-flies (stage.Dead commits left) n flies = flies

-- one without a transaction commits nothing
pub dead-free : (st : MemberStage) (n : ℕ) → has_none st ≡ true → is_free (dead_at st n) ≡ true
dead-free stage.Outside n none = refl
dead-free (stage.Beginning ceiling) n none = refl
dead-free stage.Writing n none = absurd (true≢false (sym none))
dead-free stage.Changing n none = absurd (true≢false (sym none))
dead-free stage.Broken n none = absurd (true≢false (sym none))
dead-free stage.Prepared n none = absurd (true≢false (sym none))
dead-free (stage.Committing turn) n none = absurd (true≢false (sym none))
dead-free stage.RollingBack n none = absurd (true≢false (sym none))
dead-free stage.Closing n none = refl
dead-free stage.Reading n none = refl
dead-free (stage.Dead commits left) n none = absurd (true≢false (sym none))

-- one whose commit is to be judged has a line
pub dead-ready : (st : MemberStage) (n : ℕ) (tables : Tables) (m : Member) → IsReady st tables m → IsReady (dead_at st n) tables (at_stage (dead_at st n) m)
dead-ready stage.Outside n tables m is = tt
dead-ready (stage.Beginning ceiling) n tables m is = tt
dead-ready stage.Writing n tables m is = tt
dead-ready stage.Changing n tables m is = tt
dead-ready stage.Broken n tables m is = tt
dead-ready stage.Prepared n tables m is = tt
dead-ready (stage.Committing (Entering at)) n tables m is = tt
dead-ready (stage.Committing Securing) n tables m is = tt
dead-ready (stage.Committing (Going (Changing at))) n tables m is = tt
dead-ready (stage.Committing (Going (Imaging at))) n tables m is = tt
dead-ready (stage.Committing (Going Gathering)) n tables m is = tt
dead-ready (stage.Committing (Going Sealing)) n tables m is = (refl, is.1)
dead-ready (stage.Committing (Going Landing)) n tables m is = (refl, is.1)
dead-ready (stage.Committing (Going Committed)) n tables m is = tt
dead-ready stage.RollingBack n tables m is = tt
dead-ready stage.Closing n tables m is = tt
dead-ready stage.Reading n tables m is = tt
dead-ready (stage.Dead commits recovery.Judging) n tables m is = is
dead-ready (stage.Dead commits recovery.Ending) n tables m is = tt
dead-ready (stage.Dead commits (recovery.Undoing left)) n tables m is = tt
dead-ready (stage.Dead commits recovery.Restoring) n tables m is = tt

-- before-images are to be put back, or made stable
pub undoing-ready : (commits : Bool) (rest : ℕ) (tables : Tables) (m : Member) → IsReady (stage.Dead commits (undoing_with rest)) tables m
undoing-ready commits zero tables m = tt
undoing-ready commits (suc rest) tables m = tt

-- a session that stands prepared
pub prepared-at : (members : List Member) (s : ℕ) → IsPrepared (stand_at members s) → IsAtStage members s stage.Prepared
prepared-at members s stands = by (slice_get members s) refl stands
  where
    by : (x : Option Member) → slice_get members s ≡ x → IsPrepared (stand_of x) → IsAtStage members s stage.Prepared
    by None is no_one = absurd no_one
    by (Some m) is its = record { member = m; is = is; at = is-prepared m.stage its }

still-seat : (st : MemberStage) → in_flight (seat_with st [] []) ≡ None → is_flying st ≡ false
still-seat stage.Outside none = refl
still-seat (stage.Beginning ceiling) none = refl
still-seat stage.Writing none = refl
still-seat stage.Changing none = refl
still-seat stage.Broken none = refl
still-seat stage.Prepared none = refl
still-seat (stage.Committing turn) none = absurd (none-some _ (sym none))
still-seat stage.RollingBack none = refl
still-seat stage.Closing none = refl
still-seat stage.Reading none = refl
still-seat (stage.Dead true left) none = absurd (none-some _ (sym none))
still-seat (stage.Dead false left) none = refl

-- no commit of it is under way
pub still-at : (members : List Member) (t : ℕ) (x : Member) → slice_get members t ≡ Some x → in_flight (stand_at members t) ≡ None → is_flying x.stage ≡ false
still-at members t x is none = still-seat x.stage (ap (λ (y : Option Member). in_flight (stand_of y)) (sym is) ∙ none)
