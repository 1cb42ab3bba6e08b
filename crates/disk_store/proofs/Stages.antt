-- Which stages a session may come to from those that its stand allows.
use Rattle.std.proofs.Common.{◌≡◌, ℕ, List, [], refl, sym, ap, subst, arith}
use Rattle.rdb_outside.specs.Disk.{View}
use Rattle.line_view.specs.declared.writes.Write.{Write}
use Rattle.line_view.specs.Knowledge.{Lines}
use Rattle.line_store.specs.Seats.{outside, writing, prepared, committing, rolling_back, IsPrepared, IsWriting, in_flight, writes_of, prepared_by, given_back, committing_by, rolled_back}
use Rattle.member_rooms.specs.member_steps.declared.committing.CommitTurn.TheVariants.{Entering}
use Rattle.ledger_versions.specs.disk_seats.Ledgers.{Ledger}
use Rattle.ledger_versions.specs.disk_seats.Members.{MayEnd}
use Rattle.disk_store.specs.declared.member.Member.{Member}
use Rattle.disk_store.specs.declared.member.Ceiling.TheVariants.{Asking}
use Rattle.disk_store.specs.declared.member.MemberStage.{MemberStage}
use Rattle.disk_store.specs.declared.member.MemberStage.TheVariants as stage
use Rattle.disk_store.specs.Memory.{at_stage}
use Rattle.disk_store.specs.Seats.{seat_with}
use Rattle.disk_store.specs.Standing.{HasBegun, HasJournalled, StageStands}
use Rattle.disk_store.specs.Shown.{WaitsAs}
use Rattle.disk_store.proofs.Moving.{MayCome}

-- ---- a session outside

pub is-outside : (st : MemberStage) → seat_with st [] [] ≡ outside → st ≡ stage.Outside
is-outside stage.Outside is = refl
is-outside (stage.Beginning ceiling) is = absurd (cc)
is-outside stage.Writing is = absurd (cc)
is-outside stage.Changing is = absurd (cc)
is-outside stage.Broken is = absurd (cc)
is-outside stage.Prepared is = absurd (cc)
is-outside (stage.Committing turn) is = absurd (cc)
is-outside stage.RollingBack is = absurd (cc)
is-outside stage.Closing is = absurd (cc)
is-outside stage.Reading is = absurd (cc)
is-outside (stage.Dead commits left) is = absurd (cc)

pub may-begin : (v : View) (s : ℕ) (m : Member) → seat_with m.stage [] [] ≡ outside → MayCome v s m (stage.Beginning Asking)
may-begin v s m is =
    let at : m.stage ≡ stage.Outside = is-outside m.stage is in
    record {
      still = λ ws start. ap (λ st. in_flight (seat_with st ws start)) at;
      stands = λ g stands. subst (λ st. StageStands st v g s m) at stands;
      waits = λ waiting has. tt;
      writes = λ e. cc;
      free = refl;
    }

-- ---- a session that is prepared

pub is-prepared : (st : MemberStage) → IsPrepared (seat_with st [] []) → st ≡ stage.Prepared
is-prepared stage.Outside is = absurd is
is-prepared (stage.Beginning ceiling) is = absurd is
is-prepared stage.Writing is = absurd is
is-prepared stage.Changing is = absurd is
is-prepared stage.Broken is = absurd is
is-prepared stage.Prepared is = refl
is-prepared (stage.Committing turn) is = absurd is
is-prepared stage.RollingBack is = absurd is
is-prepared stage.Closing is = absurd is
is-prepared stage.Reading is = absurd is
is-prepared (stage.Dead commits left) is = absurd is

-- the same before-images at another stage
pub journalled-at : (g : Ledger) (s : ℕ) (m : Member) (next : MemberStage) → HasJournalled g s m → HasJournalled g s (at_stage next m)
journalled-at g s m next has = record {
  begun = record { transaction = has.begun.transaction; all = has.begun.all; stable = has.begun.stable; stands = has.begun.stands; is_open = has.begun.is_open; number = has.begun.number; count = has.begun.count; keys = has.begun.keys };
  all_written = has.all_written;
}

pub may-give_back : (v : View) (s : ℕ) (m : Member) → IsPrepared (seat_with m.stage [] []) → MayCome v s m stage.Writing
may-give_back v s m is =
    let at : m.stage ≡ stage.Prepared = is-prepared m.stage is in
    record {
      still = λ ws start. ap (λ st. in_flight (seat_with st ws start)) at;
      stands = λ g stands. journalled-at g s m stage.Writing (subst (λ st. StageStands st v g s m) at stands);
      waits = λ waiting has. subst (λ st. WaitsAs st waiting s m) at has;
      writes = λ e. cc;
      free = refl;
    }

pub may-commit : (v : View) (s : ℕ) (m : Member) → IsPrepared (seat_with m.stage [] []) → MayCome v s m (stage.Committing (Entering 0))
may-commit v s m is =
    let at : m.stage ≡ stage.Prepared = is-prepared m.stage is in
    record {
      still = λ ws start. ap (λ st. in_flight (seat_with st ws start)) at;
      stands = λ g stands. record { journalled = journalled-at g s m (stage.Committing (Entering 0)) (subst (λ st. StageStands st v g s m) at stands); owned = λ i line place below at-line of. absurd (omega arith) };
      waits = λ waiting has. subst (λ st. WaitsAs st waiting s m) at has;
      writes = λ e. cc;
      free = refl;
    }

pub given-back : (m : Member) (ws : List Write) (start : Lines) → IsPrepared (seat_with m.stage [] []) → given_back (seat_with m.stage ws start) ≡ writing ws
given-back m ws start is = ap (λ st. given_back (seat_with st ws start)) (is-prepared m.stage is)

pub committing-now : (m : Member) (ws : List Write) (start : Lines) → IsPrepared (seat_with m.stage [] []) → committing_by (seat_with m.stage ws start) ≡ committing ws
committing-now m ws start is = ap (λ st. committing_by (seat_with st ws start)) (is-prepared m.stage is)

-- ---- a session that writes

pub is-writing : (st : MemberStage) → IsWriting (seat_with st [] []) → st ≡ stage.Writing
is-writing stage.Outside is = absurd is
is-writing (stage.Beginning ceiling) is = absurd is
is-writing stage.Writing is = refl
is-writing stage.Changing is = absurd is
is-writing stage.Broken is = absurd is
is-writing stage.Prepared is = absurd is
is-writing (stage.Committing turn) is = absurd is
is-writing stage.RollingBack is = absurd is
is-writing stage.Closing is = absurd is
is-writing stage.Reading is = absurd is
is-writing (stage.Dead commits left) is = absurd is

pub may-prepare : (v : View) (s : ℕ) (m : Member) → IsWriting (seat_with m.stage [] []) → MayCome v s m stage.Prepared
may-prepare v s m is =
    let at : m.stage ≡ stage.Writing = is-writing m.stage is in
    record {
      still = λ ws start. ap (λ st. in_flight (seat_with st ws start)) at;
      stands = λ g stands. journalled-at g s m stage.Prepared (subst (λ st. StageStands st v g s m) at stands);
      waits = λ waiting has. subst (λ st. WaitsAs st waiting s m) at has;
      writes = λ e. cc;
      free = refl;
    }

pub prepared-now : (m : Member) (ws : List Write) (start : Lines) → IsWriting (seat_with m.stage [] []) → prepared_by (seat_with m.stage ws start) ≡ prepared ws
prepared-now m ws start is = ap (λ st. prepared_by (seat_with st ws start)) (is-writing m.stage is)

pub written-now : (m : Member) (ws : List Write) (start : Lines) → IsWriting (seat_with m.stage [] []) → writes_of (seat_with m.stage ws start) ≡ ws
written-now m ws start is = ap (λ st. writes_of (seat_with st ws start)) (is-writing m.stage is)

pub rolled-now : (m : Member) (ws : List Write) (start : Lines) → IsWriting (seat_with m.stage [] []) → rolled_back (seat_with m.stage ws start) ≡ rolling_back ws
rolled-now m ws start is = ap (λ st. rolled_back (seat_with st ws start)) (is-writing m.stage is)

-- of a transaction that has written no page
pub may-end-begun : (g : Ledger) (s : ℕ) (m : Member) → HasBegun g s m → MayEnd (g.standing s)
may-end-begun g s m has = subst MayEnd (sym has.stands) tt
