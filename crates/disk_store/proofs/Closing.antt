-- The header of an ended transaction is closed.
use Rattle.std.proofs.Common.{◌≡◌, ◌≢◌, ◌≤◌, ◌⊎◌, ℕ, Bool, IsTrue, List, [], Option, Some, None, inl, inr, refl, sym, ap, subst, ◌∙◌, arith}
use Rattle.std.specs.Prelude.{slice_get}
use Rattle.std.proofs.lemmas.Option.{same_Some}
use Rattle.rdb_outside.specs.Disk.{View}
use Rattle.line_view.specs.declared.writes.Write.{Write}
use Rattle.line_view.specs.Knowledge.{Lines}
use Rattle.line_store.specs.Seats.{Seat, outside, in_flight, done_at}
use Rattle.line_store.specs.Shelves.{Shelf}
use Rattle.line_store.specs.Calls.{Moves, IsDone, IsUndone}
use Rattle.line_store.specs.Sights.{seat_or}
use Rattle.stable_lines.specs.Slots.{ruj_file}
use Rattle.line_moves.specs.Calls.{OnlyWrites}
use Rattle.ledger_versions.specs.disk_seats.Ledgers.{resting, changing, Ledger}
use Rattle.ledger_versions.specs.disk_seats.Members.{LedgerFacts}
use Rattle.ledger_versions.proofs.of_disk_seats.Standings.{not_resting}
use Rattle.member_memory.specs.Memory.{writes_in}
use Rattle.disk_store.specs.declared.member.Member.{Member}
use Rattle.disk_store.specs.declared.member.MemberStage.{MemberStage}
use Rattle.disk_store.specs.declared.member.MemberStage.TheVariants as stage
use Rattle.disk_store.specs.declared.member.Recovery.TheVariants as recovery
use Rattle.disk_store.specs.Dying.{forgotten}
use Rattle.disk_store.specs.Memory.{StoreMemory, with_member}
use Rattle.disk_store.specs.Seats.{seat_with, stand_of, stand_at, IsAtStage}
use Rattle.disk_store.specs.Standing.{IsJournalling, StageStands}
use Rattle.disk_store.specs.Shown.{DoesOn}
use Rattle.disk_store.proofs.Stepping.{does-apart, becomes-member, space-same}
use Rattle.disk_store.proofs.Kept.{kept-stays}
use Rattle.disk_store.proofs.Passing.{passes-aside, aside-ceiling, headers-beside, same-ledger}
use Rattle.disk_store.proofs.Failing.{KeepsIt}

-- a stage whose transaction has ended, but for its header
abbrev pub IsEnded : MemberStage → Type 0
IsEnded st = (st ≡ stage.RollingBack) ⊎ (st ≡ stage.Closing)

-- the session's member is at such a stage
pub record EndedAt (members : List Member) (s : ℕ) : Type 0 where
  pub member : Member
  pub is : slice_get members s ≡ Some member
  pub ended : IsEnded member.stage

pub ended-at : (members : List Member) (s : ℕ) → IsAtStage members s stage.RollingBack ⊎ IsAtStage members s stage.Closing → EndedAt members s
ended-at members s (inl at) = record { member = at.member; is = at.is; ended = inl at.at }
ended-at members s (inr at) = record { member = at.member; is = at.is; ended = inr at.at }

pub one-member : (members : List Member) (s : ℕ) (a b : Member) → slice_get members s ≡ Some a → slice_get members s ≡ Some b → a ≡ b
one-member members s a b is also = same_Some _ _ (sym is ∙ also)

module _ (st : MemberStage) (ended : IsEnded st) where
  pub ended-still : (ws : List Write) (start : Lines) → in_flight (seat_with st ws start) ≡ None
  ended-still ws start = elim ended [ inl is ↦ ap (λ x. in_flight (seat_with x ws start)) is | inr is ↦ ap (λ x. in_flight (seat_with x ws start)) is ]

  pub ended-plain : st ≢ stage.Reading
  ended-plain reads = elim ended [ inl is ↦ cc | inr is ↦ cc ]

  pub ended-unchanging : st ≢ stage.Changing
  ended-unchanging changes = elim ended [ inl is ↦ cc | inr is ↦ cc ]

  pub ended-rests : (v : View) (g : Ledger) (s : ℕ) (m : Member) → StageStands st v g s m → g.standing s ≡ resting
  ended-rests v g s m stands = elim ended [ inl is ↦ subst (λ x. StageStands x v g s m) is stands | inr is ↦ subst (λ x. StageStands x v g s m) is stands ]

  pub ended-done : (ws : List Write) (start : Lines) → done_at (seat_with st ws start) ≡ Some outside
  ended-done ws start = elim ended [ inl is ↦ ap (λ x. done_at (seat_with x ws start)) is | inr is ↦ ap (λ x. done_at (seat_with x ws start)) is ]

module _ (v w : View) (held : StoreMemory) (s : ℕ) (m : Member) (was : slice_get held.members s ≡ Some m) (rests : (g : Ledger) → StageStands m.stage v g s m → g.standing s ≡ resting) (only : OnlyWrites (ruj_file s) 0 v w)
    (keeps : IsTrue v.tells → (g : Ledger) → LedgerFacts v g → g.standing s ≡ resting → 1 ≤ g.base.next_tsn → LedgerFacts w g) where
  no-changes : (g : Ledger) → IsJournalling v g s m → g.standing s ≡ resting → ⊥
  no-changes g is rested = let bad : changing is.begun.all is.begun.stable ≡ resting = sym is.begun.stands ∙ rested in cc

  pub keeps-it : KeepsIt v w held s m
  keeps-it = record {
    told = only.told;
    later = only.later;
    no_fewer = only.no_fewer;
    leaves = only.leaves;
    passes = λ t. passes-aside v w (ruj_file s) 0 t (λ e. cc) (λ e. cc) only;
    ceiling = λ t was. aside-ceiling v w t (ruj_file s) 0 (λ e. cc) only held.numbers was;
    headers = λ t. headers-beside v w s 0 t only;
    own = λ h shown stands at. absurd (no-changes shown.ledger (subst (λ x. StageStands x v shown.ledger s m) at stands) (rests shown.ledger stands));
    facts = λ h shown stands. keeps shown.tells shown.ledger shown.facts (rests shown.ledger stands) (subst (λ (n : ℕ). 1 ≤ n) (sym shown.numbers.number) shown.numbers.first);
  }

  -- it is outside then
  pub does-leave : (R : Shelf → Shelf → Type 0) → ((h g : Shelf) (start : Lines) → h.seat s ≡ seat_with m.stage (writes_in m.written.lines) start → g.clock.time ≡ w.moment → Moves s outside h g → R h g) →
      DoesOn s outside R v held w (with_member s (forgotten stage.Outside m) held)
  does-leave R as-asked =
      does-apart v w held (record (with_member s (forgotten stage.Outside m) held) { numbers = held.numbers }) s m (forgotten stage.Outside m) was (becomes-member held held.numbers s (forgotten stage.Outside m)) (λ e. cc) only.told only.leaves
      (λ h shown stands. same-ledger v w (keeps-it.passes shown.tells) held s (forgotten stage.Outside m) h shown (keeps-it.headers shown.tells) (keeps-it.ceiling shown.tells shown.numbers.ceiling) (kept-stays held.members s held.numbers.next held.numbers.written m (forgotten stage.Outside m) was (omega arith) shown.kept) (keeps-it.facts h shown stands) (rests shown.ledger stands) tt)
      only.later only.no_fewer outside R refl (λ h shown stands c is. not_resting v shown.ledger s shown.facts (rests shown.ledger stands) c is) (λ h shown stands. record { lines = refl; journal = refl; commit = refl }) space-same
      (λ h g start related moves. as-asked h g start related.seat related.time_behind moves)

-- a transaction that was rolled back, or is committed
pub does-close : (v w : View) (held : StoreMemory) (s : ℕ) (m : Member) (was : slice_get held.members s ≡ Some m) (ended : IsEnded m.stage) (only : OnlyWrites (ruj_file s) 0 v w)
    (keeps : IsTrue v.tells → (g : Ledger) → LedgerFacts v g → g.standing s ≡ resting → 1 ≤ g.base.next_tsn → LedgerFacts w g) →
    DoesOn s (seat_or (stand_at held.members s) (done_at (stand_at held.members s))) (λ h g. IsDone s h g) v held w (with_member s (forgotten stage.Outside m) held)
does-close v w held s m was ended only keeps =
    subst (λ (x : Option Member). DoesOn s (seat_or (stand_of x) (done_at (stand_of x))) (λ h g. IsDone s h g) v held w (with_member s (forgotten stage.Outside m) held)) (sym was)
    (subst (λ (x : Option Seat). DoesOn s (seat_or (stand_of (Some m)) x) (λ h g. IsDone s h g) v held w (with_member s (forgotten stage.Outside m) held)) (sym (ended-done m.stage ended [] []))
    (does-leave v w held s m was (λ g stands. ended-rests m.stage ended v g s m stands) only keeps (λ h g. IsDone s h g)
    (λ h g start seat time moves. record { seat = outside; comes = ap done_at seat ∙ ended-done m.stage ended _ start; moves = moves })))

-- ---- a session that died

pub dead-rests : (v : View) (g : Ledger) (s : ℕ) (m : Member) (commits : Bool) → m.stage ≡ stage.Dead commits recovery.Ending → StageStands m.stage v g s m → g.standing s ≡ resting
dead-rests v g s m commits at stands = subst (λ x. StageStands x v g s m) at stands

-- its transaction is undone since this moment
pub does-bury : (v w : View) (held : StoreMemory) (s moment : ℕ) (m : Member) (commits : Bool) (was : slice_get held.members s ≡ Some m) (at : m.stage ≡ stage.Dead commits recovery.Ending) (only : OnlyWrites (ruj_file s) 0 v w)
    (keeps : IsTrue v.tells → (g : Ledger) → LedgerFacts v g → g.standing s ≡ resting → 1 ≤ g.base.next_tsn → LedgerFacts w g) → moment ≡ w.moment →
    DoesOn s outside (λ h g. IsUndone s moment h g) v held w (with_member s (forgotten stage.Outside m) held)
does-bury v w held s moment m commits was at only keeps same =
    does-leave v w held s m was (λ g stands. dead-rests v g s m commits at stands) only keeps (λ h g. IsUndone s moment h g)
    (λ h g start seat time moves. record { commits = commits; writes = writes_in m.written.lines; was = seat ∙ ap (λ st. seat_with st (writes_in m.written.lines) start) at; moves = moves; at = same ∙ sym time })
