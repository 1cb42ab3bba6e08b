-- The journal has no room for a session's group.
use Rattle.std.proofs.Common.{◌≡◌, ◌≤◌, ◌<◌, ◌+◌, ◌-◌, ◌==◌, if◌then◌else◌, ℕ, true, false, List, [], Option, Some, None, is_some, ◌⊎◌, sum_by, refl, sym, ap, subst, ◌∙◌, arith}
use Rattle.std.specs.Prelude.{slice_get, MatchOption}
use Rattle.rdb_outside.specs.Disk.{View}
use Rattle.line_view.specs.declared.writes.Write.{Write}
use Rattle.line_view.specs.Knowledge.{Lines}
use Rattle.line_store.specs.Seats.{IsWriting, writes_of, set_aside, group_of, lines_written, members}
use Rattle.line_store.specs.Shelves.{Shelf, set_aside_beside}
use Rattle.line_store.specs.Calls.{MayStopCommit}
use Rattle.line_store.specs.declared.answers.CommitStop.TheVariants.{AijFull}
use Rattle.member_memory.specs.Memory.{writes_in}
use Rattle.disk_store.specs.declared.member.Member.{Member}
use Rattle.disk_store.specs.declared.member.MemberStage.{MemberStage}
use Rattle.disk_store.specs.declared.member.MemberStage.TheVariants as stage
use Rattle.disk_store.specs.Memory.{StoreMemory}
use Rattle.disk_store.specs.Seats.{seat_with, stand_of, stand_at}
use Rattle.disk_store.specs.Shown.{Sits, SitsAs, Shown}
use Rattle.disk_store.specs.Preparing.{aside_of, aside_beside}
use Rattle.disk_store.proofs.Stages.{written-now}

-- where a reader began says nothing of what is set aside
whatever-start : (st : MemberStage) (ws : List Write) (start : Lines) → set_aside (seat_with st ws start) ≡ set_aside (seat_with st ws [])
whatever-start stage.Outside ws start = refl
whatever-start (stage.Beginning ceiling) ws start = refl
whatever-start stage.Writing ws start = refl
whatever-start stage.Changing ws start = refl
whatever-start stage.Broken ws start = refl
whatever-start stage.Prepared ws start = refl
whatever-start (stage.Committing turn) ws start = refl
whatever-start stage.RollingBack ws start = refl
whatever-start stage.Closing ws start = refl
whatever-start stage.Reading ws start = refl
whatever-start (stage.Dead commits left) ws start = refl

module _ (v : View) (held : StoreMemory) (h : Shelf) (s : ℕ) (shown : Shown v held h) where
  by-member : (t : ℕ) (x : Option Member) → Sits v shown.ledger t x (h.seat t) → set_aside (h.seat t) ≡ aside_of x
  by-member t None sits = ap set_aside sits.0
  by-member t (Some m) sits = ap set_aside sits.is ∙ whatever-start m.stage (writes_in m.written.lines) sits.start

  -- what is shown is set aside as memory has it
  aside-shown : set_aside_beside s h ≡ aside_beside s held.members
  aside-shown = ap (λ (f : ℕ → ℕ). sum_by f members) (λ i t. (if t == s then 0 else by-member t (slice_get held.members t) (shown.seats t) i))

  own : (x : Option Member) → slice_get held.members s ≡ x → IsWriting (stand_of x) → ((m : Member) → slice_get held.members s ≡ Some m → (1 ≤ lines_written (writes_in m.written.lines)) × (held.limits.slots < held.next.slot + (aside_beside s held.members + group_of (writes_in m.written.lines)))) →
      MayStopCommit h s (AijFull held.limits.slots)
  own None at writes full = absurd writes
  own (Some m) at writes full =
      let sat : SitsAs v shown.ledger s m (h.seat s) = subst (λ x. Sits v shown.ledger s x (h.seat s)) at (shown.seats s) in
      let its : writes_of (h.seat s) ≡ writes_in m.written.lines = ap writes_of sat.is ∙ written-now m (writes_in m.written.lines) sat.start writes in
      let f = full m at in
      let beside = aside-shown in
      let used = shown.space.slots in (
        ap (λ l. l.slots) (sym shown.space.limits),
        subst (λ ws. 0 < lines_written ws) (sym its) (omega (arith, f.0)),
        subst (λ ws. held.limits.slots < (1 + h.space.slots) + (set_aside_beside s h + group_of ws)) (sym its) (omega (arith, f.1, beside, used)),
      )

  pub no-room : IsWriting (stand_at held.members s) → ((m : Member) → slice_get held.members s ≡ Some m → (1 ≤ lines_written (writes_in m.written.lines)) × (held.limits.slots < held.next.slot + (aside_beside s held.members + group_of (writes_in m.written.lines)))) →
      MayStopCommit h s (AijFull held.limits.slots)
  no-room writes full = own (slice_get held.members s) refl writes full

-- ---- memory's own reckoning

abbrev pub IsTooMuch : StoreMemory → ℕ → Member → Type 0
IsTooMuch held s m = (1 ≤ lines_written (writes_in m.written.lines)) × (held.limits.slots < held.next.slot + (aside_beside s held.members + group_of (writes_in m.written.lines)))

abbrev pub HasRoom : StoreMemory → ℕ → Member → Type 0
HasRoom held s m = (lines_written (writes_in m.written.lines) ≡ 0) ⊎ (held.next.slot + (aside_beside s held.members + group_of (writes_in m.written.lines)) ≤ held.limits.slots)

pub past-end : (slot slots aside lines n : ℕ) → lines ≡ n → (n ≡ 0 → ⊥) → (slot ≤ slots → ⊥) → (1 ≤ lines) × (slots < slot + (aside + (1 + lines)))
past-end slot slots aside lines n is some not = (omega (arith, is, some), omega (arith, is, not))

pub own-past : (slot slots aside lines n unused : ℕ) → lines ≡ n → (n ≡ 0 → ⊥) → slot ≤ slots → unused ≡ slots - slot → (1 + n ≤ unused → ⊥) → (1 ≤ lines) × (slots < slot + (aside + (1 + lines)))
own-past slot slots aside lines n unused is some within rest not = (omega (arith, is, some), omega (arith, is, within, rest, not))

module _ (slot slots aside lines n unused room : ℕ) (is : lines ≡ n) (some : n ≡ 0 → ⊥) (within : slot ≤ slots) (rest : unused ≡ slots - slot) (own : 1 + n ≤ unused) (room_is : room ≡ unused - (1 + n)) where
  pub beside-past : (left : Option ℕ) → MatchOption left (room < aside) (λ l. l + aside ≡ room) → is_some left ≡ false → (1 ≤ lines) × (slots < slot + (aside + (1 + lines)))
  beside-past None full is-none = (omega (arith, is, some), omega (arith, is, within, rest, own, room_is, full))
  beside-past (Some l) has is-none = absurd (cc)

  pub beside-within : (left : Option ℕ) → MatchOption left (room < aside) (λ l. l + aside ≡ room) → is_some left ≡ true → slot + (aside + (1 + lines)) ≤ slots
  beside-within None full there = absurd (cc)
  beside-within (Some l) has there = omega (arith, is, within, rest, own, room_is, has)
