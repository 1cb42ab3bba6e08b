-- Whose transaction a line bears, by what memory has seen.
use Rattle.std.proofs.Common.{◌≡◌, ◌≤◌, ◌<◌, ◌+◌, ◌∙◌, Err, IsErrOf, ℕ, zero, suc, List, [], ◌∷◌, length, slice_get, slice_index_or, Option, Some, None, ap, sym, subst, arith}
use Rattle.rdb_types.specs.declared.keys.Dbkey.{Dbkey}
use Rattle.rdb_types.specs.declared.keys.Tsn.{Tsn}
use Rattle.rdb_outside.specs.Disk.{Image, View, LeftNow}
use Rattle.ruj_journal.specs.Entry.{IsEntry}
use Rattle.stable_lines.specs.Slots.{ruj_file, Undo, line_at, entry_at}
use Rattle.stable_lines.specs.Progress.{Open}
use Rattle.stable_lines.specs.Facts.{IsNotOpen}
use Rattle.stable_lines.proofs.Turns.{some_same}
use Rattle.member_steps.specs.disk_seats.Ledgers.{Ledger}
use Rattle.member_steps.specs.disk_seats.Members.{LedgerFacts}
use Rattle.member_steps.specs.Standing.{IsBefore}
use Rattle.member_steps.proofs.Standings.{stands_changed}
use Rattle.committed_lines.specs.Seen.{Seen, AreSeen}

has_some : (i : ℕ) (undo : Undo) (all : List Undo) → slice_get all i ≡ Some undo → 1 ≤ length all
has_some i undo [] is = let bad : None ≡ Some undo = is in absurd (cc)
has_some i undo (x ∷ xs) is = omega arith

-- The before-image of the line that the member's journal has, and its place among the keys that memory has.
pub record HasBefore (v : View) (g : Ledger) (key : Dbkey) (member : ℕ) (seen : Seen) : Type 0 where
  pub transaction : Open
  pub before : IsBefore v.content g.base.lines member transaction key
  pub placed : slice_get seen.keys before.index ≡ Some key

module _ {T : Type 0} (seen_of : T → Option Seen) (v : View) (left : LeftNow v v.content) (g : Ledger) (was : LedgerFacts v g) (members : List T) (are : AreSeen seen_of g members) (key : Dbkey) where
  pub not_open : ((i : ℕ) (its : T) (seen : Seen) → slice_get members i ≡ Some its → seen_of its ≡ Some seen → seen.tsn.number ≡ (line_at v.content key).tsn.number → ⊥) → IsNotOpen g.base (line_at v.content key).tsn.number
  not_open none member o is bears =
      let b = stands_changed v left g was key member o is bears in
      let s = are.none_else member o is (has_some b.index b.undo o.entries b.is) in
      let e = are.each member s.its s.seen s.is s.has in
      let same : e.0 ≡ o = some_same e.0 o (sym e.1 ∙ is) in
      none member s.its s.seen s.is s.has (ap (λ (t : Tsn). t.number) (e.2.tsn ∙ ap (λ (p : Open). p.tsn) same) ∙ sym bears)

  pub has_before : (member : ℕ) (its : T) (seen : Seen) → slice_get members member ≡ Some its → seen_of its ≡ Some seen → seen.tsn.number ≡ (line_at v.content key).tsn.number → HasBefore v g key member seen
  has_before member its seen got has bears =
      let e = are.each member its seen got has in
      let b = stands_changed v left g was key member e.0 e.1 (sym bears ∙ ap (λ (t : Tsn). t.number) e.2.tsn) in
      record { transaction = e.0; before = b; placed = e.2.keys b.index b.undo b.is ∙ ap Some b.key_is }

-- its entry stands in the slot behind that place
pub in_slot : (v : View) (g : Ledger) (key : Dbkey) (member : ℕ) (seen : Seen) (b : HasBefore v g key member seen) (place : ℕ) → b.before.index ≡ place → (image : Image) → image (ruj_file member) (place + 1) ≡ v.content (ruj_file member) (place + 1)
    → IsEntry (image (ruj_file member) (place + 1)) (entry_at b.transaction.tsn (b.before.index + 1) b.before.undo)
in_slot v g key member seen b place at image same =
    let here : place ≡ b.before.index = sym at in
    subst (λ (bytes : List ℕ). IsEntry bytes (entry_at b.transaction.tsn (b.before.index + 1) b.before.undo))
    (sym (same ∙ ap (λ (n : ℕ). v.content (ruj_file member) (n + 1)) here)) b.before.entry

-- a fault is told on as it is
pub told_on : {T U E : Type 0} (x y : E) → IsErrOf {T = T} (Err x) y → IsErrOf {T = U} (Err x) y
told_on x y is = let same : x ≡ y = cc in ap Err same

-- what stands at a place of a list
there : {T : Type 0} (l : List T) (i : ℕ) (d its : T) → slice_get l i ≡ Some its → slice_index_or l i d ≡ its
there [] i d its at = let bad : None ≡ Some its = at in absurd (cc)
there (x ∷ xs) zero d its at = some_same x its at
there (x ∷ xs) (suc i) d its at = there xs i d its at

pub at_place : {T : Type 0} (l : List T) (i : ℕ) (d its : T) → slice_get l i ≡ Some its → d ≡ slice_index_or l i d → d ≡ its
at_place l i d its got is = is ∙ there l i d its got

pub within : {T : Type 0} (i : ℕ) (its : T) (l : List T) → slice_get l i ≡ Some its → i < length l
within i its [] at = let bad : None ≡ Some its = at in absurd (cc)
within zero its (x ∷ xs) at = omega arith
within (suc i) its (x ∷ xs) at = let rest = within i its xs at in omega (arith, rest)
