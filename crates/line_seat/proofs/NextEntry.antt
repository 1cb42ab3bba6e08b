-- An entry is written behind those that the transaction has.
use Rattle.std.proofs.Common.{◌≡◌, ◌≢◌, ℕ, zero, suc, ◌+◌, ◌≤◌, ◌<◌, List, [], ◌∷◌, ◌++◌, length, Some, slice_get, ⊎_elim, ap, sym, subst, ◌∙◌, arith, refl, length-append}
use Rattle.rdb_types.specs.declared.file.FileId.{FileId}
use Rattle.rdb_types.specs.declared.keys.Dbkey.{Dbkey}
use Rattle.rdb_types.specs.declared.keys.Line.{Line}
use Rattle.rdb_outside.specs.Disk.{View, LeftNow, Pending}
use Rattle.ruj_journal.specs.Entry.{IsEntry}
use Rattle.line_moves.specs.stable_lines.Slots.{ruj_file, file_of, slot_of, named, line_on, Undo, entry_at}
use Rattle.line_moves.specs.stable_lines.Image.{IsNoneOf}
use Rattle.line_moves.specs.stable_lines.Progress.{Open, Progress}
use Rattle.line_moves.specs.stable_lines.Facts.{More, IsCommitted, Facts}
use Rattle.line_moves.proofs.of_stable_lines.Fewer.{committed}
use Rattle.line_moves.proofs.of_stable_lines.Lists.{got_either, got_one}
use Rattle.line_moves.proofs.of_stable_lines.Written.{one_written}
use Rattle.line_moves.proofs.Runs.{pends}
use Rattle.line_seat.specs.Seats.{BeforeFacts, SeatFacts, MayChange}

-- with none of its entries standing, none is of any line, and none is counted
pub none_there : (o : Open) → o.entries ≡ [] → (key : Dbkey) → IsNoneOf key o.entries
none_there o none key i undo got = let bad : slice_get [] i ≡ Some undo = ap (λ (l : List Undo). slice_get l i) (sym none) ∙ got in absurd (no_such i undo bad)
  where
    no_such : (i : ℕ) (undo : Undo) → slice_get [] i ≡ Some undo → ⊥
    no_such i undo is = cc

pub none_counted : (o : Open) → o.entries ≡ [] → (n : ℕ) → 1 ≤ n → length o.entries < n
none_counted o none n le = let zero_is : length o.entries ≡ 0 = ap (λ (l : List Undo). length l) none in omega (arith, zero_is, le)

module _ (v w : View) (left : LeftNow v v.content) (now : Progress) (member : ℕ) (o : Open) (all : List Undo) (n : ℕ) (key : Dbkey) (bytes : List ℕ) (facts : Facts (Pending v) now) (was : SeatFacts v now member o all n) (may : MayChange v now member o all key)
    (more : More (Pending w) (Pending v) (ruj_file member) (length all + 1) bytes) (here : w.content (ruj_file member) (length all + 1) ≡ bytes) (others : (f : FileId) (i : ℕ) → (f ≡ ruj_file member → i ≢ length all + 1) → w.content f i ≡ v.content f i)
    (entry : IsEntry bytes (entry_at o.tsn (length all + 1) (record { key = key; before = line_on key (v.content (file_of key) (slot_of key)) }))) where
  abbrev before : Line
  before = line_on key (v.content (file_of key) (slot_of key))

  abbrev undo : Undo
  undo = record { key = key; before = before }

  abbrev longer : List Undo
  longer = all ++ undo ∷ []

  there : Pending v (file_of key) (slot_of key) (v.content (file_of key) (slot_of key))
  there = pends v left (file_of key) (slot_of key)

  slot_of_header : (i : ℕ) → i ≡ 0 → i ≢ length all + 1
  slot_of_header i z at = omega (arith, z, at)

  headers : (m : ℕ) (h : List ℕ) → Pending w (ruj_file m) 0 h → Pending v (ruj_file m) 0 h
  headers m h q = ⊎_elim (λ p. p) (λ here. let at : 0 ≡ length all + 1 = here.1 in absurd (omega (arith, at))) (more (ruj_file m) 0 h q)

  -- it is the committed line, since nobody has changed it
  was_committed : IsCommitted (Pending v) now key before
  was_committed = ⊎_elim (λ c. c) (λ c. absurd (may.untouched c.member c.transaction c.is_open c.index (record { key = key; before = c.before }) c.entry refl)) (facts.line key (v.content (file_of key) (slot_of key)) there)

  its_before : BeforeFacts (Pending w) now undo
  its_before = record {
    committed = committed (Pending v) (Pending w) now headers key before was_committed;
    below = facts.below.line key (v.content (file_of key) (slot_of key)) there;
    free = may.free;
    within = may.within;
  }

  names : named (w.content (ruj_file member) 0) ≡ o.tsn.number
  names = ap named (others (ruj_file member) 0 (λ same at. slot_of_header 0 refl at)) ∙ may.names

  -- one of the longer list is one of the list, or the new one
  either : (T : ℕ → Undo → Type 0) → ((i : ℕ) (u : Undo) → slice_get all i ≡ Some u → i < length all → T i u) → T (length all) undo → (i : ℕ) (u : Undo) → slice_get longer i ≡ Some u → T i u
  either T old new i u got = ⊎_elim (λ p. old i u p (less_than i u all p)) (λ q. last q.0 q.1 (got_one undo u q.0 q.2)) (got_either all (undo ∷ []) i u got)
    where
      less_than : (i : ℕ) (u : Undo) (xs : List Undo) → slice_get xs i ≡ Some u → i < length xs
      less_than i u [] is = let bad : ⊥ = cc in absurd bad
      less_than zero u (y ∷ ys) is = omega arith
      less_than (suc i) u (y ∷ ys) is = let tail = less_than i u ys is in omega (arith, tail)

      last : (k : ℕ) → i ≡ length all + k → (k ≡ 0) × (undo ≡ u) → T i u
      last k at is = let place : length all ≡ i = (let z = is.0 in omega (arith, at, z)) in subst (λ (x : Undo). T i x) is.1 (subst (λ (j : ℕ). T j undo) place new)

  old_slot : (i : ℕ) → i < length all → w.content (ruj_file member) (i + 1) ≡ v.content (ruj_file member) (i + 1)
  old_slot i lt = others (ruj_file member) (i + 1) (λ same at. let e : i + 1 ≡ length all + 1 = at in omega (arith, e, lt))

  old_pending : (i : ℕ) (x : List ℕ) → i < length all → Pending w (ruj_file member) (i + 1) x → Pending v (ruj_file member) (i + 1) x
  old_pending i x lt q = ⊎_elim (λ p. p) (λ here. let e : i + 1 ≡ length all + 1 = here.1 in absurd (omega (arith, e, lt))) (more (ruj_file member) (i + 1) x q)

  pub journalled_next : SeatFacts w now member o longer n
  journalled_next = record {
    is_open = was.is_open;
    none_stands = was.none_stands;
    counted = let long : length longer ≡ length all + 1 = length-append all (undo ∷ []) in let c = was.counted in omega (arith, long, c);
    written = one_written (Pending v) (Pending w) member o all undo bytes more entry may.none was.written;
    not_flying = was.not_flying;
    names = λ some. names;
    stand = either (λ i u. IsEntry (w.content (ruj_file member) (i + 1)) (entry_at o.tsn (i + 1) u)) (λ i u got lt. subst (λ (x : List ℕ). IsEntry x (entry_at o.tsn (i + 1) u)) (sym (old_slot i lt)) (was.stand i u got)) (subst (λ (x : List ℕ). IsEntry x (entry_at o.tsn (length all + 1) undo)) (sym here) entry);
    headed = λ h one q. was.headed h one (headers member h q);
    sure = λ i u x lt got q. either (λ j y. j < n → Pending w (ruj_file member) (j + 1) x → IsEntry x (entry_at o.tsn (j + 1) y)) (λ j y is less lj qj. was.sure j y x lj is (old_pending j x less qj)) (λ lj qj. absurd (let c = was.counted in omega (arith, c, lj))) i u got lt q;
    before = either (λ i u. BeforeFacts (Pending w) now u) (λ i u got lt. let b = was.before i u got in record { committed = committed (Pending v) (Pending w) now headers u.key u.before b.committed; below = b.below; free = b.free; within = b.within }) its_before;
  }
