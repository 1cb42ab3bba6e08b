-- The entries of an open transaction stand, all at once.
use Rattle.std.specs.Prelude.{if◌then◌else◌}
use Rattle.std.proofs.Common.{◌≡◌, ◌≢◌, ℕ, zero, suc, ◌+◌, ◌≤◌, ◌<◌, ◌==◌, Bool, true, false, List, [], ◌∷◌, ◌++◌, length, Option, Some, slice_get, inr, ⊎_elim, ap, sym, subst, ◌∙◌, arith, refl, append_assoc, length-append}
use Rattle.std.proofs.lemmas.Bool.{eqb-true}
use Rattle.rdb_types.specs.declared.keys.Line.{Line}
use Rattle.rdb_types.specs.declared.keys.Tsn.{Tsn}
use Rattle.rdb_outside.specs.Disk.{View, Pending, Keeps}
use Rattle.ruj_journal.specs.Entry.{IsEntry}
use Rattle.line_moves.specs.stable_lines.Slots.{ruj_file, named, Undo, entry_at}
use Rattle.line_moves.specs.stable_lines.Progress.{Open, Flight, Progress, set_going, saved}
use Rattle.line_moves.specs.stable_lines.Facts.{PendingContents, IsNotOpen, IsChanged, Facts}
use Rattle.line_moves.proofs.of_stable_lines.Fewer.{committed}
use Rattle.line_moves.proofs.of_stable_lines.Lists.{got_right}
use Rattle.line_moves.proofs.of_stable_lines.Turns.{some_same, going_is, going_here}
use Rattle.line_moves.proofs.of_stable_lines.Saving.{saves}
use Rattle.line_moves.proofs.of_stable_lines.Written.{written_stay, one_slot}
use Rattle.line_seat.specs.Seats.{SeatFacts, secured, IsSecured}

-- ---- where fewer contents may be left, a seat holds what it held

pub holds_fewer : (v w : View) → Keeps v w → (now : Progress) (member : ℕ) (o : Open) (all : List Undo) (n m : ℕ) → m ≤ length all
    → ((h : List ℕ) → 1 ≤ m → Pending w (ruj_file member) 0 h → named h ≡ o.tsn.number)
    → ((i : ℕ) (undo : Undo) (x : List ℕ) → i < m → slice_get all i ≡ Some undo → Pending w (ruj_file member) (i + 1) x → IsEntry x (entry_at o.tsn (i + 1) undo))
    → SeatFacts v now member o all n → SeatFacts w now member o all m
holds_fewer v w keeps now member o all n m counted headed sure was = record {
  is_open = was.is_open;
  none_stands = was.none_stands;
  counted = counted;
  written = written_stay (Pending v) (Pending w) member o all (λ s i x le q. keeps.pending (ruj_file s) i x q) was.written;
  not_flying = was.not_flying;
  names = λ le. ap named (keeps.content (ruj_file member) 0) ∙ was.names le;
  stand = λ i undo got. subst (λ (x : List ℕ). IsEntry x (entry_at o.tsn (i + 1) undo)) (sym (keeps.content (ruj_file member) (i + 1))) (was.stand i undo got);
  headed = headed;
  sure = sure;
  before = λ i undo got. let b = was.before i undo got in record { committed = committed (Pending v) (Pending w) now (λ s h q. keeps.pending (ruj_file s) 0 h q) undo.key undo.before b.committed; below = b.below; free = b.free; within = b.within };
}

-- behind a barrier all its entries are stable
pub holds_all : (v w : View) → Keeps v w → ((f : _) (i : ℕ) (x : List ℕ) → Pending w f i x → x ≡ v.content f i) → (now : Progress) (member : ℕ) (o : Open) (all : List Undo) (n : ℕ) → SeatFacts v now member o all n → SeatFacts w now member o all (length all)
holds_all v w keeps only now member o all n was = holds_fewer v w keeps now member o all n (length all) (omega arith)
    (λ h le q. ap named (only (ruj_file member) 0 h q) ∙ was.names le)
    (λ i undo x lt got q. subst (λ (y : List ℕ). IsEntry y (entry_at o.tsn (i + 1) undo)) (sym (only (ruj_file member) (i + 1) x q)) (was.stand i undo got)) was

-- ---- one entry after the other

module _ (P : PendingContents) (now : Progress) (member : ℕ) (tsn : Tsn) where
  abbrev with_these : List Undo → Progress
  with_these front = set_going member (Some (record { tsn = tsn; entries = front })) now

  twice : (a b : Option Open) (s : ℕ) (t : Bool) → (if t then a else (if t then b else now.going s)) ≡ (if t then a else now.going s)
  twice a b s true = refl
  twice a b s false = refl

  -- an entry more is that entry behind the others
  one_more : (front : List Undo) (undo : Undo) → saved member (record { tsn = tsn; entries = front }) undo (with_these front) ≡ with_these (front ++ undo ∷ [])
  one_more front undo = λ i. record now { going = λ s. twice (Some (record { tsn = tsn; entries = front ++ undo ∷ [] })) (Some (record { tsn = tsn; entries = front })) s (s == member) i }

  stands_at : (front : List Undo) (undo : Undo) (rest : List Undo) → slice_get (front ++ undo ∷ rest) (length front) ≡ Some undo
  stands_at front undo rest = ap (λ (n : ℕ). slice_get (front ++ undo ∷ rest) n) (let same : length front ≡ length front + 0 = omega arith in same) ∙ got_right front (undo ∷ rest) 0 undo refl

  pub all_stand : (all front rest : List Undo) → all ≡ front ++ rest → ((i : ℕ) (undo : Undo) (x : List ℕ) → slice_get all i ≡ Some undo → P (ruj_file member) (i + 1) x → IsEntry x (entry_at tsn (i + 1) undo))
      → ((h : List ℕ) → 1 ≤ length all → P (ruj_file member) 0 h → named h ≡ tsn.number) → ((f : Flight) → now.flight ≡ Some f → f.member ≢ member) → Facts P (with_these front) → Facts P (with_these all)
  all_stand all front [] is sure names apart was = subst (λ (l : List Undo). Facts P (with_these l)) (sym (is ∙ append_nil front)) was
    where
      append_nil : (xs : List Undo) → xs ++ [] ≡ xs
      append_nil [] = refl
      append_nil (x ∷ xs) = ap (λ (l : List Undo). x ∷ l) (append_nil xs)
  all_stand all front (undo ∷ rest) is sure names apart was =
      let o : Open = record { tsn = tsn; entries = front } in
      let here : slice_get all (length front) ≡ Some undo = ap (λ (l : List Undo). slice_get l (length front)) is ∙ stands_at front undo rest in
      let long : length all ≡ length front + length (undo ∷ rest) = ap (λ (l : List Undo). length l) is ∙ length-append front (undo ∷ rest) in
      let more : Facts P (saved member o undo (with_these front)) = saves P (with_these front) member o undo (going_here now member (Some o)) was
      (λ x p. sure (length front) undo x here p) (λ h p. names h (let one : length (undo ∷ rest) ≡ suc (length rest) = refl in omega (arith, long, one)) p) apart in
      all_stand all (front ++ undo ∷ []) rest (is ∙ sym (append_assoc front (undo ∷ []) rest)) sure names apart (subst (λ (n : Progress). Facts P n) (one_more front undo) more)

-- ---- all of them

module _ (w : View) (now : Progress) (member : ℕ) (o : Open) (all : List Undo) (n : ℕ) (was : Facts (Pending w) now) (holds : SeatFacts w now member o all n) (enough : length all ≤ n) where
  abbrev after : Progress
  after = secured member o all now

  less_than : (i : ℕ) (undo : Undo) (xs : List Undo) → slice_get xs i ≡ Some undo → i < length xs
  less_than i undo [] got = let bad : ⊥ = cc in absurd bad
  less_than zero undo (y ∷ ys) got = omega arith
  less_than (suc i) undo (y ∷ ys) got = let rest = less_than i undo ys got in omega (arith, rest)

  -- with none of its entries standing it is as it was
  as_was : now ≡ set_going member (Some (record { tsn = o.tsn; entries = [] })) now
  as_was = λ i. record now { going = λ s. by s (s == member) refl i }
    where
      by : (s : ℕ) (t : Bool) → (s == member) ≡ t → now.going s ≡ (if t then Some (record { tsn = o.tsn; entries = [] }) else now.going s)
      by s true is = ap (λ (m : ℕ). now.going m) (eqb-true s member is) ∙ holds.is_open ∙ ap (λ (l : List Undo). Some (record { tsn = o.tsn; entries = l })) holds.none_stands
      by s false is = refl

  facts : Facts (Pending w) after
  facts = all_stand (Pending w) now member o.tsn all [] all refl
      (λ i undo x got p. let lt = less_than i undo all got in holds.sure i undo x (omega (arith, lt, enough)) got p)
      (λ h le p. holds.headed h (omega (arith, le, enough)) p) holds.not_flying (subst (λ (m : Progress). Facts (Pending w) m) as_was was)

  -- who is open then was open
  open_before : (s : ℕ) (p : Open) → after.going s ≡ Some p → (q : Open) × (now.going s ≡ Some q) × (q.tsn ≡ p.tsn)
  open_before s p same = ⊎_elim
      (λ here. let this : record { tsn = o.tsn; entries = all } ≡ p = some_same _ _ (sym here.is ∙ same) in (o, (ap (λ (m : ℕ). now.going m) here.at ∙ holds.is_open), ap (λ (q : Open). q.tsn) this))
      (λ away. (p, (sym away.is ∙ same), refl)) (going_is now member (Some (record { tsn = o.tsn; entries = all })) s)

  not_open : (tsn : ℕ) → IsNotOpen now tsn → IsNotOpen after tsn
  not_open tsn old s p same k = let q = open_before s p same in old s q.0 q.1 (k ∙ ap (λ (t : Tsn). t.number) (sym q.2))

  changed : (i : ℕ) (undo : Undo) (value : Line) → slice_get all i ≡ Some undo → value.tsn ≡ o.tsn → IsChanged (Pending w) after undo.key value
  changed i undo value got bears = let b = holds.before i undo got in record {
    member = member;
    transaction = record { tsn = o.tsn; entries = all };
    is_open = going_here now member (Some (record { tsn = o.tsn; entries = all }));
    tsn = bears;
    index = i;
    before = undo.before;
    entry = got;
    committed = record { shows = b.committed.shows; ended = b.committed.ended; not_open = not_open undo.before.tsn.number b.committed.not_open };
    below = b.below;
    one = one_slot (Pending w) member o all undo.key holds.written;
  }

  pub is_secured : IsSecured w now member o all
  is_secured = record {
    facts = facts;
    is_open = going_here now member (Some (record { tsn = o.tsn; entries = all }));
    may = λ i undo value got bears. let b = holds.before i undo got in record {
      sure = inr (changed i undo value got bears);
      below = subst (λ (t : Tsn). t.number < now.next_tsn) (sym bears) (was.below.going member o holds.is_open);
      free = b.free;
      within = b.within;
    };
  }
