-- The written entries of an open transaction, through the steps.
use Rattle.std.proofs.Common.{◌≡◌, ℕ, ◌+◌, ◌<◌, List, [], ◌∷◌, ◌++◌, length, Some, None, slice_get, ⊎_elim, refl, sym, ◌∙◌, ap, subst, arith, append_assoc, length-append}
use Rattle.rdb_types.specs.declared.keys.Dbkey.{Dbkey}
use Rattle.ruj_journal.specs.declared.entry.RujEntry.{RujEntry}
use Rattle.ruj_journal.specs.Entry.{IsEntry}
use Rattle.ruj_journal.proofs.Readings.{one_entry}
use Rattle.stable_lines.specs.Slots.{ruj_file, IsMember, Undo, entry_at}
use Rattle.stable_lines.specs.Image.{IsNoneOf}
use Rattle.stable_lines.specs.Progress.{Open, Progress}
use Rattle.stable_lines.specs.Facts.{PendingContents, More, HasOneEntry, Facts}
use Rattle.stable_lines.specs.Written.{IsWritten, AreWritten}
use Rattle.stable_lines.proofs.Lists.{got_either, got_left, got_right, got_one}
use Rattle.stable_lines.proofs.Fewer.{FewerEntries}

-- where no more entries may be left
pub written_stay : (P Q : PendingContents) (member : ℕ) (o : Open) (all : List Undo) → FewerEntries Q P → AreWritten P member o all → AreWritten Q member o all
written_stay P Q member o all es was = record { rest = was.rest; front = was.front; written = λ slot x e le q read tsn. was.written slot x e le (es _ _ _ le q) read tsn; distinct = was.distinct }

-- a transaction that begins has none
pub none_written : (P : PendingContents) (now : Progress) (member : ℕ) → IsMember member → Facts P now → AreWritten P member (record { tsn = record { number = now.next_tsn }; entries = [] }) []
none_written P now member is facts = record {
  rest = [];
  front = refl;
  written = λ slot x e le p read tsn. absurd (let low : e.tsn.number < now.next_tsn = facts.below.entry member slot x e is le p read in omega (arith, low, tsn));
  distinct = λ i k a b got other same. let bad : None ≡ Some a = got in absurd (cc);
}

-- what the facts ask of an entry that is written behind them
pub none_stands : (P : PendingContents) (member : ℕ) (o : Open) (all : List Undo) (key : Dbkey) → AreWritten P member o all → IsNoneOf key all → IsNoneOf key o.entries
none_stands P member o all key live none i undo got same = none i undo (ap (λ (l : List Undo). slice_get l i) live.front ∙ got_left o.entries live.rest i undo got) same

pub behind_all : (P : PendingContents) (member : ℕ) (o : Open) (all : List Undo) → AreWritten P member o all → length o.entries < length all + 1
behind_all P member o all live = let long : length all ≡ length o.entries + length live.rest = ap (λ (l : List Undo). length l) live.front ∙ length-append o.entries live.rest in omega (arith, long)

-- an entry is written behind the others, of another line
pub one_written : (P Q : PendingContents) (member : ℕ) (o : Open) (all : List Undo) (undo : Undo) (bytes : List ℕ) → More Q P (ruj_file member) (length all + 1) bytes → IsEntry bytes (entry_at o.tsn (length all + 1) undo) → IsNoneOf undo.key all → AreWritten P member o all → AreWritten Q member o (all ++ undo ∷ [])
one_written P Q member o all undo bytes more entry none was = record {
  rest = was.rest ++ undo ∷ [];
  front = ap (λ (l : List Undo). l ++ undo ∷ []) was.front ∙ append_assoc o.entries was.rest (undo ∷ []);
  written = λ slot x e le q read tsn. ⊎_elim (λ p. old slot e (was.written slot x e le p read tsn)) (λ here. new slot x e here.1 here.2 read) (more _ _ x q);
  distinct = distinct;
}
  where
    old : (slot : ℕ) (e : RujEntry) → IsWritten all slot e → IsWritten (all ++ undo ∷ []) slot e
    old slot e w = record { index = w.index; undo = w.undo; place = w.place; is = got_left all (undo ∷ []) w.index w.undo w.is; same_key = w.same_key }

    last : slice_get (all ++ undo ∷ []) (length all) ≡ Some undo
    last = ap (λ n. slice_get (all ++ undo ∷ []) n) (let same : length all ≡ length all + 0 = omega arith in same) ∙ got_right all (undo ∷ []) 0 undo refl

    new : (slot : ℕ) (x : List ℕ) (e : RujEntry) → slot ≡ length all + 1 → x ≡ bytes → IsEntry x e → IsWritten (all ++ undo ∷ []) slot e
    new slot x e place at read = record { index = length all; undo = undo; place = place; is = last; same_key = ap (λ (r : RujEntry). r.key) (one_entry bytes e (entry_at o.tsn (length all + 1) undo) (subst (λ (z : List ℕ). IsEntry z e) at read) entry) }

    distinct : (i k : ℕ) (a b : Undo) → slice_get (all ++ undo ∷ []) i ≡ Some a → slice_get (all ++ undo ∷ []) k ≡ Some b → a.key ≡ b.key → i ≡ k
    distinct i k a b got other same = ⊎_elim (λ p. ⊎_elim (λ q. was.distinct i k a b p q same) (λ q. absurd (none i a p (same ∙ ap (λ (u : Undo). u.key) (sym (got_one undo b q.0 q.2).1)))) (got_either all (undo ∷ []) k b other)) (λ p. ⊎_elim (λ q. absurd (none k b q (sym same ∙ ap (λ (u : Undo). u.key) (sym (got_one undo a p.0 p.2).1)))) (λ q. both p.0 q.0 p.1 q.1 (got_one undo a p.0 p.2).0 (got_one undo b q.0 q.2).0) (got_either all (undo ∷ []) k b other)) (got_either all (undo ∷ []) i a got)
      where
        both : (m n : ℕ) → i ≡ length all + m → k ≡ length all + n → m ≡ 0 → n ≡ 0 → i ≡ k
        both m n p q zm zn = omega (arith, p, q, zm, zn)

-- the first of those that did not stand yet stands
pub written_saved : (P : PendingContents) (member : ℕ) (o : Open) (all rest : List Undo) (undo : Undo) → (was : AreWritten P member o all) → all ≡ o.entries ++ undo ∷ rest → AreWritten P member (record { tsn = o.tsn; entries = o.entries ++ undo ∷ [] }) all
written_saved P member o all rest undo was is = record { rest = rest; front = is ∙ sym (append_assoc o.entries (undo ∷ []) rest); written = was.written; distinct = was.distinct }

-- of each line one slot alone may be an entry
pub one_slot : (P : PendingContents) (member : ℕ) (o : Open) (all : List Undo) (key : Dbkey) → AreWritten P member o all → HasOneEntry P member o.tsn key
one_slot P member o all key live i k x y a b li lk p q ra rb ofa ofb =
    let wa = live.written i x a li p ra ofa.same_tsn in
    let wb = live.written k y b lk q rb ofb.same_tsn in
    let same : wa.index ≡ wb.index = live.distinct wa.index wb.index wa.undo wb.undo wa.is wb.is (sym wa.same_key ∙ ofa.same_key ∙ sym ofb.same_key ∙ wb.same_key) in
    let at : i ≡ wa.index + 1 = wa.place in
    let there : k ≡ wb.index + 1 = wb.place in
    omega (arith, same, at, there)
