-- Entries counted one by one.
use Rattle.std.proofs.Common.{◌≡◌, Result, Ok, Err, IfOk, ℕ, ◌+◌, ◌≤◌, List, [], ◌∷◌, ◌++◌, length, replicate, Some, slice_get, ⊎_elim, ap, sym, subst, ◌∙◌, arith, refl, length-append}
use Rattle.slot_fields.proofs.Laws.{word_not_zeros}
use Rattle.rdb_types.specs.File.{slot_bytes}
use Rattle.rdb_types.specs.declared.keys.Tsn.{Tsn}
use Rattle.rdb_outside.specs.Disk.{Image}
use Rattle.line_moves.specs.ruj_journal.declared.entry.RujEntry.{RujEntry}
use Rattle.line_moves.specs.ruj_journal.Entry.{IsEntry}
use Rattle.journal_passing.specs.journal_reading.Journal.{EndsBy}
use Rattle.line_moves.specs.stable_lines.Slots.{ruj_file, Undo, entry_at}
use Rattle.line_moves.specs.stable_lines.Image.{HasEntries}
use Rattle.line_moves.proofs.of_stable_lines.Lists.{got_either, got_one}
use Rattle.line_opening.specs.Counting.{HasCount}

-- so many entries stand
pub record StandTo (image : Image) (member : ℕ) (tsn : Tsn) (count : ℕ) : Type 0 where
  pub undos : List Undo
  pub long : length undos ≡ count
  pub stand : HasEntries image member tsn undos

pub none_yet : (image : Image) (member : ℕ) (tsn : Tsn) → StandTo image member tsn 0
none_yet image member tsn = record { undos = []; long = refl; stand = λ i undo got. absurd (nothing i undo got) }
  where
    nothing : (i : ℕ) (undo : Undo) → slice_get [] i ≡ Some undo → ⊥
    nothing i undo is = cc

pub one_more : (image : Image) (member : ℕ) (tsn : Tsn) (count : ℕ) (undo : Undo) → IsEntry (image (ruj_file member) (count + 1)) (entry_at tsn (count + 1) undo) → StandTo image member tsn count → StandTo image member tsn (count + 1)
one_more image member tsn count undo here was = record {
  undos = was.undos ++ undo ∷ [];
  long = length-append was.undos (undo ∷ []) ∙ ap (λ (n : ℕ). n + 1) was.long;
  stand = λ i u got. ⊎_elim (λ old. was.stand i u old) (λ q. last i u q.0 q.1 (got_one undo u q.0 q.2)) (got_either was.undos (undo ∷ []) i u got);
}
  where
    last : (i : ℕ) (u : Undo) (k : ℕ) → i ≡ length was.undos + k → (k ≡ 0) × (undo ≡ u) → IsEntry (image (ruj_file member) (i + 1)) (entry_at tsn (i + 1) u)
    last i u k at is =
        let place : count ≡ i = (let z = is.0 in let long = was.long in omega (arith, at, z, long)) in
        subst (λ (x : Undo). IsEntry (image (ruj_file member) (i + 1)) (entry_at tsn (i + 1) x)) is.1 (subst (λ (n : ℕ). IsEntry (image (ruj_file member) (n + 1)) (entry_at tsn (n + 1) undo)) place here)

pub ends_there : (image : Image) (member : ℕ) (tsn : Tsn) (count : ℕ) → StandTo image member tsn count → ((e : RujEntry) → IsEntry (image (ruj_file member) (count + 1)) e → e.tsn ≡ tsn → e.index ≡ count + 1 → ⊥) → HasCount image member tsn count
ends_there image member tsn count was none = record {
  undos = was.undos;
  long = was.long;
  entries = record {
    stand = was.stand;
    ends = λ e is same at. none e (subst (λ (n : ℕ). IsEntry (image (ruj_file member) (n + 1)) e) was.long is) same (at ∙ ap (λ (n : ℕ). n + 1) was.long);
  };
}

-- zeros are no entry
no_entry : (x : List ℕ) (n : ℕ) → x ≡ replicate n 0 → (e : RujEntry) → IsEntry x e → ⊥
no_entry x n is e there = word_not_zeros x n 81 (85 ∷ 74 ∷ 69 ∷ []) is there.fields.0

pub ends_in_zeros : (image : Image) (member : ℕ) (tsn : Tsn) (count end : ℕ) → EndsBy image (ruj_file member) end → end ≤ count + 1 → StandTo image member tsn count → HasCount image member tsn count
ends_in_zeros image member tsn count end ends le was =
    ends_there image member tsn count was (λ e is same at. no_entry (image (ruj_file member) (count + 1)) (slot_bytes (ruj_file member)) (ends (count + 1) le) e is)

-- the journal's slots alone count
pub count_same : (a b : Image) (member : ℕ) (tsn : Tsn) (count : ℕ) → ((i : ℕ) → a (ruj_file member) i ≡ b (ruj_file member) i) → HasCount a member tsn count → HasCount b member tsn count
count_same a b member tsn count same was = record {
  undos = was.undos;
  long = was.long;
  entries = record {
    stand = λ i undo got. subst (λ (x : List ℕ). IsEntry x (entry_at tsn (i + 1) undo)) (same (i + 1)) (was.entries.stand i undo got);
    ends = λ e is. was.entries.ends e (subst (λ (x : List ℕ). IsEntry x e) (sym (same (length was.undos + 1))) is);
  };
}

pub if_ok : {T E : Type 0} (P Q : T → Type 0) (result : Result T E) → ((x : T) → P x → Q x) → IfOk result P → IfOk result Q
if_ok P Q (Ok x) to is = to x is
if_ok P Q (Err e) to is = is
