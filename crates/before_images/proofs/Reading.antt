-- Entries read one by one.
use Rattle.std.specs.Prelude.{if◌then◌else◌}
use Rattle.std.proofs.Common.{◌≡◌, ℕ, ◌+◌, ◌≤◌, ⊎_elim, List, [], ◌∷◌, ◌++◌, map, length, length-append, is_some, Option, Some, slice_get, refl, sym, ap, subst, ◌∙◌, arith}
use Rattle.std.proofs.lemmas.List.{map-append}
use Rattle.std.specs.FinMap.Entries.{find, put}
use Rattle.rdb_types.specs.Order.{dbkey_order}
use Rattle.rdb_types.specs.File.{slot_bytes}
use Rattle.rdb_types.specs.declared.keys.Dbkey.{Dbkey}
use Rattle.rdb_types.specs.declared.keys.Tsn.{Tsn}
use Rattle.rdb_types.specs.declared.keys.Line.{Line}
use Rattle.rdb_outside.specs.Disk.{Image}
use Rattle.ruj_journal.specs.declared.entry.RujEntry.{RujEntry}
use Rattle.ruj_journal.specs.Entry.{IsEntry}
use Rattle.journal_reading.specs.Journal.{EndsBy}
use Rattle.stable_lines.specs.Slots.{ruj_file, Undo, entry_at}
use Rattle.stable_lines.specs.Image.{HasEntries}
use Rattle.stable_lines.specs.Opening.{AreEntries}
use Rattle.slot_fields.proofs.Laws.{word_not_zeros}
use Rattle.stable_lines.proofs.Lists.{got_either, got_one}
use Rattle.before_images.specs.Before.{IsEntryOf, BeforeIs, HoldsBefore}
use Rattle.before_images.proofs.Before.{first_of, before_is}
use Rattle.before_images.proofs.Held.{held_more}

-- the entries before this slot stand, and of each line the first is held
pub record HeldTo (image : Image) (member : ℕ) (tsn : Tsn) (index : ℕ) (held : List (Dbkey × Line)) : Type 0 where
  pub undos : List Undo
  pub long : length undos + 1 ≡ index
  pub stand : HasEntries image member tsn undos
  pub each : (key : Dbkey) → find dbkey_order key held ≡ first_of key undos

abbrev entry : Undo → Dbkey × Line
entry u = (u.key, u.before)

abbrev undo_of : RujEntry → Undo
undo_of e = record { key = e.key; before = e.before }

nothing : (i : ℕ) (undo : Undo) → slice_get [] i ≡ Some undo → ⊥
nothing i undo is = cc

module _ (image : Image) (member : ℕ) (tsn : Tsn) where
  pub none_held : HeldTo image member tsn 1 []
  none_held = record { undos = []; long = refl; stand = λ i undo got. absurd (nothing i undo got); each = λ key. refl }

  pub entry_more : (index : ℕ) (held new : List (Dbkey × Line)) (bytes : List ℕ) (e : RujEntry) → bytes ≡ image (ruj_file member) index → IsEntryOf bytes tsn index e → HeldTo image member tsn index held
      → new ≡ (if is_some (find dbkey_order e.key held) then held else put dbkey_order e.key e.before held) → HeldTo image member tsn (index + 1) new
  entry_more index held new bytes e here is was made = record {
    undos = was.undos ++ undo_of e ∷ [];
    long = omega (arith, length-append was.undos (undo_of e ∷ []), was.long);
    stand = λ i u got. ⊎_elim (λ old. was.stand i u old) (λ q. last i u q.0 q.1 (got_one (undo_of e) u q.0 q.2)) (got_either was.undos (undo_of e ∷ []) i u got);
    each = λ key. ap (λ (h : List (Dbkey × Line)). find dbkey_order key h) made
        ∙ held_more held (map entry was.undos) e.key e.before was.each key
        ∙ ap (λ (h : List (Dbkey × Line)). find dbkey_order key h) (sym (map-append entry was.undos (undo_of e ∷ [])));
  }
    where
      written : IsEntry (image (ruj_file member) index) (entry_at tsn index (undo_of e))
      written = subst (λ (b : List ℕ). IsEntry b (entry_at tsn index (undo_of e))) here
          (subst (λ (x : RujEntry). IsEntry bytes x) (λ i. record { tsn = is.same i; index = is.place i; key = e.key; before = e.before }) is.is)

      last : (i : ℕ) (u : Undo) (k : ℕ) → i ≡ length was.undos + k → (k ≡ 0) × (undo_of e ≡ u) → IsEntry (image (ruj_file member) (i + 1)) (entry_at tsn (i + 1) u)
      last i u k at same =
          let place : index ≡ i + 1 = (let z = same.0 in let long = was.long in omega (arith, at, z, long)) in
          subst (λ (x : Undo). IsEntry (image (ruj_file member) (i + 1)) (entry_at tsn (i + 1) x)) same.1
          (subst (λ (n : ℕ). IsEntry (image (ruj_file member) n) (entry_at tsn n (undo_of e))) place written)

  pub entries_end : (index : ℕ) (held : List (Dbkey × Line)) → HeldTo image member tsn index held → ((e : RujEntry) → IsEntry (image (ruj_file member) index) e → e.tsn ≡ tsn → e.index ≡ index → ⊥) → HoldsBefore image member tsn held
  entries_end index held was none key = subst (λ (o : Option Line). BeforeIs image member tsn key o) (sym (was.each key)) (before_is image member tsn key was.undos entries)
    where
      entries : AreEntries image member tsn was.undos
      entries = record {
        stand = was.stand;
        ends = λ e is same at. none e (subst (λ (n : ℕ). IsEntry (image (ruj_file member) n) e) was.long is) same (at ∙ was.long);
      }

  -- zeros are no entry
  pub entries_end_in_zeros : (index end : ℕ) (held : List (Dbkey × Line)) → EndsBy image (ruj_file member) end → end ≤ index → HeldTo image member tsn index held → HoldsBefore image member tsn held
  entries_end_in_zeros index end held zeros le was =
      entries_end index held was (λ e is same at. word_not_zeros (image (ruj_file member) index) (slot_bytes (ruj_file member)) 81 (85 ∷ 74 ∷ 69 ∷ []) (zeros index le) is.fields.0)
