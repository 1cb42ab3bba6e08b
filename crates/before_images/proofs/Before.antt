-- The first entry of a line is how it was before the transaction.
use Rattle.std.proofs.Common.{◌≡◌, ◌≢◌, ℕ, zero, suc, ◌+◌, ◌≤◌, ◌<◌, Bool, true, false, cond, List, [], ◌∷◌, ◌++◌, map, length, Option, Some, None, slice_get, ⊎_elim, refl, sym, ap, subst, ◌∙◌, arith}
use Rattle.std.proofs.lemmas.Option.{slice_get_cases}
use Rattle.std.specs.Ordering.{is_eq}
use Rattle.std.specs.Cmp.{tied_itself}
use Rattle.std.specs.FinMap.Entries.{find}
use Rattle.rdb_types.specs.Order.{dbkey_order}
use Rattle.rdb_types.specs.OrderLaws.{dbkey_total}
use Rattle.rdb_types.specs.declared.keys.Dbkey.{Dbkey}
use Rattle.rdb_types.specs.declared.keys.Tsn.{Tsn}
use Rattle.rdb_types.specs.declared.keys.Line.{Line}
use Rattle.rdb_outside.specs.Disk.{Image}
use Rattle.ruj_journal.specs.declared.entry.RujEntry.{RujEntry}
use Rattle.ruj_journal.specs.Entry.{IsEntry}
use Rattle.ruj_journal.proofs.Readings.{one_entry}
use Rattle.stable_lines.specs.Slots.{ruj_file, Undo, entry_at}
use Rattle.stable_lines.specs.Image.{HasEntries, IsNoneOf, IsBefore, HasNoBefore}
use Rattle.stable_lines.specs.Opening.{AreEntries}
use Rattle.stable_lines.proofs.Lists.{got_left, got_right}
use Rattle.before_images.specs.Before.{BeforeIs}
use Rattle.before_images.proofs.Held.{same_key}

-- the line as the first entry of this key has it
abbrev pub first_of : Dbkey → List Undo → Option Line
first_of key undos = find dbkey_order key (map (λ u. (u.key, u.before)) undos)

-- an undo of this key in front of which there is none
record SplitsAt (key : Dbkey) (undos : List Undo) (line : Line) : Type 0 where
  earlier : List Undo
  later : List Undo
  are : undos ≡ earlier ++ record { key = key; before = line } ∷ later
  others : IsNoneOf key earlier

abbrev Splits : Dbkey → List Undo → Option Line → Type 0
Splits key undos None = IsNoneOf key undos
Splits key undos (Some line) = SplitsAt key undos line

none_of_none : (key : Dbkey) → IsNoneOf key []
none_of_none key i undo got same = let bad : ◌≡◌ {A = Option Undo} None (Some undo) = got in let no : ⊥ = cc in no

apart_first : (key : Dbkey) (u : Undo) → is_eq (dbkey_order key u.key) ≡ false → u.key ≢ key
apart_first key u off same =
    let tied : is_eq (dbkey_order key u.key) ≡ true = ap (λ (k : Dbkey). is_eq (dbkey_order key k)) same ∙ ap is_eq (tied_itself dbkey_total key) in
    let bad : true ≡ false = sym tied ∙ off in let no : ⊥ = cc in no

none_behind : (key : Dbkey) (u : Undo) (us : List Undo) → u.key ≢ key → IsNoneOf key us → IsNoneOf key (u ∷ us)
none_behind key u us off none zero undo got = let same : u ≡ undo = cc in subst (λ (x : Undo). x.key ≢ key) same off
none_behind key u us off none (suc i) undo got = none i undo got

split_more : (key : Dbkey) (u : Undo) (us : List Undo) (o : Option Line) → u.key ≢ key → Splits key us o → Splits key (u ∷ us) o
split_more key u us None off were = none_behind key u us off were
split_more key u us (Some line) off were = record {
  earlier = u ∷ were.earlier;
  later = were.later;
  are = ap (λ (l : List Undo). u ∷ l) were.are;
  others = none_behind key u were.earlier off were.others;
}

split : (key : Dbkey) (undos : List Undo) → Splits key undos (first_of key undos)
split key [] = none_of_none key
split key (u ∷ us) = by (split key us) (is_eq (dbkey_order key u.key)) refl
  where
    by : Splits key us (first_of key us) → (b : Bool) → is_eq (dbkey_order key u.key) ≡ b → Splits key (u ∷ us) (cond b (Some u.before) (first_of key us))
    by rest true is = record { earlier = []; later = us; are = (let same : key ≡ u.key = same_key key u.key is in λ i. record { key = sym same i; before = u.before } ∷ us); others = none_of_none key }
    by rest false is = split_more key u us (first_of key us) (apart_first key u is) rest

module _ (image : Image) (member : ℕ) (tsn : Tsn) (key : Dbkey) (undos : List Undo) (entries : AreEntries image member tsn undos) where
  before : (line : Line) → SplitsAt key undos line → IsBefore image member tsn key line
  before line at =
      let stand : HasEntries image member tsn (at.earlier ++ record { key = key; before = line } ∷ at.later) = subst (λ (l : List Undo). HasEntries image member tsn l) at.are entries.stand in
      record {
        earlier = at.earlier;
        others = at.others;
        stand = λ i undo got. stand i undo (got_left at.earlier (record { key = key; before = line } ∷ at.later) i undo got);
        here =
            let same : length at.earlier + 0 ≡ length at.earlier = omega arith in
            subst (λ (n : ℕ). IsEntry (image (ruj_file member) (n + 1)) (entry_at tsn (n + 1) (record { key = key; before = line }))) same
            (stand (length at.earlier + 0) (record { key = key; before = line }) (got_right at.earlier (record { key = key; before = line } ∷ at.later) 0 (record { key = key; before = line }) refl));
      }

  -- no other list of entries is longer, so none has another line
  no_before : IsNoneOf key undos → HasNoBefore image member tsn key
  no_before none others stand i undo got same = ⊎_elim
      (λ here. within here.0 here.2)
      (λ past. behind past.0)
      (slice_get_cases undos i).1
    where
      within : (own : Undo) → slice_get undos i ≡ Some own → ⊥
      within own is =
          let one : entry_at tsn (i + 1) own ≡ entry_at tsn (i + 1) undo = one_entry _ _ _ (entries.stand i own is) (stand i undo got) in
          none i own is (ap (λ (e : RujEntry). e.key) one ∙ same)

      behind : length undos ≤ i → ⊥
      behind long = ⊎_elim
          (λ here. entries.ends (entry_at tsn (length undos + 1) here.0) (stand (length undos) here.0 here.2) refl refl)
          (λ past. short past.0)
          (slice_get_cases others (length undos)).1
        where
          short : length others ≤ length undos → ⊥
          short less = ⊎_elim
              (λ here. let within_it : i < length others = here.1 in omega (arith, within_it, less, long))
              (λ past. let bad : Some undo ≡ None = sym got ∙ past.1 in let no : ⊥ = cc in no)
              (slice_get_cases others i).1

  by_split : (o : Option Line) → Splits key undos o → BeforeIs image member tsn key o
  by_split None none = no_before none
  by_split (Some line) at = before line at

  pub before_is : BeforeIs image member tsn key (first_of key undos)
  before_is = by_split (first_of key undos) (split key undos)
