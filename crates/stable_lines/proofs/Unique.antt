-- An image has one list of whole groups, and stands for one map of lines.
use Rattle.std.proofs.Common.{◌≡◌, ℕ, zero, suc, ◌+◌, ◌≤◌, ◌<◌, Bool, true, false, T, List, [], ◌∷◌, ◌++◌, length, Option, Some, None, slice_get, ◌⊎◌, ⊎_elim, refl, sym, ◌∙◌, ap, subst, arith}
use Rattle.std.proofs.lemmas.Option.{slice_get_within, slice_get_cases}
use Rattle.std.specs.FinMap.Entries.{same_entries}
use Rattle.rdb_types.specs.declared.file.FileId.{FileId}
use Rattle.rdb_types.specs.declared.keys.Dbkey.{Dbkey}
use Rattle.rdb_types.specs.declared.keys.Tsn.{Tsn}
use Rattle.rdb_types.specs.declared.keys.Line.{Line}
use Rattle.journal_reading.specs.rdb_outside.Disk.{Image}
use Rattle.rdb_types.specs.Order.{dbkey_order}
use Rattle.rdb_types.specs.OrderLaws.{dbkey_total, same_dbkey}
use Rattle.ruj_journal.specs.declared.entry.RujEntry.{RujEntry}
use Rattle.ruj_journal.specs.Entry.{IsEntry}
use Rattle.ruj_journal.proofs.Readings.{one_entry}
use Rattle.new_database.specs.aij_journal.declared.part.AijPart.{AijPart}
use Rattle.journal_reading.specs.journal_scan.declared.group.Group.{Group}
use Rattle.journal_reading.specs.journal_scan.Standing.{what_stands}
use Rattle.journal_reading.specs.journal_scan.Reading.{groups_of}
use Rattle.journal_reading.specs.journal_scan.Whole.{slots_of, IsWhole, AreGroups}
use Rattle.journal_scan.proofs.Groups.{only}
use Rattle.journal_reading.specs.Journal.{standing}
use Rattle.line_view.specs.Knowledge.{Lines}
use Rattle.new_database.specs.Maker.{aij_file}
use Rattle.line_versions.specs.Lines.{shown}
use Rattle.stable_lines.specs.Slots.{ruj_file, line_at, Undo, entry_at}
use Rattle.stable_lines.specs.Journal.{Journal, slots_in, next_number, next_slot, StandsAt, IsJournalOf}
use Rattle.stable_lines.specs.Image.{IsEnded, IsOpenAt, HasEntries, IsBefore, HasNoBefore, LineIs, as_it_stands, put_back, not_found, StandsFor}
use Rattle.stable_lines.proofs.Lists.{got_either, got_left, got_right, got_one}

not_both : (b : Bool) → b ≡ true → b ≡ false → ⊥
not_both b is isnt = let bad : true ≡ false = sym is ∙ isnt in cc

-- ---- lines

module _ (image : Image) (groups : List Group) (key : Dbkey) where
  abbrev bare : Line
  bare = line_at image key

  ended_not_open : (member : ℕ) → IsEnded image groups (line_at image key).tsn.number → IsOpenAt image groups (line_at image key).tsn.number member → ⊥
  ended_not_open member ended o = not_both _ (ended member o.is_member o.number o.names) o.no_group

  one_member : (a b : ℕ) → IsOpenAt image groups (line_at image key).tsn.number a → IsOpenAt image groups (line_at image key).tsn.number b → a ≡ b
  one_member a b oa ob = ⊎_elim (λ lt. absurd (ob.first a oa.is_member lt oa.names)) (λ rest. ⊎_elim (λ same. same) (λ lt. absurd (oa.first b ob.is_member lt ob.names)) rest) (cases a b)
    where
      cases : (x y : ℕ) → (x < y) ⊎ ((x ≡ y) ⊎ (y < x))
      cases x y = grind arith

  -- of two such entries neither is before the other
  not_before : (member : ℕ) (tsn : Tsn) (a b : Line) (x : IsBefore image member tsn key a) (y : IsBefore image member tsn key b) → length x.earlier < length y.earlier → ⊥
  not_before member tsn a b x y lt = ⊎_elim (λ w. found w.0 w.2) (λ none. let over : length y.earlier ≤ length x.earlier = none.0 in omega (arith, lt, over)) (slice_get_cases y.earlier (length x.earlier)).1
    where
      found : (undo : Undo) → slice_get y.earlier (length x.earlier) ≡ Some undo → ⊥
      found undo got =
          let same : entry_at tsn (length x.earlier + 1) undo ≡ entry_at tsn (length x.earlier + 1) (record { key = key; before = a }) = one_entry _ _ _ (y.stand (length x.earlier) undo got) x.here in
          y.others (length x.earlier) undo got (ap (λ (e : RujEntry). e.key) same)

  one_before : (member : ℕ) (tsn : Tsn) (a b : Line) → IsBefore image member tsn key a → IsBefore image member tsn key b → a ≡ b
  one_before member tsn a b x y = ⊎_elim (λ lt. absurd (not_before member tsn a b x y lt)) (λ rest. ⊎_elim same (λ lt. absurd (not_before member tsn b a y x lt)) rest) (cases (length x.earlier) (length y.earlier))
    where
      cases : (m n : ℕ) → (m < n) ⊎ ((m ≡ n) ⊎ (n < m))
      cases m n = grind arith

      same : length x.earlier ≡ length y.earlier → a ≡ b
      same at = ap (λ (e : RujEntry). e.before) (one_entry _ (entry_at tsn (length y.earlier + 1) (record { key = key; before = a })) _ (subst (λ n. IsEntry (image (ruj_file member) (n + 1)) (entry_at tsn (n + 1) (record { key = key; before = a }))) at x.here) y.here)

  not_lost : (member : ℕ) (tsn : Tsn) (a : Line) → IsBefore image member tsn key a → HasNoBefore image member tsn key → ⊥
  not_lost member tsn a x none = none (x.earlier ++ record { key = key; before = a } ∷ []) stand (length x.earlier + 0) (record { key = key; before = a }) (got_right x.earlier (record { key = key; before = a } ∷ []) 0 (record { key = key; before = a }) refl) refl
    where
      stand : HasEntries image member tsn (x.earlier ++ record { key = key; before = a } ∷ [])
      stand i u got = ⊎_elim (λ front. x.stand i u front) (λ last. at last.0 last.1 (got_one _ u last.0 last.2)) (got_either x.earlier (record { key = key; before = a } ∷ []) i u got)
        where
          at : (k : ℕ) → i ≡ length x.earlier + k → (k ≡ 0) × (record { key = key; before = a } ≡ u) → IsEntry (image (ruj_file member) (i + 1)) (entry_at tsn (i + 1) u)
          at k place last =
              let here : length x.earlier + 1 ≡ i + 1 = (let none_more : k ≡ 0 = last.0 in omega (arith, place, none_more)) in
              subst (λ n. IsEntry (image (ruj_file member) n) (entry_at tsn n u)) here (subst (λ (v : Undo). IsEntry (image (ruj_file member) (length x.earlier + 1)) (entry_at tsn (length x.earlier + 1) v)) last.1 x.here)

  pub one_line : (a b : Line) → LineIs image groups key a → LineIs image groups key b → a ≡ b
  one_line a b (as_it_stands ea xa) (as_it_stands eb xb) = xa ∙ sym xb
  one_line a b (as_it_stands ea xa) (put_back m o x) = absurd (ended_not_open m ea o)
  one_line a b (as_it_stands ea xa) (not_found m o n x) = absurd (ended_not_open m ea o)
  one_line a b (put_back m o x) (as_it_stands eb xb) = absurd (ended_not_open m eb o)
  one_line a b (put_back m o x) (put_back n p y) = one_before n _ a b (subst (λ k. IsBefore image k (line_at image key).tsn key a) (one_member m n o p) x) y
  one_line a b (put_back m o x) (not_found n p none same) = absurd (not_lost n _ a (subst (λ k. IsBefore image k (line_at image key).tsn key a) (one_member m n o p) x) none)
  one_line a b (not_found m o none same) (as_it_stands eb xb) = absurd (ended_not_open m eb o)
  one_line a b (not_found m o none same) (put_back n p y) = absurd (not_lost m _ b (subst (λ k. IsBefore image k (line_at image key).tsn key b) (one_member n m p o) y) none)
  one_line a b (not_found m o none same) (not_found n p other also) = same ∙ sym also

pub one_lines : (image : Image) (groups : List Group) (a b : Lines) → StandsFor image groups a → StandsFor image groups b → a ≡ b
one_lines image groups a b x y = same_entries dbkey_order dbkey_total same_dbkey a b (subst T (sym x.in_order) tt) (subst T (sym y.in_order) tt) (λ key. sym (x.each key).shows ∙ ap shown (one_line image groups key _ _ (x.each key).is (y.each key).is) ∙ (y.each key).shows)

-- ---- groups

-- what stands in so many slots, from their places
pub standing_at : (image : Image) (file : FileId) (slot count i : ℕ) → i < count → slice_get (standing image file slot count) i ≡ Some (what_stands (image file (slot + i)))
standing_at image file slot zero i lt = absurd (omega (arith, lt))
standing_at image file slot (suc count) zero lt = ap (λ n. Some (what_stands (image file n))) (let same : slot ≡ slot + 0 = omega arith in same)
standing_at image file slot (suc count) (suc i) lt = standing_at image file (slot + 1) count i (omega (arith, lt)) ∙ ap (λ n. Some (what_stands (image file n))) (let same : slot + 1 + i ≡ slot + suc i = omega arith in same)

pub length_standing : (image : Image) (file : FileId) (slot count : ℕ) → length (standing image file slot count) ≡ count
length_standing image file slot zero = refl
length_standing image file slot (suc count) = let rest = length_standing image file (slot + 1) count in omega (arith, rest)

some_same : {A : Type 0} (a b : A) → Some a ≡ Some b → a ≡ b
some_same a b same = cc

-- a list that has another in front
pub front_back : {A : Type 0} (xs ys : List A) → ((i : ℕ) (y : A) → slice_get ys i ≡ Some y → slice_get xs i ≡ Some y) → (rest : List A) × (xs ≡ ys ++ rest)
front_back xs [] has = (xs, refl)
front_back [] (y ∷ ys) has = let bad : None ≡ Some y = has 0 y refl in absurd (cc)
front_back (x ∷ xs) (y ∷ ys) has =
    let rest = front_back xs ys (λ i z got. has (suc i) z got) in
    let here : Some x ≡ Some y = has 0 y refl in
    let same : x ≡ y = cc in
    (rest.0, ap (λ (l : List _). x ∷ l) rest.1 ∙ ap (λ z. z ∷ (ys ++ rest.0)) same)

long_enough : (image : Image) (j : Journal) (count : ℕ) → IsJournalOf image j → length (slots_in j) ≤ count → AreGroups j.first (standing image aij_file 1 count) j.groups
long_enough image j count is long = record { whole = is.whole; rest = split.0; stand = split.1; no_more = no_more }
  where
    front : (i : ℕ) (what : Option AijPart) → slice_get (slots_in j) i ≡ Some what → slice_get (standing image aij_file 1 count) i ≡ Some what
    front i what got =
        let within : i < length (slots_in j) = slice_get_within (slots_in j) i what got in
        standing_at image aij_file 1 count i (omega (arith, within, long)) ∙ ap Some (ap (λ n. what_stands (image aij_file n)) (let same : 1 + i ≡ i + 1 = omega arith in same) ∙ is.stand i what got)

    split : (rest : List (Option AijPart)) × (standing image aij_file 1 count ≡ slots_in j ++ rest)
    split = front_back (standing image aij_file 1 count) (slots_in j) front

    no_more : (g : Group) (behind : List (Option AijPart)) → IsWhole (next_number j) g → split.0 ≡ slots_of g ++ behind → ⊥
    no_more g behind whole same = is.no_more g whole stands
      where
        stands : StandsAt image (next_slot j) g
        stands i what got =
            let there : slice_get (standing image aij_file 1 count) (length (slots_in j) + i) ≡ Some what = ap (λ (l : List (Option AijPart)). slice_get l (length (slots_in j) + i)) (split.1 ∙ ap (λ (l : List (Option AijPart)). slots_in j ++ l) same) ∙ got_right (slots_in j) (slots_of g ++ behind) i what (got_left (slots_of g) behind i what got) in
            let within : length (slots_in j) + i < length (standing image aij_file 1 count) = slice_get_within _ _ what there in
            let long_is : length (standing image aij_file 1 count) ≡ count = length_standing image aij_file 1 count in
            ap (λ n. what_stands (image aij_file n)) (let at : length (slots_in j) + 1 + i ≡ 1 + (length (slots_in j) + i) = omega arith in at) ∙ some_same _ _ (sym (standing_at image aij_file 1 count (length (slots_in j) + i) (omega (arith, within, long_is))) ∙ there)

-- the groups of an image are those that are read from enough of its slots
pub groups_read : (image : Image) (j : Journal) (count : ℕ) → IsJournalOf image j → length (slots_in j) ≤ count → j.groups ≡ groups_of j.first (standing image aij_file 1 count)
groups_read image j count is long = only j.first (standing image aij_file 1 count) j.groups (long_enough image j count is long)

pub one_journal : (image : Image) (a b : Journal) → IsJournalOf image a → IsJournalOf image b → a ≡ b
one_journal image a b x y =
    let firsts : a.first ≡ b.first = sym x.header.fields.1.0 ∙ y.header.fields.1.0 in
    let count = length (slots_in a) + length (slots_in b) in
    let same : a.groups ≡ b.groups = groups_read image a (length (slots_in a) + length (slots_in b)) x (omega arith) ∙ ap (λ n. groups_of n (standing image aij_file 1 (length (slots_in a) + length (slots_in b)))) firsts ∙ sym (groups_read image b (length (slots_in a) + length (slots_in b)) y (omega arith)) in
    λ i. record { first = firsts i; groups = same i }
