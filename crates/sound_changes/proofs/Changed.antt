-- The tables behind the write of one relation's line.
use Rattle.std.proofs.Common.{◌≡◌, ◌==◌, ℕ, true, false, cond, List, [], ◌∷◌, map, Option, Some, refl, sym, ap, subst, ◌∙◌}
use Rattle.std.specs.List.{AllByRecursion}
use Rattle.std.specs.declared.cmp.Ordering.TheVariants.{Less, Equal, Greater}
use Rattle.std.specs.Ordering.{is_eq, is_lt}
use Rattle.std.specs.Cmp.{tied_itself}
use Rattle.std.specs.FinMap.Entries.{find, put, by_order, is_sorted, below_all}
use Rattle.std.proofs.lemmas.Bool.{and_parts, ne_eqb}
use Rattle.std.proofs.lemmas.Option.{none-some, same_Some}
use Rattle.rdb_types.specs.declared.keys.Dbkey.{Dbkey}
use Rattle.rdo_ast.specs.Tree.{Name}
use Rattle.rdb_meaning.specs.declared.tables.Relation.{Relation as Rows}
use Rattle.rdb_meaning.specs.declared.tables.Tables.{Tables}
use Rattle.rdb_meaning.specs.Contents.{Row}
use Rattle.line_view.specs.Knowledge.{Lines, lines_in, keys_of, laid}
use Rattle.sound_lines.specs.catalog.declared.directory.Directory.{Directory}
use Rattle.sound_lines.specs.relation_rows.declared.stored.StoredRelation.{StoredRelation}
use Rattle.sound_lines.specs.relation_rows.Stored.{AreRowsOf}
use Rattle.sound_lines.specs.relation_rows.Relations.{stored_row, HasRows}
use Rattle.sound_lines.specs.Contents.{version_of, stored, HaveRows}
use Rattle.sound_lines.proofs.Gathering.{keys, same_sorted}
use Rattle.sound_changes.proofs.Basics.{equal, less, none_below}
use Rattle.sound_changes.proofs.Frames.{rows_beside}
use Rattle.rdb_types.specs.Order.{chars_order}
use Rattle.rdb_types.specs.OrderLaws.{chars_total, same_chars}
use Rattle.sound_changes.proofs.Named.{IsOf, AreOf, one_name}

pub same_keys : (all : Lines) (versions : List (Name × ℕ)) (bs ws : List (Name × Rows)) → HaveRows all versions bs ws → keys bs ≡ keys ws
same_keys all versions [] [] have = refl
same_keys all versions [] (w ∷ ws) have = absurd have
same_keys all versions (b ∷ bs) [] have = absurd have
same_keys all versions (b ∷ bs) (w ∷ ws) have = λ i. sym have.0 i ∷ same_keys all versions bs ws have.2 i

pub have_sorted : (all : Lines) (versions : List (Name × ℕ)) (bs ws : List (Name × Rows)) → HaveRows all versions bs ws → is_sorted chars_order bs ≡ true → is_sorted chars_order ws ≡ true
have_sorted all versions bs ws have sorted = sym (same_sorted chars_order bs ws (same_keys all versions bs ws have)) ∙ sorted

-- the relations with their rows have the names and areas of those without
pub have_of : (all : Lines) (d : Directory) (u : Tables) (versions : List (Name × ℕ)) (bs ws : List (Name × Rows)) → HaveRows all versions bs ws → AreOf all d u bs → AreOf all d u ws
have_of all d u versions [] [] have each = tt
have_of all d u versions [] (w ∷ ws) have each = absurd have
have_of all d u versions (b ∷ bs) [] have each = absurd have
have_of all d u versions (b ∷ bs) (w ∷ ws) have each =
    (subst (λ n. IsOf all d u n w.1.area) (sym have.0) (subst (λ (a : ℕ). IsOf all d u b.0 a) have.1.area each.0), have_of all d u versions bs ws have.2 each.1)

-- ---- the rows of one relation

-- the rows have the Dbkeys of their lines
pub row_keys : (r : StoredRelation) (lines : Lines) (rows : List (Dbkey × Row)) → AreRowsOf r lines (map stored_row rows) → keys_of lines ≡ map (λ e. e.0) rows
row_keys r [] [] are = refl
row_keys r [] (e ∷ es) are = absurd are
row_keys r (l ∷ ls) [] are = absurd are
row_keys r (l ∷ ls) (e ∷ es) are = λ i. sym are.0 i ∷ row_keys r ls es are.2 i

-- a relation with rows is stored as it is without them
pub same_stored : (all : Lines) (version : ℕ) (b w : Rows) → HasRows all (stored version b) w → stored version b ≡ stored version w
same_stored all version b w has = λ i. record { area = has.area i; version = version; fields = record { ref_ptr = (0, 0); now = has.fields i } }

one_rows : (all : Lines) (version : ℕ) (b w : Rows) → HasRows all (stored version b) w → AreRowsOf (stored version w) (lines_in w.area all) (map stored_row w.rows)
one_rows all version b w has = subst (λ (r : StoredRelation). AreRowsOf r (lines_in r.area all) (map stored_row w.rows)) (same_stored all version b w has) has.rows

pub rows_in : (all : Lines) (versions : List (Name × ℕ)) (n : Name) (rel : Rows) (bs ws : List (Name × Rows)) → HaveRows all versions bs ws → find chars_order n ws ≡ Some rel → AreRowsOf (stored (version_of n versions) rel) (lines_in rel.area all) (map stored_row rel.rows)
rows_in all versions n rel [] [] have found = absurd (none-some rel found)
rows_in all versions n rel [] (w ∷ ws) have found = absurd have
rows_in all versions n rel (b ∷ bs) [] have found = absurd have
rows_in all versions n rel (b ∷ bs) (w ∷ ws) have found =
    elim (is_eq (chars_order n w.0)) as (λ b. is_eq (chars_order n w.0) ≡ b → cond b (Some w.1) (find chars_order n ws) ≡ Some rel → AreRowsOf (stored (version_of n versions) rel) (lines_in rel.area all) (map stored_row rel.rows)) [
      | true ↦ λ tie h.
          let name : b.0 ≡ n = sym have.0 ∙ sym (same_chars n w.0 (equal _ tie)) in
          let has = subst (λ (m : Name). HasRows all (stored (version_of m versions) b.1) w.1) name have.1 in
          one_rows all (version_of n versions) b.1 rel (subst (λ (r : Rows). HasRows all (stored (version_of n versions) b.1) r) (same_Some w.1 rel h) has)
      | false ↦ λ tie h. rows_in all versions n rel bs ws have.2 h
    ] refl found

-- no relation behind one in the order has its name
names_behind : (n x : Name) (ws : List (Name × Rows)) → chars_order n x ≡ Equal → below_all chars_order x ws ≡ true → AllByRecursion (λ (w : Name × Rows). is_eq (chars_order n w.0) ≡ false) ws
names_behind n x [] tie below = tt
names_behind n x (w ∷ ws) tie below =
    let parts = and_parts (is_lt (chars_order x w.0)) (below_all chars_order x ws) below in
    let own : chars_order n w.0 ≡ Less = ap (λ m. chars_order m w.0) (same_chars n x tie) ∙ less _ parts.0 in
    (ap is_eq own, names_behind n x ws tie parts.1)

module _ (all : Lines) (d : Directory) (u : Tables) (key : Dbkey) (what : Option (List ℕ)) (n : Name) (own : IsOf all d u n key.area) where
  -- a relation of another name has another area
  pub off_area : (w : Name × Rows) → IsOf all d u w.0 w.1.area → is_eq (chars_order n w.0) ≡ false → (key.area == w.1.area) ≡ false
  off_area w is other =
      ne_eqb key.area w.1.area (λ same.
      let name : n ≡ w.0 = one_name all d u n w.0 key.area w.1.area own is same in
      let tie : is_eq (chars_order n w.0) ≡ true = ap (λ m. is_eq (chars_order n m)) (sym name) ∙ ap is_eq (tied_itself chars_total n) in
      let bad : ⊥ = cc in
      bad)

  one_beside : (version : ℕ) (b : Rows) (w : Name × Rows) → IsOf all d u w.0 w.1.area → is_eq (chars_order n w.0) ≡ false → HasRows all (stored version b) w.1 → HasRows (laid key what all) (stored version b) w.1
  one_beside version b w is other has = rows_beside all key what (stored version b) w.1 (ap (λ (a : ℕ). key.area == a) has.area ∙ off_area w is other) has

  rest_beside : (versions : List (Name × ℕ)) (bs ws : List (Name × Rows)) → AreOf all d u ws → AllByRecursion (λ (w : Name × Rows). is_eq (chars_order n w.0) ≡ false) ws → HaveRows all versions bs ws → HaveRows (laid key what all) versions bs ws
  rest_beside versions [] [] each others have = tt
  rest_beside versions [] (w ∷ ws) each others have = absurd have
  rest_beside versions (b ∷ bs) [] each others have = absurd have
  rest_beside versions (b ∷ bs) (w ∷ ws) each others have =
      (have.0, one_beside (version_of b.0 versions) b.1 w each.0 others.0 have.1, rest_beside versions bs ws each.1 others.1 have.2)

  -- Where the relation's lines are the new rows behind the write, the relations are those with them.
  pub have_changed : (versions : List (Name × ℕ)) (v rel : Rows) (bs ws : List (Name × Rows)) → AreOf all d u ws → is_sorted chars_order ws ≡ true → find chars_order n ws ≡ Some rel →
      ((b : Rows) → HasRows all (stored (version_of n versions) b) rel → HasRows (laid key what all) (stored (version_of n versions) b) v) →
      HaveRows all versions bs ws → HaveRows (laid key what all) versions bs (put chars_order n v ws)
  have_changed versions v rel [] [] each sorted found changed have = absurd (none-some rel found)
  have_changed versions v rel [] (w ∷ ws) each sorted found changed have = absurd have
  have_changed versions v rel (b ∷ bs) [] each sorted found changed have = absurd have
  have_changed versions v rel (b ∷ bs) (w ∷ ws) each sorted found changed have =
      let parts = and_parts (below_all chars_order w.0 ws) (is_sorted chars_order ws) sorted in
      elim (chars_order n w.0) as (λ r. chars_order n w.0 ≡ r → cond (is_eq r) (Some w.1) (find chars_order n ws) ≡ Some rel → HaveRows (laid key what all) versions (b ∷ bs) (by_order r ((n, v) ∷ w ∷ ws) ((w.0, v) ∷ ws) (w ∷ put chars_order n v ws))) [
        | Less ↦ λ p h. absurd (none-some rel (sym (none_below chars_order chars_total w.0 n ws p parts.0) ∙ h))
        | Equal ↦ λ p h.
            let name : n ≡ b.0 = same_chars n w.0 p ∙ have.0 in
            let here = subst (λ (m : Name). HasRows all (stored (version_of m versions) b.1) rel → HasRows (laid key what all) (stored (version_of m versions) b.1) v) name (changed b.1) in
            (have.0, here (subst (λ (r : Rows). HasRows all (stored (version_of b.0 versions) b.1) r) (same_Some w.1 rel h) have.1), rest_beside versions bs ws each.1 (names_behind n w.0 ws p parts.0) have.2)
        | Greater ↦ λ p h. (have.0, one_beside (version_of b.0 versions) b.1 w each.0 (ap is_eq p) have.1, have_changed versions v rel bs ws each.1 parts.1 h changed have.2)
      ] refl found
