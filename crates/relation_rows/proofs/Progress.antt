-- The rows of the lines that were read, and the lines that are left.
use Rattle.std.proofs.Common.{◌≡◌, ◌==◌, ℕ, true, false, cond, List, [], ◌∷◌, ◌++◌, Some, None, is_some, refl, sym, ap, subst, ◌∙◌}
use Rattle.std.specs.List.{AllByRecursion}
use Rattle.std.proofs.lemmas.Bool.{eqb-true}
use Rattle.std.proofs.lemmas.Option.{none-some, same_Some}
use Rattle.std.proofs.lemmas.List.{append-nil, append_assoc}
use Rattle.rdb_types.specs.declared.values.Value.{Value}
use Rattle.rdb_types.specs.declared.keys.Dbkey.{Dbkey}
use Rattle.sorted_index_laws.specs.line_view.Knowledge.{Knowledge, Lines, IsInOrder, Agrees, line_in, lines_in, keys_of}
use Rattle.sorted_index_laws.proofs.of_line_view.Agreements.{Found, found_all, found_some}
use Rattle.relation_rows.specs.declared.stored.StoredRelation.{StoredRelation}
use Rattle.relation_rows.specs.declared.stored.StoredRow.{StoredRow}
use Rattle.relation_rows.specs.Stored.{IsRowOf, AreRowsOf, IsLineKnown, IsNextLine, IsAreaKnown, IsBadAt, IsBadIn}

-- of the lines of the relation's area in the full map, those that were read have these rows, and these are left
pub record Splits (r : StoredRelation) (left : List Dbkey) (rows : List StoredRow) (all : Lines) : Type 0 where
  pub done : Lines
  pub es : Lines
  pub stands : lines_in r.area all ≡ done ++ es
  pub keys : left ≡ keys_of es
  pub are : AreRowsOf r done rows

pub record AreRead (known : Knowledge) (r : StoredRelation) (keys left : List Dbkey) (rows : List StoredRow) : Type 0 where
  pub front : List Dbkey
  pub stands : keys ≡ front ++ left
  pub lines : AllByRecursion (IsLineKnown known) front
  pub split : (all : Lines) → IsInOrder all → Agrees known all → Splits r left rows all

pub none_read : (known : Knowledge) (r : StoredRelation) (keys : List Dbkey) → known.area r.area ≡ Some keys → AreRead known r keys keys []
none_read known r keys told = record {
  front = [];
  stands = refl;
  lines = tt;
  split = λ all sorted agrees. record { done = []; es = lines_in r.area all; stands = refl; keys = agrees.area r.area keys told; are = tt };
}

one_known : (known : Knowledge) (front : List Dbkey) (key : Dbkey) → AllByRecursion (IsLineKnown known) front → IsLineKnown known key → AllByRecursion (IsLineKnown known) (front ++ key ∷ [])
one_known known [] key all last = (last, tt)
one_known known (k ∷ ks) key all last = (all.0, one_known known ks key all.1 last)

one_row : (r : StoredRelation) (done : Lines) (rows : List StoredRow) (e : Dbkey × List ℕ) (x : StoredRow) → AreRowsOf r done rows → x.key ≡ e.0 → IsRowOf r e.1 x.row → AreRowsOf r (done ++ e ∷ []) (rows ++ x ∷ [])
one_row r [] [] e x are key row = (key, row, tt)
one_row r [] (y ∷ ys) e x are key row = absurd are
one_row r (d ∷ ds) [] e x are key row = absurd are
one_row r (d ∷ ds) (y ∷ ys) e x are key row = (are.0, are.1, one_row r ds ys e x are.2 key row)

-- the line of a key that is left is the map's
first_found : (r : StoredRelation) (all : Lines) (done es : Lines) (e : Dbkey × List ℕ) → IsInOrder all → lines_in r.area all ≡ done ++ e ∷ es → line_in e.0 all ≡ Some e.1
first_found r all done es e sorted stands = within done (subst (λ l. Found all l) stands (found_some all all (λ e. e.0.area == r.area) (found_all all sorted))) where
  within : (done : Lines) → Found all (done ++ e ∷ es) → line_in e.0 all ≡ Some e.1
  within [] found = found.0
  within (d ∷ ds) found = within ds found.1

split_row : (known : Knowledge) (r : StoredRelation) (key : Dbkey) (left : List Dbkey) (rows : List StoredRow) (row : List Value) (image : List ℕ) →
    known.line key ≡ Some (Some image) → IsRowOf r image row → (all : Lines) → IsInOrder all → Agrees known all → Splits r (key ∷ left) rows all → Splits r left (rows ++ record { key = key; row = row } ∷ []) all
split_row known r key left rows row image told is all sorted agrees s = go s.es s.stands s.keys where
  go : (es : Lines) → lines_in r.area all ≡ s.done ++ es → key ∷ left ≡ keys_of es → Splits r left (rows ++ record { key = key; row = row } ∷ []) all
  go [] stands keys = absurd (cc)
  go (e ∷ es) stands keys = record {
    done = s.done ++ e ∷ [];
    es = es;
    stands = stands ∙ sym (append_assoc s.done (e ∷ []) es);
    keys = ap tail keys;
    are = one_row r s.done rows e (record { key = key; row = row }) s.are (first keys)
        (subst (λ i. IsRowOf r i row) (same_Some _ _ (agrees.line key (Some image) told ∙ (ap (λ k. line_in k all) (first keys) ∙ first_found r all s.done es e sorted stands))) is);
  } where
    first : key ∷ left ≡ e.0 ∷ keys_of es → key ≡ e.0
    first eq = cc

    tail : List Dbkey → List Dbkey
    tail [] = []
    tail (k ∷ ks) = ks

split_absent : (known : Knowledge) (r : StoredRelation) (key : Dbkey) (left : List Dbkey) (rows : List StoredRow) →
    known.line key ≡ Some None → (all : Lines) → IsInOrder all → Agrees known all → Splits r (key ∷ left) rows all → Splits r left rows all
split_absent known r key left rows told all sorted agrees s = go s.es s.stands s.keys where
  go : (es : Lines) → lines_in r.area all ≡ s.done ++ es → key ∷ left ≡ keys_of es → Splits r left rows all
  go [] stands keys = absurd (cc)
  go (e ∷ es) stands keys = absurd (none-some e.1 (agrees.line key None told ∙ (ap (λ k. line_in k all) (first keys) ∙ first_found r all s.done es e sorted stands))) where
    first : key ∷ left ≡ e.0 ∷ keys_of es → key ≡ e.0
    first eq = cc

pub row_read : (known : Knowledge) (r : StoredRelation) (keys left : List Dbkey) (key : Dbkey) (rows : List StoredRow) (row : List Value) (image : List ℕ) →
    AreRead known r keys (key ∷ left) rows → known.line key ≡ Some (Some image) → IsRowOf r image row → AreRead known r keys left (rows ++ record { key = key; row = row } ∷ [])
row_read known r keys left key rows row image are told is = record {
  front = are.front ++ key ∷ [];
  stands = are.stands ∙ sym (append_assoc are.front (key ∷ []) left);
  lines = one_known known are.front key are.lines (ap is_some told);
  split = λ all sorted agrees. split_row known r key left rows row image told is all sorted agrees (are.split all sorted agrees);
}

pub absent_read : (known : Knowledge) (r : StoredRelation) (keys left : List Dbkey) (key : Dbkey) (rows : List StoredRow) →
    AreRead known r keys (key ∷ left) rows → known.line key ≡ Some None → AreRead known r keys left rows
absent_read known r keys left key rows are told = record {
  front = are.front ++ key ∷ [];
  stands = are.stands ∙ sym (append_assoc are.front (key ∷ []) left);
  lines = one_known known are.front key are.lines (ap is_some told);
  split = λ all sorted agrees. split_absent known r key left rows told all sorted agrees (are.split all sorted agrees);
}

pub all_read : (known : Knowledge) (r : StoredRelation) (keys : List Dbkey) (rows : List StoredRow) → AreRead known r keys [] rows → (all : Lines) → IsInOrder all → Agrees known all → AreRowsOf r (lines_in r.area all) rows
all_read known r keys rows are all sorted agrees = go (are.split all sorted agrees) where
  go : Splits r [] rows all → AreRowsOf r (lines_in r.area all) rows
  go s = subst (λ l. AreRowsOf r l rows) (sym (s.stands ∙ ends s.es s.keys)) s.are where
    ends : (es : Lines) → [] ≡ keys_of es → s.done ++ es ≡ s.done
    ends [] keys = append-nil s.done
    ends (e ∷ es) keys = absurd (cc)

pub area_known : (known : Knowledge) (r : StoredRelation) (keys : List Dbkey) (rows : List StoredRow) → known.area r.area ≡ Some keys → AreRead known r keys [] rows → IsAreaKnown known r.area
area_known known r keys rows told are = (keys, told, subst (AllByRecursion (IsLineKnown known)) (sym (are.stands ∙ append-nil are.front)) are.lines)

pub next_line : (known : Knowledge) (r : StoredRelation) (keys left : List Dbkey) (key : Dbkey) (rows : List StoredRow) → AreRead known r keys (key ∷ left) rows → known.line key ≡ None → IsNextLine known keys key
next_line known r keys left key rows are unknown = record { before = are.front; behind = left; stands = are.stands; read = are.lines; unknown = unknown }

in_area : (area : ℕ) (all : Lines) → AllByRecursion (λ key. key.area ≡ area) (keys_of (lines_in area all))
in_area area [] = tt
in_area area (e ∷ es) =
    elim (e.0.area == area) as (λ b. e.0.area == area ≡ b → AllByRecursion (λ key. key.area ≡ area) (keys_of (cond b (e ∷ lines_in area es) (lines_in area es)))) [
      | true ↦ λ p. (eqb-true e.0.area area p, in_area area es)
      | false ↦ λ p. in_area area es
    ] refl

area_of : (area : ℕ) (front left : List Dbkey) (key : Dbkey) → AllByRecursion (λ key. key.area ≡ area) (front ++ key ∷ left) → key.area ≡ area
area_of area [] left key within = within.0
area_of area (k ∷ ks) left key within = area_of area ks left key within.1

pub bad_line : (known : Knowledge) (r : StoredRelation) (keys left : List Dbkey) (key : Dbkey) (rows : List StoredRow) → AreRead known r keys (key ∷ left) rows → known.area r.area ≡ Some keys → IsBadAt known r key → (all : Lines) → Agrees known all → (key.area ≡ r.area) × IsBadIn r key all
bad_line known r keys left key rows are told bad all agrees = (
  area_of r.area are.front left key (subst (AllByRecursion (λ key. key.area ≡ r.area)) (sym (agrees.area r.area keys told) ∙ are.stands) (in_area r.area all)),
  (bad.0, sym (agrees.line key (Some bad.0) bad.1), bad.2),
)
