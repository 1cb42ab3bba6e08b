-- Each tuple of a selection has a Dbkey for each of its ranges.
use Rattle.std.proofs.Common.{◌≡◌, ℕ, zero, suc, take, List, [], ◌∷◌, map, length, Option, Some, None, refl, ap}
use Rattle.std.specs.List.{AllByRecursion, flat_map}
use Rattle.rdb_types.specs.declared.keys.Dbkey.{Dbkey}
use Rattle.rdo_ast.specs.declared.syntax.Range.{Range}
use Rattle.rdb_meaning.specs.declared.tables.Tables.{Tables}
use Rattle.rdb_meaning.specs.Comparison.{Verdict, chosen, passed_over, undecided}
use Rattle.rdb_meaning.specs.Contents.{Row, relation_named, rows_of}
use Rattle.rdb_meaning.specs.Evaluation.{Scope, Tuple, tuples_of, Selected, these, not_computed, kept_with, kept, first_of, on_selected, selected}
use Rattle.sorted_index_laws.proofs.Ordered.{all_append}
use Rattle.rdo_values.specs.Tree.{Ranging, ranging}
use Rattle.rdo_values.specs.Named.{named_ranging}
use Rattle.rdo_values.specs.Places.{ranges_in}
use Rattle.rdo_select.specs.Work.{tuples_known}

abbrev pub IsOver : {S : Type 0} → List S → Tuple → Type 0
IsOver ss ks = length ks ≡ length ss

abbrev AreOver : List Range → Selected → Type 0
AreOver ss (these ks) = AllByRecursion (IsOver ss) ks
AreOver ss not_computed = Unit {0}

headed : (s : Range) (ss : List Range) (k : Dbkey) (ks : List Tuple) → AllByRecursion (IsOver ss) ks → AllByRecursion (IsOver (s ∷ ss)) (map (λ rest. k ∷ rest) ks)
headed s ss k [] h = tt
headed s ss k (x ∷ xs) h = (ap suc h.0, headed s ss k xs h.1)

crossed : (s : Range) (ss : List Range) (ks : List Tuple) (es : List (Dbkey × Row)) → AllByRecursion (IsOver ss) ks → AllByRecursion (IsOver (s ∷ ss)) (flat_map (λ e. map (λ rest. e.0 ∷ rest) ks) es)
crossed s ss ks [] h = tt
crossed s ss ks (e ∷ es) h = all_append (IsOver (s ∷ ss)) (map (λ rest. e.0 ∷ rest) ks) (flat_map (λ (e : Dbkey × Row). map (λ rest. e.0 ∷ rest) ks) es) (headed s ss e.0 ks h) (crossed s ss ks es h)

all_over : (ss : List Range) (t : Tables) → AllByRecursion (IsOver ss) (tuples_of ss t)
all_over [] t = (refl, tt)
all_over (s ∷ ss) t = crossed s ss (tuples_of ss t) (rows_of (relation_named s.relation t)) (all_over ss t)

with_over : (ss : List Range) (v : Verdict) (k : Tuple) (s : Selected) → IsOver ss k → AreOver ss s → AreOver ss (kept_with v k s)
with_over ss chosen k (these ks) h o = (h, o)
with_over ss passed_over k (these ks) h o = o
with_over ss undecided k (these ks) h o = tt
with_over ss chosen k not_computed h o = tt
with_over ss passed_over k not_computed h o = tt
with_over ss undecided k not_computed h o = tt

kept_over : (ss : List Range) (f : Tuple → Verdict) (ks : List Tuple) → AllByRecursion (IsOver ss) ks → AreOver ss (kept f ks)
kept_over ss f [] h = tt
kept_over ss f (k ∷ ks) h = with_over ss (f k) k (kept f ks) h.0 (kept_over ss f ks h.1)

taken : (ss : List Range) (n : ℕ) (ks : List Tuple) → AllByRecursion (IsOver ss) ks → AllByRecursion (IsOver ss) (take n ks)
taken ss zero ks h = tt
taken ss (suc n) [] h = tt
taken ss (suc n) (k ∷ ks) h = (h.0, taken ss n ks h.1)

first_over : (ss : List Range) (n : Option ℕ) (s : Selected) → AreOver ss s → AllByRecursion (IsOver ss) (tuples_known (on_selected (first_of n) s))
first_over ss None (these ks) h = h
first_over ss (Some n) (these ks) h = taken ss n ks h
first_over ss n not_computed h = tt

pub selected_over : (r : Ranging) (t : Tables) (scope : Scope) → AllByRecursion (IsOver (ranges_in r)) (tuples_known (selected (named_ranging r) t scope))
selected_over (ranging first ss c) t scope =
    let rs = ranges_in (ranging first ss c) in
    first_over rs first (kept _ (tuples_of rs t)) (kept_over rs _ (tuples_of rs t) (all_over rs t))
