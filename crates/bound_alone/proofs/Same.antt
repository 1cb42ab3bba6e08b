-- A form that is bound in tables is bound in all tables of their schema.
use Rattle.std.proofs.Common.{◌≡◌, List, [], ◌∷◌, ◌++◌, map, length, Option, Some, None, refl, sym, subst, ◌∙◌, if◌then◌else◌}
use Rattle.std.specs.Prelude.{option_map}
use Rattle.std.proofs.lemmas.List.Elements.{All-weaker}
use Rattle.rdo_ast.specs.declared.syntax.Reference.{Reference}
use Rattle.rdo_ast.specs.declared.syntax.Range.{Range}
use Rattle.rdo_ast.specs.Tree.{Name}
use Rattle.rdb_meaning.specs.declared.tables.Relation.{Relation}
use Rattle.rdb_meaning.specs.declared.tables.Tables.{Tables}
use Rattle.rdb_meaning.specs.Contents.{same_name, relation_named, place_of}
use Rattle.rdo_values.specs.declared.bound.BoundReference.{BoundReference}
use Rattle.rdo_values.specs.declared.bound.BoundRange.{BoundRange}
use Rattle.rdo_values.specs.declared.bound.BoundClause.{BoundClause}
use Rattle.rdo_values.specs.declared.bound.BoundClause.TheVariants.{Sorted, Reduced}
use Rattle.rdo_values.specs.declared.bound.BoundSelection.{BoundSelection}
use Rattle.rdo_values.specs.Tree.{Expression, number, text, field, negative, chain, count, statistic, known, Operations, no_operation, operation, Testing, compare, between, containing, starting_with, missing, any, negated, group, decided, Conjunction, no_test, test, Condition, no_conjunction, conjunction, Ranging, ranging, With, without_condition, with_condition}
use Rattle.rdo_values.specs.Views.{ranging_of}
use Rattle.rdo_values.specs.Places.{place_of_field, behind, located, IsPlaced, IsRangeOf, AreRanges, ranges_in, IsBound, AreBound, IsBoundTesting, IsBoundConjunction, IsBoundCondition, IsBoundWith, IsBoundRanging}
use Rattle.rdo_values.specs.Selections.{IsPlacedKey, IsPlacedReference, IsBoundClause, IsBoundSelection}
use Rattle.schema_alone.specs.Schema.{bare, OneSchema}
use Rattle.schema_alone.proofs.Same.{fields_same}

range_bare : (s : BoundRange) (o : Option Relation) → IsRangeOf s o → IsRangeOf s (option_map bare o)
range_bare s None is = is
range_bare s (Some r) is = is

range_filled : (s : BoundRange) (o : Option Relation) → IsRangeOf s (option_map bare o) → IsRangeOf s o
range_filled s None is = is
range_filled s (Some r) is = is

module _ (t u : Tables) (one : OneSchema t u) where
  located_same : (r : Reference) (vs : List Range) → located r t vs ≡ located r u vs
  located_same r [] = refl
  located_same r (s ∷ ss) =
      λ i. if same_name r.variable s.variable
      then option_map place_of_field (place_of r.field (fields_same t u one s.relation i))
      else option_map (behind (length (fields_same t u one s.relation i))) (located_same r ss i)

  pub placed : (r : BoundReference) (vs : List Range) → IsPlaced r t vs → IsPlaced r u vs
  placed r vs is = sym (located_same r.reference vs) ∙ is

  pub range : (s : BoundRange) (n : Name) → IsRangeOf s (relation_named n t) → IsRangeOf s (relation_named n u)
  range s n is = range_filled s (relation_named n u) (subst (IsRangeOf s) (one n) (range_bare s (relation_named n t) is))

  ranges : (ss : List BoundRange) → AreRanges ss t → AreRanges ss u
  ranges [] are = tt
  ranges (s ∷ ss) are = (range s s.range.relation are.0, ranges ss are.1)

  mutual
    pub bound : (e : Expression) (vs : List Range) → IsBound e t vs → IsBound e u vs
    bound (number n scale) vs is = tt
    bound (text s) vs is = tt
    bound (field r) vs is = placed r vs is
    bound (negative e) vs is = bound e vs is
    bound (chain e os) vs is = (bound e vs is.0, all_bound os vs is.1)
    bound (count r) vs is = bound_ranging r vs is
    bound (statistic s e r) vs is = (bound e (vs ++ ranges_in r) is.0, bound_ranging r vs is.1)
    bound (known e v) vs is = bound e vs is

    all_bound : (os : Operations) (vs : List Range) → AreBound os t vs → AreBound os u vs
    all_bound no_operation vs is = tt
    all_bound (operation op e os) vs is = (bound e vs is.0, all_bound os vs is.1)

    bound_testing : (c : Testing) (vs : List Range) → IsBoundTesting c t vs → IsBoundTesting c u vs
    bound_testing (compare op a b) vs is = (bound a vs is.0, bound b vs is.1)
    bound_testing (between a low high) vs is = (bound a vs is.0, bound low vs is.1, bound high vs is.2)
    bound_testing (containing a b) vs is = (bound a vs is.0, bound b vs is.1)
    bound_testing (starting_with a b) vs is = (bound a vs is.0, bound b vs is.1)
    bound_testing (missing e) vs is = bound e vs is
    bound_testing (any r) vs is = bound_ranging r vs is
    bound_testing (negated c) vs is = bound_testing c vs is
    bound_testing (group c) vs is = bound_condition c vs is
    bound_testing (decided c v) vs is = bound_testing c vs is

    bound_conjunction : (c : Conjunction) (vs : List Range) → IsBoundConjunction c t vs → IsBoundConjunction c u vs
    bound_conjunction no_test vs is = tt
    bound_conjunction (test c cs) vs is = (bound_testing c vs is.0, bound_conjunction cs vs is.1)

    bound_condition : (c : Condition) (vs : List Range) → IsBoundCondition c t vs → IsBoundCondition c u vs
    bound_condition no_conjunction vs is = tt
    bound_condition (conjunction c cs) vs is = (bound_conjunction c vs is.0, bound_condition cs vs is.1)

    bound_with : (c : With) (vs : List Range) → IsBoundWith c t vs → IsBoundWith c u vs
    bound_with without_condition vs is = tt
    bound_with (with_condition c) vs is = bound_condition c vs is

    bound_ranging : (r : Ranging) (vs : List Range) → IsBoundRanging r t vs → IsBoundRanging r u vs
    bound_ranging (ranging first ss c) vs is = (ranges ss is.0, bound_with c (vs ++ map (λ s. s.range) ss) is.1)

  clause : (vs : List Range) (c : BoundClause) → IsBoundClause t vs c → IsBoundClause u vs c
  clause vs (Sorted keys) is = All-weaker (IsPlacedKey t vs) (IsPlacedKey u vs) (λ k own. placed k.reference vs own) keys is
  clause vs (Reduced refs) is = All-weaker (IsPlacedReference t vs) (IsPlacedReference u vs) (λ r own. placed r vs own) refs is

  pub selection_same : (s : BoundSelection) (vs : List Range) → IsBoundSelection s t vs → IsBoundSelection s u vs
  selection_same s vs is =
      let inner = vs ++ ranges_in (ranging_of s.inner) in
      (bound_ranging (ranging_of s.inner) vs is.0, All-weaker (IsBoundClause t inner) (IsBoundClause u inner) (clause inner) s.clauses is.1)
