-- A bound form's scale is its named form's: the type that a reference carries is its field's.
use Rattle.std.proofs.Common.{◌≡◌, ℕ, Bool, true, false, if◌then◌else◌, List, [], ◌∷◌, ◌++◌, map, length, Option, Some, None, option_map, refl, ap, sym, ◌∙◌, subst}
use Rattle.std.proofs.lemmas.List.{map-append}
use Rattle.rdb_types.specs.declared.values.Field.{Field}
use Rattle.rdo_ast.specs.declared.syntax.Reference.{Reference}
use Rattle.rdo_ast.specs.declared.syntax.Range.{Range}
use Rattle.rdb_meaning.specs.declared.tables.Tables.{Tables}
use Rattle.rdb_meaning.specs.declared.scope.Binding.{Binding}
use Rattle.rdb_meaning.specs.Contents.{same_name, relation_named, fields_of}
use Rattle.rdb_meaning.specs.Evaluation.{Scope, bound_as, field_in, referred, scale_of_place, scale_by, scale_of, scale_after, bind_source, bind_sources}
use Rattle.rdo_values.specs.declared.bound.BoundReference.{BoundReference}
use Rattle.rdo_values.specs.Tree.{Expression, number, text, field, negative, chain, count, statistic, known, Operations, no_operation, operation, ranging}
use Rattle.rdo_values.specs.Named.{named, named_operations}
use Rattle.rdo_values.specs.Rows.{variable_of, variables_of}
use Rattle.rdo_values.specs.Places.{Place, place_of_field, behind, located, IsBound, AreBound}
use Rattle.rdo_values.specs.Scales.{scale_in, scale_behind}
use Rattle.rdo_values.proofs.Reading.{some_same}

-- the variables of a selection's ranges, before they have rows
pub variables_of_sources : (ss : List Range) (scope : Scope) → variables_of (bind_sources ss scope) ≡ variables_of scope ++ ss
variables_of_sources ss scope = map-append variable_of scope (map (λ s. bind_source s None) ss) ∙ ap (λ vs. variables_of scope ++ vs) (own ss)
  where
    own : (ss : List Range) → map variable_of (map (λ s. bind_source s None) ss) ≡ ss
    own [] = refl
    own (s ∷ ss) = ap (λ rest. s ∷ rest) (own ss)

own_scale : (found : Option (ℕ × Field)) (p : Place) → option_map place_of_field found ≡ Some p → p.kind.scale ≡ scale_of_place found
own_scale None p h = cc
own_scale (Some q) p h = ap (λ (p : Place). p.kind.scale) (sym (some_same (place_of_field q) p h))

other_scale : (n width : ℕ) (found : Option Place) (p : Place) → ((q : Place) → found ≡ Some q → q.kind.scale ≡ n) → option_map (behind width) found ≡ Some p → p.kind.scale ≡ n
other_scale n width None p later h = cc
other_scale n width (Some q) p later h = ap (λ (p : Place). p.kind.scale) (sym (some_same (behind width q) p h)) ∙ later q refl

abbrev scale_if_bound : Reference → Tables → Option Binding → ℕ
scale_if_bound r t (Some b) = scale_of_place (field_in r.field t b)
scale_if_bound r t None = 0

referred_scale : (r : Reference) (t : Tables) (scope : Scope) → scale_of_place (referred r t scope) ≡ scale_if_bound r t (bound_as r.variable scope)
referred_scale r t scope = told (bound_as r.variable scope) refl
  where
    told : (b : Option Binding) → bound_as r.variable scope ≡ b → scale_of_place (referred r t scope) ≡ scale_if_bound r t b
    told (Some b) e = cc e
    told None e = cc e

abbrev width_of : Tables → Binding → ℕ
width_of t b = length (fields_of (relation_named b.relation t))

variable_step : (same : Bool) (t : Tables) (b : Binding) (scope : Scope) (r : Reference) (p : Place) → ((q : Place) → located r t (variables_of scope) ≡ Some q → q.kind.scale ≡ scale_if_bound r t (bound_as r.variable scope)) → (if same then option_map place_of_field (field_in r.field t b) else option_map (behind (width_of t b)) (located r t (variables_of scope))) ≡ Some p → p.kind.scale ≡ scale_if_bound r t (if same then Some b else bound_as r.variable scope)
variable_step true t b scope r p later h = own_scale (field_in r.field t b) p h
variable_step false t b scope r p later h = other_scale (scale_if_bound r t (bound_as r.variable scope)) (width_of t b) (located r t (variables_of scope)) p later h

scale_located : (t : Tables) (scope : Scope) (r : Reference) (p : Place) → located r t (variables_of scope) ≡ Some p → p.kind.scale ≡ scale_if_bound r t (bound_as r.variable scope)
scale_located t [] r p h = cc
scale_located t (b ∷ scope) r p h = variable_step (same_name r.variable b.variable) t b scope r p (scale_located t scope r) h

placed_scale : (t : Tables) (scope : Scope) (r : BoundReference) → located r.reference t (variables_of scope) ≡ Some (record { place = r.place; kind = r.kind }) → r.kind.scale ≡ scale_of_place (referred r.reference t scope)
placed_scale t scope r h = scale_located t scope r.reference (record { place = r.place; kind = r.kind }) h ∙ sym (referred_scale r.reference t scope)

mutual
  pub scale_named : (e : Expression) (t : Tables) (scope : Scope) → IsBound e t (variables_of scope) → scale_in e ≡ scale_of (named e) t scope
  scale_named (number n scale) t scope b = refl
  scale_named (text s) t scope b = refl
  scale_named (field r) t scope b = placed_scale t scope r b
  scale_named (negative e) t scope b = scale_named e t scope b
  scale_named (chain e os) t scope b =
      ap (λ s. scale_behind s os) (scale_named e t scope b.0) ∙ scale_named_behind os (scale_of (named e) t scope) t scope b.1
  scale_named (count r) t scope b = refl
  scale_named (statistic s e (ranging first ss c)) t scope b =
      scale_named e t (bind_sources (map (λ s. s.range) ss) scope)
      (subst (IsBound e t) (sym (variables_of_sources (map (λ s. s.range) ss) scope)) b.0)
  scale_named (known e v) t scope b = scale_named e t scope b

  scale_named_behind : (os : Operations) (s : ℕ) (t : Tables) (scope : Scope) → AreBound os t (variables_of scope) → scale_behind s os ≡ scale_after s (named_operations os) t scope
  scale_named_behind no_operation s t scope b = refl
  scale_named_behind (operation op e os) s t scope b =
      ap (λ n. scale_behind (scale_by op s n) os) (scale_named e t scope b.0)
      ∙ scale_named_behind os (scale_by op s (scale_of (named e) t scope)) t scope b.1
