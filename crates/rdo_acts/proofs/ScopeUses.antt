-- The uses of an action hang on the variables around it and their relations alone, not on the rows that these are bound to.
use Rattle.std.proofs.Common.{◌≡◌, true, false, cond, List, [], ◌∷◌, ◌++◌, Some, refl, sym, ap, subst, ◌∙◌}
use Rattle.std.proofs.lemmas.List.{map-append}
use Rattle.rdo_ast.specs.declared.syntax.Range.{Range}
use Rattle.rdo_ast.specs.Tree.{Name, Act, store, for_each, print, modify, erase, Acts, no_act, act}
use Rattle.rdb_meaning.specs.declared.tables.Tables.{Tables}
use Rattle.rdb_meaning.specs.Contents.{same_name}
use Rattle.rdb_meaning.specs.Checks.{Use, use_of, source_uses, ranging_uses, assignments_uses, change_of, with_uses, act_uses, acts_uses}
use Rattle.rdb_meaning.specs.Evaluation.{Scope, bound_as, bind_sources, sources_of}
use Rattle.rdo_values.specs.Rows.{variables_of}
use Rattle.rdo_values.specs.Tree.{Ranging, ranging}
use Rattle.rdo_values.specs.Named.{named_ranging, named_with}
use Rattle.rdo_values.specs.Places.{ranges_in}
use Rattle.rdo_bind.specs.Acting as bound
use Rattle.rdo_bind.specs.Acting.{named_acts}
use Rattle.rdo_bind.proofs.Lists.{variables_behind}
use Rattle.rdo_acts.specs.Areas.{scope_uses, body_uses}
use Rattle.rdo_acts.proofs.UsesWithin.{Within, then, before, behind, both}

-- ---- which relation a variable changes

abbrev change_in : Name → List Range → List Use
change_in n [] = []
change_in n (s ∷ ss) = cond (same_name n s.variable) (use_of true s.relation ∷ []) (change_in n ss)

change_is : (n : Name) (scope : Scope) → change_of (bound_as n scope) ≡ change_in n (variables_of scope)
change_is n [] = refl
change_is n (b ∷ scope) =
    elim (same_name n b.variable) as (λ x. change_of (cond x (Some b) (bound_as n scope)) ≡ cond x (use_of true b.relation ∷ []) (change_in n (variables_of scope))) [
      | true ↦ refl
      | false ↦ change_is n scope
    ]

change_same : (n : Name) (p q : Scope) → variables_of p ≡ variables_of q → change_of (bound_as n p) ≡ change_of (bound_as n q)
change_same n p q same = change_is n p ∙ ap (change_in n) same ∙ sym (change_is n q)

bind_same : (ss : List Range) (p q : Scope) → variables_of p ≡ variables_of q → variables_of (bind_sources ss p) ≡ variables_of (bind_sources ss q)
bind_same ss p q same = variables_behind ss p ∙ ap (λ (vs : List Range). vs ++ ss) same ∙ sym (variables_behind ss q)

mutual
  act_same : (a : Act) (p q : Scope) → variables_of p ≡ variables_of q → act_uses a p ≡ act_uses a q
  act_same (store s as') p q same = refl
  act_same (for_each r cs body) p q same = ap (λ (us : List Use). ranging_uses r ++ us) (acts_same body (bind_sources (sources_of r) p) (bind_sources (sources_of r) q) (bind_same (sources_of r) p q same))
  act_same (print items) p q same = refl
  act_same (modify n as') p q same = ap (λ (us : List Use). us ++ assignments_uses as') (change_same n p q same)
  act_same (erase n) p q same = change_same n p q same

  acts_same : (as' : Acts) (p q : Scope) → variables_of p ≡ variables_of q → acts_uses as' p ≡ acts_uses as' q
  acts_same no_act p q same = refl
  acts_same (act a rest) p q same = λ i. act_same a p q same i ++ acts_same rest p q same i

-- the uses of a body are the same behind the same variables
pub body_same : (as' : bound.Acts) (p q : Scope) → variables_of p ≡ variables_of q → body_uses as' p ≡ body_uses as' q
body_same as' p q same = λ i. source_uses (same i) ++ acts_same (named_acts as') p q same i

-- ---- the body of a FOR

sources_are : (r : Ranging) → sources_of (named_ranging r) ≡ ranges_in r
sources_are (ranging first ss c) = refl

module _ (t : Tables) where
  ranges_within : (r : Ranging) → Within t (source_uses (ranges_in r)) (ranging_uses (named_ranging r))
  ranges_within (ranging first ss c) = before t (source_uses (ranges_in (ranging first ss c))) (with_uses (named_with c))

  -- what its body uses, with the rows of all variables, is used by the FOR with the rows of the variables around it
  pub body_within : (r : Ranging) (body : bound.Acts) (ss : List Range) (scope : Scope) → ss ≡ ranges_in r →
      Within t (body_uses body (bind_sources ss scope)) (scope_uses scope ++ (ranging_uses (named_ranging r) ++ acts_uses (named_acts body) (bind_sources (sources_of (named_ranging r)) scope)))
  body_within r body ss scope is =
      let acts = acts_uses (named_acts body) (bind_sources (sources_of (named_ranging r)) scope) in
      let all = scope_uses scope ++ (ranging_uses (named_ranging r) ++ acts) in
      let outer = scope_uses scope in
      let inner = source_uses (ranges_in r) in
      let one : Within t (outer ++ inner) all =
      both t outer inner all (before t outer (ranging_uses (named_ranging r) ++ acts))
      (then t inner (ranging_uses (named_ranging r)) all (ranges_within r)
      (then t (ranging_uses (named_ranging r)) (ranging_uses (named_ranging r) ++ acts) all (before t (ranging_uses (named_ranging r)) acts) (behind t outer (ranging_uses (named_ranging r) ++ acts)))) in
      let two : Within t acts all = then t acts (ranging_uses (named_ranging r) ++ acts) all (behind t (ranging_uses (named_ranging r)) acts) (behind t outer (ranging_uses (named_ranging r) ++ acts)) in
      let scopes : scope_uses (bind_sources ss scope) ≡ outer ++ inner =
      ap source_uses (variables_behind ss scope) ∙ map-append (λ (s : Range). use_of false s.relation) (variables_of scope) ss ∙ ap (λ (rs : List Range). outer ++ source_uses rs) is in
      let bodies : acts_uses (named_acts body) (bind_sources ss scope) ≡ acts = ap (λ (rs : List Range). acts_uses (named_acts body) (bind_sources rs scope)) (is ∙ sym (sources_are r)) in
      subst (λ (us : List Use). Within t us all) (λ i. (sym scopes i) ++ (sym bodies i)) (both t (outer ++ inner) acts all one two)

  -- what its selection uses
  pub selection_within : (r : Ranging) (body : bound.Acts) (scope : Scope) → Within t (ranging_uses (named_ranging r)) (scope_uses scope ++ (ranging_uses (named_ranging r) ++ acts_uses (named_acts body) (bind_sources (sources_of (named_ranging r)) scope)))
  selection_within r body scope =
      let us = ranging_uses (named_ranging r) in
      let acts = acts_uses (named_acts body) (bind_sources (sources_of (named_ranging r)) scope) in
      then t us (us ++ acts) (scope_uses scope ++ (us ++ acts)) (before t us acts) (behind t (scope_uses scope) (us ++ acts))
