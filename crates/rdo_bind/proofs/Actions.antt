-- Bound actions: what they were written as, that one more is bound, and the parts of a STORE and of a FOR.
use Rattle.std.proofs.Common.{◌≡◌, None, List, [], ◌∷◌, ◌++◌, map, refl, ap, sym, subst, ◌∙◌, rules}
use Rattle.std.specs.List.{All}
use Rattle.rdo_ast.specs.declared.syntax.Range.{Range}
use Rattle.rdo_ast.specs.declared.syntax.Inner.{out-Inner}
use Rattle.rdo_ast.specs.declared.syntax.Selection.{Selection}
use Rattle.rdo_ast.specs.declared.syntax.Action as written
use Rattle.rdo_ast.specs.declared.syntax.Action.{Action}
use Rattle.rdo_ast.specs.Tree.{act}
use Rattle.rdo_ast.specs.Views as tree_of
use Rattle.rdb_meaning.specs.declared.tables.Tables.{Tables}
use Rattle.rdb_meaning.specs.Contents.{relation_named}
use Rattle.rdb_meaning.specs.Evaluation.{Scope, bind_source, bind_sources}
use Rattle.rdo_values.specs.declared.bound.BoundRange.{BoundRange}
use Rattle.rdo_values.specs.declared.bound.BoundSelection.{BoundSelection}
use Rattle.rdo_values.specs.Views.{ranging_of}
use Rattle.rdo_values.specs.Named.{named_ranging}
use Rattle.rdo_values.specs.Rows.{variables_of}
use Rattle.rdo_values.specs.Places.{IsRangeOf, ranges_in}
use Rattle.rdo_values.specs.Selections.{written_clause, IsBoundSelection}
use Rattle.rdo_bind.specs.declared.assign.BoundAssign.{BoundAssign}
use Rattle.rdo_bind.specs.declared.action.BoundAction as bound
use Rattle.rdo_bind.specs.declared.action.BoundAction.{BoundAction}
use Rattle.rdo_bind.specs.Assigning.{IsBoundAssign}
use Rattle.rdo_bind.specs.Acting.{act_of, acts_of, written_act, named_act, named_acts, IsBoundAct, AreBoundActs}
use Rattle.rdo_bind.proofs.Lists.{variables_behind, ranges_written}

pub act_added : (bs : List BoundAction) (b : BoundAction) (t : Tables) (vs : List Range) → AreBoundActs (acts_of (map act_of bs)) t vs → IsBoundAct (act_of b) t vs → AreBoundActs (acts_of (map act_of (bs ++ b ∷ []))) t vs
act_added [] b t vs h k = (k, tt)
act_added (c ∷ bs) b t vs h k = (h.0, act_added bs b t vs h.1 k)

acts_written : (bs : List BoundAction) → named_acts (acts_of (map act_of bs)) ≡ tree_of.acts_of (map written_act bs)
acts_written [] = refl
acts_written (b ∷ bs) = ap (act (written_act b)) (acts_written bs)

pub acts_alike : (bs : List BoundAction) (as' : List Action) → map written_act bs ≡ map tree_of.act_of as' → named_acts (acts_of (map act_of bs)) ≡ tree_of.acts_of (map tree_of.act_of as')
acts_alike bs as' h = acts_written bs ∙ ap tree_of.acts_of h

-- ---- STORE

pub store_bound : (s : BoundRange) (assigns : List BoundAssign) (range : Range) (t : Tables) (scope within : Scope) → s.range ≡ range → IsRangeOf s (relation_named range.relation t) → within ≡ scope ++ bind_source range None ∷ [] → All (IsBoundAssign t (variables_of within)) assigns → IsBoundAct (act_of (bound.Store s assigns)) t (variables_of scope)
store_bound s assigns range t scope within same relation more h =
    let behind = ap variables_of more ∙ variables_behind (range ∷ []) scope ∙ ap (λ r. variables_of scope ++ r ∷ []) (sym same) in
    let there : IsRangeOf s (relation_named s.range.relation t) = subst (λ r. IsRangeOf s (relation_named r.relation t)) (sym same) relation in
    let each : All (IsBoundAssign t (variables_of scope ++ s.range ∷ [])) assigns = subst (λ vs. All (IsBoundAssign t vs) assigns) behind h in
    search (rules, bound.the_lemmas)

-- ---- FOR

pub for_alike : (chosen : BoundSelection) (bs : List BoundAction) (a : Action) (s : Selection) (body : List Action) → a ≡ written.For s body → named_ranging (ranging_of chosen.inner) ≡ tree_of.ranging_of s.inner → map written_clause chosen.clauses ≡ s.clauses → named_acts (acts_of (map act_of bs)) ≡ tree_of.acts_of (map tree_of.act_of body) → named_act (act_of (bound.For chosen bs)) ≡ tree_of.act_of a
for_alike chosen bs a s body same ranges clauses acts = search (rules, bound.the_lemmas, written.the_lemmas)

pub for_bound : (chosen : BoundSelection) (bs : List BoundAction) (s : Selection) (t : Tables) (scope within : Scope) → named_ranging (ranging_of chosen.inner) ≡ tree_of.ranging_of s.inner → IsBoundSelection chosen t (variables_of scope) → within ≡ bind_sources (out-Inner s.inner).ranges scope → AreBoundActs (acts_of (map act_of bs)) t (variables_of within) → IsBoundAct (act_of (bound.For chosen bs)) t (variables_of scope)
for_bound chosen bs s t scope within ranges selected more h =
    let variables = ap variables_of more ∙ variables_behind (out-Inner s.inner).ranges scope ∙ ap (λ ss. variables_of scope ++ ss) (ranges_written _ s.inner ranges) in
    let all : AreBoundActs (acts_of (map act_of bs)) t (variables_of scope ++ ranges_in (ranging_of chosen.inner)) = subst (AreBoundActs (acts_of (map act_of bs)) t) variables h in
    search (rules, bound.the_lemmas)
