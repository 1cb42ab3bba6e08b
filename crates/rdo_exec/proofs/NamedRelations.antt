-- Whether one of two lists of uses names a relation.
use Rattle.std.proofs.Common.{◌≡◌, ◌||◌, ℕ, suc, true, false, not, arith, rules, map, nat_eq, length, List, [], ◌∷◌, ◌++◌, refl, sym, ap, subst, ◌∙◌}
use Rattle.std.proofs.lemmas.Bool.Decides.{nat_tests}
use Rattle.rdo_ast.specs.declared.syntax.Action.{Action}
use Rattle.rdo_ast.specs.declared.syntax.Action as actions
use Rattle.rdo_ast.specs.declared.syntax.Selection.{Selection}
use Rattle.rdo_ast.specs.Tree.{for_each}
use Rattle.rdo_ast.specs.Views.{ranging_of, act_of, acts_of}
use Rattle.rdo_ast.specs.declared.syntax.Range.{Range}
use Rattle.rdb_meaning.specs.Checks.{Use, source_uses, ranging_uses, act_uses}
use Rattle.rdb_meaning.specs.Evaluation.{sources_of}
use Rattle.rdo_exec.specs.Ways.{names_any, HasNoRange}

pub names_append : (us vs : List Use) → names_any (us ++ vs) ≡ (names_any us || names_any vs)
names_append [] vs = refl
names_append (u ∷ us) vs = refl

more_than_none : (n : ℕ) → nat_eq (suc n) 0 ≡ false
more_than_none n = grind (arith, rules, map, nat_tests)

pub ranges_name : (ss : List Range) → not (nat_eq (length ss) 0) ≡ names_any (source_uses ss)
ranges_name [] = refl
ranges_name (s ∷ ss) = ap not (more_than_none (length ss))

pub some_first : (us vs : List Use) → names_any us ≡ true → names_any (us ++ vs) ≡ true
some_first us vs some = names_append us vs ∙ ap (λ b. b || names_any vs) some

-- a FOR names what its selection does
pub for_names : (action : Action) (s : Selection) (body body' : List Action) → action ≡ actions.For s body → body' ≡ body → names_any (ranging_uses (ranging_of s.inner)) ≡ true → names_any (act_uses (act_of action) []) ≡ true
for_names action s body body' is same some =
    let it : act_of action ≡ for_each (ranging_of s.inner) s.clauses (acts_of (map act_of body')) = search (rules, actions.the_lemmas) in
    ap (λ a. names_any (act_uses a [])) it ∙ some_first (ranging_uses (ranging_of s.inner)) _ some

-- a FOR has no range where its selection has none
pub for_unranged : (action : Action) (s : Selection) (body : List Action) → action ≡ actions.For s body → names_any (source_uses (sources_of (ranging_of s.inner))) ≡ false → HasNoRange (act_of action)
for_unranged action s body is none =
    let it : act_of action ≡ for_each (ranging_of s.inner) s.clauses (acts_of (map act_of body)) = search (rules, actions.the_lemmas) in
    subst HasNoRange (sym it) none
