-- Lists of bound forms: what they were written as, and that one more is bound.
use Rattle.std.proofs.Common.{◌≡◌, ℕ, ◌+◌, ◌<◌, Option, None, option_map, List, [], ◌∷◌, ◌++◌, map, take, drop, length, get_or, refl, ap, sym, subst, ◌∙◌, append_assoc, rules}
use Rattle.std.specs.List.{All}
use Rattle.std.proofs.lemmas.List.Elements.{All-append, All-cons, All-nil}
use Rattle.std.proofs.lemmas.List.{map-append, take_more, at_drop_more}
use Rattle.rdo_ast.specs.declared.syntax.Range.{Range}
use Rattle.rdo_ast.specs.declared.syntax.Statistic.{Statistic}
use Rattle.rdo_ast.specs.declared.syntax.Expression as written_tree
use Rattle.rdo_ast.specs.declared.syntax.Expression.{Expression}
use Rattle.rdo_ast.specs.declared.syntax.Operation.{Operation}
use Rattle.rdo_ast.specs.declared.syntax.Test.{Test}
use Rattle.rdo_ast.specs.declared.syntax.Conjunction as written
use Rattle.rdo_ast.specs.declared.syntax.Inner.{Inner, out-Inner}
use Rattle.rdo_ast.specs.declared.syntax.Condition.{Condition, out-Condition}
use Rattle.rdo_ast.specs.Tree.{operation, test, conjunction}
use Rattle.rdo_ast.specs.Views as tree_of
use Rattle.rdb_meaning.specs.declared.tables.Tables.{Tables}
use Rattle.rdb_meaning.specs.Contents.{relation_named}
use Rattle.rdb_meaning.specs.Evaluation.{Scope, bind_source, bind_sources, sources_of}
use Rattle.rdb_meaning.specs.Checks.{Refusal, or_else, source_names, sources_names, expression_names, operations_names, conjunction_names, condition_names}
use Rattle.rdo_values.specs.declared.bound.BoundExpression as tree
use Rattle.rdo_values.specs.declared.bound.BoundExpression.{BoundExpression}
use Rattle.rdo_values.specs.declared.bound.BoundCondition.{BoundCondition, roll-BoundCondition}
use Rattle.rdo_values.specs.declared.bound.BoundInner.{roll-BoundInner}
use Rattle.rdo_values.specs.declared.bound.BoundRange.{BoundRange}
use Rattle.rdo_values.specs.declared.bound.BoundOperation.{BoundOperation}
use Rattle.rdo_values.specs.declared.bound.BoundTest.{BoundTest}
use Rattle.rdo_values.specs.declared.bound.BoundConjunction.{BoundConjunction, roll-BoundConjunction}
use Rattle.rdo_values.specs.Views.{expression_of, operations_of, applied_of, testing_of, conjunction_of, condition_of, conjunction_with, condition_with, ranging_of, with_of}
use Rattle.rdo_values.specs.Named.{named, named_operations, named_conjunction, named_condition, named_ranging}
use Rattle.rdo_values.specs.Tree.{Ranging, ranging}
use Rattle.rdo_values.specs.Rows.{variable_of, variables_of}
use Rattle.rdo_values.specs.Places.{ranges_in, AreRanges, IsRangeOf, IsBound, AreBound, IsBoundTesting, IsBoundConjunction, IsBoundCondition, IsBoundWith, IsBoundRanging}
use Rattle.rdo_bind.specs.Answers.{written_range, written_operation, written_test, written_conjunction}

-- ---- ranges

pub range_added : (bs : List BoundRange) (b : BoundRange) (t : Tables) → AreRanges bs t → IsRangeOf b (relation_named b.range.relation t) → AreRanges (bs ++ b ∷ []) t
range_added [] b t h r = (r, tt)
range_added (c ∷ bs) b t h r = (h.0, range_added bs b t h.1 r)

sources_variables : (ss : List Range) → map variable_of (map (λ s. bind_source s None) ss) ≡ ss
sources_variables [] = refl
sources_variables (s ∷ ss) = ap (λ rest. s ∷ rest) (sources_variables ss)

pub variables_behind : (ss : List Range) (scope : Scope) → variables_of (bind_sources ss scope) ≡ variables_of scope ++ ss
variables_behind ss scope = map-append variable_of scope (map (λ s. bind_source s None) ss) ∙ ap (λ vs. variables_of scope ++ vs) (sources_variables ss)

-- ---- operations

operations_first : (b : BoundOperation) (bs : List BoundOperation) → named_operations (operations_of (map applied_of (b ∷ bs))) ≡ operation b.operator (named (expression_of b.operand)) (named_operations (operations_of (map applied_of bs)))
operations_first b bs = search (rules, tree.the_lemmas)

operations_written : (bs : List BoundOperation) → named_operations (operations_of (map applied_of bs)) ≡ tree_of.operations_of (map written_operation bs)
operations_written [] = refl
operations_written (b ∷ bs) = operations_first b bs ∙ ap (operation b.operator (named (expression_of b.operand))) (operations_written bs)

pub operations_alike : (bs : List BoundOperation) (os : List Operation) → map written_operation bs ≡ map tree_of.applied_of os → named_operations (operations_of (map applied_of bs)) ≡ tree_of.operations_of (map tree_of.applied_of os)
operations_alike bs os h = operations_written bs ∙ ap tree_of.operations_of h

first_bound : (b : BoundOperation) (bs : List BoundOperation) (t : Tables) (vs : List Range) → IsBound (expression_of b.operand) t vs → AreBound (operations_of (map applied_of bs)) t vs → AreBound (operations_of (map applied_of (b ∷ bs))) t vs
first_bound b bs t vs h k = search (rules, tree.the_lemmas)

rest_bound : (b : BoundOperation) (bs : List BoundOperation) (t : Tables) (vs : List Range) → AreBound (operations_of (map applied_of (b ∷ bs))) t vs → IsBound (expression_of b.operand) t vs × AreBound (operations_of (map applied_of bs)) t vs
rest_bound b bs t vs h = search (rules, tree.the_lemmas)

pub operation_added : (bs : List BoundOperation) (b : BoundOperation) (t : Tables) (vs : List Range) → AreBound (operations_of (map applied_of bs)) t vs → IsBound (expression_of b.operand) t vs → AreBound (operations_of (map applied_of (bs ++ b ∷ []))) t vs
operation_added [] b t vs h k = first_bound b [] t vs k tt
operation_added (c ∷ bs) b t vs h k =
    let rest = rest_bound c bs t vs h in
    first_bound c (bs ++ b ∷ []) t vs rest.0 (operation_added bs b t vs rest.1 k)

-- ---- tests

tests_written : (bs : List BoundTest) → named_conjunction (conjunction_with (map testing_of bs)) ≡ tree_of.conjunction_with (map written_test bs)
tests_written [] = refl
tests_written (b ∷ bs) = ap (test (written_test b)) (tests_written bs)

pub tests_alike : (bs : List BoundTest) (cs : List Test) → map written_test bs ≡ map tree_of.testing_of cs → named_conjunction (conjunction_with (map testing_of bs)) ≡ tree_of.conjunction_with (map tree_of.testing_of cs)
tests_alike bs cs h = tests_written bs ∙ ap tree_of.conjunction_with h

pub test_added : (bs : List BoundTest) (b : BoundTest) (t : Tables) (vs : List Range) → IsBoundConjunction (conjunction_with (map testing_of bs)) t vs → IsBoundTesting (testing_of b) t vs → IsBoundConjunction (conjunction_with (map testing_of (bs ++ b ∷ []))) t vs
test_added [] b t vs h k = (k, tt)
test_added (c ∷ bs) b t vs h k = (h.0, test_added bs b t vs h.1 k)

-- ---- conjunctions

conjunctions_written : (bs : List BoundConjunction) → named_condition (condition_with (map conjunction_of bs)) ≡ tree_of.condition_with (map written_conjunction bs)
conjunctions_written [] = refl
conjunctions_written (b ∷ bs) = ap (conjunction (written_conjunction b)) (conjunctions_written bs)

pub conjunctions_alike : (bs : List BoundConjunction) (cs : List written.Conjunction) → map written_conjunction bs ≡ map tree_of.conjunction_of cs → named_condition (condition_with (map conjunction_of bs)) ≡ tree_of.condition_with (map tree_of.conjunction_of cs)
conjunctions_alike bs cs h = conjunctions_written bs ∙ ap tree_of.condition_with h

pub conjunction_added : (bs : List BoundConjunction) (b : BoundConjunction) (t : Tables) (vs : List Range) → IsBoundCondition (condition_with (map conjunction_of bs)) t vs → IsBoundConjunction (conjunction_of b) t vs → IsBoundCondition (condition_with (map conjunction_of (bs ++ b ∷ []))) t vs
conjunction_added [] b t vs h k = (k, tt)
conjunction_added (c ∷ bs) b t vs h k = (h.0, conjunction_added bs b t vs h.1 k)

-- ---- one step of a loop over what is bound

pub written_more : {X Y Z : Type 0} (f : X → Z) (g : Y → Z) (bs : List X) (b : X) (ys : List Y) (i : ℕ) (y : Y) → map f bs ≡ map g (take i ys) → i < length ys → y ≡ get_or ys i y → f b ≡ g y → map f (bs ++ b ∷ []) ≡ map g (take (i + 1) ys)
written_more f g bs b ys i y inv h e alike =
    map-append f bs (b ∷ []) ∙ (λ j. inv j ++ (alike ∙ ap g e) j ∷ []) ∙ sym (ap (map g) (take_more ys i y h) ∙ map-append g (take i ys) (get_or ys i y ∷ []))

pub names_more : {X : Type 0} (F : List X → Refusal) (xs : List X) (i : ℕ) (x : X) (total first : Refusal) → i < length xs → x ≡ get_or xs i x → total ≡ F (drop i xs) → F (x ∷ drop (i + 1) xs) ≡ or_else first (F (drop (i + 1) xs)) → first ≡ None → total ≡ F (drop (i + 1) xs)
names_more F xs i x total first h e inv step none =
    inv ∙ at_drop_more F xs i x h ∙ ap (λ y. F (y ∷ drop (i + 1) xs)) (sym e) ∙ step ∙ ap (λ r. or_else r (F (drop (i + 1) xs))) none

pub operations_names_first : (o : Operation) (os : List Operation) (t : Tables) (scope : Scope) → operations_names (tree_of.operations_of (map tree_of.applied_of (o ∷ os))) t scope ≡ or_else (expression_names (tree_of.expression_of o.operand) t scope) (operations_names (tree_of.operations_of (map tree_of.applied_of os)) t scope)
operations_names_first o os t scope = search (rules, written_tree.the_lemmas)

pub conjunctions_names_first : (c : written.Conjunction) (cs : List written.Conjunction) (t : Tables) (scope : Scope) → condition_names (tree_of.condition_with (map tree_of.conjunction_of (c ∷ cs))) t scope ≡ or_else (conjunction_names (tree_of.conjunction_with (map tree_of.testing_of c.tests)) t scope) (condition_names (tree_of.condition_with (map tree_of.conjunction_of cs)) t scope)
conjunctions_names_first c cs t scope = search (rules, written_tree.the_lemmas)

pub operation_alike : (b : BoundOperation) (o : Operation) → b.operator ≡ o.operator → named (expression_of b.operand) ≡ tree_of.expression_of o.operand → written_operation b ≡ tree_of.applied_of o
operation_alike b o h k = search (rules, written_tree.the_lemmas)

pub conjunction_alike : (bs : List BoundTest) (c : written.Conjunction) → named_conjunction (conjunction_with (map testing_of bs)) ≡ tree_of.conjunction_with (map tree_of.testing_of c.tests) → written_conjunction (roll-BoundConjunction (record { tests = bs })) ≡ tree_of.conjunction_of c
conjunction_alike bs c h = search (rules, tree.the_lemmas, written_tree.the_lemmas)

pub conjunction_bound : (bs : List BoundTest) (t : Tables) (vs : List Range) → IsBoundConjunction (conjunction_with (map testing_of bs)) t vs → IsBoundConjunction (conjunction_of (roll-BoundConjunction (record { tests = bs }))) t vs
conjunction_bound bs t vs h = search (rules, tree.the_lemmas)

-- ---- whole forms

pub chain_alike : (f : BoundExpression) (bs : List BoundOperation) (e first : Expression) (os : List Operation) → e ≡ written_tree.Chain first os → named (expression_of f) ≡ tree_of.expression_of first → named_operations (operations_of (map applied_of bs)) ≡ tree_of.operations_of (map tree_of.applied_of os) → named (expression_of (tree.Chain f bs)) ≡ tree_of.expression_of e
chain_alike f bs e first os same h k = search (rules, tree.the_lemmas, written_tree.the_lemmas)

pub condition_alike : (bs : List BoundConjunction) (c : Condition) → named_condition (condition_with (map conjunction_of bs)) ≡ tree_of.condition_with (map tree_of.conjunction_of (out-Condition c).conjunctions) → named_condition (condition_of (roll-BoundCondition (record { conjunctions = bs }))) ≡ tree_of.condition_of c
condition_alike bs c h = search (rules, tree.the_lemmas, written_tree.the_lemmas)

pub inner_bound : (first : Option ℕ) (ranges : List BoundRange) (condition : Option BoundCondition) (t : Tables) (vs ws : List Range) → ws ≡ vs ++ map written_range ranges → AreRanges ranges t → IsBoundWith (with_of (option_map condition_of condition)) t ws → IsBoundRanging (ranging_of (roll-BoundInner (record { first = first; ranges = ranges; condition = condition }))) t vs
inner_bound first ranges condition t vs ws e r b =
    let within : IsBoundWith (with_of (option_map condition_of condition)) t (vs ++ map written_range ranges) = subst (IsBoundWith (with_of (option_map condition_of condition)) t) e b in
    search (rules, tree.the_lemmas)

pub statistic_bound : (kind : Statistic) (operand : BoundExpression) (first : Option ℕ) (ranges : List BoundRange) (condition : Option BoundCondition) (t : Tables) (vs ws : List Range) → ws ≡ vs ++ map written_range ranges → IsBound (expression_of operand) t ws → AreRanges ranges t → IsBoundWith (with_of (option_map condition_of condition)) t ws → IsBound (expression_of (tree.Statistic kind operand (roll-BoundInner (record { first = first; ranges = ranges; condition = condition })))) t vs
statistic_bound kind operand first ranges condition t vs ws e o r b =
    let over : IsBound (expression_of operand) t (vs ++ map written_range ranges) = subst (IsBound (expression_of operand) t) e o in
    let within : IsBoundWith (with_of (option_map condition_of condition)) t (vs ++ map written_range ranges) = subst (IsBoundWith (with_of (option_map condition_of condition)) t) e b in
    search (rules, tree.the_lemmas)

map_same : {X : Type 0} (xs : List X) → map (λ x. x) xs ≡ xs
map_same [] = refl
map_same (x ∷ xs) = ap (λ rest. x ∷ rest) (map_same xs)

-- where what was written is the item itself
pub written_same : {X Y : Type 0} (f : X → Y) (bs : List X) (b : X) (ys : List Y) (i : ℕ) (y : Y) → map f bs ≡ take i ys → i < length ys → y ≡ get_or ys i y → f b ≡ y → map f (bs ++ b ∷ []) ≡ take (i + 1) ys
written_same f bs b ys i y inv h e same =
    written_more f (λ y. y) bs b ys i y (inv ∙ sym (map_same (take i ys))) h e same ∙ map_same (take (i + 1) ys)

pub all_more : {X : Type 0} (P : X → Type 0) (bs : List X) (b : X) → All P bs → P b → All P (bs ++ b ∷ [])
all_more P bs b h k = All-append P bs (b ∷ []) h (All-cons P b [] k (All-nil P))

-- ---- ranges that are opened

pub sources_more : (ss : List Range) (i : ℕ) (s : Range) (bound scope : Scope) → bound ≡ bind_sources (take i ss) scope → i < length ss → s ≡ get_or ss i s → bound ++ bind_source s None ∷ [] ≡ bind_sources (take (i + 1) ss) scope
sources_more ss i s bound scope inv h e =
    ap (λ b. b ++ bind_source s None ∷ []) inv
    ∙ append_assoc scope (map (λ s. bind_source s None) (take i ss)) (bind_source s None ∷ [])
    ∙ ap (λ rest. scope ++ rest) (ap (λ x. map (λ s. bind_source s None) (take i ss) ++ bind_source x None ∷ []) e ∙ sym (ap (map (λ s. bind_source s None)) (take_more ss i s h) ∙ map-append (λ s. bind_source s None) (take i ss) (get_or ss i s ∷ [])))

pub sources_names_more : (ss : List Range) (i : ℕ) (s : Range) (t : Tables) (bound grown : Scope) (total : Refusal) → total ≡ sources_names (drop i ss) t bound → i < length ss → s ≡ get_or ss i s → source_names s t bound ≡ None → grown ≡ bound ++ bind_source s None ∷ [] → total ≡ sources_names (drop (i + 1) ss) t grown
sources_names_more ss i s t bound grown total inv h e none more =
    inv ∙ at_drop_more (λ ss. sources_names ss t bound) ss i s h ∙ ap (λ x. sources_names (x ∷ drop (i + 1) ss) t bound) (sym e)
    ∙ ap (λ r. or_else r (sources_names (drop (i + 1) ss) t (bound ++ bind_source s None ∷ []))) none ∙ ap (sources_names (drop (i + 1) ss) t) (sym more)

-- ---- selections

named_sources : (r : Ranging) → sources_of (named_ranging r) ≡ ranges_in r
named_sources (ranging first ss c) = refl

inner_sources : (inner : Inner) → sources_of (tree_of.ranging_of inner) ≡ (out-Inner inner).ranges
inner_sources inner = search (rules, written_tree.the_lemmas)

pub ranges_written : (r : Ranging) (inner : Inner) → named_ranging r ≡ tree_of.ranging_of inner → (out-Inner inner).ranges ≡ ranges_in r
ranges_written r inner h = sym (inner_sources inner) ∙ sym (ap sources_of h) ∙ named_sources r
