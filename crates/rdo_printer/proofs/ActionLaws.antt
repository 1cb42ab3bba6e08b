-- What is printed of each action is read as it.
use Rattle.std.proofs.Common.{◌≡◌, ℕ, zero, suc, ◌+◌, ◌≤◌, Bool, true, false, List, [], ◌∷◌, ◌++◌, map, length, Ok, refl, ap, sym, ◌∙◌, append_assoc, append-nil, arith}
use Rattle.std.specs.List.{flat_map}
use Rattle.std.proofs.lemmas.List.{length-append}
use Rattle.rdo_ast.specs.declared.syntax.Range.{Range}
use Rattle.rdo_ast.specs.declared.syntax.Clause.{Clause}
use Rattle.rdo_ast.specs.declared.syntax.Clause.TheVariants as clause
use Rattle.rdo_ast.specs.declared.syntax.Action.{Action}
use Rattle.rdo_ast.specs.Tree.{Ranging, ranging, With, without_condition, with_condition, Assignment, Shown, Act, store, for_each, print, modify, erase, Acts, no_act, act}
use Rattle.rdo_tokens.specs.declared.token.Kind.{Kind}
use Rattle.rdo_tokens.specs.declared.token.Kind.TheVariants as k
use Rattle.rdo_tokens.specs.Lex.{Text, same_kind}
use Rattle.rdo_tokens.specs.Input.{Input, kind, next, left, sees, after, expect}
use Rattle.rdo_grammar.specs.Grammar as g
use Rattle.rdo_grammar.specs.Grammar.{Level, level_at, open_level, range, first, crossed, with, shape, selection, assigns, printed_list, point, begins_action, body_from, body, for_action, action, action_at}
use Rattle.rdo_printer.specs.Words.{Spelled, word, name_word, spelling_of, text_of, separated_words}
use Rattle.rdo_printer.proofs.Labels.{labelled}
use Rattle.rdo_printer.specs.Trees.{range_words, first_words, is_condition, ranging_words, with_words}
use Rattle.rdo_printer.specs.Commands.{assigns_words, clause_words, action_words, body_words}
use Rattle.rdo_printer.specs.Printable.{AreClauses, FitsRanging, FitsAction, FitsActions}
use Rattle.rdo_printer.proofs.Reading.{Reads, in_front, length_text, range_read, name_read, Anything}
use Rattle.rdo_printer.proofs.Operands.{AfterPrim, AfterCondition, Behind, level_opens}
use Rattle.rdo_printer.proofs.ExpressionLaws.{false-true}
use Rattle.rdo_printer.proofs.ConditionLaws.{front_read, crossed_read, NotCross}
use Rattle.rdo_printer.proofs.TreeLaws.{with_law}
use Rattle.rdo_printer.proofs.ItemLaws.{assigns_read, NotName, shown_list_read, shape_read, AfterClauses}
use Rattle.rdo_printer.proofs.Built.{built_inner, built_assign, built_action, built_actions}

-- ---- selections

abbrev AfterSelection : Kind → Type 0
AfterSelection kd = AfterCondition kd × AfterClauses kd

after_with : (w : With) (kd : Kind) → AfterCondition kd → Behind (is_condition w) AfterPrim kd
after_with without_condition kd a = a.0.0.0
after_with (with_condition c) kd a = a

-- what may stand behind a condition is there
after_condition : (cs : List Clause) → AreClauses cs → (vs : List Spelled) (behind : ℕ) (other : Input) → AfterSelection (kind (labelled vs behind other)) → AfterCondition (kind (labelled (flat_map clause_words cs ++ vs) behind other))
unfolding kind same_kind
after_condition [] all vs behind other a = a.0
after_condition (clause.Sorted keys ∷ cs) all vs behind other a = ((((refl, refl), refl), refl, refl), refl, refl)
after_condition (clause.Reduced refs ∷ cs) all vs behind other a = ((((refl, refl), refl), refl, refl), refl, refl)

cross : (w : With) (rest : List Spelled) (behind : ℕ) (other : Input) → Behind (is_condition w) AfterPrim (kind (labelled rest behind other)) → NotCross (kind (labelled (with_words w ++ rest) behind other))
unfolding kind same_kind
cross without_condition rest behind other a = a.1
cross (with_condition c) rest behind other a = refl

selection_read : (over : Ranging) (cs : List Clause) (levels : ℕ) → FitsRanging over levels → AreClauses cs → (vs : List Spelled) (behind : ℕ) (other : Input) → AfterSelection (kind (labelled vs behind other)) →
    selection (suc levels) (labelled (ranging_words over ++ (flat_map clause_words cs ++ vs)) behind other) ≡ Ok (record { inner = built_inner over; clauses = cs }, labelled vs behind other)
unfolding selection
selection_read (ranging n all w) cs levels fits clauses vs behind other a =
    let rest : List Spelled = flat_map clause_words cs ++ vs in
    let ranges : List Spelled = separated_words k.Cross range_words all in
    let after = after_with w (kind (labelled rest behind other)) (after_condition cs clauses vs behind other a) in
    let e1 = front_read n all fits.0 fits.1 (with_words w ++ rest) behind other in
    let e2 = in_front crossed ranges all NotCross (crossed_read all fits.1) (with_words w ++ rest) behind other (cross w rest behind other after) in
    let e3 = in_front (with (level_at (suc levels))) (with_words w) _ (Behind (is_condition w) AfterPrim) (with_law w levels fits.2) rest behind other after in
    let e4 = in_front shape (flat_map clause_words cs) cs AfterClauses (shape_read cs clauses) vs behind other a.1 in
    let assoc : ranging_words (ranging n all w) ++ rest ≡ first_words n ++ (ranges ++ (with_words w ++ rest)) = append_assoc (first_words n) (ranges ++ with_words w) rest ∙ ap (λ z. first_words n ++ z) (append_assoc ranges (with_words w) rest) in
    ap (λ z. selection (suc levels) (labelled z behind other)) assoc ∙ rw e1 (rw e2 (rw e3 (rw e4 refl)))

-- ---- actions

abbrev pub AfterAction : Kind → Type 0
AfterAction kd = AfterCondition kd × (same_kind kd k.Comma ≡ false)

abbrev pub ActionRead : Act → Type 0
ActionRead a = (levels : ℕ) (nested : Bool) → FitsAction a levels nested → Reads (action_at (suc levels) nested) (action_words a) (built_action a) AfterAction

-- the actions of a FOR are read up to its end
abbrev ActionsRead : Acts → Type 0
ActionsRead as' = (levels : ℕ) → FitsActions as' levels → (turns : ℕ) (found : List Action) (behind : ℕ) (other : Input) → length (built_actions as') ≤ turns →
    body_from (suc levels) (action_at (suc levels) true) turns found (labelled (body_words as') behind other) ≡ Ok (found ++ built_actions as', labelled (word k.EndFor ∷ []) behind other)

body_begins : (xs : Acts) (behind : ℕ) (other : Input) → AfterSelection (kind (labelled (body_words xs) behind other))
unfolding kind same_kind
body_begins no_act behind other = (((((refl, refl), refl), refl, refl), refl, refl), (refl, refl, refl))
body_begins (act (store into assigns) xs) behind other = (((((refl, refl), refl), refl, refl), refl, refl), (refl, refl, refl))
body_begins (act (for_each over clauses acts) xs) behind other = (((((refl, refl), refl), refl, refl), refl, refl), (refl, refl, refl))
body_begins (act (print items) xs) behind other = (((((refl, refl), refl), refl, refl), refl, refl), (refl, refl, refl))
body_begins (act (modify n assigns) xs) behind other = (((((refl, refl), refl), refl, refl), refl, refl), (refl, refl, refl))
body_begins (act (erase n) xs) behind other = (((((refl, refl), refl), refl, refl), refl, refl), (refl, refl, refl))

store_read : (into : Range) (assigns : List Assignment) → ActionRead (store into assigns)
unfolding action_at action kind g.store expect sees next same_kind
store_read into xs levels nested fits behind other a =
    let vs : List Spelled = word k.Using ∷ assigns_words xs ++ (word k.EndStore ∷ []) in
    let e1 = in_front range (range_words into) into Anything (range_read into fits.0) vs behind other tt in
    let e2 = in_front (assigns levels) (assigns_words xs) (map built_assign xs) NotName (assigns_read levels xs fits.1) (word k.EndStore ∷ []) behind other refl in
    rw e1 (rw e2 refl)

print_read : (items : List Shown) → ActionRead (print items)
unfolding action_at action kind g.print next
print_read items levels nested fits behind other a = rw (shown_list_read levels items fits behind other a) refl

modify_read : (n : Text) (assigns : List Assignment) → ActionRead (modify n assigns)
unfolding action_at action kind g.modify expect sees next same_kind
modify_read n xs levels false fits = false-true fits.0
modify_read n xs levels true fits = λ behind other a.
    let vs : List Spelled = word k.Using ∷ assigns_words xs ++ (word k.EndModify ∷ []) in
    let e1 = name_read n fits.1 (length (text_of (name_word n ∷ vs)) + behind) (labelled vs behind other) in
    let e2 = in_front (assigns levels) (assigns_words xs) (map built_assign xs) NotName (assigns_read levels xs fits.2) (word k.EndModify ∷ []) behind other refl in
    rw e1 (rw e2 refl)

erase_read : (n : Text) → ActionRead (erase n)
unfolding action_at action kind next
erase_read n levels false fits = false-true fits.0
erase_read n levels true fits = λ behind other a. rw (name_read n fits.1 (length (text_of (name_word n ∷ [])) + behind) other) refl

body_turns : (xs : Acts) → length (built_actions xs) ≤ length (text_of (body_words xs))
body_turns no_act = omega arith
body_turns (act x xs) =
    let h = body_turns xs in
    let e = length_text (action_words x) (word k.Dot ∷ body_words xs) in
    let f = length-append (spelling_of k.Dot) (32 ∷ text_of (body_words xs)) in
    rw e (omega arith)

body_left : (xs : Acts) (behind : ℕ) (other : Input) → length (built_actions xs) ≤ left (labelled (body_words xs) behind other)
unfolding left
body_left no_act behind other = omega arith
body_left (act x xs) behind other = by_label (labels x)
  where
    -- an action is a word at least
    labels : (x : Act) → left (labelled (body_words (act x xs)) behind other) ≡ length (text_of (body_words (act x xs))) + behind
    labels (store into assigns) = refl
    labels (for_each over clauses acts) = refl
    labels (print items) = refl
    labels (modify n assigns) = refl
    labels (erase n) = refl

    by_label : left (labelled (body_words (act x xs)) behind other) ≡ length (text_of (body_words (act x xs))) + behind → length (built_actions (act x xs)) ≤ left (labelled (body_words (act x xs)) behind other)
    by_label q = let h = body_turns (act x xs) in omega arith

for_read : (over : Ranging) (clauses : List Clause) (body : Acts) → ActionsRead body → ActionRead (for_each over clauses body)
unfolding action_at action kind for_action body expect sees next same_kind
for_read over cs xs h zero nested fits = absurd fits
for_read over cs xs h (suc levels) nested fits = λ behind other a.
    let o = level_opens levels (record { kind = k.For; spelling = spelling_of k.For; left = length (text_of (action_words (for_each over cs xs))) + behind }) (labelled (ranging_words over ++ (flat_map clause_words cs ++ body_words xs)) behind other) in
    let e1 = selection_read over cs levels fits.0 fits.1 (body_words xs) behind other (body_begins xs behind other) in
    let e2 = h levels fits.2 (left (labelled (body_words xs) behind other)) [] behind other (body_left xs behind other) in
    rw o (rw e1 (rw e2 refl))

begins : (x : Act) (vs : List Spelled) (behind : ℕ) (other : Input) → begins_action (kind (labelled (action_words x ++ vs) behind other)) ≡ true
unfolding kind
begins (store into assigns) vs behind other = refl
begins (for_each over clauses acts) vs behind other = refl
begins (print items) vs behind other = refl
begins (modify n assigns) vs behind other = refl
begins (erase n) vs behind other = refl

no_more_actions : ActionsRead no_act
unfolding body_from kind
no_more_actions levels fits zero found behind other l = ap (λ (v : List Action). Ok (v, labelled (word k.EndFor ∷ []) behind other)) (sym (append-nil found))
no_more_actions levels fits (suc turns) found behind other l = ap (λ (v : List Action). Ok (v, labelled (word k.EndFor ∷ []) behind other)) (sym (append-nil found))

pub dot_follows : (vs : List Spelled) (behind : ℕ) (other : Input) → AfterAction (kind (labelled (word k.Dot ∷ vs) behind other))
unfolding kind same_kind
dot_follows vs behind other = (((((refl, refl), refl), refl, refl), refl, refl), refl)

pub point_read : (vs : List Spelled) (behind : ℕ) (other : Input) → point (labelled (word k.Dot ∷ vs) behind other) ≡ Ok (true, labelled vs behind other)
unfolding point sees after kind next same_kind
point_read vs behind other = refl

more_actions : (x : Act) (xs : Acts) → ActionRead x → ActionsRead xs → ActionsRead (act x xs)
unfolding body_from
more_actions x xs h more levels fits zero found behind other l = absurd (omega arith)
more_actions x xs h more levels fits (suc turns) found behind other l =
    let vs : List Spelled = word k.Dot ∷ body_words xs in
    let one = in_front (action_at (suc levels) true) (action_words x) (built_action x) AfterAction (h levels true fits.0) vs behind other (dot_follows (body_words xs) behind other) in
    let l2 : length (built_actions xs) ≤ turns = omega arith in
    rw (begins x vs behind other) (rw one (rw (point_read (body_words xs) behind other) (more levels fits.1 turns (found ++ built_action x ∷ []) behind other l2
    ∙ ap (λ (v : List Action). Ok (v, labelled (word k.EndFor ∷ []) behind other)) (append_assoc found (built_action x ∷ []) (built_actions xs)))))

mutual
  pub action_law : (x : Act) → ActionRead x
  action_law (store into assigns) = store_read into assigns
  action_law (for_each over clauses acts) = for_read over clauses acts (actions_law acts)
  action_law (print items) = print_read items
  action_law (modify n assigns) = modify_read n assigns
  action_law (erase n) = erase_read n

  actions_law : (xs : Acts) → ActionsRead xs
  actions_law no_act = no_more_actions
  actions_law (act x xs) = more_actions x xs (action_law x) (actions_law xs)
