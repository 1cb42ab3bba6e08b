-- Reading a script moves on with each item, so that its items come to an end.
use Rattle.std.proofs.Common.{◌≡◌, ℕ, Bool, true, false, zero, suc, ◌+◌, ◌-◌, ◌≤◌, ◌<◌, [], ◌∷◌, ◌++◌, length, drop, Option, Some, None, Result, Ok, Err, refl, ap, subst, sym, ◌∙◌, arith}
use Rattle.std.proofs.lemmas.List.{length-drop}
use Rattle.rdo_ast.specs.declared.syntax.Statement.{Statement}
use Rattle.rdo_tokens.specs.Lex.{Text, Token, tokens}
use Rattle.rdo_tokens.specs.Input.{Input, Outcome, left, next}
use Rattle.rdo_tokens.proofs.LabelLemmas.{Falls, falls, left-tokens, left-behind}
use Rattle.rdo_parser.specs.declared.next.Parsed.{Parsed}
use Rattle.rdo_parser.specs.declared.next.Parsed.TheVariants as parsed
use Rattle.rdo_parser.specs.declared.items.Found.{Found}
use Rattle.rdo_parser.specs.Places.{line_len}
use Rattle.rdo_parser.specs.Statements.{pointed}
use Rattle.rdo_parser.specs.Script.{begins_stop, refused_in, outcome_in, parsed_in, parsed_at, syntax_at, with_fault, next_statement, found_in, item_at, with_behind, items_within, items_from, stops_at, with_end, stops_within, stops_from}
use Rattle.rdo_parser.proofs.StatementLaws.{takes_pointed, offending_token}
use Rattle.rdo_parser.proofs.PlaceLaws.{line_len-within, line_len-some}

abbrev MovesTo : (at end : ℕ) → Result Parsed ℕ → Type 0
MovesTo at end (Ok (parsed.Statement x behind)) = (at < behind) × (behind ≤ end)
MovesTo at end (Ok parsed.End) = Unit {0}
MovesTo at end (Ok parsed.Stop) = Unit {0}
MovesTo at end (Err offending) = (at ≤ offending) × (offending ≤ end) × (at < end)

module _ (script : Text) (at : ℕ) (t : Token) (ts : Input) (f : Falls (t ∷ ts)) (h : t.left + at ≤ length script) where
  outcome_moves : (stops : Bool) (o : Outcome Statement) → pointed (t ∷ ts) ≡ o → MovesTo at (length script) (outcome_in script stops o)
  unfolding left next
  outcome_moves stops (Ok (x, rest)) e =
      let g = takes_pointed.taken (t ∷ ts) rest x e in
      let below : left rest ≤ left ts = subst (λ i. left rest ≤ left i) (sym g.1) (left-behind g.0 rest (subst Falls g.1 f.1)) in
      (omega (arith, f.0), omega arith)
  outcome_moves true (Err rest) e = tt
  outcome_moves false (Err rest) e =
      let g = offending_token (t ∷ ts) rest e in
      let below : left rest ≤ t.left = subst (λ i. left rest ≤ left i) (sym g.1) (left-behind g.0 rest (subst Falls g.1 f)) in
      (omega arith, omega arith, omega (arith, f.0))

moves_in : (script : Text) (at : ℕ) (i : Input) → Falls i → left i + at ≤ length script → MovesTo at (length script) (parsed_in script i)
unfolding left
moves_in script at [] f h = tt
moves_in script at (t ∷ ts) f h = outcome_moves script at t ts f h (begins_stop (t ∷ ts)) (pointed (t ∷ ts)) refl

pub parsed_at-moves : (script : Text) (at : ℕ) → at ≤ length script → MovesTo at (length script) (parsed_at script at)
unfolding parsed_at
parsed_at-moves script at within =
    moves_in script at (tokens (drop at script)) (falls (drop at script)) (omega (arith, left-tokens (drop at script), length-drop at script))

-- a statement takes a byte, and a token offends no earlier than where reading begins
pub statement_moves : (script : Text) (at behind : ℕ) (x : Statement) → at ≤ length script → parsed_at script at ≡ Ok (parsed.Statement x behind) → (at < behind) × (behind ≤ length script)
statement_moves script at behind x within e = subst (MovesTo at (length script)) e (parsed_at-moves script at within)

pub fault_moves : (script : Text) (at offending : ℕ) → at ≤ length script → parsed_at script at ≡ Err offending → (at ≤ offending) × (offending ≤ length script) × (at < length script)
fault_moves script at offending within e = subst (MovesTo at (length script)) e (parsed_at-moves script at within)

-- ---- items

item_moves : (script : Text) (at : ℕ) (r : Result Parsed ℕ) (x : Found) → MovesTo at (length script) r → found_in (with_fault script r) ≡ Some x → (at < x.next) × (x.next ≤ length script)
unfolding syntax_at
item_moves script at (Ok (parsed.Statement s behind)) x m e = let n : behind ≡ x.next = cc in (omega (arith, m.0), omega (arith, m.1))
item_moves script at (Ok parsed.End) x m e = absurd (cc)
item_moves script at (Ok parsed.Stop) x m e = absurd (cc)
item_moves script at (Err offending) x m e =
    let n : offending + line_len (drop offending script) ≡ x.next = cc in
    (omega (arith, m.0, m.1, m.2, line_len-some (drop offending script), length-drop offending script), omega (arith, m.1, line_len-within (drop offending script), length-drop offending script))

pub item_at-moves : (script : Text) (at : ℕ) (x : Found) → at ≤ length script → item_at script at ≡ Some x → (at < x.next) × (x.next ≤ length script)
unfolding item_at next_statement
item_at-moves script at x within e = item_moves script at (parsed_at script at) x (parsed_at-moves script at within) e

-- any two bounds that are great enough give the same items
behind_agree : (script : Text) (n m at : ℕ) → at ≤ length script → length script ≤ n + at → length script ≤ m + at →
    ((next : ℕ) → next ≤ length script → length script < n + next → length script < m + next → items_within script n next ≡ items_within script m next) →
    (o : Option Found) → item_at script at ≡ o → with_behind o (items_within script n) ≡ with_behind o (items_within script m)
behind_agree script n m at within h g same None e = refl
behind_agree script n m at within h g same (Some x) e =
    let moves = item_at-moves script at x within e in ap (λ xs. x.item ∷ xs) (same x.next moves.1 (omega (arith, moves.0)) (omega (arith, moves.0)))

bounds_agree : (script : Text) (n m at : ℕ) → at ≤ length script → length script < n + at → length script < m + at → items_within script n at ≡ items_within script m at
bounds_agree script zero m at within h g = absurd (omega arith)
bounds_agree script (suc n) zero at within h g = absurd (omega arith)
bounds_agree script (suc n) (suc m) at within h g =
    behind_agree script n m at within (omega arith) (omega arith) (λ next w i j. bounds_agree script n m next w i j) (item_at script at) refl

pub in_order : (script : Text) (at : ℕ) → at ≤ length script → items_from script at ≡ with_behind (item_at script at) (items_from script)
unfolding items_from
in_order script at within = behind (item_at script at) refl
  where
    behind : (o : Option Found) → item_at script at ≡ o → with_behind o (items_within script (length script - at)) ≡ with_behind o (λ next. items_within script (suc (length script - next)) next)
    behind None e = refl
    behind (Some x) e =
        let moves = item_at-moves script at x within e in
        ap (λ xs. x.item ∷ xs) (bounds_agree script (length script - at) (suc (length script - x.next)) x.next moves.1 (omega (arith, moves.0)) (omega (arith, moves.1)))

pub no_item : (script : Text) (at : ℕ) → at ≤ length script → item_at script at ≡ None → items_from script at ≡ []
no_item script at within e = in_order script at within ∙ ap (λ o. with_behind o (items_from script)) e

pub one_item : (script : Text) (at : ℕ) (x : Found) → at ≤ length script → item_at script at ≡ Some x → items_from script at ≡ x.item ∷ items_from script x.next
one_item script at x within e = in_order script at within ∙ ap (λ o. with_behind o (items_from script)) e

-- ---- where the items end

end_agree : (script : Text) (n m at : ℕ) → at ≤ length script → length script ≤ n + at → length script ≤ m + at →
    ((next : ℕ) → next ≤ length script → length script < n + next → length script < m + next → stops_within script n next ≡ stops_within script m next) →
    (o : Option Found) → item_at script at ≡ o → with_end o (stops_at script at) (stops_within script n) ≡ with_end o (stops_at script at) (stops_within script m)
end_agree script n m at within h g same None e = refl
end_agree script n m at within h g same (Some x) e =
    let moves = item_at-moves script at x within e in same x.next moves.1 (omega (arith, moves.0)) (omega (arith, moves.0))

ends_agree : (script : Text) (n m at : ℕ) → at ≤ length script → length script < n + at → length script < m + at → stops_within script n at ≡ stops_within script m at
ends_agree script zero m at within h g = absurd (omega arith)
ends_agree script (suc n) zero at within h g = absurd (omega arith)
ends_agree script (suc n) (suc m) at within h g =
    end_agree script n m at within (omega arith) (omega arith) (λ next w i j. ends_agree script n m next w i j) (item_at script at) refl

pub stop_in_order : (script : Text) (at : ℕ) → at ≤ length script → stops_from script at ≡ with_end (item_at script at) (stops_at script at) (stops_from script)
unfolding stops_from
stop_in_order script at within = behind (item_at script at) refl
  where
    behind : (o : Option Found) → item_at script at ≡ o → with_end o (stops_at script at) (stops_within script (length script - at)) ≡ with_end o (stops_at script at) (λ next. stops_within script (suc (length script - next)) next)
    behind None e = refl
    behind (Some x) e =
        let moves = item_at-moves script at x within e in
        ends_agree script (length script - at) (suc (length script - x.next)) x.next moves.1 (omega (arith, moves.0)) (omega (arith, moves.1))

pub stops_here : (script : Text) (at : ℕ) → at ≤ length script → item_at script at ≡ None → stops_from script at ≡ stops_at script at
stops_here script at within e = stop_in_order script at within ∙ ap (λ o. with_end o (stops_at script at) (stops_from script)) e

pub stops_behind : (script : Text) (at : ℕ) (x : Found) → at ≤ length script → item_at script at ≡ Some x → stops_from script at ≡ stops_from script x.next
stops_behind script at x within e = stop_in_order script at within ∙ ap (λ o. with_end o (stops_at script at) (stops_from script)) e

-- where no item is left, none is here
pub none_here : (script : Text) (at : ℕ) → at ≤ length script → items_from script at ≡ [] → item_at script at ≡ None
none_here script at within none = by (item_at script at) refl
  where
    by : (o : Option Found) → item_at script at ≡ o → item_at script at ≡ None
    by None e = e
    by (Some x) e = let clash : x.item ∷ items_from script x.next ≡ [] = sym (one_item script at x within e) ∙ none in cc clash
