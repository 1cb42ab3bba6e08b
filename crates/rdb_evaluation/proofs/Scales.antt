-- Scales that are cut at 19: what comes of them is cut alike.
use Rattle.std.proofs.Common.{◌≡◌, ℕ, ◌+◌, ◌<◌, ◌≤◌, min, max, List, ◌∷◌, map, length, get_or, drop, refl, ap, sym, ◌∙◌, arith, rules}
use Rattle.std.proofs.lemmas.List.{at_drop_more}
use Rattle.rdo_ast.specs.declared.syntax.Expression as tree
use Rattle.rdo_ast.specs.declared.syntax.Operation.{Operation}
use Rattle.rdo_ast.specs.Tree.{Operations, no_operation, operation}
use Rattle.rdo_ast.specs.Views.{operations_of, applied_of, expression_of}
use Rattle.rdb_meaning.specs.declared.tables.Tables.{Tables}
use Rattle.rdb_meaning.specs.Evaluation.{Scope, scale_by, scale_of, scale_after}
use Rattle.rdo_arithmetic.proofs.Cuts.{cut_by, cut_operand}

cut_after : (os : Operations) (r s : ℕ) (t : Tables) (scope : Scope) → min r 19 ≡ min s 19 → min (scale_after r os t scope) 19 ≡ min (scale_after s os t scope) 19
cut_after no_operation r s t scope e = e
cut_after (operation op x os) r s t scope e = cut_after os _ _ t scope (cut_by op r s (scale_of x t scope) e)

abbrev pub chain_scale : Tables → Scope → ℕ → List Operation → ℕ
chain_scale t scope s os = scale_after s (operations_of (map applied_of os)) t scope

chain_first : (t : Tables) (scope : Scope) (s : ℕ) (o : Operation) (os : List Operation) → chain_scale t scope s (o ∷ os) ≡ chain_scale t scope (scale_by o.operator s (scale_of (expression_of o.operand) t scope)) os
chain_first t scope s o os = search (rules, tree.the_lemmas)

pub cut_chain : (t : Tables) (scope : Scope) (r s : ℕ) (os : List Operation) → r ≡ min s 19 → min (chain_scale t scope s os) 19 ≡ min (chain_scale t scope r os) 19
cut_chain t scope r s os e = cut_after (operations_of (map applied_of os)) s r t scope (omega arith)

pub chain_more : (t : Tables) (scope : Scope) (os : List Operation) (i : ℕ) (o : Operation) (total s x r : ℕ) → i < length os → o ≡ get_or os i o → total ≡ min (chain_scale t scope s (drop i os)) 19 → x ≡ min (scale_of (expression_of o.operand) t scope) 19 → r ≡ min (scale_by o.operator s x) 19 → total ≡ min (chain_scale t scope r (drop (i + 1) os)) 19
chain_more t scope os i o total s x r h e inv c d =
    let rest = drop (i + 1) os in
    let u = scale_of (expression_of o.operand) t scope in
    inv ∙ at_drop_more (λ os. min (chain_scale t scope s os) 19) os i o h
    ∙ ap (λ p. min (chain_scale t scope s (p ∷ rest)) 19) (sym e)
    ∙ ap (λ n. min n 19) (chain_first t scope s o rest)
    ∙ cut_chain t scope r (scale_by o.operator s u) rest (d ∙ cut_operand o.operator s x u c)
