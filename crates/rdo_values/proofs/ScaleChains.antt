-- Scales of bound forms, cut at 19: what comes of them is cut alike.
use Rattle.std.proofs.Common.{◌≡◌, ℕ, ◌+◌, ◌<◌, min, List, ◌∷◌, map, length, get_or, drop, ap, sym, ◌∙◌, arith, rules}
use Rattle.std.proofs.lemmas.List.{at_drop_more}
use Rattle.rdb_meaning.specs.Evaluation.{scale_by}
use Rattle.rdo_values.specs.declared.bound.BoundExpression as tree
use Rattle.rdo_values.specs.declared.bound.BoundOperation.{BoundOperation}
use Rattle.rdo_values.specs.Tree.{Operations, no_operation, operation}
use Rattle.rdo_values.specs.Views.{operations_of, applied_of, expression_of}
use Rattle.rdo_values.specs.Scales.{scale_in, scale_behind}
use Rattle.rdo_arithmetic.proofs.Cuts.{cut_by, cut_operand}

cut_behind : (os : Operations) (r s : ℕ) → min r 19 ≡ min s 19 → min (scale_behind r os) 19 ≡ min (scale_behind s os) 19
cut_behind no_operation r s e = e
cut_behind (operation op x os) r s e = cut_behind os _ _ (cut_by op r s (scale_in x) e)

abbrev pub chain_scale : ℕ → List BoundOperation → ℕ
chain_scale s os = scale_behind s (operations_of (map applied_of os))

chain_first : (s : ℕ) (o : BoundOperation) (os : List BoundOperation) → chain_scale s (o ∷ os) ≡ chain_scale (scale_by o.operator s (scale_in (expression_of o.operand))) os
chain_first s o os = search (rules, tree.the_lemmas)

pub cut_chain : (r s : ℕ) (os : List BoundOperation) → r ≡ min s 19 → min (chain_scale s os) 19 ≡ min (chain_scale r os) 19
cut_chain r s os e = cut_behind (operations_of (map applied_of os)) s r (omega arith)

pub chain_more : (os : List BoundOperation) (i : ℕ) (o : BoundOperation) (total s x r : ℕ) → i < length os → o ≡ get_or os i o → total ≡ min (chain_scale s (drop i os)) 19 → x ≡ min (scale_in (expression_of o.operand)) 19 → r ≡ min (scale_by o.operator s x) 19 → total ≡ min (chain_scale r (drop (i + 1) os)) 19
chain_more os i o total s x r h e inv c d =
    let rest = drop (i + 1) os in
    let u = scale_in (expression_of o.operand) in
    inv ∙ at_drop_more (λ os. min (chain_scale s os) 19) os i o h
    ∙ ap (λ p. min (chain_scale s (p ∷ rest)) 19) (sym e)
    ∙ ap (λ n. min n 19) (chain_first s o rest)
    ∙ cut_chain r (scale_by o.operator s u) rest (d ∙ cut_operand o.operator s x u c)
