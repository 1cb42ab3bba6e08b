use Rattle.std.proofs.Common.{◌++◌, ◌∷◌, [], List, ap, ◌∙◌, arith, append_assoc}
use Rattle.rdb_types.specs.declared.values.Value.{Value}
use Rattle.sorted_index_laws.specs.Changes.{pair_of}
use Rattle.sorted_index_laws.specs.Inner.Growth.{count_below}
use Rattle.sorted_index_laws.proofs.Cutting.{count_inside, count_as, put_at}
use Rattle.sorted_index.proofs.splitting.put_in_order.Goals as goal

pub split_off-requires : goal.split_off-requires
split_off-requires c =
    let is = c.count_below-at.ensures ∙ ap (count_below (pair_of c.as_slice-2.result.now c.args.entry.row)) c.as_slice.ensures in
    let n = count_inside (pair_of c.as_slice-2.result.now c.args.entry.row) c.args.entries in
    omega (arith, is, n)

pub returns-clause-ok : goal.returns-clause-ok
returns-clause-ok c =
    let front = c.in_ok-front.field-0.front in
    let rest = c.in_ok-front.field-0.rest in
    let pair = pair_of c.as_slice-2.result.now c.args.entry.row in
    let long = c.in_ok-front.ensures.ok.1
    ∙ (c.count_below-at.ensures ∙ (ap (count_below pair) c.as_slice.ensures ∙ (ap (λ (k : List Value). count_below (pair_of k c.args.entry.row) c.args.entries) c.as_slice-2.ensures ∙ count_as c.args.entry c.args.entries))) in
    c.in_ok-append.ensures ∙ (ap (λ l. l ++ rest) c.in_ok-push.ensures.ok ∙ (append_assoc front (c.args.entry ∷ []) rest ∙ put_at c.args.entry c.args.entries front rest c.in_ok-front.ensures.ok.0 long))
