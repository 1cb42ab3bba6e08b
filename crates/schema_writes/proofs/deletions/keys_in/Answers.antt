use Rattle.std.proofs.Common.{rules, ◌∙◌, ◌∷◌, [], ◌++◌, Some, sym, ap}
use Rattle.std.specs.Map.Iter.{deref}
use Rattle.std.proofs.lemmas.Map.Iter.{rest_more}
use Rattle.std.proofs.lemmas.List.{append_assoc}
use Rattle.schema_writes.proofs.Gone.{area_unknown}
use Rattle.schema_writes.proofs.deletions.keys_in.Goals as goal

pub returns-in_default-clause-stop : goal.returns-in_default-clause-stop
returns-in_default-clause-stop c = area_unknown c.args.view.now c.args.area (search rules)

pub loop-key-preserved : goal.loop-key-preserved
loop-key-preserved c =
    let l = c.loop-key in
    let rest = c.next.new.self in
    let next = rest_more deref l.key-iterator rest c.next.result c.in-Some-key.key c.in-Some-key.is c.next.ensures.steps in
    rw c.in_ok-push.ensures.ok (tt, tt, l.invariant.2 ∙ ap (λ ks. Some (l.keys ++ ks)) next ∙ ap Some (sym (append_assoc l.keys (c.in-Some-key.key.now ∷ []) rest)))
