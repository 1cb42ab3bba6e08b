use Rattle.std.proofs.Common.{◌≡◌, ℕ, ◌<◌, ◌++◌, ◌∷◌, [], List, arith, append_assoc, append-nil, get_or, refl, subst, sym, ◌∙◌}
use Rattle.vms_locks.specs.declared.search.Reached.{Reached}
use Rattle.vms_locks.specs.Search.{IsWayBack}
use Rattle.vms_locks.proofs.Traces.{blank, way-step, length-push}
use Rattle.vms_locks.proofs.search.trace.Goals as goal

pub loop-at-preserved : goal.loop-at-preserved
loop-at-preserved c =
    let way = c.loop-at.invariant.way in
    let rs = c.args.reached.now in
    let k = c.loop-at.at in
    let x : Reached = get_or rs k blank in
    let some : 0 < k = omega arith in
    let less : x.next < k = c.requires.back k blank some c.loop-at.invariant.inside in
    record {
      inside = omega (arith, less, c.loop-at.invariant.inside);
      way = (
        way.0 ++ x.owner ∷ [],
        rw (c.push_reserved-in-loop-at.ensures.items, way.1) refl,
        λ rest h. subst (λ (os : List ℕ). IsWayBack rs c.args.from os) (sym (append_assoc way.0 (x.owner ∷ []) rest)) (way.2 (x.owner ∷ rest) (way-step rs k rest some c.loop-at.invariant.inside h)),
      );
      short = rw c.push_reserved-in-loop-at.ensures.items (omega (arith, less, c.loop-at.invariant.short, length-push c.loop-at.owners.items x.owner));
      room = c.push_reserved-in-loop-at.ensures.capacity ∙ c.loop-at.invariant.room;
    }

pub returns : goal.returns
returns c =
    let way = c.loop-at.invariant.way in
    let first : c.loop-at.at ≡ 0 = omega arith in
    (way.0, rw (c.new.ensures, c.push_reserved-2.ensures.items, way.1) refl, subst (λ (os : List ℕ). IsWayBack c.args.reached.now c.args.from os) (append-nil way.0) (way.2 [] first))
