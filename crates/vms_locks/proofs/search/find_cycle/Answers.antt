use Rattle.std.proofs.Common.{◌≡◌, ℕ, ◌<◌, ◌≤◌, ◌++◌, ◌∷◌, [], List, ◌∙◌, refl, sym, subst, ap, arith, get_or, length}
use Rattle.std.proofs.lemmas.List.{get_or_default}
use Rattle.vms_locks.specs.declared.search.Reached.{Reached}
use Rattle.vms_locks.specs.Table.{table_of, queues_at}
use Rattle.vms_locks.specs.Places.{place_of}
use Rattle.vms_locks.specs.Search.{WaitsAsked}
use Rattle.vms_locks.proofs.Traces.{blank, length-push, trace-more, cover-step, passed-step, passed-more, walk-back, search-ends}
use Rattle.vms_locks.proofs.Waiting.{would-ranges}
use Rattle.vms_locks.proofs.search.find_cycle.Goals as goal

-- the one that is taken waits for the one reached
taken : (w : ℕ → ℕ → Type 0) (left : List ℕ) (i e b : ℕ) → i < length left → e ≡ get_or left i e → w (get_or left i 0) b → w e b
taken w left i e b inside at edge = subst (λ (o : ℕ). w o b) (get_or_default left i 0 e inside ∙ sym at) edge

pub loop-place-preserved-in_default : goal.loop-place-preserved-in_default
loop-place-preserved-in_default c =
    let none = rw (c.as_slice.ensures, c.as_slice-in-loop-place.ensures) at (c.in_default.ensures.none refl) in
    let w : ℕ → ℕ → Type 0 = WaitsAsked (queues_at (table_of c.args.table.now)) c.args.asked in
    record {
      traced = c.loop-place.invariant.traced;
      cover = c.loop-place.invariant.cover;
      passed = passed-more w c.loop-place.left.items c.loop-place.reached.items c.loop-place.place c.loop-place.invariant.passed none;
      count = c.loop-place.invariant.count;
      room = c.loop-place.invariant.room;
      inside = omega arith;
    }

pub loop-place-preserved : goal.loop-place-preserved
loop-place-preserved c =
    let w : ℕ → ℕ → Type 0 = WaitsAsked (queues_at (table_of c.args.table.now)) c.args.asked in
    let left = c.loop-place.left.items in
    let rs = c.loop-place.reached.items in
    let place = c.loop-place.place in
    let i = c.in-Some.at in
    let e = c.remove-waiter.result in
    let x : Reached = record { owner = e; next = place } in
    let within : place < length rs = omega arith in
    let inside = rw c.as_slice-in-loop-place.ensures at c.in-Some.ensures.inside in
    let edge = rw (c.as_slice.ensures, c.as_slice-in-loop-place.ensures) at c.in-Some.ensures.waits in
    let own : w e (get_or rs place blank).owner = taken w left i e (get_or rs place blank).owner inside c.remove-waiter.ensures.value edge in
    let longer = ap (λ (rs' : List Reached). length rs') c.push_reserved-in-loop-place.ensures.items in
    record {
      traced =
          rw c.push_reserved-in-loop-place.ensures.items
          (trace-more w c.args.asked.owner rs x c.loop-place.invariant.traced within (λ d. subst (λ (r : Reached). w e r.owner) (get_or_default rs place blank d within) own));
      cover =
          rw (c.remove-waiter.ensures.items, c.push_reserved-in-loop-place.ensures.items)
          (cover-step c.args.asked.owner left rs i e x inside c.remove-waiter.ensures.value refl c.if-waiter-asked.false c.loop-place.invariant.cover);
      passed =
          rw (c.remove-waiter.ensures.items, c.push_reserved-in-loop-place.ensures.items)
          (passed-step w left rs i place x c.loop-place.invariant.inside c.loop-place.invariant.passed);
      count = omega (arith, c.remove-waiter.ensures.len, c.loop-place.invariant.count, longer, length-push rs x);
      room = c.push_reserved-in-loop-place.ensures.capacity ∙ c.loop-place.invariant.room;
      inside = omega (arith, c.loop-place.invariant.inside, longer, length-push rs x);
    }

pub returns-then-waiter-asked-clause-cycle : goal.returns-then-waiter-asked-clause-cycle
returns-then-waiter-asked-clause-cycle c =
    let w : ℕ → ℕ → Type 0 = WaitsAsked (queues_at (table_of c.args.table.now)) c.args.asked in
    let owner = c.args.asked.owner in
    let left = c.loop-place.left.items in
    let rs = c.loop-place.reached.items in
    let place = c.loop-place.place in
    let i = c.in-Some.at in
    let e = c.remove-waiter.result in
    let within : place < length rs = omega arith in
    let inside = rw c.as_slice-in-loop-place.ensures at c.in-Some.ensures.inside in
    let edge = rw (c.as_slice.ensures, c.as_slice-in-loop-place.ensures) at c.in-Some.ensures.waits in
    let own : w owner (get_or rs place blank).owner =
    subst (λ (o : ℕ). w o (get_or rs place blank).owner) c.if-waiter-asked.true (taken w left i e (get_or rs place blank).owner inside c.remove-waiter.ensures.value edge) in
    let way = rw c.as_slice-then-waiter-asked.ensures at c.trace.ensures in (
      way.0,
      walk-back w owner rs c.loop-place.invariant.traced way.0 place owner within way.2 own,
      subst (λ (o : ℕ). c.trace.result ≡ o ∷ (way.0 ++ o ∷ [])) c.if-waiter-asked.true way.1,
    )

pub returns-clause-none : goal.returns-clause-none
returns-clause-none c =
    let at = queues_at (table_of c.args.table.now) in
    let w : ℕ → ℕ → Type 0 = WaitsAsked at c.args.asked in
    let all : length c.loop-place.reached.items ≤ c.loop-place.place = omega arith in
    search-ends w c.args.asked.owner c.loop-place.left.items c.loop-place.reached.items
    (would-ranges at (place_of c.args.places.now) c.requires.known c.args.asked.owner c.args.asked.node c.args.asked.mode c.requires.owner)
    c.loop-place.invariant.cover c.loop-place.place c.loop-place.invariant.passed all c.loop-place.invariant.traced
