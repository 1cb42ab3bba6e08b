use Rattle.std.proofs.Common.{◌-◌, subst, arith, List, Bool, slice_set}
use Rattle.snapshot_file.specs.Slots.{slots_in, Gives}
use Rattle.snapshot_file.proofs.Orders.{some_used, returning, exchange, returned_order, gives}
use Rattle.snapshot_file.proofs.free.Free.give.Goals as goal

pub overflow_sub-end : goal.overflow_sub-end
overflow_sub-end c =
    let i = c.self.inside in
    let s = some_used i.order.items i.places.items i.used c.args.slot c.args.self.now c.self.invariant c.self.view_is c.requires.first c.requires.last c.requires.used in
    omega (arith, s.1, s.2)

pub overflow_sub-place : goal.overflow_sub-place
overflow_sub-place c =
    let i = c.self.inside in
    let r = returning i.order.items i.places.items i.used c.args.slot c.index-place.result.now c.index-last.result.now c.args.self.now c.self.invariant c.self.view_is c.requires.first c.requires.last c.requires.used c.index-place.ensures c.index-last.ensures in
    let e = exchange i.order.items i.places.items i.used c.args.slot c.index-place.result.now c.index-last.result.now r in
    let low = e.is_a in omega (arith, low)

pub index_mut-requires : goal.index_mut-requires
index_mut-requires c =
    let i = c.self.inside in
    let r = returning i.order.items i.places.items i.used c.args.slot c.index-place.result.now c.index-last.result.now c.args.self.now c.self.invariant c.self.view_is c.requires.first c.requires.last c.requires.used c.index-place.ensures c.index-last.ensures in
    let inside = (exchange i.order.items i.places.items i.used c.args.slot c.index-place.result.now c.index-last.result.now r).a_in in omega (arith, inside)

pub overflow_sub-last : goal.overflow_sub-last
overflow_sub-last c =
    let i = c.self.inside in
    let r = returning i.order.items i.places.items i.used c.args.slot c.index-place.result.now c.index-last.result.now c.args.self.now c.self.invariant c.self.view_is c.requires.first c.requires.last c.requires.used c.index-place.ensures c.index-last.ensures in
    (exchange i.order.items i.places.items i.used c.args.slot c.index-place.result.now c.index-last.result.now r).v_in.0

pub index_mut-requires-2 : goal.index_mut-requires-2
index_mut-requires-2 c =
    let i = c.self.inside in
    let r = returning i.order.items i.places.items i.used c.args.slot c.index-place.result.now c.index-last.result.now c.args.self.now c.self.invariant c.self.view_is c.requires.first c.requires.last c.requires.used c.index-place.ensures c.index-last.ensures in
    let e = exchange i.order.items i.places.items i.used c.args.slot c.index-place.result.now c.index-last.result.now r in
    let v_in = e.v_in in let size = e.ys_size in omega (arith, v_in.0, v_in.1, size)

pub overflow_sub-self : goal.overflow_sub-self
overflow_sub-self c =
    let i = c.self.inside in
    let s = some_used i.order.items i.places.items i.used c.args.slot c.args.self.now c.self.invariant c.self.view_is c.requires.first c.requires.last c.requires.used in
    omega (arith, s.1, s.2)

pub invariant_of-self : goal.invariant_of-self
invariant_of-self c =
    let i = c.self.inside in
    let r = returning i.order.items i.places.items i.used c.args.slot c.index-place.result.now c.index-last.result.now c.args.self.now c.self.invariant c.self.view_is c.requires.first c.requires.last c.requires.used c.index-place.ensures c.index-last.ensures in
    returned_order i.order.items i.places.items i.used c.args.slot c.index-place.result.now c.index-last.result.now r

pub returns : goal.returns
returns c =
    let i = c.self.inside in
    let place = c.index-place.result.now in let last = c.index-last.result.now in let slot = c.args.slot in
    let r = returning i.order.items i.places.items i.used slot place last c.args.self.now c.self.invariant c.self.view_is c.requires.first c.requires.last c.requires.used c.index-place.ensures c.index-last.ensures in
    subst (λ (v : List Bool). Gives v (slots_in (slice_set (slice_set i.places.items (last - 1) place) (slot - 1) i.used) (i.used - 1)) slot) c.self.view_is
    (gives i.order.items i.places.items i.used slot place last r)
