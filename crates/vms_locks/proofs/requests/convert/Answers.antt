use Rattle.std.proofs.Common.{◌≡◌, inl, inr, true, false, sym, subst, refl, ap, arith, ◌∙◌}
use Rattle.std.proofs.lemmas.Bool.{false≢true}
use Rattle.std.proofs.lemmas.Grind.{common_steps}
use Rattle.vms_queues.specs.Queues.{Queues, is_queued, fits, with_conversion, after_convert}
use Rattle.vms_queues.proofs.Owners.{has_room-to_convert, after_convert-owners}
use Rattle.vms_locks.specs.Walks.{IsCycle, IsOnNoCycle}
use Rattle.vms_locks.specs.Table.{Table, table_of, queues_at, queues_with, WaitsIn, IsAwake, ChangesAt}
use Rattle.vms_locks.specs.Places.{place_of}
use Rattle.vms_locks.proofs.Queued.{conversion-own, conversion-others, weakened-queued}
use Rattle.vms_locks.proofs.Requested.{requested-granted, convert-busy, convert-free}
use Rattle.vms_locks.proofs.Owned.{owners-changed}
use Rattle.vms_locks.proofs.Known.{places-reviewed, places-set}
use Rattle.vms_locks.proofs.requests.convert.Goals as goal

pub convert_at-requires-clause-fits : goal.convert_at-requires-clause-fits
convert_at-requires-clause-fits c =
    let node = c.args.asked.node in
    has_room-to_convert (queues_at (table_of c.args.table.now) node) c.args.asked.owner (c.requires.live.sound node) (c.requires.owners node) c.requires.owner c.requires.once

pub convert_at-requires-2-clause-fits : goal.convert_at-requires-2-clause-fits
convert_at-requires-2-clause-fits c =
    let node = c.args.asked.node in
    has_room-to_convert (queues_at (table_of c.args.table.now) node) c.args.asked.owner (c.requires.live.sound node) (c.requires.owners node) c.requires.owner c.requires.once

pub returns-in_default-clause-owners : goal.returns-in_default-clause-owners
returns-in_default-clause-owners c =
    let t : Table = table_of c.args.table.now in
    let node = c.args.asked.node in
    let o = c.args.asked.owner in
    let m = c.args.asked.mode in
    owners-changed t (table_of c.convert_at.new.table) node (after_convert (queues_at t node) o m) c.convert_at.ensures.after c.requires.owners (after_convert-owners (queues_at t node) o m (c.requires.owners node) c.requires.owner)

pub returns-in_default-clause-known : goal.returns-in_default-clause-known
returns-in_default-clause-known c =
    let t : Table = table_of c.args.table.now in
    let node = c.args.asked.node in
    let o = c.args.asked.owner in
    let m = c.args.asked.mode in
    let free : fits o m (queues_at t node).granted ≡ true = sym c.in_default.ensures.free in
    places-reviewed t (table_of c.convert_at.new.table) (place_of c.args.places.now) c.requires.known node (after_convert (queues_at t node) o m) c.convert_at.ensures.after (place_of c.review.new.places)
    (λ p none. ap (λ (r : Queues). is_queued p r) (convert-free (queues_at t node) o m free) ∙ weakened-queued (queues_at t node) o m p none)
    c.review.ensures

pub returns-in-Some-find_cycle-clause-answer : goal.returns-in-Some-find_cycle-clause-answer
returns-in-Some-find_cycle-clause-answer c =
    let t : Table = table_of c.args.table.now in
    let o = c.args.asked.owner in (
      sym c.in-Some.ensures.free,
      grind (arith, common_steps, c.if-not-wait.false),
      subst (λ (q : Queues). IsCycle (WaitsIn (queues_with (queues_at t) c.args.asked.node q)) o c.in-Some-find_cycle.cycle) (requested-granted (queues_at t c.args.asked.node) o c.args.asked.mode c.requires.granted) c.in-Some-find_cycle.ensures.cycle,
      refl,
    )

pub returns-clause-answer : goal.returns-clause-answer
returns-clause-answer c =
    let t : Table = table_of c.args.table.now in
    let o = c.args.asked.owner in
    let node = c.args.asked.node in
    let busy : fits o c.args.asked.mode (queues_at t node).granted ≡ false = sym c.in-Some.ensures.free in (
      busy,
      grind (arith, common_steps, c.if-not-wait.false),
      subst (λ (q : Queues). IsOnNoCycle (WaitsIn (queues_with (queues_at t) node q)) o) (requested-granted (queues_at t node) o c.args.asked.mode c.requires.granted) c.in_default-find_cycle.ensures.none,
      subst (λ (q : Queues). ChangesAt t (table_of c.convert_at-2.new.table) node q) (convert-busy (queues_at t node) o c.args.asked.mode busy) c.convert_at-2.ensures.after,
    )

pub returns-clause-owners : goal.returns-clause-owners
returns-clause-owners c =
    let t : Table = table_of c.args.table.now in
    let node = c.args.asked.node in
    let o = c.args.asked.owner in
    let m = c.args.asked.mode in
    owners-changed t (table_of c.convert_at-2.new.table) node (after_convert (queues_at t node) o m) c.convert_at-2.ensures.after c.requires.owners (after_convert-owners (queues_at t node) o m (c.requires.owners node) c.requires.owner)

pub returns-clause-known : goal.returns-clause-known
returns-clause-known c =
    let t : Table = table_of c.args.table.now in
    let node = c.args.asked.node in
    let o = c.args.asked.owner in
    let m = c.args.asked.mode in
    let q : Queues = queues_at t node in
    let busy : fits o m q.granted ≡ false = sym c.in-Some.ensures.free in
    let quiet : IsAwake (queues_at t) o = elim c.requires.awake [ inl p ↦ p | inr free ↦ absurd (false≢true (sym busy ∙ free.0)) ] in
    places-set t (table_of c.convert_at-2.new.table) (place_of c.args.places.now) c.requires.known node (with_conversion q o m)
    (subst (λ (r : Queues). ChangesAt t (table_of c.convert_at-2.new.table) node r) (convert-busy q o m busy) c.convert_at-2.ensures.after)
    (place_of c.set.new.self) o quiet c.requires.owner c.set.ensures.own c.set.ensures.others (conversion-own q o m) (conversion-others q o m)
