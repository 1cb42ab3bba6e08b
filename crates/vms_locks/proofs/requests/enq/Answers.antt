use Rattle.std.proofs.Common.{◌≡◌, inl, inr, true, false, sym, subst, refl, ap, arith, ◌∙◌}
use Rattle.std.proofs.lemmas.Bool.{false≢true}
use Rattle.std.proofs.lemmas.Grind.{common_steps}
use Rattle.vms_queues.specs.Queues.{Queues, is_queued, is_grantable, with_request, after_ask}
use Rattle.vms_queues.proofs.Owners.{has_room-to_ask, after_ask-owners}
use Rattle.vms_locks.specs.Walks.{IsCycle, IsOnNoCycle}
use Rattle.vms_locks.specs.Table.{Table, table_of, queues_at, queues_with, WaitsIn, IsAwake, ChangesAt}
use Rattle.vms_locks.specs.Places.{place_of}
use Rattle.vms_locks.proofs.Queued.{request-own, request-others}
use Rattle.vms_locks.proofs.Requested.{requested-absent, ask-busy, ask-free}
use Rattle.vms_locks.proofs.Owned.{owners-changed}
use Rattle.vms_locks.proofs.Known.{places-kept, places-set}
use Rattle.vms_locks.proofs.requests.enq.Goals as goal

pub ask_at-requires-clause-fits : goal.ask_at-requires-clause-fits
ask_at-requires-clause-fits c =
    let node = c.args.asked.node in
    has_room-to_ask (queues_at (table_of c.args.table.now) node) c.args.asked.owner (c.requires.live.sound node) (c.requires.owners node) c.requires.owner c.requires.absent

pub ask_at-requires-2-clause-fits : goal.ask_at-requires-2-clause-fits
ask_at-requires-2-clause-fits c =
    let node = c.args.asked.node in
    has_room-to_ask (queues_at (table_of c.args.table.now) node) c.args.asked.owner (c.requires.live.sound node) (c.requires.owners node) c.requires.owner c.requires.absent

pub returns-in_default-clause-owners : goal.returns-in_default-clause-owners
returns-in_default-clause-owners c =
    let t : Table = table_of c.args.table.now in
    let node = c.args.asked.node in
    let o = c.args.asked.owner in
    let m = c.args.asked.mode in
    owners-changed t (table_of c.ask_at.new.table) node (after_ask (queues_at t node) o m) c.ask_at.ensures.after c.requires.owners (after_ask-owners (queues_at t node) o m (c.requires.owners node) c.requires.owner)

pub returns-in_default-clause-known : goal.returns-in_default-clause-known
returns-in_default-clause-known c =
    let t : Table = table_of c.args.table.now in
    let node = c.args.asked.node in
    let o = c.args.asked.owner in
    let m = c.args.asked.mode in
    let free : is_grantable (queues_at t node) o m ≡ true = sym c.in_default.ensures.free in
    places-kept t (table_of c.ask_at.new.table) (place_of c.args.places.now) c.requires.known node (after_ask (queues_at t node) o m) c.ask_at.ensures.after
    (λ p. ap (λ (r : Queues). is_queued p r) (ask-free (queues_at t node) o m free))

pub returns-in-Some-find_cycle-clause-answer : goal.returns-in-Some-find_cycle-clause-answer
returns-in-Some-find_cycle-clause-answer c =
    let t : Table = table_of c.args.table.now in
    let o = c.args.asked.owner in (
      sym c.in-Some.ensures.free,
      grind (arith, common_steps, c.if-not-wait.false),
      subst (λ (q : Queues). IsCycle (WaitsIn (queues_with (queues_at t) c.args.asked.node q)) o c.in-Some-find_cycle.cycle) (requested-absent (queues_at t c.args.asked.node) o c.args.asked.mode c.requires.absent) c.in-Some-find_cycle.ensures.cycle,
      refl,
    )

pub returns-clause-answer : goal.returns-clause-answer
returns-clause-answer c =
    let t : Table = table_of c.args.table.now in
    let o = c.args.asked.owner in
    let node = c.args.asked.node in
    let busy : is_grantable (queues_at t node) o c.args.asked.mode ≡ false = sym c.in-Some.ensures.free in (
      busy,
      grind (arith, common_steps, c.if-not-wait.false),
      subst (λ (q : Queues). IsOnNoCycle (WaitsIn (queues_with (queues_at t) node q)) o) (requested-absent (queues_at t node) o c.args.asked.mode c.requires.absent) c.in_default-find_cycle.ensures.none,
      subst (λ (q : Queues). ChangesAt t (table_of c.ask_at-2.new.table) node q) (ask-busy (queues_at t node) o c.args.asked.mode busy) c.ask_at-2.ensures.after,
    )

pub returns-clause-owners : goal.returns-clause-owners
returns-clause-owners c =
    let t : Table = table_of c.args.table.now in
    let node = c.args.asked.node in
    let o = c.args.asked.owner in
    let m = c.args.asked.mode in
    owners-changed t (table_of c.ask_at-2.new.table) node (after_ask (queues_at t node) o m) c.ask_at-2.ensures.after c.requires.owners (after_ask-owners (queues_at t node) o m (c.requires.owners node) c.requires.owner)

pub returns-clause-known : goal.returns-clause-known
returns-clause-known c =
    let t : Table = table_of c.args.table.now in
    let node = c.args.asked.node in
    let o = c.args.asked.owner in
    let m = c.args.asked.mode in
    let q : Queues = queues_at t node in
    let busy : is_grantable q o m ≡ false = sym c.in-Some.ensures.free in
    let quiet : IsAwake (queues_at t) o = elim c.requires.awake [ inl p ↦ p | inr free ↦ absurd (false≢true (sym busy ∙ free)) ] in
    places-set t (table_of c.ask_at-2.new.table) (place_of c.args.places.now) c.requires.known node (with_request q o m)
    (subst (λ (r : Queues). ChangesAt t (table_of c.ask_at-2.new.table) node r) (ask-busy q o m busy) c.ask_at-2.ensures.after)
    (place_of c.set.new.self) o quiet c.requires.owner c.set.ensures.own c.set.ensures.others (request-own q o m) (request-others q o m)
