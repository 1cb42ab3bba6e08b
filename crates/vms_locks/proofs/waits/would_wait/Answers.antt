use Rattle.std.proofs.Common.{◌≡◌, Bool, false, ◌∙◌, sym, ap}
use Rattle.std.specs.Prelude.{◌||◌, ◌&&◌, ◌==◌}
use Rattle.vms_queues.specs.Waits.{waits}
use Rattle.vms_locks.specs.Table.{table_of, queues_at, requested}
use Rattle.vms_locks.specs.Places.{place_of}
use Rattle.vms_locks.proofs.Waiting.{would-awake, would-here, would-elsewhere}
use Rattle.vms_locks.proofs.waits.would_wait.Goals as goal

pub returns-in_default : goal.returns-in_default
returns-in_default c =
    would-awake (queues_at (table_of c.args.table.now)) (place_of c.args.places.now) c.requires c.args.asked.owner c.args.asked.node c.args.asked.mode c.args.waiter c.args.blocker c.asker_waits.result (sym c.in_default.ensures) c.asker_waits.ensures

pub returns-then-eq : goal.returns-then-eq
returns-then-eq c =
    would-here (queues_at (table_of c.args.table.now)) (place_of c.args.places.now) c.requires c.args.asked.owner c.args.asked.node c.args.asked.mode c.args.waiter c.args.blocker c.in-Some.node c.waits_there.result (sym c.in-Some.ensures) (sym c.if-eq.ensures) c.waits_there.ensures

pub returns-else-waits_at : goal.returns-else-waits_at
returns-else-waits_at c =
    let at = queues_at (table_of c.args.table.now) in
    let asker : Bool = (c.args.waiter == c.args.asked.owner) && waits (requested (at c.args.asked.node) c.args.asked.owner c.args.asked.mode) c.args.waiter c.args.blocker in
    let none : waits (at c.in-Some.node) c.args.waiter c.args.blocker ≡ false = sym c.waits_at.ensures ∙ c.if-waits_at.false in
    would-elsewhere at (place_of c.args.places.now) c.requires c.args.asked.owner c.args.asked.node c.args.asked.mode c.args.waiter c.args.blocker c.in-Some.node c.asker_waits-else-waits_at.result (sym c.in-Some.ensures) (sym c.if-eq.ensures)
    (c.asker_waits-else-waits_at.ensures ∙ sym (ap (λ (b : Bool). b || asker) none))
