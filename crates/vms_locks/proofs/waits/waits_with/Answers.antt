use Rattle.std.proofs.Common.{◌≡◌, Bool, true, false, ap, sym, ◌∙◌, arith}
use Rattle.std.specs.Prelude.{if◌then◌else◌}
use Rattle.std.proofs.lemmas.Grind.{common_steps}
use Rattle.vms_queues.specs.Queues.{Queues, has_owner, with_request, with_conversion}
use Rattle.vms_queues.specs.Waits.{waits}
use Rattle.vms_locks.proofs.Waiting.{holds_mode}
use Rattle.vms_locks.proofs.waits.waits_with.Goals as goal

pub returns-then-is_some : goal.returns-then-is_some
returns-then-is_some c =
    let q : Queues = c.args.resource.now in
    let holds : has_owner c.args.asked.owner q.granted ≡ true = grind (arith, common_steps, holds_mode c.args.asked.owner q.granted) in
    c.waits_if_converting.ensures
    ∙ sym (ap (λ (b : Bool). waits (if b then with_conversion q c.args.asked.owner c.args.asked.mode else with_request q c.args.asked.owner c.args.asked.mode) c.args.waiter c.args.blocker) holds)

pub returns-else-is_some : goal.returns-else-is_some
returns-else-is_some c =
    let q : Queues = c.args.resource.now in
    let holds : has_owner c.args.asked.owner q.granted ≡ false = grind (arith, common_steps, holds_mode c.args.asked.owner q.granted) in
    c.waits_if_asking.ensures
    ∙ sym (ap (λ (b : Bool). waits (if b then with_conversion q c.args.asked.owner c.args.asked.mode else with_request q c.args.asked.owner c.args.asked.mode) c.args.waiter c.args.blocker) holds)
