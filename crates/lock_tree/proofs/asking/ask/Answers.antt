use Rattle.std.proofs.Common.{◌≡◌, sym, subst, inl, true, Option}
use Rattle.std.specs.Prelude.{unwrap_or}
use Rattle.std.proofs.lemmas.Bool.{or_parts}
use Rattle.vms_queues.specs.declared.lock_mode.Mode.{Mode}
use Rattle.vms_queues.specs.declared.lock_mode.Mode.TheVariants.{NL}
use Rattle.vms_queues.specs.Modes.{at_most}
use Rattle.vms_queues.specs.Queues.{has_owner}
use Rattle.vms_locks.specs.Table.{queues_at}
use Rattle.vms_locks.proofs.Granting.{live-after_enq, live-after_convert}
use Rattle.vms_locks.specs.Answers.{Request, Answers}
use Rattle.lock_tree_laws.proofs.HeldModes.{mode-has_owner, no-mode_absent}
use Rattle.lock_tree_laws.proofs.Changes.{quiet-at}
use Rattle.lock_tree_laws.proofs.Conditions.{absent-quiet}
use Rattle.lock_tree_laws.proofs.Answered.{quiet-awake, request-answered, conversion-answered, request-converts, request-asks}
use Rattle.lock_tree.proofs.asking.ask.Goals as goal

pub convert-requires-clause-granted : goal.convert-requires-clause-granted
convert-requires-clause-granted c = mode-has_owner c.args.owner (queues_at c.args.locks.now c.args.node).granted c.in-Some.field-0 (sym c.in-Some.ensures.value)

pub convert-requires-clause-once : goal.convert-requires-clause-once
convert-requires-clause-once c =
    let q = queues_at c.args.locks.now c.args.node in
    (or_parts (has_owner c.args.owner q.converting) (has_owner c.args.owner q.waiting) (quiet-at c.args.locks.now c.args.locks.now c.args.owner c.args.node c.in-Some.ensures.live (c.requires.quiet c.args.node))).0

pub convert-requires-clause-awake : goal.convert-requires-clause-awake
convert-requires-clause-awake c = inl (quiet-awake c.args.locks.now c.args.owner c.in-Some.ensures.live c.requires.quiet)

pub enq-requires-clause-absent : goal.enq-requires-clause-absent
enq-requires-clause-absent c =
    absent-quiet c.args.locks.now c.args.locks.now c.args.owner c.args.node c.args.mode c.in-None.ensures.live
    (quiet-at c.args.locks.now c.args.locks.now c.args.owner c.args.node c.in-None.ensures.live (c.requires.quiet c.args.node)) (sym c.in-None.ensures.value)

pub enq-requires-clause-awake : goal.enq-requires-clause-awake
enq-requires-clause-awake c = inl (quiet-awake c.args.locks.now c.args.owner c.in-None.ensures.live c.requires.quiet)

pub returns-in-Some-clause-answer : goal.returns-in-Some-clause-answer
returns-in-Some-clause-answer c =
    conversion-answered c.args.locks.now c.convert.new.self c.args.owner c.args.node c.args.mode c.args.wait c.in-Some.ensures.live c.requires.quiet c.in-Some.field-0 (sym c.in-Some.ensures.value)
    (subst (λ (x : Option Mode). at_most (unwrap_or x NL) c.args.mode ≡ true) (sym c.in-Some.ensures.value) c.requires.ascends) c.convert.result c.convert.ensures.answer

pub returns-in-None-clause-answer : goal.returns-in-None-clause-answer
returns-in-None-clause-answer c =
    request-answered c.args.locks.now c.enq.new.self c.args.owner c.args.node c.args.mode c.args.wait c.in-None.ensures.live c.requires.quiet (sym c.in-None.ensures.value) c.enq.result c.enq.ensures.answer

pub returns-in-Some-clause-exact : goal.returns-in-Some-clause-exact
returns-in-Some-clause-exact c =
    subst (λ (r : Request). Answers c.args.locks.now c.convert.new.self c.args.owner c.args.node c.args.wait r c.convert.result)
    (sym (request-converts c.args.locks.now c.args.owner c.args.node c.args.mode (mode-has_owner c.args.owner (queues_at c.args.locks.now c.args.node).granted c.in-Some.field-0 (sym c.in-Some.ensures.value)))) c.convert.ensures.answer

pub returns-in-None-clause-exact : goal.returns-in-None-clause-exact
returns-in-None-clause-exact c =
    subst (λ (r : Request). Answers c.args.locks.now c.enq.new.self c.args.owner c.args.node c.args.wait r c.enq.result)
    (sym (request-asks c.args.locks.now c.args.owner c.args.node c.args.mode (no-mode_absent c.args.owner (queues_at c.args.locks.now c.args.node).granted (sym c.in-None.ensures.value)))) c.enq.ensures.answer

pub returns-in-Some-clause-live : goal.returns-in-Some-clause-live
returns-in-Some-clause-live c =
    let q = queues_at c.args.locks.now c.args.node in
    live-after_convert c.args.locks.now c.convert.new.self c.args.owner c.args.node c.args.mode c.args.wait c.convert.result (mode-has_owner c.args.owner q.granted c.in-Some.field-0 (sym c.in-Some.ensures.value))
    (or_parts (has_owner c.args.owner q.converting) (has_owner c.args.owner q.waiting) (quiet-at c.args.locks.now c.args.locks.now c.args.owner c.args.node c.in-Some.ensures.live (c.requires.quiet c.args.node))).0
    (inl (quiet-awake c.args.locks.now c.args.owner c.in-Some.ensures.live c.requires.quiet)) c.in-Some.ensures.live c.convert.ensures.answer

pub returns-in-None-clause-live : goal.returns-in-None-clause-live
returns-in-None-clause-live c =
    live-after_enq c.args.locks.now c.enq.new.self c.args.owner c.args.node c.args.mode c.args.wait c.enq.result
    (absent-quiet c.args.locks.now c.args.locks.now c.args.owner c.args.node c.args.mode c.in-None.ensures.live
    (quiet-at c.args.locks.now c.args.locks.now c.args.owner c.args.node c.in-None.ensures.live (c.requires.quiet c.args.node)) (sym c.in-None.ensures.value))
    (inl (quiet-awake c.args.locks.now c.args.owner c.in-None.ensures.live c.requires.quiet)) c.in-None.ensures.live c.enq.ensures.answer
