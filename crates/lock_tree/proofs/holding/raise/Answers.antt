use Rattle.std.proofs.Common.{◌≡◌, sym, ap, subst, inr, true, Option}
use Rattle.std.specs.Prelude.{unwrap_or}
use Rattle.std.proofs.lemmas.Bool.{or_parts}
use Rattle.vms_queues.specs.declared.lock_mode.Mode.{Mode}
use Rattle.vms_queues.specs.declared.lock_mode.Mode.TheVariants.{NL}
use Rattle.vms_queues.specs.Modes.{at_most}
use Rattle.vms_queues.specs.Queues.{has_owner}
use Rattle.vms_locks.specs.Table.{queues_at}
use Rattle.vms_locks.specs.Answers.{asking, converting}
use Rattle.vms_locks.proofs.Granting.{live-after_enq, live-after_convert}
use Rattle.lock_tree_laws.proofs.HeldModes.{mode-has_owner}
use Rattle.lock_tree_laws.proofs.Changes.{quiet-at}
use Rattle.lock_tree_laws.proofs.Conditions.{fits-free, grantable-free, no-wait_free, granted-only, absent-quiet, asked-law, converted-law}
use Rattle.lock_tree_laws.proofs.Ordered.{flip}
use Rattle.lock_tree_laws.proofs.OrderedRequests.{asked-order, raised-order}
use Rattle.lock_tree_laws.proofs.WayMade.{way-raised}
use Rattle.lock_tree.proofs.holding.raise.Goals as goal

pub convert-granted-requires-clause-granted : goal.convert-granted-requires-clause-granted
convert-granted-requires-clause-granted c = mode-has_owner c.args.owner (queues_at c.args.locks.now c.args.node).granted c.in-Some.field-0 (sym c.in-Some.ensures.value)

pub convert-granted-requires-clause-once : goal.convert-granted-requires-clause-once
convert-granted-requires-clause-once c =
    let q = queues_at c.args.locks.now c.args.node in
    (or_parts (has_owner c.args.owner q.converting) (has_owner c.args.owner q.waiting) (quiet-at c.args.locks.now c.args.locks.now c.args.owner c.args.node c.in-Some.ensures.live c.requires.awake)).0

pub convert-granted-requires-clause-awake : goal.convert-granted-requires-clause-awake
convert-granted-requires-clause-awake c =
    inr (
      fits-free c.args.locks.now c.args.owner c.args.node c.args.mode c.in-Some.ensures.live c.requires.free c.requires.bars_nobody,
      no-wait_free c.args.locks.now c.args.owner c.args.node c.args.mode c.in-Some.ensures.live c.requires.free c.requires.bars_nobody,
    )

pub enq-granted-requires-clause-absent : goal.enq-granted-requires-clause-absent
enq-granted-requires-clause-absent c =
    absent-quiet c.args.locks.now c.args.locks.now c.args.owner c.args.node c.args.mode c.in-None.ensures.live
    (quiet-at c.args.locks.now c.args.locks.now c.args.owner c.args.node c.in-None.ensures.live c.requires.awake) (sym c.in-None.ensures.value)

pub enq-granted-requires-clause-awake : goal.enq-granted-requires-clause-awake
enq-granted-requires-clause-awake c =
    inr (grantable-free c.args.locks.now c.args.owner c.args.node c.args.mode c.in-None.ensures.live c.requires.free c.requires.bars_nobody
    (ap (λ (x : Option Mode). unwrap_or x NL) (sym c.in-None.ensures.value)))

pub returns-in-Some-clause-raised : goal.returns-in-Some-clause-raised
returns-in-Some-clause-raised c =
    let t = c.args.locks.now in
    let fit = fits-free t c.args.owner c.args.node c.args.mode c.in-Some.ensures.live c.requires.free c.requires.bars_nobody in
    converted-law t c.convert-granted.new.self c.args.owner c.args.node c.args.mode c.in-Some.ensures.live
    (quiet-at t t c.args.owner c.args.node c.in-Some.ensures.live c.requires.awake)
    c.in-Some.field-0 (sym c.in-Some.ensures.value)
    (subst (λ (x : Option Mode). at_most (unwrap_or x NL) c.args.mode ≡ true) (sym c.in-Some.ensures.value) c.requires.ascends)
    fit
    (granted-only t c.convert-granted.new.self c.args.owner c.args.node _ (converting (queues_at t c.args.node) c.args.owner c.args.mode) _ fit c.convert-granted.ensures.answer)

pub returns-in-None-clause-raised : goal.returns-in-None-clause-raised
returns-in-None-clause-raised c =
    let t = c.args.locks.now in
    let none = sym c.in-None.ensures.value in
    asked-law t c.enq-granted.new.self c.args.owner c.args.node c.args.mode c.in-None.ensures.live
    (quiet-at t t c.args.owner c.args.node c.in-None.ensures.live c.requires.awake) none
    (granted-only t c.enq-granted.new.self c.args.owner c.args.node _ (asking (queues_at t c.args.node) c.args.owner c.args.mode) _
    (grantable-free t c.args.owner c.args.node c.args.mode c.in-None.ensures.live c.requires.free c.requires.bars_nobody (ap (λ (x : Option Mode). unwrap_or x NL) none))
    c.enq-granted.ensures.answer)

pub returns-in-Some-clause-way : goal.returns-in-Some-clause-way
returns-in-Some-clause-way c =
    let t = c.args.locks.now in
    let fit = fits-free t c.args.owner c.args.node c.args.mode c.in-Some.ensures.live c.requires.free c.requires.bars_nobody in
    let changes = granted-only t c.convert-granted.new.self c.args.owner c.args.node _ (converting (queues_at t c.args.node) c.args.owner c.args.mode) _ fit c.convert-granted.ensures.answer in
    way-raised c.args.owner t c.convert-granted.new.self c.args.node c.args.mode
    (raised-order t c.convert-granted.new.self c.args.owner c.args.node c.in-Some.ensures.live c.args.mode c.in-Some.field-0 (sym c.in-Some.ensures.value) fit c.requires.used c.requires.awake
    (λ a d. c.requires.bars_nobody a (flip c.args.owner a d)) changes)
    (λ l. live-after_convert t c.convert-granted.new.self c.args.owner c.args.node c.args.mode _ _ (mode-has_owner c.args.owner (queues_at t c.args.node).granted c.in-Some.field-0 (sym c.in-Some.ensures.value))
    (or_parts (has_owner c.args.owner (queues_at t c.args.node).converting) (has_owner c.args.owner (queues_at t c.args.node).waiting) (quiet-at t t c.args.owner c.args.node c.in-Some.ensures.live c.requires.awake)).0
    (inr (fit, no-wait_free t c.args.owner c.args.node c.args.mode c.in-Some.ensures.live c.requires.free c.requires.bars_nobody)) l c.convert-granted.ensures.answer)
    (converted-law t c.convert-granted.new.self c.args.owner c.args.node c.args.mode c.in-Some.ensures.live
    (quiet-at t t c.args.owner c.args.node c.in-Some.ensures.live c.requires.awake)
    c.in-Some.field-0 (sym c.in-Some.ensures.value)
    (subst (λ (x : Option Mode). at_most (unwrap_or x NL) c.args.mode ≡ true) (sym c.in-Some.ensures.value) c.requires.ascends)
    fit changes)
    c.requires.bars_nobody

pub returns-in-None-clause-way : goal.returns-in-None-clause-way
returns-in-None-clause-way c =
    let t = c.args.locks.now in
    let none = sym c.in-None.ensures.value in
    let free = grantable-free t c.args.owner c.args.node c.args.mode c.in-None.ensures.live c.requires.free c.requires.bars_nobody (ap (λ (x : Option Mode). unwrap_or x NL) none) in
    let quiet = quiet-at t t c.args.owner c.args.node c.in-None.ensures.live c.requires.awake in
    let changes = granted-only t c.enq-granted.new.self c.args.owner c.args.node _ (asking (queues_at t c.args.node) c.args.owner c.args.mode) _ free c.enq-granted.ensures.answer in
    way-raised c.args.owner t c.enq-granted.new.self c.args.node c.args.mode
    (asked-order t c.enq-granted.new.self c.args.owner c.args.node c.in-None.ensures.live c.args.mode (absent-quiet t t c.args.owner c.args.node c.args.mode c.in-None.ensures.live quiet none) free c.requires.used changes)
    (λ l. live-after_enq t c.enq-granted.new.self c.args.owner c.args.node c.args.mode _ _ (absent-quiet t t c.args.owner c.args.node c.args.mode c.in-None.ensures.live quiet none) (inr free) l c.enq-granted.ensures.answer)
    (asked-law t c.enq-granted.new.self c.args.owner c.args.node c.args.mode c.in-None.ensures.live quiet none changes)
    c.requires.bars_nobody
