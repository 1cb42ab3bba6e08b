use Rattle.std.proofs.Common.{◌≡◌, ◌≤◌, ◌∙◌, sym, subst, true, false, List, length, arith}
use Rattle.rdb_types.specs.declared.node.Node.{Node}
use Rattle.vms_queues.specs.Queues.{Queues}
use Rattle.lock_needs.specs.Keeping.{is_excess}
use Rattle.lock_needs.specs.Wants.{kept_at}
use Rattle.lock_tree_laws.specs.LockTable.{granted_at}
use Rattle.lock_tree.specs.Notices.{notice_answer}
use Rattle.lock_tree_laws.specs.Forest.{places_kept}
use Rattle.lock_tree_laws.specs.Parties.{IsKept}
use Rattle.lock_tree_laws.specs.Order.{StandsByNeeds}
use Rattle.lock_tree_laws.proofs.Outcomes.{on_err-any}
use Rattle.lock_tree_laws.proofs.Respared.{intents-same, way-same}
use Rattle.lock_tree_laws.proofs.WayMade.{way-none}
use Rattle.lock_tree_laws.proofs.ServedAt.{served-roomy, room-served}
use Rattle.lock_tree.proofs.notice.answer_notice.Goals as goal

pub returns-in_err-make_room_for_notice-clause-err : goal.returns-in_err-make_room_for_notice-clause-err
returns-in_err-make_room_for_notice-clause-err c = on_err-any _ c.from_residual.result c.make_room_for_notice.ensures.entries

pub returns-in_err-make_room_for_notice-clause-intents : goal.returns-in_err-make_room_for_notice-clause-intents
returns-in_err-make_room_for_notice-clause-intents c = intents-same c.args.locks.now c.make_room_for_notice.new.locks c.make_room_for_notice.ensures.entries c.requires.intents

pub returns-in_err-make_room_for_notice-clause-kept : goal.returns-in_err-make_room_for_notice-clause-kept
returns-in_err-make_room_for_notice-clause-kept c = subst (λ (es : List (Node × Queues)). IsKept (record { entries = es; spare = c.make_room_for_notice.new.locks.spare }) c.args.owner c.args.party.now) (sym c.make_room_for_notice.ensures.entries) c.requires.kept

pub returns-in_err-make_room_for_notice-clause-others : goal.returns-in_err-make_room_for_notice-clause-others
returns-in_err-make_room_for_notice-clause-others c = λ u q d k. subst (λ (es : List (Node × Queues)). IsKept (record { entries = es; spare = c.make_room_for_notice.new.locks.spare }) u q) (sym c.make_room_for_notice.ensures.entries) k

pub returns-in_err-make_room_for_notice-clause-way : goal.returns-in_err-make_room_for_notice-clause-way
returns-in_err-make_room_for_notice-clause-way c = way-same c.args.owner c.args.locks.now c.make_room_for_notice.new.locks c.make_room_for_notice.new.locks c.make_room_for_notice.ensures.entries (way-none c.args.owner c.make_room_for_notice.new.locks)

pub returns-in_err-make_room_for_notice-clause-stands : goal.returns-in_err-make_room_for_notice-clause-stands
returns-in_err-make_room_for_notice-clause-stands c = λ s. subst (λ (es : List (Node × Queues)). StandsByNeeds (record { entries = es; spare = c.make_room_for_notice.new.locks.spare }) c.args.owner c.args.party.now) (sym c.make_room_for_notice.ensures.entries) s

pub serve_notice-requires-clause-intents : goal.serve_notice-requires-clause-intents
serve_notice-requires-clause-intents c = intents-same c.args.locks.now c.make_room_for_notice.new.locks c.make_room_for_notice.ensures.entries c.requires.intents

pub serve_notice-requires-clause-kept : goal.serve_notice-requires-clause-kept
serve_notice-requires-clause-kept c = subst (λ (es : List (Node × Queues)). IsKept (record { entries = es; spare = c.make_room_for_notice.new.locks.spare }) c.args.owner c.args.party.now) (sym c.make_room_for_notice.ensures.entries) c.requires.kept

pub serve_notice-requires-clause-room : goal.serve_notice-requires-clause-room
serve_notice-requires-clause-room c =
    subst (λ (es : List (Node × Queues)). is_excess (granted_at (record { entries = es; spare = c.make_room_for_notice.new.locks.spare }) c.args.owner c.args.node) (kept_at (granted_at (record { entries = es; spare = c.make_room_for_notice.new.locks.spare }) c.args.owner) c.args.party.now c.args.node) ≡ true → length c.args.party.now.needs ≤ c.make_room_for_notice.new.locks.spare)
    (sym c.make_room_for_notice.ensures.entries) (λ e. let room = c.in_ok-make_room_for_notice.ensures.ok e in omega (arith, room))

pub returns-clause-answer : goal.returns-clause-answer
returns-clause-answer c =
    subst (λ (es : List (Node × Queues)). c.serve_notice.result ≡ notice_answer (granted_at (record { entries = es; spare = c.make_room_for_notice.new.locks.spare }) c.args.owner c.args.node) (kept_at (granted_at (record { entries = es; spare = c.make_room_for_notice.new.locks.spare }) c.args.owner) c.args.party.now c.args.node))
    c.make_room_for_notice.ensures.entries c.serve_notice.ensures.answer

pub returns-clause-least : goal.returns-clause-least
returns-clause-least c =
    subst (λ (es : List (Node × Queues)). is_excess (granted_at (record { entries = es; spare = c.make_room_for_notice.new.locks.spare }) c.args.owner c.args.node) (kept_at (granted_at (record { entries = es; spare = c.make_room_for_notice.new.locks.spare }) c.args.owner) c.args.party.now c.args.node) ≡ true → granted_at c.serve_notice.new.locks c.args.owner c.args.node ≡ kept_at (granted_at (record { entries = es; spare = c.make_room_for_notice.new.locks.spare }) c.args.owner) c.args.party.now c.args.node)
    c.make_room_for_notice.ensures.entries c.serve_notice.ensures.least

pub returns-clause-unchanged : goal.returns-clause-unchanged
returns-clause-unchanged c = λ f.
    c.serve_notice.ensures.unchanged (subst (λ (es : List (Node × Queues)). is_excess (granted_at (record { entries = es; spare = c.make_room_for_notice.new.locks.spare }) c.args.owner c.args.node) (kept_at (granted_at (record { entries = es; spare = c.make_room_for_notice.new.locks.spare }) c.args.owner) c.args.party.now c.args.node) ≡ false) (sym c.make_room_for_notice.ensures.entries) f)
    ∙ c.in_ok-make_room_for_notice.ensures.unchanged f

pub returns-clause-others : goal.returns-clause-others
returns-clause-others c = λ u q d k. c.serve_notice.ensures.others u q d (subst (λ (es : List (Node × Queues)). IsKept (record { entries = es; spare = c.make_room_for_notice.new.locks.spare }) u q) (sym c.make_room_for_notice.ensures.entries) k)

pub returns-clause-way : goal.returns-clause-way
returns-clause-way c = way-same c.args.owner c.args.locks.now c.make_room_for_notice.new.locks c.serve_notice.new.locks c.make_room_for_notice.ensures.entries c.serve_notice.ensures.way

pub returns-clause-stands : goal.returns-clause-stands
returns-clause-stands c = λ s. c.serve_notice.ensures.stands (subst (λ (es : List (Node × Queues)). StandsByNeeds (record { entries = es; spare = c.make_room_for_notice.new.locks.spare }) c.args.owner c.args.party.now) (sym c.make_room_for_notice.ensures.entries) s)

pub returns-clause-served : goal.returns-clause-served
returns-clause-served c =
    served-roomy c.args.locks.now c.make_room_for_notice.new.locks c.serve_notice.new.locks c.args.owner c.args.party.now c.args.node c.make_room_for_notice.ensures.entries
    c.in_ok-make_room_for_notice.ensures.unchanged c.serve_notice.ensures.served

pub returns-clause-room : goal.returns-clause-room
returns-clause-room c =
    room-served c.args.locks.now c.make_room_for_notice.new.locks c.serve_notice.new.locks (length c.args.party.now.needs) (places_kept c.args.parties.now.entries)
    (is_excess (granted_at c.args.locks.now c.args.owner c.args.node) (kept_at (granted_at c.args.locks.now c.args.owner) c.args.party.now c.args.node))
    c.in_ok-make_room_for_notice.ensures.ok c.make_room_for_notice.ensures.spare
    (λ f. c.serve_notice.ensures.unchanged (subst (λ (es : List (Node × Queues)). is_excess (granted_at (record { entries = es; spare = c.make_room_for_notice.new.locks.spare }) c.args.owner c.args.node) (kept_at (granted_at (record { entries = es; spare = c.make_room_for_notice.new.locks.spare }) c.args.owner) c.args.party.now c.args.node) ≡ false) (sym c.make_room_for_notice.ensures.entries) f))
    c.serve_notice.ensures.spare
