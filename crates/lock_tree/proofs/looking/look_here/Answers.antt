use Rattle.std.proofs.Common.{◌≡◌, sym, ◌∙◌, subst, List, true}
use Rattle.std.specs.Prelude.{None}
use Rattle.vms_queues.specs.declared.lock_mode.Mode.{Mode}
use Rattle.vms_queues.specs.Modes.{at_most}
use Rattle.vms_queues.specs.Queues.{blockers}
use Rattle.lock_needs.specs.declared.need.Need.{Need}
use Rattle.lock_needs.specs.Party.{Party}
use Rattle.lock_needs.specs.Wants.{kept_at}
use Rattle.lock_tree_laws.specs.LockTable.{granted_at}
use Rattle.lock_tree_laws.specs.Parties.{IsKept, wanting, unasked}
use Rattle.lock_tree_laws.specs.Asking.{first_excess}
use Rattle.lock_tree_laws.specs.Inner.Answering.{TakesAnswer, ComesDown}
use Rattle.vms_locks.specs.Table.{queues_at}
use Rattle.lock_tree_laws.proofs.InWay.{found-in_way}
use Rattle.lock_tree_laws.proofs.Opened.{as-open}
use Rattle.lock_tree_laws.proofs.MeasureFalls.{way-leaves}
use Rattle.lock_tree_laws.proofs.OthersLeft.{leaves-then, answer-leaves}
use Rattle.lock_tree_laws.specs.Progress.{IsServedAt}
use Rattle.lock_tree.proofs.looking.look_here.Goals as goal

pub returns-in-Some-clause-look : goal.returns-in-Some-clause-look
returns-in-Some-clause-look c =
    let found = found-in_way c.make_least.new.locks c.args.parties.now.entries c.args.want.here c.args.owner c.mode_of_want-mode.result c.in-Some.other c.mode_of_want-mode.ensures.live (sym c.find_excess.ensures ∙ c.in-Some.is) in (
      subst (λ (p : Party). ComesDown c.args.owner p c.args.locks.now c.make_least.new.locks) (as-open c.args.party.now (unasked c.args.want) c.requires.opened) c.make_least.ensures.down,
      record {
        asks = c.mode_of_want-mode.ensures.value;
        other = found.0;
        in_way = found.1;
        excess = found.2;
        first = sym c.find_excess.ensures ∙ c.in-Some.is;
      },
    )

pub ask_here-answer-requires-clause-kept : goal.ask_here-answer-requires-clause-kept
ask_here-answer-requires-clause-kept c =
    subst (λ (ws : List Need). IsKept c.make_least.new.locks c.args.owner (wanting ws (unasked c.args.want))) (sym c.needs.ensures)
    (subst (IsKept c.make_least.new.locks c.args.owner) (as-open c.args.party.now (unasked c.args.want) c.requires.opened) c.make_least.ensures.down.kept)

pub ask_here-answer-requires-clause-least : goal.ask_here-answer-requires-clause-least
ask_here-answer-requires-clause-least c =
    subst (λ (ws : List Need). at_most (granted_at c.make_least.new.locks c.args.owner c.args.want.here) (kept_at (granted_at c.make_least.new.locks c.args.owner) (wanting ws (unasked c.args.want)) c.args.want.here) ≡ true) (sym c.needs.ensures)
    (subst (λ (p : Party). at_most (granted_at c.make_least.new.locks c.args.owner c.args.want.here) (kept_at (granted_at c.make_least.new.locks c.args.owner) p c.args.want.here) ≡ true)
    (as-open c.args.party.now (unasked c.args.want) c.requires.opened) c.make_least.ensures.least)

pub returns-clause-others : goal.returns-clause-others
returns-clause-others c = λ u q d k. c.ask_here-answer.ensures.others u q d (c.make_least.ensures.down.others u q d k)

pub returns-clause-look : goal.returns-clause-look
returns-clause-look c = (
  subst (λ (ws : List Need). TakesAnswer c.ask_here-answer.new.locks c.args.owner ws c.args.want c.args.wait c.ask_here-answer.result) c.needs.ensures c.ask_here-answer.ensures.answer,
  record {
    before = c.make_least.new.locks;
    down = subst (λ (p : Party). ComesDown c.args.owner p c.args.locks.now c.make_least.new.locks) c.requires.party c.make_least.ensures.down;
    live = c.ask_here-answer.ensures.live;
    least = subst (λ (p : Party). at_most (granted_at c.make_least.new.locks c.args.owner c.args.want.here) (kept_at (granted_at c.make_least.new.locks c.args.owner) p c.args.want.here) ≡ true)
        c.requires.party c.make_least.ensures.least;
    none_due = subst (λ (m : Mode). first_excess c.make_least.new.locks c.args.parties.now.entries c.args.want.here (blockers c.args.owner m (queues_at c.make_least.new.locks c.args.want.here).granted) ≡ None)
        c.mode_of_want-mode.ensures.value (sym c.find_excess.ensures ∙ c.in_default.is);
    exact = c.ask_here-answer.ensures.exact;
    left = c.ask_here-answer.ensures.left;
    served = subst (λ (p : Party). IsServedAt c.args.owner p c.args.want.here c.args.locks.now c.make_least.new.locks) c.requires.party c.make_least.ensures.served;
  },
)

pub ask_here-answer-requires-clause-intents : goal.ask_here-answer-requires-clause-intents
ask_here-answer-requires-clause-intents c = c.make_least.ensures.down.intents

pub returns-in-Some-clause-intents : goal.returns-in-Some-clause-intents
returns-in-Some-clause-intents c = c.make_least.ensures.down.intents

pub returns-in-Some-clause-others : goal.returns-in-Some-clause-others
returns-in-Some-clause-others c = c.make_least.ensures.down.others

pub returns-in-Some-clause-progress : goal.returns-in-Some-clause-progress
returns-in-Some-clause-progress c = c.make_least.ensures.served

pub returns-clause-progress : goal.returns-clause-progress
returns-clause-progress c =
    leaves-then c.args.locks.now c.make_least.new.locks c.ask_here-answer.new.locks c.args.owner
    (way-leaves c.args.locks.now c.make_least.new.locks c.args.owner c.requires.intents c.make_least.ensures.down.way)
    (answer-leaves c.make_least.new.locks c.ask_here-answer.new.locks c.args.owner c.args.want.here _ c.args.wait c.ask_here-answer.result c.ask_here-answer.ensures.left)
