use Rattle.lock_tree_laws.proofs.Exactness.{least-after}
use Rattle.lock_tree.proofs.asking.make_least.Goals as goal

pub returns-clause-least : goal.returns-clause-least
returns-clause-least c =
    least-after c.args.locks.now c.serve_notice-served.new.locks c.args.owner c.args.party.now c.args.want c.requires.opened c.requires.kept c.requires.intents c.requires.uncovered
    c.serve_notice-served.ensures.least c.serve_notice-served.ensures.unchanged

pub returns-clause-down : goal.returns-clause-down
returns-clause-down c = record {
  way = c.serve_notice-served.ensures.way;
  stands = c.serve_notice-served.ensures.stands;
  kept = c.serve_notice-served.ensures.kept;
  intents = c.serve_notice-served.ensures.intents;
  others = c.serve_notice-served.ensures.others;
}

pub returns-clause-served : goal.returns-clause-served
returns-clause-served c = c.serve_notice-served.ensures.served
