use Rattle.std.proofs.Common.{sym, ◌∙◌}
use Rattle.lock_tree_laws.proofs.Released.{stopped-quiet, stopped-places}
use Rattle.lock_tree_laws.proofs.WayMade.{way-none}
use Rattle.lock_tree.proofs.releasing.stop_sleeping.Goals as goal

pub returns-in-Some-clause-quiet : goal.returns-in-Some-clause-quiet
returns-in-Some-clause-quiet c =
    stopped-quiet c.args.locks.now c.stop_asking-stopped.new.locks c.args.owner c.args.party.now c.in-Some.want c.stop_asking-stopped.result (sym c.opened.ensures ∙ c.in-Some.is) c.stop_asking-stopped.ensures.here c.requires.kept c.stop_asking-stopped.ensures.kept

pub returns-in-Some-clause-places : goal.returns-in-Some-clause-places
returns-in-Some-clause-places c =
    stopped-places c.args.locks.now c.stop_asking-stopped.new.locks c.args.owner c.args.party.now c.in-Some.want c.stop_asking-stopped.result (sym c.opened.ensures ∙ c.in-Some.is) c.stop_asking-stopped.ensures.here c.requires.kept c.stop_asking-stopped.ensures.kept

pub returns-in_default-clause-way : goal.returns-in_default-clause-way
returns-in_default-clause-way c = way-none c.args.owner c.args.locks.now
