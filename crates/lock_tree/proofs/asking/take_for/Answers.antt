use Rattle.std.proofs.Common.{sym, subst}
use Rattle.lock_tree_laws.specs.Parties.{IsKept, unasked}
use Rattle.lock_tree_laws.proofs.Opened.{as-open}
use Rattle.lock_tree.proofs.asking.take_for.Goals as goal

pub returns-then-granted-clause-kept : goal.returns-then-granted-clause-kept
returns-then-granted-clause-kept c =
    subst (IsKept c.ask_whole-granted.new.locks c.args.owner) (sym (c.get.ensures.got (unasked c.args.want) c.requires.opened))
    (c.ask_whole-granted.ensures.got c.if-granted.true c.args.party.now.needs
    (subst (IsKept c.args.locks.now c.args.owner) (as-open c.args.party.now (unasked c.args.want) c.requires.opened) c.requires.kept))

pub returns-then-granted-clause-got : goal.returns-then-granted-clause-got
returns-then-granted-clause-got c = λ g. c.get.ensures.got (unasked c.args.want) c.requires.opened
