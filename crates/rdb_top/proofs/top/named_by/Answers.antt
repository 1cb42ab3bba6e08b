use Rattle.rdb_top.proofs.top.named_by.Goals as goal

pub returns-clause-sessions : goal.returns-clause-sessions
returns-clause-sessions c = c.in_ok-order.ensures.sessions c.args.asked.given c.requires.row
