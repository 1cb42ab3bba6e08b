use Rattle.std.proofs.Common.{subst}
use Rattle.rdo_ast.specs.Views.{uttered_of}
use Rattle.line_view.specs.Held.{knows}
use Rattle.whole_statements.specs.declared.way.Way.{Way}
use Rattle.whole_statements.specs.Ways.{IsWay}
use Rattle.whole_statements.proofs.Stops.{done-cause, done-once}
use Rattle.whole_statements.proofs.Unread.{unread, no-need}
use Rattle.whole_statements.proofs.whole.found_for.Goals as goal

pub returns-in-Unread-clause-right : goal.returns-in-Unread-clause-right
returns-in-Unread-clause-right c =
    unread c.args.job.now.word c.args.job.now.standing (uttered_of c.args.job.now.item) (knows c.args.job.now.known) c.no_tables.result c.do_on.result
    (subst (λ (w : Way). IsWay w c.args.job.now.standing (uttered_of c.args.job.now.item)) c.in-Unread.is c.way_of.ensures) c.no_tables.ensures c.do_on.ensures

pub returns-in-Unread-clause-outside : goal.returns-in-Unread-clause-outside
returns-in-Unread-clause-outside c out = no-need c.args.job.now.word c.args.job.now.standing (uttered_of c.args.job.now.item) c.no_tables.result c.do_on.result c.do_on.ensures

pub returns-in-Reading-clause-outside : goal.returns-in-Reading-clause-outside
returns-in-Reading-clause-outside c out =
    let way = subst (λ (w : Way). IsWay w c.args.job.now.standing (uttered_of c.args.job.now.item)) c.in-Reading.is c.way_of.ensures in
    absurd (way.begun (record { closed = out.closed; none = out.none }))

pub returns-in-Unread-clause-cause : goal.returns-in-Unread-clause-cause
returns-in-Unread-clause-cause c = done-cause c.args.job.now.word c.args.job.now.standing (uttered_of c.args.job.now.item) c.no_tables.result c.args.job.now c.do_on.result c.do_on.ensures

pub returns-in-Unread-clause-once : goal.returns-in-Unread-clause-once
returns-in-Unread-clause-once c = done-once c.args.job.now.word c.args.job.now.standing (uttered_of c.args.job.now.item) c.no_tables.result c.do_on.result c.do_on.ensures
