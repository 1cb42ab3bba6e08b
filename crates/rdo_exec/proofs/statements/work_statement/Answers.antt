use Rattle.std.proofs.Common.{◌≡◌, None, refl, subst}
use Rattle.rdo_ast.specs.declared.reply.Standing.{Standing}
use Rattle.rdb_meaning.specs.Meaning.{standing_refusal}
use Rattle.rdo_ast.specs.Tree.{said}
use Rattle.rdo_ast.specs.Views.{command_of}
use Rattle.line_view.specs.Held.{knows}
use Rattle.rdo_exec.specs.declared.way.Way.{Way}
use Rattle.rdo_exec.specs.Ways.{IsWay}
use Rattle.session_jobs.specs.declared.jobs.Found.TheVariants.{Unworked}
use Rattle.rdo_exec.specs.Left.{strange}
use Rattle.rdo_exec.proofs.Answered.{left}
use Rattle.rdo_exec.proofs.Viewing.{unranged_strange}
use Rattle.rdo_exec.proofs.Answering.{answered_comes, answered_reads_nothing}
use Rattle.rdo_exec.proofs.Locks.{answered_asks}
use Rattle.rdo_exec.proofs.Outside.{answered_settled, unranged_begins}
use Rattle.rdo_exec.proofs.Viewing.{naming_views, defining_views, viewing_begins, reserving_begins}
use Rattle.rdo_exec.proofs.FirstNeeds.{item_names_none, reserving_needs}
use Rattle.rdo_exec.proofs.statements.work_statement.Goals as goal

pub returns-in-Plain-clause-asked : goal.returns-in-Plain-clause-asked
returns-in-Plain-clause-asked c = λ all t sound agrees. answered_asks c.args.word.now c.args.standing.now (said (command_of c.args.statement.now)) c.plain.result t c.plain.ensures

pub returns-in-Plain-clause-comes : goal.returns-in-Plain-clause-comes
returns-in-Plain-clause-comes c = answered_comes c.args.word.now c.args.standing.now (said (command_of c.args.statement.now)) (knows c.args.known) c.plain.result c.plain.ensures

pub returns-in-Plain-clause-outside : goal.returns-in-Plain-clause-outside
returns-in-Plain-clause-outside c = λ shut nothing. answered_settled c.args.word.now c.args.standing.now (said (command_of c.args.statement.now)) c.plain.result c.plain.ensures

pub returns-in-Bare-clause-asked : goal.returns-in-Bare-clause-asked
returns-in-Bare-clause-asked c = λ all t sound agrees. answered_asks c.args.word.now c.args.standing.now (said (command_of c.args.statement.now)) c.bare.result t (c.bare.ensures c.args.word.now)

pub returns-in-Bare-clause-comes : goal.returns-in-Bare-clause-comes
returns-in-Bare-clause-comes c = answered_comes c.args.word.now c.args.standing.now (said (command_of c.args.statement.now)) (knows c.args.known) c.bare.result (c.bare.ensures c.args.word.now)

pub returns-in-Bare-clause-outside : goal.returns-in-Bare-clause-outside
returns-in-Bare-clause-outside c = λ shut nothing. answered_settled c.args.word.now c.args.standing.now (said (command_of c.args.statement.now)) c.bare.result (c.bare.ensures c.args.word.now)

pub returns-in-Reserving-clause-outside : goal.returns-in-Reserving-clause-outside
returns-in-Reserving-clause-outside c = λ shut nothing. absurd (reserving_begins (command_of c.args.statement.now) (subst (λ (w : Way). IsWay w (command_of c.args.statement.now)) c.in-Reserving.is c.way_of.ensures) nothing)

pub returns-in-Strange-clause-asked : goal.returns-in-Strange-clause-asked
returns-in-Strange-clause-asked c = λ all t sound agrees. tt

pub returns-in-Strange-clause-comes : goal.returns-in-Strange-clause-comes
returns-in-Strange-clause-comes c =
    let command = command_of c.args.statement.now in
    let way = subst (λ (w : Way). IsWay w command) c.in-Strange.is c.way_of.ensures in
    left c.args.word.now c.args.standing.now (said command) (knows c.args.known) Unworked refl (λ all t sound agrees. strange command refl (unranged_strange command way))

pub returns-in-Strange-clause-outside : goal.returns-in-Strange-clause-outside
returns-in-Strange-clause-outside c = λ shut nothing.
    let command = command_of c.args.statement.now in
    absurd (unranged_begins command (subst (λ (x : Standing). standing_refusal command x ≡ None) shut c.requires.standing) (subst (λ (w : Way). IsWay w command) c.in-Strange.is c.way_of.ensures) nothing)

pub returns-in-Acting-clause-comes : goal.returns-in-Acting-clause-comes
returns-in-Acting-clause-comes c = c.viewed.ensures.comes c.args.word.now

pub returns-in-Acting-clause-outside : goal.returns-in-Acting-clause-outside
returns-in-Acting-clause-outside c = λ shut nothing.
    let command = command_of c.args.statement.now in
    absurd (viewing_begins command (subst (λ (x : Standing). standing_refusal command x ≡ None) shut c.requires.standing) (naming_views command (subst (λ (w : Way). IsWay w command) c.in-Acting.is c.way_of.ensures)) nothing)

pub returns-in-Defining-clause-comes : goal.returns-in-Defining-clause-comes
returns-in-Defining-clause-comes c = c.viewed-in-Defining.ensures.comes c.args.word.now

pub returns-in-Defining-clause-outside : goal.returns-in-Defining-clause-outside
returns-in-Defining-clause-outside c = λ shut nothing.
    let command = command_of c.args.statement.now in
    absurd (viewing_begins command (subst (λ (x : Standing). standing_refusal command x ≡ None) shut c.requires.standing) (defining_views command (subst (λ (w : Way). IsWay w command) c.in-Defining.is c.way_of.ensures)) nothing)

pub returns-in-Reserving-clause-comes : goal.returns-in-Reserving-clause-comes
returns-in-Reserving-clause-comes c = c.reserving-found.ensures.comes c.args.word.now

pub returns-in-Plain-clause-needs : goal.returns-in-Plain-clause-needs
returns-in-Plain-clause-needs c =
    let command = command_of c.args.statement.now in
    item_names_none command (knows c.args.known) c.plain.result (answered_reads_nothing c.args.word.now c.args.standing.now (said command) c.plain.result c.plain.ensures)

pub returns-in-Bare-clause-needs : goal.returns-in-Bare-clause-needs
returns-in-Bare-clause-needs c =
    let command = command_of c.args.statement.now in
    item_names_none command (knows c.args.known) c.bare.result (answered_reads_nothing c.args.word.now c.args.standing.now (said command) c.bare.result (c.bare.ensures c.args.word.now))

pub returns-in-Reserving-clause-needs : goal.returns-in-Reserving-clause-needs
returns-in-Reserving-clause-needs c =
    let command = command_of c.args.statement.now in
    reserving_needs command (knows c.args.known) c.reserving-found.result (subst (λ (w : Way). IsWay w command) c.in-Reserving.is c.way_of.ensures)

pub returns-in-Strange-clause-needs : goal.returns-in-Strange-clause-needs
returns-in-Strange-clause-needs c = item_names_none (command_of c.args.statement.now) (knows c.args.known) Unworked tt
