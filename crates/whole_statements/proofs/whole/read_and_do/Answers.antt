use Rattle.std.proofs.Common.{rules, ◌≡◌, List, sym, subst}
use Rattle.rdo_ast.specs.Views.{uttered_of}
use Rattle.line_view.specs.declared.need.Need.{Need}
use Rattle.line_view.specs.declared.stop.Stop.{Stop}
use Rattle.line_view.specs.declared.stop.Stop.TheVariants.{Bad, Missing}
use Rattle.line_view.specs.declared.stop.Never.{Never}
use Rattle.line_view.specs.Knowledge.{Lines, Agrees}
use Rattle.line_view.specs.Held.{knows}
use Rattle.sound_lines.specs.Reading.{StopsTables}
use Rattle.session_jobs.specs.declared.jobs.Found.TheVariants as found
use Rattle.session_jobs.specs.Jobs.{IsFoundFor, NamesOnce}
use Rattle.sound_maps.specs.Maps.{IsSoundWith}
use Rattle.whole_statements.proofs.Stops.{done, done-cause, done-once, bad, missing}
use Rattle.whole_statements.proofs.whole.read_and_do.Goals as goal

pub returns-in-Ok-clause-right : goal.returns-in-Ok-clause-right
returns-in-Ok-clause-right c = done c.args.job.now.word c.args.job.now.standing (uttered_of c.args.job.now.item) (knows c.args.job.now.known) c.in-Ok.tables c.do_on.result c.in-Ok.ensures.tables c.do_on.ensures

pub returns-in-Ok-clause-cause : goal.returns-in-Ok-clause-cause
returns-in-Ok-clause-cause c = done-cause c.args.job.now.word c.args.job.now.standing (uttered_of c.args.job.now.item) c.in-Ok.tables c.args.job.now c.do_on.result c.do_on.ensures

pub returns-in-Ok-clause-once : goal.returns-in-Ok-clause-once
returns-in-Ok-clause-once c = done-once c.args.job.now.word c.args.job.now.standing (uttered_of c.args.job.now.item) c.in-Ok.tables c.do_on.result c.do_on.ensures

pub returns-in-Err-Missing-clause-once : goal.returns-in-Err-Missing-clause-once
returns-in-Err-Missing-clause-once c = subst (λ (later : List Need). NamesOnce (found.Missing c.in-Err-Missing.need later)) (sym c.new.ensures) (tt, tt)

pub returns-in-Err-Missing-clause-right : goal.returns-in-Err-Missing-clause-right
returns-in-Err-Missing-clause-right c =
    let same : c.in-Err-Missing.field-0 ≡ Missing c.in-Err-Missing.need = search rules in
    subst (λ (later : List Need). IsFoundFor IsSoundWith c.args.job.now (found.Missing c.in-Err-Missing.need later)) (sym c.new.ensures)
    (missing c.args.job.now.word c.args.job.now.standing (uttered_of c.args.job.now.item) (knows c.args.job.now.known) c.in-Err-Missing.need c.requires.locks
    (subst (λ (st : Stop Never). (all : Lines) → Agrees (knows c.args.job.now.known) all → StopsTables (knows c.args.job.now.known) all st) same c.in-Err-Missing.ensures.stop))

pub returns-in-Err-Bad-clause-right : goal.returns-in-Err-Bad-clause-right
returns-in-Err-Bad-clause-right c =
    let same : c.in-Err-Bad.field-0 ≡ Bad c.in-Err-Bad.key = search rules in
    bad c.args.job.now.word c.args.job.now.standing (uttered_of c.args.job.now.item) (knows c.args.job.now.known) c.in-Err-Bad.key
    (subst (λ (st : Stop Never). (all : Lines) → Agrees (knows c.args.job.now.known) all → StopsTables (knows c.args.job.now.known) all st) same c.in-Err-Bad.ensures.stop)
