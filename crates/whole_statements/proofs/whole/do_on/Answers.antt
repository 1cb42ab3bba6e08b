use Rattle.rdo_ast.specs.Views.{uttered_of}
use Rattle.whole_statements.proofs.Stops.{done-on}
use Rattle.whole_statements.proofs.whole.do_on.Goals as goal

pub returns-in-Ok : goal.returns-in-Ok
returns-in-Ok c = (
  done-on c.args.job.now.word c.args.job.now.standing (uttered_of c.args.job.now.item) c.args.tables c.does.new.tables c.in-Ok.told.taken c.in-Ok.told.reply c.in-Ok.told.standing c.requires c.in-Ok.ensures.meaning,
  c.in-Ok.ensures.usual,
  c.new.ensures,
)
