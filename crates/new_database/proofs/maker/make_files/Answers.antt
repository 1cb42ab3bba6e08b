use Rattle.new_database.proofs.Stages.{then_none}
use Rattle.new_database.proofs.maker.make_files.Goals as goal

pub returns-in_err-make_numbered-2-clause-none : goal.returns-in_err-make_numbered-2-clause-none
returns-in_err-make_numbered-2-clause-none g c = then_none _ _ _ c.make_numbered.ensures.none c.make_numbered-2.ensures.none

pub returns-clause-none : goal.returns-clause-none
returns-clause-none g c = then_none _ _ _ (then_none _ _ _ c.make_numbered.ensures.none c.make_numbered-2.ensures.none) c.make_numbered-3.ensures.none
