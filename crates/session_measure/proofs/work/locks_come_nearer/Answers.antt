use Rattle.session_states.specs.declared.stage.Phase.TheVariants.{Writing}
use Rattle.session_states.specs.States.{session, writer}
use Rattle.session_measure.proofs.Falling.{by-want, got-falls}
use Rattle.session_measure.proofs.work.locks_come_nearer.Goals as goal

pub returns-clause-opens : goal.returns-clause-opens
returns-clause-opens c = λ k s c d left total standing known spoken waits stage w none some. by-want k s c d (session left total (Writing (writer standing known spoken waits stage))) w none some

pub returns-clause-got_it : goal.returns-clause-got_it
returns-clause-got_it c = got-falls
