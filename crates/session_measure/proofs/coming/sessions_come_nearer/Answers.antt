use Rattle.session_measure.proofs.Nearer.{nearer-answered, nearer-by-rank}
use Rattle.session_measure.proofs.Queued.{queued-falls}
use Rattle.session_measure.proofs.Wanted.{nearer-got, stays-asked, nearer-asked}
use Rattle.session_measure.proofs.coming.sessions_come_nearer.Goals as goal

pub returns-clause-answered : goal.returns-clause-answered
returns-clause-answered g = λ s c d x y left total h. nearer-answered s c d x y h left total

pub returns-clause-ranked : goal.returns-clause-ranked
returns-clause-ranked g = λ s c d x y left total e h. nearer-by-rank s c d x y e h left total

pub returns-clause-got_it : goal.returns-clause-got_it
returns-clause-got_it g = λ s c d standing known spoken waits stage n left total wants. nearer-got s c d standing known spoken waits stage n wants left total

pub returns-clause-moves_on : goal.returns-clause-moves_on
returns-clause-moves_on g = λ s c d x w left total none kept steps is on. stays-asked s c d x none kept steps w is left total on

pub returns-clause-comes_further : goal.returns-clause-comes_further
returns-clause-comes_further g = λ s c d x w left total none kept steps is further. nearer-asked s c d x none kept steps w is left total further

pub returns-clause-queued : goal.returns-clause-queued
returns-clause-queued g = λ old new s w v leaves never was is awake queued. queued-falls old new s leaves never w v was is awake queued
