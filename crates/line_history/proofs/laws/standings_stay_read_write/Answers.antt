use Rattle.line_history.proofs.Standings.{stays-writer, starts-writer, ends-alone, starts-ends, writer-locks, start-locks}
use Rattle.line_history.proofs.laws.standings_stay_read_write.Goals as goal

pub returns-clause-stays : goal.returns-clause-stays
returns-clause-stays c = stays-writer

pub returns-clause-starts : goal.returns-clause-starts
returns-clause-starts c = starts-writer

pub returns-clause-alone : goal.returns-clause-alone
returns-clause-alone c = ends-alone

pub returns-clause-start_alone : goal.returns-clause-start_alone
returns-clause-start_alone c = starts-ends

pub returns-clause-locks : goal.returns-clause-locks
returns-clause-locks c = writer-locks

pub returns-clause-start_locks : goal.returns-clause-start_locks
returns-clause-start_locks c = start-locks
