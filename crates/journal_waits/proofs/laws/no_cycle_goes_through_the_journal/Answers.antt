use Rattle.journal_waits.proofs.Chains.{no-cycle}
use Rattle.journal_waits.proofs.laws.no_cycle_goes_through_the_journal.Goals as goal

pub returns : goal.returns
returns c = no-cycle
