use Rattle.journal_waits.proofs.Notices.{no-notice}
use Rattle.journal_waits.proofs.laws.no_notice_is_due_at_the_journal.Goals as goal

pub returns : goal.returns
returns c = no-notice
