use Rattle.journal_scan.proofs.Groups as groups
use Rattle.journal_scan.proofs.laws.finds_what_was_written.Goals as goal

pub returns : goal.returns
returns c = record { just = groups.written; more = groups.written_then }
