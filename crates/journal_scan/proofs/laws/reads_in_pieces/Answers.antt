use Rattle.journal_scan.proofs.Steps.{in_pieces, end_stays}
use Rattle.journal_scan.proofs.laws.reads_in_pieces.Goals as goal

pub returns : goal.returns
returns c = record { pieces = in_pieces; ended = end_stays }
