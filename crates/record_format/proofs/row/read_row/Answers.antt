use Rattle.record_format.proofs.Rows.{not_short}
use Rattle.record_format.proofs.row.read_row.Goals as goal

pub returns-then-bytes-lt3-clause-none : goal.returns-then-bytes-lt3-clause-none
returns-then-bytes-lt3-clause-none c = λ version row is. not_short c.args.bytes.now version row c.if-bytes-lt3.true is

pub returns-then-bytes-lt3-clause-again : goal.returns-then-bytes-lt3-clause-again
returns-then-bytes-lt3-clause-again c = λ row is. absurd (not_short c.args.bytes.now row.version row.row c.if-bytes-lt3.true is)
