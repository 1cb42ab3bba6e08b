-- What stops an opening, of what stops a call or the reading of the after-image journal.
use Rattle.line_moves.specs.new_database.Maker.{aij_file}
use Rattle.journal_passing.specs.journal_reading.declared.reading.AijFault.{AijFault}
use Rattle.journal_passing.specs.journal_reading.declared.reading.AijFault.TheVariants as reading
use Rattle.line_moves.specs.line_store.declared.answers.Fault.{Fault}
use Rattle.line_moves.specs.line_store.declared.answers.Fault.TheVariants as call
use Rattle.line_opening.specs.declared.fault.OpeningFault.{OpeningFault}
use Rattle.line_opening.specs.declared.fault.OpeningFault.TheVariants.{Failed, NoMemory, Bad}

abbrev pub of_call : Fault → OpeningFault
of_call call.Failed = Failed
of_call (call.Bad file slot) = Bad file slot

abbrev pub of_journal : AijFault → OpeningFault
of_journal reading.Failed = Failed
of_journal reading.NoMemory = NoMemory
of_journal reading.BadHeader = Bad aij_file 0
