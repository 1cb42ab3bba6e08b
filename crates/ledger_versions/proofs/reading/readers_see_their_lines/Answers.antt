use Rattle.line_versions.specs.Files.{entries_in}
use Rattle.line_versions.proofs.Steps.{reader_is_right}
use Rattle.stable_lines.specs.Slots.{line_at}
use Rattle.ledger_versions.proofs.reading.readers_see_their_lines.Goals as goal

pub returns-clause-sees : goal.returns-clause-sees
returns-clause-sees g c = let v = g.D.Disk.view c.args.disk.now in λ ledger limit course waiting session reading key was is. reader_is_right (entries_in v.content) (line_at v.content) course was.versions.right session reading is key

pub returns-clause-began : goal.returns-clause-began
returns-clause-began g c = λ ledger limit course waiting active key was. was.versions.lines key
