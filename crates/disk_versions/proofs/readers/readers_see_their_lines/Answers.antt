use Rattle.line_versions.specs.Files.{entries_in}
use Rattle.line_versions.proofs.Steps.{reader_is_right}
use Rattle.line_opening.specs.stable_lines.Slots.{line_at}
use Rattle.disk_versions.proofs.readers.readers_see_their_lines.Goals as goal

pub returns-clause-sees : goal.returns-clause-sees
returns-clause-sees g c = let v = g.D.Disk.view c.args.disk.now in λ now limit course session reading key was is. reader_is_right (entries_in v.content) (line_at v.content) course was.right session reading is key

pub returns-clause-began : goal.returns-clause-began
returns-clause-began g c = λ now limit course active key was. was.lines key
