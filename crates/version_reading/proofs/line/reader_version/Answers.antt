use Rattle.std.proofs.Common.{subst}
use Rattle.rdb_types.specs.declared.keys.Line.{Line}
use Rattle.line_versions.specs.Versions.{Start, Sees}
use Rattle.line_versions.specs.Files.{entries_in}
use Rattle.line_versions.proofs.Steps.{reader_is_right}
use Rattle.line_versions.proofs.Slots.{one_each}
use Rattle.line_versions.proofs.Length.{walk_within}
use Rattle.version_reading.proofs.line.reader_version.Goals as goal

pub returns-in-Ok-clause-committed : goal.returns-in-Ok-clause-committed
returns-in-Ok-clause-committed g c = λ tells now course session reading right most is start stands.
    let image = (g.D.Disk.view c.args.disk.now).content in
    let there = reader_is_right (entries_in image) now course right session reading is c.args.key in
    let here : Sees (entries_in image) course.followed c.args.reader.now c.args.key c.args.line (reading.lines c.args.key) =
    subst (λ (l : Line). Sees (entries_in image) course.followed c.args.reader.now c.args.key l (reading.lines c.args.key)) stands
    (subst (λ (r : Start). Sees (entries_in image) course.followed r c.args.key (now c.args.key) (reading.lines c.args.key)) start there) in
    c.in-Ok.ensures.line tells course.followed most here.over (reading.lines c.args.key)
    (walk_within (entries_in image) (one_each image) course.followed c.args.reader.now c.args.key here.over c.args.line (reading.lines c.args.key) c.args.limit most here.walk) here.walk
