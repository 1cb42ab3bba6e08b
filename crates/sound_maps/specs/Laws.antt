-- The laws that `Statements` of session_jobs asks of a soundness.
use Rattle.std.specs.Prelude.{[], refl}
use Rattle.rdb_meaning.specs.declared.tables.Tables.{Tables}
use Rattle.rdb_meaning.specs.Contents.{no_tables}
use Rattle.line_view.specs.Knowledge.{Lines, IsInOrder}
use Rattle.sound_lines.proofs.Empty.{empty_is_sound, empty_has_tables}
use Rattle.sound_maps.specs.Maps.{IsSoundWith}

pub orderly : (all : Lines) (t : Tables) → IsSoundWith all t → IsInOrder all
orderly all t is = is.0

pub empty : IsSoundWith [] no_tables
empty = (refl, empty_is_sound, empty_has_tables)
