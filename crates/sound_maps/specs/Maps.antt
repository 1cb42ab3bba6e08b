-- Sound maps of lines with their tables.
use Rattle.rdb_meaning.specs.declared.tables.Tables.{Tables}
use Rattle.line_view.specs.Knowledge.{Lines, IsInOrder}
use Rattle.sound_lines.specs.Contents.{AreTablesOf}
use Rattle.sound_lines.specs.Sound.{IsSound}

-- the map is in order and sound, and these are its tables
abbrev pub IsSoundWith : Lines → Tables → Type 0
IsSoundWith all t = IsInOrder all × IsSound all × AreTablesOf all t
