-- The map without lines.
use Rattle.std.proofs.Common.{[], refl, arith}
use Rattle.catalog.specs.Reading.{IsCatalogOf}
use Rattle.rdb_meaning.specs.Contents.{no_tables}
use Rattle.sound_lines.specs.Contents.{AreTablesWith, AreTablesOf}
use Rattle.sound_lines.specs.Sound.{IsSound}

empty_decodes : IsCatalogOf [] (record { lines = []; tables = no_tables })
empty_decodes = record { lines = record { keys = refl; images = λ k d inside. absurd (omega (arith, inside)) }; fit = refl; tables = refl }

empty_tables : AreTablesWith [] (record { lines = []; tables = no_tables }) no_tables
empty_tables = record { globals = refl; relations = tt; indexes = refl }

pub empty_is_sound : IsSound []
empty_is_sound = record { catalog = record { lines = []; tables = no_tables }; decodes = empty_decodes; tables = no_tables; are = empty_tables; things = tt; owned = tt }

pub empty_has_tables : AreTablesOf [] no_tables
empty_has_tables = record { catalog = record { lines = []; tables = no_tables }; decodes = empty_decodes; tables = empty_tables }
