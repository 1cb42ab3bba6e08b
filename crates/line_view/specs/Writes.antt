-- Lines that are written one after another.
use Rattle.std.specs.Prelude.{List, [], ◌∷◌}
use Rattle.line_view.specs.declared.writes.Write.{Write}
use Rattle.line_view.specs.Knowledge.{Lines, laid}

-- the map behind the writes
abbrev pub laid_all : List Write → Lines → Lines
laid_all [] lines = lines
laid_all (write ∷ writes) lines = laid_all writes (laid write.key write.image lines)
