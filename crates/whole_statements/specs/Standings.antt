-- Standings in which nothing is written.
use Rattle.rdo_ast.specs.declared.reply.Standing.{Standing}
use Rattle.rdo_ast.specs.declared.reply.Standing.TheVariants.{Closed, ReadOnly, ReadWrite}

abbrev pub IsReading : Standing → Type 0
IsReading Closed = Unit {0}
IsReading ReadOnly = Unit {0}
IsReading (ReadWrite wait rs) = ⊥
