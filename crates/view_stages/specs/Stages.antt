-- How far the work of a statement has come, over each map of lines with which the view agreed at its start.
use Rattle.std.specs.Prelude.{◌≡◌, List, ◌++◌}
use Rattle.rdb_types.specs.declared.keys.Dbkey.{Dbkey}
use Rattle.rdb_types.specs.declared.values.Scaled.{Scaled}
use Rattle.rdo_ast.specs.declared.reply.Reply.{Reply}
use Rattle.rdb_meaning.specs.declared.tables.Tables.{Tables}
use Rattle.rdb_meaning.specs.Execution.{World, world, Ran, refused}
use Rattle.line_view.specs.declared.writes.Write.{Write}
use Rattle.line_view.specs.Knowledge.{Knowledge, Lines, Agrees}
use Rattle.line_view.specs.Writes.{laid_all}
use Rattle.catalog.specs.declared.reading.Catalog.{Catalog}
use Rattle.sound_changes.specs.Standing.{IsSoundAs}

-- What the view knows now, the writes so far, the lines printed and the Dbkeys given.
pub record Stage : Type 0 where
  pub seen : Knowledge
  pub writes : List Write
  pub lines : List (List Scaled)
  pub given : List Dbkey

-- Over this map of the start, with these tables at the start and these now: the view agrees with the map behind the writes, which is sound and has these tables.
pub record Holds (known : Knowledge) (c : Catalog) (all : Lines) (start : Tables) (s : Stage) (t : Tables) : Type 0 where
  pub first : Agrees known all
  pub began : IsSoundAs all c start
  pub agrees : Agrees s.seen (laid_all s.writes all)
  pub sound : IsSoundAs (laid_all s.writes all) c t

-- Doing the job from one stage on comes to what doing the rest from the other stage on does, where the fresh Dbkeys are given on the way.
pub record Goes (known : Knowledge) (c : Catalog) (all : Lines) (start : Tables) (job rest : World → Ran) (from to : Stage) (t : Tables) : Type 0 where
  pub tables : Tables
  pub holds : Holds known c all start to tables
  pub fresh : List Dbkey
  pub gives : to.given ≡ from.given ++ fresh
  pub comes : (left : List Dbkey) → job (world t (fresh ++ left) from.lines) ≡ rest (world tables left to.lines)

-- a refusal with the Dbkeys that are left
abbrev pub refusing : Reply → World → Ran
refusing reply w = refused reply w.choices
