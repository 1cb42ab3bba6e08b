-- How far the code has come with an action, in the words of the definitions.
use Rattle.std.specs.Prelude.{◌≡◌, List, ◌++◌, length, Result, Ok, Err, drop, ◌⊎◌}
use Rattle.rdb_types.specs.declared.keys.Dbkey.{Dbkey}
use Rattle.rdb_types.specs.declared.values.Scaled.{Scaled}
use Rattle.rdo_ast.specs.declared.reply.Reply.{Reply}
use Rattle.rdo_ast.specs.declared.reply.Reply.TheVariants as r
use Rattle.rdb_meaning.specs.declared.tables.Tables.{Tables}
use Rattle.rdb_meaning.specs.Execution.{World, world, Ran, ran, refused, astray}
use Rattle.rdb_tables.specs.declared.work.Work.{Work}
use Rattle.rdb_tables.specs.declared.stop.Stop.{Stop}
use Rattle.rdb_tables.specs.declared.stop.Stop.TheVariants as stop

-- the tables, the lines printed so far, and the Dbkeys given so far
pub record Stage : Type 0 where
  pub tables : Tables
  pub lines : List (List Scaled)
  pub given : List Dbkey

abbrev pub stage : Tables → Work → Stage
stage t work = record { tables = t; lines = work.lines; given = work.taken }

-- The Dbkeys that are left to choose begin with the fresh ones; else one of them may not be given, or there are too few.
abbrev pub Follows : List Dbkey → List Dbkey → Ran → Type 0
Follows left fresh r = (r ≡ astray) ⊎ ((more : List Dbkey) × (left ≡ fresh ++ more))

-- Doing the job from one stage on comes to what doing the rest from the other stage on does, where the fresh Dbkeys are given on the way.
pub record Goes (choices : List Dbkey) (job rest : World → Ran) (from to : Stage) : Type 0 where
  pub fresh : List Dbkey
  pub gives : to.given ≡ from.given ++ fresh
  pub comes : (left : List Dbkey) → job (world from.tables (fresh ++ left) from.lines) ≡ rest (world to.tables left to.lines)
  pub follows : Follows (drop (length from.given) choices) fresh (job (world from.tables (drop (length from.given) choices) from.lines))

abbrev pub refusing : Reply → World → Ran
refusing reply w = refused reply w.choices

-- that the job ends so
abbrev pub Runs : Result (Unit {0}) Stop → List Dbkey → (World → Ran) → Stage → Stage → Type 0
Runs (Ok _) choices job from to = Goes choices job ran from to
Runs (Err stop.Overflow) choices job from to = Goes choices job (refusing r.Overflow) from to
Runs (Err stop.TooLong) choices job from to = Goes choices job (refusing r.TooLong) from to
Runs (Err (stop.Duplicate index)) choices job from to = Goes choices job (refusing (r.Duplicate index)) from to
Runs (Err stop.Memory) choices job from to = Unit {0}
