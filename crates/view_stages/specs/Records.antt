-- When a record of a statement is right.
use Rattle.std.specs.Prelude.{ℕ, Bool, true, false, List}
use Rattle.rdb_types.specs.declared.keys.Dbkey.{Dbkey}
use Rattle.rdo_ast.specs.declared.reply.Reply.{Reply}
use Rattle.rdo_ast.specs.declared.reply.Standing.{Standing}
use Rattle.rdo_ast.specs.Tree.{Command, define_field, define_relation, define_index, delete_relation, delete_index, said}
use Rattle.rdb_meaning.specs.declared.tables.Tables.{Tables}
use Rattle.rdb_meaning.specs.Meaning.{Does}
use Rattle.line_view.specs.declared.writes.Write.{Write}
use Rattle.line_view.specs.Knowledge.{Knowledge, Lines, IsInOrder, Agrees}
use Rattle.line_view.specs.Writes.{laid_all}
use Rattle.sound_lines.specs.Contents.{AreTablesOf}
use Rattle.sound_lines.specs.Sound.{IsSound}

-- What is said of a statement: the Dbkeys of the rows that it stored, its reply and its writes.
pub record Said : Type 0 where
  pub choices : List Dbkey
  pub reply : Reply
  pub writes : List Write

-- Over this map with these tables, the meaning with the record's choices gives its reply, and the map behind its writes is sound and has the tables of the meaning.
pub record IsRightOver (word : List ℕ) (standing : Standing) (command : Command) (r : Said) (all : Lines) (t : Tables) : Type 0 where
  pub after : Tables
  pub left : Standing
  pub does : Does word standing (said command) r.choices t r.reply after left
  pub sound : IsSound (laid_all r.writes all)
  pub tables : AreTablesOf (laid_all r.writes all) after

-- it is right over every sound map with which the view agrees
abbrev pub IsRight : Knowledge → List ℕ → Standing → Command → Said → Type 0
IsRight known word standing command r =
    (all : Lines) (t : Tables) → IsInOrder all → Agrees known all → IsSound all → AreTablesOf all t → IsRightOver word standing command r all t

-- whether the statement defines or deletes a thing
abbrev pub is_definition : Command → Bool
is_definition (define_field n type) = true
is_definition (define_relation n fields) = true
is_definition (define_index d) = true
is_definition (delete_relation n) = true
is_definition (delete_index n) = true
is_definition _ = false
