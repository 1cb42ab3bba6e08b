-- A statement that was worked over a view, and what it means that its record is right.
use Rattle.std.specs.Prelude.{◌≡◌, ℕ, false, List}
use Rattle.rdb_types.specs.declared.keys.Dbkey.{Dbkey}
use Rattle.rdo_ast.specs.declared.reply.Reply.{Reply}
use Rattle.rdo_ast.specs.declared.reply.Standing.{Standing}
use Rattle.rdo_ast.specs.Tree.{Uttered}
use Rattle.rdb_account.specs.rdb_meaning.declared.tables.Tables.{Tables}
use Rattle.rdb_account.specs.rdb_meaning.Meaning.{Does}
use Rattle.rdb_account.specs.rdb_meaning.Usual.{is_refusal_of_means}
use Rattle.line_view.specs.declared.writes.Write.{Write}
use Rattle.line_view.specs.Knowledge.{Knowledge, Lines, IsInOrder, Agrees}
use Rattle.line_view.specs.Writes.{laid_all}

-- which maps of lines are sound and stand for which tables
abbrev pub Model : Type 1
Model = Lines → Tables → Type 0

-- such maps are in order
abbrev pub IsOrderly : Model → Type 0
IsOrderly M = (all : Lines) (t : Tables) → M all t → IsInOrder all

-- What is known of a statement that was worked: it, the Dbkeys that its new rows were given, its reply, the standing behind it, and its writes.
pub record Worked : Type 0 where
  pub item : Uttered
  pub choices : List Dbkey
  pub reply : Reply
  pub behind : Standing
  pub writes : List Write

-- Over a map that stands for these tables the item means this reply, and the map with the writes laid over it stands for the tables behind it.
pub record DoesSo (M : Model) (word : List ℕ) (before : Standing) (r : Worked) (all : Lines) (t : Tables) : Type 0 where
  pub then : Tables
  pub does : Does word before r.item r.choices t r.reply then r.behind
  pub stands : M (laid_all r.writes all) then

-- The record of a statement that was worked over a view is right: it does so over every sound map with which the view agrees. A refusal by locks or limits isn't told by it.
pub record IsRight (M : Model) (word : List ℕ) (before : Standing) (known : Knowledge) (r : Worked) : Type 0 where
  pub usual : is_refusal_of_means r.reply ≡ false
  pub does : (all : Lines) (t : Tables) → M all t → Agrees known all → DoesSo M word before r all t
