-- What an answer of the code says of a definition's value. Want of memory says nothing.
use Rattle.std.specs.Prelude.{◌≡◌, List, [], ◌++◌, Option, Some, None, Result, Ok, Err, ◌⊎◌}
use Rattle.rdb_types.specs.declared.keys.Dbkey.{Dbkey}
use Rattle.rdb_types.specs.declared.memory.NoMemory.{NoMemory}
use Rattle.rdb_types.specs.declared.values.Scaled.{Scaled}
use Rattle.rdb_types.specs.declared.values.Value.{Value}
use Rattle.rdo_ast.specs.declared.reply.Reply.{Reply}
use Rattle.rdo_ast.specs.declared.reply.Reply.TheVariants as r
use Rattle.rdo_ast.specs.declared.reply.Standing.{Standing}
use Rattle.rdo_ast.specs.declared.reply.Standing.TheVariants.{Closed}
use Rattle.rdb_meaning.specs.declared.tables.Tables.{Tables}
use Rattle.rdb_meaning.specs.Execution.{Line, line, no_line, Assigned, assigned, unassigned}
use Rattle.rdb_meaning.specs.Meaning.{Meaning, means, meaningless}
use Rattle.rdb_tables.specs.declared.told.Told.{Told}
use Rattle.rdb_tables.specs.declared.stop.Stop.{Stop}
use Rattle.rdb_tables.specs.declared.stop.Stop.TheVariants as stop

abbrev pub PrintsLine : Result (List Scaled) Stop → Line → Type 0
PrintsLine (Ok vs) l = l ≡ line vs
PrintsLine (Err stop.Overflow) l = l ≡ no_line
PrintsLine (Err stop.TooLong) l = ⊥
PrintsLine (Err (stop.Duplicate index)) l = ⊥
PrintsLine (Err stop.Memory) l = Unit {0}

abbrev pub AssignsTo : Result (Unit {0}) Stop → Assigned → List Value → Type 0
AssignsTo (Ok _) a row = a ≡ assigned row
AssignsTo (Err stop.Overflow) a row = a ≡ unassigned r.Overflow
AssignsTo (Err stop.TooLong) a row = a ≡ unassigned r.TooLong
AssignsTo (Err (stop.Duplicate index)) a row = ⊥
AssignsTo (Err stop.Memory) a row = Unit {0}

-- the reply to a statement that prints nothing
abbrev pub reply_or_done : Option Reply → Reply
reply_or_done (Some reply) = reply
reply_or_done None = r.Done []

-- the reply to an action, by how it ends
abbrev pub reply_to : Result (Unit {0}) Stop → List (List Scaled) → Option Reply
reply_to (Ok _) lines = Some (r.Done lines)
reply_to (Err stop.Overflow) lines = Some r.Overflow
reply_to (Err stop.TooLong) lines = Some r.TooLong
reply_to (Err (stop.Duplicate index)) lines = Some (r.Duplicate index)
reply_to (Err stop.Memory) lines = None

-- the standing after a START_TRANSACTION
abbrev pub closed_or : Option Reply → Standing → Standing
closed_or (Some reply) opened = Closed
closed_or None opened = opened

-- An answer to a statement that stores no row and changes no table.
abbrev pub Says : Result Told NoMemory → (List Dbkey → Meaning) → Tables → Type 0
Says (Ok d) m t = ((left : List Dbkey) → m left ≡ means d.reply t d.standing left) × (d.taken ≡ [])
Says (Err e) m t = Unit {0}

-- Choices are taken first: those that were to be given are the taken ones and then others, which no row was given; or the statement has no meaning with them.
abbrev pub TakesFirst : Meaning → List Dbkey → List Dbkey → Type 0
TakesFirst m choices taken = (m ≡ meaningless) ⊎ ((more : List Dbkey) × (choices ≡ taken ++ more))

-- The answer is the meaning where the rows are given the Dbkeys that it took, whatever others are left; those that were to be chosen are among these, or the statement has no meaning with them.
pub record Tells (m : List Dbkey → Meaning) (choices : List Dbkey) (d : Told) (t : Tables) : Type 0 where
  pub means : (left : List Dbkey) → m (d.taken ++ left) ≡ means d.reply t d.standing left
  pub follows : TakesFirst (m choices) choices d.taken

abbrev pub Answers : Result Told NoMemory → (List Dbkey → Meaning) → List Dbkey → Tables → Type 0
Answers (Ok d) m choices t = Tells m choices d t
Answers (Err e) m choices t = Unit {0}
