-- What an item comes to that stores and writes nothing.
use Rattle.std.specs.Prelude.{◌≡◌, ℕ, Bool, true, false, List, [], Some, None, Result, Ok, Err}
use Rattle.rdb_types.specs.declared.memory.NoMemory.{NoMemory}
use Rattle.rdo_ast.specs.declared.reply.Reply.{Reply}
use Rattle.rdo_ast.specs.declared.reply.Reply.TheVariants as r
use Rattle.rdo_ast.specs.declared.reply.Standing.{Standing}
use Rattle.rdo_ast.specs.Tree.{Uttered}
use Rattle.rdb_meaning.specs.declared.tables.Tables.{Tables}
use Rattle.rdb_meaning.specs.Checks.{Refusal}
use Rattle.rdb_meaning.specs.Meaning.{Does}
use Rattle.rdb_meaning.specs.Usual.{is_refusal_of_means}
use Rattle.line_view.specs.declared.stop.Stop.{Stop}
use Rattle.line_view.specs.declared.stop.Stop.TheVariants as stop
use Rattle.line_view.specs.declared.stop.Never.{Never}
use Rattle.session_jobs.specs.declared.jobs.Found.{Found}
use Rattle.session_jobs.specs.declared.jobs.Found.TheVariants.{Done, Missing, Bad, Unworked, NoMemory as no_memory}

abbrev pub answer_unless : Bool → Reply → Standing → Found
answer_unless true reply behind = Unworked
answer_unless false reply behind = Done (record { choices = []; reply = reply; standing = behind; writes = [] })

-- the record of an item that stores and writes nothing; no item means a reply of locks or limits, so that no sound map agrees where the item would be left
abbrev pub answer_of : Reply → Standing → Found
answer_of reply behind = answer_unless (is_refusal_of_means reply) reply behind

abbrev pub answer_by : Result Reply NoMemory → Result Standing NoMemory → Found
answer_by (Ok reply) (Ok behind) = answer_of reply behind
answer_by (Ok reply) (Err failed) = no_memory
answer_by (Err failed) behind = no_memory

-- what reading comes to that stops
abbrev pub found_of_stop : Stop Never → Found
found_of_stop (stop.Missing need) = Missing need []
found_of_stop (stop.Bad key) = Bad key
found_of_stop stop.NoMemory = no_memory
found_of_stop (stop.Own never) = elim never [ ]

abbrev pub reply_or_done : Refusal → Reply
reply_or_done (Some reply) = reply
reply_or_done None = r.Done []

-- Over all tables the item means this reply, and leaves them. Nothing is written, and no line is read.
abbrev pub IsAnswered : List ℕ → Standing → Uttered → Found → Type 0
IsAnswered word standing item (Done x) =
    ((t : Tables) → Does word standing item x.choices t x.reply t x.standing) × (is_refusal_of_means x.reply ≡ false) × (x.writes ≡ [])
IsAnswered word standing item (Missing next later) = ⊥
IsAnswered word standing item (Bad key) = ⊥
IsAnswered word standing item Unworked = ⊥
IsAnswered word standing item no_memory = Unit {0}
