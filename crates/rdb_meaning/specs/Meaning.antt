-- What a statement means: its reply, the tables and the standing that it leaves.
use Rattle.std.specs.Prelude.{◌≡◌, ℕ, Bool, true, false, if◌then◌else◌, List, [], ◌∷◌, Option, Some, None, ◌==◌}
use Rattle.std.specs.Str.{str_eq_ignore_ascii_case}
use Rattle.std.specs.FinMap.Entries.{find}
use Rattle.ordered_entries.specs.rdb_types.declared.keys.Dbkey.{Dbkey}
use Rattle.rdo_ast.specs.declared.syntax.Reservation.{Reservation}
use Rattle.rdo_ast.specs.declared.reply.Reply.{Reply}
use Rattle.rdo_ast.specs.declared.reply.Reply.TheVariants as r
use Rattle.rdo_ast.specs.declared.reply.Standing.{Standing}
use Rattle.rdo_ast.specs.declared.reply.Standing.TheVariants.{Closed, ReadOnly, ReadWrite}
use Rattle.rdo_ast.specs.Tree.{Name, Act, Command, invoke, start_read_only, start_read_write, commit, rollback, finish, back_up, perform, define_field, define_relation, define_index, delete_relation, delete_index, Uttered, said, syntax_fault}
use Rattle.rdb_meaning.specs.declared.tables.Relation.{Relation}
use Rattle.rdb_meaning.specs.declared.tables.Index.{Index}
use Rattle.rdb_meaning.specs.declared.tables.Tables.{Tables}
use Rattle.rdb_meaning.specs.Contents.{relation_named}
use Rattle.ordered_entries.specs.rdb_types.Order.{chars_order}
use Rattle.rdb_meaning.specs.Checks.{Refusal, or_else, needs_some, Use, use_of, reservation_refusal, act_names, act_uses, act_clashes, is_retrieval}
use Rattle.rdb_meaning.specs.Execution.{world, Ran, ran, refused, astray, done}
use Rattle.rdb_meaning.specs.Defining.{is_among, field_names, with_field, relation_names, with_relation, index_names, index_refusal, with_index, without_relation, without_index}

-- The reply, the tables and the standing after a statement, and the Dbkeys that no row was given. A statement has no meaning where a Dbkey that is to be given may not be.
pub data Meaning : Type 0 where
  means : Reply → Tables → Standing → List Dbkey → Meaning
  meaningless : Meaning

-- a refusal leaves the tables and the standing as they are
abbrev pub refusing : Reply → Tables → Standing → List Dbkey → Meaning
refusing reply t standing choices = means reply t standing choices

abbrev pub doing : Tables → Standing → List Dbkey → Meaning
doing t standing choices = means (r.Done []) t standing choices

abbrev pub unless : Refusal → Tables → Standing → List Dbkey → Meaning → Meaning
unless (Some reply) t standing choices next = refusing reply t standing choices
unless None t standing choices next = next

-- ---- which transaction a statement needs

abbrev pub needs_closed : Standing → Refusal
needs_closed Closed = None
needs_closed ReadOnly = Some r.InTransaction
needs_closed (ReadWrite wait rs) = Some r.InTransaction

abbrev pub needs_open : Standing → Refusal
needs_open Closed = Some r.NoTransaction
needs_open ReadOnly = None
needs_open (ReadWrite wait rs) = None

abbrev pub needs_read_write : Standing → Refusal
needs_read_write Closed = Some r.NoTransaction
needs_read_write ReadOnly = Some r.ReadOnly
needs_read_write (ReadWrite wait rs) = None

-- a retrieval outside a transaction first begins a READ_ONLY one, which stays whatever it is answered
abbrev pub after_retrieval : Standing → Standing
after_retrieval Closed = ReadOnly
after_retrieval standing = standing

abbrev pub standing_for : Act → Standing → Standing
standing_for a standing = if is_retrieval a then after_retrieval standing else standing

abbrev pub act_standing_refusal : Act → Standing → Refusal
act_standing_refusal a standing = if is_retrieval a then None else needs_read_write standing

abbrev pub reservations_of : Standing → List Reservation
reservations_of (ReadWrite wait rs) = rs
reservations_of _ = []

-- ---- actions

abbrev pub after_running : Ran → Tables → Standing → List Dbkey → Meaning
after_running (ran w) t standing choices = means (r.Done w.lines) w.tables standing w.choices
after_running (refused reply left) t standing choices = refusing reply t standing left
after_running astray t standing choices = meaningless

abbrev pub clash : Bool → Refusal
clash true = Some r.TypeClash
clash false = None

-- names in the order of the text, then reservations, then types
abbrev pub act_later_refusal : Act → Standing → Tables → Refusal
act_later_refusal a standing t =
    or_else (act_names a t [])
    (or_else (reservation_refusal (reservations_of standing) (act_uses a [])) (clash (act_clashes a t [])))

abbrev pub act_refusal : Act → Standing → Tables → Refusal
act_refusal a standing t = or_else (act_standing_refusal a standing) (act_later_refusal a standing t)

abbrev pub act_meaning : Act → Standing → List Dbkey → Tables → Meaning
act_meaning a standing choices t =
    unless (act_refusal a standing t) t (standing_for a standing) choices
    (after_running (done a t [] (world t choices [])) t (standing_for a standing) choices)

-- ---- DELETE INDEX changes the relation of its index

abbrev pub uses_of_area : ℕ → List (Name × Relation) → List Use
uses_of_area area [] = []
uses_of_area area (e ∷ es) = if e.1.area == area then use_of true e.0 ∷ [] else uses_of_area area es

abbrev pub index_uses : Option Index → Tables → List Use
index_uses (Some x) t = uses_of_area x.relation t.relations
index_uses None t = []

-- ---- START_TRANSACTION

-- each reserved relation is there, and none is named twice
abbrev pub reserved_names : List Name → List Reservation → Tables → Refusal
reserved_names before [] t = None
reserved_names before (x ∷ xs) t =
    or_else (needs_some x.relation (relation_named x.relation t))
    (or_else (if is_among x.relation before then Some (r.Exists x.relation) else None) (reserved_names (x.relation ∷ before) xs t))

-- ---- every statement

abbrev pub is_word : List ℕ → List ℕ → Refusal
is_word word text = if str_eq_ignore_ascii_case word text then None else Some (r.NoSuch text)

-- What comes first: the refusal by the transaction that is open.
abbrev pub standing_refusal : Command → Standing → Refusal
standing_refusal (invoke text) standing = None
standing_refusal start_read_only standing = needs_closed standing
standing_refusal (start_read_write wait rs) standing = needs_closed standing
standing_refusal commit standing = needs_open standing
standing_refusal rollback standing = needs_open standing
standing_refusal finish standing = needs_closed standing
standing_refusal (back_up n) standing = needs_closed standing
standing_refusal (perform a) standing = act_standing_refusal a standing
standing_refusal (define_field n type) standing = needs_read_write standing
standing_refusal (define_relation n fs) standing = needs_read_write standing
standing_refusal (define_index d) standing = needs_read_write standing
standing_refusal (delete_relation n) standing = needs_read_write standing
standing_refusal (delete_index n) standing = needs_read_write standing

-- Then names, reservations, types, and the keys of an index. Where an action's run refuses it, that comes after these.
abbrev pub later_refusal : List ℕ → Command → Standing → Tables → Refusal
later_refusal word (invoke text) standing t = is_word word text
later_refusal word (start_read_write wait rs) standing t = reserved_names [] rs t
later_refusal word (perform a) standing t = act_later_refusal a standing t
later_refusal word (define_field n type) standing t = field_names n t
later_refusal word (define_relation n fs) standing t = relation_names n fs t
later_refusal word (define_index d) standing t =
    or_else (index_names d t)
    (or_else (reservation_refusal (reservations_of standing) (use_of true d.relation ∷ [])) (index_refusal d t))
later_refusal word (delete_relation n) standing t =
    or_else (needs_some n (relation_named n t)) (reservation_refusal (reservations_of standing) (use_of true n ∷ []))
later_refusal word (delete_index n) standing t =
    or_else (needs_some n (find chars_order n t.indexes))
    (reservation_refusal (reservations_of standing) (index_uses (find chars_order n t.indexes) t))
later_refusal word _ standing t = None

abbrev pub command_refusal : List ℕ → Command → Standing → Tables → Refusal
command_refusal word c standing t = or_else (standing_refusal c standing) (later_refusal word c standing t)

-- the tables that a definition or a deletion leaves
abbrev pub after : Command → Tables → Tables
after (define_field n type) t = with_field n type t
after (define_relation n fs) t = with_relation n fs t
after (define_index d) t = with_index d t
after (delete_relation n) t = without_relation n t
after (delete_index n) t = without_index n t
after _ t = t

-- the standing that a statement leaves which is done
abbrev pub standing_after : Command → Standing → Standing
standing_after start_read_only standing = ReadOnly
standing_after (start_read_write wait rs) standing = ReadWrite wait rs
standing_after commit standing = Closed
standing_after rollback standing = Closed
standing_after _ standing = standing

abbrev pub command_meaning : List ℕ → Command → Standing → List Dbkey → Tables → Meaning
command_meaning word (perform a) standing choices t = act_meaning a standing choices t
command_meaning word c standing choices t =
    unless (command_refusal word c standing t) t standing choices (doing (after c t) (standing_after c standing) choices)

abbrev pub meaning : List ℕ → Standing → Uttered → List Dbkey → Tables → Meaning
meaning word standing (syntax_fault line column) choices t = refusing (r.Syntax line column) t standing choices
meaning word standing (said command) choices t = command_meaning word command standing choices t

-- From these tables and this standing, the item may be answered so, and leave these tables and this standing, where the rows that it stores are given these Dbkeys.
abbrev pub Does : List ℕ → Standing → Uttered → List Dbkey → Tables → Reply → Tables → Standing → Type 0
Does word standing item choices t reply t' standing' = meaning word standing item choices t ≡ means reply t' standing' []
