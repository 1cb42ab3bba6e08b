-- Which needs a read-write transaction may want and get: those that its next item asks for, apart from what others have got.
use Rattle.std.specs.Prelude.{◌≡◌, ℕ, Bool, true, false, not, ◌&&◌, ◌||◌, ◌==◌, List, [], ◌∷◌, Option, Some, None}
use Rattle.std.specs.List.{list_all, list_any}
use Rattle.std.specs.FinMap.Entries.{find}
use Rattle.lock_needs.specs.rdb_types.declared.node.Level.TheVariants as level
use Rattle.lock_needs.specs.rdb_types.declared.node.Node.{Node}
use Rattle.rdo_ast.specs.declared.syntax.Reservation.{Reservation}
use Rattle.rdo_ast.specs.declared.syntax.Share.{Share}
use Rattle.rdo_ast.specs.declared.syntax.Share.TheVariants.{Shared, Protected, Exclusive}
use Rattle.rdo_ast.specs.Tree.{Command, Uttered, said, syntax_fault, invoke, start_read_only, start_read_write, commit, rollback, finish, perform, define_field, define_relation, define_index, delete_relation, delete_index, back_up}
use Rattle.rdb_meaning.specs.declared.tables.Relation.{Relation}
use Rattle.rdb_meaning.specs.declared.tables.Tables.{Tables}
use Rattle.lock_needs.specs.rdb_types.Order.{chars_order}
use Rattle.rdb_meaning.specs.Contents.{relation_named, indexes_on, new_index_area}
use Rattle.rdb_meaning.specs.Checks.{Refusal, Use, use_of, act_uses}
use Rattle.rdb_meaning.specs.Meaning.{index_uses}
use Rattle.lock_needs.specs.vms_queues.declared.lock_mode.Mode.{Mode}
use Rattle.lock_needs.specs.vms_queues.declared.lock_mode.Mode.TheVariants.{CR, CW, PR, PW, EX}
use Rattle.lock_needs.specs.vms_queues.Modes.{at_most}
use Rattle.lock_needs.specs.declared.need.Need.{Need}
use Rattle.lock_needs.specs.Nodes.{same_node}
use Rattle.lock_needs.specs.Needs.{conflict}
use Rattle.rdb_account.specs.Places.{Opening, Place, Transaction, Folded, retold, next_item, is_line}
use Rattle.rdb_account.specs.Lawful.{first_refusal, sessions, got_of}

-- ---- needs

abbrev pub is_mode : Mode → Need → Bool
is_mode m n = at_most m n.mode && at_most n.mode m

abbrev pub is_need : Node → Mode → Need → Bool
is_need node m n = same_node node n.node && is_mode m n

abbrev pub area_node : ℕ → Node
area_node area = record { level = level.Area; area = area; at = 0; line = 0 }

-- the catalog is the first logical area
abbrev pub is_on_catalog : Mode → Need → Bool
is_on_catalog m n = is_need (area_node 1) m n

abbrev pub is_on_journal : Mode → Need → Bool
is_on_journal m n = is_need (record { level = level.Journal; area = 0; at = 0; line = 0 }) m n

abbrev pub is_on_line_of : ℕ → Mode → Need → Bool
is_on_line_of area m n = is_line n.node.level && ((n.node.area == area) && is_mode m n)

-- ---- what asks for a need

-- a relation that is read or changed: PR on its area or an index's and on lines there, and EX on these lines where it is changed.
-- A line that is taken for a new row or node is one of them.
abbrev pub area_asks : Need → Bool → ℕ → Bool
area_asks n changes area = is_need (area_node area) PR n || (is_on_line_of area PR n || (changes && is_on_line_of area EX n))

abbrev pub relation_asks : Tables → Need → Bool → Option Relation → Bool
relation_asks t n changes (Some r) = area_asks n changes r.area || list_any (λ e. area_asks n changes e.1.area) (indexes_on r.area t)
relation_asks t n changes None = false

abbrev pub use_asks : Tables → Need → Use → Bool
use_asks t n u = relation_asks t n u.changes (relation_named u.relation t)

-- storing, modifying, erasing and retrieving: whoever names a relation reads the catalog too
abbrev pub uses_ask : Tables → Need → List Use → Bool
uses_ask t n [] = false
uses_ask t n (u ∷ us) = is_on_catalog PR n || list_any (use_asks t n) (u ∷ us)

-- a definition or deletion has the catalog for itself and changes lines there
abbrev pub definition_asks : Tables → Need → List Use → Bool
definition_asks t n us = is_on_catalog EX n || (is_on_line_of 1 EX n || list_any (use_asks t n) us)

abbrev pub reserved_mode : Share → Bool → Mode
reserved_mode Shared true = CW
reserved_mode Shared false = CR
reserved_mode Protected true = PW
reserved_mode Protected false = PR
reserved_mode Exclusive writes = EX

abbrev pub is_reserved : Need → Reservation → Option Relation → Bool
is_reserved n x (Some r) = is_need (area_node r.area) (reserved_mode x.share x.writes) n
is_reserved n x None = false

abbrev pub reservations_ask : Tables → Need → List Reservation → Bool
reservations_ask t n [] = false
reservations_ask t n (x ∷ xs) = is_on_catalog PR n || list_any (λ y. is_reserved n y (relation_named y.relation t)) (x ∷ xs)

-- Where one lock serves all, a read-write transaction starts with the catalog for itself.
abbrev pub command_asks : Tables → Need → Command → Bool
command_asks t n (start_read_write wait rs) = is_on_catalog EX n || reservations_ask t n rs
command_asks t n commit = is_on_journal EX n
command_asks t n (perform a) = uses_ask t n (act_uses a [])
command_asks t n (define_field name type) = definition_asks t n []
command_asks t n (define_relation name fs) = definition_asks t n []
command_asks t n (define_index d) = is_on_line_of (new_index_area t) EX n || definition_asks t n (use_of false d.relation ∷ [])
command_asks t n (delete_relation name) = definition_asks t n (use_of true name ∷ [])
command_asks t n (delete_index name) = definition_asks t n (index_uses (find chars_order name t.indexes) t)
command_asks t n (invoke text) = false
command_asks t n start_read_only = false
command_asks t n rollback = false
command_asks t n finish = false
command_asks t n (back_up number) = false

-- by the standing nothing is wrong with it
abbrev pub item_asks : Refusal → Tables → Need → Uttered → Bool
item_asks None t n (said command) = command_asks t n command
item_asks None t n (syntax_fault line column) = false
item_asks (Some reply) t n item = false

abbrev pub next_asks : Folded → Need → Option Uttered → Bool
next_asks f n (Some item) = item_asks (first_refusal f.standing item) f.tables n item
next_asks f n None = false

-- by the tables and the standing to which the transaction's items have led
abbrev pub is_asked_in : Opening → Place → ℕ → Need → Option Transaction → Bool
is_asked_in o p s n (Some t) = next_asks (retold o.word p.tables t.lines) n (next_item o p s)
is_asked_in o p s n None = false

-- The next item of s, in its open transaction, asks for the need.
abbrev pub IsAskedFor : Opening → Place → ℕ → Need → Type 0
IsAskedFor o p s n = is_asked_in o p s n (p.transaction s) ≡ true

-- ---- what others have got

abbrev pub is_apart_from : Place → ℕ → Need → ℕ → Bool
is_apart_from p s n t = (t == s) || not (list_any (conflict n) (got_of (p.transaction t)))

-- No other session has got a need that conflicts with this one.
abbrev pub IsApart : Place → ℕ → Need → Type 0
IsApart p s n = list_all (is_apart_from p s n) sessions ≡ true
