-- The locks of the relations that a START_TRANSACTION reserves.
use Rattle.std.specs.Prelude.{◌≡◌, Bool, List, map, Option, Some, None}
use Rattle.std.specs.List.{AllByRecursion}
use Rattle.rdb_types.specs.declared.node.Level.TheVariants.{Area}
use Rattle.rdo_ast.specs.declared.reply.Standing.TheVariants.{Closed}
use Rattle.rdo_ast.specs.declared.syntax.Reservation.{Reservation}
use Rattle.rdo_ast.specs.Tree.{said, start_read_write}
use Rattle.rdb_meaning.specs.declared.tables.Relation.{Relation}
use Rattle.rdb_meaning.specs.declared.tables.Tables.{Tables}
use Rattle.rdb_meaning.specs.Contents.{relation_named}
use Rattle.lock_needs.specs.declared.need.Need.{Need}
use Rattle.rdb_account.specs.Events.{need}
use Rattle.rdb_account.specs.AskedFor.{area_node, reserved_mode}
use Rattle.line_view.specs.Knowledge.{Knowledge}
use Rattle.session_jobs.specs.Records.{Model}
use Rattle.session_jobs.specs.Jobs.{IsLacking, WhereItAgrees}
use Rattle.reserved_locks.specs.declared.locks.Unnamed.{Unnamed}
use Rattle.reserved_locks.specs.declared.locks.Unnamed.TheVariants.{Lacking, Unknown, NoMemory}

-- on the relation's area, in the mode that the reservation says
abbrev pub lock_for : Reservation → Option Relation → Option Need
lock_for x (Some r) = Some (need (area_node r.area) (reserved_mode x.share x.writes))
lock_for x None = None

abbrev pub lock_in : Tables → Reservation → Option Need
lock_in t x = lock_for x (relation_named x.relation t)

abbrev pub some_need : Need → Option Need
some_need n = Some n

-- one for each reservation, in their order
abbrev pub AreLocksOf : List Reservation → Tables → List Need → Type 0
AreLocksOf rs t locks = map (lock_in t) rs ≡ map some_need locks

-- locks on areas alone
abbrev pub AreOnAreas : List Need → Type 0
AreOnAreas = AllByRecursion (λ n. n.node.level ≡ Area)

-- Why the locks of reservations aren't named over what is known: it lacks what a START_TRANSACTION that reserves so asks for, or no tables with which it agrees have each relation. Want of memory says nothing.
abbrev pub IsUnnamed : Model → Knowledge → List Reservation → Unnamed → Type 0
IsUnnamed M known rs (Lacking need) = (wait : Bool) → WhereItAgrees M known (λ t. IsLacking Closed (said (start_read_write wait rs)) known t need)
IsUnnamed M known rs Unknown = WhereItAgrees M known (λ t. (locks : List Need) → AreLocksOf rs t locks → ⊥)
IsUnnamed M known rs NoMemory = Unit {0}
