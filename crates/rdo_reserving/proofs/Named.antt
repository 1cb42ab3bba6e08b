-- The tables of a sound map have the relations of its catalog, so the locks of reservations are the same.
use Rattle.std.proofs.Common.{◌≡◌, ◌∷◌, [], true, List, map, refl, ◌∙◌, sym, ap, Option, Some, None}
use Rattle.std.specs.Prelude.{◌≢◌, option_map}
use Rattle.rdo_ast.specs.declared.syntax.Reservation.{Reservation}
use Rattle.rdb_meaning.specs.declared.tables.Relation.{Relation}
use Rattle.rdb_meaning.specs.declared.tables.Tables.{Tables}
use Rattle.rdb_meaning.specs.Contents.{relation_named}
use Rattle.lock_needs.specs.declared.need.Need.{Need}
use Rattle.line_view.specs.Knowledge.{Knowledge, Lines, Agrees}
use Rattle.catalog.specs.declared.reading.Catalog.{Catalog}
use Rattle.catalog.specs.Reading.{IsCatalogOf}
use Rattle.schema_alone.specs.Schema.{bare, OneSchema}
use Rattle.sound_changes.proofs.Schemas.{catalogs_schema}
use Rattle.view_stages.proofs.Ending.{begins}
use Rattle.sound_maps.specs.Maps.{IsSoundWith}
use Rattle.session_jobs.specs.Jobs.{WhereItAgrees}
use Rattle.rdb_types.specs.declared.keys.Dbkey.{Dbkey}
use Rattle.rdo_ast.specs.declared.reply.Standing.TheVariants.{Closed}
use Rattle.rdo_ast.specs.Tree.{said, start_read_write}
use Rattle.line_view.specs.declared.need.Need.{Need as LineNeed}
use Rattle.line_view.specs.declared.stop.Stop.TheVariants as stop
use Rattle.catalog.specs.Reading.{StopsCatalog}
use Rattle.remembered_catalog.specs.rdo_exec.Ways.{reserves as has_reservations}
use Rattle.remembered_catalog.proofs.of_rdo_exec.Answered.{unread}
use Rattle.remembered_catalog.proofs.of_rdo_exec.Locks.{unread_asks}
use Rattle.remembered_catalog.proofs.of_rdo_exec.Starting.{reserving_asks}
use Rattle.reserved_locks.specs.declared.locks.Unnamed.TheVariants.{Lacking, Unknown}
use Rattle.reserved_locks.specs.Reserved.{lock_for, lock_in, AreLocksOf, IsUnnamed}

-- a lock is on the relation's area, whatever its rows
bare-lock : (x : Reservation) (r : Option Relation) → lock_for x (option_map bare r) ≡ lock_for x r
bare-lock x None = refl
bare-lock x (Some r) = refl

one-lock : (t u : Tables) → OneSchema t u → (x : Reservation) → lock_in u x ≡ lock_in t x
one-lock t u one x =
    sym (bare-lock x (relation_named x.relation u)) ∙ (ap (lock_for x) (sym (one x.relation)) ∙ bare-lock x (relation_named x.relation t))

same-locks : (t u : Tables) → OneSchema t u → (rs : List Reservation) → map (lock_in u) rs ≡ map (lock_in t) rs
same-locks t u one [] = refl
same-locks t u one (x ∷ xs) = λ i. one-lock t u one x i ∷ same-locks t u one xs i

pub locks-over : (known : Knowledge) (c : Catalog) (rs : List Reservation) (locks : List Need) → ((all : Lines) → Agrees known all → IsCatalogOf all c) → AreLocksOf rs c.tables locks → WhereItAgrees IsSoundWith known (λ t. AreLocksOf rs t locks)
locks-over known c rs locks decodes are = λ all t sound agrees.
    let as_it_is = begins known c all t sound.0 agrees (decodes all agrees) sound.1 sound.2 in
    same-locks c.tables t (catalogs_schema all c t as_it_is.are) rs ∙ are

-- where they were named by the catalog
pub named : (known : Knowledge) (c : Catalog) (rs : List Reservation) (locks : List Need) → ((all : Lines) → Agrees known all → IsCatalogOf all c) → AreLocksOf rs c.tables locks → WhereItAgrees IsSoundWith known (λ t. AreLocksOf rs t locks)
named known c rs locks decodes are = locks-over known c rs locks decodes are

-- ---- why they aren't named

-- a relation isn't in the catalog
pub none-named : (known : Knowledge) (c : Catalog) (rs : List Reservation) → ((all : Lines) → Agrees known all → IsCatalogOf all c) → ((locks : List Need) → AreLocksOf rs c.tables locks → ⊥) → IsUnnamed IsSoundWith known rs Unknown
none-named known c rs decodes none = λ all t sound agrees locks are.
    let as_it_is = begins known c all t sound.0 agrees (decodes all agrees) sound.1 sound.2 in
    none locks (sym (same-locks c.tables t (catalogs_schema all c t as_it_is.are) rs) ∙ are)

some-reserved : (rs : List Reservation) → rs ≢ [] → has_reservations rs ≡ true
some-reserved [] some = absurd (some refl)
some-reserved (x ∷ xs) some = refl

-- the catalog isn't known
pub catalog-lacks : (known : Knowledge) (rs : List Reservation) (need : LineNeed) → rs ≢ [] → StopsCatalog known (stop.Missing need) → IsUnnamed IsSoundWith known rs (Lacking need)
catalog-lacks known rs need some h = λ wait all t sound agrees. record {
  unknown = ((unread [] Closed (said (start_read_write wait rs)) known (stop.Missing need) h).over all t sound agrees).0;
  asked = (unread_asks Closed (said (start_read_write wait rs)) known (stop.Missing need) (λ u. reserving_asks wait rs u (some-reserved rs some)) h all t sound agrees).0;
}

-- no sound lines are as they are known
pub catalog-bad : (known : Knowledge) (rs : List Reservation) (key : Dbkey) → StopsCatalog known (stop.Bad key) → IsUnnamed IsSoundWith known rs Unknown
catalog-bad known rs key h = λ all t sound agrees locks are. absurd ((unread [] Closed (said (start_read_write true rs)) known (stop.Bad key) h).over all t sound agrees)
