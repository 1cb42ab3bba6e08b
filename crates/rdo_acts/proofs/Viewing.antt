-- The view of a statement as its stages have it.
use Rattle.std.proofs.Common.{◌≡◌, ℕ, List, [], ◌∷◌, Option, Some, None, refl, sym, subst}
use Rattle.std.specs.Prelude.{IsSome}
use Rattle.rdb_types.specs.declared.keys.Dbkey.{Dbkey}
use Rattle.rdb_meaning.specs.declared.tables.Relation.{Relation}
use Rattle.rdb_meaning.specs.declared.tables.Tables.{Tables}
use Rattle.line_view.specs.Knowledge.{Lines, Agrees, laid}
use Rattle.line_view.specs.Writes.{laid_all}
use Rattle.schema_alone.specs.Schema.{OneSchema}
use Rattle.sound_changes.specs.Standing.{IsSoundAs}
use Rattle.sound_changes.proofs.Schemas.{catalogs_schema}
use Rattle.statement_view.specs.Over.{Over, knows_over, laid_over, writes_of}
use Rattle.row_writes.specs.Rows.{IsSoundView}
use Rattle.rdo_values.specs.declared.bound.BoundRange.{BoundRange}
use Rattle.rdo_values.specs.Places.{IsRangeOf}
use Rattle.rdo_select.specs.Sources.{IsShown}
use Rattle.rdo_acts.specs.declared.work.Given.{Given}
use Rattle.rdo_acts.specs.declared.work.Work.{Work}
use Rattle.rdo_acts.specs.Ends.{GoTogether, stage, HoldsIn}

pub laid_writes : (lines : List (Dbkey × Option (List ℕ))) (all : Lines) → laid_all (writes_of lines) all ≡ laid_over lines all
laid_writes [] all = refl
laid_writes (e ∷ es) all = laid_writes es (laid e.0 e.1 all)

-- the view of work that holds is sound
pub sound_view : (given : Given) (w : Work) (all : Lines) (start t : Tables) → HoldsIn given w all start t → IsSoundView w.view given.schema.now t all
sound_view given w all start t holds =
    let same = laid_writes w.view.lines all in
    record {
      stands = record { ordered = (holds.began).sorted; base = holds.first; agrees = subst (λ (x : Lines). Agrees (knows_over w.view) x) same holds.agrees };
      sound = subst (λ (x : Lines). IsSoundAs x given.schema.now t) same holds.sound;
    }

-- work whose view is sound holds
pub holds_sound : (given : Given) (w : Work) (all : Lines) (start t : Tables) → IsSoundAs all given.schema.now start → IsSoundView w.view given.schema.now t all → HoldsIn given w all start t
holds_sound given w all start t began is =
    let same = sym (laid_writes w.view.lines all) in
    record {
      first = (is.stands).base;
      began = began;
      agrees = subst (λ (x : Lines). Agrees (knows_over w.view) x) same (is.stands).agrees;
      sound = subst (λ (x : Lines). IsSoundAs x given.schema.now t) same is.sound;
    }

-- the view shows the tables
pub shows : (given : Given) → GoTogether given → (o : Over) (t : Tables) (first : Lines) → IsSoundView o given.schema.now t first → IsShown (knows_over o) given.sources.now.entries t
shows given together o t first is = record { all = laid_over o.lines first; sorted = (is.sound).sorted; agrees = (is.stands).agrees; relations = together.tables (laid_over o.lines first) t is.sound }

-- the tables have the schema of the catalog
pub one_schema : (given : Given) (w : Work) (all : Lines) (start t : Tables) → HoldsIn given w all start t → OneSchema given.schema.now.tables t
one_schema given w all start t holds = catalogs_schema (laid_all (stage w).writes all) given.schema.now t (holds.sound).are

-- a range's relation is there
pub range_there : (s : BoundRange) (o : Option Relation) → IsRangeOf s o → (rel : Relation) × (o ≡ Some rel)
range_there s None is = absurd is
range_there s (Some rel) is = (rel, refl)

pub relation_there : (o : Option Relation) → IsSome o → ((rel : Relation) → o ≡ Some rel → ⊥) → ⊥
relation_there None some none = let bad : ⊥ = cc in bad
relation_there (Some rel) some none = none rel refl
