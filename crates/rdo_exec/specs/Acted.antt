-- What a job comes to, by what comes of its action, its definition or its deletion.
use Rattle.std.specs.Prelude.{◌≡◌, ◌⊎◌, List, [], ◌∷◌, Option, Some, None, IsSome}
use Rattle.rdb_types.specs.declared.keys.Dbkey.{Dbkey}
use Rattle.rdo_ast.specs.declared.reply.Reply.{Reply}
use Rattle.rdo_ast.specs.declared.reply.Reply.TheVariants as r
use Rattle.rdo_ast.specs.declared.reply.Standing.{Standing}
use Rattle.rdo_ast.specs.Tree.{Name}
use Rattle.rdb_meaning.specs.declared.tables.Relation.{Relation}
use Rattle.rdb_meaning.specs.declared.tables.Tables.{Tables}
use Rattle.rdb_meaning.specs.Contents.{relation_named}
use Rattle.line_view.specs.declared.need.Need.{Need}
use Rattle.line_view.specs.Knowledge.{Knowledge, Lines}
use Rattle.catalog.specs.declared.reading.Catalog.{Catalog}
use Rattle.sound_changes.specs.Standing.{IsSoundAs}
use Rattle.rdo_select.specs.Sources.{Listed, source_at, AreSourcesOf}
use Rattle.rdo_acts.specs.statement_sources.Sources.{AreOfTables, AreIndexed}
use Rattle.session_jobs.specs.declared.jobs.Found.{Found}
use Rattle.session_jobs.specs.declared.jobs.Found.TheVariants as found
use Rattle.rdo_acts.specs.declared.acting.Outcome.{Outcome}
use Rattle.rdo_acts.specs.declared.acting.Outcome.TheVariants.{Done, Refused, Missing, Bad, NoMemory}
use Rattle.rdo_acts.specs.Ahead.{AreAhead}
use Rattle.rdo_acts.specs.Ends.{reply_of}

-- Over each map that is sound with the catalog, these are the sources of its tables, and no others; each has the indexes of the catalog.
pub record AreTogether (c : Catalog) (sources : Listed) : Type 0 where
  pub present : (n : Name) (rel : Relation) → relation_named n c.tables ≡ Some rel → IsSome (source_at rel.area sources)
  pub tables : (all : Lines) (t : Tables) → IsSoundAs all c t → AreSourcesOf all t sources
  pub only : (all : Lines) (t : Tables) → IsSoundAs all c t → AreOfTables all t sources
  pub indexed : AreIndexed c sources

-- the record of an action that was refused on the way; none where the refusal has no reply
abbrev pub found_refused : Option Reply → List Dbkey → Standing → Found
found_refused (Some reply) given behind = found.Done (record { choices = given; reply = reply; standing = behind; writes = [] })
found_refused None given behind = found.Unworked

-- the first need is that which is wanted next, and the others come behind it
pub record Lists (needs : List Need) (known : Knowledge) (f : Found) : Type 0 where
  pub next : Need
  pub later : List Need
  pub all : needs ≡ next ∷ later
  pub is : f ≡ found.Missing next later
  pub ahead : AreAhead known next later

-- What a job comes to by what comes of its action, where this is the standing that the action leaves.
abbrev pub IsFoundOf : Outcome → Knowledge → Standing → Found → Type 0
IsFoundOf (Done acted) known behind f = f ≡ found.Done (record { choices = acted.given; reply = r.Done acted.lines; standing = behind; writes = acted.writes })
IsFoundOf (Refused refusal given) known behind f = (f ≡ found_refused (reply_of refusal) given behind) ⊎ (f ≡ found.NoMemory)
IsFoundOf (Missing needs) known behind f = Lists needs known f
IsFoundOf (Bad key) known behind f = f ≡ found.Bad key
IsFoundOf NoMemory known behind f = f ≡ found.NoMemory

-- nothing is lacked, no line is bad, and it isn't left
abbrev pub IsSettled : Found → Type 0
IsSettled (found.Done x) = Unit {0}
IsSettled (found.Missing next later) = ⊥
IsSettled (found.Bad key) = ⊥
IsSettled found.Unworked = ⊥
IsSettled found.NoMemory = Unit {0}

-- the same without writes, where an action lacked nothing
abbrev pub IsAlone : Found → Found → Type 0
IsAlone (found.Done x) f = f ≡ found.Done (record x { writes = [] })
IsAlone (found.Missing next later) f = ⊥
IsAlone (found.Bad key) f = ⊥
IsAlone found.Unworked f = ⊥
IsAlone found.NoMemory f = f ≡ found.NoMemory
