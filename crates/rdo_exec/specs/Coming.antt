-- What an item comes to over what is known, and that it may ask for the locks of it.
use Rattle.std.specs.Prelude.{◌≡◌, ℕ, false, List, [], ◌∷◌, Option, Some, None}
use Rattle.std.specs.List.{AllByRecursion}
use Rattle.rdo_ast.specs.declared.reply.Standing.{Standing}
use Rattle.rdo_ast.specs.Tree.{Act, Uttered}
use Rattle.rdb_meaning.specs.declared.tables.Tables.{Tables}
use Rattle.rdb_meaning.specs.Checks.{act_uses}
use Rattle.rdb_meaning.specs.Usual.{is_refusal_of_means}
use Rattle.line_view.specs.Knowledge.{Knowledge, Lines, Agrees}
use Rattle.line_view.specs.Stops.{Lacks}
use Rattle.session_jobs.specs.declared.jobs.Found.{Found}
use Rattle.session_jobs.specs.declared.jobs.Found.TheVariants.{Done, Missing, Bad, Unworked, NoMemory}
use Rattle.session_jobs.specs.Records.{DoesSo}
use Rattle.session_jobs.specs.Asked.{is_lock_for, AsksFor}
use Rattle.session_jobs.specs.Jobs.{worked_of, WhereItAgrees, AreAsked, NamesOnce}
use Rattle.catalog.specs.declared.reading.Catalog.{Catalog}
use Rattle.catalog.specs.Reading.{IsCatalogOf, IsWhole}
use Rattle.sound_maps.specs.Maps.{IsSoundWith}
use Rattle.rdo_exec.specs.Left.{IsLeftOver}
use Rattle.rdo_exec.specs.Areas.{FoundIn}
use Rattle.used_areas.specs.Areas.{areas_read, areas_changed}

-- what is known has this catalog
abbrev pub IsCatalogOfKnown : Knowledge → Catalog → Type 0
IsCatalogOfKnown known c = (all : Lines) → Agrees known all → IsCatalogOf all c

-- Over a sound map with these tables the record is right, or none of the needs is known, or the item is left for a cause; no line is bad. Want of memory says nothing.
abbrev pub ComesOver : List ℕ → Standing → Uttered → Knowledge → Found → Lines → Tables → Type 0
ComesOver word standing item known (Done r) all t = DoesSo IsSoundWith word standing (worked_of item r) all t
ComesOver word standing item known (Missing next later) all t = AllByRecursion (Lacks known) (next ∷ later)
ComesOver word standing item known (Bad key) all t = ⊥
ComesOver word standing item known Unworked all t = IsLeftOver word standing item known all t
ComesOver word standing item known NoMemory all t = Unit {0}

abbrev pub IsUsual : Found → Type 0
IsUsual (Done r) = is_refusal_of_means r.reply ≡ false
IsUsual _ = Unit {0}

-- It comes to this over each sound map with which what is known agrees.
pub record Comes (word : List ℕ) (standing : Standing) (item : Uttered) (known : Knowledge) (found : Found) : Type 0 where
  pub usual : IsUsual found
  pub once : NamesOnce found
  pub over : (all : Lines) (t : Tables) → IsSoundWith all t → Agrees known all → ComesOver word standing item known found all t

-- ---- locks

-- in these tables the item asks for what is needed next, and for EX on the lines of the writes
abbrev pub AsksIn : Standing → Uttered → Found → Tables → Type 0
AsksIn standing item (Done r) t = AreAsked standing item r.writes t
AsksIn standing item (Missing next later) t = AllByRecursion (λ need. AsksFor standing item t (is_lock_for item need)) (next ∷ later)
AsksIn standing item (Bad key) t = Unit {0}
AsksIn standing item Unworked t = Unit {0}
AsksIn standing item NoMemory t = Unit {0}

-- the same in those of each sound map with which what is known agrees
abbrev pub Asks : Standing → Uttered → Knowledge → Found → Type 0
Asks standing item known found = WhereItAgrees IsSoundWith known (AsksIn standing item found)

-- Over each sound map with which what is known agrees, what an action came to is in the areas of the relations that it names.
abbrev pub ActStays : Act → Knowledge → Found → Type 0
ActStays a known found = WhereItAgrees IsSoundWith known (λ t. FoundIn (areas_read t (act_uses a [])) (areas_changed t (act_uses a [])) found)

-- what is kept of the catalog is the catalog of what is known
abbrev pub FitsKnown : Option Catalog → Knowledge → Type 0
FitsKnown (Some c) known = IsCatalogOfKnown known c × IsWhole c
FitsKnown None known = Unit {0}
