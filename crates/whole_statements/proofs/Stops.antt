-- What reading lacks isn't known; and a record without writes is right.
use Rattle.std.proofs.Common.{◌≡◌, ℕ, false, List, [], refl, sym, subst, ◌∙◌}
use Rattle.std.proofs.lemmas.Bool.{true≢false}
use Rattle.rdo_ast.specs.declared.reply.Standing.{Standing}
use Rattle.rdo_ast.specs.declared.reply.Standing.TheVariants.{Closed, ReadOnly, ReadWrite}
use Rattle.rdo_ast.specs.Tree.{Uttered}
use Rattle.rdb_meaning.specs.declared.tables.Tables.{Tables}
use Rattle.rdb_meaning.specs.Meaning.{Does}
use Rattle.line_view.specs.declared.need.Need.{Need}
use Rattle.line_view.specs.declared.need.Need.TheVariants.{Line, Area, Room}
use Rattle.line_view.specs.declared.stop.Stop.TheVariants.{Missing, Bad}
use Rattle.line_view.specs.Knowledge.{Knowledge, Lines, IsInOrder, Agrees}
use Rattle.line_view.specs.Writes.{laid_all}
use Rattle.line_view.specs.declared.writes.Write.{Write}
use Rattle.catalog.specs.Reading.{IsNext}
use Rattle.relation_rows.specs.Stored.{IsNextNeed}
use Rattle.sound_lines.specs.Contents.{AreTablesOf}
use Rattle.sound_lines.specs.Reading.{StopsTables, in_catalog, in_rows}
use Rattle.sound_lines.proofs.OneTables.{one_tables}
use Rattle.sound_lines.proofs.BadRows.{no_tables}
use Rattle.session_jobs.specs.declared.jobs.Found.{Found}
use Rattle.session_jobs.specs.declared.jobs.Found.TheVariants as found
use Rattle.line_view.specs.Stops.{Lacks}
use Rattle.session_jobs.specs.Asked.{locks}
use Rattle.session_jobs.specs.declared.jobs.Job.{Job}
use Rattle.session_jobs.specs.Jobs.{IsFound, AreAsked, HasCause, NamesOnce}
use Rattle.sound_maps.specs.Maps.{IsSoundWith}
use Rattle.whole_statements.specs.Sound.{DoneOn}
use Rattle.whole_statements.specs.Standings.{IsReading}
use Rattle.whole_statements.specs.Ways.{TakesLocks}
use Rattle.rdb_meaning.proofs.Unchanged.{is_writing, unchanged}
use Rattle.rdb_types.specs.declared.keys.Dbkey.{Dbkey}
use Rattle.rdo_ast.specs.declared.reply.Reply.{Reply}

lacks-next : (known : Knowledge) (need : Need) → IsNext known need → Lacks known need
lacks-next known (Area area) h = subst (λ (a : ℕ). Lacks known (Area a)) (sym h.0) h.1
lacks-next known (Line key) h = h.1
lacks-next known (Room room) h = absurd h

lacks-need : (known : Knowledge) (area : ℕ) (need : Need) → IsNextNeed known area need → Lacks known need
lacks-need known area (Area a) h = subst (λ (b : ℕ). Lacks known (Area b)) (sym h.0) h.1
lacks-need known area (Line key) h = h.2.unknown
lacks-need known area (Room room) h = absurd h

lacks : (known : Knowledge) (all : Lines) (need : Need) → StopsTables known all (Missing need) → Lacks known need
lacks known all need (in_catalog next) = lacks-next known need next
lacks known all need (in_rows c decodes stops) = lacks-need known _ need stops.stops

-- ---- what is found

reads-only : (standing : Standing) → IsReading standing → is_writing standing ≡ false
reads-only Closed h = refl
reads-only ReadOnly h = refl
reads-only (ReadWrite wait rs) h = absurd h

pub done-on : (word : List ℕ) (standing : Standing) (item : Uttered) (t t' : Tables) (choices : List Dbkey) (reply : Reply) (behind : Standing) → IsReading standing →
    Does word standing item choices t reply t' behind → Does word standing item choices t reply t behind
done-on word standing item t t' choices reply behind reads does =
    subst (λ (x : Tables). Does word standing item choices t reply x behind) (unchanged word standing item choices [] t t' reply behind (reads-only standing reads) does) does

pub missing : (word : List ℕ) (standing : Standing) (item : Uttered) (known : Knowledge) (need : Need) → locks standing item ≡ false →
    ((all : Lines) → Agrees known all → StopsTables known all (Missing need)) → IsFound IsSoundWith word standing item known (found.Missing need [])
missing word standing item known need free stops all t is agrees = (
  record {
    unknown = lacks known all need (stops all agrees);
    asked = λ takes. absurd (true≢false (sym takes ∙ free));
  },
  tt,
)

pub bad : (word : List ℕ) (standing : Standing) (item : Uttered) (known : Knowledge) (key : Dbkey) →
    ((all : Lines) → Agrees known all → StopsTables known all (Bad key)) → IsFound IsSoundWith word standing item known (found.Bad key)
bad word standing item known key stops all t is agrees = no_tables known all key t is.0 agrees (stops all agrees) is.2

pub done : (word : List ℕ) (standing : Standing) (item : Uttered) (known : Knowledge) (tables : Tables) (f : Found) →
    ((all : Lines) → IsInOrder all → Agrees known all → AreTablesOf all tables) → DoneOn word standing item tables f → IsFound IsSoundWith word standing item known f
done word standing item known tables (found.Done r) are h = record {
  right = record {
    usual = h.1;
    does = λ all t is agrees. let same : tables ≡ t = one_tables all tables t (are all is.0 agrees) is.2 in record {
      then = t;
      does = subst (λ (x : Tables). Does word standing item r.choices x r.reply x r.standing) same h.0;
      stands = subst (λ (ws : List Write). IsSoundWith (laid_all ws all) t) (sym h.2) is;
    };
  };
  asked = λ all t is agrees. subst (λ (ws : List Write). AreAsked standing item ws t) (sym h.2) tt;
}
done word standing item known tables (found.Missing next later) are h = absurd h
done word standing item known tables (found.Bad key) are h = absurd h
done word standing item known tables found.Unworked are h = tt
done word standing item known tables found.NoMemory are h = tt

-- what is done is worked
pub done-cause : (word : List ℕ) (standing : Standing) (item : Uttered) (t : Tables) (job : Job) (f : Found) → DoneOn word standing item t f → HasCause TakesLocks job f
done-cause word standing item t job (found.Done r) h = tt
done-cause word standing item t job (found.Missing next later) h = tt
done-cause word standing item t job (found.Bad key) h = tt
done-cause word standing item t job found.Unworked h = absurd h
done-cause word standing item t job found.NoMemory h = tt

-- and lacks nothing
pub done-once : (word : List ℕ) (standing : Standing) (item : Uttered) (t : Tables) (f : Found) → DoneOn word standing item t f → NamesOnce f
done-once word standing item t (found.Done r) h = tt
done-once word standing item t (found.Missing next later) h = absurd h
done-once word standing item t (found.Bad key) h = tt
done-once word standing item t found.Unworked h = tt
done-once word standing item t found.NoMemory h = tt
