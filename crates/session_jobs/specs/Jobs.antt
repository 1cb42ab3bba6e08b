-- What is promised of what a job comes to.
use Rattle.std.specs.Prelude.{◌≡◌, ◌≢◌, ℕ, List, [], ◌∷◌, None}
use Rattle.std.specs.List.{AllByRecursion}
use Rattle.rdo_ast.specs.declared.reply.Standing.{Standing}
use Rattle.rdo_ast.specs.declared.reply.Standing.TheVariants.{Closed}
use Rattle.rdo_ast.specs.Tree.{Uttered}
use Rattle.rdo_ast.specs.Views.{uttered_of}
use Rattle.rdb_account.specs.rdb_meaning.declared.tables.Tables.{Tables}
use Rattle.vms_queues.specs.declared.lock_mode.Mode.TheVariants.{EX}
use Rattle.rdb_account.specs.Places.{begins}
use Rattle.rdb_account.specs.AskedFor.{is_on_line_of}
use Rattle.line_view.specs.declared.need.Need.{Need}
use Rattle.line_view.specs.declared.writes.Write.{Write}
use Rattle.line_view.specs.Knowledge.{Knowledge, Lines, Agrees}
use Rattle.line_view.specs.Stops.{Lacks}
use Rattle.line_view.specs.Held.{knows}
use Rattle.session_jobs.specs.declared.jobs.Job.{Job}
use Rattle.session_jobs.specs.declared.jobs.TxRecord.{TxRecord}
use Rattle.session_jobs.specs.declared.jobs.Found.{Found}
use Rattle.session_jobs.specs.declared.jobs.Found.TheVariants.{Done, Missing, Bad, Unworked, NoMemory}
use Rattle.session_jobs.specs.Records.{Model, Worked, IsRight}
use Rattle.session_jobs.specs.Asked.{is_lock_for, AsksFor}

abbrev pub worked_of : Uttered → TxRecord → Worked
worked_of item r = record { item = item; choices = r.choices; reply = r.reply; behind = r.standing; writes = r.writes }

-- Over each sound map that agrees with what is known, with its tables, this is so.
abbrev pub WhereItAgrees : Model → Knowledge → (Tables → Type 0) → Type 0
WhereItAgrees M known P = (all : Lines) (t : Tables) → M all t → Agrees known all → P t

-- EX is asked for on the line of each write
abbrev pub AreAsked : Standing → Uttered → List Write → Tables → Type 0
AreAsked standing item writes t = AllByRecursion (λ w. AsksFor standing item t (is_on_line_of w.key.area EX)) writes

-- the need isn't known, and what it wants is asked for
pub record IsLacking (standing : Standing) (item : Uttered) (known : Knowledge) (t : Tables) (need : Need) : Type 0 where
  pub unknown : Lacks known need
  pub asked : AsksFor standing item t (is_lock_for item need)

pub record IsRecord (M : Model) (word : List ℕ) (standing : Standing) (item : Uttered) (known : Knowledge) (r : TxRecord) : Type 0 where
  pub right : IsRight M word standing known (worked_of item r)
  pub asked : WhereItAgrees M known (AreAsked standing item r.writes)

-- What was found over what is known: a right record; needs that aren't known; or a line with which no sound map agrees. Of a job that isn't worked nothing more is said than its cause; want of memory says nothing.
abbrev pub IsFound : Model → List ℕ → Standing → Uttered → Knowledge → Found → Type 0
IsFound M word standing item known (Done r) = IsRecord M word standing item known r
IsFound M word standing item known (Missing next later) = WhereItAgrees M known (λ t. AllByRecursion (IsLacking standing item known t) (next ∷ later))
IsFound M word standing item known (Bad key) = WhereItAgrees M known (λ t. ⊥)
IsFound M word standing item known Unworked = Unit {0}
IsFound M word standing item known NoMemory = Unit {0}

abbrev pub IsFoundFor : Model → Job → Found → Type 0
IsFoundFor M job found = IsFound M job.word job.standing (uttered_of job.item) (knows job.known) found

-- why an item, said in a database of this word and in this standing over what is known, may be left unworked
abbrev pub Cause : Type 1
Cause = List ℕ → Standing → Uttered → Knowledge → Type 0

-- a job is left unworked only for such a cause
abbrev pub HasCause : Cause → Job → Found → Type 0
HasCause L job Unworked = L job.word job.standing (uttered_of job.item) (knows job.known)
HasCause L job _ = Unit {0}

-- its item is said outside a transaction, and begins none
pub record IsOutside (job : Job) : Type 0 where
  pub closed : job.standing ≡ Closed
  pub none : begins (uttered_of job.item) ≡ None

abbrev pub NamesNoNeed : Found → Type 0
NamesNoNeed (Missing next later) = ⊥
NamesNoNeed _ = Unit {0}

-- each of these is named once
abbrev pub AreNamedOnce : List Need → Type 0
AreNamedOnce [] = Unit {0}
AreNamedOnce (need ∷ needs) = AllByRecursion (λ other. need ≢ other) needs × AreNamedOnce needs

abbrev pub NamesOnce : Found → Type 0
NamesOnce (Missing next later) = AreNamedOnce (next ∷ later)
NamesOnce _ = Unit {0}

-- a job with what it came to
pub record Answered : Type 0 where
  pub job : Job
  pub found : Found

-- What was found is right for the job, is left for a cause, and names each need once; what is kept is true.
pub record IsWellFound (M : Model) (L : Cause) (IsKept : Type 0) (job : Job) (found : Found) : Type 0 where
  pub right : IsFoundFor M job found
  pub cause : HasCause L job found
  pub once : NamesOnce found
  pub kept : IsKept
