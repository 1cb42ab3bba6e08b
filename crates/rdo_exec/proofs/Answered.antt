-- What says nothing, a catalog that can't be read, and what is answered without a write.
use Rattle.std.proofs.Common.{◌≡◌, inl, inr, ℕ, Bool, true, false, cond, List, [], Some, None, Result, Ok, Err, refl, sym, ap, subst}
use Rattle.std.specs.Prelude.{IfOk}
use Rattle.rdb_types.specs.declared.memory.NoMemory.{NoMemory}
use Rattle.rdo_ast.specs.declared.reply.Reply.TheVariants as r
use Rattle.rdb_meaning.specs.Checks.{Refusal, or_else, is_retrieval}
use Rattle.rdb_meaning.specs.Execution.{world, done}
use Rattle.rdb_meaning.specs.Defining.{field_names, relation_names}
use Rattle.rdb_meaning.specs.Meaning.{Meaning, means, unless, needs_closed, needs_open, needs_read_write, after_retrieval, after_running, act_later_refusal, later_refusal, reserved_names, Does}
use Rattle.rdb_checks.specs.declared.stop.Stop.{Stop as CheckStop}
use Rattle.rdb_checks.specs.declared.stop.Stop.TheVariants as check
use Rattle.rdb_checks.specs.Answers.{Finds}
use Rattle.rdb_account.specs.Lawful.{first_refusal}
use Rattle.line_view.specs.Held.{knows}
use Rattle.rdo_ast.specs.Views.{uttered_of}
use Rattle.session_jobs.specs.declared.jobs.Job.{Job}
use Rattle.session_jobs.specs.Jobs.{NamesNoNeed, HasCause}
use Rattle.rdo_ast.specs.declared.reply.Reply.{Reply}
use Rattle.rdo_ast.specs.declared.reply.Standing.{Standing}
use Rattle.rdo_ast.specs.Tree.{Uttered, said, syntax_fault, invoke, start_read_only, start_read_write, commit, rollback, finish, back_up, perform, define_field, define_relation, define_index, delete_relation, delete_index}
use Rattle.rdb_meaning.specs.declared.tables.Tables.{Tables}
use Rattle.rdb_meaning.specs.Usual.{is_refusal_of_means}
use Rattle.line_view.specs.declared.need.Need.{Need}
use Rattle.line_view.specs.declared.need.Need.TheVariants.{Line, Area, Room}
use Rattle.line_view.specs.declared.stop.Stop.{Stop}
use Rattle.line_view.specs.declared.stop.Stop.TheVariants as stop
use Rattle.line_view.specs.declared.stop.Never.{Never}
use Rattle.line_view.specs.Knowledge.{Knowledge, Lines, Agrees}
use Rattle.line_view.specs.Stops.{Lacks}
use Rattle.catalog.specs.Reading.{IsNext, StopsCatalog}
use Rattle.catalog.proofs.Agreements as agreements
use Rattle.sound_maps.specs.Maps.{IsSoundWith}
use Rattle.session_jobs.specs.declared.jobs.Found.{Found}
use Rattle.session_jobs.specs.declared.jobs.Found.TheVariants as found
use Rattle.session_jobs.specs.Records.{DoesSo}
use Rattle.rdo_exec.specs.Answers.{answer_unless, answer_of, answer_by, found_of_stop}
use Rattle.usual_replies.proofs.UsualMeanings.{usual}
use Rattle.rdo_exec.specs.Left.{IsLeft}
use Rattle.rdo_exec.specs.Areas.{FoundIn}
use Rattle.rdo_exec.specs.Coming.{Comes, AsksIn}
use Rattle.rdo_exec.specs.Defined.{IsUnchecked}

-- ---- what says nothing

pub says_nothing : (word : List ℕ) (standing : Standing) (item : Uttered) (known : Knowledge) (f : Found) → f ≡ found.NoMemory → Comes word standing item known f
says_nothing word standing item known f is = subst (λ (x : Found). Comes word standing item known x) (sym is) (record { usual = tt; once = tt; over = λ all t sound agrees. tt })

-- ---- what is left

pub left : (word : List ℕ) (standing : Standing) (item : Uttered) (known : Knowledge) (f : Found) → f ≡ found.Unworked → IsLeft word standing item known → Comes word standing item known f
left word standing item known f is why = subst (λ (x : Found). Comes word standing item known x) (sym is) (record { usual = tt; once = tt; over = why })

pub why_left : (word : List ℕ) (standing : Standing) (item : Uttered) (known : Knowledge) (f : Found) → Comes word standing item known f → f ≡ found.Unworked → IsLeft word standing item known
why_left word standing item known f comes is = (subst (λ (x : Found). Comes word standing item known x) is comes).over

-- the same as the clause of who works statements
pub has_cause : (job : Job) (f : Found) → (f ≡ found.Unworked → IsLeft job.word job.standing (uttered_of job.item) (knows job.known)) → HasCause IsLeft job f
has_cause job (found.Done r) why = tt
has_cause job (found.Missing next later) why = tt
has_cause job (found.Bad key) why = tt
has_cause job found.Unworked why = why refl
has_cause job found.NoMemory why = tt

-- ---- where the catalog can't be read

next_lacks : (known : Knowledge) (need : Need) → IsNext known need → Lacks known need
next_lacks known (Area area) h = subst (λ (a : ℕ). Lacks known (Area a)) (sym h.0) h.1
next_lacks known (Line key) h = h.1
next_lacks known (Room room) h = absurd h

pub unread : (word : List ℕ) (standing : Standing) (item : Uttered) (known : Knowledge) (why : Stop Never) → StopsCatalog known why → Comes word standing item known (found_of_stop why)
unread word standing item known (stop.Missing need) h = record { usual = tt; once = (tt, tt); over = λ all t sound agrees. (next_lacks known need h, tt) }
unread word standing item known (stop.Bad key) h = record { usual = tt; once = tt; over = λ all t sound agrees. agreements.no_catalog known all key sound.2.catalog agrees h sound.2.decodes }
unread word standing item known stop.NoMemory h = record { usual = tt; once = tt; over = λ all t sound agrees. tt }
unread word standing item known (stop.Own never) h = elim never [ ]

-- ---- what is answered, and nothing written

answer_comes_by : (word : List ℕ) (standing : Standing) (item : Uttered) (known : Knowledge) (reply : Reply) (behind : Standing) (limits : Bool) → is_refusal_of_means reply ≡ limits →
    ((all : Lines) (t : Tables) → IsSoundWith all t → Agrees known all → DoesSo IsSoundWith word standing (record { item = item; choices = []; reply = reply; behind = behind; writes = [] }) all t) →
    Comes word standing item known (answer_unless limits reply behind)
answer_comes_by word standing item known reply behind true is so = record {
  usual = tt;
  once = tt;
  over = λ all t sound agrees.
      let does = so all t sound agrees in
      let meant = usual word standing item [] t reply does.then behind does.does in
      let bad : ⊥ = cc (is, meant) in absurd bad;
}
answer_comes_by word standing item known reply behind false is so = record { usual = is; once = tt; over = so }

pub answer_comes : (word : List ℕ) (standing : Standing) (item : Uttered) (known : Knowledge) (reply : Reply) (behind : Standing) →
    ((all : Lines) (t : Tables) → IsSoundWith all t → Agrees known all → DoesSo IsSoundWith word standing (record { item = item; choices = []; reply = reply; behind = behind; writes = [] }) all t) →
    Comes word standing item known (answer_of reply behind)
answer_comes word standing item known reply behind so = answer_comes_by word standing item known reply behind (is_refusal_of_means reply) refl so

-- where memory may have failed
pub answer_by_comes : (word : List ℕ) (standing : Standing) (item : Uttered) (known : Knowledge) (reply : Result Reply NoMemory) (behind : Result Standing NoMemory) →
    ((r : Reply) (b : Standing) → reply ≡ Ok r → behind ≡ Ok b → Comes word standing item known (answer_of r b)) → Comes word standing item known (answer_by reply behind)
answer_by_comes word standing item known (Ok r) (Ok b) so = so r b refl refl
answer_by_comes word standing item known (Ok r) (Err failed) so = record { usual = tt; once = tt; over = λ all t sound agrees. tt }
answer_by_comes word standing item known (Err failed) behind so = record { usual = tt; once = tt; over = λ all t sound agrees. tt }

-- ---- what an answer asks for

answer_unless_asks : (standing : Standing) (item : Uttered) (t : Tables) (limits : Bool) (reply : Reply) (behind : Standing) → AsksIn standing item (answer_unless limits reply behind) t
answer_unless_asks standing item t true reply behind = tt
answer_unless_asks standing item t false reply behind = tt

pub answer_asks : (standing : Standing) (item : Uttered) (t : Tables) (reply : Result Reply NoMemory) (behind : Result Standing NoMemory) → AsksIn standing item (answer_by reply behind) t
answer_asks standing item t (Ok r) (Ok b) = answer_unless_asks standing item t (is_refusal_of_means r) r b
answer_asks standing item t (Ok r) (Err failed) = tt
answer_asks standing item t (Err failed) behind = tt

answer_unless_stays : (read changed : List ℕ) (limits : Bool) (reply : Reply) (behind : Standing) → FoundIn read changed (answer_unless limits reply behind)
answer_unless_stays read changed true reply behind = tt
answer_unless_stays read changed false reply behind = tt

-- it reads and writes nothing
pub answer_stays : (read changed : List ℕ) (reply : Result Reply NoMemory) (behind : Result Standing NoMemory) → FoundIn read changed (answer_by reply behind)
answer_stays read changed (Ok r) (Ok b) = answer_unless_stays read changed (is_refusal_of_means r) r b
answer_stays read changed (Ok r) (Err failed) = tt
answer_stays read changed (Err failed) behind = tt

answer_unless_names : (limits : Bool) (reply : Reply) (behind : Standing) → NamesNoNeed (answer_unless limits reply behind)
answer_unless_names true reply behind = tt
answer_unless_names false reply behind = tt

pub answer_names : (reply : Result Reply NoMemory) (behind : Result Standing NoMemory) → NamesNoNeed (answer_by reply behind)
answer_names (Ok r) (Ok b) = answer_unless_names (is_refusal_of_means r) r b
answer_names (Ok r) (Err failed) = tt
answer_names (Err failed) behind = tt

-- ---- what comes first

unless_some : (o later : Refusal) (t : Tables) (standing : Standing) (next : Meaning) (reply : Reply) → o ≡ Some reply → unless (or_else o later) t standing [] next ≡ means reply t standing []
unless_some o later t standing next reply is = ap (λ p. unless (or_else p later) t standing [] next) is

unless_act : (retrieves : Bool) (needs later : Refusal) (t : Tables) (standing : Standing) (next : Standing → Meaning) (reply : Reply) → cond retrieves None needs ≡ Some reply →
    unless (or_else (cond retrieves None needs) later) t (cond retrieves (after_retrieval standing) standing) [] (next (cond retrieves (after_retrieval standing) standing)) ≡ means reply t standing []
unless_act true needs later t standing next reply is = let bad : ⊥ = cc in absurd bad
unless_act false needs later t standing next reply is = ap (λ p. unless (or_else p later) t standing [] (next standing)) is

-- what the transaction that is open refuses is the meaning, whatever the tables
pub refused_first : (word : List ℕ) (standing : Standing) (item : Uttered) (reply : Reply) (t : Tables) → first_refusal standing item ≡ Some reply → Does word standing item [] t reply t standing
refused_first word standing (syntax_fault line column) reply t is = let same : r.Syntax line column ≡ reply = cc in ap (λ x. means x t standing []) same
refused_first word standing (said (perform a)) reply t is =
    unless_act (is_retrieval a) (needs_read_write standing) (act_later_refusal a standing t) t standing (λ behind. after_running (done a t [] (world t [] [])) t behind []) reply is
refused_first word standing (said (invoke words)) reply t is = let bad : ⊥ = cc in absurd bad
refused_first word standing (said start_read_only) reply t is = unless_some (needs_closed standing) None t standing _ reply is
refused_first word standing (said (start_read_write wait rs)) reply t is = unless_some (needs_closed standing) (reserved_names [] rs t) t standing _ reply is
refused_first word standing (said commit) reply t is = unless_some (needs_open standing) None t standing _ reply is
refused_first word standing (said rollback) reply t is = unless_some (needs_open standing) None t standing _ reply is
refused_first word standing (said finish) reply t is = unless_some (needs_closed standing) None t standing _ reply is
refused_first word standing (said (back_up n)) reply t is = unless_some (needs_closed standing) None t standing _ reply is
refused_first word standing (said (define_field n type)) reply t is = unless_some (needs_read_write standing) (field_names n t) t standing _ reply is
refused_first word standing (said (define_relation n fs)) reply t is = unless_some (needs_read_write standing) (relation_names n fs t) t standing _ reply is
refused_first word standing (said (define_index d)) reply t is = unless_some (needs_read_write standing) (later_refusal word (define_index d) standing t) t standing _ reply is
refused_first word standing (said (delete_relation n)) reply t is = unless_some (needs_read_write standing) (later_refusal word (delete_relation n) standing t) t standing _ reply is
refused_first word standing (said (delete_index n)) reply t is = unless_some (needs_read_write standing) (later_refusal word (delete_index n) standing t) t standing _ reply is

-- so it is answered
pub refused_comes : (word : List ℕ) (standing : Standing) (item : Uttered) (known : Knowledge) (reply : Reply) (copied : Result Standing NoMemory) → first_refusal standing item ≡ Some reply → IfOk copied (λ b. b ≡ standing) →
    Comes word standing item known (answer_by (Ok reply) copied)
refused_comes word standing item known reply (Ok b) refuses same =
    subst (λ (s : Standing). Comes word standing item known (answer_of reply s)) (sym same)
    (answer_comes word standing item known reply standing (λ all t sound agrees. record { then = t; does = refused_first word standing item reply t refuses; stands = sound }))
refused_comes word standing item known reply (Err failed) refuses same = record { usual = tt; once = tt; over = λ all t sound agrees. tt }

-- ---- what a check refuses

pub unchecked_comes : (word : List ℕ) (standing : Standing) (item : Uttered) (known : Knowledge) (why : CheckStop) (f : Found) → IsUnchecked why standing f → ((reply : Reply) → why ≡ check.Refused reply → Comes word standing item known (answer_of reply standing)) → Comes word standing item known f
unchecked_comes word standing item known (check.Refused reply) f (inl is) so = subst (λ (x : Found). Comes word standing item known x) (sym is) (so reply refl)
unchecked_comes word standing item known (check.Refused reply) f (inr is) so = says_nothing word standing item known f is
unchecked_comes word standing item known check.Memory f is so = says_nothing word standing item known f is

pub unchecked_asks : (standing : Standing) (item : Uttered) (t : Tables) (behind : Standing) (why : CheckStop) (f : Found) → IsUnchecked why behind f → AsksIn standing item f t
unchecked_asks standing item t behind (check.Refused reply) f (inl is) = subst (λ (x : Found). AsksIn standing item x t) (sym is) (answer_unless_asks standing item t (is_refusal_of_means reply) reply behind)
unchecked_asks standing item t behind (check.Refused reply) f (inr is) = subst (λ (x : Found). AsksIn standing item x t) (sym is) tt
unchecked_asks standing item t behind check.Memory f is = subst (λ (x : Found). AsksIn standing item x t) (sym is) tt

pub finds_refused : (why : CheckStop) (o : Refusal) (reply : Reply) → Finds {A = Unit {0}} (Err why) o → why ≡ check.Refused reply → o ≡ Some reply
finds_refused why o reply finds is = subst (λ (w : CheckStop). Finds {A = Unit {0}} (Err w) o) is finds
