-- What an account opens with, where scripts are said to a database.
use Rattle.std.proofs.Common.{◌≡◌, ℕ, List, Option, subst}
use Rattle.rdb_outside.specs.Disk.{View}
use Rattle.rdb_account.specs.Events.{Event}
use Rattle.rdb_account.specs.Places.{Opening}
use Rattle.session_jobs.specs.Records.{Model}
use Rattle.session_states.specs.declared.item_queue.WholeScript.{WholeScript}
use Rattle.workload_runs.specs.line_runs.Backups.{HoldsBackups, LeavesBackups}
use Rattle.workload_runs.specs.line_runs.Openings.{OpensWith, said_to}
use Rattle.workload_runs.specs.line_runs.Prefix.{HoldsAll, HoldsPrefix}
use Rattle.command_words.specs.declared.deaths.Death.{Death}
use Rattle.command_words.specs.declared.words.Scripts.{Scripts}
use Rattle.rdb_top.specs.Deaths.{letting}
use Rattle.rdb_top.specs.Runs.{scripts_of}

-- Neither the word nor the scripts are of the disk, nor who may die.
pub opens : (M : Model) (v : View) (death : Option Death) (o : Opening) (word : List ℕ) (scripts : List WholeScript) → OpensWith M v o → OpensWith M v (said_to (letting death o) word scripts)
opens M v death o word scripts h = record {
  tells = h.tells;
  classes = h.classes;
  lines = h.lines;
  journal = h.journal;
  kept = h.kept;
  by_area = h.by_area;
  lie = h.lie;
  stands = h.stands;
  opens = record { root = h.opens.root; is = h.opens.is; limits = h.opens.limits; owners = h.opens.owners; slots = h.opens.slots; past = h.opens.past };
}

-- ---- what a crash leaves, by other names

module _ (M : Model) (v : View) (o : Opening) (events : List Event) where
  pub prefix-of-word : (death : Option Death) (u w : List ℕ) (scripts : List WholeScript) → u ≡ w → HoldsPrefix M (said_to (letting death o) u scripts) v events → HoldsPrefix M (said_to (letting death o) w scripts) v events
  prefix-of-word death u w scripts e h = subst (λ (x : List ℕ). HoldsPrefix M (said_to (letting death o) x scripts) v events) e h

  pub backups-of-word : (death : Option Death) (u w : List ℕ) (scripts : List WholeScript) → u ≡ w → HoldsBackups M (said_to (letting death o) u scripts) v events → HoldsBackups M (said_to (letting death o) w scripts) v events
  backups-of-word death u w scripts e h = subst (λ (x : List ℕ). HoldsBackups M (said_to (letting death o) x scripts) v events) e h

  pub all-of-word : (death : Option Death) (u w : List ℕ) (scripts : List WholeScript) → u ≡ w → HoldsAll M (said_to (letting death o) u scripts) v events → HoldsAll M (said_to (letting death o) w scripts) v events
  all-of-word death u w scripts e h = subst (λ (x : List ℕ). HoldsAll M (said_to (letting death o) x scripts) v events) e h

  pub prefix-of-scripts : (death : Option Death) (word : List ℕ) (a b : List WholeScript) → a ≡ b → HoldsPrefix M (said_to (letting death o) word a) v events → HoldsPrefix M (said_to (letting death o) word b) v events
  prefix-of-scripts death word a b e h = subst (λ (x : List WholeScript). HoldsPrefix M (said_to (letting death o) word x) v events) e h

  pub backups-of-scripts : (death : Option Death) (word : List ℕ) (a b : List WholeScript) → a ≡ b → HoldsBackups M (said_to (letting death o) word a) v events → HoldsBackups M (said_to (letting death o) word b) v events
  backups-of-scripts death word a b e h = subst (λ (x : List WholeScript). HoldsBackups M (said_to (letting death o) word x) v events) e h

  pub all-of-scripts : (death : Option Death) (word : List ℕ) (a b : List WholeScript) → a ≡ b → HoldsAll M (said_to (letting death o) word a) v events → HoldsAll M (said_to (letting death o) word b) v events
  all-of-scripts death word a b e h = subst (λ (x : List WholeScript). HoldsAll M (said_to (letting death o) word x) v events) e h

  pub prefix-of-given : (word : List ℕ) (left : ℕ → List ℕ) (m n : Scripts) → m ≡ n → HoldsPrefix M (said_to (letting m.death o) word (scripts_of left m.count)) v events → HoldsPrefix M (said_to (letting n.death o) word (scripts_of left n.count)) v events
  prefix-of-given word left m n e h = subst (λ (x : Scripts). HoldsPrefix M (said_to (letting x.death o) word (scripts_of left x.count)) v events) e h

  pub backups-of-given : (word : List ℕ) (left : ℕ → List ℕ) (m n : Scripts) → m ≡ n → HoldsBackups M (said_to (letting m.death o) word (scripts_of left m.count)) v events → HoldsBackups M (said_to (letting n.death o) word (scripts_of left n.count)) v events
  backups-of-given word left m n e h = subst (λ (x : Scripts). HoldsBackups M (said_to (letting x.death o) word (scripts_of left x.count)) v events) e h

  pub all-of-given : (word : List ℕ) (left : ℕ → List ℕ) (m n : Scripts) → m ≡ n → HoldsAll M (said_to (letting m.death o) word (scripts_of left m.count)) v events → HoldsAll M (said_to (letting n.death o) word (scripts_of left n.count)) v events
  all-of-given word left m n e h = subst (λ (x : Scripts). HoldsAll M (said_to (letting x.death o) word (scripts_of left x.count)) v events) e h

module _ (before behind : View) (o : Opening) (events : List Event) where
  pub before-of-word : (death : Option Death) (u w : List ℕ) (scripts : List WholeScript) → u ≡ w → LeavesBackups (said_to (letting death o) u scripts) before behind events → LeavesBackups (said_to (letting death o) w scripts) before behind events
  before-of-word death u w scripts e h = subst (λ (x : List ℕ). LeavesBackups (said_to (letting death o) x scripts) before behind events) e h

  pub before-of-scripts : (death : Option Death) (word : List ℕ) (a b : List WholeScript) → a ≡ b → LeavesBackups (said_to (letting death o) word a) before behind events → LeavesBackups (said_to (letting death o) word b) before behind events
  before-of-scripts death word a b e h = subst (λ (x : List WholeScript). LeavesBackups (said_to (letting death o) word x) before behind events) e h

  pub before-of-given : (word : List ℕ) (left : ℕ → List ℕ) (m n : Scripts) → m ≡ n → LeavesBackups (said_to (letting m.death o) word (scripts_of left m.count)) before behind events → LeavesBackups (said_to (letting n.death o) word (scripts_of left n.count)) before behind events
  before-of-given word left m n e h = subst (λ (x : Scripts). LeavesBackups (said_to (letting x.death o) word (scripts_of left x.count)) before behind events) e h
