-- What an item comes to that is answered so over all tables.
use Rattle.std.proofs.Common.{ℕ, List, sym, subst}
use Rattle.rdo_ast.specs.declared.reply.Standing.{Standing}
use Rattle.rdo_ast.specs.Tree.{Uttered}
use Rattle.line_view.specs.declared.writes.Write.{Write}
use Rattle.line_view.specs.Knowledge.{Knowledge}
use Rattle.line_view.specs.Writes.{laid_all}
use Rattle.sound_maps.specs.Maps.{IsSoundWith}
use Rattle.session_jobs.specs.declared.jobs.Found.{Found}
use Rattle.session_jobs.specs.declared.jobs.Found.TheVariants as found
use Rattle.session_jobs.specs.Jobs.{NamesNoNeed}
use Rattle.rdo_exec.specs.Answers.{IsAnswered}
use Rattle.rdo_exec.specs.Coming.{Comes}

pub answered_comes : (word : List ℕ) (standing : Standing) (item : Uttered) (known : Knowledge) (f : Found) → IsAnswered word standing item f → Comes word standing item known f
answered_comes word standing item known (found.Done x) h = record {
  usual = h.1;
  once = tt;
  over = λ all t sound agrees. record {
    then = t;
    does = h.0 t;
    stands = subst (λ (ws : List Write). IsSoundWith (laid_all ws all) t) (sym h.2) sound;
  };
}
answered_comes word standing item known (found.Missing next later) h = absurd h
answered_comes word standing item known (found.Bad key) h = absurd h
answered_comes word standing item known found.Unworked h = absurd h
answered_comes word standing item known found.NoMemory h = record { usual = tt; once = tt; over = λ all t sound agrees. tt }

pub answered_reads_nothing : (word : List ℕ) (standing : Standing) (item : Uttered) (f : Found) → IsAnswered word standing item f → NamesNoNeed f
answered_reads_nothing word standing item (found.Done x) h = tt
answered_reads_nothing word standing item (found.Missing next later) h = absurd h
answered_reads_nothing word standing item (found.Bad key) h = tt
answered_reads_nothing word standing item found.Unworked h = absurd h
answered_reads_nothing word standing item found.NoMemory h = tt
