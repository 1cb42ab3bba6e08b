-- What a job comes to, by what comes of its definition or its deletion.
use Rattle.std.specs.Prelude.{◌≡◌, ◌⊎◌, true, List, [], Result, Ok, Err}
use Rattle.std.specs.List.{AllByRecursion}
use Rattle.rdo_ast.specs.declared.reply.Reply.{Reply}
use Rattle.rdo_ast.specs.declared.reply.Reply.TheVariants as r
use Rattle.rdo_ast.specs.declared.reply.Standing.{Standing}
use Rattle.rdb_checks.specs.declared.stop.Stop.{Stop as CheckStop}
use Rattle.rdb_checks.specs.declared.stop.Stop.TheVariants as check
use Rattle.line_view.specs.declared.stop.Stop.{Stop}
use Rattle.line_view.specs.declared.stop.Stop.TheVariants as stop
use Rattle.line_view.specs.declared.writes.Write.{Write}
use Rattle.line_view.specs.Knowledge.{Lines}
use Rattle.line_view.specs.Writes.{laid_all}
use Rattle.statement_view.specs.Over.{Over, laid_over, is_written}
use Rattle.deleted_areas.specs.schema_writes.declared.stop.SchemaRefusal.{SchemaRefusal}
use Rattle.deleted_areas.specs.schema_writes.declared.stop.SchemaRefusal.TheVariants.{Refused}
use Rattle.deleted_areas.specs.schema_writes.Stop.{SchemaStop}
use Rattle.session_jobs.specs.declared.jobs.Found.{Found}
use Rattle.session_jobs.specs.declared.jobs.Found.TheVariants.{Done, Missing, Bad, Unworked, NoMemory}
use Rattle.rdo_exec.specs.Answers.{answer_of}

-- the lines that were written over a view are the record's writes
pub record IsMade (view : Over) (standing : Standing) (f : Found) : Type 0 where
  pub writes : List Write
  pub is : f ≡ Done (record { choices = []; reply = r.Done []; standing = standing; writes = writes })
  pub laid : (all : Lines) → laid_all writes all ≡ laid_over view.lines all
  pub written : AllByRecursion (λ w. is_written view.lines w.key ≡ true) writes

-- what isn't refused by the language has no reply
abbrev pub IsUnmade : SchemaRefusal → Standing → Found → Type 0
IsUnmade (Refused reply) standing f = (f ≡ answer_of reply standing) ⊎ (f ≡ NoMemory)
IsUnmade _ standing f = f ≡ Unworked

abbrev pub IsRefused : SchemaStop → Standing → Found → Type 0
IsRefused (stop.Missing need) standing f = f ≡ Missing need []
IsRefused (stop.Bad key) standing f = f ≡ Bad key
IsRefused stop.NoMemory standing f = f ≡ NoMemory
IsRefused (stop.Own refusal) standing f = IsUnmade refusal standing f

abbrev pub IsWritten : Result (Unit {0}) SchemaStop → Over → Standing → Found → Type 0
IsWritten (Ok done) view standing f = IsMade view standing f ⊎ (f ≡ NoMemory)
IsWritten (Err why) view standing f = IsRefused why standing f

-- the end of a deletion, as that of a definition
abbrev pub of_deletion : Result (Unit {0}) (Stop Reply) → Result (Unit {0}) SchemaStop
of_deletion (Ok done) = Ok done
of_deletion (Err (stop.Missing need)) = Err (stop.Missing need)
of_deletion (Err (stop.Bad key)) = Err (stop.Bad key)
of_deletion (Err stop.NoMemory) = Err stop.NoMemory
of_deletion (Err (stop.Own reply)) = Err (stop.Own (Refused reply))

-- what a check refuses
abbrev pub IsUnchecked : CheckStop → Standing → Found → Type 0
IsUnchecked (check.Refused reply) standing f = (f ≡ answer_of reply standing) ⊎ (f ≡ NoMemory)
IsUnchecked check.Memory standing f = f ≡ NoMemory
