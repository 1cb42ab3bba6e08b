-- What is said outside a transaction and begins none.
use Rattle.std.proofs.Common.{◌≡◌, ℕ, Bool, true, false, cond, List, Option, Some, None, Result, Ok, Err, refl, sym, ap, subst}
use Rattle.std.proofs.lemmas.Option.{same_Some}
use Rattle.rdb_types.specs.declared.memory.NoMemory.{NoMemory}
use Rattle.rdo_ast.specs.declared.reply.Reply.{Reply}
use Rattle.rdo_ast.specs.declared.reply.Reply.TheVariants as r
use Rattle.rdo_ast.specs.declared.reply.Standing.{Standing}
use Rattle.rdo_ast.specs.declared.reply.Standing.TheVariants.{Closed}
use Rattle.rdo_ast.specs.Tree.{Command, Uttered, said, syntax_fault, invoke, start_read_only, start_read_write, commit, rollback, finish, back_up, perform, define_field, define_relation, define_index, delete_relation, delete_index}
use Rattle.rdb_meaning.specs.Checks.{is_retrieval}
use Rattle.rdb_meaning.specs.Meaning.{standing_refusal}
use Rattle.rdb_meaning.specs.Usual.{is_refusal_of_means}
use Rattle.rdb_account.specs.Lawful.{first_refusal}
use Rattle.rdb_account.specs.Places.{begins}
use Rattle.session_jobs.specs.declared.jobs.Found.{Found}
use Rattle.session_jobs.specs.declared.jobs.Found.TheVariants as found
use Rattle.session_jobs.specs.declared.jobs.Job.{Job}
use Rattle.session_jobs.specs.Jobs.{IsOutside, NamesNoNeed}
use Rattle.rdo_ast.specs.Views.{uttered_of}
use Rattle.rdo_exec.specs.Acted.{IsSettled}
use Rattle.rdo_exec.specs.Answers.{IsAnswered, answer_unless, answer_by}
use Rattle.rdo_exec.specs.Ways.{IsUnranged}
use Rattle.rdo_exec.proofs.Viewing.{retrieval_begins}

pub settled_names : (f : Found) → IsSettled f → NamesNoNeed f
settled_names (found.Done x) is = tt
settled_names (found.Missing next later) is = absurd is
settled_names (found.Bad key) is = tt
settled_names found.Unworked is = tt
settled_names found.NoMemory is = tt

pub outside_names : (job : Job) (f : Found) → (job.standing ≡ Closed → begins (uttered_of job.item) ≡ None → IsSettled f) → IsOutside job → NamesNoNeed f
outside_names job f so is = settled_names f (so is.closed is.none)

pub answered_settled : (word : List ℕ) (standing : Standing) (item : Uttered) (f : Found) → IsAnswered word standing item f → IsSettled f
answered_settled word standing item (found.Done x) h = tt
answered_settled word standing item (found.Missing next later) h = h
answered_settled word standing item (found.Bad key) h = h
answered_settled word standing item found.Unworked h = h
answered_settled word standing item found.NoMemory h = tt

-- what no script says is a retrieval, or is refused outside a transaction
pub unranged_begins : (command : Command) → standing_refusal command Closed ≡ None → IsUnranged command → begins (said command) ≡ None → ⊥
unranged_begins (perform a) none way nothing = retrieval_begins (is_retrieval a) none nothing
unranged_begins (define_field n type) none way nothing = way
unranged_begins (define_relation n fs) none way nothing = way
unranged_begins (define_index d) none way nothing = way
unranged_begins (delete_relation n) none way nothing = way
unranged_begins (delete_index n) none way nothing = way
unranged_begins (invoke words) none way nothing = way
unranged_begins start_read_only none way nothing = way
unranged_begins (start_read_write wait rs) none way nothing = way
unranged_begins commit none way nothing = way
unranged_begins rollback none way nothing = way
unranged_begins finish none way nothing = way
unranged_begins (back_up n) none way nothing = way

-- ---- what is refused there

abbrev IsUsual : Reply → Type 0
IsUsual reply = is_refusal_of_means reply ≡ false

no_transaction : (reply : Reply) → Some r.NoTransaction ≡ Some reply → IsUsual reply
no_transaction reply is = subst IsUsual (same_Some r.NoTransaction reply is) refl

unless_retrieval : (b : Bool) (reply : Reply) → cond b None (Some r.NoTransaction) ≡ Some reply → IsUsual reply
unless_retrieval true reply is = let bad : ⊥ = cc in absurd bad
unless_retrieval false reply is = no_transaction reply is

refused_usual : (command : Command) (reply : Reply) → standing_refusal command Closed ≡ Some reply → IsUsual reply
refused_usual (perform a) reply is = unless_retrieval (is_retrieval a) reply is
refused_usual (define_field n type) reply is = no_transaction reply is
refused_usual (define_relation n fs) reply is = no_transaction reply is
refused_usual (define_index d) reply is = no_transaction reply is
refused_usual (delete_relation n) reply is = no_transaction reply is
refused_usual (delete_index n) reply is = no_transaction reply is
refused_usual commit reply is = no_transaction reply is
refused_usual rollback reply is = no_transaction reply is
refused_usual (invoke words) reply is = let bad : ⊥ = cc in absurd bad
refused_usual start_read_only reply is = let bad : ⊥ = cc in absurd bad
refused_usual (start_read_write wait rs) reply is = let bad : ⊥ = cc in absurd bad
refused_usual finish reply is = let bad : ⊥ = cc in absurd bad
refused_usual (back_up n) reply is = let bad : ⊥ = cc in absurd bad

usual_outside : (item : Uttered) (reply : Reply) → first_refusal Closed item ≡ Some reply → IsUsual reply
usual_outside (syntax_fault line column) reply is = subst IsUsual (same_Some (r.Syntax line column) reply is) refl
usual_outside (said command) reply is = refused_usual command reply is

pub refused_settled : (standing : Standing) (item : Uttered) (reply : Reply) (copied : Result Standing NoMemory) → standing ≡ Closed → first_refusal standing item ≡ Some reply → IsSettled (answer_by (Ok reply) copied)
refused_settled standing item reply (Ok b) shut refuses =
    subst (λ (u : Bool). IsSettled (answer_unless u reply b)) (sym (usual_outside item reply (subst (λ (s : Standing). first_refusal s item ≡ Some reply) shut refuses))) tt
refused_settled standing item reply (Err failed) shut refuses = tt
