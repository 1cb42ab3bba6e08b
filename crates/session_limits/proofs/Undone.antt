-- An item whose reply isn't done leaves the tables as they are.
use Rattle.std.proofs.Common.{◌≡◌, ℕ, [], false, List, refl, sym, subst, Some, None}
use Rattle.std.proofs.lemmas.Bool.{false≢true}
use Rattle.rdb_types.specs.declared.keys.Dbkey.{Dbkey}
use Rattle.rdo_ast.specs.declared.reply.Standing.{Standing}
use Rattle.rdo_ast.specs.Tree.{Uttered, said, syntax_fault, invoke, start_read_only, start_read_write, commit, rollback, finish, back_up, perform, define_field, define_relation, define_index, delete_relation, delete_index}
use Rattle.rdb_meaning.specs.declared.tables.Tables.{Tables}
use Rattle.rdb_meaning.specs.Checks.{Refusal}
use Rattle.rdb_meaning.specs.Execution.{Ran, ran, refused, astray, done, world}
use Rattle.rdb_meaning.specs.Meaning.{Meaning, means, meaningless, meaning, doing, unless, after_running, standing_for, standing_after, act_refusal, command_refusal, after}
use Rattle.rdb_account.specs.Places.{is_done}
use Rattle.line_view.specs.Knowledge.{Knowledge}
use Rattle.session_jobs.specs.Records.{Model, Worked, IsRight}

abbrev Leaves : Tables → Meaning → Type 0
Leaves t (means reply u standing ks) = is_done reply ≡ false → u ≡ t
Leaves t meaningless = Unit {0}

unless-leaves : (refusal : Refusal) (t : Tables) (standing : Standing) (ks : List Dbkey) (next : Meaning) → Leaves t next → Leaves t (unless refusal t standing ks next)
unless-leaves (Some reply) t standing ks next h = λ e. refl
unless-leaves None t standing ks next h = h

does-leave : (refusal : Refusal) (t u : Tables) (standing behind : Standing) (ks : List Dbkey) → Leaves t (unless refusal t standing ks (doing u behind ks))
does-leave refusal t u standing behind ks = unless-leaves refusal t standing ks (doing u behind ks) (λ e. absurd (false≢true (sym e)))

run-leaves : (r : Ran) (t : Tables) (standing : Standing) (ks : List Dbkey) → Leaves t (after_running r t standing ks)
run-leaves (ran w) t standing ks = λ e. absurd (false≢true (sym e))
run-leaves (refused reply left) t standing ks = λ e. refl
run-leaves astray t standing ks = tt

undone-leaves : (word : List ℕ) (standing : Standing) (item : Uttered) (ks : List Dbkey) (t : Tables) → Leaves t (meaning word standing item ks t)
undone-leaves word standing (syntax_fault line column) ks t = λ e. refl
undone-leaves word standing (said (invoke text)) ks t = does-leave (command_refusal word (invoke text) standing t) t (after (invoke text) t) standing (standing_after (invoke text) standing) ks
undone-leaves word standing (said start_read_only) ks t = does-leave (command_refusal word start_read_only standing t) t (after start_read_only t) standing (standing_after start_read_only standing) ks
undone-leaves word standing (said (start_read_write wait rs)) ks t = does-leave (command_refusal word (start_read_write wait rs) standing t) t (after (start_read_write wait rs) t) standing (standing_after (start_read_write wait rs) standing) ks
undone-leaves word standing (said commit) ks t = does-leave (command_refusal word commit standing t) t (after commit t) standing (standing_after commit standing) ks
undone-leaves word standing (said rollback) ks t = does-leave (command_refusal word rollback standing t) t (after rollback t) standing (standing_after rollback standing) ks
undone-leaves word standing (said (back_up n)) ks t = does-leave (command_refusal word (back_up n) standing t) t (after (back_up n) t) standing (standing_after (back_up n) standing) ks
undone-leaves word standing (said finish) ks t = does-leave (command_refusal word finish standing t) t (after finish t) standing (standing_after finish standing) ks
undone-leaves word standing (said (perform a)) ks t =
    unless-leaves (act_refusal a standing t) t (standing_for a standing) ks (after_running (done a t [] (world t ks [])) t (standing_for a standing) ks) (run-leaves (done a t [] (world t ks [])) t (standing_for a standing) ks)
undone-leaves word standing (said (define_field n type)) ks t = does-leave (command_refusal word (define_field n type) standing t) t (after (define_field n type) t) standing (standing_after (define_field n type) standing) ks
undone-leaves word standing (said (define_relation n fs)) ks t = does-leave (command_refusal word (define_relation n fs) standing t) t (after (define_relation n fs) t) standing (standing_after (define_relation n fs) standing) ks
undone-leaves word standing (said (define_index d)) ks t = does-leave (command_refusal word (define_index d) standing t) t (after (define_index d) t) standing (standing_after (define_index d) standing) ks
undone-leaves word standing (said (delete_relation n)) ks t = does-leave (command_refusal word (delete_relation n) standing t) t (after (delete_relation n) t) standing (standing_after (delete_relation n) standing) ks
undone-leaves word standing (said (delete_index n)) ks t = does-leave (command_refusal word (delete_index n) standing t) t (after (delete_index n) t) standing (standing_after (delete_index n) standing) ks

-- the same record without its writes
abbrev pub unwritten : Worked → Worked
unwritten r = record { item = r.item; choices = r.choices; reply = r.reply; behind = r.behind; writes = [] }

-- So a record whose reply isn't done is right without its writes too.
pub right-unwritten : (M : Model) (word : List ℕ) (before : Standing) (known : Knowledge) (r : Worked) → is_done r.reply ≡ false → IsRight M word before known r → IsRight M word before known (unwritten r)
right-unwritten M word before known r undone right = record {
  usual = right.usual;
  does = λ all t m agrees.
      let d = right.does all t m agrees in
      let same : d.then ≡ t = subst (Leaves t) d.does (undone-leaves word before r.item r.choices t) undone in
      record { then = d.then; does = d.does; stands = subst (λ (u : Tables). M all u) (sym same) m };
}
