-- An item that begins no transaction, said outside one, means the same over all tables.
use Rattle.std.proofs.Common.{◌≡◌, ℕ, Bool, true, false, if◌then◌else◌, List, Some, None, refl, sym, ap, subst, ◌∙◌}
use Rattle.std.proofs.lemmas.Option.{none-some}
use Rattle.rdb_types.specs.declared.keys.Dbkey.{Dbkey}
use Rattle.rdo_ast.specs.declared.reply.Reply.{Reply}
use Rattle.rdo_ast.specs.declared.reply.Standing.{Standing}
use Rattle.rdo_ast.specs.declared.reply.Standing.TheVariants.{Closed, ReadOnly}
use Rattle.rdo_ast.specs.Tree.{Act, Uttered, said, syntax_fault, invoke, start_read_only, start_read_write, commit, rollback, finish, back_up, perform, define_field, define_relation, define_index, delete_relation, delete_index}
use Rattle.rdb_meaning.specs.declared.tables.Tables.{Tables}
use Rattle.rdb_meaning.specs.Contents.{no_tables}
use Rattle.rdb_meaning.specs.Checks.{Refusal, is_retrieval}
use Rattle.rdb_meaning.specs.Meaning.{Meaning, means, meaningless, unless, doing, is_word, meaning, Does}
use Rattle.rdb_account.specs.Places.{begins}
use Rattle.line_view.specs.declared.writes.Write.{Write}
use Rattle.line_view.specs.Knowledge.{Knowledge}
use Rattle.line_view.specs.Writes.{laid_all}
use Rattle.session_jobs.specs.declared.jobs.Found.{Found}
use Rattle.session_jobs.specs.declared.jobs.Found.TheVariants as found
use Rattle.session_jobs.specs.Jobs.{IsFound, AreAsked, NamesNoNeed}
use Rattle.sound_maps.specs.Maps.{IsSoundWith}
use Rattle.whole_statements.specs.Sound.{DoneOn}
use Rattle.whole_statements.specs.Ways.{IsUnread}

abbrev with_tables : Tables → Meaning → Meaning
with_tables u (means reply t standing choices) = means reply u standing choices
with_tables u meaningless = meaningless

same-unless : (refusal : Refusal) (t u : Tables) (standing : Standing) (choices : List Dbkey) →
    unless refusal u standing choices (doing u standing choices) ≡ with_tables u (unless refusal t standing choices (doing t standing choices))
same-unless (Some reply) t u standing choices = refl
same-unless None t u standing choices = refl

same-act : (word : List ℕ) (a : Act) (choices : List Dbkey) (t u : Tables) (b : Bool) → is_retrieval a ≡ b → begins (said (perform a)) ≡ None →
    meaning word Closed (said (perform a)) choices u ≡ with_tables u (meaning word Closed (said (perform a)) choices t)
same-act word a choices t u true is none =
    absurd (none-some ReadOnly (sym none ∙ ap (λ (b : Bool). if b then Some ReadOnly else None) is))
same-act word a choices t u false is none = rw is refl

same-meaning : (word : List ℕ) (item : Uttered) (choices : List Dbkey) (t u : Tables) → begins item ≡ None →
    meaning word Closed item choices u ≡ with_tables u (meaning word Closed item choices t)
same-meaning word (syntax_fault line column) choices t u none = refl
same-meaning word (said (invoke text)) choices t u none = same-unless (is_word word text) t u Closed choices
same-meaning word (said start_read_only) choices t u none = absurd (none-some _ (sym none))
same-meaning word (said (start_read_write wait rs)) choices t u none = absurd (none-some _ (sym none))
same-meaning word (said commit) choices t u none = refl
same-meaning word (said rollback) choices t u none = refl
same-meaning word (said finish) choices t u none = refl
same-meaning word (said (back_up n)) choices t u none = refl
same-meaning word (said (perform a)) choices t u none = same-act word a choices t u (is_retrieval a) refl none
same-meaning word (said (define_field n type)) choices t u none = refl
same-meaning word (said (define_relation n fs)) choices t u none = refl
same-meaning word (said (define_index d)) choices t u none = refl
same-meaning word (said (delete_relation n)) choices t u none = refl
same-meaning word (said (delete_index n)) choices t u none = refl

does-too : (word : List ℕ) (item : Uttered) (choices : List Dbkey) (t u : Tables) (reply : Reply) (behind : Standing) → begins item ≡ None →
    Does word Closed item choices t reply t behind → Does word Closed item choices u reply u behind
does-too word item choices t u reply behind none does = same-meaning word item choices t u none ∙ ap (with_tables u) does

unread-closed : (word : List ℕ) (item : Uttered) (known : Knowledge) (f : Found) → begins item ≡ None → DoneOn word Closed item no_tables f → IsFound IsSoundWith word Closed item known f
unread-closed word item known (found.Done r) none h = record {
  right = record {
    usual = h.1;
    does = λ all t is agrees. record {
      then = t;
      does = does-too word item r.choices no_tables t r.reply r.standing none h.0;
      stands = subst (λ (ws : List Write). IsSoundWith (laid_all ws all) t) (sym h.2) is;
    };
  };
  asked = λ all t is agrees. subst (λ (ws : List Write). AreAsked Closed item ws t) (sym h.2) tt;
}
unread-closed word item known (found.Missing next later) none h = absurd h
unread-closed word item known (found.Bad key) none h = absurd h
unread-closed word item known found.Unworked none h = tt
unread-closed word item known found.NoMemory none h = tt

pub unread : (word : List ℕ) (standing : Standing) (item : Uttered) (known : Knowledge) (t : Tables) (f : Found) → IsUnread standing item → t ≡ no_tables → DoneOn word standing item t f → IsFound IsSoundWith word standing item known f
unread word standing item known t f is empty h =
    subst (λ (st : Standing). IsFound IsSoundWith word st item known f) (sym is.closed)
    (unread-closed word item known f is.none
    (subst (λ (st : Standing). DoneOn word st item no_tables f) is.closed
    (subst (λ (x : Tables). DoneOn word standing item x f) empty h)))

pub no-need : (word : List ℕ) (standing : Standing) (item : Uttered) (t : Tables) (f : Found) → DoneOn word standing item t f → NamesNoNeed f
no-need word standing item t (found.Done r) h = tt
no-need word standing item t (found.Missing next later) h = absurd h
no-need word standing item t (found.Bad key) h = tt
no-need word standing item t found.Unworked h = tt
no-need word standing item t found.NoMemory h = tt
