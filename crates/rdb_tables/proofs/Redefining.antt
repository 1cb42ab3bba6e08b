-- What definitions and deletions mean, by what refuses them.
use Rattle.std.proofs.Common.{◌≡◌, ℕ, true, List, [], Some, None, refl, ap, sym, ◌∙◌}
use Rattle.rdb_types.specs.declared.keys.Dbkey.{Dbkey}
use Rattle.rdo_ast.specs.declared.reply.Reply.{Reply}
use Rattle.rdo_ast.specs.declared.reply.Reply.TheVariants as r
use Rattle.rdo_ast.specs.declared.reply.Standing.{Standing}
use Rattle.rdo_ast.specs.Tree.{Command, invoke, start_read_only, start_read_write, commit, rollback, finish, back_up, perform, define_field, define_relation, define_index, delete_relation, delete_index}
use Rattle.rdb_meaning.specs.declared.tables.Tables.{Tables}
use Rattle.rdb_meaning.specs.Checks.{Refusal}
use Rattle.rdb_meaning.specs.Meaning.{means, command_meaning, unless, doing}
use Rattle.rdb_tables.specs.Redefining.{is_definition, refusal_of, after_of}

definition_means : (word : List ℕ) (c : Command) (s : Standing) (ks : List Dbkey) (t : Tables) → is_definition c ≡ true →
    command_meaning word c s ks t ≡ unless (refusal_of c s t) t s ks (doing (after_of c t) s ks)
definition_means word (define_field n type) s ks t e = refl
definition_means word (define_relation n fs) s ks t e = refl
definition_means word (define_index d) s ks t e = refl
definition_means word (delete_relation n) s ks t e = refl
definition_means word (delete_index n) s ks t e = refl
definition_means word (invoke text) s ks t e = absurd (cc)
definition_means word start_read_only s ks t e = absurd (cc)
definition_means word (start_read_write wait rs) s ks t e = absurd (cc)
definition_means word commit s ks t e = absurd (cc)
definition_means word rollback s ks t e = absurd (cc)
definition_means word finish s ks t e = absurd (cc)
definition_means word (back_up n) s ks t e = absurd (cc)
definition_means word (perform a) s ks t e = absurd (cc)

-- nothing refuses it
pub redefined : (word : List ℕ) (c : Command) (s : Standing) (t t' : Tables) → is_definition c ≡ true → refusal_of c s t ≡ None → t' ≡ after_of c t →
    (ks : List Dbkey) → command_meaning word c s ks t ≡ means (r.Done []) t' s ks
redefined word c s t t' d e f ks =
    definition_means word c s ks t d ∙ ap (λ (o : Refusal). unless o t s ks (doing (after_of c t) s ks)) e ∙ ap (λ (x : Tables). means (r.Done []) x s ks) (sym f)

-- something does
pub refuses : (word : List ℕ) (c : Command) (s : Standing) (t t' : Tables) (reply : Reply) → is_definition c ≡ true → refusal_of c s t ≡ Some reply → t' ≡ t →
    (ks : List Dbkey) → command_meaning word c s ks t ≡ means reply t' s ks
refuses word c s t t' reply d e f ks =
    definition_means word c s ks t d ∙ ap (λ (o : Refusal). unless o t s ks (doing (after_of c t) s ks)) e ∙ ap (λ (x : Tables). means reply x s ks) (sym f)
