-- What a change means with these Dbkeys.
use Rattle.std.proofs.Common.{◌≡◌, ℕ, Bool, true, false, List, [], ◌∷◌, ◌++◌, subst, Some, None, refl, sym, ap, ◌∙◌}
use Rattle.std.specs.Prelude.{◌||◌, ◌&&◌, if◌then◌else◌, nat_lt}
use Rattle.std.proofs.lemmas.Bool.{false≢true, and_from, or_right}
use Rattle.std.proofs.lemmas.List.{append-nil}
use Rattle.std.proofs.lemmas.Option.{none-some, same_Some}
use Rattle.rdb_types.specs.declared.keys.Dbkey.{Dbkey}
use Rattle.rdo_ast.specs.declared.reply.Reply.{Reply}
use Rattle.rdo_ast.specs.declared.reply.Reply.TheVariants as r
use Rattle.rdo_ast.specs.declared.reply.Standing.{Standing}
use Rattle.rdo_ast.specs.declared.syntax.IndexDefinition.{IndexDefinition}
use Rattle.rdo_ast.specs.Tree.{Name, Act, Command, invoke, start_read_only, start_read_write, commit, rollback, finish, back_up, perform, define_field, define_relation, define_index, delete_relation, delete_index, said}
use Rattle.rdb_meaning.specs.declared.tables.Tables.{Tables}
use Rattle.rdb_meaning.specs.Contents.{relation_named, fields_of, rows_of}
use Rattle.rdb_meaning.specs.Defining.{index_names, longest_key, positions_of, keys_repeat, index_refusal}
use Rattle.rdb_meaning.specs.Checks.{Refusal, or_else, use_of, reservation_refusal}
use Rattle.rdb_meaning.specs.Execution.{Ran, ran, refused, done, world}
use Rattle.rdb_meaning.specs.Meaning.{Meaning, meaning, doing, unless, after_running, standing_for, standing_after, act_refusal, needs_read_write, reservations_of, command_refusal, after}
use Rattle.rdb_account.specs.Places.{is_done}
use Rattle.rdb_account.specs.Lawful.{Replaces, is_change, is_refused_in_work, reply_of}
use Rattle.reached_changes.specs.Before.{refusal_before}
use Rattle.reached_changes.proofs.Runs.{Ends, runs, stops, act-ends}

unrefused : (o : Refusal) (t : Tables) (standing : Standing) (ks : List Dbkey) (next : Meaning) → o ≡ None → unless o t standing ks next ≡ next
unrefused o t standing ks next none = ap (λ (x : Refusal). unless x t standing ks next) none

last : (a b c x : Refusal) → or_else a (or_else b c) ≡ None → or_else a (or_else b (or_else c x)) ≡ x
last (Some reply) b c x none = absurd (none-some reply (sym none))
last None (Some reply) c x none = absurd (none-some reply (sym none))
last None None (Some reply) x none = absurd (none-some reply (sym none))
last None None None x none = refl

either-work : (long repeats : Bool) (name : Name) (reply : Reply) → (if long then Some r.TooLong else (if repeats then Some (r.Duplicate name) else None)) ≡ Some reply → is_refused_in_work reply ≡ true
either-work true repeats name reply is = subst (λ (x : Reply). is_refused_in_work x ≡ true) (same_Some r.TooLong reply is) refl
either-work false true name reply is = subst (λ (x : Reply). is_refused_in_work x ≡ true) (same_Some (r.Duplicate name) reply is) refl
either-work false false name reply is = absurd (none-some reply is)

keys-work : (d : IndexDefinition) (t : Tables) (reply : Reply) → index_refusal d t ≡ Some reply → is_refused_in_work reply ≡ true
keys-work d t reply is =
    either-work (nat_lt 120 (longest_key d.fields (fields_of (relation_named d.relation t)))) (d.unique && keys_repeat (positions_of d.fields (fields_of (relation_named d.relation t))) (rows_of (relation_named d.relation t))) d.name reply is

act-reached : (word : List ℕ) (standing : Standing) (t : Tables) (a : Act) (limit : ℕ) → act_refusal a standing t ≡ None → is_change (said (perform a)) ≡ true → Replaces word standing t (said (perform a)) (r.AreaFull limit)
act-reached word standing t a limit none changes = by (act-ends a t [] t [])
  where
    meant : (ks : List Dbkey) (x : Ran) → done a t [] (world t (ks ++ []) []) ≡ x → reply_of (meaning word standing (said (perform a)) ks t) ≡ reply_of (after_running x t (standing_for a standing) ks)
    meant ks x is =
        ap reply_of (unrefused (act_refusal a standing t) t (standing_for a standing) ks (after_running (done a t [] (world t ks [])) t (standing_for a standing) ks) none)
        ∙ ap (λ y. reply_of (after_running y t (standing_for a standing) ks)) (ap (λ l. done a t [] (world t l [])) (sym (append-nil ks)) ∙ is)

    by : Ends (λ ks. done a t [] (world t ks [])) → Replaces word standing t (said (perform a)) (r.AreaFull limit)
    by (runs ks u lines h) = record { choices = ks; due = r.Done lines; meant = meant ks (ran (world u [] lines)) (h []); allowed = and_from (is_change (said (perform a))) true changes refl }
    by (stops ks reply work h) = record {
      choices = ks;
      due = reply;
      meant = meant ks (refused reply []) (h []);
      allowed = and_from (is_change (said (perform a))) (is_done reply || is_refused_in_work reply) changes (or_right (is_done reply) (is_refused_in_work reply) work);
    }

does-reach : (o : Refusal) (t u : Tables) (standing behind : Standing) → o ≡ None → reply_of (unless o t standing [] (doing u behind [])) ≡ Some (r.Done [])
does-reach o t u standing behind none = ap reply_of (unrefused o t standing [] (doing u behind []) none)

-- it is told by the keys of an index whether it is made
index-reached : (word : List ℕ) (standing : Standing) (t : Tables) (d : IndexDefinition) (limit : ℕ) → refusal_before word (define_index d) standing t ≡ None → Replaces word standing t (said (define_index d)) (r.AreaFull limit)
index-reached word standing t d limit none = by (index_refusal d t) refl
  where
    meant : (x : Refusal) → index_refusal d t ≡ x → reply_of (meaning word standing (said (define_index d)) [] t) ≡ reply_of (unless x t standing [] (doing (after (define_index d) t) (standing_after (define_index d) standing) []))
    meant x is = ap (λ y. reply_of (unless y t standing [] (doing (after (define_index d) t) (standing_after (define_index d) standing) []))) (last (needs_read_write standing) (index_names d t) (reservation_refusal (reservations_of standing) (use_of true d.relation ∷ [])) (index_refusal d t) none ∙ is)

    by : (x : Refusal) → index_refusal d t ≡ x → Replaces word standing t (said (define_index d)) (r.AreaFull limit)
    by None is = record { choices = []; due = r.Done []; meant = meant None is; allowed = refl }
    by (Some reply) is = record { choices = []; due = reply; meant = meant (Some reply) is; allowed = or_right (is_done reply) (is_refused_in_work reply) (keys-work d t reply is) }

pub reached : (word : List ℕ) (standing : Standing) (t : Tables) (c : Command) (limit : ℕ) → refusal_before word c standing t ≡ None → is_change (said c) ≡ true → Replaces word standing t (said c) (r.AreaFull limit)
reached word standing t (perform a) limit none changes = act-reached word standing t a limit none changes
reached word standing t (define_field n type) limit none changes = record { choices = []; due = r.Done []; meant = does-reach (command_refusal word (define_field n type) standing t) t (after (define_field n type) t) standing (standing_after (define_field n type) standing) none; allowed = refl }
reached word standing t (define_relation n fs) limit none changes = record { choices = []; due = r.Done []; meant = does-reach (command_refusal word (define_relation n fs) standing t) t (after (define_relation n fs) t) standing (standing_after (define_relation n fs) standing) none; allowed = refl }
reached word standing t (define_index d) limit none changes = index-reached word standing t d limit none
reached word standing t (delete_relation n) limit none changes = record { choices = []; due = r.Done []; meant = does-reach (command_refusal word (delete_relation n) standing t) t (after (delete_relation n) t) standing (standing_after (delete_relation n) standing) none; allowed = refl }
reached word standing t (delete_index n) limit none changes = record { choices = []; due = r.Done []; meant = does-reach (command_refusal word (delete_index n) standing t) t (after (delete_index n) t) standing (standing_after (delete_index n) standing) none; allowed = refl }
reached word standing t (invoke text) limit none changes = absurd (false≢true changes)
reached word standing t start_read_only limit none changes = absurd (false≢true changes)
reached word standing t (start_read_write wait rs) limit none changes = absurd (false≢true changes)
reached word standing t commit limit none changes = absurd (false≢true changes)
reached word standing t rollback limit none changes = absurd (false≢true changes)
reached word standing t finish limit none changes = absurd (false≢true changes)
reached word standing t (back_up n) limit none changes = absurd (false≢true changes)
