-- The same in the words of jobs.
use Rattle.std.proofs.Common.{◌≡◌, ℕ, Bool, true, false, List, [], ◌∷◌, None, refl, sym, subst, ◌∙◌}
use Rattle.std.specs.List.{AllByRecursion}
use Rattle.rdo_ast.specs.declared.reply.Standing.{Standing}
use Rattle.rdo_ast.specs.declared.syntax.IndexDefinition.{IndexDefinition}
use Rattle.rdo_ast.specs.Tree.{Act, Command, said, perform, define_index}
use Rattle.rdb_meaning.specs.declared.tables.Tables.{Tables}
use Rattle.rdb_meaning.specs.Contents.{new_index_area}
use Rattle.rdb_meaning.specs.Checks.{Refusal, Use, use_of, act_uses}
use Rattle.vms_queues.specs.declared.lock_mode.Mode.TheVariants.{EX}
use Rattle.lock_needs.specs.declared.need.Need.{Need as LockNeed}
use Rattle.rdb_account.specs.Lawful.{first_refusal}
use Rattle.rdb_account.specs.AskedFor.{is_on_line_of, uses_ask, definition_asks, command_asks, item_asks}
use Rattle.session_jobs.specs.Asked.{is_definition, is_lock_for, AsksFor}
use Rattle.session_jobs.specs.Jobs.{AreAsked}
use Rattle.line_view.specs.declared.need.Need.{Need}
use Rattle.line_view.specs.declared.writes.Write.{Write}
use Rattle.statement_view.specs.Areas.{is_among, IsNeedOf}
use Rattle.used_areas.specs.Areas.{areas_read, areas_changed}
use Rattle.asked_areas.proofs.Asked.{action_asked, action_written, definition_asked, definition_written, index_asked, index_written}

-- an item that isn't refused asks for what its command asks for
unrefused : (standing : Standing) (c : Command) (t : Tables) (these : LockNeed → Bool) → first_refusal standing (said c) ≡ None → ((lock : LockNeed) → these lock ≡ true → command_asks t lock c ≡ true) → AsksFor standing (said c) t these
unrefused standing c t these none asks = λ takes lock wants. subst (λ (r : Refusal). item_asks r t lock (said c) ≡ true) (sym none) (asks lock wants)

-- each write is of an area on whose lines EX is asked for
all_asked : (standing : Standing) (c : Command) (t : Tables) (areas : List ℕ) (ws : List Write) → first_refusal standing (said c) ≡ None → ((area : ℕ) (lock : LockNeed) → is_among areas area ≡ true → is_on_line_of area EX lock ≡ true → command_asks t lock c ≡ true) →
    AllByRecursion (λ (w : Write). is_among areas (w.key).area ≡ true) ws → AreAsked standing (said c) ws t
all_asked standing c t areas [] none asks each = tt
all_asked standing c t areas (w ∷ ws) none asks each = (unrefused standing c t (is_on_line_of w.key.area EX) none (λ lock wants. asks w.key.area lock each.0 wants), all_asked standing c t areas ws none asks each.1)

-- ---- actions

pub action_asks : (standing : Standing) (a : Act) (t : Tables) (u : Use) (us : List Use) (need : Need) → first_refusal standing (said (perform a)) ≡ None → act_uses a [] ≡ u ∷ us → IsNeedOf (1 ∷ areas_read t (act_uses a [])) (areas_changed t (act_uses a [])) need →
    AsksFor standing (said (perform a)) t (is_lock_for (said (perform a)) need)
action_asks standing a t u us need none uses of =
    unrefused standing (perform a) t (is_lock_for (said (perform a)) need) none
    (λ lock wants.
    subst (λ (vs : List Use). uses_ask t lock vs ≡ true) (sym uses)
    (action_asked (said (perform a)) t u us need lock refl (subst (λ (vs : List Use). IsNeedOf (1 ∷ areas_read t vs) (areas_changed t vs) need) uses of) wants))

pub action_writes : (standing : Standing) (a : Act) (t : Tables) (ws : List Write) → first_refusal standing (said (perform a)) ≡ None → AllByRecursion (λ (w : Write). is_among (areas_changed t (act_uses a [])) (w.key).area ≡ true) ws → AreAsked standing (said (perform a)) ws t
action_writes standing a t ws none each = all_asked standing (perform a) t (areas_changed t (act_uses a [])) ws none (λ area lock among wants. action_written t (act_uses a []) area lock among wants) each

-- ---- definitions and deletions

module _ (standing : Standing) (c : Command) (t : Tables) (us : List Use) where
  pub definition_asks_for : (need : Need) → first_refusal standing (said c) ≡ None → is_definition (said c) ≡ true → ((lock : LockNeed) → command_asks t lock c ≡ definition_asks t lock us) → IsNeedOf (1 ∷ areas_read t us) (1 ∷ areas_changed t us) need →
      AsksFor standing (said c) t (is_lock_for (said c) need)
  definition_asks_for need none is same of = unrefused standing c t (is_lock_for (said c) need) none (λ lock wants. same lock ∙ definition_asked (said c) t us need lock is of wants)

  pub definition_writes : (ws : List Write) → first_refusal standing (said c) ≡ None → ((lock : LockNeed) → command_asks t lock c ≡ definition_asks t lock us) → AllByRecursion (λ (w : Write). is_among (1 ∷ areas_changed t us) (w.key).area ≡ true) ws → AreAsked standing (said c) ws t
  definition_writes ws none same each = all_asked standing c t (1 ∷ areas_changed t us) ws none (λ area lock among wants. same lock ∙ definition_written t us area lock among wants) each

-- ---- a new index

module _ (standing : Standing) (d : IndexDefinition) (t : Tables) where
  pub index_asks : (need : Need) → first_refusal standing (said (define_index d)) ≡ None → IsNeedOf (1 ∷ areas_read t (use_of false d.relation ∷ [])) (new_index_area t ∷ 1 ∷ []) need → AsksFor standing (said (define_index d)) t (is_lock_for (said (define_index d)) need)
  index_asks need none of =
      unrefused standing (define_index d) t (is_lock_for (said (define_index d)) need) none (λ lock wants. index_asked (said (define_index d)) t (use_of false d.relation ∷ []) (new_index_area t) need lock refl of wants)

  pub index_writes : (ws : List Write) → first_refusal standing (said (define_index d)) ≡ None → AllByRecursion (λ (w : Write). is_among (new_index_area t ∷ 1 ∷ []) (w.key).area ≡ true) ws → AreAsked standing (said (define_index d)) ws t
  index_writes ws none each = all_asked standing (define_index d) t (new_index_area t ∷ 1 ∷ []) ws none (λ area lock among wants. index_written t (use_of false d.relation ∷ []) (new_index_area t) area lock among wants) each
