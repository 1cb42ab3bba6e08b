-- START_TRANSACTION with reservations, and statements that read nothing.
use Rattle.std.proofs.Common.{◌≡◌, ℕ, Bool, true, false, List, [], ◌∷◌, Some, None, Result, Ok, Err, refl, sym, ap, subst, ◌∙◌, cond}
use Rattle.std.specs.Prelude.{IfOk, ◌||◌}
use Rattle.std.specs.Str.{str_eq_ignore_ascii_case}
use Rattle.rdb_types.specs.declared.memory.NoMemory.{NoMemory}
use Rattle.rdo_ast.specs.declared.reply.Reply.{Reply}
use Rattle.rdo_ast.specs.declared.reply.Reply.TheVariants as r
use Rattle.rdo_ast.specs.declared.reply.Standing.{Standing}
use Rattle.rdo_ast.specs.declared.reply.Standing.TheVariants.{Closed, ReadWrite}
use Rattle.rdo_ast.specs.declared.syntax.Reservation.{Reservation}
use Rattle.rdo_ast.specs.Tree.{Command, Uttered, said, invoke, start_read_write}
use Rattle.rdb_meaning.specs.declared.tables.Tables.{Tables}
use Rattle.rdb_meaning.specs.Checks.{Refusal, or_else}
use Rattle.rdb_meaning.specs.Meaning.{means, unless, doing, needs_closed, is_word, reserved_names, Does}
use Rattle.line_view.specs.Knowledge.{Knowledge, Lines, Agrees}
use Rattle.catalog.specs.declared.reading.Catalog.{Catalog}
use Rattle.view_stages.proofs.Ending.{begins}
use Rattle.sound_maps.specs.Maps.{IsSoundWith}
use Rattle.session_jobs.specs.declared.jobs.Found.{Found}
use Rattle.vms_queues.specs.declared.lock_mode.Mode.TheVariants.{PR, EX}
use Rattle.rdb_account.specs.AskedFor.{area_node, is_need, is_on_catalog}
use Rattle.session_jobs.specs.Asked.{area_mode, AsksFor}
use Rattle.rdo_exec.specs.Answers.{answer_of, answer_by, reply_or_done, IsAnswered}
use Rattle.rdo_exec.specs.Ways.{reserves as has_reservations}
use Rattle.rdo_exec.specs.Coming.{IsCatalogOfKnown, Comes}
use Rattle.rdo_exec.proofs.Answered.{answer_comes}
use Rattle.rdo_exec.proofs.Checked.{reserved_alike}

-- ---- reservations

module _ (word : List ℕ) (c : Catalog) (known : Knowledge) (decodes : IsCatalogOfKnown known c) (wait : Bool) (rs : List Reservation) where
  abbrev item : Uttered
  item = said (start_read_write wait rs)

  same_names : (all : Lines) (t : Tables) → IsSoundWith all t → Agrees known all → reserved_names [] rs t ≡ reserved_names [] rs c.tables
  same_names all t sound agrees = sym (reserved_alike c rs all t (begins known c all t sound.0 agrees (decodes all agrees) sound.1 sound.2))

  pub reserves : reserved_names [] rs c.tables ≡ None → Comes word Closed item known (answer_of (r.Done []) (ReadWrite wait rs))
  reserves free = answer_comes word Closed item known (r.Done []) (ReadWrite wait rs) (λ all t sound agrees. record {
    then = t;
    does = ap (λ o. unless o t Closed [] (doing t (ReadWrite wait rs) [])) (same_names all t sound agrees ∙ free);
    stands = sound;
  })

  pub unreserved : (reply : Reply) → reserved_names [] rs c.tables ≡ Some reply → Comes word Closed item known (answer_of reply Closed)
  unreserved reply refuses = answer_comes word Closed item known reply Closed (λ all t sound agrees. record {
    then = t;
    does = ap (λ o. unless o t Closed [] (doing t (ReadWrite wait rs) [])) (same_names all t sound agrees ∙ refuses);
    stands = sound;
  })

-- ---- INVOKE

invoked_by : (word text : List ℕ) (standing : Standing) (same : Bool) → str_eq_ignore_ascii_case word text ≡ same → IsAnswered word standing (said (invoke text)) (answer_of (reply_or_done (is_word word text)) standing)
invoked_by word text standing true is =
    let it : is_word word text ≡ None = ap (λ (b : Bool). cond b None (Some (r.NoSuch text))) is in
    subst (λ (o : Refusal). IsAnswered word standing (said (invoke text)) (answer_of (reply_or_done o) standing)) (sym it)
    (λ t. ap (λ o. unless o t standing [] (doing t standing [])) it, refl, refl)
invoked_by word text standing false is =
    let it : is_word word text ≡ Some (r.NoSuch text) = ap (λ (b : Bool). cond b None (Some (r.NoSuch text))) is in
    subst (λ (o : Refusal). IsAnswered word standing (said (invoke text)) (answer_of (reply_or_done o) standing)) (sym it)
    (λ t. ap (λ o. unless o t standing [] (doing t standing [])) it, refl, refl)

pub invoked : (word text : List ℕ) (standing : Standing) → IsAnswered word standing (said (invoke text)) (answer_of (reply_or_done (is_word word text)) standing)
invoked word text standing = invoked_by word text standing (str_eq_ignore_ascii_case word text) refl

-- ---- where memory may have failed

pub invoke_answers : (word text : List ℕ) (standing : Standing) (reply : Result Reply NoMemory) (copied : Result Standing NoMemory) → IfOk reply (λ x. x ≡ reply_or_done (is_word word text)) → IfOk copied (λ s. s ≡ standing) →
    IsAnswered word standing (said (invoke text)) (answer_by reply copied)
invoke_answers word text standing (Ok x) (Ok s) is same =
    subst (λ (y : Reply). IsAnswered word standing (said (invoke text)) (answer_of y s)) (sym is)
    (subst (λ (b : Standing). IsAnswered word standing (said (invoke text)) (answer_of (reply_or_done (is_word word text)) b)) (sym same) (invoked word text standing))
invoke_answers word text standing (Ok x) (Err failed) is same = tt
invoke_answers word text standing (Err failed) copied is same = tt

-- it is done, and changes the standing alone
pub done_answers : (word : List ℕ) (standing : Standing) (command : Command) (behind : Standing) (reply : Reply) (f : Found) → f ≡ answer_of reply behind → reply ≡ r.Done [] →
    ((t : Tables) → Does word standing (said command) [] t (r.Done []) t behind) → IsAnswered word standing (said command) f
done_answers word standing command behind reply f is same does =
    subst (λ (x : Found). IsAnswered word standing (said command) x) (sym (is ∙ ap (λ x. answer_of x behind) same)) (does, refl, refl)

-- the transaction that is open doesn't refuse it, and nothing else does
pub does_plain : (o : Refusal) (t : Tables) (standing behind : Standing) → o ≡ None → unless (or_else o None) t standing [] (doing t behind []) ≡ means (r.Done []) t behind []
does_plain o t standing behind none = ap (λ x. unless (or_else x None) t standing [] (doing t behind [])) none

unreserved_does : (word : List ℕ) (standing : Standing) (wait : Bool) (rs : List Reservation) (t : Tables) → has_reservations rs ≡ false → needs_closed standing ≡ None → Does word standing (said (start_read_write wait rs)) [] t (r.Done []) t (ReadWrite wait rs)
unreserved_does word standing wait [] t none closed = does_plain (needs_closed standing) t standing (ReadWrite wait []) closed
unreserved_does word standing wait (x ∷ xs) t none closed = let bad : ⊥ = cc in absurd bad

pub read_write_answers : (word : List ℕ) (standing : Standing) (wait : Bool) (rs : List Reservation) (reply : Reply) (behind : Result Standing NoMemory) → has_reservations rs ≡ false → needs_closed standing ≡ None → reply ≡ r.Done [] → IfOk behind (λ s. s ≡ ReadWrite wait rs) →
    IsAnswered word standing (said (start_read_write wait rs)) (answer_by (Ok reply) behind)
read_write_answers word standing wait rs reply (Ok s) none closed same is =
    done_answers word standing (start_read_write wait rs) (ReadWrite wait rs) reply (answer_of reply s) (ap (λ b. answer_of reply b) is) same (λ t. unreserved_does word standing wait rs t none closed)
read_write_answers word standing wait rs reply (Err failed) none closed same is = tt

-- with reservations
pub reserves_comes : (word : List ℕ) (c : Catalog) (known : Knowledge) (wait : Bool) (rs : List Reservation) (reply : Reply) (behind : Result Standing NoMemory) → IsCatalogOfKnown known c → reserved_names [] rs c.tables ≡ None → reply ≡ r.Done [] → IfOk behind (λ s. s ≡ ReadWrite wait rs) →
    Comes word Closed (said (start_read_write wait rs)) known (answer_by (Ok reply) behind)
reserves_comes word c known wait rs reply (Ok s) decodes free same is =
    subst (λ (x : Found). Comes word Closed (said (start_read_write wait rs)) known x) (λ i. answer_of (sym same i) (sym is i)) (reserves word c known decodes wait rs free)
reserves_comes word c known wait rs reply (Err failed) decodes free same is = record { usual = tt; once = tt; over = λ all t sound agrees. tt }

or_left : (a b : Bool) → a ≡ true → (a || b) ≡ true
or_left a b is = ap (λ x. x || b) is

or_right : (a b : Bool) → b ≡ true → (a || b) ≡ true
or_right true b is = refl
or_right false b is = is

-- START_TRANSACTION reads the catalog for its reservations
pub reserving_asks : (wait : Bool) (rs : List Reservation) (t : Tables) → has_reservations rs ≡ true → AsksFor Closed (said (start_read_write wait rs)) t (is_need (area_node 1) (area_mode (said (start_read_write wait rs)) 1))
reserving_asks wait [] t some = let bad : ⊥ = cc in absurd bad
reserving_asks wait (x ∷ xs) t some = λ takes lock is. or_right (is_on_catalog EX lock) _ (or_left (is_on_catalog PR lock) _ is)
