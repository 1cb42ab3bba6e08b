-- What the account and the tree have of a session whose want or transaction has ended.
use Rattle.std.proofs.Common.{◌≡◌, ℕ, ◌∷◌, [], ◌==◌, not, cond, if◌then◌else◌, Bool, true, false, List, refl, ◌∙◌, sym, ap, subst, Option, Some, None}
use Rattle.rdb_types.specs.declared.keys.Dbkey.{Dbkey}
use Rattle.rdo_ast.specs.declared.reply.Reply.{Reply}
use Rattle.rdo_ast.specs.Tree.{Uttered}
use Rattle.lock_needs.specs.Party.{Party}
use Rattle.lock_tree_laws.specs.Forest.{State, KeepsParties}
use Rattle.lock_tree_laws.specs.Wanted.{needs_of}
use Rattle.rdb_account.specs.Events.{Said, Committed, RolledBack}
use Rattle.rdb_account.specs.Places.{Opening, Place, Transaction, Line, Ask, Due, nothing, commit_reply, rollback_reply, rolls_back, at, after, changed, with_line, is_writer, asks_of_others, committed_by, behind_roll_back, next_item, ended}
use Rattle.rdb_account.specs.Lawful.{got_of}
use Rattle.line_steps.specs.lock_ties.Ties.{IsTiedTo, needs_at}
use Rattle.line_steps.proofs.of_lock_ties.Places.{at-same, at-other, number}
use Rattle.line_steps.proofs.of_lock_ties.Got.{ended-tied}
use Rattle.session_states.specs.Shared.{RestsWith}

-- ---- needs

-- who keeps its needs, as all others do
pub needs-still : (s : ℕ) (old new : State) → KeepsParties s old.parties new.parties → needs_of new s ≡ needs_of old s → (t : ℕ) → needs_of old t ≡ needs_of new t
needs-still s old new others same t = by (t == s) refl
  where
    by : (b : Bool) → (t == s) ≡ b → needs_of old t ≡ needs_of new t
    by true e = subst (λ u. needs_of old u ≡ needs_of new u) (sym (number t s e)) (sym same)
    by false e = ap (λ (y : Party). y.needs) (sym (others t e))

-- ---- places

-- forgetting its askings once more is nothing
pub others-twice : (s : ℕ) (asks : List Ask) → asks_of_others s (asks_of_others s asks) ≡ asks_of_others s asks
others-twice s [] = refl
others-twice s (a ∷ as') =
    elim (a.session == s) as (λ b. (a.session == s) ≡ b → asks_of_others s (cond (not b) (a ∷ asks_of_others s as') (asks_of_others s as')) ≡ cond (not b) (a ∷ asks_of_others s as') (asks_of_others s as')) [
      | true ↦ λ e. others-twice s as'
      | false ↦ λ e. ap (λ b. cond (not b) (a ∷ asks_of_others s (asks_of_others s as')) (asks_of_others s (asks_of_others s as'))) e ∙ ap (λ l. a ∷ l) (others-twice s as')
    ] refl

at-over : {A : Type 0} (s : ℕ) (x y : A) (f : ℕ → A) (t : ℕ) → at s x (at s y f) t ≡ at s x f t
at-over s x y f t = by (t == s)
  where
    by : (b : Bool) → (if b then x else (if b then y else f t)) ≡ (if b then x else f t)
    by true = refl
    by false = refl

rolled-same : (s : ℕ) (due : Due) (next : Option Uttered) (p : Place) → ((behind_roll_back s due next p).transaction ≡ p.transaction) × ((behind_roll_back s due next p).asks ≡ p.asks)
rolled-same s (rolls_back t) next p = (refl, refl)
rolled-same s nothing (Some item) p = (refl, refl)
rolled-same s (commit_reply t) (Some item) p = (refl, refl)
rolled-same s (rollback_reply t) (Some item) p = (refl, refl)
rolled-same s nothing None p = (refl, refl)
rolled-same s (commit_reply t) None p = (refl, refl)
rolled-same s (rollback_reply t) None p = (refl, refl)

-- the transaction of s ends
pub rolled-place : (o : Opening) (p : Place) (s : ℕ) → ((after o p (RolledBack s)).transaction ≡ at s None p.transaction) × ((after o p (RolledBack s)).asks ≡ asks_of_others s p.asks)
rolled-place o p s = rolled-same s p.due (next_item o p s) (ended s p)

pub committed-place : (o : Opening) (p : Place) (s : ℕ) (x : Transaction) (moment : ℕ) → p.transaction s ≡ Some x →
    ((after o p (Committed s moment)).transaction ≡ at s None p.transaction) × ((after o p (Committed s moment)).asks ≡ asks_of_others s p.asks)
committed-place o p s x moment is_open = (
  ap (λ (z : Option Transaction). (committed_by o.word s moment z p).transaction) is_open ∙ (by (is_writer x.kind) refl).0,
  ap (λ (z : Option Transaction). (committed_by o.word s moment z p).asks) is_open ∙ (by (is_writer x.kind) refl).1,
)
  where
    by : (b : Bool) → is_writer x.kind ≡ b → ((committed_by o.word s moment (Some x) p).transaction ≡ at s None p.transaction) × ((committed_by o.word s moment (Some x) p).asks ≡ asks_of_others s p.asks)
    by true e = (rw e refl, rw e refl)
    by false e = (rw e refl, rw e refl)

-- and then its last item is answered
pub then-said : (o : Opening) (p q : Place) (s : ℕ) (item : Uttered) (choices : List Dbkey) (reply : Reply) → q.transaction ≡ at s None p.transaction → q.asks ≡ asks_of_others s p.asks →
    ((after o q (Said s item choices reply)).transaction ≡ at s None p.transaction) × ((after o q (Said s item choices reply)).asks ≡ asks_of_others s p.asks)
then-said o p q s item choices reply gone less = (
  ap (λ (z : Option Transaction). (changed s (with_line (record { item = item; choices = choices; reply = reply })) z q).transaction) (ap (λ (f : ℕ → Option Transaction). f s) gone ∙ at-same s None p.transaction) ∙ gone,
  ap (asks_of_others s) less ∙ others-twice s p.asks,
)

-- its first item is answered, and then it ends
pub start-gone : (o : Opening) (p : Place) (s : ℕ) (x : Transaction) (l : Line) → p.transaction s ≡ Some x → (t : ℕ) → (after o (after o p (Said s l.item l.choices l.reply)) (RolledBack s)).transaction t ≡ at s None p.transaction t
start-gone o p s x l is_open t =
    let q : Place = after o p (Said s l.item l.choices l.reply) in
    ap (λ (f : ℕ → Option Transaction). f t) (rolled-place o q s).0
    ∙ (ap (λ (z : Option Transaction). at s None (changed s (with_line l) z p).transaction t) is_open ∙ at-over s None (Some (with_line l x)) p.transaction t)

pub start-unasked : (o : Opening) (p : Place) (s : ℕ) (l : Line) → (after o (after o p (Said s l.item l.choices l.reply)) (RolledBack s)).asks ≡ asks_of_others s p.asks
start-unasked o p s l = (rolled-place o (after o p (Said s l.item l.choices l.reply)) s).1 ∙ others-twice s p.asks

-- ---- the account and the tree

gone-needs : (p q : Place) (old new : State) (s : ℕ) → IsTiedTo p old → RestsWith s [] old new → ((t : ℕ) → q.transaction t ≡ at s None p.transaction t) → (t : ℕ) → needs_at q t ≡ needs_of new t
gone-needs p q old new s tied rests gone t = ap got_of (gone t) ∙ by (t == s) refl
  where
    by : (b : Bool) → (t == s) ≡ b → got_of (at s None p.transaction t) ≡ needs_of new t
    by true e = subst (λ u. got_of (at s None p.transaction u) ≡ needs_of new u) (sym (number t s e)) (ap got_of (at-same s None p.transaction) ∙ sym rests.needs)
    by false e = ap got_of (at-other s t None p.transaction e) ∙ (tied.needs t ∙ ap (λ (y : Party). y.needs) (sym (rests.others t e)))

-- the transaction of s has ended, and all its locks are released
pub gone-tied : (p q : Place) (old new : State) (s : ℕ) → IsTiedTo p old → RestsWith s [] old new → ((t : ℕ) → q.transaction t ≡ at s None p.transaction t) → q.asks ≡ asks_of_others s p.asks → IsTiedTo q new
gone-tied p q old new s tied rests gone less = ended-tied old new s p q tied rests.others rests.ended rests.trail less (gone-needs p q old new s tied rests gone)
