-- None that lives is broken: a step that breaks a session has failed, and it dies of that.
use Rattle.std.proofs.Common.{◌≡◌, ◌⊎◌, ◌==◌, ◌-◌, ℕ, suc, Bool, true, false, List, [], Option, Some, None, inl, inr, refl, sym, ap, subst, ◌∙◌, map, slice_get, slice_set, is_some, Result, Ok, Err, arith}
use Rattle.std.proofs.lemmas.Bool.{false≢true}
use Rattle.std.proofs.lemmas.Option.{same_Some}
use Rattle.rdo_ast.specs.declared.syntax.Item.{Item}
use Rattle.line_store.specs.declared.answers.Fault.{Fault}
use Rattle.session_jobs.specs.Records.{Model}
use Rattle.session_states.specs.declared.stage.Phase.{Phase}
use Rattle.session_states.specs.declared.stage.Life.{Life}
use Rattle.session_states.specs.declared.stage.Life.TheVariants.{Alive, Dead, Gone}
use Rattle.session_states.specs.declared.stage.Member.{Member}
use Rattle.session_states.specs.States.{session}
use Rattle.session_measure.specs.Nearer.{is_broken}
use Rattle.session_measure.proofs.Whole.{nearer-whole, near-whole}
use Rattle.line_account.specs.stage_steps.declared.dying.Recovery.{Recovery}
use Rattle.line_account.specs.stage_steps.declared.dying.Recovery.TheVariants.{More, Done}
use Rattle.line_account.specs.stage_steps.declared.happening.Happening.{Happening}
use Rattle.line_account.specs.stage_steps.declared.happening.Happening.TheVariants.{Quiet, Began, Answered, Unstarted, Asleep, Noticed, Got, Refused, RefusedStart, Committed, BackedUp, RolledBack, Left, Failed, Unlaid, Unworked, Unanswered, Unsound}
use Rattle.line_account.specs.stage_steps.Deaths.{life_behind}
use Rattle.line_account.specs.stage_steps.Scenes.{Scene, NearerIn, beside}
use Rattle.line_account.proofs.of_session_stands.Seating.{set-get}
use Rattle.lent_members.specs.line_arms.Going.{GoesOn, TakesOne}
use Rattle.lent_members.specs.Going.{is_alive_life, with_life}
use Rattle.line_cluster.specs.declared.behind.Notice.{Notice}
use Rattle.line_cluster.specs.Behind.{IsNoticed, is_moving}
use Rattle.line_cluster.specs.Sound.{AreWhole}

-- ---- sessions

-- a session comes to stand there that is dead, or isn't broken
pub whole-set : (members : List Member) (at : ℕ) (n : Member) → (n.life ≡ Alive → is_broken n.phase ≡ false) → AreWhole members → AreWhole (slice_set members at n)
whole-set members at n whole all i m found alive = elim (set-get members at i n m found) [
  | inl here ↦ subst (λ (x : Member). is_broken x.phase ≡ false) here.1 (whole (ap (λ (x : Member). x.life) here.1 ∙ alive))
  | inr there ↦ all i m there.1 alive
]

pub whole-fallen : (members new : List Member) (at : ℕ) (m : Member) → new ≡ slice_set members at (with_life Dead m) → AreWhole members → AreWhole new
whole-fallen members new at m is all = subst AreWhole (sym is) (whole-set members at (with_life Dead m) (λ alive. absurd (false≢true (ap is_alive_life alive))) all)

recovered-away : (r : Result Recovery Fault) → is_alive_life (life_behind r) ≡ false
recovered-away (Ok (Done committed moment)) = refl
recovered-away (Ok More) = refl
recovered-away (Err fault) = refl

pub whole-recovered : (members new : List Member) (at : ℕ) (m : Member) (r : Result Recovery Fault) → new ≡ slice_set members at (with_life (life_behind r) m) → AreWhole members → AreWhole new
whole-recovered members new at m r is all = subst AreWhole (sym is) (whole-set members at (with_life (life_behind r) m) (λ alive. absurd (false≢true (sym (recovered-away r) ∙ ap is_alive_life alive))) all)

-- one that was broken in its turn has died
pub whole-broken : (members new : List Member) (at : ℕ) (n : Member) → new ≡ slice_set (slice_set members at n) at (with_life Dead n) → AreWhole members → AreWhole new
whole-broken members new at n is all i m found alive =
    elim (set-get (slice_set members at n) at i (with_life Dead n) m (subst (λ (ms : List Member). slice_get ms i ≡ Some m) is found)) [
      | inl here ↦ absurd (false≢true (ap is_alive_life (ap (λ (x : Member). x.life) here.1 ∙ alive)))
      | inr there ↦ elim (set-get members at i n m there.1) [
        | inl same ↦ absurd (false≢true (sym there.0 ∙ (ap (λ (t : ℕ). t == at) same.0 ∙ self at)))
        | inr other ↦ all i m other.1 alive
      ]
    ]
  where
    self : (t : ℕ) → (t == t) ≡ true
    self t = grind arith

-- ---- a step

-- what leads to no death and no halt
abbrev goes_on : Happening → Bool
goes_on (Failed fault) = false
goes_on (Unlaid key) = false
goes_on Unworked = false
goes_on (Unanswered item) = false
goes_on (Unsound key) = false
goes_on happened = true

moving-goes : (h : Happening) → is_moving h ≡ true → goes_on h ≡ true
moving-goes Quiet is = refl
moving-goes (Began kind) is = refl
moving-goes (Answered a) is = refl
moving-goes (Unstarted a) is = refl
moving-goes (Asleep t x) is = refl
moving-goes (Noticed t n mode x) is = refl
moving-goes (Got x) is = refl
moving-goes (Refused x a) is = refl
moving-goes (RefusedStart x a) is = refl
moving-goes (Committed moment) is = refl
moving-goes (BackedUp i moment) is = refl
moving-goes RolledBack is = refl
moving-goes Left is = refl
moving-goes (Failed fault) is = absurd (false≢true is)
moving-goes (Unlaid stop) is = absurd (false≢true is)
moving-goes Unworked is = absurd (false≢true is)
moving-goes (Unanswered i) is = absurd (false≢true is)
moving-goes (Unsound key) is = absurd (false≢true is)

module _ (M : Model) (s : ℕ) (c d : Scene) (left rest : List Item) (total : ℕ) (x y : Phase) (whole : is_broken x ≡ false) (one : TakesOne left rest x) where
  step-whole : (h : Happening) → goes_on h ≡ true → NearerIn M s h c d (session left total x) (session rest total y) → is_broken y ≡ false
  step-whole Quiet is near = nearer-whole (beside c) (beside d) s left rest total x y whole one near
  step-whole (Began kind) is near = nearer-whole (beside c) (beside d) s left rest total x y whole one near
  step-whole (Answered a) is near = nearer-whole (beside c) (beside d) s left rest total x y whole one near
  step-whole (Unstarted a) is near = nearer-whole (beside c) (beside d) s left rest total x y whole one near
  step-whole (Asleep t z) is near = near-whole (beside c) (beside d) s left rest total x y whole one near.0
  step-whole (Noticed t n mode z) is near = near-whole (beside c) (beside d) s left rest total x y whole one near.0
  step-whole (Got z) is near = nearer-whole (beside c) (beside d) s left rest total x y whole one near
  step-whole (Refused z a) is near = nearer-whole (beside c) (beside d) s left rest total x y whole one near
  step-whole (RefusedStart z a) is near = nearer-whole (beside c) (beside d) s left rest total x y whole one near
  step-whole (Committed moment) is near = nearer-whole (beside c) (beside d) s left rest total x y whole one near
  step-whole (BackedUp i moment) is near = nearer-whole (beside c) (beside d) s left rest total x y whole one near
  step-whole RolledBack is near = nearer-whole (beside c) (beside d) s left rest total x y whole one near
  step-whole Left is near = nearer-whole (beside c) (beside d) s left rest total x y whole one near
  step-whole (Failed fault) is near = absurd (false≢true is)
  step-whole (Unlaid stop) is near = absurd (false≢true is)
  step-whole Unworked is near = absurd (false≢true is)
  step-whole (Unanswered i) is near = absurd (false≢true is)
  step-whole (Unsound key) is near = absurd (false≢true is)

module _ (M : Model) (s at : ℕ) (c d : Scene) (members put : List Member) (m : Member) (rest : List Item) (y : Phase) (h : Happening) (found : slice_get members at ≡ Some m) (alive : m.life ≡ Alive)
    (one : TakesOne m.left rest m.phase) (goes : GoesOn M s c m.left m.phase d rest y h) (is : put ≡ slice_set members at (record { left = rest; total = m.total; phase = y; life = m.life })) (all : AreWhole members) where
  went-on : goes_on h ≡ true → AreWhole put
  went-on on = subst AreWhole (sym is) (whole-set members at (record { left = rest; total = m.total; phase = y; life = m.life })
      (λ lives. step-whole M s c d m.left rest m.total m.phase y (all at m found alive) one h on (goes.nearer m.total)) all)

  pub whole-moved : is_moving h ≡ true → AreWhole put
  whole-moved moving = went-on (moving-goes h moving)

  pub whole-noticed : (n : Notice) → IsNoticed n h → AreWhole put
  whole-noticed n noticed = went-on (ap goes_on noticed.is)
