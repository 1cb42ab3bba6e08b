-- What a call on the tree of locks is for the measure.
use Rattle.std.proofs.Common.{◌≡◌, ◌<◌, ◌+◌, ℕ, List, Bool, true, false, length, refl, sym, ap, subst, inl}
use Rattle.std.specs.Prelude.{is_some}
use Rattle.vms_queues.specs.declared.lock_mode.Mode.{Mode}
use Rattle.rdb_types.specs.declared.node.Node.{Node}
use Rattle.rdo_ast.specs.declared.syntax.Item.{Item}
use Rattle.lock_needs.specs.declared.need.Need.{Need}
use Rattle.lock_needs.specs.Party.{Party}
use Rattle.lock_tree_laws.specs.Forest.{State, opened_of, party_of}
use Rattle.lock_tree_laws.specs.LockTable.{granted_at}
use Rattle.lock_tree_laws.specs.Progress.{is_spare, MovesOn}
use Rattle.lock_tree_laws.specs.declared.answer.Want.{Want}
use Rattle.lock_tree_laws.specs.declared.answer.Want.TheVariants.{NoticeTo, Asleep}
use Rattle.session_jobs.specs.Records.{Model}
use Rattle.session_limits.specs.session_states.declared.stage.Phase.{Phase}
use Rattle.session_limits.specs.session_states.declared.stage.Member.{Member}
use Rattle.session_limits.specs.session_states.States.{session}
use Rattle.session_measure.specs.Weights.{Beside, Falls, items_in, rank}
use Rattle.session_measure.specs.Nearer.{takes_next, has_out, AreRounds, ComesNearer, StaysNear}
use Rattle.session_measure.proofs.Falling.{by-rank}
use Rattle.session_measure.proofs.Nearer.{near, nearer-by-rank, falls-behind}
use Rattle.session_measure.proofs.Queued.{queued-falls}
use Rattle.session_measure.proofs.Wanted.{stays-asked, nearer-asked}
use Rattle.stage_steps.specs.declared.calling.Called.{Called}
use Rattle.stage_steps.specs.declared.happening.Happening.{Happening}
use Rattle.stage_steps.specs.declared.happening.Happening.TheVariants as happens
use Rattle.stage_steps.specs.Asking.{IsCalled}
use Rattle.stage_steps.specs.Nearer.{IsUnqueued, Nearer, is_patient_at}
use Rattle.stage_steps.specs.Scenes.{Scene, FindsNone, NearerIn, beside}
use Rattle.stage_steps.proofs.Called.{answered-as}

module _ (s : ℕ) (n : Need) (wait : Bool) (old new : State) (x : Called) (k : IsCalled s n wait old new x) (steps : ℕ → ℕ) (phase : Phase) (none : takes_next phase ≡ false) (kept : has_out phase ≡ false) (left : List Item) (total : ℕ) where
  abbrev c : Beside
  c = record { locks = old; steps = steps }

  abbrev d : Beside
  d = record { locks = new; steps = steps }

  pub asleep-near : (t : ℕ) → x.answer ≡ Asleep t → (wait ≡ true → is_patient_at phase ≡ true) → StaysNear c d s (session left total phase) (session left total phase) × (IsUnqueued old s → ComesNearer c d s (session left total phase) (session left total phase)) × (is_patient_at phase ≡ true)
  asleep-near t e patient =
      let a = answered-as s n wait old new x k (Asleep t) e in
      let open_ = ap (λ (p : Party). p.opened) a.1.1 in
      let on = λ (is : is_some (opened_of old s) ≡ true). subst (λ (b : Want). MovesOn s old new b) e (k.progress is) in (
        stays-asked s c d phase none kept refl a.1.0 open_ left total on,
        λ awake. nearer-asked s c d phase none kept refl a.1.0 open_ left total (λ v was. queued-falls old new s (record { parties = k.call.others; locks = k.no_weaker }) (on (ap is_some was)) v a.1.0 was open_ (awake v was) a.1.3.sleeps),
        patient a.0,
      )

  pub noticed-near : (t : ℕ) (node : Node) (mode : Mode) → x.answer ≡ NoticeTo t node mode → StaysNear c d s (session left total phase) (session left total phase) × (is_spare (granted_at new.table t) (party_of new.parties t) node ≡ true)
  noticed-near t node mode e =
      let a = answered-as s n wait old new x k (NoticeTo t node mode) e in (
        stays-asked s c d phase none kept refl a.0 (ap (λ (p : Party). p.opened) a.1) left total (λ is. subst (λ (b : Want). MovesOn s old new b) e (k.progress is)),
        subst (λ (m : Node). is_spare (granted_at new.table t) (party_of new.parties t) m ≡ true) (sym a.4) a.5.excess,
      )

-- a want that waits, in a step that comes to another rank
pub asleep-by-rank : (s : ℕ) (c d : Beside) (x y : Phase) → items_in y ≡ items_in x → rank y < rank x → is_patient_at x ≡ true → (left : List Item) (total : ℕ) → StaysNear c d s (session left total x) (session left total y) × (IsUnqueued c.locks s → ComesNearer c d s (session left total x) (session left total y)) × (is_patient_at x ≡ true)
asleep-by-rank s c d x y e h patient left total = (
  near s c d (session left total x) (session left total y) (λ k l r. by-rank k l s c d (session left total x) (session left total y) refl (ap (λ (i : ℕ). length left + i) e) h),
  λ awake. nearer-by-rank s c d x y e h left total,
  patient,
)

-- ---- a step of the phase alone before another one, in one step

-- from the phase before it to the one between the session has come nearer, has as many rounds, and waits as it did
pub nearer-first : (M : Model) (s : ℕ) (h : Happening) (c d : Scene) (m n o : Member) → (FindsNone M s c n → FindsNone M s c m) → ((k l : ℕ) → AreRounds m.phase o.phase k l → AreRounds n.phase o.phase k l × Falls k k (beside c) (beside c) s m n) → (is_patient_at n.phase ≡ true → is_patient_at m.phase ≡ true) → NearerIn M s h c d n o → NearerIn M s h c d m o
nearer-first M s h c d m n o finds first patient = by h
  where
    comes : ComesNearer (beside c) (beside d) s n o → ComesNearer (beside c) (beside d) s m o
    comes then = record { nears = λ k l r. let f = first k l r in inl (falls-behind k l s (beside c) (beside d) m n o f.1 (then.nears k l f.0)) }

    stays : StaysNear (beside c) (beside d) s n o → StaysNear (beside c) (beside d) s m o
    stays then = record { keeps = λ k l r. let f = first k l r in inl (falls-behind k l s (beside c) (beside d) m n o f.1 (then.keeps k l f.0)) }

    by : (h : Happening) → NearerIn M s h c d n o → NearerIn M s h c d m o
    by happens.Quiet then = comes then
    by (happens.Began kind) then = comes then
    by (happens.Answered a) then = comes then
    by (happens.Unstarted a) then = comes then
    by (happens.Asleep t x) then = (stays then.0, λ awake. comes (then.1 awake), patient then.2)
    by (happens.Noticed t node mode x) then = (stays then.0, then.1)
    by (happens.Got x) then = comes then
    by (happens.Refused x a) then = comes then
    by (happens.RefusedStart x a) then = comes then
    by (happens.Committed moment) then = comes then
    by (happens.BackedUp item moment) then = comes then
    by happens.RolledBack then = comes then
    by happens.Left then = comes then
    by (happens.Failed fault) then = then
    by (happens.Unlaid key) then = tt
    by happens.Unworked then = tt
    by (happens.Unsound key) then = finds then
    by (happens.Unanswered item) then = tt

-- ---- in scenes

-- where no device call failed, and nothing was unsound
pub near-in : (M : Model) (s : ℕ) (h : Happening) (c d : Scene) (m n : Member) → Nearer s h (beside c) (beside d) m n → NearerIn M s h c d m n
near-in M s happens.Quiet c d m n near = near
near-in M s (happens.Began kind) c d m n near = near
near-in M s (happens.Answered a) c d m n near = near
near-in M s (happens.Unstarted a) c d m n near = near
near-in M s (happens.Asleep t x) c d m n near = near
near-in M s (happens.Noticed t node mode x) c d m n near = near
near-in M s (happens.Got x) c d m n near = near
near-in M s (happens.Refused x a) c d m n near = near
near-in M s (happens.RefusedStart x a) c d m n near = near
near-in M s (happens.Committed moment) c d m n near = near
near-in M s (happens.BackedUp item moment) c d m n near = near
near-in M s happens.RolledBack c d m n near = near
near-in M s happens.Left c d m n near = near
near-in M s (happens.Failed fault) c d m n near = absurd near
near-in M s (happens.Unlaid key) c d m n near = near
near-in M s happens.Unworked c d m n near = near
near-in M s (happens.Unsound key) c d m n near = absurd near
near-in M s (happens.Unanswered item) c d m n near = near
