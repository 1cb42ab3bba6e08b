-- Who is asleep, as a turn looks at it.
use Rattle.std.proofs.Common.{◌≡◌, ◌≤◌, ◌<◌, ◌-◌, ◌∙◌, ℕ, zero, suc, nat_lt, Bool, true, false, not, ◌&&◌, ◌||◌, List, Option, Some, None, IfSome, is_some, slice_get, refl, sym, ap, arith}
use Rattle.std.proofs.lemmas.Bool.{false≢true}
use Rattle.lock_tree.specs.Sleeping.{IsBlockedBy, is_sleeping}
use Rattle.session_states.specs.declared.stage.Member.{Member}
use Rattle.line_account.specs.session_stands.Sessions.{dead_in, member_at}
use Rattle.line_account.specs.stage_steps.Nearer.{is_patient_at}
use Rattle.line_cluster.specs.Turned.{Sessions}
use Rattle.line_cluster.specs.Asleep.{is_asleep, is_mourning, is_patient, sleeps}

pub at-number : (ms : List Member) (s : ℕ) → 1 ≤ s → member_at ms s ≡ slice_get ms (s - 1)
at-number ms zero first = absurd (omega arith)
at-number ms (suc i) first = ap (λ (n : ℕ). slice_get ms n) (minus-one i)
  where
    minus-one : (i : ℕ) → i ≡ suc i - 1
    minus-one i = omega arith

pub mourning : (n : ℕ) → 0 < n → nat_lt 0 n ≡ true
mourning n h = grind (arith, h)

frozen : (halted mourns asleep : Bool) → mourns ≡ true → (not (halted || mourns) && asleep) ≡ false
frozen true mourns asleep h = refl
frozen false true asleep h = refl
frozen false false asleep h = absurd (false≢true h)

hasty : (over patient queued : Bool) → patient ≡ false → (not over && (patient && queued)) ≡ false
hasty true patient queued h = refl
hasty false false queued h = refl
hasty false true queued h = absurd (false≢true (sym h))

unqueued : (over patient queued : Bool) → queued ≡ false → (not over && (patient && queued)) ≡ false
unqueued true patient queued h = refl
unqueued false false queued h = refl
unqueued false true queued h = h

module _ (c : Sessions) (s : ℕ) where
  pub halted-awake : c.halted ≡ true → sleeps c s ≡ false
  halted-awake h = rw h refl

  pub mourning-awake : 0 < dead_in c.members → sleeps c s ≡ false
  mourning-awake h = frozen c.halted (is_mourning c) (is_asleep c s) (mourning (dead_in c.members) h)

  pub hasty-awake : (m : Member) → 1 ≤ s → slice_get c.members (s - 1) ≡ Some m → is_patient_at m.phase ≡ false → sleeps c s ≡ false
  hasty-awake m first found h = hasty (c.halted || is_mourning c) (is_patient (member_at c.members s)) (is_sleeping c.locks s) (ap is_patient (at-number c.members s first ∙ found) ∙ h)

  module _ (m : Member) (first : 1 ≤ s) (going : c.halted ≡ false) (lives : dead_in c.members ≡ 0) (found : slice_get c.members (s - 1) ≡ Some m) (patient : is_patient_at m.phase ≡ true) where
    pub blocked-sleeps : (t : ℕ) → IsBlockedBy c.locks s t → sleeps c s ≡ true
    blocked-sleeps t h = rw going (rw lives (rw (at-number c.members s first ∙ found) (rw patient (rw h.is_open h.sleeps.sleeps))))

    -- whose want is queued is blocked
    pub sleeps-where : (r : Option ℕ) → IfSome r (λ t. IsBlockedBy c.locks s t) → (r ≡ None → is_sleeping c.locks s ≡ false) → is_some r ≡ sleeps c s
    sleeps-where None h none = sym (unqueued (c.halted || is_mourning c) (is_patient (member_at c.members s)) (is_sleeping c.locks s) (none refl))
    sleeps-where (Some t) h none = sym (blocked-sleeps t h)
