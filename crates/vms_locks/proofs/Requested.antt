-- A request in its queue, and a table whatever was answered.
use Rattle.std.proofs.Common.{◌≡◌, ℕ, ◌⊎◌, inl, inr, Bool, true, false, ◌∙◌, sym, ap}
use Rattle.std.specs.Prelude.{not, ◌&&◌, if◌then◌else◌}
use Rattle.std.proofs.lemmas.Bool.{false≢true, and_parts, not-true}
use Rattle.vms_queues.specs.declared.lock_mode.Mode.{Mode}
use Rattle.vms_queues.specs.Queues.{Queues, has_owner, is_absent, is_grantable, fits, with_lock, with_request, with_conversion, after_ask, after_weaken, after_convert}
use Rattle.vms_locks.specs.Table.{requested}

abbrev queued_by : Queues → ℕ → Mode → Bool → Queues
queued_by q owner mode holds = if holds then with_conversion q owner mode else with_request q owner mode

pub requested-absent : (q : Queues) (owner : ℕ) (mode : Mode) → is_absent owner q ≡ true → requested q owner mode ≡ with_request q owner mode
requested-absent q owner mode absent =
    let p = and_parts (not (has_owner owner q.granted)) (not (has_owner owner q.converting) && not (has_owner owner q.waiting)) absent in
    ap (queued_by q owner mode) (not-true (has_owner owner q.granted) p.0)

pub requested-granted : (q : Queues) (owner : ℕ) (mode : Mode) → has_owner owner q.granted ≡ true → requested q owner mode ≡ with_conversion q owner mode
requested-granted q owner mode granted = ap (queued_by q owner mode) granted

-- what can't be granted at once is queued

pub ask-busy : (q : Queues) (owner : ℕ) (mode : Mode) → is_grantable q owner mode ≡ false → after_ask q owner mode ≡ with_request q owner mode
ask-busy q owner mode busy =
    ap (λ (free : Bool). if free then with_lock q owner mode else with_request q owner mode) busy

pub convert-busy : (q : Queues) (owner : ℕ) (mode : Mode) → fits owner mode q.granted ≡ false → after_convert q owner mode ≡ with_conversion q owner mode
convert-busy q owner mode busy =
    ap (λ (free : Bool). if free then after_weaken q owner mode else with_conversion q owner mode) busy

-- what can be granted at once is granted

pub ask-free : (q : Queues) (owner : ℕ) (mode : Mode) → is_grantable q owner mode ≡ true → after_ask q owner mode ≡ with_lock q owner mode
ask-free q owner mode free =
    ap (λ (b : Bool). if b then with_lock q owner mode else with_request q owner mode) free

pub convert-free : (q : Queues) (owner : ℕ) (mode : Mode) → fits owner mode q.granted ≡ true → after_convert q owner mode ≡ after_weaken q owner mode
convert-free q owner mode free =
    ap (λ (b : Bool). if b then after_weaken q owner mode else with_conversion q owner mode) free

-- who asks what isn't granted at once is awake
pub awake-busy : {A B : Type 0} (free : Bool) → A ⊎ ((free ≡ true) × B) → free ≡ false → A
awake-busy free (inl a) busy = a
awake-busy free (inr f) busy = absurd (false≢true (sym busy ∙ f.0))
