-- Where an owner holds a lock, it holds one after a conversion or a weakening: the node's entry stays of use.
use Rattle.std.proofs.Common.{◌≡◌, ℕ, zero, suc, [], true, false, ◌∙◌, sym, ap}
use Rattle.std.specs.Prelude.{if◌then◌else◌}
use Rattle.std.proofs.lemmas.Bool.{false≢true}
use Rattle.vms_queues.specs.declared.lock_mode.Mode.{Mode}
use Rattle.vms_queues.specs.Queues.{Queues, no_queues, has_owner, fits, covers, with_mode, with_conversion, conversions_considered, passed, passes, queue_length, after_weaken, after_convert}
use Rattle.vms_queues.proofs.Entries.{has_owner-with_mode, covers-has_owner}
use Rattle.vms_queues.proofs.Soundness.{conversions-has_owner, requests-keep_owner}

passed-keeps : (q : Queues) (o : ℕ) → has_owner o q.granted ≡ true → has_owner o (passed q).granted ≡ true
passed-keeps q o h =
    let c = conversions_considered q.granted [] q.converting in
    requests-keep_owner o c.1 c.0 [] q.waiting (conversions-has_owner o q.granted [] q.converting ∙ h)

passes-keep : (n : ℕ) (q : Queues) (o : ℕ) → has_owner o q.granted ≡ true → has_owner o (passes n q).granted ≡ true
passes-keep zero q o h = h
passes-keep (suc n) q o h = passes-keep n (passed q) o (passed-keeps q o h)

weaken-keeps : (q : Queues) (o : ℕ) (m : Mode) → has_owner o q.granted ≡ true → has_owner o (after_weaken q o m).granted ≡ true
weaken-keeps q o m h =
    let weak : Queues = record q { granted = with_mode o m q.granted } in
    passes-keep (queue_length weak) weak o (has_owner-with_mode o o m q.granted ∙ h)

nobody : (q : Queues) (o : ℕ) → has_owner o q.granted ≡ true → q ≡ no_queues → ⊥
nobody q o h e = false≢true (sym (ap (λ (r : Queues). has_owner o r.granted) e) ∙ h)

pub weaken_used : (q : Queues) (o : ℕ) (m : Mode) → covers o m q.granted ≡ true → after_weaken q o m ≡ no_queues → ⊥
weaken_used q o m less = nobody (after_weaken q o m) o (weaken-keeps q o m (covers-has_owner o m q.granted less))

pub convert_used : (q : Queues) (o : ℕ) (m : Mode) → has_owner o q.granted ≡ true → after_convert q o m ≡ no_queues → ⊥
convert_used q o m h =
    elim (fits o m q.granted) as (λ b. (if b then after_weaken q o m else with_conversion q o m) ≡ no_queues → ⊥) [
      | true ↦ nobody (after_weaken q o m) o (weaken-keeps q o m h)
      | false ↦ nobody (with_conversion q o m) o h
    ]
