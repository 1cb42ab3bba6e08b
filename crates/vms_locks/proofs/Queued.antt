-- Who waits at a resource is queued there.
use Rattle.std.proofs.Common.{◌≡◌, ℕ, ◌++◌, ◌∷◌, [], ◌⊎◌, inl, inr, Bool, true, false, ◌∙◌, sym, ap, List}
use Rattle.std.specs.Prelude.{◌==◌, ◌&&◌, ◌||◌, if◌then◌else◌}
use Rattle.std.proofs.lemmas.Bool.{cases_Bool, or_cases, or_parts, and_parts, or_left, or_right, or_from, eqb-true, eq-eqb}
use Rattle.vms_queues.specs.declared.lock_mode.Mode.{Mode}
use Rattle.vms_queues.specs.declared.held.Held.{Held}
use Rattle.vms_queues.specs.Queues.{Queues, is_queued, has_owner, entry, without, with_mode, with_request, with_conversion, considered, after_weaken, after_release, after_cancel}
use Rattle.vms_queues.specs.Waits.{waits, blocked_by, conversion_waits, request_waits}
use Rattle.vms_queues.proofs.Entries.{has_owner-without_none, has_owner-push}
use Rattle.vms_queues.proofs.PassEdges.{considered-queued}

conversion-queued : (g : List Held) (a b : ℕ) (cs : List Held) → conversion_waits g a b cs ≡ true → has_owner a cs ≡ true
conversion-queued g a b [] h = h
conversion-queued g a b (c ∷ cs) h =
    elim (or_cases ((c.owner == a) && blocked_by b a c.mode g) (conversion_waits g a b cs) h) [
      | inl k ↦ or_left (c.owner == a) (has_owner a cs) (and_parts (c.owner == a) (blocked_by b a c.mode g) k).0
      | inr k ↦ or_right (c.owner == a) (has_owner a cs) (conversion-queued g a b cs k)
    ]

request-queued : (g k : List Held) (a b : ℕ) (ahead ws : List Held) → request_waits g k a b ahead ws ≡ true → has_owner a ws ≡ true
request-queued g k a b ahead [] h = h
request-queued g k a b ahead (w ∷ ws) h =
    let blocked : Bool = blocked_by b a w.mode g || (blocked_by b a w.mode k || blocked_by b a w.mode ahead) in
    elim (or_cases ((w.owner == a) && blocked) (request_waits g k a b (ahead ++ w ∷ []) ws) h) [
      | inl m ↦ or_left (w.owner == a) (has_owner a ws) (and_parts (w.owner == a) blocked m).0
      | inr m ↦ or_right (w.owner == a) (has_owner a ws) (request-queued g k a b (ahead ++ w ∷ []) ws m)
    ]

pub waits-queued : (q : Queues) (a b : ℕ) → waits q a b ≡ true → is_queued a q ≡ true
waits-queued q a b h =
    elim (or_cases (conversion_waits q.granted a b q.converting) (request_waits q.granted q.converting a b [] q.waiting) h) [
      | inl k ↦ or_left (has_owner a q.converting) (has_owner a q.waiting) (conversion-queued q.granted a b q.converting k)
      | inr k ↦ or_right (has_owner a q.converting) (has_owner a q.waiting) (request-queued q.granted q.converting a b [] q.waiting k)
    ]

-- who isn't queued isn't queued once another's requests are gone
pub queued-without : (o b : ℕ) (q : Queues) → is_queued b q ≡ false → (has_owner b (without o q.converting) ≡ false) × (has_owner b (without o q.waiting) ≡ false)
queued-without o b q n =
    let p = or_parts (has_owner b q.converting) (has_owner b q.waiting) n in
    (has_owner-without_none b o q.converting p.0, has_owner-without_none b o q.waiting p.1)

-- one entry more in a queue

push-cases : (o : ℕ) (hs : List Held) (h : Held) → has_owner o (hs ++ h ∷ []) ≡ true → (has_owner o hs ≡ true) ⊎ (h.owner ≡ o)
push-cases o hs h e =
    elim (or_cases (has_owner o hs) (h.owner == o) (sym (has_owner-push o hs h) ∙ e)) [ inl y ↦ inl y | inr k ↦ inr (eqb-true h.owner o k) ]

pub request-cases : (q : Queues) (owner : ℕ) (mode : Mode) (o : ℕ) → is_queued o (with_request q owner mode) ≡ true → (is_queued o q ≡ true) ⊎ (o ≡ owner)
request-cases q owner mode o h =
    elim (or_cases (has_owner o q.converting) (has_owner o (q.waiting ++ entry owner mode ∷ [])) h) [
      | inl k ↦ inl (or_left (has_owner o q.converting) (has_owner o q.waiting) k)
      | inr k ↦ elim (push-cases o q.waiting (entry owner mode) k) [
        | inl y ↦ inl (or_right (has_owner o q.converting) (has_owner o q.waiting) y)
        | inr e ↦ inr (sym e)
      ]
    ]

pub conversion-cases : (q : Queues) (owner : ℕ) (mode : Mode) (o : ℕ) → is_queued o (with_conversion q owner mode) ≡ true → (is_queued o q ≡ true) ⊎ (o ≡ owner)
conversion-cases q owner mode o h =
    elim (or_cases (has_owner o (q.converting ++ entry owner mode ∷ [])) (has_owner o q.waiting) h) [
      | inl k ↦ elim (push-cases o q.converting (entry owner mode) k) [
        | inl y ↦ inl (or_left (has_owner o q.converting) (has_owner o q.waiting) y)
        | inr e ↦ inr (sym e)
      ]
      | inr k ↦ inl (or_right (has_owner o q.converting) (has_owner o q.waiting) k)
    ]

or-false : (x y : Bool) → y ≡ false → (x || y) ≡ x
or-false true y e = ap (λ (b : Bool). true || b) e
or-false false y e = e

-- one entry more of another changes nothing for the owner
pub push-other : (o : ℕ) (hs : List Held) (owner : ℕ) (mode : Mode) → (o ≡ owner → ⊥) → has_owner o (hs ++ entry owner mode ∷ []) ≡ has_owner o hs
push-other o hs owner mode other =
    has_owner-push o hs (entry owner mode)
    ∙ or-false (has_owner o hs) (owner == o) (elim (cases_Bool (owner == o)) [ inl e ↦ absurd (other (sym (eqb-true owner o e))) | inr n ↦ n ])

push-own : (hs : List Held) (owner : ℕ) (mode : Mode) → has_owner owner (hs ++ entry owner mode ∷ []) ≡ true
push-own hs owner mode =
    has_owner-push owner hs (entry owner mode) ∙ or_right (has_owner owner hs) (owner == owner) (eq-eqb owner owner (λ i. owner))

module _ (q : Queues) (owner : ℕ) (mode : Mode) where
  pub request-others : (o : ℕ) → (o ≡ owner → ⊥) → is_queued o (with_request q owner mode) ≡ is_queued o q
  request-others o other = ap (λ (b : Bool). has_owner o q.converting || b) (push-other o q.waiting owner mode other)

  pub request-own : is_queued owner (with_request q owner mode) ≡ true
  request-own = or_right (has_owner owner q.converting) _ (push-own q.waiting owner mode)

  pub conversion-others : (o : ℕ) → (o ≡ owner → ⊥) → is_queued o (with_conversion q owner mode) ≡ is_queued o q
  conversion-others o other = ap (λ (b : Bool). b || has_owner o q.waiting) (push-other o q.converting owner mode other)

  pub conversion-own : is_queued owner (with_conversion q owner mode) ≡ true
  conversion-own = or_left _ (has_owner owner q.waiting) (push-own q.converting owner mode)

  -- nobody is queued anew

  pub weakened-queued : (o : ℕ) → is_queued o q ≡ false → is_queued o (after_weaken q owner mode) ≡ false
  weakened-queued o none = considered-queued (record q { granted = with_mode owner mode q.granted }) o none

module _ (q : Queues) (owner : ℕ) where
  pub released-queued : (o : ℕ) → is_queued o q ≡ false → is_queued o (after_release q owner) ≡ false
  released-queued o none =
      let p = queued-without owner o q none in
      considered-queued (record { granted = without owner q.granted; converting = without owner q.converting; waiting = without owner q.waiting }) o
      (or_from (has_owner o (without owner q.converting)) (has_owner o (without owner q.waiting)) p.0 p.1)

  pub cancelled-queued : (o : ℕ) → is_queued o q ≡ false → is_queued o (after_cancel q owner) ≡ false
  cancelled-queued o none =
      let p = queued-without owner o q none in
      let rest : Queues = record q { converting = without owner q.converting; waiting = without owner q.waiting } in
      elim (is_queued owner q) as (λ t. is_queued o (if t then considered rest else q) ≡ false) [
        | true ↦ considered-queued rest o (or_from (has_owner o (without owner q.converting)) (has_owner o (without owner q.waiting)) p.0 p.1)
        | false ↦ none
      ]
