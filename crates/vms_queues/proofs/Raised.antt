-- A conversion to a mode that is at least the old one grants nothing else.
use Rattle.std.proofs.Common.{◌≡◌, ℕ, ◌++◌, ◌∷◌, [], inl, inr, Bool, true, false, List, refl, ◌∙◌, sym, ap, subst, arith}
use Rattle.std.specs.Prelude.{◌==◌, not, ◌&&◌, if◌then◌else◌}
use Rattle.std.proofs.lemmas.Bool.{false≢true, eq-eqb, cases_eq, or_cases, or_parts, and_parts, and_from, not-true, not_from_false, eqb-true}
use Rattle.std.proofs.lemmas.Grind.{common_steps}
use Rattle.vms_queues.specs.declared.lock_mode.Mode.{Mode}
use Rattle.vms_queues.specs.declared.held.Held.{Held}
use Rattle.vms_queues.specs.Modes.{at_most}
use Rattle.vms_queues.specs.Queues.{Queues, IsSound, has_owner, blocks, fits, with_mode, entry, each_once, raises, is_free, conversions_wait, requests_wait, is_settled, after_convert, after_raise, with_conversion}
use Rattle.vms_queues.proofs.ModeLaws.{may_share-comm, may_share-weaker}
use Rattle.vms_queues.proofs.Entries.{with_mode-absent}
use Rattle.vms_queues.proofs.PassEdges.{not_named_in}
use Rattle.vms_queues.proofs.Settled.{busy-less, free-less, considered-settled}
use Rattle.vms_queues.proofs.RequestEdges.{moded-own, moded-other}

raises-has_owner : (o : ℕ) (m : Mode) (hs : List Held) → raises o m hs ≡ true → has_owner o hs ≡ true
raises-has_owner o m [] h = h
raises-has_owner o m (x ∷ xs) h = grind (arith, common_steps, raises-has_owner o m xs)

own_raised : (o : ℕ) (m : Mode) (x : Held) (xs : List Held) → has_owner o xs ≡ false → raises o m (x ∷ xs) ≡ true → at_most x.mode m ≡ true
own_raised o m x xs absent h =
    elim (or_cases ((x.owner == o) && at_most x.mode m) (raises o m xs) h) [
      | inl here ↦ (and_parts (x.owner == o) (at_most x.mode m) here).1
      | inr there ↦ absurd (false≢true (sym absent ∙ raises-has_owner o m xs there))
    ]

others_raised : (o : ℕ) (m : Mode) (x : Held) (xs : List Held) → (x.owner ≡ o → ⊥) → raises o m (x ∷ xs) ≡ true → raises o m xs ≡ true
others_raised o m x xs other h =
    elim (or_cases ((x.owner == o) && at_most x.mode m) (raises o m xs) h) [
      | inl here ↦ absurd (other (eqb-true x.owner o (and_parts (x.owner == o) (at_most x.mode m) here).0))
      | inr there ↦ there
    ]

-- what stands beside the raised mode stood beside the old one
beside_raised : (p o : ℕ) (k m : Mode) (x : Held) → (p ≡ o → ⊥) → x.owner ≡ o → at_most x.mode m ≡ true → not (blocks p k (entry o m)) ≡ true → not (blocks p k x) ≡ true
beside_raised p o k m x other own w h =
    grind (arith, common_steps, may_share-weaker x.mode m k w, may_share-comm k x.mode, may_share-comm k m)

and_mono : (x y u v : Bool) → (x ≡ true → u ≡ true) → (y ≡ true → v ≡ true) → (x && y) ≡ true → (u && v) ≡ true
and_mono x y u v f g h = let p = and_parts x y h in and_from u v (f p.0) (g p.1)

fits-raised : (p o : ℕ) (k m : Mode) (hs : List Held) → (p ≡ o → ⊥) → raises o m hs ≡ true → each_once hs ≡ true → fits p k (with_mode o m hs) ≡ true → fits p k hs ≡ true
fits-raised p o k m [] other r e h = refl
fits-raised p o k m (x ∷ xs) other r e h =
    let once = and_parts (not (has_owner x.owner xs)) (each_once xs) e in
    elim (cases_eq x.owner o) [
      | inl own ↦
          let absent : has_owner o xs ≡ false = subst (λ (q : ℕ). has_owner q xs ≡ false) own (not-true (has_owner x.owner xs) once.0) in
          let same : with_mode o m xs ≡ xs = with_mode-absent o m xs absent in
          let mine = moded-own o m x own in
          let there : (not (blocks p k (entry o m)) && fits p k xs) ≡ true =
          subst (λ (hs : List Held). (not (blocks p k (entry o m)) && fits p k hs) ≡ true) same (subst (λ (y : Held). (not (blocks p k y) && fits p k (with_mode o m xs)) ≡ true) mine h) in
          and_mono (not (blocks p k (entry o m))) (fits p k xs) (not (blocks p k x)) (fits p k xs) (beside_raised p o k m x other own (own_raised o m x xs absent r)) (λ f. f) there
      | inr foreign ↦
          let mine = moded-other o m x foreign in
          let there : (not (blocks p k x) && fits p k (with_mode o m xs)) ≡ true = subst (λ (y : Held). (not (blocks p k y) && fits p k (with_mode o m xs)) ≡ true) mine h in
          and_mono (not (blocks p k x)) (fits p k (with_mode o m xs)) (not (blocks p k x)) (fits p k xs) (λ f. f) (fits-raised p o k m xs other (others_raised o m x xs foreign r) once.1) there
    ]

-- the owner of an entry of others is another
another : (o : ℕ) (c : Held) (cs : List Held) → has_owner o (c ∷ cs) ≡ false → c.owner ≡ o → ⊥
another o c cs absent own = false≢true (sym (or_parts (c.owner == o) (has_owner o cs) absent).0 ∙ eq-eqb c.owner o own)

conversions_wait-raised : (o : ℕ) (m : Mode) (g cs : List Held) → raises o m g ≡ true → each_once g ≡ true → has_owner o cs ≡ false → conversions_wait g cs ≡ true → conversions_wait (with_mode o m g) cs ≡ true
conversions_wait-raised o m g [] r e absent h = refl
conversions_wait-raised o m g (c ∷ cs) r e absent h =
    let p = and_parts (not (fits c.owner c.mode g)) (conversions_wait g cs) h in
    let less = fits-raised c.owner o c.mode m g (another o c cs absent) r e in
    and_from _ _ (not_from_false (fits c.owner c.mode (with_mode o m g)) (busy-less (fits c.owner c.mode (with_mode o m g)) (fits c.owner c.mode g) less (not-true (fits c.owner c.mode g) p.0)))
    (conversions_wait-raised o m g cs r e (or_parts (c.owner == o) (has_owner o cs) absent).1 p.1)

requests_wait-raised : (o : ℕ) (m : Mode) (k g l ws : List Held) → raises o m g ≡ true → each_once g ≡ true → has_owner o ws ≡ false → requests_wait k g l ws ≡ true → requests_wait k (with_mode o m g) l ws ≡ true
requests_wait-raised o m k g l [] r e absent h = refl
requests_wait-raised o m k g l (w ∷ ws) r e absent h =
    let p = and_parts (not (is_free k g l w)) (requests_wait k g (l ++ w ∷ []) ws) h in
    let less = fits-raised w.owner o w.mode m g (another o w ws absent) r e in
    let free : is_free k (with_mode o m g) l w ≡ true → is_free k g l w ≡ true =
    free-less (fits w.owner w.mode g) (fits w.owner w.mode k) (fits w.owner w.mode l) (fits w.owner w.mode (with_mode o m g)) (fits w.owner w.mode k) less (λ f. f) in
    and_from _ _ (not_from_false (is_free k (with_mode o m g) l w) (busy-less (is_free k (with_mode o m g) l w) (is_free k g l w) free (not-true (is_free k g l w) p.0)))
    (requests_wait-raised o m k g (l ++ w ∷ []) ws r e (or_parts (w.owner == o) (has_owner o ws) absent).1 p.1)

pub settled-raised : (q : Queues) (o : ℕ) (m : Mode) → IsSound q → is_settled q ≡ true → raises o m q.granted ≡ true → has_owner o q.converting ≡ false → is_settled (record q { granted = with_mode o m q.granted }) ≡ true
settled-raised q o m s h r once =
    let p = and_parts (conversions_wait q.granted q.converting) (requests_wait q.converting q.granted [] q.waiting) h in
    let absent = not_named_in o q.granted q.waiting s.waiting_not_granted (raises-has_owner o m q.granted r) in
    and_from _ _ (conversions_wait-raised o m q.granted q.converting r s.granted_once once p.0)
    (requests_wait-raised o m q.converting q.granted [] q.waiting r s.granted_once absent p.1)

pub after_convert-raises : (q : Queues) (o : ℕ) (m : Mode) → IsSound q → is_settled q ≡ true → has_owner o q.converting ≡ false → raises o m q.granted ≡ true → after_convert q o m ≡ after_raise q o m
after_convert-raises q o m s h once r =
    ap (λ (new : Queues). if fits o m q.granted then new else with_conversion q o m) (considered-settled (record q { granted = with_mode o m q.granted }) (settled-raised q o m s h r once))
