-- Queues of owners only: how long they are, and that each request keeps them so.
use Rattle.std.proofs.Common.{◌≡◌, ℕ, zero, suc, ◌<◌, ◌≤◌, ◌++◌, ◌∷◌, [], Bool, true, false, List, length, refl, ◌∙◌, sym, ap, arith, length-append}
use Rattle.std.specs.Prelude.{nat_eq, map, not, ◌==◌, ◌&&◌, ◌||◌, if◌then◌else◌}
use Rattle.std.specs.List.{IsDistinct, AllByRecursion, list_all}
use Rattle.std.proofs.lemmas.Bool.{and_parts, and_from, or_parts, or_from, not-true, not_from_false, eqb-true}
use Rattle.std.proofs.lemmas.Cmp.{nat_eq_equiv}
use Rattle.std.proofs.lemmas.List.{length-map}
use Rattle.std.proofs.lemmas.List.Folds.{list_all-map}
use Rattle.vms_queues.specs.declared.lock_mode.Mode.{Mode}
use Rattle.vms_queues.specs.declared.lock_mode.Mode.TheVariants.{NL}
use Rattle.vms_queues.specs.declared.held.Held.{Held}
use Rattle.vms_queues.specs.Queues.{Queues, no_queues, IsSound, HasRoomToAsk, HasRoomToConvert, has_owner, entry, moded, with_mode, without, fits, is_free, conversions_considered, requests_considered, passed, passes, considered, queue_length, each_once, is_absent, is_queued, is_grantable, with_lock, with_request, with_conversion, after_ask, after_convert, after_weaken, after_release, after_cancel}
use Rattle.vms_queues.specs.Owners.{is_owner, are_owners, HasOwners}
use Rattle.vms_queues.proofs.Distinct.{length-up_to}
use Rattle.vms_queues.proofs.Soundness.{has_owner-append, list_all-push, list_all-filter}

-- how long they are

no_other : (o : ℕ) (hs : List Held) → has_owner o hs ≡ false → AllByRecursion (λ p. nat_eq o p ≡ false) (map (λ h. h.owner) hs)
no_other o [] none = tt
no_other o (h ∷ hs) none =
    let p = or_parts (h.owner == o) (has_owner o hs) none in
    (nat_eq_equiv.symm o h.owner ∙ p.0, no_other o hs p.1)

-- each owner once is no number twice
pub distinct_owners : (hs : List Held) → each_once hs ≡ true → IsDistinct nat_eq (map (λ h. h.owner) hs)
unfolding IsDistinct
distinct_owners [] once = tt
distinct_owners (h ∷ hs) once =
    let p = and_parts (not (has_owner h.owner hs)) (each_once hs) once in
    (no_other h.owner hs (not-true (has_owner h.owner hs) p.0), distinct_owners hs p.1)

pub length-owners : (hs : List Held) → each_once hs ≡ true → are_owners hs ≡ true → length hs ≤ 16
length-owners hs once owners =
    let shorter = length-up_to 16 (map (λ h. h.owner) hs) (distinct_owners hs once) (list_all-map is_owner (λ h. h.owner) hs ∙ owners) in
    let same = length-map hs (λ h. h.owner) in
    omega (arith, shorter, same)

-- where an owner has no entry, there is room for one
pub length-other_owners : (o : ℕ) (hs : List Held) → each_once hs ≡ true → are_owners hs ≡ true → is_owner o ≡ true → has_owner o hs ≡ false → length hs < 16
length-other_owners o hs once owners owner none =
    let more = length-owners (entry o NL ∷ hs) (and_from _ _ (not_from_false (has_owner o hs) none) once) (and_from _ _ owner owners) in
    omega (arith, more)

elsewhere : (o : ℕ) (xs ys : List Held) → list_all (λ y. not (has_owner y.owner (entry o NL ∷ xs))) ys ≡ true → (has_owner o ys ≡ false) × (list_all (λ y. not (has_owner y.owner xs)) ys ≡ true)
elsewhere o xs [] apart = (refl, refl)
elsewhere o xs (y ∷ ys) apart =
    let p = and_parts (not ((o == y.owner) || has_owner y.owner xs)) (list_all (λ y. not (has_owner y.owner (entry o NL ∷ xs))) ys) apart in
    let here = or_parts (o == y.owner) (has_owner y.owner xs) (not-true ((o == y.owner) || has_owner y.owner xs) p.0) in
    let rest = elsewhere o xs ys p.1 in
    (or_from (y.owner == o) (has_owner o ys) (nat_eq_equiv.symm y.owner o ∙ here.0) rest.0, and_from _ _ (not_from_false (has_owner y.owner xs) here.1) rest.1)

-- two lists that name each owner once, and no owner both, name each owner once together
pub each_once-append : (xs ys : List Held) → each_once xs ≡ true → each_once ys ≡ true → list_all (λ y. not (has_owner y.owner xs)) ys ≡ true → each_once (xs ++ ys) ≡ true
each_once-append [] ys one two apart = two
each_once-append (x ∷ xs) ys one two apart =
    let p = and_parts (not (has_owner x.owner xs)) (each_once xs) one in
    let others = elsewhere x.owner xs ys apart in
    let none : has_owner x.owner (xs ++ ys) ≡ false = has_owner-append x.owner xs ys ∙ or_from (has_owner x.owner xs) (has_owner x.owner ys) (not-true (has_owner x.owner xs) p.0) others.0 in
    and_from _ _ (not_from_false (has_owner x.owner (xs ++ ys)) none) (each_once-append xs ys p.1 two others.1)

pub list_all-append_from : {X : Type 0} (p : X → Bool) (xs ys : List X) → list_all p xs ≡ true → list_all p ys ≡ true → list_all p (xs ++ ys) ≡ true
list_all-append_from p [] ys a b = b
list_all-append_from p (x ∷ xs) ys a b =
    let c = and_parts (p x) (list_all p xs) a in
    and_from _ _ c.0 (list_all-append_from p xs ys c.1 b)

-- all that hold or wait have distinct owners
granted_or_waiting : (q : Queues) → IsSound q → HasOwners q → (each_once (q.granted ++ q.waiting) ≡ true) × (are_owners (q.granted ++ q.waiting) ≡ true)
granted_or_waiting q s owners = (
  each_once-append q.granted q.waiting s.granted_once s.waiting_once s.waiting_not_granted,
  list_all-append_from (λ h. is_owner h.owner) q.granted q.waiting owners.granted owners.waiting,
)

-- a new request of an owner takes no memory
pub has_room-to_ask : (q : Queues) (o : ℕ) → IsSound q → HasOwners q → is_owner o ≡ true → is_absent o q ≡ true → HasRoomToAsk q
has_room-to_ask q o s owners owner absent =
    let a = and_parts (not (has_owner o q.granted)) (not (has_owner o q.converting) && not (has_owner o q.waiting)) absent in
    let b = and_parts (not (has_owner o q.converting)) (not (has_owner o q.waiting)) a.1 in
    let both = granted_or_waiting q s owners in
    let none : has_owner o (q.granted ++ q.waiting) ≡ false = has_owner-append o q.granted q.waiting ∙ or_from (has_owner o q.granted) (has_owner o q.waiting) (not-true (has_owner o q.granted) a.0) (not-true (has_owner o q.waiting) b.1) in
    let room = length-other_owners o (q.granted ++ q.waiting) both.0 both.1 owner none in
    let together = length-append q.granted q.waiting in
    record {
      granted = omega (arith, room, together);
      converting = length-owners q.converting s.converting_once owners.converting;
    }

-- nor does a conversion
pub has_room-to_convert : (q : Queues) (o : ℕ) → IsSound q → HasOwners q → is_owner o ≡ true → has_owner o q.converting ≡ false → HasRoomToConvert q
has_room-to_convert q o s owners owner none = record {
  granted = length-owners q.granted s.granted_once owners.granted;
  converting = length-other_owners o q.converting s.converting_once owners.converting owner none;
}

-- nobody's queues are of owners only
pub no_queues-owners : HasOwners no_queues
no_queues-owners = record { granted = refl; converting = refl; waiting = refl }

-- what each request keeps

moded-owner : (o : ℕ) (m : Mode) (h : Held) → (moded o m h).owner ≡ h.owner
moded-owner o m h =
    elim (h.owner == o) as (λ t. (h.owner == o) ≡ t → (if t then entry o m else h).owner ≡ h.owner) [
      | true ↦ λ same. sym (eqb-true h.owner o same)
      | false ↦ λ other. refl
    ] refl

pub are_owners-with_mode : (o : ℕ) (m : Mode) (hs : List Held) → are_owners (with_mode o m hs) ≡ are_owners hs
are_owners-with_mode o m [] = refl
are_owners-with_mode o m (h ∷ hs) =
    ap (λ (p : ℕ). is_owner p && are_owners (with_mode o m hs)) (moded-owner o m h)
    ∙ ap (λ (t : Bool). is_owner h.owner && t) (are_owners-with_mode o m hs)

are_owners-push : (hs : List Held) (h : Held) → are_owners hs ≡ true → is_owner h.owner ≡ true → are_owners (hs ++ h ∷ []) ≡ true
are_owners-push hs h owners owner = list_all-push (λ k. is_owner k.owner) hs h owners owner

are_owners-without : (o : ℕ) (hs : List Held) → are_owners hs ≡ true → are_owners (without o hs) ≡ true
are_owners-without o hs owners = list_all-filter (λ h. is_owner h.owner) (λ h. not (h.owner == o)) hs owners

conversions-owners : (g l cs : List Held) → are_owners g ≡ true → are_owners l ≡ true → are_owners cs ≡ true → (let r = conversions_considered g l cs in (are_owners r.0 ≡ true) × (are_owners r.1 ≡ true))
conversions-owners g l [] granted left owners = (granted, left)
conversions-owners g l (c ∷ cs) granted left owners =
    let p = and_parts (is_owner c.owner) (are_owners cs) owners in
    elim (fits c.owner c.mode g) as (λ t. (let r : List Held × List Held = if t then conversions_considered (with_mode c.owner c.mode g) l cs else conversions_considered g (l ++ c ∷ []) cs in (are_owners r.0 ≡ true) × (are_owners r.1 ≡ true))) [
      | true ↦ conversions-owners (with_mode c.owner c.mode g) l cs (are_owners-with_mode c.owner c.mode g ∙ granted) left p.1
      | false ↦ conversions-owners g (l ++ c ∷ []) cs granted (are_owners-push l c left p.0) p.1
    ]

requests-owners : (k g l ws : List Held) → are_owners g ≡ true → are_owners l ≡ true → are_owners ws ≡ true → (let r = requests_considered k g l ws in (are_owners r.0 ≡ true) × (are_owners r.1 ≡ true))
requests-owners k g l [] granted left owners = (granted, left)
requests-owners k g l (w ∷ ws) granted left owners =
    let p = and_parts (is_owner w.owner) (are_owners ws) owners in
    elim (is_free k g l w) as (λ t. (let r : List Held × List Held = if t then requests_considered k (g ++ w ∷ []) l ws else requests_considered k g (l ++ w ∷ []) ws in (are_owners r.0 ≡ true) × (are_owners r.1 ≡ true))) [
      | true ↦ requests-owners k (g ++ w ∷ []) l ws (are_owners-push g w granted p.0) left p.1
      | false ↦ requests-owners k g (l ++ w ∷ []) ws granted (are_owners-push l w left p.0) p.1
    ]

passed-owners : (q : Queues) → HasOwners q → HasOwners (passed q)
passed-owners q owners =
    let c = conversions-owners q.granted [] q.converting owners.granted refl owners.converting in
    let k = conversions_considered q.granted [] q.converting in
    let w = requests-owners k.1 k.0 [] q.waiting c.0 refl owners.waiting in
    record { granted = w.0; converting = c.1; waiting = w.1 }

passes-owners : (n : ℕ) (q : Queues) → HasOwners q → HasOwners (passes n q)
passes-owners zero q owners = owners
passes-owners (suc n) q owners = passes-owners n (passed q) (passed-owners q owners)

pub considered-owners : (q : Queues) → HasOwners q → HasOwners (considered q)
considered-owners q owners = passes-owners (queue_length q) q owners

pub after_ask-owners : (q : Queues) (o : ℕ) (m : Mode) → HasOwners q → is_owner o ≡ true → HasOwners (after_ask q o m)
after_ask-owners q o m owners owner =
    elim (is_grantable q o m) as (λ t. HasOwners (if t then with_lock q o m else with_request q o m)) [
      | true ↦ record { granted = are_owners-push q.granted (entry o m) owners.granted owner; converting = owners.converting; waiting = owners.waiting }
      | false ↦ record { granted = owners.granted; converting = owners.converting; waiting = are_owners-push q.waiting (entry o m) owners.waiting owner }
    ]

pub after_weaken-owners : (q : Queues) (o : ℕ) (m : Mode) → HasOwners q → HasOwners (after_weaken q o m)
after_weaken-owners q o m owners =
    considered-owners (record q { granted = with_mode o m q.granted })
    (record { granted = are_owners-with_mode o m q.granted ∙ owners.granted; converting = owners.converting; waiting = owners.waiting })

pub after_convert-owners : (q : Queues) (o : ℕ) (m : Mode) → HasOwners q → is_owner o ≡ true → HasOwners (after_convert q o m)
after_convert-owners q o m owners owner =
    elim (fits o m q.granted) as (λ t. HasOwners (if t then after_weaken q o m else with_conversion q o m)) [
      | true ↦ after_weaken-owners q o m owners
      | false ↦ record { granted = owners.granted; converting = are_owners-push q.converting (entry o m) owners.converting owner; waiting = owners.waiting }
    ]

pub after_release-owners : (q : Queues) (o : ℕ) → HasOwners q → HasOwners (after_release q o)
after_release-owners q o owners =
    considered-owners (record { granted = without o q.granted; converting = without o q.converting; waiting = without o q.waiting })
    (record { granted = are_owners-without o q.granted owners.granted; converting = are_owners-without o q.converting owners.converting; waiting = are_owners-without o q.waiting owners.waiting })

pub after_cancel-owners : (q : Queues) (o : ℕ) → HasOwners q → HasOwners (after_cancel q o)
after_cancel-owners q o owners =
    let less : Queues = record q { converting = without o q.converting; waiting = without o q.waiting } in
    elim (is_queued o q) as (λ t. HasOwners (if t then considered less else q)) [
      | true ↦ considered-owners less (record { granted = owners.granted; converting = are_owners-without o q.converting owners.converting; waiting = are_owners-without o q.waiting owners.waiting })
      | false ↦ owners
    ]
