-- Queues that stand in the order in which owners came stay so while they are considered.
use Rattle.std.proofs.Common.{◌≡◌, ℕ, zero, suc, ◌++◌, ◌∷◌, [], inl, inr, Bool, true, false, List, refl, ◌∙◌, sym, ap, subst, append_assoc, append-nil}
use Rattle.std.specs.Prelude.{◌==◌, not, ◌&&◌, ◌||◌, if◌then◌else◌, Some, None, Option, unwrap_or}
use Rattle.std.specs.List.{list_all}
use Rattle.std.proofs.lemmas.Bool.{false≢true, cases_Bool, eq-eqb, eqb-true, and_parts, and_from, or_parts, or_cases, or_left, or_right, not-true}
use Rattle.vms_queues.specs.declared.lock_mode.Mode.{Mode}
use Rattle.vms_queues.specs.declared.lock_mode.Mode.TheVariants.{NL}
use Rattle.vms_queues.specs.declared.held.Held.{Held}
use Rattle.vms_queues.specs.Modes.{may_share, at_most}
use Rattle.vms_queues.specs.Queues.{Queues, IsSound, has_owner, mode_in, blocks, fits, is_free, with_mode, moded, entry, each_once, conversions_considered, requests_considered, passed, passes, considered, queue_length}
use Rattle.vms_queues.proofs.ModeLaws.{may_share-comm}
use Rattle.vms_queues.proofs.Entries.{has_owner-with_mode, has_owner-push}
use Rattle.vms_queues.proofs.PassEdges.{conversions-absent}
use Rattle.vms_queues.proofs.Soundness.{has_owner-append, each_once-less, without_one, not_in-push, list_all-agree, list_all-weaken, list_all-less, list_all-push, conversions-has_owner, passed-sound}
use Rattle.lock_tree_laws.specs.LockTable.{granted_in, sought_in}
use Rattle.lock_tree_laws.specs.Order.{stands_before, all_used, IsOrdered}
use Rattle.lock_tree_laws.proofs.QueueModes.{queues, conversion-served, request-served, keeps-owners, keeps-strangers, no_conversion-of, mode-with_other, mode-in_middle, mode-past_other, mode-push_other}
use Rattle.lock_tree_laws.proofs.HeldModes.{option-cases, one-mode, mode-has_owner, no-mode_absent, nothing-shares}

-- ---- lists of entries

pub used-with_mode : (o : ℕ) (m : Mode) (hs : List Held) → not (at_most m NL) ≡ true → all_used hs ≡ true → all_used (with_mode o m hs) ≡ true
used-with_mode o m [] u h = refl
used-with_mode o m (x ∷ xs) u h =
    let p = and_parts (not (at_most x.mode NL)) (all_used xs) h in
    and_from (not (at_most (moded o m x).mode NL)) (all_used (with_mode o m xs))
    (elim (x.owner == o) as (λ b. not (at_most (if b then entry o m else x).mode NL) ≡ true) [ true ↦ u | false ↦ p.0 ])
    (used-with_mode o m xs u p.1)

pub owner-more : (u : ℕ) (l : List Held) (c : Held) (cs : List Held) → has_owner u (l ++ cs) ≡ true → has_owner u (l ++ c ∷ cs) ≡ true
owner-more u [] c cs h = or_right (c.owner == u) (has_owner u cs) h
owner-more u (x ∷ xs) c cs h =
    elim (or_cases (x.owner == u) (has_owner u (xs ++ cs)) h) [
      | inl e ↦ or_left (x.owner == u) (has_owner u (xs ++ c ∷ cs)) e
      | inr t ↦ or_right (x.owner == u) (has_owner u (xs ++ c ∷ cs)) (owner-more u xs c cs t)
    ]

pub owner-there : (u : ℕ) (l : List Held) (c : Held) (cs : List Held) → (c.owner == u) ≡ true → has_owner u (l ++ c ∷ cs) ≡ true
owner-there u [] c cs e = or_left (c.owner == u) (has_owner u cs) e
owner-there u (x ∷ xs) c cs e = or_right (x.owner == u) (has_owner u (xs ++ c ∷ cs)) (owner-there u xs c cs e)

owner-behind : (u : ℕ) (l cs : List Held) → has_owner u cs ≡ true → has_owner u (l ++ cs) ≡ true
owner-behind u [] cs h = h
owner-behind u (x ∷ xs) cs h = or_right (x.owner == u) (has_owner u (xs ++ cs)) (owner-behind u xs cs h)

-- a mode of the list's first part, and one of the second
mode-front : (a : ℕ) (l r : List Held) (k : Mode) → mode_in a l ≡ Some k → mode_in a (l ++ r) ≡ Some k
mode-front a [] r k e = absurd (false≢true (ap (λ (x : Option Mode). elim x [ None ↦ false | Some k ↦ true ]) e))
mode-front a (x ∷ xs) r k e =
    elim (cases_Bool (x.owner == a)) [
      | inl s ↦ ap (λ (b : Bool). if b then Some x.mode else mode_in a (xs ++ r)) s ∙ (sym (ap (λ (b : Bool). if b then Some x.mode else mode_in a xs) s) ∙ e)
      | inr d ↦ ap (λ (b : Bool). if b then Some x.mode else mode_in a (xs ++ r)) d ∙ mode-front a xs r k (sym (ap (λ (b : Bool). if b then Some x.mode else mode_in a xs) d) ∙ e)
    ]

mode-back : (a : ℕ) (l r : List Held) → has_owner a l ≡ false → mode_in a (l ++ r) ≡ mode_in a r
mode-back a [] r n = refl
mode-back a (x ∷ xs) r n =
    let p = or_parts (x.owner == a) (has_owner a xs) n in
    ap (λ (b : Bool). if b then Some x.mode else mode_in a (xs ++ r)) p.0 ∙ mode-back a xs r p.1

pub stands-owner : (u a : ℕ) (hs : List Held) → stands_before u a hs ≡ true → has_owner u hs ≡ true
stands-owner u a [] h = absurd (false≢true h)
stands-owner u a (x ∷ xs) h =
    elim (cases_Bool (x.owner == u)) [
      | inl s ↦ or_left (x.owner == u) (has_owner u xs) s
      | inr d ↦ or_right (x.owner == u) (has_owner u xs)
          (elim (cases_Bool (x.owner == a)) [
            | inl t ↦ absurd (false≢true (sym (ap (λ (b : Bool). if b || (x.owner == a) then b else stands_before u a xs) d ∙ ap (λ (b : Bool). if b then false else stands_before u a xs) t) ∙ h))
            | inr t ↦ stands-owner u a xs (sym (ap (λ (b : Bool). if b || (x.owner == a) then b else stands_before u a xs) d ∙ ap (λ (b : Bool). if b then false else stands_before u a xs) t) ∙ h)
          ])
    ]

-- an entry of neither of the two tells nothing
pub stands-past : (u a : ℕ) (l : List Held) (w : Held) (ws : List Held) → (w.owner == u) ≡ false → (w.owner == a) ≡ false → stands_before u a (l ++ w ∷ ws) ≡ stands_before u a (l ++ ws)
stands-past u a [] w ws d e = ap (λ (b : Bool). if b || (w.owner == a) then b else stands_before u a ws) d ∙ ap (λ (b : Bool). if b then false else stands_before u a ws) e
stands-past u a (x ∷ xs) w ws d e = ap (λ (b : Bool). if x.owner == u || x.owner == a then x.owner == u else b) (stands-past u a xs w ws d e)

pub stands-at : (u a : ℕ) (l : List Held) (w : Held) (ws : List Held) → has_owner u l ≡ false → has_owner a l ≡ false → (w.owner == u) ≡ true → stands_before u a (l ++ w ∷ ws) ≡ true
stands-at u a [] w ws m n e = ap (λ (b : Bool). if b || (w.owner == a) then b else stands_before u a ws) e
stands-at u a (x ∷ xs) w ws m n e =
    let p = or_parts (x.owner == u) (has_owner u xs) m in
    let q = or_parts (x.owner == a) (has_owner a xs) n in
    ap (λ (b : Bool). if b || (x.owner == a) then b else stands_before u a (xs ++ w ∷ ws)) p.0
    ∙ (ap (λ (b : Bool). if b then false else stands_before u a (xs ++ w ∷ ws)) q.0 ∙ stands-at u a xs w ws p.1 q.1 e)

fit-test : (same shares : Bool) → not (not same && not shares) ≡ true → same ≡ false → shares ≡ true
fit-test true s h e = absurd (false≢true (sym e))
fit-test false true h e = refl
fit-test false false h e = absurd (false≢true h)

-- a mode that fits shares with the mode of each other owner
pub fits-shares : (o : ℕ) (m : Mode) (hs : List Held) (a : ℕ) (k : Mode) → fits o m hs ≡ true → (a == o) ≡ false → mode_in a hs ≡ Some k → may_share k m ≡ true
fits-shares o m [] a k f d e = absurd (false≢true (ap (λ (x : Option Mode). elim x [ None ↦ false | Some k ↦ true ]) e))
fits-shares o m (x ∷ xs) a k f d e =
    let p = and_parts (not (blocks o m x)) (fits o m xs) f in
    elim (cases_Bool (x.owner == a)) [
      | inl s ↦
          subst (λ (y : Mode). may_share y m ≡ true) (one-mode x.mode k (sym (ap (λ (b : Bool). if b then Some x.mode else mode_in a xs) s) ∙ e))
          (fit-test (x.owner == o) (may_share x.mode m) p.0 (subst (λ (z : ℕ). (z == o) ≡ false) (sym (eqb-true x.owner a s)) d))
      | inr t ↦ fits-shares o m xs a k p.1 d (sym (ap (λ (b : Bool). if b then Some x.mode else mode_in a xs) t) ∙ e)
    ]

pub flip : (o u : ℕ) → (o == u) ≡ false → (u == o) ≡ false
flip o u d = elim (cases_Bool (u == o)) [ inr n ↦ n | inl y ↦ absurd (false≢true (sym d ∙ eq-eqb o u (sym (eqb-true u o y)))) ]

module _ (before : ℕ → ℕ → Bool) (converts : ℕ → Bool) where
  -- ---- a conversion is granted

  conversion-ordered : (g l : List Held) (c : Held) (cs ws : List Held) → each_once (l ++ c ∷ cs) ≡ true → has_owner c.owner g ≡ true → list_all (λ w. not (has_owner w.owner g)) ws ≡ true
      → IsOrdered before converts (queues g (l ++ c ∷ cs) ws) → IsOrdered before converts (queues (with_mode c.owner c.mode g) (l ++ cs) ws)
  conversion-ordered g l c cs ws once has fresh k =
      let parts = list_all-less (λ h. not (at_most h.mode NL)) l c cs k.converting_used in record {
        granted_used = used-with_mode c.owner c.mode g parts.0 k.granted_used;
        converting_used = parts.1;
        waiting_used = k.waiting_used;
        converting = λ u h. k.converting u (owner-more u l c cs h);
        waiting = k.waiting;
        granted = λ u a d h f s. elim (cases_Bool (c.owner == u)) [
          | inl e ↦ absurd (false≢true (sym f ∙ k.converting u (owner-there u l c cs e)))
          | inr e ↦ k.granted u a d (sym (has_owner-with_mode u c.owner c.mode g) ∙ h) f
              (subst (λ (y : Mode). may_share (granted_in u (queues g (l ++ c ∷ cs) ws)) y ≡ false) (conversion-served a g l c cs ws once has fresh).sought
              (subst (λ (x : Option Mode). may_share (unwrap_or x NL) (sought_in a (queues (with_mode c.owner c.mode g) (l ++ cs) ws)) ≡ false) (mode-with_other u c.owner c.mode g e) s))
        ];
      }

  conversions-ordered : (g l cs ws : List Held) → each_once (l ++ cs) ≡ true → list_all (λ c. has_owner c.owner g) cs ≡ true → list_all (λ w. not (has_owner w.owner g)) ws ≡ true
      → IsOrdered before converts (queues g (l ++ cs) ws) → (let r = conversions_considered g l cs in IsOrdered before converts (queues r.0 r.1 ws))
  conversions-ordered g l [] ws e a fresh k = subst (λ (z : List Held). IsOrdered before converts (queues g z ws)) (append-nil l) k
  conversions-ordered g l (c ∷ cs) ws e a fresh k =
      let p = and_parts (has_owner c.owner g) (list_all (λ c. has_owner c.owner g) cs) a in
      let more : List Held = with_mode c.owner c.mode g in
      elim (fits c.owner c.mode g) as (λ t. (let r : List Held × List Held = (if t then conversions_considered more l cs else conversions_considered g (l ++ c ∷ []) cs) in IsOrdered before converts (queues r.0 r.1 ws))) [
        | true ↦ conversions-ordered more l cs ws (each_once-less l c cs e) (keeps-owners c.owner c.mode g cs p.1) (keeps-strangers c.owner c.mode g ws fresh) (conversion-ordered g l c cs ws e p.0 fresh k)
        | false ↦
            let same : (l ++ c ∷ []) ++ cs ≡ l ++ c ∷ cs = append_assoc l (c ∷ []) cs in
            conversions-ordered g (l ++ c ∷ []) cs ws (subst (λ (z : List Held). each_once z ≡ true) (sym same) e) p.1 fresh (subst (λ (z : List Held). IsOrdered before converts (queues g z ws)) (sym same) k)
      ]

  -- ---- a waiting request is granted

  module _ (g k l : List Held) (w : Held) (ws : List Held) (once : each_once (l ++ w ∷ ws) ≡ true) (fresh : has_owner w.owner g ≡ false) (apart : has_owner w.owner k ≡ false) (free : is_free k g l w ≡ true) (old : IsOrdered before converts (queues g k (l ++ w ∷ ws))) where
    gone : has_owner w.owner (l ++ ws) ≡ false
    gone = without_one l w ws once

    ahead_free : has_owner w.owner l ≡ false
    ahead_free = (or_parts (has_owner w.owner l) (has_owner w.owner ws) (sym (has_owner-append w.owner l ws) ∙ gone)).0

    fit_parts : (fits w.owner w.mode g ≡ true) × ((fits w.owner w.mode k && fits w.owner w.mode l) ≡ true)
    fit_parts = and_parts (fits w.owner w.mode g) (fits w.owner w.mode k && fits w.owner w.mode l) free

    fit_queued : (fits w.owner w.mode k ≡ true) × (fits w.owner w.mode l ≡ true)
    fit_queued = and_parts (fits w.owner w.mode k) (fits w.owner w.mode l) fit_parts.1

    no-shut : {X : Type 0} (a : ℕ) (m : Mode) → sought_in a (queues g k (l ++ w ∷ ws)) ≡ m → may_share m w.mode ≡ true → may_share w.mode (sought_in a (queues g k (l ++ w ∷ ws))) ≡ false → X
    no-shut a m e s f = absurd (false≢true (sym f ∙ (ap (may_share w.mode) e ∙ (may_share-comm w.mode m ∙ s))))

    -- whoever asks what it stands in the way of waits behind it
    behind : (a : ℕ) → (w.owner == a) ≡ false → may_share w.mode (sought_in a (queues g k (l ++ w ∷ ws))) ≡ false → before w.owner a ≡ true
    behind a d f =
        let q : Queues = queues g k (l ++ w ∷ ws) in
        elim (option-cases (mode_in a k)) [
          | inr x ↦ no-shut a x.0 (ap (λ (y : Option Mode). unwrap_or y (unwrap_or (mode_in a (l ++ w ∷ ws)) (granted_in a q))) x.1) (fits-shares w.owner w.mode k a x.0 fit_queued.0 (flip w.owner a d) x.1) f
          | inl unconverting ↦
              let asked : sought_in a q ≡ unwrap_or (mode_in a (l ++ w ∷ ws)) (granted_in a q) = ap (λ (y : Option Mode). unwrap_or y (unwrap_or (mode_in a (l ++ w ∷ ws)) (granted_in a q))) unconverting in
              elim (option-cases (mode_in a l)) [
                | inr x ↦ no-shut a x.0 (asked ∙ ap (λ (y : Option Mode). unwrap_or y (granted_in a q)) (mode-front a l (w ∷ ws) x.0 x.1)) (fits-shares w.owner w.mode l a x.0 fit_queued.1 (flip w.owner a d) x.1) f
                | inl unahead ↦
                    let off : has_owner a l ≡ false = no-mode_absent a l unahead in
                    elim (option-cases (mode_in a ws)) [
                      | inr x ↦ old.waiting w.owner a d
                          (owner-more a l w ws (owner-behind a l ws (mode-has_owner a ws x.0 x.1)))
                          (stands-at w.owner a l w ws ahead_free off (eq-eqb w.owner w.owner refl))
                      | inl unwaiting ↦
                          let held : sought_in a q ≡ granted_in a q =
                          asked ∙ ap (λ (y : Option Mode). unwrap_or y (granted_in a q)) (mode-past_other a l w ws d ∙ (mode-back a l ws off ∙ unwaiting)) in
                          elim (option-cases (mode_in a g)) [
                            | inr x ↦ no-shut a x.0 (held ∙ ap (λ (y : Option Mode). unwrap_or y NL) x.1) (fits-shares w.owner w.mode g a x.0 fit_parts.0 (flip w.owner a d) x.1) f
                            | inl ungranted ↦ no-shut a NL (held ∙ ap (λ (y : Option Mode). unwrap_or y NL) ungranted) (nothing-shares w.mode) f
                          ]
                    ]
              ]
        ]

    request-ordered : IsOrdered before converts (queues (g ++ w ∷ []) k (l ++ ws))
    request-ordered =
        let parts = list_all-less (λ h. not (at_most h.mode NL)) l w ws old.waiting_used in record {
          granted_used = list_all-push (λ h. not (at_most h.mode NL)) g w old.granted_used parts.0;
          converting_used = old.converting_used;
          waiting_used = parts.1;
          converting = old.converting;
          waiting = λ u a d h s.
              let not_a : (w.owner == a) ≡ false = elim (cases_Bool (w.owner == a)) [
                | inr n ↦ n
                | inl e ↦ absurd (false≢true (sym gone ∙ subst (λ (z : ℕ). has_owner z (l ++ ws) ≡ true) (sym (eqb-true w.owner a e)) h))
              ] in
              let not_u : (w.owner == u) ≡ false = elim (cases_Bool (w.owner == u)) [
                | inr n ↦ n
                | inl e ↦ absurd (false≢true (sym gone ∙ subst (λ (z : ℕ). has_owner z (l ++ ws) ≡ true) (sym (eqb-true w.owner u e)) (stands-owner u a (l ++ ws) s)))
              ] in
              old.waiting u a d (owner-more a l w ws h) (stands-past u a l w ws not_u not_a ∙ s);
          granted = λ u a d h f s.
              let asked : sought_in a (queues (g ++ w ∷ []) k (l ++ ws)) ≡ sought_in a (queues g k (l ++ w ∷ ws)) = (request-served a g k l w ws once fresh apart).sought in
              let shut : may_share (granted_in u (queues (g ++ w ∷ []) k (l ++ ws))) (sought_in a (queues g k (l ++ w ∷ ws))) ≡ false =
              subst (λ (y : Mode). may_share (granted_in u (queues (g ++ w ∷ []) k (l ++ ws))) y ≡ false) asked s in
              elim (cases_Bool (w.owner == u)) [
                | inl e ↦
                    let own : w.owner ≡ u = eqb-true w.owner u e in
                    let held : granted_in u (queues (g ++ w ∷ []) k (l ++ ws)) ≡ w.mode =
                    ap (λ (x : Option Mode). unwrap_or x NL) (mode-in_middle u g w [] (subst (λ (z : ℕ). has_owner z g ≡ false) own fresh) e) in
                    subst (λ (z : ℕ). before z a ≡ true) own
                    (behind a (subst (λ (z : ℕ). (z == a) ≡ false) (sym own) d) (subst (λ (y : Mode). may_share y (sought_in a (queues g k (l ++ w ∷ ws))) ≡ false) held shut))
                | inr e ↦ old.granted u a d
                    (elim (or_cases (has_owner u g) (w.owner == u) (sym (has_owner-push u g w) ∙ h)) [ inl t ↦ t | inr t ↦ absurd (false≢true (sym e ∙ t)) ]) f
                    (subst (λ (x : Option Mode). may_share (unwrap_or x NL) (sought_in a (queues g k (l ++ w ∷ ws))) ≡ false) (mode-push_other u g w e) shut)
              ];
        }

  requests-ordered : (k g l ws : List Held) → each_once (l ++ ws) ≡ true → list_all (λ w. not (has_owner w.owner g)) ws ≡ true → list_all (λ w. not (has_owner w.owner k)) ws ≡ true
      → IsOrdered before converts (queues g k (l ++ ws)) → (let r = requests_considered k g l ws in IsOrdered before converts (queues r.0 k r.1))
  requests-ordered k g l [] e a b o = subst (λ (z : List Held). IsOrdered before converts (queues g k z)) (append-nil l) o
  requests-ordered k g l (w ∷ ws) e a b o =
      let p = and_parts (not (has_owner w.owner g)) (list_all (λ w. not (has_owner w.owner g)) ws) a in
      let q = and_parts (not (has_owner w.owner k)) (list_all (λ w. not (has_owner w.owner k)) ws) b in
      let more : List Held = g ++ w ∷ [] in
      let off : has_owner w.owner (l ++ ws) ≡ false = without_one l w ws e in
      let parts = or_parts (has_owner w.owner l) (has_owner w.owner ws) (sym (has_owner-append w.owner l ws) ∙ off) in
      elim (cases_Bool (is_free k g l w)) [
        | inl t ↦
            subst (λ (b : Bool). (let r : List Held × List Held = (if b then requests_considered k more l ws else requests_considered k g (l ++ w ∷ []) ws) in IsOrdered before converts (queues r.0 k r.1))) (sym t)
            (requests-ordered k more l ws (each_once-less l w ws e) (not_in-push g w ws p.1 parts.1) q.1
            (request-ordered g k l w ws e (not-true (has_owner w.owner g) p.0) (not-true (has_owner w.owner k) q.0) t o))
        | inr t ↦
            let same : (l ++ w ∷ []) ++ ws ≡ l ++ w ∷ ws = append_assoc l (w ∷ []) ws in
            subst (λ (b : Bool). (let r : List Held × List Held = (if b then requests_considered k more l ws else requests_considered k g (l ++ w ∷ []) ws) in IsOrdered before converts (queues r.0 k r.1))) (sym t)
            (requests-ordered k g (l ++ w ∷ []) ws (subst (λ (z : List Held). each_once z ≡ true) (sym same) e) p.1 q.1
            (subst (λ (z : List Held). IsOrdered before converts (queues g k z)) (sym same) o))
      ]

  -- ---- the passes

  passed-ordered : (q : Queues) → IsSound q → IsOrdered before converts q → IsOrdered before converts (passed q)
  passed-ordered q s o =
      let c = conversions_considered q.granted [] q.converting in
      requests-ordered c.1 c.0 [] q.waiting s.waiting_once
      (list_all-agree (λ w. not (has_owner w.owner c.0)) (λ w. not (has_owner w.owner q.granted)) (λ w. ap not (conversions-has_owner w.owner q.granted [] q.converting)) q.waiting ∙ s.waiting_not_granted)
      (list_all-weaken (λ w. not (has_owner w.owner q.granted)) (λ w. not (has_owner w.owner c.1))
      (λ w n. ap not (conversions-absent w.owner q.granted [] q.converting (no_conversion-of q.granted q.converting s.converting_granted w n)))
      q.waiting s.waiting_not_granted)
      (conversions-ordered q.granted [] q.converting q.waiting s.converting_once s.converting_granted s.waiting_not_granted o)

  passes-ordered : (n : ℕ) (q : Queues) → IsSound q → IsOrdered before converts q → IsOrdered before converts (passes n q)
  passes-ordered zero q s o = o
  passes-ordered (suc n) q s o = passes-ordered n (passed q) (passed-sound q s) (passed-ordered q s o)

  pub considered-ordered : (q : Queues) → IsSound q → IsOrdered before converts q → IsOrdered before converts (considered q)
  considered-ordered q s o = passes-ordered (queue_length q) q s o
