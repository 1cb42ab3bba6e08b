-- What a pass over the queues gives an owner: what it held, or what it asked.
use Rattle.std.proofs.Common.{◌≡◌, ℕ, zero, suc, ◌++◌, ◌∷◌, [], ◌⊎◌, inl, inr, Bool, true, false, List, refl, ◌∙◌, sym, ap, subst, arith, append_assoc, append-nil}
use Rattle.std.specs.Prelude.{◌==◌, not, if◌then◌else◌, Some, None, Option, unwrap_or}
use Rattle.std.specs.List.{list_all}
use Rattle.std.proofs.lemmas.Bool.{false≢true, cases_Bool, and_parts, or_parts, eqb-true, not-true}
use Rattle.std.proofs.lemmas.Grind.{common_steps}
use Rattle.vms_queues.specs.declared.lock_mode.Mode.{Mode}
use Rattle.vms_queues.specs.declared.lock_mode.Mode.TheVariants.{NL}
use Rattle.vms_queues.specs.declared.held.Held.{Held}
use Rattle.vms_queues.specs.Queues.{Queues, IsSound, has_owner, mode_in, fits, is_free, with_mode, each_once, conversions_considered, requests_considered, passed, passes, considered, queue_length}
use Rattle.vms_queues.proofs.Entries.{has_owner-with_mode}
use Rattle.vms_queues.proofs.PassEdges.{named_in, not_named_in, conversions-absent}
use Rattle.vms_queues.proofs.Soundness.{has_owner-append, each_once-less, without_one, not_in-push, list_all-agree, list_all-weaken, conversions-has_owner, passed-sound}
use Rattle.lock_tree_laws.specs.LockTable.{granted_in, sought_in}

-- ---- the first mode of an owner in a list

pub mode-absent : (o : ℕ) (hs : List Held) → has_owner o hs ≡ false → mode_in o hs ≡ None
mode-absent o [] n = refl
mode-absent o (h ∷ hs) n =
    let p = or_parts (h.owner == o) (has_owner o hs) n in
    ap (λ (b : Bool). if b then Some h.mode else mode_in o hs) p.0 ∙ mode-absent o hs p.1

pub mode-with_other : (o p : ℕ) (m : Mode) (g : List Held) → (p == o) ≡ false → mode_in o (with_mode p m g) ≡ mode_in o g
mode-with_other o p m [] d = refl
mode-with_other o p m (h ∷ hs) d = grind (arith, common_steps, mode-with_other o p m hs d)

pub mode-with_own : (o : ℕ) (m : Mode) (g : List Held) → has_owner o g ≡ true → mode_in o (with_mode o m g) ≡ Some m
mode-with_own o m [] h = absurd (false≢true h)
mode-with_own o m (x ∷ xs) h = grind (arith, common_steps, mode-with_own o m xs)

pub mode-in_middle : (o : ℕ) (l : List Held) (c : Held) (cs : List Held) → has_owner o l ≡ false → (c.owner == o) ≡ true → mode_in o (l ++ c ∷ cs) ≡ Some c.mode
mode-in_middle o [] c cs n e = ap (λ (b : Bool). if b then Some c.mode else mode_in o cs) e
mode-in_middle o (x ∷ xs) c cs n e =
    let p = or_parts (x.owner == o) (has_owner o xs) n in
    ap (λ (b : Bool). if b then Some x.mode else mode_in o (xs ++ c ∷ cs)) p.0 ∙ mode-in_middle o xs c cs p.1 e

pub mode-past_other : (o : ℕ) (l : List Held) (c : Held) (cs : List Held) → (c.owner == o) ≡ false → mode_in o (l ++ c ∷ cs) ≡ mode_in o (l ++ cs)
mode-past_other o [] c cs d = ap (λ (b : Bool). if b then Some c.mode else mode_in o cs) d
mode-past_other o (x ∷ xs) c cs d = ap (λ (y : Option Mode). if x.owner == o then Some x.mode else y) (mode-past_other o xs c cs d)

pub mode-push_other : (o : ℕ) (l : List Held) (c : Held) → (c.owner == o) ≡ false → mode_in o (l ++ c ∷ []) ≡ mode_in o l
mode-push_other o l c d = mode-past_other o l c [] d ∙ ap (mode_in o) (append-nil l)

-- ---- the pass

abbrev pub queues : List Held → List Held → List Held → Queues
queues g k ws = record { granted = g; converting = k; waiting = ws }

-- the owner holds what it held or what it asked, and asks or holds what it asked
pub record IsServed (o : ℕ) (q r : Queues) : Type 0 where
  pub granted : (granted_in o r ≡ granted_in o q) ⊎ (granted_in o r ≡ sought_in o q)
  pub sought : sought_in o r ≡ sought_in o q

pub served-none : (o : ℕ) (q : Queues) → IsServed o q q
served-none o q = record { granted = inl refl; sought = refl }

pub served-then : (o : ℕ) (q r s : Queues) → IsServed o q r → IsServed o r s → IsServed o q s
served-then o q r s f g = record {
  granted = elim g.granted [
    | inr e ↦ inr (e ∙ f.sought)
    | inl e ↦ elim f.granted [ inl d ↦ inl (e ∙ d) | inr d ↦ inr (e ∙ d) ]
  ];
  sought = g.sought ∙ f.sought;
}

-- who is granted by the pass, from modes in the three lists
served-granted : (o : ℕ) (q r : Queues) (m : Mode) → mode_in o r.granted ≡ Some m → mode_in o r.converting ≡ None → mode_in o r.waiting ≡ None → sought_in o q ≡ m → IsServed o q r
served-granted o q r m g k w s =
    let now : granted_in o r ≡ m = ap (λ (x : Option Mode). unwrap_or x NL) g in
    record {
      granted = inr (now ∙ sym s);
      sought = ap (λ (x : Option Mode). unwrap_or x (unwrap_or (mode_in o r.waiting) (granted_in o r))) k ∙ (ap (λ (x : Option Mode). unwrap_or x (granted_in o r)) w ∙ (now ∙ sym s));
    }

served-same : (o : ℕ) (q r : Queues) → mode_in o r.granted ≡ mode_in o q.granted → mode_in o r.converting ≡ mode_in o q.converting → mode_in o r.waiting ≡ mode_in o q.waiting → IsServed o q r
served-same o q r g k w =
    let now : granted_in o r ≡ granted_in o q = ap (λ (x : Option Mode). unwrap_or x NL) g in
    record {
      granted = inl now;
      sought = ap (λ (x : Option Mode). unwrap_or x (unwrap_or (mode_in o r.waiting) (granted_in o r))) k
          ∙ (ap (λ (x : Option Mode). unwrap_or (mode_in o q.converting) (unwrap_or x (granted_in o r))) w
          ∙ ap (λ (y : Mode). unwrap_or (mode_in o q.converting) (unwrap_or (mode_in o q.waiting) y)) now);
    }

-- one conversion is granted
pub conversion-served : (o : ℕ) (g l : List Held) (c : Held) (cs ws : List Held) → each_once (l ++ c ∷ cs) ≡ true → has_owner c.owner g ≡ true → list_all (λ w. not (has_owner w.owner g)) ws ≡ true
    → IsServed o (queues g (l ++ c ∷ cs) ws) (queues (with_mode c.owner c.mode g) (l ++ cs) ws)
conversion-served o g l c cs ws e has fresh =
    let gone : has_owner c.owner (l ++ cs) ≡ false = without_one l c cs e in
    let parts = or_parts (has_owner c.owner l) (has_owner c.owner cs) (sym (has_owner-append c.owner l cs) ∙ gone) in
    elim (cases_Bool (c.owner == o)) [
      | inl s ↦
          let f : c.owner ≡ o = eqb-true c.owner o s in
          let mine : has_owner o g ≡ true = subst (λ (z : ℕ). has_owner z g ≡ true) f has in
          served-granted o (queues g (l ++ c ∷ cs) ws) (queues (with_mode c.owner c.mode g) (l ++ cs) ws) c.mode
          (subst (λ (z : ℕ). mode_in o (with_mode z c.mode g) ≡ Some c.mode) (sym f) (mode-with_own o c.mode g mine))
          (mode-absent o (l ++ cs) (subst (λ (z : ℕ). has_owner z (l ++ cs) ≡ false) f gone))
          (mode-absent o ws (not_named_in o g ws fresh mine))
          (ap (λ (x : Option Mode). unwrap_or x (unwrap_or (mode_in o ws) (unwrap_or (mode_in o g) NL))) (mode-in_middle o l c cs (subst (λ (z : ℕ). has_owner z l ≡ false) f parts.0) s))
      | inr d ↦ served-same o (queues g (l ++ c ∷ cs) ws) (queues (with_mode c.owner c.mode g) (l ++ cs) ws)
          (mode-with_other o c.owner c.mode g d) (sym (mode-past_other o l c cs d)) refl
    ]

pub keeps-owners : (q : ℕ) (m : Mode) (g cs : List Held) → list_all (λ c. has_owner c.owner g) cs ≡ true → list_all (λ c. has_owner c.owner (with_mode q m g)) cs ≡ true
keeps-owners q m g cs h = list_all-agree (λ c. has_owner c.owner (with_mode q m g)) (λ c. has_owner c.owner g) (λ c. has_owner-with_mode c.owner q m g) cs ∙ h

pub keeps-strangers : (q : ℕ) (m : Mode) (g ws : List Held) → list_all (λ w. not (has_owner w.owner g)) ws ≡ true → list_all (λ w. not (has_owner w.owner (with_mode q m g))) ws ≡ true
keeps-strangers q m g ws h = list_all-agree (λ w. not (has_owner w.owner (with_mode q m g))) (λ w. not (has_owner w.owner g)) (λ w. ap not (has_owner-with_mode w.owner q m g)) ws ∙ h

conversions-served : (o : ℕ) (g l cs ws : List Held) → each_once (l ++ cs) ≡ true → list_all (λ c. has_owner c.owner g) cs ≡ true → list_all (λ w. not (has_owner w.owner g)) ws ≡ true
    → (let r = conversions_considered g l cs in IsServed o (queues g (l ++ cs) ws) (queues r.0 r.1 ws))
conversions-served o g l [] ws e a fresh = subst (λ (k : List Held). IsServed o (queues g k ws) (queues g l ws)) (sym (append-nil l)) (served-none o (queues g l ws))
conversions-served o g l (c ∷ cs) ws e a fresh =
    let p = and_parts (has_owner c.owner g) (list_all (λ c. has_owner c.owner g) cs) a in
    let more : List Held = with_mode c.owner c.mode g in
    elim (fits c.owner c.mode g) as (λ t. (let r : List Held × List Held = (if t then conversions_considered more l cs else conversions_considered g (l ++ c ∷ []) cs) in IsServed o (queues g (l ++ c ∷ cs) ws) (queues r.0 r.1 ws))) [
      | true ↦
          let r = conversions_considered more l cs in
          served-then o (queues g (l ++ c ∷ cs) ws) (queues more (l ++ cs) ws) (queues r.0 r.1 ws)
          (conversion-served o g l c cs ws e p.0 fresh)
          (conversions-served o more l cs ws (each_once-less l c cs e) (keeps-owners c.owner c.mode g cs p.1) (keeps-strangers c.owner c.mode g ws fresh))
      | false ↦
          let r = conversions_considered g (l ++ c ∷ []) cs in
          let same : (l ++ c ∷ []) ++ cs ≡ l ++ c ∷ cs = append_assoc l (c ∷ []) cs in
          subst (λ (k : List Held). IsServed o (queues g k ws) (queues r.0 r.1 ws)) same
          (conversions-served o g (l ++ c ∷ []) cs ws (subst (λ (z : List Held). each_once z ≡ true) (sym same) e) p.1 fresh)
    ]

-- one waiting request is granted
pub request-served : (o : ℕ) (g k l : List Held) (w : Held) (ws : List Held) → each_once (l ++ w ∷ ws) ≡ true → has_owner w.owner g ≡ false → has_owner w.owner k ≡ false
    → IsServed o (queues g k (l ++ w ∷ ws)) (queues (g ++ w ∷ []) k (l ++ ws))
request-served o g k l w ws e fresh apart =
    let gone : has_owner w.owner (l ++ ws) ≡ false = without_one l w ws e in
    let parts = or_parts (has_owner w.owner l) (has_owner w.owner ws) (sym (has_owner-append w.owner l ws) ∙ gone) in
    elim (cases_Bool (w.owner == o)) [
      | inl s ↦
          let f : w.owner ≡ o = eqb-true w.owner o s in
          let no_conversion : mode_in o k ≡ None = mode-absent o k (subst (λ (z : ℕ). has_owner z k ≡ false) f apart) in
          served-granted o (queues g k (l ++ w ∷ ws)) (queues (g ++ w ∷ []) k (l ++ ws)) w.mode
          (mode-in_middle o g w [] (subst (λ (z : ℕ). has_owner z g ≡ false) f fresh) s)
          no_conversion
          (mode-absent o (l ++ ws) (subst (λ (z : ℕ). has_owner z (l ++ ws) ≡ false) f gone))
          (ap (λ (x : Option Mode). unwrap_or x (unwrap_or (mode_in o (l ++ w ∷ ws)) (unwrap_or (mode_in o g) NL))) no_conversion
          ∙ ap (λ (x : Option Mode). unwrap_or x (unwrap_or (mode_in o g) NL)) (mode-in_middle o l w ws (subst (λ (z : ℕ). has_owner z l ≡ false) f parts.0) s))
      | inr d ↦ served-same o (queues g k (l ++ w ∷ ws)) (queues (g ++ w ∷ []) k (l ++ ws)) (mode-push_other o g w d) refl (sym (mode-past_other o l w ws d))
    ]

requests-served : (o : ℕ) (k g l ws : List Held) → each_once (l ++ ws) ≡ true → list_all (λ w. not (has_owner w.owner g)) ws ≡ true → list_all (λ w. not (has_owner w.owner k)) ws ≡ true
    → (let r = requests_considered k g l ws in IsServed o (queues g k (l ++ ws)) (queues r.0 k r.1))
requests-served o k g l [] e a b = subst (λ (z : List Held). IsServed o (queues g k z) (queues g k l)) (sym (append-nil l)) (served-none o (queues g k l))
requests-served o k g l (w ∷ ws) e a b =
    let p = and_parts (not (has_owner w.owner g)) (list_all (λ w. not (has_owner w.owner g)) ws) a in
    let q = and_parts (not (has_owner w.owner k)) (list_all (λ w. not (has_owner w.owner k)) ws) b in
    let more : List Held = g ++ w ∷ [] in
    let gone : has_owner w.owner (l ++ ws) ≡ false = without_one l w ws e in
    let parts = or_parts (has_owner w.owner l) (has_owner w.owner ws) (sym (has_owner-append w.owner l ws) ∙ gone) in
    elim (is_free k g l w) as (λ t. (let r : List Held × List Held = (if t then requests_considered k more l ws else requests_considered k g (l ++ w ∷ []) ws) in IsServed o (queues g k (l ++ w ∷ ws)) (queues r.0 k r.1))) [
      | true ↦
          let r = requests_considered k more l ws in
          served-then o (queues g k (l ++ w ∷ ws)) (queues more k (l ++ ws)) (queues r.0 k r.1)
          (request-served o g k l w ws e (not-true (has_owner w.owner g) p.0) (not-true (has_owner w.owner k) q.0))
          (requests-served o k more l ws (each_once-less l w ws e) (not_in-push g w ws p.1 parts.1) q.1)
      | false ↦
          let r = requests_considered k g (l ++ w ∷ []) ws in
          let same : (l ++ w ∷ []) ++ ws ≡ l ++ w ∷ ws = append_assoc l (w ∷ []) ws in
          subst (λ (z : List Held). IsServed o (queues g k z) (queues r.0 k r.1)) same
          (requests-served o k g (l ++ w ∷ []) ws (subst (λ (z : List Held). each_once z ≡ true) (sym same) e) p.1 q.1)
    ]

-- who isn't granted doesn't convert
pub no_conversion-of : (g k : List Held) → list_all (λ c. has_owner c.owner g) k ≡ true → (w : Held) → not (has_owner w.owner g) ≡ true → has_owner w.owner k ≡ false
no_conversion-of g k h w n =
    elim (cases_Bool (has_owner w.owner k)) [
      | inr f ↦ f
      | inl t ↦ absurd (false≢true (sym (not-true (has_owner w.owner g) n) ∙ named_in w.owner g k h t))
    ]

passed-served : (o : ℕ) (q : Queues) → IsSound q → IsServed o q (passed q)
passed-served o q s =
    let c = conversions_considered q.granted [] q.converting in
    served-then o q (queues c.0 c.1 q.waiting) (passed q)
    (conversions-served o q.granted [] q.converting q.waiting s.converting_once s.converting_granted s.waiting_not_granted)
    (requests-served o c.1 c.0 [] q.waiting s.waiting_once
    (list_all-agree (λ w. not (has_owner w.owner c.0)) (λ w. not (has_owner w.owner q.granted)) (λ w. ap not (conversions-has_owner w.owner q.granted [] q.converting)) q.waiting ∙ s.waiting_not_granted)
    (list_all-weaken (λ w. not (has_owner w.owner q.granted)) (λ w. not (has_owner w.owner c.1))
    (λ w n. ap not (conversions-absent w.owner q.granted [] q.converting (no_conversion-of q.granted q.converting s.converting_granted w n)))
    q.waiting s.waiting_not_granted))

passes-served : (n : ℕ) (o : ℕ) (q : Queues) → IsSound q → IsServed o q (passes n q)
passes-served zero o q s = served-none o q
passes-served (suc n) o q s = served-then o q (passed q) (passes n (passed q)) (passed-served o q s) (passes-served n o (passed q) (passed-sound q s))

pub considered-served : (o : ℕ) (q : Queues) → IsSound q → IsServed o q (considered q)
considered-served o q s = passes-served (queue_length q) o q s
