-- Lists of entries by the modes of their owners.
use Rattle.std.proofs.Common.{◌≡◌, ℕ, ◌++◌, ◌∷◌, [], ◌⊎◌, inl, inr, Bool, true, false, List, refl, ◌∙◌, sym, ap, subst, arith}
use Rattle.std.specs.Prelude.{◌==◌, not, ◌&&◌, ◌||◌, if◌then◌else◌, Some, None, Option, unwrap_or}
use Rattle.std.specs.List.{list_all}
use Rattle.std.proofs.lemmas.Bool.{false≢true, cases_Bool, cases_eq, ne_eqb, eq-eqb, eqb-true, and_parts, and_from, or_cases, or_left, or_right, not-true, not_from_false}
use Rattle.std.proofs.lemmas.Grind.{common_steps}
use Rattle.vms_queues.specs.declared.lock_mode.Mode.{Mode}
use Rattle.vms_queues.specs.declared.lock_mode.Mode.TheVariants.{NL}
use Rattle.vms_queues.specs.declared.held.Held.{Held}
use Rattle.vms_queues.specs.Modes.{may_share, at_most}
use Rattle.vms_queues.specs.Queues.{Queues, IsSound, has_owner, mode_in, blocks, fits, covers, raises, is_free, is_queued, without, with_mode, entry, each_once, all_share, is_settled, conversions_wait, requests_wait}
use Rattle.vms_queues.specs.Waits.{blocked_by, conversion_waits, request_waits}
use Rattle.vms_queues.proofs.ModeLaws.{all_modes-at, may_share-comm}
use Rattle.vms_queues.proofs.Entries.{has_owner-without, with_mode-absent, fits-from_covers}
use Rattle.vms_queues.proofs.PassEdges.{not_named_in}
use Rattle.vms_queues.proofs.RequestEdges.{moded-own, moded-other}
use Rattle.lock_needs.proofs.ModeTables.{at_most-refl}
use Rattle.lock_tree_laws.specs.LockTable.{granted_in, sought_in}
use Rattle.lock_tree_laws.proofs.QueueModes.{mode-absent}

pub option-cases : (x : Option Mode) → (x ≡ None) ⊎ ((m : Mode) × (x ≡ Some m))
option-cases None = inl refl
option-cases (Some m) = inr (m, refl)

pub one-mode : (m k : Mode) → Some m ≡ Some k → m ≡ k
one-mode m k e = ap (λ (x : Option Mode). unwrap_or x NL) e

pub mode-has_owner : (o : ℕ) (hs : List Held) (m : Mode) → mode_in o hs ≡ Some m → has_owner o hs ≡ true
mode-has_owner o hs m e =
    elim (cases_Bool (has_owner o hs)) [
      | inl h ↦ h
      | inr n ↦ absurd (false≢true (ap (λ (x : Option Mode). elim x [ None ↦ false | Some k ↦ true ]) (sym (mode-absent o hs n) ∙ e)))
    ]

pub no-mode_absent : (o : ℕ) (hs : List Held) → mode_in o hs ≡ None → has_owner o hs ≡ false
no-mode_absent o [] e = refl
no-mode_absent o (h ∷ hs) e = grind (arith, common_steps, no-mode_absent o hs)

pub mode-without_own : (o : ℕ) (hs : List Held) → mode_in o (without o hs) ≡ None
mode-without_own o hs = mode-absent o (without o hs) (has_owner-without o hs)

pub mode-without_other : (o p : ℕ) (hs : List Held) → (o == p) ≡ false → mode_in o (without p hs) ≡ mode_in o hs
mode-without_other o p [] d = refl
mode-without_other o p (h ∷ hs) d = grind (arith, common_steps, mode-without_other o p hs d)

-- each entry has this
abbrev pub AllHeld : (Held → Type 0) → List Held → Type 0
AllHeld P [] = Unit {0}
AllHeld P (h ∷ hs) = P h × AllHeld P hs

-- where each owner has one entry, what holds of the owners' modes holds of the entries
pub each-held : (P : ℕ → Mode → Type 0) (hs : List Held) → each_once hs ≡ true → ((a : ℕ) (k : Mode) → mode_in a hs ≡ Some k → P a k) → AllHeld (λ h. P h.owner h.mode) hs
each-held P [] e f = tt
each-held P (h ∷ hs) e f =
    let p = and_parts (not (has_owner h.owner hs)) (each_once hs) e in (
      f h.owner h.mode (ap (λ (b : Bool). if b then Some h.mode else mode_in h.owner hs) (eq-eqb h.owner h.owner refl)),
      each-held P hs p.1 (λ a k m. f a k (elim (cases_eq h.owner a) [
        | inl s ↦ absurd (false≢true (sym (not-true (has_owner h.owner hs) p.0) ∙ subst (λ (z : ℕ). has_owner z hs ≡ true) (sym s) (mode-has_owner a hs k m)))
        | inr d ↦ ap (λ (b : Bool). if b then Some h.mode else mode_in a hs) (ne_eqb h.owner a d) ∙ m
      ])),
    )

pub fits-held : (o : ℕ) (m : Mode) (hs : List Held) → AllHeld (λ h. not (not (h.owner == o) && not (may_share h.mode m)) ≡ true) hs → fits o m hs ≡ true
fits-held o m [] f = refl
fits-held o m (h ∷ hs) f = and_from (not (blocks o m h)) (fits o m hs) f.0 (fits-held o m hs f.1)

beside-test : (same shares : Bool) → (same ≡ false → shares ≡ true) → not (not same && not shares) ≡ true
beside-test true s f = refl
beside-test false true f = refl
beside-test false false f = absurd (false≢true (f refl))

-- a mode that shares with the mode of each other owner fits
pub fits-modes : (o : ℕ) (m : Mode) (hs : List Held) → each_once hs ≡ true → ((u : ℕ) (k : Mode) → (u == o) ≡ false → mode_in u hs ≡ Some k → may_share k m ≡ true) → fits o m hs ≡ true
fits-modes o m hs e f =
    fits-held o m hs (each-held (λ u k. not (not (u == o) && not (may_share k m)) ≡ true) hs e (λ u k h. beside-test (u == o) (may_share k m) (λ d. f u k d h)))

-- ---- granted modes share

pub nothing-shares : (m : Mode) → may_share NL m ≡ true
nothing-shares m = all_modes-at (λ m. may_share NL m) refl m

shares-one : (a : Mode) (hs : List Held) (u : ℕ) (k : Mode) → list_all (λ h. may_share a h.mode) hs ≡ true → mode_in u hs ≡ Some k → may_share a k ≡ true
shares-one a [] u k h e = absurd (false≢true (ap (λ (x : Option Mode). elim x [ None ↦ false | Some k ↦ true ]) e))
shares-one a (x ∷ xs) u k h e =
    let p = and_parts (may_share a x.mode) (list_all (λ h. may_share a h.mode) xs) h in
    elim (cases_Bool (x.owner == u)) [
      | inl s ↦ subst (λ (y : Mode). may_share a y ≡ true) (one-mode x.mode k (sym (ap (λ (b : Bool). if b then Some x.mode else mode_in u xs) s) ∙ e)) p.0
      | inr d ↦ shares-one a xs u k p.1 (sym (ap (λ (b : Bool). if b then Some x.mode else mode_in u xs) d) ∙ e)
    ]

shares-held : (hs : List Held) (o u : ℕ) (m k : Mode) → all_share hs ≡ true → (u == o) ≡ false → mode_in o hs ≡ Some m → mode_in u hs ≡ Some k → may_share m k ≡ true
shares-held [] o u m k h d e f = absurd (false≢true (ap (λ (x : Option Mode). elim x [ None ↦ false | Some k ↦ true ]) e))
shares-held (x ∷ xs) o u m k h d e f =
    let p = and_parts (list_all (λ y. may_share x.mode y.mode) xs) (all_share xs) h in
    elim (cases_Bool (x.owner == o)) [
      | inl s ↦
          let other : (x.owner == u) ≡ false = elim (cases_Bool (x.owner == u)) [
            | inr n ↦ n
            | inl t ↦ absurd (false≢true (sym d ∙ eq-eqb u o (sym (eqb-true x.owner u t) ∙ eqb-true x.owner o s)))
          ] in
          subst (λ (y : Mode). may_share y k ≡ true) (one-mode x.mode m (sym (ap (λ (b : Bool). if b then Some x.mode else mode_in o xs) s) ∙ e))
          (shares-one x.mode xs u k p.0 (sym (ap (λ (b : Bool). if b then Some x.mode else mode_in u xs) other) ∙ f))
      | inr n ↦
          let there : mode_in o xs ≡ Some m = sym (ap (λ (b : Bool). if b then Some x.mode else mode_in o xs) n) ∙ e in
          elim (cases_Bool (x.owner == u)) [
            | inl t ↦ may_share-comm m k
                ∙ subst (λ (y : Mode). may_share y m ≡ true) (one-mode x.mode k (sym (ap (λ (b : Bool). if b then Some x.mode else mode_in u xs) t) ∙ f))
                (shares-one x.mode xs o m p.0 there)
            | inr v ↦ shares-held xs o u m k p.1 d there (sym (ap (λ (b : Bool). if b then Some x.mode else mode_in u xs) v) ∙ f)
          ]
    ]

pub shares-in : (q : Queues) (o u : ℕ) → IsSound q → (u == o) ≡ false → may_share (granted_in o q) (granted_in u q) ≡ true
shares-in q o u s d =
    elim (option-cases (mode_in o q.granted)) [
      | inl none ↦ subst (λ (x : Option Mode). may_share (unwrap_or x NL) (granted_in u q) ≡ true) (sym none) (nothing-shares (granted_in u q))
      | inr mine ↦ elim (option-cases (mode_in u q.granted)) [
        | inl none ↦ may_share-comm (granted_in o q) (granted_in u q)
            ∙ subst (λ (x : Option Mode). may_share (unwrap_or x NL) (granted_in o q) ≡ true) (sym none) (nothing-shares (granted_in o q))
        | inr theirs ↦
            subst (λ (x : Option Mode). may_share (unwrap_or x NL) (granted_in u q) ≡ true) (sym mine.1)
            (subst (λ (x : Option Mode). may_share mine.0 (unwrap_or x NL) ≡ true) (sym theirs.1) (shares-held q.granted o u mine.0 theirs.0 s.shares d mine.1 theirs.1))
      ]
    ]

-- ---- who asks what it holds isn't queued

covers-mode : (o : ℕ) (hs : List Held) (m : Mode) → mode_in o hs ≡ Some m → covers o m hs ≡ true
covers-mode o [] m e = absurd (false≢true (ap (λ (x : Option Mode). elim x [ None ↦ false | Some k ↦ true ]) e))
covers-mode o (x ∷ xs) m e =
    elim (cases_Bool (x.owner == o)) [
      | inl s ↦ or_left ((x.owner == o) && at_most m x.mode) (covers o m xs)
          (and_from (x.owner == o) (at_most m x.mode) s
          (subst (λ (y : Mode). at_most y x.mode ≡ true) (one-mode x.mode m (sym (ap (λ (b : Bool). if b then Some x.mode else mode_in o xs) s) ∙ e)) (at_most-refl x.mode)))
      | inr d ↦ or_right ((x.owner == o) && at_most m x.mode) (covers o m xs)
          (covers-mode o xs m (sym (ap (λ (b : Bool). if b then Some x.mode else mode_in o xs) d) ∙ e))
    ]

pub covers-less : (o : ℕ) (hs : List Held) (m k : Mode) → mode_in o hs ≡ Some m → at_most k m ≡ true → covers o k hs ≡ true
covers-less o [] m k e l = absurd (false≢true (ap (λ (x : Option Mode). elim x [ None ↦ false | Some k ↦ true ]) e))
covers-less o (x ∷ xs) m k e l =
    elim (cases_Bool (x.owner == o)) [
      | inl s ↦ or_left ((x.owner == o) && at_most k x.mode) (covers o k xs)
          (and_from (x.owner == o) (at_most k x.mode) s
          (subst (λ (y : Mode). at_most k y ≡ true) (sym (one-mode x.mode m (sym (ap (λ (b : Bool). if b then Some x.mode else mode_in o xs) s) ∙ e))) l))
      | inr d ↦ or_right ((x.owner == o) && at_most k x.mode) (covers o k xs)
          (covers-less o xs m k (sym (ap (λ (b : Bool). if b then Some x.mode else mode_in o xs) d) ∙ e) l)
    ]

pub raises-mode : (o : ℕ) (hs : List Held) (m k : Mode) → mode_in o hs ≡ Some m → at_most m k ≡ true → raises o k hs ≡ true
raises-mode o [] m k e l = absurd (false≢true (ap (λ (x : Option Mode). elim x [ None ↦ false | Some k ↦ true ]) e))
raises-mode o (x ∷ xs) m k e l =
    elim (cases_Bool (x.owner == o)) [
      | inl s ↦ or_left ((x.owner == o) && at_most x.mode k) (raises o k xs)
          (and_from (x.owner == o) (at_most x.mode k) s
          (subst (λ (y : Mode). at_most y k ≡ true) (sym (one-mode x.mode m (sym (ap (λ (b : Bool). if b then Some x.mode else mode_in o xs) s) ∙ e))) l))
      | inr d ↦ or_right ((x.owner == o) && at_most x.mode k) (raises o k xs)
          (raises-mode o xs m k (sym (ap (λ (b : Bool). if b then Some x.mode else mode_in o xs) d) ∙ e) l)
    ]

waiting-conversion : (g cs : List Held) (o : ℕ) (m : Mode) → conversions_wait g cs ≡ true → mode_in o cs ≡ Some m → fits o m g ≡ false
waiting-conversion g [] o m h e = absurd (false≢true (ap (λ (x : Option Mode). elim x [ None ↦ false | Some k ↦ true ]) e))
waiting-conversion g (c ∷ cs) o m h e =
    let p = and_parts (not (fits c.owner c.mode g)) (conversions_wait g cs) h in
    elim (cases_Bool (c.owner == o)) [
      | inl s ↦ subst (λ (z : ℕ). fits z m g ≡ false) (eqb-true c.owner o s)
          (subst (λ (y : Mode). fits c.owner y g ≡ false) (one-mode c.mode m (sym (ap (λ (b : Bool). if b then Some c.mode else mode_in o cs) s) ∙ e)) (not-true (fits c.owner c.mode g) p.0))
      | inr d ↦ waiting-conversion g cs o m p.1 (sym (ap (λ (b : Bool). if b then Some c.mode else mode_in o cs) d) ∙ e)
    ]

fits-nothing : (o : ℕ) (hs : List Held) → fits o NL hs ≡ true
fits-nothing o [] = refl
fits-nothing o (h ∷ hs) =
    and_from (not (blocks o NL h)) (fits o NL hs) (beside-test (h.owner == o) (may_share h.mode NL) (λ d. may_share-comm h.mode NL ∙ nothing-shares h.mode)) (fits-nothing o hs)

waiting-nothing : (k g l ws : List Held) (o : ℕ) → requests_wait k g l ws ≡ true → mode_in o ws ≡ Some NL → ⊥
waiting-nothing k g l [] o h e = false≢true (ap (λ (x : Option Mode). elim x [ None ↦ false | Some k ↦ true ]) e)
waiting-nothing k g l (w ∷ ws) o h e =
    let p = and_parts (not (is_free k g l w)) (requests_wait k g (l ++ w ∷ []) ws) h in
    elim (cases_Bool (w.owner == o)) [
      | inl s ↦
          let nl : w.mode ≡ NL = one-mode w.mode NL (sym (ap (λ (b : Bool). if b then Some w.mode else mode_in o ws) s) ∙ e) in
          let free : is_free k g l w ≡ true =
          subst (λ (y : Mode). (fits w.owner y g && (fits w.owner y k && fits w.owner y l)) ≡ true) (sym nl)
          (and_from (fits w.owner NL g) (fits w.owner NL k && fits w.owner NL l) (fits-nothing w.owner g)
          (and_from (fits w.owner NL k) (fits w.owner NL l) (fits-nothing w.owner k) (fits-nothing w.owner l))) in
          false≢true (sym (not-true (is_free k g l w) p.0) ∙ free)
      | inr d ↦ waiting-nothing k g (l ++ w ∷ []) ws o p.1 (sym (ap (λ (b : Bool). if b then Some w.mode else mode_in o ws) d) ∙ e)
    ]

-- In settled queues who asks no other mode than it holds has nothing queued.
pub unqueued : (q : Queues) (o : ℕ) → IsSound q → is_settled q ≡ true → sought_in o q ≡ granted_in o q → is_queued o q ≡ false
unqueued q o s calm same =
    let p = and_parts (conversions_wait q.granted q.converting) (requests_wait q.converting q.granted [] q.waiting) calm in
    elim (option-cases (mode_in o q.converting)) [
      | inr c ↦
          let asked : sought_in o q ≡ c.0 = ap (λ (x : Option Mode). unwrap_or x (unwrap_or (mode_in o q.waiting) (granted_in o q))) c.1 in
          let held : (m : Mode) × (mode_in o q.granted ≡ Some m) = elim (option-cases (mode_in o q.granted)) [
            | inr h ↦ h
            | inl none ↦ absurd (false≢true (sym (no-mode_absent o q.granted none) ∙ converting-granted q.granted q.converting s.converting_granted (mode-has_owner o q.converting c.0 c.1)))
          ] in
          let is : held.0 ≡ c.0 = sym (ap (λ (x : Option Mode). unwrap_or x NL) held.1) ∙ (sym same ∙ asked) in
          absurd (false≢true (sym (waiting-conversion q.granted q.converting o c.0 p.0 c.1)
          ∙ fits-from_covers o c.0 q.granted s.shares s.granted_once (covers-mode o q.granted c.0 (held.1 ∙ ap (λ (y : Mode). Some y) is))))
      | inl none ↦ elim (option-cases (mode_in o q.waiting)) [
        | inr w ↦
            let asked : sought_in o q ≡ w.0 =
            ap (λ (x : Option Mode). unwrap_or x (unwrap_or (mode_in o q.waiting) (granted_in o q))) none
            ∙ ap (λ (x : Option Mode). unwrap_or x (granted_in o q)) w.1 in
            let free : granted_in o q ≡ NL = ap (λ (x : Option Mode). unwrap_or x NL)
            (mode-absent o q.granted (elim (cases_Bool (has_owner o q.granted)) [
              | inr n ↦ n
              | inl y ↦ absurd (false≢true (sym (not_named_in o q.granted q.waiting s.waiting_not_granted y) ∙ mode-has_owner o q.waiting w.0 w.1))
            ])) in
            absurd (waiting-nothing q.converting q.granted [] q.waiting o p.1 (w.1 ∙ ap (λ (y : Mode). Some y) (sym asked ∙ (same ∙ free))))
        | inl empty ↦ ap (λ (b : Bool). b || has_owner o q.waiting) (no-mode_absent o q.converting none) ∙ no-mode_absent o q.waiting empty
      ]
    ]
  where
    converting-granted : (g cs : List Held) → list_all (λ c. has_owner c.owner g) cs ≡ true → has_owner o cs ≡ true → has_owner o g ≡ true
    converting-granted g [] a h = absurd (false≢true h)
    converting-granted g (c ∷ cs) a h =
        let p = and_parts (has_owner c.owner g) (list_all (λ c. has_owner c.owner g) cs) a in
        elim (or_cases (c.owner == o) (has_owner o cs) h) [
          | inl e ↦ subst (λ (z : ℕ). has_owner z g ≡ true) (eqb-true c.owner o e) p.0
          | inr t ↦ converting-granted g cs p.1 t
        ]

-- ---- a raised mode adds no wait

pub blocked-kept : (o b a : ℕ) (m k : Mode) (g : List Held) → each_once g ≡ true → ((y : Mode) → mode_in o g ≡ Some y → (a ≡ o → ⊥) → may_share y k ≡ true → may_share m k ≡ true) → blocked_by b a k (with_mode o m g) ≡ true → blocked_by b a k g ≡ true
blocked-kept o b a m k [] e f h = h
blocked-kept o b a m k (x ∷ xs) e f h =
    let once = and_parts (not (has_owner x.owner xs)) (each_once xs) e in
    elim (cases_eq x.owner o) [
      | inl own ↦
          let absent : has_owner o xs ≡ false = subst (λ (q : ℕ). has_owner q xs ≡ false) own (not-true (has_owner x.owner xs) once.0) in
          let there : (((o == b) && blocks a k (entry o m)) || blocked_by b a k xs) ≡ true =
          subst (λ (hs : List Held). (((o == b) && blocks a k (entry o m)) || blocked_by b a k hs) ≡ true) (with_mode-absent o m xs absent)
          (subst (λ (y : Held). (((y.owner == b) && blocks a k y) || blocked_by b a k (with_mode o m xs)) ≡ true) (moded-own o m x own) h) in
          elim (or_cases ((o == b) && blocks a k (entry o m)) (blocked_by b a k xs) there) [
            | inr t ↦ or_right ((x.owner == b) && blocks a k x) (blocked_by b a k xs) t
            | inl t ↦
                let p = and_parts (o == b) (blocks a k (entry o m)) t in
                let q = and_parts (not (o == a)) (not (may_share m k)) p.1 in
                let apart : a ≡ o → ⊥ = λ z. false≢true (sym (not-true (o == a) q.0) ∙ eq-eqb o a (sym z)) in
                let mine : mode_in o (x ∷ xs) ≡ Some x.mode = ap (λ (t : Bool). if t then Some x.mode else mode_in o xs) (eq-eqb x.owner o own) in
                let busy : may_share x.mode k ≡ false = elim (cases_Bool (may_share x.mode k)) [
                  | inr n ↦ n
                  | inl y ↦ absurd (false≢true (sym (not-true (may_share m k) q.1) ∙ f x.mode mine apart y))
                ] in
                or_left ((x.owner == b) && blocks a k x) (blocked_by b a k xs)
                (and_from (x.owner == b) (blocks a k x) (subst (λ (z : ℕ). (z == b) ≡ true) (sym own) p.0)
                (and_from (not (x.owner == a)) (not (may_share x.mode k)) (subst (λ (z : ℕ). not (z == a) ≡ true) (sym own) q.0) (not_from_false (may_share x.mode k) busy)))
          ]
      | inr foreign ↦
          let there : (((x.owner == b) && blocks a k x) || blocked_by b a k (with_mode o m xs)) ≡ true =
          subst (λ (y : Held). (((y.owner == b) && blocks a k y) || blocked_by b a k (with_mode o m xs)) ≡ true) (moded-other o m x foreign) h in
          elim (or_cases ((x.owner == b) && blocks a k x) (blocked_by b a k (with_mode o m xs)) there) [
            | inl t ↦ or_left ((x.owner == b) && blocks a k x) (blocked_by b a k xs) t
            | inr t ↦ or_right ((x.owner == b) && blocks a k x) (blocked_by b a k xs)
                (blocked-kept o b a m k xs once.1 (λ y z. f y (ap (λ (t : Bool). if t then Some x.mode else mode_in o xs) (ne_eqb x.owner o foreign) ∙ z)) t)
          ]
    ]

-- whoever is in the way of the owner's mode where this lock is raised was in its way before
abbrev pub BlocksNoMoreOf : List Held → ℕ → Mode → ℕ → Mode → Type 0
BlocksNoMoreOf g o m a k = (b : ℕ) → blocked_by b a k (with_mode o m g) ≡ true → blocked_by b a k g ≡ true

pub conversion_waits-kept : (g : List Held) (o : ℕ) (m : Mode) (a b : ℕ) (cs : List Held) → AllHeld (λ c. BlocksNoMoreOf g o m c.owner c.mode) cs → conversion_waits (with_mode o m g) a b cs ≡ true → conversion_waits g a b cs ≡ true
conversion_waits-kept g o m a b [] f h = h
conversion_waits-kept g o m a b (c ∷ cs) f h =
    elim (or_cases ((c.owner == a) && blocked_by b a c.mode (with_mode o m g)) (conversion_waits (with_mode o m g) a b cs) h) [
      | inl t ↦
          let p = and_parts (c.owner == a) (blocked_by b a c.mode (with_mode o m g)) t in
          or_left ((c.owner == a) && blocked_by b a c.mode g) (conversion_waits g a b cs)
          (and_from (c.owner == a) (blocked_by b a c.mode g) p.0
          (subst (λ (z : ℕ). blocked_by b z c.mode (with_mode o m g) ≡ true → blocked_by b z c.mode g ≡ true) (eqb-true c.owner a p.0) (f.0 b) p.1))
      | inr t ↦ or_right ((c.owner == a) && blocked_by b a c.mode g) (conversion_waits g a b cs) (conversion_waits-kept g o m a b cs f.1 t)
    ]

or_first : (x u y : Bool) → (x ≡ true → u ≡ true) → (x || y) ≡ true → (u || y) ≡ true
or_first true u y f h = or_left u y (f refl)
or_first false u y f h = or_right u y h

pub request_waits-kept : (g k : List Held) (o : ℕ) (m : Mode) (a b : ℕ) (ahead ws : List Held) → AllHeld (λ c. BlocksNoMoreOf g o m c.owner c.mode) ws → request_waits (with_mode o m g) k a b ahead ws ≡ true → request_waits g k a b ahead ws ≡ true
request_waits-kept g k o m a b ahead [] f h = h
request_waits-kept g k o m a b ahead (w ∷ ws) f h =
    let rest : Bool = blocked_by b a w.mode k || blocked_by b a w.mode ahead in
    elim (or_cases ((w.owner == a) && (blocked_by b a w.mode (with_mode o m g) || rest)) (request_waits (with_mode o m g) k a b (ahead ++ w ∷ []) ws) h) [
      | inl t ↦
          let p = and_parts (w.owner == a) (blocked_by b a w.mode (with_mode o m g) || rest) t in
          or_left ((w.owner == a) && (blocked_by b a w.mode g || rest)) (request_waits g k a b (ahead ++ w ∷ []) ws)
          (and_from (w.owner == a) (blocked_by b a w.mode g || rest) p.0
          (or_first (blocked_by b a w.mode (with_mode o m g)) (blocked_by b a w.mode g) rest
          (subst (λ (z : ℕ). blocked_by b z w.mode (with_mode o m g) ≡ true → blocked_by b z w.mode g ≡ true) (eqb-true w.owner a p.0) (f.0 b)) p.1))
      | inr t ↦ or_right ((w.owner == a) && (blocked_by b a w.mode g || rest)) (request_waits g k a b (ahead ++ w ∷ []) ws) (request_waits-kept g k o m a b (ahead ++ w ∷ []) ws f.1 t)
    ]
