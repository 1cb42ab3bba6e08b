-- Who waits for whom at a node, by the modes that owners hold and ask there.
use Rattle.std.proofs.Common.{◌≡◌, ℕ, ◌++◌, ◌∷◌, [], ◌⊎◌, inl, inr, Bool, true, false, List, refl, ◌∙◌, sym, ap, subst, append_assoc}
use Rattle.std.specs.Prelude.{◌==◌, not, ◌&&◌, ◌||◌, if◌then◌else◌, Some, Option, unwrap_or}
use Rattle.std.proofs.lemmas.Bool.{false≢true, cases_Bool, eqb-true, and_parts, or_parts, or_cases, or_left, or_right, not-true}
use Rattle.vms_queues.specs.declared.lock_mode.Mode.{Mode}
use Rattle.vms_queues.specs.declared.lock_mode.Mode.TheVariants.{NL}
use Rattle.vms_queues.specs.declared.held.Held.{Held}
use Rattle.vms_queues.specs.Modes.{may_share}
use Rattle.vms_queues.specs.Queues.{Queues, IsSound, has_owner, mode_in, blocks, each_once}
use Rattle.vms_queues.specs.Waits.{blocked_by, conversion_waits, request_waits, waits}
use Rattle.vms_queues.proofs.WaitEdges.{blocked_by-append}
use Rattle.vms_queues.proofs.Soundness.{has_owner-append, without_one}
use Rattle.vms_queues.proofs.PassEdges.{waits-converts_not}
use Rattle.lock_tree_laws.specs.LockTable.{granted_in, sought_in}
use Rattle.lock_tree_laws.specs.Order.{stands_before}
use Rattle.lock_tree_laws.proofs.QueueModes.{mode-absent}
use Rattle.lock_tree_laws.proofs.HeldModes.{mode-has_owner}

-- what an owner converts to, or waits for, is what it asks
pub sought-converted : (u : ℕ) (q : Queues) (k : Mode) → mode_in u q.converting ≡ Some k → sought_in u q ≡ k
sought-converted u q k e = ap (λ (x : Option Mode). unwrap_or x (unwrap_or (mode_in u q.waiting) (granted_in u q))) e

pub sought-waited : (u : ℕ) (q : Queues) (k : Mode) → IsSound q → mode_in u q.waiting ≡ Some k → sought_in u q ≡ k
sought-waited u q k s e =
    ap (λ (x : Option Mode). unwrap_or x (unwrap_or (mode_in u q.waiting) (granted_in u q))) (mode-absent u q.converting (waits-converts_not q u s (mode-has_owner u q.waiting k e)))
    ∙ ap (λ (x : Option Mode). unwrap_or x (granted_in u q)) e

both_not : (a b : Bool) → (not a && not b) ≡ true → (a ≡ false) × (b ≡ false)
both_not false false h = (refl, refl)
both_not true b h = absurd (false≢true h)
both_not false true h = absurd (false≢true h)

-- the entry of b among these stands in the way of a's mode
record IsBlocked (b a : ℕ) (m : Mode) (hs : List Held) : Type 0 where
  pub other : (b == a) ≡ false
  pub mode : Mode
  pub held : mode_in b hs ≡ Some mode
  pub shuts : may_share mode m ≡ false

mode-later : (b : ℕ) (h : Held) (hs : List Held) (k : Mode) → has_owner h.owner hs ≡ false → mode_in b hs ≡ Some k → mode_in b (h ∷ hs) ≡ Some k
mode-later b h hs k once e =
    elim (cases_Bool (h.owner == b)) [
      | inr d ↦ ap (λ (t : Bool). if t then Some h.mode else mode_in b hs) d ∙ e
      | inl s ↦ absurd (false≢true (sym once ∙ subst (λ (z : ℕ). has_owner z hs ≡ true) (sym (eqb-true h.owner b s)) (mode-has_owner b hs k e)))
    ]

blocked-mode : (b a : ℕ) (m : Mode) (hs : List Held) → each_once hs ≡ true → blocked_by b a m hs ≡ true → IsBlocked b a m hs
blocked-mode b a m [] once h = absurd (false≢true h)
blocked-mode b a m (x ∷ xs) once h =
    let p = and_parts (not (has_owner x.owner xs)) (each_once xs) once in
    elim (or_cases ((x.owner == b) && blocks a m x) (blocked_by b a m xs) h) [
      | inl t ↦
          let q = and_parts (x.owner == b) (blocks a m x) t in
          let r = both_not (x.owner == a) (may_share x.mode m) q.1 in record {
            other = subst (λ (z : ℕ). (z == a) ≡ false) (eqb-true x.owner b q.0) r.0;
            mode = x.mode;
            held = ap (λ (t : Bool). if t then Some x.mode else mode_in b xs) q.0;
            shuts = r.1;
          }
      | inr t ↦
          let later = blocked-mode b a m xs p.1 t in record {
            other = later.other;
            mode = later.mode;
            held = mode-later b x xs later.mode (not-true (has_owner x.owner xs) p.0) later.held;
            shuts = later.shuts;
          }
    ]

-- a converts to a mode that an entry of b stands in the way of
record Converts (g cs : List Held) (a b : ℕ) : Type 0 where
  pub mode : Mode
  pub asked : mode_in a cs ≡ Some mode
  pub blocked : blocked_by b a mode g ≡ true

conversion-blocked : (g cs : List Held) (a b : ℕ) → each_once cs ≡ true → conversion_waits g a b cs ≡ true → Converts g cs a b
conversion-blocked g [] a b once h = absurd (false≢true h)
conversion-blocked g (c ∷ cs) a b once h =
    let p = and_parts (not (has_owner c.owner cs)) (each_once cs) once in
    elim (or_cases ((c.owner == a) && blocked_by b a c.mode g) (conversion_waits g a b cs) h) [
      | inl t ↦
          let q = and_parts (c.owner == a) (blocked_by b a c.mode g) t in
          record { mode = c.mode; asked = ap (λ (t : Bool). if t then Some c.mode else mode_in a cs) q.0; blocked = q.1 }
      | inr t ↦
          let later = conversion-blocked g cs a b p.1 t in
          record { mode = later.mode; asked = mode-later a c cs later.mode (not-true (has_owner c.owner cs) p.0) later.asked; blocked = later.blocked }
    ]

pub ahead-before : (b a : ℕ) (xs ys : List Held) → has_owner b xs ≡ true → has_owner a xs ≡ false → stands_before b a (xs ++ ys) ≡ true
ahead-before b a [] ys h n = absurd (false≢true h)
ahead-before b a (x ∷ xs) ys h n =
    let p = or_parts (x.owner == a) (has_owner a xs) n in
    elim (cases_Bool (x.owner == b)) [
      | inl s ↦ ap (λ (t : Bool). if t || (x.owner == a) then t else stands_before b a (xs ++ ys)) s
      | inr d ↦ ap (λ (t : Bool). if t || (x.owner == a) then t else stands_before b a (xs ++ ys)) d
          ∙ (ap (λ (t : Bool). if t then false else stands_before b a (xs ++ ys)) p.0
          ∙ ahead-before b a xs ys (subst (λ (t : Bool). (t || has_owner b xs) ≡ true) d h) p.1)
    ]

-- a waits for a mode that an entry of b stands in the way of: one that is granted, converts, or waits ahead
record Requests (g k ws : List Held) (a b : ℕ) (all : List Held) : Type 0 where
  pub mode : Mode
  pub asked : mode_in a ws ≡ Some mode
  pub blocked : (blocked_by b a mode g ≡ true) ⊎ ((blocked_by b a mode k ≡ true) ⊎ ((blocked_by b a mode all ≡ true) × (stands_before b a all ≡ true)))

blocked-owner : (b a : ℕ) (m : Mode) (hs : List Held) → blocked_by b a m hs ≡ true → has_owner b hs ≡ true
blocked-owner b a m [] h = absurd (false≢true h)
blocked-owner b a m (x ∷ xs) h =
    elim (or_cases ((x.owner == b) && blocks a m x) (blocked_by b a m xs) h) [
      | inl t ↦ or_left (x.owner == b) (has_owner b xs) (and_parts (x.owner == b) (blocks a m x) t).0
      | inr t ↦ or_right (x.owner == b) (has_owner b xs) (blocked-owner b a m xs t)
    ]

request-blocked : (g k : List Held) (a b : ℕ) (ahead ws : List Held) → each_once (ahead ++ ws) ≡ true → request_waits g k a b ahead ws ≡ true → Requests g k ws a b (ahead ++ ws)
request-blocked g k a b ahead [] once h = absurd (false≢true h)
request-blocked g k a b ahead (w ∷ ws) once h =
    let gone : has_owner w.owner (ahead ++ ws) ≡ false = without_one ahead w ws once in
    let parts = or_parts (has_owner w.owner ahead) (has_owner w.owner ws) (sym (has_owner-append w.owner ahead ws) ∙ gone) in
    let same : (ahead ++ w ∷ []) ++ ws ≡ ahead ++ w ∷ ws = append_assoc ahead (w ∷ []) ws in
    let any : Bool = blocked_by b a w.mode k || blocked_by b a w.mode ahead in
    elim (or_cases ((w.owner == a) && (blocked_by b a w.mode g || any)) (request_waits g k a b (ahead ++ w ∷ []) ws) h) [
      | inl t ↦
          let q = and_parts (w.owner == a) (blocked_by b a w.mode g || any) t in
          let own : w.owner ≡ a = eqb-true w.owner a q.0 in record {
            mode = w.mode;
            asked = ap (λ (t : Bool). if t then Some w.mode else mode_in a ws) q.0;
            blocked = elim (or_cases (blocked_by b a w.mode g) any q.1) [
              | inl x ↦ inl x
              | inr y ↦ elim (or_cases (blocked_by b a w.mode k) (blocked_by b a w.mode ahead) y) [
                | inl x ↦ inr (inl x)
                | inr x ↦ inr (inr (
                  blocked_by-append b a w.mode ahead (w ∷ ws) ∙ or_left (blocked_by b a w.mode ahead) (blocked_by b a w.mode (w ∷ ws)) x,
                  ahead-before b a ahead (w ∷ ws) (blocked-owner b a w.mode ahead x) (subst (λ (z : ℕ). has_owner z ahead ≡ false) own parts.0),
                ))
              ]
            ];
          }
      | inr t ↦
          let later = request-blocked g k a b (ahead ++ w ∷ []) ws (subst (λ (z : List Held). each_once z ≡ true) (sym same) once) t in record {
            mode = later.mode;
            asked = mode-later a w ws later.mode parts.1 later.asked;
            blocked = subst (λ (z : List Held). (blocked_by b a later.mode g ≡ true) ⊎ ((blocked_by b a later.mode k ≡ true) ⊎ ((blocked_by b a later.mode z ≡ true) × (stands_before b a z ≡ true)))) same later.blocked;
          }
    ]

-- What b, for whom a waits, has there: a lock that stands in the way, or, where a has none, a request that comes first.
pub record StandsInWay (q : Queues) (a b : ℕ) : Type 0 where
  pub other : (b == a) ≡ false
  pub way : (may_share (granted_in b q) (sought_in a q) ≡ false)
      ⊎ ((has_owner a q.waiting ≡ true) × ((may_share (sought_in b q) (sought_in a q) ≡ false) × ((has_owner b q.converting ≡ true) ⊎ (stands_before b a q.waiting ≡ true))))

module _ (q : Queues) (a b : ℕ) (sound : IsSound q) where
  by-lock : (m : Mode) → sought_in a q ≡ m → blocked_by b a m q.granted ≡ true → StandsInWay q a b
  by-lock m e h =
      let k = blocked-mode b a m q.granted sound.granted_once h in record {
        other = k.other;
        way = inl (subst (λ (y : Mode). may_share (granted_in b q) y ≡ false) (sym e) (ap (λ (x : Option Mode). may_share (unwrap_or x NL) m) k.held ∙ k.shuts));
      }

  pub stands-in_way : waits q a b ≡ true → StandsInWay q a b
  stands-in_way h = elim (or_cases (conversion_waits q.granted a b q.converting) (request_waits q.granted q.converting a b [] q.waiting) h) [
    | inl t ↦
        let c = conversion-blocked q.granted q.converting a b sound.converting_once t in
        by-lock c.mode (sought-converted a q c.mode c.asked) c.blocked
    | inr t ↦
        let r = request-blocked q.granted q.converting a b [] q.waiting sound.waiting_once t in
        let e : sought_in a q ≡ r.mode = sought-waited a q r.mode sound r.asked in
        let there : has_owner a q.waiting ≡ true = mode-has_owner a q.waiting r.mode r.asked in
        elim r.blocked [
          | inl x ↦ by-lock r.mode e x
          | inr y ↦ elim y [
            | inl x ↦
                let k = blocked-mode b a r.mode q.converting sound.converting_once x in record {
                  other = k.other;
                  way = inr (
                    there,
                    (subst (λ (y : Mode). may_share (sought_in b q) y ≡ false) (sym e) (ap (λ (y : Mode). may_share y r.mode) (sought-converted b q k.mode k.held) ∙ k.shuts), inl (mode-has_owner b q.converting k.mode k.held)),
                  );
                }
            | inr x ↦
                let k = blocked-mode b a r.mode q.waiting sound.waiting_once x.0 in record {
                  other = k.other;
                  way = inr (
                    there,
                    (subst (λ (y : Mode). may_share (sought_in b q) y ≡ false) (sym e) (ap (λ (y : Mode). may_share y r.mode) (sought-waited b q k.mode sound k.held) ∙ k.shuts), inr x.1),
                  );
                }
          ]
        ]
  ]
