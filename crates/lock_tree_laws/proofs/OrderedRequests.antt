-- What each request leaves of the order of a node's queues.
use Rattle.std.proofs.Common.{◌≡◌, ℕ, ◌++◌, ◌∷◌, [], inl, inr, Bool, true, false, List, refl, ◌∙◌, sym, ap, subst}
use Rattle.std.specs.Prelude.{◌==◌, not, ◌&&◌, ◌||◌, if◌then◌else◌, Some, Option, unwrap_or}
use Rattle.std.proofs.lemmas.Bool.{false≢true, cases_Bool, eqb-true, and_parts, or_cases, not-true}
use Rattle.rdb_types.specs.declared.node.Node.{Node}
use Rattle.vms_queues.specs.declared.lock_mode.Mode.{Mode}
use Rattle.vms_queues.specs.declared.lock_mode.Mode.TheVariants.{NL}
use Rattle.vms_queues.specs.declared.held.Held.{Held}
use Rattle.vms_queues.specs.Modes.{may_share, at_most}
use Rattle.vms_queues.specs.Queues.{Queues, IsSound, has_owner, mode_in, fits, is_absent, is_queued, is_grantable, with_mode, without, entry, with_lock, with_request, with_conversion, considered, after_weaken, after_release, after_cancel}
use Rattle.vms_queues.proofs.ModeLaws.{may_share-comm}
use Rattle.vms_queues.proofs.Entries.{has_owner-with_mode, has_owner-push, has_owner-without, has_owner-without_none, fits-from_covers}
use Rattle.vms_queues.proofs.Soundness.{list_all-push, list_all-filter, sound-granted, sound-with_mode, sound-gone, sound-unqueued}
use Rattle.vms_locks.specs.Table.{Table, queues_at, ChangesAt, IsLive}
use Rattle.vms_locks.proofs.Awake.{changed-here, changed-elsewhere}
use Rattle.lock_needs.specs.Nodes.{same_node}
use Rattle.lock_needs.proofs.NodeLaws.{same_node-true}
use Rattle.lock_needs.proofs.ModeTables.{at_most-shares}
use Rattle.lock_tree_laws.specs.LockTable.{granted_in, sought_in, granted_at, sought_at}
use Rattle.lock_tree_laws.specs.Order.{stands_before, all_used, IsOrdered, KeepsOrder}
use Rattle.lock_tree_laws.proofs.HeldModes.{option-cases, mode-has_owner, nothing-shares, shares-in, covers-less, unqueued}
use Rattle.lock_tree_laws.proofs.Changes.{Changed, changed-lock, changed-mode, changed-gone, changed-unqueued, changed-request, changed-conversion}
use Rattle.lock_tree_laws.proofs.Blockers.{sought-converted, sought-waited}
use Rattle.lock_tree_laws.proofs.Ordered.{used-with_mode, stands-owner, fits-shares, flip, considered-ordered}

module _ (before : ℕ → ℕ → Bool) (converts : ℕ → Bool) where
  -- what stays of the order where the queues change for one owner
  record Stays (q r : Queues) (o : ℕ) (g s : Mode) : Type 0 where
    pub changed : Changed o g s q r
    pub granted_used : all_used r.granted ≡ true
    pub converting_used : all_used r.converting ≡ true
    pub waiting_used : all_used r.waiting ≡ true
    pub converting : (u : ℕ) → has_owner u r.converting ≡ true → converts u ≡ true
    pub waiting : (u a : ℕ) → (u == a) ≡ false → has_owner a r.waiting ≡ true → stands_before u a r.waiting ≡ true → before u a ≡ true
    pub holders : (u : ℕ) → (u == o) ≡ false → has_owner u r.granted ≡ true → has_owner u q.granted ≡ true
    pub mine : (a : ℕ) → (o == a) ≡ false → has_owner o r.granted ≡ true → converts o ≡ false → may_share g (sought_in a q) ≡ false → before o a ≡ true
    pub theirs : (u : ℕ) → (u == o) ≡ false → has_owner u q.granted ≡ true → converts u ≡ false → may_share (granted_in u q) s ≡ false → before u o ≡ true

  ordered-from : (q r : Queues) (o : ℕ) (g s : Mode) → IsOrdered before converts q → Stays q r o g s → IsOrdered before converts r
  ordered-from q r o g s k c = record {
    granted_used = c.granted_used;
    converting_used = c.converting_used;
    waiting_used = c.waiting_used;
    converting = c.converting;
    waiting = c.waiting;
    granted = λ u a d h f x. elim (cases_Bool (u == o)) [
      | inl e ↦
          let is : u ≡ o = eqb-true u o e in
          let apart : (o == a) ≡ false = subst (λ (z : ℕ). (z == a) ≡ false) is d in
          let own : may_share (granted_in o r) (sought_in a r) ≡ false = subst (λ (z : ℕ). may_share (granted_in z r) (sought_in a r) ≡ false) is x in
          subst (λ (z : ℕ). before z a ≡ true) (sym is)
          (c.mine a apart (subst (λ (z : ℕ). has_owner z r.granted ≡ true) is h) (subst (λ (z : ℕ). converts z ≡ false) is f)
          (subst (λ (y : Mode). may_share g y ≡ false) (c.changed.others_sought a (flip o a apart)) (subst (λ (y : Mode). may_share y (sought_in a r) ≡ false) c.changed.own own)))
      | inr e ↦
          let shut : may_share (granted_in u q) (sought_in a r) ≡ false = subst (λ (y : Mode). may_share y (sought_in a r) ≡ false) (c.changed.others u e) x in
          elim (cases_Bool (a == o)) [
            | inl b ↦
                let is : a ≡ o = eqb-true a o b in
                subst (λ (z : ℕ). before u z ≡ true) (sym is)
                (c.theirs u e (c.holders u e h) f (subst (λ (y : Mode). may_share (granted_in u q) y ≡ false) (ap (λ (z : ℕ). sought_in z r) is ∙ c.changed.own_sought) shut))
            | inr b ↦ k.granted u a d (c.holders u e h) f (subst (λ (y : Mode). may_share (granted_in u q) y ≡ false) (c.changed.others_sought a b) shut)
          ]
    ];
  }

  -- an owner that asks what it holds is in nobody's way
  calm : (q r : Queues) (o : ℕ) (m : Mode) → IsSound r → Changed o m m q r → (u : ℕ) → (u == o) ≡ false → may_share (granted_in u q) m ≡ false → before u o ≡ true
  calm q r o m s c u d f =
      absurd (false≢true (sym f ∙ subst (λ (y : Mode). may_share (granted_in u q) y ≡ true) c.own (subst (λ (y : Mode). may_share y (granted_in o r) ≡ true) (c.others u d) (shares-in r u o s (flip u o d)))))

  module _ (q : Queues) (o : ℕ) (m : Mode) (sound : IsSound q) (old : IsOrdered before converts q) where
    pushed-owner : (u : ℕ) (hs : List Held) (k : Mode) → (u == o) ≡ false → has_owner u (hs ++ entry o k ∷ []) ≡ true → has_owner u hs ≡ true
    pushed-owner u hs k d h =
        elim (or_cases (has_owner u hs) (o == u) (sym (has_owner-push u hs (entry o k)) ∙ h)) [ inl t ↦ t | inr t ↦ absurd (false≢true (sym (flip u o d) ∙ t)) ]

    -- a mode that is grantable shares with all that others ask
    grantable-shares : is_grantable q o m ≡ true → (a : ℕ) → (a == o) ≡ false → may_share m (sought_in a q) ≡ true
    grantable-shares g a d =
        let p = and_parts (fits o m q.granted) (fits o m q.converting && fits o m q.waiting) g in
        let w = and_parts (fits o m q.converting) (fits o m q.waiting) p.1 in
        let from : (k : Mode) → sought_in a q ≡ k → may_share k m ≡ true → may_share m (sought_in a q) ≡ true = λ k e s. ap (may_share m) e ∙ (may_share-comm m k ∙ s) in
        elim (option-cases (mode_in a q.converting)) [
          | inr x ↦ from x.0 (sought-converted a q x.0 x.1) (fits-shares o m q.converting a x.0 w.0 d x.1)
          | inl none ↦ elim (option-cases (mode_in a q.waiting)) [
            | inr x ↦ from x.0 (sought-waited a q x.0 sound x.1) (fits-shares o m q.waiting a x.0 w.1 d x.1)
            | inl empty ↦
                let held : sought_in a q ≡ granted_in a q =
                ap (λ (y : Option Mode). unwrap_or y (unwrap_or (mode_in a q.waiting) (granted_in a q))) none ∙ ap (λ (y : Option Mode). unwrap_or y (granted_in a q)) empty in
                elim (option-cases (mode_in a q.granted)) [
                  | inr x ↦ from x.0 (held ∙ ap (λ (y : Option Mode). unwrap_or y NL) x.1) (fits-shares o m q.granted a x.0 p.0 d x.1)
                  | inl bare ↦ from NL (held ∙ ap (λ (y : Option Mode). unwrap_or y NL) bare) (nothing-shares m)
                ]
          ]
        ]

    -- a new lock, granted at once
    pub ordered-lock : is_absent o q ≡ true → is_grantable q o m ≡ true → not (at_most m NL) ≡ true → IsOrdered before converts (with_lock q o m)
    ordered-lock absent g used =
        let c = changed-lock q o m absent in
        ordered-from q (with_lock q o m) o m m old (record {
          changed = c;
          granted_used = list_all-push (λ h. not (at_most h.mode NL)) q.granted (entry o m) old.granted_used used;
          converting_used = old.converting_used;
          waiting_used = old.waiting_used;
          converting = old.converting;
          waiting = old.waiting;
          holders = λ u d h. pushed-owner u q.granted m d h;
          mine = λ a d h f x. absurd (false≢true (sym x ∙ grantable-shares g a (flip o a d)));
          theirs = λ u d h f x. calm q (with_lock q o m) o m (sound-granted q o m sound absent g) c u d x;
        })

    -- a lock that gets another mode, which fits
    pub ordered-mode : has_owner o q.granted ≡ true → is_queued o q ≡ false → fits o m q.granted ≡ true → not (at_most m NL) ≡ true → ((a : ℕ) → (o == a) ≡ false → converts o ≡ false → may_share m (sought_in a q) ≡ false → before o a ≡ true)
        → IsOrdered before converts (record q { granted = with_mode o m q.granted })
    ordered-mode has quiet fit used why =
        let r : Queues = record q { granted = with_mode o m q.granted } in
        let c = changed-mode q o m has quiet in
        ordered-from q r o m m old (record {
          changed = c;
          granted_used = used-with_mode o m q.granted used old.granted_used;
          converting_used = old.converting_used;
          waiting_used = old.waiting_used;
          converting = old.converting;
          waiting = old.waiting;
          holders = λ u d h. sym (has_owner-with_mode u o m q.granted) ∙ h;
          mine = λ a d h f x. why a d f x;
          theirs = λ u d h f x. calm q r o m (sound-with_mode q o m sound fit) c u d x;
        })

    -- a request that is queued, of an owner that came last
    came-last : (hs : List Held) → (u : ℕ) → has_owner o hs ≡ false → stands_before u o (hs ++ entry o m ∷ []) ≡ true → (u == o) ≡ false → has_owner u hs ≡ true
    came-last hs u n s d = pushed-owner u hs m d (stands-owner u o (hs ++ entry o m ∷ []) s)

    pub ordered-request : is_absent o q ≡ true → not (at_most m NL) ≡ true
        → ((u : ℕ) → (u == o) ≡ false → has_owner u q.waiting ≡ true → before u o ≡ true)
        → ((u : ℕ) → (u == o) ≡ false → has_owner u q.granted ≡ true → converts u ≡ false → before u o ≡ true)
        → IsOrdered before converts (with_request q o m)
    ordered-request absent used ahead holders =
        let p = and_parts (not (has_owner o q.granted)) (not (has_owner o q.converting) && not (has_owner o q.waiting)) absent in
        let w = and_parts (not (has_owner o q.converting)) (not (has_owner o q.waiting)) p.1 in
        let bare : has_owner o q.granted ≡ false = not-true (has_owner o q.granted) p.0 in
        let out : has_owner o q.waiting ≡ false = not-true (has_owner o q.waiting) w.1 in
        ordered-from q (with_request q o m) o (granted_in o q) m old (record {
          changed = changed-request q o m absent;
          granted_used = old.granted_used;
          converting_used = old.converting_used;
          waiting_used = list_all-push (λ h. not (at_most h.mode NL)) q.waiting (entry o m) old.waiting_used used;
          converting = old.converting;
          waiting = λ u a d h s. elim (cases_Bool (a == o)) [
            | inl e ↦
                let is : a ≡ o = eqb-true a o e in
                let apart : (u == o) ≡ false = subst (λ (z : ℕ). (u == z) ≡ false) is d in
                subst (λ (z : ℕ). before u z ≡ true) (sym is)
                (ahead u apart (came-last q.waiting u out (subst (λ (z : ℕ). stands_before u z (q.waiting ++ entry o m ∷ []) ≡ true) is s) apart))
            | inr e ↦
                let there : has_owner a q.waiting ≡ true = pushed-owner a q.waiting m e h in
                old.waiting u a d there (stands-front u a q.waiting (entry o m) there s)
          ];
          holders = λ u d h. h;
          mine = λ a d h f x. absurd (false≢true (sym bare ∙ h));
          theirs = λ u d h f x. holders u d h f;
        })
      where
        stands-front : (u a : ℕ) (hs : List Held) (e : Held) → has_owner a hs ≡ true → stands_before u a (hs ++ e ∷ []) ≡ true → stands_before u a hs ≡ true
        stands-front u a [] e h s = absurd (false≢true h)
        stands-front u a (x ∷ xs) e h s =
            elim (cases_Bool (x.owner == u)) [
              | inl t ↦ ap (λ (b : Bool). if b || (x.owner == a) then b else stands_before u a xs) t
              | inr t ↦ elim (cases_Bool (x.owner == a)) [
                | inl v ↦ absurd (false≢true (sym (ap (λ (b : Bool). if b || (x.owner == a) then b else stands_before u a (xs ++ e ∷ [])) t ∙ ap (λ (b : Bool). if b then false else stands_before u a (xs ++ e ∷ [])) v) ∙ s))
                | inr v ↦
                    let down : (b : Bool) → (if x.owner == u || x.owner == a then x.owner == u else b) ≡ b = λ b. ap (λ (c : Bool). if c || (x.owner == a) then c else b) t ∙ ap (λ (c : Bool). if c then false else b) v in
                    down (stands_before u a xs) ∙ stands-front u a xs e (subst (λ (b : Bool). (b || has_owner a xs) ≡ true) v h) (sym (down (stands_before u a (xs ++ e ∷ []))) ∙ s)
              ]
            ]

    pub ordered-conversion : has_owner o q.granted ≡ true → has_owner o q.converting ≡ false → not (at_most m NL) ≡ true → converts o ≡ true
        → ((u : ℕ) → (u == o) ≡ false → has_owner u q.granted ≡ true → converts u ≡ false → before u o ≡ true)
        → IsOrdered before converts (with_conversion q o m)
    ordered-conversion has once used free holders =
        ordered-from q (with_conversion q o m) o (granted_in o q) m old (record {
          changed = changed-conversion q o m once;
          granted_used = old.granted_used;
          converting_used = list_all-push (λ h. not (at_most h.mode NL)) q.converting (entry o m) old.converting_used used;
          waiting_used = old.waiting_used;
          converting = λ u h. elim (cases_Bool (u == o)) [
            | inl e ↦ subst (λ (z : ℕ). converts z ≡ true) (sym (eqb-true u o e)) free
            | inr e ↦ old.converting u (pushed-owner u q.converting m e h)
          ];
          waiting = old.waiting;
          holders = λ u d h. h;
          mine = λ a d h f x. absurd (false≢true (sym f ∙ free));
          theirs = λ u d h f x. holders u d h f;
        })

  -- ---- what is taken out

  rest-owner : (o u : ℕ) (hs : List Held) → has_owner u (without o hs) ≡ true → has_owner u hs ≡ true
  rest-owner o u hs h = elim (cases_Bool (has_owner u hs)) [ inl t ↦ t | inr f ↦ absurd (false≢true (sym (has_owner-without_none u o hs f) ∙ h)) ]

  rest-other : (o u : ℕ) (hs : List Held) → has_owner u (without o hs) ≡ true → (u == o) ≡ false
  rest-other o u hs h = elim (cases_Bool (u == o)) [
    | inr f ↦ f
    | inl e ↦ absurd (false≢true (sym (has_owner-without o hs) ∙ subst (λ (z : ℕ). has_owner z (without o hs) ≡ true) (eqb-true u o e) h))
  ]

  stands-without : (o u a : ℕ) (hs : List Held) → (u == o) ≡ false → (a == o) ≡ false → stands_before u a (without o hs) ≡ stands_before u a hs
  stands-without o u a [] d e = refl
  stands-without o u a (x ∷ xs) d e =
      elim (cases_Bool (x.owner == o)) [
        | inl t ↦
            let is : x.owner ≡ o = eqb-true x.owner o t in
            let not_u : (x.owner == u) ≡ false = subst (λ (z : ℕ). (z == u) ≡ false) (sym is) (flip u o d) in
            let not_a : (x.owner == a) ≡ false = subst (λ (z : ℕ). (z == a) ≡ false) (sym is) (flip a o e) in
            ap (λ (b : Bool). stands_before u a (if not b then x ∷ without o xs else without o xs)) t
            ∙ (stands-without o u a xs d e
            ∙ sym (ap (λ (b : Bool). if b || (x.owner == a) then b else stands_before u a xs) not_u ∙ ap (λ (b : Bool). if b then false else stands_before u a xs) not_a))
        | inr t ↦ ap (λ (b : Bool). stands_before u a (if not b then x ∷ without o xs else without o xs)) t
            ∙ ap (λ (y : Bool). if x.owner == u || x.owner == a then x.owner == u else y) (stands-without o u a xs d e)
      ]

  module _ (q : Queues) (o : ℕ) (sound : IsSound q) (old : IsOrdered before converts q) where
    rest-waiting : (u a : ℕ) → (u == a) ≡ false → has_owner a (without o q.waiting) ≡ true → stands_before u a (without o q.waiting) ≡ true → before u a ≡ true
    rest-waiting u a d h s =
        old.waiting u a d (rest-owner o a q.waiting h)
        (sym (stands-without o u a q.waiting (rest-other o u q.waiting (stands-owner u a (without o q.waiting) s)) (rest-other o a q.waiting h)) ∙ s)

    pub ordered-gone : IsOrdered before converts (record { granted = without o q.granted; converting = without o q.converting; waiting = without o q.waiting })
    ordered-gone =
        let r : Queues = record { granted = without o q.granted; converting = without o q.converting; waiting = without o q.waiting } in
        ordered-from q r o NL NL old (record {
          changed = changed-gone q o;
          granted_used = list_all-filter (λ h. not (at_most h.mode NL)) (λ h. not (h.owner == o)) q.granted old.granted_used;
          converting_used = list_all-filter (λ h. not (at_most h.mode NL)) (λ h. not (h.owner == o)) q.converting old.converting_used;
          waiting_used = list_all-filter (λ h. not (at_most h.mode NL)) (λ h. not (h.owner == o)) q.waiting old.waiting_used;
          converting = λ u h. old.converting u (rest-owner o u q.converting h);
          waiting = rest-waiting;
          holders = λ u d h. rest-owner o u q.granted h;
          mine = λ a d h f x. absurd (false≢true (sym x ∙ nothing-shares (sought_in a q)));
          theirs = λ u d h f x. absurd (false≢true (sym x ∙ (may_share-comm (granted_in u q) NL ∙ nothing-shares (granted_in u q))));
        })

    pub ordered-unqueued : IsOrdered before converts (record q { converting = without o q.converting; waiting = without o q.waiting })
    ordered-unqueued =
        let r : Queues = record q { converting = without o q.converting; waiting = without o q.waiting } in
        let c = changed-unqueued q o in
        ordered-from q r o (granted_in o q) (granted_in o q) old (record {
          changed = c;
          granted_used = old.granted_used;
          converting_used = list_all-filter (λ h. not (at_most h.mode NL)) (λ h. not (h.owner == o)) q.converting old.converting_used;
          waiting_used = list_all-filter (λ h. not (at_most h.mode NL)) (λ h. not (h.owner == o)) q.waiting old.waiting_used;
          converting = λ u h. old.converting u (rest-owner o u q.converting h);
          waiting = rest-waiting;
          holders = λ u d h. h;
          mine = λ a d h f x. old.granted o a d h f x;
          theirs = λ u d h f x. calm q r o (granted_in o q) (sound-unqueued q o sound) c u d x;
        })

-- ---- the table

module _ (old new : Table) (n : Node) (r : Queues) (changes : ChangesAt old new n r) where
  -- the queues of this node stand in order, and so do those of the others still
  pub order-there : (before : Node → ℕ → ℕ → Bool) (converts : Node → ℕ → Bool) → ((x : Node) → IsOrdered (before x) (converts x) (queues_at old x)) → IsOrdered (before n) (converts n) r → (x : Node) → IsOrdered (before x) (converts x) (queues_at new x)
  order-there before converts all k x =
      elim (cases_Bool (same_node n x)) [
        | inl s ↦ subst (λ (z : Node). IsOrdered (before z) (converts z) (queues_at new z)) (same_node-true n x s)
            (subst (IsOrdered (before n) (converts n)) (sym (changed-here old new n r changes)) k)
        | inr d ↦ subst (IsOrdered (before x) (converts x)) (sym (changed-elsewhere old new n r x changes d)) (all x)
      ]

  pub order-at : ((before : ℕ → ℕ → Bool) (converts : ℕ → Bool) → IsOrdered before converts (queues_at old n) → IsOrdered before converts r) → KeepsOrder old new
  order-at f before converts all = order-there before converts all (f (before n) (converts n) (all n))

module _ (old new : Table) (owner : ℕ) (n : Node) (live : IsLive (queues_at old)) where
  pub weakened-order : (mode held : Mode) → mode_in owner (queues_at old n).granted ≡ Some held → at_most mode held ≡ true → at_most mode NL ≡ false → sought_at old owner n ≡ granted_at old owner n
      → ChangesAt old new n (after_weaken (queues_at old n) owner mode) → KeepsOrder old new
  weakened-order mode held has weaker used same changes =
      let q : Queues = queues_at old n in
      let fit : fits owner mode q.granted ≡ true = fits-from_covers owner mode q.granted (live.sound n).shares (live.sound n).granted_once (covers-less owner q.granted held mode has weaker) in
      order-at old new n (after_weaken q owner mode) changes
      (λ before converts k.
      considered-ordered before converts (record q { granted = with_mode owner mode q.granted }) (sound-with_mode q owner mode (live.sound n) fit)
      (ordered-mode before converts q owner mode (live.sound n) k (mode-has_owner owner q.granted held has) (unqueued q owner (live.sound n) (live.settled n) same) fit (ap not used)
      (λ a d f x. k.granted owner a d (mode-has_owner owner q.granted held has) f
      (elim (cases_Bool (may_share (granted_in owner q) (sought_in a q))) [
        | inr y ↦ y
        | inl y ↦ absurd (false≢true (sym x ∙ at_most-shares mode (granted_in owner q) (sought_in a q) (subst (λ (z : Mode). at_most mode z ≡ true) (sym (ap (λ (v : Option Mode). unwrap_or v NL) has)) weaker) y))
      ]))))

  pub released-order : ChangesAt old new n (after_release (queues_at old n) owner) → KeepsOrder old new
  released-order changes =
      let q : Queues = queues_at old n in
      order-at old new n (after_release q owner) changes
      (λ before converts k. considered-ordered before converts (record { granted = without owner q.granted; converting = without owner q.converting; waiting = without owner q.waiting }) (sound-gone q owner (live.sound n))
      (ordered-gone before converts q owner (live.sound n) k))

  pub cancelled-order : ChangesAt old new n (after_cancel (queues_at old n) owner) → KeepsOrder old new
  cancelled-order changes =
      let q : Queues = queues_at old n in
      let m : Queues = record q { converting = without owner q.converting; waiting = without owner q.waiting } in
      order-at old new n (after_cancel q owner) changes
      (λ before converts k. elim (is_queued owner q) as (λ b. IsOrdered before converts (if b then considered m else q)) [
        | true ↦ considered-ordered before converts m (sound-unqueued q owner (live.sound n)) (ordered-unqueued before converts q owner (live.sound n) k)
        | false ↦ k
      ])

  -- a request that is granted at once, beside all that is asked
  pub asked-order : (mode : Mode) → is_absent owner (queues_at old n) ≡ true → is_grantable (queues_at old n) owner mode ≡ true → at_most mode NL ≡ false → ChangesAt old new n (with_lock (queues_at old n) owner mode) → KeepsOrder old new
  asked-order mode absent free used changes =
      let q : Queues = queues_at old n in
      order-at old new n (with_lock q owner mode) changes
      (λ before converts k. ordered-lock before converts q owner mode (live.sound n) k absent free (ap not used))

  -- a conversion that is granted at once and bars nobody
  pub raised-order : (mode held : Mode) → mode_in owner (queues_at old n).granted ≡ Some held → fits owner mode (queues_at old n).granted ≡ true → at_most mode NL ≡ false → sought_at old owner n ≡ granted_at old owner n
      → ((a : ℕ) → (owner == a) ≡ false → may_share (granted_at old owner n) (sought_at old a n) ≡ true → may_share mode (sought_at old a n) ≡ true)
      → ChangesAt old new n (after_weaken (queues_at old n) owner mode) → KeepsOrder old new
  raised-order mode held has fit used same bars changes =
      let q : Queues = queues_at old n in
      order-at old new n (after_weaken q owner mode) changes
      (λ before converts k.
      considered-ordered before converts (record q { granted = with_mode owner mode q.granted }) (sound-with_mode q owner mode (live.sound n) fit)
      (ordered-mode before converts q owner mode (live.sound n) k (mode-has_owner owner q.granted held has) (unqueued q owner (live.sound n) (live.settled n) same) fit (ap not used)
      (λ a d f x. k.granted owner a d (mode-has_owner owner q.granted held has) f
      (elim (cases_Bool (may_share (granted_in owner q) (sought_in a q))) [
        | inr y ↦ y
        | inl y ↦ absurd (false≢true (sym x ∙ bars a d y))
      ]))))
