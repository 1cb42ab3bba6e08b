-- A want opens, and ends as it is got.
use Rattle.std.proofs.Common.{◌≡◌, ◌++◌, ◌∷◌, [], Bool, true, false, refl, sym, ◌∙◌, ap, subst, inl, inr, List}
use Rattle.std.specs.Prelude.{◌&&◌, ◌||◌, if◌then◌else◌, Option, Some, None}
use Rattle.std.specs.List.{list_all, list_any}
use Rattle.std.proofs.lemmas.Bool.{false≢true, and_parts, and_from, or_left, or_right, or_cases, cases_Bool}
use Rattle.rdb_types.specs.declared.node.Node.{Node}
use Rattle.vms_queues.specs.declared.lock_mode.Mode.{Mode}
use Rattle.vms_queues.specs.declared.lock_mode.Mode.TheVariants.{NL}
use Rattle.vms_queues.specs.Modes.{at_most, least_above, intent}
use Rattle.lock_needs.specs.declared.need.Need.{Need}
use Rattle.lock_needs.specs.declared.party.OpenWant.{OpenWant}
use Rattle.lock_needs.specs.Nodes.{same_node, contains, is_on, above_of}
use Rattle.lock_needs.specs.Needs.{Holding, is_covered, covered_above, is_plain}
use Rattle.lock_needs.specs.Keeping.{must_keep}
use Rattle.lock_needs.specs.Wants.{mode_for, has_granted, opened_at, intents_on, earned_at}
use Rattle.lock_needs.proofs.ModeTables.{at_most-trans, at_most-join, join-left, join-right, intent-twice}
use Rattle.lock_needs.proofs.NodeLaws.{same_node-refl}
use Rattle.lock_needs.proofs.Above.{top-alone}
use Rattle.lock_needs.proofs.Enough.{if-join-from}
use Rattle.lock_needs.proofs.Joins.{nothing}
use Rattle.lock_tree_laws.specs.Parties.{IsKeptBut, was_asked, nowhere, wanting, resting, unasked, asked_at}
use Rattle.lock_tree_laws.proofs.Leaving.{reopened, opened-unasked, and-none, unasked-sleeps, the-want, opened-up, up-same}

pub list_all-push : (p : Need → Bool) (ws : List Need) (w : Need) → list_all p ws ≡ true → p w ≡ true → list_all p (ws ++ w ∷ []) ≡ true
list_all-push p [] w h g = and_from (p w) true g refl
list_all-push p (v ∷ ws) w h g = let q = and_parts (p v) (list_all p ws) h in and_from (p v) (list_all p (ws ++ w ∷ [])) q.0 (list_all-push p ws w q.1 g)

pub list_any-push : (p : Need → Bool) (ws : List Need) (w : Need) → list_any p ws ≡ true → list_any p (ws ++ w ∷ []) ≡ true
list_any-push p [] w h = absurd (false≢true h)
list_any-push p (v ∷ ws) w h = elim (or_cases (p v) (list_any p ws) h) [
  | inl y ↦ or_left (p v) (list_any p (ws ++ w ∷ [])) y
  | inr y ↦ or_right (p v) (list_any p (ws ++ w ∷ [])) (list_any-push p ws w y)
]

pub list_any-pushed : (p : Need → Bool) (ws : List Need) (w : Need) → p w ≡ true → list_any p (ws ++ w ∷ []) ≡ true
list_any-pushed p [] w g = or_left (p w) false g
list_any-pushed p (v ∷ ws) w g = or_right (p v) (list_any p (ws ++ w ∷ [])) (list_any-pushed p ws w g)

-- one need more asks no less of a node
pub intents-push : (ws : List Need) (w : Need) (x : Node) → at_most (intents_on ws x) (intents_on (ws ++ w ∷ []) x) ≡ true
intents-push [] w x = nothing (intents_on (w ∷ []) x)
intents-push (v ∷ ws) w x =
    let rest : Mode = intents_on (ws ++ w ∷ []) x in
    if-join-from (is_on x v.node) (intent v.mode) (intents_on ws x) (if is_on x v.node then least_above (intent v.mode) rest else rest)
    (λ y. subst (λ (b : Bool). at_most (intent v.mode) (if b then least_above (intent v.mode) rest else rest) ≡ true) (sym y) (join-left (intent v.mode) rest))
    (grows (is_on x v.node) (intent v.mode) rest (intents_on ws x) (intents-push ws w x))
  where
    grows : (b : Bool) (i r m : Mode) → at_most m r ≡ true → at_most m (if b then least_above i r else r) ≡ true
    grows true i r m h = at_most-trans m r (least_above i r) h (join-right i r)
    grows false i r m h = h

pub intents-pushed : (ws : List Need) (w : Need) (x : Node) → is_on x w.node ≡ true → at_most (intent w.mode) (intents_on (ws ++ w ∷ []) x) ≡ true
intents-pushed [] w x on = subst (λ (b : Bool). at_most (intent w.mode) (if b then least_above (intent w.mode) NL else NL) ≡ true) (sym on) (join-left (intent w.mode) NL)
intents-pushed (v ∷ ws) w x on = grows (is_on x v.node) (intent v.mode) (intents_on (ws ++ w ∷ []) x) (intent w.mode) (intents-pushed ws w x on)
  where
    grows : (b : Bool) (i r m : Mode) → at_most m r ≡ true → at_most m (if b then least_above i r else r) ≡ true
    grows true i r m h = at_most-trans m r (least_above i r) h (join-right i r)
    grows false i r m h = h

-- a want opens at the topmost node of its way, with nothing asked
pub opens : (held sought : Holding) (ws : List Need) (w : OpenWant) → above_of w.here ≡ None → is_on w.here w.need.node ≡ true → IsKeptBut nowhere held sought (resting ws) → IsKeptBut nowhere held sought (wanting ws (unasked w))
opens held sought ws w top way k =
    let none : (x : Node) → opened_at held (Some (unasked w)) x ≡ NL = λ x. opened-unasked held w x ∙ ap (λ (b : Bool). if b then mode_for w.need x else NL) (top-alone w.here x top) in
    reopened nowhere held sought sought ws None (Some (unasked w))
    (λ x b. none x)
    (λ x. subst (λ (y : Mode). at_most y (held x) ≡ true) (sym (none x)) (nothing (held x)))
    way
    (λ x. k.awake x refl)
    (unasked-sleeps held w)
    (λ x v e asked. absurd (false≢true (sym (unasked-nowhere x v e) ∙ asked)))
    k
  where
    drop : (c s : Bool) → c ≡ false → (c || (s && false)) ≡ false
    drop true s h = absurd (false≢true (sym h))
    drop false s h = and-none s

    unasked-nowhere : (x : Node) (v : OpenWant) → Some (unasked w) ≡ Some v → was_asked v x ≡ false
    unasked-nowhere x v e =
        subst (λ (u : OpenWant). was_asked u x ≡ false) (sym (the-want (unasked w) v e)) (drop (contains x w.here) (same_node x w.here) (top-alone w.here x top))

-- a want that was granted its mode at its need's node is got
pub got-asked : (held sought : Holding) (ws : List Need) (w : OpenWant) → IsKeptBut nowhere held sought (wanting ws w) → w.here ≡ w.need.node → is_plain w.need ≡ true → at_most (mode_for w.need w.here) (held w.here) ≡ true
    → ((x : Node) → sought x ≡ held x) → IsKeptBut nowhere held sought (resting (ws ++ w.need ∷ []))
got-asked held sought ws w k here plain granted quiet =
    let owed : (x : Node) → at_most (intent (opened_at held (Some w) x)) (intents_on (ws ++ w.need ∷ []) x) ≡ true = opened-owed in record {
      covered = list_all-push (is_covered held) ws w.need k.covered
          (or_left (at_most w.need.mode (held w.need.node)) (covered_above held w.need)
          (subst (λ (n : Node). at_most w.need.mode (held n) ≡ true) here (subst (λ (b : Bool). at_most (if b then w.need.mode else intent w.need.mode) (held w.here) ≡ true) own granted)));
      plain = list_all-push is_plain ws w.need k.plain plain;
      way = tt;
      granted = λ x. nothing (held x);
      awake = λ x s. quiet x;
      asleep = λ v e. absurd (false≢true (ap (λ (o : Option OpenWant). elim o [ None ↦ false | Some u ↦ true ]) e));
      exact = λ x v e. absurd (false≢true (ap (λ (o : Option OpenWant). elim o [ None ↦ false | Some u ↦ true ]) e));
      earned = λ x b. at_most-trans (intent (held x)) (earned_at held (wanting ws w) x) (least_above NL (intents_on (ws ++ w.need ∷ []) x)) (k.earned x refl)
          (at_most-trans (earned_at held (wanting ws w) x) (intents_on (ws ++ w.need ∷ []) x) (least_above NL (intents_on (ws ++ w.need ∷ []) x))
          (at_most-join (intent (opened_at held (Some w) x)) (intents_on ws x) (intents_on (ws ++ w.need ∷ []) x)
          ∙ and_from (at_most (intent (opened_at held (Some w) x)) (intents_on (ws ++ w.need ∷ []) x)) (at_most (intents_on ws x) (intents_on (ws ++ w.need ∷ []) x)) (owed x) (intents-push ws w.need x))
          (join-right NL (intents_on (ws ++ w.need ∷ []) x)));
      no_stray = λ x b. elim (k.no_stray x refl) [
        | inl e ↦ inl e
        | inr r ↦ elim r [
          | inl f ↦ inr (inr (list_any-pushed (λ v. is_on x v.node) ws w.need (opened-on x f)))
          | inr y ↦ inr (inr (list_any-push (λ v. is_on x v.node) ws w.need y))
        ]
      ];
    }
  where
    own : same_node w.here w.need.node ≡ true
    own = subst (λ (n : Node). same_node w.here n ≡ true) here (same_node-refl w.here)

    on-need : (x : Node) → has_granted held w x ≡ true → is_on x w.need.node ≡ true
    on-need x h = subst (λ (n : Node). is_on x n ≡ true) here (elim (or_cases (contains x w.here) (same_node x w.here && (w.is_asked && at_most (mode_for w.need x) (held x))) h) [
      | inl c ↦ or_right (same_node x w.here) (contains x w.here) c
      | inr s ↦ or_left (same_node x w.here) (contains x w.here) (and_parts (same_node x w.here) (w.is_asked && at_most (mode_for w.need x) (held x)) s).0
    ])

    opened-on : (x : Node) → at_most (opened_at held (Some w) x) NL ≡ false → is_on x w.need.node ≡ true
    opened-on x f = elim (cases_Bool (has_granted held w x)) [
      | inl y ↦ on-need x y
      | inr z ↦ absurd (false≢true (sym f ∙ ap (λ (b : Bool). at_most (if b then mode_for w.need x else NL) NL) z))
    ]

    opened-owed : (x : Node) → at_most (intent (opened_at held (Some w) x)) (intents_on (ws ++ w.need ∷ []) x) ≡ true
    opened-owed x = elim (cases_Bool (has_granted held w x)) [
      | inr z ↦ subst (λ (b : Bool). at_most (intent (if b then mode_for w.need x else NL)) (intents_on (ws ++ w.need ∷ []) x) ≡ true) (sym z) (nothing (intents_on (ws ++ w.need ∷ []) x))
      | inl y ↦ subst (λ (b : Bool). at_most (intent (if b then mode_for w.need x else NL)) (intents_on (ws ++ w.need ∷ []) x) ≡ true) (sym y)
          (subst (λ (m : Mode). at_most m (intents_on (ws ++ w.need ∷ []) x) ≡ true) (sym (mode-intent (same_node x w.need.node))) (intents-pushed ws w.need x (on-need x y)))
    ]
      where
        mode-intent : (b : Bool) → intent (if b then w.need.mode else intent w.need.mode) ≡ intent w.need.mode
        mode-intent true = refl
        mode-intent false = intent-twice w.need.mode

-- the want, at another node
abbrev pub at_node : OpenWant → Node → OpenWant
at_node w n = record w { here = n }

-- a want that was granted its mode goes one node down
pub descends : (held sought : Holding) (ws : List Need) (w : OpenWant) (n : Node) → above_of n ≡ Some w.here → is_on n w.need.node ≡ true → w.is_asked ≡ true → at_most (mode_for w.need w.here) (held w.here) ≡ true
    → ((x : Node) → sought x ≡ held x) → IsKeptBut nowhere held sought (wanting ws w) → IsKeptBut nowhere held sought (wanting ws (unasked (at_node w n)))
descends held sought ws w n e way asked granted quiet k =
    reopened nowhere held sought sought ws (Some w) (Some (unasked (at_node w n)))
    (λ x b. same x) (λ x. subst (λ (y : Mode). at_most y (held x) ≡ true) (sym (same x)) (k.granted x))
    way quiet (unasked-sleeps held (at_node w n))
    (λ x v f a. subst (λ (y : Mode). at_most (held x) (must_keep ws y x) ≡ true) (sym (same x)) (k.exact x w refl (was x v f a)))
    k
  where
    as_asked : asked_at (at_node w n) w.here ≡ w
    as_asked = ap (λ (b : Bool). record w { is_asked = b }) (sym asked)

    same : (x : Node) → opened_at held (Some (unasked (at_node w n))) x ≡ opened_at held (Some w) x
    same x = sym (opened-up held (at_node w n) w.here e granted x) ∙ ap (λ (u : OpenWant). opened_at held (Some u) x) as_asked

    drop : (c s : Bool) → (c || (s && false)) ≡ true → c ≡ true
    drop true s h = refl
    drop false s h = absurd (false≢true (sym (and-none s) ∙ h))

    all : (s b : Bool) → b ≡ true → s ≡ true → (s && b) ≡ true
    all s b g h = and_from s b h g

    was : (x : Node) (v : OpenWant) → Some (unasked (at_node w n)) ≡ Some v → was_asked v x ≡ true → was_asked w x ≡ true
    was x v f a =
        let c : contains x n ≡ true = drop (contains x n) (same_node x n) (subst (λ (u : OpenWant). was_asked u x ≡ true) (the-want (unasked (at_node w n)) v f) a) in
        elim (or_cases (contains x w.here) (same_node x w.here) (sym (up-same held (at_node w n) w.here e granted x) ∙ c)) [
          | inl d ↦ or_left (contains x w.here) (same_node x w.here && w.is_asked) d
          | inr s ↦ or_right (contains x w.here) (same_node x w.here && w.is_asked) (all (same_node x w.here) w.is_asked asked s)
        ]
