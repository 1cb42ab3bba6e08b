-- What is true of an owner stays while its lock at a node comes down, where its open want wasn't asked at that node.
use Rattle.std.proofs.Common.{◌≡◌, Bool, true, false, refl, sym, ◌∙◌, ap, subst, ◌⊎◌, inl, inr, List, [], ◌∷◌}
use Rattle.std.specs.Prelude.{◌&&◌, ◌||◌, not, if◌then◌else◌, Option, Some, None}
use Rattle.std.specs.List.{list_all}
use Rattle.std.proofs.lemmas.Bool.{false≢true, and_parts, and_from, or_left, or_right, or_cases, or_parts, cases_Bool}
use Rattle.rdb_types.specs.declared.node.Node.{Node}
use Rattle.vms_queues.specs.declared.lock_mode.Mode.{Mode}
use Rattle.vms_queues.specs.declared.lock_mode.Mode.TheVariants.{NL}
use Rattle.vms_queues.specs.Modes.{at_most, least_above, intent}
use Rattle.lock_needs.specs.declared.need.Need.{Need}
use Rattle.lock_needs.specs.declared.party.OpenWant.{OpenWant}
use Rattle.lock_needs.specs.Party.{Party}
use Rattle.lock_needs.specs.Nodes.{same_node, contains, is_on}
use Rattle.lock_needs.specs.Needs.{Holding, all_covered, supposing}
use Rattle.lock_needs.specs.Keeping.{must_keep}
use Rattle.lock_needs.specs.Wants.{mode_for, opened_at, sleeps_at, kept_at, intents_on, earned_at}
use Rattle.lock_needs.proofs.ModeTables.{at_most-trans, join-right}
use Rattle.lock_needs.proofs.NodeLaws.{same_node-true, same_node-refl, contains-trans}
use Rattle.lock_needs.proofs.Cover.{all_covered-more}
use Rattle.lock_needs.proofs.Enough.{if-join}
use Rattle.lock_needs.proofs.Joins.{nothing}
use Rattle.lock_tree_laws.specs.Parties.{IsKeptBut, HasReason, was_asked, is_needed, nowhere}
use Rattle.lock_tree_laws.specs.Inner.Lowering.{earns}

-- what the needs ask of a node, each for itself
pub earns-each : (x : Node) (bound : Mode) (ws : List Need) → at_most (intents_on ws x) bound ≡ true → list_all (earns x bound) ws ≡ true
earns-each x bound [] h = refl
earns-each x bound (w ∷ ws) h =
    let p = if-join (is_on x w.node) (intent w.mode) (intents_on ws x) bound h in
    and_from (earns x bound w) (list_all (earns x bound) ws) p.0 (earns-each x bound ws p.1)

not-asked : (c s a b : Bool) → (c || (s && a)) ≡ false → (c || (s && (a && b))) ≡ false
not-asked true s a b h = h
not-asked false true true b h = absurd (false≢true (sym h))
not-asked false true false b h = refl
not-asked false false a b h = refl

asked-sleeps : (s a b : Bool) → (s && a) ≡ false → (s && (a && b)) ≡ false
asked-sleeps true true b h = absurd (false≢true (sym h))
asked-sleeps true false b h = refl
asked-sleeps false a b h = refl

pub asked-at_here : (w : OpenWant) (x : Node) → same_node x w.here ≡ true → w.is_asked ≡ true → was_asked w x ≡ true
asked-at_here w x s a = or_right (contains x w.here) (same_node x w.here && w.is_asked) (and_from (same_node x w.here) w.is_asked s a)

-- a node where a want was asked is the one that it has come to or above it
pub asked-on : (w : OpenWant) (x : Node) → was_asked w x ≡ true → (x ≡ w.here) ⊎ (contains x w.here ≡ true)
asked-on w x h =
    elim (or_cases (contains x w.here) (same_node x w.here && w.is_asked) h) [
      | inl c ↦ inr c
      | inr s ↦ inl (same_node-true x w.here (and_parts (same_node x w.here) w.is_asked s).0)
    ]

-- nodes under one where it wasn't asked weren't asked either
pub asked-under : (w : OpenWant) (n x : Node) → was_asked w n ≡ false → contains n x ≡ true → was_asked w x ≡ false
asked-under w n x h c =
    elim (cases_Bool (was_asked w x)) [
      | inr f ↦ f
      | inl t ↦
          let up : contains n w.here ≡ true = elim (asked-on w x t) [
            | inl e ↦ subst (λ (z : Node). contains n z ≡ true) e c
            | inr d ↦ contains-trans n x w.here c d
          ] in
          absurd (false≢true (sym h ∙ or_left (contains n w.here) (same_node n w.here && w.is_asked) up))
    ]

-- Where locks differ only at nodes where the want wasn't asked, it has been granted the same, and sleeps where it slept.
module _ (held more : Holding) (o : Option OpenWant) (same : (w : OpenWant) (x : Node) → o ≡ Some w → was_asked w x ≡ true → more x ≡ held x) where
  pub opened-same : (x : Node) → opened_at more o x ≡ opened_at held o x
  opened-same x = go o refl
    where
      go : (q : Option OpenWant) → o ≡ q → opened_at more q x ≡ opened_at held q x
      go None e = refl
      go (Some w) e =
          elim (cases_Bool (was_asked w x)) [
            | inl a ↦ ap (λ (y : Mode). if contains x w.here || (same_node x w.here && (w.is_asked && at_most (mode_for w.need x) y)) then mode_for w.need x else NL) (same w x e a)
            | inr a ↦ ap (λ (b : Bool). if b then mode_for w.need x else NL)
                (not-asked (contains x w.here) (same_node x w.here) w.is_asked (at_most (mode_for w.need x) (more x)) a
                ∙ sym (not-asked (contains x w.here) (same_node x w.here) w.is_asked (at_most (mode_for w.need x) (held x)) a))
          ]

  pub sleeps-alike : (x : Node) → sleeps_at more o x ≡ sleeps_at held o x
  sleeps-alike x = go o refl
    where
      go : (q : Option OpenWant) → o ≡ q → sleeps_at more q x ≡ sleeps_at held q x
      go None e = refl
      go (Some w) e =
          elim (cases_Bool (was_asked w x)) [
            | inl a ↦ ap (λ (y : Mode). same_node x w.here && (w.is_asked && not (at_most (mode_for w.need x) y))) (same w x e a)
            | inr a ↦
                let s : (same_node x w.here && w.is_asked) ≡ false = (or_parts (contains x w.here) (same_node x w.here && w.is_asked) a).1 in
                asked-sleeps (same_node x w.here) w.is_asked (not (at_most (mode_for w.need x) (more x))) s
                ∙ sym (asked-sleeps (same_node x w.here) w.is_asked (not (at_most (mode_for w.need x) (held x))) s)
          ]

-- More locks are taken, none where the want was asked.
module _ (but : Node → Bool) (held more sought seeks : Holding) (p : Party) (up : (x : Node) → at_most (held x) (more x) ≡ true)
    (same : (w : OpenWant) (x : Node) → p.opened ≡ Some w → was_asked w x ≡ true → more x ≡ held x)
    (seeks_same : (w : OpenWant) (x : Node) → p.opened ≡ Some w → was_asked w x ≡ true → seeks x ≡ sought x)
    (quiet : (x : Node) → sought x ≡ held x → seeks x ≡ more x)
    (reason : (x : Node) → (more x ≡ held x) ⊎ (is_needed p.needs x ≡ true))
    (earned : (x : Node) (bound : Mode) → at_most (intent (held x)) bound ≡ true → list_all (earns x bound) p.needs ≡ true → at_most (intent (more x)) bound ≡ true)
    (k : IsKeptBut but held sought p) where
  taken-opened : (x : Node) → opened_at more p.opened x ≡ opened_at held p.opened x
  taken-opened = opened-same held more p.opened same

  pub own-taken : IsKeptBut but more seeks p
  own-taken = record {
    covered = all_covered-more held more up p.needs k.covered;
    plain = k.plain;
    way = k.way;
    granted = λ x. subst (λ (y : Mode). at_most y (more x) ≡ true) (sym (taken-opened x)) (at_most-trans (opened_at held p.opened x) (held x) (more x) (k.granted x) (up x));
    awake = λ x s. quiet x (k.awake x (sym (sleeps-alike held more p.opened same x) ∙ s));
    asleep = λ w e s.
        let was : sleeps_at held (Some w) w.here ≡ true = ap (λ (o : Option OpenWant). sleeps_at held o w.here) (sym e) ∙ (sym (sleeps-alike held more p.opened same w.here) ∙ (ap (λ (o : Option OpenWant). sleeps_at more o w.here) e ∙ s)) in
        let asked : was_asked w w.here ≡ true = asked-at_here w w.here (same_node-refl w.here) (and_parts w.is_asked (not (at_most (mode_for w.need w.here) (held w.here))) (and_parts (same_node w.here w.here) (w.is_asked && not (at_most (mode_for w.need w.here) (held w.here))) was).1).0 in
        seeks_same w w.here e asked ∙ (k.asleep w e was ∙ ap (λ (y : Mode). least_above y (mode_for w.need w.here)) (sym (same w w.here e asked)));
    exact = λ x w e asked.
        subst (λ (y : Mode). at_most y (kept_at more p x) ≡ true) (sym (same w x e asked))
        (subst (λ (y : Mode). at_most (held x) (must_keep p.needs y x) ≡ true) (sym (taken-opened x)) (k.exact x w e asked));
    earned = λ x b. earned x (earned_at more p x)
        (subst (λ (y : Mode). at_most (intent (held x)) (least_above (intent y) (intents_on p.needs x)) ≡ true) (sym (taken-opened x)) (k.earned x b))
        (earns-each x (earned_at more p x) p.needs (join-right (intent (opened_at more p.opened x)) (intents_on p.needs x)));
    no_stray = λ x b. elim (reason x) [
      | inr needed ↦ inr (inr needed)
      | inl e ↦ subst (λ (y : Mode). HasReason more p x y) (sym e)
          (subst (λ (y : Mode). (held x ≡ NL) ⊎ ((at_most y NL ≡ false) ⊎ (is_needed p.needs x ≡ true))) (sym (taken-opened x)) (k.no_stray x b))
    ];
  }

-- The lock at the node comes down to the mode, where the want wasn't asked.
module _ (held less sought seeks : Holding) (p : Party) (n : Node) (keep : Mode) (own : (x : Node) → less x ≡ supposing n keep held x)
    (seeks_own : seeks n ≡ keep) (seeks_else : (x : Node) → same_node x n ≡ false → seeks x ≡ sought x)
    (unasked : (w : OpenWant) → p.opened ≡ Some w → was_asked w n ≡ false)
    (covered : all_covered less p.needs ≡ true)
    (owed : at_most (intent keep) (earned_at held p n) ≡ true) (reason : HasReason held p n keep)
    (k : IsKeptBut (λ x. same_node x n) held sought p) where
  less-here : less n ≡ keep
  less-here = own n ∙ ap (λ (b : Bool). if b then keep else held n) (same_node-refl n)

  less-else : (x : Node) → same_node x n ≡ false → less x ≡ held x
  less-else x d = own x ∙ ap (λ (b : Bool). if b then keep else held x) d

  asked-else : (w : OpenWant) (x : Node) → p.opened ≡ Some w → was_asked w x ≡ true → same_node x n ≡ false
  asked-else w x e asked =
      elim (cases_Bool (same_node x n)) [
        | inr d ↦ d
        | inl s ↦ absurd (false≢true (sym (unasked w e) ∙ subst (λ (z : Node). was_asked w z ≡ true) (same_node-true x n s) asked))
      ]

  less-asked : (w : OpenWant) (x : Node) → p.opened ≡ Some w → was_asked w x ≡ true → less x ≡ held x
  less-asked w x e asked = less-else x (asked-else w x e asked)

  lowered-opened : (x : Node) → opened_at less p.opened x ≡ opened_at held p.opened x
  lowered-opened = opened-same held less p.opened less-asked

  -- the want was granted nothing at the node
  none-here : opened_at held p.opened n ≡ NL
  none-here = go p.opened refl
    where
      go : (q : Option OpenWant) → p.opened ≡ q → opened_at held q n ≡ NL
      go None e = refl
      go (Some w) e = ap (λ (b : Bool). if b then mode_for w.need n else NL) (not-asked (contains n w.here) (same_node n w.here) w.is_asked (at_most (mode_for w.need n) (held n)) (unasked w e))

  at-each : (P : Node → Mode → Type 0) (x : Node) → P n keep → (same_node x n ≡ false → P x (held x)) → P x (less x)
  at-each P x f g =
      elim (cases_Bool (same_node x n)) [
        | inl s ↦ subst (λ (z : Node). P z (less z)) (sym (same_node-true x n s)) (subst (P n) (sym less-here) f)
        | inr d ↦ subst (P x) (sym (less-else x d)) (g d)
      ]

  pub own-lowered : IsKeptBut nowhere less seeks p
  own-lowered = record {
    covered = covered;
    plain = k.plain;
    way = k.way;
    granted = λ x. subst (λ (y : Mode). at_most y (less x) ≡ true) (sym (lowered-opened x))
        (at-each (λ z y. at_most (opened_at held p.opened z) y ≡ true) x
        (subst (λ (y : Mode). at_most y keep ≡ true) (sym none-here) (nothing keep)) (λ d. k.granted x));
    awake = λ x s. elim (cases_Bool (same_node x n)) [
      | inl e ↦ subst (λ (z : Node). seeks z ≡ less z) (sym (same_node-true x n e)) (seeks_own ∙ sym less-here)
      | inr d ↦ seeks_else x d ∙ (k.awake x (sym (sleeps-alike held less p.opened less-asked x) ∙ s) ∙ sym (less-else x d))
    ];
    asleep = λ w e s.
        let was : sleeps_at held (Some w) w.here ≡ true = ap (λ (o : Option OpenWant). sleeps_at held o w.here) (sym e) ∙ (sym (sleeps-alike held less p.opened less-asked w.here) ∙ (ap (λ (o : Option OpenWant). sleeps_at less o w.here) e ∙ s)) in
        let asked : was_asked w w.here ≡ true = asked-at_here w w.here (same_node-refl w.here) (and_parts w.is_asked (not (at_most (mode_for w.need w.here) (held w.here))) (and_parts (same_node w.here w.here) (w.is_asked && not (at_most (mode_for w.need w.here) (held w.here))) was).1).0 in
        seeks_else w.here (asked-else w w.here e asked) ∙ (k.asleep w e was ∙ ap (λ (y : Mode). least_above y (mode_for w.need w.here)) (sym (less-asked w w.here e asked)));
    exact = λ x w e asked.
        subst (λ (y : Mode). at_most y (kept_at less p x) ≡ true) (sym (less-asked w x e asked))
        (subst (λ (y : Mode). at_most (held x) (must_keep p.needs y x) ≡ true) (sym (lowered-opened x)) (k.exact x w e asked));
    earned = λ x b. subst (λ (y : Mode). at_most (intent (less x)) (least_above (intent y) (intents_on p.needs x)) ≡ true) (sym (lowered-opened x))
        (at-each (λ z y. at_most (intent y) (earned_at held p z) ≡ true) x owed (λ d. k.earned x d));
    no_stray = λ x b. subst (λ (y : Mode). (less x ≡ NL) ⊎ ((at_most y NL ≡ false) ⊎ (is_needed p.needs x ≡ true))) (sym (lowered-opened x))
        (at-each (λ z y. HasReason held p z y) x reason (λ d. k.no_stray x d));
  }
