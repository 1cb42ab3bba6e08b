-- What is true of an owner stays where it is granted what it asked.
use Rattle.std.proofs.Common.{◌≡◌, Bool, true, false, refl, sym, ◌∙◌, ap, subst, ◌⊎◌, inl, inr}
use Rattle.std.specs.Prelude.{◌&&◌, not, if◌then◌else◌, Option, Some, None}
use Rattle.std.proofs.lemmas.Bool.{false≢true, and_parts, and_from, or_left, or_right, or_cases, cases_Bool}
use Rattle.rdb_types.specs.declared.node.Node.{Node}
use Rattle.vms_queues.specs.declared.lock_mode.Mode.{Mode}
use Rattle.vms_queues.specs.declared.lock_mode.Mode.TheVariants.{NL}
use Rattle.vms_queues.specs.Modes.{at_most, least_above, intent}
use Rattle.lock_needs.specs.declared.party.OpenWant.{OpenWant}
use Rattle.lock_needs.specs.Party.{Party}
use Rattle.lock_needs.specs.Nodes.{same_node, contains}
use Rattle.lock_needs.specs.Needs.{Holding}
use Rattle.lock_needs.specs.Keeping.{below, needed_on}
use Rattle.lock_needs.specs.Wants.{mode_for, has_granted, opened_at, sleeps_at, kept_at, intents_on, earned_at}
use Rattle.lock_needs.proofs.ModeTables.{at_most-refl, at_most-trans, at_most-join, join-left, join-right, intent-join}
use Rattle.lock_needs.proofs.NodeLaws.{same_node-true, same_node-refl}
use Rattle.lock_needs.proofs.Cover.{all_covered-more, by_test}
use Rattle.lock_needs.proofs.Joins.{nothing}
use Rattle.lock_needs.proofs.Growing.{opened-more, earned-more, kept-more, sleeps-less, no-mode}
use Rattle.lock_tree_laws.specs.Parties.{IsKeptBut, HasReason, was_asked, nowhere}

module _ (held more sought : Holding) (p : Party) (either : (x : Node) → (more x ≡ held x) ⊎ (more x ≡ sought x)) (ascends : (x : Node) → at_most (held x) (sought x) ≡ true) (k : IsKeptBut nowhere held sought p) where
  either-way : (P : Mode → Type 0) (x : Node) → P (held x) → P (sought x) → P (more x)
  either-way P x f g = elim (either x) [ inl e ↦ subst P (sym e) f | inr e ↦ subst P (sym e) g ]

  up : (x : Node) → at_most (held x) (more x) ≡ true
  up x = either-way (λ (y : Mode). at_most (held x) y ≡ true) x (at_most-refl (held x)) (ascends x)

  -- where it sleeps still, nothing was granted to it
  sleeps-same : (w : OpenWant) → p.opened ≡ Some w → sleeps_at more (Some w) w.here ≡ true → more w.here ≡ held w.here
  sleeps-same w e s =
      let x : Node = w.here in
      let m : Mode = mode_for w.need x in
      let old : sleeps_at held (Some w) x ≡ true = sleeps-less held more (Some w) x (up x) s in
      let a = and_parts (same_node x x) (w.is_asked && not (at_most m (more x))) s in
      let q = and_parts w.is_asked (not (at_most m (more x))) a.1 in
      either-way (λ (y : Mode). more x ≡ y → more x ≡ held x) x
      (λ f. f)
      (λ f. absurd (false≢true (ap not (sym (subst (λ (y : Mode). at_most m y ≡ true) (sym (f ∙ k.asleep w e old)) (join-right (held x) m))) ∙ q.1)))
      refl

  same-sleep : (o : Option OpenWant) (x : Node) → more x ≡ held x → sleeps_at held o x ≡ true → sleeps_at more o x ≡ true
  same-sleep None x f e = e
  same-sleep (Some w) x f e = subst (λ (y : Mode). (same_node x w.here && (w.is_asked && not (at_most (mode_for w.need x) y))) ≡ true) (sym f) e

  awake-now : (x : Node) → sleeps_at more p.opened x ≡ false → sought x ≡ more x
  awake-now x s =
      either-way (λ (y : Mode). more x ≡ y → sought x ≡ y) x
      (λ f. elim (cases_Bool (sleeps_at held p.opened x)) [
        | inr d ↦ k.awake x d
        | inl e ↦ absurd (false≢true (sym s ∙ same-sleep p.opened x f e))
      ])
      (λ f. refl)
      refl

  -- a lock that grew is where it slept, and is now what joins the old one and the want
  grown : (P : Node → Mode → Type 0) (x : Node) → P x (held x) → ((w : OpenWant) → p.opened ≡ Some w → x ≡ w.here → w.is_asked ≡ true → more x ≡ least_above (held x) (mode_for w.need x) → P x (least_above (held x) (mode_for w.need x))) → P x (more x)
  grown P x f g =
      either-way (λ (y : Mode). more x ≡ y → P x y) x
      (λ e. f)
      (λ e. from-sought p.opened refl e)
      refl
    where
      from-sought : (o : Option OpenWant) → p.opened ≡ o → more x ≡ sought x → P x (sought x)
      from-sought None eo e = subst (P x) (sym (k.awake x (ap (λ (o : Option OpenWant). sleeps_at held o x) eo))) f
      from-sought (Some w) eo e =
          elim (cases_Bool (sleeps_at held (Some w) x)) [
            | inr d ↦ subst (P x) (sym (k.awake x (ap (λ (o : Option OpenWant). sleeps_at held o x) eo ∙ d))) f
            | inl s ↦
                let a = and_parts (same_node x w.here) (w.is_asked && not (at_most (mode_for w.need x) (held x))) s in
                let here : x ≡ w.here = same_node-true x w.here a.0 in
                let q : sought x ≡ least_above (held x) (mode_for w.need x) =
                subst (λ (z : Node). sought z ≡ least_above (held z) (mode_for w.need z)) (sym here)
                (k.asleep w eo (subst (λ (z : Node). sleeps_at held (Some w) z ≡ true) here s)) in
                subst (P x) (sym q) (g w eo here (and_parts w.is_asked (not (at_most (mode_for w.need x) (held x))) a.1).0 (e ∙ q))
          ]

  -- what it was granted now counts for its open want
  granted-now : (w : OpenWant) (x : Node) → p.opened ≡ Some w → x ≡ w.here → w.is_asked ≡ true → more x ≡ least_above (held x) (mode_for w.need x) → opened_at more p.opened x ≡ mode_for w.need x
  granted-now w x e h a f =
      let m : Mode = mode_for w.need x in
      ap (λ (o : Option OpenWant). opened_at more o x) e
      ∙ ap (λ (b : Bool). if b then m else NL)
      (or_right (contains x w.here) (same_node x w.here && (w.is_asked && at_most m (more x)))
      (and_from (same_node x w.here) (w.is_asked && at_most m (more x)) (subst (λ (z : Node). same_node x z ≡ true) h (same_node-refl x))
      (and_from w.is_asked (at_most m (more x)) a (subst (λ (y : Mode). at_most m y ≡ true) (sym f) (join-right (held x) m)))))

  woken-earned : (x : Node) → at_most (intent (more x)) (earned_at more p x) ≡ true
  woken-earned x =
      let old : at_most (intent (held x)) (earned_at more p x) ≡ true =
      at_most-trans (intent (held x)) (earned_at held p x) (earned_at more p x) (k.earned x refl) (earned-more held more p x (up x)) in
      grown (λ z y. at_most (intent y) (earned_at more p x) ≡ true) x old
      (λ w e h a f. intent-join (held x) (mode_for w.need x) (earned_at more p x) old
      (at_most-trans (intent (mode_for w.need x)) (intent (opened_at more p.opened x)) (earned_at more p x)
      (subst (λ (y : Mode). at_most (intent (mode_for w.need x)) (intent y) ≡ true) (sym (granted-now w x e h a f)) (at_most-refl (intent (mode_for w.need x))))
      (join-left (intent (opened_at more p.opened x)) (intents_on p.needs x))))

  woken-granted : (x : Node) (o : Option OpenWant) → p.opened ≡ o → at_most (opened_at more o x) (more x) ≡ true
  woken-granted x None e = nothing (more x)
  woken-granted x (Some w) e =
      let m : Mode = mode_for w.need x in
      by_test (λ (y : Mode). at_most y (more x) ≡ true) (has_granted more w x) m NL
      (λ h. elim (or_cases (contains x w.here) (same_node x w.here && (w.is_asked && at_most m (more x))) h) [
        | inl c ↦
            let was : at_most (if has_granted held w x then m else NL) (held x) ≡ true = subst (λ (o : Option OpenWant). at_most (opened_at held o x) (held x) ≡ true) e (k.granted x) in
            let had : has_granted held w x ≡ true = or_left (contains x w.here) (same_node x w.here && (w.is_asked && at_most m (held x))) c in
            at_most-trans m (held x) (more x) (subst (λ (b : Bool). at_most (if b then m else NL) (held x) ≡ true) had was) (up x)
        | inr d ↦
            let a = and_parts (same_node x w.here) (w.is_asked && at_most m (more x)) d in
            (and_parts w.is_asked (at_most m (more x)) a.1).1
      ])
      (λ h. nothing (more x))

  woken-asleep : (w : OpenWant) → p.opened ≡ Some w → sleeps_at more (Some w) w.here ≡ true → sought w.here ≡ least_above (more w.here) (mode_for w.need w.here)
  woken-asleep w e s =
      k.asleep w e (sleeps-less held more (Some w) w.here (up w.here) s)
      ∙ ap (λ (y : Mode). least_above y (mode_for w.need w.here)) (sym (sleeps-same w e s))

  woken-exact : (x : Node) (w : OpenWant) → p.opened ≡ Some w → was_asked w x ≡ true → at_most (more x) (kept_at more p x) ≡ true
  woken-exact x w e asked =
      let old : at_most (held x) (kept_at more p x) ≡ true = at_most-trans (held x) (kept_at held p x) (kept_at more p x) (k.exact x w e asked) (kept-more held more p x (up x)) in
      grown (λ z y. at_most y (kept_at more p x) ≡ true) x old
      (λ v f h a g. at_most-join (held x) (mode_for v.need x) (kept_at more p x)
      ∙ and_from (at_most (held x) (kept_at more p x)) (at_most (mode_for v.need x) (kept_at more p x)) old
      (subst (λ (y : Mode). at_most y (kept_at more p x) ≡ true) (granted-now v x f h a g) (join-left (opened_at more p.opened x) (least_above (below p.needs x) (needed_on p.needs x)))))

  woken-no_stray : (x : Node) → HasReason more p x (more x)
  woken-no_stray x =
      elim (k.no_stray x refl) [
        | inr r ↦ elim r [
          | inr l ↦ inr (inr l)
          | inl f ↦ inr (inl (elim (cases_Bool (at_most (opened_at more p.opened x) NL)) [
            | inr g ↦ g
            | inl g ↦ absurd (false≢true (sym f ∙ at_most-trans (opened_at held p.opened x) (opened_at more p.opened x) NL (opened-more held more p.opened x (up x)) g))
          ]))
        ]
        | inl z ↦ grown (λ y m. HasReason more p x m) x (inl z)
            (λ w e h a f. elim (cases_Bool (at_most (mode_for w.need x) NL)) [
              | inl g ↦ inl (no-mode (held x) (mode_for w.need x) z g)
              | inr g ↦ inr (inl (subst (λ (y : Mode). at_most y NL ≡ false) (sym (granted-now w x e h a f)) g))
            ])
      ]

  -- all that was true of the owner stays
  pub woken-kept : IsKeptBut nowhere more sought p
  woken-kept = record {
    covered = all_covered-more held more up p.needs k.covered;
    plain = k.plain;
    way = k.way;
    granted = λ x. woken-granted x p.opened refl;
    awake = awake-now;
    asleep = woken-asleep;
    exact = woken-exact;
    earned = λ x b. woken-earned x;
    no_stray = λ x b. woken-no_stray x;
  }
