-- What grows as its owner holds more: what an open want has been granted, what is earned, what must be kept.
use Rattle.std.proofs.Common.{◌≡◌, Bool, true, refl, sym, ◌∙◌, ap, subst, inl, inr}
use Rattle.std.specs.Prelude.{◌&&◌, not, if◌then◌else◌, Option, Some, None}
use Rattle.std.proofs.lemmas.Bool.{false≢true, and_parts, and_from, or_left, or_right, or_cases, cases_Bool}
use Rattle.rdb_types.specs.declared.node.Node.{Node}
use Rattle.vms_queues.specs.declared.lock_mode.Mode.{Mode}
use Rattle.vms_queues.specs.declared.lock_mode.Mode.TheVariants.{NL, CR, CW, PR, PW, EX}
use Rattle.vms_queues.specs.Modes.{at_most, least_above, intent}
use Rattle.lock_needs.specs.declared.party.OpenWant.{OpenWant}
use Rattle.lock_needs.specs.Party.{Party}
use Rattle.lock_needs.specs.Nodes.{same_node, contains}
use Rattle.lock_needs.specs.Needs.{Holding}
use Rattle.lock_needs.specs.Wants.{mode_for, has_granted, opened_at, sleeps_at, kept_at, intents_on, earned_at}
use Rattle.lock_needs.proofs.ModeTables.{at_most-refl, at_most-trans, at_most-join, join-left, join-right, intent-most}
use Rattle.lock_needs.proofs.Joins.{nothing}
use Rattle.lock_needs.proofs.Cover.{by_test}

-- a want that has been granted its mode at a node has it still where more is held
pub granted-more : (held more : Holding) (w : OpenWant) (x : Node) → at_most (held x) (more x) ≡ true → has_granted held w x ≡ true → has_granted more w x ≡ true
granted-more held more w x up h =
    elim (or_cases (contains x w.here) (same_node x w.here && (w.is_asked && at_most (mode_for w.need x) (held x))) h) [
      | inl c ↦ or_left (contains x w.here) (same_node x w.here && (w.is_asked && at_most (mode_for w.need x) (more x))) c
      | inr s ↦
          let p = and_parts (same_node x w.here) (w.is_asked && at_most (mode_for w.need x) (held x)) s in
          let q = and_parts w.is_asked (at_most (mode_for w.need x) (held x)) p.1 in
          or_right (contains x w.here) (same_node x w.here && (w.is_asked && at_most (mode_for w.need x) (more x)))
          (and_from (same_node x w.here) (w.is_asked && at_most (mode_for w.need x) (more x)) p.0
          (and_from w.is_asked (at_most (mode_for w.need x) (more x)) q.0 (at_most-trans (mode_for w.need x) (held x) (more x) q.1 up)))
    ]

pub opened-more : (held more : Holding) (o : Option OpenWant) (x : Node) → at_most (held x) (more x) ≡ true → at_most (opened_at held o x) (opened_at more o x) ≡ true
opened-more held more None x up = refl
opened-more held more (Some w) x up =
    by_test (λ (y : Mode). at_most y (opened_at more (Some w) x) ≡ true) (has_granted held w x) (mode_for w.need x) NL
    (λ h. subst (λ (b : Bool). at_most (mode_for w.need x) (if b then mode_for w.need x else NL) ≡ true) (sym (granted-more held more w x up h)) (at_most-refl (mode_for w.need x)))
    (λ h. nothing (opened_at more (Some w) x))

pub join-more : (a b m : Mode) → at_most a b ≡ true → at_most (least_above a m) (least_above b m) ≡ true
join-more a b m h =
    at_most-join a m (least_above b m)
    ∙ and_from (at_most a (least_above b m)) (at_most m (least_above b m)) (at_most-trans a b (least_above b m) h (join-left b m)) (join-right b m)

pub earned-more : (held more : Holding) (p : Party) (x : Node) → at_most (held x) (more x) ≡ true → at_most (earned_at held p x) (earned_at more p x) ≡ true
earned-more held more p x up =
    join-more (intent (opened_at held p.opened x)) (intent (opened_at more p.opened x)) (intents_on p.needs x)
    (intent-most (opened_at held p.opened x) (opened_at more p.opened x) (opened-more held more p.opened x up))

pub kept-more : (held more : Holding) (p : Party) (x : Node) → at_most (held x) (more x) ≡ true → at_most (kept_at held p x) (kept_at more p x) ≡ true
kept-more held more p x up = join-more (opened_at held p.opened x) (opened_at more p.opened x) _ (opened-more held more p.opened x up)

-- who sleeps slept before, where less was held
pub sleeps-less : (held more : Holding) (o : Option OpenWant) (x : Node) → at_most (held x) (more x) ≡ true → sleeps_at more o x ≡ true → sleeps_at held o x ≡ true
sleeps-less held more None x up h = h
sleeps-less held more (Some w) x up h =
    let p = and_parts (same_node x w.here) (w.is_asked && not (at_most (mode_for w.need x) (more x))) h in
    let q = and_parts w.is_asked (not (at_most (mode_for w.need x) (more x))) p.1 in
    and_from (same_node x w.here) (w.is_asked && not (at_most (mode_for w.need x) (held x))) p.0
    (and_from w.is_asked (not (at_most (mode_for w.need x) (held x))) q.0
    (elim (cases_Bool (at_most (mode_for w.need x) (held x))) [
      | inr f ↦ ap not f
      | inl t ↦ absurd (false≢true (ap not (sym (at_most-trans (mode_for w.need x) (held x) (more x) t up)) ∙ q.1))
    ]))

pub no-mode : (a b : Mode) → a ≡ NL → at_most b NL ≡ true → least_above a b ≡ NL
no-mode a NL e h = ap (λ (x : Mode). least_above x NL) e
no-mode a CR e h = absurd (false≢true h)
no-mode a CW e h = absurd (false≢true h)
no-mode a PR e h = absurd (false≢true h)
no-mode a PW e h = absurd (false≢true h)
no-mode a EX e h = absurd (false≢true h)
