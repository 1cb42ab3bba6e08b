-- Who isn't in excess at a node. Where no lock of its owner above is exclusive, it holds there no more than it must keep.
use Rattle.std.proofs.Common.{◌≡◌, true, false, refl, sym, ◌∙◌, inl, inr}
use Rattle.std.specs.Prelude.{if◌then◌else◌}
use Rattle.std.proofs.lemmas.Bool.{false≢true, and_from, cases_Bool}
use Rattle.rdb_types.specs.declared.node.Node.{Node}
use Rattle.vms_queues.specs.declared.lock_mode.Mode.{Mode}
use Rattle.vms_queues.specs.declared.lock_mode.Mode.TheVariants.{NL, CR, CW, PR, PW, EX}
use Rattle.vms_queues.specs.Modes.{may_share, at_most, least_above, intent}
use Rattle.vms_queues.proofs.ModeLaws.{all_modes_2-at, implies, from_implies}
use Rattle.lock_needs.specs.declared.need.Need.{Need}
use Rattle.lock_needs.specs.Party.{Party}
use Rattle.lock_needs.specs.Nodes.{same_node}
use Rattle.lock_needs.specs.Needs.{Holding, HasIntentsAbove}
use Rattle.lock_needs.specs.Keeping.{below, needed_on, is_excess}
use Rattle.lock_needs.specs.Wants.{mode_for, opened_at, kept_at, intents_on, earned_at}
use Rattle.lock_needs.proofs.ModeTables.{at_most-trans, at_most-join, at_most-shares, join-left, join-right, intent-own}
use Rattle.lock_tree_laws.specs.Parties.{IsKeptBut, nowhere}
use Rattle.lock_tree_laws.proofs.Exactness.{HasNoExclusiveAbove, below-allowed, needed-allowed, at-least-read, intents-kept}

-- what isn't shared with a mode isn't shared with one that is at least the mode
pub shut-more : (a b m : Mode) → at_most a b ≡ true → may_share a m ≡ false → may_share b m ≡ false
shut-more a b m h f =
    elim (cases_Bool (may_share b m)) [
      | inr n ↦ n
      | inl t ↦ absurd (false≢true (sym f ∙ at_most-shares a b m h t))
    ]

-- who shares with an exclusive lock has nothing there
pub beside-exclusive : (g m : Mode) → at_most EX g ≡ true → may_share g m ≡ true → at_most m NL ≡ true
beside-exclusive g m e s =
    from_implies (may_share g m) (at_most m NL)
    (from_implies (at_most EX g) (implies (may_share g m) (at_most m NL)) (all_modes_2-at (λ g m. implies (at_most EX g) (implies (may_share g m) (at_most m NL))) refl g m) e) s

-- the mode of a need is something at each node on its way
pub mode-used : (w : Need) (n : Node) → at_most w.mode NL ≡ false → at_most (mode_for w n) NL ≡ false
mode-used w n f = elim (same_node n w.node) as (λ b. at_most (if b then w.mode else intent w.mode) NL ≡ false) [ true ↦ f | false ↦ no-intent w.mode f ]
  where
    no-intent : (m : Mode) → at_most m NL ≡ false → at_most (intent m) NL ≡ false
    no-intent NL f = f
    no-intent CR f = refl
    no-intent CW f = refl
    no-intent PR f = refl
    no-intent PW f = refl
    no-intent EX f = refl

module _ (held sought : Holding) (p : Party) (n : Node) (k : IsKeptBut nowhere held sought p) (intents : HasIntentsAbove held) (none : HasNoExclusiveAbove held n) where
  abbrev opened : Mode
  opened = opened_at held p.opened n

  abbrev needed : Mode
  needed = least_above (below p.needs n) (needed_on p.needs n)

  pub kept-allowed : at_most PR (held n) ≡ true → at_most (kept_at held p n) (held n) ≡ true
  kept-allowed reads =
      at_most-join opened needed (held n)
      ∙ and_from (at_most opened (held n)) (at_most needed (held n)) (k.granted n)
      (at_most-join (below p.needs n) (needed_on p.needs n) (held n)
      ∙ and_from (at_most (below p.needs n) (held n)) (at_most (needed_on p.needs n) (held n))
      (below-allowed held n intents none reads p.needs k.covered) (needed-allowed held n intents none reads p.needs k.covered))

  intent-kept : at_most (intent (held n)) (kept_at held p n) ≡ true
  intent-kept =
      at_most-trans (intent (held n)) (earned_at held p n) (kept_at held p n) (k.earned n refl)
      (at_most-join (intent opened) (intents_on p.needs n) (kept_at held p n)
      ∙ and_from (at_most (intent opened) (kept_at held p n)) (at_most (intents_on p.needs n) (kept_at held p n))
      (at_most-trans (intent opened) opened (kept_at held p n) (intent-own opened) (join-left opened needed))
      (intents-kept n (kept_at held p n) p.needs
      (at_most-trans (below p.needs n) needed (kept_at held p n) (join-left (below p.needs n) (needed_on p.needs n)) (join-right opened needed))
      (at_most-trans (needed_on p.needs n) needed (kept_at held p n) (join-right (below p.needs n) (needed_on p.needs n)) (join-right opened needed))))

  pub least-held : is_excess (held n) (kept_at held p n) ≡ false → at_most (held n) (kept_at held p n) ≡ true
  least-held x = at-least-read (held n) (kept_at held p n) kept-allowed intent-kept x
