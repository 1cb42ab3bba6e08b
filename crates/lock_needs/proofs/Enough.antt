-- What must be kept is enough for the needs, and what is earned below a node is kept there.
use Rattle.std.proofs.Common.{◌≡◌, Bool, true, false, refl, sym, ◌∙◌, ap, subst, inl, inr, List, [], ◌∷◌}
use Rattle.std.specs.Prelude.{◌&&◌, ◌||◌, not, if◌then◌else◌, Option, Some, None}
use Rattle.std.proofs.lemmas.Bool.{false≢true, and_parts, and_from, or_cases}
use Rattle.rdb_types.specs.declared.node.Node.{Node}
use Rattle.vms_queues.specs.declared.lock_mode.Mode.{Mode}
use Rattle.vms_queues.specs.declared.lock_mode.Mode.TheVariants.{NL}
use Rattle.vms_queues.specs.Modes.{at_most, least_above, intent}
use Rattle.lock_needs.specs.declared.need.Need.{Need}
use Rattle.lock_needs.specs.declared.party.OpenWant.{OpenWant}
use Rattle.lock_needs.specs.Party.{Party}
use Rattle.lock_needs.specs.Nodes.{same_node, contains, is_on}
use Rattle.lock_needs.specs.Needs.{Holding, covered_above}
use Rattle.lock_needs.specs.Keeping.{below, needed_on, needed_uncovered, must_keep, after_want, allows, is_enough}
use Rattle.lock_needs.specs.Wants.{mode_for, has_granted, opened_at, kept_at, intents_on, earned_at}
use Rattle.lock_needs.proofs.ModeTables.{at_most-trans, at_most-join, join-left, join-right, intent-twice, intent-own}
use Rattle.lock_needs.proofs.NodeLaws.{same_node-true, contains-trans}
use Rattle.lock_needs.proofs.Joins.{nothing}

-- a join under a test is at most a mode: where the test holds the first is, and the rest is
pub if-join : (b : Bool) (i r keep : Mode) → at_most (if b then least_above i r else r) keep ≡ true → ((not b || at_most i keep) ≡ true) × (at_most r keep ≡ true)
if-join true i r keep h = and_parts (at_most i keep) (at_most r keep) (sym (at_most-join i r keep) ∙ h)
if-join false i r keep h = (refl, h)

pub if-join-from : (b : Bool) (i r keep : Mode) → (b ≡ true → at_most i keep ≡ true) → at_most r keep ≡ true → at_most (if b then least_above i r else r) keep ≡ true
if-join-from true i r keep f h = at_most-join i r keep ∙ and_from (at_most i keep) (at_most r keep) (f refl) h
if-join-from false i r keep f h = h

arrange : (s c m : Bool) → (not (s && not c) || m) ≡ true → (not s || (m || c)) ≡ true
arrange false c m h = refl
arrange true c true h = refl
arrange true true false h = refl
arrange true false false h = h

-- what joins the intents below and the uncovered needs on the node is enough
pub enough-from : (held : Holding) (n : Node) (keep : Mode) (ws : List Need) → at_most (below ws n) keep ≡ true → at_most (needed_uncovered held ws n) keep ≡ true → is_enough held ws n keep ≡ true
enough-from held n keep [] h g = refl
enough-from held n keep (w ∷ ws) h g =
    let p = if-join (contains n w.node) (intent w.mode) (below ws n) keep h in
    let q = if-join (same_node n w.node && not (covered_above held w)) w.mode (needed_uncovered held ws n) keep g in
    and_from (allows held n keep w) (is_enough held ws n keep)
    (and_from (not (contains n w.node) || at_most (intent w.mode) keep) (not (same_node n w.node) || (at_most w.mode keep || covered_above held w)) p.0
    (arrange (same_node n w.node) (covered_above held w) (at_most w.mode keep) q.0))
    (enough-from held n keep ws p.1 q.1)

pub uncovered-most : (held : Holding) (n : Node) (keep : Mode) (ws : List Need) → at_most (needed_on ws n) keep ≡ true → at_most (needed_uncovered held ws n) keep ≡ true
uncovered-most held n keep [] h = h
uncovered-most held n keep (w ∷ ws) h =
    let p = if-join (same_node n w.node) w.mode (needed_on ws n) keep h in
    if-join-from (same_node n w.node && not (covered_above held w)) w.mode (needed_uncovered held ws n) keep
    (λ e. elim (or_cases (not (same_node n w.node)) (at_most w.mode keep) p.0) [
      | inl x ↦ absurd (false≢true (ap not (sym (and_parts (same_node n w.node) (not (covered_above held w)) e).0) ∙ x))
      | inr y ↦ y
    ])
    (uncovered-most held n keep ws p.1)

-- what a notice leaves is enough
pub enough-must_keep : (held : Holding) (n : Node) (opened : Mode) (ws : List Need) → is_enough held ws n (must_keep ws opened n) ≡ true
enough-must_keep held n opened ws =
    let needs : Mode = least_above (below ws n) (needed_on ws n) in
    let keep : Mode = least_above opened needs in
    let up : at_most needs keep ≡ true = join-right opened needs in
    enough-from held n keep ws (at_most-trans (below ws n) needs keep (join-left (below ws n) (needed_on ws n)) up)
    (uncovered-most held n keep ws (at_most-trans (needed_on ws n) needs keep (join-right (below ws n) (needed_on ws n)) up))

-- what is left once the want has ended is enough
pub enough-after_want : (held : Holding) (n : Node) (ws : List Need) → is_enough held ws n (after_want held ws n) ≡ true
enough-after_want held n ws =
    enough-from held n (after_want held ws n) ws (join-left (below ws n) (needed_uncovered held ws n)) (join-right (below ws n) (needed_uncovered held ws n))

pub on-within : (n c k : Node) → contains n c ≡ true → is_on c k ≡ true → contains n k ≡ true
on-within n c k h o =
    elim (or_cases (same_node c k) (contains c k) o) [
      | inl s ↦ subst (λ (z : Node). contains n z ≡ true) (same_node-true c k s) h
      | inr g ↦ contains-trans n c k h g
    ]

-- the intents of needs on a node below are among those of needs below
pub intents-below : (n c : Node) (keep : Mode) (ws : List Need) → contains n c ≡ true → at_most (below ws n) keep ≡ true → at_most (intents_on ws c) keep ≡ true
intents-below n c keep [] h g = g
intents-below n c keep (w ∷ ws) h g =
    let p = if-join (contains n w.node) (intent w.mode) (below ws n) keep g in
    if-join-from (is_on c w.node) (intent w.mode) (intents_on ws c) keep
    (λ o. elim (or_cases (not (contains n w.node)) (at_most (intent w.mode) keep) p.0) [
      | inl x ↦ absurd (false≢true (ap not (sym (on-within n c w.node h o)) ∙ x))
      | inr y ↦ y
    ])
    (intents-below n c keep ws h p.1)

mode_for-intent : (w : Need) (n : Node) → intent (mode_for w n) ≡ intent w.mode
mode_for-intent w n = elim (same_node n w.node) as (λ b. intent (if b then w.mode else intent w.mode) ≡ intent w.mode) [ true ↦ refl | false ↦ intent-twice w.mode ]

-- what the open want was granted on a node below has its intent in what it was granted here
opened-below_test : (held : Holding) (w : OpenWant) (n c : Node) (keep : Mode) (b : Bool) → contains n c ≡ true → at_most (opened_at held (Some w) n) keep ≡ true → has_granted held w c ≡ b → at_most (intent (if b then mode_for w.need c else NL)) keep ≡ true
opened-below_test held w n c keep false h g e = nothing keep
opened-below_test held w n c keep true h g e =
    let tail : Bool = w.is_asked && at_most (mode_for w.need c) (held c) in
    let here : contains n w.here ≡ true = elim (or_cases (contains c w.here) (same_node c w.here && tail) e) [
      | inl x ↦ contains-trans n c w.here h x
      | inr y ↦ subst (λ (z : Node). contains n z ≡ true) (same_node-true c w.here (and_parts (same_node c w.here) tail y).0) h
    ] in
    let k : at_most (mode_for w.need n) keep ≡ true =
    subst (λ (t : Bool). at_most (if t || (same_node n w.here && (w.is_asked && at_most (mode_for w.need n) (held n))) then mode_for w.need n else NL) keep ≡ true) here g in
    subst (λ (m : Mode). at_most m keep ≡ true) (sym (mode_for-intent w.need c))
    (at_most-trans (intent w.need.mode) (mode_for w.need n) keep
    (subst (λ (m : Mode). at_most m (mode_for w.need n) ≡ true) (mode_for-intent w.need n) (intent-own (mode_for w.need n))) k)

opened-below : (held : Holding) (o : Option OpenWant) (n c : Node) (keep : Mode) → contains n c ≡ true → at_most (opened_at held o n) keep ≡ true → at_most (intent (opened_at held o c)) keep ≡ true
opened-below held None n c keep h g = nothing keep
opened-below held (Some w) n c keep h g = opened-below_test held w n c keep (has_granted held w c) h g refl

-- a lock below a node, of which the intent is earned, has an intent that what must be kept at the node allows
pub earned-kept : (held : Holding) (p : Party) (n c : Node) → at_most (intent (held c)) (earned_at held p c) ≡ true → contains n c ≡ true → at_most (intent (held c)) (kept_at held p n) ≡ true
earned-kept held p n c k h =
    let o : Mode = opened_at held p.opened n in
    let needs : Mode = least_above (below p.needs n) (needed_on p.needs n) in
    let keep : Mode = kept_at held p n in
    at_most-trans (intent (held c)) (earned_at held p c) keep k
    (at_most-join (intent (opened_at held p.opened c)) (intents_on p.needs c) keep
    ∙ and_from (at_most (intent (opened_at held p.opened c)) keep) (at_most (intents_on p.needs c) keep)
    (opened-below held p.opened n c keep h (join-left o needs))
    (intents-below n c keep p.needs h (at_most-trans (below p.needs n) needs keep (join-left (below p.needs n) (needed_on p.needs n)) (join-right o needs))))

pub excess-parts : (a b : Bool) → (a && not b) ≡ true → (a ≡ true) × (b ≡ false)
excess-parts true false h = (refl, refl)
excess-parts true true h = absurd (false≢true h)
excess-parts false b h = absurd (false≢true h)
