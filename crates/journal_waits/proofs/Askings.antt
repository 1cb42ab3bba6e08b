-- A want of the journal that opens and is got, or sleeps, was asked there.
use Rattle.std.proofs.Common.{◌≡◌, ℕ, ◌++◌, ◌==◌, ◌&&◌, ◌||◌, not, if◌then◌else◌, Bool, true, false, List, [], ◌∷◌, map, refl, ◌∙◌, sym, ap, subst, arith, Option, Some, None, is_some, inl, inr}
use Rattle.std.proofs.lemmas.Bool.{false≢true, and_parts, or_right, and_from}
use Rattle.rdb_types.specs.declared.node.Level.{Level}
use Rattle.rdb_types.specs.declared.node.Level.TheVariants.{Area, Range, Page, Journal}
use Rattle.rdb_types.specs.declared.node.Node.{Node}
use Rattle.vms_queues.specs.declared.lock_mode.Mode.{Mode}
use Rattle.vms_queues.specs.declared.lock_mode.Mode.TheVariants.{NL, EX}
use Rattle.vms_queues.specs.Modes.{at_most}
use Rattle.vms_queues.specs.Queues.{Queues}
use Rattle.vms_locks.specs.Table.{Table}
use Rattle.lock_needs.specs.declared.need.Need.{Need}
use Rattle.lock_needs.specs.declared.party.Asked.{Asked}
use Rattle.lock_needs.specs.declared.party.OpenWant.{OpenWant}
use Rattle.lock_needs.specs.Party.{Party}
use Rattle.lock_needs.specs.Nodes.{same_node, contains, on_way, is_above}
use Rattle.lock_needs.specs.Needs.{Holding, covers_below, covered_above, is_covered}
use Rattle.lock_needs.specs.Wants.{opened_at}
use Rattle.lock_needs.specs.Waits.{converts_at}
use Rattle.lock_needs.proofs.NodeLaws.{same_node-refl}
use Rattle.lock_tree_laws.specs.LockTable.{granted_at}
use Rattle.lock_tree_laws.specs.Parties.{HasReason, was_asked}
use Rattle.lock_tree_laws.specs.Forest.{State, IsWhole, HasAsks, is_asked_at, party_of, opened_of}
use Rattle.lock_tree_laws.specs.Order.{without_asks}
use Rattle.lock_tree_laws.specs.Wanted.{Answered, asks_for, needs_of, trail_of_want}
use Rattle.lock_tree_laws.specs.Rule.{Visit, AreByRule, Finishes, GoesDown, entered}
use Rattle.lock_tree_laws.specs.declared.answer.Want.{Want}
use Rattle.lock_tree_laws.specs.declared.answer.Want.TheVariants.{Got, Asleep}

-- ---- got

-- who has no need there, and no open want, has no lock there
no-lock : (s : State) (owner : ℕ) (n : Node) → IsWhole s → opened_of s owner ≡ None → converts_at (needs_of s owner) n ≡ false → granted_at s.table owner n ≡ NL
no-lock s owner n whole none free = by ((whole.kept owner).no_stray n refl)
  where
    by : HasReason (granted_at s.table owner) (party_of s.parties owner) n (granted_at s.table owner n) → granted_at s.table owner n ≡ NL
    by (inl k) = k
    by (inr (inl k)) = absurd (false≢true (sym k ∙ ap (λ (x : Option OpenWant). at_most (opened_at (granted_at s.table owner) x n) NL) none))
    by (inr (inr k)) = absurd (false≢true (sym free ∙ k))

-- nothing above the journal covers it
not-above : (held : Holding) (w : Need) → w.node.level ≡ Journal → covered_above held w ≡ false
not-above held w e =
    by (covers_below (held (on_way Area w.node)) w.mode) (covers_below (held (on_way Range w.node)) w.mode) (covers_below (held (on_way Page w.node)) w.mode) (is_above Area w.node.level) (is_above Range w.node.level) (is_above Page w.node.level)
    (ap (λ (l : Level). is_above Area l) e) (ap (λ (l : Level). is_above Range l) e) (ap (λ (l : Level). is_above Page l) e)
  where
    by : (x y z a b c : Bool) → a ≡ false → b ≡ false → c ≡ false → ((a && x) || ((b && y) || (c && z))) ≡ false
    by x y z a b c f g h = grind arith

uncovered : (held : Holding) (w : Need) → w.node.level ≡ Journal → w.mode ≡ EX → held w.node ≡ NL → is_covered held w ≡ false
uncovered held w e ex none = or-none (at_most w.mode (held w.node)) (covered_above held w) (ap (λ (m : Mode). at_most m (held w.node)) ex ∙ ap (at_most EX) none) (not-above held w e)
  where
    or-none : (a b : Bool) → a ≡ false → b ≡ false → (a || b) ≡ false
    or-none a b h k = grind arith

-- where nothing was asked, no lock changed
same-locks : (a b : Table) → b.entries ≡ a.entries → (owner : ℕ) (w : Need) → is_covered (granted_at b owner) w ≡ is_covered (granted_at a owner) w
same-locks a b e owner w = ap (λ (es : List (Node × Queues)). is_covered (granted_at (record { entries = es; spare = 0 }) owner) w) e

-- ---- asleep

-- behind an entry of no other, the owner is asked for nowhere
unasked-left : (owner : ℕ) (n : Node) (xs : List Asked) → is_asked_at (without_asks owner xs) owner n ≡ false
unasked-left owner n [] = refl
unasked-left owner n (x ∷ xs) = by (x.owner == owner) refl (unasked-left owner n xs)
  where
    by : (b : Bool) → (x.owner == owner) ≡ b → is_asked_at (without_asks owner xs) owner n ≡ false → is_asked_at (if not b then x ∷ without_asks owner xs else without_asks owner xs) owner n ≡ false
    by true e rest = rest
    by false e rest = or-none ((x.owner == owner) && same_node x.node n) (is_asked_at (without_asks owner xs) owner n) (off (x.owner == owner) (same_node x.node n) e) rest
      where
        or-none : (a b : Bool) → a ≡ false → b ≡ false → (a || b) ≡ false
        or-none a b h k = grind arith

        off : (a b : Bool) → a ≡ false → (a && b) ≡ false
        off a b h = grind arith

-- ---- nodes at which it was asked

abbrev tail : {A : Type 0} → List A → List A
tail [] = []
tail (z ∷ zs) = zs

abbrev is_empty : {A : Type 0} → List A → Bool
is_empty [] = true
is_empty (z ∷ zs) = false

longer : {A : Type 0} (xs ys : List A) (y : A) → xs ++ y ∷ ys ≡ xs → ⊥
longer [] ys y e = absurd (false≢true (ap is_empty e))
longer (x ∷ xs) ys y e = longer xs ys y (ap tail e)

append-none : {A : Type 0} (xs : List A) → xs ++ [] ≡ xs
append-none [] = refl
append-none (x ∷ xs) = ap (λ ys. x ∷ ys) (append-none xs)

-- the want is fresh: it visited no node where its owner was asked for nowhere
unvisited : (s : ℕ) (n : Need) (old new : State) (wait : Bool) (answer : Want) (nodes : List Node) (g : GoesDown s n wait (Finishes s answer) (entered old s) new) → new.trail ≡ trail_of_want old s ++ asks_for s nodes → nodes ≡ [] → g.visits ≡ []
unvisited s n old new wait answer nodes g trail none = by g.visits g.trail
  where
    left : new.trail ≡ trail_of_want old s
    left = trail ∙ (ap (λ (ns : List Node). trail_of_want old s ++ asks_for s ns) none ∙ append-none (trail_of_want old s))

    by : (vs : List Visit) → new.trail ≡ trail_of_want old s ++ asks_for s (map (λ v. v.node) vs) → vs ≡ []
    by [] e = refl
    by (v ∷ vs) e = absurd (longer (trail_of_want old s) (asks_for s (map (λ v. v.node) vs)) (record { owner = s; node = v.node }) (sym e ∙ left))

pub got-asked : (s : ℕ) (n : Need) (old new : State) (wait : Bool) (nodes : List Node) → n.node.level ≡ Journal → n.mode ≡ EX → IsWhole old → opened_of old s ≡ None → converts_at (needs_of old s) n.node ≡ false → GoesDown s n wait (Finishes s Got) (entered old s) new →
    Answered (needs_of old s) new s n wait Got → new.trail ≡ trail_of_want old s ++ asks_for s nodes → nodes ≡ [] → ⊥
got-asked s n old new wait nodes level ex whole none free g answer trail empty =
    let unseen : g.visits ≡ [] = unvisited s n old new wait Got nodes g trail empty in
    let same : g.last.entries ≡ old.table.entries = subst (λ (vs : List Visit). AreByRule s (needs_of old s) n wait vs old.table g.last) unseen g.by_rule in
    false≢true (sym (uncovered (granted_at old.table s) n level ex (no-lock old s n.node whole none free)) ∙ (sym (same-locks old.table new.table (g.finish ∙ same) s n) ∙ answer.1))

pub asleep-asked : (s : ℕ) (n : Need) (old new : State) (wait : Bool) (t : ℕ) (nodes : List Node) → IsWhole new → opened_of old s ≡ None → Answered (needs_of old s) new s n wait (Asleep t) → new.trail ≡ trail_of_want old s ++ asks_for s nodes → nodes ≡ [] → ⊥
asleep-asked s n old new wait t nodes whole none answer trail empty =
    let w : OpenWant = answer.1.0 in
    let stands = answer.1.1 in
    let sleeps = answer.1.3 in
    let asked : w.is_asked ≡ true = (and_parts w.is_asked _ (and_parts (same_node w.here w.here) _ sleeps.sleeps).1).0 in
    let has : HasAsks new.trail s (Some w) = subst (λ (p : Party). HasAsks new.trail s p.opened) stands (whole.asks s) in
    let there : was_asked w w.here ≡ true = or_right (contains w.here w.here) (same_node w.here w.here && w.is_asked) (and_from (same_node w.here w.here) w.is_asked (same_node-refl w.here) asked) in
    false≢true (sym (nowhere w.here) ∙ (has w.here ∙ there))
  where
    left : new.trail ≡ without_asks s old.trail
    left = trail ∙ (ap (λ (ns : List Node). trail_of_want old s ++ asks_for s ns) empty ∙ (append-none (trail_of_want old s) ∙ ap (λ (x : Option OpenWant). if is_some x then old.trail else without_asks s old.trail) none))

    nowhere : (m : Node) → is_asked_at new.trail s m ≡ false
    nowhere m = subst (λ (xs : List Asked). is_asked_at xs s m ≡ false) (sym left) (unasked-left s m old.trail)
