-- The needs of an action: the first, and those that come behind it.
use Rattle.std.proofs.Common.{◌≡◌, ◌≢◌, ◌<◌, ℕ, List, [], ◌∷◌, Some, ap, subst, ◌∙◌, length, arith}
use Rattle.std.specs.List.{AllByRecursion, slice_get, remove}
use Rattle.line_view.specs.declared.need.Need.{Need}
use Rattle.line_view.specs.declared.need.Need.TheVariants.{Line, Area, Room}
use Rattle.line_view.specs.Knowledge.{Knowledge}
use Rattle.sound_changes.proofs.Basics.{all_of}
use Rattle.session_jobs.specs.Jobs.{AreNamedOnce}
use Rattle.rdo_acts.specs.Ahead.{place_of, IsBehind, AreAhead}
use Rattle.rdo_acts.specs.Acted.{AreNeeds}

pub some_needs : (needs : List Need) (known : Knowledge) → AreNeeds needs known → 0 < length needs
some_needs [] known some = absurd some
some_needs (n ∷ ns) known some = omega arith

pub first_of : (needs : List Need) (known : Knowledge) (next : Need) (later : List Need) → AreNeeds needs known → slice_get needs 0 ≡ Some next → later ≡ remove needs 0 → (needs ≡ next ∷ later) × AreAhead known next later
first_of [] known next later some is rest = absurd some
first_of (n ∷ ns) known next later some is rest =
    let first : n ≡ next = cc in
    let same : ns ≡ later = cc in
    let all : (n ∷ ns) ≡ next ∷ later = cc in
    (all, subst (λ (ms : List Need). AreAhead known next ms) same (subst (λ (m : Need). AreAhead known m ns) first some))

-- ---- each is named once

behind_too : (a b c : Need) → IsBehind a b → IsBehind b c → IsBehind a c
behind_too (Line a) (Line b) (Line c) p q = (p.0 ∙ q.0, omega (arith, p.1, q.1))
behind_too (Room a) (Room b) (Room c) p q = (p.0 ∙ q.0, p.1 ∙ q.1, omega (arith, p.2, q.2))
behind_too (Line a) (Line b) (Area c) p q = absurd q
behind_too (Line a) (Line b) (Room c) p q = absurd q
behind_too (Room a) (Room b) (Line c) p q = absurd q
behind_too (Room a) (Room b) (Area c) p q = absurd q
behind_too (Line a) (Area b) c p q = absurd p
behind_too (Line a) (Room b) c p q = absurd p
behind_too (Area a) (Line b) c p q = absurd p
behind_too (Area a) (Area b) c p q = absurd p
behind_too (Area a) (Room b) c p q = absurd p
behind_too (Room a) (Line b) c p q = absurd p
behind_too (Room a) (Area b) c p q = absurd p

none_below : (n m : ℕ) → n ≡ m → n < m → ⊥
none_below n m same less = omega arith

behind_other : (a b : Need) → IsBehind a b → a ≢ b
behind_other (Line a) (Line b) p same = let one : a ≡ b = cc in none_below (place_of a) (place_of b) (ap place_of one) p.1
behind_other (Room a) (Room b) p same = let one : a ≡ b = cc in none_below a.nth b.nth (ap (λ r. r.nth) one) p.2
behind_other (Line a) (Area b) p same = p
behind_other (Line a) (Room b) p same = p
behind_other (Area a) (Line b) p same = p
behind_other (Area a) (Area b) p same = p
behind_other (Area a) (Room b) p same = p
behind_other (Room a) (Line b) p same = p
behind_other (Room a) (Area b) p same = p

all_behind : (known : Knowledge) (need : Need) (needs : List Need) → AreAhead known need needs → AllByRecursion (IsBehind need) needs
all_behind known need [] ahead = tt
all_behind known need (n ∷ ns) ahead = (ahead.0, all_of (IsBehind n) (IsBehind need) (λ m p. behind_too need n m ahead.0 p) ns (all_behind known n ns ahead.2))

pub named_once : (known : Knowledge) (need : Need) (needs : List Need) → AreAhead known need needs → AreNamedOnce (need ∷ needs)
named_once known need [] ahead = (tt, tt)
named_once known need (n ∷ ns) ahead =
    (all_of (IsBehind need) (λ (m : Need). need ≢ m) (λ m p. behind_other need m p) (n ∷ ns) (all_behind known need (n ∷ ns) ahead), named_once known n ns ahead.2)
