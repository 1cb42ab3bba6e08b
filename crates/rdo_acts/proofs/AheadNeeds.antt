-- Needs that come behind the first one.
use Rattle.std.proofs.Common.{◌≡◌, ℕ, true, List, [], ◌∷◌, ◌++◌, refl, sym, subst}
use Rattle.std.specs.List.{All}
use Rattle.std.proofs.lemmas.List.Elements.{All-nil, All-cons}
use Rattle.line_view.specs.declared.need.Need.{Need}
use Rattle.line_view.specs.declared.need.Need.TheVariants.{Line, Area, Room}
use Rattle.line_view.specs.Knowledge.{Knowledge}
use Rattle.line_view.specs.Stops.{Lacks}
use Rattle.statement_view.specs.Areas.{is_among, IsNeedOf}
use Rattle.rdo_acts.specs.Ahead.{IsBehind, AreAhead, last_of, AreAheadTo}

-- one more behind the last
one_more : (known : Knowledge) (need : Need) (needs : List Need) (next : Need) → AreAhead known need needs → IsBehind (last_of need needs) next → Lacks known next → AreAhead known need (needs ++ next ∷ [])
one_more known need [] next ahead behind lacks = (behind, lacks, tt)
one_more known need (n ∷ ns) next ahead behind lacks = (ahead.0, ahead.1, one_more known n ns next ahead.2 behind lacks)

last_more : (need : Need) (needs : List Need) (next : Need) → last_of need (needs ++ next ∷ []) ≡ next
last_more need [] next = refl
last_more need (n ∷ ns) next = last_more n ns next

pub added : (known : Knowledge) (first : Need) (needs more : List Need) (last next : Need) → more ≡ needs ++ next ∷ [] → IsBehind last next → Lacks known next → AreAheadTo known first needs last → AreAheadTo known first more next
added known first needs more last next is behind lacks to = subst (λ (ns : List Need). AreAheadTo known first ns next) (sym is) (record {
  ahead = one_more known first needs next to.ahead (subst (λ (n : Need). IsBehind n next) (sym to.ends) behind) lacks;
  ends = last_more first needs next;
})

pub ahead_lack : (known : Knowledge) (need : Need) (needs : List Need) → AreAhead known need needs → All (Lacks known) needs
ahead_lack known need [] ahead = All-nil (Lacks known)
ahead_lack known need (n ∷ ns) ahead = All-cons (Lacks known) n ns ahead.1 (ahead_lack known n ns ahead.2)

-- what comes behind a need is in its area
behind_among : (read changed : List ℕ) (need next : Need) → IsNeedOf read changed need → IsBehind need next → IsNeedOf read changed next
behind_among read changed (Line key) (Line other) among behind = subst (λ (area : ℕ). is_among read area ≡ true) behind.0 among
behind_among read changed (Room room) (Room other) among behind = subst (λ (area : ℕ). is_among changed area ≡ true) behind.0 among
behind_among read changed (Line key) (Area other) among behind = absurd behind
behind_among read changed (Line key) (Room other) among behind = absurd behind
behind_among read changed (Area area) (Line other) among behind = absurd behind
behind_among read changed (Area area) (Area other) among behind = absurd behind
behind_among read changed (Area area) (Room other) among behind = absurd behind
behind_among read changed (Room room) (Line other) among behind = absurd behind
behind_among read changed (Room room) (Area other) among behind = absurd behind

pub ahead_among : (read changed : List ℕ) (known : Knowledge) (need : Need) (needs : List Need) → IsNeedOf read changed need → AreAhead known need needs → All (IsNeedOf read changed) needs
ahead_among read changed known need [] among ahead = All-nil (IsNeedOf read changed)
ahead_among read changed known need (n ∷ ns) among ahead =
    let next = behind_among read changed need n among ahead.0 in
    All-cons (IsNeedOf read changed) n ns next (ahead_among read changed known n ns next ahead.2)
