-- What it says that a line is before another of its area.
use Rattle.std.proofs.Common.{◌≡◌, ◌<◌, ◌⊎◌, inl, inr, refl, arith}
use Rattle.std.specs.declared.cmp.Ordering.{Ordering}
use Rattle.std.specs.declared.cmp.Ordering.TheVariants.{Less, Equal, Greater}
use Rattle.std.specs.Ordering.{MatchOrdering, nat_cmp, ordering_then}
use Rattle.std.proofs.lemmas.Cmp.{ranked}
use Rattle.rdb_types.specs.declared.keys.Dbkey.{Dbkey}
use Rattle.rdb_types.specs.Order.{dbkey_order}

pub before : (a b : Dbkey) → a.area ≡ b.area → dbkey_order a b ≡ Less → (a.page < b.page) ⊎ ((a.page ≡ b.page) × (a.line < b.line))
before a b same less = by_area (nat_cmp a.area b.area) (ranked a.area b.area (nat_cmp a.area b.area) refl) less
  where
    by_line : (r : Ordering) → MatchOrdering r (a.line < b.line) (a.line ≡ b.line) (b.line < a.line) → r ≡ Less → a.line < b.line
    by_line Less h is = h
    by_line Equal h is = let bad : ⊥ = cc in absurd bad
    by_line Greater h is = let bad : ⊥ = cc in absurd bad

    by_page : (r : Ordering) → MatchOrdering r (a.page < b.page) (a.page ≡ b.page) (b.page < a.page) → ordering_then r (nat_cmp a.line b.line) ≡ Less → (a.page < b.page) ⊎ ((a.page ≡ b.page) × (a.line < b.line))
    by_page Less h is = inl h
    by_page Equal h is = inr (h, by_line (nat_cmp a.line b.line) (ranked a.line b.line (nat_cmp a.line b.line) refl) is)
    by_page Greater h is = let bad : ⊥ = cc in absurd bad

    by_area : (r : Ordering) → MatchOrdering r (a.area < b.area) (a.area ≡ b.area) (b.area < a.area) → ordering_then r (ordering_then (nat_cmp a.page b.page) (nat_cmp a.line b.line)) ≡ Less → (a.page < b.page) ⊎ ((a.page ≡ b.page) × (a.line < b.line))
    by_area Less h is = absurd (omega (arith, h, same))
    by_area Equal h is = by_page (nat_cmp a.page b.page) (ranked a.page b.page (nat_cmp a.page b.page) refl) is
    by_area Greater h is = let bad : ⊥ = cc in absurd bad
