-- Keys that are not among entries.
use Rattle.std.proofs.Common.{◌≡◌, true, false, not, cond, List, [], ◌∷◌, Some, None, refl, ap, ◌∙◌}
use Rattle.std.specs.declared.cmp.Ordering.{Ordering}
use Rattle.std.specs.declared.cmp.Ordering.TheVariants.{Less, Equal, Greater}
use Rattle.std.specs.Ordering.{is_eq, is_lt}
use Rattle.std.specs.Cmp.{IsTotalOrder}
use Rattle.std.specs.List.{filter}
use Rattle.std.specs.FinMap.Entries.{find, below_all}
use Rattle.std.proofs.lemmas.Bool.{and_parts}

pub equal : (r : Ordering) → is_eq r ≡ true → r ≡ Equal
equal Less e = absurd (cc)
equal Equal e = refl
equal Greater e = absurd (cc)

pub less : (r : Ordering) → is_lt r ≡ true → r ≡ Less
less Less e = refl
less Equal e = absurd (cc)
less Greater e = absurd (cc)

module _ {K V : Type 0} (R : K → K → Ordering) (o : IsTotalOrder R) where
  -- a key below the first is not among those above it
  pub none_below : (x k : K) (es : List (K × V)) → R k x ≡ Less → below_all R x es ≡ true → find R k es ≡ None
  none_below x k [] low h = refl
  none_below x k (e ∷ es) low h =
      let parts = and_parts _ _ h in
      ap (λ r. cond (is_eq r) (Some e.1) (find R k es)) (o.trans k x e.0 low (less _ parts.0)) ∙ none_below x k es low parts.1

  -- where a key isn't found, nothing is taken away
  pub without_none : (k : K) (es : List (K × V)) → find R k es ≡ None → filter (λ e. not (is_eq (R k e.0))) es ≡ es
  without_none k [] h = refl
  without_none k (e ∷ es) h =
      elim (is_eq (R k e.0)) as (λ b. cond b (Some e.1) (find R k es) ≡ None → cond (not b) (e ∷ filter (λ e. not (is_eq (R k e.0))) es) (filter (λ e. not (is_eq (R k e.0))) es) ≡ e ∷ es) [
        | true ↦ λ h. absurd (cc)
        | false ↦ λ h. ap (λ l. e ∷ l) (without_none k es h)
      ] h
