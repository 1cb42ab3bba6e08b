-- Maps behind one more entry.
use Rattle.std.proofs.Common.{◌≡◌, Bool, true, false, cond, List, [], ◌∷◌, Option, Some, None, refl, sym, ap, ◌∙◌}
use Rattle.std.specs.declared.cmp.Ordering.{Ordering}
use Rattle.std.specs.declared.cmp.Ordering.TheVariants.{Less, Equal, Greater}
use Rattle.std.specs.Ordering.{is_eq, ordering_reverse}
use Rattle.std.specs.Cmp.{IsTotalOrder, alike_right}
use Rattle.std.specs.FinMap.Entries.{find, put, by_order, find-put}

same_tie : (r : Ordering) → is_eq (ordering_reverse r) ≡ is_eq r
same_tie Less = refl
same_tie Equal = refl
same_tie Greater = refl

cond_none : {V : Type 0} (b : Bool) (x : V) (m : Option V) → cond b (Some x) m ≡ None → (b ≡ false) × (m ≡ None)
cond_none true x m none = let bad : ⊥ = cc in absurd bad
cond_none false x m none = (refl, none)

module _ {K : Type 0} (R : K → K → Ordering) (o : IsTotalOrder R) where
  pub untied_back : (a b : K) → is_eq (R a b) ≡ false → is_eq (R b a) ≡ false
  untied_back a b apart = ap is_eq (o.antisymm b a) ∙ same_tie (R a b) ∙ apart

  between_less : (k l e : K) (s : Ordering) → R k e ≡ Less → R l e ≡ s → (s ≡ Less → ⊥) → R k l ≡ Less
  between_less k l e Less p t high = absurd (high refl)
  between_less k l e Equal p t high = alike_right o l e k t ∙ p
  between_less k l e Greater p t high = o.trans k e l p (o.antisymm e l ∙ ap ordering_reverse t)

module _ {K V : Type 0} (R : K → K → Ordering) (o : IsTotalOrder R) where
  -- where a key isn't found it isn't the one that was put
  pub none_put : (q k : K) (v : V) (es : List (K × V)) → find R q (put R k v es) ≡ None → (is_eq (R q k) ≡ false) × (find R q es ≡ None)
  none_put q k v es none = cond_none (is_eq (R q k)) v (find R q es) (sym (find-put R o q k v es) ∙ none)

  pub find-put_other : (q k : K) (v : V) (es : List (K × V)) → is_eq (R q k) ≡ false → find R q (put R k v es) ≡ find R q es
  find-put_other q k v es apart = find-put R o q k v es ∙ ap (λ b. cond b (Some v) (find R q es)) apart

  two : (k l : K) (v w : V) (e : K × V) (es : List (K × V)) (r s : Ordering) → R k e.0 ≡ r → R l e.0 ≡ s → is_eq (R k l) ≡ false →
      put R k v (put R l w es) ≡ put R l w (put R k v es) →
      put R k v (by_order s ((l, w) ∷ e ∷ es) ((e.0, w) ∷ es) (e ∷ put R l w es)) ≡ put R l w (by_order r ((k, v) ∷ e ∷ es) ((e.0, v) ∷ es) (e ∷ put R k v es))
  two k l v w e es Less Less p t apart rest =
      elim (R k l) as (λ q. R k l ≡ q → is_eq q ≡ false → put R k v ((l, w) ∷ e ∷ es) ≡ put R l w ((k, v) ∷ e ∷ es)) [
        | Less ↦ λ q _. let back : R l k ≡ Greater = o.antisymm l k ∙ ap ordering_reverse q in simp (q, back, p, t)
        | Equal ↦ λ q h. let bad : ⊥ = cc in absurd bad
        | Greater ↦ λ q _. let back : R l k ≡ Less = o.antisymm l k ∙ ap ordering_reverse q in simp (q, back, p, t)
      ] refl apart
  two k l v w e es Less Equal p t apart rest =
      let q : R k l ≡ Less = between_less R o k l e.0 Equal p t (λ h. cc) in
      let back : R l k ≡ Greater = o.antisymm l k ∙ ap ordering_reverse q in simp (back, p, t)
  two k l v w e es Less Greater p t apart rest =
      let q : R k l ≡ Less = between_less R o k l e.0 Greater p t (λ h. cc) in
      let back : R l k ≡ Greater = o.antisymm l k ∙ ap ordering_reverse q in simp (back, p, t)
  two k l v w e es Equal Less p t apart rest =
      let back : R l k ≡ Less = between_less R o l k e.0 Equal t p (λ h. cc) in
      let q : R k l ≡ Greater = o.antisymm k l ∙ ap ordering_reverse back in simp (q, p, t)
  two k l v w e es Equal Equal p t apart rest =
      let q : R k l ≡ Equal = alike_right o l e.0 k t ∙ p in
      let tied = ap is_eq q in
      let bad : ⊥ = cc in absurd bad
  two k l v w e es Equal Greater p t apart rest = simp (p, t)
  two k l v w e es Greater Less p t apart rest =
      let back : R l k ≡ Less = between_less R o l k e.0 Greater t p (λ h. cc) in
      let q : R k l ≡ Greater = o.antisymm k l ∙ ap ordering_reverse back in simp (q, p, t)
  two k l v w e es Greater Equal p t apart rest = simp (p, t)
  two k l v w e es Greater Greater p t apart rest = simp (p, t) (ap (λ l. e ∷ l) rest)

  -- the order in which two keys are put doesn't matter
  pub put_either : (k l : K) (v w : V) (es : List (K × V)) → is_eq (R k l) ≡ false → put R k v (put R l w es) ≡ put R l w (put R k v es)
  put_either k l v w [] apart =
      elim (R k l) as (λ q. R k l ≡ q → is_eq q ≡ false → put R k v ((l, w) ∷ []) ≡ put R l w ((k, v) ∷ [])) [
        | Less ↦ λ q _. let back : R l k ≡ Greater = o.antisymm l k ∙ ap ordering_reverse q in simp (q, back)
        | Equal ↦ λ q h. let bad : ⊥ = cc in absurd bad
        | Greater ↦ λ q _. let back : R l k ≡ Less = o.antisymm l k ∙ ap ordering_reverse q in simp (q, back)
      ] refl apart
  put_either k l v w (e ∷ es) apart = two k l v w e es (R k e.0) (R l e.0) refl refl apart (put_either k l v w es apart)
