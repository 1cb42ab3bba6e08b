-- Entries that are put into a map in the order of their keys.
use Rattle.std.proofs.Common.{◌≡◌, Bool, true, false, ◌&&◌, List, [], ◌∷◌, ◌++◌, map, T, refl, sym, ap, ◌∙◌}
use Rattle.std.specs.declared.cmp.Ordering.{Ordering}
use Rattle.std.specs.declared.cmp.Ordering.TheVariants.{Less, Equal, Greater}
use Rattle.std.specs.Ordering.{is_lt, ordering_reverse}
use Rattle.std.specs.Cmp.{IsTotalOrder}
use Rattle.std.specs.List.{AllByRecursion}
use Rattle.std.specs.FinMap.Entries.{put, by_order, below_all, is_sorted}
use Rattle.std.proofs.lemmas.Bool.{and_parts}
use Rattle.std.proofs.lemmas.List.{append-nil, append_assoc}
use Rattle.sound_lines.specs.Gathered.{put_all}

pub true_from_T : (b : Bool) → T b → b ≡ true
true_from_T true h = refl
true_from_T false h = absurd h

less : (r : Ordering) → is_lt r ≡ true → r ≡ Less
less Less e = refl
less Equal e = absurd (cc)
less Greater e = absurd (cc)

abbrev pub keys : {K V : Type 0} → List (K × V) → List K
keys = map (λ e. e.0)

module _ {K V : Type 0} (R : K → K → Ordering) (o : IsTotalOrder R) where
  -- the keys are all below
  abbrev AreBelow : List (K × V) → K → Type 0
  AreBelow held k = AllByRecursion (λ (h : K × V). R h.0 k ≡ Less) held

  put_last : (k : K) (v : V) (held : List (K × V)) → AreBelow held k → put R k v held ≡ held ++ (k, v) ∷ []
  put_last k v [] below = refl
  put_last k v (h ∷ hs) below =
      ap (λ r. by_order r ((k, v) ∷ h ∷ hs) ((h.0, v) ∷ hs) (h ∷ put R k v hs)) (o.antisymm k h.0 ∙ ap ordering_reverse below.0)
      ∙ ap (λ l. h ∷ l) (put_last k v hs below.1)

  below_more : (held : List (K × V)) (e : K × V) (k : K) → AreBelow held k → R e.0 k ≡ Less → AreBelow (held ++ e ∷ []) k
  below_more [] e k below low = (low, tt)
  below_more (h ∷ hs) e k below low = (below.0, below_more hs e k below.1 low)

  all_more : (held : List (K × V)) (e : K × V) (es : List (K × V)) → below_all R e.0 es ≡ true → AllByRecursion (λ (f : K × V). AreBelow held f.0) es → AllByRecursion (λ (f : K × V). AreBelow (held ++ e ∷ []) f.0) es
  all_more held e [] low below = tt
  all_more held e (f ∷ fs) low below =
      let parts = and_parts _ _ low in
      (below_more held e f.0 below.0 (less _ parts.0), all_more held e fs parts.1 below.1)

  put_behind : (held es : List (K × V)) → is_sorted R es ≡ true → AllByRecursion (λ (f : K × V). AreBelow held f.0) es → put_all R held es ≡ held ++ es
  put_behind held [] sorted below = sym (append-nil held)
  put_behind held (e ∷ es) sorted below =
      let parts = and_parts _ _ sorted in
      ap (λ l. put_all R l es) (put_last e.0 e.1 held below.0)
      ∙ (put_behind (held ++ e ∷ []) es parts.1 (all_more held e es parts.0 below.1) ∙ append_assoc held (e ∷ []) es)

  none_held : (es : List (K × V)) → AllByRecursion (λ (f : K × V). AreBelow [] f.0) es
  none_held [] = tt
  none_held (e ∷ es) = (tt, none_held es)

  -- entries in order are the map
  pub gathered : (es : List (K × V)) → is_sorted R es ≡ true → put_all R [] es ≡ es
  gathered es sorted = put_behind [] es sorted (none_held es)

module _ {K V : Type 0} (R : K → K → Ordering) where
  pub put_all_more : (held es : List (K × V)) (k : K) (v : V) → put_all R held (es ++ (k, v) ∷ []) ≡ put R k v (put_all R held es)
  put_all_more held [] k v = refl
  put_all_more held (e ∷ es) k v = put_all_more (put R e.0 e.1 held) es k v

-- whether entries are in order rests on their keys
module _ {K V W : Type 0} (R : K → K → Ordering) where
  same_below : (x : K) (es : List (K × V)) (fs : List (K × W)) → keys es ≡ keys fs → below_all R x es ≡ below_all R x fs
  same_below x [] [] same = refl
  same_below x [] (f ∷ fs) same = absurd (cc)
  same_below x (e ∷ es) [] same = absurd (cc)
  same_below x (e ∷ es) (f ∷ fs) same =
      let first : e.0 ≡ f.0 = cc in
      let rest : keys es ≡ keys fs = cc in
      λ i. is_lt (R x (first i)) && same_below x es fs rest i

  pub same_sorted : (es : List (K × V)) (fs : List (K × W)) → keys es ≡ keys fs → is_sorted R es ≡ is_sorted R fs
  same_sorted [] [] same = refl
  same_sorted [] (f ∷ fs) same = absurd (cc)
  same_sorted (e ∷ es) [] same = absurd (cc)
  same_sorted (e ∷ es) (f ∷ fs) same =
      let first : e.0 ≡ f.0 = cc in
      let rest : keys es ≡ keys fs = cc in
      (λ i. below_all R (first i) es && is_sorted R es) ∙ (λ i. same_below f.0 es fs rest i && same_sorted es fs rest i)
