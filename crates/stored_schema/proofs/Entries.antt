-- Entries in order: two lists of them with the same values are one.
use Rattle.std.proofs.Common.{◌≡◌, ◌==◌, ℕ, Bool, true, false, cond, not, List, [], ◌∷◌, Option, Some, None, refl, sym, ap, ◌∙◌}
use Rattle.std.specs.declared.cmp.Ordering.{Ordering}
use Rattle.std.specs.declared.cmp.Ordering.TheVariants.{Less, Equal, Greater}
use Rattle.std.specs.Ordering.{is_eq, is_lt, nat_cmp, ordering_reverse}
use Rattle.std.specs.Cmp.{IsTotalOrder, on_total, nat_cmp_total, tied_itself}
use Rattle.std.specs.FinMap.Entries.{find, is_sorted, below_all, find-where_key}
use Rattle.std.proofs.lemmas.Bool.{and_parts, eq-eqb}
use Rattle.std.proofs.lemmas.Map.Lookups.{exact_unsigned}
use Rattle.std.proofs.lemmas.Option.{none-some, same_Some}
use Rattle.catalog.specs.declared.directory.LogicalArea.{LogicalArea}
use Rattle.catalog.specs.Directory.{area_order, numbered}
use Rattle.row_writes.proofs.of_sound_changes.Basics.{equal, less, fails, number_is, none_below}
use Rattle.stored_schema.specs.Indexes.{but_for}

-- ---- areas

pub area_total : IsTotalOrder area_order
area_total = on_total (λ (a : LogicalArea). a.number) nat_cmp_total

pub area_is : (a b : LogicalArea) → area_order a b ≡ Equal → a ≡ b
area_is a b tie = λ i. record { number = exact_unsigned a.number b.number tie i }

pub same_test : (a b : ℕ) → is_eq (nat_cmp a b) ≡ (b == a)
same_test a b =
    elim (b == a) as (λ t. (b == a) ≡ t → is_eq (nat_cmp a b) ≡ t) [
      | true ↦ λ e. ap (λ (n : ℕ). is_eq (nat_cmp a n)) (number_is b a e) ∙ ap is_eq (tied_itself nat_cmp_total a)
      | false ↦ λ e. fails _ (λ tie. let bad : ⊥ = cc (eq-eqb b a (sym (exact_unsigned a b (equal _ tie)))) in bad)
    ] refl

pub apart : (a b : ℕ) → (a == b) ≡ false → is_eq (nat_cmp a b) ≡ false
apart a b e = fails _ (λ tie. let bad : ⊥ = cc (eq-eqb a b (exact_unsigned a b (equal _ tie))) in bad)

-- the entry of another area stays
pub others : {X : Type 0} (r k : ℕ) (held : List (LogicalArea × X)) → (k == r) ≡ false → find area_order (numbered r) (but_for (numbered k) held) ≡ find area_order (numbered r) held
others r k held e =
    let P : LogicalArea → Bool = λ a. not (is_eq (area_order (numbered k) a)) in
    find-where_key area_order P (numbered r) (λ a tie. ap P (sym (area_is (numbered r) a tie))) held
    ∙ ap (λ t. cond (not t) (find area_order (numbered r) held) None) (apart k r e)

-- ---- two lists in order

module _ {K V : Type 0} (R : K → K → Ordering) (o : IsTotalOrder R) (exact : (x y : K) → R x y ≡ Equal → x ≡ y) where
  -- the first key isn't met again
  pub none_again : (x : K) (es : List (K × V)) → below_all R x es ≡ true → find R x es ≡ None
  none_again x [] h = refl
  none_again x (e ∷ es) h =
      let parts = and_parts (is_lt (R x e.0)) (below_all R x es) h in
      ap (λ r. cond (is_eq r) (Some e.1) (find R x es)) (less _ parts.0) ∙ none_again x es parts.1

  -- a key below the first isn't met
  below_first : (k : K) (e : K × V) (es : List (K × V)) → R k e.0 ≡ Less → below_all R e.0 es ≡ true → find R k (e ∷ es) ≡ None
  below_first k e es low below = ap (λ r. cond (is_eq r) (Some e.1) (find R k es)) low ∙ none_below R o e.0 k es low below

  first_found : (e : K × V) (es : List (K × V)) → find R e.0 (e ∷ es) ≡ Some e.1
  first_found e es = ap (λ r. cond (is_eq r) (Some e.1) (find R e.0 es)) (tied_itself o e.0)

  -- what is found behind the first of each
  tails : (k x : K) (v w : V) (ds es : List (K × V)) → below_all R x ds ≡ true → below_all R x es ≡ true → cond (is_eq (R k x)) (Some v) (find R k ds) ≡ cond (is_eq (R k x)) (Some w) (find R k es) → find R k ds ≡ find R k es
  tails k x v w ds es low low' same =
      elim (is_eq (R k x)) as (λ t. is_eq (R k x) ≡ t → cond t (Some v) (find R k ds) ≡ cond t (Some w) (find R k es) → find R k ds ≡ find R k es) [
        | true ↦ λ tie h.
            let key : k ≡ x = exact k x (equal _ tie) in
            ap (λ (q : K). find R q ds) key ∙ none_again x ds low ∙ sym (none_again x es low') ∙ ap (λ (q : K). find R q es) (sym key)
        | false ↦ λ tie h. h
      ] refl same

  pub same_entries : (ds es : List (K × V)) → is_sorted R ds ≡ true → is_sorted R es ≡ true → ((k : K) → find R k ds ≡ find R k es) → ds ≡ es
  same_entries [] [] s s' same = refl
  same_entries [] (e ∷ es) s s' same = absurd (none-some e.1 (same e.0 ∙ first_found e es))
  same_entries (d ∷ ds) [] s s' same = absurd (none-some d.1 (sym (same d.0) ∙ first_found d ds))
  same_entries (d ∷ ds) (e ∷ es) s s' same =
      let one = and_parts (below_all R d.0 ds) (is_sorted R ds) s in
      let two = and_parts (below_all R e.0 es) (is_sorted R es) s' in
      elim (R d.0 e.0) as (λ r. R d.0 e.0 ≡ r → d ∷ ds ≡ e ∷ es) [
        | Less ↦ λ p. absurd (none-some d.1 (sym (below_first d.0 e es p two.0) ∙ sym (same d.0) ∙ first_found d ds))
        | Equal ↦ λ p.
            let key : d.0 ≡ e.0 = exact d.0 e.0 p in
            let value : Some d.1 ≡ Some e.1 = sym (first_found d ds) ∙ same d.0 ∙ ap (λ (q : K). find R q (e ∷ es)) key ∙ first_found e es in
            let first : d ≡ e = λ i. (key i, same_Some d.1 e.1 value i) in
            let low : below_all R d.0 es ≡ true = ap (λ (q : K). below_all R q es) key ∙ two.0 in
            let rest = same_entries ds es one.1 two.1 (λ k. tails k d.0 d.1 e.1 ds es one.0 low (same k ∙ ap (λ (q : K). cond (is_eq (R k q)) (Some e.1) (find R k es)) (sym key))) in
            λ i. first i ∷ rest i
        | Greater ↦ λ p.
            let low : R e.0 d.0 ≡ Less = o.antisymm e.0 d.0 ∙ ap ordering_reverse p in
            absurd (none-some e.1 (sym (below_first e.0 d ds low one.0) ∙ same e.0 ∙ first_found e es))
      ] refl
