-- The map behind the writes of a statement.
use Rattle.std.proofs.Common.{◌≡◌, ℕ, Bool, true, false, cond, not, List, [], ◌∷◌, Option, Some, None, T, refl, sym, ap, subst, ◌∙◌}
use Rattle.std.specs.declared.cmp.Ordering.{Ordering}
use Rattle.std.specs.declared.cmp.Ordering.TheVariants.{Less, Equal, Greater}
use Rattle.std.specs.Ordering.{is_eq, is_lt}
use Rattle.std.specs.FinMap.Entries.{find, put, is_sorted, below_all, find-put, is_sorted-put, is_sorted-where_key, same_entries}
use Rattle.std.proofs.lemmas.Bool.{and_parts}
use Rattle.rdb_types.specs.declared.keys.Dbkey.{Dbkey}
use Rattle.rdb_types.specs.Order.{dbkey_order}
use Rattle.rdb_types.specs.OrderLaws.{dbkey_total, same_dbkey}
use Rattle.line_view.specs.Knowledge.{Lines, IsInOrder, line_in, laid}
use Rattle.line_view.proofs.FullMap.{laid_found}
use Rattle.statement_view.specs.Over.{laid_over}

abbrev pub Written : Type 0
Written = List (Dbkey × Option (List ℕ))

abbrev pub image_or : Option (Option (List ℕ)) → Option (List ℕ) → Option (List ℕ)
image_or (Some image) was = image
image_or None was = was

less : (r : Ordering) → is_lt r ≡ true → r ≡ Less
less Less e = refl
less Equal e = let bad : ⊥ = cc in absurd bad
less Greater e = let bad : ⊥ = cc in absurd bad

pub equal : (r : Ordering) → is_eq r ≡ true → r ≡ Equal
equal Less is = let bad : ⊥ = cc in absurd bad
equal Equal is = refl
equal Greater is = let bad : ⊥ = cc in absurd bad

true_from_T : (b : Bool) → T b → b ≡ true
true_from_T true h = refl
true_from_T false h = absurd h

pub sorted_put : {X : Type 0} (key : Dbkey) (x : X) (es : List (Dbkey × X)) → is_sorted dbkey_order es ≡ true → is_sorted dbkey_order (put dbkey_order key x es) ≡ true
sorted_put key x es sorted = true_from_T _ (is_sorted-put dbkey_order dbkey_total key x es (subst T (sym sorted) tt))

none_above : (q k : Dbkey) (es : Written) → dbkey_order q k ≡ Equal → below_all dbkey_order k es ≡ true → find dbkey_order q es ≡ None
none_above q k [] tie below = refl
none_above q k (e ∷ es) tie below =
    let parts = and_parts (is_lt (dbkey_order k e.0)) (below_all dbkey_order k es) below in
    ap (λ r. cond (is_eq r) (Some e.1) (find dbkey_order q es)) (ap (λ (x : Dbkey). dbkey_order x e.0) (same_dbkey q k tie) ∙ less _ parts.0) ∙ none_above q k es tie parts.1

pub over_found : (q : Dbkey) (lines : Written) (all : Lines) → is_sorted dbkey_order lines ≡ true → line_in q (laid_over lines all) ≡ image_or (find dbkey_order q lines) (line_in q all)
over_found q [] all sorted = refl
over_found q (e ∷ es) all sorted =
    let parts = and_parts (below_all dbkey_order e.0 es) (is_sorted dbkey_order es) sorted in
    over_found q es (laid e.0 e.1 all) parts.1
    ∙ ap (image_or (find dbkey_order q es)) (laid_found q e.0 e.1 all)
    ∙ elim (is_eq (dbkey_order q e.0)) as (λ b. is_eq (dbkey_order q e.0) ≡ b → image_or (find dbkey_order q es) (cond b e.1 (line_in q all)) ≡ image_or (cond b (Some e.1) (find dbkey_order q es)) (line_in q all)) [
      | true ↦ λ tie. ap (λ o. image_or o e.1) (none_above q e.0 es (equal _ tie) parts.0)
      | false ↦ λ apart. refl
    ] refl

pub in_order : (key : Dbkey) (image : Option (List ℕ)) (all : Lines) → IsInOrder all → IsInOrder (laid key image all)
in_order key (Some image) all sorted = sorted_put key image all sorted
in_order key None all sorted = true_from_T _ (is_sorted-where_key dbkey_order (λ k. not (is_eq (dbkey_order key k))) all (subst T (sym sorted) tt))

pub over_in_order : (lines : Written) (all : Lines) → IsInOrder all → IsInOrder (laid_over lines all)
over_in_order [] all sorted = sorted
over_in_order (e ∷ es) all sorted = over_in_order es (laid e.0 e.1 all) (in_order e.0 e.1 all sorted)

-- one more write
pub over_put : (key : Dbkey) (image : Option (List ℕ)) (lines : Written) (all : Lines) → is_sorted dbkey_order lines ≡ true → IsInOrder all → laid_over (put dbkey_order key image lines) all ≡ laid key image (laid_over lines all)
over_put key image lines all sorted ordered =
    let new = sorted_put key image lines sorted in
    same_entries dbkey_order dbkey_total same_dbkey (laid_over (put dbkey_order key image lines) all) (laid key image (laid_over lines all))
    (subst T (sym (over_in_order (put dbkey_order key image lines) all ordered)) tt)
    (subst T (sym (in_order key image (laid_over lines all) (over_in_order lines all ordered))) tt)
    (λ q. over_found q (put dbkey_order key image lines) all new
    ∙ ap (λ o. image_or o (line_in q all)) (find-put dbkey_order dbkey_total q key image lines)
    ∙ elim (is_eq (dbkey_order q key)) as (λ b. image_or (cond b (Some image) (find dbkey_order q lines)) (line_in q all) ≡ cond b image (image_or (find dbkey_order q lines) (line_in q all))) [ true ↦ refl | false ↦ refl ]
    ∙ ap (λ o. cond (is_eq (dbkey_order q key)) image o) (sym (over_found q lines all sorted))
    ∙ sym (laid_found q key image (laid_over lines all)))
