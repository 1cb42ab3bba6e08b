-- A Dbkey that may be given to a new row.
use Rattle.std.proofs.Common.{◌≡◌, ◌≤◌, ℕ, suc, ◌+◌, true, cond, List, [], ◌∷◌, Option, Some, None, refl, ap, arith}
use Rattle.std.specs.Prelude.{◌&&◌, not, is_some, ◌==◌}
use Rattle.std.proofs.lemmas.Bool.{and_from}
use Rattle.std.specs.declared.cmp.Ordering.{Ordering}
use Rattle.std.specs.declared.cmp.Ordering.TheVariants.{Less, Equal, Greater}
use Rattle.std.specs.Ordering.{is_eq}
use Rattle.std.specs.FinMap.Entries.{find}
use Rattle.rdb_types.specs.declared.keys.Dbkey.{Dbkey}
use Rattle.rdb_types.specs.Order.{dbkey_order}
use Rattle.rdb_types.specs.OrderLaws.{same_dbkey}
use Rattle.rdo_ast.specs.Tree.{Name}
use Rattle.rdb_meaning.specs.declared.tables.Tables.{Tables}
use Rattle.rdb_meaning.specs.Contents.{Row, relation_named, rows_of, row_at}
use Rattle.rdb_meaning.specs.Execution.{area_of, may_be_given}

-- a page behind those of all rows
beyond : List (Dbkey × Row) → ℕ
beyond [] = 0
beyond (e ∷ es) = suc e.0.page + beyond es

skipped : (o : Ordering) (row : Row) (x : Option Row) → (o ≡ Equal → ⊥) → x ≡ None → cond (is_eq o) (Some row) x ≡ None
skipped Less row x apart none = none
skipped Equal row x apart none = absurd (apart refl)
skipped Greater row x apart none = none

absent : (es : List (Dbkey × Row)) (k : Dbkey) → beyond es ≤ k.page → find dbkey_order k es ≡ None
unfolding beyond
absent [] k behind = refl
absent (e ∷ es) k behind =
    skipped (dbkey_order k e.0) e.1 (find dbkey_order k es)
    (λ ties. let same = ap (λ (x : Dbkey). x.page) (same_dbkey k e.0 ties) in omega (arith, same, behind))
    (absent es k (omega (arith, behind)))

free : (x : Option Row) → x ≡ None → not (is_some x) ≡ true
free x none = ap (λ (y : Option Row). not (is_some y)) none

same-number : (a : ℕ) → (a == a) ≡ true
same-number a = grind arith

-- some Dbkey may be given
pub may-give : (n : Name) (start now : Tables) → (k : Dbkey) × (may_be_given n k start now ≡ true)
may-give n start now =
    let new = rows_of (relation_named n now) in
    let old = rows_of (relation_named n start) in
    let k : Dbkey = record { area = area_of (relation_named n now); page = beyond new + beyond old; line = 0 } in (
      k,
      and_from ((k.area == area_of (relation_named n now)) && not (is_some (row_at k (relation_named n now)))) (not (is_some (row_at k (relation_named n start))))
          (and_from (k.area == area_of (relation_named n now)) (not (is_some (row_at k (relation_named n now)))) (same-number k.area) (free (find dbkey_order k new) (absent new k (omega arith))))
          (free (find dbkey_order k old) (absent old k (omega arith))),
    )
