-- A relation that is taken out and put back.
use Rattle.std.proofs.Common.{◌≡◌, true, List, Some, Option, sym, ap, ◌∙◌, subst}
use Rattle.std.specs.Prelude.{OnSome}
use Rattle.std.specs.Cmp.{nat_cmp_total}
use Rattle.std.specs.Cmp.Lexicographic.{lists_total}
use Rattle.std.specs.FinMap.Entries.{find, put, is_sorted}
use Rattle.rdo_ast.specs.Tree.{Name}
use Rattle.rdb_meaning.specs.declared.tables.Relation.{Relation}
use Rattle.rdb_types.specs.declared.keys.Dbkey.{Dbkey}
use Rattle.rdb_meaning.specs.declared.tables.Tables.{Tables}
use Rattle.rdb_meaning.specs.Contents.{Row, change_rows, rows_changed}
use Rattle.rdb_types.specs.Order.{chars_order}
use Rattle.ordered_entries.proofs.Laws.{put-put, find-put_same, put_found}

abbrev Relations : Type 0
Relations = List (Name × Relation)

-- what is put where something else stood
pub put_back : (n : Name) (stands r : Relation) (es es' es'' : Relations) (found : Option Relation) → es' ≡ put chars_order n stands es → found ≡ find chars_order n es' → OnSome found (es'' ≡ put chars_order n r es') → es'' ≡ put chars_order n r es
put_back n stands r es es' es'' found first is second =
    let there : found ≡ Some stands = is ∙ ap (find chars_order n) first ∙ find-put_same chars_order (lists_total nat_cmp_total) n stands es in
    let last : es'' ≡ put chars_order n r es' = subst (λ (o : Option Relation). OnSome o (es'' ≡ put chars_order n r es')) there second in
    last ∙ ap (put chars_order n r) first ∙ put-put chars_order (lists_total nat_cmp_total) n stands r es

-- a relation is taken out, its rows are changed, and it is put back
module _ (n : Name) (t : Tables) (stands r : Relation) (rows : List (Dbkey × Row)) (es' es'' : Relations) (found : Option Relation) (was : Some r ≡ find chars_order n t.relations) (first : es' ≡ put chars_order n stands t.relations) (is : found ≡ find chars_order n es') (second : OnSome found (es'' ≡ put chars_order n (record r { rows = rows }) es')) where
  pub rows_put : (f : List (Dbkey × Row) → List (Dbkey × Row)) → rows ≡ f r.rows → record t { relations = es'' } ≡ change_rows n f t
  rows_put f changed =
      ap (λ (es : Relations). record t { relations = es }) (put_back n stands (record r { rows = rows }) t.relations es' es'' found first is second)
      ∙ ap (λ (l : List (Dbkey × Row)). record t { relations = put chars_order n (record r { rows = l }) t.relations }) changed
      ∙ ap (λ (o : Option Relation). rows_changed n f o t) was

  pub row_not_put : is_sorted chars_order t.relations ≡ true → rows ≡ r.rows → record t { relations = es'' } ≡ t
  row_not_put sorted same =
      ap (λ (es : Relations). record t { relations = es }) (put_back n stands (record r { rows = rows }) t.relations es' es'' found first is second
      ∙ ap (λ (l : List (Dbkey × Row)). put chars_order n (record r { rows = l }) t.relations) same
      ∙ put_found chars_order (lists_total nat_cmp_total) n r t.relations sorted (sym was))
