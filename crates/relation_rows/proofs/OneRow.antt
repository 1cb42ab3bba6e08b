-- An image is that of one row of a relation.
use Rattle.std.proofs.Common.{◌≡◌, ℕ, List, sym, ap, ◌∙◌}
use Rattle.rdb_types.specs.declared.values.Value.{Value}
use Rattle.sorted_index_laws.proofs.of_record_format.Rows.{one_row}
use Rattle.relation_rows.specs.declared.stored.StoredRelation.{StoredRelation}
use Rattle.relation_rows.specs.Stored.{IsRowOf, completed}

pub same_row : (r : StoredRelation) (image : List ℕ) (a b : List Value) → IsRowOf r image a → IsRowOf r image b → a ≡ b
same_row r image a b x y =
    let values : x.values ≡ y.values = one_row image x.version y.version x.values y.values x.stands y.stands in
    x.whole ∙ (ap (completed r.fields.now) values ∙ sym y.whole)
