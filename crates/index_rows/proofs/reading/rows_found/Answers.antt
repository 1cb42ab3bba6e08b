use Rattle.std.proofs.Common.{subst}
use Rattle.std.specs.BTreeSet.{IsFromIterResult}
use Rattle.rdb_types.specs.Order.{dbkey_order}
use Rattle.index_rows.proofs.InTurn.{found_read}
use Rattle.index_rows.proofs.reading.rows_found.Goals as goal

pub returns : goal.returns
returns g c =
    found_read (g.V.View.knows c.args.view.now) c.args.relation.now c.args.root c.args.found c.in-Ok.found c.in_ok-keys.keys c.rows_at.result c.in-Ok.is
    (subst (λ found. IsFromIterResult dbkey_order found c.in_ok-keys.keys) c.as_slice.ensures c.in_ok-keys.ensures) c.rows_at.ensures
