use Rattle.std.proofs.Common.{sym, subst, List, get_or}
use Rattle.rdb_types.specs.declared.keys.Dbkey.{Dbkey}
use Rattle.rdb_types.specs.Order.{dbkey_order}
use Rattle.index_ahead.specs.Added.{AddsOnly, IsIn}
use Rattle.index_ahead.proofs.Added.{kept, then_added, inserted, one_at}
use Rattle.rdo_acts.proofs.looking.add_rows.Goals as goal

pub loop-row-init : goal.loop-row-init
loop-row-init c = kept (IsIn c.args.rows.now) c.args.keys.now.keys

pub loop-row-preserved : goal.loop-row-preserved
loop-row-preserved c =
    then_added (IsIn c.args.rows.now) c.args.keys.now.keys c.loop-row.keys.keys c.insert.new.self.keys c.loop-row.invariant
    (subst (λ (ks : List Dbkey). AddsOnly (IsIn c.args.rows.now) c.loop-row.keys.keys ks) (sym c.in_ok-insert.ensures.keys)
    (inserted (IsIn c.args.rows.now) dbkey_order (get_or c.args.rows.now c.loop-row.row-index (record { area = 0; page = 0; line = 0 })) (one_at c.args.rows.now c.loop-row.row-index _ c.loop-row-test.true) c.loop-row.keys.keys))
