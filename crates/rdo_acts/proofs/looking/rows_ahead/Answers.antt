use Rattle.std.proofs.Common.{[], map, sym, subst, arith}
use Rattle.rdo_bind.specs.Acting.{Act, act_of, acts_of, IsBoundAct}
use Rattle.rdo_acts.specs.Ahead.{StoresMore}
use Rattle.rdo_acts.proofs.Arms.{is_for}
use Rattle.rdo_acts.proofs.RowsStored.{stores_more}
use Rattle.rdo_acts.proofs.looking.rows_ahead.Goals as goal

pub returns-in_default : goal.returns-in_default
returns-in_default c ta n shown bound less = absurd (omega (arith, less))

pub returns : goal.returns
returns c ta n shown bound less =
    let s = c.in-For.selection in
    let body = c.as_slice.result.now in
    let is = is_for c.args.action.now s c.in-For.body body c.in-For.is c.as_slice.ensures in
    let placed = subst (λ (a : Act). IsBoundAct a ta []) is bound in
    subst (λ (a : Act). StoresMore ta a c.args.area n) (sym is)
    (stores_more ta s (acts_of (map act_of body)) c.args.area n c.tuples_of-all.result c.stores_into-each.result (c.tuples_of-all.ensures ta shown placed.0) c.stores_into-each.ensures (omega (arith, less, c.left_of.ensures)))
