use Rattle.std.proofs.Common.{◌∙◌, sym, ap, subst, map, refl}
use Rattle.std.specs.List.{All}
use Rattle.rdo_ast.specs.Views.{shown_of}
use Rattle.rdb_meaning.specs.Checks.{first_refusal, shown_names}
use Rattle.rdo_values.specs.Rows.{variables_of}
use Rattle.rdo_bind.specs.Acting.{written_item, IsBoundItem}
use Rattle.rdo_bind.proofs.Lists.{names_more, written_more, all_more}
use Rattle.rdo_bind.proofs.action.bind_items.Goals as goal

pub loop-item-preserved : goal.loop-item-preserved
loop-item-preserved c =
    let inv = c.loop-item.invariant in
    let i = c.loop-item.item-index in
    let y = c.item-item.result in
    let ys = c.args.items.now in
    let tables = c.args.tables.now in
    let scope = c.args.scope.now in
    let pushed = c.in_ok-push.ensures.ok in
    record {
      names = names_more (λ ys. first_refusal (shown_names tables scope) (map shown_of ys)) ys i y _ _ c.loop-item-test.true c.item-item.is inv.names refl c.in_ok-bind_item.ensures.names;
      written = ap (map written_item) pushed ∙ written_more written_item shown_of _ _ ys i y inv.written c.loop-item-test.true c.item-item.is c.in_ok-bind_item.ensures.written;
      bound = subst (All (IsBoundItem tables (variables_of scope))) (sym pushed) (all_more (IsBoundItem tables (variables_of scope)) _ _ inv.bound c.in_ok-bind_item.ensures.bound);
    }
