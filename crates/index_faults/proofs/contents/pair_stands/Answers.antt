use Rattle.std.proofs.Common.{rules, ◌≡◌, true, List, Option, None, Err, sym, ap, subst, ◌∙◌}
use Rattle.std.specs.Prelude.{IfSome}
use Rattle.std.specs.Ordering.{is_eq}
use Rattle.rdb_types.specs.declared.values.Value.{Value}
use Rattle.rdb_types.specs.Order.{row_order}
use Rattle.rdb_types.specs.OrderLaws.{same_row}
use Rattle.rdb_meaning.specs.Contents.{key_of}
use Rattle.relation_rows.specs.Stored.{IsRowAt}
use Rattle.index_faults.proofs.Lists.{ties}
use Rattle.index_faults.proofs.Rows.{one_row_at, bad_no_row, keys_tie, if_ok}
use Rattle.index_faults.proofs.contents.pair_stands.Goals as goal

pub returns-in-Ok-Some-clause-yes : goal.returns-in-Ok-Some-clause-yes
returns-in-Ok-Some-clause-yes g c =
    let known = g.V.View.knows c.args.view.now in
    let pair = c.args.pair.now in
    let positions = c.args.positions.now in
    let stands = subst (λ (o : Option (List Value)). IfSome o (IsRowAt known c.args.relation.now pair.row)) c.in-Ok-Some.field-0-is c.in-Ok-Some.ensures.found in
    let childless : pair.child ≡ None = search rules in
    let own : (pair.row).area ≡ c.args.relation.now.area = search rules in
    if_ok _ _ c.has_key.result (λ same is yes. record {
      childless = childless;
      own = own;
      row = c.in-Ok-Some.row;
      stands = stands;
      keyed = same_row pair.key (key_of positions c.in-Ok-Some.row) (ties (row_order pair.key (key_of positions c.in-Ok-Some.row))
          (ap (λ (row : List Value). is_eq (row_order pair.key (key_of positions row))) (sym c.as_slice.ensures) ∙ sym is ∙ yes));
    }) c.has_key.ensures

pub returns-in-Ok-Some-clause-no : goal.returns-in-Ok-Some-clause-no
returns-in-Ok-Some-clause-no g c =
    let known = g.V.View.knows c.args.view.now in
    let pair = c.args.pair.now in
    let positions = c.args.positions.now in
    let stands = subst (λ (o : Option (List Value)). IfSome o (IsRowAt known c.args.relation.now pair.row)) c.in-Ok-Some.field-0-is c.in-Ok-Some.ensures.found in
    if_ok _ _ c.has_key.result (λ same is no p.
    let row = one_row_at known c.args.relation.now pair.row p.row c.in-Ok-Some.row p.stands stands in
    let key : pair.key ≡ key_of positions c.as_slice.result.now = p.keyed ∙ ap (key_of positions) (row ∙ sym c.as_slice.ensures) in
    let yes : same ≡ true = is ∙ keys_tie pair.key (key_of positions c.as_slice.result.now) key in
    let bad : ⊥ = cc in bad) c.has_key.ensures

pub returns-in-Err-Bad-clause-no : goal.returns-in-Err-Bad-clause-no
returns-in-Err-Bad-clause-no g c = λ same p.
    let known = g.V.View.knows c.args.view.now in
    bad_no_row known c.args.relation.now c.args.pair.now.row p.row (c.row.ensures.bad c.in-Err-Bad.field-0-0 (c.in-Err-Bad.is ∙ ap Err c.in-Err-Bad.field-0-is)).1 p.stands
