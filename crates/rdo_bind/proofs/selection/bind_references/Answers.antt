use Rattle.std.proofs.Common.{◌∙◌, sym, ap, subst, map, refl}
use Rattle.std.specs.List.{All}
use Rattle.rdb_meaning.specs.Checks.{first_refusal, reference_names}
use Rattle.rdo_values.specs.Rows.{variables_of}
use Rattle.rdo_values.specs.Selections.{written_reference, IsPlacedReference}
use Rattle.rdo_bind.proofs.Lists.{names_more, written_same, all_more}
use Rattle.rdo_bind.proofs.selection.bind_references.Goals as goal

pub loop-reference-preserved : goal.loop-reference-preserved
loop-reference-preserved c =
    let inv = c.loop-reference.invariant in
    let i = c.loop-reference.reference-index in
    let y = c.reference-item.result in
    let ys = c.args.references.now in
    let tables = c.args.tables.now in
    let scope = c.args.scope.now in
    let pushed = c.in_ok-push.ensures.ok in
    record {
      names = names_more (first_refusal (λ r. reference_names r tables scope)) ys i y _ _ c.loop-reference-test.true c.reference-item.is inv.names refl c.in_ok-bind_reference.ensures.names;
      written = ap (map written_reference) pushed ∙ written_same written_reference _ _ ys i y inv.written c.loop-reference-test.true c.reference-item.is c.in_ok-bind_reference.ensures.written;
      bound = subst (All (IsPlacedReference tables (variables_of scope))) (sym pushed) (all_more (IsPlacedReference tables (variables_of scope)) _ _ inv.bound c.in_ok-bind_reference.ensures.placed);
    }
