use Rattle.std.proofs.Common.{◌∙◌, sym, ap, subst, map, refl}
use Rattle.std.specs.List.{All}
use Rattle.rdb_meaning.specs.Checks.{first_refusal, reference_names}
use Rattle.rdo_values.specs.Rows.{variables_of}
use Rattle.rdo_values.specs.Selections.{written_key, IsPlacedKey}
use Rattle.rdo_bind.proofs.Lists.{names_more, written_same, all_more}
use Rattle.rdo_bind.proofs.selection.bind_keys.Goals as goal

pub loop-key-preserved : goal.loop-key-preserved
loop-key-preserved c =
    let inv = c.loop-key.invariant in
    let i = c.loop-key.key-index in
    let y = c.key-item.result in
    let ys = c.args.keys.now in
    let tables = c.args.tables.now in
    let scope = c.args.scope.now in
    let pushed = c.in_ok-push.ensures.ok in
    record {
      names = names_more (first_refusal (λ k. reference_names k.reference tables scope)) ys i y _ _ c.loop-key-test.true c.key-item.is inv.names refl c.in_ok-reference.ensures.names;
      written = ap (map written_key) pushed ∙ written_same written_key _ _ ys i y inv.written c.loop-key-test.true c.key-item.is (λ j. record { descending = y.descending; reference = c.in_ok-reference.ensures.written j });
      bound = subst (All (IsPlacedKey tables (variables_of scope))) (sym pushed) (all_more (IsPlacedKey tables (variables_of scope)) _ _ inv.bound c.in_ok-reference.ensures.placed);
    }
