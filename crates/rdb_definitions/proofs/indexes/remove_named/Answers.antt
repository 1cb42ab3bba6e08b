use Rattle.std.proofs.Common.{not, drop, sym, ap, ◌∙◌, ◌+◌}
use Rattle.std.specs.List.{filter}
use Rattle.rdb_definitions.proofs.Removal.{is_named, filter_named_more, filter_named_all}
use Rattle.rdb_definitions.proofs.indexes.remove_named.Goals as goal

pub loop-name-preserved : goal.loop-name-preserved
loop-name-preserved c =
    let ns = c.args.names.now in
    let i = c.loop-name.name-index in
    c.loop-name.invariant
    ∙ filter_named_more ns i c.name-item.result c.loop-name.indexes c.loop-name-test.true c.name-item.is
    ∙ ap (λ es. filter (λ e. not (is_named (drop (i + 1) ns) e)) es) (sym c.remove.ensures.removed)

pub returns : goal.returns
returns c =
    sym (c.loop-name.invariant ∙ filter_named_all c.args.names.now c.loop-name.name-index c.loop-name.indexes c.loop-name-test.false)
