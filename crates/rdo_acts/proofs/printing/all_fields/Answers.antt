use Rattle.std.proofs.Common.{arith, ap, ◌∙◌}
use Rattle.rdo_acts.specs.Printing.{values_line}
use Rattle.rdo_acts.proofs.PrintedValues.{value_more, values_done, values_begin, kind_there, kind_within, kind_read}
use Rattle.rdo_acts.proofs.printing.all_fields.Goals as goal

pub unreachable-requires : goal.unreachable-requires
unreachable-requires c = kind_there c.as_slice-kinds.result.now c.loop-at.at (omega arith) c.in_default.ensures

pub loop-at-init : goal.loop-at-init
loop-at-init c = values_begin c.as_slice-kinds.result.now c.args.variable.now.place c.args.values.now c.new-line.result c.new-line.ensures

pub loop-at-preserved : goal.loop-at-preserved
loop-at-preserved c =
    value_more c.as_slice-kinds.result.now c.loop-at.at c.in-Some.kind.now c.args.variable.now.place c.args.values.now c.loop-at.line c.push.new.self c.in_ok-value_at.field-0
    (kind_within c.as_slice-kinds.result.now c.loop-at.at c.in-Some.kind.now c.in-Some.ensures) (kind_read c.as_slice-kinds.result.now c.loop-at.at c.in-Some.kind.now c.in-Some.ensures) c.in_ok-push.ensures.ok c.in_ok-value_at.ensures c.loop-at.invariant

pub returns : goal.returns
returns c =
    values_done c.as_slice-kinds.result.now c.loop-at.at c.args.variable.now.place c.args.values.now c.loop-at.line (omega arith) c.loop-at.invariant
    ∙ ap (λ kinds. values_line kinds c.args.variable.now.place c.args.values.now) c.as_slice-kinds.ensures
