use Rattle.std.proofs.Common.{refl, ◌∙◌}
use Rattle.node_search.proofs.Nodes.{miscounted, node_there}
use Rattle.node_search.proofs.node.node_in.Goals as goal

pub returns-then-branch-count-clause-none : goal.returns-then-branch-count-clause-none
returns-then-branch-count-clause-none c =
    let counted = c.in_ok-count_entries.ensures.found in
    miscounted c.args.bytes.now c.u8_at-level.result c.u16_at-count.result c.in_ok-count_entries.field-0 counted.0 c.u8_at-level.ensures c.u16_at-count.ensures counted.1.0 counted.1.2 c.if-branch-count.true

pub returns-clause-found : goal.returns-clause-found
returns-clause-found c =
    let counted = c.in_ok-count_entries.ensures.found in
    let is = node_there c.args.bytes.now c.u8_at-level.result c.u16_at-count.result counted.0 c.u8_at-level.ensures c.u16_at-count.ensures (c.has_zeros.ensures.yes c.if-not-has_zeros.false) counted.1.0 counted.1.1 (counted.1.2 ∙ c.if-branch-count.false) c.if-bytes-gt430.false in
    (record { level = c.u8_at-level.result; entries = counted.0 }, ((is, refl), is))
