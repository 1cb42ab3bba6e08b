use Rattle.std.proofs.Common.{◌∙◌, ap}
use Rattle.record_format.specs.slot_fields.Fields.{size}
use Rattle.record_format.specs.Values.{values_fields}
use Rattle.index_node.proofs.Entries.{size_without_child, size_with_child}
use Rattle.index_node.proofs.entry.entry_size.Goals as goal

pub returns-in-None-clause-value : goal.returns-in-None-clause-value
returns-in-None-clause-value c =
    let key = rw c.unwrap-key.ensures at c.values_size.ensures.value in
    size_without_child c.args.entry.now c.unwrap-key.result (key ∙ ap (λ vs. size (values_fields vs)) c.as_slice.ensures) c.in-None.is

pub returns-in-Some-clause-value : goal.returns-in-Some-clause-value
returns-in-Some-clause-value c =
    let key = rw c.unwrap-key.ensures at c.values_size.ensures.value in
    size_with_child c.args.entry.now c.unwrap-key.result c.in-Some.field-0 (key ∙ ap (λ vs. size (values_fields vs)) c.as_slice.ensures) c.in-Some.is
