use Rattle.std.proofs.Common.{◌+◌, ◌<◌, ◌≤◌, ◌/◌, List, length, take, ap, subst, ◌∙◌}
use Rattle.std.specs.List.{flat_map}
use Rattle.slot_fields.specs.Fields.{size}
use Rattle.index_node.specs.declared.entry.NodeEntry.{NodeEntry}
use Rattle.index_node.specs.Node.{entry_fields}
use Rattle.sorted_index_laws.proofs.Cutting.{halves_laid}
use Rattle.sorted_index.proofs.splitting.halve.Goals as goal

pub returns-clause-laid : goal.returns-clause-laid
returns-clause-laid c =
    let at = c.place_behind-at.result in
    let half = c.unwrap-bytes.result / 2 in
    let value = rw c.unwrap-bytes.ensures at c.entries_size.ensures.value in
    let half_is = ap (λ n. n / 2) (value ∙ ap (λ (es : List NodeEntry). size (flat_map entry_fields es)) c.as_slice.ensures) in
    halves_laid c.args.node c.in_ok-front.field-0.front c.in_ok-front.field-0.rest at half c.requires.grown c.in_ok-front.ensures.ok.0 c.in_ok-front.ensures.ok.1
    (subst (λ (es : List NodeEntry). at ≤ length es) c.as_slice-2.ensures c.place_behind-at.ensures.within) half_is c.requires.long
    (subst (λ (es : List NodeEntry). size (flat_map entry_fields (take at es)) ≤ half) c.as_slice-2.ensures c.place_behind-at.ensures.front)
    (subst (λ (es : List NodeEntry). at < length es → half < size (flat_map entry_fields (take at es)) + 141) c.as_slice-2.ensures c.place_behind-at.ensures.most)
