use Rattle.std.proofs.Common.{ℕ, ◌<◌, ◌^◌, refl, ap, subst, arith, length}
use Rattle.std.specs.List.{flat_map}
use Rattle.record_format.specs.slot_fields.Fields.{size, Fit}
use Rattle.record_format.proofs.of_slot_fields.Laws.{whole_ends}
use Rattle.record_format.proofs.Images.{laid_whole}
use Rattle.index_node.specs.Node.{node_fields, entry_fields}
use Rattle.index_node.proofs.Nodes.{no_more_than_bytes, size_known}
use Rattle.index_node.proofs.node.put_node.Goals as goal

pub overflow_cast-entries : goal.overflow_cast-entries
overflow_cast-entries c =
    let entries = c.as_slice-entries.result.now in
    let many = no_more_than_bytes entries in
    let few = size_known c.entries_size.result (size (flat_map entry_fields entries)) 426 c.if-is_none.ensures c.entries_size.ensures.value c.entries_size.ensures.within in
    omega (arith, many, few)

pub returns-clause-image : goal.returns-clause-image
returns-clause-image c =
    let node = c.args.node.now in
    let many = ap length c.as_slice-entries.ensures in
    let same = ap (λ es. size (flat_map entry_fields es)) c.as_slice-entries.ensures in
    let few = size_known c.entries_size.result (size (flat_map entry_fields c.as_slice-entries.result.now)) 426 c.if-is_none.ensures c.entries_size.ensures.value c.entries_size.ensures.within in
    let image = laid_whole (node_fields node) c.from_bytes.result
    (rw (c.from_bytes.ensures, c.put_entries-end.ensures.front, c.put_zeros.ensures.front, c.put_u16.ensures.front, c.put_u8.ensures.front, c.as_slice-entries.ensures) refl)
    (c.put_u8.ensures.fits, (subst (λ (n : ℕ). n < 256 ^ 2) many c.put_u16.ensures.fits, subst (λ es. Fit (flat_map entry_fields es)) c.as_slice-entries.ensures c.put_entries-end.ensures.fits)) in
    record {
      fields = image;
      allowed = c.requires;
      small = omega (arith, whole_ends (flat_map entry_fields node.entries) 4 c.from_bytes.result image.1.1.1, few, same);
    }
