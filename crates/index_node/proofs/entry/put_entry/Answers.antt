use Rattle.std.proofs.Common.{◌+◌, ◌∙◌, [], ◌∷◌, ap, subst, arith}
use Rattle.record_format.specs.slot_fields.Fields.{size, number}
use Rattle.record_format.specs.Dbkeys.{dbkey_fields}
use Rattle.record_format.specs.Values.{values_fields}
use Rattle.record_format.proofs.Laying.{HasLaid}
use Rattle.index_node.specs.Node.{child_fields}
use Rattle.index_node.proofs.Entries.{entry_size_is, laid_entry}
use Rattle.index_node.proofs.entry.put_entry.Goals as goal

pub put_values-row-requires-clause-room : goal.put_values-row-requires-clause-room
put_values-row-requires-clause-room c =
    let key = ap (λ vs. size (values_fields vs)) c.as_slice-key.ensures in
    omega (arith, key, c.requires.room, c.put_u8.auto.slot, entry_size_is c.args.entry.now)

pub put_dbkey-requires : goal.put_dbkey-requires
put_dbkey-requires c =
    let key = ap (λ vs. size (values_fields vs)) c.as_slice-key.ensures in
    omega (arith, key, c.requires.room, c.put_u8.auto.slot, c.put_values-row.auto.slot, c.put_values-row.ensures.end, entry_size_is c.args.entry.now)

pub put_child-requires : goal.put_child-requires
put_child-requires c =
    let key = ap (λ vs. size (values_fields vs)) c.as_slice-key.ensures in
    omega (arith, key, c.requires.room, c.put_u8.auto.slot, c.put_values-row.auto.slot, c.put_dbkey.auto.slot, c.put_values-row.ensures.end, entry_size_is c.args.entry.now)

pub returns : goal.returns
returns c =
    let at = c.args.at in
    let row = c.put_values-row.result in
    let e = c.args.entry.now in
    let size_is = rw c.unwrap.ensures at c.values_size.ensures.value in
    let put = c.put_values-row.ensures in
    let last = c.put_child.ensures in
    let head : HasLaid c.args.slot.now c.put_u8.new.slot at (at + 1) (number 1 c.unwrap.result ∷ []) = record { ends = omega arith; front = c.put_u8.ensures.front; rest = c.put_u8.ensures.rest; fits = (c.put_u8.ensures.fits, tt) } in
    let key : HasLaid c.put_u8.new.slot c.put_values-row.new.slot (at + 1) row (values_fields c.as_slice-key.result.now) = record { ends = put.end; front = put.front; rest = put.rest; fits = put.fits } in
    let dbkey : HasLaid c.put_values-row.new.slot c.put_dbkey.new.slot row (row + 10) (dbkey_fields e.row) = record { ends = omega arith; front = c.put_dbkey.ensures.front; rest = c.put_dbkey.ensures.rest; fits = c.put_dbkey.ensures.fits } in
    let child : HasLaid c.put_dbkey.new.slot c.put_child.new.slot (row + 10) c.put_child.result (child_fields e.child) = record { ends = last.end; front = last.front; rest = last.rest; fits = last.fits } in
    let whole = laid_entry e c.args.slot.now c.put_u8.new.slot c.put_values-row.new.slot c.put_dbkey.new.slot c.put_child.new.slot at c.unwrap.result row c.put_child.result
    (size_is ∙ ap (λ vs. size (values_fields vs)) c.as_slice-key.ensures) head
    (subst (λ vs. HasLaid c.put_u8.new.slot c.put_values-row.new.slot (at + 1) row (values_fields vs)) c.as_slice-key.ensures key) dbkey child in
    record { end = whole.ends; front = whole.front; rest = whole.rest; fits = whole.fits }
