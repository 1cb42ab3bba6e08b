use Rattle.std.proofs.Common.{rules, arith, ◌≡◌, ◌+◌}
use Rattle.slot_fields.specs.Fields.{size}
use Rattle.record_format.specs.Values.{values_fields}
use Rattle.rdb_meaning.specs.Contents.{class_of}
use Rattle.stored_rows.proofs.Sizes.{image_size, long_row, short_row, two_classes, is_within, is_past}
use Rattle.stored_rows.proofs.images.row_image.Goals as goal
use Rattle.stored_rows.proofs.images.row_image.Goals.{then-class_of-eq208, else-class_of-eq208}

pub returns-then-is_none-clause-long : goal.returns-then-is_none-clause-long
returns-then-is_none-clause-long c = λ is.
    let class : c.class_of.result ≡ class_of c.args.fields.now = c.class_of.ensures.class in
    let limit : c.if-class_of-eq208.limit + 3 ≡ class_of c.args.fields.now = elim c.if-class_of-eq208.branch [
      | then-class_of-eq208 w ↦ let here : c.class_of.result ≡ 208 = search rules in omega (arith, w.limit-is, class, here)
      | else-class_of-eq208 w ↦ let here : c.class_of.result ≡ 440 = two_classes c.args.fields.now c.class_of.result class (search rules) in omega (arith, w.limit-is, class, here)
    ] in
    let past = is_past c.values_size.result (size (values_fields c.args.row.now)) c.if-class_of-eq208.limit c.values_size.ensures.none (search rules) in
    let image = image_size c.args.row.now in
    long_row c.args.fields.now c.args.row.now (omega (arith, limit, past, image))

pub returns-clause-short : goal.returns-clause-short
returns-clause-short c =
    let class : c.class_of.result ≡ class_of c.args.fields.now = c.class_of.ensures.class in
    let limit : c.if-class_of-eq208.limit + 3 ≡ class_of c.args.fields.now = elim c.if-class_of-eq208.branch [
      | then-class_of-eq208 w ↦ let here : c.class_of.result ≡ 208 = search rules in omega (arith, w.limit-is, class, here)
      | else-class_of-eq208 w ↦ let here : c.class_of.result ≡ 440 = two_classes c.args.fields.now c.class_of.result class (search rules) in omega (arith, w.limit-is, class, here)
    ] in
    let within = is_within c.values_size.result (size (values_fields c.args.row.now)) c.if-class_of-eq208.limit c.values_size.ensures.value c.values_size.ensures.within (search rules) in
    let image = image_size c.args.row.now in
    short_row c.args.fields.now c.args.row.now (omega (arith, limit, within, image))
