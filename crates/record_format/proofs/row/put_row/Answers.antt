use Rattle.std.proofs.Common.{refl}
use Rattle.record_format.specs.Rows.{row_fields}
use Rattle.record_format.proofs.Images.{laid_whole}
use Rattle.record_format.proofs.row.put_row.Goals as goal

pub returns-clause-image : goal.returns-clause-image
returns-clause-image c = record {
  fields = laid_whole (row_fields c.args.version c.args.row.now) c.from_bytes.result
      (rw (c.from_bytes.ensures, c.put_values-end.ensures.front, c.put_u8.ensures.front, c.put_u16.ensures.front) refl)
      (c.put_u16.ensures.fits, (c.put_u8.ensures.fits, c.put_values-end.ensures.fits));
  versioned = c.requires.version;
  values = c.put_values-end.ensures.values;
}
