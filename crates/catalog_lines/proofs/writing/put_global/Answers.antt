use Rattle.std.proofs.Common.{refl, subst}
use Rattle.slot_fields.specs.Fields.{Fit}
use Rattle.record_format.proofs.Images.{laid_whole}
use Rattle.catalog_lines.specs.Parts.{name_fields}
use Rattle.catalog_lines.specs.Lines.{global_fields}
use Rattle.catalog_lines.proofs.writing.put_global.Goals as goal

pub returns-clause-image : goal.returns-clause-image
returns-clause-image c =
    let kind = c.put_type.ensures.fits in
    record {
      fields = laid_whole (global_fields c.args.line.now) c.from_bytes.result
          (rw (c.from_bytes.ensures, c.put_name-end.ensures.front, c.put_type.ensures.front, c.put_u8.ensures.front, c.as_slice.ensures) refl)
          (c.put_u8.ensures.fits, (kind.0, (kind.1.0, (kind.1.1.0, subst (λ name. Fit (name_fields name)) c.as_slice.ensures c.put_name-end.ensures.fits))));
      allowed = c.requires;
    }
