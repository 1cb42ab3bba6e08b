use Rattle.std.proofs.Common.{ℕ, ◌<◌, ◌≤◌, ◌^◌, length, sym, ap, subst, arith}
use Rattle.std.proofs.lemmas.List.{length-take-le}
use Rattle.slot_fields.specs.Fields.{Fit}
use Rattle.slot_fields.proofs.Laws.{laid_append, fit_append}
use Rattle.record_format.proofs.Images.{laid_whole}
use Rattle.catalog_lines.specs.Parts.{name_fields, positions_fields}
use Rattle.catalog_lines.specs.Lines.{index_fields}
use Rattle.catalog_lines.proofs.Positions.{size_positions}
use Rattle.catalog_lines.proofs.writing.put_index.Goals as goal

pub put_positions-name-requires : goal.put_positions-name-requires
put_positions-name-requires c =
    omega (arith, size_positions c.as_slice-positions.result.now, ap length c.as_slice-positions.ensures, c.requires.count.1, c.put_u8-3.auto.slot, c.put_dbkey.auto.slot, c.put_u8-2.auto.slot, c.put_u32-2.auto.slot, c.put_u32.auto.slot, c.put_u8.auto.slot)

pub put_name-end-requires-clause-room : goal.put_name-end-requires-clause-room
put_name-end-requires-clause-room c =
    omega (
      arith,
      size_positions c.as_slice-positions.result.now,
      ap length c.as_slice-positions.ensures,
      ap length c.as_slice.ensures,
      c.requires.count.1,
      c.requires.name.length.1,
      c.put_positions-name.ensures.end,
      c.put_positions-name.auto.slot,
      c.put_u8-3.auto.slot,
      c.put_dbkey.auto.slot,
      c.put_u8-2.auto.slot,
      c.put_u32-2.auto.slot,
      c.put_u32.auto.slot,
      c.put_u8.auto.slot,
    )

pub slice_bounds-slot-end : goal.slice_bounds-slot-end
slice_bounds-slot-end c =
    omega (
      arith,
      size_positions c.as_slice-positions.result.now,
      ap length c.as_slice-positions.ensures,
      ap length c.as_slice.ensures,
      c.requires.count.1,
      c.requires.name.length.1,
      c.put_positions-name.ensures.end,
      c.put_name-end.ensures.end,
      c.put_name-end.auto.slot,
      c.put_positions-name.auto.slot,
      c.put_u8-3.auto.slot,
      c.put_dbkey.auto.slot,
      c.put_u8-2.auto.slot,
      c.put_u32-2.auto.slot,
      c.put_u32.auto.slot,
      c.put_u8.auto.slot,
    )

pub slice_bounds-from_bytes-end : goal.slice_bounds-from_bytes-end
slice_bounds-from_bytes-end c =
    let within : c.put_name-end.result ≤ length c.put_name-end.new.slot =
    omega (
      arith,
      size_positions c.as_slice-positions.result.now,
      ap length c.as_slice-positions.ensures,
      ap length c.as_slice.ensures,
      c.requires.count.1,
      c.requires.name.length.1,
      c.put_positions-name.ensures.end,
      c.put_name-end.ensures.end,
      c.put_name-end.auto.slot,
      c.put_positions-name.auto.slot,
      c.put_u8-3.auto.slot,
      c.put_dbkey.auto.slot,
      c.put_u8-2.auto.slot,
      c.put_u32-2.auto.slot,
      c.put_u32.auto.slot,
      c.put_u8.auto.slot,
    ) in
    sym (length-take-le c.put_name-end.result c.put_name-end.new.slot within)

pub returns-clause-image : goal.returns-clause-image
returns-clause-image c =
    let root = c.put_dbkey.ensures.fits in
    let positions = c.as_slice-positions.ensures in
    let x = c.args.line.now in
    record {
      fields = laid_whole (index_fields x) c.from_bytes.result
          (rw (
            c.from_bytes.ensures,
            c.put_name-end.ensures.front,
            c.put_positions-name.ensures.front,
            c.put_u8-3.ensures.front,
            c.put_dbkey.ensures.front,
            c.put_u8-2.ensures.front,
            c.put_u32-2.ensures.front,
            c.put_u32.ensures.front,
            c.put_u8.ensures.front,
            c.flag_byte.ensures,
            c.as_slice.ensures,
            c.as_slice-positions.ensures,
          ) (sym (laid_append _ (positions_fields x.fields) (name_fields x.name)))) (
            c.put_u8.ensures.fits,
            (
              c.put_u32.ensures.fits,
              (
                c.put_u32-2.ensures.fits,
                (
                  subst (λ (n : ℕ). n < 256 ^ 1) c.flag_byte.ensures c.put_u8-2.ensures.fits,
                  (
                    root.0,
                    (
                      root.1.0,
                      (
                        root.1.1.0,
                        (
                          subst (λ (n : ℕ). n < 256 ^ 1) (ap length positions) c.put_u8-3.ensures.fits,
                          fit_append (positions_fields x.fields) (name_fields x.name) (subst (λ ps. Fit (positions_fields ps)) positions c.put_positions-name.ensures.fits) (subst (λ name. Fit (name_fields name)) c.as_slice.ensures c.put_name-end.ensures.fits),
                        ),
                      ),
                    ),
                  ),
                ),
              ),
            ),
          );
      allowed = c.requires;
    }
