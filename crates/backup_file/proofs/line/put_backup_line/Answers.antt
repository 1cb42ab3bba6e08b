use Rattle.std.proofs.Common.{◌≡◌, ◌∙◌, ◌+◌, ◌-◌, ap, refl, length, take, rules, arith}
use Rattle.slot_fields.proofs.Laws.{laid_out}
use Rattle.backup_file.specs.Line.{line_fields}
use Rattle.backup_file.proofs.line.put_backup_line.Goals as goal

pub returns : goal.returns
returns c =
    let l = c.args.line.now in
    let image = c.bytes-image.result.now in
    let within = c.bytes-image.ensures.within in
    let end : 512 ≡ 48 + length image + (464 - length image) = omega (arith, within, ap length c.bytes-image.ensures.value) in
    record {
      fields = laid_out (line_fields c.args.number l) c.put_zeros-2.new.slot 512
          (ap (λ n. take n c.put_zeros-2.new.slot) end ∙ rw (c.put_zeros-2.ensures.front, c.put_bytes-2.ensures.front, c.put_zeros.ensures.front, c.put_u16-3.ensures.front, c.put_u64.ensures.front, c.put_u16-2.ensures.front, c.put_u16.ensures.front, c.put_u32-3.ensures.front, c.put_u32-2.ensures.front, c.put_u32.ensures.front, c.put_bytes.ensures.front, c.bytes-image.ensures.value) refl)
          (search rules)
          (c.put_u32.ensures.fits, (c.put_u32-2.ensures.fits, (c.put_u32-3.ensures.fits, (c.put_u16.ensures.fits, (c.put_u16-2.ensures.fits, (c.put_u64.ensures.fits, (omega (arith, within), tt)))))));
      allowed = c.requires.allowed;
    }
