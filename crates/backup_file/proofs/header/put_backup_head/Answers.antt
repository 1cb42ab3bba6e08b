use Rattle.std.proofs.Common.{refl, rules}
use Rattle.slot_fields.proofs.Laws.{laid_out}
use Rattle.backup_file.specs.Header.{head_fields}
use Rattle.backup_file.proofs.header.put_backup_head.Goals as goal

pub returns : goal.returns
returns c = record {
  fields = laid_out (head_fields c.args.head.now) c.put_zeros-2.new.slot 512
      (rw (c.put_zeros-2.ensures.front, c.put_u32-5.ensures.front, c.put_u64.ensures.front, c.put_u32-4.ensures.front, c.put_u32-3.ensures.front, c.put_u32-2.ensures.front, c.put_u32.ensures.front, c.put_zeros.ensures.front, c.put_u16.ensures.front, c.put_bytes.ensures.front) refl)
      (search rules)
      (c.put_u16.ensures.fits, (c.put_u32.ensures.fits, (c.put_u32-2.ensures.fits, (c.put_u32-3.ensures.fits, (c.put_u32-4.ensures.fits, (c.put_u64.ensures.fits, (c.put_u32-5.ensures.fits, tt)))))));
  last_group = c.requires.last_group;
}
