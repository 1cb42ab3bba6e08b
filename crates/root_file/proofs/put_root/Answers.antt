use Rattle.std.proofs.Common.{refl, rules}
use Rattle.slot_fields.proofs.Laws.{laid_out}
use Rattle.root_file.specs.Root.{root_fields}
use Rattle.root_file.proofs.put_root.Goals as goal

pub returns : goal.returns
returns c = record {
  fields = laid_out (root_fields c.args.root.now) c.put_zeros-2.new.slot 1024
      (rw (c.put_zeros-2.ensures.front, c.put_u64-2.ensures.front, c.put_u64.ensures.front, c.put_u32-4.ensures.front, c.put_u32-3.ensures.front, c.put_u32-2.ensures.front, c.put_u32.ensures.front, c.put_zeros.ensures.front, c.put_u8.ensures.front, c.put_u16.ensures.front, c.put_bytes.ensures.front) refl)
      (search rules) (let a = c.requires.allowed in search rules);
  allowed = c.requires.allowed;
}
