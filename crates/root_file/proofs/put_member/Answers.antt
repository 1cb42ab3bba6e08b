use Rattle.std.proofs.Common.{refl, rules}
use Rattle.slot_fields.proofs.Laws.{laid_out}
use Rattle.root_file.specs.Member.{member_fields}
use Rattle.root_file.proofs.put_member.Goals as goal

pub returns : goal.returns
returns c = laid_out (member_fields c.args.number c.args.attached) c.put_zeros.new.slot 1024
    (rw (c.put_zeros.ensures.front, c.put_u8.ensures.front, c.attached_byte.ensures, c.put_u16.ensures.front, c.put_bytes.ensures.front) refl)
    (search rules) (search rules)
