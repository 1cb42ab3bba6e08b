use Rattle.std.proofs.Common.{refl, rules}
use Rattle.rdb_page.proofs.of_slot_fields.Laws.{laid_out}
use Rattle.ruj_journal.specs.Header.{header_fields}
use Rattle.ruj_journal.proofs.header.put_header.Goals as goal

pub returns : goal.returns
returns c = record {
  fields = laid_out (header_fields c.args.tsn) c.put_zeros.new.slot 512
      (rw (c.put_zeros.ensures.front, c.put_u64.ensures.front, c.number_of.ensures, c.put_bytes.ensures.front) refl)
      (search rules)
      (rw (← c.number_of.ensures) (c.put_u64.ensures.fits, tt));
  allowed = c.requires.allowed;
}
