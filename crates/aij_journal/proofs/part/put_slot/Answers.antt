use Rattle.std.proofs.Common.{◌≡◌, ◌∙◌, ◌+◌, ◌-◌, ap, refl, length, take, rules, arith}
use Rattle.rdb_page.proofs.of_slot_fields.Laws.{laid_out}
use Rattle.rdb_page.proofs.States.{byte_small}
use Rattle.aij_journal.specs.Part.{part_fields}
use Rattle.aij_journal.proofs.part.put_slot.Goals as goal

pub returns-in-None : goal.returns-in-None
returns-in-None c = record {
  fields = laid_out (part_fields c.args.part.now) c.put_zeros.new.slot 512
      (rw (c.put_zeros.ensures.front, c.put_u8.ensures.front, c.put_u32-in-None.ensures.front, c.put_u32.ensures.front, c.put_u64-in-None.ensures.front, c.put_u64.ensures.front, c.put_bytes.ensures.front, c.in-None.is) refl)
      (search rules)
      (rw c.in-None.is (c.put_u64.ensures.fits, (c.put_u64-in-None.ensures.fits, (c.put_u32.ensures.fits, (c.put_u32-in-None.ensures.fits, (c.put_u8.ensures.fits, tt))))));
  number = c.requires.number;
  tsn = c.requires.tsn;
  what = c.requires.what;
}

pub returns-in-Some : goal.returns-in-Some
returns-in-Some c =
    let image = c.bytes-image.result.now in
    let within = c.bytes-image.ensures.within in
    let end : 512 ≡ 48 + length image + (464 - length image) = omega (arith, within, ap length c.bytes-image.ensures.value) in
    record {
      fields = laid_out (part_fields c.args.part.now) c.put_zeros-in-Some-2.new.slot 512
          (ap (λ n. take n c.put_zeros-in-Some-2.new.slot) end ∙ rw (c.put_zeros-in-Some-2.ensures.front, c.put_bytes-in-Some-2.ensures.front, c.put_zeros-in-Some.ensures.front, c.put_u16-in-Some-2.ensures.front, c.put_u16-in-Some.ensures.front, c.put_u8-in-Some-2.ensures.front, c.state_byte.ensures, c.put_u16.ensures.front, c.put_u32-in-Some-4.ensures.front, c.put_u32-in-Some-3.ensures.front, c.put_u8-in-Some.ensures.front, c.put_u32-in-Some-2.ensures.front, c.put_u32-in-Some.ensures.front, c.put_u64-in-Some-2.ensures.front, c.put_u64-in-Some.ensures.front, c.put_bytes-in-Some.ensures.front, c.bytes-image.ensures.value, c.in-Some.is) refl)
          (search rules)
          (rw c.in-Some.is (c.put_u64-in-Some.ensures.fits, (c.put_u64-in-Some-2.ensures.fits, (c.put_u32-in-Some.ensures.fits, (c.put_u32-in-Some-2.ensures.fits, (c.put_u8-in-Some.ensures.fits, (c.put_u32-in-Some-3.ensures.fits, (c.put_u32-in-Some-4.ensures.fits, (c.put_u16.ensures.fits, (byte_small c.in-Some.line.state, (omega (arith, within), (c.put_u16-in-Some-2.ensures.fits, tt))))))))))));
      number = c.requires.number;
      tsn = c.requires.tsn;
      what = c.requires.what;
    }
