use Rattle.std.proofs.Common.{◌≡◌, ◌∙◌, ◌+◌, ◌-◌, ap, refl, length, take, rules, arith}
use Rattle.rdb_page.proofs.of_slot_fields.Laws.{laid_out}
use Rattle.rdb_page.proofs.States.{byte_small}
use Rattle.ruj_journal.specs.Entry.{entry_fields}
use Rattle.ruj_journal.proofs.entry.put_entry.Goals as goal

pub returns : goal.returns
returns c =
    let e = c.args.entry.now in
    let image = c.bytes-image.result.now in
    let within = c.requires.before.image in
    let end : 512 ≡ 48 + length image + (464 - length image) = omega (arith, c.bytes-image.ensures.within, within, ap length c.bytes-image.ensures.value) in
    record {
      fields = laid_out (entry_fields e) c.put_zeros-2.new.slot 512
          (ap (λ n. take n c.put_zeros-2.new.slot) end ∙ rw (c.put_zeros-2.ensures.front, c.put_bytes-2.ensures.front, c.put_zeros.ensures.front, c.put_u32-4.ensures.front, c.put_u64-2.ensures.front, c.put_u16-2.ensures.front, c.put_u8.ensures.front, c.state_byte.ensures, c.put_u16.ensures.front, c.put_u32-3.ensures.front, c.put_u32-2.ensures.front, c.put_u32.ensures.front, c.put_u64.ensures.front, c.put_bytes.ensures.front, c.bytes-image.ensures.value) refl)
          (search rules)
          (c.put_u64.ensures.fits, (c.put_u32.ensures.fits, (c.put_u32-2.ensures.fits, (c.put_u32-3.ensures.fits, (c.put_u16.ensures.fits, (byte_small e.before.state, (omega (arith, within), (c.put_u64-2.ensures.fits, (c.put_u32-4.ensures.fits, tt)))))))));
      tsn = c.requires.tsn;
      before = c.requires.before;
    }
