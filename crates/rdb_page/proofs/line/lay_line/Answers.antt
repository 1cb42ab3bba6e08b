use Rattle.std.proofs.Common.{◌≡◌, ◌∙◌, ◌+◌, ◌-◌, ap, refl, length, take, rules, arith}
use Rattle.std.proofs.lemmas.List.{length-take-le}
use Rattle.slot_fields.proofs.Laws.{laid_part, laid_before, drop_behind}
use Rattle.slot_fields.specs.Fields.{laid}
use Rattle.rdb_page.specs.Lines.{line_fields}
use Rattle.rdb_page.proofs.States.{byte_small}
use Rattle.rdb_page.proofs.line.lay_line.Goals as goal

pub returns-clause-here : goal.returns-clause-here
returns-clause-here c =
    let at = c.args.at in
    let image = c.bytes-image.result.now in
    let same : length image ≡ length c.args.value.now.image = ap length c.bytes-image.ensures.value in
    let starts = length-take-le at c.args.page.now (omega (arith, c.requires.size)) in
    let e16 : at + 16 ≡ at + 12 + 4 = omega arith in
    let e12 : at + 12 ≡ at + 4 + 8 = omega arith in
    let e4 : at + 4 ≡ at + 2 + 2 = omega arith in
    let e2 : at + 2 ≡ at + 1 + 1 = omega arith in
    let laid_so : take (at + 16 + length image + (c.args.class - length image)) c.put_zeros-2.new.slot ≡ laid (take at c.args.page.now) (line_fields c.args.class c.args.value.now) =
    rw (c.put_zeros-2.ensures.front, c.put_bytes.ensures.front, e16, c.put_u32.ensures.front, e12, c.put_u64.ensures.front, e4, c.put_u16.ensures.front, e2, c.put_zeros.ensures.front, c.put_u8.ensures.front, c.state_byte.ensures, c.bytes-image.ensures.value) refl in
    laid_part (line_fields c.args.class c.args.value.now) (take at c.args.page.now) c.put_zeros-2.new.slot at (at + 16 + length image + (c.args.class - length image)) laid_so starts
    (omega (arith, same)) (byte_small c.args.value.now.state, (search rules, (search rules, (c.put_u32.ensures.fits, tt))))

pub returns-clause-before : goal.returns-clause-before
returns-clause-before c =
    let at = c.args.at in
    let image = c.bytes-image.result.now in
    let same : length image ≡ length c.args.value.now.image = ap length c.bytes-image.ensures.value in
    let starts = length-take-le at c.args.page.now (omega (arith, c.requires.size)) in
    let e16 : at + 16 ≡ at + 12 + 4 = omega arith in
    let e12 : at + 12 ≡ at + 4 + 8 = omega arith in
    let e4 : at + 4 ≡ at + 2 + 2 = omega arith in
    let e2 : at + 2 ≡ at + 1 + 1 = omega arith in
    let laid_so : take (at + 16 + length image + (c.args.class - length image)) c.put_zeros-2.new.slot ≡ laid (take at c.args.page.now) (line_fields c.args.class c.args.value.now) =
    rw (c.put_zeros-2.ensures.front, c.put_bytes.ensures.front, e16, c.put_u32.ensures.front, e12, c.put_u64.ensures.front, e4, c.put_u16.ensures.front, e2, c.put_zeros.ensures.front, c.put_u8.ensures.front, c.state_byte.ensures, c.bytes-image.ensures.value) refl in
    laid_before (line_fields c.args.class c.args.value.now) (take at c.args.page.now) c.put_zeros-2.new.slot at (at + 16 + length image + (c.args.class - length image)) laid_so starts (omega arith)

pub returns-clause-behind : goal.returns-clause-behind
returns-clause-behind c =
    let end = c.args.at + (16 + c.args.class) in
    let size : length c.bytes-image.result.now ≡ length c.args.value.now.image = ap length c.bytes-image.ensures.value in
    let within = c.requires.allowed.image in
    drop_behind end (c.args.at + 16 + length c.bytes-image.result.now + (c.args.class - length c.bytes-image.result.now)) c.put_bytes.new.slot c.put_zeros-2.new.slot (omega (arith, size, within)) c.put_zeros-2.ensures.rest
    ∙ drop_behind end (c.args.at + 16 + length c.bytes-image.result.now) c.put_u32.new.slot c.put_bytes.new.slot (omega (arith, size, within)) c.put_bytes.ensures.rest
    ∙ drop_behind end (c.args.at + 12 + 4) c.put_u64.new.slot c.put_u32.new.slot (omega (arith, size, within)) c.put_u32.ensures.rest
    ∙ drop_behind end (c.args.at + 4 + 8) c.put_u16.new.slot c.put_u64.new.slot (omega (arith, size, within)) c.put_u64.ensures.rest
    ∙ drop_behind end (c.args.at + 2 + 2) c.put_zeros.new.slot c.put_u16.new.slot (omega (arith, size, within)) c.put_u16.ensures.rest
    ∙ drop_behind end (c.args.at + 1 + 1) c.put_u8.new.slot c.put_zeros.new.slot (omega (arith, size, within)) c.put_zeros.ensures.rest
    ∙ drop_behind end (c.args.at + 1) c.args.page.now c.put_u8.new.slot (omega (arith, size, within)) c.put_u8.ensures.rest
