use Rattle.std.proofs.Common.{◌≡◌, ◌+◌, refl, take, arith}
use Rattle.std.proofs.lemmas.List.{length-take-le}
use Rattle.area_files.proofs.of_slot_fields.Laws.{laid_part, laid_before}
use Rattle.area_files.specs.slot_fields.Fields.{laid}
use Rattle.space_pages.specs.Space.{entry_place}
use Rattle.space_pages.proofs.Entries.{entry_fields}
use Rattle.space_pages.proofs.put_entry.Goals as goal

pub returns-clause-owner : goal.returns-clause-owner
returns-clause-owner c =
    let at = entry_place c.args.index in
    let fields = entry_fields c.args.owner c.args.level in
    let laid_so : take (at + 4 + 1) c.put_u8.new.slot ≡ laid (take at c.args.spam.now) fields = rw (c.put_u8.ensures.front, c.put_u32.ensures.front) refl in
    let starts = length-take-le at c.args.spam.now (omega (arith, c.requires)) in
    (laid_part fields (take at c.args.spam.now) c.put_u8.new.slot at (at + 4 + 1) laid_so starts (omega arith) (c.put_u32.ensures.fits, (c.put_u8.ensures.fits, tt))).0

pub returns-clause-level : goal.returns-clause-level
returns-clause-level c =
    let at = entry_place c.args.index in
    let fields = entry_fields c.args.owner c.args.level in
    let laid_so : take (at + 4 + 1) c.put_u8.new.slot ≡ laid (take at c.args.spam.now) fields = rw (c.put_u8.ensures.front, c.put_u32.ensures.front) refl in
    let starts = length-take-le at c.args.spam.now (omega (arith, c.requires)) in
    (laid_part fields (take at c.args.spam.now) c.put_u8.new.slot at (at + 4 + 1) laid_so starts (omega arith) (c.put_u32.ensures.fits, (c.put_u8.ensures.fits, tt))).1.0

pub returns-clause-before : goal.returns-clause-before
returns-clause-before c =
    let at = entry_place c.args.index in
    let fields = entry_fields c.args.owner c.args.level in
    let laid_so : take (at + 4 + 1) c.put_u8.new.slot ≡ laid (take at c.args.spam.now) fields = rw (c.put_u8.ensures.front, c.put_u32.ensures.front) refl in
    laid_before fields (take at c.args.spam.now) c.put_u8.new.slot at (at + 4 + 1) laid_so (length-take-le at c.args.spam.now (omega (arith, c.requires))) (omega arith)
