use Rattle.std.proofs.Common.{inl, inr, refl}
use Rattle.reader_lines.specs.version_writing.Slots.{GivesBack}
use Rattle.reader_lines.specs.version_writing.Tables.{table_of}
use Rattle.disk_store.proofs.SlotsSound.{each-file}
use Rattle.disk_store.proofs.giving.give_pushed.Goals as goal

pub returns-then-is_wanted : goal.returns-then-is_wanted
returns-then-is_wanted c = inl (refl, c.is_wanted.ensures.yes c.if-is_wanted.true)

pub returns : goal.returns
returns c = inr (record {
  unwanted = c.is_wanted.ensures.no c.if-is_wanted.false;
  back = each-file (λ f. GivesBack (table_of c.args.slots.now f) (table_of c.give_pushed.new.self f) c.args.tsn.number) c.give_pushed.ensures.catalog c.give_pushed.ensures.relations c.give_pushed.ensures.indexes;
})
