use Rattle.std.proofs.Common.{subst}
use Rattle.member_rooms.specs.page_table.Pages.{PutsLine}
use Rattle.disk_store.proofs.LinesPut.{puts-catalog, puts-relations, puts-indexes}
use Rattle.disk_store.proofs.landing.put_in.Goals as goal

pub returns-in-1 : goal.returns-in-1
returns-in-1 c = puts-catalog c.args.line.now c.args.file c.requires.owner c.args.tables.now c.requires.line c.put_line.new.self c.in-1.is (subst (λ b. PutsLine c.args.line.now.0 b c.args.tables.now.catalog c.put_line.new.self) c.is_present-is_present.ensures c.put_line.ensures)

pub returns-in-2 : goal.returns-in-2
returns-in-2 c = puts-relations c.args.line.now c.args.file c.requires.owner c.args.tables.now c.requires.line c.put_line-in-2.new.self c.in-2.is (subst (λ b. PutsLine c.args.line.now.0 b c.args.tables.now.relations c.put_line-in-2.new.self) c.is_present-is_present.ensures c.put_line-in-2.ensures)

pub returns-in-3 : goal.returns-in-3
returns-in-3 c = puts-indexes c.args.line.now c.args.file c.requires.owner c.args.tables.now c.requires.line c.put_line-in-3.new.self c.in-3.is (subst (λ b. PutsLine c.args.line.now.0 b c.args.tables.now.indexes c.put_line-in-3.new.self) c.is_present-is_present.ensures c.put_line-in-3.ensures)
