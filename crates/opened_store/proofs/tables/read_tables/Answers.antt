use Rattle.std.proofs.Common.{rules, arith}
use Rattle.rdb_outside.specs.Runs.{then_reads}
use Rattle.line_moves.proofs.Runs.{still_tells}
use Rattle.opened_store.proofs.ThreeTables.{table-before, pages-behind, all-tables}
use Rattle.opened_store.proofs.tables.read_tables.Goals as goal

pub returns-in_err-catalog-clause-bad : goal.returns-in_err-catalog-clause-bad
returns-in_err-catalog-clause-bad g c = λ file slot is t are. c.read_table.ensures.bad file slot (search rules) t (are 1 (record { first = omega arith; last = omega arith }))

pub returns-in_err-relations-clause-reads : goal.returns-in_err-relations-clause-reads
returns-in_err-relations-clause-reads g c = let v = g.D.Disk.view in then_reads (v c.args.disk.now) (v c.read_table.new.disk) (v c.read_table-2.new.disk) c.read_table.ensures.reads c.read_table-2.ensures.reads

pub returns-in_err-relations-clause-bad : goal.returns-in_err-relations-clause-bad
returns-in_err-relations-clause-bad g c = let v = g.D.Disk.view in let old = v c.args.disk.now in let one = v c.read_table.new.disk in let reads = c.read_table.ensures.reads in
    λ file slot is t are. c.read_table-2.ensures.bad file slot (search rules) (still_tells old one reads.told t) (pages-behind old one reads t are 2 (record { first = omega arith; last = omega arith }))

pub returns-in_err-indexes-clause-reads : goal.returns-in_err-indexes-clause-reads
returns-in_err-indexes-clause-reads g c = let v = g.D.Disk.view in let old = v c.args.disk.now in let one = v c.read_table.new.disk in let two = v c.read_table-2.new.disk in
    then_reads old two (v c.read_table-3.new.disk) (then_reads old one two c.read_table.ensures.reads c.read_table-2.ensures.reads) c.read_table-3.ensures.reads

pub returns-in_err-indexes-clause-bad : goal.returns-in_err-indexes-clause-bad
returns-in_err-indexes-clause-bad g c = let v = g.D.Disk.view in let old = v c.args.disk.now in let one = v c.read_table.new.disk in let two = v c.read_table-2.new.disk in
    let reads = then_reads old one two c.read_table.ensures.reads c.read_table-2.ensures.reads in
    λ file slot is t are. c.read_table-3.ensures.bad file slot (search rules) (still_tells old two reads.told t) (pages-behind old two reads t are 3 (record { first = omega arith; last = omega arith }))

pub returns-clause-reads : goal.returns-clause-reads
returns-clause-reads g c = let v = g.D.Disk.view in let old = v c.args.disk.now in let one = v c.read_table.new.disk in let two = v c.read_table-2.new.disk in
    then_reads old two (v c.read_table-3.new.disk) (then_reads old one two c.read_table.ensures.reads c.read_table-2.ensures.reads) c.read_table-3.ensures.reads

pub returns-clause-tables : goal.returns-clause-tables
returns-clause-tables g c = let v = g.D.Disk.view in let old = v c.args.disk.now in let one = v c.read_table.new.disk in let two = v c.read_table-2.new.disk in
    let reads = c.read_table.ensures.reads in
    let reads2 = then_reads old one two reads c.read_table-2.ensures.reads in
    λ t. all-tables old.content c.args.pages (record { catalog = c.in_ok-catalog.catalog; relations = c.in_ok-relations.relations; indexes = c.in_ok-indexes.indexes })
    (c.in_ok-catalog.ensures.table t)
    (table-before old one reads t 2 c.args.pages c.in_ok-relations.relations (c.in_ok-relations.ensures.table (still_tells old one reads.told t)))
    (table-before old two reads2 t 3 c.args.pages c.in_ok-indexes.indexes (c.in_ok-indexes.ensures.table (still_tells old two reads2.told t)))
