use Rattle.std.proofs.Common.{◌≡◌, drop}
use Rattle.rdb_definitions.specs.rdb_meaning.Contents.{no_tables}
use Rattle.catalog.specs.Schema.{tables_from}
use Rattle.catalog.proofs.schema.tables_of.Given as goal

abbrev pub invariant-loop-line : goal.invariant-loop-line
invariant-loop-line l = tables_from l.directory l.tables (drop l.line-index l.lines) ≡ tables_from l.directory no_tables l.lines
