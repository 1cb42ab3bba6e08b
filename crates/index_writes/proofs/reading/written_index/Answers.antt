use Rattle.std.proofs.Common.{rules}
use Rattle.catalog_lines.specs.declared.line.CatalogLine.TheVariants.{Index}
use Rattle.catalog_lines.specs.Lines.{IsCatalogLine}
use Rattle.index_writes.proofs.Read.{written_at, bytes_written, read_written}
use Rattle.index_writes.proofs.reading.written_index.Goals as goal

pub index_of-requires : goal.index_of-requires
index_of-requires c =
    let x = c.requires.0 in
    let decodes : IsCatalogLine c.bytes.result.now (Index x) = bytes_written (Index x) c.write-item.result c.in-Some.image c.bytes.result.now (written_at (Index x) c.args.writes.now c.write-item.result c.write-item.is c.requires.1) (search rules) c.bytes.ensures.value in
    (x, c.in_ok-line.ensures.again (Index x) decodes)

pub returns : goal.returns
returns c =
    let x = c.requires.0 in
    let decodes : IsCatalogLine c.bytes.result.now (Index x) = bytes_written (Index x) c.write-item.result c.in-Some.image c.bytes.result.now (written_at (Index x) c.args.writes.now c.write-item.result c.write-item.is c.requires.1) (search rules) c.bytes.ensures.value in
    read_written c.in_ok-line.line x c.index_of.result c.args.writes.now (c.in_ok-line.ensures.again (Index x) decodes) c.index_of.ensures c.requires.1
