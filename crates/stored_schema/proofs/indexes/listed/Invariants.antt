use Rattle.std.proofs.Common.{◌≡◌, map, take}
use Rattle.stored_schema.specs.Indexes.{path_of, lines_of}
use Rattle.stored_schema.proofs.indexes.listed.Given as goal

abbrev pub invariant-loop-line : goal.invariant-loop-line
invariant-loop-line l = record {
  lines : l.lines ≡ lines_of (take l.line-index l.line-items);
  paths : l.paths ≡ map path_of (lines_of (take l.line-index l.line-items));
}
