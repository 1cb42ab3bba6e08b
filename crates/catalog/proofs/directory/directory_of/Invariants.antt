use Rattle.std.proofs.Common.{◌≡◌, drop}
use Rattle.catalog.specs.Directory.{directory, directory_from}
use Rattle.catalog.proofs.directory.directory_of.Given as goal

abbrev pub invariant-loop-line : goal.invariant-loop-line
invariant-loop-line l = directory_from l.directory (drop l.line-index l.lines) ≡ directory l.lines
