use Rattle.std.proofs.Common.{drop}
use Rattle.statement_sources.proofs.SourcesRead.{AreRead}
use Rattle.statement_sources.proofs.schema_sources.sources.Given as goal

abbrev pub invariant-loop-name : goal.invariant-loop-name
invariant-loop-name l = AreRead l.schema (drop l.name-index l.name-items) l.sources.entries
