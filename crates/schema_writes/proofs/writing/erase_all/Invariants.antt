use Rattle.std.proofs.Common.{◌≡◌, ℕ, true, List, drop}
use Rattle.std.specs.List.{AllByRecursion}
use Rattle.rdb_types.specs.declared.keys.Dbkey.{Dbkey}
use Rattle.line_view.specs.Knowledge.{Lines}
use Rattle.line_view.specs.Writes.{laid_all}
use Rattle.catalog_definitions.specs.Leaving.{erasures}
use Rattle.statement_view.specs.Over.{Stands, laid_over}
use Rattle.statement_view.specs.Areas.{is_among, WritesOf}
use Rattle.schema_writes.proofs.writing.erase_all.Given as goal

abbrev pub invariant-loop-key : goal.invariant-loop-key
invariant-loop-key l =
    ((first : Lines) → Stands l.fn.view first → Stands l.view first)
    × ((first : Lines) → Stands l.fn.view first → laid_all (erasures (drop l.key-index l.keys)) (laid_over l.view.lines first) ≡ laid_all (erasures l.keys) (laid_over l.fn.view.lines first))
    × ((areas : List ℕ) → AllByRecursion (λ (k : Dbkey). is_among areas k.area ≡ true) l.keys → WritesOf areas l.fn.view l.view)
    × (l.view.base ≡ l.fn.view.base)
