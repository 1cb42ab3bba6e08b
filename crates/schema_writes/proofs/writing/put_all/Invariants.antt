use Rattle.std.proofs.Common.{◌≡◌, ℕ, true, List, drop}
use Rattle.std.specs.List.{AllByRecursion}
use Rattle.line_view.specs.declared.writes.Write.{Write}
use Rattle.line_view.specs.Knowledge.{Lines}
use Rattle.line_view.specs.Writes.{laid_all}
use Rattle.statement_view.specs.Over.{Stands, laid_over}
use Rattle.statement_view.specs.Areas.{is_among, WritesOf}
use Rattle.schema_writes.proofs.writing.put_all.Given as goal

abbrev pub invariant-loop-write : goal.invariant-loop-write
invariant-loop-write l =
    ((first : Lines) → Stands l.fn.view first → Stands l.view first)
    × ((first : Lines) → Stands l.fn.view first → laid_all (drop l.write-index l.writes) (laid_over l.view.lines first) ≡ laid_all l.writes (laid_over l.fn.view.lines first))
    × ((areas : List ℕ) → AllByRecursion (λ (w : Write). is_among areas (w.key).area ≡ true) l.writes → WritesOf areas l.fn.view l.view)
    × (l.view.base ≡ l.fn.view.base)
