use Rattle.std.proofs.Common.{ap, ◌∙◌, List}
use Rattle.line_view.specs.declared.writes.Write.{Write}
use Rattle.line_view.specs.Writes.{laid_all}
use Rattle.member_memory.specs.Memory.{writes_in}
use Rattle.memory_store.specs.Landed.{Stock, landed_on}
use Rattle.memory_store.proofs.Laying.{landed-more}
use Rattle.memory_store.proofs.committed.Committed.land.Goals as goal

pub returns-clause-lines : goal.returns-clause-lines
returns-clause-lines c =
    ap (λ (bs : List (List Write)). landed_on bs c.self.inside.map) c.in-Ok.ensures.items
    ∙ (landed-more c.self.inside.landed.items (writes_in c.args.lines.lines) c.self.inside.map
    ∙ ap (λ (k : Stock). laid_all (writes_in c.args.lines.lines) k.lines) c.self.view_is)
