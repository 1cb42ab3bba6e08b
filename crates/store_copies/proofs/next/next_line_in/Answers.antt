use Rattle.std.proofs.Common.{◌≤◌, ℕ, subst}
use Rattle.backup_steps.specs.next_lines.Next.{table_in}
use Rattle.store_copies.proofs.Keeping.{few, goes-on, leads}
use Rattle.store_copies.proofs.next.next_line_in.Goals as goal

pub returns-clause-leads : goal.returns-clause-leads
returns-clause-leads c = λ classes lines lie. leads c.args.tables.now classes lines lie c.args.from c.next_line.result c.next_line.ensures.found c.next_line.ensures.none

pub returns-clause-goes_on : goal.returns-clause-goes_on
returns-clause-goes_on c =
    let t = c.args.tables.now in
    let low = c.next_line.ensures.low (few t.catalog t.relations t.indexes
    (subst (λ (n : ℕ). n ≤ 65536) c.count-catalog.ensures.count c.count-catalog.ensures.limit)
    (subst (λ (n : ℕ). n ≤ 65536) c.count-relations.ensures.count c.count-relations.ensures.limit)
    (subst (λ (n : ℕ). n ≤ 65536) c.count-indexes.ensures.count c.count-indexes.ensures.limit)) in
    goes-on (table_in t.catalog t.relations t.indexes) c.args.from c.next_line.result c.next_line.ensures.found low
