use Rattle.next_lines.specs.Next.{table_in}
use Rattle.next_lines.proofs.Leading.{is_low, is_next, leads_to}
use Rattle.next_lines.proofs.next.next_line.Goals as goal

pub returns-in-Some-clause-found : goal.returns-in-Some-clause-found
returns-in-Some-clause-found c = is_next c.args.catalog.now c.args.relations.now c.args.indexes.now c.args.from c.loop-next.area c.in-Some.next c.loop-next.invariant c.in-Some.ensures.found

pub returns-in-Some-clause-low : goal.returns-in-Some-clause-low
returns-in-Some-clause-low c = λ few. is_low (table_in c.args.catalog.now c.args.relations.now c.args.indexes.now) c.args.from c.in-Some.next.key few c.in-Some.ensures.found.left

pub returns-in-Some-clause-leads : goal.returns-in-Some-clause-leads
returns-in-Some-clause-leads c = λ classes lines have of.
    leads_to (table_in c.args.catalog.now c.args.relations.now c.args.indexes.now) c.args.from classes lines have of c.in-Some.next
    (is_next c.args.catalog.now c.args.relations.now c.args.indexes.now c.args.from c.loop-next.area c.in-Some.next c.loop-next.invariant c.in-Some.ensures.found)
