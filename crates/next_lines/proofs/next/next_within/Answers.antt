use Rattle.std.proofs.Common.{ℕ, sym, subst}
use Rattle.rdb_page.specs.Page.{IsOwner}
use Rattle.page_table.specs.declared.uses.Sought.TheVariants.{Ever}
use Rattle.page_table.specs.Scans.{HasNone}
use Rattle.next_lines.specs.Areas.{IsFirstIn, IsNextWithin, HasNoneWithin}
use Rattle.next_lines.specs.Next.{table_in}
use Rattle.next_lines.proofs.Leading.{found_within, none_within, some_then, none_then}
use Rattle.next_lines.proofs.next.next_within.Goals as goal

pub returns-in_default-clause-none : goal.returns-in_default-clause-none
returns-in_default-clause-none c = λ other left of. c.in_default.ensures.none left.was.file (subst (λ (a : ℕ). IsOwner left.was.file a) of left.was.owner)

pub returns-clause-found : goal.returns-clause-found
returns-clause-found c = let tables = table_in c.args.catalog.now c.args.relations.now c.args.indexes.now in let pages = c.table_for-table.result.now in
    some_then (IsFirstIn pages c.args.area c.args.from) (IsNextWithin tables c.args.area c.args.from) c.next_in.result c.next_in.ensures.found
    (found_within tables c.in-Some.file c.args.area c.in-Some.ensures.found c.args.from pages (sym c.table_for-table.ensures))

pub returns-clause-none : goal.returns-clause-none
returns-clause-none c = let tables = table_in c.args.catalog.now c.args.relations.now c.args.indexes.now in let pages = c.table_for-table.result.now in
    none_then (HasNone pages Ever c.args.area c.args.from) (HasNoneWithin tables c.args.area c.args.from) c.next_in.result c.next_in.ensures.none
    (none_within tables c.in-Some.file c.args.area c.in-Some.ensures.found c.args.from pages (sym c.table_for-table.ensures))
