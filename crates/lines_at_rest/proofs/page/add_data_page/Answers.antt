use Rattle.std.specs.Prelude.{IfSome}
use Rattle.std.proofs.Common.{rules, Option, ℕ, subst, sym}
use Rattle.rdb_page.specs.declared.head.Head.{Head}
use Rattle.rdb_page.specs.Page.{IsUnused, StandsAs}
use Rattle.rdb_page.specs.Whole.{IsPageOf}
use Rattle.line_opening.proofs.Counted.{if_ok}
use Rattle.lines_at_rest.proofs.Pages.{none_there, unused_there, another_there, page_added}
use Rattle.lines_at_rest.proofs.page.add_data_page.Goals as goal

pub returns-in-Ok-None-clause-lines : goal.returns-in-Ok-None-clause-lines
returns-in-Ok-None-clause-lines c =
    let unused : IsUnused c.args.page.now = c.read_head.ensures.unused.0 (first_of (cc, search rules)) in
    λ whole image groups lays owner there was.
    none_there image groups c.args.held.now c.args.file c.args.area c.args.number c.args.page.now c.args.found.now lays owner there (λ q own. unused_there q c.args.page.now unused) was

pub returns-then-head-area-clause-lines : goal.returns-then-head-area-clause-lines
returns-then-head-area-clause-lines c =
    let stands : StandsAs c.args.page.now c.args.file c.args.number c.in-Ok-Some.head = subst (λ (o : Option Head). IfSome o (StandsAs c.args.page.now c.args.file c.args.number)) c.in-Ok-Some.field-0-is c.in-Ok-Some.ensures.found in
    if_ok _ _ c.add_lines.result (λ whole lines is image groups lays owner there was.
    page_added image groups c.args.held.now c.args.file c.args.area c.args.number c.in-Ok-Some.head c.args.page.now c.args.found.now c.add_lines.new.found stands c.if-head-area.true lays there (λ here before. lines is image here before) was) c.add_lines.ensures.lines

pub returns-then-head-area-clause-bad : goal.returns-then-head-area-clause-bad
returns-then-head-area-clause-bad c =
    let stands : StandsAs c.args.page.now c.args.file c.args.number c.in-Ok-Some.head = subst (λ (o : Option Head). IfSome o (StandsAs c.args.page.now c.args.file c.args.number)) c.in-Ok-Some.field-0-is c.in-Ok-Some.ensures.found in
    if_ok _ _ c.add_lines.result (λ whole bad is page. bad is (subst (λ (n : ℕ). IsPageOf c.args.file n c.args.page.now) (sym stands.page_number) page)) c.add_lines.ensures.bad

pub returns-else-head-area-clause-lines : goal.returns-else-head-area-clause-lines
returns-else-head-area-clause-lines c =
    let stands : StandsAs c.args.page.now c.args.file c.args.number c.in-Ok-Some.head = subst (λ (o : Option Head). IfSome o (StandsAs c.args.page.now c.args.file c.args.number)) c.in-Ok-Some.field-0-is c.in-Ok-Some.ensures.found in
    λ whole image groups lays owner there was.
    none_there image groups c.args.held.now c.args.file c.args.area c.args.number c.args.page.now c.args.found.now lays owner there (λ q own. another_there q c.args.page.now c.in-Ok-Some.head c.args.area stands.head c.if-head-area.false own) was
