use Rattle.std.proofs.Common.{rules}
use Rattle.space_pages.specs.Space.{IsSpace}
use Rattle.lines_at_rest.proofs.Pages.{none_there, space_there}
use Rattle.lines_at_rest.proofs.page.add_page.Goals as goal

pub returns-then-is_space_page-clause-lines : goal.returns-then-is_space_page-clause-lines
returns-then-is_space_page-clause-lines c = λ whole image groups lays owner there was.
    let space : IsSpace c.args.page.now c.args.number = search rules in
    none_there image groups c.args.held.now c.args.file c.args.area c.args.number c.args.page.now c.args.found.now lays owner there (λ q own. space_there q c.args.page.now c.args.number space) was
