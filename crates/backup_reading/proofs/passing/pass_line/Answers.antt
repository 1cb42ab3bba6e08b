use Rattle.std.proofs.Common.{◌≡◌, ◌∙◌, sym}
use Rattle.backup_reading.specs.declared.passing.Passage.TheVariants.{SamePage, OtherPage, NotBehind}
use Rattle.backup_reading.proofs.Lines.{same_page_passed, new_page_passed, has_its_page, follows_last, page_is_new}
use Rattle.backup_reading.proofs.passing.pass_line.Goals as goal

pub returns-in_default-clause-refused : goal.returns-in_default-clause-refused
returns-in_default-clause-refused c = λ it lines others was go fit. c.in_default.ensures.none (has_its_page c.args.pages lines c.args.line.now c.args.passed.now was others go fit)

pub returns-in-NotBehind-clause-refused : goal.returns-in-NotBehind-clause-refused
returns-in-NotBehind-clause-refused c = λ it lines others was go fit. follows_last c.args.pages lines c.args.line.now c.args.passed.now was others go fit (c.passage_of.ensures.refused c.in-NotBehind.is)

pub returns-in-SamePage-clause-goes : goal.returns-in-SamePage-clause-goes
returns-in-SamePage-clause-goes c = λ it lines was.
    let is : c.passage_of.result ≡ SamePage = c.in-SamePage.is in
    same_page_passed c.args.pages lines c.args.line.now c.args.passed.now was c.note.new.passed c.in-Some.page c.in-Some.ensures.fits c.in-Some.ensures.found
    (c.passage_of.ensures.behind (λ bad. let no_such : SamePage ≡ NotBehind = sym is ∙ bad in cc)) c.note.ensures.last c.note.ensures.greatest c.note.ensures.pages (c.passage_of.ensures.same is)

pub returns-in-New-clause-goes : goal.returns-in-New-clause-goes
returns-in-New-clause-goes c = λ it lines was.
    let is : c.passage_of.result ≡ OtherPage = c.in-OtherPage.is in
    let same = c.note-in-New.ensures.pages in
    new_page_passed c.args.pages lines c.args.line.now c.args.passed.now was c.note-in-New.new.passed c.in-Some.page c.in-Some.ensures.fits c.in-Some.ensures.found
    (c.passage_of.ensures.behind (λ bad. let no_such : OtherPage ≡ NotBehind = sym is ∙ bad in cc)) c.note-in-New.ensures.last c.note-in-New.ensures.greatest c.add_page.new.pages same (c.add_page.ensures.added c.in-New.is) (c.add_page.ensures.kept c.in-New.is) (c.add_page.ensures.only c.in-New.is) (c.add_page.ensures.fresh c.in-New.is)

pub returns-in-Known-clause-refused : goal.returns-in-Known-clause-refused
returns-in-Known-clause-refused c = λ it lines others was go fit.
    page_is_new c.args.pages lines c.args.line.now c.args.passed.now was others go fit c.in-Some.page c.in-Some.ensures.found (c.add_page.ensures.known c.in-Known.is) (c.passage_of.ensures.other c.in-OtherPage.is)
