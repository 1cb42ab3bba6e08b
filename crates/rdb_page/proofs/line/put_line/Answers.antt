use Rattle.rdb_page.specs.Page.{class_at}
use Rattle.rdb_page.specs.Lines.{IsLine}
use Rattle.rdb_page.proofs.Places.{other_line}
use Rattle.rdb_page.proofs.Staying.{class_stays, head_stays, rest_stays, whole_stays}
use Rattle.rdb_page.proofs.line.put_line.Goals as goal

pub returns-clause-others : goal.returns-clause-others
returns-clause-others c =
    let before = rw c.u16_at-class.ensures at c.lay_line.ensures.before in
    let behind = rw c.u16_at-class.ensures at c.lay_line.ensures.behind in
    λ j other apart was. other_line c.args.page.now c.lay_line.new.page (class_at c.args.page.now) c.args.line j other apart before behind was

pub returns-clause-class : goal.returns-clause-class
returns-clause-class c =
    let before = rw c.u16_at-class.ensures at c.lay_line.ensures.before in
    let behind = rw c.u16_at-class.ensures at c.lay_line.ensures.behind in
    class_stays c.args.page.now c.lay_line.new.page c.args.line c.requires.class c.requires.line before behind

pub returns-clause-head : goal.returns-clause-head
returns-clause-head c =
    let before = rw c.u16_at-class.ensures at c.lay_line.ensures.before in
    let behind = rw c.u16_at-class.ensures at c.lay_line.ensures.behind in
    head_stays c.args.page.now c.lay_line.new.page c.args.line c.requires.class c.requires.line before behind

pub returns-clause-rest : goal.returns-clause-rest
returns-clause-rest c =
    let before = rw c.u16_at-class.ensures at c.lay_line.ensures.before in
    let behind = rw c.u16_at-class.ensures at c.lay_line.ensures.behind in
    rest_stays c.args.page.now c.lay_line.new.page c.args.line c.requires.class c.requires.line before behind

pub returns-clause-whole : goal.returns-clause-whole
returns-clause-whole c =
    let before = rw c.u16_at-class.ensures at c.lay_line.ensures.before in
    let behind = rw c.u16_at-class.ensures at c.lay_line.ensures.behind in
    let here : IsLine c.lay_line.new.page (class_at c.args.page.now) c.args.line c.args.value.now = record { fields = rw c.u16_at-class.ensures at c.lay_line.ensures.here; allowed = c.requires.allowed } in
    whole_stays c.args.page.now c.lay_line.new.page c.args.line c.requires.class c.requires.line before behind c.args.value.now here
    (λ j other apart was. other_line c.args.page.now c.lay_line.new.page (class_at c.args.page.now) c.args.line j other apart before behind was)
