use Rattle.std.proofs.Common.{◌∙◌, arith}
use Rattle.slot_fields.proofs.Laws.{number_before}
use Rattle.rdb_page.specs.Page.{class_at}
use Rattle.rdb_page.specs.Lines.{line_place}
use Rattle.format_cases.proofs.pages.put.Goals as goal

pub returns : goal.returns
returns c =
    number_before 2 12 (line_place (class_at c.args.page.now) c.args.number) c.args.page.now c.put_line.new.page (omega arith) c.put_line.ensures.before ∙ c.requires.class
