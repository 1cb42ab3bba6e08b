use Rattle.std.proofs.Common.{sym, ap}
use Rattle.rdb_types.specs.declared.keys.Line.{Line}
use Rattle.rdb_page.specs.Page.{class_at}
use Rattle.database_opening.proofs.of_line_moves.Reading.{said_is}
use Rattle.page_table.proofs.reading.state_at.Goals as goal

pub returns-clause-found : goal.returns-clause-found
returns-clause-found c = ap (λ (l : Line). l.state) (sym (said_is c.args.page.now (class_at c.args.page.now) c.args.line c.in_ok-value.value c.in_ok-value.ensures.found))
