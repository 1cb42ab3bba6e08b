use Rattle.std.proofs.lemmas.Bool.{ne_eqb}
use Rattle.rdo_acts.proofs.RowFound.{none_beside, row_answer}
use Rattle.rdo_acts.proofs.AreasRead.{row_reads}
use Rattle.rdo_acts.proofs.Wanting.{line_lacked}
use Rattle.rdo_acts.proofs.scope.row_at.Goals as goal

pub returns-then-at-relation-clause-row : goal.returns-then-at-relation-clause-row
returns-then-at-relation-clause-row c = λ all table sorted agrees has. rw c.in-Some.is (none_beside c.args.relation.now c.in-Some.at all table has (ne_eqb _ _ c.if-at-relation.true))

pub returns-clause-row : goal.returns-clause-row
returns-clause-row c = λ all table sorted agrees has.
    rw c.in-Some.is
    (row_answer c.args.relation.now c.in-Some.at c.args.view.now all table agrees has c.if-at-relation.false c.row.result c.row.ensures.found c.row.ensures.absent c.row.ensures.missing c.row.ensures.bad)

pub returns-clause-areas : goal.returns-clause-areas
returns-clause-areas c = row_reads c.args.relation.now.area c.in-Some.at c.row.result c.if-at-relation.false c.row.ensures.missing

pub returns-clause-line : goal.returns-clause-line
returns-clause-line c = line_lacked c.args.key c.in-Some.at c.row.result c.in-Some.is c.row.ensures.missing
