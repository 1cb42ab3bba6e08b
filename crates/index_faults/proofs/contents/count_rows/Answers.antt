use Rattle.std.proofs.Common.{◌≡◌, [], List, ◌++◌, map, true, false, IsTrue, sym, ap, ◌∙◌}
use Rattle.rdb_types.specs.declared.keys.Dbkey.{Dbkey}
use Rattle.line_view.specs.Knowledge.{lines_in}
use Rattle.relation_rows.specs.Relations.{stored_row}
use Rattle.index_faults.proofs.Rows.{no_faults, known_count}
use Rattle.index_faults.proofs.contents.count_rows.Goals as goal

pub returns-then-not-is_empty-clause-none : goal.returns-then-not-is_empty-clause-none
returns-then-not-is_empty-clause-none g c = λ all sorted agrees rows has.
    let r = c.args.relation.now in
    let found = c.in_ok-row_faults.ensures all sorted agrees in
    let none : found.0 ≡ [] = no_faults r (lines_in r.area all) (map stored_row rows) found.0 has found.2 in
    let empty : c.row_faults.new.faults ≡ [] = found.1 ∙ ap (λ (ks : List Dbkey). ks ++ found.0) c.new-faults.ensures ∙ none in
    let told : IsTrue c.is_empty.result = c.is_empty.ensures.1 empty in
    let bad : true ≡ false = sym told ∙ c.if-not-is_empty.true in
    let no : ⊥ = cc in no

pub returns-clause-some : goal.returns-clause-some
returns-clause-some g c = λ all sorted agrees rows has.
    let known = g.V.View.knows c.args.view.now in
    c.len.ensures.len ∙ known_count known c.args.relation.now all rows c.in-Some.keys.now.keys agrees (sym c.in-Some.ensures) has
