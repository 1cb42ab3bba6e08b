use Rattle.std.proofs.Common.{rules, ◌≡◌, Err, IfErr, sym, ap, subst, ◌∙◌}
use Rattle.line_view.specs.Knowledge.{Lines, Agrees}
use Rattle.sound_lines.specs.Contents.{versions_in}
use Rattle.sound_lines.specs.Reading.{StopsRelations, StopsTables}
use Rattle.sound_lines.specs.Reading.StopsTables.{in_rows}
use Rattle.sound_lines.proofs.tables.read_tables.Goals as goal

pub returns-in_err-relations-clause-stop : goal.returns-in_err-relations-clause-stop
returns-in_err-relations-clause-stop g c =
    let known = g.V.View.knows c.args.view.now in
    let stop = c.in_err-relations.field-0.0 in
    let stops = subst (λ v. StopsRelations known v c.in_ok-lines.field-0.tables.relations stop) (c.in_ok-versions.ensures ∙ ap versions_in c.as_slice.ensures) c.in_err-relations.ensures.stop in
    let why : (all : Lines) → Agrees known all → StopsTables known all stop = λ all agrees. in_rows c.in_ok-lines.field-0 (c.in_ok-lines.ensures.catalog all agrees) stops in
    let is : c.from_residual-in_err-relations.result ≡ Err stop = search rules in
    subst (λ r. IfErr r (λ stop. (all : Lines) → Agrees known all → StopsTables known all stop)) (sym is) why
