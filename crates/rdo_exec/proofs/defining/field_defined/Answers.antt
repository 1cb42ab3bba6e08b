use Rattle.std.proofs.Common.{ap, refl}
use Rattle.rdo_ast.specs.Tree.{define_field, said}
use Rattle.rdb_meaning.specs.Defining.{field_names}
use Rattle.line_view.specs.Held.{knows}
use Rattle.statement_view.specs.Over.{Over}
use Rattle.rdo_exec.proofs.Checked.{writing_field}
use Rattle.rdo_exec.proofs.Definitions.{comes_of_defines}
use Rattle.rdo_exec.proofs.Asking.{defined_asks}
use Rattle.session_jobs.specs.declared.jobs.Found.TheVariants.{Unworked}
use Rattle.rdo_exec.specs.Left.{strange}
use Rattle.rdo_exec.proofs.Answered.{left}
use Rattle.rdo_exec.proofs.defining.field_defined.Goals as goal

pub returns-clause-comes : goal.returns-clause-comes
returns-clause-comes c = λ word.
    let a = c.args in
    comes_of_defines word a.standing.now (define_field a.name.now a.kind.now) a.catalog.now (knows a.known.now) c.requires.catalog tt
    (field_names a.name.now) c.new-view.result c.define_field-end.new.view (ap (λ (o : Over). knows o.base) c.new-view.ensures.value) (ap (λ (o : Over). o.lines) c.new-view.ensures.value) c.new-view.ensures.stands
    (λ all t sound. writing_field word a.name.now a.kind.now a.standing.now t c.requires.writing)
    c.define_field-end.result c.written.result c.written.ensures c.define_field-end.ensures.defines

pub returns-clause-asked : goal.returns-clause-asked
returns-clause-asked c =
    let a = c.args in
    defined_asks a.standing.now a.catalog.now (knows a.known.now) c.requires.catalog c.new-view.result c.define_field-end.new.view (ap (λ (o : Over). o.lines) c.new-view.ensures.value) c.new-view.ensures.stands
    (define_field a.name.now a.kind.now) c.requires.writing refl (λ t lock. refl) c.define_field-end.result c.written.result c.written.ensures c.define_field-end.ensures.areas

pub returns-then-not-is_field_definition-clause-comes : goal.returns-then-not-is_field_definition-clause-comes
returns-then-not-is_field_definition-clause-comes c = λ word.
    let a = c.args in
    left word a.standing.now (said (define_field a.name.now a.kind.now)) (knows a.known.now) Unworked refl (λ all t sound agrees. strange (define_field a.name.now a.kind.now) refl (c.is_field_definition.ensures.no c.if-not-is_field_definition.true))
