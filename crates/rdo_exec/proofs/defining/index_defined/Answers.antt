use Rattle.std.proofs.Common.{◌≡◌, Some, None, refl, ap, subst, false, [], ◌∷◌}
use Rattle.rdo_ast.specs.Tree.{define_index, said}
use Rattle.rdb_meaning.specs.Checks.{or_else, use_of}
use Rattle.rdb_meaning.specs.Defining.{index_names}
use Rattle.line_view.specs.Held.{knows}
use Rattle.catalog.specs.declared.reading.Catalog.{Catalog}
use Rattle.catalog_definitions.proofs.KeyPlaces.{first_none}
use Rattle.statement_view.specs.Over.{Over}
use Rattle.index_writes.specs.Definition.{definition_refusal, IsNotIndexed}
use Rattle.rdb_meaning.specs.declared.tables.Tables.{Tables}
use Rattle.rdb_meaning.specs.Contents.{relation_named}
use Rattle.rdo_exec.specs.Left.{IsElsewhere}
use Rattle.rdo_exec.proofs.Answered.{unchecked_comes, finds_refused}
use Rattle.rdo_exec.proofs.Checked.{index_reserved, defining_index, index_barred}
use Rattle.rdo_exec.proofs.Definitions.{barred_definition, comes_of_definition, index_causes, strays}
use Rattle.rdo_exec.proofs.Asking.{index_defined_asks}
use Rattle.used_areas.specs.Areas.{areas_read}
use Rattle.rdo_exec.specs.Areas.{ReadsOf}
use Rattle.session_jobs.specs.declared.jobs.Found.TheVariants.{Unworked}
use Rattle.rdo_exec.specs.Left.{strange}
use Rattle.rdo_exec.proofs.Answered.{left}
use Rattle.rdo_exec.proofs.defining.index_defined.Goals as goal

pub returns-in-Err-clause-comes : goal.returns-in-Err-clause-comes
returns-in-Err-clause-comes c = λ word.
    let a = c.args in
    let d = c.args.definition.now in
    unchecked_comes word a.standing.now (said (define_index d)) (knows a.known.now) c.in-Err.stop c.unchecked.result c.unchecked.ensures
    (λ reply is. barred_definition word a.standing.now (define_index d) a.schema.now (knows a.known.now) c.requires.catalog tt reply
    (index_barred word a.schema.now d a.standing.now reply c.requires.writing
    (subst (λ (k : Catalog). or_else (index_names d k.tables) (index_reserved d a.standing.now) ≡ Some reply) c.catalog-catalog.ensures
    (finds_refused c.in-Err.stop (or_else (index_names d c.catalog-catalog.result.now.tables) (index_reserved d a.standing.now)) reply c.in-Err.ensures is))))

pub returns-clause-comes : goal.returns-clause-comes
returns-clause-comes c = λ word.
    let a = c.args in
    let d = c.args.definition.now in
    let reserved = (first_none (index_names d c.catalog-catalog.result.now.tables) (index_reserved d a.standing.now) c.in-Ok.ensures).1 in
    comes_of_definition word a.standing.now (define_index d) a.schema.now (knows a.known.now) c.requires.catalog tt
    (definition_refusal d) c.new-view.result c.define_index-end.new.view (ap (λ (o : Over). knows o.base) c.new-view.ensures.value) (ap (λ (o : Over). o.lines) c.new-view.ensures.value) c.new-view.ensures.stands
    (λ all t sound. defining_index word d a.standing.now t c.requires.writing reserved)
    (λ (t : Tables). definition_refusal d a.schema.now.tables ≡ None) (λ all t. IsNotIndexed c.new-view.result.base all a.schema.now d t) (λ all t reply h. h)
    (index_causes word a.standing.now a.schema.now (knows a.known.now) c.requires.catalog d c.new-view.result.base (ap (λ (o : Over). knows o.base) c.new-view.ensures.value))
    c.define_index-end.result c.written.result c.written.ensures c.define_index-end.ensures.defines

pub returns-clause-asked : goal.returns-clause-asked
returns-clause-asked c =
    let a = c.args in
    let d = c.args.definition.now in
    index_defined_asks a.standing.now a.schema.now (knows a.known.now) c.requires.catalog c.new-view.result c.define_index-end.new.view (ap (λ (o : Over). o.lines) c.new-view.ensures.value) c.new-view.ensures.stands
    d c.requires.writing c.define_index-end.result c.written.result c.written.ensures
    (subst (λ (k : Catalog). ReadsOf (areas_read k.tables (use_of false d.relation ∷ [])) c.define_index-end.result) c.catalog-catalog.ensures (c.lacks_others.ensures.no c.if-lacks_others.false))
    c.define_index-end.ensures.areas

pub returns-then-not-is_index_definition-clause-comes : goal.returns-then-not-is_index_definition-clause-comes
returns-then-not-is_index_definition-clause-comes c = λ word.
    let a = c.args in
    left word a.standing.now (said (define_index a.definition.now)) (knows a.known.now) Unworked refl (λ all t sound agrees. strange (define_index a.definition.now) refl (c.is_index_definition.ensures.no c.if-not-is_index_definition.true))

pub returns-then-lacks_others-clause-comes : goal.returns-then-lacks_others-clause-comes
returns-then-lacks_others-clause-comes c = λ word.
    let a = c.args in
    let d = a.definition.now in
    let lacked = c.lacks_others.ensures.yes c.if-lacks_others.true in
    left word a.standing.now (said (define_index d)) (knows a.known.now) Unworked refl
    (strays word a.standing.now a.schema.now (knows a.known.now) c.requires.catalog d c.new-view.result c.define_index-end.new.view (ap (λ (o : Over). knows o.base) c.new-view.ensures.value) (ap (λ (o : Over). o.lines) c.new-view.ensures.value) c.new-view.ensures.stands
    c.define_index-end.result lacked.0 lacked.1 (subst (λ (k : Catalog). IsElsewhere (relation_named d.relation k.tables) lacked.0) c.catalog-catalog.ensures lacked.2) c.define_index-end.ensures.defines)
