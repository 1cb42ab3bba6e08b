use Rattle.std.proofs.Common.{◌≡◌, None, rules, subst}
use Rattle.std.proofs.lemmas.Result.{err_from_is_err_and}
use Rattle.catalog.specs.declared.reading.Catalog.{Catalog}
use Rattle.rdb_meaning.specs.Contents.{new_index_area}
use Rattle.rdb_meaning.specs.Defining.{with_index}
use Rattle.rdb_definitions.specs.NewIndex.{new_index}
use Rattle.catalog_definitions.specs.Causes.{StopsDefining}
use Rattle.catalog_definitions.specs.Written.{index_rooms, IsIndexWritten}
use Rattle.catalog_definitions.specs.Leaving.{Turns}
use Rattle.statement_view.specs.Over.{knows_over}
use Rattle.index_writes.specs.Definition.{definition_refusal}
use Rattle.index_writes.proofs.Defined.{index_stops, filling_stops, index_made, has_line, has_relation}
use Rattle.index_writes.proofs.Kept.{index_stops_kept, filling_kept, index_kept}
use Rattle.index_writes.proofs.definition.define_index.Goals as goal

pub returns-in-Err-clause-defines : goal.returns-in-Err-clause-defines
returns-in-Err-clause-defines c =
    let d = c.args.definition.now in
    let known = knows_over c.args.view.now in
    index_stops c.args.view.now c.args.view.now c.args.schema.now d c.in-Err.stop c.known_stop.result c.known_stop.ensures
    (subst (λ (k : Catalog). StopsDefining known (definition_refusal d k.tables) (index_rooms (new_index_area k.tables)) c.in-Err.stop) c.catalog.ensures c.in-Err.ensures.stop)

pub fill_from_rows-requires-clause-relation : goal.fill_from_rows-requires-clause-relation
fill_from_rows-requires-clause-relation c =
    let d = c.args.definition.now in
    has_relation c.args.schema.now d (subst (λ (k : Catalog). definition_refusal d k.tables ≡ None) c.catalog.ensures c.in-Ok.ensures.taken)

pub fill_from_rows-requires-clause-line : goal.fill_from_rows-requires-clause-line
fill_from_rows-requires-clause-line c =
    let d = c.args.definition.now in
    let known = knows_over c.args.view.now in
    has_line known c.args.schema.now d c.in-Ok.writes c.as_slice.result.now (search rules)
    (subst (λ (k : Catalog). IsIndexWritten known d.name (new_index d k.tables) c.in-Ok.writes) c.catalog.ensures c.in-Ok.ensures.line)

pub returns-in_err-fill_from_rows-clause-defines : goal.returns-in_err-fill_from_rows-clause-defines
returns-in_err-fill_from_rows-clause-defines c =
    let d = c.args.definition.now in
    let known = knows_over c.args.view.now in
    let p = err_from_is_err_and c.from_residual.result c.from_residual.ensures.1 in
    rw (p.1, p.2)
    (filling_stops c.args.view.now c.fill_from_rows.new.view c.args.schema.now d c.in-Ok.writes c.as_slice.result.now (search rules)
    (subst (λ (k : Catalog). definition_refusal d k.tables ≡ None) c.catalog.ensures c.in-Ok.ensures.taken)
    (subst (λ (k : Catalog). IsIndexWritten known d.name (new_index d k.tables) c.in-Ok.writes) c.catalog.ensures c.in-Ok.ensures.line)
    c.fill_from_rows.new.view c.in_err-fill_from_rows.field-0.0 c.in_err-fill_from_rows.ensures.fills)

pub returns-clause-defines : goal.returns-clause-defines
returns-clause-defines c =
    let d = c.args.definition.now in
    let known = knows_over c.args.view.now in
    index_made c.args.view.now c.fill_from_rows.new.view c.args.schema.now d c.in-Ok.writes c.as_slice.result.now (search rules)
    (subst (λ (k : Catalog). definition_refusal d k.tables ≡ None) c.catalog.ensures c.in-Ok.ensures.taken)
    (subst (λ (k : Catalog). IsIndexWritten known d.name (new_index d k.tables) c.in-Ok.writes) c.catalog.ensures c.in-Ok.ensures.line)
    c.put_all.new.view c.as_slice-2.result.now (search rules) c.in_ok-fill_from_rows.ensures.fills c.in_ok-put_all.ensures.stands c.in_ok-put_all.ensures.laid
    (subst (λ (k : Catalog). Turns known k (with_index d k.tables) c.in-Ok.writes) c.catalog.ensures c.in-Ok.ensures.tables)

pub returns-in-Err-clause-areas : goal.returns-in-Err-clause-areas
returns-in-Err-clause-areas c =
    let d = c.args.definition.now in
    let known = knows_over c.args.view.now in
    index_stops_kept c.args.view.now c.args.view.now c.args.schema.now d c.in-Err.stop c.known_stop.result c.known_stop.ensures
    (subst (λ (k : Catalog). StopsDefining known (definition_refusal d k.tables) (index_rooms (new_index_area k.tables)) c.in-Err.stop) c.catalog.ensures c.in-Err.ensures.stop)

pub returns-in_err-fill_from_rows-clause-areas : goal.returns-in_err-fill_from_rows-clause-areas
returns-in_err-fill_from_rows-clause-areas c =
    let d = c.args.definition.now in
    let known = knows_over c.args.view.now in
    let p = err_from_is_err_and c.from_residual.result c.from_residual.ensures.1 in
    rw (p.1, p.2)
    (filling_kept c.args.view.now c.fill_from_rows.new.view c.args.schema.now d c.in-Ok.writes c.as_slice.result.now (search rules)
    (subst (λ (k : Catalog). definition_refusal d k.tables ≡ None) c.catalog.ensures c.in-Ok.ensures.taken)
    (subst (λ (k : Catalog). IsIndexWritten known d.name (new_index d k.tables) c.in-Ok.writes) c.catalog.ensures c.in-Ok.ensures.line)
    c.fill_from_rows.new.view c.in_err-fill_from_rows.field-0.0 c.in_err-fill_from_rows.ensures.areas)

pub returns-clause-areas : goal.returns-clause-areas
returns-clause-areas c =
    let d = c.args.definition.now in
    let known = knows_over c.args.view.now in
    index_kept c.args.view.now c.fill_from_rows.new.view c.args.schema.now d c.in-Ok.writes c.as_slice.result.now (search rules)
    (subst (λ (k : Catalog). definition_refusal d k.tables ≡ None) c.catalog.ensures c.in-Ok.ensures.taken)
    (subst (λ (k : Catalog). IsIndexWritten known d.name (new_index d k.tables) c.in-Ok.writes) c.catalog.ensures c.in-Ok.ensures.line)
    c.put_all.new.view c.as_slice-2.result.now (search rules) c.in_ok-fill_from_rows.ensures.areas c.in_ok-put_all.ensures.areas
