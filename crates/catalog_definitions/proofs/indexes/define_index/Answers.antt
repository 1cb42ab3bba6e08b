use Rattle.std.proofs.Common.{ap, sym, subst, ◌∙◌}
use Rattle.std.specs.Prelude.{IfOk, IfErr}
use Rattle.rdb_meaning.specs.declared.tables.Index.{Index as IndexOf}
use Rattle.catalog_definitions.specs.Causes.{LacksRoom, StopsDefining}
use Rattle.rdb_types.specs.declared.keys.Dbkey.{Dbkey}
use Rattle.rdb_meaning.specs.Contents.{new_index_area}
use Rattle.rdb_meaning.specs.Checks.{or_else}
use Rattle.rdb_meaning.specs.Defining.{index_names, index_refusal, with_index}
use Rattle.rdb_definitions.specs.NewIndex.{new_index}
use Rattle.catalog_lines.specs.Lines.{IsAllowedLine}
use Rattle.catalog_definitions.specs.Written.{index_line, index_rooms, IsIndexWritten}
use Rattle.catalog_definitions.specs.Leaving.{Turns}
use Rattle.catalog_definitions.proofs.LaidLines.{if_ok, stops_writing, stops_refused}
use Rattle.catalog_definitions.proofs.KeyPlaces.{first_none}
use Rattle.catalog_definitions.proofs.NewIndexes.{sound, allowed_index, turns, index_is, index_found}
use Rattle.catalog_definitions.proofs.indexes.define_index.Goals as goal

pub returns-in-Err-clause-stop : goal.returns-in-Err-clause-stop
returns-in-Err-clause-stop g c =
    let known = g.V.View.knows c.args.view.now in
    let d = c.args.definition.now in
    let before = c.args.catalog.now in
    let t = c.in_ok-tables.tables in
    let rooms = index_rooms (new_index_area before.tables) in
    subst (λ u. StopsDefining known (or_else (index_names d u) (index_refusal d u)) rooms c.from_check.result) c.in_ok-tables.ensures
    (stops_refused (Unit {0}) known (or_else (index_names d t) (index_refusal d t)) rooms t c.add_index.new.tables (with_index d t) c.in-Err.stop c.from_check.result c.in-Err.ensures c.from_check.ensures)

pub index_named-index-requires : goal.index_named-index-requires
index_named-index-requires g c =
    index_found c.args.definition.now c.in_ok-tables.tables c.add_index.new.tables c.in-Ok.ensures.1

pub write_index-requires : goal.write_index-requires
write_index-requires g c =
    let d = c.args.definition.now in
    let before = c.args.catalog.now in
    let refusal = ap (λ t. or_else (index_names d t) (index_refusal d t)) (sym c.in_ok-tables.ensures) ∙ c.in-Ok.ensures.0 in
    let index = index_is d c.in_ok-tables.tables c.add_index.new.tables c.index_named-index.result.now c.in-Ok.ensures.1 c.index_named-index.ensures ∙ ap (new_index d) c.in_ok-tables.ensures in
    λ (root : Dbkey). subst (λ x. IsAllowedLine (index_line d.name x root)) (sym index) (allowed_index before d root c.requires.catalog (sound d before.tables (first_none (index_names d before.tables) (index_refusal d before.tables) refusal).0) c.requires.definition.name c.requires.definition.count)

pub returns-clause-stop : goal.returns-clause-stop
returns-clause-stop g c =
    let known = g.V.View.knows c.args.view.now in
    let d = c.args.definition.now in
    let before = c.args.catalog.now in
    let refusal = ap (λ t. or_else (index_names d t) (index_refusal d t)) (sym c.in_ok-tables.ensures) ∙ c.in-Ok.ensures.0 in
    let index = index_is d c.in_ok-tables.tables c.add_index.new.tables c.index_named-index.result.now c.in-Ok.ensures.1 c.index_named-index.ensures ∙ ap (new_index d) c.in_ok-tables.ensures in
    stops_writing known (or_else (index_names d before.tables) (index_refusal d before.tables)) (index_rooms (new_index_area before.tables)) c.write_index.result refusal
    (subst (λ (x : IndexOf). IfErr c.write_index.result (LacksRoom known (index_rooms x.area))) index c.write_index.ensures.stop)

pub returns-clause-line : goal.returns-clause-line
returns-clause-line g c =
    let known = g.V.View.knows c.args.view.now in
    let d = c.args.definition.now in
    let index = index_is d c.in_ok-tables.tables c.add_index.new.tables c.index_named-index.result.now c.in-Ok.ensures.1 c.index_named-index.ensures ∙ ap (new_index d) c.in_ok-tables.ensures in
    subst (λ (x : IndexOf). IfOk c.write_index.result (IsIndexWritten known d.name x)) index c.write_index.ensures.line

pub returns-clause-tables : goal.returns-clause-tables
returns-clause-tables g c =
    let known = g.V.View.knows c.args.view.now in
    let d = c.args.definition.now in
    let before = c.args.catalog.now in
    let refusal = ap (λ t. or_else (index_names d t) (index_refusal d t)) (sym c.in_ok-tables.ensures) ∙ c.in-Ok.ensures.0 in
    let index = index_is d c.in_ok-tables.tables c.add_index.new.tables c.index_named-index.result.now c.in-Ok.ensures.1 c.index_named-index.ensures ∙ ap (new_index d) c.in_ok-tables.ensures in
    if_ok (IsIndexWritten known d.name (new_index d before.tables)) (Turns known before (with_index d before.tables)) c.write_index.result
    (λ writes written. turns known before d writes written (sound d before.tables (first_none (index_names d before.tables) (index_refusal d before.tables) refusal).0))
    (subst (λ (x : IndexOf). IfOk c.write_index.result (IsIndexWritten known d.name x)) index c.write_index.ensures.line)
