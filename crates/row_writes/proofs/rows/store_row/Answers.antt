use Rattle.std.proofs.lemmas.Result.{err_from_is_err_and}
use Rattle.std.proofs.Common.{rules, [], ◌∷◌, Some, Ok, Err, refl, sym, ap, subst, ◌∙◌}
use Rattle.statement_view.specs.Over.{Over}
use Rattle.statement_view.specs.Areas.{WritesOf}
use Rattle.row_writes.specs.Rows.{TellsNoRoom}
use Rattle.row_writes.proofs.Lines.{Laid, no_image_stored, no_room, row_stored, storing_stops}
use Rattle.row_writes.proofs.Trees.{Stays}
use Rattle.row_writes.proofs.RowKept.{store_keeps, store_stops, no_room_keeps, store_areas}
use Rattle.row_writes.proofs.rows.store_row.Goals as goal

pub returns-in-Err-clause-stores : goal.returns-in-Err-clause-stores
returns-in-Err-clause-stores c = no_image_stored c.args.view.now c.args.view.now c.args.relation.now c.args.row.now c.in-Err.reason c.in-Err.ensures.misfit c.in-Err.ensures.long

pub returns-in_default-clause-stores : goal.returns-in_default-clause-stores
returns-in_default-clause-stores c =
    no_room c.args.view.now c.first_room.new.self c.args.relation.now c.args.row.now c.args.relation.now.class c.no_room.result refl
    (subst (λ (o : Over). TellsNoRoom o.base c.args.relation.now.stored.area c.args.relation.now.class c.no_room.result) c.first_room.ensures.view c.no_room.ensures)

pub returns-in_err-change_pairs-clause-stores : goal.returns-in_err-change_pairs-clause-stores
returns-in_err-change_pairs-clause-stores c =
    let p = err_from_is_err_and c.from_residual-in_err-change_pairs.result c.from_residual-in_err-change_pairs.ensures.1 in
    rw (p.1, p.2) (storing_stops c.args.view.now c.put.new.self c.change_pairs.new.view c.args.relation.now c.args.row.now c.in-Ok.image c.in-Ok.ensures.image c.in-Ok.ensures.fits c.in-Ok.ensures.short
    c.in-Some.at (subst (λ (o : Over). Stays o c.put.new.self) c.first_room.ensures.view c.in_ok-put.ensures.stands) (subst (λ (o : Over). Laid o c.put.new.self c.in-Some.at (Some c.in-Ok.image)) c.first_room.ensures.view c.in_ok-put.ensures.laid)
    (c.put.ensures.known ∙ ap (λ (o : Over). o.base) c.first_room.ensures.view) c.in_err-change_pairs.field-0.0 (sym (search rules)) c.in_err-change_pairs.ensures.changes)

pub returns-clause-stores : goal.returns-clause-stores
returns-clause-stores c =
    row_stored c.args.view.now c.put.new.self c.change_pairs.new.view c.args.relation.now c.args.row.now c.in-Ok.image c.in-Ok.ensures.image c.in-Ok.ensures.fits c.in-Ok.ensures.short
    c.in-Some.at (subst (λ (o : Over). Stays o c.put.new.self) c.first_room.ensures.view c.in_ok-put.ensures.stands) (subst (λ (o : Over). Laid o c.put.new.self c.in-Some.at (Some c.in-Ok.image)) c.first_room.ensures.view c.in_ok-put.ensures.laid)
    (c.put.ensures.known ∙ ap (λ (o : Over). o.base) c.first_room.ensures.view) (sym (search rules)) c.in_ok-change_pairs.ensures.changes

pub returns-in_default-clause-areas : goal.returns-in_default-clause-areas
returns-in_default-clause-areas c =
    store_areas c.args.view.now c.first_room.new.self c.args.relation.now (Err c.no_room.result)
    (no_room_keeps c.args.view.now c.first_room.new.self c.args.relation.now c.first_room.new.self.base c.args.relation.now.class c.no_room.result c.no_room.ensures)

pub returns-in_err-change_pairs-clause-areas : goal.returns-in_err-change_pairs-clause-areas
returns-in_err-change_pairs-clause-areas c =
    let p = err_from_is_err_and c.from_residual-in_err-change_pairs.result c.from_residual-in_err-change_pairs.ensures.1 in
    rw (p.1, p.2) (store_areas c.args.view.now c.change_pairs.new.view c.args.relation.now (Err c.in_err-change_pairs.field-0.0) (store_stops c.args.view.now c.put.new.self c.change_pairs.new.view c.args.relation.now c.args.row.now c.in-Ok.image c.in-Ok.ensures.image c.in-Ok.ensures.fits c.in-Ok.ensures.short
    c.in-Some.at (subst (λ (o : Over). Stays o c.put.new.self) c.first_room.ensures.view c.in_ok-put.ensures.stands) (subst (λ (o : Over). Laid o c.put.new.self c.in-Some.at (Some c.in-Ok.image)) c.first_room.ensures.view c.in_ok-put.ensures.laid)
    (c.put.ensures.known ∙ ap (λ (o : Over). o.base) c.first_room.ensures.view) (subst (λ (o : Over). WritesOf (c.in-Some.at.area ∷ []) o c.put.new.self) c.first_room.ensures.view c.in_ok-put.ensures.areas)
    (sym (search rules)) c.in_err-change_pairs.field-0.0 c.in_err-change_pairs.ensures.nodes))

pub returns-clause-areas : goal.returns-clause-areas
returns-clause-areas c =
    store_areas c.args.view.now c.change_pairs.new.view c.args.relation.now (Ok c.in-Some.at)
    (store_keeps c.args.view.now c.put.new.self c.change_pairs.new.view c.args.relation.now c.args.row.now c.in-Ok.image c.in-Ok.ensures.image c.in-Ok.ensures.fits c.in-Ok.ensures.short
    c.in-Some.at (subst (λ (o : Over). Stays o c.put.new.self) c.first_room.ensures.view c.in_ok-put.ensures.stands) (subst (λ (o : Over). Laid o c.put.new.self c.in-Some.at (Some c.in-Ok.image)) c.first_room.ensures.view c.in_ok-put.ensures.laid)
    (c.put.ensures.known ∙ ap (λ (o : Over). o.base) c.first_room.ensures.view) (subst (λ (o : Over). WritesOf (c.in-Some.at.area ∷ []) o c.put.new.self) c.first_room.ensures.view c.in_ok-put.ensures.areas)
    (sym (search rules)) c.in_ok-change_pairs.ensures.nodes)

pub returns-in_default-clause-nodes : goal.returns-in_default-clause-nodes
returns-in_default-clause-nodes c = no_room_keeps c.args.view.now c.first_room.new.self c.args.relation.now c.first_room.new.self.base c.args.relation.now.class c.no_room.result c.no_room.ensures

pub returns-in_err-change_pairs-clause-nodes : goal.returns-in_err-change_pairs-clause-nodes
returns-in_err-change_pairs-clause-nodes c =
    let p = err_from_is_err_and c.from_residual-in_err-change_pairs.result c.from_residual-in_err-change_pairs.ensures.1 in
    rw (p.1, p.2) (store_stops c.args.view.now c.put.new.self c.change_pairs.new.view c.args.relation.now c.args.row.now c.in-Ok.image c.in-Ok.ensures.image c.in-Ok.ensures.fits c.in-Ok.ensures.short
    c.in-Some.at (subst (λ (o : Over). Stays o c.put.new.self) c.first_room.ensures.view c.in_ok-put.ensures.stands) (subst (λ (o : Over). Laid o c.put.new.self c.in-Some.at (Some c.in-Ok.image)) c.first_room.ensures.view c.in_ok-put.ensures.laid)
    (c.put.ensures.known ∙ ap (λ (o : Over). o.base) c.first_room.ensures.view) (subst (λ (o : Over). WritesOf (c.in-Some.at.area ∷ []) o c.put.new.self) c.first_room.ensures.view c.in_ok-put.ensures.areas)
    (sym (search rules)) c.in_err-change_pairs.field-0.0 c.in_err-change_pairs.ensures.nodes)

pub returns-clause-nodes : goal.returns-clause-nodes
returns-clause-nodes c =
    store_keeps c.args.view.now c.put.new.self c.change_pairs.new.view c.args.relation.now c.args.row.now c.in-Ok.image c.in-Ok.ensures.image c.in-Ok.ensures.fits c.in-Ok.ensures.short
    c.in-Some.at (subst (λ (o : Over). Stays o c.put.new.self) c.first_room.ensures.view c.in_ok-put.ensures.stands) (subst (λ (o : Over). Laid o c.put.new.self c.in-Some.at (Some c.in-Ok.image)) c.first_room.ensures.view c.in_ok-put.ensures.laid)
    (c.put.ensures.known ∙ ap (λ (o : Over). o.base) c.first_room.ensures.view) (subst (λ (o : Over). WritesOf (c.in-Some.at.area ∷ []) o c.put.new.self) c.first_room.ensures.view c.in_ok-put.ensures.areas)
    (sym (search rules)) c.in_ok-change_pairs.ensures.nodes
