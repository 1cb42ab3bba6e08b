use Rattle.std.proofs.Common.{rules, refl, sym, map}
use Rattle.line_view.specs.Knowledge.{lines_in}
use Rattle.relation_rows.specs.declared.stored.StoredRelation.{StoredRelation}
use Rattle.relation_rows.specs.Relations.{stored_row}
use Rattle.sound_lines.specs.Contents.{stored}
use Rattle.sound_lines.proofs.RowsRead.{rows_alike, stops_alike}
use Rattle.sound_lines.proofs.rows.read_relation.Goals as goal

pub returns-in_err-rows-clause-stop : goal.returns-in_err-rows-clause-stop
returns-in_err-rows-clause-stop g c =
    let read : StoredRelation = record { area = c.args.relation.now.area; version = c.args.version; fields = c.as_slice.result } in
    let why = stops_alike (g.V.View.knows c.args.view.now) read (stored c.args.version c.args.relation.now) c.in_err-rows.field-0.0 refl refl c.as_slice.ensures c.in_err-rows.ensures.stop in
    search (rules, why)

pub returns-clause-rows : goal.returns-clause-rows
returns-clause-rows g c = λ all sorted agrees.
    let read : StoredRelation = record { area = c.args.relation.now.area; version = c.args.version; fields = c.as_slice.result } in
    record {
      area = refl;
      fields = sym c.in_ok-fields.ensures;
      rows = rows_alike read (stored c.args.version c.args.relation.now) (lines_in c.args.relation.now.area all) (map stored_row c.in_ok-rows.rows) refl c.as_slice.ensures (c.in_ok-rows.ensures.rows all sorted agrees);
    }
