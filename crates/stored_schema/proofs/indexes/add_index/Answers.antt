use Rattle.std.proofs.Common.{rules, ◌≡◌, sym, ap, ◌∙◌}
use Rattle.std.specs.FinMap.Entries.{find}
use Rattle.catalog.specs.Directory.{area_order, numbered}
use Rattle.stored_schema.specs.Indexes.{own_of}
use Rattle.stored_schema.proofs.Gathered.{index_added, on_ok}
use Rattle.stored_schema.proofs.indexes.add_index.Goals as goal
use Rattle.stored_schema.proofs.indexes.add_index.Goals.{in-Some, in-None}

pub returns : goal.returns
returns c =
    let x = c.in-Index.index in
    let own : c.match-remove.own ≡ own_of (find area_order (numbered x.relation) c.args.held.now) =
    elim c.match-remove.branch [ in-Some w ↦ search rules | in-None w ↦ search rules ] in
    on_ok c.put-2.result _ _
    (index_added c.args.line.now x c.in_ok-copied_index.field-0 c.match-remove.own c.put.new.self c.args.held.now c.remove.new.self c.put-2.new.self
    (search rules) own c.remove.ensures.removed c.in_ok-copied_index.ensures c.in_ok-put.ensures.ok)
    c.put-2.ensures.ok
