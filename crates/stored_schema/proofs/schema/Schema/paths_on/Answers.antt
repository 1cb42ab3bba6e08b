use Rattle.std.proofs.Common.{rules, ◌≡◌, map, Some, sym, ap, ◌∙◌}
use Rattle.std.specs.FinMap.Entries.{find}
use Rattle.catalog.specs.Directory.{area_order, numbered}
use Rattle.stored_schema.specs.Indexes.{path_of, lines_in, indexes_in}
use Rattle.stored_schema.proofs.Gathered.{paths_of}
use Rattle.stored_schema.proofs.schema.Schema.paths_on.Goals as goal

pub returns-in-Some : goal.returns-in-Some
returns-in-Some c =
    let found : find area_order (numbered c.args.area) (indexes_in c.args.self.now.lines) ≡ Some c.in-Some.indexes.now = search rules in
    c.as_slice.ensures
    ∙ paths_of (numbered c.args.area) c.args.self.now.lines c.in-Some.indexes.now found
    ∙ ap (map path_of) (sym (ap lines_in found))
