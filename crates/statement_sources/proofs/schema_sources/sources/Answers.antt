use Rattle.std.proofs.Common.{◌≡◌, ◌+◌, true, drop, List, [], ◌∷◌, sym, ap, subst, ◌∙◌, arith}
use Rattle.std.proofs.lemmas.List.{drop_more, drop_all}
use Rattle.std.specs.FinMap.Entries.{is_sorted}
use Rattle.rdo_ast.specs.Tree.{Name}
use Rattle.rdb_types.specs.Order.{chars_order}
use Rattle.rdb_meaning.specs.declared.tables.Relation.{Relation as Rows}
use Rattle.catalog.specs.declared.reading.Catalog.{Catalog}
use Rattle.statement_sources.proofs.SourcesRead.{AreRead, start_read, item_named, next_read, all_read, all_indexed, are_sources, of_tables}
use Rattle.statement_sources.proofs.schema_sources.sources.Goals as goal

pub loop-name-init : goal.loop-name-init
loop-name-init c =
    start_read c.args.schema.now c.as_slice-name-items.result.now c.new-sources.result.entries (c.as_slice-name-items.ensures.value ∙ ap (λ (d : Catalog). d.tables.relations) c.catalog.ensures) c.new-sources.ensures.empty

pub unreachable-requires : goal.unreachable-requires
unreachable-requires c =
    let items : List (Name × Rows) = c.as_slice-name-items.result.now in
    let are : items ≡ c.args.schema.now.tables.relations = c.as_slice-name-items.ensures.value ∙ ap (λ (d : Catalog). d.tables.relations) c.catalog.ensures in
    let ordered : is_sorted chars_order items ≡ true = subst (λ (l : List (Name × Rows)). is_sorted chars_order l ≡ true) (sym c.as_slice-name-items.ensures.value) c.as_slice-name-items.ensures.ordered in
    let i = c.loop-name.name-index in
    let b : Name × Rows = c.loop-name-item.result in
    let next : drop i items ≡ b ∷ drop (i + 1) items = drop_more items i b c.loop-name-test.true ∙ ap (λ x. x ∷ drop (i + 1) items) (sym c.loop-name-item.is) in
    c.in_default.ensures.stored b.1 (item_named c.args.schema.now items (drop (i + 1) items) i b are ordered next)

pub loop-name-preserved : goal.loop-name-preserved
loop-name-preserved c =
    let items : List (Name × Rows) = c.as_slice-name-items.result.now in
    let are : items ≡ c.args.schema.now.tables.relations = c.as_slice-name-items.ensures.value ∙ ap (λ (d : Catalog). d.tables.relations) c.catalog.ensures in
    let ordered : is_sorted chars_order items ≡ true = subst (λ (l : List (Name × Rows)). is_sorted chars_order l ≡ true) (sym c.as_slice-name-items.ensures.value) c.as_slice-name-items.ensures.ordered in
    let i = c.loop-name.name-index in
    let b : Name × Rows = c.loop-name-item.result in
    let next : drop i items ≡ b ∷ drop (i + 1) items = drop_more items i b c.loop-name-test.true ∙ ap (λ x. x ∷ drop (i + 1) items) (sym c.loop-name-item.is) in
    let named = item_named c.args.schema.now items (drop (i + 1) items) i b are ordered next in
    next_read c.args.schema.now items (drop (i + 1) items) i b c.loop-name.sources.entries c.insert.new.self.entries (record { relation = c.in-Some.target.stored; indexes = c.paths_on.result })
    are ordered next (c.in-Some.ensures.stored b.1 named) c.paths_on.ensures c.in-Ok.ensures.entries c.loop-name.invariant

pub returns-clause-present : goal.returns-clause-present
returns-clause-present c =
    let end : drop c.loop-name.name-index c.as_slice-name-items.result.now ≡ [] = drop_all c.loop-name.name-index c.as_slice-name-items.result.now (omega arith) in
    all_read c.args.schema.now c.loop-name.sources.entries (subst (λ (l : List (Name × Rows)). AreRead c.args.schema.now l c.loop-name.sources.entries) end c.loop-name.invariant)

pub returns-clause-tables : goal.returns-clause-tables
returns-clause-tables c = λ all t sound.
    let end : drop c.loop-name.name-index c.as_slice-name-items.result.now ≡ [] = drop_all c.loop-name.name-index c.as_slice-name-items.result.now (omega arith) in
    are_sources all c.args.schema.now t sound c.loop-name.sources.entries (subst (λ (l : List (Name × Rows)). AreRead c.args.schema.now l c.loop-name.sources.entries) end c.loop-name.invariant)

pub returns-clause-only : goal.returns-clause-only
returns-clause-only c = λ all t sound.
    let end : drop c.loop-name.name-index c.as_slice-name-items.result.now ≡ [] = drop_all c.loop-name.name-index c.as_slice-name-items.result.now (omega arith) in
    of_tables all c.args.schema.now t sound c.loop-name.sources.entries (subst (λ (l : List (Name × Rows)). AreRead c.args.schema.now l c.loop-name.sources.entries) end c.loop-name.invariant)

pub returns-clause-indexed : goal.returns-clause-indexed
returns-clause-indexed c =
    let end : drop c.loop-name.name-index c.as_slice-name-items.result.now ≡ [] = drop_all c.loop-name.name-index c.as_slice-name-items.result.now (omega arith) in
    all_indexed c.args.schema.now c.loop-name.sources.entries (subst (λ (l : List (Name × Rows)). AreRead c.args.schema.now l c.loop-name.sources.entries) end c.loop-name.invariant)
