use Rattle.std.proofs.Common.{◌≡◌, ◌+◌, ◌++◌, ◌∷◌, [], ℕ, List, Err, Result, take, map, length, sym, ap, subst, ◌∙◌}
use Rattle.std.specs.List.{AllByRecursion}
use Rattle.std.proofs.lemmas.List.{map_more, take_all}
use Rattle.std.proofs.lemmas.Result.{err_from_is_err_and}
use Rattle.rdo_ast.specs.Tree.{Name}
use Rattle.rdb_meaning.specs.declared.tables.Relation.{Relation}
use Rattle.rdb_outside.specs.Runs.{then_reads}
use Rattle.line_opening.specs.declared.fault.OpeningFault.{OpeningFault}
use Rattle.line_view.specs.Knowledge.{Lines, lines_in}
use Rattle.catalog_lines.specs.Lines.{IsRelationArea}
use Rattle.rmu_texts.specs.declared.dump.Counted.{Counted}
use Rattle.areas_at_rest.specs.Runs.{IsQuiet}
use Rattle.areas_at_rest.proofs.Quiet.{then as behind_reads, stopped, want, at_rest}
use Rattle.areas_at_rest.proofs.Defined.{relation_owner, all_at}
use Rattle.database_dump.specs.Dumped.{counted, relations_counted}
use Rattle.database_dump.proofs.counts.count_relations.Goals as goal

pub returns-in_err-lines-clause-quiet : goal.returns-in_err-lines-clause-quiet
returns-in_err-lines-clause-quiet g c =
    let v = g.D.Disk.view in
    let p = err_from_is_err_and c.from_residual.result c.from_residual.ensures.1 in
    rw (p.1, p.2) (behind_reads (v c.args.disk.now) (v c.loop-name.disk) (v c.count_lines.new.disk) (Err c.in_err-lines.field-0.0) c.loop-name.invariant.reads
    (stopped (v c.loop-name.disk) (v c.count_lines.new.disk) c.in_err-lines.field-0.0 (subst (λ (r : Result ℕ OpeningFault). IsQuiet c.args.held.now.faulty (v c.loop-name.disk) (v c.count_lines.new.disk) r) c.in_err-lines.was c.count_lines.ensures.quiet)))

pub returns-in_default-clause-quiet : goal.returns-in_default-clause-quiet
returns-in_default-clause-quiet g c =
    let v = g.D.Disk.view in
    want (v c.args.disk.now) (v c.count_lines.new.disk) (then_reads (v c.args.disk.now) (v c.loop-name.disk) (v c.count_lines.new.disk) c.loop-name.invariant.reads c.count_lines.ensures.quiet.reads)

pub loop-name-preserved : goal.loop-name-preserved
loop-name-preserved g c =
    let v = g.D.Disk.view in
    let before = v c.args.disk.now in
    let mid = v c.loop-name.disk in
    let was = c.loop-name.invariant in
    let i = c.loop-name.name-index in
    let items : List (Name × Relation) = c.as_slice-name-items.result.now in
    let b : Name × Relation = c.loop-name-item.result in
    let value : items ≡ c.args.relations.now = c.as_slice-name-items.ensures.value in
    let area = all_at (λ (e : Name × Relation). IsRelationArea e.1.area) items i b c.loop-name-test.true c.loop-name-item.is
    (subst (λ (l : List (Name × Relation)). AllByRecursion (λ (e : Name × Relation). IsRelationArea e.1.area) l) (sym value) c.requires) in
    record {
      reads = then_reads before mid (v c.count_lines.new.disk) was.reads c.count_lines.ensures.quiet.reads;
      counted = λ t left so groups lines lays stands.
          let count : c.in_ok-lines.lines ≡ length (lines_in b.1.area lines) = at_rest before mid c.args.held.now (λ (all : Lines). c.in_ok-lines.lines ≡ length (lines_in b.1.area all)) was.reads (c.in_ok-lines.ensures.count 2 (relation_owner b.1.area area)) t left so groups lines lays stands in
          let one : Counted = record { name = b.0; area = b.1.area; lines = c.in_ok-lines.lines } in
          let its : one ≡ counted lines b.0 b.1.area = λ j. record { name = b.0; area = b.1.area; lines = count j } in
          let next : map (λ (e : Name × Relation). counted lines e.0 e.1.area) (take (i + 1) items) ≡ map (λ (e : Name × Relation). counted lines e.0 e.1.area) (take i items) ++ counted lines b.0 b.1.area ∷ [] =
          map_more (λ (e : Name × Relation). counted lines e.0 e.1.area) items i b c.loop-name-test.true ∙ (λ j. map (λ (e : Name × Relation). counted lines e.0 e.1.area) (take i items) ++ counted lines (sym c.loop-name-item.is j).0 (sym c.loop-name-item.is j).1.area ∷ []) in
          c.in-Ok.ensures ∙ (λ j. was.counted t left so groups lines lays stands j ++ its j ∷ []) ∙ (λ j. map (λ (e : Name × Relation). counted lines e.0 e.1.area) (take i (sym value j)) ++ counted lines b.0 b.1.area ∷ []) ∙ sym next ∙ (λ j. map (λ (e : Name × Relation). counted lines e.0 e.1.area) (take (i + 1) (value j)));
    }

pub returns-clause-counted : goal.returns-clause-counted
returns-clause-counted g c = λ t left so groups lines lays stands.
    let items : List (Name × Relation) = c.as_slice-name-items.result.now in
    let value : items ≡ c.args.relations.now = c.as_slice-name-items.ensures.value in
    let whole : take c.loop-name.name-index c.args.relations.now ≡ c.args.relations.now = ap (take c.loop-name.name-index) (sym value) ∙ take_all c.loop-name.name-index items c.loop-name-test.false ∙ value in
    c.loop-name.invariant.counted t left so groups lines lays stands ∙ ap (relations_counted lines) whole
