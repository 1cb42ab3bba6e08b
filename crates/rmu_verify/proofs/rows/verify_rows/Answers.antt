use Rattle.std.proofs.Common.{◌≡◌, ◌+◌, ◌++◌, ◌∷◌, [], ℕ, List, Err, Result, take, sym, ap, subst, ◌∙◌}
use Rattle.std.specs.List.{AllByRecursion}
use Rattle.std.proofs.lemmas.List.{take_more, take_all}
use Rattle.std.proofs.lemmas.Result.{err_from_is_err_and}
use Rattle.rdo_ast.specs.Tree.{Name}
use Rattle.rdb_meaning.specs.declared.tables.Relation.{Relation as Rows}
use Rattle.rdb_outside.specs.Runs.{then_reads}
use Rattle.line_opening.specs.declared.fault.OpeningFault.{OpeningFault}
use Rattle.line_view.specs.Knowledge.{Lines}
use Rattle.catalog.specs.declared.directory.PlacedLine.{PlacedLine}
use Rattle.catalog_lines.specs.Lines.{IsRelationArea}
use Rattle.sound_lines.specs.Contents.{versions_in, version_of, stored}
use Rattle.line_faults.specs.Rows.{AreRowFaults}
use Rattle.verified_lines.specs.Relations.{FindsRows}
use Rattle.areas_at_rest.specs.Runs.{IsQuiet}
use Rattle.rmu_verify.specs.Added.{AddsSome}
use Rattle.areas_at_rest.proofs.Quiet.{then as behind_reads, at_rest}
use Rattle.areas_at_rest.proofs.Defined.{all_at, relation_areas}
use Rattle.rmu_verify.proofs.Found.{adds_more}
use Rattle.rmu_verify.proofs.rows.verify_rows.Goals as goal

pub verify_relation-requires : goal.verify_relation-requires
verify_relation-requires g c =
    let items : List (Name × Rows) = c.as_slice-name-items.result.now in
    let b : Name × Rows = c.loop-name-item.result in
    all_at (λ (e : Name × Rows). IsRelationArea e.1.area) items c.loop-name.name-index b c.loop-name-test.true c.loop-name-item.is
    (subst (λ (l : List (Name × Rows)). AllByRecursion (λ (e : Name × Rows). IsRelationArea e.1.area) l) (sym c.as_slice-name-items.ensures.value) (relation_areas c.args.catalog.now c.requires))

pub returns-in_err-verify_relation-clause-quiet : goal.returns-in_err-verify_relation-clause-quiet
returns-in_err-verify_relation-clause-quiet g c =
    let v = g.D.Disk.view in
    let p = err_from_is_err_and c.from_residual.result c.from_residual.ensures.1 in
    rw (p.1, p.2) (behind_reads (v c.args.disk.now) (v c.loop-name.disk) (v c.verify_relation.new.disk) (Err c.in_err-verify_relation.field-0.0) c.loop-name.invariant.reads
    (subst (λ (r : Result Unit OpeningFault). IsQuiet c.args.held.now.faulty (v c.loop-name.disk) (v c.verify_relation.new.disk) r) c.in_err-verify_relation.was c.verify_relation.ensures.quiet))

pub loop-name-preserved : goal.loop-name-preserved
loop-name-preserved g c =
    let v = g.D.Disk.view in
    let before = v c.args.disk.now in
    let mid = v c.loop-name.disk in
    let was = c.loop-name.invariant in
    let i = c.loop-name.name-index in
    let relations = c.args.catalog.now.tables.relations in
    let items : List (Name × Rows) = c.as_slice-name-items.result.now in
    let b : Name × Rows = c.loop-name-item.result in
    let value : items ≡ relations = c.as_slice-name-items.ensures.value in
    let versions = versions_in c.args.catalog.now.lines in
    let version : c.version_of-version.result ≡ version_of b.0 versions = c.version_of-version.ensures ∙ ap (λ (l : List PlacedLine). version_of b.0 (versions_in l)) c.as_slice.ensures in
    record {
      reads = then_reads before mid (v c.verify_relation.new.disk) was.reads c.verify_relation.ensures.quiet.reads;
      found = λ t left so groups lines lays stands.
          let here = at_rest before mid c.args.held.now (λ (all : Lines). AddsSome (AreRowFaults (stored c.version_of-version.result b.1) all) c.loop-name.keys c.verify_relation.new.keys) was.reads c.in_ok-verify_relation.ensures.found t left so groups lines lays stands in
          let its = subst (λ (n : ℕ). AddsSome (AreRowFaults (stored n b.1) lines) c.loop-name.keys c.verify_relation.new.keys) version here in
          let next : take (i + 1) relations ≡ take i relations ++ b ∷ [] = ap (take (i + 1)) (sym value) ∙ take_more items i b c.loop-name-test.true ∙ (λ j. take i (value j) ++ sym c.loop-name-item.is j ∷ []) in
          subst (λ (l : List (Name × Rows)). AddsSome (FindsRows lines versions l) c.args.keys.now c.verify_relation.new.keys) (sym next)
          (adds_more lines versions (take i relations) b c.args.keys.now c.loop-name.keys c.verify_relation.new.keys (was.found t left so groups lines lays stands) its);
    }

pub returns-clause-found : goal.returns-clause-found
returns-clause-found g c = λ t left so groups lines lays stands.
    let relations = c.args.catalog.now.tables.relations in
    let items : List (Name × Rows) = c.as_slice-name-items.result.now in
    let value : items ≡ relations = c.as_slice-name-items.ensures.value in
    let whole : take c.loop-name.name-index relations ≡ relations = ap (take c.loop-name.name-index) (sym value) ∙ take_all c.loop-name.name-index items c.loop-name-test.false ∙ value in
    subst (λ (l : List (Name × Rows)). AddsSome (FindsRows lines (versions_in c.args.catalog.now.lines) l) c.args.keys.now c.loop-name.keys) whole (c.loop-name.invariant.found t left so groups lines lays stands)
