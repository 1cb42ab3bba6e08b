use Rattle.std.proofs.Common.{rules, ◌≡◌, ◌+◌, ◌++◌, ◌∷◌, [], List, Err, Result, take, sym, ap, subst, refl, ◌∙◌}
use Rattle.std.specs.List.{AllByRecursion}
use Rattle.std.proofs.lemmas.List.{append_assoc, append-nil, take_more, take_all}
use Rattle.std.proofs.lemmas.Result.{err_from_is_err_and}
use Rattle.rdb_types.specs.declared.keys.Dbkey.{Dbkey}
use Rattle.rdo_ast.specs.Tree.{Name}
use Rattle.rdb_outside.specs.Runs.{then_reads}
use Rattle.line_opening.specs.declared.fault.OpeningFault.{OpeningFault}
use Rattle.line_view.specs.Knowledge.{Lines}
use Rattle.catalog.specs.declared.directory.PlacedLine.{PlacedLine}
use Rattle.catalog_lines.specs.Lines.{IsAllowedLine}
use Rattle.sound_lines.specs.Contents.{versions_in}
use Rattle.verified_lines.specs.Relations.{FindsIndex, FindsIndexes}
use Rattle.areas_at_rest.specs.Runs.{IsQuiet}
use Rattle.areas_at_rest.proofs.Quiet.{then as behind_reads, at_rest}
use Rattle.areas_at_rest.proofs.Defined.{all_at}
use Rattle.rmu_verify.specs.Added.{IsRooted}
use Rattle.rmu_verify.proofs.IndexLines.{all_rooted, indexes_more}
use Rattle.rmu_verify.proofs.indexes.verify_indexes.Goals as goal

pub verify_line-requires-clause-allowed : goal.verify_line-requires-clause-allowed
verify_line-requires-clause-allowed g c =
    let items : List PlacedLine = c.as_slice-line-items.result.now in
    all_at (λ (p : PlacedLine). IsAllowedLine p.line) items c.loop-line.line-index c.line-item.result c.loop-line-test.true c.line-item.is
    (subst (λ (l : List PlacedLine). AllByRecursion (λ (p : PlacedLine). IsAllowedLine p.line) l) (sym c.as_slice-line-items.ensures) c.requires.allowed)

pub verify_line-requires-clause-rooted : goal.verify_line-requires-clause-rooted
verify_line-requires-clause-rooted g c =
    let items : List PlacedLine = c.as_slice-line-items.result.now in
    all_at (λ (p : PlacedLine). IsRooted p.line) items c.loop-line.line-index c.line-item.result c.loop-line-test.true c.line-item.is
    (subst (λ (l : List PlacedLine). AllByRecursion (λ (p : PlacedLine). IsRooted p.line) l) (sym c.as_slice-line-items.ensures) (all_rooted c.args.catalog.now c.requires))

pub loop-line-init : goal.loop-line-init
loop-line-init g c = record {
  reads = search rules;
  found = λ t left so groups lines lays stands. record { more = []; others = []; nodes_are = sym (append-nil _); names_are = sym (append-nil _); are = (refl, refl) };
}

pub returns-in_err-verify_line-clause-quiet : goal.returns-in_err-verify_line-clause-quiet
returns-in_err-verify_line-clause-quiet g c =
    let v = g.D.Disk.view in
    let p = err_from_is_err_and c.from_residual.result c.from_residual.ensures.1 in
    rw (p.1, p.2) (behind_reads (v c.args.disk.now) (v c.loop-line.disk) (v c.verify_line.new.disk) (Err c.in_err-verify_line.field-0.0) c.loop-line.invariant.reads
    (subst (λ (r : Result Unit OpeningFault). IsQuiet c.args.held.now.faulty (v c.loop-line.disk) (v c.verify_line.new.disk) r) c.in_err-verify_line.was c.verify_line.ensures.quiet))

pub loop-line-preserved : goal.loop-line-preserved
loop-line-preserved g c =
    let v = g.D.Disk.view in
    let before = v c.args.disk.now in
    let mid = v c.loop-line.disk in
    let was = c.loop-line.invariant in
    let i = c.loop-line.line-index in
    let ps = c.args.catalog.now.lines in
    let t0 = c.args.catalog.now.tables in
    let items : List PlacedLine = c.as_slice-line-items.result.now in
    let p : PlacedLine = c.line-item.result in
    let value : items ≡ ps = c.as_slice-line-items.ensures in
    let versions = versions_in ps in
    let old = c.loop-line.found in
    let new = c.verify_line.new.found in
    record {
      reads = then_reads before mid (v c.verify_line.new.disk) was.reads c.verify_line.ensures.quiet.reads;
      found = λ t left so groups lines lays stands.
          let here = at_rest before mid c.args.held.now (λ (all : Lines). (nodes : List Dbkey) × (names : List Name) × (new.nodes ≡ old.nodes ++ nodes) × (new.names ≡ old.names ++ names) × FindsIndex all versions t0 p.line nodes names) was.reads c.in_ok-verify_line.ensures.found t left so groups lines lays stands in
          let held = was.found t left so groups lines lays stands in
          let next : take (i + 1) ps ≡ take i ps ++ p ∷ [] = ap (take (i + 1)) (sym value) ∙ take_more items i p c.loop-line-test.true ∙ (λ j. take i (value j) ++ sym c.line-item.is j ∷ []) in
          record {
            more = held.more ++ here.0;
            others = held.others ++ here.1;
            nodes_are = here.2 ∙ ap (λ (l : List Dbkey). l ++ here.0) held.nodes_are ∙ append_assoc _ held.more here.0;
            names_are = here.3 ∙ ap (λ (l : List Name). l ++ here.1) held.names_are ∙ append_assoc _ held.others here.1;
            are = subst (λ (l : List PlacedLine). FindsIndexes lines versions t0 l (held.more ++ here.0) (held.others ++ here.1)) (sym next) (indexes_more lines versions t0 (take i ps) p held.more here.0 held.others here.1 held.are here.4);
          };
    }

pub returns-clause-found : goal.returns-clause-found
returns-clause-found g c = λ t left so groups lines lays stands.
    let ps = c.args.catalog.now.lines in
    let items : List PlacedLine = c.as_slice-line-items.result.now in
    let value : items ≡ ps = c.as_slice-line-items.ensures in
    let whole : take c.loop-line.line-index ps ≡ ps = ap (take c.loop-line.line-index) (sym value) ∙ take_all c.loop-line.line-index items c.loop-line-test.false ∙ value in
    let held = c.loop-line.invariant.found t left so groups lines lays stands in
    (held.more, held.others, held.nodes_are, held.names_are, subst (λ (l : List PlacedLine). FindsIndexes lines (versions_in ps) c.args.catalog.now.tables l held.more held.others) whole held.are)
