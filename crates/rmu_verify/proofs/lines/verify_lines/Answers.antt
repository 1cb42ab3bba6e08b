use Rattle.std.proofs.Common.{Err, map}
use Rattle.rdb_outside.specs.Runs.{then_reads}
use Rattle.line_view.specs.Knowledge.{Lines}
use Rattle.std.proofs.lemmas.Result.{err_from_is_err_and}
use Rattle.areas_at_rest.proofs.Quiet.{then as behind_reads, stopped, done, want, at_rest}
use Rattle.rmu_verify.specs.Listing.{all_faults}
use Rattle.rmu_verify.specs.Verified.{FindsLines, FindsTrees}
use Rattle.rmu_verify.proofs.lines.verify_lines.Goals as goal

pub returns-in-Ok-clause-found : goal.returns-in-Ok-clause-found
returns-in-Ok-clause-found g c =
    let v = g.D.Disk.view in
    let held = c.args.held.now in
    let v0 = v c.args.disk.now in
    let v1 = v c.check_definitions.new.disk in
    let v2 = v c.lines_at_fault.new.disk in
    let r1 = c.check_definitions.ensures.quiet.reads in
    let r2 = then_reads v0 v1 v2 r1 c.lines_at_fault.ensures.quiet.reads in
    let its = c.in_ok-checked.checked in
    let rows = c.in_ok-lines.lines in
    let trees = c.in_ok-trees.trees in
    let names = map (λ e. e.0) trees.names in (
      all_faults its.faults.keys rows.keys trees.nodes.keys names,
      c.in-Ok.ensures,
      (λ t left so groups lines lays stands.
          let at_lines = at_rest v0 v1 held (λ (all : Lines). FindsLines all its.catalog rows.keys) r1 c.in_ok-lines.ensures.found t left so groups lines lays stands in
          let at_trees = at_rest v0 v2 held (λ (all : Lines). FindsTrees all its.catalog trees.nodes.keys names) r2 c.in_ok-trees.ensures.found t left so groups lines lays stands in
          record {
            c = its.catalog;
            catalog = its.faults.keys;
            checked = c.in_ok-checked.ensures.checked t left so groups lines lays stands;
            rows = at_lines.rows;
            finds_rows = at_lines.finds;
            areas = at_lines.areas;
            covers = at_lines.covers;
            nodes = at_trees.nodes;
            names = at_trees.indexes;
            finds_indexes = at_trees.finds;
            are = λ i. all_faults its.faults.keys (at_lines.are i) (at_trees.keys_are i) (at_trees.names_are i);
          }),
    )

pub returns-in_err-lines-clause-quiet : goal.returns-in_err-lines-clause-quiet
returns-in_err-lines-clause-quiet g c =
    let v = g.D.Disk.view in
    let v0 = v c.args.disk.now in
    let v1 = v c.check_definitions.new.disk in
    let v2 = v c.lines_at_fault.new.disk in
    let r1 = c.check_definitions.ensures.quiet.reads in
    let p = err_from_is_err_and c.from_residual-in_err-lines.result c.from_residual-in_err-lines.ensures.1 in
    rw (p.1, p.2) (behind_reads v0 v1 v2 (Err c.in_err-lines.field-0.0) r1 (stopped v1 v2 c.in_err-lines.field-0.0 c.in_err-lines.ensures.quiet))

pub returns-in_err-trees-clause-quiet : goal.returns-in_err-trees-clause-quiet
returns-in_err-trees-clause-quiet g c =
    let v = g.D.Disk.view in
    let v0 = v c.args.disk.now in
    let v1 = v c.check_definitions.new.disk in
    let v2 = v c.lines_at_fault.new.disk in
    let r1 = c.check_definitions.ensures.quiet.reads in
    let v3 = v c.trees_at_fault.new.disk in
    let r2 = then_reads v0 v1 v2 r1 c.lines_at_fault.ensures.quiet.reads in
    let p = err_from_is_err_and c.from_residual-in_err-trees.result c.from_residual-in_err-trees.ensures.1 in
    rw (p.1, p.2) (behind_reads v0 v2 v3 (Err c.in_err-trees.field-0.0) r2 (stopped v2 v3 c.in_err-trees.field-0.0 c.in_err-trees.ensures.quiet))

pub returns-in-Ok-clause-quiet : goal.returns-in-Ok-clause-quiet
returns-in-Ok-clause-quiet g c =
    let v = g.D.Disk.view in
    let v0 = v c.args.disk.now in
    let v1 = v c.check_definitions.new.disk in
    let v2 = v c.lines_at_fault.new.disk in
    let r1 = c.check_definitions.ensures.quiet.reads in
    let v3 = v c.trees_at_fault.new.disk in
    let r2 = then_reads v0 v1 v2 r1 c.lines_at_fault.ensures.quiet.reads in
    done v0 v3 tt (then_reads v0 v2 v3 r2 c.trees_at_fault.ensures.quiet.reads)

pub returns-clause-quiet : goal.returns-clause-quiet
returns-clause-quiet g c =
    let v = g.D.Disk.view in
    let v0 = v c.args.disk.now in
    let v1 = v c.check_definitions.new.disk in
    let v2 = v c.lines_at_fault.new.disk in
    let r1 = c.check_definitions.ensures.quiet.reads in
    let v3 = v c.trees_at_fault.new.disk in
    let r2 = then_reads v0 v1 v2 r1 c.lines_at_fault.ensures.quiet.reads in
    want v0 v3 (then_reads v0 v2 v3 r2 c.trees_at_fault.ensures.quiet.reads)
