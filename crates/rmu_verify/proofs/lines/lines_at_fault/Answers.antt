use Rattle.std.proofs.Common.{◌≡◌, ◌++◌, ℕ, List, Err, ap, ◌∙◌}
use Rattle.rdb_types.specs.declared.keys.Dbkey.{Dbkey}
use Rattle.line_view.specs.Knowledge.{Lines}
use Rattle.line_view.specs.Held.{ordered}
use Rattle.verified_lines.specs.Relations.{strays_in}
use Rattle.verified_lines.specs.Faults.{Covers}
use Rattle.std.proofs.lemmas.Result.{err_from_is_err_and}
use Rattle.rdb_outside.specs.Runs.{then_reads}
use Rattle.areas_at_rest.proofs.Quiet.{then as behind_reads, stopped, done, want, at_rest}
use Rattle.rmu_verify.proofs.lines.lines_at_fault.Goals as goal

pub returns-in-Ok-clause-found : goal.returns-in-Ok-clause-found
returns-in-Ok-clause-found g c = λ t left so groups lines lays stands.
    let v = g.D.Disk.view in
    let tables = c.args.catalog.now.tables in
    let rows = c.in_ok-verify_rows.ensures.found t left so groups lines lays stands in
    let strays = at_rest (v c.args.disk.now) (v c.verify_rows.new.disk) c.args.held.now (λ (all : Lines). (areas : List ℕ) × Covers all areas × (c.verify_strays.new.keys ≡ c.verify_rows.new.keys ++ strays_in all tables areas)) c.verify_rows.ensures.quiet.reads c.in_ok-verify_strays.ensures.found t left so groups lines lays stands in
    let first : c.verify_rows.new.keys ≡ rows.0 = rows.1 ∙ ap (λ (l : List Dbkey). l ++ rows.0) c.new-keys.ensures in
    record {
      rows = rows.0;
      finds = rows.2;
      areas = strays.0;
      covers = strays.1;
      are = c.in-Ok.ensures ∙ ap ordered (c.as_slice.ensures ∙ strays.2 ∙ ap (λ (l : List Dbkey). l ++ strays_in lines tables strays.0) first);
    }

pub returns-in_err-verify_strays-clause-quiet : goal.returns-in_err-verify_strays-clause-quiet
returns-in_err-verify_strays-clause-quiet g c =
    let v = g.D.Disk.view in
    let v0 = v c.args.disk.now in
    let v1 = v c.verify_rows.new.disk in
    let v2 = v c.verify_strays.new.disk in
    let r1 = c.verify_rows.ensures.quiet.reads in
    let p = err_from_is_err_and c.from_residual-in_err-verify_strays.result c.from_residual-in_err-verify_strays.ensures.1 in
    rw (p.1, p.2) (behind_reads v0 v1 v2 (Err c.in_err-verify_strays.field-0.0) r1 (stopped v1 v2 c.in_err-verify_strays.field-0.0 c.in_err-verify_strays.ensures.quiet))

pub returns-in-Ok-clause-quiet : goal.returns-in-Ok-clause-quiet
returns-in-Ok-clause-quiet g c =
    let v = g.D.Disk.view in
    let v0 = v c.args.disk.now in
    let v1 = v c.verify_rows.new.disk in
    let v2 = v c.verify_strays.new.disk in
    let r1 = c.verify_rows.ensures.quiet.reads in
    done v0 v2 c.in-Ok.found (then_reads v0 v1 v2 r1 c.verify_strays.ensures.quiet.reads)

pub returns-clause-quiet : goal.returns-clause-quiet
returns-clause-quiet g c =
    let v = g.D.Disk.view in
    let v0 = v c.args.disk.now in
    let v1 = v c.verify_rows.new.disk in
    let v2 = v c.verify_strays.new.disk in
    let r1 = c.verify_rows.ensures.quiet.reads in
    want v0 v2 (then_reads v0 v1 v2 r1 c.verify_strays.ensures.quiet.reads)
