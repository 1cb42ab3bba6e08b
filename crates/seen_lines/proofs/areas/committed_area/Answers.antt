use Rattle.std.proofs.Common.{◌≡◌, subst, sym, Some}
use Rattle.rdb_types.specs.declared.keys.Dbkey.{Dbkey}
use Rattle.rdb_outside.specs.Runs.{then_reads}
use Rattle.line_view.specs.Knowledge.{Lines, IsInOrder}
use Rattle.line_store.specs.declared.answers.ReadStop.TheVariants as read
use Rattle.line_store.specs.declared.answers.Fault.TheVariants.{Bad}
use Rattle.line_moves.proofs.Runs.{still_tells}
use Rattle.committed_lines.proofs.of_member_steps.Journals.{read_ledger}
use Rattle.committed_lines.proofs.of_member_steps.Standings.{same_lines}
use Rattle.committed_tables.specs.page_table.Pages.{IsLineOf}
use Rattle.seen_lines.specs.Seen.{IsOfArea}
use Rattle.seen_lines.proofs.Gathered.{Gathers, area_more, gathers_more, gathered_all, stop_on}
use Rattle.seen_lines.proofs.areas.committed_area.Goals as goal

pub returns-in-Err-clause-reads : goal.returns-in-Err-clause-reads
returns-in-Err-clause-reads g c = let v = g.D.Disk.view in then_reads (v c.args.disk.now) (v c.loop-key.disk) (v c.gather.new.disk) c.loop-key.invariant.reads c.gather.ensures.reads

pub returns-in-Err-clause-bad : goal.returns-in-Err-clause-bad
returns-in-Err-clause-bad g c = let v = g.D.Disk.view c.args.disk.now in let mid = g.D.Disk.view c.loop-key.disk in let reads = c.loop-key.invariant.reads in λ f s is t ledger was are.
    c.in-Err.ensures.bad f s (stop_on c.in-Err.stop (read.Fault (Bad f s)) is) (still_tells v mid reads.told t) ledger (read_ledger v mid ledger t reads was) are

pub loop-key-preserved : goal.loop-key-preserved
loop-key-preserved g c = let v = g.D.Disk.view c.args.disk.now in let mid = g.D.Disk.view c.loop-key.disk in let new = g.D.Disk.view c.gather.new.disk in
    let so_far = c.loop-key.invariant in let first = c.in-Some.ensures.found in let more = c.in_default-gather.ensures.gathers in
    record {
      reads = then_reads v mid new so_far.reads c.gather.ensures.reads;
      of_area = subst (λ (l : Lines). IsOfArea c.args.area l) (sym more.1) (area_more c.args.area c.in-Some.key more.0 c.loop-key.found first.fits.area_is so_far.of_area);
      line = λ from is. let same : c.in-Some.key ≡ from = cc in subst (λ (k : Dbkey). IsLineOf c.args.table.now k × (k.area ≡ c.args.area)) same (first.fits.is_line, first.fits.area_is);
      gathers = λ t ledger file was are owner were.
          let now = read_ledger v mid ledger t so_far.reads was in
          subst (λ (l : Lines). Gathers ledger.base.lines c.args.area (Some c.in-Some.key) l) (sym more.1)
          (gathers_more c.args.table.now file ledger.base.lines c.args.area c.loop-key.from were owner c.in-Some.key more.0 first (more.2 (still_tells v mid so_far.reads.told t) ledger now are) c.loop-key.found (so_far.gathers t ledger file was are owner were));
    }

pub returns-clause-committed : goal.returns-clause-committed
returns-clause-committed g c = let v = g.D.Disk.view c.args.disk.now in let so_far = c.loop-key.invariant in λ t ledger file was are owner were.
    gathered_all c.args.table.now file ledger.base.lines c.args.area c.loop-key.from were owner c.loop-key.found so_far.of_area.ordered (subst (λ (l : Lines). IsInOrder l) (same_lines v ledger was) was.facts.in_order) (so_far.gathers t ledger file was are owner were) c.in_default.ensures.none
