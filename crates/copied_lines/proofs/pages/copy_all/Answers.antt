use Rattle.std.proofs.Common.{rules, ◌≡◌, ◌≢◌, ◌≤◌, ◌+◌, ◌*◌, ◌∙◌, ℕ, refl, sym, ap, subst, arith}
use Rattle.std.specs.BTreeSet.{btree_set_len, contains}
use Rattle.rdb_outside.specs.Disk.{LeavesOnly}
use Rattle.backup_making.specs.declared.making.Backup.{Backup}
use Rattle.backup_making.specs.Making.{file_of}
use Rattle.line_moves.proofs.Runs.{still_tells}
use Rattle.line_opening.proofs.Standing.{leaves_on}
use Rattle.database_opening.proofs.Others.{file_unused, file_on}
use Rattle.used_pages.specs.Pages.{page_order}
use Rattle.used_pages.proofs.Sets.{still_placed}
use Rattle.copied_lines.specs.Holding.{on_pages}
use Rattle.copied_lines.specs.Copying.{IsStopped}
use Rattle.copied_lines.proofs.Popped.{all_behind, popped}
use Rattle.copied_lines.proofs.Runs.{stopped_still}
use Rattle.copied_lines.proofs.pages.copy_all.Goals as goal

pub loop-page-init : goal.loop-page-init
loop-page-init g c = let old = g.D.Disk.view c.args.disk.now in
    record {
      told = refl;
      no_fewer = omega arith;
      placed = c.requires.placed;
      same = refl;
      few = omega arith;
      copied = λ t former image now was. was;
      stopped = λ t former image now was. stopped_still former image now (on_pages (contains page_order c.args.pages)) old c.args.backup.now c.requires.is_open was;
      others = λ t file apart. file_unused old t file;
    }

pub returns-in_err-copy_page-clause-bad : goal.returns-in_err-copy_page-clause-bad
returns-in_err-copy_page-clause-bad g c = let v = g.D.Disk.view in let old = v c.args.disk.now in let mid = v c.loop-page.disk in let so_far = c.loop-page.invariant in
    λ file slot is t former image now was.
    c.copy_page.ensures.bad file slot (search rules) (still_tells old mid so_far.told t) former image now (on_pages (contains page_order c.loop-page.left)) (so_far.copied t former image now was)

pub returns-in_err-copy_page-clause-stopped : goal.returns-in_err-copy_page-clause-stopped
returns-in_err-copy_page-clause-stopped g c = let v = g.D.Disk.view in let old = v c.args.disk.now in let mid = v c.loop-page.disk in let new = v c.copy_page.new.disk in let so_far = c.loop-page.invariant in
    λ t former image now was.
    let same : c.loop-page.backup.number ≡ c.args.backup.now.number = ap (λ (b : Backup). b.number) so_far.same in
    let left = c.loop-page.left in let after = c.pop_first.new.self in let page = c.in-Some.page in
    let more : LeavesOnly mid new (IsStopped now c.args.backup.now.number) = subst (λ (n : ℕ). LeavesOnly mid new (IsStopped now n)) same
    (c.copy_page.ensures.stopped (still_tells old mid so_far.told t) former image now (contains page_order after) (all_behind left after page c.in-Some.ensures.updates c.in-Some.ensures.least)
    (popped left after page c.in-Some.ensures.updates c.in-Some.ensures.least c.in-Some.ensures.member former image now mid c.loop-page.backup (so_far.copied t former image now was))) in
    leaves_on old mid new (IsStopped now c.args.backup.now.number) (so_far.stopped t former image now was) more

pub loop-page-preserved : goal.loop-page-preserved
loop-page-preserved g c = let v = g.D.Disk.view in let old = v c.args.disk.now in let mid = v c.loop-page.disk in let new = v c.copy_page.new.disk in let so_far = c.loop-page.invariant in
    let left = c.loop-page.left in let after = c.pop_first.new.self in let page = c.in-Some.page in
    let grown = c.in_ok-copy_page.ensures.grown in
    let with_lines : Backup → Backup = λ b. record b { lines = c.copy_page.new.backup.lines } in
    record {
      told = c.copy_page.ensures.told ∙ so_far.told;
      no_fewer = let first = so_far.no_fewer in let then_no_fewer = c.copy_page.ensures.no_fewer in omega (arith, first, then_no_fewer);
      placed = still_placed left after page c.in-Some.ensures.updates so_far.placed;
      same = grown.same ∙ ap with_lines so_far.same;
      few =
          let before : c.loop-page.backup.lines + 4 * btree_set_len left ≤ c.args.backup.now.lines + 4 * btree_set_len c.args.pages = so_far.few in
          let four : c.copy_page.new.backup.lines ≤ c.loop-page.backup.lines + 4 = grown.few in
          let one : btree_set_len after + 1 ≡ btree_set_len left = search rules in
          omega (arith, before, four, one);
      copied = λ t former image now was.
          c.in_ok-copy_page.ensures.copied (still_tells old mid so_far.told t) former image now (contains page_order after) (all_behind left after page c.in-Some.ensures.updates c.in-Some.ensures.least)
          (popped left after page c.in-Some.ensures.updates c.in-Some.ensures.least c.in-Some.ensures.member former image now mid c.loop-page.backup (so_far.copied t former image now was));
      stopped = λ t former image now was.
          let same : c.loop-page.backup.number ≡ c.args.backup.now.number = ap (λ (b : Backup). b.number) so_far.same in
          let more : LeavesOnly mid new (IsStopped now c.args.backup.now.number) = subst (λ (n : ℕ). LeavesOnly mid new (IsStopped now n)) same
          (c.copy_page.ensures.stopped (still_tells old mid so_far.told t) former image now (contains page_order after) (all_behind left after page c.in-Some.ensures.updates c.in-Some.ensures.least)
          (popped left after page c.in-Some.ensures.updates c.in-Some.ensures.least c.in-Some.ensures.member former image now mid c.loop-page.backup (so_far.copied t former image now was))) in
          leaves_on old mid new (IsStopped now c.args.backup.now.number) (so_far.stopped t former image now was) more;
      others = λ t file apart. file_on old mid new file (so_far.others t file apart)
          (c.copy_page.ensures.others (still_tells old mid so_far.told t) file (subst (λ (n : ℕ). file ≢ file_of n) (sym (ap (λ (b : Backup). b.number) so_far.same)) apart));
    }

pub returns-in_err-copy_page-clause-others : goal.returns-in_err-copy_page-clause-others
returns-in_err-copy_page-clause-others g c = let v = g.D.Disk.view in let old = v c.args.disk.now in let mid = v c.loop-page.disk in let so_far = c.loop-page.invariant in
    λ t file apart. file_on old mid (v c.copy_page.new.disk) file (so_far.others t file apart)
    (c.copy_page.ensures.others (still_tells old mid so_far.told t) file (subst (λ (n : ℕ). file ≢ file_of n) (sym (ap (λ (b : Backup). b.number) so_far.same)) apart))
