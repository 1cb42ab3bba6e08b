use Rattle.std.proofs.Common.{rules, ◌≡◌, ◌+◌, ◌-◌, ℕ, sym, subst, arith}
use Rattle.rdb_outside.specs.Disk.{Image}
use Rattle.rdb_outside.specs.Runs.{then_reads}
use Rattle.line_moves.proofs.Runs.{still_tells}
use Rattle.line_opening.proofs.Passed.{image_same}
use Rattle.used_pages.specs.Pages.{HasUsedTo, AreWhole}
use Rattle.used_pages.proofs.pages.read_pages.Goals as goal

pub returns-in_err-pass_page-clause-reads : goal.returns-in_err-pass_page-clause-reads
returns-in_err-pass_page-clause-reads g c = let v = g.D.Disk.view in then_reads (v c.args.disk.now) (v c.loop-slot.disk) (v c.pass_page.new.disk) c.loop-slot.invariant.reads c.pass_page.ensures.reads

pub returns-in_err-pass_page-clause-bad : goal.returns-in_err-pass_page-clause-bad
returns-in_err-pass_page-clause-bad g c = let v = g.D.Disk.view in let before = v c.args.disk.now in let mid = v c.loop-slot.disk in let so_far = c.loop-slot.invariant in
    λ f slot is t is_file whole. c.pass_page.ensures.bad f slot (search rules) (still_tells before mid so_far.reads.told t) is_file (subst AreWhole (sym (image_same before mid so_far.reads t)) whole)

pub loop-slot-preserved : goal.loop-slot-preserved
loop-slot-preserved g c = let v = g.D.Disk.view in let before = v c.args.disk.now in let mid = v c.loop-slot.disk in let so_far = c.loop-slot.invariant in
    record {
      reads = then_reads before mid (v c.pass_page.new.disk) so_far.reads c.pass_page.ensures.reads;
      used = λ t.
          let same = image_same before mid so_far.reads t in
          let back : c.loop-slot.slot + 1 - 1 ≡ c.loop-slot.slot = omega arith in
          subst (λ (image : Image). HasUsedTo image c.args.file (c.loop-slot.slot + 1) c.pass_page.new.pages) same
          (c.in_ok-pass_page.ensures.used (still_tells before mid so_far.reads.told t)
          (subst (λ (n : ℕ). HasUsedTo mid.content c.args.file n c.loop-slot.pages) (sym back) (subst (λ (image : Image). HasUsedTo image c.args.file c.loop-slot.slot c.loop-slot.pages) (sym same) (so_far.used t))));
      kept = λ other is. c.in_ok-pass_page.ensures.kept other (so_far.kept other is);
      placed = λ placed. c.in_ok-pass_page.ensures.placed (so_far.placed placed);
      few = let few = so_far.few in let one = c.in_ok-pass_page.ensures.few in omega (arith, few, one);
    }
