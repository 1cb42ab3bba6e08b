use Rattle.std.proofs.Common.{rules, ◌≡◌, ◌≤◌, ◌+◌, ℕ, sym, subst, arith}
use Rattle.rdb_outside.specs.Disk.{Image}
use Rattle.rdb_outside.specs.Runs.{then_reads}
use Rattle.line_moves.proofs.Runs.{still_tells}
use Rattle.line_opening.proofs.Passed.{image_same}
use Rattle.lines_at_rest.specs.Area.{HoldsTo}
use Rattle.lines_at_rest.specs.Left.{IsReadAs}
use Rattle.lines_at_rest.proofs.area.read_pages.Goals as goal

pub returns-in_err-read_page-clause-reads : goal.returns-in_err-read_page-clause-reads
returns-in_err-read_page-clause-reads g c = let v = g.D.Disk.view in then_reads (v c.args.disk.now) (v c.loop-slot.disk) (v c.read_page.new.disk) c.loop-slot.invariant.reads c.read_page.ensures.reads

pub loop-slot-preserved : goal.loop-slot-preserved
loop-slot-preserved g c = let v = g.D.Disk.view in let before = v c.args.disk.now in let mid = v c.loop-slot.disk in let so_far = c.loop-slot.invariant in
    record {
      reads = then_reads before mid (v c.read_page.new.disk) so_far.reads c.read_page.ensures.reads;
      lines = λ t left so groups lays owner was.
          c.in_ok-read_page.ensures.lines (still_tells before mid so_far.reads.told t) left (subst (λ (image : Image). IsReadAs c.args.held.now.faulty image left) (sym (image_same before mid so_far.reads t)) so) groups lays owner
          (so_far.lines t left so groups lays owner was);
    }

pub returns-clause-lines : goal.returns-clause-lines
returns-clause-lines g c = λ t left so groups lays owner was.
    let last : c.loop-slot.slot ≤ c.args.count = search rules in
    let past : c.args.count ≤ c.loop-slot.slot = search rules in
    let at : c.loop-slot.slot ≡ c.args.count = omega (arith, last, past) in
    subst (λ (n : ℕ). HoldsTo left c.args.held.now.before c.args.area (n + 1) 0 c.loop-slot.found) at (c.loop-slot.invariant.lines t left so groups lays owner was)
