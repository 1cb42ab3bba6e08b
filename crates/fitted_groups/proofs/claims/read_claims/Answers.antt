use Rattle.std.proofs.Common.{◌<◌, ◌≤◌, ◌+◌, ◌/◌, ◌%◌, ◌∙◌, ℕ, length, ap, subst, arith}
use Rattle.rdb_outside.specs.Runs.{then_reads}
use Rattle.line_moves.proofs.Runs.{still_tells}
use Rattle.stable_lines.specs.Slots.{area_file}
use Rattle.fitted_groups.specs.Claims.{claim_at}
use Rattle.fitted_groups.proofs.Claiming.{seat_area, one_read, all_read, set_long}
use Rattle.fitted_groups.proofs.claims.read_claims.Goals as goal

pub returns-in_err-claim-clause-reads : goal.returns-in_err-claim-clause-reads
returns-in_err-claim-clause-reads g c = let v = g.D.Disk.view in then_reads (v c.args.disk.now) (v c.loop-seat.disk) (v c.read_claim.new.disk) c.loop-seat.invariant.reads c.read_claim.ensures.reads

pub loop-seat-preserved : goal.loop-seat-preserved
loop-seat-preserved g c = let v = g.D.Disk.view in let old = v c.args.disk.now in let mid = v c.loop-seat.disk in let so_far = c.loop-seat.invariant in
    let seat = c.loop-seat.seat in let claims = c.loop-seat.claims in let claim = c.in_ok-claim.claim in
    let within : seat < length claims = (let test = c.loop-seat-test.true in let size = so_far.size in omega (arith, test, size)) in
    record {
      reads = then_reads old mid (v c.read_claim.new.disk) so_far.reads c.read_claim.ensures.reads;
      size = set_long claims seat claim ∙ so_far.size;
      each = λ t ends. one_read old.content claims seat claim within
          (c.in_ok-claim.ensures.claim (still_tells old mid so_far.reads.told t)
          (λ s le. (so_far.reads.keeps t).content (area_file (seat % 3 + 1)) s ∙ ends (seat % 3 + 1) (seat_area seat) s (subst (λ (n : ℕ). n ≤ s) c.end_of.ensures le))
          ∙ ap claim_at ((so_far.reads.keeps t).content (area_file (seat % 3 + 1)) (seat / 3)))
          (so_far.each t ends);
    }

pub returns-clause-fitted : goal.returns-clause-fitted
returns-clause-fitted g c = let old = g.D.Disk.view c.args.disk.now in let so_far = c.loop-seat.invariant in
    λ t ends pages size. all_read old.content pages c.loop-seat.claims (so_far.size ∙ size)
    (λ k less. so_far.each t ends k (let past = c.loop-seat-test.false in let long = so_far.size in omega (arith, less, past, long)))
