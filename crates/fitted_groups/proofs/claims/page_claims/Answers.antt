use Rattle.std.proofs.Common.{◌≡◌, ◌*◌, [], List, length, drop, sym, subst, arith}
use Rattle.rdb_outside.specs.Disk.{Image}
use Rattle.rdb_outside.specs.Runs.{then_reads}
use Rattle.line_moves.proofs.Runs.{still_tells}
use Rattle.line_opening.proofs.Passed.{image_same}
use Rattle.fitted_groups.specs.declared.claims.PageClaim.{PageClaim}
use Rattle.fitted_groups.specs.Claims.{AreEnds, AreFitted}
use Rattle.fitted_groups.proofs.Claiming.{front_of}
use Rattle.fitted_groups.proofs.claims.page_claims.Goals as goal

pub returns-in_err-read_claims-clause-reads : goal.returns-in_err-read_claims-clause-reads
returns-in_err-read_claims-clause-reads g c = let v = g.D.Disk.view in then_reads (v c.args.disk.now) (v c.area_ends.new.disk) (v c.read_claims.new.disk) c.area_ends.ensures.reads c.read_claims.ensures.reads

pub returns-clause-reads : goal.returns-clause-reads
returns-clause-reads g c = let v = g.D.Disk.view in then_reads (v c.args.disk.now) (v c.area_ends.new.disk) (v c.read_claims.new.disk) c.area_ends.ensures.reads c.read_claims.ensures.reads

pub returns-clause-fitted : goal.returns-clause-fitted
returns-clause-fitted g c = let v = g.D.Disk.view in let old = v c.args.disk.now in let mid = v c.area_ends.new.disk in let reads = c.area_ends.ensures.reads in
    λ t.
    let same = image_same old mid reads t in
    let count : length c.as_mut_slice.result.now ≡ c.args.pages * 3 = omega (arith, c.as_mut_slice.ensures.len, c.in-Ok.ensures.len) in
    let long : length c.read_claims.new.claims ≡ c.in-Ok.claims.len = omega (arith, c.read_claims.ensures.size, c.as_mut_slice.ensures.len) in
    let fitted = c.in_ok-read_claims.ensures.fitted (still_tells old mid reads.told t) (subst (λ (m : Image). AreEnds m c.in_ok-ends.ends) (sym same) (c.in_ok-ends.ensures.ends t)) c.args.pages count in
    subst (λ (cs : List PageClaim). AreFitted old.content c.args.pages [] cs) (sym (front_of c.read_claims.new.claims (drop (length c.read_claims.new.claims) c.in-Ok.claims.items) c.in-Ok.claims.len long))
    (subst (λ (m : Image). AreFitted m c.args.pages [] c.read_claims.new.claims) same fitted)
