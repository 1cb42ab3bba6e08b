use Rattle.std.proofs.Common.{rules, arith, ◌≤◌, ◌∙◌, length}
use Rattle.rdb_outside.specs.Runs.{no_calls}
use Rattle.line_moves.proofs.Runs.{on_ok}
use Rattle.line_seat.proofs.Stable.{holds_all, is_secured}
use Rattle.line_seat.proofs.securing.secure.Goals as goal

pub returns-then-stable-written-clause-reads : goal.returns-then-stable-written-clause-reads
returns-then-stable-written-clause-reads g c = no_calls (g.D.Disk.view c.args.disk.now)

pub returns-then-stable-written-clause-secured : goal.returns-then-stable-written-clause-secured
returns-then-stable-written-clause-secured g c = let v = g.D.Disk.view in λ t now member o all was holds same.
    let enough : c.args.written ≤ c.args.stable = search rules in
    is_secured (v c.args.disk.now) now member o all c.args.stable was holds (omega (arith, enough, same))

pub returns-clause-secured : goal.returns-clause-secured
returns-clause-secured g c = let v = g.D.Disk.view in
    on_ok _ _ c.make_stable.result (λ stable t now member o all was holds same.
    let old = v c.args.disk.now in let new = v c.make_stable.new.disk in
    let keeps = c.make_stable.ensures.reads.keeps t in
    is_secured new now member o all (length all) (c.make_stable.ensures.keeps t now was)
    (holds_all old new keeps (λ f i x p. stable t f i x p ∙ keeps.content f i) now member o all c.args.stable holds) (omega arith)) c.make_stable.ensures.stable
