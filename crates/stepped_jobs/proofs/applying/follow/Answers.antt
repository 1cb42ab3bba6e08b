use Rattle.std.proofs.Common.{rules, ◌≡◌, ℕ, List, Option, take, sym, subst}
use Rattle.line_view.specs.Knowledge.{Lines, Agrees, laid}
use Rattle.line_view.specs.Held.{Held, knows}
use Rattle.line_view.specs.Writes.{laid_all}
use Rattle.kept_apart.specs.Alike.{IsGuarded}
use Rattle.stepped_jobs.proofs.Following.{laid-all-in-order, one-laid-more}
use Rattle.stepped_jobs.proofs.Guarding.{guarded-write, own-at}
use Rattle.stepped_jobs.proofs.applying.follow.Goals as goal
use Rattle.stepped_jobs.proofs.applying.follow.Goals.{in-Some, in-None}

pub loop-write-preserved : goal.loop-write-preserved
loop-write-preserved c =
    let image : c.match-write.image ≡ c.write-item.result.image = elim c.match-write.branch [ in-Some w ↦ search rules | in-None w ↦ search rules ] in (
      λ all ordered agrees.
          let before = laid_all (take c.loop-write.write-index c.args.writes.now) all in
          let now = c.in-Ok.ensures.agrees before (laid-all-in-order (take c.loop-write.write-index c.args.writes.now) all ordered) (c.loop-write.invariant.0 all ordered agrees) in
          subst (λ (ls : Lines). Agrees (knows c.put.new.self) ls) (sym (one-laid-more c.args.writes.now c.loop-write.write-index c.write-item.result all c.loop-write-test.true c.write-item.is))
          (subst (λ (im : Option (List ℕ)). Agrees (knows c.put.new.self) (laid c.write-item.result.key im before)) image now),
      λ got own guarded.
          subst (λ (h : Held). IsGuarded got (knows h)) (sym c.in-Ok.ensures.ok)
          (guarded-write got c.write-item.result.key c.match-write.image c.loop-write.known (own-at got c.args.writes.now c.loop-write.write-index c.write-item.result c.loop-write-test.true c.write-item.is own) (c.loop-write.invariant.1 got own guarded)),
    )
