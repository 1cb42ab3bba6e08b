use Rattle.std.proofs.Common.{◌≤◌, ◌+◌, length, refl, ◌∙◌, sym, subst, arith, inl, inr}
use Rattle.script_queues.proofs.Fewness.{few-more}
use Rattle.rdb_top.proofs.Reading.{pushed, grown-length, grown-scripts, behind-next, other-than, later-than, last-or}
use Rattle.rdb_top.proofs.scripts.read_scripts.Goals as goal

pub loop-done-preserved : goal.loop-done-preserved
loop-done-preserved g c =
    let inv = c.loop-done.invariant in
    let n = c.loop-done.done in
    let grown = pushed _ c.push.new.self.items c.loop-done.scripts.items c.in_ok-script.script c.push.ensures.items c.if-is_err.ensures.negation in (
      grown-length c.push.new.self.items c.loop-done.scripts.items c.in_ok-script.script n grown inv.0,
      c.read_whole.ensures.told ∙ inv.1,
      (λ tells. grown-scripts (g.S.Source.left c.args.source.now) (g.S.Source.left c.loop-done.source) c.push.new.self.items c.loop-done.scripts.items c.in_ok-script.script n grown (inv.2 tells)
          (c.in_ok-script.ensures.script (inv.1 ∙ tells)) (inv.3 tells (n + 1) (behind-next n))),
      (λ tells s h. c.read_whole.ensures.others (inv.1 ∙ tells) s (other-than n s h) ∙ inv.3 tells s (later-than n s h)),
      (λ tells s low high. elim (last-or n s high) [
        | inl k ↦ inv.4 tells s low k
        | inr e ↦ subst (λ u. length (g.S.Source.left c.args.source.now u) ≤ 1048576) (sym e)
            (subst (λ xs. length xs ≤ 1048576) (inv.3 tells (n + 1) (behind-next n)) (c.in_ok-script.ensures.short (inv.1 ∙ tells) refl))
      ]),
      omega (arith, inv.5, c.read_whole.ensures.later),
      few-more c.push.new.self.items c.loop-done.scripts.items c.in_ok-script.script grown inv.6 (c.in_ok-script.ensures.few),
    )
