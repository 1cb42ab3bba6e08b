use Rattle.job_steps.proofs.of_session_stands.Seating.{alone}
use Rattle.line_arms.proofs.Arms.{quiet-comes}
use Rattle.line_arms.proofs.ending.begin_commit.Goals as goal

pub commit-requires-clause-alone : goal.commit-requires-clause-alone
commit-requires-clause-alone g c =
    alone (g.L.LineStore.sight c.args.common.now.store) c.args.common.now.tree c.args.s.number c.requires.among.flies c.mode_of-mode.ensures.apart c.requires.seated.needs.0

pub returns : goal.returns
returns g c = quiet-comes _ _ _ _ _ _ _ _ c.quiet.ensures.phase c.quiet.ensures.happened (c.commit.ensures c.args.common.now.word c.args.common.now.tree)
