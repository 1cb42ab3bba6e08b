use Rattle.std.proofs.Common.{refl}
use Rattle.gathering_steps.specs.session_states.declared.stage.Gather.TheVariants.{Lodging as LodgingOf}
use Rattle.gathering_steps.specs.session_states.declared.stage.Stage.TheVariants.{Gathering}
use Rattle.gathering_steps.proofs.of_stage_steps.Resting.{as-before}
use Rattle.room_steps.proofs.lodging.settle.Goals as goal

pub returns-then-not-is_absent-clause-comes : goal.returns-then-not-is_absent-clause-comes
returns-then-not-is_absent-clause-comes g c =
    c.let_go.ensures.comes c.args.given.room c.args.given.key

pub returns-then-is_err-clause-comes : goal.returns-then-is_err-clause-comes
returns-then-is_err-clause-comes g c =
    c.forgo.ensures.forgoes c.args.common.now.tree (Gathering c.args.round.item (LodgingOf c.args.given.room c.args.given.key) c.args.round.later c.args.round.place) (as-before c.args.common.now.tree) refl refl

pub returns-then-is_err-clause-nearer : goal.returns-then-is_err-clause-nearer
returns-then-is_err-clause-nearer g c b d t room key left total = c.forgo.ensures.nearer b d _ left total refl
