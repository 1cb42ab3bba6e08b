use Rattle.std.proofs.Common.{sym, subst}
use Rattle.rdo_ast.specs.declared.syntax.Statement.{Statement}
use Rattle.rdo_ast.specs.Tree.{said}
use Rattle.rdo_ast.specs.Views.{command_of}
use Rattle.rdo_exec.specs.Answers.{IsAnswered}
use Rattle.rdo_exec.specs.Ways.{IsBare}
use Rattle.rdo_exec.proofs.statements.bare.Goals as goal

pub act_bare-requires : goal.act_bare-requires
act_bare-requires c = subst (λ (s : Statement). IsBare (command_of s)) c.in-Act.is c.requires

pub returns : goal.returns
returns c = λ word. subst (λ (s : Statement). IsAnswered word c.args.standing.now (said (command_of s)) c.act_bare.result) (sym c.in-Act.is) (c.act_bare.ensures word)
