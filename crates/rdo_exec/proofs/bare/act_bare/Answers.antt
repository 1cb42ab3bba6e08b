use Rattle.std.proofs.Common.{[]}
use Rattle.rdo_ast.specs.Views.{act_of}
use Rattle.line_view.specs.Held.{knows}
use Rattle.rdo_exec.proofs.Alone.{settled, alone_answers}
use Rattle.rdo_exec.proofs.bare.act_bare.Goals as goal

pub alone-requires : goal.alone-requires
alone-requires c =
    settled [] c.args.standing.now (act_of c.args.action.now) (knows c.in-Ok.known) c.act_by-found.result.found c.requires c.in-Ok.ensures (c.act_by-found.ensures.comes []) c.act_by-found.ensures.stays

pub returns-in-Ok-schema_of : goal.returns-in-Ok-schema_of
returns-in-Ok-schema_of c = λ word.
    alone_answers word c.args.standing.now (act_of c.args.action.now) (knows c.in-Ok.known) c.act_by-found.result.found c.alone.result c.requires c.in-Ok.ensures (c.act_by-found.ensures.comes word) c.alone.ensures
