use Rattle.std.proofs.Common.{sym, subst}
use Rattle.relation_rows.specs.Stored.{IsAreaKnown}
use Rattle.lines_at_rest.specs.View.{HeldArea, knows}
use Rattle.areas_at_rest.proofs.Known.{view_knows}
use Rattle.areas_at_rest.proofs.areas.view_of.Goals as goal

pub returns-in-Ok-clause-known : goal.returns-in-Ok-clause-known
returns-in-Ok-clause-known g c =
    subst (λ (h : HeldArea). IsAreaKnown (knows h) c.args.area) (sym c.in-Ok.ensures.held) (view_knows c.args.area c.in_ok-lines.lines)

pub returns-in-Ok-clause-agrees : goal.returns-in-Ok-clause-agrees
returns-in-Ok-clause-agrees g c = λ file owner t left so groups lines lays stands.
    c.in-Ok.ensures.agrees lines stands.in_order (c.in_ok-lines.ensures.lines t file owner left so groups lines lays stands)
