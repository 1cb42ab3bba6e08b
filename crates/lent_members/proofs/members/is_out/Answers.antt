use Rattle.std.proofs.Common.{◌∙◌, sym}
use Rattle.lent_members.proofs.members.is_out.Goals as goal

pub returns-in-Here : goal.returns-in-Here
returns-in-Here g c e = rw (← c.member.view_is) (rw c.in-Here.is (sym c.is_out_here.ensures ∙ e))
