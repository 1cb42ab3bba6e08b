use Rattle.std.proofs.Common.{sym}
use Rattle.lent_members.proofs.Absent.{out-takes-none}
use Rattle.lent_members.proofs.members.takes_item.Goals as goal

pub returns-in-Here : goal.returns-in-Here
returns-in-Here g c = rw (← c.member.view_is) (rw c.in-Here.is c.takes_item_here.ensures)

pub returns-in-Away : goal.returns-in-Away
returns-in-Away g c = rw (← c.member.view_is) (rw c.in-Away.is (sym (out-takes-none c.member.inside.left c.in-Away.field-1 c.in-Away.field-0)))

pub returns-in-Back : goal.returns-in-Back
returns-in-Back g c = rw (← c.member.view_is) (rw c.in-Back.is (sym (out-takes-none c.member.inside.left c.in-Back.field-1.job c.in-Back.field-0)))
