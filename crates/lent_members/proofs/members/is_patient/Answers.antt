use Rattle.lent_members.proofs.members.is_patient.Goals as goal

pub returns-in-Here : goal.returns-in-Here
returns-in-Here g c = rw (← c.member.view_is) (rw c.in-Here.is c.is_patient_here.ensures)

pub returns-in-Away : goal.returns-in-Away
returns-in-Away g c = rw (← c.member.view_is) (rw c.in-Away.is (c.is_patient_away.ensures c.in-Away.field-1))

pub returns-in-Back : goal.returns-in-Back
returns-in-Back g c = rw (← c.member.view_is) (rw c.in-Back.is (c.is_patient_away-in-Back.ensures c.in-Back.field-1.job))
