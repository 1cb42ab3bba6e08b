use Rattle.member_rooms.proofs.Seen.{room-is, full-is}
use Rattle.member_rooms.proofs.laws.rooms_beside_are_shown.Goals as goal

pub returns-clause-room : goal.returns-clause-room
returns-clause-room c = λ tables h lines s file area class from key has owner committed sorted sees room. room-is tables h lines s file area has owner sorted sees class from key committed room

pub returns-clause-full : goal.returns-clause-full
returns-clause-full c = λ tables h lines s file area has owner sorted sees none. full-is tables h lines s file area has owner sorted sees none
