use Rattle.store_shows.proofs.Taken.{room_is, full_is}
use Rattle.store_shows.proofs.rooms.rooms_are_shown.Goals as goal

pub returns-clause-room : goal.returns-clause-room
returns-clause-room c = λ tables h s file area class from key has owner is none. room_is tables h s file area class from has owner key is none

pub returns-clause-full : goal.returns-clause-full
returns-clause-full c = λ tables h s file area class from has owner none. full_is tables h s file area class from has owner none
