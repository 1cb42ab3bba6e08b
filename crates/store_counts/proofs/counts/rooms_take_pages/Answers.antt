use Rattle.store_counts.proofs.Rooms.{takes-page, takes-nothing, takes-more}
use Rattle.store_counts.proofs.counts.rooms_take_pages.Goals as goal

pub returns-clause-taken : goal.returns-clause-taken
returns-clause-taken c = takes-page

pub returns-clause-nothing : goal.returns-clause-nothing
returns-clause-nothing c = takes-nothing

pub returns-clause-in_turn : goal.returns-clause-in_turn
returns-clause-in_turn c = takes-more
