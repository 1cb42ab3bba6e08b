use Rattle.std.proofs.Common.{sym, ap, ◌∙◌}
use Rattle.member_rooms.specs.Rooms.{image_of}
use Rattle.member_rooms.proofs.rooms.has_image.Goals as goal

pub returns-in-Some-clause-yes : goal.returns-in-Some-clause-yes
returns-in-Some-clause-yes c is = (c.in-Some.line.now.image, ap image_of (sym c.in-Some.ensures.found) ∙ c.is_present.ensures.yes is)
