use Rattle.committed_tables.proofs.Finding.{room_free}
use Rattle.committed_tables.proofs.laws.rooms_are_free.Goals as goal

pub returns : goal.returns
returns c = λ pages file lines area class from key was owner is. room_free pages file lines area from was owner class key is
