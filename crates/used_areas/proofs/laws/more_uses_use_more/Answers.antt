use Rattle.used_areas.proofs.More.{read_left, read_right, changed_left, changed_right, changed_is_read}
use Rattle.used_areas.proofs.laws.more_uses_use_more.Goals as goal

pub returns : goal.returns
returns c = record { read = read_left; read_too = read_right; changed = changed_left; changed_too = changed_right; is_read = changed_is_read }
