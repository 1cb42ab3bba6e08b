use Rattle.sound_lines.proofs.LaidRows.{row_put, row_erased, others_stay}
use Rattle.sound_lines.proofs.laws.rows_follow_lines.Goals as goal

pub returns : goal.returns
returns c = record { put = row_put; erase = row_erased; apart = others_stay }
