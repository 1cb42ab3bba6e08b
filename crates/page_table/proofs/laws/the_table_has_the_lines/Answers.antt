use Rattle.page_table.proofs.Present.{used_is_present, present_is_used}
use Rattle.page_table.proofs.laws.the_table_has_the_lines.Goals as goal

pub returns : goal.returns
returns c = λ image file pages table formed is key owner on_data. (used_is_present image file pages table formed is key owner on_data, present_is_used image file pages table formed is key owner on_data)
