use Rattle.std.proofs.Common.{◌≡◌, ℕ, ◌≤◌, ◌<◌}
use Rattle.rdb_types.specs.declared.keys.LineState.TheVariants.{Never}
use Rattle.rdb_page.specs.Page.{class_at}
use Rattle.rdb_page.specs.Lines.{line_place}
use Rattle.database_opening.specs.stable_lines.Slots.{said_at}
use Rattle.page_table.specs.Pages.{state_in}
use Rattle.page_table.proofs.reading.with_states.Given as goal

abbrev pub invariant-loop-line : goal.invariant-loop-line
invariant-loop-line l = record {
  owner : l.used.owner ≡ l.fn.head.owner;
  class : l.used.class ≡ l.fn.head.class;
  here : (line : ℕ) → line < l.line → state_in l.used line ≡ (said_at (line_place (class_at l.page) line) l.page).state;
  none : (line : ℕ) → l.line ≤ line → state_in l.used line ≡ Never;
}
