use Rattle.std.proofs.Common.{rules, ◌≡◌, ◌≢◌, ℕ, ◌≤◌, ◌∙◌, ap, sym, arith, below_more}
use Rattle.rdb_page.specs.Page.{class_at, lines_of}
use Rattle.rdb_page.specs.Lines.{line_place}
use Rattle.database_opening.specs.stable_lines.Slots.{said_at}
use Rattle.database_opening.proofs.of_line_moves.Reading.{owner_is, class_is}
use Rattle.database_opening.proofs.of_line_moves.Spots.{no_line}
use Rattle.database_opening.proofs.of_line_moves.Runs.{on_err}
use Rattle.page_table.specs.declared.uses.PageUse.{PageUse}
use Rattle.page_table.specs.Pages.{state_in}
use Rattle.page_table.proofs.Said.{none_has, states_are}
use Rattle.page_table.proofs.reading.with_states.Goals as goal

pub loop-line-init : goal.loop-line-init
loop-line-init c = record {
  owner = search rules;
  class = search rules;
  here = λ line less. absurd (omega (arith, less));
  none = λ line le. ap (λ (u : PageUse). state_in u line) c.empty-used.ensures ∙ none_has line;
}

pub returns-in_err-state-clause-refused : goal.returns-in_err-state-clause-refused
returns-in_err-state-clause-refused c =
    on_err _ c.from_residual.result (no_line c.args.page.now c.args.file c.args.head.page c.args.head c.loop-line.line c.requires.head (search rules) (λ value is. c.in_err-state.ensures.none value is))

pub loop-line-preserved : goal.loop-line-preserved
loop-line-preserved c = let so_far = c.loop-line.invariant in let end = c.loop-line.line in let page = c.args.page.now in record {
  owner = c.with_line-used.ensures.owner ∙ so_far.owner;
  class = c.with_line-used.ensures.class ∙ so_far.class;
  here = below_more (λ (line : ℕ). state_in c.with_line-used.result line ≡ (said_at (line_place (class_at page) line) page).state) end
      (λ line less. let apart : line ≢ end = omega (arith, less) in c.with_line-used.ensures.others line apart ∙ so_far.here line less)
      (c.with_line-used.ensures.here ∙ c.in_ok-state.ensures.found);
  none = λ line le. let apart : line ≢ end = omega (arith, le) in c.with_line-used.ensures.others line apart ∙ so_far.none line (omega (arith, le));
}

pub returns-clause-says : goal.returns-clause-says
returns-clause-says c = let so_far = c.loop-line.invariant in let page = c.args.page.now in let head = c.args.head in
    let past : lines_of head.class ≤ c.loop-line.line = search rules in
    let end : c.loop-line.line ≤ lines_of head.class = search rules in
    record {
      owner = so_far.owner ∙ sym (owner_is page head c.requires.head.head);
      class = so_far.class ∙ sym (class_is page head c.requires.head.head);
      states = states_are c.args.file page head c.requires.head c.requires.page c.loop-line.used.lines (λ line less. so_far.here line (omega (arith, less, past))) (λ line le. so_far.none line (omega (arith, le, end)));
    }
