use Rattle.std.proofs.Common.{ap, length, ◌∙◌}
use Rattle.areas_at_rest.proofs.areas.count_lines.Goals as goal

pub returns-clause-count : goal.returns-clause-count
returns-clause-count g c = λ file owner t left so groups lines lays stands. c.len.ensures ∙ ap length (c.in_ok-found.ensures.lines t file owner left so groups lines lays stands)
