use Rattle.std.proofs.Common.{ap, ◌∙◌}
use Rattle.line_versions.specs.Lines.{shown}
use Rattle.stable_lines.proofs.Unique.{one_line}
use Rattle.before_images.proofs.laws.laid_lines_show.Goals as goal

pub returns : goal.returns
returns c = λ image groups held lines lays stands key.
    ap shown (one_line image groups key _ _ (lays key) (stands.each key).is) ∙ (stands.each key).shows
