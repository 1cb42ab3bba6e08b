use Rattle.std.proofs.Common.{[], ap, ◌∙◌}
use Rattle.rdb_types.specs.Order.{dbkey_order}
use Rattle.rdb_types.specs.OrderLaws.{dbkey_total}
use Rattle.line_view.specs.Knowledge.{Lines}
use Rattle.sound_lines.specs.Gathered.{put_all}
use Rattle.sound_lines.proofs.Gathering.{gathered}
use Rattle.rmu_verify.proofs.lines.images_of.Goals as goal

pub loop-entry-init : goal.loop-entry-init
loop-entry-init c =
    ap (λ (l : Lines). put_all dbkey_order l c.as_slice-entry-items.result.now) c.new-images.ensures
    ∙ ap (λ (l : Lines). put_all dbkey_order [] l) c.as_slice-entry-items.ensures.value
    ∙ gathered dbkey_order dbkey_total c.args.lines.now c.as_slice-entry-items.ensures.ordered
