use Rattle.std.proofs.Common.{◌≡◌, ◌*◌, ◌++◌, ◌∙◌, take, drop}
use Rattle.rmu_texts.specs.Page.{bytes_line}
use Rattle.rmu_texts.proofs.Lines.{one_more, nothing_yet}
use Rattle.rmu_texts.proofs.page.page_text.Goals as goal

pub loop-line-init : goal.loop-line-init
loop-line-init c = nothing_yet c.args.page.now c.args.out.now

pub loop-line-preserved : goal.loop-line-preserved
loop-line-preserved c =
    let line = c.loop-line.line in
    let page = c.args.page.now in
    let part : c.bytes_at.result.now ≡ take 16 (drop (16 * line) page) = c.bytes_at.ensures.value in
    c.in_ok-bytes_line.ensures
    ∙ (λ i. c.loop-line.invariant i ++ bytes_line (16 * line) (part i))
    ∙ one_more page c.args.out.now line
