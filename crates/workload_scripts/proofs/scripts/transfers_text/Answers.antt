use Rattle.std.proofs.Common.{◌≡◌, ◌++◌, ◌∙◌, ap}
use Rattle.workload_scripts.specs.Draws.{transfer_drawn, behind_transfer, behind_transfers}
use Rattle.workload_scripts.specs.Texts.{transfer_text}
use Rattle.workload_scripts.proofs.Turns.{no_transfer, none_drawn, transfer_more, drawn_more}
use Rattle.workload_scripts.proofs.scripts.transfers_text.Goals as goal

pub loop-made-init : goal.loop-made-init
loop-made-init c = record {
  text = no_transfer c.args.accounts c.args.number c.args.out.now;
  last = none_drawn c.args.number;
}

pub loop-made-preserved : goal.loop-made-preserved
loop-made-preserved c =
    let made = c.loop-made._made in
    let drawn : c.draw_transfer-drawn.result.transfer ≡ transfer_drawn c.args.accounts (behind_transfers c.args.number made) =
    c.draw_transfer-drawn.ensures.transfer ∙ ap (transfer_drawn c.args.accounts) c.loop-made.invariant.last in
    record {
      text = c.in_ok-transfer_text.ensures
          ∙ (λ i. c.loop-made.invariant.text i ++ transfer_text (drawn i))
          ∙ transfer_more c.args.accounts c.args.number made c.args.out.now;
      last = c.draw_transfer-drawn.ensures.number ∙ ap behind_transfer c.loop-made.invariant.last ∙ drawn_more c.args.number made;
    }
