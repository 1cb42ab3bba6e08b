use Rattle.std.proofs.Common.{◌+◌, ◌++◌, ◌∙◌, sym, ap}
use Rattle.rdb_account.specs.Transcript.{transcript}
use Rattle.rdb_top.proofs.Upward.{transcripts-more}
use Rattle.rdb_top.proofs.scripts.render_all.Goals as goal

pub loop-done-preserved : goal.loop-done-preserved
loop-done-preserved c =
    c.in_ok-transcript.ensures ∙ (ap (λ bs. bs ++ transcript (c.loop-done.done + 1) c.args.events.now) c.loop-done.invariant ∙ sym (transcripts-more c.loop-done.done c.args.events.now))
