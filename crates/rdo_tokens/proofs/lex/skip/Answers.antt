use Rattle.std.proofs.Common.{ap, ◌∙◌, rules}
use Rattle.std.proofs.lemmas.List.{take_rest}
use Rattle.rdo_tokens.specs.Lex.{skip_from, after_comment}
use Rattle.rdo_tokens.proofs.LexLemmas.{skip_comment}
use Rattle.rdo_tokens.proofs.lex.skip.Goals as goal

pub loop-text-preserved : goal.loop-text-preserved
loop-text-preserved c =
    let e = c.after_comment-text.ensures.rest ∙ ap after_comment (take_rest c.loop-text.text.now 1) in
    (ap (skip_from 0) e ∙ skip_comment c.loop-text.text.now c.if-b-eq33.true ∙ c.loop-text.invariant.0, search rules)
