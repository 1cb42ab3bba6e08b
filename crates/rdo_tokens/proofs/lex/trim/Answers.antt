use Rattle.std.proofs.Common.{sym, ◌∙◌, ap}
use Rattle.rdo_tokens.specs.Lex.{ends_blank}
use Rattle.rdo_tokens.proofs.TrimLemmas.{trimmed-popped, trimmed-kept}
use Rattle.rdo_tokens.proofs.lex.trim.Goals as goal

pub blanks-preserved : goal.blanks-preserved
blanks-preserved c = trimmed-popped _ _ c.pop.result c.pop.ensures (ap ends_blank (sym c.as_slice.ensures) ∙ sym c.ends_blank.ensures ∙ c.blanks-test.true) ∙ c.blanks.invariant

pub returns : goal.returns
returns c = sym (trimmed-kept _ (ap ends_blank (sym c.as_slice.ensures) ∙ sym c.ends_blank.ensures ∙ c.blanks-test.false)) ∙ c.blanks.invariant
