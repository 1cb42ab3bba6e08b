use Rattle.std.proofs.Common.{◌∷◌, [], length}
use Rattle.slot_fields.proofs.Laws.{word_not_zeros}
use Rattle.rdb_page.proofs.head.read_head.Goals as goal

pub returns-then-is_zeros-clause-again : goal.returns-then-is_zeros-clause-again
returns-then-is_zeros-clause-again c = λ head is. absurd (word_not_zeros c.args.page.now (length c.args.page.now) 79 (65 ∷ 71 ∷ 69 ∷ []) (c.is_zeros.ensures.yes c.if-is_zeros.true) is.head.fields.0)

pub returns-in-None-clause-again : goal.returns-in-None-clause-again
returns-in-None-clause-again c = λ head is. absurd (c.in-None.ensures.none head is)
