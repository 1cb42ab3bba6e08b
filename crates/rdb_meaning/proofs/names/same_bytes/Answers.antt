use Rattle.std.proofs.Common.{◌∙◌, sym}
use Rattle.std.proofs.lemmas.Map.Text.{is_eq-slice_cmp}
use Rattle.rdb_meaning.proofs.names.same_bytes.Goals as goal

pub returns-clause-order : goal.returns-clause-order
returns-clause-order c = c.eq.ensures ∙ sym (is_eq-slice_cmp c.args.a.now c.args.b.now)
