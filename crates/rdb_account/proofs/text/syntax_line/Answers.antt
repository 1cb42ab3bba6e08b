use Rattle.std.proofs.Common.{append_assoc}
use Rattle.rdb_account.proofs.text.syntax_line.Goals as goal

pub returns : goal.returns
returns c =
    rw (
      c.in_ok-extend-3.ensures.ok,
      c.in_ok-decimal_text-2.ensures,
      c.in_ok-extend-2.ensures.ok,
      c.in_ok-decimal_text.ensures,
      c.in_ok-extend.ensures.ok,
    ) (simp append_assoc)
