use Rattle.rdo_parser.proofs.ScriptLaws.{fault_moves}
use Rattle.rdo_parser.proofs.next.next_statement.Goals as goal

pub syntax_at-requires-clause-within : goal.syntax_at-requires-clause-within
syntax_at-requires-clause-within c = (fault_moves c.args.text.now c.args.at _ c.requires.within (rw c.in-Err-Other.field-0-is at c.in-Err-Other.ensures)).1
