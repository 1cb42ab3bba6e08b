use Rattle.std.proofs.Common.{◌≡◌, Ok, sym, ◌∙◌, ap}
use Rattle.rdo_parser.specs.declared.next.Parsed.TheVariants as parsed
use Rattle.rdo_parser.specs.Script.{parsed_at}
use Rattle.rdo_parser.proofs.ScriptLaws.{statement_moves, fault_moves}
use Rattle.rdo_parser.proofs.items.item_at.Goals as goal

pub fault-requires-clause-order : goal.fault-requires-clause-order
fault-requires-clause-order c = fault_moves c.args.text.now c.args.at _ c.requires.within (rw c.in-Err-Other.field-0-is at c.in-Err-Other.ensures)

pub returns-in-Ok-Statement-clause-moves : goal.returns-in-Ok-Statement-clause-moves
returns-in-Ok-Statement-clause-moves c =
    let e : parsed_at c.args.text.now c.args.at ≡ Ok (parsed.Statement c.in-Ok-Statement.statement c.in-Ok-Statement.next) = cc (c.in-Ok-Statement.ensures, c.in-Ok-Statement.field-0-is) in
    rw c.in-Ok-Statement.field-0-is (statement_moves c.args.text.now c.args.at c.in-Ok-Statement.next c.in-Ok-Statement.statement c.requires.within e)
