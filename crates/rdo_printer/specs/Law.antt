-- What it means that printed words, texts and scripts are read as what they were printed from.
use Rattle.std.specs.Prelude.{◌≡◌, ◌-◌, false, List, ◌++◌, map, length, Ok}
use Rattle.std.specs.List.{AllByRecursion}
use Rattle.rdo_ast.specs.declared.syntax.Statement.{Statement}
use Rattle.rdo_ast.specs.Tree.{Command, said}
use Rattle.rdo_ast.specs.Views.{command_of, uttered_of}
use Rattle.rdo_tokens.specs.Lex.{Text, tokens}
use Rattle.rdo_tokens.specs.Input.{Input, left}
use Rattle.rdo_parser.specs.declared.next.Parsed.TheVariants as parsed
use Rattle.rdo_parser.specs.Statements.{pointed}
use Rattle.rdo_parser.specs.Script.{ends_in_stop, next_statement, script_items}
use Rattle.rdo_labels.specs.Alike.{Descends}
use Rattle.rdo_printer.specs.Words.{AreSpelled}
use Rattle.rdo_printer.specs.Commands.{command_words, command_text, script_text}
use Rattle.rdo_printer.specs.Printable.{IsPrintable}

-- The words of a statement are read as that statement, whatever tokens stand behind them and whatever their labels are, so long as these descend.
abbrev pub WordsAreRead : Type 0
WordsAreRead = (c : Command) → IsPrintable c → (words other : Input) → AreSpelled (command_words c) words → Descends (words ++ other) → (x : Statement) × (pointed (words ++ other) ≡ Ok (x, other)) × (command_of x ≡ c)

-- The text of a statement is read as that statement, whatever stands before and behind it. The place behind it is that of the next token.
abbrev pub TextIsRead : Type 0
TextIsRead = (c : Command) → IsPrintable c → (before rest : Text) →
    (x : Statement) × (next_statement (before ++ (command_text c ++ rest)) (length before) ≡ Ok (parsed.Statement x (length (before ++ (command_text c ++ rest)) - left (tokens rest)))) × (command_of x ≡ c)

-- The items of a script of printed statements are these statements, in their order.
abbrev pub ScriptIsRead : Type 0
ScriptIsRead = (cs : List Command) → AllByRecursion IsPrintable cs → map uttered_of (script_items (script_text cs)) ≡ map said cs

-- It comes to no `$ STOP`.
abbrev pub ScriptIsWhole : Type 0
ScriptIsWhole = (cs : List Command) → AllByRecursion IsPrintable cs → ends_in_stop (script_text cs) ≡ false
