-- The statements and the items of a script. A place in it is a count of the bytes before.
use Rattle.std.specs.Prelude.{◌≡◌, ◌≤◌, ℕ, zero, suc, ◌+◌, ◌-◌, Bool, true, false, ◌&&◌, List, [], ◌∷◌, length, take, drop, Option, Some, None, Result, Ok, Err}
use Rattle.rdb_types.specs.declared.memory.OrMemory.{OrMemory}
use Rattle.rdb_types.specs.declared.memory.OrMemory.TheVariants.{Memory, Other}
use Rattle.rdo_ast.specs.declared.syntax.Statement.{Statement}
use Rattle.rdo_ast.specs.declared.syntax.Item.{Item}
use Rattle.rdo_ast.specs.declared.syntax.Item.TheVariants as item
use Rattle.rdo_tokens.specs.declared.token.Kind.TheVariants as k
use Rattle.rdo_tokens.specs.Lex.{Text, tokens}
use Rattle.rdo_tokens.specs.Input.{Input, Outcome, left, next, sees}
use Rattle.rdo_parser.specs.declared.next.Parsed.{Parsed}
use Rattle.rdo_parser.specs.declared.next.Parsed.TheVariants as parsed
use Rattle.rdo_parser.specs.declared.next.SyntaxAt.{SyntaxAt}
use Rattle.rdo_parser.specs.declared.items.Found.{Found}
use Rattle.rdo_parser.specs.Places.{place_behind, line_len}
use Rattle.rdo_parser.specs.Statements.{pointed}

-- ---- the next statement

-- `$ STOP` comes next
unfoldable pub begins_stop : Input → Bool
begins_stop i = sees k.Dollar i && sees k.Stop (next i)

abbrev pub refused_in : Text → Bool → Input → Result Parsed ℕ
refused_in script true rest = Ok parsed.Stop
refused_in script false rest = Err (length script - left rest)

abbrev pub outcome_in : Text → Bool → Outcome Statement → Result Parsed ℕ
outcome_in script stops (Ok p) = Ok (parsed.Statement p.0 (length script - left p.1))
outcome_in script stops (Err rest) = refused_in script stops rest

abbrev pub parsed_in : Text → Input → Result Parsed ℕ
parsed_in script [] = Ok parsed.End
parsed_in script (t ∷ ts) = outcome_in script (begins_stop (t ∷ ts)) (pointed (t ∷ ts))

-- a statement and the place behind it, or the end, or a stop, or the place of the offending token
unfoldable pub parsed_at : Text → ℕ → Result Parsed ℕ
parsed_at script at = parsed_in script (tokens (drop at script))

-- the fault of a token; reading goes on at the start of the line after it
unfoldable pub syntax_at : Text → ℕ → SyntaxAt
syntax_at script at =
    let p = place_behind (take at script) in record { line = p.line; column = p.column; resume = at + line_len (drop at script) }

abbrev pub with_fault : Text → Result Parsed ℕ → Result Parsed SyntaxAt
with_fault script (Ok x) = Ok x
with_fault script (Err at) = Err (syntax_at script at)

-- the next statement from a place on, or the fault
unfoldable pub next_statement : Text → ℕ → Result Parsed SyntaxAt
next_statement script at = with_fault script (parsed_at script at)

-- ---- all items

abbrev pub fault_found : SyntaxAt → Found
fault_found e = record { item = item.SyntaxAt e.line e.column; next = e.resume }

-- an item and the place where reading goes on, or nothing at the end and at a stop
abbrev pub found_in : Result Parsed SyntaxAt → Option Found
found_in (Ok (parsed.Statement x next)) = Some (record { item = item.Statement x; next = next })
found_in (Ok parsed.End) = None
found_in (Ok parsed.Stop) = None
found_in (Err e) = Some (fault_found e)

unfoldable pub item_at : Text → ℕ → Option Found
item_at script at = found_in (next_statement script at)

-- an item, and the items behind it
abbrev pub with_behind : Option Found → (ℕ → List Item) → List Item
with_behind None behind = []
with_behind (Some x) behind = x.item ∷ behind x.next

-- The number bounds the items.
abbrev pub items_within : Text → ℕ → ℕ → List Item
items_within script zero at = []
items_within script (suc n) at = with_behind (item_at script at) (items_within script n)

-- the items from a place on; each takes a byte, so that there are no more of them than bytes
unfoldable pub items_from : Text → ℕ → List Item
items_from script at = items_within script (suc (length script - at)) at

abbrev pub script_items : Text → List Item
script_items script = items_from script 0

-- The items from a place on are the one that is read there, and those from the place on where reading goes on.
abbrev pub ItemsInOrder : Type 0
ItemsInOrder = (script : Text) (at : ℕ) → at ≤ length script → items_from script at ≡ with_behind (item_at script at) (items_from script)

-- ---- the end of the items

-- whether `$ STOP` stands at this place
abbrev pub stops_at : Text → ℕ → Bool
stops_at script at = begins_stop (tokens (drop at script))

-- whether the items come to a stop: here where there is none, or behind the one that is here
abbrev pub with_end : Option Found → Bool → (ℕ → Bool) → Bool
with_end None here behind = here
with_end (Some x) here behind = behind x.next

abbrev pub stops_within : Text → ℕ → ℕ → Bool
stops_within script zero at = false
stops_within script (suc n) at = with_end (item_at script at) (stops_at script at) (stops_within script n)

-- whether the items from a place on come to a `$ STOP`. Nothing behind it is read.
unfoldable pub stops_from : Text → ℕ → Bool
stops_from script at = stops_within script (suc (length script - at)) at

abbrev pub ends_in_stop : Text → Bool
ends_in_stop script = stops_from script 0

-- They do so where the item that is read there is followed by such, or where a `$ STOP` stands in place of an item.
abbrev pub StopInOrder : Type 0
StopInOrder = (script : Text) (at : ℕ) → at ≤ length script → stops_from script at ≡ with_end (item_at script at) (stops_at script at) (stops_from script)

-- ---- what functions ensure

abbrev pub Gives : {A E : Type 0} → Result A E → Result A (OrMemory E) → Type 0
Gives outcome (Ok x) = outcome ≡ Ok x
Gives outcome (Err Memory) = Unit {0}
Gives outcome (Err (Other e)) = outcome ≡ Err e
