-- A script has no more items than bytes, and one.
use Rattle.std.proofs.Common.{◌≤◌, ◌≡◌, ◌<◌, ◌^◌, ◌-◌, ◌++◌, ◌∷◌, ℕ, zero, suc, List, [], length, Option, Some, None, Result, Ok, Err, IfOk, All, subst, sym, arith}
use Rattle.std.proofs.lemmas.List.Elements.{All-push}
use Rattle.rdb_types.specs.declared.memory.NoMemory.{NoMemory}
use Rattle.rdo_ast.specs.declared.syntax.Item.{Item}
use Rattle.rdo_tokens.specs.Lex.{Text}
use Rattle.rdo_parser.specs.declared.items.Found.{Found}
use Rattle.session_states.specs.declared.item_queue.WholeScript.{WholeScript}
use Rattle.rdo_parser.specs.Script.{items_within, items_from, item_at, script_items, with_behind}
use Rattle.script_queues.specs.Scripts.{whole_script}

behind-few : (found : Option Found) (behind : ℕ → List Item) (n : ℕ) → ((next : ℕ) → length (behind next) ≤ n) → length (with_behind found behind) ≤ suc n
behind-few None behind n h = omega arith
behind-few (Some x) behind n h = let k = h x.next in omega (arith, k)

few-within : (script : Text) (n at : ℕ) → length (items_within script n at) ≤ n
few-within script zero at = omega arith
few-within script (suc n) at = behind-few (item_at script at) (items_within script n) n (λ next. few-within script n next)

below : (items bytes : ℕ) → items ≤ suc (bytes - 0) → bytes ≤ 1048576 → items < 2 ^ 32
below items bytes h k = omega (arith, h, k)

pub few-items : (script : Text) → length script ≤ 1048576 → length (script_items script) < 2 ^ 32
unfolding items_from
few-items script h = below (length (script_items script)) (length script) (few-within script (suc (length script - 0)) 0) h

pub few-whole : (result : Result WholeScript NoMemory) (text : Text) → IfOk result (λ script. script ≡ whole_script text) → length text ≤ 1048576 → IfOk result (λ script. length script.items < 2 ^ 32)
few-whole (Ok x) text is h = subst (λ (script : WholeScript). length script.items < 2 ^ 32) (sym is) (few-items text h)
few-whole (Err e) text is h = tt

pub few-more : (now old : List WholeScript) (x : WholeScript) → now ≡ old ++ x ∷ [] → All (λ script. length script.items < 2 ^ 32) old → length x.items < 2 ^ 32 → All (λ script. length script.items < 2 ^ 32) now
few-more now old x e h k = subst (λ (xs : List WholeScript). All (λ (script : WholeScript). length script.items < 2 ^ 32) xs) (sym e) (All-push (λ (script : WholeScript). length script.items < 2 ^ 32) old x h k)
