-- Writes counted by their lines.
use Rattle.std.proofs.Common.{◌≡◌, ℕ, ◌+◌, ◌≤◌, ◌<◌, ◌||◌, Bool, true, false, cond, List, [], ◌∷◌, ◌++◌, take, drop, get_or, length, Option, Some, None, refl, sym, ap, ◌∙◌, zero-add, arith, Bor}
use Rattle.std.specs.Prelude.{is_some, if◌then◌else◌, OnSome}
use Rattle.std.specs.Option.{option_copied}
use Rattle.std.proofs.lemmas.Option.{none-some}
use Rattle.std.proofs.lemmas.Bool.{true≢false}
use Rattle.std.specs.Ordering.{is_eq}
use Rattle.std.specs.FinMap.Entries.{find}
use Rattle.std.proofs.lemmas.List.{take_more, take-append-drop}
use Rattle.rdb_types.specs.declared.keys.Dbkey.{Dbkey}
use Rattle.rdb_types.specs.declared.keys.Line.{Line}
use Rattle.rdb_types.specs.Order.{dbkey_order}
use Rattle.line_view.specs.declared.writes.Write.{Write}
use Rattle.line_store.specs.Seats.{is_written, lines_added}
use Rattle.member_memory.specs.Memory.{writes_in}
use Rattle.member_memory.specs.Changes.{behind}

pub is-none : {X : Type 0} (x : Option X) → is_some x ≡ false → x ≡ None
is-none None h = refl
is-none (Some x) h = absurd (true≢false h)

pub on-some : {X : Type 0} (r : Option X) (x : X) (P : Type 0) → r ≡ Some x → OnSome r P → P
on-some None x P is holds = absurd (none-some x is)
on-some (Some y) x P is holds = holds

pub copied-some : {X : Type 0} (x : Option (Bor X)) → is_some (option_copied x) ≡ is_some x
copied-some None = refl
copied-some (Some x) = refl

pub behind-in-turn : (before xs ys : List Write) → behind before (xs ++ ys) ≡ behind (behind before xs) ys
behind-in-turn before [] ys = refl
behind-in-turn before (x ∷ xs) ys = behind-in-turn (x ∷ before) xs ys

pub added-in-turn : (before xs ys : List Write) → lines_added before (xs ++ ys) ≡ lines_added before xs + lines_added (behind before xs) ys
added-in-turn before [] ys = sym (zero-add _)
added-in-turn before (x ∷ xs) ys = omega (arith, added-in-turn (x ∷ before) xs ys)

either : (a b c : Bool) → ((a || b) || c) ≡ (b || (a || c))
either true true c = refl
either true false c = refl
either false true c = refl
either false false c = refl

neither : (b : Bool) → b ≡ (b || false)
neither true = refl
neither false = refl

-- what is written is written before or now
pub written-behind : (key : Dbkey) (before ws : List Write) → is_written key (behind before ws) ≡ (is_written key before || is_written key ws)
written-behind key before [] = neither _
written-behind key before (w ∷ ws) = written-behind key (w ∷ before) ws ∙ either (is_eq (dbkey_order key w.key)) (is_written key before) (is_written key ws)

-- the lines that wait are those that are written
pub written-in : (key : Dbkey) (lines : List (Dbkey × Line)) → is_written key (writes_in lines) ≡ is_some (find dbkey_order key lines)
written-in key [] = refl
written-in key (e ∷ es) = elim (is_eq (dbkey_order key e.0)) as (λ b. (b || is_written key (writes_in es)) ≡ is_some (cond b (Some e.1) (find dbkey_order key es))) [
  | true ↦ refl
  | false ↦ written-in key es
]

-- one write more
pub taken-one : (ws : List Write) (n : ℕ) (w : Write) → n < length ws → w ≡ get_or ws n w → take (n + 1) ws ≡ take n ws ++ w ∷ []
taken-one ws n w within is = take_more ws n w within ∙ ap (λ (v : Write). take n ws ++ v ∷ []) (sym is)

pub one-behind : (before ws : List Write) (n : ℕ) (w : Write) → n < length ws → w ≡ get_or ws n w → behind before (take (n + 1) ws) ≡ w ∷ behind before (take n ws)
one-behind before ws n w within is = ap (behind before) (taken-one ws n w within is) ∙ behind-in-turn before (take n ws) (w ∷ [])

pub one-added : (before ws : List Write) (n : ℕ) (w : Write) → n < length ws → w ≡ get_or ws n w → lines_added before (take (n + 1) ws) ≡ lines_added before (take n ws) + (if is_written w.key (behind before (take n ws)) then 0 else 1)
one-added before ws n w within is =
    ap (lines_added before) (taken-one ws n w within is) ∙ added-in-turn before (take n ws) (w ∷ []) ∙ omega arith

-- those of the first writes are no more than those of all
pub first-added : (before ws : List Write) (n : ℕ) → lines_added before (take n ws) ≤ lines_added before ws
first-added before ws n = omega (arith, ap (lines_added before) (sym (take-append-drop n ws)) ∙ added-in-turn before (take n ws) (drop n ws))
