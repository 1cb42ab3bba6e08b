-- What a transaction wrote, counted: each line has one key, and each key one line.
use Rattle.std.proofs.Common.{◌≡◌, ℕ, ◌||◌, Bool, true, false, if◌then◌else◌, List, [], ◌∷◌, length, is_lt, refl, sym, ap, ◌∙◌, arith}
use Rattle.std.specs.List.{AllByRecursion}
use Rattle.std.specs.Ordering.{is_eq, ordering_reverse}
use Rattle.std.specs.declared.cmp.Ordering.{Ordering}
use Rattle.std.specs.declared.cmp.Ordering.TheVariants.{Less, Equal, Greater}
use Rattle.std.specs.FinMap.Entries.{is_sorted, below_all}
use Rattle.std.proofs.lemmas.Bool.{false≢true, and_parts}
use Rattle.rdb_types.specs.declared.keys.Dbkey.{Dbkey}
use Rattle.rdb_types.specs.declared.keys.Line.{Line}
use Rattle.rdb_types.specs.Order.{dbkey_order}
use Rattle.rdb_types.specs.OrderLaws.{dbkey_total}
use Rattle.line_view.specs.declared.writes.Write.{Write}
use Rattle.line_store.specs.Seats.{is_written, lines_added, lines_written}
use Rattle.member_memory.specs.Memory.{AreKeysOf, write_at, writes_in}

-- none of these lines is written
abbrev NoneOf : List Write → List (Dbkey × Line) → Type 0
NoneOf before = AllByRecursion (λ e. is_written e.0 before ≡ false)

apart : (o : Ordering) → is_lt o ≡ true → is_eq (ordering_reverse o) ≡ false
apart Less h = refl
apart Equal h = absurd (false≢true h)
apart Greater h = refl

either-none : (a b : Bool) → a ≡ false → b ≡ false → (a || b) ≡ false
either-none a b h k = rw h k

-- nor one more that stands before them
none-more : (e : Dbkey × Line) (before : List Write) (es : List (Dbkey × Line)) → below_all dbkey_order e.0 es ≡ true → NoneOf before es → NoneOf (write_at e ∷ before) es
none-more e before [] low none = tt
none-more e before (d ∷ ds) low none =
    let parts = and_parts (is_lt (dbkey_order e.0 d.0)) (below_all dbkey_order e.0 ds) low in (
      either-none (is_eq (dbkey_order d.0 e.0)) (is_written d.0 before) (ap is_eq (dbkey_total.antisymm d.0 e.0) ∙ apart (dbkey_order e.0 d.0) parts.0) none.0,
      none-more e before ds parts.1 none.1,
    )

new-line : (b : Bool) → b ≡ false → ◌≡◌ {A = ℕ} (if b then 0 else 1) 1
new-line b h = rw h refl

each-once : (before : List Write) (es : List (Dbkey × Line)) → is_sorted dbkey_order es ≡ true → NoneOf before es → lines_added before (writes_in es) ≡ length es
each-once before [] sorted none = refl
each-once before (e ∷ es) sorted none =
    let parts = and_parts (below_all dbkey_order e.0 es) (is_sorted dbkey_order es) sorted in
    let first = new-line (is_written e.0 before) none.0 in
    let rest = each-once (write_at e ∷ before) es parts.1 (none-more e before es parts.0 none.1) in
    omega (arith, first, rest)

none-yet : (es : List (Dbkey × Line)) → NoneOf [] es
none-yet [] = tt
none-yet (e ∷ es) = (refl, none-yet es)

pub lines-counted : (lines : List (Dbkey × Line)) (keys : List Dbkey) → AreKeysOf lines keys → lines_written (writes_in lines) ≡ length keys
lines-counted lines keys are = each-once [] lines are.ordered (none-yet lines) ∙ sym are.long
