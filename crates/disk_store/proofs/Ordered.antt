-- Lines in the order of their keys.
use Rattle.std.proofs.Common.{◌≡◌, ◌&&◌, ◌||◌, ℕ, zero, suc, Bool, true, false, cond, List, [], ◌∷◌, length, map, Some, None, is_lt, is_some, refl, sym, ap, ◌∙◌, arith}
use Rattle.std.specs.Prelude.{slice_get}
use Rattle.std.specs.Ordering.{is_eq}
use Rattle.std.specs.Cmp.{tied_itself}
use Rattle.std.specs.declared.cmp.Ordering.{Ordering}
use Rattle.std.specs.declared.cmp.Ordering.TheVariants.{Less, Equal, Greater}
use Rattle.std.specs.FinMap.Entries.{find, is_sorted, below_all}
use Rattle.std.proofs.lemmas.Bool.{false≢true, and_parts}
use Rattle.std.proofs.lemmas.Option.{same_Some, none-some}
use Rattle.rdb_types.specs.declared.keys.Dbkey.{Dbkey}
use Rattle.rdb_types.specs.declared.keys.Line.{Line}
use Rattle.rdb_types.specs.Order.{dbkey_order}
use Rattle.rdb_types.specs.OrderLaws.{dbkey_total}
use Rattle.journal_scan.specs.Whole.{ascends}
use Rattle.line_view.specs.declared.writes.Write.{Write}
use Rattle.line_moves.specs.Lines.{ChangedLines, AreDistinct}
use Rattle.line_seat.specs.Groups.{group_line, group_lines}
use Rattle.stable_lines.specs.Journal.{write_of}
use Rattle.member_memory.specs.Memory.{has_key, writes_in}
use Rattle.member_rooms.proofs.of_committed_tables.Following.{same_key}

tied : (q : Dbkey) → dbkey_order q q ≡ Equal
tied q = tied_itself dbkey_total q

not-less : (o : Ordering) → o ≡ Equal → is_lt o ≡ true → ⊥
not-less Less is lt = cc
not-less Equal is lt = false≢true lt
not-less Greater is lt = cc

-- a line behind another isn't the other
not-itself : (a b : Dbkey) → is_lt (dbkey_order a b) ≡ true → a ≡ b → ⊥
not-itself a b lt same = not-less (dbkey_order a b) (ap (λ (k : Dbkey). dbkey_order a k) (sym same) ∙ tied a) lt

below-at : (key : Dbkey) (es : ChangedLines) → below_all dbkey_order key es ≡ true → (i : ℕ) (line : Dbkey × Line) → slice_get es i ≡ Some line → is_lt (dbkey_order key line.0) ≡ true
below-at key [] low i line got = absurd (none-some line got)
below-at key (e ∷ es) low zero line got = ap (λ (l : Dbkey × Line). is_lt (dbkey_order key l.0)) (sym (same_Some e line got)) ∙ (and_parts (is_lt (dbkey_order key e.0)) (below_all dbkey_order key es) low).0
below-at key (e ∷ es) low (suc i) line got = below-at key es (and_parts (is_lt (dbkey_order key e.0)) (below_all dbkey_order key es) low).1 i line got

-- no two have one key
pub are-distinct : (es : ChangedLines) → is_sorted dbkey_order es ≡ true → AreDistinct es
are-distinct [] sorted i k a b at bt same = absurd (none-some a at)
are-distinct (e ∷ es) sorted zero zero a b at bt same = refl
are-distinct (e ∷ es) sorted zero (suc k) a b at bt same =
    let parts = and_parts (below_all dbkey_order e.0 es) (is_sorted dbkey_order es) sorted in
    absurd (not-itself e.0 b.0 (below-at e.0 es parts.0 k b bt) (ap (λ (l : Dbkey × Line). l.0) (same_Some e a at) ∙ same))
are-distinct (e ∷ es) sorted (suc i) zero a b at bt same =
    let parts = and_parts (below_all dbkey_order e.0 es) (is_sorted dbkey_order es) sorted in
    absurd (not-itself e.0 a.0 (below-at e.0 es parts.0 i a at) (ap (λ (l : Dbkey × Line). l.0) (same_Some e b bt) ∙ sym same))
are-distinct (e ∷ es) sorted (suc i) (suc k) a b at bt same =
    ap suc (are-distinct es (and_parts (below_all dbkey_order e.0 es) (is_sorted dbkey_order es) sorted).1 i k a b at bt same)

not-equal : (o : Ordering) → is_lt o ≡ true → is_eq o ≡ true → ⊥
not-equal Less lt eq = false≢true eq
not-equal Equal lt eq = false≢true lt
not-equal Greater lt eq = false≢true lt

-- each line is found by its key
pub found-by : (es : ChangedLines) → is_sorted dbkey_order es ≡ true → (i : ℕ) (line : Dbkey × Line) → slice_get es i ≡ Some line → find dbkey_order line.0 es ≡ Some line.1
found-by [] sorted i line got = absurd (none-some line got)
found-by (e ∷ es) sorted zero line got =
    ap (λ (l : Dbkey × Line). find dbkey_order l.0 (e ∷ es)) (sym (same_Some e line got)) ∙ (ap (λ (b : Bool). cond b (Some e.1) (find dbkey_order e.0 es)) (ap is_eq (tied e.0)) ∙ ap (λ (l : Dbkey × Line). Some l.1) (same_Some e line got))
found-by (e ∷ es) sorted (suc i) line got = by (found-by es (and_parts (below_all dbkey_order e.0 es) (is_sorted dbkey_order es) sorted).1 i line got) (is_eq (dbkey_order line.0 e.0)) refl
  where
    parts : (below_all dbkey_order e.0 es ≡ true) × (is_sorted dbkey_order es ≡ true)
    parts = and_parts (below_all dbkey_order e.0 es) (is_sorted dbkey_order es) sorted

    by : find dbkey_order line.0 es ≡ Some line.1 → (b : Bool) → is_eq (dbkey_order line.0 e.0) ≡ b → cond (is_eq (dbkey_order line.0 e.0)) (Some e.1) (find dbkey_order line.0 es) ≡ Some line.1
    by rest true same = absurd (not-itself e.0 line.0 (below-at e.0 es parts.0 i line got) (sym (same_key line.0 e.0 same)))
    by rest false apart = ap (λ (b : Bool). cond b (Some e.1) (find dbkey_order line.0 es)) apart ∙ rest

-- one of the lines has this key
pub record HasKey (es : ChangedLines) (key : Dbkey) : Type 0 where
  pub index : ℕ
  pub line : Dbkey × Line
  pub is : slice_get es index ≡ Some line
  pub key_is : line.0 ≡ key

pub place-of-key : (es : ChangedLines) (key : Dbkey) → is_some (find dbkey_order key es) ≡ true → HasKey es key
place-of-key [] key some = absurd (false≢true some)
place-of-key (e ∷ es) key some = by (λ there. place-of-key es key there) (is_eq (dbkey_order key e.0)) refl
  where
    by : (is_some (find dbkey_order key es) ≡ true → HasKey es key) → (b : Bool) → is_eq (dbkey_order key e.0) ≡ b → HasKey (e ∷ es) key
    by later true same = record { index = 0; line = e; is = refl; key_is = sym (same_key key e.0 same) }
    by later false apart =
        let rest = later (ap (λ (b : Bool). is_some (cond b (Some e.1) (find dbkey_order key es))) (sym apart) ∙ some) in
        record { index = suc rest.index; line = rest.line; is = rest.is; key_is = rest.key_is }

-- a key that is listed
pub listed : (keys : List Dbkey) (i : ℕ) (key : Dbkey) → slice_get keys i ≡ Some key → has_key key keys ≡ true
listed [] i key got = absurd (none-some key got)
listed (k ∷ ks) zero key got = let same : is_eq (dbkey_order key k) ≡ true = ap (λ (q : Dbkey). is_eq (dbkey_order key q)) (same_Some k key got) ∙ ap is_eq (tied key) in rw same refl
listed (k ∷ ks) (suc i) key got = by (is_eq (dbkey_order key k)) (listed ks i key got)
  where
    by : (b : Bool) → has_key key ks ≡ true → (b || has_key key ks) ≡ true
    by true has = refl
    by false has = has

-- ---- the group of the lines

-- in the order of their keys
ascends-behind : (e : Dbkey × Line) (class : ℕ) (es : ChangedLines) (classes : List ℕ) → below_all dbkey_order e.0 es ≡ true → is_sorted dbkey_order es ≡ true → ascends (Some (group_line e class)) (group_lines es classes) ≡ true
ascends-behind e class [] classes low sorted = refl
ascends-behind e class (d ∷ ds) [] low sorted = refl
ascends-behind e class (d ∷ ds) (c ∷ cs) low sorted =
    let first = (and_parts (is_lt (dbkey_order e.0 d.0)) (below_all dbkey_order e.0 ds) low).0 in
    let parts = and_parts (below_all dbkey_order d.0 ds) (is_sorted dbkey_order ds) sorted in
    let rest = ascends-behind d c ds cs parts.0 parts.1 in
    ap (λ (b : Bool). b && ascends (Some (group_line d c)) (group_lines ds cs)) first ∙ rest

pub group-ascends : (es : ChangedLines) (classes : List ℕ) → is_sorted dbkey_order es ≡ true → ascends None (group_lines es classes) ≡ true
group-ascends [] classes sorted = refl
group-ascends (e ∷ es) [] sorted = refl
group-ascends (e ∷ es) (c ∷ cs) sorted = let parts = and_parts (below_all dbkey_order e.0 es) (is_sorted dbkey_order es) sorted in ascends-behind e c es cs parts.0 parts.1

-- its lines come to the same writes
pub same-writes : (es : ChangedLines) (classes : List ℕ) → length classes ≡ length es → map write_of (group_lines es classes) ≡ writes_in es
same-writes [] classes long = refl
same-writes (e ∷ es) [] long = absurd (omega (arith, long))
same-writes (e ∷ es) (c ∷ cs) long = ap (λ (ws : List Write). write_of (group_line e c) ∷ ws) (same-writes es cs (omega (arith, long)))

pub group-long : (es : ChangedLines) (classes : List ℕ) → length classes ≡ length es → length (group_lines es classes) ≡ length es
group-long [] classes long = refl
group-long (e ∷ es) [] long = absurd (omega (arith, long))
group-long (e ∷ es) (c ∷ cs) long = ap suc (group-long es cs (omega (arith, long)))

-- one of the group's lines, with its class
pub record InGroup (es : ChangedLines) (classes : List ℕ) (i : ℕ) (line : Dbkey × Line) : Type 0 where
  pub class : ℕ
  pub has : slice_get classes i ≡ Some class
  pub is : slice_get (group_lines es classes) i ≡ Some (group_line line class)

pub in-group : (es : ChangedLines) (classes : List ℕ) → length classes ≡ length es → (i : ℕ) (line : Dbkey × Line) → slice_get es i ≡ Some line → InGroup es classes i line
in-group [] classes long i line got = absurd (none-some line got)
in-group (e ∷ es) [] long i line got = absurd (omega (arith, long))
in-group (e ∷ es) (c ∷ cs) long zero line got = record { class = c; has = refl; is = ap (λ (l : Dbkey × Line). Some (group_line l c)) (same_Some e line got) }
in-group (e ∷ es) (c ∷ cs) long (suc i) line got = let rest = in-group es cs (omega (arith, long)) i line got in record { class = rest.class; has = rest.has; is = rest.is }
