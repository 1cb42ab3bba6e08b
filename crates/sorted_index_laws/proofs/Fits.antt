-- Nodes with one entry more.
use Rattle.std.proofs.Common.{◌≡◌, ◌≢◌, ℕ, zero, suc, ◌+◌, ◌<◌, ◌≤◌, true, false, cond, List, [], ◌∷◌, ◌++◌, length, drop, get_or, Option, Some, None, refl, sym, ap, subst, ◌∙◌, arith}
use Rattle.std.specs.Prelude.{IsSome}
use Rattle.std.specs.Ordering.{is_eq, is_le}
use Rattle.std.specs.List.{All, AllByRecursion, flat_map, list_any}
use Rattle.std.proofs.lemmas.List.Elements.{All-from_recursion, recursion_from_All}
use Rattle.slot_fields.specs.Fields.{size}
use Rattle.slot_fields.proofs.Laws.{size_append}
use Rattle.rdb_types.specs.declared.keys.Dbkey.{Dbkey}
use Rattle.rdb_types.specs.declared.values.Value.{Value}
use Rattle.index_node.specs.record_format.Values.{values_fields, IsValue}
use Rattle.index_node.specs.declared.entry.NodeEntry.{NodeEntry}
use Rattle.index_node.specs.declared.node.IndexNode.{IndexNode}
use Rattle.index_node.specs.Order.{entry_order}
use Rattle.index_node.specs.Node.{entry_fields, child_fields, IsEntry}
use Rattle.index_node.proofs.Entries.{entry_size_is}
use Rattle.sorted_index_laws.specs.Changes.{pair_of, with_pair, goes_on}
use Rattle.sorted_index_laws.specs.Inner.Steps.{IsLaid, count_up_to, child_place}
use Rattle.sorted_index_laws.specs.Insertion.{IsNew}
use Rattle.sorted_index_laws.specs.Inner.Growth.{IsNodeKey, IsGrown, IsHalved, with_new, bound, unbound, lowered, is_up_to_own}
use Rattle.sorted_index_laws.proofs.Ordered.{Lt, Ascend, ascend}
use Rattle.sorted_index_laws.proofs.Lines.{all_rest}
use Rattle.sorted_index_laws.proofs.Laid.{is_ascending}
use Rattle.sorted_index_laws.proofs.PlacesIn.{all_get}
use Rattle.sorted_index_laws.proofs.Put.{put_ascends, put_bytes, all_put, none_any}
use Rattle.sorted_index_laws.proofs.Between.{two_ascend}

abbrev bytes : List NodeEntry → ℕ
bytes es = size (flat_map entry_fields es)

pub laid_grown : (node : IndexNode) → IsLaid node → IsGrown node
laid_grown node h = (h.0, omega (arith, h.1))

-- ---- entries

leaf_entry : (level : ℕ) (key : List Value) (row : Dbkey) → level ≡ 0 → IsNodeKey key → IsEntry level (pair_of key row)
leaf_entry level key row leaf h = record { key = h.values; short = h.short; child = (λ some. absurd (cc), λ up. absurd (omega (arith, leaf, up))) }

pub child_entry : (level : ℕ) (key : List Value) (row child : Dbkey) → level ≢ 0 → All IsValue key → size (values_fields key) ≤ 120 → IsEntry level (record { key = key; row = row; child = Some child })
child_entry zero key row child inner values short = absurd (inner refl)
child_entry (suc level) key row child inner values short = record { key = values; short = short; child = (λ some. omega arith, λ up. refl) }

pub no_values : All IsValue []
no_values = All-from_recursion IsValue [] tt

short_leaf : (key : List Value) (row : Dbkey) → IsNodeKey key → size (entry_fields (pair_of key row)) ≤ 131
short_leaf key row h = omega (arith, entry_size_is (pair_of key row), h.short)

pub short_child : (key : List Value) (row child : Dbkey) → size (values_fields key) ≤ 120 → size (entry_fields (record { key = key; row = row; child = Some child })) ≤ 141
short_child key row child short = omega (arith, entry_size_is (record { key = key; row = row; child = Some child }), short)

-- ---- a leaf

grown_by : (level : ℕ) (pair : NodeEntry) (es : List NodeEntry) → IsEntry level pair → size (entry_fields pair) ≤ 141 → IsNew pair es → IsLaid (record { level = level; entries = es }) → IsGrown (record { level = level; entries = with_pair pair es })
grown_by level pair es entry short new laid =
    let more = put_bytes pair es in (
      record {
        entries = All-from_recursion (IsEntry level) (with_pair pair es) (all_put (IsEntry level) pair es entry (recursion_from_All (IsEntry level) es laid.0.entries));
        ascending = is_ascending (with_pair pair es) (put_ascends pair es (ascend es laid.0.ascending) new);
      },
      omega (arith, more, short, laid.1),
    )

pub leaf_grown : (key : List Value) (row : Dbkey) (node : IndexNode) (entries : List NodeEntry) → node.level ≡ 0 → IsNodeKey key → IsLaid node → entries ≡ with_new (pair_of key row) node.entries → IsGrown (record { level = node.level; entries = entries })
leaf_grown key row node entries leaf h laid same =
    let pair = pair_of key row in
    subst (λ (es : List NodeEntry). IsGrown (record { level = node.level; entries = es })) (sym same)
    (elim (list_any (λ p. is_eq (entry_order p pair)) node.entries) as (λ b. list_any (λ p. is_eq (entry_order p pair)) node.entries ≡ b → IsGrown (record { level = node.level; entries = cond b node.entries (with_pair pair node.entries) })) [
      | true ↦ λ is. laid_grown node laid
      | false ↦ λ is. grown_by node.level pair node.entries (leaf_entry node.level key row leaf h) (let short = short_leaf key row h in omega (arith, short)) (none_any pair node.entries is) laid
    ] refl)

-- a node of one entry
one_laid : (level : ℕ) (e : NodeEntry) → IsEntry level e → size (entry_fields e) ≤ 141 → IsLaid (record { level = level; entries = e ∷ [] })
one_laid level e entry short = (
  record {
    entries = All-from_recursion (IsEntry level) (e ∷ []) (entry, tt);
    ascending = is_ascending (e ∷ []) (tt, tt);
  },
  omega (arith, short, size_append (entry_fields e) []),
)

pub leaf_small : (key : List Value) (row : Dbkey) (node : IndexNode) (entries : List NodeEntry) → node.level ≡ 0 → IsNodeKey key → entries ≡ with_new (pair_of key row) node.entries → node.entries ≡ [] → IsLaid (record { level = node.level; entries = entries })
leaf_small key row node entries leaf h same none =
    let pair = pair_of key row in
    subst (λ (es : List NodeEntry). IsLaid (record { level = node.level; entries = es })) (sym (same ∙ ap (with_new pair) none)) (one_laid node.level pair (leaf_entry node.level key row leaf h) (let short = short_leaf key row h in omega (arith, short)))

pub first_laid : (key : List Value) (row child : Dbkey) (node : IndexNode) (entries : List NodeEntry) → node.level ≢ 0 → IsNodeKey key → entries ≡ bound (pair_of key row) child ∷ [] → IsLaid (record { level = node.level; entries = entries })
first_laid key row child node entries inner h same =
    subst (λ (es : List NodeEntry). IsLaid (record { level = node.level; entries = es })) (sym same) (one_laid node.level (bound (pair_of key row) child) (child_entry node.level key row child inner h.values h.short) (short_child key row child h.short))

-- ---- a node without a child for the pair has no entries

count_within : (pair : NodeEntry) (es : List NodeEntry) → count_up_to pair es ≤ length es
count_within pair [] = omega arith
count_within pair (e ∷ es) = elim (is_le (entry_order e pair)) as (λ b. cond b (suc (count_up_to pair es)) 0 ≤ length (e ∷ es)) [
  | true ↦ let rest = count_within pair es in omega (arith, rest)
  | false ↦ omega arith
]

nothing_some : (child : Option Dbkey) → IsSome child → child ≡ None → ⊥
nothing_some None some none = cc
nothing_some (Some child) some none = cc

childless : (level : ℕ) (e : NodeEntry) → level ≢ 0 → IsEntry level e → e.child ≡ None → ⊥
childless zero e inner is none = inner refl
childless (suc level) e inner is none = nothing_some e.child (is.child.1 (omega arith)) none

pub no_entries : (pair : NodeEntry) (level at : ℕ) (es : List NodeEntry) → level ≢ 0 → at ≡ child_place pair es → All (IsEntry level) es → (at < length es → (d : NodeEntry) → (get_or es at d).child ≡ None) → es ≡ []
no_entries pair level at [] inner at_is all none = refl
no_entries pair level at (e ∷ es) inner at_is all none =
    let inside : at < length (e ∷ es) = let within = count_within pair es in omega (arith, within, at_is) in
    absurd (childless level (get_or (e ∷ es) at e) inner (all_get (IsEntry level) (e ∷ es) at e inside (recursion_from_All (IsEntry level) (e ∷ es) all)) (none inside e))

-- ---- a node where a child became two

abbrev SplitAt : List NodeEntry → ℕ → Type 0
SplitAt es at = (xs : List NodeEntry) × (y : NodeEntry) × (ys : List NodeEntry) × (es ≡ xs ++ y ∷ ys) × (at ≡ length xs)

split_at : (es : List NodeEntry) (at : ℕ) → at < length es → SplitAt es at
split_at [] at inside = absurd (omega (arith, inside))
split_at (e ∷ es) zero inside = ([], e, es, refl, refl)
split_at (e ∷ es) (suc at) inside = let r = split_at es at (omega (arith, inside)) in (e ∷ r.0, r.1, r.2, ap (λ l. e ∷ l) r.3, ap suc r.4)

lowered_all : (P : NodeEntry → Type 0) (at : ℕ) (first : NodeEntry) (es : List NodeEntry) → P first → AllByRecursion P es → AllByRecursion P (lowered at first es)
lowered_all P zero first [] h k = tt
lowered_all P zero first (e ∷ es) h k = (h, k.1)
lowered_all P (suc at) first es h k = k

lowered_bytes : (level at : ℕ) (first : NodeEntry) (es : List NodeEntry) → level ≢ 0 → size (entry_fields first) ≡ 21 → AllByRecursion (IsEntry level) es → bytes (lowered at first es) ≤ bytes es
lowered_bytes level zero first [] inner is h = omega arith
lowered_bytes level zero first (e ∷ es) inner is h = let more = long_child level e inner h.0 in omega (arith, is, more, size_append (entry_fields first) (flat_map entry_fields es), size_append (entry_fields e) (flat_map entry_fields es))
  where
    some_size : (child : Option Dbkey) → (child ≡ None → ⊥) → size (child_fields child) ≡ 10
    some_size None h = absurd (h refl)
    some_size (Some child) h = refl

    long_child : (level : ℕ) (e : NodeEntry) → level ≢ 0 → IsEntry level e → 21 ≤ size (entry_fields e)
    long_child level e inner h = let ten = some_size e.child (childless level e inner h) in omega (arith, ten, entry_size_is e)
lowered_bytes level (suc at) first es inner is h = omega arith

drop_seam : (xs ys : List NodeEntry) → drop (length xs) (xs ++ ys) ≡ ys
drop_seam [] ys = refl
drop_seam (x ∷ xs) ys = drop_seam xs ys

drop_past : (xs : List NodeEntry) (y : NodeEntry) (ys : List NodeEntry) → drop (suc (length xs)) (xs ++ y ∷ ys) ≡ ys
drop_past [] y ys = refl
drop_past (x ∷ xs) y ys = drop_past xs y ys

two_ascending : (es : List NodeEntry) (at : ℕ) (low high : NodeEntry) (child room : Dbkey) → at < length es → Ascend es → Lt low high → is_up_to_own at high (drop at es) ≡ false → goes_on high (drop (at + 1) es) ≡ false → Ascend (with_pair (bound high room) (lowered at (unbound low child) es))
two_ascending es at low high child room inside up lt past_own before_next =
    let s = split_at es at inside in
    let xs = s.0 in
    let own = s.1 in
    let ys = s.2 in
    let here : drop at es ≡ own ∷ ys = (λ i. drop (s.4 i) (s.3 i)) ∙ drop_seam xs (own ∷ ys) in
    let behind : drop (at + 1) es ≡ ys = (λ i. drop ((let more : at + 1 ≡ suc (length xs) = omega (arith, s.4) in more) i) (s.3 i)) ∙ drop_past xs own ys in
    subst Ascend (λ i. with_pair (bound high room) (lowered (sym s.4 i) (unbound low child) (sym s.3 i)))
    (two_ascend xs own low high ys child room (subst Ascend s.3 up) lt ((λ i. is_up_to_own (sym s.4 i) high (sym here i)) ∙ past_own) (ap (goes_on high) (sym behind) ∙ before_next))

-- its halves' first entries
pub low_less : (grown lower upper : IndexNode) (low high : NodeEntry) → IsHalved grown lower upper low high → Ascend grown.entries → Lt low high
low_less grown lower upper low high h up =
    let first : Ascend (low ∷ (h.lows.0 ++ upper.entries)) = subst Ascend (h.entries ∙ ap (λ (es : List NodeEntry). es ++ upper.entries) h.lows.1) up in
    (all_rest (Lt low) h.lows.0 (high ∷ h.highs.0) (subst (λ (es : List NodeEntry). AllByRecursion (Lt low) (h.lows.0 ++ es)) h.highs.1 first.0)).0

pub high_entry : (level : ℕ) (grown lower upper : IndexNode) (low high : NodeEntry) → IsHalved grown lower upper low high → All (IsEntry level) grown.entries → IsEntry level high
high_entry level grown lower upper low high h all =
    let rest = all_rest (IsEntry level) lower.entries upper.entries (subst (AllByRecursion (IsEntry level)) h.entries (recursion_from_All (IsEntry level) grown.entries all)) in
    (subst (AllByRecursion (IsEntry level)) h.highs.1 rest).0

pub two_grown : (node grown lower upper : IndexNode) (at : ℕ) (low high : NodeEntry) (child room : Dbkey) (after : List NodeEntry) → node.level ≢ 0 → at < length node.entries → IsLaid node → IsGrown grown → IsHalved grown lower upper low high → is_up_to_own at high (drop at node.entries) ≡ false → goes_on high (drop (at + 1) node.entries) ≡ false
    → after ≡ with_pair (bound high room) (lowered at (unbound low child) node.entries) → IsGrown (record { level = node.level; entries = after })
two_grown node grown lower upper at low high child room after inner inside laid is_grown h past_own before_next same =
    let up = ascend grown.entries is_grown.0.ascending in
    let entry = high_entry grown.level grown lower upper low high h is_grown.0.entries in
    let own = recursion_from_All (IsEntry node.level) node.entries laid.0.entries in
    let first : IsEntry node.level (unbound low child) = child_entry node.level [] low.row child inner no_values (omega arith) in
    let second : IsEntry node.level (bound high room) = child_entry node.level high.key high.row room inner entry.key entry.short in
    let es = lowered at (unbound low child) node.entries in
    let less = lowered_bytes node.level at (unbound low child) node.entries inner (let s = entry_size_is (unbound low child) in omega (arith, s)) own in
    let more = put_bytes (bound high room) es in
    let short = short_child high.key high.row room entry.short in
    subst (λ (es : List NodeEntry). IsGrown (record { level = node.level; entries = es })) (sym same) (
      record {
        entries = All-from_recursion (IsEntry node.level) (with_pair (bound high room) es) (all_put (IsEntry node.level) (bound high room) es second (lowered_all (IsEntry node.level) at (unbound low child) node.entries first own));
        ascending = is_ascending (with_pair (bound high room) es) (two_ascending node.entries at low high child room inside (ascend node.entries laid.0.ascending) (low_less grown lower upper low high h up) past_own before_next);
      },
      omega (arith, more, less, short, laid.1),
    )
