-- Entries in two parts.
use Rattle.std.proofs.Common.{◌≡◌, ◌≢◌, ℕ, suc, ◌+◌, ◌<◌, ◌≤◌, ◌/◌, true, false, cond, List, [], ◌∷◌, ◌++◌, length, take, get_or, refl, sym, ap, subst, ◌∙◌, arith, inl, inr, append_assoc}
use Rattle.std.specs.Prelude.{Result, Ok, Err, IfOk, IfErr, OnOk}
use Rattle.std.specs.declared.cmp.Ordering.TheVariants.{Less}
use Rattle.std.specs.Ordering.{is_lt}
use Rattle.std.proofs.lemmas.Bool.{cases_lt}
use Rattle.std.specs.List.{AllByRecursion, flat_map}
use Rattle.std.proofs.lemmas.List.Elements.{All-from_recursion, recursion_from_All}
use Rattle.std.proofs.lemmas.Grind.{flat_map-append}
use Rattle.std.proofs.Math.Seq.{take-append_seam, take-length}
use Rattle.slot_fields.specs.Fields.{size}
use Rattle.slot_fields.proofs.Laws.{size_append}
use Rattle.rdb_types.specs.declared.keys.Dbkey.{Dbkey}
use Rattle.index_node.specs.declared.entry.NodeEntry.{NodeEntry}
use Rattle.index_node.specs.declared.node.IndexNode.{IndexNode}
use Rattle.index_node.specs.Order.{entry_order}
use Rattle.index_node.specs.Node.{entry_fields, IsEntry}
use Rattle.line_view.specs.Knowledge.{Knowledge}
use Rattle.line_view.specs.declared.writes.Write.{Write}
use Rattle.sorted_index_laws.specs.Stop.{IndexStop}
use Rattle.line_view.specs.declared.stop.Stop.TheVariants.{NoMemory}
use Rattle.sorted_index_laws.specs.Changes.{with_pair, pair_of}
use Rattle.sorted_index_laws.specs.Inner.Steps.{IsLaid}
use Rattle.sorted_index_laws.specs.Inner.Growth.{IsGrown, IsHalved, count_below, bound, unbound, WritesTwo, WritesChild, WritesTop, WritesRoot}
use Rattle.sorted_index_laws.proofs.Ordered.{Ascend, ascend}
use Rattle.sorted_index_laws.proofs.Lines.{all_front, all_rest}
use Rattle.sorted_index_laws.proofs.Laid.{is_ascending}
use Rattle.sorted_index_laws.proofs.Exchange.{ascend_rest}
use Rattle.sorted_index_laws.proofs.Between.{unbound_less}
use Rattle.sorted_index_laws.proofs.Fits.{child_entry, no_values, short_child, low_less, high_entry}

abbrev bytes : List NodeEntry → ℕ
bytes es = size (flat_map entry_fields es)

-- ---- an entry at its place

pub count_inside : (e : NodeEntry) (es : List NodeEntry) → count_below e es ≤ length es
count_inside e [] = omega arith
count_inside e (x ∷ es) = elim (is_lt (entry_order x e)) as (λ b. cond b (suc (count_below e es)) 0 ≤ length (x ∷ es)) [
  | true ↦ let rest = count_inside e es in omega (arith, rest)
  | false ↦ omega arith
]

-- only the key and the row of an entry tell its place
pub count_as : (e : NodeEntry) (es : List NodeEntry) → count_below (pair_of e.key e.row) es ≡ count_below e es
count_as e [] = refl
count_as e (x ∷ es) = ap (λ n. cond (is_lt (entry_order x e)) (suc n) 0) (count_as e es)

put_here : (e : NodeEntry) (rest : List NodeEntry) → 0 ≡ count_below e rest → with_pair e rest ≡ e ∷ rest
put_here e [] h = refl
put_here e (x ∷ rest) h = elim (is_lt (entry_order x e)) as (λ b. 0 ≡ cond b (suc (count_below e rest)) 0 → cond b (x ∷ with_pair e rest) (e ∷ x ∷ rest) ≡ e ∷ x ∷ rest) [
  | true ↦ λ k. absurd (omega (arith, k))
  | false ↦ λ k. refl
] h

put_split : (e : NodeEntry) (front rest : List NodeEntry) → length front ≡ count_below e (front ++ rest) → with_pair e (front ++ rest) ≡ front ++ e ∷ rest
put_split e [] rest h = put_here e rest h
put_split e (x ∷ front) rest h = elim (is_lt (entry_order x e)) as (λ b. suc (length front) ≡ cond b (suc (count_below e (front ++ rest))) 0 → cond b (x ∷ with_pair e (front ++ rest)) (e ∷ x ∷ (front ++ rest)) ≡ x ∷ (front ++ e ∷ rest)) [
  | true ↦ λ k. ap (λ l. x ∷ l) (put_split e front rest (omega (arith, k)))
  | false ↦ λ k. absurd (omega (arith, k))
] h

pub put_at : (e : NodeEntry) (es front rest : List NodeEntry) → front ++ rest ≡ es → length front ≡ count_below e es → front ++ e ∷ rest ≡ with_pair e es
put_at e es front rest is long = sym (ap (with_pair e) (sym is) ∙ put_split e front rest (long ∙ ap (count_below e) (sym is)))

-- ---- two halves

ascend_front : (xs ys : List NodeEntry) → Ascend (xs ++ ys) → Ascend xs
ascend_front [] ys h = tt
ascend_front (x ∷ xs) ys h = (all_front (λ y. entry_order x y ≡ Less) xs ys h.0, ascend_front xs ys h.1)

part_laid : (level : ℕ) (es : List NodeEntry) → AllByRecursion (IsEntry level) es → Ascend es → bytes es ≤ 426 → IsLaid (record { level = level; entries = es })
part_laid level es entries up short = (record { entries = All-from_recursion (IsEntry level) es entries; ascending = is_ascending es up }, omega (arith, short))

pub halves_laid : (node : IndexNode) (front rest : List NodeEntry) (at half : ℕ) → IsGrown node → front ++ rest ≡ node.entries → length front ≡ at → at ≤ length node.entries → half ≡ bytes node.entries / 2 → 426 < bytes node.entries → bytes (take at node.entries) ≤ half → (at < length node.entries → half < bytes (take at node.entries) + 141)
    → IsLaid (record { level = node.level; entries = front }) × IsLaid (record { level = node.level; entries = rest })
halves_laid node front rest at half grown is long within half_is many low high =
    let own = subst (AllByRecursion (IsEntry node.level)) (sym is) (recursion_from_All (IsEntry node.level) node.entries grown.0.entries) in
    let up = subst Ascend (sym is) (ascend node.entries grown.0.ascending) in
    let taken : take at node.entries ≡ front = (λ i. take (sym long i) (sym is i)) ∙ take-append_seam front rest in
    let same : bytes (take at node.entries) ≡ bytes front = ap bytes taken in
    let parts : bytes node.entries ≡ bytes front + bytes rest = ap bytes (sym is) ∙ (ap size (flat_map-append entry_fields front rest) ∙ size_append (flat_map entry_fields front) (flat_map entry_fields rest)) in
    let inside : at < length node.entries = before_end node.entries at half within half_is many low in
    let more = high inside in (
      part_laid node.level front (all_front (IsEntry node.level) front rest own) (ascend_front front rest up) (omega (arith, low, same, half_is, grown.1)),
      part_laid node.level rest (all_rest (IsEntry node.level) front rest own) (ascend_rest front rest up) (omega (arith, more, same, parts, half_is, grown.1)),
    )
  where
    before_end : (es : List NodeEntry) (at half : ℕ) → at ≤ length es → half ≡ bytes es / 2 → 426 < bytes es → bytes (take at es) ≤ half → at < length es
    before_end es at half within half_is many low = elim (cases_lt at (length es)) [
      | inl inside ↦ inside
      | inr past ↦ let all : take at es ≡ es = (λ i. take ((let e : at ≡ length es = omega (arith, within, past) in e) i) es) ∙ take-length es in
          let same : bytes (take at es) ≡ bytes es = ap bytes all in absurd (omega (arith, low, same, half_is, many))
    ]

some_rest : (xs : List NodeEntry) (x : NodeEntry) → xs ≢ [] → x ≡ get_or xs 0 x → (rest : List NodeEntry) × (xs ≡ x ∷ rest)
some_rest [] x some is = absurd (some refl)
some_rest (y ∷ ys) x some is = (ys, λ i. sym is i ∷ ys)

pub is_halved : (grown lower upper : IndexNode) (low high : NodeEntry) → lower.level ≡ grown.level → upper.level ≡ grown.level → lower.entries ++ upper.entries ≡ grown.entries → lower.entries ≢ [] → upper.entries ≢ [] → low ≡ get_or lower.entries 0 low → high ≡ get_or upper.entries 0 high → IsHalved grown lower upper low high
is_halved grown lower upper low high lower_level upper_level is some_low some_high low_is high_is = record {
  lower_level = lower_level;
  upper_level = upper_level;
  entries = sym is;
  lows = some_rest lower.entries low some_low low_is;
  highs = some_rest upper.entries high some_high high_is;
}

pub first_of_all : (xs : List NodeEntry) → xs ≢ [] → 0 < length xs
first_of_all [] some = absurd (some refl)
first_of_all (x ∷ xs) some = omega arith

-- ---- the root above its halves

pub top_laid : (level : ℕ) (grown lower upper : IndexNode) (low high : NodeEntry) (at room : Dbkey) (entries : List NodeEntry) → level ≡ grown.level + 1 → IsGrown grown → IsHalved grown lower upper low high → entries ≡ unbound low at ∷ bound high room ∷ [] → IsLaid (record { level = level; entries = entries })
top_laid level grown lower upper low high at room entries up is_grown h same =
    let entry = high_entry grown.level grown lower upper low high h is_grown.0.entries in
    let less = unbound_less low high at room (low_less grown lower upper low high h (ascend grown.entries is_grown.0.ascending)) in
    let inner : level ≢ 0 = λ none. omega (arith, none, up) in
    let first = short_child [] low.row at (omega arith) in
    let second = short_child high.key high.row room entry.short in
    subst (λ (es : List NodeEntry). IsLaid (record { level = level; entries = es })) (sym same)
    (part_laid level (unbound low at ∷ bound high room ∷ []) (child_entry level [] low.row at inner no_values (omega arith), (child_entry level high.key high.row room inner entry.key entry.short, tt)) ((less, tt), (tt, tt))
    (omega (arith, first, second, size_append (entry_fields (unbound low at)) (flat_map entry_fields (bound high room ∷ [])), size_append (entry_fields (bound high room)) [])))

pub first_again : (xs : List NodeEntry) (d : NodeEntry) → xs ≢ [] → get_or xs 0 d ≡ get_or xs 0 (get_or xs 0 d)
first_again [] d some = absurd (some refl)
first_again (x ∷ xs) d some = refl

pub two_writes : (new mid first old : List Write) (a b : Write) → new ≡ mid ++ b ∷ [] → mid ≡ first ++ a ∷ [] → first ≡ old → new ≡ old ++ a ∷ b ∷ []
two_writes new mid first old a b last before is = last ∙ (ap (λ ws. ws ++ b ∷ []) (before ∙ ap (λ ws. ws ++ a ∷ []) is) ∙ append_assoc old (a ∷ []) (b ∷ []))

pub three_writes : (new mid old : List Write) (a b c : Write) → new ≡ mid ++ c ∷ [] → mid ≡ old ++ a ∷ b ∷ [] → new ≡ old ++ a ∷ b ∷ c ∷ []
three_writes new mid old a b c last before = last ∙ (ap (λ ws. ws ++ c ∷ []) before ∙ append_assoc old (a ∷ b ∷ []) (c ∷ []))

pub wrote_two : (known : Knowledge) (area : ℕ) (entries : List NodeEntry) (at : ℕ) (child : Dbkey) (grown : IndexNode) (from to : ℕ) (old new : List Write) (after : List NodeEntry) (r : Result (List NodeEntry) IndexStop) → IfOk r (λ all. all ≡ after) → IfErr r (λ stop. stop ≡ NoMemory) → WritesTwo known area entries at child grown from to old new after → WritesChild known area entries at child grown from to old new r
wrote_two known area entries at child grown from to old new after (Ok all) ok err w = inr (subst (λ (es : List NodeEntry). WritesTwo known area entries at child grown from to old new es) (sym ok) w)
wrote_two known area entries at child grown from to old new after (Err e) ok err w = subst (λ e. WritesChild known area entries at child grown from to old new (Err e)) (sym err) tt

pub wrote_top : (known : Knowledge) (area : ℕ) (root : Dbkey) (grown : IndexNode) (from : ℕ) (old new : List Write) (P : Type 0) (r : Result Unit IndexStop) → OnOk r P → IfErr r (λ stop. stop ≡ NoMemory) → (P → WritesTop known area root grown from old new) → WritesRoot known area root grown from old new r
wrote_top known area root grown from old new P (Ok done) ok err w = inr (w ok)
wrote_top known area root grown from old new P (Err e) ok err w = subst (λ e. WritesRoot known area root grown from old new (Err e)) (sym err) tt
