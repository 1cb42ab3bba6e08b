-- Nodes with fewer entries still fit a line.
use Rattle.std.proofs.Common.{◌≡◌, ℕ, zero, suc, ◌+◌, ◌<◌, ◌≤◌, true, false, cond, not, List, [], ◌∷◌, length, get_or, Option, Some, None, refl, sym, ap, subst, arith, inl, inr}
use Rattle.std.specs.Prelude.{◌⊎◌}
use Rattle.std.specs.Ordering.{is_eq}
use Rattle.std.specs.List.{AllByRecursion, flat_map, remove}
use Rattle.std.proofs.lemmas.List.Elements.{All-from_recursion, recursion_from_All}
use Rattle.slot_fields.specs.Fields.{size}
use Rattle.slot_fields.proofs.Laws.{size_append, whole_ends}
use Rattle.index_node.specs.declared.entry.NodeEntry.{NodeEntry}
use Rattle.index_node.specs.declared.node.IndexNode.{IndexNode}
use Rattle.index_node.specs.Order.{entry_order}
use Rattle.index_node.specs.Node.{entry_fields, node_fields, IsEntry, IsAscending}
use Rattle.sorted_index_laws.specs.Changes.{without_pair}
use Rattle.sorted_index_laws.specs.Inner.Steps.{IsKnownAs, IsLaid}
use Rattle.sorted_index_laws.proofs.Ordered.{Lt, Ascend, ascend}

pub laid_known : (what : Option (Option (List ℕ))) (node : IndexNode) → IsKnownAs what node → IsLaid node
laid_known None node h = absurd h
laid_known (Some None) node h = absurd h
laid_known (Some (Some bytes)) node h = (h.allowed, (let ends = whole_ends (node_fields node) 0 bytes h.fields in omega (arith, ends, h.small)))

-- some of the entries, in their order
abbrev pub AreOf : List NodeEntry → List NodeEntry → Type 0
AreOf es [] = es ≡ []
AreOf es (x ∷ xs) = AreOf es xs ⊎ ((rest : List NodeEntry) × ((es ≡ x ∷ rest) × AreOf rest xs))

pub all_of : (xs : List NodeEntry) → AreOf xs xs
all_of [] = refl
all_of (x ∷ xs) = inr (xs, (refl, all_of xs))

pub without_of : (pair : NodeEntry) (xs : List NodeEntry) → AreOf (without_pair pair xs) xs
without_of pair [] = refl
without_of pair (x ∷ xs) = elim (is_eq (entry_order x pair)) as (λ b. AreOf (cond (not b) (x ∷ without_pair pair xs) (without_pair pair xs)) (x ∷ xs)) [
  | true ↦ inl (without_of pair xs)
  | false ↦ inr (without_pair pair xs, (refl, without_of pair xs))
]

pub remove_of : (xs : List NodeEntry) (i : ℕ) → i < length xs → AreOf (remove xs i) xs
remove_of [] i inside = absurd (omega (arith, inside))
remove_of (x ∷ xs) zero inside = inl (all_of xs)
remove_of (x ∷ xs) (suc i) inside = inr (remove xs i, (refl, remove_of xs i (omega (arith, inside))))

every : (P : NodeEntry → Type 0) (es xs : List NodeEntry) → AreOf es xs → AllByRecursion P xs → AllByRecursion P es
every P es [] are h = subst (AllByRecursion P) (sym are) tt
every P es (x ∷ xs) are h = elim are [
  | inl a ↦ every P es xs a h.1
  | inr a ↦ subst (AllByRecursion P) (sym a.1.0) (h.0, every P a.0 xs a.1.1 h.1)
]

fewer_ascend : (es xs : List NodeEntry) → AreOf es xs → Ascend xs → Ascend es
fewer_ascend es [] are h = subst Ascend (sym are) tt
fewer_ascend es (x ∷ xs) are h = elim are [
  | inl a ↦ fewer_ascend es xs a h.1
  | inr a ↦ subst Ascend (sym a.1.0) (every (Lt x) a.0 xs a.1.1 h.0, fewer_ascend a.0 xs a.1.1 h.1)
]

fewer_bytes : (es xs : List NodeEntry) → AreOf es xs → size (flat_map entry_fields es) ≤ size (flat_map entry_fields xs)
fewer_bytes es [] are = let none : size (flat_map entry_fields es) ≡ 0 = ap (λ es. size (flat_map entry_fields es)) are in omega (arith, none)
fewer_bytes es (x ∷ xs) are = elim are [
  | inl a ↦ let rest = fewer_bytes es xs a in omega (arith, rest, size_append (entry_fields x) (flat_map entry_fields xs))
  | inr a ↦ let rest = fewer_bytes a.0 xs a.1.1 in let same : size (flat_map entry_fields es) ≡ size (flat_map entry_fields (x ∷ a.0)) = ap (λ es. size (flat_map entry_fields es)) a.1.0 in
      omega (arith, rest, same, size_append (entry_fields x) (flat_map entry_fields xs), size_append (entry_fields x) (flat_map entry_fields a.0))
]

head_first : (x : NodeEntry) (xs : List NodeEntry) (k : ℕ) (d : NodeEntry) → k < length xs → AllByRecursion (Lt x) xs → Lt x (get_or xs k d)
head_first x [] k d inside h = absurd (omega (arith, inside))
head_first x (y ∷ ys) zero d inside h = h.0
head_first x (y ∷ ys) (suc k) d inside h = head_first x ys k d (omega (arith, inside)) h.1

ascending_at : (es : List NodeEntry) (k j : ℕ) (d : NodeEntry) → j ≡ suc k → j < length es → Ascend es → Lt (get_or es k d) (get_or es j d)
ascending_at [] k j d next inside h = absurd (omega (arith, inside))
ascending_at (x ∷ xs) zero j d next inside h = subst (λ n. Lt x (get_or (x ∷ xs) n d)) (sym next) (head_first x xs 0 d (omega (arith, inside, next)) h.0)
ascending_at (x ∷ xs) (suc k) zero d next inside h = absurd (omega (arith, next))
ascending_at (x ∷ xs) (suc k) (suc j) d next inside h = ascending_at xs k j d (omega (arith, next)) (omega (arith, inside)) h.1

pub laid_fewer : (level : ℕ) (es xs : List NodeEntry) → AreOf es xs → IsLaid (record { level = level; entries = xs }) → IsLaid (record { level = level; entries = es })
laid_fewer level es xs are laid =
    let kept = fewer_ascend es xs are (ascend xs laid.0.ascending) in
    let bytes = fewer_bytes es xs are in (
      record {
        entries = All-from_recursion (IsEntry level) es (every (IsEntry level) es xs are (recursion_from_All (IsEntry level) xs laid.0.entries));
        ascending = λ k d inside. ascending_at es k (k + 1) d (omega arith) inside kept;
      },
      omega (arith, bytes, laid.1),
    )

pub is_ascending : (es : List NodeEntry) → Ascend es → IsAscending es
is_ascending es h = λ k d inside. ascending_at es k (k + 1) d (omega arith) inside h
