-- The order of entries, and the images of nodes.
use Rattle.std.proofs.Common.{ℕ, ◌+◌, ◌<◌, ◌≤◌, ◌≡◌, Bool, true, List, [], ◌∷◌, length, get_or, ◌-◌, Option, Some, None, is_some, arith, sym, ap, subst, refl, ◌∙◌}
use Rattle.std.specs.Prelude.{IfSome}
use Rattle.std.specs.List.{AllAdjacentBelow, flat_map}
use Rattle.std.specs.declared.cmp.Ordering.{Ordering}
use Rattle.std.specs.declared.cmp.Ordering.TheVariants.{Less, Equal, Greater}
use Rattle.std.specs.Ordering.{is_lt}
use Rattle.std.proofs.lemmas.List.Sorted.{all_adjacent_more}
use Rattle.std.proofs.lemmas.List.Elements.{pair_read}
use Rattle.record_format.specs.slot_fields.Fields.{size}
use Rattle.record_format.proofs.of_slot_fields.Laws.{whole_ends, size_append}
use Rattle.record_format.specs.Lists.{AreListed}
use Rattle.record_format.specs.Values.{AreBytes}
use Rattle.record_format.proofs.Images as images
use Rattle.record_format.proofs.Lists.{one_list}
use Rattle.index_node.specs.declared.entry.NodeEntry.{NodeEntry}
use Rattle.index_node.specs.declared.node.IndexNode.{IndexNode}
use Rattle.index_node.specs.Order.{entry_order}
use Rattle.index_node.specs.Node.{entry_fields, node_fields, IsEntry, IsAscending, IsNode}
use Rattle.index_node.proofs.Entries.{entries_code, entry_size_is}

abbrev pub Below : NodeEntry → NodeEntry → Type 0
Below a b = entry_order a b ≡ Less

less : (o : Ordering) → true ≡ is_lt o → o ≡ Less
less Less is = refl
less Equal is = cc
less Greater is = cc

-- the entries up to a place ascend
pub ascends_none : (es : List NodeEntry) → AllAdjacentBelow Below es 1
ascends_none es k d inside = absurd (omega (arith, inside))

pub ascends_more : (es : List NodeEntry) (i : ℕ) (a b : NodeEntry) (r : Bool) → 1 ≤ i → i < length es → a ≡ get_or es (i - 1) a → b ≡ get_or es i b → r ≡ is_lt (entry_order a b) → r ≡ true → AllAdjacentBelow Below es i → AllAdjacentBelow Below es (i + 1)
ascends_more es i a b r past inside first second said is was = all_adjacent_more es Below i past was (pair_read es Below (i - 1) i a b (omega (arith, inside, past)) inside first second (less (entry_order a b) (sym is ∙ said)))

pub ascends_all : (es : List NodeEntry) (i : ℕ) → length es ≤ i → AllAdjacentBelow Below es i → IsAscending es
ascends_all es i past was k d inside = was k d (omega (arith, inside, past))

pub entries_of : (bytes : List ℕ) (n : IndexNode) → IsNode bytes n → AreListed entry_fields (IsEntry n.level) bytes 4 n.entries
entries_of bytes n is = record { fields = is.fields.1.1.1; allowed = is.allowed.entries }

pub not_short : (bytes : List ℕ) (n : IndexNode) → length bytes < 4 → IsNode bytes n → ⊥
not_short bytes n short is = omega (arith, short, whole_ends (flat_map entry_fields n.entries) 4 bytes is.fields.1.1.1)

-- each entry takes a byte at least
pub no_more_than_bytes : (es : List NodeEntry) → length es ≤ size (flat_map entry_fields es)
no_more_than_bytes [] = omega arith
no_more_than_bytes (e ∷ es) = let rest = no_more_than_bytes es in omega (arith, rest, entry_size_is e, size_append (entry_fields e) (flat_map entry_fields es))

pub one_node : (bytes : List ℕ) (a b : IndexNode) → IsNode bytes a → IsNode bytes b → a ≡ b
one_node bytes a b x y =
    let level : a.level ≡ b.level = sym x.fields.0 ∙ y.fields.0 in
    let other : AreListed entry_fields (IsEntry a.level) bytes 4 b.entries = subst (λ (k : ℕ). AreListed entry_fields (IsEntry k) bytes 4 b.entries) (sym level) (entries_of bytes b y) in
    let entries = one_list entry_fields (IsEntry a.level) bytes (entries_code a.level bytes) 4 a.entries b.entries (entries_of bytes a x) other in
    λ i. record { level = level i; entries = entries i }

pub one_image : (a b : List ℕ) (n : IndexNode) → AreBytes a → AreBytes b → IsNode a n → IsNode b n → a ≡ b
one_image a b n bytes too x y = images.one_image (node_fields n) 0 a b bytes too x.fields y.fields

pub size_known : (r : Option ℕ) (n limit : ℕ) → is_some r ≡ true → IfSome r (λ bytes. bytes ≡ n) → IfSome r (λ bytes. bytes ≤ limit) → n ≤ limit
size_known (Some bytes) n limit is value within = omega (arith, value, within)
size_known None n limit is value within = absurd (let bad : ⊥ = cc in bad)
