-- Where entries stand.
use Rattle.std.proofs.Common.{ℕ, zero, suc, ◌+◌, ◌≤◌, ◌≡◌, ◌↔◌, List, [], ◌∷◌, ◌++◌, length, take, Option, Some, None, IsSome, arith, sym, ap, subst, refl, ◌∙◌}
use Rattle.std.proofs.lemmas.List.{take-take, length-take-le}
use Rattle.std.proofs.lemmas.Bool.Decides.{nat_tests}
use Rattle.record_format.specs.slot_fields.Fields.{Field, number, number_at, size, HasPart, HasFrom}
use Rattle.record_format.proofs.of_slot_fields.Laws.{size_append, part_first, part_append, part_before, part_of_whole, whole_of_part, whole_ends}
use Rattle.record_format.specs.rdb_types.declared.keys.Dbkey.{Dbkey}
use Rattle.record_format.specs.Lists.{StandsAt}
use Rattle.record_format.specs.Values.{value_fields, values_fields, IsValue, AreValues}
use Rattle.record_format.specs.Dbkeys.{dbkey_fields}
use Rattle.record_format.proofs.Laying.{HasLaid, laid_then}
use Rattle.record_format.proofs.Parts.{part_rest}
use Rattle.record_format.proofs.Lists.{IsCode, one_part}
use Rattle.record_format.proofs.Values.{values_code}
use Rattle.index_node.specs.declared.entry.NodeEntry.{NodeEntry}
use Rattle.index_node.specs.Node.{child_fields, child_bytes, entry_fields, IsEntry}

-- bytes up to a place, and the fields that end there
cut : (fields : List Field) (at end : ℕ) (bytes : List ℕ) → end ≡ at + size fields → end ≤ length bytes → HasPart at fields bytes → HasFrom at fields (take end bytes)
cut fields at end bytes ends within has =
    whole_of_part fields at (take end bytes) (length-take-le end bytes within ∙ ends) (part_before fields at end bytes (take end bytes) (omega (arith, ends)) (take-take end end bytes (omega arith)) has)

cut_size : (fields : List Field) (at end : ℕ) (bytes : List ℕ) → end ≤ length bytes → HasFrom at fields (take end bytes) → end ≡ at + size fields
cut_size fields at end bytes within has = sym (length-take-le end bytes within) ∙ whole_ends fields at (take end bytes) has

uncut : (fields : List Field) (at end : ℕ) (bytes : List ℕ) → end ≤ length bytes → HasFrom at fields (take end bytes) → HasPart at fields bytes
uncut fields at end bytes within has =
    part_before fields at end (take end bytes) bytes (omega (arith, cut_size fields at end bytes within has)) (sym (take-take end end bytes (omega arith))) (part_of_whole fields at (take end bytes) has)

pub entry_size_is : (e : NodeEntry) → size (entry_fields e) ≡ 11 + size (values_fields e.key) + size (child_fields e.child)
entry_size_is e = omega (arith, size_append (values_fields e.key) (dbkey_fields e.row ++ child_fields e.child), size_append (dbkey_fields e.row) (child_fields e.child))

pub size_without_child : (e : NodeEntry) (k : ℕ) → k ≡ size (values_fields e.key) → e.child ≡ None → k + 11 ≡ size (entry_fields e)
size_without_child e k key is = let child : size (child_fields e.child) ≡ 0 = ap (λ d. size (child_fields d)) is in omega (arith, key, child, entry_size_is e)

pub size_with_child : (e : NodeEntry) (k : ℕ) (child : Dbkey) → k ≡ size (values_fields e.key) → e.child ≡ Some child → k + 21 ≡ size (entry_fields e)
size_with_child e k child key is = let has : size (child_fields e.child) ≡ 10 = ap (λ d. size (child_fields d)) is in omega (arith, key, has, entry_size_is e)

-- an entry that was laid out part by part
pub laid_entry : (e : NodeEntry) (a b c d new : List ℕ) (at k row end : ℕ) → k ≡ size (values_fields e.key) → HasLaid a b at (at + 1) (number 1 k ∷ []) → HasLaid b c (at + 1) row (values_fields e.key) → HasLaid c d row (row + 10) (dbkey_fields e.row)
    → HasLaid d new (row + 10) end (child_fields e.child) → HasLaid a new at end (entry_fields e)
laid_entry e a b c d new at k row end is head key dbkey child =
    let rest = laid_then b c new (at + 1) row end (values_fields e.key) (dbkey_fields e.row ++ child_fields e.child) key (laid_then c d new row (row + 10) end (dbkey_fields e.row) (child_fields e.child) dbkey child) in
    let size_is : HasLaid a b at (at + 1) (number 1 (size (values_fields e.key)) ∷ []) = subst (λ (n : ℕ). HasLaid a b at (at + 1) (number 1 n ∷ [])) is head in
    laid_then a b new at (at + 1) end (number 1 (size (values_fields e.key)) ∷ []) (values_fields e.key ++ (dbkey_fields e.row ++ child_fields e.child)) size_is rest

pub child_bytes_is : (level : ℕ) (child : Option Dbkey) → (IsSome child ↔ (1 ≤ level)) → size (child_fields child) ≡ child_bytes level
child_bytes_is zero None is = refl
child_bytes_is zero (Some child) is = let bad : 1 ≤ 0 = is.0 refl in absurd (omega (arith, bad))
child_bytes_is (suc level) None is = let bad = is.1 (omega arith) in cc
child_bytes_is (suc level) (Some child) is = grind (arith, nat_tests)

one_dbkey : (bytes : List ℕ) (at : ℕ) (a b : Dbkey) → HasPart at (dbkey_fields a) bytes → HasPart at (dbkey_fields b) bytes → a ≡ b
one_dbkey bytes at a b p q =
    let area : a.area ≡ b.area = sym p.0 ∙ q.0 in
    let page : a.page ≡ b.page = sym p.1.0 ∙ q.1.0 in
    let line : a.line ≡ b.line = sym p.1.1.0 ∙ q.1.1.0 in
    λ i. record { area = area i; page = page i; line = line i }

one_child : (bytes : List ℕ) (at level : ℕ) (a b : Option Dbkey) → HasPart at (child_fields a) bytes → HasPart at (child_fields b) bytes → (IsSome a ↔ (1 ≤ level)) → (IsSome b ↔ (1 ≤ level)) → a ≡ b
one_child bytes at level None None p q is also = refl
one_child bytes at level None (Some b) p q is also = let bad = is.1 (also.0 refl) in cc
one_child bytes at level (Some a) None p q is also = let bad = also.1 (is.0 refl) in cc
one_child bytes at level (Some a) (Some b) p q is also = ap Some (one_dbkey bytes at a b p q)

-- one entry at most stands at a place
one_entry : (level : ℕ) (bytes : List ℕ) (at : ℕ) (a b : NodeEntry) → HasPart at (entry_fields a) bytes → IsEntry level a → HasPart at (entry_fields b) bytes → IsEntry level b → a ≡ b
one_entry level bytes at a b p is q also =
    let same : size (values_fields a.key) ≡ size (values_fields b.key) = sym p.0 ∙ q.0 in
    let keys = one_part value_fields IsValue bytes (values_code bytes) (at + 1) a.key b.key
    (part_first (at + 1) (values_fields a.key) (dbkey_fields a.row ++ child_fields a.child) bytes p.1) is.key
    (part_first (at + 1) (values_fields b.key) (dbkey_fields b.row ++ child_fields b.child) bytes q.1) also.key same in
    let middle = at + 1 + size (values_fields a.key) in
    let behind = part_rest (at + 1) middle (values_fields a.key) (dbkey_fields a.row ++ child_fields a.child) bytes refl p.1 in
    let other = part_rest (at + 1) middle (values_fields b.key) (dbkey_fields b.row ++ child_fields b.child) bytes (omega (arith, same)) q.1 in
    let row = one_dbkey bytes middle a.row b.row (part_first middle (dbkey_fields a.row) (child_fields a.child) bytes behind) (part_first middle (dbkey_fields b.row) (child_fields b.child) bytes other) in
    let child = one_child bytes (middle + 10) level a.child b.child (part_rest middle (middle + 10) (dbkey_fields a.row) (child_fields a.child) bytes refl behind) (part_rest middle (middle + 10) (dbkey_fields b.row) (child_fields b.child) bytes refl other) is.child also.child in
    λ i. record { key = keys i; row = row i; child = child i }

long_entry : (e : NodeEntry) → 1 ≤ size (entry_fields e)
long_entry e = omega (arith, entry_size_is e)

pub entries_code : (level : ℕ) (bytes : List ℕ) → IsCode entry_fields (IsEntry level) bytes
entries_code level bytes = record { one = one_entry level bytes; long = long_entry }

-- the parts of an entry that was read
pub entry_found : (level at k middle end : ℕ) (bytes : List ℕ) (e : NodeEntry) → number_at 1 at bytes ≡ k → k ≤ 120 → middle ≡ at + 1 + k → middle ≤ length bytes → AreValues (take middle bytes) (at + 1) e.key → HasPart middle (dbkey_fields e.row) bytes
    → HasPart (middle + 10) (child_fields e.child) bytes → (IsSome e.child ↔ (1 ≤ level)) → end ≡ middle + (10 + child_bytes level) → end ≤ length bytes → StandsAt entry_fields (IsEntry level) bytes at e end
entry_found level at k middle end bytes e head short middle_is inside key row child has ends within =
    let size_is = cut_size (values_fields e.key) (at + 1) middle bytes inside key.fields in
    let values = uncut (values_fields e.key) (at + 1) middle bytes inside key.fields in
    let dbkeys = part_append middle (middle + 10) (dbkey_fields e.row) (child_fields e.child) bytes refl row child in
    record {
      fields = (head ∙ (let same : k ≡ size (values_fields e.key) = omega (arith, middle_is, size_is) in same), part_append (at + 1) middle (values_fields e.key) (dbkey_fields e.row ++ child_fields e.child) bytes size_is values dbkeys);
      allowed = record { key = key.allowed; short = omega (arith, short, middle_is, size_is); child = has };
      ends = omega (arith, ends, size_is, entry_size_is e, child_bytes_is level e.child has);
      within = within;
    }

-- no entry stands where its key would be too long, or its bytes too many
pub entry_too_long : (level at k : ℕ) (bytes : List ℕ) → number_at 1 at bytes ≡ k → ((k ≤ 120) → at + 1 + k + (10 + child_bytes level) ≤ length bytes → ⊥) → (e : NodeEntry) (end : ℕ) → StandsAt entry_fields (IsEntry level) bytes at e end → ⊥
entry_too_long level at k bytes head long e end is =
    let same : k ≡ size (values_fields e.key) = sym head ∙ is.fields.0 in
    long (omega (arith, same, is.allowed.short)) (omega (arith, same, is.ends, is.within, entry_size_is e, child_bytes_is level e.child is.allowed.child))

-- nor where no key does
pub entry_without_key : (level at k middle : ℕ) (bytes : List ℕ) → number_at 1 at bytes ≡ k → middle ≡ at + 1 + k → middle ≤ length bytes → ((key : _) → AreValues (take middle bytes) (at + 1) key → ⊥) → (e : NodeEntry) (end : ℕ) → StandsAt entry_fields (IsEntry level) bytes at e end → ⊥
entry_without_key level at k middle bytes head middle_is inside none e end is =
    let same : k ≡ size (values_fields e.key) = sym head ∙ is.fields.0 in
    none e.key (record {
      fields = cut (values_fields e.key) (at + 1) middle bytes (omega (arith, middle_is, same)) inside (part_first (at + 1) (values_fields e.key) (dbkey_fields e.row ++ child_fields e.child) bytes is.fields.1);
      allowed = is.allowed.key;
    })
