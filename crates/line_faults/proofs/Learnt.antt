-- What is known of an area that was learnt.
use Rattle.std.proofs.Common.{◌≡◌, ◌==◌, ◌⊎◌, inl, inr, ℕ, ◌<◌, ◌+◌, length, drop, get_or, true, false, cond, List, [], ◌∷◌, ◌++◌, Option, Some, None, is_some, refl, sym, ap, subst, ◌∙◌}
use Rattle.std.specs.List.{AllByRecursion}
use Rattle.std.specs.declared.cmp.Ordering.{Ordering}
use Rattle.std.specs.declared.cmp.Ordering.TheVariants.{Less, Equal, Greater}
use Rattle.std.specs.Ordering.{is_eq, nat_cmp, match_ordering}
use Rattle.std.specs.Cmp.{nat_cmp_total, tied_itself}
use Rattle.std.specs.FinMap.Entries.{find, put, find-put, find-where_key}
use Rattle.std.specs.BTreeSet.{insert_key}
use Rattle.std.proofs.lemmas.Bool.{eqb-true, eq-eqb}
use Rattle.std.proofs.lemmas.List.{at_drop_more}
use Rattle.rdb_types.specs.declared.keys.Dbkey.{Dbkey}
use Rattle.rdb_types.specs.Order.{dbkey_order}
use Rattle.rdb_types.specs.OrderLaws.{dbkey_total, same_dbkey}
use Rattle.line_view.specs.Knowledge.{Lines, Agrees, line_in, lines_in, keys_of}
use Rattle.line_view.specs.Held.{Held, knows, nothing, ordered, ordered_from, with_line, with_lines, with_area}
use Rattle.relation_rows.specs.Stored.{IsLineKnown, IsAreaKnown}
use Rattle.line_faults.specs.Found.{IsIn}

-- ---- keys in lists

pub split_in : (key : Dbkey) (before behind : List Dbkey) → IsIn key (before ++ key ∷ behind)
split_in key [] behind = inl refl
split_in key (k ∷ before) behind = inr (split_in key before behind)

pub all_from_in : (P : Dbkey → Type 0) (ks : List Dbkey) → ((k : Dbkey) → IsIn k ks → P k) → AllByRecursion P ks
all_from_in P [] each = tt
all_from_in P (k ∷ ks) each = (each k (inl refl), all_from_in P ks (λ q there. each q (inr there)))

pub in_from_all : (P : Dbkey → Type 0) (ks : List Dbkey) (key : Dbkey) → AllByRecursion P ks → IsIn key ks → P key
in_from_all P [] key all there = absurd there
in_from_all P (k ∷ ks) key all (inl same) = subst P same all.0
in_from_all P (k ∷ ks) key all (inr there) = in_from_all P ks key all.1 there

inserted_in : (key k : Dbkey) (ks : List Dbkey) → IsIn key (insert_key dbkey_order ks k) → (k ≡ key) ⊎ IsIn key ks
inserted_in key k [] there = there
inserted_in key k (x ∷ xs) there =
    elim (dbkey_order k x) as (λ r. IsIn key (match_ordering r (k ∷ x ∷ xs) (x ∷ xs) (x ∷ insert_key dbkey_order xs k)) → (k ≡ key) ⊎ IsIn key (x ∷ xs)) [
      | Less ↦ λ h. h
      | Equal ↦ λ h. inr h
      | Greater ↦ λ h. elim h [
        | inl same ↦ inr (inl same)
        | inr in_rest ↦ elim (inserted_in key k xs in_rest) [
          | inl own ↦ inl own
          | inr old ↦ inr (inr old)
        ]
      ]
    ] there

ordered_in_from : (key : Dbkey) (found ks : List Dbkey) → IsIn key (ordered_from found ks) → IsIn key found ⊎ IsIn key ks
ordered_in_from key found [] there = inl there
ordered_in_from key found (k ∷ ks) there = elim (ordered_in_from key (insert_key dbkey_order found k) ks there) [
  | inl old ↦ elim (inserted_in key k found old) [
    | inl own ↦ inr (inl own)
    | inr was ↦ inl was
  ]
  | inr behind ↦ inr (inr behind)
]

pub ordered_in : (key : Dbkey) (ks : List Dbkey) → IsIn key (ordered ks) → IsIn key ks
ordered_in key ks there = elim (ordered_in_from key [] ks there) [
  | inl none ↦ absurd none
  | inr is ↦ is
]

pub all_ordered : (P : Dbkey → Type 0) (ks : List Dbkey) → AllByRecursion P ks → AllByRecursion P (ordered ks)
all_ordered P ks all = all_from_in P (ordered ks) (λ k there. in_from_all P ks k all (ordered_in k ks there))

-- ---- keys of lines

abbrev pub IsFound : Dbkey → Lines → Type 0
IsFound key lines = (image : List ℕ) × (line_in key lines ≡ Some image)

pub found_in : (key : Dbkey) (lines : Lines) → IsIn key (keys_of lines) → IsFound key lines
found_in key [] there = absurd there
found_in key (e ∷ es) there = elim (is_eq (dbkey_order key e.0)) as (λ b. is_eq (dbkey_order key e.0) ≡ b → (image : List ℕ) × (cond b (Some e.1) (line_in key es) ≡ Some image)) [
  | true ↦ λ is. (e.1, refl)
  | false ↦ λ isnt. elim there [
    | inl same ↦ absurd (let tied = ap (λ (r : Ordering). is_eq r) (ap (dbkey_order key) same ∙ tied_itself dbkey_total key) in let no : ⊥ = cc in no)
    | inr rest ↦ found_in key es rest
  ]
] refl

pub area_in : (key : Dbkey) (area : ℕ) (lines : Lines) → IsIn key (keys_of (lines_in area lines)) → key.area ≡ area
area_in key area [] there = absurd there
area_in key area (e ∷ es) there = elim (e.0.area == area) as (λ b. (e.0.area == area) ≡ b → IsIn key (keys_of (cond b (e ∷ lines_in area es) (lines_in area es))) → key.area ≡ area) [
  | true ↦ λ is h. elim h [
    | inl same ↦ ap (λ (k : Dbkey). k.area) (sym same) ∙ eqb-true e.0.area area is
    | inr rest ↦ area_in key area es rest
  ]
  | false ↦ λ isnt h. area_in key area es h
] refl there

-- a line of an area of a map is the map's
pub in_whole : (key : Dbkey) (area : ℕ) (lines : Lines) → key.area ≡ area → line_in key (lines_in area lines) ≡ line_in key lines
in_whole key area lines own =
    find-where_key dbkey_order (λ k. k.area == area) key (λ k tied. ap (λ (x : Dbkey). x.area == area) (sym (same_dbkey key k tied))) lines
    ∙ ap (λ b. cond b (line_in key lines) None) (eq-eqb key.area area own)

-- ---- what is known

pub areas_stay : (es : Lines) (h : Held) → (with_lines es h).areas ≡ h.areas
areas_stay [] h = refl
areas_stay (e ∷ es) h = areas_stay es (with_line e.0 (Some e.1) h)

pub learnt_keys : (h : Held) (area : ℕ) (found : Lines) → (knows (with_area area found h)).area area ≡ Some (ordered (keys_of found))
learnt_keys h area found =
    find-put nat_cmp nat_cmp_total area area (ordered (keys_of found)) (with_lines found h).areas
    ∙ ap (λ r. cond (is_eq r) (Some (ordered (keys_of found))) (find nat_cmp area (with_lines found h).areas)) (tied_itself nat_cmp_total area)

abbrev IsHeld : Dbkey → Held → Type 0
IsHeld key h = (what : Option (List ℕ)) × (find dbkey_order key h.lines ≡ Some what)

still_held : (key : Dbkey) (e : Dbkey × List ℕ) (h : Held) → (e.0 ≡ key) ⊎ IsHeld key h → IsHeld key (with_line e.0 (Some e.1) h)
still_held key e h there =
    let put_is = find-put dbkey_order dbkey_total key e.0 (Some e.1) h.lines in
    elim (is_eq (dbkey_order key e.0)) as (λ b. is_eq (dbkey_order key e.0) ≡ b → IsHeld key (with_line e.0 (Some e.1) h)) [
      | true ↦ λ is. (Some e.1, put_is ∙ ap (λ b. cond b (Some (Some e.1)) (find dbkey_order key h.lines)) is)
      | false ↦ λ isnt. elim there [
        | inl same ↦ absurd (let tied = ap (λ (r : Ordering). is_eq r) (ap (dbkey_order key) same ∙ tied_itself dbkey_total key) in let no : ⊥ = cc in no)
        | inr was ↦ (was.0, put_is ∙ ap (λ b. cond b (Some (Some e.1)) (find dbkey_order key h.lines)) isnt ∙ was.1)
      ]
    ] refl

lines_held : (key : Dbkey) (es : Lines) (h : Held) → IsIn key (keys_of es) ⊎ IsHeld key h → IsHeld key (with_lines es h)
lines_held key [] h there = elim there [
  | inl none ↦ absurd none
  | inr was ↦ was
]
lines_held key (e ∷ es) h there = lines_held key es (with_line e.0 (Some e.1) h) (elim there [
  | inl here ↦ elim here [
    | inl same ↦ inr (still_held key e h (inl same))
    | inr rest ↦ inl rest
  ]
  | inr was ↦ inr (still_held key e h (inr was))
])

-- each line of an area that was learnt is known
pub learnt_line : (h : Held) (area : ℕ) (found : Lines) (key : Dbkey) → IsIn key (ordered (keys_of found)) → (what : Option (List ℕ)) × ((knows (with_area area found h)).line key ≡ Some what)
learnt_line h area found key there = lines_held key found h (inl (ordered_in key (keys_of found) there))

pub area_learnt : (h : Held) (area : ℕ) (found : Lines) → IsAreaKnown (knows (with_area area found h)) area
area_learnt h area found = (
  ordered (keys_of found),
  learnt_keys h area found,
  all_from_in (IsLineKnown (knows (with_area area found h))) (ordered (keys_of found)) (λ k there. let is = learnt_line h area found k there in ap (λ (o : Option (Option (List ℕ))). is_some o) is.1),
)

pub nothing_agrees : (all : Lines) → Agrees (knows nothing) all
nothing_agrees all = record {
  line = λ key what is. let no : ⊥ = cc in absurd no;
  area = λ area keys is. let no : ⊥ = cc in absurd no;
  within = λ room key is. let no : ⊥ = cc in absurd no;
  free = λ room key is. let no : ⊥ = cc in absurd no;
  apart = λ a b key is too. let no : ⊥ = cc in absurd no;
}

-- ---- keys put in order

pub one_ordered : (keys found new : List Dbkey) (i : ℕ) (k d : Dbkey) → i < length keys → k ≡ get_or keys i d → new ≡ insert_key dbkey_order found k → ordered_from found (drop i keys) ≡ ordered keys → ordered_from new (drop (i + 1) keys) ≡ ordered keys
one_ordered keys found new i k d within is put so_far =
    ap (λ (ks : List Dbkey). ordered_from ks (drop (i + 1) keys)) (put ∙ ap (insert_key dbkey_order found) is)
    ∙ sym (at_drop_more (ordered_from found) keys i d within) ∙ so_far
