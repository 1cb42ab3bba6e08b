-- Things that stand one after another.
use Rattle.std.proofs.Common.{ℕ, zero, suc, ◌+◌, ◌<◌, ◌≤◌, ◌≡◌, List, [], ◌∷◌, ◌++◌, length, take, get_or, arith, sym, ap, subst, refl, ◌∙◌}
use Rattle.std.specs.List.{All, flat_map}
use Rattle.std.proofs.lemmas.List.{append-nil, take_more}
use Rattle.std.proofs.lemmas.List.Concat.{flat_map-append}
use Rattle.std.proofs.lemmas.List.Elements.{All-head, All-tail, All-nil, All-push}
use Rattle.slot_fields.specs.Fields.{Field, size, HasPart, HasFrom}
use Rattle.slot_fields.proofs.Laws.{size_append, part_first, part_append, from_first, from_rest, whole_ends, whole_of_part, part_of_whole}
use Rattle.record_format.specs.Lists.{AreListed, StandsAt}
use Rattle.record_format.proofs.Parts.{part_rest}

-- one more

pub fields_more : {X : Type 0} (f : X → List Field) (xs : List X) (i : ℕ) (x : X) → i < length xs → x ≡ get_or xs i x → flat_map f (take (i + 1) xs) ≡ flat_map f (take i xs) ++ f x
fields_more f xs i x inside is =
    ap (flat_map f) (take_more xs i x inside ∙ ap (λ w. take i xs ++ w ∷ []) (sym is))
    ∙ flat_map-append f (take i xs) (x ∷ [])
    ∙ ap (λ fs. flat_map f (take i xs) ++ fs) (append-nil (f x))

pub size_more : {X : Type 0} (f : X → List Field) (xs : List X) (i : ℕ) (x : X) → i < length xs → x ≡ get_or xs i x → size (flat_map f (take (i + 1) xs)) ≡ size (flat_map f (take i xs)) + size (f x)
size_more f xs i x inside is = ap size (fields_more f xs i x inside is) ∙ size_append (flat_map f (take i xs)) (f x)

size_within : {X : Type 0} (f : X → List Field) (xs : List X) (i : ℕ) (d : X) → i < length xs → size (flat_map f (take i xs)) + size (f (get_or xs i d)) ≤ size (flat_map f xs)
size_within f [] i d less = absurd (omega (arith, less))
size_within f (x ∷ xs) zero d less = omega (arith, size_append (f x) (flat_map f xs))
size_within f (x ∷ xs) (suc i) d less =
    let rest = size_within f xs i d (omega (arith, less)) in
    omega (arith, rest, size_append (f x) (flat_map f xs), size_append (f x) (flat_map f (take i xs)))

pub size_up_to : {X : Type 0} (f : X → List Field) (xs : List X) (i : ℕ) (x : X) → i < length xs → x ≡ get_or xs i x → size (flat_map f (take i xs)) + size (f x) ≤ size (flat_map f xs)
size_up_to f xs i x inside is = let within = size_within f xs i x inside in let same = ap (λ y. size (f y)) is in omega (arith, within, same)

-- bytes say at most one thing at a place, and each thing takes a byte
pub record IsCode {X : Type 0} (f : X → List Field) (P : X → Type 0) (bytes : List ℕ) : Type 0 where
  pub one : (at : ℕ) (a b : X) → HasPart at (f a) bytes → P a → HasPart at (f b) bytes → P b → a ≡ b
  pub long : (a : X) → 1 ≤ size (f a)

longer : {X : Type 0} (f : X → List Field) (P : X → Type 0) (bytes : List ℕ) → IsCode f P bytes → (x : X) (xs : List X) → 1 ≤ size (flat_map f (x ∷ xs))
longer f P bytes code x xs = omega (arith, code.long x, size_append (f x) (flat_map f xs))

-- lists of as many bytes at one place are one
pub one_part : {X : Type 0} (f : X → List Field) (P : X → Type 0) (bytes : List ℕ) → IsCode f P bytes → (at : ℕ) (xs ys : List X) → HasPart at (flat_map f xs) bytes → All P xs → HasPart at (flat_map f ys) bytes → All P ys → size (flat_map f xs) ≡ size (flat_map f ys) → xs ≡ ys
one_part f P bytes code at [] [] part each also too same = refl
one_part f P bytes code at [] (y ∷ ys) part each also too same = absurd (omega (arith, same, longer f P bytes code y ys))
one_part f P bytes code at (x ∷ xs) [] part each also too same = absurd (omega (arith, same, longer f P bytes code x xs))
one_part f P bytes code at (x ∷ xs) (y ∷ ys) part each also too same =
    let first : x ≡ y = code.one at x y (part_first at (f x) (flat_map f xs) bytes part) (All-head P x xs each) (part_first at (f y) (flat_map f ys) bytes also) (All-head P y ys too) in
    let size_is : size (f x) ≡ size (f y) = ap (λ z. size (f z)) first in
    let middle = at + size (f x) in
    let rest = one_part f P bytes code middle xs ys (part_rest at middle (f x) (flat_map f xs) bytes refl part) (All-tail P x xs each) (part_rest at middle (f y) (flat_map f ys) bytes (omega (arith, size_is)) also) (All-tail P y ys too)
    (omega (arith, same, size_is, size_append (f x) (flat_map f xs), size_append (f y) (flat_map f ys))) in
    λ i. first i ∷ rest i

-- what is left behind this place of all things, whose front was read
record Remains {X : Type 0} (f : X → List Field) (P : X → Type 0) (bytes : List ℕ) (at : ℕ) (front all : List X) : Type 0 where
  pub rest : List X
  pub is : all ≡ front ++ rest
  pub fields : HasFrom at (flat_map f rest) bytes
  pub allowed : All P rest

remains : {X : Type 0} (f : X → List Field) (P : X → Type 0) (bytes : List ℕ) → IsCode f P bytes → (at end : ℕ) (front all : List X) → HasPart at (flat_map f front) bytes → All P front → end ≡ at + size (flat_map f front) → end ≤ length bytes
    → HasFrom at (flat_map f all) bytes → All P all → Remains f P bytes end front all
remains f P bytes code at end [] all part each ends within fields allowed = record {
  rest = all;
  is = refl;
  fields = subst (λ (k : ℕ). HasFrom k (flat_map f all) bytes) (let same : at ≡ end = omega (arith, ends) in same) fields;
  allowed = allowed;
}
remains f P bytes code at end (a ∷ front) [] part each ends within fields allowed = absurd (omega (arith, longer f P bytes code a front, ends, within, fields))
remains f P bytes code at end (a ∷ front) (b ∷ all) part each ends within fields allowed =
    let middle = at + size (f a) in
    let same : a ≡ b = code.one at a b (part_first at (f a) (flat_map f front) bytes part) (All-head P a front each) (from_first at (f b) (flat_map f all) bytes fields) (All-head P b all allowed) in
    let left = remains f P bytes code middle end front all (part_rest at middle (f a) (flat_map f front) bytes refl part) (All-tail P a front each)
    (omega (arith, ends, size_append (f a) (flat_map f front))) within
    (from_rest at middle (f b) (flat_map f all) bytes (ap (λ v. at + size (f v)) same) fields) (All-tail P b all allowed) in
    record { rest = left.rest; is = λ i. sym same i ∷ left.is i; fields = left.fields; allowed = left.allowed }

-- these things were read up to this place
pub record HasRead {X : Type 0} (f : X → List Field) (P : X → Type 0) (bytes : List ℕ) (from at : ℕ) (front : List X) : Type 0 where
  pub within : at ≤ length bytes
  pub ends : at ≡ from + size (flat_map f front)
  pub fields : HasPart from (flat_map f front) bytes
  pub allowed : All P front

pub read_none : {X : Type 0} (f : X → List Field) (P : X → Type 0) (bytes : List ℕ) (from : ℕ) (front : List X) → front ≡ [] → from ≤ length bytes → HasRead f P bytes from from front
read_none f P bytes from front is within = subst (HasRead f P bytes from from) (sym is) (record { within = within; ends = omega arith; fields = tt; allowed = All-nil P })

pub read_more : {X : Type 0} (f : X → List Field) (P : X → Type 0) (bytes : List ℕ) (from at : ℕ) (front : List X) (x : X) (end : ℕ) → HasRead f P bytes from at front → StandsAt f P bytes at x end → HasRead f P bytes from end (front ++ x ∷ [])
read_more f P bytes from at front x end was is =
    let fields : flat_map f (front ++ x ∷ []) ≡ flat_map f front ++ (f x ++ []) = flat_map-append f front (x ∷ []) in
    record {
      within = is.within;
      ends = rw fields (omega (arith, was.ends, is.ends, size_append (flat_map f front) (f x ++ []), size_append (f x) []));
      fields = rw fields (part_append from at (flat_map f front) (f x ++ []) bytes was.ends was.fields (part_append at end (f x) [] bytes is.ends is.fields tt));
      allowed = All-push P front x was.allowed is.allowed;
    }

pub read_all : {X : Type 0} (f : X → List Field) (P : X → Type 0) (bytes : List ℕ) (from at : ℕ) (front : List X) → HasRead f P bytes from at front → length bytes ≤ at → AreListed f P bytes from front
read_all f P bytes from at front was past = record {
  fields = whole_of_part (flat_map f front) from bytes (omega (arith, was.within, was.ends, past)) was.fields;
  allowed = was.allowed;
}

left_of : {X : Type 0} (f : X → List Field) (P : X → Type 0) (bytes : List ℕ) → IsCode f P bytes → (from at : ℕ) (front all : List X) → HasRead f P bytes from at front → AreListed f P bytes from all → Remains f P bytes at front all
left_of f P bytes code from at front all was is = remains f P bytes code from at front all was.fields was.allowed was.ends was.within is.fields is.allowed

ended : {X : Type 0} (f : X → List Field) (P : X → Type 0) (bytes : List ℕ) (at : ℕ) (rest : List X) → at < length bytes → HasFrom at (flat_map f rest) bytes → All P rest → ((x : X) (end : ℕ) → StandsAt f P bytes at x end → ⊥) → ⊥
ended f P bytes at [] inside fields each none = absurd (omega (arith, inside, fields))
ended f P bytes at (x ∷ rest) inside fields each none =
    let whole = whole_ends (flat_map f (x ∷ rest)) at bytes fields in
    none x (at + size (f x)) (record {
      fields = from_first at (f x) (flat_map f rest) bytes fields;
      allowed = All-head P x rest each;
      ends = refl;
      within = omega (arith, whole, size_append (f x) (flat_map f rest));
    })

-- where nothing stands behind what was read, the bytes are no such list
pub read_stuck : {X : Type 0} (f : X → List Field) (P : X → Type 0) (bytes : List ℕ) → IsCode f P bytes → (from at : ℕ) (front : List X) → HasRead f P bytes from at front → at < length bytes → ((x : X) (end : ℕ) → StandsAt f P bytes at x end → ⊥) → (all : List X) → AreListed f P bytes from all → ⊥
read_stuck f P bytes code from at front was inside none all is =
    let left = left_of f P bytes code from at front all was is in
    ended f P bytes at left.rest inside left.fields left.allowed none

nothing_left : {X : Type 0} (f : X → List Field) (P : X → Type 0) (bytes : List ℕ) → IsCode f P bytes → (at : ℕ) (rest : List X) → length bytes ≤ at → HasFrom at (flat_map f rest) bytes → rest ≡ []
nothing_left f P bytes code at [] past fields = refl
nothing_left f P bytes code at (x ∷ rest) past fields = absurd (omega (arith, past, longer f P bytes code x rest, whole_ends (flat_map f (x ∷ rest)) at bytes fields))

-- bytes are this list and no other
pub read_again : {X : Type 0} (f : X → List Field) (P : X → Type 0) (bytes : List ℕ) → IsCode f P bytes → (from at : ℕ) (front : List X) → HasRead f P bytes from at front → length bytes ≤ at → (all : List X) → AreListed f P bytes from all → front ≡ all
read_again f P bytes code from at front was past all is =
    let left = left_of f P bytes code from at front all was is in
    sym (left.is ∙ ap (λ xs. front ++ xs) (nothing_left f P bytes code at left.rest past left.fields) ∙ append-nil front)

pub one_list : {X : Type 0} (f : X → List Field) (P : X → Type 0) (bytes : List ℕ) → IsCode f P bytes → (from : ℕ) (a b : List X) → AreListed f P bytes from a → AreListed f P bytes from b → a ≡ b
one_list f P bytes code from a b x y =
    let ends = whole_ends (flat_map f a) from bytes x.fields in
    read_again f P bytes code from (length bytes) a (record { within = omega arith; ends = ends; fields = part_of_whole (flat_map f a) from bytes x.fields; allowed = x.allowed }) (omega arith) b y
