-- Things that stand one after another, read one by one.
use Rattle.std.proofs.Common.{ℕ, ◌+◌, ◌<◌, ◌≤◌, ◌≡◌, List, [], ◌∷◌, length, arith, sym, ap, refl, ◌∙◌}
use Rattle.std.specs.List.{flat_map}
use Rattle.std.proofs.lemmas.List.Elements.{All-head, All-tail}
use Rattle.slot_fields.specs.Fields.{Field, size}
use Rattle.slot_fields.proofs.Laws.{size_append, from_first, from_rest, whole_ends}
use Rattle.record_format.specs.Lists.{AreListed, StandsAt}
use Rattle.record_format.proofs.Lists.{IsCode}

-- the first of these things is this one, and the others stand behind it
pub record IsNext {X : Type 0} (f : X → List Field) (P : X → Type 0) (bytes : List ℕ) (end : ℕ) (x : X) (xs : List X) : Type 0 where
  pub rest : List X
  pub is : xs ≡ x ∷ rest
  pub behind : AreListed f P bytes end rest

-- what stands at a place is the first that is listed from there on
pub found_next : {X : Type 0} (f : X → List Field) (P : X → Type 0) (bytes : List ℕ) → IsCode f P bytes → (at end : ℕ) (x : X) (xs : List X) → StandsAt f P bytes at x end → AreListed f P bytes at xs → IsNext f P bytes end x xs
found_next f P bytes code at end x [] stands are = absurd (omega (arith, code.long x, stands.ends, stands.within, are.fields))
found_next f P bytes code at end x (y ∷ ys) stands are =
    let same : x ≡ y = code.one at x y stands.fields stands.allowed (from_first at (f y) (flat_map f ys) bytes are.fields) (All-head P y ys are.allowed) in
    record {
      rest = ys;
      is = ap (λ z. z ∷ ys) (sym same);
      behind = record {
        fields = from_rest at end (f y) (flat_map f ys) bytes (stands.ends ∙ ap (λ z. at + size (f z)) same) are.fields;
        allowed = All-tail P y ys are.allowed;
      };
    }

-- where nothing stands, nothing is listed
pub none_next : {X : Type 0} (f : X → List Field) (P : X → Type 0) (bytes : List ℕ) (at : ℕ) (xs : List X) → ((x : X) (end : ℕ) → StandsAt f P bytes at x end → ⊥) → AreListed f P bytes at xs → xs ≡ []
none_next f P bytes at [] none are = refl
none_next f P bytes at (x ∷ xs) none are =
    let whole = whole_ends (flat_map f (x ∷ xs)) at bytes are.fields in
    absurd (none x (at + size (f x)) (record {
      fields = from_first at (f x) (flat_map f xs) bytes are.fields;
      allowed = All-head P x xs are.allowed;
      ends = refl;
      within = omega (arith, whole, size_append (f x) (flat_map f xs));
    }))

-- nor at the end of the bytes
pub ended_next : {X : Type 0} (f : X → List Field) (P : X → Type 0) (bytes : List ℕ) → IsCode f P bytes → (at : ℕ) (xs : List X) → length bytes ≤ at → AreListed f P bytes at xs → xs ≡ []
ended_next f P bytes code at [] past are = refl
ended_next f P bytes code at (x ∷ xs) past are = absurd (omega (arith, past, code.long x, size_append (f x) (flat_map f xs), whole_ends (flat_map f (x ∷ xs)) at bytes are.fields))

-- what stands at a place ends further on
pub ends_further : {X : Type 0} (f : X → List Field) (P : X → Type 0) (bytes : List ℕ) → IsCode f P bytes → (at end : ℕ) (x : X) → StandsAt f P bytes at x end → at < end
ends_further f P bytes code at end x stands = omega (arith, code.long x, stands.ends)
