-- What a store takes for a room.
use Rattle.std.proofs.Common.{◌≡◌, ℕ, ◌==◌, Bool, true, false, refl, ◌∙◌, sym, arith, ◌⊎◌, inl, inr}
use Rattle.rdb_types.specs.declared.keys.Dbkey.{Dbkey}
use Rattle.rdb_account.specs.Lawful.{file_of}
use Rattle.line_store.specs.Shelves.{Space, Shelf}
use Rattle.line_store.specs.Calls.{KeepsSpace}
use Rattle.line_store.specs.Rooms.{Takes}
use Rattle.store_counts.specs.Counts.{TakesAt}
use Rattle.store_counts.proofs.Limits.{file-is}

number : (a b : ℕ) → (a == b) ≡ true → a ≡ b
number a b e = grind arith

differ : (a b : ℕ) → (a == b) ≡ false → a ≡ b → ⊥
differ a b e h = grind arith

pub takes-page : (key : Dbkey) (h k : Shelf) → Takes key h k → TakesAt key h.space k.space
takes-page key h k t =
    let snaps = t.page.snaps in
    let slots = t.page.slots in
    record {
      limits = t.page.limits;
      taken = λ file page e. by file page (file == t.file) (page == key.page) refl refl e;
      snaps = omega (arith, snaps);
      slots = omega (arith, slots);
    }
  where
    by : (file page : ℕ) (a b : Bool) → (file == t.file) ≡ a → (page == key.page) ≡ b → k.space.taken file page ≡ true → (h.space.taken file page ≡ true) ⊎ ((file ≡ file_of key.area) × (page ≡ key.page))
    by file page true true e f g = inr (number file t.file e ∙ file-is t.file key.area t.lies, number page key.page f)
    by file page false b e f g = inl (sym (t.page.others file page (λ i. absurd (differ file t.file e i))) ∙ g)
    by file page true false e f g = inl (sym (t.page.others file page (λ i. differ page key.page f)) ∙ g)

pub takes-nothing : (key : Dbkey) (a b : Space) → KeepsSpace a b → TakesAt key a b
takes-nothing key a b s = record { limits = s.limits; taken = λ file page e. inl (sym (s.taken file page) ∙ e); snaps = s.snaps; slots = s.slots }

pub takes-more : (key : Dbkey) (a b c : Space) → TakesAt key a b → TakesAt key b c → TakesAt key a c
takes-more key a b c x y =
    let p = x.snaps in
    let q = y.snaps in
    let r = x.slots in
    let s = y.slots in
    record {
      limits = y.limits ∙ x.limits;
      taken = λ file page e. by file page (y.taken file page e);
      snaps = omega (arith, p, q);
      slots = omega (arith, r, s);
    }
  where
    by : (file page : ℕ) → (b.taken file page ≡ true) ⊎ ((file ≡ file_of key.area) × (page ≡ key.page)) → (a.taken file page ≡ true) ⊎ ((file ≡ file_of key.area) × (page ≡ key.page))
    by file page (inl e) = x.taken file page e
    by file page (inr e) = inr e
