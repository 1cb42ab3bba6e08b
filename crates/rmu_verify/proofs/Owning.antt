-- The owners of pages.
use Rattle.std.proofs.Common.{◌≡◌, ◌<◌, ◌≤◌, ◌+◌, ◌-◌, ◌%◌, ◌==◌, ◌⊎◌, inl, inr, ℕ, Bool, true, false, List, [], ◌∷◌, length, replicate, refl, sym, ap, subst, ◌∙◌, arith}
use Rattle.std.specs.declared.cmp.Ordering.TheVariants.{Less, Equal, Greater}
use Rattle.std.specs.Ordering.{nat_cmp, match_ordering}
use Rattle.std.specs.BTreeSet.{insert_key}
use Rattle.std.proofs.lemmas.Bool.{eqb-true, eq-eqb}
use Rattle.std.proofs.lemmas.Cmp.{ranked}
use Rattle.std.proofs.lemmas.List.{length-replicate}
use Rattle.rdb_types.specs.declared.file.FileId.{FileId}
use Rattle.rdb_types.specs.File.{slot_bytes}
use Rattle.rdb_outside.specs.Disk.{Image, zeros}
use Rattle.rdb_page.specs.Page.{IsOwner, IsUnused}
use Rattle.rdb_page.specs.Whole.{IsPageOf}
use Rattle.stable_lines.specs.Slots.{owner_at}
use Rattle.stable_lines.proofs.Never.{zeros_owner, space_owner}
use Rattle.line_moves.proofs.Reading.{owner_is}
use Rattle.page_faults.specs.Checks.{page_at, Passes}
use Rattle.verified_lines.specs.Faults.{IsAmong}
use Rattle.rmu_verify.specs.Owners.{IsOwnerOn, AddsOwner, ComesFrom, HasOwners}

same_nat : (a b : ℕ) → nat_cmp a b ≡ Equal → a ≡ b
same_nat a b e = ranked a b _ (sym e)

among_inserted : (area owner : ℕ) (ks : List ℕ) → IsAmong area ks → IsAmong area (insert_key nat_cmp ks owner)
among_inserted area owner [] there = absurd there
among_inserted area owner (x ∷ xs) there = elim (nat_cmp owner x) as (λ r. IsAmong area (match_ordering r (owner ∷ x ∷ xs) (x ∷ xs) (x ∷ insert_key nat_cmp xs owner))) [
  | Less ↦ inr there
  | Equal ↦ there
  | Greater ↦ elim there [
    | inl same ↦ inl same
    | inr rest ↦ inr (among_inserted area owner xs rest)
  ]
]

own_inserted : (owner : ℕ) (ks : List ℕ) → IsAmong owner (insert_key nat_cmp ks owner)
own_inserted owner [] = inl refl
own_inserted owner (x ∷ xs) = elim (nat_cmp owner x) as (λ r. nat_cmp owner x ≡ r → IsAmong owner (match_ordering r (owner ∷ x ∷ xs) (x ∷ xs) (x ∷ insert_key nat_cmp xs owner))) [
  | Less ↦ λ is. inl refl
  | Equal ↦ λ is. inl (sym (same_nat owner x is))
  | Greater ↦ λ is. inr (own_inserted owner xs)
] refl

among_before : (area owner : ℕ) (ks : List ℕ) → IsAmong area (insert_key nat_cmp ks owner) → IsAmong area ks ⊎ (owner ≡ area)
among_before area owner [] (inl is) = inr is
among_before area owner [] (inr none) = absurd none
among_before area owner (x ∷ xs) there = elim (nat_cmp owner x) as (λ r. IsAmong area (match_ordering r (owner ∷ x ∷ xs) (x ∷ xs) (x ∷ insert_key nat_cmp xs owner)) → IsAmong area (x ∷ xs) ⊎ (owner ≡ area)) [
  | Less ↦ first
  | Equal ↦ λ old. inl old
  | Greater ↦ behind (among_before area owner xs)
] there
  where
    first : IsAmong area (owner ∷ x ∷ xs) → IsAmong area (x ∷ xs) ⊎ (owner ≡ area)
    first (inl is) = inr is
    first (inr rest) = inl rest

    later : IsAmong area xs ⊎ (owner ≡ area) → IsAmong area (x ∷ xs) ⊎ (owner ≡ area)
    later (inl old) = inl (inr old)
    later (inr is) = inr is

    behind : (IsAmong area (insert_key nat_cmp xs owner) → IsAmong area xs ⊎ (owner ≡ area)) → IsAmong area (x ∷ insert_key nat_cmp xs owner) → IsAmong area (x ∷ xs) ⊎ (owner ≡ area)
    behind rest (inl is) = inl (inl is)
    behind rest (inr there) = later (rest there)

pub none_added : (file page : ℕ) (bytes ks : List ℕ) → (owner_at bytes ≡ 0) ⊎ (Passes file page bytes → ⊥) → AddsOwner file page bytes ks ks
none_added file page bytes ks off = record {
  kept = λ area there. there;
  added = by off;
  only = λ area there. inl there;
}
  where
    by : (owner_at bytes ≡ 0) ⊎ (Passes file page bytes → ⊥) → Passes file page bytes → (owner_at bytes ≡ 0) ⊎ IsAmong (owner_at bytes) ks
    by (inl none) passes = inl none
    by (inr fails) passes = absurd (fails passes)

pub owner_added : (file page : ℕ) (bytes : List ℕ) (owner : ℕ) (old new : List ℕ) → owner ≡ owner_at bytes → (owner ≡ 0 → ⊥) → Passes file page bytes → new ≡ insert_key nat_cmp old owner → AddsOwner file page bytes old new
owner_added file page bytes owner old new same some passes is = record {
  kept = λ area there. subst (λ (l : List ℕ). IsAmong area l) (sym is) (among_inserted area owner old there);
  added = λ p. inr (subst (λ (a : ℕ). IsAmong a new) same (subst (λ (l : List ℕ). IsAmong owner l) (sym is) (own_inserted owner old)));
  only = λ area there. by area (among_before area owner old (subst (λ (l : List ℕ). IsAmong area l) is there));
}
  where
    nonzero : (n : ℕ) → (n ≡ 0 → ⊥) → 1 ≤ n
    nonzero n isnt = grind arith

    by : (area : ℕ) → IsAmong area old ⊎ (owner ≡ area) → IsAmong area old ⊎ IsOwnerOn file page bytes area
    by area (inl there) = inl there
    by area (inr it) = inr (record { passes = passes; owner = sym same ∙ it; some = subst (λ (a : ℕ). 1 ≤ a) it (nonzero owner some) })

pub zeros_unused : (file : FileId) (x : List ℕ) → x ≡ zeros file → IsUnused x
zeros_unused file x is = is ∙ ap (λ (k : ℕ). replicate {A = ℕ} k 0) (sym (ap (λ (l : List ℕ). length l) is ∙ length-replicate (slot_bytes file) 0))

either : (a b : ℕ) → (a ≤ b) ⊎ (b < a)
either a b = grind arith

pub no_owners : (image : Image) (file : ℕ) → HasOwners image file 0 []
no_owners image file = record { each = λ page first last. absurd (let no : ⊥ = omega (arith, first, last) in no); only = λ area none. absurd none }

module _ (image : Image) (file count : ℕ) (old new : List ℕ) (has : HasOwners image file count old) (within : count < 65536) (adds : AddsOwner file (count + 1) (page_at image file (count + 1)) old new) where
  abbrev Told : ℕ → List ℕ → Type 0
  Told page owners = (owner_at (page_at image file page) ≡ 0) ⊎ IsAmong (owner_at (page_at image file page)) owners

  kept_told : (page : ℕ) → Told page old → Told page new
  kept_told page (inl none) = inl none
  kept_told page (inr there) = inr (adds.kept (owner_at (page_at image file page)) there)

  each_now : (page : ℕ) → 1 ≤ page → page ≤ count + 1 → Passes file page (page_at image file page) → (page ≤ count) ⊎ (count < page) → Told page new
  each_now page first last passes (inl before) = kept_told page (has.each page first before passes)
  each_now page first last passes (inr behind) =
      let at : count + 1 ≡ page = omega (arith, last, behind) in
      subst (λ (p : ℕ). Passes file p (page_at image file p) → Told p new) at adds.added passes

  only_now : (area : ℕ) → IsAmong area old ⊎ IsOwnerOn file (count + 1) (page_at image file (count + 1)) area → ComesFrom image file area
  only_now area (inl there) = has.only area there
  only_now area (inr on) = record { page = count + 1; is_page = record { first = omega arith; last = omega (arith, within) }; on = on }

  pub owners_more : HasOwners image file (count + 1) new
  owners_more = record {
    each = λ page first last passes. each_now page first last passes (either page count);
    only = λ area there. only_now area (adds.only area there);
  }

-- pages that were never written have none
module _ (image : Image) (file count more : ℕ) (owners : List ℕ) (has : HasOwners image file count owners) (ends : (page : ℕ) → count < page → page ≤ more → IsUnused (page_at image file page)) where
  told : (page : ℕ) → 1 ≤ page → page ≤ more → Passes file page (page_at image file page) → (page ≤ count) ⊎ (count < page) → (owner_at (page_at image file page) ≡ 0) ⊎ IsAmong (owner_at (page_at image file page)) owners
  told page first last passes (inl before) = has.each page first before passes
  told page first last passes (inr behind) = inl (zeros_owner (page_at image file page) (ends page behind last))

  pub all_owners : HasOwners image file more owners
  all_owners = record { each = λ page first last passes. told page first last passes (either page count); only = has.only }

-- the owner of a page that passes is one of its file
module _ (file page : ℕ) (bytes : List ℕ) (area : ℕ) (on : IsOwnerOn file page bytes area) where
  none : owner_at bytes ≡ 0 → ⊥
  none zero_is = let same : area ≡ 0 = sym on.owner ∙ zero_is in let some = on.some in omega (arith, same, some)

  of_page : IsPageOf file page bytes → IsOwner file area
  of_page (inl unused) = absurd (none (zeros_owner bytes unused))
  of_page (inr used) = subst (IsOwner file) (sym (owner_is bytes used.head used.stands.head) ∙ on.owner) used.stands.owner

  by_kind : (b : Bool) → ((page - 1) % 200 == 0) ≡ b → IsOwner file area
  by_kind true is = absurd (none (space_owner bytes page (on.passes.space (eqb-true ((page - 1) % 200) 0 is))))
  by_kind false isnt = of_page (on.passes.plain (λ same. let is = eq-eqb ((page - 1) % 200) 0 same in let no : ⊥ = cc in no))

  pub owner_in_file : IsOwner file area
  owner_in_file = by_kind ((page - 1) % 200 == 0) refl
