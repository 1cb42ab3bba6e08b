-- The owners of pages, one page behind another.
use Rattle.std.proofs.Common.{◌≡◌, ◌≢◌, ℕ, ◌+◌, ◌-◌, ◌%◌, ◌≤◌, List, [], ◌∷◌, ◌++◌, length, get_or, ◌⊎◌, inl, inr, ⊎_elim, refl, sym, ◌∙◌, ap, subst, arith, zero, suc}
use Rattle.std.proofs.lemmas.List.{get_or_append_left}
use Rattle.std.proofs.Math.Seq.{get_or-append_seam}
use Rattle.rdb_outside.specs.Disk.{Image}
use Rattle.area_files.specs.Areas.{IsPage, IsSpacePage, IsDataPage, space_page_of}
use Rattle.database_opening.specs.Owners.{owner_said}

-- a data page behind a page has the same space page
pub same_space : (page : ℕ) → 1 ≤ page → IsDataPage (page + 1) → space_page_of (page + 1) ≡ space_page_of page
same_space page first plain = let off : (page + 1 - 1) % 200 ≢ 0 = plain.plain in by_rest page first off
  where
    by_rest : (p : ℕ) → 1 ≤ p → (p + 1 - 1) % 200 ≢ 0 → p + 1 - (p + 1 - 1) % 200 ≡ p - (p - 1) % 200
    by_rest p le rest = omega arith

-- a space page is its own
pub own_space : (page : ℕ) → (page - 1) % 200 ≡ 0 → space_page_of page ≡ page
own_space page is = omega (arith, is)

pub space_or_data : (page : ℕ) → IsPage page → IsSpacePage page ⊎ IsDataPage page
space_or_data page is = ⊎_elim (λ space. inl space) (λ plain. inr (record { is_page = is; plain = plain })) (cases ((page - 1) % 200))
  where
    cases : (rest : ℕ) → (rest ≡ 0) ⊎ (rest ≢ 0)
    cases zero = inl refl
    cases (suc rest) = inr (λ is_zero. omega (arith, is_zero))

-- the owner of one page more
pub one_more_owner : (image : Image) (file slot : ℕ) (owners : List ℕ) (last : ℕ) → length owners ≡ slot → (IsDataPage (slot + 1) → last ≡ owner_said image file (slot + 1))
    → ((page : ℕ) → IsDataPage page → page ≤ slot → get_or owners (page - 1) 0 ≡ owner_said image file page)
    → (page : ℕ) → IsDataPage page → page ≤ slot + 1 → get_or (owners ++ last ∷ []) (page - 1) 0 ≡ owner_said image file page
one_more_owner image file slot owners last long here was page is le = ⊎_elim earlier this (cases page slot le)
  where
    cases : (a b : ℕ) → a ≤ b + 1 → (a ≤ b) ⊎ (a ≡ b + 1)
    cases a b less = grind arith

    earlier : page ≤ slot → get_or (owners ++ last ∷ []) (page - 1) 0 ≡ owner_said image file page
    earlier within = let first = is.is_page.first in get_or_append_left owners (last ∷ []) 0 (page - 1) (omega (arith, first, within, long)) ∙ was page is within

    this : page ≡ slot + 1 → get_or (owners ++ last ∷ []) (page - 1) 0 ≡ owner_said image file page
    this same =
        let place : page - 1 ≡ length owners = omega (arith, same, long) in
        ap (λ (k : ℕ). get_or (owners ++ last ∷ []) k 0) place ∙ get_or-append_seam owners last [] 0 ∙ here (subst (λ (p : ℕ). IsDataPage p) same is) ∙ ap (λ (p : ℕ). owner_said image file p) (sym same)
