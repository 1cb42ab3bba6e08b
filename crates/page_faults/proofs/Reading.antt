-- What one page, and its space page, say of its owner.
use Rattle.std.proofs.Common.{◌≡◌, ◌≢◌, ℕ, ◌-◌, List, [], ◌∷◌, length, replicate, Bool, true, false, not, inl, ⊎_elim, IsTrue, refl, sym, ap, subst, ◌∙◌, arith, zero, suc}
use Rattle.slot_fields.proofs.Laws.{word_not_zeros}
use Rattle.rdb_types.specs.File.{slot_bytes}
use Rattle.rdb_types.specs.declared.file.FileId.{FileId}
use Rattle.rdb_types.specs.declared.file.FileKind.TheVariants.{Area}
use Rattle.slot_fields.specs.Fields.{number_at}
use Rattle.rdb_page.specs.declared.head.Head.{Head}
use Rattle.rdb_page.specs.Page.{IsUnused, StandsAs}
use Rattle.std.specs.Prelude.{nat_eq}
use Rattle.std.proofs.Common.{eq-eqb}
use Rattle.rdb_outside.specs.Disk.{Image, View, OnlyReads, zeros}
use Rattle.rdb_page.specs.Whole.{IsUsedPage, IsPageOf}
use Rattle.area_files.specs.Areas.{IsSpacePage, space_page_of}
use Rattle.space_pages.specs.Space.{IsSpace, owner_of}
use Rattle.page_faults.specs.declared.checks.PageCheck.{PageCheck}
use Rattle.page_faults.specs.declared.checks.PageCheck.TheVariants.{Decodes, Owned}
use Rattle.page_faults.specs.Checks.{page_at, Passes, HasOwner, SaysOwner, IsMisowned, IsOwned, IsFine}

-- the bytes that were read are those of the page
pub read_there : (image : Image) (f : FileId) (slot file page : ℕ) (bytes : List ℕ) → bytes ≡ image f slot → f ≡ record { kind = Area; number = file } → slot ≡ page - 1 → bytes ≡ page_at image file page
read_there image f slot file page bytes is same at = is ∙ (λ i. image (same i) (at i))

-- the owner that a used page says
abbrev said : List ℕ → ℕ
said bytes = number_at 4 8 bytes

says : (file page : ℕ) (bytes : List ℕ) (used : IsUsedPage file page bytes) → said bytes ≡ used.head.owner
says file page bytes used = used.stands.head.fields.1.1.0

pub used_not_unused : (file page : ℕ) (bytes : List ℕ) (head : Head) → StandsAs bytes file page head → IsUnused bytes → ⊥
used_not_unused file page bytes head stands zeros_are = word_not_zeros bytes (length bytes) 79 (65 ∷ 71 ∷ 69 ∷ []) zeros_are stands.head.fields.0

pub has_owner : (file page : ℕ) (bytes : List ℕ) (head : Head) → IsPageOf file page bytes → StandsAs bytes file page head → HasOwner file page bytes head.owner
has_owner file page bytes head is stands = ⊎_elim
    (λ unused. absurd (used_not_unused file page bytes head stands unused))
    (λ (used : IsUsedPage file page bytes). record { used = used; is = sym (says file page bytes used) ∙ stands.head.fields.1.1.0 })
    is

module _ (image : Image) (file page : ℕ) where
  -- what was read of the page is what the image says
  same_owner : (bytes : List ℕ) (owner : ℕ) → bytes ≡ page_at image file page → HasOwner file page bytes owner → (used : IsUsedPage file page (page_at image file page)) → used.head.owner ≡ owner
  same_owner bytes owner here has used = sym (says file page (page_at image file page) used) ∙ ap said (sym here) ∙ says file page bytes has.used ∙ has.is

  same_said : (spam : List ℕ) (owner : ℕ) → spam ≡ page_at image file (space_page_of page) → SaysOwner page spam owner → owner_of page (page_at image file (space_page_of page)) ≡ owner
  same_said spam owner there is = ap (λ (s : List ℕ). owner_of page s) (sym there) ∙ is.is

  pub misowned : (bytes spam : List ℕ) (owner other : ℕ) → bytes ≡ page_at image file page → spam ≡ page_at image file (space_page_of page) → (IsSpacePage page → ⊥) → HasOwner file page bytes owner → SaysOwner page spam other → other ≢ owner → IsMisowned image file page
  misowned bytes spam owner other here there plain has is differs =
      let used = subst (λ (b : List ℕ). IsUsedPage file page b) here has.used in
      record {
        plain = plain;
        used = used;
        space = subst (λ (s : List ℕ). IsSpace s (space_page_of page)) there is.space;
        differs = λ same. differs (sym (same_said spam other there is) ∙ same ∙ same_owner bytes owner here has used);
      }

  pub owned : (bytes spam : List ℕ) (owner other : ℕ) → bytes ≡ page_at image file page → spam ≡ page_at image file (space_page_of page) → HasOwner file page bytes owner → SaysOwner page spam other → other ≡ owner → IsOwned image file page
  owned bytes spam owner other here there has is same = λ plain used space.
      same_said spam other there is ∙ same ∙ sym (same_owner bytes owner here has used)

  pub not_used : (bytes : List ℕ) → bytes ≡ page_at image file page → (IsUsedPage file page bytes → ⊥) → IsOwned image file page
  not_used bytes here none = λ plain used space. absurd (none (subst (λ (b : List ℕ). IsUsedPage file page b) (sym here) used))

  pub not_said : (spam : List ℕ) → spam ≡ page_at image file (space_page_of page) → (IsSpace spam (space_page_of page) → ⊥) → IsOwned image file page
  not_said spam there none = λ plain used space. absurd (none (subst (λ (s : List ℕ). IsSpace s (space_page_of page)) (sym there) space))

length_zeros : (n : ℕ) → length (replicate {A = ℕ} n 0) ≡ n
length_zeros zero = refl
length_zeros (suc n) = let rest = length_zeros n in omega (arith, rest)

its_zeros : (x : List ℕ) (n : ℕ) → x ≡ replicate n 0 → x ≡ replicate (length x) 0
its_zeros x n is = is ∙ ap (λ k. replicate {A = ℕ} k 0) (sym (ap (λ (l : List ℕ). length l) is ∙ length_zeros n))

unused_fine : (image : Image) (asked : PageCheck) (file page : ℕ) → IsUnused (page_at image file page) → IsFine image asked file page
unused_fine image Decodes file page is = record { space = λ space. record { page = space; bytes = inl is }; plain = λ plain. inl is }
unused_fine image Owned file page is = λ plain used space. absurd (used_not_unused file page (page_at image file page) used.head used.stands is)

-- a slot that was never written is no fault
pub zeros_fine : (image : Image) (asked : PageCheck) (f : FileId) (file page : ℕ) → f ≡ record { kind = Area; number = file } → image f (page - 1) ≡ zeros f → IsFine image asked file page
zeros_fine image asked f file page same is =
    let none : IsUnused (image f (page - 1)) = its_zeros (image f (page - 1)) (slot_bytes f) is in
    unused_fine image asked file page (subst (λ (g : FileId). IsUnused (image g (page - 1))) same none)

-- ---- runs that only read

pub image_same : (old new : View) → OnlyReads old new → IsTrue old.tells → new.content ≡ old.content
image_same old new reads t = λ i file slot. (reads.keeps t).content file slot i

pub told_on : (old new : View) → OnlyReads old new → IsTrue old.tells → IsTrue new.tells
told_on old new reads t = subst (λ b. IsTrue b) (sym reads.told) t

-- numbers that a test tells apart
pub differ : (a b : ℕ) → not (nat_eq a b) ≡ true → a ≢ b
differ a b is same =
    let on : nat_eq a b ≡ true = eq-eqb a b same in
    let bad : false ≡ true = ap not (sym on) ∙ is in
    let no : ⊥ = cc in no
