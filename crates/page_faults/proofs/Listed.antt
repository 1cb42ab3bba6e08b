-- Lists of faults, page by page.
use Rattle.std.proofs.Common.{◌≡◌, ℕ, zero, suc, ◌+◌, ◌-◌, ◌≤◌, ◌<◌, List, [], ◌∷◌, ◌++◌, append_assoc, append-nil, length, length-append, ◌⊎◌, inl, inr, ⊎_elim, refl, sym, ap, subst, ◌∙◌, arith}
use Rattle.std.proofs.Math.Nat.{eq-or-lt_of_le}
use Rattle.rdb_outside.specs.Disk.{Image}
use Rattle.rmu_texts.specs.declared.faults.VerifyFault.{VerifyFault}
use Rattle.page_faults.specs.declared.checks.PageCheck.{PageCheck}
use Rattle.page_faults.specs.declared.checks.PageCheck.TheVariants.{Decodes, Owned}
use Rattle.page_faults.specs.Checks.{fault_of, IsFault, IsFine}
use Rattle.page_faults.specs.Listing.{Grows, Lists, ListsAll, ListsPages}

-- ---- one page more

none_listed : (image : Image) (asked : PageCheck) (file : ℕ) → Lists image asked file 0 []
unfolding Lists
none_listed image asked file = refl

next_listed : (image : Image) (asked : PageCheck) (file last : ℕ) (before : List VerifyFault) → IsFault image asked file (suc last) → Lists image asked file last before → Lists image asked file (suc last) (before ++ fault_of asked file (suc last) ∷ [])
unfolding Lists
next_listed image asked file last before is were = inl (before, refl, is, were)

next_fine : (image : Image) (asked : PageCheck) (file last : ℕ) (listed : List VerifyFault) → IsFine image asked file (suc last) → Lists image asked file last listed → Lists image asked file (suc last) listed
unfolding Lists
next_fine image asked file last listed is were = inr (is, were)

pub same_last : (image : Image) (asked : PageCheck) (file a b : ℕ) (listed : List VerifyFault) → a ≡ b → Lists image asked file a listed → Lists image asked file b listed
same_last image asked file a b listed same are = subst (λ (n : ℕ). Lists image asked file n listed) same are

-- ---- what grows

pub grows_none : (image : Image) (asked : PageCheck) (file : ℕ) (faults : List VerifyFault) → Grows (Lists image asked file 0) faults faults
grows_none image asked file faults = ([], sym (append-nil faults), none_listed image asked file)

pub grows_listed : (image : Image) (asked : PageCheck) (file last : ℕ) (old mid new : List VerifyFault) → Grows (Lists image asked file last) old mid → IsFault image asked file (last + 1) → new ≡ mid ++ fault_of asked file (last + 1) ∷ [] → Grows (Lists image asked file (last + 1)) old new
grows_listed image asked file last old mid new were is made =
    let next : suc last ≡ last + 1 = omega arith in
    let fault : IsFault image asked file (suc last) = subst (λ (n : ℕ). IsFault image asked file n) (sym next) is in
    let added : new ≡ (old ++ were.0) ++ fault_of asked file (suc last) ∷ [] = made ∙ ap (λ (m : List VerifyFault). m ++ fault_of asked file (last + 1) ∷ []) were.1 ∙ ap (λ (n : ℕ). (old ++ were.0) ++ fault_of asked file n ∷ []) (sym next) in (
      were.0 ++ fault_of asked file (suc last) ∷ [],
      added ∙ append_assoc old were.0 (fault_of asked file (suc last) ∷ []),
      same_last image asked file (suc last) (last + 1) (were.0 ++ fault_of asked file (suc last) ∷ []) next (next_listed image asked file last were.0 fault were.2),
    )

pub grows_fine : (image : Image) (asked : PageCheck) (file last : ℕ) (old new : List VerifyFault) → Grows (Lists image asked file last) old new → IsFine image asked file (last + 1) → Grows (Lists image asked file (last + 1)) old new
grows_fine image asked file last old new were is =
    let next : suc last ≡ last + 1 = omega arith in
    (were.0, were.1, same_last image asked file (suc last) (last + 1) were.0 next (next_fine image asked file last were.0 (subst (λ (n : ℕ). IsFine image asked file n) (sym next) is) were.2))

-- behind the file's last slot each page is fine
pub grows_rest : (image : Image) (asked : PageCheck) (file last end : ℕ) (old new : List VerifyFault) → last ≤ end → ((page : ℕ) → last < page → page ≤ end → IsFine image asked file page) → Grows (Lists image asked file last) old new → Grows (Lists image asked file end) old new
grows_rest image asked file last end old new le fine were = (were.0, were.1, rest_to (end - last) end (omega (arith, le)) le fine)
  where
    rest_to : (more to : ℕ) → more + last ≡ to → last ≤ to → ((page : ℕ) → last < page → page ≤ to → IsFine image asked file page) → Lists image asked file to were.0
    rest_to zero to at long each = same_last image asked file last to were.0 (omega (arith, at)) were.2
    rest_to (suc more) to at long each =
        let next : suc (more + last) ≡ to = omega (arith, at) in
        same_last image asked file (suc (more + last)) to were.0 next
        (next_fine image asked file (more + last) were.0 (each (suc (more + last)) (omega arith) (omega (arith, next))) (rest_to more (more + last) refl (omega arith) (λ page after within. each page after (omega (arith, within, next)))))

-- ---- the three files, and both checks

pub grows_all : (image : Image) (asked : PageCheck) (old a b new : List VerifyFault) → Grows (Lists image asked 1 65536) old a → Grows (Lists image asked 2 65536) a b → Grows (Lists image asked 3 65536) b new → Grows (ListsAll image asked) old new
grows_all image asked old a b new first second third = (
  first.0 ++ second.0 ++ third.0,
  third.1 ∙ ap (λ (m : List VerifyFault). m ++ third.0) (second.1 ∙ ap (λ (m : List VerifyFault). m ++ second.0) first.1) ∙ simp append_assoc,
  record { catalog = first.0; relations = second.0; indexes = third.0; are = refl; first = first.2; second = second.2; third = third.2 },
)

pub grows_pages : (image : Image) (old mid new : List VerifyFault) → Grows (ListsAll image Decodes) old mid → Grows (ListsAll image Owned) mid new → Grows (ListsPages image) old new
grows_pages image old mid new first second = (
  first.0 ++ second.0,
  second.1 ∙ ap (λ (m : List VerifyFault). m ++ second.0) first.1 ∙ append_assoc old first.0 second.0,
  record { pages = first.0; owners = second.0; are = refl; decodes = first.2; owned = second.2 },
)

-- ---- what a list says

no_last : (before : List VerifyFault) (f : VerifyFault) → [] ≡ before ++ f ∷ [] → ⊥
no_last before f is = let long : 0 ≡ length (before ++ f ∷ []) = ap (λ (l : List VerifyFault). length l) is in omega (arith, long, length-append before (f ∷ []))

fine_to : (image : Image) (asked : PageCheck) (file last : ℕ) → Lists image asked file last [] → (page : ℕ) → 1 ≤ page → page ≤ last → IsFine image asked file page
unfolding Lists
fine_to image asked file zero are page first within = absurd (omega (arith, first, within))
fine_to image asked file (suc last) are page first within = ⊎_elim
    (λ listed. absurd (no_last listed.0 (fault_of asked file (suc last)) listed.1))
    (λ fine. ⊎_elim
    (λ (same : page ≡ suc last). subst (λ (n : ℕ). IsFine image asked file n) (sym same) fine.0)
    (λ (less : page < suc last). fine_to image asked file last fine.1 page first (omega (arith, less)))
    (eq-or-lt_of_le within))
    are

nil_parts : (a b : List VerifyFault) → [] ≡ a ++ b → (a ≡ []) × (b ≡ [])
nil_parts [] b is = (refl, sym is)
nil_parts (x ∷ a) b is = absurd (let no : ⊥ = cc in no)

file_of : (file : ℕ) → 1 ≤ file → file ≤ 3 → (file ≡ 1) ⊎ (file ≡ 2) ⊎ (file ≡ 3)
file_of file first last = ⊎_elim (λ (one : 1 ≡ file). inl (sym one))
    (λ (more : 1 < file). inr (⊎_elim (λ (two : 2 ≡ file). inl (sym two)) (λ (most : 2 < file). inr (omega (arith, most, last))) (eq-or-lt_of_le {n = 2} {m = file} (omega (arith, more)))))
    (eq-or-lt_of_le first)

-- where nothing is listed, each page is fine
pub all_fine : (image : Image) (asked : PageCheck) → ListsAll image asked [] → (file page : ℕ) → 1 ≤ file → file ≤ 3 → 1 ≤ page → page ≤ 65536 → IsFine image asked file page
all_fine image asked are file page low high first last =
    let both = nil_parts (are.catalog ++ are.relations) are.indexes are.are in
    let two = nil_parts are.catalog are.relations (sym both.0) in
    ⊎_elim
    (λ (is : file ≡ 1). in_file 1 are.catalog is two.0 are.first)
    (⊎_elim (λ (is : file ≡ 2). in_file 2 are.relations is two.1 are.second) (λ (is : file ≡ 3). in_file 3 are.indexes is both.1 are.third))
    (file_of file low high)
  where
    in_file : (f : ℕ) (found : List VerifyFault) → file ≡ f → found ≡ [] → Lists image asked f 65536 found → IsFine image asked file page
    in_file f found is none lists = subst (λ (n : ℕ). IsFine image asked n page) (sym is) (fine_to image asked f 65536 (subst (λ (l : List VerifyFault). Lists image asked f 65536 l) none lists) page first last)

pub apart : (image : Image) (asked : PageCheck) (file page : ℕ) → IsFault image asked file page → IsFine image asked file page → ⊥
apart image Decodes file page fault fine = fault fine
apart image Owned file page fault fine = fault.differs (fine fault.plain fault.used fault.space)

one_list : (image : Image) (asked : PageCheck) (file last : ℕ) (a b : List VerifyFault) → Lists image asked file last a → Lists image asked file last b → a ≡ b
unfolding Lists
one_list image asked file zero a b first second = first ∙ sym second
one_list image asked file (suc last) a b first second = ⊎_elim
    (λ x. ⊎_elim
    (λ y. x.1 ∙ ap (λ (m : List VerifyFault). m ++ fault_of asked file (suc last) ∷ []) (one_list image asked file last x.0 y.0 x.3 y.3) ∙ sym y.1)
    (λ fine. absurd (apart image asked file (suc last) x.2 fine.0))
    second)
    (λ fine. ⊎_elim
    (λ y. absurd (apart image asked file (suc last) y.2 fine.0))
    (λ also. one_list image asked file last a b fine.1 also.1)
    second)
    first

pub one_of_all : (image : Image) (asked : PageCheck) (a b : List VerifyFault) → ListsAll image asked a → ListsAll image asked b → a ≡ b
one_of_all image asked a b first second =
    let c = one_list image asked 1 65536 first.catalog second.catalog first.first second.first in
    let r = one_list image asked 2 65536 first.relations second.relations first.second second.second in
    let x = one_list image asked 3 65536 first.indexes second.indexes first.third second.third in
    first.are ∙ (λ i. (c i ++ r i) ++ x i) ∙ sym second.are
