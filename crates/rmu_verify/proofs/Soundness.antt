-- Where nothing is at fault.
use Rattle.std.proofs.Common.{◌≡◌, inl, List, [], ◌∷◌, ◌++◌, refl, sym, subst}
use Rattle.rdb_outside.specs.Disk.{Image}
use Rattle.journal_scan.specs.declared.group.Group.{Group}
use Rattle.line_view.specs.Knowledge.{Lines}
use Rattle.stable_lines.specs.Image.{StandsFor}
use Rattle.sound_lines.specs.Sound.{IsSound}
use Rattle.rmu_texts.specs.declared.faults.VerifyFault.{VerifyFault}
use Rattle.page_faults.specs.declared.checks.PageCheck.TheVariants.{Decodes, Owned}
use Rattle.page_faults.specs.Listing.{ListsAll}
use Rattle.page_faults.proofs.Listed.{all_fine}
use Rattle.verified_lines.specs.Faults.{AreLineFaults}
use Rattle.verified_lines.proofs.Clean.{clean}
use Rattle.areas_at_rest.specs.lines_at_rest.Left.{AllPass, LeavesOut}
use Rattle.rmu_verify.specs.Verified.{AllOwned, AreFaults}

none_first : {X : Type 0} (xs ys : List X) → [] ≡ xs ++ ys → [] ≡ xs
none_first [] ys is = refl
none_first (x ∷ xs) ys is = absurd (let no : ⊥ = cc in no)

none_then : {X : Type 0} (xs ys : List X) → [] ≡ xs ++ ys → [] ≡ ys
none_then [] ys is = is
none_then (x ∷ xs) ys is = absurd (let no : ⊥ = cc in no)

module _ (image : Image) (groups : List Group) (are : AreFaults image groups []) where
  no_page : [] ≡ are.pages
  no_page = none_first are.pages are.lines are.are

  pub all_pass : AllPass image
  all_pass file page is_file is_page = all_fine image Decodes
      (subst (λ (l : List VerifyFault). ListsAll image Decodes l) (sym (none_first are.lists.pages are.lists.owners (subst (λ (l : List VerifyFault). l ≡ are.lists.pages ++ are.lists.owners) (sym no_page) are.lists.are))) are.lists.decodes)
      file page is_file.first is_file.last is_page.first is_page.last

  pub all_owned : AllOwned image
  all_owned file page is_file is_page = all_fine image Owned
      (subst (λ (l : List VerifyFault). ListsAll image Owned l) (sym (none_then are.lists.pages are.lists.owners (subst (λ (l : List VerifyFault). l ≡ are.lists.pages ++ are.lists.owners) (sym no_page) are.lists.are))) are.lists.owned)
      file page is_file.first is_file.last is_page.first is_page.last

  nothing_out : LeavesOut image image
  nothing_out = record {
    pages = λ file page is_file is_page. inl (all_pass file page is_file is_page, refl);
    others = λ file slot other. refl;
  }

  pub sound : (all : Lines) → StandsFor image groups all → IsSound all
  sound all stands = clean all stands.in_order (subst (λ (l : List VerifyFault). AreLineFaults all l) (sym (none_then are.pages are.lines are.are)) (are.finds image all nothing_out stands))
