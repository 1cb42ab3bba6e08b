-- What is pending on a page is sure.
use Rattle.std.proofs.Common.{ℕ, ◌-◌, ◌≤◌, List, sym, subst}
use Rattle.rdb_types.specs.declared.file.FileId.{FileId}
use Rattle.rdb_types.specs.declared.keys.Dbkey.{Dbkey}
use Rattle.stable_lines.specs.Slots.{area_file, file_of, slot_of, IsAreaFile}
use Rattle.line_store.specs.area_files.Areas.{IsDataPage}
use Rattle.stable_lines.specs.Progress.{Progress}
use Rattle.stable_lines.specs.Facts.{PendingContents, Facts}
use Rattle.line_moves.specs.Contents.{IsOn, IsSurePage}

-- what is pending on a page is sure
pub sure_at : (P : PendingContents) (now : Progress) (file number : ℕ) (y : List ℕ) → IsAreaFile file → IsDataPage number → Facts P now → P (area_file file) (number - 1) y → number ≤ now.limits.pages → IsSurePage P now file number y
sure_at P now file number y area plain was pending within = record {
  page = was.pages.page file number y area plain pending;
  within = within;
  line = λ k on. was.line k y (on_page k on);
  below = λ k on. was.below.line k y (on_page k on);
  owner = λ z owned p. was.pages.owner file number y z area plain pending owned p;
  class = λ k bytes got on. was.pages.class k bytes y got (on_page k on);
  flight = λ f is. record {
    landed = λ i line got on. (was.flight f is).landed i line y got (on_page line.key on);
    class = λ k bytes got on. (was.flight f is).class k bytes y got (on_page k on);
  };
}
  where
    on_page : (k : Dbkey) → IsOn file number k → P (file_of k) (slot_of k) y
    on_page k on = let there : P (area_file file) (slot_of k) y = subst (λ (i : ℕ). P (area_file file) i y) (sym on.in_slot) pending in subst (λ (f : FileId). P f (slot_of k) y) (sym on.in_file) there
