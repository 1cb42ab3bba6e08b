-- What a crash leaves at every moment of an opening, and which pages are pages.
use Rattle.std.proofs.Common.{◌≡◌, ℕ, ◌-◌, inr, None, Some, IsTrue}
use Rattle.rdb_outside.specs.Disk.{Image, View, LeftNow, Pending, LeavesOnly, OnlyReads}
use Rattle.rdb_outside.specs.Moments.{each_slot, weaker}
use Rattle.root_file.specs.declared.Root.{Root}
use Rattle.line_view.specs.Knowledge.{Lines}
use Rattle.stable_lines.specs.Slots.{area_file}
use Rattle.stable_lines.specs.Journal.{Journal}
use Rattle.stable_lines.specs.Progress.{Progress}
use Rattle.stable_lines.specs.Facts.{Facts, StandsAs, as_committed, with_former, with_flight}
use Rattle.line_opening.proofs.Standing.{read_stands, leaves_on}
use Rattle.database_opening.specs.declared.start.StoreStart.{StoreStart}
use Rattle.database_opening.specs.Start.{beginning_with}
use Rattle.journal_anew.specs.Anew.{journal_in_use}
use Rattle.opened_store.specs.Tables.{AreAllPages}
use Rattle.opened_store.specs.Opened.{IsLeft}

module _ (classes : ℕ → ℕ) (lines : Lines) (journal : Journal) (root : Root) (start : StoreStart) where
  abbrev base : Progress
  base = beginning_with classes lines (journal_in_use root journal) start

  left-as : (old : View) (image : Image) → StandsAs base image → IsLeft old classes lines journal root image
  left-as old image (as_committed kept) = inr (inr kept)
  left-as old image (with_former former is kept) = let bad : None ≡ Some former = is in absurd (cc)
  left-as old image (with_flight f is kept) = let bad : None ≡ Some f = is in absurd (cc)

  -- the root is raised behind the opening
  pub left-raised : (old mid raised : View) → LeavesOnly old mid (IsLeft old classes lines journal root) → LeavesOnly mid raised (StandsAs base) → LeavesOnly old raised (IsLeft old classes lines journal root)
  left-raised old mid raised was now = leaves_on old mid raised (IsLeft old classes lines journal root) was (weaker mid raised (StandsAs base) (IsLeft old classes lines journal root) (left-as old) now)

  -- the tables are read behind that
  pub left-read : (old raised v : View) → LeavesOnly old raised (IsLeft old classes lines journal root) → OnlyReads raised v → IsTrue raised.tells → Facts (Pending raised) base → LeavesOnly old v (IsLeft old classes lines journal root)
  left-read old raised v was reads t facts = left-raised old raised v was (read_stands raised v base reads t facts)

pub all-pages : (v : View) (now : Progress) → LeftNow v v.content → Facts (Pending v) now → AreAllPages v.content
all-pages v now left facts file is = record {
  page = λ page plain. facts.pages.page file page (v.content (area_file file) (page - 1)) is plain (each_slot v v.content left (area_file file) (page - 1));
  space = λ page whole space. facts.pages.space file page (v.content (area_file file) (page - 1)) is whole space (each_slot v v.content left (area_file file) (page - 1));
}
