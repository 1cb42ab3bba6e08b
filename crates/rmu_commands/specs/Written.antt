-- What the commands write.
use Rattle.std.specs.Prelude.{◌≡◌, ◌⊎◌, ℕ, Bool, List, [], ◌∷◌, ◌++◌, length, nat_eq, IsTrue}
use Rattle.std.specs.List.{list_any}
use Rattle.rdb_outside.specs.Disk.{Image, View}
use Rattle.root_file.specs.declared.Root.{Root}
use Rattle.root_file.specs.Root.{IsRoot}
use Rattle.new_database.specs.Maker.{root_file}
use Rattle.line_view.specs.Knowledge.{Lines}
use Rattle.catalog.specs.declared.reading.Catalog.{Catalog}
use Rattle.catalog.specs.Reading.{IsCatalogOf}
use Rattle.sound_lines.specs.Sound.{IsSound}
use Rattle.stable_lines.specs.Image.{StandsFor}
use Rattle.stable_lines.specs.Journal.{Journal, IsJournalOf}
use Rattle.script_streams.specs.Fronts.{WritesFront}
use Rattle.rmu_texts.specs.declared.faults.VerifyFault.{VerifyFault}
use Rattle.rmu_texts.specs.Faults.{faults_text}
use Rattle.rmu_texts.specs.Dump.{dump_text}
use Rattle.rmu_texts.specs.Page.{page_text}
use Rattle.page_faults.specs.Checks.{page_at}
use Rattle.lines_at_rest.specs.Left.{AllPass}
use Rattle.database_dump.specs.Dumped.{dump_of}
use Rattle.rmu_verify.specs.Verified.{AllOwned, AreFaults}
use Rattle.rmu_commands.specs.Usable.{HasRootInUse}

-- ---- statuses

abbrev pub is_verify_status : ℕ → Bool
is_verify_status n = list_any (nat_eq n) (0 ∷ 3 ∷ 4 ∷ 5 ∷ 6 ∷ 7 ∷ [])

abbrev pub is_dump_status : ℕ → Bool
is_dump_status n = list_any (nat_eq n) (0 ∷ 3 ∷ 4 ∷ 5 ∷ 6 ∷ [])

-- the statuses at which there was a text to write
abbrev pub HasText : ℕ → Type 0
HasText status = (status ≡ 0) ⊎ (status ≡ 6) ⊎ (status ≡ 7)

-- the status of a verification that listed these faults
abbrev pub status_for : List VerifyFault → ℕ
status_for [] = 0
status_for (fault ∷ faults) = 7

-- ---- what is written

-- the whole text under 0 and 7, a front of it under 6, and else nothing
pub record Writes (status : ℕ) (text old new : List ℕ) : Type 0 where
  pub whole : (status ≡ 0) ⊎ (status ≡ 7) → new ≡ old ++ text
  pub front : status ≡ 6 → WritesFront old new text
  pub none : (status ≡ 3) ⊎ (status ≡ 4) ⊎ (status ≡ 5) → new ≡ old

-- A list of faults is written. Where the disk tells it is that of the database, of which there is one, and status 7 says that it isn't empty.
pub record Verifies (disk : View) (status : ℕ) (SinkTells : Type 0) (old new : List ℕ) : Type 0 where
  pub faults : List VerifyFault
  pub root : HasText status → IsTrue disk.tells → HasRootInUse disk.content
  pub are : HasText status → IsTrue disk.tells → (journal : Journal) → IsJournalOf disk.content journal → AreFaults disk.content journal.groups faults
  pub none : status ≡ 0 → faults ≡ []
  pub some : status ≡ 7 → faults ≡ [] → ⊥
  pub writes : SinkTells → Writes status (faults_text faults) old new

-- the text is the dump of an image
abbrev pub HasDump : Image → List ℕ → Type 0
HasDump image text = (root : Root) → IsRoot (image root_file 0) root → (journal : Journal) → IsJournalOf image journal → (all : Lines) → StandsFor image journal.groups all → (c : Catalog) → IsCatalogOf all c → text ≡ dump_text (dump_of root all c (length journal.groups))

-- A dump is written: where the disk tells that of the database, of which there is one.
pub record Dumps (disk : View) (status : ℕ) (SinkTells : Type 0) (old new : List ℕ) : Type 0 where
  pub text : List ℕ
  pub root : HasText status → IsTrue disk.tells → HasRootInUse disk.content
  pub is : HasText status → IsTrue disk.tells → HasDump disk.content text
  pub writes : SinkTells → Writes status text old new

-- The bytes of a page are written: where the disk tells those of this one, of a database.
pub record DumpsPage (disk : View) (file page status : ℕ) (SinkTells : Type 0) (old new : List ℕ) : Type 0 where
  pub text : List ℕ
  pub root : HasText status → IsTrue disk.tells → HasRootInUse disk.content
  pub is : HasText status → IsTrue disk.tells → text ≡ page_text (page_at disk.content file page)
  pub writes : SinkTells → Writes status text old new

-- ---- no fault

-- each page passes its decoder, owners agree, and the lines are sound
pub record IsCleanDatabase (image : Image) : Type 0 where
  pub root : HasRootInUse image
  pub pages : (journal : Journal) → IsJournalOf image journal → AllPass image
  pub owners : (journal : Journal) → IsJournalOf image journal → AllOwned image
  pub lines : (journal : Journal) → IsJournalOf image journal → (all : Lines) → StandsFor image journal.groups all → IsSound all
