-- An image is kept, whatever its snapshot slots hold.
use Rattle.std.proofs.Common.{◌≡◌, ◌≢◌, ℕ, List, refl, subst, sym}
use Rattle.rdb_types.specs.declared.file.FileId.{FileId}
use Rattle.rdb_types.specs.declared.file.FileKind.{FileKind}
use Rattle.rdb_types.specs.declared.file.FileKind.TheVariants.{Root, Aij, Area, Snap, Ruj, Backup, AijBackup}
use Rattle.rdb_types.specs.declared.keys.Dbkey.{Dbkey}
use Rattle.rdb_types.specs.declared.keys.Line.{Line}
use Rattle.rdb_types.specs.declared.keys.Tsn.{Tsn}
use Rattle.rdb_outside.specs.Disk.{Image}
use Rattle.root_file.specs.declared.Root.{Root as RootValue}
use Rattle.journal_scan.specs.declared.group.Group.{Group}
use Rattle.line_view.specs.Knowledge.{Lines}
use Rattle.stable_lines.specs.Journal.{Journal, IsJournalOf}
use Rattle.stable_lines.specs.Image.{IsBefore, IsOpenAt, LineIs, as_it_stands, put_back, not_found, Shows, StandsFor}
use Rattle.stable_lines.specs.Kept.{BearsOpen, IsBelow, IsRootOf, IsUndone, IsWellFormed, Kept}

-- the first in a snapshot file, the second in any other
abbrev pick : FileKind → List ℕ → List ℕ → List ℕ
pick Root snaps rest = rest
pick Aij snaps rest = rest
pick Area snaps rest = rest
pick Snap snaps rest = snaps
pick Ruj snaps rest = rest
pick Backup snaps rest = rest
pick AijBackup snaps rest = rest

pick-same : (kind : FileKind) (a b : List ℕ) → (kind ≢ Snap → a ≡ b) → a ≡ pick kind a b
pick-same Root a b same = same (λ e. cc)
pick-same Aij a b same = same (λ e. cc)
pick-same Area a b same = same (λ e. cc)
pick-same Snap a b same = refl
pick-same Ruj a b same = same (λ e. cc)
pick-same Backup a b same = same (λ e. cc)
pick-same AijBackup a b same = same (λ e. cc)

module _ (image snaps : Image) where
  -- the snapshot slots of one image, and all others of the other
  abbrev mixed : Image
  mixed = λ file slot. pick file.kind (snaps file slot) (image file slot)

  root-of : (root : RootValue) → IsRootOf image root → IsRootOf mixed root
  root-of root was = record { is = was.is; state = was.state; restored = was.restored }

  journal-of : (j : Journal) → IsJournalOf image j → IsJournalOf mixed j
  journal-of j was = record { header = was.header; whole = was.whole; stand = was.stand; no_more = was.no_more }

  open-at : (groups : List Group) (tsn member : ℕ) → IsOpenAt image groups tsn member → IsOpenAt mixed groups tsn member
  open-at groups tsn member was = record { number = was.number; no_group = was.no_group; is_member = was.is_member; names = was.names; first = was.first }

  before : (member : ℕ) (tsn : Tsn) (key : Dbkey) (line : Line) → IsBefore image member tsn key line → IsBefore mixed member tsn key line
  before member tsn key line was = record { earlier = was.earlier; others = was.others; stand = was.stand; here = was.here }

  line-is : (groups : List Group) (key : Dbkey) (line : Line) → LineIs image groups key line → LineIs mixed groups key line
  line-is groups key line was = elim was [
    | as_it_stands ended same ↦ as_it_stands ended same
    | put_back member at its ↦ put_back member (open-at groups _ member at) (before member _ key line its)
    | not_found member at none same ↦ not_found member (open-at groups _ member at) none same
  ]

  stands-for : (groups : List Group) (lines : Lines) → StandsFor image groups lines → StandsFor mixed groups lines
  stands-for groups lines was = record {
    in_order = was.in_order;
    each = λ key. let one : Shows image groups lines key = was.each key in record { line = one.line; is = line-is groups key one.line one.is; shows = one.shows };
  }

  bears : (groups : List Group) (key : Dbkey) (member : ℕ) → BearsOpen mixed groups key member → BearsOpen image groups key member
  bears groups key member was = record { is_member = was.is_member; number = was.number; names = was.names; no_group = was.no_group }

  undone : (groups : List Group) (ceiling : ℕ) (key : Dbkey) (member : ℕ) → IsUndone image groups ceiling key member → IsUndone mixed groups ceiling key member
  undone groups ceiling key member was = record { only = was.only; before = was.before; is = before member _ key was.before was.is; one = was.one; below = was.below; ended = was.ended }

  well-formed : (pages : ℕ) → IsWellFormed image pages → IsWellFormed mixed pages
  well-formed pages was = record { page = was.page; space = was.space; header = was.header; owner = was.owner; past = was.past }

  below : (groups : List Group) (ceiling : ℕ) → IsBelow image groups ceiling → IsBelow mixed groups ceiling
  below groups ceiling was = record { line = was.line; header = was.header; entry = was.entry; group = was.group }

  kept-mixed : (classes : ℕ → ℕ) (lines : Lines) (j : Journal) → Kept classes lines j image → Kept classes lines j mixed
  kept-mixed classes lines j was = record {
    root = was.root;
    is_root = root-of was.root was.is_root;
    journal = journal-of j was.journal;
    commits = was.commits;
    stands = stands-for j.groups lines was.stands;
    class = was.class;
    undone = λ key member bearing. undone j.groups was.root.ceiling key member (was.undone key member (bears j.groups key member bearing));
    alone = was.alone;
    well_formed = well-formed was.root.limits.pages was.well_formed;
    below = below j.groups was.root.ceiling was.below;
  }

pub kept-beside : (classes : ℕ → ℕ) (lines : Lines) (j : Journal) (image other : Image) → ((file : FileId) (slot : ℕ) → file.kind ≢ Snap → other file slot ≡ image file slot) → Kept classes lines j image → Kept classes lines j other
kept-beside classes lines j image other same kept =
    let alike : other ≡ mixed image other = λ i file slot. pick-same file.kind (other file slot) (image file slot) (same file slot) i in
    subst (λ (x : Image). Kept classes lines j x) (sym alike) (kept-mixed image other classes lines j kept)
