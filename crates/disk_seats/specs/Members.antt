-- What a ledger says of a disk.
use Rattle.std.specs.Prelude.{ℕ, ◌≤◌, ◌-◌, ◌<◌, ◌≡◌, ◌≢◌, List, [], length, slice_get, Some, None}
use Rattle.rdb_types.specs.declared.keys.Dbkey.{Dbkey}
use Rattle.rdb_types.specs.declared.keys.Line.{Line}
use Rattle.rdb_outside.specs.Disk.{View, Image, Pending}
use Rattle.rdb_outside.specs.Moments.{Since}
use Rattle.root_file.specs.declared.Root.{Root}
use Rattle.root_file.specs.Root.{IsRoot}
use Rattle.area_files.specs.Areas.{space_page_of}
use Rattle.space_pages.specs.Space.{owner_of}
use Rattle.new_database.specs.Maker.{root_file}
use Rattle.line_opening.specs.stable_lines.Slots.{Undo, area_file}
use Rattle.line_opening.specs.stable_lines.Progress.{Open, Progress}
use Rattle.line_opening.specs.stable_lines.Facts.{Facts}
use Rattle.line_opening.specs.stable_lines.History.{IsAt, StandsFrom}
use Rattle.line_opening.specs.Undoing.{AreUndone}
use Rattle.line_opening.specs.line_moves.declared.places.Place.{Place}
use Rattle.line_opening.specs.line_moves.Changes.{IsPlaceOf}
use Rattle.line_opening.specs.line_moves.Lines.{ChangedLines}
use Rattle.line_seat.specs.declared.commit.CommitStage.TheVariants.{Committed}
use Rattle.line_seat.specs.Seats.{SeatFacts}
use Rattle.line_seat.specs.Groups.{AreOfEntries, IsCommitting}
use Rattle.line_seat.specs.Stages.{CommitFacts}
use Rattle.disk_seats.specs.Ledgers.{Standing, resting, changing, broken, committing, undoing, entries_of, Commit, Ledger, progress_of}

-- ---- members

pub record IsChanging (v : View) (base : Progress) (member : ℕ) (all : List Undo) (stable : ℕ) : Type 0 where
  pub transaction : Open
  pub seat : SeatFacts v base member transaction all stable

-- an open transaction, of which these before-images stand
pub record HasOpen (base : Progress) (member : ℕ) (all : List Undo) : Type 0 where
  pub transaction : Open
  pub is_open : base.going member ≡ Some transaction
  pub entries : transaction.entries ≡ all

-- one of whose before-images so many are left to be put back: the lines of the others don't bear it any more
pub record IsPuttingBack (v : View) (base : Progress) (member : ℕ) (all : List Undo) (left : ℕ) : Type 0 where
  pub transaction : Open
  pub is_open : base.going member ≡ Some transaction
  pub entries : transaction.entries ≡ all
  pub within : left ≤ length all
  pub undone : AreUndone v.content transaction left

abbrev pub MemberStands : View → Progress → ℕ → Standing → Type 0
MemberStands v base member resting = base.going member ≡ None
MemberStands v base member (changing all stable) = IsChanging v base member all stable
MemberStands v base member broken = HasOpen base member []
MemberStands v base member (committing all) = HasOpen base member all
MemberStands v base member (undoing all left) = IsPuttingBack v base member all left

-- a transaction of which no page was written, and none of whose before-images is needed: it may end as undone
abbrev pub MayEnd : Standing → Type 0
MayEnd resting = ⊥
MayEnd (changing all stable) = Unit {0}
MayEnd broken = Unit {0}
MayEnd (committing all) = ⊥
MayEnd (undoing all left) = ⊥

-- no two members have a before-image of one line
abbrev pub AreApart : (ℕ → Standing) → Type 0
AreApart standing = (m n i k : ℕ) (a b : Undo) → m ≢ n → slice_get (entries_of (standing m)) i ≡ Some a → slice_get (entries_of (standing n)) k ≡ Some b → a.key ≢ b.key

-- no other member has a before-image of the line
abbrev pub IsLeftTo : ℕ → Dbkey → (ℕ → Standing) → Type 0
IsLeftTo member key standing = (m i : ℕ) (undo : Undo) → m ≢ member → slice_get (entries_of (standing m)) i ≡ Some undo → undo.key ≢ key

-- ---- the commit

pub record CommitStands (v : View) (base : Progress) (standing : ℕ → Standing) (c : Commit) : Type 0 where
  pub its : standing c.member ≡ committing c.transaction.entries
  pub under_way : c.stage ≢ Committed
  pub is : IsCommitting base c.member c.transaction c.place c.lines c.classes c.flight
  pub of_entries : AreOfEntries c.transaction c.transaction.entries c.lines
  pub facts : CommitFacts c.stage v base c.place c.lines c.flight

-- ---- all of them

pub record LedgerFacts (v : View) (g : Ledger) : Type 0 where
  pub facts : Facts (Pending v) (progress_of g)
  pub quiet : g.base.flight ≡ None
  pub settled : g.base.former ≡ None
  -- the database isn't one that was restored and not used since
  pub used : (content : List ℕ) (root : Root) → Pending v root_file 0 content → IsRoot content root → root.state ≢ 3
  pub member : (m : ℕ) → MemberStands v g.base m (g.standing m)
  pub commit : (c : Commit) → g.commit ≡ Some c → CommitStands v g.base g.standing c
  pub apart : AreApart g.standing
  -- each image that a crash might have left since a commit stands for what that commit reached, or a later one, or for what a commit tried since
  pub at : IsAt g.history (progress_of g)
  pub marked : length g.moments ≡ length g.history.reached
  pub stands : (k t : ℕ) → slice_get g.moments k ≡ Some t → Since v t (StandsFrom g.history k)

-- the space pages say that each of so many lines' pages is the line's area's
abbrev pub AreOwned : Image → ChangedLines → ℕ → Type 0
AreOwned image lines n = (i : ℕ) (line : Dbkey × Line) (place : Place) → i < n → slice_get lines i ≡ Some line → IsPlaceOf line.0 place → owner_of place.page (image (area_file place.file) (space_page_of place.page - 1)) ≡ line.0.area

-- lines on one page are of one area
abbrev pub IsOneArea : ChangedLines → Type 0
IsOneArea lines = (i k : ℕ) (a b : Dbkey × Line) (p q : Place) → slice_get lines i ≡ Some a → slice_get lines k ≡ Some b → IsPlaceOf a.0 p → IsPlaceOf b.0 q → p.file ≡ q.file → p.page ≡ q.page → a.0.area ≡ b.0.area
