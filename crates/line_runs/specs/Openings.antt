-- What an account opens with, of the image from which its store was opened.
use Rattle.std.specs.Prelude.{ℕ, zero, suc, ◌≤◌, ◌<◌, ◌-◌, ◌^◌, ◌≡◌, Bool, true, false, List, [], map, length, IsTrue, Option, Some, None, slice_get}
use Rattle.rdo_ast.specs.Tree.{Uttered}
use Rattle.rdo_ast.specs.Views.{uttered_of}
use Rattle.rdb_outside.specs.Disk.{Image, Pending, View}
use Rattle.root_file.specs.declared.Root.{Root}
use Rattle.root_file.specs.Root.{IsRoot}
use Rattle.new_database.specs.Maker.{root_file}
use Rattle.line_view.specs.Knowledge.{Lines}
use Rattle.stable_lines.specs.Journal.{Journal, slots_in}
use Rattle.stable_lines.specs.Kept.{Kept}
use Rattle.line_moves.specs.Classes.{IsClassed}
use Rattle.rdb_account.specs.Places.{Opening}
use Rattle.session_jobs.specs.Records.{Model}
use Rattle.session_states.specs.declared.item_queue.WholeScript.{WholeScript}
use Rattle.store_counts.specs.Counts.{AreLimits}
use Rattle.opened_store.specs.Opened.{is_taken_in, AreUsedUp}

-- It has the limits of the root, each page that the image has taken, and the slots of the journal's groups; and it doesn't begin behind this moment.
pub record IsOpeningOf (image : Image) (journal : Journal) (moment : ℕ) (o : Opening) : Type 0 where
  pub root : Root
  pub is : IsRoot (image root_file 0) root
  pub limits : AreLimits o.limits root.limits
  pub owners : (file page : ℕ) → is_taken_in image root.limits.pages file page ≡ true → o.has_owner file page ≡ true
  pub slots : length (slots_in journal) ≤ o.group_slots
  pub past : o.moment ≤ moment

-- The disk tells its content, which is a kept image with the classes of its areas; its lines stand for the tables with which the account opens.
pub record OpensWith (M : Model) (v : View) (o : Opening) : Type 0 where
  pub tells : IsTrue v.tells
  pub classes : ℕ → ℕ
  pub lines : Lines
  pub journal : Journal
  pub kept : Kept classes lines journal v.content
  pub by_area : ℕ → ℕ
  pub lie : IsClassed by_area v.content
  pub stands : M lines o.tables
  pub opens : IsOpeningOf v.content journal 0 o

-- Where its content is a kept image, that has used up its numbers.
abbrev pub HasNoNumbers : View → Type 0
HasNoNumbers v =
    IsTrue v.tells → (classes : ℕ → ℕ) (lines : Lines) (journal : Journal) → (kept : Kept classes lines journal v.content) → AreUsedUp journal kept.root

-- Each root that a crash may leave has used up the numbers of transactions.
abbrev pub HasSpent : View → Type 0
HasSpent v = (content : List ℕ) (root : Root) → Pending v root_file 0 content → IsRoot content root → 2 ^ 62 - 64 < root.ceiling

-- ---- the scripts of a run

abbrev pub uttered_in : Option WholeScript → List Uttered
uttered_in (Some x) = map uttered_of x.items
uttered_in None = []

abbrev pub stops_in : Option WholeScript → Bool
stops_in (Some x) = x.stops
stops_in None = false

-- sessions are counted from 1
abbrev pub script_of : List WholeScript → ℕ → List Uttered
script_of scripts zero = []
script_of scripts (suc i) = uttered_in (slice_get scripts i)

abbrev pub stop_of : List WholeScript → ℕ → Bool
stop_of scripts zero = false
stop_of scripts (suc i) = stops_in (slice_get scripts i)

-- what an account opens with, where these scripts are said to the database of this word
abbrev pub said_to : Opening → List ℕ → List WholeScript → Opening
said_to o word scripts = record {
  word = word;
  script = script_of scripts;
  stops = stop_of scripts;
  tables = o.tables;
  limits = o.limits;
  has_owner = o.has_owner;
  group_slots = o.group_slots;
  moment = o.moment;
  may_die = o.may_die;
}
