-- What a crash leaves of a disk over which sessions ran.
use Rattle.std.specs.Prelude.{ℕ, suc, ◌≤◌, ◌≡◌, ◌⊎◌, IsTrue, List, [], Some, slice_get}
use Rattle.rdb_outside.specs.Disk.{Image, View, LeftNow, LeavesOnly, IsPending}
use Rattle.rdb_meaning.specs.declared.tables.Tables.{Tables}
use Rattle.line_view.specs.Knowledge.{Lines}
use Rattle.member_steps.specs.Standing.{HasLines}
use Rattle.store_shows.specs.Shows.{AllOpen, OpensTo}
use Rattle.rdb_account.specs.Events.{Event}
use Rattle.rdb_account.specs.Places.{Opening, Commit, place}
use Rattle.session_jobs.specs.Records.{Model}
use Rattle.line_steps.specs.Images.{IsLeft, IsNow}

-- the image stands for what the account has committed, or for that with the one in flight, and an opening shows that
pub record IsPrefix (M : Model) (o : Opening) (events : List Event) (image : Image) : Type 0 where
  pub lines : Lines
  pub opens : OpensTo image lines
  pub stands : IsNow M o (place o events) lines

-- whatever lines the image stands for, they stand for what was committed at a place of the account with at least k commits before it, or for that with the one in flight there
abbrev pub IsFrom : Model → Opening → List Event → ℕ → Image → Type 0
IsFrom M o events k image = (lines : Lines) → HasLines image lines → IsLeft M o events k lines

-- The disk tells its content. Each image that a crash may leave now, or might have left since the sessions began, which was not before the opening's moment, can be opened. What may be left now stands for all commits; what might have been left since a commit, for that commit or a later one; and so since the sessions began.
pub record HoldsPrefix (M : Model) (o : Opening) (v : View) (events : List Event) : Type 0 where
  pub tells : IsTrue v.tells
  pub now : (image : Image) → LeftNow v image → IsPrefix M o events image
  pub since : (k : ℕ) (c : Commit) → slice_get (place o events).commits k ≡ Some c → (image : Image) → v.left_since c.moment image → IsFrom M o events (suc k) image
  pub began : ℕ
  pub opened : o.moment ≤ began
  pub going : began ≤ v.moment
  pub past : (k : ℕ) (c : Commit) → slice_get (place o events).commits k ≡ Some c → c.moment ≤ v.moment
  pub later : (k : ℕ) (c : Commit) → slice_get (place o events).commits k ≡ Some c → began ≤ c.moment
  pub opening : (image : Image) → v.left_since began image → IsFrom M o events 0 image
  pub openable : AllOpen v began

-- The disk tells its content. Each image that has in each slot what a crash may leave there can be opened, and stands for the tables of all commits.
pub record HoldsAll (M : Model) (o : Opening) (v : View) (events : List Event) : Type 0 where
  pub tells : IsTrue v.tells
  pub each : (image : Image) → IsPending v image → (lines : Lines) × OpensTo image lines × M lines (place o events).tables

-- an image that opening can start from, and that stands for these tables
abbrev pub StandsFor : Model → Tables → Image → Type 0
StandsFor M t image = (lines : Lines) × HasLines image lines × M lines t

-- An opening gave up, and nothing was said. In the midst of it a crash leaves in each slot what one before it might have left there, or an image that stands for the tables of the opening; behind it each image stands for them.
abbrev pub GaveUp : Model → Opening → View → View → Type 0
GaveUp M o old new = LeavesOnly old new (λ image. IsPending old image ⊎ StandsFor M o.tables image) ⊎ HoldsAll M o new []
