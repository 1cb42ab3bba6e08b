-- The transactions that are open.
use Rattle.std.specs.Prelude.{ℕ, ◌≡◌, ◌++◌, ◌∷◌, [], List}
use Rattle.rdb_types.specs.declared.keys.Dbkey.{Dbkey}
use Rattle.rdb_types.specs.declared.keys.Tsn.{Tsn}
use Rattle.rdb_types.specs.declared.keys.Line.{Line}
use Rattle.rdb_outside.specs.Disk.{Image}
use Rattle.journal_scan.specs.declared.group.Group.{Group}
use Rattle.stable_lines.specs.Slots.{ruj_file, IsMember, named}
use Rattle.line_opening.specs.Headers.{number_of, open_in}
use Rattle.before_images.specs.declared.lines.OpenTransaction.{OpenTransaction}
use Rattle.before_images.specs.Before.{HoldsBefore}

-- the transactions that the headers name, 0 where a member's has a whole group or there is none
abbrev pub AreOpen : Image → List Group → List ℕ → Type 0
AreOpen image groups numbers = (member : ℕ) → IsMember member → number_of numbers member ≡ open_in groups (named (image (ruj_file member) 0))

-- one transaction more is held, and what its entries say
pub record HoldsMore (image : Image) (member : ℕ) (tsn : Tsn) (old new : List OpenTransaction) : Type 0 where
  pub before : List (Dbkey × Line)
  pub are : HoldsBefore image member tsn before
  pub added : new ≡ old ++ record { tsn = tsn; before = before } ∷ []
