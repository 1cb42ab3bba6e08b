-- What an opening has in memory of the open transactions.
use Rattle.std.specs.Prelude.{ℕ, ◌≤◌, ◌≡◌, ◌⊎◌, List, length, Option, Some, None}
use Rattle.rdb_outside.specs.Disk.{Image}
use Rattle.root_file.specs.declared.Root.{Root}
use Rattle.root_file.specs.Root.{IsRoot}
use Rattle.line_opening.specs.stable_lines.Slots.{IsMember}
use Rattle.line_opening.specs.stable_lines.Progress.{Open}
use Rattle.line_opening.specs.Headers.{number_of}
use Rattle.line_opening.specs.Counting.{HasCount}

-- The root of a database that may be opened: whole, or restored and not yet used.
pub record IsOpenedRoot (slot : List ℕ) (root : Root) : Type 0 where
  pub is : IsRoot slot root
  pub state : (root.state ≡ 1) ⊎ (root.state ≡ 3)

-- so many entries has the transaction of each member, and none where there is none
pub record AreCounted (image : Image) (numbers counts : List ℕ) : Type 0 where
  pub long : length counts ≡ 16
  pub each : (member : ℕ) → IsMember member → 1 ≤ number_of numbers member → HasCount image member (record { number = number_of numbers member }) (number_of counts member)
  pub none : (member : ℕ) → IsMember member → number_of numbers member ≡ 0 → number_of counts member ≡ 0

-- These are the numbers of the open transactions, and the counts of their entries.
pub record AreKnown (going : ℕ → Option Open) (numbers counts : List ℕ) : Type 0 where
  pub number : (member : ℕ) (o : Open) → going member ≡ Some o → number_of numbers member ≡ o.tsn.number
  pub count : (member : ℕ) (o : Open) → going member ≡ Some o → number_of counts member ≡ length o.entries
  pub none : (member : ℕ) → IsMember member → going member ≡ None → number_of counts member ≡ 0
