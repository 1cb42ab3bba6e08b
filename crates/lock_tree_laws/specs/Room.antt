-- Room for what a call may come to hold and ask, taken before it changes anything.
use Rattle.std.specs.Prelude.{◌≡◌, ℕ}
use Rattle.rdb_types.specs.declared.node.Level.{Level}
use Rattle.rdb_types.specs.declared.node.Level.TheVariants.{Area, Range, Page, Line, Journal}
use Rattle.lock_tree_laws.specs.Forest.{State, party_of}

-- how deep nodes of the level lie
abbrev pub depth : Level → ℕ
depth Area = 0
depth Range = 1
depth Page = 2
depth Line = 3
depth Journal = 0

-- the locks and what is asked are as before, and so are each owner's needs, its open want and where it was asked
pub record IsAsBefore (old new : State) : Type 0 where
  pub table : new.table.entries ≡ old.table.entries
  pub parties : (u : ℕ) → party_of new.parties u ≡ party_of old.parties u
  pub trail : new.trail ≡ old.trail
