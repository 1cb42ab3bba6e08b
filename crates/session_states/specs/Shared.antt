-- What all sessions share.
use Rattle.std.specs.Prelude.{◌≡◌, ◌+◌, ◌-◌, ℕ, List, None}
use Rattle.lock_needs.specs.declared.need.Need.{Need}
use Rattle.lock_tree_laws.specs.Forest.{State, KeepsParties, opened_of}
use Rattle.lock_tree_laws.specs.Wanted.{needs_of}
use Rattle.line_store.specs.Shelves.{Shelf}
use Rattle.line_store.specs.Calls.{KeepsOthers}

-- the database's word, the store, the locks, and how many dead await recovery
pub record Shared : Type 0 where
  pub word : List ℕ
  pub shelf : Shelf
  pub locks : State
  pub dead : ℕ

abbrev pub with_shelf : Shelf → Shared → Shared
with_shelf shelf c = record c { shelf = shelf }

abbrev pub with_locks : State → Shared → Shared
with_locks locks c = record c { locks = locks }

abbrev pub with_both : Shelf → State → Shared → Shared
with_both shelf locks c = record c { shelf = shelf; locks = locks }

-- one more is dead, and one is recovered
abbrev pub with_death : Shelf → Shared → Shared
with_death shelf c = record c { shelf = shelf; dead = c.dead + 1 }

abbrev pub with_recovery : Shelf → State → Shared → Shared
with_recovery shelf locks c = record c { shelf = shelf; locks = locks; dead = c.dead - 1 }

-- What the store and the locks have of other sessions stays.
pub record LeavesOthers (s : ℕ) (c d : Shared) : Type 0 where
  pub store : KeepsOthers s c.shelf d.shelf
  pub locks : KeepsParties s c.locks.parties d.locks.parties

-- The want of s, where one was open, has ended with nothing more asked for it, and these are the needs of s.
pub record RestsWith (s : ℕ) (left : List Need) (old new : State) : Type 0 where
  pub others : KeepsParties s old.parties new.parties
  pub ended : opened_of new s ≡ None
  pub needs : needs_of new s ≡ left
  pub trail : new.trail ≡ old.trail
