-- The whole groups of a journal, as their slots stand in it.
use Rattle.std.specs.Prelude.{◌≡◌, ℕ, ◌+◌, ◌&&◌, Bool, true, List, [], ◌∷◌, ◌++◌, length, Option, Some, None}
use Rattle.std.specs.List.{flat_map}
use Rattle.std.specs.Ordering.{is_lt}
use Rattle.aij_journal.specs.rdb_types.declared.keys.Dbkey.{Dbkey}
use Rattle.aij_journal.specs.rdb_types.Order.{dbkey_order}
use Rattle.aij_journal.specs.declared.part.GroupLine.{GroupLine}
use Rattle.aij_journal.specs.declared.part.AijPart.{AijPart}
use Rattle.aij_journal.specs.Part.{IsPart}
use Rattle.journal_scan.specs.declared.group.Group.{Group}

-- what stands in a slot behind the header: one of a group's slots, or none
abbrev pub Holds : List ℕ → Option AijPart → Type 0
Holds slot None = (part : AijPart) → IsPart slot part → ⊥
Holds slot (Some part) = IsPart slot part

-- what stands in slots that follow one another
abbrev pub Hold : List (List ℕ) → List (Option AijPart) → Type 0
Hold [] [] = Unit {0}
Hold [] (what ∷ whats) = ⊥
Hold (slot ∷ slots) [] = ⊥
Hold (slot ∷ slots) (what ∷ whats) = Holds slot what × Hold slots whats

-- A group of n lines has n + 1 slots.
abbrev pub count_of : Group → ℕ
count_of g = length g.lines + 1

-- one of its slots: all have its number, its TSN and its count
abbrev pub group_slot : Group → ℕ → Option GroupLine → Option AijPart
group_slot g index line = Some (record { number = g.number; tsn = g.tsn; index = index; count = count_of g; line = line })

-- its slots from this index on: one for each of these lines, and the commit last
abbrev pub slots_from : Group → ℕ → List GroupLine → List (Option AijPart)
slots_from g index [] = group_slot g index None ∷ []
slots_from g index (line ∷ lines) = group_slot g index (Some line) ∷ slots_from g (index + 1) lines

abbrev pub slots_of : Group → List (Option AijPart)
slots_of g = slots_from g 0 g.lines

-- the Dbkey is above that of the line before, if there is one
abbrev pub is_above : Dbkey → Option GroupLine → Bool
is_above key None = true
is_above key (Some before) = is_lt (dbkey_order before.key key)

-- these lines, behind that one, are in strictly ascending order of their Dbkeys
abbrev pub ascends : Option GroupLine → List GroupLine → Bool
ascends before [] = true
ascends before (line ∷ lines) = is_above line.key before && ascends (Some line) lines

-- a group of this number that may be written
pub record IsWhole (number : ℕ) (g : Group) : Type 0 where
  pub numbered : g.number ≡ number
  pub in_order : ascends None g.lines ≡ true

-- whole groups whose numbers follow one another, from this one on
abbrev pub AreWhole : ℕ → List Group → Type 0
AreWhole number [] = Unit {0}
AreWhole number (g ∷ gs) = IsWhole number g × AreWhole (number + 1) gs

-- The slots are those of these whole groups, one behind another, and what stands behind them does not begin with the slots of a next one.
pub record AreGroups (first : ℕ) (slots : List (Option AijPart)) (groups : List Group) : Type 0 where
  pub whole : AreWhole first groups
  pub rest : List (Option AijPart)
  pub stand : slots ≡ flat_map slots_of groups ++ rest
  pub no_more : (g : Group) (behind : List (Option AijPart)) → IsWhole (first + length groups) g → rest ≡ slots_of g ++ behind → ⊥
