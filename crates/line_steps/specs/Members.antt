-- Where a session stands, as its account sees it.
use Rattle.std.specs.Prelude.{ℕ, List, [], ◌∷◌, ◌++◌, Option, Some, None}
use Rattle.rdo_ast.specs.declared.reply.Standing.{Standing}
use Rattle.rdo_ast.specs.Tree.{Uttered}
use Rattle.rdb_account.specs.Places.{Life, living, over, dead, gone}

-- A session is in no transaction, in a read-write one with its standing, in a read-only one, or at its end. In a transaction a statement
-- may be under way, which isn't answered yet.
pub data State : Type 0 where
  outside : State
  writing : Standing → Option Uttered → State
  reading : Standing → Option Uttered → State
  ended : State
  -- it died where it stood so, and awaits recovery
  fallen : State → State
  -- it died and was recovered
  recovered : State

pub record Member : Type 0 where
  pub left : List Uttered
  pub state : State
  pub total : ℕ

abbrev pub under_way : Option Uttered → List Uttered
under_way None = []
under_way (Some item) = item ∷ []

abbrev pub awaited : State → List Uttered
awaited outside = []
awaited (writing standing under) = under_way under
awaited (reading standing under) = under_way under
awaited ended = []
awaited (fallen state) = awaited state
awaited recovered = []

abbrev pub left_of : Member → List Uttered
left_of m = awaited m.state ++ m.left

abbrev pub life_of : State → Life
life_of outside = living
life_of (writing standing under) = living
life_of (reading standing under) = living
life_of ended = over
life_of (fallen state) = dead
life_of recovered = gone

abbrev pub member : List Uttered → State → ℕ → Member
member left state total = record { left = left; state = state; total = total }
