-- Who has got the journal wants nothing, and all have and want it for themselves.
use Rattle.std.specs.Prelude.{◌≡◌, ◌==◌, ◌||◌, not, ℕ, Bool, true, false, Option, Some, None}
use Rattle.std.specs.List.{list_all}
use Rattle.rdb_types.specs.declared.node.Node.{Node}
use Rattle.vms_queues.specs.declared.lock_mode.Mode.TheVariants.{EX}
use Rattle.vms_queues.specs.Modes.{at_most}
use Rattle.lock_needs.specs.declared.need.Need.{Need}
use Rattle.lock_needs.specs.declared.party.OpenWant.{OpenWant}
use Rattle.lock_needs.specs.Nodes.{is_on}
use Rattle.lock_needs.specs.Party.{Party}
use Rattle.lock_needs.specs.Waits.{converts_at}
use Rattle.lock_tree_laws.specs.Forest.{State, opened_of, party_of}
use Rattle.lock_tree_laws.specs.Wanted.{needs_of}

-- each other owner that has got a need on the node has no want open
abbrev pub HoldersRest : State → ℕ → Node → Type 0
HoldersRest s owner n = (t : ℕ) → (t == owner) ≡ false → converts_at (needs_of s t) n ≡ true → opened_of s t ≡ None

-- a need that is on the node is for EX
abbrev pub is_exclusive_on : Node → Need → Bool
is_exclusive_on n w = not (is_on n w.node) || at_most EX w.mode

abbrev pub WantsExclusively : Node → Option OpenWant → Type 0
WantsExclusively n None = Unit {0}
WantsExclusively n (Some w) = is_exclusive_on n w.need ≡ true

-- An owner has and wants the node for itself alone, and wants nothing once it has got it.
pub record KeepsTo (n : Node) (p : Party) : Type 0 where
  pub needs : list_all (is_exclusive_on n) p.needs ≡ true
  pub want : WantsExclusively n p.opened
  pub rests : converts_at p.needs n ≡ true → p.opened ≡ None

-- each other owner keeps to that
abbrev pub OthersKeepTo : State → ℕ → Node → Type 0
OthersKeepTo s owner n = (t : ℕ) → (t == owner) ≡ false → KeepsTo n (party_of s.parties t)
