-- How the tree of locks and the account tell the same of needs, wants and the order of asking.
use Rattle.std.specs.Prelude.{◌≡◌, ℕ, true, if◌then◌else◌, List, map, Option, Some, None, ◌⊎◌}
use Rattle.rdb_types.specs.declared.node.Node.{Node}
use Rattle.lock_needs.specs.declared.need.Need.{Need}
use Rattle.lock_needs.specs.declared.party.OpenWant.{OpenWant}
use Rattle.lock_needs.specs.declared.party.Asked.{Asked}
use Rattle.lock_needs.specs.Party.{Party}
use Rattle.lock_needs.specs.Waits.{wanted, has_asked}
use Rattle.lock_tree_laws.specs.Forest.{State, KeepsParties, no_conflict, party_of, open_asks, opened_of}
use Rattle.lock_tree_laws.specs.Wanted.{AddsAsks, IsOf, trail_of_want}
use Rattle.rdb_account.specs.Events.{Event, Wanted}
use Rattle.rdb_account.specs.Places.{Place}
use Rattle.rdb_account.specs.Lawful.{asked_of, want_in, got_of}
use Rattle.rdb_account.specs.Legal.{is_one_want}

-- the needs that s has got
abbrev pub needs_at : Place → ℕ → List Need
needs_at p s = got_of (p.transaction s)

-- the need of a want that is open and was asked somewhere: a want that wasn't is nobody's concern
abbrev pub asked_want : List Asked → ℕ → Option OpenWant → Option Need
asked_want asks s opened = if has_asked s asks then wanted opened else None

-- Needs are the same, and so is the order in which open wants were asked, and what they want.
pub record AreTied (p : Place) (party : ℕ → Party) (trail : List Asked) : Type 0 where
  pub needs : (s : ℕ) → needs_at p s ≡ (party s).needs
  pub asks : map asked_of p.asks ≡ trail
  pub wants : (s : ℕ) → want_in s p.asks ≡ asked_want trail s (party s).opened

-- the account tells the same as the tree in this state
abbrev pub IsTiedTo : Place → State → Type 0
IsTiedTo p t = AreTied p (party_of t.parties) (open_asks t.parties t.trail)

-- no needs of the two conflict, looked at from either side
abbrev pub Apart : List Need → List Need → Type 0
Apart mine theirs = (no_conflict mine theirs ≡ true) × (no_conflict theirs mine ≡ true)

-- no want of s is open, or one of this need
abbrev pub MayWant : Place → ℕ → Need → Type 0
MayWant p s n = (want_in s p.asks ≡ None) ⊎ (want_in s p.asks ≡ Some n)

-- all that a session has asked for its open want is of one need
abbrev pub AskForOne : Place → Type 0
AskForOne p = (s : ℕ) (n : Need) → want_in s p.asks ≡ Some n → is_one_want s n p.asks ≡ true

-- What a call of `want` says of the owner's want and of the others: a want that is open is of this need, the others have and want
-- what they did, and the want was asked at these nodes.
pub record IsCall (s : ℕ) (need : Need) (old new : State) : Type 0 where
  pub same : IsOf need (opened_of old s)
  pub others : KeepsParties s old.parties new.parties
  pub asks : AddsAsks s need (trail_of_want old s) new.trail

-- the events of such a call: the want was asked at these nodes in turn
abbrev pub wanted_at : ℕ → Need → List Node → List Event
wanted_at s n nodes = map (λ node. Wanted s n node) nodes
