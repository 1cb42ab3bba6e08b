-- Room that was taken at the start of a call lasts to its end.
use Rattle.std.proofs.Common.{◌≡◌, ℕ, ◌+◌, ◌*◌, ◌-◌, ◌≤◌, Bool, true, refl, sym, ◌∙◌, ap, subst, inl, inr, List, [], ◌∷◌, ◌++◌, length, length-append, vec_len, vec_capacity, arith}
use Rattle.std.specs.Prelude.{◌==◌, Some, is_some}
use Rattle.std.proofs.lemmas.Bool.{false≢true, cases_Bool, eqb-true}
use Rattle.std.proofs.lemmas.Nat.{mul-le}
use Rattle.rdb_types.specs.declared.node.Level.{Level}
use Rattle.rdb_types.specs.declared.node.Level.TheVariants.{Area, Range, Page, Line, Journal}
use Rattle.rdb_types.specs.declared.node.Node.{Node}
use Rattle.vms_locks.specs.Table.{Table}
use Rattle.lock_needs.specs.declared.need.Need.{Need}
use Rattle.lock_needs.specs.declared.party.OpenWant.{OpenWant}
use Rattle.lock_needs.specs.declared.party.Asked.{Asked}
use Rattle.lock_needs.specs.Party.{Party}
use Rattle.lock_needs.specs.Nodes.{is_above, level_over, above_of}
use Rattle.lock_needs.proofs.Above.{above-contains, above-level}
use Rattle.lock_needs.proofs.NodeLaws.{contains-above}
use Rattle.lock_tree.specs.declared.parts.Parts.{Parts}
use Rattle.lock_tree.specs.declared.steps.Step.{Step}
use Rattle.lock_tree.specs.declared.steps.Step.TheVariants.{Down, Ends}
use Rattle.lock_tree_laws.specs.Forest.{State, Parties, KeepsParties, party_of, places_kept}
use Rattle.lock_tree.specs.States.{state_of}
use Rattle.lock_tree_laws.specs.Wanted.{needs_of}
use Rattle.lock_tree.specs.Inner.Stepping.{Steps}
use Rattle.lock_tree.specs.Inner.Rooms.{HasRoomFor, HasRoomToOpen, LeavesRoom, StaysRoomy}
use Rattle.lock_tree_laws.specs.Room.{IsAsBefore, depth}
use Rattle.lock_tree_laws.proofs.KeptPlaces.{places-same, places-still}

-- as many places more or fewer
times-more : (n k : ℕ) → (n + 1) * k ≡ n * k + k
times-more n k = grind (arith)

-- ---- from one state to another

module _ (owner : ℕ) (old new : Parts) (needs : needs_of (state_of new) owner ≡ needs_of (state_of old) owner) where
  abbrev places : ℕ
  places = length (needs_of (state_of old) owner) + 1

  -- so many places are spare, by the needs as they were
  by-old : (nodes : ℕ) → nodes * places + places_kept new.parties.entries ≤ new.locks.spare → nodes * (length (needs_of (state_of new) owner) + 1) + places_kept new.parties.entries ≤ new.locks.spare
  by-old nodes h = subst (λ (ws : List Need). nodes * (length ws + 1) + places_kept new.parties.entries ≤ new.locks.spare) (sym needs) h

  -- no more places are kept
  module _ (kept : places_kept new.parties.entries ≤ places_kept old.parties.entries) where
    -- the same table and trail
    pub room-same : new.locks ≡ old.locks → new.trail ≡ old.trail → (nodes : ℕ) → HasRoomFor nodes owner old → HasRoomFor nodes owner new
    room-same locks trail nodes r =
        let spare : new.locks.spare ≡ old.locks.spare = ap (λ (t : Table). t.spare) locks in
        record {
          table = by-old nodes (omega (arith, r.table, kept, spare));
          trail = subst (λ t. vec_len t + nodes ≤ vec_capacity t) (sym trail) r.trail;
        }

    -- room for one node was used
    pub room-used : old.locks.spare ≤ new.locks.spare + places → vec_len new.trail ≡ vec_len old.trail + 1 → vec_capacity old.trail ≤ vec_capacity new.trail → (nodes : ℕ) → HasRoomFor (nodes + 1) owner old → HasRoomFor nodes owner new
    room-used spare long capacity nodes r =
        record {
          table = by-old nodes (omega (arith, r.table, spare, kept, times-more nodes places));
          trail = omega (arith, r.trail, long, capacity);
        }

  -- the want has opened, and the trail was cut
  pub room-opened : places_kept new.parties.entries ≤ places_kept old.parties.entries + length (needs_of (state_of old) owner) → new.locks ≡ old.locks
      → vec_len new.trail ≤ vec_len old.trail → vec_capacity new.trail ≡ vec_capacity old.trail → HasRoomToOpen owner old → HasRoomFor 4 owner new
  room-opened kept locks long capacity r =
      let spare : new.locks.spare ≡ old.locks.spare = ap (λ (t : Table). t.spare) locks in
      record {
        table = by-old 4 (omega (arith, r.table, kept, spare));
        trail = omega (arith, r.trail, long, capacity);
      }

-- ---- what is kept for the ends of wants stays

module _ (owner : ℕ) (old : Parts) (new : Table) (room : HasRoomFor 1 owner old) where
  -- as the want looks at its node
  pub kept-looked : (p : Party) → p ≡ party_of old.parties.entries owner → old.locks.spare ≤ new.spare + (length p.needs + 1) → places_kept old.parties.entries ≤ new.spare
  kept-looked p is spare =
      let long : length p.needs ≡ length (needs_of (state_of old) owner) = ap (λ (q : Party). length q.needs) is in
      omega (arith, room.table, spare, long)

  -- as it asks its whole need there
  pub kept-taken : old.locks.spare ≤ new.spare + 1 → places_kept old.parties.entries ≤ new.spare
  kept-taken spare = omega (arith, room.table, spare)

-- ---- steps

-- what a step down leaves of the needs
down-needs : (ws : List Need) (s : State) (owner : ℕ) (w v : OpenWant) (wait : Bool) → Steps ws s owner w wait (Down v) → needs_of s owner ≡ ws
down-needs ws s owner w v wait h = ap (λ (p : Party). p.needs) h.0

module _ (owner : ℕ) (ws : List Need) (w : OpenWant) (wait : Bool) (old new : Parts) (is : needs_of (state_of old) owner ≡ ws) (open_ : is_some (party_of old.parties.entries owner).opened ≡ true)
    (others : KeepsParties owner old.parties.entries new.parties.entries) where
  -- a step that changes neither the table nor the trail
  pub roomy-on : new.locks ≡ old.locks → new.trail ≡ old.trail → (step : Step) → Steps ws (state_of new) owner w wait step → StaysRoomy owner old new step
  roomy-on locks trail (Down v) h =
      let needs : needs_of (state_of new) owner ≡ needs_of (state_of old) owner = down-needs ws (state_of new) owner w v wait h ∙ sym is in
      room-same owner old new needs (places-still owner old.parties.entries new.parties.entries others open_ needs) locks trail
  roomy-on locks trail (Ends answer) h = tt

-- a step after the table, the trail and the parties have stayed
pub leaves-after : (owner : ℕ) (old mid new : Parts) → party_of mid.parties.entries owner ≡ party_of old.parties.entries owner → KeepsParties owner old.parties.entries mid.parties.entries → mid.locks ≡ old.locks → mid.trail ≡ old.trail
    → (step : Step) → LeavesRoom owner mid new step → LeavesRoom owner old new step
leaves-after owner old mid new own others locks trail (Down v) h = λ nodes r.
    h nodes (room-same owner old mid (ap (λ (p : Party). p.needs) own) (places-same owner old.parties.entries mid.parties.entries others own) locks trail (nodes + 1) r)
leaves-after owner old mid new own others locks trail (Ends answer) h = tt

-- a step after room for one node was used, with the want open before and after
pub leaves-used : (owner : ℕ) (old mid new : Parts) → needs_of (state_of mid) owner ≡ needs_of (state_of old) owner → is_some (party_of old.parties.entries owner).opened ≡ true → KeepsParties owner old.parties.entries mid.parties.entries
    → old.locks.spare ≤ mid.locks.spare + (length (needs_of (state_of old) owner) + 1) → vec_len mid.trail ≡ vec_len old.trail + 1 → vec_capacity old.trail ≤ vec_capacity mid.trail
    → (step : Step) → StaysRoomy owner mid new step → LeavesRoom owner old new step
leaves-used owner old mid new needs open_ others spare long capacity (Down v) h = λ nodes r.
    h nodes (room-used owner old mid needs (places-still owner old.parties.entries mid.parties.entries others open_ needs) spare long capacity nodes r)
leaves-used owner old mid new needs open_ others spare long capacity (Ends answer) h = tt

-- ---- nodes on the way

-- there is room for fewer nodes
pub room-fewer : (owner : ℕ) (p : Parts) (few many : ℕ) → few ≤ many → HasRoomFor many owner p → HasRoomFor few owner p
room-fewer owner p few many h r =
    let places : ℕ = length (needs_of (state_of p) owner) + 1 in
    record { table = omega (arith, mul-le few places many places h (omega arith), r.table); trail = omega (arith, h, r.trail) }

pub shallow : (l : Level) → depth l ≤ 3
shallow Area = omega arith
shallow Range = omega arith
shallow Page = omega arith
shallow Line = omega arith
shallow Journal = omega arith

pub room-one : (owner : ℕ) (p : Parts) (l : Level) → HasRoomFor (4 - depth l) owner p → HasRoomFor 1 owner p
room-one owner p l r = room-fewer owner p 1 (4 - depth l) (omega (arith, shallow l)) r

pub room-start : (owner : ℕ) (p : Parts) (l : Level) → HasRoomFor 4 owner p → HasRoomFor (4 - depth l) owner p
room-start owner p l r = room-fewer owner p (4 - depth l) 4 (omega arith) r

lower-level : (l : Level) → is_above (level_over l) l ≡ true → (4 - depth l) + 1 ≡ 4 - depth (level_over l)
lower-level Range h = refl
lower-level Page h = refl
lower-level Line h = refl
lower-level l h = absurd (false≢true h)

-- one node further down
pub lower-left : (n up : Node) → above_of n ≡ Some up → (4 - depth n.level) + 1 ≡ 4 - depth up.level
lower-left n up e =
    subst (λ (l : Level). (4 - depth n.level) + 1 ≡ 4 - depth l) (sym (above-level n up e))
    (lower-level n.level (subst (λ (l : Level). is_above l n.level ≡ true) (above-level n up e) (contains-above up n (above-contains n up e))))

pub room-lower : (owner : ℕ) (old new : Parts) (n up : Node) → above_of n ≡ Some up → ((nodes : ℕ) → HasRoomFor (nodes + 1) owner old → HasRoomFor nodes owner new) → HasRoomFor (4 - depth up.level) owner old → HasRoomFor (4 - depth n.level) owner new
room-lower owner old new n up e leaves r = leaves (4 - depth n.level) (subst (λ (k : ℕ). HasRoomFor k owner old) (sym (lower-left n up e)) r)

-- one entry more
pub one-more : (trail new : List Asked) (a : Asked) → new ≡ trail ++ a ∷ [] → length new ≤ length trail + 1
one-more trail new a e = subst (λ (xs : List Asked). length xs ≤ length trail + 1) (sym e) (omega (arith, length-append trail (a ∷ [])))

-- ---- nothing that shows

pub each-as-before : (owner : ℕ) (old new : Parties) → party_of new owner ≡ party_of old owner → KeepsParties owner old new → (u : ℕ) → party_of new u ≡ party_of old u
each-as-before owner old new own others u =
    elim (cases_Bool (u == owner)) [
      | inl e ↦ subst (λ (k : ℕ). party_of new k ≡ party_of old k) (sym (eqb-true u owner e)) own
      | inr d ↦ others u d
    ]

pub before-then : (a b c : State) → IsAsBefore a b → IsAsBefore b c → IsAsBefore a c
before-then a b c h k = record { table = k.table ∙ h.table; parties = λ u. k.parties u ∙ h.parties u; trail = k.trail ∙ h.trail }
