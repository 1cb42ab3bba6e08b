-- The steps of an open want, by the tree's state.
use Rattle.std.proofs.Common.{◌≡◌, ℕ, ◌++◌, ◌∷◌, [], ◌<◌, ◌≤◌, ◌-◌, Bool, true, false, List, refl, sym, ◌∙◌, ap, subst, inl, inr, arith}
use Rattle.std.specs.Prelude.{not, ◌&&◌, ◌||◌, if◌then◌else◌, Option, Some, None, is_some}
use Rattle.std.specs.List.{list_all}
use Rattle.std.proofs.Math.Nat.{le_trans}
use Rattle.std.proofs.lemmas.Bool.{false≢true, cases_Bool, and_parts, and_from, or_left}
use Rattle.rdb_types.specs.declared.node.Level.{Level}
use Rattle.rdb_types.specs.declared.node.Level.TheVariants.{Area, Range, Page, Line, Journal}
use Rattle.rdb_types.specs.declared.node.Node.{Node}
use Rattle.vms_queues.specs.Modes.{at_most, intent}
use Rattle.vms_locks.specs.Table.{Table, queues_at, IsLive}
use Rattle.lock_needs.specs.declared.need.Need.{Need}
use Rattle.lock_needs.specs.declared.party.OpenWant.{OpenWant}
use Rattle.lock_needs.specs.Party.{Party}
use Rattle.lock_needs.specs.declared.party.Asked.{Asked}
use Rattle.lock_needs.specs.Nodes.{is_above, level_over, same_node, contains, is_on, above_of}
use Rattle.lock_needs.specs.Needs.{Holding, is_covered, covered_above, is_plain}
use Rattle.lock_needs.specs.Wants.{mode_for, sleeps_at}
use Rattle.lock_needs.proofs.NodeLaws.{same_node-true, same_node-refl, contains-above}
use Rattle.lock_needs.proofs.Above.{above-contains, above-level}
use Rattle.lock_tree_laws.specs.LockTable.{granted_at, sought_at, HasIntents}
use Rattle.lock_tree_laws.specs.Parties.{IsKept, KeepsOthers, wanting, resting, unasked, asked_at, was_asked}
use Rattle.lock_tree_laws.specs.Inner.Releasing.{IsQuiet}
use Rattle.lock_tree_laws.specs.Forest.{Parties, State, IsWhole, HasAsks, KeepsParties, is_asked_at, open_asks, party_of, opened_of, places_kept}
use Rattle.lock_tree_laws.specs.Wanted.{needs_of, IsOpen}
use Rattle.lock_tree_laws.specs.Room.{depth}
use Rattle.lock_tree_laws.proofs.KeptPlaces.{places-same, places-still, open-owner}
use Rattle.lock_tree_laws.proofs.Leaving.{and-none, sleeps-elsewhere, up-same}
use Rattle.lock_tree_laws.proofs.Wanting.{at_node, descends}
use Rattle.lock_tree_laws.proofs.Getting.{got-open}
use Rattle.lock_tree_laws.proofs.Trails.{entry_of, pushed-others, asks-pushed}
use Rattle.lock_tree_laws.specs.Order.{IsInOrder, MakesWay, StandsByNeeds, asked_of_want, asked_last}
use Rattle.lock_tree_laws.specs.Inner.Answering.{ComesDown}
use Rattle.lock_tree_laws.proofs.WayMade.{way-none}
use Rattle.lock_tree_laws.proofs.StepsInOrder.{stands-got, stands-descends}
use Rattle.lock_tree_laws.proofs.OpenAsks.{opened-still, opened-noted, opened-asked}
use Rattle.lock_tree_laws.proofs.Whole.{least-of, whole-after, whole-served, whole-ended}

pub as-open : (p : Party) (w : OpenWant) → p.opened ≡ Some w → p ≡ wanting p.needs w
as-open p w opened = ap (λ (o : Option OpenWant). record p { opened = o }) opened

pub as-resting : (p : Party) → p.opened ≡ None → p ≡ resting p.needs
as-resting p opened = ap (λ (o : Option OpenWant). record p { opened = o }) opened

-- ---- what stays

-- the owner's locks came down, and nothing else changed
pub whole-kept : (s r : State) (owner : ℕ) → IsWhole s → ComesDown owner (party_of s.parties owner) s.table r.table
    → party_of r.parties owner ≡ party_of s.parties owner → KeepsParties owner s.parties r.parties → r.trail ≡ s.trail → places_kept s.parties ≤ r.table.spare → IsWhole r
whole-kept s r owner whole down own same trail room =
    whole-served s r owner (party_of s.parties owner) whole down.intents down.others own down.kept same
    (subst (λ (a : List Asked). HasAsks a owner (party_of s.parties owner).opened) (sym trail) (whole.asks owner))
    (λ u n d. ap (λ (a : List Asked). is_asked_at a u n) trail)
    down.way (down.stands (least-of s owner whole)) (λ n. refl) (λ n. refl)
    (ap (open_asks r.parties) trail ∙ opened-still (party_of s.parties) (party_of r.parties) owner same (ap (λ (p : Party). is_some p.opened) own) s.trail)
    (whole.owners owner) (le_trans (places-same owner s.parties r.parties same own) room)

-- nothing changed but the others' shares of the map
pub whole-same : (s r : State) (owner : ℕ) → IsWhole s → r.table ≡ s.table → party_of r.parties owner ≡ party_of s.parties owner → KeepsParties owner s.parties r.parties → r.trail ≡ s.trail → IsWhole r
whole-same s r owner whole table own same trail =
    whole-kept s r owner whole
    (subst (ComesDown owner (party_of s.parties owner) s.table) (sym table) (record {
      way = way-none owner s.table;
      stands = λ h. h;
      kept = whole.kept owner;
      intents = whole.intents;
      others = λ u q d k. k;
    }))
    own same trail (subst (λ (t : Table). places_kept s.parties ≤ t.spare) (sym table) whole.room)

-- the owner has no want open any more, and was asked for it at the node
pub whole-noted : (s r : State) (owner : ℕ) (n : Node) (ws : List Need) → IsWhole s → HasIntents r.table → KeepsOthers owner s.table r.table → IsKept r.table owner (resting ws)
    → party_of r.parties owner ≡ resting ws → KeepsParties owner s.parties r.parties → r.trail ≡ s.trail ++ entry_of owner n ∷ [] → MakesWay owner s.table r.table → StandsByNeeds r.table owner (resting ws)
    → places_kept r.parties ≤ r.table.spare → IsWhole r
whole-noted s r owner n ws whole intents others kept own same trail way stands room =
    whole-ended s r owner (resting ws) whole intents others own kept same tt
    (λ u x d. ap (λ (a : List Asked). is_asked_at a u x) trail ∙ pushed-others owner n s.trail u x d)
    way stands refl
    (ap (open_asks r.parties) trail ∙ opened-noted (party_of s.parties) (party_of r.parties) owner same (ap (λ (p : Party). is_some p.opened) own) n s.trail)
    room

-- what an owner's open want is told by
pub kept-open : (s : State) (owner : ℕ) (w : OpenWant) → IsWhole s → opened_of s owner ≡ Some w → IsKept s.table owner (wanting (needs_of s owner) w)
kept-open s owner w whole opened = subst (IsKept s.table owner) (as-open (party_of s.parties owner) w opened) (whole.kept owner)

pub asks-open : (s : State) (owner : ℕ) (w : OpenWant) → IsWhole s → opened_of s owner ≡ Some w → HasAsks s.trail owner (Some w)
asks-open s owner w whole opened = subst (HasAsks s.trail owner) opened (whole.asks owner)

pub still-open : (s r : State) (owner : ℕ) (w : OpenWant) (n : Need) → opened_of s owner ≡ Some w → w.need ≡ n → party_of r.parties owner ≡ party_of s.parties owner → IsOpen r owner (needs_of s owner) n
still-open s r owner w n opened is own = (w, own ∙ as-open (party_of s.parties owner) w opened, is)

-- the open want was asked at its node
pub whole-asked : (s r : State) (owner : ℕ) (w : OpenWant) → IsWhole s → opened_of s owner ≡ Some (unasked w) → HasIntents r.table → KeepsOthers owner s.table r.table
    → IsKept r.table owner (wanting (needs_of s owner) (asked_at w w.here)) → party_of r.parties owner ≡ wanting (needs_of s owner) (asked_at w w.here)
    → KeepsParties owner s.parties r.parties → r.trail ≡ s.trail ++ entry_of owner w.here ∷ []
    → IsLive (queues_at r.table) → IsInOrder r.table (party_of r.parties) (asked_last (open_asks s.parties s.trail) owner w.here) → places_kept s.parties ≤ r.table.spare → IsWhole r
whole-asked s r owner w whole opened intents others kept own same trail live order room =
    whole-after s r owner (wanting (needs_of s owner) (asked_at w w.here)) whole intents others own kept same
    (subst (λ (a : List Asked). HasAsks a owner (Some (asked_at w w.here))) (sym trail) (asks-pushed owner w s.trail (asks-open s owner (unasked w) whole opened)))
    (λ u x d. ap (λ (a : List Asked). is_asked_at a u x) trail ∙ pushed-others owner w.here s.trail u x d)
    (λ f. absurd (false≢true (sym f ∙ open-owner s owner (unasked w) whole opened)))
    (le_trans (places-still owner s.parties r.parties same (ap (λ (o : Option OpenWant). is_some o) opened) (ap (λ (p : Party). p.needs) own)) room)
    live
    (subst (IsInOrder r.table (party_of r.parties))
    (sym (ap (open_asks r.parties) trail
    ∙ opened-asked (party_of s.parties) (party_of r.parties) owner same (ap (λ (o : Option OpenWant). is_some o) opened) (ap (λ (p : Party). is_some p.opened) own) w.here s.trail))
    order)

-- the open want looked at its node, and wasn't asked there, or was refused
pub whole-looked : (s r : State) (owner : ℕ) (w : OpenWant) → IsWhole s → opened_of s owner ≡ Some (unasked w) → ComesDown owner (party_of s.parties owner) s.table r.table
    → r.parties ≡ s.parties → r.trail ≡ s.trail → places_kept s.parties ≤ r.table.spare → IsWhole r
whole-looked s r owner w whole opened down parties trail room =
    whole-kept s r owner whole down (ap (λ (ps : Parties). party_of ps owner) parties) (λ u d. ap (λ (ps : Parties). party_of ps u) parties) trail room

-- ---- a want that is covered

pub covered-got : (s : State) (owner : ℕ) (ws : List Need) (n : Need) → IsWhole s → IsOpen s owner ws n → is_covered (granted_at s.table owner) n ≡ true → is_plain n ≡ true → IsQuiet s.table owner → IsKept s.table owner (resting (ws ++ n ∷ []))
covered-got s owner ws n whole open_ covered plain quiet =
    subst (λ (v : Need). IsKept s.table owner (resting (ws ++ v ∷ []))) open_.2
    (got-open (granted_at s.table owner) (sought_at s.table owner) ws open_.0 (subst (IsKept s.table owner) open_.1 (whole.kept owner))
    (subst (λ (v : Need). is_covered (granted_at s.table owner) v ≡ true) (sym open_.2) covered) (subst (λ (v : Need). is_plain v ≡ true) (sym open_.2) plain) quiet)

pub covered-stands : (s : State) (owner : ℕ) (ws : List Need) (n : Need) → IsWhole s → IsOpen s owner ws n → StandsByNeeds s.table owner (resting (ws ++ n ∷ []))
covered-stands s owner ws n whole open_ =
    subst (λ (v : Need). StandsByNeeds s.table owner (resting (ws ++ v ∷ []))) open_.2
    (stands-got s.table s.table owner ws open_.0 (way-none owner s.table) (subst (IsKept s.table owner) open_.1 (whole.kept owner)).way (subst (StandsByNeeds s.table owner) open_.1 (least-of s owner whole)))

-- a need that an owner has got is covered
pub got-covered_need : (t : Table) (owner : ℕ) (ws : List Need) (n : Need) → IsKept t owner (resting (ws ++ n ∷ [])) → is_covered (granted_at t owner) n ≡ true
got-covered_need t owner ws n k = last ws k.covered
  where
    last : (vs : List Need) → list_all (is_covered (granted_at t owner)) (vs ++ n ∷ []) ≡ true → is_covered (granted_at t owner) n ≡ true
    last [] h = (and_parts (is_covered (granted_at t owner) n) true h).0
    last (v ∷ vs) h = last vs (and_parts (is_covered (granted_at t owner) v) (list_all (is_covered (granted_at t owner)) (vs ++ n ∷ [])) h).1

-- ---- a want that isn't queued

pub awake-granted : (held : Holding) (w : OpenWant) → w.is_asked ≡ true → sleeps_at held (Some w) w.here ≡ false → at_most (mode_for w.need w.here) (held w.here) ≡ true
awake-granted held w asked awake = elim (cases_Bool (at_most (mode_for w.need w.here) (held w.here))) [
  | inl y ↦ y
  | inr f ↦ absurd (false≢true (sym awake ∙ and_from (same_node w.here w.here) (w.is_asked && not (at_most (mode_for w.need w.here) (held w.here))) (same_node-refl w.here)
      (and_from w.is_asked (not (at_most (mode_for w.need w.here) (held w.here))) asked (ap not f))))
]

pub granted-awake : (held : Holding) (w : OpenWant) → at_most (mode_for w.need w.here) (held w.here) ≡ true → (x : Node) → sleeps_at held (Some w) x ≡ false
granted-awake held w granted x = elim (cases_Bool (same_node x w.here)) [
  | inr d ↦ sleeps-elsewhere held w x d
  | inl s ↦
      ap (λ (b : Bool). same_node x w.here && (w.is_asked && not b)) (subst (λ (z : Node). at_most (mode_for w.need z) (held z) ≡ true) (sym (same_node-true x w.here s)) granted)
      ∙ (ap (λ (b : Bool). same_node x w.here && b) (and-none w.is_asked) ∙ and-none (same_node x w.here))
]

pub granted-quiet_all : (s : State) (owner : ℕ) (w : OpenWant) → IsWhole s → opened_of s owner ≡ Some w → at_most (mode_for w.need w.here) (granted_at s.table owner w.here) ≡ true → IsQuiet s.table owner
granted-quiet_all s owner w whole opened granted x = (kept-open s owner w whole opened).awake x (granted-awake (granted_at s.table owner) w granted x)

pub unasked-quiet : (s : State) (owner : ℕ) (w : OpenWant) → IsWhole s → opened_of s owner ≡ Some (unasked w) → IsQuiet s.table owner
unasked-quiet s owner w whole opened x = (kept-open s owner (unasked w) whole opened).awake x (and-none (same_node x w.here))

-- a want that was granted its mode at its need's node is covered there
pub covered-there : (held : Holding) (w : OpenWant) → w.here ≡ w.need.node → at_most (mode_for w.need w.here) (held w.here) ≡ true → is_covered held w.need ≡ true
covered-there held w here granted =
    or_left (at_most w.need.mode (held w.need.node)) (covered_above held w.need)
    (subst (λ (n : Node). at_most w.need.mode (held n) ≡ true) here (subst (λ (b : Bool). at_most (if b then w.need.mode else intent w.need.mode) (held w.here) ≡ true) own granted))
  where
    own : same_node w.here w.need.node ≡ true
    own = subst (λ (n : Node). same_node w.here n ≡ true) here (same_node-refl w.here)

-- ---- a want goes down

next-is : (w v : OpenWant) → v.need ≡ w.need → v ≡ unasked v → v ≡ unasked (at_node w v.here)
next-is w v need fresh = fresh ∙ ap (λ (n : Need). record { need = n; here = v.here; is_asked = false }) need

and-true : (b : Bool) → (b && true) ≡ b
and-true true = refl
and-true false = refl

or-none : (b : Bool) → (b || false) ≡ b
or-none true = refl
or-none false = refl

module _ (s : State) (owner : ℕ) (w v : OpenWant) (whole : IsWhole s) (opened : opened_of s owner ≡ Some w) (asked : w.is_asked ≡ true)
    (granted : at_most (mode_for w.need w.here) (granted_at s.table owner w.here) ≡ true) (need : v.need ≡ w.need) (fresh : v ≡ unasked v)
    (above : above_of v.here ≡ Some w.here) (way : is_on v.here v.need.node ≡ true) where
  pub down-kept : IsKept s.table owner (wanting (needs_of s owner) v)
  down-kept =
      subst (λ (u : OpenWant). IsKept s.table owner (wanting (needs_of s owner) u)) (sym (next-is w v need fresh))
      (descends (granted_at s.table owner) (sought_at s.table owner) (needs_of s owner) w v.here above (subst (λ (n : Need). is_on v.here n.node ≡ true) need way) asked granted
      (granted-quiet_all s owner w whole opened granted) (kept-open s owner w whole opened))

  pub down-asks : HasAsks s.trail owner (Some v)
  down-asks n =
      asks-open s owner w whole opened n
      ∙ (ap (λ (b : Bool). contains n w.here || (same_node n w.here && b)) asked
      ∙ (ap (λ (b : Bool). contains n w.here || b) (and-true (same_node n w.here))
      ∙ (sym (up-same (granted_at s.table owner) v w.here above (subst (λ (m : Need). at_most (mode_for m w.here) (granted_at s.table owner w.here) ≡ true) (sym need) granted) n)
      ∙ sym (subst (λ (u : OpenWant). was_asked u n ≡ contains n v.here) (sym fresh) (ap (λ (b : Bool). contains n v.here || b) (and-none (same_node n v.here)) ∙ or-none (contains n v.here))))))

  pub down-stands : StandsByNeeds s.table owner (wanting (needs_of s owner) v)
  down-stands =
      subst (λ (u : OpenWant). StandsByNeeds s.table owner (wanting (needs_of s owner) u)) (sym (next-is w v need fresh))
      (stands-descends s.table owner (needs_of s owner) (at_node w v.here) w.here above granted
      (subst (λ (u : OpenWant). StandsByNeeds s.table owner (wanting (needs_of s owner) u)) (ap (λ (b : Bool). record w { is_asked = b }) asked)
      (subst (StandsByNeeds s.table owner) (as-open (party_of s.parties owner) w opened) (least-of s owner whole))))

  pub down-asked : (n : Node) → asked_of_want (Some v) n ≡ asked_of_want (opened_of s owner) n
  down-asked n = sym (down-asks n) ∙ (asks-open s owner w whole opened n ∙ sym (ap (λ (o : Option OpenWant). asked_of_want o n) opened))

-- ---- how far it has to go

deeper-level : (l : Level) → is_above (level_over l) l ≡ true → 3 - depth l < 3 - depth (level_over l)
deeper-level Area h = absurd (false≢true h)
deeper-level Range h = omega arith
deeper-level Page h = omega arith
deeper-level Line h = omega arith
deeper-level Journal h = absurd (false≢true h)

pub deeper : (n up : Node) → above_of n ≡ Some up → 3 - depth n.level < 3 - depth up.level
deeper n up e =
    subst (λ (l : Level). 3 - depth n.level < 3 - depth l) (sym (above-level n up e))
    (deeper-level n.level (subst (λ (l : Level). is_above l n.level ≡ true) (above-level n up e) (contains-above up n (above-contains n up e))))

-- ---- a want that is of a need

-- the need of the open want is got
pub open-got : (s : State) (owner : ℕ) (need : Need) (p : Party) → IsOpen s owner (needs_of s owner) need → ((w : OpenWant) → opened_of s owner ≡ Some w → p ≡ resting (needs_of s owner ++ w.need ∷ [])) → p ≡ resting (needs_of s owner ++ need ∷ [])
open-got s owner need p is own =
    own is.0 (ap (λ (q : Party). q.opened) is.1) ∙ ap (λ (n : Need). resting (needs_of s owner ++ n ∷ [])) is.2
