-- The whole tree, from one owner and the others.
use Rattle.std.proofs.Common.{◌≡◌, ℕ, ◌≤◌, arith, true, false, refl, sym, ◌∙◌, ap, subst, inl, inr, List, [], ◌∷◌}
use Rattle.std.specs.Prelude.{◌==◌, not, Option, Some, None}
use Rattle.std.specs.List.{list_all}
use Rattle.std.proofs.lemmas.Bool.{false≢true, cases_Bool, eqb-true, and_parts, and_from, not_from_false}
use Rattle.vms_queues.specs.Queues.{Queues}
use Rattle.vms_queues.specs.Owners.{is_owner}
use Rattle.vms_locks.specs.Table.{Table, queues_at, IsLive}
use Rattle.rdb_types.specs.declared.node.Node.{Node}
use Rattle.lock_needs.specs.Party.{Party}
use Rattle.lock_needs.specs.declared.party.OpenWant.{OpenWant}
use Rattle.lock_needs.specs.declared.party.Asked.{Asked}
use Rattle.lock_needs.specs.declared.need.Need.{Need}
use Rattle.lock_needs.specs.Needs.{Holding, AreCompatible, HasIntentsAbove, conflict, is_covered, all_covered}
use Rattle.lock_needs.specs.Waits.{converts_at}
use Rattle.lock_needs.proofs.Apart.{covered-apart}
use Rattle.lock_tree_laws.specs.LockTable.{granted_at, HasIntents}
use Rattle.lock_tree_laws.specs.Parties.{IsKept, KeepsOthers}
use Rattle.lock_tree_laws.proofs.HeldModes.{shares-in}
use Rattle.lock_tree_laws.specs.Forest.{Parties, State, IsWhole, HasAsks, KeepsAsks, KeepsParties, NeedsAreApart, no_conflict, is_asked_at, open_asks, party_of, places_kept}
use Rattle.lock_tree_laws.specs.Order.{IsInOrder, StandsInOrder, AreKept, MakesWay, StandsByNeeds, asked_of_want, without_asks}
use Rattle.vms_locks.proofs.Empty.{live-empty}
use Rattle.lock_tree_laws.proofs.WayMade.{stays-live}
use Rattle.lock_tree_laws.proofs.StepsInOrder.{empty-in_order, served-in_order, ended-in_order}

-- another trail that names the same nodes for the owner
pub asks-same : (old new : List Asked) (u : ℕ) (o : Option OpenWant) → ((n : Node) → is_asked_at new u n ≡ is_asked_at old u n) → HasAsks old u o → HasAsks new u o
asks-same old new u None same asks = tt
asks-same old new u (Some w) same asks = λ n. same n ∙ asks n

pub live-of : (s : State) → IsWhole s → IsLive (queues_at s.table)
unfolding StandsInOrder
live-of s whole = whole.in_order.0

pub order-of : (s : State) → IsWhole s → IsInOrder s.table (party_of s.parties) (open_asks s.parties s.trail)
unfolding StandsInOrder
order-of s whole = whole.in_order.1

-- who stands in the way does so by its needs
pub least-of : (s : State) (owner : ℕ) → IsWhole s → StandsByNeeds s.table owner (party_of s.parties owner)
least-of s owner whole = (order-of s whole).least owner

abbrev bare : ℕ → Table
bare spare = record { entries = []; spare = spare }

nobody : (spare : ℕ) → IsWhole (record { table = bare spare; parties = []; trail = [] })
unfolding StandsInOrder
nobody spare = record {
  intents = record { ascends = λ o x. refl; granted = λ o a c h. refl; sought = λ o a c h. refl };
  kept = λ u. record {
    covered = refl;
    plain = refl;
    way = tt;
    granted = λ n. refl;
    awake = λ n e. refl;
    asleep = λ w e. absurd (false≢true (ap (λ (o : Option OpenWant). elim o [ None ↦ false | Some v ↦ true ]) e));
    exact = λ n w e. absurd (false≢true (ap (λ (o : Option OpenWant). elim o [ None ↦ false | Some v ↦ true ]) e));
    earned = λ n b. refl;
    no_stray = λ n b. inl refl;
  };
  asks = λ u. tt;
  in_order = ((live-empty (bare spare) refl).0, empty-in_order spare (party_of []) (λ u. refl));
  owners = λ u e. refl;
  room = omega arith;
}

-- nobody has or wants anything
pub whole-empty : (s : State) → s.table.entries ≡ [] → s.parties ≡ [] → s.trail ≡ [] → IsWhole s
whole-empty s t p a =
    subst (λ (es : List (Node × Queues)). IsWhole (record { table = record { entries = es; spare = s.table.spare }; parties = s.parties; trail = s.trail })) (sym t)
    (subst (λ (ps : Parties). IsWhole (record { table = bare s.table.spare; parties = ps; trail = s.trail })) (sym p)
    (subst (λ (asks : List Asked). IsWhole (record { table = bare s.table.spare; parties = []; trail = asks })) (sym a) (nobody s.table.spare)))

module _ (s r : State) (owner : ℕ) (p : Party) (whole : IsWhole s) (intents : HasIntents r.table) (others : KeepsOthers owner s.table r.table) (is : party_of r.parties owner ≡ p) (own : IsKept r.table owner p)
    (same : KeepsParties owner s.parties r.parties) (asks : HasAsks r.trail owner p.opened) (other_asks : KeepsAsks owner s.trail r.trail) where
  pub after-kept : AreKept r.table (party_of r.parties)
  after-kept u = elim (cases_Bool (u == owner)) [
    | inl e ↦ subst (λ (z : ℕ). IsKept r.table z (party_of r.parties z)) (sym (eqb-true u owner e)) (subst (IsKept r.table owner) (sym is) own)
    | inr d ↦ subst (IsKept r.table u) (sym (same u d)) (others u (party_of s.parties u) d (whole.kept u))
  ]

  pub whole-after : (is_owner owner ≡ false → p.opened ≡ None) → places_kept r.parties ≤ r.table.spare
      → IsLive (queues_at r.table) → IsInOrder r.table (party_of r.parties) (open_asks r.parties r.trail) → IsWhole r
  unfolding StandsInOrder
  whole-after owned room live order = record {
    intents = intents;
    kept = after-kept;
    asks = λ u. elim (cases_Bool (u == owner)) [
      | inl e ↦ subst (λ (z : ℕ). HasAsks r.trail z (party_of r.parties z).opened) (sym (eqb-true u owner e)) (subst (λ (q : Party). HasAsks r.trail owner q.opened) (sym is) asks)
      | inr d ↦ subst (λ (q : Party). HasAsks r.trail u q.opened) (sym (same u d)) (asks-same s.trail r.trail u (party_of s.parties u).opened (λ n. other_asks u n d) (whole.asks u))
    ];
    in_order = (live, order);
    owners = λ u f. elim (cases_Bool (u == owner)) [
      | inl e ↦ subst (λ (z : ℕ). (party_of r.parties z).opened ≡ None) (sym (eqb-true u owner e)) (ap (λ (q : Party). q.opened) is ∙ owned (subst (λ (z : ℕ). is_owner z ≡ false) (eqb-true u owner e) f))
      | inr d ↦ ap (λ (q : Party). q.opened) (same u d) ∙ whole.owners u f
    ];
    room = room;
  }

  -- the owner made way, and stands in the way by its needs
  module _ (way : MakesWay owner s.table r.table) (stands : StandsByNeeds r.table owner p) where
    next-stands : StandsByNeeds r.table owner (party_of r.parties owner)
    next-stands = subst (StandsByNeeds r.table owner) (sym is) stands

    -- its needs are on the same nodes, and its want was asked where it was
    pub whole-served : ((n : Node) → converts_at p.needs n ≡ converts_at (party_of s.parties owner).needs n) → ((n : Node) → asked_of_want p.opened n ≡ asked_of_want (party_of s.parties owner).opened n)
        → open_asks r.parties r.trail ≡ open_asks s.parties s.trail → (is_owner owner ≡ false → p.opened ≡ None) → places_kept r.parties ≤ r.table.spare → IsWhole r
    whole-served needs asked trail owned room =
        whole-after owned room (stays-live owner s.table r.table way (live-of s whole))
        (subst (IsInOrder r.table (party_of r.parties)) (sym trail)
        (served-in_order s.table r.table (party_of s.parties) (party_of r.parties) (open_asks s.parties s.trail) owner way (stays-live owner s.table r.table way (live-of s whole)) whole.kept after-kept same next-stands (order-of s whole)
        (λ n. ap (λ (q : Party). converts_at q.needs n) is ∙ needs n) (λ n. ap (λ (q : Party). asked_of_want q.opened n) is ∙ asked n)))

    -- its want isn't open any more
    pub whole-ended : p.opened ≡ None → open_asks r.parties r.trail ≡ without_asks owner (open_asks s.parties s.trail) → places_kept r.parties ≤ r.table.spare → IsWhole r
    whole-ended closed trail room =
        whole-after (λ f. closed) room (stays-live owner s.table r.table way (live-of s whole))
        (subst (IsInOrder r.table (party_of r.parties)) (sym trail)
        (ended-in_order s.table r.table (party_of s.parties) (party_of r.parties) (open_asks s.parties s.trail) owner way (stays-live owner s.table r.table way (live-of s whole)) whole.kept after-kept same next-stands (order-of s whole)
        (ap (λ (q : Party). q.opened) is ∙ closed)))

-- ---- needs of two owners

module _ (mine theirs : Holding) (shares : AreCompatible mine theirs) (my_intents : HasIntentsAbove mine) (their_intents : HasIntentsAbove theirs) where
  apart-from : (w : Need) (vs : List Need) → is_covered mine w ≡ true → all_covered theirs vs ≡ true → list_all (λ v. not (conflict w v)) vs ≡ true
  apart-from w [] h g = refl
  apart-from w (v ∷ vs) h g =
      let p = and_parts (is_covered theirs v) (all_covered theirs vs) g in
      and_from (not (conflict w v)) (list_all (λ v. not (conflict w v)) vs) (not_from_false (conflict w v) (covered-apart mine theirs shares my_intents their_intents w v h p.0)) (apart-from w vs h p.1)

  all-apart : (ws vs : List Need) → all_covered mine ws ≡ true → all_covered theirs vs ≡ true → no_conflict ws vs ≡ true
  all-apart [] vs h g = refl
  all-apart (w ∷ ws) vs h g =
      let p = and_parts (is_covered mine w) (all_covered mine ws) h in
      and_from (list_all (λ v. not (conflict w v)) vs) (no_conflict ws vs) (apart-from w vs p.0 g) (all-apart ws vs p.1 g)

pub whole-apart : (s : State) → IsWhole s → IsLive (queues_at s.table) → NeedsAreApart s
whole-apart s whole live o u d =
    all-apart (granted_at s.table o) (granted_at s.table u) (λ x. shares-in (queues_at s.table x) o u (live.sound x) d) (whole.intents.granted o) (whole.intents.granted u)
    (party_of s.parties o).needs (party_of s.parties u).needs (whole.kept o).covered (whole.kept u).covered
