-- A need that is taken one level lower.
use Rattle.std.proofs.Common.{◌≡◌, ℕ, zero, suc, ◌+◌, ◌<◌, length, take, Bool, true, false, refl, sym, ◌∙◌, ap, subst, inl, inr, List, [], ◌∷◌}
use Rattle.std.specs.Prelude.{◌||◌, not, if◌then◌else◌, slice_index_or}
use Rattle.std.specs.List.{list_all}
use Rattle.std.proofs.lemmas.List.Folds.{list_all_at, list_all_more, list_any_more}
use Rattle.std.proofs.lemmas.Bool.{false≢true, and_parts, and_from, or_left, or_right, or_cases, cases_Bool}
use Rattle.vms_queues.specs.declared.lock_mode.Mode.{Mode}
use Rattle.vms_queues.specs.Modes.{may_share, at_most, least_above, intent}
use Rattle.rdb_types.specs.declared.node.Node.{Node}
use Rattle.lock_needs.specs.declared.need.Need.{Need}
use Rattle.vms_locks.specs.Table.{Table}
use Rattle.lock_needs.specs.Nodes.{same_node, contains, is_on, step_towards}
use Rattle.lock_needs.specs.Needs.{Holding, covers_below, covered_above, is_covered, all_covered, supposing, is_plain}
use Rattle.lock_needs.specs.Keeping.{allows}
use Rattle.lock_tree_laws.specs.LockTable.{granted_at, sought_at, AllShare, IsFree, BarsNobody, RaisedAt}
use Rattle.lock_tree_laws.specs.Parties.{is_needed}
use Rattle.lock_tree_laws.specs.Inner.Lowering.{MayComeDown, HasTaken, earns}
use Rattle.lock_needs.proofs.ModeTables.{at_most-refl, at_most-trans}
use Rattle.lock_needs.proofs.NodeLaws.{same_node-sym, contains-self, step-within, step-reaches}
use Rattle.lock_needs.proofs.Cover.{kept_or_below, covered-by, all_covered-more}
use Rattle.lock_tree_laws.proofs.Raising.{taken-free, taken-adds_no_wait, raised-ready, raised-taken, raised-covers}

-- a need that would not be covered lies under the node, is covered from there, and its intent is kept
pub record IsUncovered (held : Holding) (n : Node) (keep : Mode) (w : Need) : Type 0 where
  pub within : contains n w.node ≡ true
  pub covers : covers_below (held n) w.mode ≡ true
  pub kept : at_most (intent w.mode) keep ≡ true

pub uncovered : (held : Holding) (n : Node) (keep : Mode) (w : Need) → is_covered held w ≡ true → allows held n keep w ≡ true → is_covered (supposing n keep held) w ≡ false → IsUncovered held n keep w
uncovered held n keep w h a u =
    elim (kept_or_below held n keep w h a) [
      | inl k ↦ absurd (false≢true (sym u ∙ k))
      | inr r ↦
          let p = and_parts (not (contains n w.node) || at_most (intent w.mode) keep) (not (same_node n w.node) || (at_most w.mode keep || covered_above held w)) a in
          record {
            within = r.0;
            covers = r.1;
            kept = elim (or_cases (not (contains n w.node)) (at_most (intent w.mode) keep) p.0) [
              | inl x ↦ absurd (false≢true (ap not (sym r.0) ∙ x))
              | inr y ↦ y
            ];
          }
    ]

pub supposing-more : (n : Node) (keep : Mode) (held more : Holding) → ((x : Node) → at_most (held x) (more x) ≡ true) → (x : Node) → at_most (supposing n keep held x) (supposing n keep more x) ≡ true
supposing-more n keep held more up x =
    elim (same_node x n) as (λ b. at_most (if b then keep else held x) (if b then keep else more x) ≡ true) [ true ↦ at_most-refl keep | false ↦ up x ]

pub took-covered : (t new : Table) (owner : ℕ) (n : Node) (keep : Mode) (w : Need) → AllShare t → MayComeDown t owner n keep → is_plain w ≡ true → IsUncovered (granted_at t owner) n keep w
    → RaisedAt t new owner (step_towards n w.node) (least_above (granted_at t owner (step_towards n w.node)) w.mode) → is_covered (supposing n keep (granted_at new owner)) w ≡ true
took-covered t new owner n keep w shares ready plain u raised =
    let c : Node = step_towards n w.node in
    let apart : same_node c n ≡ false = elim (cases_Bool (same_node c n)) [
      | inl s ↦ absurd (false≢true (sym (contains-self n c (step-within n w.node u.within)) ∙ same_node-sym c n s))
      | inr d ↦ d
    ] in
    covered-by (supposing n keep (granted_at new owner)) w c plain (step-reaches n w.node u.within)
    (subst (λ (b : Bool). at_most w.mode (if b then keep else granted_at new owner c) ≡ true) (sym apart)
    (raised-covers t owner n w.node keep w.mode shares ready u.within u.covers new raised))

pub taken-then : (owner : ℕ) (n : Node) (vs ws us : List Need) (a b c : Table) → ((x : Node) → is_needed vs x ≡ true → is_needed us x ≡ true) → ((x : Node) → is_needed ws x ≡ true → is_needed us x ≡ true)
    → ((x : Node) (bound : Mode) → list_all (earns x bound) us ≡ true → (list_all (earns x bound) vs ≡ true) × (list_all (earns x bound) ws ≡ true)) → HasTaken owner n vs a b → HasTaken owner n ws b c → HasTaken owner n us a c
taken-then owner n vs ws us a b c left right owed f g = record {
  more = λ x. at_most-trans (granted_at a owner x) (granted_at b owner x) (granted_at c owner x) (f.more x) (g.more x);
  elsewhere = λ x out. g.elsewhere x out ∙ f.elsewhere x out;
  reason = λ x. elim (g.reason x) [
    | inr y ↦ inr (right x y)
    | inl e ↦ elim (f.reason x) [ inl d ↦ inl (e ∙ d) | inr y ↦ inr (left x y) ]
  ];
  earned = λ x bound old h. g.earned x bound (f.earned x bound old (owed x bound h).0) (owed x bound h).1;
  sought = λ x same. g.sought x (f.sought x same);
  sought_elsewhere = λ x out. g.sought_elsewhere x out ∙ f.sought_elsewhere x out;
  others = λ o x d. g.others o x d ∙ f.others o x d;
  sought_others = λ o x d. g.sought_others o x d ∙ f.sought_others o x d;
}

-- the need is to be taken at this node in this mode
pub record IsTaking (t : Table) (owner : ℕ) (n : Node) (keep : Mode) (w : Need) (under : Node) (mode : Mode) : Type 0 where
  pub uncovered : IsUncovered (granted_at t owner) n keep w
  pub under_is : under ≡ step_towards n w.node
  pub mode_is : mode ≡ least_above (granted_at t owner (step_towards n w.node)) w.mode

-- the code's own step: it sees that the need would not be covered, and joins its mode to the lock one level lower
pub taking : (t : Table) (owner : ℕ) (n : Node) (keep : Mode) (w : Need) (under : Node) (held mode : Mode) → is_covered (supposing n keep (granted_at t owner)) w ≡ false
    → under ≡ step_towards n w.node → held ≡ granted_at t owner under → mode ≡ least_above held w.mode → is_covered (granted_at t owner) w ≡ true → allows (granted_at t owner) n keep w ≡ true → IsTaking t owner n keep w under mode
taking t owner n keep w under held mode nb eu eh em h a = record {
  uncovered = uncovered (granted_at t owner) n keep w h a nb;
  under_is = eu;
  mode_is = em ∙ ap (λ (y : Mode). least_above y w.mode) (eh ∙ ap (λ (z : Node). granted_at t owner z) eu);
}

module _ (t : Table) (owner : ℕ) (n : Node) (keep : Mode) (w : Need) (under : Node) (mode : Mode) (shares : AllShare t) (ready : MayComeDown t owner n keep) (k : IsTaking t owner n keep w under mode) where
  pub taking-awake : sought_at t owner under ≡ granted_at t owner under
  taking-awake = subst (λ (z : Node). sought_at t owner z ≡ granted_at t owner z) (sym k.under_is) (ready.awake (step_towards n w.node) (step-within n w.node k.uncovered.within))

  pub taking-free : IsFree t owner under mode
  taking-free u d =
      subst (λ (y : Mode). may_share y (granted_at t u under) ≡ true) (sym k.mode_is)
      (subst (λ (z : Node). may_share (least_above (granted_at t owner (step_towards n w.node)) w.mode) (granted_at t u z) ≡ true) (sym k.under_is)
      (taken-free t owner n w.node keep w.mode shares ready k.uncovered.within k.uncovered.covers u d))

  pub taking-bars : BarsNobody t owner under mode
  taking-bars u d s =
      subst (λ (y : Mode). may_share y (sought_at t u under) ≡ true) (sym k.mode_is)
      (subst (λ (z : Node). may_share (least_above (granted_at t owner (step_towards n w.node)) w.mode) (sought_at t u z) ≡ true) (sym k.under_is)
      (taken-adds_no_wait t owner n w.node keep w.mode shares ready k.uncovered.within k.uncovered.covers u d
      (subst (λ (z : Node). may_share (granted_at t owner z) (sought_at t u z) ≡ true) k.under_is s)))

  module _ (new : Table) (raised : RaisedAt t new owner under mode) where
    as-step : RaisedAt t new owner (step_towards n w.node) (least_above (granted_at t owner (step_towards n w.node)) w.mode)
    as-step = subst (λ (y : Mode). RaisedAt t new owner (step_towards n w.node) y) k.mode_is (subst (λ (z : Node). RaisedAt t new owner z mode) k.under_is raised)

    pub taken-ready : MayComeDown new owner n keep
    taken-ready = raised-ready t owner n w.node keep w.mode shares ready k.uncovered.within k.uncovered.covers new as-step k.uncovered.kept

    pub taken-one : HasTaken owner n (w ∷ []) t new
    taken-one = raised-taken t owner n w.node keep w.mode shares ready k.uncovered.within k.uncovered.covers new as-step w refl refl

    pub taken-covered : is_plain w ≡ true → is_covered (supposing n keep (granted_at new owner)) w ≡ true
    taken-covered plain = took-covered t new owner n keep w shares ready plain k.uncovered as-step

-- What holds as the first needs of the list have been looked at.
pub record IsComingDown (old t : Table) (owner : ℕ) (n : Node) (keep : Mode) (first : List Need) : Type 0 where
  pub ready : MayComeDown t owner n keep
  pub taken : HasTaken owner n first old t
  pub covered : all_covered (supposing n keep (granted_at t owner)) first ≡ true

pub each-at : {X : Type 0} (p : X → Bool) (xs : List X) (i : ℕ) (d : X) → i < length xs → list_all p xs ≡ true → p (slice_index_or xs i d) ≡ true
each-at p xs i d lt h =
    elim (cases_Bool (p (slice_index_or xs i d))) [
      | inl y ↦ y
      | inr f ↦ absurd (false≢true (sym (list_all_at p xs i d lt f) ∙ h))
    ]

module _ (owner : ℕ) (n : Node) (ws : List Need) (i : ℕ) (d : Need) (lt : i < length ws) (old t new : Table) where
  -- one need more, and then all of them
  pub taken-next : HasTaken owner n (take i ws) old t → HasTaken owner n (slice_index_or ws i d ∷ []) t new → HasTaken owner n (take (i + 1) ws) old new
  taken-next f g =
      let w : Need = slice_index_or ws i d in
      taken-then owner n (take i ws) (w ∷ []) (take (i + 1) ws) old t new
      (λ x h. list_any_more (λ w. is_on x w.node) ws i d lt ∙ or_left (is_needed (take i ws) x) (is_on x w.node) h)
      (λ x h. list_any_more (λ w. is_on x w.node) ws i d lt ∙ or_right (is_needed (take i ws) x) (is_on x w.node) (or_no (is_on x w.node) h))
      (λ x bound h.
      let p = and_parts (list_all (earns x bound) (take i ws)) (earns x bound w) (sym (list_all_more (earns x bound) ws i d lt) ∙ h) in
      (p.0, and_from (earns x bound w) true p.1 refl))
      f g
    where
      or_no : (r : Bool) → (r || false) ≡ true → r ≡ true
      or_no true h = refl
      or_no false h = h

  pub coming_down-next : (keep : Mode) → IsComingDown old t owner n keep (take i ws) → MayComeDown new owner n keep → HasTaken owner n (slice_index_or ws i d ∷ []) t new
      → is_covered (supposing n keep (granted_at new owner)) (slice_index_or ws i d) ≡ true → IsComingDown old new owner n keep (take (i + 1) ws)
  coming_down-next keep so ready more covered = record {
    ready = ready;
    taken = taken-next so.taken more;
    covered =
        list_all_more (is_covered (supposing n keep (granted_at new owner))) ws i d lt
        ∙ and_from (all_covered (supposing n keep (granted_at new owner)) (take i ws)) (is_covered (supposing n keep (granted_at new owner)) (slice_index_or ws i d))
        (all_covered-more (supposing n keep (granted_at t owner)) (supposing n keep (granted_at new owner)) (supposing-more n keep (granted_at t owner) (granted_at new owner) more.more) (take i ws) so.covered)
        covered;
  }

abbrev no_needs : List Need
no_needs = []

take-nil : (i : ℕ) → take i no_needs ≡ no_needs
take-nil zero = refl
take-nil (suc i) = refl
