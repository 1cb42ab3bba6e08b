-- As a want ends, a lock above the node of its need comes down with nothing to be taken lower.
use Rattle.std.proofs.Common.{◌≡◌, ℕ, Bool, true, false, refl, sym, ◌∙◌, subst, ◌⊎◌, inl, inr, List, [], ◌∷◌, length, ◌≤◌, arith}
use Rattle.std.specs.Prelude.{◌&&◌, ◌||◌, not, if◌then◌else◌, Some}
use Rattle.std.proofs.lemmas.Bool.{false≢true, and_parts, and_from, or_right, or_cases, cases_Bool, not-true}
use Rattle.rdb_types.specs.declared.node.Level.{Level}
use Rattle.rdb_types.specs.declared.node.Level.TheVariants.{Area, Range, Page, Line, Journal}
use Rattle.rdb_types.specs.declared.node.Node.{Node}
use Rattle.vms_queues.specs.declared.lock_mode.Mode.{Mode}
use Rattle.vms_queues.specs.declared.lock_mode.Mode.TheVariants.{NL, CW}
use Rattle.vms_queues.specs.Modes.{at_most, least_above, intent}
use Rattle.vms_queues.proofs.ModeLaws.{all_modes-at, all_modes_2-at, all_modes_3-at, all_modes_4-at, implies, from_implies}
use Rattle.vms_locks.specs.Table.{Table}
use Rattle.lock_needs.specs.declared.need.Need.{Need}
use Rattle.lock_needs.specs.declared.party.OpenWant.{OpenWant}
use Rattle.lock_needs.specs.Nodes.{same_node, contains, is_on, on_way, is_above, above_of}
use Rattle.lock_needs.specs.Needs.{Holding, covers_below, covers_from, covered_above, is_covered, all_covered, supposing}
use Rattle.lock_needs.specs.Keeping.{below, needed_on, needed_uncovered, must_keep, after_want, allows, is_enough, is_excess}
use Rattle.lock_needs.specs.Wants.{mode_for, opened_at, has_granted}
use Rattle.lock_needs.proofs.ModeTables.{at_most-refl, covers_below-more, join-left, join-right}
use Rattle.lock_needs.proofs.NodeLaws.{same_node-true, same_node-refl, contains-above, way-contains, contains-trans, contains-self}
use Rattle.lock_needs.proofs.Above.{above-contains}
use Rattle.lock_needs.proofs.Cover.{by_test, covered-more, covered-by_upper, kept_or_below}
use Rattle.lock_needs.proofs.Enough.{enough-after_want}
use Rattle.lock_tree_laws.specs.LockTable.{granted_at}
use Rattle.lock_tree_laws.specs.Parties.{IsKept, wanting}
use Rattle.lock_tree_laws.specs.Inner.Spare.{UsesSpare, is_over_others}
use Rattle.lock_tree_laws.proofs.Leaving.{below-intent}

-- ---- modes

-- intents beside a mode cover nothing more
intents-cover : (a b m x : Mode) → at_most a CW ≡ true → at_most b CW ≡ true → covers_below (least_above a (least_above b m)) x ≡ true → covers_below m x ≡ true
intents-cover a b m x p q h =
    from_implies (covers_below (least_above a (least_above b m)) x) (covers_below m x)
    (from_implies (at_most b CW) (implies (covers_below (least_above a (least_above b m)) x) (covers_below m x))
    (from_implies (at_most a CW) (implies (at_most b CW) (implies (covers_below (least_above a (least_above b m)) x) (covers_below m x)))
    (all_modes_4-at (λ a b m x. implies (at_most a CW) (implies (at_most b CW) (implies (covers_below (least_above a (least_above b m)) x) (covers_below m x)))) refl a b m x) p) q) h

-- what a join covers, one of the two does
either-covers : (a b x : Mode) → covers_below (least_above a b) x ≡ true → (covers_below a x || covers_below b x) ≡ true
either-covers a b x h =
    from_implies (covers_below (least_above a b) x) (covers_below a x || covers_below b x)
    (all_modes_3-at (λ a b x. implies (covers_below (least_above a b) x) (covers_below a x || covers_below b x)) refl a b x) h

covers-trans : (a b x : Mode) → covers_below a b ≡ true → covers_below b x ≡ true → covers_below a x ≡ true
covers-trans a b x h k =
    from_implies (covers_below b x) (covers_below a x) (from_implies (covers_below a b) (implies (covers_below b x) (covers_below a x))
    (all_modes_3-at (λ a b x. implies (covers_below a b) (implies (covers_below b x) (covers_below a x))) refl a b x) h) k

-- ---- needs

-- a need on the node that a lock above it covers, and whose own mode covers x
record CoveredOver (held : Holding) (n : Node) (x : Mode) : Type 0 where
  need : Need
  on : same_node n need.node ≡ true
  above : covered_above held need ≡ true
  covers : covers_below need.mode x ≡ true

module _ (held : Holding) (n : Node) (x : Mode) where
  -- what needs on the node cover, those do that nothing above covers, or one that something above does
  on-node : (ws : List Need) → covers_below (needed_on ws n) x ≡ true → (covers_below (needed_uncovered held ws n) x ≡ true) ⊎ CoveredOver held n x
  on-node [] h = absurd (false≢true h)
  on-node (w ∷ ws) h =
      let rest : Mode = needed_uncovered held ws n in
      let Goal : Bool → Bool → Type 0 = λ s u. (covers_below (if s && not u then least_above w.mode rest else rest) x ≡ true) ⊎ CoveredOver held n x in
      let Given : Bool → Type 0 = λ s. covers_below (if s then least_above w.mode (needed_on ws n) else needed_on ws n) x ≡ true in
      elim (cases_Bool (same_node n w.node)) [
        | inr f ↦ subst (λ (s : Bool). Goal s (covered_above held w)) (sym f) (on-node ws (subst Given f h))
        | inl s ↦ subst (λ (t : Bool). Goal t (covered_above held w)) (sym s)
            (elim (cases_Bool (covered_above held w)) [
              | inl u ↦ subst (λ (t : Bool). Goal true t) (sym u)
                  (elim (or_cases (covers_below w.mode x) (covers_below (needed_on ws n) x) (either-covers w.mode (needed_on ws n) x (subst Given s h))) [
                    | inl c ↦ inr (record { need = w; on = s; above = u; covers = c })
                    | inr c ↦ on-node ws c
                  ])
              | inr f ↦ subst (λ (t : Bool). Goal true t) (sym f)
                  (elim (or_cases (covers_below w.mode x) (covers_below (needed_on ws n) x) (either-covers w.mode (needed_on ws n) x (subst Given s h))) [
                    | inl c ↦ inl (covers_below-more w.mode (least_above w.mode rest) x (join-left w.mode rest) c)
                    | inr c ↦ elim (on-node ws c) [ inl d ↦ inl (covers_below-more rest (least_above w.mode rest) x (join-right w.mode rest) d) | inr d ↦ inr d ]
                  ])
            ])
      ]

-- what covers a need on the node from above covers what is below the node, whatever is kept at the node
module _ (held : Holding) (n : Node) (keep : Mode) (v w : Need) (on : same_node n w.node ≡ true) (covers : covers_below w.mode v.mode ≡ true) (within : contains n v.node ≡ true) where
  over-level : (l : Level) → covers_from held w l ≡ true → is_covered (supposing n keep held) v ≡ true
  over-level l h =
      let a : Node = on_way l w.node in
      let p = and_parts (is_above l w.node.level) (covers_below (held a) w.mode) h in
      let up : contains a n ≡ true = subst (λ (z : Node). contains a z ≡ true) (sym (same_node-true n w.node on)) (way-contains l a w.node p.0 (same_node-refl a)) in
      covered-by_upper (supposing n keep held) v a (contains-trans a n v.node up within)
      (subst (λ (t : Bool). covers_below (if t then keep else held a) v.mode ≡ true) (sym (contains-self a n up)) (covers-trans (held a) w.mode v.mode p.1 covers))

  over-node : covered_above held w ≡ true → is_covered (supposing n keep held) v ≡ true
  over-node h =
      elim (or_cases (covers_from held w Area) (covers_from held w Range || covers_from held w Page) h) [
        | inl a ↦ over-level Area a
        | inr b ↦ elim (or_cases (covers_from held w Range) (covers_from held w Page) b) [ inl c ↦ over-level Range c | inr d ↦ over-level Page d ]
      ]

module _ (held : Holding) (ws : List Need) (n : Node) (opened : Mode) (weak : at_most opened CW ≡ true) (exact : at_most (held n) (must_keep ws opened n) ≡ true) where
  still-one : (v : Need) → is_covered held v ≡ true → allows held n (after_want held ws n) v ≡ true → is_covered (supposing n (after_want held ws n) held) v ≡ true
  still-one v h a =
      let keep : Mode = after_want held ws n in
      elim (kept_or_below held n keep v h a) [
        | inl c ↦ c
        | inr r ↦ elim (on-node held n v.mode ws (intents-cover opened (below ws n) (needed_on ws n) v.mode weak (below-intent held ws n ws) (covers_below-more (held n) (must_keep ws opened n) v.mode exact r.1))) [
          | inl u ↦ covered-by_upper (supposing n keep held) v n r.0
              (subst (λ (t : Bool). covers_below (if t then keep else held n) v.mode ≡ true) (sym (same_node-refl n))
              (covers_below-more (needed_uncovered held ws n) keep v.mode (join-right (below ws n) (needed_uncovered held ws n)) u))
          | inr o ↦ over-node held n keep v o.need o.on o.covers r.0 o.above
        ]
      ]

  still-all : (vs : List Need) → all_covered held vs ≡ true → is_enough held vs n (after_want held ws n) ≡ true → all_covered (supposing n (after_want held ws n) held) vs ≡ true
  still-all [] h e = refl
  still-all (v ∷ vs) h e =
      let p = and_parts (is_covered held v) (all_covered held vs) h in
      let q = and_parts (allows held n (after_want held ws n) v) (is_enough held vs n (after_want held ws n)) e in
      and_from (is_covered (supposing n (after_want held ws n) held) v) (all_covered (supposing n (after_want held ws n) held) vs) (still-one v p.0 q.0) (still-all vs p.1 q.1)

-- above the node of its need an open want has been granted an intent at most
opened-weak : (held : Holding) (w : OpenWant) → same_node w.here w.need.node ≡ false → at_most (opened_at held (Some w) w.here) CW ≡ true
opened-weak held w apart =
    by_test (λ (m : Mode). at_most m CW ≡ true) (has_granted held w w.here) (mode_for w.need w.here) NL
    (λ h. subst (λ (t : Bool). at_most (if t then w.need.mode else intent w.need.mode) CW ≡ true) (sym apart) (all_modes-at (λ m. at_most (intent m) CW) refl w.need.mode))
    (λ h. refl)

-- as it leaves such a node, what the needs of its owner require is covered still
pub spared : (t : Table) (owner : ℕ) (ws : List Need) (w : OpenWant) (keep : Mode) → keep ≡ after_want (granted_at t owner) ws w.here → IsKept t owner (wanting ws w) → w.is_asked ≡ true → same_node w.here w.need.node ≡ false
    → all_covered (supposing w.here keep (granted_at t owner)) ws ≡ true
spared t owner ws w keep is k asked apart =
    subst (λ (m : Mode). all_covered (supposing w.here m (granted_at t owner)) ws ≡ true) (sym is)
    (still-all (granted_at t owner) ws w.here (opened_at (granted_at t owner) (Some w) w.here) (opened-weak (granted_at t owner) w apart)
    (k.exact w.here w refl (or_right (contains w.here w.here) (same_node w.here w.here && w.is_asked) (and_from (same_node w.here w.here) w.is_asked (same_node-refl w.here) asked)))
    ws k.covered (enough-after_want (granted_at t owner) w.here ws))

-- what is covered supposing that the lock has come down is so where more is held
pub supposed-more : (held more : Holding) → ((x : Node) → at_most (held x) (more x) ≡ true) → (n : Node) (keep : Mode) (v : Need) → is_covered (supposing n keep held) v ≡ true → is_covered (supposing n keep more) v ≡ true
supposed-more held more up n keep v h =
    covered-more (supposing n keep held) (supposing n keep more)
    (λ x. elim (same_node x n) as (λ t. at_most (if t then keep else held x) (if t then keep else more x) ≡ true) [ true ↦ at_most-refl keep | false ↦ up x ])
    v h

-- a lock in excess is a lock
pub excess-some : (held keep : Mode) → is_excess held keep ≡ true → at_most held NL ≡ false
excess-some held keep h =
    not-true (at_most held NL)
    (from_implies (is_excess held keep) (not (at_most held NL)) (all_modes_2-at (λ held keep. implies (is_excess held keep) (not (at_most held NL))) refl held keep) h)

-- below lines and the journal nothing has to be covered
module _ (held : Holding) (n : Node) (keep : Mode) (low : is_above n.level Line ≡ false) where
  none-under : (l k : Level) → is_above l Line ≡ false → is_above l k ≡ true → ⊥
  none-under Area k f h = false≢true (sym f)
  none-under Range k f h = false≢true (sym f)
  none-under Page k f h = false≢true (sym f)
  none-under Line k f h = false≢true h
  none-under Journal k f h = false≢true h

  low-covered : (vs : List Need) → all_covered held vs ≡ true → is_enough held vs n keep ≡ true → all_covered (supposing n keep held) vs ≡ true
  low-covered [] h e = refl
  low-covered (v ∷ vs) h e =
      let p = and_parts (is_covered held v) (all_covered held vs) h in
      let q = and_parts (allows held n keep v) (is_enough held vs n keep) e in
      and_from (is_covered (supposing n keep held) v) (all_covered (supposing n keep held) vs)
      (elim (kept_or_below held n keep v p.0 q.0) [ inl c ↦ c | inr r ↦ absurd (none-under n.level v.node.level low (contains-above n v.node r.0)) ])
      (low-covered vs p.1 q.1)

pub double-not : (b : Bool) → not b ≡ false → b ≡ true
double-not true h = refl
double-not false h = absurd (false≢true (sym h))

-- As it leaves a node that is not its need's own, or contains no others, what the needs of its owner require is covered still.
pub left-covered : (t : Table) (owner : ℕ) (ws : List Need) (w : OpenWant) (keep : Mode) → keep ≡ after_want (granted_at t owner) ws w.here → IsKept t owner (wanting ws w) → w.is_asked ≡ true
    → is_over_others w ≡ false → all_covered (supposing w.here keep (granted_at t owner)) ws ≡ true
left-covered t owner ws w keep is k asked none =
    elim (cases_Bool (same_node w.here w.need.node)) [
      | inr f ↦ spared t owner ws w keep is k asked f
      | inl s ↦ elim (cases_Bool (is_above w.here.level Line)) [
        | inl over ↦ absurd (false≢true (sym none ∙ and_from (is_above w.here.level Line) (same_node w.here w.need.node) over s))
        | inr low ↦ subst (λ (m : Mode). all_covered (supposing w.here m (granted_at t owner)) ws ≡ true) (sym is)
            (low-covered (granted_at t owner) w.here (after_want (granted_at t owner) ws w.here) low ws k.covered (enough-after_want (granted_at t owner) w.here ws))
      ]
    ]

-- room is wanted alone at a need's own node that contains others
pub room-left : (t : Table) (owner : ℕ) (ws : List Need) (w : OpenWant) (keep : Mode) → keep ≡ after_want (granted_at t owner) ws w.here → IsKept t owner (wanting ws w) → w.is_asked ≡ true
    → (is_over_others w ≡ true → length ws ≤ t.spare) → all_covered (supposing w.here keep (granted_at t owner)) ws ≡ false → length ws ≤ t.spare
room-left t owner ws w keep is k asked room some =
    elim (cases_Bool (is_over_others w)) [
      | inl over ↦ room over
      | inr none ↦ absurd (false≢true (sym some ∙ left-covered t owner ws w keep is k asked none))
    ]

-- above a node on the way to its need a want isn't at the need's own node
pub up-apart : (w : OpenWant) (up : Node) → above_of w.here ≡ Some up → is_on w.here w.need.node ≡ true → same_node up w.need.node ≡ false
up-apart w up e way =
    contains-self up w.need.node (elim (or_cases (same_node w.here w.need.node) (contains w.here w.need.node) way) [
      | inl s ↦ subst (λ (z : Node). contains up z ≡ true) (same_node-true w.here w.need.node s) (above-contains w.here up e)
      | inr c ↦ contains-trans up w.here w.need.node (above-contains w.here up e) c
    ])

-- at one node at most the end of a want takes places: at its need's own
pub spare-left : (old mid new : Table) (ws : List Need) (w : OpenWant) → UsesSpare (length ws) old mid → (is_over_others w ≡ true → UsesSpare 0 old mid)
    → UsesSpare (length ws) mid new → (is_over_others w ≡ false → UsesSpare 0 mid new) → UsesSpare (length ws) old new
spare-left old mid new ws w most none more no_more = elim (cases_Bool (is_over_others w)) [
  | inl over ↦ let before = none over in omega (arith, before, more)
  | inr low ↦ let after = no_more low in omega (arith, most, after)
]
