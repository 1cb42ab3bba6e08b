-- Locks that are released, lower levels first.
use Rattle.std.proofs.Common.{◌≡◌, ℕ, ◌+◌, ◌<◌, length, take, Bool, true, false, refl, sym, ◌∙◌, ap, subst, inl, inr, List, rules}
use Rattle.std.specs.Prelude.{◌&&◌, ◌||◌, ◌==◌, if◌then◌else◌, Option, Some, None, slice_index_or}
use Rattle.std.proofs.lemmas.List.Folds.{list_any_more}
use Rattle.std.proofs.lemmas.Bool.{false≢true, and_parts, or_left, or_right, or_cases, cases_Bool, and_right}
use Rattle.rdb_types.specs.declared.node.Level.{Level}
use Rattle.rdb_types.specs.declared.node.Level.TheVariants.{Area, Range, Page, Line, Journal}
use Rattle.rdb_types.specs.declared.node.Node.{Node}
use Rattle.rdb_types.specs.contracts.node.Level.{the_type}
use denote.Enum.Bare.{same_true}
use Rattle.vms_queues.specs.declared.lock_mode.Mode.{Mode}
use Rattle.vms_queues.specs.declared.lock_mode.Mode.TheVariants.{NL}
use Rattle.vms_queues.specs.Modes.{at_most, intent}
use Rattle.vms_locks.specs.Table.{Table}
use Rattle.lock_needs.specs.declared.need.Need.{Need}
use Rattle.lock_needs.specs.declared.party.OpenWant.{OpenWant}
use Rattle.lock_needs.specs.Party.{Party}
use Rattle.lock_needs.specs.Nodes.{same_node, contains, is_on, is_above, on_way}
use Rattle.lock_needs.specs.Wants.{opened_at, has_granted, mode_for}
use Rattle.lock_needs.proofs.NodeLaws.{make, same_node-true, contains-above, contains-is}
use Rattle.lock_needs.proofs.Joins.{nothing}
use Rattle.lock_tree_laws.specs.LockTable.{granted_at, sought_at, LoweredAt}
use Rattle.lock_tree_laws.specs.Parties.{IsKept, is_needed, wanting}
use Rattle.lock_tree_laws.specs.Inner.Answering.{StandsStill}
use Rattle.lock_tree_laws.specs.Inner.Lowering.{MayComeDown}
use Rattle.lock_tree_laws.specs.Inner.Releasing.{same_level, IsQuiet, HasNoneAt, HasLess, HasPlaces, IsReleasing, is_on_want}
use Rattle.lock_tree_laws.proofs.Weakening.{lowered-intents}
use Rattle.lock_tree_laws.proofs.Brought.{lowered-others}
use Rattle.lock_tree_laws.proofs.Leaving.{sleeps-elsewhere}

pub same_level-true : (a b : Level) → same_level a b ≡ true → a ≡ b
same_level-true a b h = same_true the_type (search rules) a b h

-- the node of its own level on the way to a node is the node
on_way-own-at : (l : Level) (ar at ln : ℕ) → on_way l (make l ar at ln) ≡ make l ar at ln
on_way-own-at Area ar at ln = refl
on_way-own-at Range ar at ln = refl
on_way-own-at Page ar at ln = refl
on_way-own-at Line ar at ln = refl
on_way-own-at Journal ar at ln = refl

-- the node of this level that is on or above a node is the one on the way to it
pub on-way : (level : Level) (x n : Node) → is_on x n ≡ true → same_level x.level level ≡ true → x ≡ on_way level n
on-way level x n h s =
    let l : x.level ≡ level = same_level-true x.level level s in
    elim (or_cases (same_node x n) (contains x n) h) [
      | inl e ↦
          let is : x ≡ n = same_node-true x n e in
          is ∙ (sym (on_way-own-at n.level n.area n.at n.line) ∙ ap (λ (k : Level). on_way k n) (sym (ap (λ (z : Node). z.level) is) ∙ l))
      | inr c ↦ contains-is x n c ∙ ap (λ (k : Level). on_way k n) l
    ]

module _ (owner : ℕ) (level : Level) (t new : Table) (at : Node) (ready : IsReleasing owner level t t) (here : same_level at.level level ≡ true) (low : LoweredAt t new owner at NL) where
  ready-down : MayComeDown t owner at NL
  ready-down = record {
    intents = ready.intents;
    earned = λ c h. subst (λ (y : Mode). at_most (intent y) NL ≡ true)
        (sym (ready.clear c (subst (λ (l : Level). is_above l c.level ≡ true) (same_level-true at.level level here) (contains-above at c h)))) refl;
    awake = λ c h. ready.quiet c;
    awake_here = ready.quiet at;
    weaker = nothing (granted_at t owner at);
  }

  less-now : HasLess owner t new
  less-now x = elim (cases_Bool (same_node x at)) [
    | inl s ↦ inr (subst (λ (z : Node). granted_at new owner z ≡ NL) (sym (same_node-true x at s)) low.own)
    | inr d ↦ inl (low.elsewhere owner x d)
  ]

  pub released-one : IsReleasing owner level t new
  released-one = record {
    intents = lowered-intents t new owner at NL ready-down low;
    quiet = λ x. elim (cases_Bool (same_node x at)) [
      | inl s ↦ subst (λ (z : Node). sought_at new owner z ≡ granted_at new owner z) (sym (same_node-true x at s)) (low.sought_own ∙ sym low.own)
      | inr d ↦ low.sought_others owner x (and_right (owner == owner) (same_node x at) d) ∙ (ready.quiet x ∙ sym (low.elsewhere owner x d))
    ];
    clear = λ x h. elim (less-now x) [ inl e ↦ e ∙ ready.clear x h | inr e ↦ e ];
    less = less-now;
    others = lowered-others t new owner at NL low ready.intents;
  }

-- nothing is left of locks that were released
less-none : (owner : ℕ) (old new : Table) (x : Node) → HasLess owner old new → granted_at old owner x ≡ NL → granted_at new owner x ≡ NL
less-none owner old new x less e = elim (less x) [ inl f ↦ f ∙ e | inr f ↦ f ]

pub releasing-then : (owner : ℕ) (level : Level) (a b c : Table) → IsReleasing owner level a b → IsReleasing owner level b c → IsReleasing owner level a c
releasing-then owner level a b c f g = record {
  intents = g.intents;
  quiet = g.quiet;
  clear = g.clear;
  less = λ x. elim (g.less x) [ inr e ↦ inr e | inl e ↦ elim (f.less x) [ inl d ↦ inl (e ∙ d) | inr d ↦ inr (e ∙ d) ] ];
  others = λ u q d k. g.others u q d (f.others u q d k);
}

-- what holds as the first needs have been looked at
pub record AreReleased (owner : ℕ) (level : Level) (first : List Need) (old t : Table) : Type 0 where
  pub releasing : IsReleasing owner level old t
  pub none : (x : Node) → same_level x.level level ≡ true → is_needed first x ≡ true → granted_at t owner x ≡ NL

pub released-next : (owner : ℕ) (level : Level) (ws : List Need) (i : ℕ) (d : Need) → i < length ws → (old t new : Table) → AreReleased owner level (take i ws) old t → IsReleasing owner level t new
    → ((x : Node) → is_on x (slice_index_or ws i d).node ≡ true → same_level x.level level ≡ true → granted_at new owner x ≡ NL) → AreReleased owner level (take (i + 1) ws) old new
released-next owner level ws i d lt old t new so step gone = record {
  releasing = releasing-then owner level old t new so.releasing step;
  none = λ x s h. elim (or_cases (is_needed (take i ws) x) (is_on x (slice_index_or ws i d).node) (sym (list_any_more (λ w. is_on x w.node) ws i d lt) ∙ h)) [
    | inl y ↦ less-none owner t new x step.less (so.none x s y)
    | inr y ↦ gone x y s
  ];
}

-- all locks of the level are gone
pub level-none : (owner : ℕ) (level : Level) (p : Party) (old t new : Table) → HasPlaces old owner p → AreReleased owner level p.needs old t → IsReleasing owner level t new
    → ((x : Node) → is_on_want p.opened x ≡ true → same_level x.level level ≡ true → granted_at new owner x ≡ NL) → HasNoneAt new owner level
level-none owner level p old t new places so step gone x s =
    elim (places x) [
      | inl e ↦ less-none owner t new x step.less (less-none owner old t x so.releasing.less e)
      | inr h ↦ elim (or_cases (is_needed p.needs x) (is_on_want p.opened x) h) [
        | inl y ↦ less-none owner t new x step.less (so.none x s y)
        | inr y ↦ gone x y s
      ]
    ]

-- ---- where an owner's locks stand

quiet-want : (t : Table) (owner : ℕ) (ws : List Need) (w : OpenWant) → IsKept t owner (wanting ws w) → sought_at t owner w.here ≡ granted_at t owner w.here → IsQuiet t owner
quiet-want t owner ws w k quiet x =
    elim (cases_Bool (same_node x w.here)) [
      | inl s ↦ subst (λ (z : Node). sought_at t owner z ≡ granted_at t owner z) (sym (same_node-true x w.here s)) quiet
      | inr d ↦ k.awake x (sleeps-elsewhere (granted_at t owner) w x d)
    ]

opened-on : (t : Table) (owner : ℕ) (o : Option OpenWant) (x : Node) → at_most (opened_at (granted_at t owner) o x) NL ≡ false → is_on_want o x ≡ true
opened-on t owner None x h = absurd (false≢true (sym h))
opened-on t owner (Some w) x h =
    let held = granted_at t owner in
    elim (cases_Bool (has_granted held w x)) [
      | inr f ↦ absurd (false≢true (sym h ∙ ap (λ (b : Bool). at_most (if b then mode_for w.need x else NL) NL) f))
      | inl y ↦ elim (or_cases (contains x w.here) (same_node x w.here && (w.is_asked && at_most (mode_for w.need x) (held x))) y) [
        | inl c ↦ or_right (same_node x w.here) (contains x w.here) c
        | inr s ↦ or_left (same_node x w.here) (contains x w.here) (and_parts (same_node x w.here) (w.is_asked && at_most (mode_for w.need x) (held x)) s).0
      ]
    ]

places-kept : (t : Table) (owner : ℕ) (p : Party) → IsKept t owner p → HasPlaces t owner p
places-kept t owner p k x =
    elim (k.no_stray x refl) [
      | inl e ↦ inl e
      | inr r ↦ elim r [
        | inl o ↦ inr (or_right (is_needed p.needs x) (is_on_want p.opened x) (opened-on t owner p.opened x o))
        | inr y ↦ inr (or_left (is_needed p.needs x) (is_on_want p.opened x) y)
      ]
    ]

-- once it is out of its queue
module _ (old new : Table) (owner : ℕ) (p : Party) (w v : OpenWant) (is : p.opened ≡ Some w) (here : v.here ≡ w.here) (k : IsKept old owner p) (stands : StandsStill owner w v old new) where
  stopped : IsKept new owner (wanting p.needs v) × (sought_at new owner v.here ≡ granted_at new owner v.here)
  stopped = stands p.needs (subst (λ (o : Option OpenWant). IsKept old owner (record { needs = p.needs; opened = o })) is k)

  pub stopped-quiet : IsQuiet new owner
  stopped-quiet = quiet-want new owner p.needs v stopped.0 stopped.1

  pub stopped-places : HasPlaces new owner p
  stopped-places x = elim (places-kept new owner (wanting p.needs v) stopped.0 x) [
    | inl e ↦ inl e
    | inr h ↦ inr (subst (λ (o : Option OpenWant). (is_needed p.needs x || is_on_want o x) ≡ true) (sym is)
        (subst (λ (z : Node). (is_needed p.needs x || is_on x z) ≡ true) here h))
  ]
