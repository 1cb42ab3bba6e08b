-- Who waits at the journal waits for who was asked for there before, or for who has it.
use Rattle.std.proofs.Common.{◌≡◌, ◌<◌, ℕ, ◌==◌, ◌&&◌, ◌||◌, not, if◌then◌else◌, Bool, true, false, List, [], ◌∷◌, refl, ◌∙◌, sym, ap, subst, arith, Option, Some, None, ◌⊎◌, inl, inr}
use Rattle.std.specs.List.{list_any}
use Rattle.std.proofs.lemmas.Bool.{false≢true, and_parts, or_cases, or_left, or_right}
use Rattle.rdb_types.specs.declared.node.Level.{Level}
use Rattle.rdb_types.specs.declared.node.Level.TheVariants.{Area, Range, Page, Line, Journal}
use Rattle.rdb_types.specs.declared.node.Node.{Node}
use Rattle.vms_queues.specs.Modes.{may_share, intent}
use Rattle.vms_locks.specs.Walks.{IsWalk}
use Rattle.lock_needs.specs.declared.need.Need.{Need}
use Rattle.lock_needs.specs.declared.party.Asked.{Asked}
use Rattle.lock_needs.specs.declared.party.OpenWant.{OpenWant}
use Rattle.lock_needs.specs.Party.{Party}
use Rattle.lock_needs.specs.Nodes.{same_node, contains, is_on, is_above}
use Rattle.lock_needs.specs.Needs.{conflict}
use Rattle.lock_needs.specs.Waits.{wanted, upper_of, converts_at, has_asked, asked_before, comes_first, waits_for}
use Rattle.lock_needs.proofs.NodeLaws.{same_node-true, same_node-refl}
use Rattle.lock_tree_laws.specs.Forest.{State, KeepsParties, party_of, open_asks}
use Rattle.lock_tree_laws.specs.Wanted.{Answered, needs_of}
use Rattle.lock_tree_laws.specs.Order.{waits_with, waits_by_needs, asked_last}
use Rattle.lock_tree_laws.specs.declared.answer.Want.TheVariants.{Deadlock}
use Rattle.journal_waits.specs.Holders.{HoldersRest}
use Rattle.journal_waits.proofs.Places.{first_at, before-first}

-- ---- nothing is above the journal, and nothing below

none-over : (l : Level) → is_above l Journal ≡ false
none-over Area = refl
none-over Range = refl
none-over Page = refl
none-over Line = refl
none-over Journal = refl

over-false : (b c : Bool) → b ≡ false → (b && c) ≡ false
over-false b c h = rw h refl

none-under : (l m : Level) → l ≡ Journal → is_above l m ≡ false
none-under l m e = ap (λ (k : Level). is_above k m) e

pub alone-over : (n m : Node) → n.level ≡ Journal → contains m n ≡ false
alone-over n m e = over-false (is_above m.level n.level) _ (ap (λ (l : Level). is_above m.level l) e ∙ none-over m.level)

pub alone-under : (n m : Node) → n.level ≡ Journal → contains n m ≡ false
alone-under n m e = over-false (is_above n.level m.level) _ (none-under n.level m.level e)

-- what conflicts with a need there is there
meets : (w v : Need) → w.node.level ≡ Journal → conflict w v ≡ true → w.node ≡ v.node
meets w v e h = same_node-true w.node v.node (by (same_node w.node v.node) (not (may_share w.mode v.mode)) (contains w.node v.node) (not (may_share w.mode (intent v.mode))) (contains v.node w.node) (not (may_share v.mode (intent w.mode)))
    (alone-under w.node v.node e) (alone-over w.node v.node e) h)
  where
    by : (a b c d f g : Bool) → c ≡ false → f ≡ false → ((a && b) || ((c && d) || (f && g))) ≡ true → a ≡ true
    by a b c d f g x y h = grind arith

upper-there : (w v : Need) → w.node.level ≡ Journal → upper_of w v ≡ w.node
upper-there w v e = ap (λ (b : Bool). if b then v.node else w.node) (alone-over w.node v.node e)

-- who has a need that conflicts has the node
holds-it : (w : Need) (got : List Need) → w.node.level ≡ Journal → list_any (conflict w) got ≡ true → converts_at got w.node ≡ true
holds-it w [] e h = absurd (false≢true h)
holds-it w (v ∷ vs) e h = elim (or_cases (conflict w v) (list_any (conflict w) vs) h) [
  | inl k ↦ or_left (is_on w.node v.node) (converts_at vs w.node) (subst (λ (n : Node). is_on w.node n ≡ true) (meets w v e k) (or_left (same_node w.node w.node) (contains w.node w.node) (same_node-refl w.node)))
  | inr k ↦ or_right (is_on w.node v.node) (converts_at vs w.node) (holds-it w vs e k)
]

-- ---- one wait

-- its open want is on the node
pub record WantsThere (party : ℕ → Party) (n : Node) (a : ℕ) : Type 0 where
  pub want : OpenWant
  pub is_open : (party a).opened ≡ Some want
  pub there : want.need.node ≡ n

module _ (party : ℕ → Party) (asks : List Asked) (n : Node) (level : n.level ≡ Journal) where
  on-journal : (w : Need) → w.node ≡ n → w.node.level ≡ Journal
  on-journal w e = ap (λ (x : Node). x.level) e ∙ level

  -- the want of b that comes first
  comes-there : (a b : ℕ) (w : Need) (x : Option OpenWant) → w.node ≡ n → (party b).opened ≡ x → converts_at (party b).needs n ≡ false → comes_first asks a w b (party b).needs (wanted x) ≡ true → WantsThere party n b × (asked_before b a n asks ≡ true)
  comes-there a b w None at is none h = absurd (false≢true h)
  comes-there a b w (Some v) at is none h =
      let parts = and_parts (conflict w v.need) ((converts_at (party b).needs (upper_of w v.need) && has_asked b asks) || asked_before b a (upper_of w v.need) asks) h in
      let up : upper_of w v.need ≡ n = upper-there w v.need (on-journal w at) ∙ at in (
        record { want = v; is_open = is; there = sym (meets w v.need (on-journal w at) parts.0) ∙ at },
        first (converts_at (party b).needs n) (has_asked b asks) (asked_before b a n asks) none (subst (λ (m : Node). ((converts_at (party b).needs m && has_asked b asks) || asked_before b a m asks) ≡ true) up parts.1),
      )
    where
      first : (c d f : Bool) → c ≡ false → ((c && d) || f) ≡ true → f ≡ true
      first c d f e h = grind arith

  -- Who waits there waits for another, which has the node, or was asked for there before.
  waits-there : (a b : ℕ) → WantsThere party n a → waits_by_needs party asks a b ≡ true → ((a == b) ≡ false) × ((converts_at (party b).needs n ≡ true) ⊎ (WantsThere party n b × (asked_before b a n asks ≡ true)))
  waits-there a b w h =
      let k : (has_asked a asks && waits_for asks a w.want.need b (party b)) ≡ true = subst (λ (x : Option OpenWant). waits_with asks a x b (party b) ≡ true) w.is_open h in
      let behind = (and_parts (has_asked a asks) (waits_for asks a w.want.need b (party b)) k).1 in
      let parts = and_parts (not (a == b)) (list_any (conflict w.want.need) (party b).needs || comes_first asks a w.want.need b (party b).needs (wanted (party b).opened)) behind in (
        other (a == b) parts.0,
        by (converts_at (party b).needs n) refl (or_cases (list_any (conflict w.want.need) (party b).needs) (comes_first asks a w.want.need b (party b).needs (wanted (party b).opened)) parts.1),
      )
    where
      other : (c : Bool) → not c ≡ true → c ≡ false
      other true h = sym h
      other false h = refl

      by : (c : Bool) → converts_at (party b).needs n ≡ c → (list_any (conflict w.want.need) (party b).needs ≡ true) ⊎ (comes_first asks a w.want.need b (party b).needs (wanted (party b).opened) ≡ true) →
          (converts_at (party b).needs n ≡ true) ⊎ (WantsThere party n b × (asked_before b a n asks ≡ true))
      by true e x = inl e
      by false e (inl x) = inl (subst (λ (m : Node). converts_at (party b).needs m ≡ true) w.there (holds-it w.want.need (party b).needs (on-journal w.want.need w.there) x))
      by false e (inr x) = inr (comes-there a b w.want.need (party b).opened w.there refl e x)

  -- ---- a walk of waits

  abbrev pub Waits : ℕ → ℕ → Type 0
  Waits a b = waits_by_needs party asks a b ≡ true

  -- who waits has a want open
  has-want : (a b : ℕ) → Waits a b → (party a).opened ≡ None → ⊥
  has-want a b h none = false≢true (sym (ap (λ (x : Option OpenWant). waits_with asks a x b (party b)) none) ∙ h)

  waits-on : (x : ℕ) (zs : List ℕ) (y : ℕ) → IsWalk Waits x zs y → (party x).opened ≡ None → ⊥
  waits-on x [] y walk none = has-want x y walk none
  waits-on x (z ∷ zs) y walk none = has-want x z walk.0 none

  differ : (a b : ℕ) → (a == b) ≡ false → (b == a) ≡ false
  differ a b e = grind arith

  less-on : (a b c : ℕ) → a < b → b < c → a < c
  less-on a b c h k = omega (arith, h, k)

  module _ (owner : ℕ) (free : converts_at (party owner).needs n ≡ false) (rest : (t : ℕ) → (t == owner) ≡ false → converts_at (party t).needs n ≡ true → (party t).opened ≡ None) where
    -- one step to the owner, or on to another that waits too
    to-owner : (x : ℕ) → WantsThere party n x → Waits x owner → first_at owner n asks < first_at x n asks
    to-owner x w h = elim (waits-there x owner w h).1 [
      | inl e ↦ absurd (false≢true (sym free ∙ e))
      | inr e ↦ before-first owner x n asks (differ x owner (waits-there x owner w h).0) e.1
    ]

    pub walk-there : (x : ℕ) (zs : List ℕ) → WantsThere party n x → IsWalk Waits x zs owner → first_at owner n asks < first_at x n asks
    walk-there x [] w walk = to-owner x w walk
    walk-there x (z ∷ zs) w walk = by (z == owner) refl (λ v. walk-there z zs v walk.1)
      where
        same : (a b : ℕ) → (a == b) ≡ true → a ≡ b
        same a b e = grind arith

        by : (b : Bool) → (z == owner) ≡ b → (WantsThere party n z → first_at owner n asks < first_at z n asks) → first_at owner n asks < first_at x n asks
        by true e on = to-owner x w (subst (λ (y : ℕ). Waits x y) (same z owner e) walk.0)
        by false e on = elim (waits-there x z w walk.0).1 [
          | inl k ↦ absurd (waits-on z zs owner walk.1 (rest z e k))
          | inr k ↦ less-on (first_at owner n asks) (first_at z n asks) (first_at x n asks) (on k.0) (before-first z x n asks (differ x z (waits-there x z w walk.0).0) k.1)
        ]

never-less : (a : ℕ) → a < a → ⊥
never-less a h = omega (arith, h)

-- So no cycle goes through it.
pub no-cycle : (s : ℕ) (n : Need) (old new : State) (wait : Bool) (cycle : List ℕ) → n.node.level ≡ Journal → converts_at (needs_of old s) n.node ≡ false → HoldersRest old s n.node → KeepsParties s old.parties new.parties →
    Answered (needs_of old s) new s n wait (Deadlock cycle) → ⊥
no-cycle s n old new wait cycle level free rest others answer =
    let ended = answer.1 in
    let before = ended.before in
    let party : ℕ → Party = party_of before.parties in
    let asks = asked_last (open_asks before.parties before.trail) s ended.want.here in
    let c = ended.why.1 in
    never-less (first_at s n.node asks)
    (walk-there party asks n.node level s (ap (λ (y : Party). converts_at y.needs n.node) ended.stood ∙ free)
    (λ t e h. ap (λ (y : Party). y.opened) (same before ended.others t e) ∙ rest t e (sym (ap (λ (y : Party). converts_at y.needs n.node) (same before ended.others t e)) ∙ h))
    s c.0 (record { want = ended.want; is_open = ap (λ (y : Party). y.opened) ended.stood; there = ap (λ (w : Need). w.node) ended.same }) c.1)
  where
    same : (before : State) → KeepsParties s before.parties new.parties → (t : ℕ) → (t == s) ≡ false → party_of before.parties t ≡ party_of old.parties t
    same before kept t e = sym (kept t e) ∙ others t e
