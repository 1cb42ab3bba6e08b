-- What an owner's making way leaves of the order.
use Rattle.std.proofs.Common.{◌≡◌, ℕ, Bool, true, false, refl, sym, ◌∙◌, ap, subst, ◌⊎◌, inl, inr}
use Rattle.std.specs.Prelude.{◌&&◌, ◌==◌, if◌then◌else◌}
use Rattle.std.proofs.lemmas.Bool.{false≢true, cases_Bool, eqb-true, and_parts, and_from, or_parts}
use Rattle.rdb_types.specs.declared.node.Node.{Node}
use Rattle.vms_queues.specs.declared.lock_mode.Mode.{Mode}
use Rattle.vms_queues.specs.declared.lock_mode.Mode.TheVariants.{NL, CR, CW, PR, PW, EX}
use Rattle.vms_queues.specs.contracts.lock_mode.ModePartialEq.TheImpl as mode_eq
use Rattle.vms_queues.specs.Modes.{may_share, at_most, least_above}
use Rattle.vms_locks.specs.Table.{Table, queues_at, IsLive}
use Rattle.lock_needs.specs.Party.{Party}
use Rattle.lock_needs.specs.declared.need.Need.{Need}
use Rattle.lock_needs.specs.Nodes.{same_node}
use Rattle.lock_needs.specs.Needs.{Holding, is_covered, covered_above}
use Rattle.lock_needs.specs.Wants.{kept_at}
use Rattle.lock_needs.proofs.ModeTables.{at_most-refl, at_most-trans, join-right}
use Rattle.lock_needs.proofs.NodeLaws.{same_node-true}
use Rattle.lock_needs.proofs.Growing.{kept-more}
use Rattle.lock_needs.proofs.Joins.{at_most-both, nothing}
use Rattle.lock_tree_laws.specs.LockTable.{granted_at, sought_at, AllShare, BarsNobody, RaisedAt, LoweredAt}
use Rattle.lock_tree_laws.specs.Parties.{IsKept}
use Rattle.lock_tree_laws.specs.Order.{KeepsOrder, StaysLive, MakesWay, StandsByNeeds}
use Rattle.lock_tree_laws.proofs.Ordered.{flip}
use Rattle.lock_tree_laws.proofs.LeastInWay.{shut-more}
use Rattle.lock_tree_laws.proofs.NeedsInWay.{asleep-at}

-- the mode that `==` says isn't NL
pub something-mode : (m : Mode) → (mode_eq.ghosts).eq m NL ≡ false → at_most m NL ≡ false
something-mode NL e = absurd (false≢true (sym e))
something-mode CR e = refl
something-mode CW e = refl
something-mode PR e = refl
something-mode PW e = refl
something-mode EX e = refl

-- a need that isn't covered is for something, and so is what joins it
pub taken-used : (held : Holding) (w : Need) (h m : Mode) → is_covered held w ≡ false → m ≡ least_above h w.mode → at_most m NL ≡ false
taken-used held w h m bare is = elim (cases_Bool (at_most m NL)) [
  | inr f ↦ f
  | inl t ↦ absurd (false≢true
      (sym (or_parts (at_most w.mode (held w.node)) (covered_above held w) bare).0
      ∙ at_most-trans w.mode NL (held w.node)
      (at_most-trans w.mode m NL (subst (λ (y : Mode). at_most w.mode y ≡ true) (sym is) (join-right h w.mode)) t) (nothing (held w.node))))
]

-- nothing changes
pub way-none : (owner : ℕ) (t : Table) → MakesWay owner t t
unfolding StaysLive
way-none owner t = record {
  order = λ before converts k. k;
  live = λ l. l;
  bars = λ a n d f. f;
  quiet = λ n e. e;
  asks = λ n. inr refl;
  sought = λ u n d. refl;
  granted = λ u n d. inl refl;
}

pub stays-live : (owner : ℕ) (old new : Table) → MakesWay owner old new → IsLive (queues_at old) → IsLive (queues_at new)
unfolding StaysLive
stays-live owner old new way live = way.live live

-- one step after the other
pub way-then : (owner : ℕ) (a b c : Table) → MakesWay owner a b → MakesWay owner b c → MakesWay owner a c
unfolding StaysLive
way-then owner a b c f g = record {
  order = λ before converts k. g.order before converts (f.order before converts k);
  live = λ l. g.live (f.live l);
  bars = λ u n d h. f.bars u n d (g.bars u n d h);
  quiet = λ n e. g.quiet n (f.quiet n e);
  asks = λ n. elim (g.asks n) [
    | inl e ↦ inl e
    | inr e ↦ elim (f.asks n) [ inl d ↦ inl (g.quiet n d) | inr d ↦ inr (e ∙ d) ]
  ];
  sought = λ u n d. g.sought u n d ∙ f.sought u n d;
  granted = λ u n d. elim (g.granted u n d) [
    | inr e ↦ inr (e ∙ f.sought u n d)
    | inl e ↦ elim (f.granted u n d) [ inl h ↦ inl (e ∙ h) | inr h ↦ inr (e ∙ h) ]
  ];
}

off-first : (a b : Bool) → a ≡ false → (a && b) ≡ false
off-first false b e = refl
off-first true b e = absurd (false≢true (sym e))

-- a lock is taken that bars nobody
pub way-raised : (owner : ℕ) (old new : Table) (n : Node) (mode : Mode) → KeepsOrder old new → (IsLive (queues_at old) → IsLive (queues_at new)) → RaisedAt old new owner n mode → BarsNobody old owner n mode → MakesWay owner old new
unfolding StaysLive
way-raised owner old new n mode order live law free =
    let held : (u : ℕ) (x : Node) → (u == owner) ≡ false → granted_at new u x ≡ granted_at old u x =
    λ u x d. law.granted u x ∙ ap (λ (b : Bool). if b then mode else granted_at old u x) (off-first (u == owner) (same_node x n) d) in
    let asked : (u : ℕ) (x : Node) → (u == owner) ≡ false → sought_at new u x ≡ sought_at old u x =
    λ u x d. law.sought u x ∙ ap (λ (b : Bool). if b then mode else sought_at old u x) (off-first (u == owner) (same_node x n) d) in
    record {
      order = order;
      live = live;
      bars = λ a x d h.
          let shut : may_share (granted_at new owner x) (sought_at old a x) ≡ false = subst (λ (y : Mode). may_share (granted_at new owner x) y ≡ false) (asked a x (flip owner a d)) h in
          elim (cases_Bool ((owner == owner) && same_node x n)) [
            | inr f ↦ subst (λ (y : Mode). may_share y (sought_at old a x) ≡ false) (law.granted owner x ∙ ap (λ (b : Bool). if b then mode else granted_at old owner x) f) shut
            | inl t ↦
                let there : x ≡ n = same_node-true x n (and_parts (owner == owner) (same_node x n) t).1 in
                let now : may_share mode (sought_at old a x) ≡ false = subst (λ (y : Mode). may_share y (sought_at old a x) ≡ false) (law.granted owner x ∙ ap (λ (b : Bool). if b then mode else granted_at old owner x) t) shut in
                elim (cases_Bool (may_share (granted_at old owner x) (sought_at old a x))) [
                  | inr y ↦ y
                  | inl y ↦ absurd (false≢true (sym now ∙ subst (λ (z : Node). may_share mode (sought_at old a z) ≡ true) (sym there)
                      (free a (flip owner a d) (subst (λ (z : Node). may_share (granted_at old owner z) (sought_at old a z) ≡ true) there y))))
                ]
          ];
      quiet = λ x e. law.sought owner x ∙ (ap (λ (y : Mode). if (owner == owner) && same_node x n then mode else y) e ∙ sym (law.granted owner x));
      asks = λ x. elim (cases_Bool ((owner == owner) && same_node x n)) [
        | inl t ↦ inl (law.sought owner x ∙ (ap (λ (b : Bool). if b then mode else sought_at old owner x) t ∙ sym (law.granted owner x ∙ ap (λ (b : Bool). if b then mode else granted_at old owner x) t)))
        | inr f ↦ inr (law.sought owner x ∙ ap (λ (b : Bool). if b then mode else sought_at old owner x) f)
      ];
      sought = λ u x d. asked u x d;
      granted = λ u x d. inl (held u x d);
    }

-- a lock comes down, or a request is cancelled beside the lock
pub way-lowered : (owner : ℕ) (old new : Table) (n : Node) (mode : Mode) → KeepsOrder old new → (IsLive (queues_at old) → IsLive (queues_at new)) → LoweredAt old new owner n mode → at_most mode (granted_at old owner n) ≡ true → MakesWay owner old new
unfolding StaysLive
way-lowered owner old new n mode order live law weaker =
    let asked : (u : ℕ) (x : Node) → (u == owner) ≡ false → sought_at new u x ≡ sought_at old u x =
    λ u x d. law.sought_others u x (off-first (u == owner) (same_node x n) d) in
    record {
      order = order;
      live = live;
      bars = λ a x d h.
          let shut : may_share (granted_at new owner x) (sought_at old a x) ≡ false = subst (λ (y : Mode). may_share (granted_at new owner x) y ≡ false) (asked a x (flip owner a d)) h in
          elim (cases_Bool (same_node x n)) [
            | inr f ↦ subst (λ (y : Mode). may_share y (sought_at old a x) ≡ false) (law.elsewhere owner x f) shut
            | inl t ↦
                let there : x ≡ n = same_node-true x n t in
                let now : may_share mode (sought_at old a n) ≡ false =
                subst (λ (y : Mode). may_share y (sought_at old a n) ≡ false) law.own (subst (λ (z : Node). may_share (granted_at new owner z) (sought_at old a z) ≡ false) there shut) in
                subst (λ (z : Node). may_share (granted_at old owner z) (sought_at old a z) ≡ false) (sym there) (shut-more mode (granted_at old owner n) (sought_at old a n) weaker now)
          ];
      quiet = λ x e. elim (cases_Bool (same_node x n)) [
        | inl t ↦ subst (λ (z : Node). sought_at new owner z ≡ granted_at new owner z) (sym (same_node-true x n t)) (law.sought_own ∙ sym law.own)
        | inr f ↦ law.sought_others owner x (off-second (owner == owner) (same_node x n) f) ∙ (e ∙ sym (law.elsewhere owner x f))
      ];
      asks = λ x. elim (cases_Bool (same_node x n)) [
        | inl t ↦ inl (subst (λ (z : Node). sought_at new owner z ≡ granted_at new owner z) (sym (same_node-true x n t)) (law.sought_own ∙ sym law.own))
        | inr f ↦ inr (law.sought_others owner x (off-second (owner == owner) (same_node x n) f))
      ];
      sought = λ u x d. asked u x d;
      granted = λ u x d. elim (cases_Bool (same_node x n)) [
        | inl t ↦ subst (λ (z : Node). (granted_at new u z ≡ granted_at old u z) ⊎ (granted_at new u z ≡ sought_at old u z)) (sym (same_node-true x n t)) (law.others u d)
        | inr f ↦ inl (law.elsewhere u x f)
      ];
    }
  where
    off-second : (a b : Bool) → b ≡ false → (a && b) ≡ false
    off-second true b e = e
    off-second false b e = refl

-- ---- who stands in the way

module _ (owner : ℕ) (old new : Table) (way : MakesWay owner old new) (shares : AllShare new) where
  -- what is asked that something stands in the way of was asked before
  asked-before : (u a : ℕ) (n : Node) → (u == a) ≡ false → may_share (granted_at new u n) (sought_at new a n) ≡ false → sought_at new a n ≡ sought_at old a n
  asked-before u a n d f = elim (cases_Bool (a == owner)) [
    | inr e ↦ way.sought a n e
    | inl e ↦
        let is : a ≡ owner = eqb-true a owner e in
        elim (way.asks n) [
          | inr g ↦ subst (λ (z : ℕ). sought_at new z n ≡ sought_at old z n) (sym is) g
          | inl g ↦ absurd (false≢true (sym f ∙ (ap (may_share (granted_at new u n)) (subst (λ (z : ℕ). sought_at new z n ≡ granted_at new z n) (sym is) g) ∙ shares u a (flip u a d) n)))
        ]
  ]

  -- another owner that stood in the way by its needs does so still, and so does one that was granted what it asked
  pub way-others : (u : ℕ) (p : Party) → (u == owner) ≡ false → IsKept old u p → IsKept new u p → StandsByNeeds old u p → StandsByNeeds new u p
  way-others u p e before after least a n d f =
      let same : sought_at new a n ≡ sought_at old a n = asked-before u a n d f in
      let shut : may_share (granted_at new u n) (sought_at old a n) ≡ false = subst (λ (y : Mode). may_share (granted_at new u n) y ≡ false) same f in
      let stays : granted_at new u n ≡ granted_at old u n → may_share (kept_at (granted_at new u) p n) (sought_at new a n) ≡ false = λ held.
      subst (λ (y : Mode). may_share (kept_at (granted_at new u) p n) y ≡ false) (sym same)
      (shut-more (kept_at (granted_at old u) p n) (kept_at (granted_at new u) p n) (sought_at old a n)
      (kept-more (granted_at old u) (granted_at new u) p n (subst (λ (y : Mode). at_most (granted_at old u n) y ≡ true) (sym held) (at_most-refl (granted_at old u n))))
      (least a n d (subst (λ (y : Mode). may_share y (sought_at old a n) ≡ false) held shut))) in
      elim (way.granted u n e) [
        | inl held ↦ stays held
        | inr woken ↦ elim (mode-cases (sought_at old u n) (granted_at old u n)) [
          | inl s ↦ stays (woken ∙ s)
          | inr differs ↦
              let w = asleep-at (granted_at old u) (sought_at old u) p n before differs in
              shut-more (granted_at new u n) (kept_at (granted_at new u) p n) (sought_at new a n) (after.exact n w.want w.opened w.asked) f
        ]
      ]
    where
      mode-cases : (a b : Mode) → (a ≡ b) ⊎ (a ≡ b → ⊥)
      mode-cases a b = elim (cases_Bool (at_most a b && at_most b a)) [
        | inl t ↦ inl (at_most-both a b t)
        | inr f ↦ inr (λ e. false≢true (sym f ∙ subst (λ (y : Mode). (at_most a y && at_most y a) ≡ true) e (and_from (at_most a a) (at_most a a) (at_most-refl a) (at_most-refl a))))
      ]

-- the owner itself, where it must keep no less
pub way-own : (owner : ℕ) (old new : Table) → MakesWay owner old new → (p q : Party) → ((n : Node) → at_most (kept_at (granted_at old owner) p n) (kept_at (granted_at new owner) q n) ≡ true) → StandsByNeeds old owner p → StandsByNeeds new owner q
way-own owner old new way p q more least a n d f =
    let same : sought_at new a n ≡ sought_at old a n = way.sought a n (flip owner a d) in
    subst (λ (y : Mode). may_share (kept_at (granted_at new owner) q n) y ≡ false) (sym same)
    (shut-more (kept_at (granted_at old owner) p n) (kept_at (granted_at new owner) q n) (sought_at old a n) (more n) (least a n d (way.bars a n d f)))
