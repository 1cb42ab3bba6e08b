-- The laws of containment. They hold of any four numbers: no node need be well formed.
use Rattle.std.proofs.Common.{◌≡◌, ℕ, Bool, true, false, refl, sym, ◌∙◌, ap, subst, ◌⊎◌, inl, inr, rules}
use Rattle.std.specs.Prelude.{◌&&◌, ◌||◌, ◌==◌}
use Rattle.std.proofs.lemmas.Bool.{false≢true, and_parts, and_from, or_left, or_right, or_cases, eqb-true, eq-eqb}
use Rattle.rdb_types.specs.declared.node.Level.{Level}
use Rattle.rdb_types.specs.declared.node.Level.TheVariants.{Area, Range, Page, Line, Journal}
use Rattle.rdb_types.specs.declared.node.Node.{Node}
use Rattle.rdb_types.specs.contracts.node.LevelPartialEq.TheImpl as level_eq
use Rattle.rdb_types.specs.contracts.node.Level.{the_type}
use denote.Enum.Bare.{same_true}
use Rattle.lock_needs.specs.Nodes.{is_above, next_level, range_of, on_way, same_node, contains, step_towards}

abbrev pub make : Level → ℕ → ℕ → ℕ → Node
make level area at line = record { level = level; area = area; at = at; line = line }

abbrev same_level : Level → Level → Bool
same_level = (level_eq.ghosts).eq

same_level-refl : (a : Level) → same_level a a ≡ true
same_level-refl Area = refl
same_level-refl Range = refl
same_level-refl Page = refl
same_level-refl Line = refl
same_level-refl Journal = refl

same_level-true : (a b : Level) → same_level a b ≡ true → a ≡ b
same_level-true a b h = same_true the_type (search rules) a b h

pub same_node-true : (a b : Node) → same_node a b ≡ true → a ≡ b
same_node-true a b h =
    let p = and_parts (same_level a.level b.level) ((a.area == b.area) && ((a.at == b.at) && (a.line == b.line))) h in
    let q = and_parts (a.area == b.area) ((a.at == b.at) && (a.line == b.line)) p.1 in
    let r = and_parts (a.at == b.at) (a.line == b.line) q.1 in
    ap (λ (l : Level). make l a.area a.at a.line) (same_level-true a.level b.level p.0)
    ∙ (ap (λ (x : ℕ). make b.level x a.at a.line) (eqb-true a.area b.area q.0)
    ∙ (ap (λ (x : ℕ). make b.level b.area x a.line) (eqb-true a.at b.at r.0)
    ∙ ap (λ (x : ℕ). make b.level b.area b.at x) (eqb-true a.line b.line r.1)))

pub same_node-refl : (a : Node) → same_node a a ≡ true
same_node-refl a =
    and_from (same_level a.level a.level) ((a.area == a.area) && ((a.at == a.at) && (a.line == a.line))) (same_level-refl a.level)
    (and_from (a.area == a.area) ((a.at == a.at) && (a.line == a.line)) (eq-eqb a.area a.area refl)
    (and_from (a.at == a.at) (a.line == a.line) (eq-eqb a.at a.at refl) (eq-eqb a.line a.line refl)))

pub same_node-sym : (a b : Node) → same_node a b ≡ true → same_node b a ≡ true
same_node-sym a b h = subst (λ (x : Node). same_node x a ≡ true) (same_node-true a b h) (same_node-refl a)

pub contains-above : (a b : Node) → contains a b ≡ true → is_above a.level b.level ≡ true
contains-above a b h = (and_parts (is_above a.level b.level) (same_node a (on_way a.level b)) h).0

pub contains-is : (a b : Node) → contains a b ≡ true → a ≡ on_way a.level b
contains-is a b h = same_node-true a (on_way a.level b) (and_parts (is_above a.level b.level) (same_node a (on_way a.level b)) h).1

-- the node one level down is in the node
step-within-way : (l lv : Level) (ar at ln : ℕ) → is_above l lv ≡ true → contains (on_way l (make lv ar at ln)) (on_way (next_level l) (make lv ar at ln)) ≡ true
step-within-way Area Range ar at ln h = same_node-refl (make Area ar 0 0)
step-within-way Area Page ar at ln h = same_node-refl (make Area ar 0 0)
step-within-way Area Line ar at ln h = same_node-refl (make Area ar 0 0)
step-within-way Range Page ar at ln h = same_node-refl (make Range ar (range_of Page at) 0)
step-within-way Range Line ar at ln h = same_node-refl (make Range ar (range_of Line at) 0)
step-within-way Page Line ar at ln h = same_node-refl (make Page ar at 0)
step-within-way lx ly ar at ln h = absurd (false≢true h)

pub step-within : (n k : Node) → contains n k ≡ true → contains n (step_towards n k) ≡ true
step-within n k h =
    subst (λ (x : Node). contains x (step_towards n k) ≡ true) (sym (contains-is n k h))
    (step-within-way n.level k.level k.area k.at k.line (contains-above n k h))

-- the node one level down is the other one or contains it
step-reaches-way : (l lv : Level) (ar at ln : ℕ) → is_above l lv ≡ true → (same_node (on_way (next_level l) (make lv ar at ln)) (make lv ar at ln) || contains (on_way (next_level l) (make lv ar at ln)) (make lv ar at ln)) ≡ true
step-reaches-way Area Range ar at ln h = or_left (same_node (make Range ar at ln) (make Range ar at ln)) (contains (make Range ar at ln) (make Range ar at ln)) (same_node-refl (make Range ar at ln))
step-reaches-way Area Page ar at ln h = or_right (same_node (make Range ar (range_of Page at) 0) (make Page ar at ln)) (contains (make Range ar (range_of Page at) 0) (make Page ar at ln)) (same_node-refl (make Range ar (range_of Page at) 0))
step-reaches-way Area Line ar at ln h = or_right (same_node (make Range ar (range_of Line at) 0) (make Line ar at ln)) (contains (make Range ar (range_of Line at) 0) (make Line ar at ln)) (same_node-refl (make Range ar (range_of Line at) 0))
step-reaches-way Range Page ar at ln h = or_left (same_node (make Page ar at ln) (make Page ar at ln)) (contains (make Page ar at ln) (make Page ar at ln)) (same_node-refl (make Page ar at ln))
step-reaches-way Range Line ar at ln h = or_right (same_node (make Page ar at 0) (make Line ar at ln)) (contains (make Page ar at 0) (make Line ar at ln)) (same_node-refl (make Page ar at 0))
step-reaches-way Page Line ar at ln h = or_left (same_node (make Line ar at ln) (make Line ar at ln)) (contains (make Line ar at ln) (make Line ar at ln)) (same_node-refl (make Line ar at ln))
step-reaches-way lx ly ar at ln h = absurd (false≢true h)

pub step-reaches : (n k : Node) → contains n k ≡ true → (same_node (step_towards n k) k || contains (step_towards n k) k) ≡ true
step-reaches n k h = step-reaches-way n.level k.level k.area k.at k.line (contains-above n k h)

-- what contains the node one level down is the node or contains it
step-above-way : (la l lv : Level) (ar at ln : ℕ) → (is_above la (next_level l) && is_above l lv) ≡ true → (same_node (on_way la (on_way (next_level l) (make lv ar at ln))) (on_way l (make lv ar at ln)) || contains (on_way la (on_way (next_level l) (make lv ar at ln))) (on_way l (make lv ar at ln))) ≡ true
step-above-way Area Area Range ar at ln h = or_left (same_node (make Area ar 0 0) (make Area ar 0 0)) (contains (make Area ar 0 0) (make Area ar 0 0)) (same_node-refl (make Area ar 0 0))
step-above-way Area Area Page ar at ln h = or_left (same_node (make Area ar 0 0) (make Area ar 0 0)) (contains (make Area ar 0 0) (make Area ar 0 0)) (same_node-refl (make Area ar 0 0))
step-above-way Area Area Line ar at ln h = or_left (same_node (make Area ar 0 0) (make Area ar 0 0)) (contains (make Area ar 0 0) (make Area ar 0 0)) (same_node-refl (make Area ar 0 0))
step-above-way Area Range Page ar at ln h = or_right (same_node (make Area ar 0 0) (make Range ar (range_of Page at) 0)) (contains (make Area ar 0 0) (make Range ar (range_of Page at) 0)) (same_node-refl (make Area ar 0 0))
step-above-way Area Range Line ar at ln h = or_right (same_node (make Area ar 0 0) (make Range ar (range_of Line at) 0)) (contains (make Area ar 0 0) (make Range ar (range_of Line at) 0)) (same_node-refl (make Area ar 0 0))
step-above-way Area Page Line ar at ln h = or_right (same_node (make Area ar 0 0) (make Page ar at 0)) (contains (make Area ar 0 0) (make Page ar at 0)) (same_node-refl (make Area ar 0 0))
step-above-way Range Range Page ar at ln h = or_left (same_node (make Range ar (range_of Page at) 0) (make Range ar (range_of Page at) 0)) (contains (make Range ar (range_of Page at) 0) (make Range ar (range_of Page at) 0)) (same_node-refl (make Range ar (range_of Page at) 0))
step-above-way Range Range Line ar at ln h = or_left (same_node (make Range ar (range_of Line at) 0) (make Range ar (range_of Line at) 0)) (contains (make Range ar (range_of Line at) 0) (make Range ar (range_of Line at) 0)) (same_node-refl (make Range ar (range_of Line at) 0))
step-above-way Range Page Line ar at ln h = or_right (same_node (make Range ar (range_of Line at) 0) (make Page ar at 0)) (contains (make Range ar (range_of Line at) 0) (make Page ar at 0)) (same_node-refl (make Range ar (range_of Line at) 0))
step-above-way Page Page Line ar at ln h = or_left (same_node (make Page ar at 0) (make Page ar at 0)) (contains (make Page ar at 0) (make Page ar at 0)) (same_node-refl (make Page ar at 0))
step-above-way lx ly lz ar at ln h = absurd (false≢true h)

step-level : (l lv : Level) (ar at ln : ℕ) → is_above l lv ≡ true → (on_way (next_level l) (make lv ar at ln)).level ≡ next_level l
step-level Area Range ar at ln h = refl
step-level Area Page ar at ln h = refl
step-level Area Line ar at ln h = refl
step-level Range Page ar at ln h = refl
step-level Range Line ar at ln h = refl
step-level Page Line ar at ln h = refl
step-level lx ly ar at ln h = absurd (false≢true h)

pub step-above : (a n k : Node) → contains n k ≡ true → contains a (step_towards n k) ≡ true → (same_node a n ≡ true) ⊎ (contains a n ≡ true)
step-above a n k h g =
    let c : Node = step_towards n k in
    let up : is_above a.level (next_level n.level) ≡ true =
    subst (λ (l : Level). is_above a.level l ≡ true) (step-level n.level k.level k.area k.at k.line (contains-above n k h)) (contains-above a c g) in
    let e : (same_node a n || contains a n) ≡ true =
    subst (λ (x : Node). (same_node x n || contains x n) ≡ true) (sym (contains-is a c g))
    (subst (λ (y : Node). (same_node (on_way a.level c) y || contains (on_way a.level c) y) ≡ true) (sym (contains-is n k h))
    (step-above-way a.level n.level k.level k.area k.at k.line (and_from (is_above a.level (next_level n.level)) (is_above n.level k.level) up (contains-above n k h)))) in
    or_cases (same_node a n) (contains a n) e

-- a node on the way, of a level above, contains the node
way-contains-way : (l lv : Level) (ar at ln : ℕ) → is_above l lv ≡ true → contains (on_way l (make lv ar at ln)) (make lv ar at ln) ≡ true
way-contains-way Area Range ar at ln h = same_node-refl (make Area ar 0 0)
way-contains-way Area Page ar at ln h = same_node-refl (make Area ar 0 0)
way-contains-way Area Line ar at ln h = same_node-refl (make Area ar 0 0)
way-contains-way Range Page ar at ln h = same_node-refl (make Range ar (range_of Page at) 0)
way-contains-way Range Line ar at ln h = same_node-refl (make Range ar (range_of Line at) 0)
way-contains-way Page Line ar at ln h = same_node-refl (make Page ar at 0)
way-contains-way lx ly ar at ln h = absurd (false≢true h)

pub way-contains : (l : Level) (n k : Node) → is_above l k.level ≡ true → same_node (on_way l k) n ≡ true → contains n k ≡ true
way-contains l n k h s =
    subst (λ (x : Node). contains x k ≡ true) (same_node-true (on_way l k) n s) (way-contains-way l k.level k.area k.at k.line h)

-- containment is transitive
trans-way : (la lb lv : Level) (ar at ln : ℕ) → (is_above la lb && is_above lb lv) ≡ true → contains (on_way la (on_way lb (make lv ar at ln))) (make lv ar at ln) ≡ true
trans-way Area Range Page ar at ln h = same_node-refl (make Area ar 0 0)
trans-way Area Range Line ar at ln h = same_node-refl (make Area ar 0 0)
trans-way Area Page Line ar at ln h = same_node-refl (make Area ar 0 0)
trans-way Range Page Line ar at ln h = same_node-refl (make Range ar (range_of Line at) 0)
trans-way Page Line lv ar at ln h = absurd (false≢true h)
trans-way lx ly lz ar at ln h = absurd (false≢true h)

pub way-level : (l lv : Level) (ar at ln : ℕ) → is_above l lv ≡ true → (on_way l (make lv ar at ln)).level ≡ l
way-level Area Range ar at ln h = refl
way-level Area Page ar at ln h = refl
way-level Area Line ar at ln h = refl
way-level Range Page ar at ln h = refl
way-level Range Line ar at ln h = refl
way-level Page Line ar at ln h = refl
way-level lx ly ar at ln h = absurd (false≢true h)

pub contains-trans : (a b c : Node) → contains a b ≡ true → contains b c ≡ true → contains a c ≡ true
contains-trans a b c h g =
    let e : b ≡ on_way b.level c = contains-is b c g in
    let up : is_above a.level b.level ≡ true = contains-above a b h in
    subst (λ (x : Node). contains x c ≡ true) (sym (contains-is a b h))
    (subst (λ (y : Node). contains (on_way a.level y) c ≡ true) (sym e)
    (trans-way a.level b.level c.level c.area c.at c.line (and_from (is_above a.level b.level) (is_above b.level c.level) up (contains-above b c g))))

-- a node does not contain itself
self-above : (l : Level) → is_above l l ≡ false
self-above Area = refl
self-above Range = refl
self-above Page = refl
self-above Line = refl
self-above Journal = refl

pub contains-self : (a b : Node) → contains a b ≡ true → same_node a b ≡ false
contains-self a b h =
    elim (same_node a b) as (λ t. same_node a b ≡ t → t ≡ false) [
      | true ↦ λ s. absurd (false≢true (sym (self-above a.level) ∙ subst (λ (x : Node). is_above a.level x.level ≡ true) (sym (same_node-true a b s)) (contains-above a b h)))
      | false ↦ λ s. refl
    ] refl

not-second : (a : Bool) → (a && false) ≡ true → ⊥
not-second true h = false≢true h
not-second false h = false≢true h

-- of two nodes that contain a third, they are one or one contains the other
comparable-way : (lx ly lv : Level) (ar at ln : ℕ) → (is_above lx lv && is_above ly lv) ≡ true → (same_node (on_way lx (make lv ar at ln)) (on_way ly (make lv ar at ln)) || (contains (on_way lx (make lv ar at ln)) (on_way ly (make lv ar at ln)) || contains (on_way ly (make lv ar at ln)) (on_way lx (make lv ar at ln)))) ≡ true
comparable-way Area Area Range ar at ln h = or_left (same_node (make Area ar 0 0) (make Area ar 0 0)) (contains (make Area ar 0 0) (make Area ar 0 0) || contains (make Area ar 0 0) (make Area ar 0 0)) (same_node-refl (make Area ar 0 0))
comparable-way Area Area Page ar at ln h = or_left (same_node (make Area ar 0 0) (make Area ar 0 0)) (contains (make Area ar 0 0) (make Area ar 0 0) || contains (make Area ar 0 0) (make Area ar 0 0)) (same_node-refl (make Area ar 0 0))
comparable-way Area Area Line ar at ln h = or_left (same_node (make Area ar 0 0) (make Area ar 0 0)) (contains (make Area ar 0 0) (make Area ar 0 0) || contains (make Area ar 0 0) (make Area ar 0 0)) (same_node-refl (make Area ar 0 0))
comparable-way Area Range Page ar at ln h = or_right (same_node (make Area ar 0 0) (make Range ar (range_of Page at) 0)) (contains (make Area ar 0 0) (make Range ar (range_of Page at) 0) || contains (make Range ar (range_of Page at) 0) (make Area ar 0 0)) (or_left (contains (make Area ar 0 0) (make Range ar (range_of Page at) 0)) (contains (make Range ar (range_of Page at) 0) (make Area ar 0 0)) (same_node-refl (make Area ar 0 0)))
comparable-way Area Range Line ar at ln h = or_right (same_node (make Area ar 0 0) (make Range ar (range_of Line at) 0)) (contains (make Area ar 0 0) (make Range ar (range_of Line at) 0) || contains (make Range ar (range_of Line at) 0) (make Area ar 0 0)) (or_left (contains (make Area ar 0 0) (make Range ar (range_of Line at) 0)) (contains (make Range ar (range_of Line at) 0) (make Area ar 0 0)) (same_node-refl (make Area ar 0 0)))
comparable-way Area Page Line ar at ln h = or_right (same_node (make Area ar 0 0) (make Page ar at 0)) (contains (make Area ar 0 0) (make Page ar at 0) || contains (make Page ar at 0) (make Area ar 0 0)) (or_left (contains (make Area ar 0 0) (make Page ar at 0)) (contains (make Page ar at 0) (make Area ar 0 0)) (same_node-refl (make Area ar 0 0)))
comparable-way Range Area Page ar at ln h = or_right (same_node (make Range ar (range_of Page at) 0) (make Area ar 0 0)) (contains (make Range ar (range_of Page at) 0) (make Area ar 0 0) || contains (make Area ar 0 0) (make Range ar (range_of Page at) 0)) (or_right (contains (make Range ar (range_of Page at) 0) (make Area ar 0 0)) (contains (make Area ar 0 0) (make Range ar (range_of Page at) 0)) (same_node-refl (make Area ar 0 0)))
comparable-way Range Area Line ar at ln h = or_right (same_node (make Range ar (range_of Line at) 0) (make Area ar 0 0)) (contains (make Range ar (range_of Line at) 0) (make Area ar 0 0) || contains (make Area ar 0 0) (make Range ar (range_of Line at) 0)) (or_right (contains (make Range ar (range_of Line at) 0) (make Area ar 0 0)) (contains (make Area ar 0 0) (make Range ar (range_of Line at) 0)) (same_node-refl (make Area ar 0 0)))
comparable-way Range Range Page ar at ln h = or_left (same_node (make Range ar (range_of Page at) 0) (make Range ar (range_of Page at) 0)) (contains (make Range ar (range_of Page at) 0) (make Range ar (range_of Page at) 0) || contains (make Range ar (range_of Page at) 0) (make Range ar (range_of Page at) 0)) (same_node-refl (make Range ar (range_of Page at) 0))
comparable-way Range Range Line ar at ln h = or_left (same_node (make Range ar (range_of Line at) 0) (make Range ar (range_of Line at) 0)) (contains (make Range ar (range_of Line at) 0) (make Range ar (range_of Line at) 0) || contains (make Range ar (range_of Line at) 0) (make Range ar (range_of Line at) 0)) (same_node-refl (make Range ar (range_of Line at) 0))
comparable-way Range Page Line ar at ln h = or_right (same_node (make Range ar (range_of Line at) 0) (make Page ar at 0)) (contains (make Range ar (range_of Line at) 0) (make Page ar at 0) || contains (make Page ar at 0) (make Range ar (range_of Line at) 0)) (or_left (contains (make Range ar (range_of Line at) 0) (make Page ar at 0)) (contains (make Page ar at 0) (make Range ar (range_of Line at) 0)) (same_node-refl (make Range ar (range_of Line at) 0)))
comparable-way Page Area Line ar at ln h = or_right (same_node (make Page ar at 0) (make Area ar 0 0)) (contains (make Page ar at 0) (make Area ar 0 0) || contains (make Area ar 0 0) (make Page ar at 0)) (or_right (contains (make Page ar at 0) (make Area ar 0 0)) (contains (make Area ar 0 0) (make Page ar at 0)) (same_node-refl (make Area ar 0 0)))
comparable-way Page Range Line ar at ln h = or_right (same_node (make Page ar at 0) (make Range ar (range_of Line at) 0)) (contains (make Page ar at 0) (make Range ar (range_of Line at) 0) || contains (make Range ar (range_of Line at) 0) (make Page ar at 0)) (or_right (contains (make Page ar at 0) (make Range ar (range_of Line at) 0)) (contains (make Range ar (range_of Line at) 0) (make Page ar at 0)) (same_node-refl (make Range ar (range_of Line at) 0)))
comparable-way Page Page Line ar at ln h = or_left (same_node (make Page ar at 0) (make Page ar at 0)) (contains (make Page ar at 0) (make Page ar at 0) || contains (make Page ar at 0) (make Page ar at 0)) (same_node-refl (make Page ar at 0))
comparable-way lx Line lv ar at ln h = absurd (not-second (is_above lx lv) h)
comparable-way lx Journal lv ar at ln h = absurd (not-second (is_above lx lv) h)
comparable-way lx ly lz ar at ln h = absurd (false≢true h)

-- the node is the other or contains it
abbrev pub IsOn : Node → Node → Type 0
IsOn x b = (x ≡ b) ⊎ (contains x b ≡ true)

pub comparable : (x y b : Node) → IsOn x b → IsOn y b → (x ≡ y) ⊎ ((contains x y ≡ true) ⊎ (contains y x ≡ true))
comparable x y b (inl e) (inl f) = inl (e ∙ sym f)
comparable x y b (inl e) (inr g) = inr (inr (subst (λ (z : Node). contains y z ≡ true) (sym e) g))
comparable x y b (inr h) (inl f) = inr (inl (subst (λ (z : Node). contains x z ≡ true) (sym f) h))
comparable x y b (inr h) (inr g) =
    let way_h : x ≡ on_way x.level b = contains-is x b h in
    let way_g : y ≡ on_way y.level b = contains-is y b g in
    let t : (same_node x y || (contains x y || contains y x)) ≡ true =
    subst (λ (p : Node). (same_node p y || (contains p y || contains y p)) ≡ true) (sym way_h)
    (subst (λ (q : Node). (same_node (on_way x.level b) q || (contains (on_way x.level b) q || contains q (on_way x.level b))) ≡ true) (sym way_g)
    (comparable-way x.level y.level b.level b.area b.at b.line (and_from (is_above x.level b.level) (is_above y.level b.level) (contains-above x b h) (contains-above y b g)))) in
    elim (or_cases (same_node x y) (contains x y || contains y x) t) [
      | inl s ↦ inl (same_node-true x y s)
      | inr u ↦ inr (or_cases (contains x y) (contains y x) u)
    ]

pub on-then : (x a b : Node) → IsOn x a → contains a b ≡ true → contains x b ≡ true
on-then x a b (inl e) h = subst (λ (z : Node). contains z b ≡ true) (sym e) h
on-then x a b (inr g) h = contains-trans x a b g h
