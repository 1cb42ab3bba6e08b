-- Nobody writes where another's needs guard.
use Rattle.std.proofs.Common.{◌≡◌, Bool, true, false, not, ◌&&◌, List, [], ◌∷◌, ◌++◌, refl, sym, ap, subst, ◌∙◌, inl, inr}
use Rattle.std.specs.List.{list_all}
use Rattle.std.proofs.lemmas.Bool.{false≢true, and_parts, and_from, or_left, or_right, or_cases}
use Rattle.std.proofs.lemmas.List.Folds.{list_any-append}
use Rattle.rdb_types.specs.declared.keys.Dbkey.{Dbkey}
use Rattle.rdb_types.specs.declared.node.Node.{Node}
use Rattle.vms_queues.specs.declared.lock_mode.Mode.{Mode}
use Rattle.vms_queues.specs.Modes.{may_share, intent}
use Rattle.vms_queues.proofs.ModeLaws.{all_modes_2-at, implies, from_implies}
use Rattle.lock_needs.specs.declared.need.Need.{Need}
use Rattle.lock_needs.specs.Nodes.{same_node, contains, is_on}
use Rattle.lock_needs.specs.Needs.{conflict}
use Rattle.lock_needs.proofs.NodeLaws.{IsOn, same_node-true, same_node-refl, comparable, contains-trans}
use Rattle.lock_tree_laws.specs.Forest.{no_conflict}
use Rattle.rdb_account.specs.AskedFor.{area_node}
use Rattle.kept_apart.specs.Guards.{line_node, is_strong, is_alone, guards, is_guarded, opens, may_write}

-- ---- modes

strong-alone : (a b : Mode) → is_strong a ≡ true → is_alone b ≡ true → may_share a b ≡ false
strong-alone a b h k = turned (may_share a b)
    (from_implies (is_alone b) (not (may_share a b)) (from_implies (is_strong a) (implies (is_alone b) (not (may_share a b)))
    (all_modes_2-at (λ a b. implies (is_strong a) (implies (is_alone b) (not (may_share a b)))) refl a b) h) k)
  where
    turned : (x : Bool) → not x ≡ true → x ≡ false
    turned true e = absurd (false≢true e)
    turned false e = refl

-- whoever writes announces it above
strong-intent : (a b : Mode) → is_strong a ≡ true → is_alone b ≡ true → not (may_share a (intent b)) ≡ true
strong-intent a b h k =
    from_implies (is_alone b) (not (may_share a (intent b))) (from_implies (is_strong a) (implies (is_alone b) (not (may_share a (intent b))))
    (all_modes_2-at (λ a b. implies (is_strong a) (implies (is_alone b) (not (may_share a (intent b))))) refl a b) h) k

-- whoever guards announces it above
alone-intent : (a b : Mode) → is_strong a ≡ true → is_alone b ≡ true → not (may_share b (intent a)) ≡ true
alone-intent a b h k =
    from_implies (is_alone b) (not (may_share b (intent a))) (from_implies (is_strong a) (implies (is_alone b) (not (may_share b (intent a))))
    (all_modes_2-at (λ a b. implies (is_strong a) (implies (is_alone b) (not (may_share b (intent a))))) refl a b) h) k

-- ---- two needs

on-of : (x n : Node) → is_on x n ≡ true → IsOn x n
on-of x n h = elim (or_cases (same_node x n) (contains x n) h) [ inl e ↦ inl (same_node-true x n e) | inr e ↦ inr e ]

-- a need that guards a node conflicts with one that lets another write there
pub guard-conflict : (n : Node) (w v : Need) → guards n w ≡ true → opens n v ≡ true → conflict w v ≡ true
guard-conflict n w v g o =
    let p = and_parts (is_on w.node n) (is_strong w.mode) g in
    let q = and_parts (is_on v.node n) (is_alone v.mode) o in
    elim (comparable w.node v.node n (on-of w.node n p.0) (on-of v.node n q.0)) [
      | inl e ↦ or_left (same_node w.node v.node && not (may_share w.mode v.mode)) _
          (and_from (same_node w.node v.node) (not (may_share w.mode v.mode)) (subst (λ (x : Node). same_node w.node x ≡ true) e (same_node-refl w.node)) (ap not (strong-alone w.mode v.mode p.1 q.1)))
      | inr e ↦ or_right (same_node w.node v.node && not (may_share w.mode v.mode)) _ (elim e [
        | inl a ↦ or_left (contains w.node v.node && not (may_share w.mode (intent v.mode))) _ (and_from (contains w.node v.node) _ a (strong-intent w.mode v.mode p.1 q.1))
        | inr b ↦ or_right (contains w.node v.node && not (may_share w.mode (intent v.mode))) _ (and_from (contains v.node w.node) _ b (alone-intent w.mode v.mode p.1 q.1))
      ])
    ]

-- ---- lists of needs

none-with : (n : Node) (w : Need) (theirs : List Need) → guards n w ≡ true → list_all (λ v. not (conflict w v)) theirs ≡ true → may_write theirs n ≡ true → ⊥
none-with n w [] g all o = false≢true o
none-with n w (v ∷ vs) g all o =
    let p = and_parts (not (conflict w v)) (list_all (λ v. not (conflict w v)) vs) all in
    elim (or_cases (opens n v) (may_write vs n) o) [
      | inl e ↦ false≢true (sym (ap not (guard-conflict n w v g e)) ∙ p.0)
      | inr e ↦ none-with n w vs g p.1 e
    ]

-- where the one's needs guard a node, the other may not write there
pub guarded-apart : (mine theirs : List Need) (n : Node) → no_conflict mine theirs ≡ true → is_guarded mine n ≡ true → may_write theirs n ≡ true → ⊥
guarded-apart [] theirs n apart g o = false≢true g
guarded-apart (w ∷ ws) theirs n apart g o =
    let p = and_parts (list_all (λ v. not (conflict w v)) theirs) (no_conflict ws theirs) apart in
    elim (or_cases (guards n w) (is_guarded ws n) g) [
      | inl e ↦ none-with n w theirs e p.0 o
      | inr e ↦ guarded-apart ws theirs n p.1 e o
    ]

-- ---- areas

area-contains : (key : Dbkey) → contains (area_node key.area) (line_node key) ≡ true
area-contains key = same_node-refl (area_node key.area)

on-lower : (x a b : Node) → is_on x a ≡ true → contains a b ≡ true → is_on x b ≡ true
on-lower x a b h k = or_right (same_node x b) (contains x b) (elim (on-of x a h) [
  | inl e ↦ subst (λ (z : Node). contains z b ≡ true) (sym e) k
  | inr e ↦ contains-trans x a b e k
])

-- what guards an area guards its lines
pub area-guards : (got : List Need) (key : Dbkey) → is_guarded got (area_node key.area) ≡ true → is_guarded got (line_node key) ≡ true
area-guards [] key g = absurd (false≢true g)
area-guards (w ∷ ws) key g = elim (or_cases (guards (area_node key.area) w) (is_guarded ws (area_node key.area)) g) [
  | inl e ↦ let p = and_parts (is_on w.node (area_node key.area)) (is_strong w.mode) e in
      or_left (guards (line_node key) w) _ (and_from (is_on w.node (line_node key)) (is_strong w.mode) (on-lower w.node (area_node key.area) (line_node key) p.0 (area-contains key)) p.1)
  | inr e ↦ or_right (guards (line_node key) w) _ (area-guards ws key e)
]

-- ---- more needs

pub guarded-grown : (got more : List Need) (n : Node) → is_guarded got n ≡ true → is_guarded (got ++ more) n ≡ true
guarded-grown got more n h = list_any-append (guards n) got more ∙ or_left (is_guarded got n) (is_guarded more n) h

pub may-write-grown : (got more : List Need) (n : Node) → may_write got n ≡ true → may_write (got ++ more) n ≡ true
may-write-grown got more n h = list_any-append (opens n) got more ∙ or_left (may_write got n) (may_write more n) h

-- who may write a line guards it
pub write-guards : (got : List Need) (n : Node) → may_write got n ≡ true → is_guarded got n ≡ true
write-guards [] n h = absurd (false≢true h)
write-guards (w ∷ ws) n h = elim (or_cases (opens n w) (may_write ws n) h) [
  | inl e ↦ let p = and_parts (is_on w.node n) (is_alone w.mode) e in
      or_left (guards n w) _ (and_from (is_on w.node n) (is_strong w.mode) p.0 (strong-of w.mode p.1))
  | inr e ↦ or_right (guards n w) _ (write-guards ws n e)
]
  where
    strong-of : (m : Mode) → is_alone m ≡ true → is_strong m ≡ true
    strong-of m h = from_implies (is_alone m) (is_strong m) (all_modes_2-at (λ a b. implies (is_alone a) (is_strong a)) refl m m) h
