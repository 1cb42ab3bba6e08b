-- Nodes: one is the same as itself alone.
use Rattle.std.proofs.Common.{◌≡◌, ◌⊎◌, inl, inr, Bool, true, false, refl, sym, ◌∙◌, subst, rules}
use Rattle.std.specs.Prelude.{◌==◌, ◌&&◌}
use Rattle.std.proofs.lemmas.Bool.{false≢true, cases_Bool, and_parts, and_from, eqb-true, eq-eqb}
use Rattle.rdb_types.specs.declared.node.Node.{Node}
use Rattle.rdb_types.specs.declared.node.Level.{Level}
use Rattle.rdb_types.specs.declared.node.Level.TheVariants.{Area, Range, Page, Line, Journal}
use Rattle.rdb_types.specs.contracts.node.LevelPartialEq.TheImpl as level_eq
use Rattle.rdb_types.specs.contracts.node.Level.{the_type}
use denote.Enum.Bare.{same_true}
use Rattle.vms_locks.specs.Table.{same_node}

abbrev same_level : Level → Level → Bool
same_level = (level_eq.ghosts).eq

same_level-refl : (a : Level) → same_level a a ≡ true
same_level-refl Area = refl
same_level-refl Range = refl
same_level-refl Page = refl
same_level-refl Line = refl
same_level-refl Journal = refl

same_level-true : (a b : Level) → same_level a b ≡ true → a ≡ b
same_level-true a b h = same_true the_type (search rules) a b h

pub same_node-refl : (a : Node) → same_node a a ≡ true
same_node-refl a = and_from _ _ (same_level-refl a.level) (and_from _ _ (eq-eqb a.area a.area refl) (and_from _ _ (eq-eqb a.at a.at refl) (eq-eqb a.line a.line refl)))

node-by_parts : (a b : Node) → a.level ≡ b.level → a.area ≡ b.area → a.at ≡ b.at → a.line ≡ b.line → a ≡ b
node-by_parts a b level area at line = λ i. record { level = level i; area = area i; at = at i; line = line i }

pub same_node-true : (a b : Node) → same_node a b ≡ true → a ≡ b
same_node-true a b h =
    let p = and_parts (same_level a.level b.level) (a.area == b.area && (a.at == b.at && a.line == b.line)) h in
    let q = and_parts (a.area == b.area) (a.at == b.at && a.line == b.line) p.1 in
    let r = and_parts (a.at == b.at) (a.line == b.line) q.1 in
    node-by_parts a b (same_level-true a.level b.level p.0) (eqb-true a.area b.area q.0) (eqb-true a.at b.at r.0) (eqb-true a.line b.line r.1)

-- two nodes are one, or `==` says that they aren't
pub node-cases : (a b : Node) → (a ≡ b) ⊎ (same_node a b ≡ false)
node-cases a b = elim (cases_Bool (same_node a b)) [ inl e ↦ inl (same_node-true a b e) | inr n ↦ inr n ]

pub not-same : (a b : Node) → same_node a b ≡ false → a ≡ b → ⊥
not-same a b n e = false≢true (sym n ∙ subst (λ (k : Node). same_node a k ≡ true) e (same_node-refl a))

pub same_node-apart : (a b : Node) → same_node a b ≡ false → same_node b a ≡ false
same_node-apart a b n = elim (node-cases b a) [ inl e ↦ absurd (not-same a b n (sym e)) | inr m ↦ m ]
