-- The order in which owners asked at a node leads round in no circle.
use Rattle.std.proofs.Common.{◌≡◌, ◌<◌, ℕ, ◌+◌, ◌==◌, ◌&&◌, ◌||◌, if◌then◌else◌, Bool, true, false, List, [], ◌∷◌, refl, sym, arith}
use Rattle.std.proofs.lemmas.Bool.{false≢true}
use Rattle.rdb_types.specs.declared.node.Node.{Node}
use Rattle.lock_needs.specs.declared.party.Asked.{Asked}
use Rattle.lock_needs.specs.Nodes.{same_node}
use Rattle.lock_needs.specs.Waits.{asked_before}

-- where the owner was first asked for at the node
abbrev pub first_at : ℕ → Node → List Asked → ℕ
first_at u n [] = 0
first_at u n (x ∷ xs) = if same_node x.node n && x.owner == u then 0 else 1 + first_at u n xs

both-false : (a b : ℕ) → a < b → 1 + a < 1 + b
both-false a b h = omega (arith, h)

apart : (a b : ℕ) → (a == b) ≡ false → (o : ℕ) → (o == a) ≡ true → (o == b) ≡ false
apart a b h o e = grind arith

-- one entry of the list
one : (here mine theirs : Bool) (p q : ℕ) → (mine ≡ true → theirs ≡ false) → (before : Bool) → (before ≡ true → p < q) → (if here && (mine || theirs) then mine else before) ≡ true →
    (if here && mine then 0 else 1 + p) < (if here && theirs then 0 else 1 + q)
one true true true p q h before k e = absurd (false≢true (sym (h refl)))
one true true false p q h before k e = omega arith
one true false true p q h before k e = absurd (false≢true e)
one true false false p q h before k e = both-false p q (k e)
one false mine theirs p q h before k e = both-false p q (k e)

pub before-first : (u a : ℕ) (n : Node) (asks : List Asked) → (u == a) ≡ false → asked_before u a n asks ≡ true → first_at u n asks < first_at a n asks
before-first u a n [] differ h = absurd (false≢true h)
before-first u a n (x ∷ xs) differ h =
    one (same_node x.node n) (x.owner == u) (x.owner == a) (first_at u n xs) (first_at a n xs) (λ e. apart u a differ x.owner e) (asked_before u a n xs) (λ e. before-first u a n xs differ e) h
