-- Entries of the trail: what is cut, and what is added.
use Rattle.std.proofs.Common.{◌≡◌, ℕ, ◌++◌, ◌∷◌, [], Bool, true, false, List, refl, sym, ◌∙◌, ap, subst, inl, inr}
use Rattle.std.specs.Prelude.{◌==◌, not, ◌&&◌, ◌||◌, if◌then◌else◌, Some, None}
use Rattle.std.specs.List.{list_any}
use Rattle.std.proofs.lemmas.Bool.{false≢true, cases_Bool, eq-eqb, eqb-true}
use Rattle.std.proofs.lemmas.List.Folds.{list_any-append}
use Rattle.rdb_types.specs.declared.node.Node.{Node}
use Rattle.lock_needs.specs.declared.party.OpenWant.{OpenWant}
use Rattle.lock_needs.specs.declared.party.Asked.{Asked}
use Rattle.lock_needs.specs.Nodes.{same_node, contains, above_of}
use Rattle.lock_needs.proofs.NodeLaws.{same_node-true, same_node-sym}
use Rattle.lock_needs.proofs.Above.{top-alone}
use Rattle.lock_tree_laws.specs.Parties.{was_asked, unasked, asked_at}
use Rattle.lock_tree_laws.specs.Forest.{is_asked_at, HasAsks, KeepsAsks}
use Rattle.lock_tree_laws.specs.Order.{asks_cut}

any-kept : (t : Asked → Bool) (p : Bool) (a : Asked) (rest : List Asked) → list_any t (if p then a ∷ rest else rest) ≡ ((p && t a) || list_any t rest)
any-kept t true a rest = refl
any-kept t false a rest = refl

-- ---- what is cut

bool-own : (o s v w r : Bool) → (s ≡ true → v ≡ w) → (((not o || v) && (o && s)) || (r && w)) ≡ (((o && s) || r) && w)
bool-own false s v w r h = refl
bool-own true false true w r h = refl
bool-own true false false w r h = refl
bool-own true true true true r h = refl
bool-own true true false false true h = refl
bool-own true true false false false h = refl
bool-own true true true false r h = absurd (false≢true (sym (h refl)))
bool-own true true false true r h = absurd (false≢true (h refl))

pub cut-own : (owner : ℕ) (w : OpenWant) (n : Node) (trail : List Asked) → is_asked_at (asks_cut owner w trail) owner n ≡ (is_asked_at trail owner n && was_asked w n)
cut-own owner w n [] = refl
cut-own owner w n (a ∷ trail) =
    let t : Asked → Bool = λ a. (a.owner == owner) && same_node a.node n in
    let rest : List Asked = asks_cut owner w trail in
    any-kept t (not (a.owner == owner) || was_asked w a.node) a rest
    ∙ (ap (λ (b : Bool). ((not (a.owner == owner) || was_asked w a.node) && t a) || b) (cut-own owner w n trail)
    ∙ bool-own (a.owner == owner) (same_node a.node n) (was_asked w a.node) (was_asked w n) (is_asked_at trail owner n)
    (λ s. ap (was_asked w) (same_node-true a.node n s)))

bool-other : (o x s v r : Bool) → (x ≡ true → o ≡ false) → (((not o || v) && (x && s)) || r) ≡ ((x && s) || r)
bool-other false x s v r h = refl
bool-other true false s true r h = refl
bool-other true false s false r h = refl
bool-other true true s v r h = absurd (false≢true (sym (h refl)))

pub cut-others : (owner : ℕ) (w : OpenWant) (trail : List Asked) → KeepsAsks owner trail (asks_cut owner w trail)
cut-others owner w [] u n d = refl
cut-others owner w (a ∷ trail) u n d =
    let t : Asked → Bool = λ a. (a.owner == u) && same_node a.node n in
    any-kept t (not (a.owner == owner) || was_asked w a.node) a (asks_cut owner w trail)
    ∙ (ap (λ (b : Bool). ((not (a.owner == owner) || was_asked w a.node) && t a) || b) (cut-others owner w trail u n d)
    ∙ bool-other (a.owner == owner) (a.owner == u) (same_node a.node n) (was_asked w a.node) (is_asked_at trail u n)
    (λ s. subst (λ (z : ℕ). (z == owner) ≡ false) (sym (eqb-true a.owner u s)) d))

and-none : (s : Bool) → (s && false) ≡ false
and-none true = refl
and-none false = refl

-- a want that opens was asked nowhere
pub never-asked : (w : OpenWant) → w ≡ unasked w → above_of w.here ≡ None → (n : Node) → was_asked w n ≡ false
never-asked w fresh top n = subst (λ (v : OpenWant). was_asked v n ≡ false) (sym fresh) (ap (λ (b : Bool). b || (same_node n w.here && false)) (top-alone w.here n top) ∙ and-none (same_node n w.here))

pub asks-opening : (owner : ℕ) (w : OpenWant) (trail cut : List Asked) → w ≡ unasked w → above_of w.here ≡ None → ((n : Node) → is_asked_at cut owner n ≡ (is_asked_at trail owner n && was_asked w n)) → HasAsks cut owner (Some w)
asks-opening owner w trail cut fresh top own n =
    let never : was_asked w n ≡ false = never-asked w fresh top n in
    own n ∙ (ap (λ (b : Bool). is_asked_at trail owner n && b) never ∙ (and-none (is_asked_at trail owner n) ∙ sym never))

-- ---- what is added

abbrev pub entry_of : ℕ → Node → Asked
entry_of owner n = record { owner = owner; node = n }

or-none : (b : Bool) → (b || false) ≡ b
or-none true = refl
or-none false = refl

pub pushed-own : (owner : ℕ) (m n : Node) (trail : List Asked) → is_asked_at (trail ++ entry_of owner m ∷ []) owner n ≡ (is_asked_at trail owner n || same_node m n)
pushed-own owner m n trail =
    list_any-append (λ a. (a.owner == owner) && same_node a.node n) trail (entry_of owner m ∷ [])
    ∙ ap (λ (b : Bool). is_asked_at trail owner n || b) (or-none ((owner == owner) && same_node m n) ∙ ap (λ (b : Bool). b && same_node m n) (eq-eqb owner owner refl))

pub pushed-others : (owner : ℕ) (m : Node) (trail : List Asked) → KeepsAsks owner trail (trail ++ entry_of owner m ∷ [])
pushed-others owner m trail u n d =
    list_any-append (λ a. (a.owner == u) && same_node a.node n) trail (entry_of owner m ∷ [])
    ∙ (ap (λ (b : Bool). is_asked_at trail u n || ((b && same_node m n) || false)) apart ∙ or-none (is_asked_at trail u n))
  where
    apart : (owner == u) ≡ false
    apart = elim (cases_Bool (owner == u)) [
      | inr f ↦ f
      | inl t ↦ absurd (false≢true (sym d ∙ eq-eqb u owner (sym (eqb-true owner u t))))
    ]

same_node-comm : (a b : Node) → same_node a b ≡ same_node b a
same_node-comm a b = elim (cases_Bool (same_node a b)) [
  | inl t ↦ t ∙ sym (same_node-sym a b t)
  | inr f ↦ f ∙ sym (elim (cases_Bool (same_node b a)) [
    | inr g ↦ g
    | inl t ↦ absurd (false≢true (sym f ∙ same_node-sym b a t))
  ])
]

bool-here : (c s : Bool) → ((c || (s && false)) || s) ≡ (c || (s && true))
bool-here true s = refl
bool-here false true = refl
bool-here false false = refl

-- the want is asked at its node
pub asks-pushed : (owner : ℕ) (w : OpenWant) (trail : List Asked) → HasAsks trail owner (Some (unasked w)) → HasAsks (trail ++ entry_of owner w.here ∷ []) owner (Some (asked_at w w.here))
asks-pushed owner w trail asks n =
    pushed-own owner w.here n trail
    ∙ (ap (λ (b : Bool). b || same_node w.here n) (asks n)
    ∙ (ap (λ (b : Bool). (contains n w.here || (same_node n w.here && false)) || b) (same_node-comm w.here n) ∙ bool-here (contains n w.here) (same_node n w.here)))

-- ---- a want asked at fewer nodes
