-- The list of what was asked, in the order of asking.
use Rattle.std.proofs.Common.{◌≡◌, ℕ, ◌++◌, ◌∷◌, [], Bool, true, false, List, refl, ◌∙◌, sym, ap, subst, inl, inr}
use Rattle.std.specs.Prelude.{◌==◌, not, ◌&&◌, ◌||◌, if◌then◌else◌}
use Rattle.std.specs.List.{filter}
use Rattle.std.proofs.lemmas.Bool.{false≢true, cases_Bool, eqb-true, and_parts, and_from, or_parts, or_cases, or_left, not_from_false}
use Rattle.std.proofs.lemmas.List.Folds.{list_any-append}
use Rattle.rdb_types.specs.declared.node.Node.{Node}
use Rattle.lock_needs.specs.declared.party.Asked.{Asked}
use Rattle.lock_needs.specs.Nodes.{same_node}
use Rattle.lock_needs.specs.Waits.{asked_before}
use Rattle.lock_tree_laws.specs.Order.{is_listed, asked_last, without_asks}

pub before-push : (u a : ℕ) (n : Node) (asks : List Asked) (e : Asked) → asked_before u a n asks ≡ true → asked_before u a n (asks ++ e ∷ []) ≡ true
before-push u a n [] e h = absurd (false≢true h)
before-push u a n (x ∷ xs) e h =
    elim (cases_Bool (same_node x.node n && (x.owner == u || x.owner == a))) [
      | inl t ↦ ap (λ (b : Bool). if b then x.owner == u else asked_before u a n (xs ++ e ∷ [])) t ∙ (sym (ap (λ (b : Bool). if b then x.owner == u else asked_before u a n xs) t) ∙ h)
      | inr t ↦ ap (λ (b : Bool). if b then x.owner == u else asked_before u a n (xs ++ e ∷ [])) t ∙ before-push u a n xs e (sym (ap (λ (b : Bool). if b then x.owner == u else asked_before u a n xs) t) ∙ h)
    ]

-- who is in the list came before who isn't yet
pub before-last : (u o : ℕ) (n : Node) (asks es : List Asked) → is_listed u n asks ≡ true → is_listed o n asks ≡ false → asked_before u o n (asks ++ es) ≡ true
before-last u o n [] es h f = absurd (false≢true h)
before-last u o n (x ∷ xs) es h f =
    let p = or_parts (same_node x.node n && (x.owner == o)) (is_listed o n xs) f in
    elim (cases_Bool (same_node x.node n && (x.owner == u))) [
      | inl t ↦
          let q = and_parts (same_node x.node n) (x.owner == u) t in
          ap (λ (b : Bool). if b then x.owner == u else asked_before u o n (xs ++ es))
          (and_from (same_node x.node n) (x.owner == u || x.owner == o) q.0 (or_left (x.owner == u) (x.owner == o) q.1))
          ∙ q.1
      | inr t ↦
          let later : is_listed u n xs ≡ true = elim (or_cases (same_node x.node n && (x.owner == u)) (is_listed u n xs) h) [ inl y ↦ absurd (false≢true (sym t ∙ y)) | inr y ↦ y ] in
          ap (λ (b : Bool). if b then x.owner == u else asked_before u o n (xs ++ es)) (neither (same_node x.node n) (x.owner == u) (x.owner == o) t p.0)
          ∙ before-last u o n xs es later p.1
    ]
  where
    neither : (s p q : Bool) → (s && p) ≡ false → (s && q) ≡ false → (s && (p || q)) ≡ false
    neither false p q h k = refl
    neither true false q h k = k
    neither true true q h k = absurd (false≢true (sym h))

pub listed-last : (u o : ℕ) (n x : Node) (asks : List Asked) → is_listed u x (asked_last asks o n) ≡ (is_listed u x asks || (same_node n x && (o == u)))
listed-last u o n x asks =
    list_any-append (λ (a : Asked). same_node a.node x && (a.owner == u)) asks ((record { owner = o; node = n }) ∷ [])
    ∙ ap (λ (b : Bool). is_listed u x asks || b) (or-false (same_node n x && (o == u)))
  where
    or-false : (b : Bool) → (b || false) ≡ b
    or-false true = refl
    or-false false = refl

-- ---- entries that are taken out

pub before-filter : (p : Asked → Bool) (u a : ℕ) (n : Node) (asks : List Asked) → ((x : Asked) → (same_node x.node n && (x.owner == u || x.owner == a)) ≡ true → p x ≡ true) → asked_before u a n (filter p asks) ≡ asked_before u a n asks
before-filter p u a n [] f = refl
before-filter p u a n (x ∷ xs) f =
    elim (cases_Bool (p x)) [
      | inl t ↦ ap (λ (b : Bool). asked_before u a n (if b then x ∷ filter p xs else filter p xs)) t
          ∙ ap (λ (y : Bool). if same_node x.node n && (x.owner == u || x.owner == a) then x.owner == u else y) (before-filter p u a n xs f)
      | inr d ↦
          let off : (same_node x.node n && (x.owner == u || x.owner == a)) ≡ false = elim (cases_Bool (same_node x.node n && (x.owner == u || x.owner == a))) [
            | inr g ↦ g
            | inl t ↦ absurd (false≢true (sym d ∙ f x t))
          ] in
          ap (λ (b : Bool). asked_before u a n (if b then x ∷ filter p xs else filter p xs)) d
          ∙ (before-filter p u a n xs f ∙ sym (ap (λ (b : Bool). if b then x.owner == u else asked_before u a n xs) off))
    ]

pub listed-filter : (p : Asked → Bool) (u : ℕ) (n : Node) (asks : List Asked) → ((x : Asked) → (same_node x.node n && (x.owner == u)) ≡ true → p x ≡ true) → is_listed u n (filter p asks) ≡ is_listed u n asks
listed-filter p u n [] f = refl
listed-filter p u n (x ∷ xs) f =
    elim (cases_Bool (p x)) [
      | inl t ↦ ap (λ (b : Bool). is_listed u n (if b then x ∷ filter p xs else filter p xs)) t
          ∙ ap (λ (y : Bool). (same_node x.node n && (x.owner == u)) || y) (listed-filter p u n xs f)
      | inr d ↦
          let off : (same_node x.node n && (x.owner == u)) ≡ false = elim (cases_Bool (same_node x.node n && (x.owner == u))) [
            | inr g ↦ g
            | inl t ↦ absurd (false≢true (sym d ∙ f x t))
          ] in
          ap (λ (b : Bool). is_listed u n (if b then x ∷ filter p xs else filter p xs)) d
          ∙ (listed-filter p u n xs f ∙ sym (ap (λ (b : Bool). b || is_listed u n xs) off))
    ]

pub listed-none : (p : Asked → Bool) (u : ℕ) (n : Node) (asks : List Asked) → ((x : Asked) → (same_node x.node n && (x.owner == u)) ≡ true → p x ≡ false) → is_listed u n (filter p asks) ≡ false
listed-none p u n [] f = refl
listed-none p u n (x ∷ xs) f =
    elim (cases_Bool (p x)) [
      | inr d ↦ ap (λ (b : Bool). is_listed u n (if b then x ∷ filter p xs else filter p xs)) d ∙ listed-none p u n xs f
      | inl t ↦
          let off : (same_node x.node n && (x.owner == u)) ≡ false = elim (cases_Bool (same_node x.node n && (x.owner == u))) [
            | inr g ↦ g
            | inl g ↦ absurd (false≢true (sym (f x g) ∙ t))
          ] in
          ap (λ (b : Bool). is_listed u n (if b then x ∷ filter p xs else filter p xs)) t
          ∙ (ap (λ (b : Bool). b || is_listed u n (filter p xs)) off ∙ listed-none p u n xs f)
    ]

-- an entry of another
another : (x : Asked) (u o : ℕ) → (u == o) ≡ false → (x.owner == u) ≡ true → not (x.owner == o) ≡ true
another x u o d e = not_from_false (x.owner == o) (subst (λ (z : ℕ). (z == o) ≡ false) (sym (eqb-true x.owner u e)) d)

pub listed-without : (u o : ℕ) (n : Node) (asks : List Asked) → (u == o) ≡ false → is_listed u n (without_asks o asks) ≡ is_listed u n asks
listed-without u o n asks d = listed-filter (λ a. not (a.owner == o)) u n asks (λ x t. another x u o d (and_parts (same_node x.node n) (x.owner == u) t).1)

pub unlisted-without : (o : ℕ) (n : Node) (asks : List Asked) → is_listed o n (without_asks o asks) ≡ false
unlisted-without o n asks = listed-none (λ a. not (a.owner == o)) o n asks (λ x t. ap not (and_parts (same_node x.node n) (x.owner == o) t).1)

pub before-without : (u a o : ℕ) (n : Node) (asks : List Asked) → (u == o) ≡ false → (a == o) ≡ false → asked_before u a n (without_asks o asks) ≡ asked_before u a n asks
before-without u a o n asks d e =
    before-filter (λ a. not (a.owner == o)) u a n asks
    (λ x t. elim (or_cases (x.owner == u) (x.owner == a) (and_parts (same_node x.node n) (x.owner == u || x.owner == a) t).1) [ inl y ↦ another x u o d y | inr y ↦ another x a o e y ])
