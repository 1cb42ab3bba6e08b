-- The last account of a workload, apart from the earlier ones.
use Rattle.std.proofs.Common.{◌≡◌, ◌+◌, Bool, true, false, ◌||◌, List, [], ◌∷◌, ◌++◌, length, inl, inr, refl, sym, subst, ap, ◌∙◌, arith}
use Rattle.std.proofs.lemmas.Bool.{or_parts, false≢true}
use Rattle.rdb_account.specs.declared.event.Event.{Event}
use Rattle.workload_replies.specs.Replies.{has_death}
use Rattle.workload_runs.specs.Statuses.{have_death, last_of}
use Rattle.rdb_top.specs.Workloads.{EndIn}

last-behind : (earlier : List (List Event)) (last : List Event) → last_of (earlier ++ last ∷ []) ≡ last
last-behind [] last = refl
last-behind (e ∷ []) last = refl
last-behind (e ∷ d ∷ es) last = last-behind (d ∷ es) last

pub is-last : (all earlier : List (List Event)) (last : List Event) → EndIn all earlier last → last_of all ≡ last
is-last all earlier last (inl is) = ap last_of is ∙ last-behind earlier last
is-last all earlier last (inr (none, first, nothing)) = ap last_of none ∙ sym nothing

one-more : (earlier : List (List Event)) (last : List Event) → length (earlier ++ last ∷ []) ≡ length earlier + 1
one-more [] last = refl
one-more (e ∷ es) last = let more = one-more es last in omega (arith, more)

pub three-end : (all earlier : List (List Event)) (last : List Event) → EndIn all earlier last → length all ≡ 3 → length earlier ≡ 2
three-end all earlier last (inl is) three = let more = ap (λ (xs : List (List Event)). length xs) is ∙ one-more earlier last in omega (arith, more, three)
three-end all earlier last (inr (none, first, nothing)) three = absurd (let no = ap (λ (xs : List (List Event)). length xs) none in omega (arith, no, three))

lived-behind : (earlier : List (List Event)) (last : List Event) → have_death (earlier ++ last ∷ []) ≡ false → (have_death earlier ≡ false) × (has_death last ≡ false)
lived-behind [] last h = (refl, (or_parts (has_death last) false h).0)
lived-behind (e ∷ es) last h =
    let parts = or_parts (has_death e) (have_death (es ++ last ∷ [])) h in
    let rest = lived-behind es last parts.1 in
    (neither (has_death e) (have_death es) parts.0 rest.0, rest.1)
  where
    neither : (a b : Bool) → a ≡ false → b ≡ false → (a || b) ≡ false
    neither false b x y = y
    neither true b x y = absurd (false≢true (sym x))

pub lived-end : (all earlier : List (List Event)) (last : List Event) → EndIn all earlier last → have_death all ≡ false → (have_death earlier ≡ false) × (has_death last ≡ false)
lived-end all earlier last (inl is) lived = lived-behind earlier last (subst (λ (xs : List (List Event)). have_death xs ≡ false) is lived)
lived-end all earlier last (inr (none, first, nothing)) lived = (subst (λ (xs : List (List Event)). have_death xs ≡ false) (sym first) refl, subst (λ (xs : List Event). has_death xs ≡ false) (sym nothing) refl)
