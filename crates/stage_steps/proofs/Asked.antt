-- The nodes at which a call asked.
use Rattle.std.proofs.Common.{◌≡◌, ℕ, zero, suc, ◌+◌, ◌-◌, ◌≤◌, ◌<◌, ◌==◌, Bool, true, false, List, [], ◌∷◌, ◌++◌, map, take, drop, length, slice_get, Some, None, length-append, length-drop, refl, ◌∙◌, sym, ap, arith}
use Rattle.std.specs.Prelude.{Option, option_map, is_some, if◌then◌else◌}
use Rattle.std.proofs.lemmas.Option.{slice_get_within}
use Rattle.lock_needs.specs.declared.need.Need.{Need}
use Rattle.line_view.specs.declared.writes.Write.{Write}
use Rattle.session_limits.specs.session_states.declared.stage.Work.TheVariants.{Opening, Due, Out, Lacking, Housing, Fetching, Lodging}
use Rattle.session_limits.specs.session_states.States.{is_at_rest}
use Rattle.lock_needs.specs.declared.party.OpenWant.{OpenWant}
use Rattle.lock_tree_laws.specs.Order.{without_asks}
use Rattle.session_limits.specs.session_states.declared.stage.Laying.TheVariants.{Claiming, Changing, Broken}
use Rattle.session_limits.specs.session_states.declared.stage.End.TheVariants.{Preparing, Journal, Ready, Committing, RollingBack, Leaving}
use Rattle.session_limits.specs.session_states.declared.stage.Stage.{Stage}
use Rattle.session_limits.specs.session_states.declared.stage.Stage.TheVariants.{Between, Working, Gathering, Reserving, Saying, Ending}
use Rattle.session_limits.specs.session_states.Locks.{lock_of, lock_of_write, has_journal}
use Rattle.session_limits.specs.session_states.Turns.{IsWithin}
use Rattle.stage_steps.specs.Asking.{IsOfStatement}
use Rattle.std.proofs.lemmas.Option.{none-some, same_Some}
use Rattle.std.proofs.Math.Seq.{drop-append_seam}
use Rattle.std.proofs.lemmas.List.Elements.{filter-append}
use Rattle.rdb_types.specs.declared.node.Node.{Node}
use Rattle.std.proofs.lemmas.Bool.Decides.{nat_tests}
use Rattle.vms_queues.specs.Owners.{is_owner}
use Rattle.line_store.specs.Seats.{IsMember}
use Rattle.lock_needs.specs.declared.party.Asked.{Asked}
use Rattle.lock_tree_laws.specs.Forest.{State, asks_of, opened_of}
use Rattle.lock_tree_laws.specs.Wanted.{asks_for, trail_of_want, wanted_of}

same : (s : ℕ) → (s == s) ≡ true
same s = grind arith

pub asks-mine : (s : ℕ) (ns : List Node) → asks_of (asks_for s ns) s ≡ asks_for s ns
asks-mine s [] = refl
asks-mine s (n ∷ ns) = rw (same s) (ap (λ (as' : List Asked). record { owner = s; node = n } ∷ as') (asks-mine s ns))

pub asks-grown : (s : ℕ) (t new : List Asked) (ns : List Node) → new ≡ t ++ asks_for s ns → asks_of new s ≡ asks_of t s ++ asks_for s ns
asks-grown s t new ns e = ap (λ (as' : List Asked). asks_of as' s) e ∙ (filter-append (λ (a : Asked). a.owner == s) t (asks_for s ns) ∙ ap (λ (as' : List Asked). asks_of t s ++ as') (asks-mine s ns))

nodes-of : (s : ℕ) (ns : List Node) → map (λ (a : Asked). a.node) (asks_for s ns) ≡ ns
nodes-of s [] = refl
nodes-of s (n ∷ ns) = ap (λ (ms : List Node). n ∷ ms) (nodes-of s ns)

pub asked-nodes : (s : ℕ) (t new : List Asked) (ns : List Node) → new ≡ t ++ asks_for s ns → map (λ (a : Asked). a.node) (drop (length (asks_of t s)) (asks_of new s)) ≡ ns
asked-nodes s t new ns e =
    ap (λ (as' : List Asked). map (λ (a : Asked). a.node) (drop (length (asks_of t s)) as')) (asks-grown s t new ns e)
    ∙ (ap (map (λ (a : Asked). a.node)) (drop-append_seam (asks_of t s) (asks_for s ns)) ∙ nodes-of s ns)

pub few-asked : (s : ℕ) (t new : List Asked) (ns : List Node) → new ≡ t ++ asks_for s ns → length new ≤ length t + 4 → length (asks_of new s) ≤ length (asks_of t s) + 4
few-asked s t new ns e few =
    let long = ap length e ∙ length-append t (asks_for s ns) in
    let mine = ap length (asks-grown s t new ns e) ∙ length-append (asks_of t s) (asks_for s ns) in
    omega (arith, long, mine, few)

-- ---- one node after the other

get-dropped : {A : Type 0} (b k : ℕ) (xs : List A) → slice_get (drop b xs) k ≡ slice_get xs (b + k)
get-dropped zero k xs = let e : k ≡ 0 + k = omega arith in ap (λ i. slice_get xs i) e
get-dropped (suc b) k [] = refl
get-dropped (suc b) k (x ∷ xs) = let e : suc (b + k) ≡ suc b + k = omega arith in get-dropped b k xs ∙ ap (λ i. slice_get (x ∷ xs) i) e

take-more : {A : Type 0} (xs : List A) (k : ℕ) (a : A) → slice_get xs k ≡ Some a → take (suc k) xs ≡ take k xs ++ a ∷ []
take-more [] k a h = absurd (none-some a h)
take-more (x ∷ xs) zero a h = ap (λ y. y ∷ []) (same_Some x a h)
take-more (x ∷ xs) (suc k) a h = ap (λ ys. x ∷ ys) (take-more xs k a h)

-- the entry of the node that is told
told-ask : (o : Option Asked) (n : Node) → option_map (λ (a : Asked). a.node) o ≡ Some n → (a : Asked) × (o ≡ Some a) × (a.node ≡ n)
told-ask None n h = absurd (none-some n h)
told-ask (Some a) n h = (a, refl, same_Some a.node n h)

map-one : (xs : List Asked) (a : Asked) → map (λ (b : Asked). b.node) (xs ++ a ∷ []) ≡ map (λ (b : Asked). b.node) xs ++ a.node ∷ []
map-one [] a = refl
map-one (x ∷ xs) a = ap (λ ns. x.node ∷ ns) (map-one xs a)

pub one-more-node : (asks : List Asked) (before at : ℕ) (n : Node) (nodes more : List Node) → before ≤ at → nodes ≡ map (λ (a : Asked). a.node) (take (at - before) (drop before asks)) → option_map (λ (a : Asked). a.node) (slice_get asks at) ≡ Some n →
    more ≡ nodes ++ n ∷ [] → more ≡ map (λ (a : Asked). a.node) (take ((at + 1) - before) (drop before asks))
one-more-node asks before at n nodes more low have told grown =
    let t = told-ask (slice_get asks at) n told in
    let there : before + (at - before) ≡ at = omega arith in
    let found : slice_get (drop before asks) (at - before) ≡ Some t.0 = get-dropped before (at - before) asks ∙ (ap (slice_get asks) there ∙ t.1) in
    let next : (at + 1) - before ≡ suc (at - before) = omega arith in
    grown
    ∙ (ap (λ ns. ns ++ n ∷ []) have
    ∙ (ap (λ m. map (λ (a : Asked). a.node) (take (at - before) (drop before asks)) ++ m ∷ []) (sym t.2)
    ∙ (sym (map-one (take (at - before) (drop before asks)) t.0)
    ∙ (ap (map (λ (a : Asked). a.node)) (sym (take-more (drop before asks) (at - before) t.0 found))
    ∙ ap (λ k. map (λ (a : Asked). a.node) (take k (drop before asks))) (sym next)))))

take-past : {A : Type 0} (k : ℕ) (xs : List A) → length xs ≤ k → take k xs ≡ xs
take-past zero [] h = refl
take-past zero (x ∷ xs) h = grind arith
take-past (suc k) [] h = refl
take-past (suc k) (x ∷ xs) h = ap (λ ys. x ∷ ys) (take-past k xs (omega (arith, h)))

pub all-nodes : (asks : List Asked) (before at : ℕ) (nodes : List Node) → length asks ≤ at → nodes ≡ map (λ (a : Asked). a.node) (take (at - before) (drop before asks)) → nodes ≡ map (λ (a : Asked). a.node) (drop before asks)
all-nodes asks before at nodes past have = have ∙ ap (map (λ (a : Asked). a.node)) (take-past (at - before) (drop before asks) (omega (arith, length-drop before asks, past)))

within-some : {A : Type 0} (xs : List A) (k : ℕ) → k < length xs → slice_get xs k ≡ None → ⊥
within-some [] k h e = absurd (omega (arith, h))
within-some (x ∷ xs) zero h e = none-some x (sym e)
within-some (x ∷ xs) (suc k) h e = within-some xs k (omega (arith, h)) e

pub is-told : (asks : List Asked) (at : ℕ) → at < length asks → option_map (λ (a : Asked). a.node) (slice_get asks at) ≡ None → ⊥
is-told asks at h e = by (slice_get asks at) refl e
  where
    by : (o : Option Asked) → slice_get asks at ≡ o → option_map (λ (a : Asked). a.node) o ≡ None → ⊥
    by None is e = within-some asks at h is
    by (Some a) is e = none-some a.node (sym e)

pub is-owner : (s : ℕ) → IsMember s → is_owner s ≡ true
is-owner s m = grind (arith, nat_tests, m.first, m.last)

-- the write whose lock is wanted
the-write : (o : Option Write) (n : Need) → lock_of_write o ≡ Some n → (w : Write) × (o ≡ Some w)
the-write None n h = absurd (none-some n h)
the-write (Some w) n h = (w, refl)

-- a stage that wants a lock stands at one of its writes or reservations
pub stands-within : (stage : Stage) (n : Need) → lock_of stage ≡ Some n → IsWithin stage
stands-within Between n h = tt
stands-within (Working item work) n h = tt
stands-within (Gathering item gather later place) n h = tt
stands-within (Reserving item worked locks place) n h = slice_get_within locks place n h
stands-within (Saying item worked (Claiming place)) n h =
    let w = the-write (slice_get worked.writes place) n h in
    slice_get_within worked.writes place w.0 w.1
stands-within (Saying item worked Changing) n h = tt
stands-within (Saying item worked Broken) n h = tt
stands-within (Ending end) n h = tt

-- where a statement wants a lock the store rests, and it hasn't got the journal
pub wants-at_rest : (stage : Stage) (n : Need) → IsOfStatement stage → lock_of stage ≡ Some n → is_at_rest stage ≡ true
wants-at_rest Between n of h = refl
wants-at_rest (Working item Opening) n of h = absurd (none-some n h)
wants-at_rest (Working item Due) n of h = refl
wants-at_rest (Working item Out) n of h = refl
wants-at_rest (Working item (Lacking need)) n of h = refl
wants-at_rest (Working item (Housing room key)) n of h = refl
wants-at_rest (Working item (Fetching need)) n of h = refl
wants-at_rest (Working item (Lodging room key)) n of h = refl
wants-at_rest (Gathering item gather later place) n of h = refl
wants-at_rest (Reserving item r locks place) n of h = refl
wants-at_rest (Saying item r (Claiming place)) n of h = refl
wants-at_rest (Saying item r Changing) n of h = absurd (none-some n h)
wants-at_rest (Saying item r Broken) n of h = absurd (none-some n h)
wants-at_rest (Ending end) n of h = absurd of

pub wants-without : (stage : Stage) (n : Need) → lock_of stage ≡ Some n → has_journal stage ≡ false
wants-without Between n h = refl
wants-without (Working item work) n h = refl
wants-without (Gathering item gather later place) n h = refl
wants-without (Reserving item r locks place) n h = refl
wants-without (Saying item r laying) n h = refl
wants-without (Ending Preparing) n h = refl
wants-without (Ending Journal) n h = refl
wants-without (Ending Ready) n h = absurd (none-some n h)
wants-without (Ending Committing) n h = absurd (none-some n h)
wants-without (Ending RollingBack) n h = refl
wants-without (Ending Leaving) n h = refl

-- ---- how often a want that is open was asked

without-none : (s : ℕ) (t : List Asked) → asks_of (without_asks s t) s ≡ []
without-none s [] = refl
without-none s (a ∷ t) = by (without-none s t) (a.owner == s) refl
  where
    by : asks_of (without_asks s t) s ≡ [] → (b : Bool) → (a.owner == s) ≡ b → asks_of (without_asks s (a ∷ t)) s ≡ []
    by rest true e = rw e rest
    by rest false e = rw e (rw e rest)

pub none-asked : (t : State) (s : ℕ) → None ≡ wanted_of t s → 0 ≡ length (asks_of (trail_of_want t s) s)
none-asked t s h = by (opened_of t s) refl
  where
    by : (o : Option OpenWant) → opened_of t s ≡ o → 0 ≡ length (asks_of (trail_of_want t s) s)
    by None e = sym (ap (λ (o : Option OpenWant). length (asks_of (if is_some o then t.trail else without_asks s t.trail) s)) e ∙ ap length (without-none s t.trail))
    by (Some w) e = absurd (none-some w.need (h ∙ ap (option_map (λ (v : OpenWant). v.need)) e))

pub some-asked : (t : State) (s : ℕ) (n : Need) → Some n ≡ wanted_of t s → length (asks_of t.trail s) ≡ length (asks_of (trail_of_want t s) s)
some-asked t s n h = by (opened_of t s) refl
  where
    by : (o : Option OpenWant) → opened_of t s ≡ o → length (asks_of t.trail s) ≡ length (asks_of (trail_of_want t s) s)
    by None e = absurd (none-some n (sym (ap (option_map (λ (v : OpenWant). v.need)) e) ∙ sym h))
    by (Some w) e = sym (ap (λ (o : Option OpenWant). length (asks_of (if is_some o then t.trail else without_asks s t.trail) s)) e)
