-- All that a session asks for its open want is of one need, at each place of a legal account.
use Rattle.std.proofs.Common.{◌≡◌, ℕ, ◌++◌, ◌∷◌, [], ◌==◌, ◌&&◌, ◌||◌, not, cond, Bool, true, false, List, refl, ◌∙◌, sym, ap, subst, Option, Some, None, inl, inr}
use Rattle.std.specs.List.{list_all, filter}
use Rattle.std.proofs.lemmas.Bool.{and_parts, and_from, or_left, or_right}
use Rattle.std.proofs.lemmas.Option.{none-some, same_Some}
use Rattle.std.proofs.lemmas.List.Folds.{list_all-append}
use Rattle.rdb_types.specs.declared.node.Node.{Node}
use Rattle.vms_queues.specs.declared.lock_mode.Mode.{Mode}
use Rattle.vms_queues.specs.Modes.{at_most}
use Rattle.vms_queues.proofs.ModeLaws.{all_modes_2-at}
use Rattle.lock_needs.proofs.Joins.{at_most-both}
use Rattle.lock_needs.specs.declared.need.Need.{Need}
use Rattle.lock_needs.specs.Nodes.{same_node, is_on}
use Rattle.lock_needs.proofs.NodeLaws.{same_node-true, same_node-refl}
use Rattle.rdo_ast.specs.Tree.{Uttered}
use Rattle.rdb_account.specs.Events.{Event, need, Began, Wanted, Got, Demoted, Said, Committed, RolledBack, Died, Recovered}
use Rattle.rdb_account.specs.Places.{Opening, Place, Transaction, Ask, Due, nothing, commit_reply, rollback_reply, rolls_back, start, after, place_from, place, asks_of_others, is_writer, committed_by, behind_roll_back, next_item, ended}
use Rattle.rdb_account.specs.Lawful.{want_in}
use Rattle.rdb_account.specs.AskedFor.{is_mode, is_need}
use Rattle.rdb_account.specs.Legal.{May, MayFollow, IsLegal, is_one_want}
use Rattle.lock_ties.specs.Ties.{AskForOne, MayWant}
use Rattle.lock_ties.proofs.Places.{number, turned}
use Rattle.lock_ties.proofs.Asks.{ask, want-other, want-more, want-again, want-kept, want-gone}

-- ---- one list of asks

abbrev pub AreOfOne : List Ask → Type 0
AreOfOne asks = (s : ℕ) (n : Need) → want_in s asks ≡ Some n → is_one_want s n asks ≡ true

abbrev fits : ℕ → Need → Ask → Bool
fits s n a = is_need a.need.node a.need.mode n || not (a.session == s)

mode-self : (m : Mode) → (at_most m m && at_most m m) ≡ true
mode-self m = all_modes_2-at (λ a b. at_most a a && at_most a a) refl m m

pub need-self : (n : Need) → is_need n.node n.mode n ≡ true
need-self n = and_from (same_node n.node n.node) (is_mode n.mode n) (same_node-refl n.node) (mode-self n.mode)

pub need-same : (a b : Need) → is_need a.node a.mode b ≡ true → a ≡ b
need-same a b h =
    let p = and_parts (same_node a.node b.node) (is_mode a.mode b) h in
    both a.node b.node a.mode b.mode (same_node-true a.node b.node p.0) (at_most-both a.mode b.mode p.1)
  where
    both : (x y : Node) (m k : Mode) → x ≡ y → m ≡ k → need x m ≡ need y k
    both x y m k e f = ap (λ z. need z m) e ∙ ap (λ z. need y z) f

need-turned : (a b : Need) → is_need a.node a.mode b ≡ true → is_need b.node b.mode a ≡ true
need-turned a b h = subst (λ (x : Need). is_need b.node b.mode x ≡ true) (sym (need-same a b h)) (need-self b)

-- where s has nothing asked, all is of any need
pub none-one : (s : ℕ) (n : Need) (asks : List Ask) → want_in s asks ≡ None → is_one_want s n asks ≡ true
none-one s n [] h = refl
none-one s n (a ∷ as') h =
    elim (a.session == s) as (λ b. cond b (Some a.need) (want_in s as') ≡ None → ((is_need a.need.node a.need.mode n || not b) && is_one_want s n as') ≡ true) [
      | true ↦ λ k. absurd (none-some a.need (sym k))
      | false ↦ λ k. and_from (is_need a.need.node a.need.mode n || true) (is_one_want s n as') (or_right (is_need a.need.node a.need.mode n) true refl) (none-one s n as' k)
    ] h

-- the first that s asked is of this need
first-of : (s : ℕ) (n m : Need) (asks : List Ask) → want_in s asks ≡ Some m → is_one_want s n asks ≡ true → is_need m.node m.mode n ≡ true
first-of s n m [] want h = absurd (none-some m want)
first-of s n m (a ∷ as') want h =
    elim (a.session == s) as (λ b. cond b (Some a.need) (want_in s as') ≡ Some m → ((is_need a.need.node a.need.mode n || not b) && is_one_want s n as') ≡ true → is_need m.node m.mode n ≡ true) [
      | true ↦ λ w k. subst (λ (x : Need). is_need x.node x.mode n ≡ true) (same_Some a.need m w) (unturned (is_need a.need.node a.need.mode n) (and_parts (is_need a.need.node a.need.mode n || false) (is_one_want s n as') k).0)
      | false ↦ λ w k. first-of s n m as' w (and_parts (is_need a.need.node a.need.mode n || true) (is_one_want s n as') k).1
    ] want h
  where
    unturned : (b : Bool) → (b || false) ≡ true → b ≡ true
    unturned true h = refl
    unturned false h = h

-- one more asking
one-more : (s : ℕ) (n : Need) (node : Node) (asks : List Ask) → is_one_want s n asks ≡ true → AreOfOne asks → AreOfOne (asks ++ ask s n node ∷ [])
one-more s n node asks single one t m want =
    list_all-append (fits t m) asks (ask s n node ∷ []) ∙ by (t == s) refl
  where
    both : (a b : Bool) → a ≡ true → b ≡ true → (a && (b && true)) ≡ true
    both a b h k = and_from a (b && true) h (and_from b true k refl)

    last-other : (t == s) ≡ false → fits t m (ask s n node) ≡ true
    last-other e = or_right (is_need n.node n.mode m) (not (s == t)) (ap not (turned s t e))

    mine : (w : Option Need) → want_in s asks ≡ w → want_in s (asks ++ ask s n node ∷ []) ≡ Some m → (is_one_want s m asks ≡ true) × (is_need n.node n.mode m ≡ true)
    mine None e h =
        let same : n ≡ m = same_Some n m (sym (want-more s n node asks e) ∙ h) in
        (subst (λ (x : Need). is_one_want s x asks ≡ true) same single, subst (λ (x : Need). is_need n.node n.mode x ≡ true) same (need-self n))
    mine (Some k) e h =
        let same : k ≡ m = same_Some k m (sym (want-again s n k node asks e) ∙ h) in
        subst (λ (x : Need). (is_one_want s x asks ≡ true) × (is_need n.node n.mode x ≡ true)) same
        (one s k e, need-turned k n (first-of s n k asks e single))

    by : (b : Bool) → (t == s) ≡ b → (is_one_want t m asks && (fits t m (ask s n node) && true)) ≡ true
    by false e = both (is_one_want t m asks) (fits t m (ask s n node)) (one t m (sym (want-other s t n node asks (turned s t e)) ∙ want)) (last-other e)
    by true e =
        let own = mine (want_in s asks) refl (subst (λ u. want_in u (asks ++ ask s n node ∷ []) ≡ Some m) (number t s e) want) in
        subst (λ u. (is_one_want u m asks && (fits u m (ask s n node) && true)) ≡ true) (sym (number t s e))
        (both (is_one_want s m asks) (fits s m (ask s n node)) own.0 (or_left (is_need n.node n.mode m) (not (s == s)) own.1))

all-filtered : (f g : Ask → Bool) (xs : List Ask) → list_all f xs ≡ true → list_all f (filter g xs) ≡ true
all-filtered f g [] h = refl
all-filtered f g (x ∷ xs) h =
    let p = and_parts (f x) (list_all f xs) h in
    elim (g x) as (λ b. list_all f (cond b (x ∷ filter g xs) (filter g xs)) ≡ true) [
      | true ↦ and_from (f x) (list_all f (filter g xs)) p.0 (all-filtered f g xs p.1)
      | false ↦ all-filtered f g xs p.1
    ]

-- without the asks of one session
one-others : (s : ℕ) (asks : List Ask) → AreOfOne asks → AreOfOne (asks_of_others s asks)
one-others s asks one t m want = by (t == s) refl
  where
    by : (b : Bool) → (t == s) ≡ b → is_one_want t m (asks_of_others s asks) ≡ true
    by true e = absurd (none-some m (sym (want-gone s asks) ∙ subst (λ u. want_in u (asks_of_others s asks) ≡ Some m) (number t s e) want))
    by false e = all-filtered (fits t m) (λ a. not (a.session == s)) asks (one t m (sym (want-kept s t asks e) ∙ want))

-- ---- events

committed-one : (word : List ℕ) (s m : ℕ) (x : Option Transaction) (p : Place) → AreOfOne p.asks → AreOfOne (committed_by word s m x p).asks
committed-one word s m None p h = h
committed-one word s m (Some t) p h = by (is_writer t.kind) refl
  where
    by : (b : Bool) → is_writer t.kind ≡ b → AreOfOne (committed_by word s m (Some t) p).asks
    by true e = rw e (one-others s p.asks h)
    by false e = rw e (one-others s p.asks h)

rolled-one : (s : ℕ) (due : Due) (next : Option Uttered) (p : Place) → AreOfOne p.asks → AreOfOne (behind_roll_back s due next p).asks
rolled-one s (rolls_back t) next p h = h
rolled-one s nothing (Some item) p h = h
rolled-one s (commit_reply t) (Some item) p h = h
rolled-one s (rollback_reply t) (Some item) p h = h
rolled-one s nothing None p h = h
rolled-one s (commit_reply t) None p h = h
rolled-one s (rollback_reply t) None p h = h

after-one : (o : Opening) (p : Place) (e : Event) → May o p e → AskForOne p → AskForOne (after o p e)
after-one o p (Began s k) may h = h
after-one o p (Wanted s n asked) may h = one-more s n asked p.asks (and_parts (is_on asked n.node) (is_one_want s n p.asks) may.2).1 h
after-one o p (Got s n) may h = one-others s p.asks h
after-one o p (Demoted s n from to) may h = h
after-one o p (Said s item choices reply) may h = one-others s p.asks h
after-one o p (Committed s moment) may h = committed-one o.word s moment (p.transaction s) p h
after-one o p (RolledBack s) may h = rolled-one s p.due (next_item o p s) (ended s p) (one-others s p.asks h)
after-one o p (Died s cause) may h = h
after-one o p (Recovered s true moment) may h = committed-one o.word s moment (p.transaction s) p h
after-one o p (Recovered s false moment) may h = one-others s p.asks h

pub place-one : (o : Opening) (p : Place) (es : List Event) → MayFollow o p es → AskForOne p → AskForOne (place_from o p es)
place-one o p [] may h = h
place-one o p (e ∷ es) may h = place-one o (after o p e) es may.1 (after-one o p e may.0 h)

pub legal-one : (o : Opening) (events : List Event) → IsLegal o events → AskForOne (place o events)
legal-one o events legal = place-one o (start o) events legal.steps (λ s n want. absurd (none-some n want))

-- so a session may want what it wants already, and anything where it wants nothing
pub may-want : (p : Place) (s : ℕ) (n : Need) → AskForOne p → MayWant p s n → is_one_want s n p.asks ≡ true
may-want p s n one (inl none) = none-one s n p.asks none
may-want p s n one (inr some) = one s n some
