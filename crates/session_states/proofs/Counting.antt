-- The store stays within the account's counts as a session's transaction ends, and where the store alone moves.
use Rattle.std.proofs.Common.{◌≡◌, ◌≤◌, ℕ, ◌+◌, arith, true, false, List, [], length, refl, ◌∙◌, sym, ap, subst, Option, Some, None, is_some}
use Rattle.std.proofs.lemmas.Bool.{false≢true}
use Rattle.std.proofs.lemmas.Option.{none-some, same_Some}
use Rattle.line_view.specs.declared.writes.Write.{Write}
use Rattle.rdb_account.specs.Events.{Event, Committed}
use Rattle.rdb_account.specs.Places.{Opening, Place, Transaction, after, place_from, at, is_writer, committed_by}
use Rattle.line_store.specs.Seats.{Seat, outside, beginning, writing, changing, broken, prepared, committing, rolling_back, closing, reading, copying, dead, writes_of, set_aside, done_at, failed_at, died, committing_by, rolled_back}
use Rattle.line_store.specs.Shelves.{Shelf}
use Rattle.line_store.specs.Calls.{Moves, Commits, KeepsOthers}
use Rattle.line_steps.proofs.of_lock_ties.Places.{at-same, at-other}
use Rattle.store_counts.specs.Counts.{IsCounted}
use Rattle.store_counts.specs.Events.{CountNothing}
use Rattle.store_counts.proofs.Places.{stay-gone}
use Rattle.store_counts.proofs.Kept.{wants-still, counted-on, counted-events, counted-stays, counted-commits}

-- ---- what a seat has of writes

pub rolled-writes : (seat : Seat) → writes_of (rolled_back seat) ≡ writes_of seat
rolled-writes outside = refl
rolled-writes beginning = refl
rolled-writes (writing ws) = refl
rolled-writes (changing ws) = refl
rolled-writes (broken ws) = refl
rolled-writes (prepared ws) = refl
rolled-writes (committing ws) = refl
rolled-writes (rolling_back ws) = refl
rolled-writes closing = refl
rolled-writes (reading start) = refl
rolled-writes (copying number start) = refl
rolled-writes (dead commits ws) = refl

pub committing-writes : (seat : Seat) → writes_of (committing_by seat) ≡ writes_of seat
committing-writes outside = refl
committing-writes beginning = refl
committing-writes (writing ws) = refl
committing-writes (changing ws) = refl
committing-writes (broken ws) = refl
committing-writes (prepared ws) = refl
committing-writes (committing ws) = refl
committing-writes (rolling_back ws) = refl
committing-writes closing = refl
committing-writes (reading start) = refl
committing-writes (copying number start) = refl
committing-writes (dead commits ws) = refl

pub failed-writes : (seat : Seat) → writes_of (failed_at seat) ≡ writes_of seat
failed-writes outside = refl
failed-writes beginning = refl
failed-writes (writing ws) = refl
failed-writes (changing ws) = refl
failed-writes (broken ws) = refl
failed-writes (prepared ws) = refl
failed-writes (committing ws) = refl
failed-writes (rolling_back ws) = refl
failed-writes closing = refl
failed-writes (reading start) = refl
failed-writes (copying number start) = refl
failed-writes (dead commits ws) = refl

-- ---- what is set aside

pub rolled-aside : (seat : Seat) → set_aside (rolled_back seat) ≤ set_aside seat
rolled-aside outside = omega arith
rolled-aside beginning = omega arith
rolled-aside (writing ws) = omega arith
rolled-aside (changing ws) = omega arith
rolled-aside (broken ws) = omega arith
rolled-aside (prepared ws) = omega arith
rolled-aside (committing ws) = omega arith
rolled-aside (rolling_back ws) = omega arith
rolled-aside closing = omega arith
rolled-aside (reading start) = omega arith
rolled-aside (copying number start) = omega arith
rolled-aside (dead commits ws) = omega arith

pub committing-aside : (seat : Seat) → set_aside (committing_by seat) ≤ set_aside seat
committing-aside outside = omega arith
committing-aside beginning = omega arith
committing-aside (writing ws) = omega arith
committing-aside (changing ws) = omega arith
committing-aside (broken ws) = omega arith
committing-aside (prepared ws) = omega arith
committing-aside (committing ws) = omega arith
committing-aside (rolling_back ws) = omega arith
committing-aside closing = omega arith
committing-aside (reading start) = omega arith
committing-aside (copying number start) = omega arith
committing-aside (dead commits ws) = omega arith

pub failed-aside : (seat : Seat) → set_aside (failed_at seat) ≤ set_aside seat
failed-aside outside = omega arith
failed-aside beginning = omega arith
failed-aside (writing ws) = omega arith
failed-aside (changing ws) = omega arith
failed-aside (broken ws) = omega arith
failed-aside (prepared ws) = omega arith
failed-aside (committing ws) = omega arith
failed-aside (rolling_back ws) = omega arith
failed-aside closing = omega arith
failed-aside (reading start) = omega arith
failed-aside (copying number start) = omega arith
failed-aside (dead commits ws) = omega arith

pub died-aside : (seat : Seat) → set_aside (died seat) ≤ set_aside seat
died-aside outside = omega arith
died-aside beginning = omega arith
died-aside (writing ws) = omega arith
died-aside (changing ws) = omega arith
died-aside (broken ws) = omega arith
died-aside (prepared ws) = omega arith
died-aside (committing ws) = omega arith
died-aside (rolling_back ws) = omega arith
died-aside closing = omega arith
died-aside (reading start) = omega arith
died-aside (copying number start) = omega arith
died-aside (dead commits ws) = omega arith

pub done-aside : (seat there : Seat) → done_at seat ≡ Some there → set_aside there ≡ 0
done-aside outside there h = absurd (none-some there h)
done-aside beginning there h = ap set_aside (same_Some there (writing []) (sym h))
done-aside (writing ws) there h = absurd (none-some there h)
done-aside (changing ws) there h = ap set_aside (same_Some there (writing ws) (sym h))
done-aside (broken ws) there h = absurd (none-some there h)
done-aside (prepared ws) there h = absurd (none-some there h)
done-aside (committing ws) there h = absurd (none-some there h)
done-aside (rolling_back ws) there h = ap set_aside (same_Some there outside (sym h))
done-aside closing there h = ap set_aside (same_Some there outside (sym h))
done-aside (reading start) there h = absurd (none-some there h)
done-aside (copying number start) there h = ap set_aside (same_Some there (reading start) (sym h))
done-aside (dead commits ws) there h = absurd (none-some there h)

-- ---- the store alone moves

-- with the same writes, and no more set aside
pub counted-moved : (o : Opening) (p : Place) (s : ℕ) (seat : Seat) (h k : Shelf) → Moves s seat h k → (is_some (p.transaction s) ≡ true → writes_of seat ≡ writes_of (h.seat s)) → set_aside seat ≤ set_aside (h.seat s) → IsCounted o p h → IsCounted o p k
counted-moved o p s seat h k moves same fewer c =
    counted-on o p s h k c moves.others moves.now moves.space (λ e. ap writes_of moves.mine ∙ same e) (wants-still o p s h k c (subst (λ (x : Seat). set_aside x ≤ set_aside (h.seat s)) (sym moves.mine) fewer))

pub none-more : (seat was : Seat) → set_aside seat ≡ 0 → set_aside seat ≤ set_aside was
none-more seat was idle = omega (arith, idle)

-- ---- a transaction ends

never-open : {A : Type 0} (x : Option A) → x ≡ None → is_some x ≡ true → ⊥
never-open x e h = false≢true (sym (ap is_some e) ∙ h)

-- where none is open any more
pub counted-over : (o : Opening) (p : Place) (s : ℕ) (seat : Seat) (h k : Shelf) → Moves s seat h k → set_aside seat ≡ 0 → p.transaction s ≡ None → IsCounted o p h → IsCounted o p k
counted-over o p s seat h k moves idle none c = counted-moved o p s seat h k moves (λ e. absurd (never-open (p.transaction s) none e)) (none-more seat (h.seat s) idle) c

-- what was set aside for it is free, and then these events end it
pub counted-ended : (o : Opening) (p : Place) (es : List Event) (s : ℕ) (seat : Seat) (h k : Shelf) → ((x : Shelf) → set_aside (x.seat s) ≡ 0 → CountNothing x es) → set_aside seat ≡ 0 → (place_from o p es).transaction s ≡ None → Moves s seat h k → IsCounted o p h → IsCounted o (place_from o p es) k
counted-ended o p es s seat h k nothing idle none moves c =
    counted-over o (place_from o p es) s seat mid k
    (record { now = moves.now; mine = moves.mine; others = record { seat = λ t e. moves.others.seat t e ∙ sym (at-other s t freed h.seat e); steps = moves.others.steps; later = moves.others.later }; space = moves.space })
    idle none (counted-events o p es mid (nothing mid (ap set_aside (at-same s freed h.seat))) middle)
  where
    freed : Seat
    freed = rolling_back (writes_of (h.seat s))

    mid : Shelf
    mid = record h { seat = at s freed h.seat }

    others : KeepsOthers s h mid
    others = record { seat = λ t e. at-other s t freed h.seat e; steps = λ t e. refl; later = record { later = omega arith; no_fewer = omega arith } }

    middle : IsCounted o p mid
    middle =
        counted-on o p s h mid c others refl (record { limits = refl; taken = λ file page. refl; snaps = omega arith; slots = omega arith }) (λ e. ap writes_of (at-same s freed h.seat))
        (wants-still o p s h mid c (none-more (mid.seat s) (h.seat s) (ap set_aside (at-same s freed h.seat))))

-- ---- a commit

record Counted (x : Transaction) (p q : Place) : Type 0 where
  pub touched : q.touched ≡ p.touched
  pub pairs : q.pairs ≡ p.pairs
  pub slots : q.slots ≡ p.slots + (1 + length x.written)

committed-counts : (word : List ℕ) (p : Place) (s moment : ℕ) (x : Transaction) → is_writer x.kind ≡ true → Counted x p (committed_by word s moment (Some x) p)
committed-counts word p s moment x writes = record { touched = rw writes refl; pairs = rw writes refl; slots = rw writes refl }

-- behind the event of a commit, told of the place that it leads to
pub counted-committed : (o : Opening) (p q : Place) (s moment : ℕ) (x : Transaction) (ws : List Write) (seat : Seat) (h k : Shelf) → p.transaction s ≡ Some x → is_writer x.kind ≡ true → ws ≡ writes_of (h.seat s) → Commits s ws seat moment h k →
    set_aside seat ≡ 0 → ((t : ℕ) → q.transaction t ≡ at s None p.transaction t) → q.touched ≡ (committed_by o.word s moment (p.transaction s) p).touched → q.pairs ≡ (committed_by o.word s moment (p.transaction s) p).pairs → q.slots ≡ (committed_by o.word s moment (p.transaction s) p).slots →
    IsCounted o p h → IsCounted o q k
counted-committed o p q s moment x ws seat h k is_open writes are co idle gone touched pairs slots c =
    let e = committed-counts o.word p s moment x writes in
    counted-commits o p q s x ws seat moment h k is_open are co idle gone
    (touched ∙ (ap (λ (z : Option Transaction). (committed_by o.word s moment z p).touched) is_open ∙ e.touched))
    (pairs ∙ (ap (λ (z : Option Transaction). (committed_by o.word s moment z p).pairs) is_open ∙ e.pairs))
    (slots ∙ (ap (λ (z : Option Transaction). (committed_by o.word s moment z p).slots) is_open ∙ e.slots)) c

-- a reader's COMMIT counts nothing
pub reader-committed : (o : Opening) (p : Place) (s moment : ℕ) (x : Transaction) (h : Shelf) → p.transaction s ≡ Some x → is_writer x.kind ≡ false → set_aside (h.seat s) ≡ 0 → ((t : ℕ) → (after o p (Committed s moment)).transaction t ≡ at s None p.transaction t) → IsCounted o p h → IsCounted o (after o p (Committed s moment)) h
reader-committed o p s moment x h is_open reads idle gone c =
    counted-stays o p (after o p (Committed s moment)) h
    (stay-gone h p (after o p (Committed s moment)) s
    (ap (λ (z : Option Transaction). (committed_by o.word s moment z p).touched) is_open ∙ touched)
    (ap (λ (z : Option Transaction). (committed_by o.word s moment z p).pairs) is_open ∙ pairs)
    (ap (λ (z : Option Transaction). (committed_by o.word s moment z p).slots) is_open ∙ slots) gone idle) c
  where
    touched : (committed_by o.word s moment (Some x) p).touched ≡ p.touched
    touched = rw reads refl

    pairs : (committed_by o.word s moment (Some x) p).pairs ≡ p.pairs
    pairs = rw reads refl

    slots : (committed_by o.word s moment (Some x) p).slots ≡ p.slots
    slots = rw reads refl
