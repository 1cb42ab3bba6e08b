-- The numbers of the measure are bounded, since each counts what stands in memory.
use Rattle.std.proofs.Common.{◌≡◌, ◌≤◌, ◌<◌, ◌+◌, ◌*◌, ◌-◌, ◌^◌, if◌then◌else◌, ℕ, zero, suc, ◌∷◌, ◌++◌, [], Bool, true, false, List, length, refl, sym, ap, subst, ◌∙◌, arith, Option, Some, None, slice_get, length-append}
use Rattle.std.specs.List.{count_by, sum_by}
use Rattle.std.proofs.lemmas.List.Sums.{count_by-le-length, sum_by-cons}
use Rattle.rdo_ast.specs.Tree.{Uttered}
use Rattle.rdb_types.specs.declared.node.Level.{Level}
use Rattle.rdb_types.specs.declared.node.Level.TheVariants.{Area, Range, Page, Line, Journal}
use Rattle.rdb_drive.specs.Boards.{Fits}
use Rattle.lock_needs.specs.declared.need.Need.{Need}
use Rattle.lock_needs.specs.declared.party.OpenWant.{OpenWant}
use Rattle.lock_needs.specs.Needs.{Holding}
use Rattle.lock_tree_laws.specs.Forest.{State, opened_of, party_of}
use Rattle.lock_tree_laws.specs.LockTable.{granted_at}
use Rattle.lock_tree_laws.specs.Progress.{has_mode, is_spare_over, measure, spares_of, steps_for, steps_here, steps_of}
use Rattle.lock_tree_laws.specs.Room.{depth}
use Rattle.lock_tree_laws.specs.Wanted.{needs_of}
use Rattle.session_states.specs.declared.stage.Work.{Work}
use Rattle.session_states.specs.declared.stage.Work.TheVariants.{Opening, Due, Out, Lacking, Housing, Fetching, Lodging}
use Rattle.session_states.specs.declared.stage.Laying.{Laying}
use Rattle.session_states.specs.declared.stage.Laying.TheVariants.{Claiming, Changing, Broken}
use Rattle.session_states.specs.declared.stage.End.{End}
use Rattle.session_states.specs.declared.stage.End.TheVariants.{Preparing, Journal as JournalStage, Ready, Committing, RollingBack, Leaving}
use Rattle.session_states.specs.declared.stage.Stage.{Stage}
use Rattle.session_states.specs.declared.stage.Stage.TheVariants.{Between, Working, Gathering, Reserving, Saying, Ending}
use Rattle.session_states.specs.declared.stage.ReaderWork.{ReaderWork}
use Rattle.session_states.specs.declared.stage.ReaderWork.TheVariants as work
use Rattle.session_states.specs.declared.stage.ReaderStage.{ReaderStage}
use Rattle.session_states.specs.declared.stage.ReaderStage.TheVariants as look
use Rattle.session_states.specs.declared.stage.Phase.{Phase}
use Rattle.session_states.specs.declared.stage.Phase.TheVariants.{Outside, Closing, Writing, Reading, Over}
use Rattle.session_states.specs.declared.stage.Life.{Life}
use Rattle.session_states.specs.declared.stage.Life.TheVariants.{Alive, Dead, Gone}
use Rattle.session_states.specs.declared.stage.Member.{Member}
use Rattle.session_states.specs.States.{item_of, reader_item}
use Rattle.session_measure.specs.Weights.{Beside, weight, sum_of, life_left, one_under_way, items_in, work_rank, laying_rank, end_rank, stage_rank, reader_rank, rank, work_left, stage_left, reader_work_left, reader_left, round_left, places_left, unopened}
use Rattle.line_cluster.specs.Measured.{no_weight, weights_from, numbers_from, measure_by, IsBounded}
use Rattle.line_cluster.proofs.Measured.{weights-long}

-- what memory counts of a session
pub record IsCounted (rounds : ℕ) (locks : State) (s : ℕ) (m : Member) : Type 0 where
  pub items : length m.left < 2 ^ 64
  pub places : places_left m.phase < 2 ^ 68
  pub handed : rounds < 2 ^ 64
  pub needs : length (needs_of locks s) < 2 ^ 64

-- ---- the numbers of a session

pub life-few : (l : Life) → life_left l ≤ 2
life-few Alive = omega arith
life-few Dead = omega arith
life-few Gone = omega arith

under-few : (i : Option Uttered) → one_under_way i ≤ 1
under-few None = omega arith
under-few (Some item) = omega arith

items-few : (x : Phase) → items_in x ≤ 1
items-few Outside = omega arith
items-few Closing = omega arith
items-few (Writing w) = under-few (item_of w.stage)
items-few (Reading r) = under-few (reader_item r.stage)
items-few Over = omega arith

work-few : (w : Work) → work_rank w ≤ 11
work-few Opening = omega arith
work-few Due = omega arith
work-few Out = omega arith
work-few (Lacking n) = omega arith
work-few (Housing room key) = omega arith
work-few (Fetching n) = omega arith
work-few (Lodging room key) = omega arith

laying-few : (l : Laying) → laying_rank l ≤ 15
laying-few (Claiming place) = omega arith
laying-few Changing = omega arith
laying-few Broken = omega arith

end-few : (e : End) → end_rank e ≤ 11
end-few Preparing = omega arith
end-few JournalStage = omega arith
end-few Ready = omega arith
end-few Committing = omega arith
end-few RollingBack = omega arith
end-few Leaving = omega arith

more : (n : ℕ) → n ≤ 11 → n ≤ 15
more n h = omega arith

stage-few : (x : Stage) → stage_rank x ≤ 15
stage-few Between = omega arith
stage-few (Working item w) = more (work_rank w) (work-few w)
stage-few (Gathering item gather later place) = omega arith
stage-few (Reserving item r locks place) = omega arith
stage-few (Saying item r laying) = laying-few laying
stage-few (Ending end) = more (end_rank end) (end-few end)

reader-few : (x : ReaderStage) → reader_rank x ≤ 15
reader-few look.Between = omega arith
reader-few (look.Working item w) = omega arith
reader-few (look.Gathering item n later place) = omega arith

rank-few : (x : Phase) → rank x ≤ 15
rank-few Outside = omega arith
rank-few Closing = omega arith
rank-few (Writing w) = stage-few w.stage
rank-few (Reading r) = reader-few r.stage
rank-few Over = omega arith

work-left-few : (w : Work) → work_left w ≤ 8
work-left-few Opening = omega arith
work-left-few Due = omega arith
work-left-few Out = omega arith
work-left-few (Lacking n) = omega arith
work-left-few (Housing room key) = omega arith
work-left-few (Fetching n) = omega arith
work-left-few (Lodging room key) = omega arith

stage-left-few : (x : Stage) → stage_left x ≤ 8
stage-left-few Between = omega arith
stage-left-few (Working item w) = work-left-few w
stage-left-few (Gathering item gather later place) = omega arith
stage-left-few (Reserving item r locks place) = omega arith
stage-left-few (Saying item r laying) = omega arith
stage-left-few (Ending end) = omega arith

reader-work-few : (w : ReaderWork) → reader_work_left w ≤ 8
reader-work-few work.Due = omega arith
reader-work-few work.Out = omega arith
reader-work-few work.Copying = omega arith

reader-left-few : (x : ReaderStage) → reader_left x ≤ 8
reader-left-few look.Between = omega arith
reader-left-few (look.Working item w) = reader-work-few w
reader-left-few (look.Gathering item n later place) = omega arith

round-few : (x : Phase) → round_left x ≤ 8
round-few Outside = omega arith
round-few Closing = omega arith
round-few (Writing w) = stage-left-few w.stage
round-few (Reading r) = reader-left-few r.stage
round-few Over = omega arith

unopened-few : (o : Option OpenWant) → unopened o ≤ 1
unopened-few None = omega arith
unopened-few (Some w) = omega arith

-- ---- lists of numbers

abbrev AllWithin : ℕ → List ℕ → Type 0
AllWithin n [] = Unit {0}
AllWithin n (x ∷ xs) = (x ≤ n) × AllWithin n xs

within-more : (a b : ℕ) (xs : List ℕ) → a ≤ b → AllWithin a xs → AllWithin b xs
within-more a b [] h all = tt
within-more a b (x ∷ xs) h all = let first = all.0 in (omega (arith, h, first), within-more a b xs h all.1)

sum-within : (a b : ℕ) (xs ys : List ℕ) → AllWithin a xs → AllWithin b ys → AllWithin (a + b) (sum_of xs ys)
sum-within a b [] ys f g = tt
sum-within a b (x ∷ xs) [] f g = tt
sum-within a b (x ∷ xs) (y ∷ ys) f g = let l = f.0 in let r = g.0 in (omega (arith, l, r), sum-within a b xs ys f.1 g.1)

within-fits : (n : ℕ) (xs : List ℕ) → n < 2 ^ 80 → AllWithin n xs → Fits xs
within-fits n [] h all = tt
within-fits n (x ∷ xs) h all = let first = all.0 in (omega (arith, h, first), within-fits n xs h all.1)

within-append : (n : ℕ) (xs ys : List ℕ) → AllWithin n xs → AllWithin n ys → AllWithin n (xs ++ ys)
within-append n [] ys f g = g
within-append n (x ∷ xs) ys f g = (f.0, within-append n xs ys f.1 g)

-- so many times n
abbrev times : ℕ → ℕ → ℕ
times zero n = 0
times (suc k) n = n + times k n

times-more : (k j n : ℕ) → k ≤ j → times k n ≤ times j n
times-more zero j n h = omega arith
times-more (suc k) zero n h = absurd (omega (arith, h))
times-more (suc k) (suc j) n h = let rest = times-more k j n (omega (arith, h)) in omega (arith, rest)

-- ---- all sessions

at-first : (s : ℕ) → s + 0 ≡ s
at-first s = omega arith

at-next : (s i : ℕ) → s + suc i ≡ suc s + i
at-next s i = omega arith

module _ (rounds : ℕ → ℕ) (b : Beside) (few : (s : ℕ) → b.steps s < 2 ^ 64) where
  weight-within : (s : ℕ) (m : Member) → IsCounted (rounds s) b.locks s m → AllWithin (2 ^ 70) (weight (rounds s) b s m)
  weight-within s m k =
      let lives = life-few m.life in
      let items = items-few m.phase in
      let left = k.items in
      let ranks = rank-few m.phase in
      let handed = k.handed in
      let turns = round-few m.phase in
      let places = k.places in
      let open_ = unopened-few (opened_of b.locks s) in
      let steps = few s in
      (omega (arith, lives), (omega (arith, items, left), (omega (arith, ranks), (omega (arith, handed), (omega (arith, turns), (omega (arith, places), (omega (arith, open_), (omega (arith, steps), tt))))))))

  weights-within : (s : ℕ) (ms : List Member) → ((i : ℕ) (m : Member) → slice_get ms i ≡ Some m → IsCounted (rounds (s + i)) b.locks (s + i) m) → AllWithin (times (length ms) (2 ^ 70)) (weights_from s ms rounds b)
  weights-within s [] all = (omega arith, (omega arith, (omega arith, (omega arith, (omega arith, (omega arith, (omega arith, (omega arith, tt))))))))
  weights-within s (m ∷ ms) all =
      sum-within (2 ^ 70) (times (length ms) (2 ^ 70)) (weight (rounds s) b s m) (weights_from (suc s) ms rounds b)
      (weight-within s m (subst (λ (t : ℕ). IsCounted (rounds t) b.locks t m) (at-first s) (all 0 m refl)))
      (weights-within (suc s) ms (λ i n found. subst (λ (t : ℕ). IsCounted (rounds t) b.locks t n) (at-next s i) (all (suc i) n found)))

-- ---- the locks

here-few : (a b : Bool) → (if a then (if b then 1 else 2) else 3) ≤ 3
here-few true true = omega arith
here-few true false = omega arith
here-few false b = omega arith

depth-few : (l : Level) → depth l ≤ 3
depth-few Area = omega arith
depth-few Range = omega arith
depth-few Page = omega arith
depth-few Line = omega arith
depth-few Journal = omega arith

steps-few : (held : Holding) (o : Option OpenWant) → steps_for held o ≤ 2 ^ 64
steps-few held None = omega arith
steps-few held (Some w) = let here = here-few w.is_asked (has_mode held w) in let deep = depth-few w.need.node.level in omega (arith, here, deep)

sum-few : (f : ℕ → ℕ) (n s : ℕ) (ms : List Member) → ((i : ℕ) (m : Member) → slice_get ms i ≡ Some m → f (s + i) ≤ n) → sum_by f (numbers_from s ms) ≤ times (length ms) n
sum-few f n s [] all = omega arith
sum-few f n s (m ∷ ms) all =
    let e = sum_by-cons f s (numbers_from (suc s) ms) in
    let first : f s ≤ n = subst (λ (t : ℕ). f t ≤ n) (at-first s) (all 0 m refl) in
    let rest = sum-few f n (suc s) ms (λ i k found. subst (λ (t : ℕ). f t ≤ n) (at-next s i) (all (suc i) k found)) in
    omega (arith, e, first, rest)

spares-few : (locks : State) (level : Level) (u : ℕ) → length (needs_of locks u) < 2 ^ 64 → spares_of locks level u ≤ 2 ^ 64
spares-few locks level u few =
    let k = count_by-le-length (is_spare_over (granted_at locks.table u) (party_of locks.parties u) level) (needs_of locks u) in
    omega (arith, k, few)

measure-within : (locks : State) (ms : List Member) → ((i : ℕ) (m : Member) → slice_get ms i ≡ Some m → length (needs_of locks (1 + i)) < 2 ^ 64) → AllWithin (times (length ms) (2 ^ 64)) (measure (numbers_from 1 ms) locks)
measure-within locks ms few = (
  sum-few (steps_of locks) (2 ^ 64) 1 ms (λ i m found. steps-few (granted_at locks.table (1 + i)) (opened_of locks (1 + i))),
  (spares Area, (spares Range, (spares Page, (spares Line, tt)))),
)
  where
    spares : (level : Level) → sum_by (spares_of locks level) (numbers_from 1 ms) ≤ times (length ms) (2 ^ 64)
    spares level = sum-few (spares_of locks level) (2 ^ 64) 1 ms (λ i m found. spares-few locks level (1 + i) (few i m found))

-- ---- the measure

below-room : (k n : ℕ) → k ≤ 16 → n ≤ 2 ^ 70 → times k n < 2 ^ 80
below-room k n h l = let a = times-more k 16 n h in omega (arith, a, l)

next-number : (i : ℕ) → suc i ≡ 1 + i
next-number i = omega arith

pub bounded : (halted : Bool) (ms : List Member) (rounds : ℕ → ℕ) (b : Beside) → ((s : ℕ) → b.steps s < 2 ^ 64) → length ms ≤ 16 → ((i : ℕ) (m : Member) → slice_get ms i ≡ Some m → IsCounted (rounds (suc i)) b.locks (suc i) m) → IsBounded (measure_by halted ms rounds b)
bounded true ms rounds b steps few all = record {
  long = refl;
  fits = within-fits 0 (measure_by true ms rounds b) (omega arith) (z, (z, (z, (z, (z, (z, (z, (z, (z, (z, (z, (z, (z, tt)))))))))))));
}
  where
    z : 0 ≤ 0
    z = omega arith
bounded false ms rounds b steps few all = record {
  long = length-append (weights_from 1 ms rounds b) (measure (numbers_from 1 ms) b.locks) ∙ ap (λ (n : ℕ). n + 5) (weights-long rounds b 1 ms);
  fits = within-fits (times (length ms) (2 ^ 70)) (measure_by false ms rounds b) (below-room (length ms) (2 ^ 70) few (omega arith))
      (within-append (times (length ms) (2 ^ 70)) (weights_from 1 ms rounds b) (measure (numbers_from 1 ms) b.locks)
      (weights-within rounds b steps 1 ms (λ i m found. subst (λ (t : ℕ). IsCounted (rounds t) b.locks t m) (next-number i) (all i m found)))
      (within-more (times (length ms) (2 ^ 64)) (times (length ms) (2 ^ 70)) (measure (numbers_from 1 ms) b.locks) (smaller (length ms))
      (measure-within b.locks ms (λ i m found. subst (λ (t : ℕ). length (needs_of b.locks t) < 2 ^ 64) (next-number i) (all i m found).needs))));
}
  where
    smaller : (k : ℕ) → times k (2 ^ 64) ≤ times k (2 ^ 70)
    smaller zero = omega arith
    smaller (suc k) = let rest = smaller k in omega (arith, rest)
