-- A step that brings a session nearer to its end, or no farther away, doesn't break it: who is broken is farthest away.
use Rattle.std.proofs.Common.{◌≡◌, ◌≤◌, ◌<◌, ◌+◌, ◌&&◌, ℕ, ◌∷◌, [], List, Bool, true, false, length, refl, sym, ap, ◌∙◌, inl, inr, arith}
use Rattle.std.proofs.lemmas.Bool.{false≢true}
use Rattle.rdo_ast.specs.declared.syntax.Item.{Item}
use Rattle.lock_tree_laws.specs.Forest.{opened_of}
use Rattle.rdb_drive.specs.Boards.{Less}
use Rattle.session_states.specs.declared.stage.Work.{Work}
use Rattle.session_states.specs.declared.stage.Work.TheVariants.{Opening, Due, Out, Lacking, Housing, Fetching, Lodging}
use Rattle.session_states.specs.declared.stage.Laying.TheVariants.{Claiming, Changing, Broken}
use Rattle.session_states.specs.declared.stage.End.TheVariants.{Preparing, Journal, Ready, Committing, RollingBack, Leaving}
use Rattle.session_states.specs.declared.stage.Stage.{Stage}
use Rattle.session_states.specs.declared.stage.Stage.TheVariants.{Between, Working, Gathering, Reserving, Saying, Ending}
use Rattle.session_states.specs.declared.stage.ReaderStage.{ReaderStage}
use Rattle.session_states.specs.declared.stage.ReaderStage.TheVariants as look
use Rattle.session_states.specs.declared.stage.Phase.{Phase}
use Rattle.session_states.specs.declared.stage.Phase.TheVariants.{Outside, Closing, Writing, Reading, Over}
use Rattle.session_states.specs.declared.stage.Life.TheVariants.{Alive}
use Rattle.session_states.specs.States.{session}
use Rattle.session_measure.specs.Weights.{Beside, Falls, weight, life_left, items_in, items_left, rank, stage_rank, work_rank, reader_rank, round_left, places_left, unopened}
use Rattle.session_measure.specs.Nearer.{takes_next, has_due, has_out, RoundsBy, AreRounds, ComesNearer, StaysNear, is_broken, is_stage_broken}

-- ---- what it weighs

work-low : (w : Work) → work_rank w < 15
work-low Opening = omega arith
work-low Due = omega arith
work-low Out = omega arith
work-low (Lacking n) = omega arith
work-low (Housing room key) = omega arith
work-low (Fetching n) = omega arith
work-low (Lodging room key) = omega arith

stage-low : (x : Stage) → is_stage_broken x ≡ false → stage_rank x < 15
stage-low Between whole = omega arith
stage-low (Working item w) whole = work-low w
stage-low (Gathering item gather later place) whole = omega arith
stage-low (Reserving item r locks place) whole = omega arith
stage-low (Saying item r (Claiming place)) whole = omega arith
stage-low (Saying item r Changing) whole = omega arith
stage-low (Saying item r Broken) whole = absurd (false≢true (sym whole))
stage-low (Ending Preparing) whole = omega arith
stage-low (Ending Journal) whole = omega arith
stage-low (Ending Ready) whole = omega arith
stage-low (Ending Committing) whole = omega arith
stage-low (Ending RollingBack) whole = omega arith
stage-low (Ending Leaving) whole = omega arith

reader-low : (x : ReaderStage) → reader_rank x < 15
reader-low look.Between = omega arith
reader-low (look.Working item w) = omega arith
reader-low (look.Gathering item n later place) = omega arith

rank-low : (x : Phase) → is_broken x ≡ false → rank x < 15
rank-low Outside whole = omega arith
rank-low Closing whole = omega arith
rank-low (Writing w) whole = stage-low w.stage whole
rank-low (Reading r) whole = reader-low r.stage
rank-low Over whole = omega arith

-- it has a statement under way, and no job that is handed out
record IsFar (y : Phase) : Type 0 where
  rank_is : rank y ≡ 15
  items : items_in y ≡ 1
  out : has_out y ≡ false

is-far : (y : Phase) → is_broken y ≡ true → IsFar y
is-far Outside broken = absurd (false≢true broken)
is-far Closing broken = absurd (false≢true broken)
is-far (Writing w) broken = stage w.stage refl broken
  where
    stage : (x : Stage) → w.stage ≡ x → is_stage_broken x ≡ true → IsFar (Writing w)
    stage Between at h = absurd (false≢true h)
    stage (Working item work) at h = absurd (false≢true h)
    stage (Gathering item gather later place) at h = absurd (false≢true h)
    stage (Reserving item r locks place) at h = absurd (false≢true h)
    stage (Saying item r (Claiming place)) at h = absurd (false≢true h)
    stage (Saying item r Changing) at h = absurd (false≢true h)
    stage (Saying item r Broken) at h = record { rank_is = rw at refl; items = rw at refl; out = rw at refl }
    stage (Ending end) at h = absurd (false≢true h)
is-far (Reading r) broken = absurd (false≢true broken)
is-far Over broken = absurd (false≢true broken)

-- ---- it doesn't come there

no-fall : (l iy ix ry rx : ℕ) (ws vs : List ℕ) → ix ≤ iy → rx < ry → Less (l ∷ iy ∷ ry ∷ ws) (l ∷ ix ∷ rx ∷ vs) → ⊥
no-fall l iy ix ry rx ws vs items ranks (inl h) = let less = h.0 in omega (arith, less)
no-fall l iy ix ry rx ws vs items ranks (inr h) = then h.1
  where
    last : Less (ry ∷ ws) (rx ∷ vs) → ⊥
    last (inl k) = let less = k.0 in omega (arith, less, ranks)
    last (inr k) = let same = k.0 in omega (arith, same, ranks)

    then : Less (iy ∷ ry ∷ ws) (ix ∷ rx ∷ vs) → ⊥
    then (inl k) = let less = k.0 in omega (arith, less, items)
    then (inr k) = last k.1

abbrev third : List ℕ → ℕ
third [] = 0
third (a ∷ []) = 0
third (a ∷ b ∷ []) = 0
third (a ∷ b ∷ n ∷ rest) = n

no-rounds : (takes hands : Bool) → hands ≡ false → RoundsBy takes hands 0 0
no-rounds true hands none = tt
no-rounds false true none = absurd (false≢true (sym none))
no-rounds false false none = refl

none-out : (due out : Bool) → out ≡ false → (due && out) ≡ false
none-out true out none = none
none-out false out none = refl

-- the numbers behind the rank, where no round is left
abbrev numbers-behind : Beside → ℕ → Phase → List ℕ
numbers-behind c s x = 0 ∷ round_left x ∷ places_left x ∷ unopened (opened_of c.locks s) ∷ c.steps s ∷ []

-- at most one item is taken up
module _ (c d : Beside) (s : ℕ) (left rest : List Item) (total : ℕ) (x y : Phase) (whole : is_broken x ≡ false) (one : length left + items_in x ≤ length rest + 1) where
  unfallen : IsFar y → Falls 0 0 c d s (session left total x) (session rest total y) → ⊥
  unfallen far fell =
      let items = far.items in
      let low = rank-low x whole in
      let high = far.rank_is in
      no-fall (life_left Alive) (items_left (session rest total y)) (items_left (session left total x)) (rank y) (rank x) (numbers-behind d s y) (numbers-behind c s x) (omega (arith, one, items)) (omega (arith, low, high)) fell

  unlike : IsFar y → weight 0 d s (session rest total y) ≡ weight 0 c s (session left total x) → ⊥
  unlike far same =
      let ranks : rank y ≡ rank x = ap third same in
      let low = rank-low x whole in
      let high = far.rank_is in
      omega (arith, ranks, low, high)

  rounds : IsFar y → AreRounds x y 0 0
  rounds far = no-rounds (takes_next x) (has_due x && has_out y) (none-out (has_due x) (has_out y) far.out)

  unless : ((is_broken y ≡ true) → ⊥) → is_broken y ≡ false
  unless never = by (is_broken y) refl
    where
      by : (b : Bool) → is_broken y ≡ b → is_broken y ≡ false
      by true e = absurd (never e)
      by false e = e

  pub nearer-whole : ComesNearer c d s (session left total x) (session rest total y) → is_broken y ≡ false
  nearer-whole near = unless (λ broken. let far = is-far y broken in elim (near.nears 0 0 (rounds far)) [
    | inl fell ↦ unfallen far fell
    | inr stays ↦ unlike far stays.0
  ])

  pub near-whole : StaysNear c d s (session left total x) (session rest total y) → is_broken y ≡ false
  near-whole near = unless (λ broken. let far = is-far y broken in elim (near.keeps 0 0 (rounds far)) [
    | inl fell ↦ unfallen far fell
    | inr stays ↦ unlike far stays.0
  ])
