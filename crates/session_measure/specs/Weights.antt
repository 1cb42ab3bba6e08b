-- What a session has before it: numbers of which the first that changes falls, step by step.
use Rattle.std.specs.Prelude.{ℕ, ◌+◌, ◌*◌, ◌-◌, List, [], ◌∷◌, length, Option, Some, None}
use Rattle.rdo_ast.specs.Tree.{Uttered}
use Rattle.lock_needs.specs.declared.party.OpenWant.{OpenWant}
use Rattle.lock_tree_laws.specs.Forest.{State, opened_of}
use Rattle.rdb_drive.specs.Boards.{Less}
use Rattle.session_states.specs.declared.stage.Work.{Work}
use Rattle.session_states.specs.declared.stage.Work.TheVariants.{Opening, Due, Out, Lacking, Housing, Fetching, Lodging}
use Rattle.session_states.specs.declared.stage.Gather.{Gather}
use Rattle.session_states.specs.declared.stage.Gather.TheVariants as gather
use Rattle.session_states.specs.declared.stage.Laying.{Laying}
use Rattle.session_states.specs.declared.stage.Laying.TheVariants.{Claiming, Changing, Broken}
use Rattle.session_states.specs.declared.stage.End.{End}
use Rattle.session_states.specs.declared.stage.End.TheVariants.{Preparing, Journal, Ready}
use Rattle.session_states.specs.declared.stage.Stage.{Stage}
use Rattle.session_states.specs.declared.stage.Stage.TheVariants.{Between, Working, Gathering, Reserving, Saying, Ending}
use Rattle.session_states.specs.declared.stage.ReaderWork.{ReaderWork}
use Rattle.session_states.specs.declared.stage.ReaderWork.TheVariants as work
use Rattle.session_states.specs.declared.stage.ReaderStage.{ReaderStage}
use Rattle.session_states.specs.declared.stage.ReaderStage.TheVariants as look
use Rattle.session_states.specs.declared.stage.Phase.{Phase}
use Rattle.session_states.specs.declared.stage.Phase.TheVariants.{Outside, Closing, Writing, Reading, Over}
use Rattle.session_states.specs.declared.stage.Life.{Life}
use Rattle.session_states.specs.declared.stage.Life.TheVariants.{Alive, Dead, Gone}
use Rattle.session_states.specs.declared.stage.Member.{Member}
use Rattle.session_states.specs.States.{item_of, reader_item}

-- ---- a death, and a recovery

abbrev pub life_left : Life → ℕ
life_left Alive = 2
life_left Dead = 1
life_left Gone = 0

-- ---- items that aren't answered yet

abbrev pub one_under_way : Option Uttered → ℕ
one_under_way (Some item) = 1
one_under_way None = 0

abbrev pub items_in : Phase → ℕ
items_in (Writing w) = one_under_way (item_of w.stage)
items_in (Reading r) = one_under_way (reader_item r.stage)
items_in x = 0

abbrev pub items_left : Member → ℕ
items_left m = length m.left + items_in m.phase

-- ---- how far a transaction, or a statement in it, has come

abbrev pub work_rank : Work → ℕ
work_rank Opening = 11
work_rank work = 10

abbrev pub laying_rank : Laying → ℕ
laying_rank (Claiming place) = 8
laying_rank Changing = 7
-- (behind that there is a death alone, which is nearer by its life)
laying_rank Broken = 15

abbrev pub end_rank : End → ℕ
end_rank Preparing = 6
end_rank Journal = 5
end_rank Ready = 4
end_rank end = 3

abbrev pub stage_rank : Stage → ℕ
stage_rank Between = 12
stage_rank (Working item work) = work_rank work
stage_rank (Gathering item gather later place) = 10
stage_rank (Reserving item r locks place) = 9
stage_rank (Saying item r laying) = laying_rank laying
stage_rank (Ending end) = end_rank end

abbrev pub reader_rank : ReaderStage → ℕ
reader_rank look.Between = 12
reader_rank (look.Working item work) = 10
reader_rank (look.Gathering item n later place) = 10

abbrev pub rank : Phase → ℕ
rank Outside = 13
rank Closing = 14
rank (Writing w) = stage_rank w.stage
rank (Reading r) = reader_rank r.stage
rank Over = 0

-- ---- how far a round of its work has come, in which its job is handed out once

abbrev pub work_left : Work → ℕ
work_left Out = 8
work_left (Lacking n) = 4
work_left (Housing room key) = 3
work_left (Fetching n) = 2
work_left (Lodging room key) = 1
work_left Due = 0
work_left Opening = 0

abbrev pub stage_left : Stage → ℕ
stage_left (Working item work) = work_left work
stage_left (Gathering item gather later place) = 6
stage_left stage = 0

abbrev pub reader_work_left : ReaderWork → ℕ
reader_work_left work.Out = 8
reader_work_left work.Due = 0
reader_work_left work.Copying = 0

abbrev pub reader_left : ReaderStage → ℕ
reader_left look.Between = 0
reader_left (look.Working item work) = reader_work_left work
reader_left (look.Gathering item n later place) = 6

abbrev pub round_left : Phase → ℕ
round_left (Writing w) = stage_left w.stage
round_left (Reading r) = reader_left r.stage
round_left x = 0

-- ---- what is done one after another

abbrev pub gather_left : Gather → ℕ
gather_left (gather.Locking n) = 2
gather_left (gather.Housing room key) = 1
gather_left _ = 0

abbrev pub places_in : Stage → ℕ
places_in (Gathering item gather later place) = 3 * (length later - place) + gather_left gather
places_in (Reserving item r locks place) = length locks - place
places_in (Saying item r (Claiming place)) = length r.writes - place
places_in stage = 0

-- a reader's needs, which it locks none of
abbrev pub reader_places : ReaderStage → ℕ
reader_places (look.Gathering item n later place) = length later - place
reader_places stage = 0

abbrev pub places_left : Phase → ℕ
places_left (Writing w) = places_in w.stage
places_left (Reading r) = reader_places r.stage
places_left x = 0

-- ---- a want that isn't open yet

abbrev pub unopened : Option OpenWant → ℕ
unopened None = 1
unopened (Some w) = 0

-- ---- the measure of a session

-- What it looks at beside the session: the locks, and how often at most a call of the store for each session may still answer that there is more to do.
pub record Beside : Type 0 where
  pub locks : State
  pub steps : ℕ → ℕ

-- where its statement may be worked for so many rounds more
abbrev pub weight : (rounds : ℕ) → Beside → ℕ → Member → List ℕ
weight rounds c s m =
    life_left m.life ∷ items_left m ∷ rank m.phase ∷ rounds ∷ round_left m.phase ∷ places_left m.phase ∷ unopened (opened_of c.locks s) ∷ c.steps s ∷ []

-- It falls, from so many rounds to so many.
abbrev pub Falls : (k l : ℕ) → Beside → Beside → ℕ → (m n : Member) → Type 0
Falls k l c d s m n = Less (weight l d s n) (weight k c s m)

-- number by number, where both have as many
abbrev pub sum_of : List ℕ → List ℕ → List ℕ
sum_of [] ys = []
sum_of (x ∷ xs) [] = []
sum_of (x ∷ xs) (y ∷ ys) = (x + y) ∷ sum_of xs ys
