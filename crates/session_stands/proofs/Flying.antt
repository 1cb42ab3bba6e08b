-- Whose commit is under way, as memory knows it, has the journal.
use Rattle.std.proofs.Common.{◌≡◌, ℕ, Bool, true, false, List, [], refl, ◌∙◌, sym, ap, Some, is_some}
use Rattle.std.proofs.lemmas.Bool.{false≢true}
use Rattle.std.proofs.lemmas.Option.{none-some}
use Rattle.lock_needs.specs.declared.need.Need.{Need}
use Rattle.lock_tree_laws.specs.Forest.{State}
use Rattle.lock_tree_laws.specs.Wanted.{needs_of}
use Rattle.kept_apart.specs.Guards.{may_write}
use Rattle.line_view.specs.declared.writes.Write.{Write}
use Rattle.session_states.specs.line_steps.Images.{journal_node}
use Rattle.line_store.specs.Seats.{Seat, outside, beginning, writing, changing, broken, prepared, committing, rolling_back, closing, reading, copying, dead, in_flight, done_at}
use Rattle.line_store.specs.Sights.{bare}
use Rattle.session_states.specs.declared.stage.Work.TheVariants.{Opening, Due, Out, Lacking, Housing, Fetching, Lodging}
use Rattle.session_states.specs.declared.stage.Laying.TheVariants.{Claiming, Changing, Broken}
use Rattle.session_states.specs.declared.stage.End.TheVariants.{Preparing, Journal, Ready, Committing, RollingBack, Leaving}
use Rattle.session_states.specs.declared.stage.Stage.{Stage}
use Rattle.session_states.specs.declared.stage.Stage.TheVariants.{Between, Working, Gathering, Reserving, Saying, Ending}
use Rattle.session_states.specs.declared.stage.Phase.{Phase}
use Rattle.session_states.specs.declared.stage.Phase.TheVariants.{Outside, Closing, Writing, Reading, Over}
use Rattle.session_states.specs.declared.stage.Life.{Life}
use Rattle.session_states.specs.declared.stage.Life.TheVariants.{Alive, Dead, Gone}
use Rattle.session_states.specs.States.{commits_at, commits_in, copies_at, seat_of_reader}
use Rattle.session_states.proofs.ReaderSeats.{reader-flies}
use Rattle.session_states.specs.Locks.{has_journal, HasJournal}
use Rattle.session_stands.specs.Seated.{stand_of, IsStandOf, NeedsFit, LivesAt}

-- whether a commit is under way from a seat
abbrev pub flies : Seat → Bool
flies seat = is_some (in_flight seat)

-- the lines play no part in that
pub flies-bare : (x : Seat) → flies (bare x) ≡ flies x
flies-bare outside = refl
flies-bare beginning = refl
flies-bare (writing ws) = refl
flies-bare (changing ws) = refl
flies-bare (broken ws) = refl
flies-bare (prepared ws) = refl
flies-bare (committing ws) = refl
flies-bare (rolling_back ws) = refl
flies-bare closing = refl
flies-bare (reading start) = refl
flies-bare (copying number start) = refl
flies-bare (dead true ws) = refl
flies-bare (dead false ws) = refl

done-rests : (x : Seat) → done_at x ≡ Some outside → flies x ≡ false
done-rests outside h = refl
done-rests beginning h = refl
done-rests (writing ws) h = refl
done-rests (changing ws) h = refl
done-rests (broken ws) h = refl
done-rests (prepared ws) h = refl
done-rests (committing ws) h = absurd (none-some outside h)
done-rests (rolling_back ws) h = refl
done-rests closing h = refl
done-rests (reading start) h = refl
done-rests (copying number start) h = refl
done-rests (dead commits ws) h = absurd (none-some outside h)

rests : (x y : Seat) → x ≡ y → flies y ≡ false → flies x ≡ true → ⊥
rests x y at still h = false≢true (sym still ∙ (sym (ap flies at) ∙ h))

stage-flies : (stage : Stage) → flies (stand_of stage) ≡ true → has_journal stage ≡ true
stage-flies Between h = absurd (false≢true h)
stage-flies (Working item Opening) h = absurd (false≢true h)
stage-flies (Working item Due) h = absurd (false≢true h)
stage-flies (Working item Out) h = absurd (false≢true h)
stage-flies (Working item (Lacking n)) h = absurd (false≢true h)
stage-flies (Working item (Housing room key)) h = absurd (false≢true h)
stage-flies (Working item (Fetching n)) h = absurd (false≢true h)
stage-flies (Working item (Lodging room key)) h = absurd (false≢true h)
stage-flies (Gathering item gather later place) h = absurd (false≢true h)
stage-flies (Reserving item r locks place) h = absurd (false≢true h)
stage-flies (Saying item r (Claiming place)) h = absurd (false≢true h)
stage-flies (Saying item r Changing) h = absurd (false≢true h)
stage-flies (Saying item r Broken) h = absurd (false≢true h)
stage-flies (Ending Preparing) h = absurd (false≢true h)
stage-flies (Ending Journal) h = absurd (false≢true h)
stage-flies (Ending Ready) h = refl
stage-flies (Ending Committing) h = refl
stage-flies (Ending RollingBack) h = absurd (false≢true h)
stage-flies (Ending Leaving) h = absurd (false≢true h)

stage-commits : (stage : Stage) → commits_at stage ≡ true → has_journal stage ≡ true
stage-commits Between h = absurd (false≢true h)
stage-commits (Working item work) h = absurd (false≢true h)
stage-commits (Gathering item gather later place) h = absurd (false≢true h)
stage-commits (Reserving item r locks place) h = absurd (false≢true h)
stage-commits (Saying item r laying) h = absurd (false≢true h)
stage-commits (Ending Preparing) h = absurd (false≢true h)
stage-commits (Ending Journal) h = absurd (false≢true h)
stage-commits (Ending Ready) h = refl
stage-commits (Ending Committing) h = refl
stage-commits (Ending RollingBack) h = absurd (false≢true h)
stage-commits (Ending Leaving) h = absurd (false≢true h)

has-journal : (b : Bool) (needs : List Need) → HasJournal b needs → b ≡ true → may_write needs journal_node ≡ true
has-journal true needs h e = h.0
has-journal false needs h e = absurd (false≢true e)

dead-commits : (b : Bool) (ws : List Write) → flies (dead b ws) ≡ true → b ≡ true
dead-commits true ws h = refl
dead-commits false ws h = absurd (false≢true h)

phase-commits : (x : Phase) (needs : List Need) → NeedsFit x needs → commits_in x ≡ true → may_write needs journal_node ≡ true
phase-commits Outside needs f h = absurd (false≢true h)
phase-commits Closing needs f h = absurd (false≢true h)
phase-commits (Writing w) needs f h = has-journal (has_journal w.stage) needs f (stage-commits w.stage h)
phase-commits (Reading r) needs f h = absurd (false≢true h)
phase-commits Over needs f h = absurd (false≢true h)

phase-flies : (x : Phase) (seat : Seat) (needs : List Need) → IsStandOf x seat → NeedsFit x needs → flies seat ≡ true → may_write needs journal_node ≡ true
phase-flies Outside seat needs at f h = absurd (rests seat outside at refl h)
phase-flies Closing seat needs at f h = absurd (false≢true (sym (done-rests seat at) ∙ h))
phase-flies (Writing w) seat needs at f h = has-journal (has_journal w.stage) needs f (stage-flies w.stage (sym (ap flies at) ∙ h))
phase-flies (Reading r) seat needs at f h = absurd (rests seat (seat_of_reader (copies_at r.stage) []) at (ap is_some (reader-flies (copies_at r.stage) [])) h)
phase-flies Over seat needs at f h = absurd (rests seat outside at refl h)

pub life-flies : (stand : ℕ → Seat) (locks : State) (s : ℕ) (x : Phase) (life : Life) → LivesAt stand locks s x life → flies (stand s) ≡ true → may_write (needs_of locks s) journal_node ≡ true
life-flies stand locks s x Alive f h = phase-flies x (bare (stand s)) (needs_of locks s) f.seat f.needs (flies-bare (stand s) ∙ h)
life-flies stand locks s x Dead f h = phase-commits x (needs_of locks s) f.needs (dead-commits (commits_in x) [] (sym (ap flies f.seat) ∙ (flies-bare (stand s) ∙ h)))
life-flies stand locks s x Gone f h = absurd (rests (bare (stand s)) outside f.seat refl (flies-bare (stand s) ∙ h))
