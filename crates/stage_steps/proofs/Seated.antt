-- How a session stands behind a step, as memory knows it.
use Rattle.std.proofs.Common.{◌≡◌, ℕ, true, false, List, [], ◌∷◌, ◌++◌, Option, Some, None, refl, sym, ap, subst, ◌∙◌}
use Rattle.std.specs.Prelude.{is_some}
use Rattle.std.proofs.lemmas.Option.{none-some, same_Some}
use Rattle.std.proofs.lemmas.Bool.{false≢true}
use Rattle.lock_needs.specs.declared.need.Need.{Need}
use Rattle.lock_needs.specs.declared.party.OpenWant.{OpenWant}
use Rattle.lock_needs.specs.Nodes.{is_on}
use Rattle.lock_needs.specs.Party.{Party}
use Rattle.lock_needs.specs.Waits.{converts_at}
use Rattle.lock_tree_laws.specs.Forest.{State, idle, opened_of, party_of}
use Rattle.lock_tree_laws.specs.Wanted.{IsOf, needs_of}
use Rattle.journal_waits.specs.Holders.{WantsExclusively}
use Rattle.session_limits.specs.line_steps.Images.{journal_node}
use Rattle.line_store.specs.Seats.{Seat, outside, beginning, writing, changing, broken, prepared, committing, rolling_back, closing, reading, copying, dead, done_at, is_committing, IsWriting, IsPrepared, IsReader, IsAlive}
use Rattle.line_store.specs.Sights.{bare, seat_or}
use Rattle.session_limits.specs.session_states.declared.stage.Work.TheVariants.{Opening, Due, Out, Lacking, Housing, Fetching, Lodging}
use Rattle.session_limits.specs.session_states.declared.stage.Laying.TheVariants.{Claiming, Changing, Broken}
use Rattle.session_limits.specs.session_states.declared.stage.End.TheVariants.{Preparing, Journal, Ready, Committing, RollingBack, Leaving}
use Rattle.session_limits.specs.session_states.declared.stage.Stage.{Stage}
use Rattle.session_limits.specs.session_states.declared.stage.Stage.TheVariants.{Between, Working, Gathering, Reserving, Saying, Ending}
use Rattle.session_limits.specs.session_states.declared.stage.Writer.{Writer}
use Rattle.session_limits.specs.session_states.declared.stage.Reader.{Reader}
use Rattle.session_limits.specs.session_states.declared.stage.Phase.{Phase}
use Rattle.session_limits.specs.session_states.declared.stage.Phase.TheVariants.{Outside, Closing, Writing, Reading, Over}
use Rattle.session_limits.specs.session_states.Fits.{WantsAtMost}
use Rattle.session_limits.specs.session_states.Locks.{lock_of, has_journal, HasJournal}
use Rattle.session_limits.specs.session_states.States.{commits_at, commits_in, copies_at, is_at_rest, seat_of_reader}
use Rattle.session_limits.proofs.of_session_states.Journal.{has-behind}
use Rattle.session_limits.proofs.of_session_states.ReaderSeats.{reader-idle}
use Rattle.session_stands.specs.Seated.{IsSeated, IsStandOf, stand_of, StatementFitsAt, NamesCopied}

-- ---- seats

pub bare-writing : (seat : Seat) → IsWriting seat → bare seat ≡ writing []
bare-writing outside h = absurd h
bare-writing beginning h = absurd h
bare-writing (writing ws) h = refl
bare-writing (changing ws) h = absurd h
bare-writing (broken ws) h = absurd h
bare-writing (prepared ws) h = absurd h
bare-writing (committing ws) h = absurd h
bare-writing (rolling_back ws) h = absurd h
bare-writing closing h = absurd h
bare-writing (reading start) h = absurd h
bare-writing (copying number start) h = absurd h
bare-writing (dead commits ws) h = absurd h

pub bare-prepared : (seat : Seat) → IsPrepared seat → bare seat ≡ prepared []
bare-prepared outside h = absurd h
bare-prepared beginning h = absurd h
bare-prepared (writing ws) h = absurd h
bare-prepared (changing ws) h = absurd h
bare-prepared (broken ws) h = absurd h
bare-prepared (prepared ws) h = refl
bare-prepared (committing ws) h = absurd h
bare-prepared (rolling_back ws) h = absurd h
bare-prepared closing h = absurd h
bare-prepared (reading start) h = absurd h
bare-prepared (copying number start) h = absurd h
bare-prepared (dead commits ws) h = absurd h

pub bare-reader : (seat : Seat) → IsReader seat → bare seat ≡ reading []
bare-reader outside h = absurd h
bare-reader beginning h = absurd h
bare-reader (writing ws) h = absurd h
bare-reader (changing ws) h = absurd h
bare-reader (broken ws) h = absurd h
bare-reader (prepared ws) h = absurd h
bare-reader (committing ws) h = absurd h
bare-reader (rolling_back ws) h = absurd h
bare-reader closing h = absurd h
bare-reader (reading start) h = refl
bare-reader (copying number start) h = absurd h
bare-reader (dead commits ws) h = absurd h

-- behind what is told to be done the transaction is away
pub done-away : (seat : Seat) → done_at (bare seat) ≡ Some outside → bare (seat_or seat (done_at seat)) ≡ outside
done-away outside h = refl
done-away beginning h = same_Some (writing []) outside h
done-away (writing ws) h = absurd (none-some outside h)
done-away (changing ws) h = same_Some (writing []) outside h
done-away (broken ws) h = absurd (none-some outside h)
done-away (prepared ws) h = absurd (none-some outside h)
done-away (committing ws) h = absurd (none-some outside h)
done-away (rolling_back ws) h = refl
done-away closing h = refl
done-away (reading start) h = absurd (none-some outside h)
done-away (copying number start) h = same_Some (reading []) outside h
done-away (dead commits ws) h = absurd (none-some outside h)

-- or what a statement wrote is laid
pub done-laid : (seat : Seat) → bare seat ≡ changing [] → bare (seat_or seat (done_at seat)) ≡ writing []
done-laid outside h = cc
done-laid beginning h = cc
done-laid (writing ws) h = cc
done-laid (changing ws) h = refl
done-laid (broken ws) h = cc
done-laid (prepared ws) h = cc
done-laid (committing ws) h = cc
done-laid (rolling_back ws) h = cc
done-laid closing h = cc
done-laid (reading start) h = cc
done-laid (copying number start) h = cc
done-laid (dead commits ws) h = cc

-- ---- what a seat has under way

pub never-commits : (seat : Seat) → is_some (done_at seat) ≡ true → is_committing seat ≡ true → ⊥
never-commits outside h k = false≢true h
never-commits beginning h k = false≢true k
never-commits (writing ws) h k = false≢true h
never-commits (changing ws) h k = false≢true k
never-commits (broken ws) h k = false≢true h
never-commits (prepared ws) h k = false≢true h
never-commits (committing ws) h k = false≢true h
never-commits (rolling_back ws) h k = false≢true k
never-commits closing h k = false≢true k
never-commits (reading start) h k = false≢true h
never-commits (copying number start) h k = false≢true k
never-commits (dead commits ws) h k = false≢true h

pub done-alive : (seat : Seat) → is_some (done_at seat) ≡ true → IsAlive seat
done-alive outside h = tt
done-alive beginning h = tt
done-alive (writing ws) h = tt
done-alive (changing ws) h = tt
done-alive (broken ws) h = tt
done-alive (prepared ws) h = tt
done-alive (committing ws) h = tt
done-alive (rolling_back ws) h = tt
done-alive closing h = tt
done-alive (reading start) h = tt
done-alive (copying number start) h = tt
done-alive (dead commits ws) h = absurd (false≢true h)

pub commits-alive : (seat : Seat) → is_committing seat ≡ true → IsAlive seat
commits-alive outside h = tt
commits-alive beginning h = tt
commits-alive (writing ws) h = tt
commits-alive (changing ws) h = tt
commits-alive (broken ws) h = tt
commits-alive (prepared ws) h = tt
commits-alive (committing ws) h = tt
commits-alive (rolling_back ws) h = tt
commits-alive closing h = tt
commits-alive (reading start) h = tt
commits-alive (copying number start) h = tt
commits-alive (dead commits ws) h = absurd (false≢true h)

bare-commits : (seat : Seat) → is_committing (bare seat) ≡ is_committing seat
bare-commits outside = refl
bare-commits beginning = refl
bare-commits (writing ws) = refl
bare-commits (changing ws) = refl
bare-commits (broken ws) = refl
bare-commits (prepared ws) = refl
bare-commits (committing ws) = refl
bare-commits (rolling_back ws) = refl
bare-commits closing = refl
bare-commits (reading start) = refl
bare-commits (copying number start) = refl
bare-commits (dead commits ws) = refl

closing-rests : (seat : Seat) → done_at seat ≡ Some outside → is_committing seat ≡ false
closing-rests outside h = refl
closing-rests beginning h = refl
closing-rests (writing ws) h = refl
closing-rests (changing ws) h = refl
closing-rests (broken ws) h = refl
closing-rests (prepared ws) h = refl
closing-rests (committing ws) h = absurd (none-some outside h)
closing-rests (rolling_back ws) h = refl
closing-rests closing h = refl
closing-rests (reading start) h = refl
closing-rests (copying number start) h = refl
closing-rests (dead commits ws) h = refl

stage-commits : (stage : Stage) → is_committing (stand_of stage) ≡ commits_at stage
stage-commits Between = refl
stage-commits (Working item Opening) = refl
stage-commits (Working item Due) = refl
stage-commits (Working item Out) = refl
stage-commits (Working item (Lacking need)) = refl
stage-commits (Working item (Housing room key)) = refl
stage-commits (Working item (Fetching need)) = refl
stage-commits (Working item (Lodging room key)) = refl
stage-commits (Gathering item gather later place) = refl
stage-commits (Reserving item r locks place) = refl
stage-commits (Saying item r (Claiming place)) = refl
stage-commits (Saying item r Changing) = refl
stage-commits (Saying item r Broken) = refl
stage-commits (Ending Preparing) = refl
stage-commits (Ending Journal) = refl
stage-commits (Ending Ready) = refl
stage-commits (Ending Committing) = refl
stage-commits (Ending RollingBack) = refl
stage-commits (Ending Leaving) = refl

-- whether a session commits, by its phase
pub phase-commits : (x : Phase) (seat : Seat) → IsStandOf x (bare seat) → is_committing seat ≡ commits_in x
phase-commits Outside seat h = sym (bare-commits seat) ∙ ap is_committing h
phase-commits Closing seat h = sym (bare-commits seat) ∙ closing-rests (bare seat) h
phase-commits (Writing w) seat h = sym (bare-commits seat) ∙ (ap is_committing h ∙ stage-commits w.stage)
phase-commits (Reading r) seat h = sym (bare-commits seat) ∙ (ap is_committing h ∙ reader-idle (copies_at r.stage) [])
phase-commits Over seat h = sym (bare-commits seat) ∙ ap is_committing h

-- ---- stages at which the store rests

pub rest-writing : (stage : Stage) → is_at_rest stage ≡ true → stand_of stage ≡ writing []
rest-writing Between h = refl
rest-writing (Working item Opening) h = absurd (false≢true h)
rest-writing (Working item Due) h = refl
rest-writing (Working item Out) h = refl
rest-writing (Working item (Lacking need)) h = refl
rest-writing (Working item (Housing room key)) h = refl
rest-writing (Working item (Fetching need)) h = refl
rest-writing (Working item (Lodging room key)) h = refl
rest-writing (Gathering item gather later place) h = refl
rest-writing (Reserving item r locks place) h = refl
rest-writing (Saying item r (Claiming place)) h = refl
rest-writing (Saying item r Changing) h = absurd (false≢true h)
rest-writing (Saying item r Broken) h = absurd (false≢true h)
rest-writing (Ending Preparing) h = refl
rest-writing (Ending Journal) h = absurd (false≢true h)
rest-writing (Ending Ready) h = absurd (false≢true h)
rest-writing (Ending Committing) h = absurd (false≢true h)
rest-writing (Ending RollingBack) h = absurd (false≢true h)
rest-writing (Ending Leaving) h = absurd (false≢true h)

pub rest-without : (stage : Stage) → is_at_rest stage ≡ true → has_journal stage ≡ false
rest-without Between h = refl
rest-without (Working item work) h = refl
rest-without (Gathering item gather later place) h = refl
rest-without (Reserving item r locks place) h = refl
rest-without (Saying item r laying) h = refl
rest-without (Ending Preparing) h = refl
rest-without (Ending Journal) h = refl
rest-without (Ending Ready) h = absurd (false≢true h)
rest-without (Ending Committing) h = absurd (false≢true h)
rest-without (Ending RollingBack) h = refl
rest-without (Ending Leaving) h = refl

-- ---- wants and needs

pub wants-none : (o : Option Need) (opened : Option OpenWant) → opened ≡ None → WantsAtMost o opened
wants-none (Some n) opened e = subst (λ (w : Option OpenWant). IsOf n w) (sym e) tt
wants-none None opened e = e

pub beside-none : (opened : Option OpenWant) → opened ≡ None → WantsExclusively journal_node opened
beside-none opened e = subst (λ (w : Option OpenWant). WantsExclusively journal_node w) (sym e) tt

pub none-got : (needs : List Need) → needs ≡ [] → HasJournal false needs
none-got needs e = ap (λ ws. converts_at ws journal_node) e

-- one need more, which isn't on the journal
pub got-beside : (needs : List Need) (n : Need) → is_on journal_node n.node ≡ false → HasJournal false needs → HasJournal false (needs ++ n ∷ [])
got-beside needs n off none = has-behind false needs n off none

-- ---- how it stands

-- a read-write transaction with no want open
pub rests-at : (stand : ℕ → Seat) (locks : State) (s : ℕ) (w : Writer) → bare (stand s) ≡ stand_of w.stage → opened_of locks s ≡ None → HasJournal (has_journal w.stage) (needs_of locks s) → StatementFitsAt w.stage → IsSeated stand locks s (Writing w)
rests-at stand locks s w at ended needs statement = record {
  seat = at;
  wants = wants-none (lock_of w.stage) (opened_of locks s) ended;
  beside = beside-none (opened_of locks s) ended;
  needs = needs;
  statement = statement;
}

-- it stands as it did
pub sits-on : (old new : ℕ → Seat) (locks : State) (s : ℕ) (x : Phase) → bare (new s) ≡ bare (old s) → IsSeated old locks s x → IsSeated new locks s x
sits-on old new locks s x e f = record { seat = subst (IsStandOf x) (sym e) f.seat; wants = f.wants; beside = f.beside; needs = f.needs; statement = f.statement }

-- no want is open, and nothing is got
pub idle-party : (locks : State) (s : ℕ) → party_of locks.parties s ≡ idle → (opened_of locks s ≡ None) × (needs_of locks s ≡ [])
idle-party locks s e = (ap (λ (p : Party). p.opened) e, ap (λ (p : Party). p.needs) e)

pub sits-outside : (stand : ℕ → Seat) (locks : State) (s : ℕ) → bare (stand s) ≡ outside → party_of locks.parties s ≡ idle → IsSeated stand locks s Outside
sits-outside stand locks s at e = let i = idle-party locks s e in record { seat = at; wants = i.0; beside = beside-none (opened_of locks s) i.0; needs = i.1; statement = tt }

pub sits-over : (stand : ℕ → Seat) (locks : State) (s : ℕ) → bare (stand s) ≡ outside → party_of locks.parties s ≡ idle → IsSeated stand locks s Over
sits-over stand locks s at e = let i = idle-party locks s e in record { seat = at; wants = i.0; beside = beside-none (opened_of locks s) i.0; needs = i.1; statement = tt }

pub sits-closing : (stand : ℕ → Seat) (locks : State) (s : ℕ) → done_at (bare (stand s)) ≡ Some outside → party_of locks.parties s ≡ idle → IsSeated stand locks s Closing
sits-closing stand locks s at e = let i = idle-party locks s e in record { seat = at; wants = i.0; beside = beside-none (opened_of locks s) i.0; needs = i.1; statement = tt }

-- ---- a step of the store

-- what a transaction left is put away
pub sits-away : (old new : ℕ → Seat) (locks : State) (s : ℕ) → bare (new s) ≡ bare (seat_or (old s) (done_at (old s))) → IsSeated old locks s Closing → IsSeated new locks s Outside
sits-away old new locks s e f = record { seat = e ∙ done-away (old s) f.seat; wants = f.wants; beside = f.beside; needs = f.needs; statement = tt }

-- a want of no lock isn't open
pub unwanted : (o : Option Need) (opened : Option OpenWant) → o ≡ None → WantsAtMost o opened → opened ≡ None
unwanted o opened none wants = subst (λ (p : Option Need). WantsAtMost p opened) none wants

-- ---- readers

pub reads-on : (old new : ℕ → Seat) (locks : State) (s : ℕ) (r q : Reader) → bare (new s) ≡ bare (old s) → copies_at r.stage ≡ copies_at q.stage → NamesCopied q.stage → IsSeated old locks s (Reading r) → IsSeated new locks s (Reading q)
reads-on old new locks s r q e same named f = record { seat = e ∙ (f.seat ∙ ap (λ (n : Option ℕ). seat_of_reader n []) same); wants = f.wants; beside = f.beside; needs = f.needs; statement = named }

-- one that copies nothing
pub reads-plain : (old new : ℕ → Seat) (locks : State) (s : ℕ) (r q : Reader) → bare (new s) ≡ reading [] → copies_at q.stage ≡ None → NamesCopied q.stage → IsSeated old locks s (Reading r) → IsSeated new locks s (Reading q)
reads-plain old new locks s r q e none named f = record { seat = e ∙ sym (ap (λ (n : Option ℕ). seat_of_reader n []) none); wants = f.wants; beside = f.beside; needs = f.needs; statement = named }

pub reads-out : (old new : ℕ → Seat) (locks : State) (s : ℕ) (r : Reader) → bare (new s) ≡ outside → IsSeated old locks s (Reading r) → IsSeated new locks s Outside
reads-out old new locks s r e f = record { seat = e; wants = f.wants; beside = f.beside; needs = f.needs; statement = tt }

pub reads-over : (old new : ℕ → Seat) (locks : State) (s : ℕ) (r : Reader) → bare (new s) ≡ outside → IsSeated old locks s (Reading r) → IsSeated new locks s Over
reads-over old new locks s r e f = record { seat = e; wants = f.wants; beside = f.beside; needs = f.needs; statement = tt }
