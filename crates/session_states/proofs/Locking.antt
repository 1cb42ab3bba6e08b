-- What a stage that wants a lock is, and what it comes to where the lock is got.
use Rattle.std.proofs.Common.{◌≡◌, ℕ, zero, suc, ◌+◌, ◌++◌, ◌∷◌, [], ◌==◌, ◌&&◌, not, if◌then◌else◌, Bool, true, false, List, length, take, refl, ◌∙◌, sym, ap, subst, arith, Option, Some, None, slice_get}
use Rattle.std.specs.List.{list_any, AllByRecursion}
use Rattle.std.proofs.lemmas.Bool.{false≢true, or_left, or_right}
use Rattle.std.proofs.lemmas.List.Folds.{list_any-append}
use Rattle.std.proofs.lemmas.Option.{none-some, same_Some}
use Rattle.vms_queues.specs.declared.lock_mode.Mode.TheVariants.{PR, EX}
use Rattle.rdb_types.specs.declared.keys.Dbkey.{Dbkey}
use Rattle.stepped_jobs.proofs.of_kept_apart.Apart.{area-guards}
use Rattle.rdo_ast.specs.declared.reply.Standing.{Standing}
use Rattle.rdo_ast.specs.declared.reply.Standing.TheVariants.{Closed, ReadOnly, ReadWrite}
use Rattle.rdo_ast.specs.declared.syntax.Item.{Item}
use Rattle.rdo_ast.specs.Tree.{Uttered, said, commit}
use Rattle.rdo_ast.specs.Views.{uttered_of}
use Rattle.rdb_meaning.specs.declared.tables.Tables.{Tables}
use Rattle.lock_needs.specs.declared.need.Need.{Need as LockNeed}
use Rattle.rdb_account.specs.Events.{need as lock}
use Rattle.rdb_account.specs.Places.{Opening, Place, is_writer}
use Rattle.rdb_account.specs.Legal.{ends_by}
use Rattle.rdb_account.specs.AskedFor.{area_node, is_need, is_on_journal, is_on_line_of}
use Rattle.line_view.specs.declared.need.Need.TheVariants as need
use Rattle.line_view.specs.declared.writes.Write.{Write}
use Rattle.line_view.specs.Held.{Held, knows}
use Rattle.line_view.specs.Knowledge.{Knowledge}
use Rattle.stepped_jobs.specs.kept_apart.Guards.{line_node, is_guarded, is_strong, may_write, AreOwn}
use Rattle.line_steps.specs.session_jobs.Records.{Model, IsOrderly}
use Rattle.line_steps.specs.session_jobs.Asked.{AsksFor, area_mode, is_definition, is_lock_for}
use Rattle.line_steps.specs.session_jobs.Jobs.{WhereItAgrees, AreAsked}
use Rattle.line_steps.specs.line_history.Transactions.{IsAskedOver}
use Rattle.line_steps.proofs.of_line_history.Needs.{journal-asked, found-asked}
use Rattle.line_store.specs.Seats.{Seat, writing as seat_writing, prepared}
use Rattle.line_steps.proofs.of_lock_ties.Places.{same-number, number}
use Rattle.line_steps.proofs.of_lock_ties.Single.{need-self}
use Rattle.line_steps.specs.Right.{Ground, Writes}
use Rattle.line_steps.proofs.Wants.{takes-locks}
use Rattle.session_states.specs.declared.stage.Work.TheVariants.{Opening as OpeningIt, Due, Out, Lacking, Housing, Fetching, Lodging}
use Rattle.session_states.specs.declared.stage.Gather.TheVariants as gather
use Rattle.session_states.specs.declared.stage.Laying.TheVariants.{Claiming, Changing, Broken}
use Rattle.session_states.specs.declared.stage.End.TheVariants.{Preparing, Journal, Ready, Committing, RollingBack, Leaving}
use Rattle.session_states.specs.declared.stage.Stage.{Stage}
use Rattle.session_states.specs.declared.stage.Stage.TheVariants.{Between, Working, Gathering, Reserving, Saying, Ending}
use Rattle.session_states.specs.Locks.{lock_for_area, lock_for_line, lock_of_write, lock_of}
use Rattle.session_states.specs.Turns.{got}
use Rattle.session_states.specs.declared.stage.Phase.TheVariants.{Writing}
use Rattle.session_states.specs.States.{item_of, is_at_rest, writer, session}
use Rattle.session_states.specs.Shared.{Shared}
use Rattle.session_states.specs.Fits.{has_said, AreGot, StageFits, DeskFits, IsAtEnd}
use Rattle.line_steps.specs.Images.{journal_node}
use Rattle.session_states.specs.Steps.{Finds}
use Rattle.session_states.proofs.Basics.{guards-new, writes-new, own-take, own-more}

-- the write at a place is that of the lock
pub write-at : (ws : List Write) (place : ℕ) (n : LockNeed) → lock_of_write (slice_get ws place) ≡ Some n → (w : Write) × (slice_get ws place ≡ Some w) × (lock (line_node w.key) EX ≡ n)
write-at ws place n wants = by (slice_get ws place) refl wants
  where
    by : (x : Option Write) → slice_get ws place ≡ x → lock_of_write x ≡ Some n → (w : Write) × (slice_get ws place ≡ Some w) × (lock (line_node w.key) EX ≡ n)
    by None e h = absurd (none-some n h)
    by (Some w) e h = (w, e, same_Some (lock (line_node w.key) EX) n h)

-- what is asked of all writes is asked of the one at a place
asked-at : (standing : Standing) (item : Uttered) (t : Tables) (ws : List Write) (place : ℕ) (w : Write) → slice_get ws place ≡ Some w → AreAsked standing item ws t → AsksFor standing item t (is_on_line_of w.key.area EX)
asked-at standing item t [] place w found h = absurd (none-some w found)
asked-at standing item t (v ∷ ws) zero w found h = subst (λ (u : Write). AsksFor standing item t (is_on_line_of u.key.area EX)) (same_Some v w found) h.0
asked-at standing item t (v ∷ ws) (suc place) w found h = asked-at standing item t ws place w found h.1

strong-area : (item : Uttered) (area : ℕ) → is_strong (area_mode item area) ≡ true
strong-area item area = by ((area == 1) && is_definition item)
  where
    by : (b : Bool) → is_strong (if b then EX else PR) ≡ true
    by true = refl
    by false = refl

-- the lock is on a line of its own area
on-own-line : (area : ℕ) → (area == area) ≡ true
on-own-line area = same-number area

-- what is read of a line asks for its lock, which guards the line
line-asked : (item : Uttered) (key : Dbkey) → is_lock_for item (need.Line key) (lock_for_line item key) ≡ true
line-asked item key = by (key.area == 1)
  where
    by : (b : Bool) → (if b then is_need (area_node 1) (area_mode item 1) (if b then lock_for_area item 1 else lock (line_node key) PR) else is_on_line_of key.area PR (if b then lock_for_area item 1 else lock (line_node key) PR)) ≡ true
    by true = need-self (lock_for_area item 1)
    by false = rw (on-own-line key.area) refl

line-locked : (has : List LockNeed) (item : Uttered) (key : Dbkey) → is_guarded (has ++ lock_for_line item key ∷ []) (line_node key) ≡ true
line-locked has item key = by (key.area == 1) refl
  where
    by : (b : Bool) → (key.area == 1) ≡ b → is_guarded (has ++ (if b then lock_for_area item 1 else lock (line_node key) PR) ∷ []) (line_node key) ≡ true
    by false e = guards-new has (lock (line_node key) PR) refl
    by true e =
        area-guards (has ++ lock_for_area item 1 ∷ []) key
        (subst (λ (a : ℕ). is_guarded (has ++ lock_for_area item 1 ∷ []) (area_node a) ≡ true) (sym (number key.area 1 e)) (guards-new has (lock_for_area item 1) (strong-area item 1)))

-- the statement for which a lock is wanted
pub under-way : (stage : Stage) (n : LockNeed) → lock_of stage ≡ Some n → (item : Uttered) × (item_of stage ≡ Some item)
under-way Between n wants = absurd (none-some n wants)
under-way (Working item work) n wants = (uttered_of item, refl)
under-way (Gathering item gather later place) n wants = (uttered_of item, refl)
under-way (Reserving item r locks place) n wants = (uttered_of item, refl)
under-way (Saying item r laying) n wants = (uttered_of item, refl)
under-way (Ending Preparing) n wants = absurd (none-some n wants)
under-way (Ending Journal) n wants = (said commit, refl)
under-way (Ending Ready) n wants = absurd (none-some n wants)
under-way (Ending Committing) n wants = absurd (none-some n wants)
under-way (Ending RollingBack) n wants = absurd (none-some n wants)
under-way (Ending Leaving) n wants = absurd (none-some n wants)

pub item-got : (stage : Stage) → item_of stage ≡ item_of (got stage)
item-got Between = refl
item-got (Working item work) = refl
item-got (Gathering item gather later place) = refl
item-got (Reserving item r locks place) = refl
item-got (Saying item r laying) = refl
item-got (Ending Preparing) = refl
item-got (Ending Journal) = refl
item-got (Ending Ready) = refl
item-got (Ending Committing) = refl
item-got (Ending RollingBack) = refl
item-got (Ending Leaving) = refl

-- the script's end is no stage behind a lock
pub ends-got : (left : List Item) (stage : Stage) (n : LockNeed) → lock_of stage ≡ Some n → IsAtEnd left (got stage)
ends-got left Between n wants = absurd (none-some n wants)
ends-got left (Working item work) n wants = tt
ends-got left (Gathering item gather later place) n wants = tt
ends-got left (Reserving item r locks place) n wants = tt
ends-got left (Saying item r laying) n wants = tt
ends-got left (Ending Preparing) n wants = absurd (none-some n wants)
ends-got left (Ending Journal) n wants = tt
ends-got left (Ending Ready) n wants = absurd (none-some n wants)
ends-got left (Ending Committing) n wants = absurd (none-some n wants)
ends-got left (Ending RollingBack) n wants = absurd (none-some n wants)
ends-got left (Ending Leaving) n wants = absurd (none-some n wants)

not-so : (b : Bool) → not b ≡ true → b ≡ false
not-so true h = sym h
not-so false h = refl

-- what is so of all is so of one
pub at-place : (P : LockNeed → Type 0) (ns : List LockNeed) (place : ℕ) (n : LockNeed) → slice_get ns place ≡ Some n → AllByRecursion P ns → P n
at-place P [] place n found all = absurd (none-some n found)
at-place P (m ∷ ns) zero n found all = subst P (same_Some m n found) all.0
at-place P (m ∷ ns) (suc place) n found all = at-place P ns place n found all.1

-- the lock at the place is got, beside those before
got-more : (has more ns : List LockNeed) → AreGot has ns → AreGot (has ++ more) ns
got-more has more [] all = tt
got-more has more (n ∷ ns) all = (list_any-append (is_need n.node n.mode) has more ∙ or_left (list_any (is_need n.node n.mode) has) (list_any (is_need n.node n.mode) more) all.0, got-more has more ns all.1)

got-last : (has : List LockNeed) (n : LockNeed) → list_any (is_need n.node n.mode) (has ++ n ∷ []) ≡ true
got-last has n =
    list_any-append (is_need n.node n.mode) has (n ∷ [])
    ∙ or_right (list_any (is_need n.node n.mode) has) (list_any (is_need n.node n.mode) (n ∷ [])) (or_left (is_need n.node n.mode n) false (need-self n))

pub got-none : (has ns : List LockNeed) → AreGot has (take 0 ns)
got-none has [] = tt
got-none has (n ∷ ns) = tt

got-take : (has ns : List LockNeed) (place : ℕ) (n : LockNeed) → slice_get ns place ≡ Some n → list_any (is_need n.node n.mode) has ≡ true → AreGot has (take place ns) → AreGot has (take (suc place) ns)
got-take has [] place n found one all = absurd (none-some n found)
got-take has (m ∷ ns) zero n found one all = (subst (λ (k : LockNeed). list_any (is_need k.node k.mode) has ≡ true) (sym (same_Some m n found)) one, got-none has ns)
got-take has (m ∷ ns) (suc place) n found one all = (all.0, got-take has ns place n found one all.1)

got-next : (has ns : List LockNeed) (place : ℕ) (n : LockNeed) → slice_get ns place ≡ Some n → AreGot has (take place ns) → AreGot (has ++ n ∷ []) (take (place + 1) ns)
got-next has ns place n found all =
    subst (λ (k : ℕ). AreGot (has ++ n ∷ []) (take k ns)) (one place) (got-take (has ++ n ∷ []) ns place n found (got-last has n) (got-more has (n ∷ []) (take place ns) all))
  where
    one : (k : ℕ) → suc k ≡ k + 1
    one k = omega arith

-- where the store has a session that wants a lock
abbrev pub seat_wanting : Stage → List Write → Seat
seat_wanting (Ending end) ws = prepared ws
seat_wanting stage ws = seat_writing ws

-- a statement that doesn't end its transaction wants its locks while the store rests
pub wanting-rests : (stage : Stage) (n : LockNeed) (item : Uttered) → lock_of stage ≡ Some n → item_of stage ≡ Some item → ends_by item ≡ false → is_at_rest stage ≡ true
wanting-rests Between n item wants is stays = refl
wanting-rests (Working i OpeningIt) n item wants is stays = absurd (none-some n wants)
wanting-rests (Working i Due) n item wants is stays = refl
wanting-rests (Working i Out) n item wants is stays = refl
wanting-rests (Working i (Lacking lack)) n item wants is stays = refl
wanting-rests (Working i (Housing room key)) n item wants is stays = refl
wanting-rests (Working i (Fetching lack)) n item wants is stays = refl
wanting-rests (Working i (Lodging room key)) n item wants is stays = refl
wanting-rests (Gathering i gather later place) n item wants is stays = refl
wanting-rests (Reserving i r locks place) n item wants is stays = refl
wanting-rests (Saying i r (Claiming place)) n item wants is stays = refl
wanting-rests (Saying i r Changing) n item wants is stays = absurd (none-some n wants)
wanting-rests (Saying i r Broken) n item wants is stays = absurd (none-some n wants)
wanting-rests (Ending Preparing) n item wants is stays = refl
wanting-rests (Ending Journal) n item wants is stays = absurd (false≢true (sym stays ∙ ap ends_by (sym (same_Some (said commit) item is))))
wanting-rests (Ending Ready) n item wants is stays = absurd (none-some n wants)
wanting-rests (Ending Committing) n item wants is stays = absurd (none-some n wants)
wanting-rests (Ending RollingBack) n item wants is stays = absurd (none-some n wants)
wanting-rests (Ending Leaving) n item wants is stays = absurd (none-some n wants)

module _ (M : Model) (orderly : IsOrderly M) where
  -- a stage that wants a lock has its desk as it knows, and its seat writes, or is prepared where it wants the journal
  pub desk-wanting : (p : Place) (g : Ground) (c : Shared) (s : ℕ) (standing : Standing) (known : Held) (stage : Stage) (n : LockNeed) → lock_of stage ≡ Some n → DeskFits M p g c s standing known stage →
      ((g.desk s).known ≡ knows known) × (c.shelf.seat s ≡ seat_wanting stage (g.desk s).writes)
  desk-wanting p g c s standing known Between n wants f = absurd (none-some n wants)
  desk-wanting p g c s standing known (Working item OpeningIt) n wants f = absurd (none-some n wants)
  desk-wanting p g c s standing known (Working item Due) n wants f = absurd (none-some n wants)
  desk-wanting p g c s standing known (Working item Out) n wants f = absurd (none-some n wants)
  desk-wanting p g c s standing known (Working item (Lacking lack)) n wants f = f
  desk-wanting p g c s standing known (Working item (Housing room key)) n wants f = f
  desk-wanting p g c s standing known (Working item (Fetching lack)) n wants f = absurd (none-some n wants)
  desk-wanting p g c s standing known (Working item (Lodging room key)) n wants f = absurd (none-some n wants)
  desk-wanting p g c s standing known (Gathering item gather later place) n wants f = f
  desk-wanting p g c s standing known (Reserving item r locks place) n wants f = f
  desk-wanting p g c s standing known (Saying item r (Claiming place)) n wants f = f
  desk-wanting p g c s standing known (Saying item r Changing) n wants f = absurd (none-some n wants)
  desk-wanting p g c s standing known (Saying item r Broken) n wants f = absurd (none-some n wants)
  desk-wanting p g c s standing known (Ending Preparing) n wants f = absurd (none-some n wants)
  desk-wanting p g c s standing known (Ending Journal) n wants f = f
  desk-wanting p g c s standing known (Ending Ready) n wants f = absurd (none-some n wants)
  desk-wanting p g c s standing known (Ending Committing) n wants f = absurd (none-some n wants)
  desk-wanting p g c s standing known (Ending RollingBack) n wants f = absurd (none-some n wants)
  desk-wanting p g c s standing known (Ending Leaving) n wants f = absurd (none-some n wants)

  -- where the store has nothing to do, the desk is as the session knows, and its seat writes
  pub desk-resting : (p : Place) (g : Ground) (c : Shared) (s : ℕ) (standing : Standing) (known : Held) (stage : Stage) → is_at_rest stage ≡ true → DeskFits M p g c s standing known stage →
      ((g.desk s).known ≡ knows known) × (c.shelf.seat s ≡ seat_writing (g.desk s).writes)
  desk-resting p g c s standing known Between idle f = f
  desk-resting p g c s standing known (Working item OpeningIt) idle f = absurd (false≢true idle)
  desk-resting p g c s standing known (Working item Due) idle f = f
  desk-resting p g c s standing known (Working item Out) idle f = f
  desk-resting p g c s standing known (Working item (Lacking lack)) idle f = f
  desk-resting p g c s standing known (Working item (Housing room key)) idle f = f
  desk-resting p g c s standing known (Working item (Fetching lack)) idle f = f
  desk-resting p g c s standing known (Working item (Lodging room key)) idle f = f
  desk-resting p g c s standing known (Gathering item gather later place) idle f = f
  desk-resting p g c s standing known (Reserving item r locks place) idle f = f
  desk-resting p g c s standing known (Saying item r (Claiming place)) idle f = f
  desk-resting p g c s standing known (Saying item r Changing) idle f = absurd (false≢true idle)
  desk-resting p g c s standing known (Saying item r Broken) idle f = absurd (false≢true idle)
  desk-resting p g c s standing known (Ending Preparing) idle f = f
  desk-resting p g c s standing known (Ending Journal) idle f = absurd (false≢true idle)
  desk-resting p g c s standing known (Ending Ready) idle f = absurd (false≢true idle)
  desk-resting p g c s standing known (Ending Committing) idle f = absurd (false≢true idle)
  desk-resting p g c s standing known (Ending RollingBack) idle f = absurd (false≢true idle)
  desk-resting p g c s standing known (Ending Leaving) idle f = absurd (false≢true idle)

  -- so it has at a stage that wants a lock, and behind that
  pub desk-asks : (p : Place) (g : Ground) (c : Shared) (s : ℕ) (standing : Standing) (known : Held) (stage : Stage) (n : LockNeed) → lock_of stage ≡ Some n →
      (g.desk s).known ≡ knows known → c.shelf.seat s ≡ seat_wanting stage (g.desk s).writes → DeskFits M p g c s standing known stage × DeskFits M p g c s standing known (got stage)
  desk-asks p g c s standing known Between n wants k at = absurd (none-some n wants)
  desk-asks p g c s standing known (Working item OpeningIt) n wants k at = absurd (none-some n wants)
  desk-asks p g c s standing known (Working item Due) n wants k at = absurd (none-some n wants)
  desk-asks p g c s standing known (Working item Out) n wants k at = absurd (none-some n wants)
  desk-asks p g c s standing known (Working item (Lacking lack)) n wants k at = ((k, at), (k, at))
  desk-asks p g c s standing known (Working item (Housing room key)) n wants k at = ((k, at), (k, at))
  desk-asks p g c s standing known (Working item (Fetching lack)) n wants k at = absurd (none-some n wants)
  desk-asks p g c s standing known (Working item (Lodging room key)) n wants k at = absurd (none-some n wants)
  desk-asks p g c s standing known (Gathering item gather later place) n wants k at = ((k, at), (k, at))
  desk-asks p g c s standing known (Reserving item r locks place) n wants k at = ((k, at), (k, at))
  desk-asks p g c s standing known (Saying item r (Claiming place)) n wants k at = ((k, at), (k, at))
  desk-asks p g c s standing known (Saying item r Changing) n wants k at = absurd (none-some n wants)
  desk-asks p g c s standing known (Saying item r Broken) n wants k at = absurd (none-some n wants)
  desk-asks p g c s standing known (Ending Preparing) n wants k at = absurd (none-some n wants)
  desk-asks p g c s standing known (Ending Journal) n wants k at = ((k, at), (k, at))
  desk-asks p g c s standing known (Ending Ready) n wants k at = absurd (none-some n wants)
  desk-asks p g c s standing known (Ending Committing) n wants k at = absurd (none-some n wants)
  desk-asks p g c s standing known (Ending RollingBack) n wants k at = absurd (none-some n wants)
  desk-asks p g c s standing known (Ending Leaving) n wants k at = absurd (none-some n wants)

  -- a statement that takes locks asks for the lock that its stage wants
  statement-asks : (o : Opening) (p : Place) (g : Ground) (s : ℕ) (standing : Standing) (known : Knowledge) (item : Uttered) (these : LockNeed → Bool) (m n : LockNeed) → M g.now p.tables → Writes M o p g s standing (Some item) →
      these m ≡ true → m ≡ n → WhereItAgrees M known (λ t. AsksFor standing item t these) → IsAskedOver M standing (Some item) known n
  statement-asks o p g s standing known item these m n stands w is same asks =
      found-asked M standing known item these n (takes-locks M orderly o p g s standing item stands w) (subst (λ (x : LockNeed). these x ≡ true) same is) asks

  commit-asks : (standing : Standing) (known : Knowledge) (n : LockNeed) → is_writer standing ≡ true → lock_of (Ending Journal) ≡ Some n → IsAskedOver M standing (Some (said commit)) known n
  commit-asks Closed known n writes wants = absurd (false≢true writes)
  commit-asks ReadOnly known n writes wants = absurd (false≢true writes)
  commit-asks (ReadWrite wait rs) known n writes wants = journal-asked M wait rs known n (subst (λ (x : LockNeed). is_on_journal EX x ≡ true) (same_Some _ n wants) refl)

  -- what is right of the stage behind it
  pub stage-got : (word : List ℕ) (has : List LockNeed) (standing : Standing) (known : Held) (spoken : Bool) (stage : Stage) (n : LockNeed) → lock_of stage ≡ Some n → StageFits M word has standing known spoken stage →
      StageFits M word (has ++ n ∷ []) standing known spoken (got stage)
  stage-got word has standing known spoken Between n wants f = absurd (none-some n wants)
  stage-got word has standing known spoken (Working item OpeningIt) n wants f = absurd (none-some n wants)
  stage-got word has standing known spoken (Working item Due) n wants f = absurd (none-some n wants)
  stage-got word has standing known spoken (Working item Out) n wants f = absurd (none-some n wants)
  stage-got word has standing known spoken (Working item (Lacking (need.Line key))) n wants f =
      (f.0, subst (λ (m : LockNeed). is_guarded (has ++ m ∷ []) (line_node key) ≡ true) (same_Some _ n wants) (line-locked has (uttered_of item) key))
  stage-got word has standing known spoken (Working item (Lacking (need.Area area))) n wants f =
      (f.0, subst (λ (m : LockNeed). is_guarded (has ++ m ∷ []) (area_node area) ≡ true) (same_Some _ n wants) (guards-new has (lock (area_node area) (area_mode (uttered_of item) area)) (strong-area (uttered_of item) area)))
  stage-got word has standing known spoken (Working item (Lacking (need.Room room))) n wants f = absurd (none-some n wants)
  stage-got word has standing known spoken (Working item (Housing room key)) n wants f =
      (f.0, (subst (λ (m : LockNeed). is_guarded (has ++ m ∷ []) (line_node key) ≡ true) (same_Some _ n wants) (guards-new has (lock (line_node key) EX) refl), f.1.1))
  stage-got word has standing known spoken (Working item (Fetching lack)) n wants f = absurd (none-some n wants)
  stage-got word has standing known spoken (Working item (Lodging room key)) n wants f = absurd (none-some n wants)
  stage-got word has standing known spoken (Gathering item (gather.Locking (need.Line key)) later place) n wants f =
      (f.0, subst (λ (m : LockNeed). is_guarded (has ++ m ∷ []) (line_node key) ≡ true) (same_Some _ n wants) (line-locked has (uttered_of item) key), f.2)
  stage-got word has standing known spoken (Gathering item (gather.Locking (need.Area area)) later place) n wants f =
      (f.0, subst (λ (m : LockNeed). is_guarded (has ++ m ∷ []) (area_node area) ≡ true) (same_Some _ n wants) (guards-new has (lock (area_node area) (area_mode (uttered_of item) area)) (strong-area (uttered_of item) area)), f.2)
  stage-got word has standing known spoken (Gathering item (gather.Locking (need.Room room)) later place) n wants f = absurd (none-some n wants)
  stage-got word has standing known spoken (Gathering item (gather.Housing room key) later place) n wants f =
      (f.0, (subst (λ (m : LockNeed). is_guarded (has ++ m ∷ []) (line_node key) ≡ true) (same_Some _ n wants) (guards-new has (lock (line_node key) EX) refl), f.1.1), f.2)
  stage-got word has standing known spoken (Gathering item (gather.Reading lack) later place) n wants f = absurd (none-some n wants)
  stage-got word has standing known spoken (Gathering item (gather.Lodging room key) later place) n wants f = absurd (none-some n wants)
  stage-got word has standing known spoken (Reserving item r locks place) n wants f =
      (f.0, record { record_is = f.1.record_is; asked = f.1.asked; reserved = got-next has locks place n wants f.1.reserved; off = f.1.off })
  stage-got word has standing known spoken (Saying item r (Claiming place)) n wants f =
      let at = write-at r.writes place n wants in
      (f.0, (f.1.0, own-next has r.writes place at.0 n at.1 at.2 f.1.1))
    where
      next : (has : List LockNeed) (ws : List Write) (place : ℕ) → AreOwn has (take (suc place) ws) → AreOwn has (take (place + 1) ws)
      next has ws place h = subst (λ (k : ℕ). AreOwn has (take k ws)) (one place) h
        where
          one : (k : ℕ) → suc k ≡ k + 1
          one k = omega arith

      own-next : (has : List LockNeed) (ws : List Write) (place : ℕ) (w : Write) (n : LockNeed) → slice_get ws place ≡ Some w → lock (line_node w.key) EX ≡ n → AreOwn has (take place ws) → AreOwn (has ++ n ∷ []) (take (place + 1) ws)
      own-next has ws place w n found is own =
          next (has ++ n ∷ []) ws place (own-take (has ++ n ∷ []) ws place w found
          (subst (λ (m : LockNeed). may_write (has ++ m ∷ []) (line_node w.key) ≡ true) is (writes-new has (lock (line_node w.key) EX) refl))
          (own-more has (n ∷ []) (take place ws) own))
  stage-got word has standing known spoken (Saying item r Changing) n wants f = absurd (none-some n wants)
  stage-got word has standing known spoken (Saying item r Broken) n wants f = absurd (none-some n wants)
  stage-got word has standing known spoken (Ending Preparing) n wants f = absurd (none-some n wants)
  stage-got word has standing known spoken (Ending Journal) n wants f =
      (f.0, subst (λ (m : LockNeed). may_write (has ++ m ∷ []) journal_node ≡ true) (same_Some _ n wants) (writes-new has (lock journal_node EX) refl))
  stage-got word has standing known spoken (Ending Ready) n wants f = absurd (none-some n wants)
  stage-got word has standing known spoken (Ending Committing) n wants f = absurd (none-some n wants)
  stage-got word has standing known spoken (Ending RollingBack) n wants f = absurd (none-some n wants)
  stage-got word has standing known spoken (Ending Leaving) n wants f = absurd (none-some n wants)

  -- once something was said in it, a read-write transaction stands as one
  writes-on : (o : Opening) (p : Place) (g : Ground) (s : ℕ) (standing : Standing) (under : Option Uttered) (spoken : Bool) → (w : Writes M o p g s standing under) → has_said (p.transaction s) ≡ spoken → spoken ≡ true → is_writer standing ≡ true
  writes-on o p g s standing under spoken w says is = w.remains (not-so (length w.transaction.lines == 0) (sym (ap has_said w.is_open) ∙ (says ∙ is)))

  -- a COMMIT asks for the journal before it wants it
  pub preparing-asks : (o : Opening) (p : Place) (g : Ground) (c : Shared) (s : ℕ) (left : List Item) (total : ℕ) (standing : Standing) (known : Held) (spoken waits : Bool) →
      Finds M o p g c s (session left total (Writing (writer standing known spoken waits (Ending Preparing)))) → IsAskedOver M standing (Some (said commit)) (g.desk s).known (lock journal_node EX)
  preparing-asks o p g c s left total standing known spoken waits f = commit-asks standing (g.desk s).known (lock journal_node EX) (writes-on o p g s standing (Some (said commit)) spoken f.here.stands.state f.fits.phase.spoken f.fits.phase.stage.0) refl

  -- the statement under way asks for the lock that its stage wants
  pub lock-asks : (o : Opening) (p : Place) (g : Ground) (c : Shared) (s : ℕ) (left : List Item) (total : ℕ) (standing : Standing) (known : Held) (spoken waits : Bool) (stage : Stage) (n : LockNeed) → lock_of stage ≡ Some n →
      Finds M o p g c s (session left total (Writing (writer standing known spoken waits stage))) → IsAskedOver M standing (item_of stage) (g.desk s).known n
  lock-asks o p g c s left total standing known spoken waits Between n wants f = absurd (none-some n wants)
  lock-asks o p g c s left total standing known spoken waits (Working item OpeningIt) n wants f = absurd (none-some n wants)
  lock-asks o p g c s left total standing known spoken waits (Working item Due) n wants f = absurd (none-some n wants)
  lock-asks o p g c s left total standing known spoken waits (Working item Out) n wants f = absurd (none-some n wants)
  lock-asks o p g c s left total standing known spoken waits (Working item (Lacking (need.Line key))) n wants f =
      subst (λ k. IsAskedOver M standing (Some (uttered_of item)) k n) (sym f.fits.phase.desk.0)
      (statement-asks o p g s standing (knows known) (uttered_of item) (is_lock_for (uttered_of item) (need.Line key)) (lock_for_line (uttered_of item) key) n f.here.fit.stands f.here.stands.state
      (line-asked (uttered_of item) key) (same_Some _ n wants) f.fits.phase.stage.1)
  lock-asks o p g c s left total standing known spoken waits (Working item (Lacking (need.Area area))) n wants f =
      subst (λ k. IsAskedOver M standing (Some (uttered_of item)) k n) (sym f.fits.phase.desk.0)
      (statement-asks o p g s standing (knows known) (uttered_of item) (is_lock_for (uttered_of item) (need.Area area)) (lock (area_node area) (area_mode (uttered_of item) area)) n f.here.fit.stands f.here.stands.state
      (need-self (lock (area_node area) (area_mode (uttered_of item) area))) (same_Some _ n wants) f.fits.phase.stage.1)
  lock-asks o p g c s left total standing known spoken waits (Working item (Lacking (need.Room room))) n wants f = absurd (none-some n wants)
  lock-asks o p g c s left total standing known spoken waits (Working item (Housing room key)) n wants f =
      subst (λ k. IsAskedOver M standing (Some (uttered_of item)) k n) (sym f.fits.phase.desk.0)
      (statement-asks o p g s standing (knows known) (uttered_of item) (is_lock_for (uttered_of item) (need.Room room)) (lock (line_node key) EX) n f.here.fit.stands f.here.stands.state
      (rw f.fits.phase.stage.1.1 (rw (on-own-line room.area) refl)) (same_Some _ n wants) f.fits.phase.stage.1.0)
  lock-asks o p g c s left total standing known spoken waits (Gathering item (gather.Locking (need.Line key)) later place) n wants f =
      subst (λ k. IsAskedOver M standing (Some (uttered_of item)) k n) (sym f.fits.phase.desk.0)
      (statement-asks o p g s standing (knows known) (uttered_of item) (is_lock_for (uttered_of item) (need.Line key)) (lock_for_line (uttered_of item) key) n f.here.fit.stands f.here.stands.state
      (line-asked (uttered_of item) key) (same_Some _ n wants) f.fits.phase.stage.1)
  lock-asks o p g c s left total standing known spoken waits (Gathering item (gather.Locking (need.Area area)) later place) n wants f =
      subst (λ k. IsAskedOver M standing (Some (uttered_of item)) k n) (sym f.fits.phase.desk.0)
      (statement-asks o p g s standing (knows known) (uttered_of item) (is_lock_for (uttered_of item) (need.Area area)) (lock (area_node area) (area_mode (uttered_of item) area)) n f.here.fit.stands f.here.stands.state
      (need-self (lock (area_node area) (area_mode (uttered_of item) area))) (same_Some _ n wants) f.fits.phase.stage.1)
  lock-asks o p g c s left total standing known spoken waits (Gathering item (gather.Locking (need.Room room)) later place) n wants f = absurd (none-some n wants)
  lock-asks o p g c s left total standing known spoken waits (Gathering item (gather.Housing room key) later place) n wants f =
      subst (λ k. IsAskedOver M standing (Some (uttered_of item)) k n) (sym f.fits.phase.desk.0)
      (statement-asks o p g s standing (knows known) (uttered_of item) (is_lock_for (uttered_of item) (need.Room room)) (lock (line_node key) EX) n f.here.fit.stands f.here.stands.state
      (rw f.fits.phase.stage.1.1 (rw (on-own-line room.area) refl)) (same_Some _ n wants) f.fits.phase.stage.1.0)
  lock-asks o p g c s left total standing known spoken waits (Gathering item (gather.Reading lack) later place) n wants f = absurd (none-some n wants)
  lock-asks o p g c s left total standing known spoken waits (Gathering item (gather.Lodging room key) later place) n wants f = absurd (none-some n wants)
  lock-asks o p g c s left total standing known spoken waits (Reserving item r locks place) n wants f =
      subst (λ k. IsAskedOver M standing (Some (uttered_of item)) k n) (sym f.fits.phase.desk.0) (at-place (IsAskedOver M standing (Some (uttered_of item)) (knows known)) locks place n wants f.fits.phase.stage.1.asked)
  lock-asks o p g c s left total standing known spoken waits (Working item (Fetching lack)) n wants f = absurd (none-some n wants)
  lock-asks o p g c s left total standing known spoken waits (Working item (Lodging room key)) n wants f = absurd (none-some n wants)
  lock-asks o p g c s left total standing known spoken waits (Saying item r (Claiming place)) n wants f =
      let at = write-at r.writes place n wants in
      subst (λ k. IsAskedOver M standing (Some (uttered_of item)) k n) (sym f.fits.phase.desk.0)
      (statement-asks o p g s standing (knows known) (uttered_of item) (is_on_line_of at.0.key.area EX) (lock (line_node at.0.key) EX) n f.here.fit.stands f.here.stands.state (rw (on-own-line at.0.key.area) refl) at.2
      (λ all t m agrees. asked-at standing (uttered_of item) t r.writes place at.0 at.1 (f.fits.phase.stage.1.0.asked all t m agrees)))
  lock-asks o p g c s left total standing known spoken waits (Saying item r Changing) n wants f = absurd (none-some n wants)
  lock-asks o p g c s left total standing known spoken waits (Saying item r Broken) n wants f = absurd (none-some n wants)
  lock-asks o p g c s left total standing known spoken waits (Ending Preparing) n wants f = absurd (none-some n wants)
  lock-asks o p g c s left total standing known spoken waits (Ending Journal) n wants f = commit-asks standing (g.desk s).known n (writes-on o p g s standing (Some (said commit)) spoken f.here.stands.state f.fits.phase.spoken f.fits.phase.stage.0) wants
  lock-asks o p g c s left total standing known spoken waits (Ending Ready) n wants f = absurd (none-some n wants)
  lock-asks o p g c s left total standing known spoken waits (Ending Committing) n wants f = absurd (none-some n wants)
  lock-asks o p g c s left total standing known spoken waits (Ending RollingBack) n wants f = absurd (none-some n wants)
  lock-asks o p g c s left total standing known spoken waits (Ending Leaving) n wants f = absurd (none-some n wants)
