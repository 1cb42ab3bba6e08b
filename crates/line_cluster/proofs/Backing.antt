-- The online backups of an account go on with a step of one session as the store has it.
use Rattle.std.proofs.Common.{◌≡◌, ◌≤◌, ◌⊎◌, inl, inr, ℕ, suc, ◌==◌, ◌&&◌, ◌||◌, not, ◌++◌, ◌∷◌, [], Bool, true, false, List, length, map, refl, ◌∙◌, sym, ap, subst, arith, Option, Some, None, slice_get}
use Rattle.std.specs.Prelude.{is_some}
use Rattle.std.proofs.lemmas.Bool.{false≢true, eqb-true}
use Rattle.std.proofs.lemmas.Option.{none-some, same_Some}
use Rattle.rdo_ast.specs.declared.syntax.Item.{Item}
use Rattle.rdo_ast.specs.declared.reply.Standing.{Standing}
use Rattle.rdo_ast.specs.declared.reply.Standing.TheVariants.{ReadOnly}
use Rattle.rdo_ast.specs.Tree.{Uttered, said, back_up}
use Rattle.rdo_ast.specs.Views.{uttered_of}
use Rattle.rdb_account.specs.Events.{Event}
use Rattle.rdb_account.specs.Places.{Opening, Place, Transaction, backup_of, begins, begun, is_writer, next_item, place, place_from}
use Rattle.rdb_account.specs.Legal.{MayCommitAs, MayCommitBy, begins_at, ends_its_own, is_backing_up, is_committing as is_committing_item}
use Rattle.rdb_account.specs.Backups.{Backup, Counted, backup_at, backups, is_by, with_begun, with_ended}
use Rattle.rdb_account.proofs.Backups.{backups-grown}
use Rattle.line_view.specs.Knowledge.{Lines}
use Rattle.rdb_types.specs.declared.session.Moment.{Moment}
use Rattle.lock_tree_laws.specs.Forest.{State}
use Rattle.line_store.specs.Seats.{Seat, outside, beginning, writing, changing, broken, prepared, committing, rolling_back, closing, reading, copying, dead, copied_at, done_at, begun as begun_from, begun_by}
use Rattle.line_store.specs.Shelves.{Shelf}
use Rattle.line_store.specs.Sights.{Sight, bare}
use Rattle.line_store.proofs.Begun.{copied-bare}
use Rattle.session_jobs.specs.Records.{Model, IsOrderly}
use Rattle.line_steps.specs.Members.{under_way}
use Rattle.line_steps.specs.Right.{Ground, Reads, Writes, Stands}
use Rattle.line_steps.proofs.Common.{next-is}
use Rattle.line_steps.proofs.of_lock_ties.Places.{at-same}
use Rattle.session_states.specs.declared.stage.Work.TheVariants as work
use Rattle.session_states.specs.declared.stage.Laying.TheVariants as laying
use Rattle.session_states.specs.declared.stage.End.TheVariants as end
use Rattle.session_states.specs.declared.stage.Stage.{Stage}
use Rattle.session_states.specs.declared.stage.Stage.TheVariants as stage
use Rattle.session_states.specs.declared.stage.ReaderWork.TheVariants.{Due, Out, Copying}
use Rattle.session_states.specs.declared.stage.ReaderStage.{ReaderStage}
use Rattle.session_states.specs.declared.stage.ReaderStage.TheVariants.{Between, Working, Gathering}
use Rattle.session_states.specs.declared.stage.Reader.{Reader}
use Rattle.session_states.specs.declared.stage.Phase.{Phase}
use Rattle.session_states.specs.declared.stage.Phase.TheVariants.{Outside, Closing, Writing, Reading, Over}
use Rattle.session_states.specs.declared.stage.Member.{Member}
use Rattle.session_states.specs.States.{copies_at, copies_in, item_of, reader_item, seat_of_reader, seen, session}
use Rattle.session_states.specs.Shared.{Shared}
use Rattle.session_states.specs.Fits.{has_said, PhaseFits, ReaderStageFits, ReadsOn}
use Rattle.session_states.specs.Steps.{Finds, Leaves, Step}
use Rattle.session_states.specs.Kept.{AreKept}
use Rattle.session_states.proofs.ReaderSeats.{backup-is, none-own}
use Rattle.session_states.proofs.Standing.{finds}
use Rattle.line_account.specs.session_stands.Seated.{IsSeated, stand_of}
use Rattle.line_account.specs.session_stands.Sessions.{KeepsBackups, dead_in, sharing}
use Rattle.line_account.specs.session_stands.Backed.{AreBacked, BackupsGo, IsBacked}
use Rattle.line_account.proofs.of_session_stands.Backing.{backups-still}
use Rattle.line_account.specs.stage_steps.declared.happening.Happening.{Happening}
use Rattle.line_account.specs.stage_steps.declared.happening.Happening.TheVariants.{Quiet, Began, Answered, Unstarted, Asleep, Noticed, Got, Refused, RefusedStart, Committed, BackedUp, RolledBack, Left, Failed, Unlaid, Unworked, Unsound, Unanswered}
use Rattle.line_account.specs.stage_steps.Happenings.{events_of}
use Rattle.line_account.specs.stage_steps.Scenes.{Scene, BacksIn}
use Rattle.line_cluster.proofs.Silent.{IsSilent, has_begun, none-happened}
use Rattle.line_cluster.proofs.Counting.{IsEnded, begun-by, begun-counts, ended-by, ended-counts, has_backed, none-counted}

-- ---- what is copied, as memory knows it

copied-reader : (number : Option ℕ) → copied_at (seat_of_reader number []) ≡ number
copied-reader None = refl
copied-reader (Some n) = refl

done-copies : (seat : Seat) → done_at seat ≡ Some outside → copied_at seat ≡ None
done-copies outside h = refl
done-copies beginning h = refl
done-copies (writing ws) h = refl
done-copies (changing ws) h = refl
done-copies (broken ws) h = refl
done-copies (prepared ws) h = refl
done-copies (committing ws) h = refl
done-copies (rolling_back ws) h = refl
done-copies closing h = refl
done-copies (reading start) h = refl
done-copies (copying number start) h = cc h
done-copies (dead commits ws) h = refl

stage-copies : (stage : Stage) → copied_at (stand_of stage) ≡ None
stage-copies stage.Between = refl
stage-copies (stage.Working item work.Opening) = refl
stage-copies (stage.Working item work.Due) = refl
stage-copies (stage.Working item work.Out) = refl
stage-copies (stage.Working item (work.Lacking n)) = refl
stage-copies (stage.Working item (work.Housing room key)) = refl
stage-copies (stage.Working item (work.Fetching n)) = refl
stage-copies (stage.Working item (work.Lodging room key)) = refl
stage-copies (stage.Gathering item gather later place) = refl
stage-copies (stage.Reserving item r locks place) = refl
stage-copies (stage.Saying item r (laying.Claiming place)) = refl
stage-copies (stage.Saying item r laying.Changing) = refl
stage-copies (stage.Saying item r laying.Broken) = refl
stage-copies (stage.Ending end.Preparing) = refl
stage-copies (stage.Ending end.Journal) = refl
stage-copies (stage.Ending end.Ready) = refl
stage-copies (stage.Ending end.Committing) = refl
stage-copies (stage.Ending end.RollingBack) = refl
stage-copies (stage.Ending end.Leaving) = refl

pub copied-in : (stand : ℕ → Seat) (locks : State) (s : ℕ) (x : Phase) → IsSeated stand locks s x → copied_at (stand s) ≡ copies_in x
copied-in stand locks s Outside f = sym (copied-bare (stand s)) ∙ ap copied_at f.seat
copied-in stand locks s Closing f = sym (copied-bare (stand s)) ∙ done-copies (bare (stand s)) f.seat
copied-in stand locks s (Writing w) f = sym (copied-bare (stand s)) ∙ (ap copied_at f.seat ∙ stage-copies w.stage)
copied-in stand locks s (Reading r) f = sym (copied-bare (stand s)) ∙ (ap copied_at f.seat ∙ copied-reader (copies_at r.stage))
copied-in stand locks s Over f = sym (copied-bare (stand s)) ∙ ap copied_at f.seat

begun-fresh : (there : Option ℕ) → begun_by None there ≡ there
begun-fresh None = refl
begun-fresh (Some n) = refl

-- ---- small laws

silent-none : (b : Bool) → not b ≡ false → b ≡ true
silent-none true h = refl
silent-none false h = sym h

own-of : (own spoken : Bool) → spoken ≡ false → (own && not spoken) ≡ false → own ≡ false
own-of own spoken silent h = grind arith

is-by : (s : ℕ) (x : Option ℕ) → is_by s x ≡ true → x ≡ Some s
is-by s None h = absurd (false≢true h)
is-by s (Some t) h = ap Some (eqb-true t s h)

next-of : (x : Option Uttered) (n : ℕ) → backup_at x ≡ Some n → (item : Uttered) × (x ≡ Some item) × (backup_of item ≡ Some n)
next-of None n h = absurd (none-some n h)
next-of (Some item) n h = (item, refl, h)

-- ---- what a session copies

module _ (M : Model) (o : Opening) (q : Place) (g : Ground) (d : Shared) (s : ℕ) (left : List Item) (total : ℕ) where
  next-item : (r : Reader) (stage : ReaderStage) (item : Item) → r.stage ≡ stage → reader_item stage ≡ Some (uttered_of item) → Stands M o q g s (seen (session left total (Reading r))) → next_item o q s ≡ Some (uttered_of item)
  next-item r stage item e is st = next-is M o q g s (seen (session left total (Reading r))) (uttered_of item) (map uttered_of left) st (ap (λ (u : Option Uttered). under_way u ++ map uttered_of left) (ap reader_item e ∙ is))

  -- Where it copies, it reads in a transaction in which nothing was said yet, and its next item names the backup.
  pub is-copied : (x : Phase) (k : ℕ) → PhaseFits M q g d s left x → Stands M o q g s (seen (session left total x)) → copies_in x ≡ Some k → IsSilent (q.transaction s) × ((item : Uttered) × (next_item o q s ≡ Some item) × (backup_of item ≡ Some k))
  is-copied Outside k f st h = absurd (none-some k h)
  is-copied Closing k f st h = absurd (none-some k h)
  is-copied (Writing w) k f st h = absurd (none-some k h)
  is-copied Over k f st h = absurd (none-some k h)
  is-copied (Reading r) k f st h = by r.stage refl
    where
      by : (stage : ReaderStage) → r.stage ≡ stage → IsSilent (q.transaction s) × ((item : Uttered) × (next_item o q s ≡ Some item) × (backup_of item ≡ Some k))
      by Between e = absurd (none-some k (sym (ap copies_at e) ∙ h))
      by (Working item Due) e = absurd (none-some k (sym (ap copies_at e) ∙ h))
      by (Working item Out) e = absurd (none-some k (sym (ap copies_at e) ∙ h))
      by (Gathering item n later place) e = absurd (none-some k (sym (ap copies_at e) ∙ h))
      by (Working item Copying) e =
          let w : Reads M q g s r.standing (reader_item r.stage) = st.state in
          let fits : ReaderStageFits r.spoken (Working item Copying) = subst (λ (stage : ReaderStage). ReaderStageFits r.spoken stage) e f.stage in (
            record { transaction = w.transaction; is_open = w.is_open; reads = w.reads; none = silent-none (length w.transaction.lines == 0) (sym (ap has_said w.is_open) ∙ (f.spoken ∙ fits.0)) },
            (uttered_of item, next-item r (Working item Copying) item e refl st, sym (ap copies_at e) ∙ h),
          )

  -- and the other way round
  pub copies-at : (x : Phase) (k : ℕ) (item : Uttered) → PhaseFits M q g d s left x → Stands M o q g s (seen (session left total x)) → IsSilent (q.transaction s) → next_item o q s ≡ Some item → backup_of item ≡ Some k → copies_in x ≡ Some k
  copies-at Outside k item f st silent next backup = absurd (none-some silent.transaction (sym st.state ∙ silent.is_open))
  copies-at Closing k item f st silent next backup = absurd (none-some silent.transaction (sym st.state ∙ silent.is_open))
  copies-at Over k item f st silent next backup = absurd (none-some silent.transaction (sym st.state.0 ∙ silent.is_open))
  copies-at (Writing w) k item f st silent next backup =
      let v : Writes M o q g s w.standing (item_of w.stage) = st.state in
      let is = same_Some v.transaction silent.transaction (sym v.is_open ∙ silent.is_open) in
      absurd (false≢true (sym silent.reads ∙ (ap (λ (t : Transaction). is_writer t.kind) (sym is) ∙ v.writes)))
  copies-at (Reading r) k item f st silent next backup = by r.stage refl
    where
      quiet : r.spoken ≡ false
      quiet = sym f.spoken ∙ (ap has_said silent.is_open ∙ ap not silent.none)

      -- a statement that is worked is none
      plain : (i : Item) (stage : ReaderStage) → r.stage ≡ stage → reader_item stage ≡ Some (uttered_of i) → ReadsOn r.spoken (uttered_of i) → ⊥
      plain i stage e is fits =
          let same : uttered_of i ≡ item = same_Some (uttered_of i) item (sym (next-item r stage i e is st) ∙ next) in
          none-some k (sym (none-own (uttered_of i) (own-of (ends_its_own (uttered_of i)) r.spoken quiet fits.1)) ∙ (ap backup_of same ∙ backup))

      by : (stage : ReaderStage) → r.stage ≡ stage → copies_at r.stage ≡ Some k
      by Between e = absurd (false≢true (sym quiet ∙ subst (λ (stage : ReaderStage). ReaderStageFits r.spoken stage) e f.stage))
      by (Working i Due) e = absurd (plain i (Working i Due) e refl (subst (λ (stage : ReaderStage). ReaderStageFits r.spoken stage) e f.stage))
      by (Working i Out) e = absurd (plain i (Working i Out) e refl (subst (λ (stage : ReaderStage). ReaderStageFits r.spoken stage) e f.stage))
      by (Gathering i n later place) e = absurd (plain i (Gathering i n later place) e refl (subst (λ (stage : ReaderStage). ReaderStageFits r.spoken stage) e f.stage))
      by (Working i Copying) e =
          let same : uttered_of i ≡ item = same_Some (uttered_of i) item (sym (next-item r (Working i Copying) i e refl st) ∙ next) in
          ap copies_at e ∙ (ap backup_of same ∙ backup)

  -- what it copies stands for the tables at its start
  pub copied-lines : (x : Phase) (k : ℕ) → PhaseFits M q g d s left x → Stands M o q g s (seen (session left total x)) → copies_in x ≡ Some k → (d.shelf.seat s ≡ copying k (g.desk s).start) × ((t : Transaction) → q.transaction s ≡ Some t → M (g.desk s).start t.base)
  copied-lines Outside k f st h = absurd (none-some k h)
  copied-lines Closing k f st h = absurd (none-some k h)
  copied-lines (Writing w) k f st h = absurd (none-some k h)
  copied-lines Over k f st h = absurd (none-some k h)
  copied-lines (Reading r) k f st h =
      let w : Reads M q g s r.standing (reader_item r.stage) = st.state in (
        f.seat ∙ ap (λ (n : Option ℕ). seat_of_reader n (g.desk s).start) h,
        λ t e. subst (λ (y : Transaction). M (g.desk s).start y.base) (same_Some w.transaction t (sym w.is_open ∙ e)) w.is.stands,
      )

-- ---- a step

module _ (M : Model) (orderly : IsOrderly M) (o : Opening) (c d : Scene) (members : List Member) (events : List Event) (i : ℕ) (left rest : List Item) (total : ℕ) (x y : Phase)
    (lives : dead_in members ≡ 0) (found : slice_get members i ≡ Some (session left total x)) (was : IsSeated c.sight.stand c.locks (suc i) x) (is : IsSeated d.sight.stand d.locks (suc i) y) where
  abbrev s : ℕ
  s = suc i

  abbrev p : Place
  p = place o events

  abbrev before : ℕ → Backup
  before = backups o events

  number-is : begun_from (c.sight.stand s) (d.sight.stand s) ≡ begun_by (copies_in x) (copies_in y)
  number-is = ap (λ (n : Option ℕ). begun_by n (copied_at (d.sight.stand s))) (copied-in c.sight.stand c.locks s x was) ∙ ap (begun_by (copies_in x)) (copied-in d.sight.stand d.locks s y is)

  module _ (h g : Shelf) (kept : AreKept M o (sharing c.word h c.locks (dead_in members)) members events) where
    abbrev old : Shared
    old = sharing c.word h c.locks (dead_in members)

    abbrev new : Shared
    new = sharing d.word g d.locks (dead_in members)

    here : Finds M o p kept.ground old s (session left total x)
    here = finds M orderly o old members events i (session left total x) lives kept found

    abbrev Goes : Happening → Type 0
    Goes e = Leaves M o p kept.ground new s (session rest total y) (events_of s e)

    stands-there : (e : Happening) (lv : Goes e) → Stands M o (place_from o p (events_of s e)) lv.ground s (seen (session rest total y))
    stands-there e lv = subst (λ (q : Place). Stands M o q lv.ground s (seen (session rest total y))) (sym lv.steps.leads) lv.steps.stands

    left-by : (e : Happening) → ((dead : ℕ) → Step M s (sharing c.word h c.locks dead) (session left total x) (sharing d.word g d.locks dead) (session rest total y) (events_of s e)) → Goes e
    left-by e step = (step (dead_in members)).leaves o p kept.ground here

    -- but for its beginning none begins
    none-begins : (e : Happening) → has_begun e ≡ false → Goes e → begun_by (copies_in x) (copies_in y) ≡ None
    none-begins e later lv = by (copies_in y) refl
      where
        by : (n : Option ℕ) → copies_in y ≡ n → begun_by (copies_in x) n ≡ None
        by None same = refl
        by (Some k) same =
            let there = is-copied M o (place_from o p (events_of s e)) lv.ground new s rest total y k lv.fits.phase (stands-there e lv) same in
            let none = none-happened o p s e later lv.steps.may there.0 in
            let at : place_from o p (events_of s e) ≡ p = ap (place_from o p) none in
            let copies : copies_in x ≡ Some k = copies-at M o p kept.ground old s left total x k there.1.0 here.fits.phase here.here.stands
            (subst (λ (q : Place). IsSilent (q.transaction s)) at there.0) (subst (λ (q : Place). next_item o q s ≡ Some there.1.0) at there.1.1) there.1.2 in
            ap (λ (n : Option ℕ). begun_by n (Some k)) copies

    none-still : (e : Happening) → has_begun e ≡ false → has_backed e ≡ false → Goes e → BackupsGo M s (begun_from (c.sight.stand s) (d.sight.stand s)) before (backups o (events ++ events_of s e)) d.sight g.clock.time
    none-still e later goes lv = backups-still M s (begun_from (c.sight.stand s) (d.sight.stand s)) before (backups o (events ++ events_of s e)) d.sight g.clock.time
        (number-is ∙ none-begins e later lv) (backups-grown o events (events_of s e) ∙ none-counted o p s e before later goes lv.steps.may)

    -- ---- it begins

    fresh : (kind : Standing) → Goes (Began kind) → copies_in x ≡ None
    fresh kind lv = by (copies_in x) refl
      where
        by : (n : Option ℕ) → copies_in x ≡ n → copies_in x ≡ None
        by None same = same
        by (Some k) same =
            let there = is-copied M o p kept.ground old s left total x k here.fits.phase here.here.stands same in
            absurd (none-some there.0.transaction (sym lv.steps.may.0.1 ∙ there.0.is_open))

    abbrev behind : Standing → Place
    behind kind = place_from o p (events_of s (Began kind))

    copies-next : (kind : Standing) (lv : Goes (Began kind)) → copies_in y ≡ backup_at (next_item o p s)
    copies-next kind lv = by (next_item o p s) refl
      where
        open_now : (behind kind).transaction s ≡ Some (begun kind p.tables)
        open_now = at-same s (Some (begun kind p.tables)) p.transaction

        read-only : (item : Uttered) (k : ℕ) → begins item ≡ Some kind → backup_of item ≡ Some k → is_writer kind ≡ false
        read-only item k so backup = ap is_writer (same_Some kind ReadOnly (sym so ∙ ap begins (backup-is item k backup)))

        named : (item : Uttered) → next_item o p s ≡ Some item → begins item ≡ Some kind → (n m : Option ℕ) → copies_in y ≡ n → backup_of item ≡ m → n ≡ m
        named item next so n (Some k) copies backup =
            sym copies ∙ copies-at M o (behind kind) lv.ground new s rest total y k item lv.fits.phase (stands-there (Began kind) lv)
            (record { transaction = begun kind p.tables; is_open = open_now; reads = read-only item k so backup; none = refl }) next backup
        named item next so None None copies backup = refl
        named item next so (Some k) None copies backup =
            let there = is-copied M o (behind kind) lv.ground new s rest total y k lv.fits.phase (stands-there (Began kind) lv) copies in
            let same = same_Some there.1.0 item (sym there.1.1 ∙ next) in
            absurd (none-some k (sym backup ∙ (ap backup_of (sym same) ∙ there.1.2)))

        by : (n : Option Uttered) → next_item o p s ≡ n → copies_in y ≡ backup_at n
        by None e = absurd (none-some kind (sym (ap begins_at e) ∙ lv.steps.may.0.2))
        by (Some item) e = named item e (sym (ap begins_at e) ∙ lv.steps.may.0.2) (copies_in y) (backup_of item) refl refl

    begun-goes : (kind : Standing) → Goes (Began kind) → BackupsGo M s (begun_from (c.sight.stand s) (d.sight.stand s)) before (backups o (events ++ events_of s (Began kind))) d.sight g.clock.time
    begun-goes kind lv =
        let n = backup_at (next_item o p s) in
        let number : begun_from (c.sight.stand s) (d.sight.stand s) ≡ n = number-is ∙ (ap (λ (m : Option ℕ). begun_by m (copies_in y)) (fresh kind lv) ∙ (begun-fresh (copies_in y) ∙ copies-next kind lv)) in
        let goes : BackupsGo M s n before (with_begun s n before) d.sight g.clock.time = record { by = λ m. begun-by s n before m; counts = λ m k counted. inl (begun-counts s n before m k counted) } in
        subst (λ (m : Option ℕ). BackupsGo M s m before (backups o (events ++ events_of s (Began kind))) d.sight g.clock.time) (sym number)
        (subst (λ (b : ℕ → Backup). BackupsGo M s n before b d.sight g.clock.time) (sym (backups-grown o events (events_of s (Began kind)))) goes)

    -- ---- it ends

    module _ (item : Item) (moment : Moment) (lv : Goes (BackedUp item moment)) (at : moment.number ≡ g.clock.time) (shown : c.sight.shows h) (backed : AreBacked M before c.sight h.clock.time)
        (backs : is_some (copies_in x) ≡ true → BacksIn s (BackedUp item moment) c.sight d.sight) where
      ends-silent : (t : Transaction) (n : ℕ) (it : Uttered) → p.transaction s ≡ Some t → next_item o p s ≡ Some it → backup_of it ≡ Some n → IsSilent (p.transaction s)
      ends-silent t n it open_now next backup =
          let may : MayCommitAs (is_writer t.kind) o p s t = subst (λ (u : Option Transaction). MayCommitBy o p s u) open_now lv.steps.may.0.2 in
          let alone = by (is_writer t.kind) may in
          record { transaction = t; is_open = open_now; reads = alone.0; none = alone.1 }
        where
          now : next_item o p s ≡ Some (said (back_up n))
          now = next ∙ ap Some (backup-is it n backup)

          by : (kind : Bool) → MayCommitAs kind o p s t → (kind ≡ false) × ((length t.lines == 0) ≡ true)
          by true may = absurd (false≢true (sym (ap is_committing_item now) ∙ may.1))
          by false may = (refl, subst (λ (u : Option Uttered). (is_committing_item u || (is_backing_up u && (length t.lines == 0))) ≡ true) now may)

      whole : (n : ℕ) (k : Counted) → IsEnded s moment.number (p.transaction s) (backup_at (next_item o p s)) before n k → IsBacked M d.sight n k g.clock.time
      whole n k e =
          let next = next-of (next_item o p s) n e.is in
          let silent = ends-silent e.transaction n next.0 e.was next.1 next.2 in
          let copies = copies-at M o p kept.ground old s left total x n next.0 here.fits.phase here.here.stands silent next.1 next.2 in
          let lines = copied-lines M o p kept.ground old s left total x n here.fits.phase here.here.stands copies in
          let it = backs (ap is_some copies) h n (kept.ground.desk s).start shown lines.0 (backed.copiers n ∙ is-by s (before n).by e.mine) in
          let same : k.moment ≡ moment.number = ap (λ (z : Counted). z.moment) e.counted in
          let early = it.1 in
          record {
            since = it.0;
            by = omega (arith, early, same);
            past = omega (arith, early, at);
            lines = (kept.ground.desk s).start;
            stands = subst (λ (z : Counted). M (kept.ground.desk s).start z.tables) (sym e.counted) (lines.1 e.transaction e.was);
            backed = it.2;
          }

      ended-goes : BackupsGo M s (begun_from (c.sight.stand s) (d.sight.stand s)) before (backups o (events ++ events_of s (BackedUp item moment))) d.sight g.clock.time
      ended-goes =
          let n = backup_at (next_item o p s) in
          let number : begun_from (c.sight.stand s) (d.sight.stand s) ≡ None = number-is ∙ none-begins (BackedUp item moment) refl lv in
          let goes : BackupsGo M s None before (with_ended s moment.number (p.transaction s) n before) d.sight g.clock.time = record {
            by = λ m. ended-by s moment.number (p.transaction s) n before m;
            counts = λ m k counted. elim (ended-counts s moment.number (p.transaction s) n before m k counted) [
              | inl so ↦ inl ((λ e. none-some m e), so)
              | inr e ↦ inr (whole m k e)
            ];
          } in
          subst (λ (m : Option ℕ). BackupsGo M s m before (backups o (events ++ events_of s (BackedUp item moment))) d.sight g.clock.time) (sym number)
          (subst (λ (b : ℕ → Backup). BackupsGo M s None before b d.sight g.clock.time) (sym (backups-grown o events (events_of s (BackedUp item moment)))) goes)

  -- whatever happened in it
  pub keeps-backups : (e : Happening) → (is_some (copies_in x) ≡ true → BacksIn s e c.sight d.sight) →
      KeepsBackups M o c.word d.word c.sight d.sight c.locks d.locks members events (events_of s e) i (session left total x) (session rest total y) (begun_from (c.sight.stand s) (d.sight.stand s))
  keeps-backups (Began kind) backs h g shown then step kept backed = begun-goes h g kept kind (left-by h g kept (Began kind) step)
  keeps-backups (BackedUp item moment) backs h g shown then step kept backed =
      ended-goes h g kept item moment (left-by h g kept (BackedUp item moment) step) (step 0).moments.0 shown backed backs
  keeps-backups e backs h g shown then step kept backed = none-still h g kept e refl refl (left-by h g kept e step)
