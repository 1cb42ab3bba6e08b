-- A statement is refused at a limit that the store has told, and its transaction goes on.
use Rattle.std.proofs.Common.{◌≡◌, ℕ, ◌∷◌, [], ◌==◌, ◌&&◌, not, Bool, true, false, List, length, map, refl, ◌∙◌, sym, ap, subst, arith, Option, Some, None, is_some}
use Rattle.std.proofs.lemmas.Bool.{false≢true, and_from}
use Rattle.std.proofs.lemmas.Option.{none-some}
use Rattle.rdb_types.specs.declared.keys.Dbkey.{Dbkey}
use Rattle.rdo_ast.specs.declared.reply.Reply.{Reply}
use Rattle.rdo_ast.specs.declared.reply.Reply.TheVariants as r
use Rattle.rdo_ast.specs.declared.reply.Standing.{Standing}
use Rattle.rdo_ast.specs.declared.reply.Standing.TheVariants.{Closed, ReadOnly, ReadWrite}
use Rattle.rdo_ast.specs.declared.syntax.Item.{Item}
use Rattle.rdo_ast.specs.Tree.{Uttered, said, commit}
use Rattle.rdo_ast.specs.Views.{uttered_of}
use Rattle.rdb_meaning.specs.declared.tables.Tables.{Tables}
use Rattle.rdb_meaning.specs.Checks.{Refusal}
use Rattle.rdb_meaning.specs.Meaning.{meaning}
use Rattle.rdb_meaning.specs.Usual.{is_refusal_of_means}
use Rattle.vms_queues.specs.declared.lock_mode.Mode.TheVariants.{EX}
use Rattle.rdb_account.specs.Events.{Said}
use Rattle.rdb_account.specs.Places.{Opening, Place, Line, after, is_done, is_writer}
use Rattle.rdb_account.specs.Lawful.{IsExcused, Replaces, has_cause, first_refusal, is_change, may_replace, reply_of}
use Rattle.rdb_account.specs.AskedFor.{is_on_line_of, item_asks}
use Rattle.rdb_account.specs.Legal.{ends_by}
use Rattle.line_view.specs.declared.need.Need.TheVariants as need
use Rattle.line_view.specs.declared.need.Room.{Room}
use Rattle.line_view.specs.declared.writes.Write.{Write}
use Rattle.line_view.specs.Held.{Held, knows}
use Rattle.line_view.specs.Knowledge.{Knowledge, Agrees}
use Rattle.line_view.specs.Writes.{laid_all}
use Rattle.session_jobs.specs.Records.{Model, IsOrderly, IsRight}
use Rattle.session_jobs.specs.Jobs.{WhereItAgrees, AreAsked, IsRecord, worked_of}
use Rattle.session_jobs.specs.declared.jobs.TxRecord.{TxRecord}
use Rattle.line_store.specs.declared.answers.ChangeStop.TheVariants as change
use Rattle.line_store.specs.declared.answers.CommitStop.TheVariants as committing
use Rattle.line_store.specs.Seats.{IsMember, IsWriting}
use Rattle.line_store.specs.Rooms.{IsFull}
use Rattle.line_store.specs.Calls.{MayStopChange, MayStopCommit}
use Rattle.lock_ties.proofs.Got.{ended-tied}
use Rattle.session_states.specs.line_steps.Members.{member, writing}
use Rattle.session_states.specs.line_steps.Right.{Ground, Writes}
use Rattle.session_states.specs.line_steps.Steps.{Here}
use Rattle.session_states.proofs.of_line_steps.Saying.{refuses-writing}
use Rattle.session_states.proofs.of_line_steps.Wants.{takes-locks}
use Rattle.session_states.specs.store_counts.Counts.{AreClaimed}
use Rattle.session_states.proofs.of_store_counts.Kept.{counted-events}
use Rattle.session_states.proofs.of_store_counts.Limits.{ruj-cause, snap-cause, aij-cause, area-cause}
use Rattle.session_states.specs.declared.stage.Work.TheVariants.{Lacking}
use Rattle.session_states.specs.declared.stage.Laying.TheVariants.{Claiming}
use Rattle.session_states.specs.declared.stage.End.TheVariants.{Preparing}
use Rattle.session_states.specs.declared.stage.Stage.{Stage}
use Rattle.session_states.specs.declared.stage.Stage.TheVariants.{Between, Working, Saying, Ending}
use Rattle.session_states.specs.declared.stage.Phase.TheVariants.{Writing}
use Rattle.lock_tree_laws.specs.Forest.{opened_of}
use Rattle.lock_tree_laws.specs.Wanted.{needs_of}
use Rattle.session_states.specs.Locks.{lock_of, lock_of_write}
use Rattle.session_states.specs.States.{item_of, is_at_rest, writer, session}
use Rattle.session_states.specs.Shared.{Shared}
use Rattle.session_states.specs.Fits.{has_said, WantsAtMost}
use Rattle.session_states.specs.Steps.{Finds, Step}
use Rattle.session_states.proofs.Basics.{said-first, take-all}
use Rattle.session_states.proofs.Locking.{desk-resting}
use Rattle.session_states.proofs.Refusing.{asks-free}
use Rattle.session_states.proofs.Resting.{leaves-others}
use Rattle.session_states.proofs.Journal.{resting-free}
use Rattle.session_states.proofs.Storing.{said-needs, said-more, nowait-said}
use Rattle.session_limits.specs.Some.{WriteSome}
use Rattle.session_limits.proofs.Changing.{line_lock, asks-change}

and-silent : (b : Bool) → (b && false) ≡ false
and-silent true = refl
and-silent false = refl

same-area : (a : ℕ) → (a == a) ≡ true
same-area a = grind arith

own-lock : (key : Dbkey) → is_on_line_of key.area EX (line_lock key) ≡ true
own-lock key = and_from (key.area == key.area) true (same-area key.area) refl

write-none : (x : Option Write) → lock_of_write x ≡ None → x ≡ None
write-none None h = refl
write-none (Some w) h = absurd (none-some _ (sym h))

-- a commit of a read-write transaction is done
commits-done : (word : List ℕ) (standing : Standing) (t : Tables) → is_writer standing ≡ true → reply_of (meaning word standing (said commit) [] t) ≡ Some (r.Done [])
commits-done word Closed t h = absurd (false≢true h)
commits-done word ReadOnly t h = absurd (false≢true h)
commits-done word (ReadWrite wait rs) t h = refl

some-lines : (b : Bool) → not b ≡ true → b ≡ false
some-lines true h = sym h
some-lines false h = refl

module _ (M : Model) (orderly : IsOrderly M) where
  -- The statement under way is answered so, where no lock is wanted; store and locks stay.
  pub refused-here : (s : ℕ) (c : Shared) (left : List Item) (total : ℕ) (standing : Standing) (known : Held) (waits : Bool) (stage : Stage) (item : Uttered) (reply : Reply) → is_at_rest stage ≡ true → item_of stage ≡ Some item → lock_of stage ≡ None →
      is_refusal_of_means reply ≡ true → is_done reply ≡ false →
      ((o : Opening) (p : Place) (g : Ground) → Finds M o p g c s (session left total (Writing (writer standing known true waits stage))) →
      ((t : Tables) → M (laid_all (g.desk s).writes g.now) t → IsExcused reply o.word standing t item) × (has_cause o p s reply ≡ true)) →
      Step M s c (session left total (Writing (writer standing known true waits stage))) c (session left total (Writing (writer standing known true waits Between))) (Said s item [] reply ∷ [])
  refused-here s c left total standing known waits stage item reply idle is needless refused undone may = record {
    word = refl;
    others = leaves-others s c;
    moments = (tt, tt);
    leaves = λ o p g f.
        let items = map uttered_of left in
        let l : Line = record { item = item; choices = []; reply = reply } in
        let here : Here M o p g s (member items (writing standing (Some item)) total) = subst (λ u. Here M o p g s (member items (writing standing u) total)) is f.here in
        let w : Writes M o p g s standing (Some item) = here.stands.state in
        let at = desk-resting M orderly p g c s standing known stage idle f.fits.phase.desk in
        let closed : opened_of c.locks s ≡ None = subst (λ k. WantsAtMost k (opened_of c.locks s)) needless f.fits.phase.wants in
        record {
          ground = g;
          steps = refuses-writing M orderly o p g s items total standing l here refused (may o p g f).0 (may o p g f).1 (said-first (p.transaction s) item reply f.fits.phase.spoken)
              (ap (λ b. ends_by item && b) undone ∙ and-silent (ends_by item));
          fits = record {
            ground = record { now = f.fits.ground.now; time = f.fits.ground.time; dead = f.fits.ground.dead };
            tied = ended-tied c.locks c.locks s p (after o p (Said s item [] reply)) f.fits.tied (λ u other. refl) closed refl refl (λ t. said-needs o p s w.transaction l w.is_open t ∙ f.fits.tied.needs t);
            phase = record {
              desk = (at.0, at.1);
              spoken = said-more o p s w.transaction l w.is_open;
              waits = nowait-said o p s w.transaction l w.is_open ∙ f.fits.phase.waits;
              stage = refl;
              wants = closed;
              journal = resting-free stage (needs_of c.locks s) idle f.fits.phase.journal;
              ends = tt;
              claims = tt;
            };
          };
          counted = counted-events o p (Said s item [] reply ∷ []) c.shelf (tt, tt) f.counted;
        };
  }

  -- ---- a statement's writes

  -- what writes a line changes, where its record is right for what is known
  first-changes : (o : Opening) (p : Place) (g : Ground) (s : ℕ) (standing : Standing) (item : Uttered) (t : Tables) (ws : List Write) → M g.now p.tables → Writes M o p g s standing (Some item) → WriteSome ws → AreAsked standing item ws t → is_change item ≡ true
  first-changes o p g s standing item t [] sound w some asked = absurd some
  first-changes o p g s standing item t (v ∷ vs) sound w some asked =
      let h = asked.0 (takes-locks M orderly o p g s standing item sound w) (line_lock v.key) (own-lock v.key) in
      let free = asks-free (first_refusal standing item) t (line_lock v.key) item h in
      asks-change t v.key item (subst (λ (u : Refusal). item_asks u t (line_lock v.key) item ≡ true) free h)

  -- it stands in place of the record's reply
  in-its-place : (word : List ℕ) (standing : Standing) (item : Uttered) (known : Knowledge) (x : TxRecord) (all : _) (t : Tables) (reply : Reply) → IsRight M word standing known (worked_of item x) → M all t → Agrees known all →
      may_replace item x.reply reply ≡ true → Replaces word standing t item reply
  in-its-place word standing item known x all t reply right m agrees allowed = record { choices = x.choices; due = x.reply; meant = ap reply_of (right.does all t m agrees).does; allowed = allowed }

  record-replaced : (s : ℕ) (c : Shared) (left : List Item) (total : ℕ) (standing : Standing) (known : Held) (waits : Bool) (item : Item) (x : TxRecord) (place : ℕ) (reply : Reply) → WriteSome x.writes →
      (is_change (uttered_of item) ≡ true → may_replace (uttered_of item) x.reply reply ≡ true) →
      (o : Opening) (p : Place) (g : Ground) → Finds M o p g c s (session left total (Writing (writer standing known true waits (Saying item x (Claiming place))))) →
      (t : Tables) → M (laid_all (g.desk s).writes g.now) t → Replaces o.word standing t (uttered_of item) reply
  record-replaced s c left total standing known waits item x place reply some allowed o p g f t m =
      let i = uttered_of item in
      let w : Writes M o p g s standing (Some i) = f.here.stands.state in
      let all = laid_all (g.desk s).writes g.now in
      let agrees : Agrees (knows known) all = subst (λ (k : Knowledge). Agrees k all) f.fits.phase.desk.0 w.is.agrees in
      let is : IsRecord M c.word standing i (knows known) x = f.fits.phase.stage.1.0 in
      let changes = first-changes o p g s standing i t x.writes f.here.fit.stands w some (is.asked all t m agrees) in
      subst (λ (u : List ℕ). Replaces u standing t i reply) (sym f.word) (in-its-place c.word standing i (knows known) x all t reply is.right m agrees (allowed changes))

  -- its lines are claimed
  all-claimed : (s : ℕ) (c : Shared) (left : List Item) (total : ℕ) (standing : Standing) (known : Held) (waits : Bool) (item : Item) (x : TxRecord) (place : ℕ) → lock_of (Saying item x (Claiming place)) ≡ None →
      (o : Opening) (p : Place) (g : Ground) → Finds M o p g c s (session left total (Writing (writer standing known true waits (Saying item x (Claiming place))))) → AreClaimed p s x.writes
  all-claimed s c left total standing known waits item x place needless o p g f = subst (AreClaimed p s) (take-all x.writes place (write-none _ needless)) f.fits.phase.claims

  pub ruj-full-on : (s : ℕ) (c : Shared) (left : List Item) (total : ℕ) (standing : Standing) (known : Held) (waits : Bool) (item : Item) (x : TxRecord) (place limit : ℕ) → lock_of (Saying item x (Claiming place)) ≡ None → WriteSome x.writes → is_done x.reply ≡ true →
      MayStopChange c.shelf s x.writes (change.RujFull limit) →
      Step M s c (session left total (Writing (writer standing known true waits (Saying item x (Claiming place))))) c (session left total (Writing (writer standing known true waits Between))) (Said s (uttered_of item) [] (r.RujFull limit) ∷ [])
  ruj-full-on s c left total standing known waits item x place limit needless some done stop =
      refused-here s c left total standing known waits (Saying item x (Claiming place)) (uttered_of item) (r.RujFull limit) refl refl needless refl refl
      (λ o p g f. (
        record-replaced s c left total standing known waits item x place (r.RujFull limit) some (λ changes. and_from (is_change (uttered_of item)) (is_done x.reply) changes done) o p g f,
        ruj-cause o p c.shelf s x.writes limit f.counted (ap is_some f.here.stands.state.is_open) (all-claimed s c left total standing known waits item x place needless o p g f) stop,
      ))

  pub snap-full-on : (s : ℕ) (c : Shared) (left : List Item) (total : ℕ) (standing : Standing) (known : Held) (waits : Bool) (item : Item) (x : TxRecord) (place limit : ℕ) → IsMember s → lock_of (Saying item x (Claiming place)) ≡ None → WriteSome x.writes → is_done x.reply ≡ true →
      MayStopChange c.shelf s x.writes (change.SnapFull limit) →
      Step M s c (session left total (Writing (writer standing known true waits (Saying item x (Claiming place))))) c (session left total (Writing (writer standing known true waits Between))) (Said s (uttered_of item) [] (r.SnapFull limit) ∷ [])
  snap-full-on s c left total standing known waits item x place limit in_range needless some done stop =
      refused-here s c left total standing known waits (Saying item x (Claiming place)) (uttered_of item) (r.SnapFull limit) refl refl needless refl refl
      (λ o p g f. (
        record-replaced s c left total standing known waits item x place (r.SnapFull limit) some (λ changes. and_from (is_change (uttered_of item)) (is_done x.reply) changes done) o p g f,
        snap-cause o p c.shelf s x.writes limit in_range f.counted (all-claimed s c left total standing known waits item x place needless o p g f) stop,
      ))

  -- ---- a commit

  pub aij-full-on : (s : ℕ) (c : Shared) (left : List Item) (total : ℕ) (standing : Standing) (known : Held) (waits : Bool) (limit : ℕ) → MayStopCommit c.shelf s (committing.AijFull limit) →
      Step M s c (session left total (Writing (writer standing known true waits (Ending Preparing)))) c (session left total (Writing (writer standing known true waits Between))) (Said s (said commit) [] (r.AijFull limit) ∷ [])
  aij-full-on s c left total standing known waits limit stop =
      refused-here s c left total standing known waits (Ending Preparing) (said commit) (r.AijFull limit) refl refl refl refl refl
      (λ o p g f.
      let w : Writes M o p g s standing (Some (said commit)) = f.here.stands.state in
      let writes : is_writer standing ≡ true = w.remains (some-lines (length w.transaction.lines == 0) (sym (ap has_said w.is_open) ∙ f.fits.phase.spoken)) in (
        λ t m. record { choices = []; due = r.Done []; meant = commits-done o.word standing t writes; allowed = refl },
        aij-cause o p c.shelf s limit f.counted (ap is_some w.is_open) stop,
      ))

  -- ---- a room

  pub area-full-on : (s : ℕ) (c : Shared) (left : List Item) (total : ℕ) (standing : Standing) (known : Held) (waits : Bool) (item : Item) (room : Room) (limit : ℕ) → IsFull c.shelf s room.area limit →
      WhereItAgrees M (knows known) (λ t. Replaces c.word standing t (uttered_of item) (r.AreaFull limit)) →
      Step M s c (session left total (Writing (writer standing known true waits (Working item (Lacking (need.Room room)))))) c (session left total (Writing (writer standing known true waits Between))) (Said s (uttered_of item) [] (r.AreaFull limit) ∷ [])
  area-full-on s c left total standing known waits item room limit full reached =
      refused-here s c left total standing known waits (Working item (Lacking (need.Room room))) (uttered_of item) (r.AreaFull limit) refl refl refl refl refl
      (λ o p g f.
      let i = uttered_of item in
      let w : Writes M o p g s standing (Some i) = f.here.stands.state in
      let all = laid_all (g.desk s).writes g.now in (
        λ t m. subst (λ (u : List ℕ). Replaces u standing t i (r.AreaFull limit)) (sym f.word) (reached all t m (subst (λ (k : Knowledge). Agrees k all) f.fits.phase.desk.0 w.is.agrees)),
        area-cause o p c.shelf s room.area limit f.counted (ap is_some w.is_open) (subst IsWriting (sym f.fits.phase.desk.1) tt) full,
      ))
