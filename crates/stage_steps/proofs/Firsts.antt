-- The first statement of a read-write transaction writes nothing, and one that isn't done is said without its writes.
use Rattle.std.proofs.Common.{◌≡◌, ℕ, ◌∷◌, [], ◌==◌, ◌||◌, not, Bool, true, false, List, length, refl, ◌∙◌, sym, ap, subst, Some, None, arith, ◌⊎◌, inl, inr}
use Rattle.std.proofs.lemmas.Bool.{false≢true, and_from}
use Rattle.std.proofs.lemmas.Option.{same_Some}
use Rattle.rdb_types.specs.declared.keys.Dbkey.{Dbkey}
use Rattle.rdo_ast.specs.declared.reply.Reply.TheVariants as r
use Rattle.rdo_ast.specs.declared.reply.Standing.{Standing}
use Rattle.rdo_ast.specs.declared.syntax.Item.{Item}
use Rattle.rdo_ast.specs.Tree.{Uttered, said, syntax_fault, invoke, start_read_only, start_read_write, commit, rollback, finish, back_up, perform, define_field, define_relation, define_index, delete_relation, delete_index}
use Rattle.rdo_ast.specs.Views.{uttered_of}
use Rattle.rdb_meaning.specs.declared.tables.Tables.{Tables}
use Rattle.rdb_meaning.specs.Checks.{Refusal}
use Rattle.vms_queues.specs.declared.lock_mode.Mode.TheVariants.{EX}
use Rattle.rdb_account.specs.AskedFor.{is_on_line_of, item_asks}
use Rattle.rdb_account.specs.Events.{Said}
use Rattle.rdb_account.specs.Lawful.{first_refusal, is_change}
use Rattle.rdb_account.specs.Places.{Opening, Place, begins, is_done, leaves_none}
use Rattle.lock_tree_laws.specs.Forest.{opened_of}
use Rattle.line_view.specs.Held.{Held, knows}
use Rattle.line_view.specs.Knowledge.{Knowledge, Agrees}
use Rattle.line_view.specs.Writes.{laid_all}
use Rattle.line_view.specs.declared.writes.Write.{Write}
use Rattle.kept_apart.proofs.Alike.{alike-refl}
use Rattle.line_history.proofs.Standings.{starts-leaves}
use Rattle.session_limits.specs.line_steps.Right.{Ground, Writes}
use Rattle.session_limits.proofs.of_line_steps.Wants.{takes-locks}
use Rattle.line_store.specs.Calls.{MayStopChange}
use Rattle.line_store.specs.Seats.{IsMember}
use Rattle.line_store.specs.Shelves.{Shelf}
use Rattle.line_store.specs.declared.answers.ChangeStop.{ChangeStop}
use Rattle.line_store.specs.declared.answers.ChangeStop.TheVariants as change
use Rattle.session_jobs.specs.Jobs.{AreAsked, worked_of}
use Rattle.session_jobs.specs.Records.{Model, IsOrderly}
use Rattle.session_jobs.specs.declared.jobs.TxRecord.{TxRecord}
use Rattle.session_limits.specs.Some.{WriteSome}
use Rattle.session_limits.proofs.AtLimits.{ruj-full-on, snap-full-on}
use Rattle.session_limits.proofs.Changing.{line_lock, asks-change}
use Rattle.session_limits.proofs.Undone.{right-unwritten}
use Rattle.session_limits.specs.session_states.declared.stage.Laying.TheVariants.{Claiming}
use Rattle.session_limits.specs.session_states.declared.stage.Stage.TheVariants.{Between, Saying}
use Rattle.session_limits.specs.session_states.declared.stage.Phase.TheVariants.{Writing}
use Rattle.session_limits.specs.session_states.Fits.{WantsAtMost, has_said}
use Rattle.session_limits.specs.session_states.Locks.{lock_of}
use Rattle.session_limits.specs.session_states.Shared.{Shared}
use Rattle.session_limits.specs.session_states.States.{writer, session}
use Rattle.session_limits.specs.session_states.Steps.{Finds, Step}
use Rattle.session_limits.specs.session_states.Turns.{said_writer}
use Rattle.session_limits.proofs.of_session_states.InTurn.{steps-on}
use Rattle.session_limits.proofs.of_session_states.Refusing.{asks-free}
use Rattle.session_limits.proofs.of_session_states.Resting.{leaves-others, rests-by}
use Rattle.session_limits.proofs.of_session_states.Storing.{says-at-once}

-- a START_TRANSACTION changes nothing
starts-change-none : (item : Uttered) → leaves_none item ≡ true → is_change item ≡ false
starts-change-none (syntax_fault line column) h = refl
starts-change-none (said (invoke text)) h = refl
starts-change-none (said start_read_only) h = refl
starts-change-none (said (start_read_write wait rs)) h = refl
starts-change-none (said commit) h = refl
starts-change-none (said rollback) h = refl
starts-change-none (said finish) h = refl
starts-change-none (said (back_up n)) h = refl
starts-change-none (said (perform a)) h = absurd (false≢true h)
starts-change-none (said (define_field n type)) h = absurd (false≢true h)
starts-change-none (said (define_relation n fs)) h = absurd (false≢true h)
starts-change-none (said (define_index d)) h = absurd (false≢true h)
starts-change-none (said (delete_relation n)) h = absurd (false≢true h)
starts-change-none (said (delete_index n)) h = absurd (false≢true h)

same-area : (a : ℕ) → (a == a) ≡ true
same-area a = grind arith

own-lock : (key : Dbkey) → is_on_line_of key.area EX (line_lock key) ≡ true
own-lock key = and_from (key.area == key.area) true (same-area key.area) refl

none-said : (b : Bool) → not b ≡ false → b ≡ true
none-said b h = grind arith

abbrev pub without_writes : TxRecord → TxRecord
without_writes x = record x { writes = [] }

module _ (M : Model) (orderly : IsOrderly M) where
  -- what writes a line changes
  writes-change : (o : Opening) (p : Place) (g : Ground) (s : ℕ) (standing : Standing) (item : Uttered) (t : Tables) (ws : List Write) → M g.now p.tables → Writes M o p g s standing (Some item) → WriteSome ws → AreAsked standing item ws t → is_change item ≡ true
  writes-change o p g s standing item t [] sound w some asked = absurd some
  writes-change o p g s standing item t (v ∷ vs) sound w some asked =
      let h = asked.0 (takes-locks M orderly o p g s standing item sound w) (line_lock v.key) (own-lock v.key) in
      let free = asks-free (first_refusal standing item) t (line_lock v.key) item h in
      asks-change t v.key item (subst (λ (u : Refusal). item_asks u t (line_lock v.key) item ≡ true) free h)

  first-writes-none : (s : ℕ) (c : Shared) (left : List Item) (total : ℕ) (standing : Standing) (known : Held) (waits : Bool) (item : Item) (x : TxRecord) (place : ℕ) → WriteSome x.writes →
      (o : Opening) (p : Place) (g : Ground) → Finds M o p g c s (session left total (Writing (writer standing known false waits (Saying item x (Claiming place))))) → ⊥
  first-writes-none s c left total standing known waits item x place some o p g f =
      let i = uttered_of item in
      let w : Writes M o p g s standing (Some i) = f.here.stands.state in
      let all = laid_all (g.desk s).writes g.now in
      let leads = w.is.holds g.now p.tables (alike-refl w.transaction.got g.now) f.here.fit.stands in
      let agrees : Agrees (knows known) all = subst (λ (k : Knowledge). Agrees k all) f.fits.phase.desk.0 w.is.agrees in
      let changes = writes-change o p g s standing i leads.then x.writes f.here.fit.stands w some (f.fits.phase.stage.1.0.asked all leads.then leads.stands agrees) in
      let none : (length w.transaction.lines == 0) ≡ true = none-said (length w.transaction.lines == 0) (sym (ap has_said w.is_open) ∙ f.fits.phase.spoken) in
      let b = w.spoken none in
      let begun : begins i ≡ Some w.transaction.kind = subst (λ (u : Uttered). begins u ≡ Some w.transaction.kind) (sym (same_Some i b.0 b.1)) b.2 in
      false≢true (sym (starts-change-none i (starts-leaves i w.transaction.kind begun w.writes)) ∙ changes)

  -- the store refuses its writes at a limit
  pub ruj-step : (s : ℕ) (c : Shared) (left : List Item) (total : ℕ) (standing : Standing) (known : Held) (spoken waits : Bool) (item : Item) (x : TxRecord) (place limit : ℕ) → lock_of (Saying item x (Claiming place)) ≡ None → WriteSome x.writes → is_done x.reply ≡ true →
      MayStopChange c.shelf s x.writes (change.RujFull limit) →
      Step M s c (session left total (Writing (writer standing known spoken waits (Saying item x (Claiming place))))) c (session left total (Writing (writer standing known spoken waits Between))) (Said s (uttered_of item) [] (r.RujFull limit) ∷ [])
  ruj-step s c left total standing known true waits item x place limit locked some done stop = ruj-full-on M orderly s c left total standing known waits item x place limit locked some done stop
  ruj-step s c left total standing known false waits item x place limit locked some done stop =
      record { word = refl; others = leaves-others s c; moments = (tt, tt); leaves = λ o p g f. absurd (first-writes-none s c left total standing known waits item x place some o p g f) }

  pub snap-step : (s : ℕ) (c : Shared) (left : List Item) (total : ℕ) (standing : Standing) (known : Held) (spoken waits : Bool) (item : Item) (x : TxRecord) (place limit : ℕ) → IsMember s → lock_of (Saying item x (Claiming place)) ≡ None → WriteSome x.writes → is_done x.reply ≡ true →
      MayStopChange c.shelf s x.writes (change.SnapFull limit) →
      Step M s c (session left total (Writing (writer standing known spoken waits (Saying item x (Claiming place))))) c (session left total (Writing (writer standing known spoken waits Between))) (Said s (uttered_of item) [] (r.SnapFull limit) ∷ [])
  snap-step s c left total standing known true waits item x place limit member locked some done stop = snap-full-on M orderly s c left total standing known waits item x place limit member locked some done stop
  snap-step s c left total standing known false waits item x place limit member locked some done stop =
      record { word = refl; others = leaves-others s c; moments = (tt, tt); leaves = λ o p g f. absurd (first-writes-none s c left total standing known waits item x place some o p g f) }

  -- its record isn't done
  undone-said : (s : ℕ) (c : Shared) (left : List Item) (total : ℕ) (standing : Standing) (known : Held) (spoken waits : Bool) (item : Item) (x : TxRecord) (place : ℕ) → lock_of (Saying item x (Claiming place)) ≡ None → (spoken || is_done x.reply) ≡ true → is_done x.reply ≡ false →
      Step M s c (session left total (Writing (writer standing known spoken waits (Saying item x (Claiming place))))) c (session left total (Writing (said_writer x known waits))) (Said s (uttered_of item) x.choices x.reply ∷ [])
  undone-said s c left total standing known spoken waits item x place locked may undone =
      let y = without_writes x in
      steps-on M orderly s c c c (session left total (Writing (writer standing known spoken waits (Saying item x (Claiming place))))) (session left total (Writing (writer standing known spoken waits (Saying item y (Claiming 0))))) (session left total (Writing (said_writer y known waits))) [] (Said s (uttered_of item) x.choices x.reply ∷ []) refl tt
      (rests-by M orderly s c left total (Writing (writer standing known spoken waits (Saying item x (Claiming place)))) (Writing (writer standing known spoken waits (Saying item y (Claiming 0)))) refl
      (λ o p g f. record {
        desk = f.fits.phase.desk;
        spoken = f.fits.phase.spoken;
        waits = f.fits.phase.waits;
        stage = (f.fits.phase.stage.0, (record { right = right-unwritten M c.word standing (knows known) (worked_of (uttered_of item) x) undone f.fits.phase.stage.1.0.right; asked = λ all t m agrees. tt }, tt));
        wants = subst (λ k. WantsAtMost k (opened_of c.locks s)) locked f.fits.phase.wants;
        journal = f.fits.phase.journal;
        ends = tt;
        claims = tt;
      }))
      (says-at-once M orderly s c left total standing known spoken waits item y 0 may refl)

  -- it isn't done, or writes nothing
  pub at-once-said : (s : ℕ) (c : Shared) (left : List Item) (total : ℕ) (standing : Standing) (known : Held) (spoken waits : Bool) (item : Item) (x : TxRecord) (place : ℕ) → lock_of (Saying item x (Claiming place)) ≡ None → (spoken || is_done x.reply) ≡ true → (is_done x.reply ≡ false) ⊎ (x.writes ≡ []) →
      Step M s c (session left total (Writing (writer standing known spoken waits (Saying item x (Claiming place))))) c (session left total (Writing (said_writer x known waits))) (Said s (uttered_of item) x.choices x.reply ∷ [])
  at-once-said s c left total standing known spoken waits item x place locked may (inl undone) = undone-said s c left total standing known spoken waits item x place locked may undone
  at-once-said s c left total standing known spoken waits item x place locked may (inr none) = says-at-once M orderly s c left total standing known spoken waits item x place may none

-- why the store stopped, by other names
pub stopped : (h : Shelf) (s : ℕ) (ws vs : List Write) (x y : ChangeStop) → ws ≡ vs → x ≡ y → MayStopChange h s ws x → MayStopChange h s vs y
stopped h s ws vs x y same is may = subst (λ (us : List Write). MayStopChange h s us y) same (subst (λ (z : ChangeStop). MayStopChange h s ws z) is may)
