-- What the answer of a call on the tree makes of a stage.
use Rattle.std.proofs.Common.{◌≡◌, ℕ, ◌∷◌, ◌++◌, [], Bool, true, false, not, List, refl, ◌∙◌, sym, ap, subst, Option, Some, inl, inr}
use Rattle.std.proofs.lemmas.Bool.{false≢true}
use Rattle.rdb_types.specs.declared.node.Node.{Node}
use Rattle.rdo_ast.specs.declared.reply.Reply.{Reply}
use Rattle.rdo_ast.specs.declared.reply.Reply.TheVariants as r
use Rattle.rdo_ast.specs.declared.reply.Standing.{Standing}
use Rattle.rdo_ast.specs.declared.syntax.Item.{Item}
use Rattle.rdo_ast.specs.Tree.{Uttered}
use Rattle.rdo_ast.specs.Views.{uttered_of}
use Rattle.lock_needs.specs.declared.need.Need.{Need}
use Rattle.lock_needs.specs.declared.party.OpenWant.{OpenWant}
use Rattle.lock_needs.specs.Nodes.{is_on}
use Rattle.lock_needs.specs.Party.{Party}
use Rattle.lock_tree_laws.specs.Forest.{State, party_of}
use Rattle.lock_tree_laws.specs.Parties.{resting}
use Rattle.lock_tree_laws.specs.Wanted.{Answered, IsWanting, needs_of}
use Rattle.lock_tree_laws.specs.declared.answer.Want.{Want}
use Rattle.lock_tree_laws.specs.declared.answer.Want.TheVariants.{Got as GotIt, NoticeTo, Asleep, Conflict, Deadlock}
use Rattle.vms_queues.specs.declared.lock_mode.Mode.{Mode}
use Rattle.rdb_account.specs.Events.{Event, Got, Said, RolledBack}
use Rattle.line_view.specs.Held.{Held}
use Rattle.session_limits.specs.line_steps.Images.{journal_node}
use Rattle.line_store.specs.Seats.{Seat, writing, rolled_back}
use Rattle.line_store.specs.Shelves.{Shelf}
use Rattle.line_store.specs.Calls.{Moves}
use Rattle.line_store.specs.Sights.{bare}
use Rattle.lock_ties.specs.Ties.{wanted_at}
use Rattle.lock_ties.proofs.Answers.{conflict-lawful, deadlock-lawful}
use Rattle.journal_waits.specs.Holders.{WantsExclusively}
use Rattle.session_jobs.specs.Records.{Model, IsOrderly}
use Rattle.session_limits.specs.session_states.declared.stage.Work.TheVariants.{Opening, Due, Out, Lacking, Housing, Fetching, Lodging}
use Rattle.session_limits.specs.session_states.declared.stage.Laying.TheVariants.{Claiming, Changing, Broken}
use Rattle.session_limits.specs.session_states.declared.stage.Stage.{Stage}
use Rattle.session_limits.specs.session_states.declared.stage.Stage.TheVariants.{Between, Working, Gathering, Reserving, Saying, Ending}
use Rattle.session_limits.specs.session_states.declared.stage.Phase.{Phase}
use Rattle.session_limits.specs.session_states.declared.stage.Phase.TheVariants.{Writing, Closing}
use Rattle.session_limits.specs.session_states.Fits.{WantsAtMost}
use Rattle.session_limits.specs.session_states.Locks.{lock_of, has_journal, HasJournal}
use Rattle.session_limits.specs.session_states.Turns.{got}
use Rattle.session_limits.specs.session_states.States.{is_at_rest, item_of, writer, session}
use Rattle.session_limits.specs.session_states.Shared.{Shared, RestsWith}
use Rattle.session_limits.specs.session_states.Steps.{Step}
use Rattle.session_limits.proofs.of_session_states.Asking.{asks-on, gets-on}
use Rattle.session_limits.proofs.of_session_states.Refusing.{refuses-on, asks-waits}
use Rattle.session_limits.proofs.of_session_states.Starting.{start-refuses-on}
use Rattle.session_stands.specs.Seated.{IsSeated, stand_of, StatementFitsAt}
use Rattle.stage_steps.specs.declared.calling.Called.{Called}
use Rattle.stage_steps.specs.Asking.{IsCalled, IsOfStatement, IsReplyTo}
use Rattle.stage_steps.specs.Happenings.{asked_by}
use Rattle.stage_steps.specs.Turns.{Comes, shared}
use Rattle.stage_steps.proofs.Seated.{got-beside, rests-at}

append-none : (es : List Event) → es ++ [] ≡ es
append-none [] = refl
append-none (e ∷ es) = ap (λ (fs : List Event). e ∷ fs) (append-none es)

module _ (s : ℕ) (n : Need) (wait : Bool) (old new : State) (x : Called) (k : IsCalled s n wait old new x) where
  -- the askings with what follows them
  pub with-asks : (f : Need → List Event) → wanted_at s n k.call.asks.nodes ++ f n ≡ asked_by s x.asking ++ f x.asking.need
  with-asks f = ap (λ (ns : List Node). wanted_at s n ns ++ f n) k.nodes ∙ ap (λ (m : Need). wanted_at s m x.asking.nodes ++ f m) (sym k.need)

  pub asks-only : wanted_at s n k.call.asks.nodes ≡ asked_by s x.asking
  asks-only = sym (append-none (wanted_at s n k.call.asks.nodes)) ∙ (with-asks (λ m. []) ∙ append-none (asked_by s x.asking))

  pub answered-as : (a : Want) → x.answer ≡ a → Answered (needs_of old s) new s n wait a
  answered-as a e = subst (λ (b : Want). Answered (needs_of old s) new s n wait b) e k.answered

module _ (M : Model) (orderly : IsOrderly M) (s : ℕ) (word : List ℕ) (shelf : Shelf) (old new : State) (dead : ℕ) (standing : Standing) (known : Held) (stage : Stage) (n : Need) (wait : Bool) (x : Called)
    (k : IsCalled s n wait old new x) (wants : lock_of stage ≡ Some n) where
  abbrev c : Shared
  c = shared word shelf old dead

  abbrev d : Shared
  d = shared word shelf new dead

  module _ (spoken waits : Bool) where
    pub got-step : x.answer ≡ GotIt → Comes M s c (Writing (writer standing known spoken waits stage)) d (Writing (writer standing known spoken waits (got stage))) (asked_by s x.asking ++ Got s x.asking.need ∷ [])
    got-step e = λ left total.
        subst (λ (es : List Event). Step M s c (session left total (Writing (writer standing known spoken waits stage))) d (session left total (Writing (writer standing known spoken waits (got stage)))) es)
        (with-asks s n wait old new x k (λ m. Got s m ∷ []))
        (gets-on M orderly s c new left total standing known spoken waits stage n wants k.call k.apart (answered-as s n wait old new x k GotIt e).0)

    pub noticed-step : (t : ℕ) (node : Node) (mode : Mode) → x.answer ≡ NoticeTo t node mode → Comes M s c (Writing (writer standing known spoken waits stage)) d (Writing (writer standing known spoken waits stage)) (asked_by s x.asking)
    noticed-step t node mode e = λ left total.
        let a = answered-as s n wait old new x k (NoticeTo t node mode) e in
        subst (λ (es : List Event). Step M s c (session left total (Writing (writer standing known spoken waits stage))) d (session left total (Writing (writer standing known spoken waits stage))) es) (asks-only s n wait old new x k)
        (asks-on M orderly s c new left total standing known spoken waits stage n a.0 wants k.call a.1 a.2)

    pub asleep-step : (t : ℕ) → x.answer ≡ Asleep t → Comes M s c (Writing (writer standing known spoken waits stage)) d (Writing (writer standing known spoken waits stage)) (asked_by s x.asking)
    asleep-step t e = λ left total.
        let a = answered-as s n wait old new x k (Asleep t) e in
        subst (λ (es : List Event). Step M s c (session left total (Writing (writer standing known spoken waits stage))) d (session left total (Writing (writer standing known spoken waits stage))) es) (asks-only s n wait old new x k)
        (asks-on M orderly s c new left total standing known spoken waits stage n a.1.0 wants k.call a.1.1 a.1.2)

  module _ (item : Item) (reply : Reply) (is : item_of stage ≡ Some (uttered_of item)) where
    -- the statement is refused, and the transaction goes on
    pub refused-step : IsReplyTo (uttered_of item) x.answer reply → Comes M s c (Writing (writer standing known true wait stage)) d (Writing (writer standing known true wait Between)) (asked_by s x.asking ++ Said s (uttered_of item) [] reply ∷ [])
    refused-step so = λ left total.
        subst (λ (es : List Event). Step M s c (session left total (Writing (writer standing known true wait stage))) d (session left total (Writing (writer standing known true wait Between))) es)
        (with-asks s n wait old new x k (λ m. Said s (uttered_of item) [] reply ∷ [])) (by left total x.answer k.answered so)
      where
        by : (left : List Item) (total : ℕ) (a : Want) → Answered (needs_of old s) new s n wait a → IsReplyTo (uttered_of item) a reply →
            Step M s c (session left total (Writing (writer standing known true wait stage))) d (session left total (Writing (writer standing known true wait Between))) (wanted_at s n k.call.asks.nodes ++ Said s (uttered_of item) [] reply ∷ [])
        by left total GotIt a so = absurd so
        by left total (NoticeTo t node mode) a so = absurd so
        by left total (Asleep t) a so = absurd so
        by left total (Conflict t) a so =
            rw so.0 (refuses-on M orderly s c new left total standing known wait stage n (uttered_of item) (r.LockConflict t) wants is so.1 k.call a.1.rests refl
            (λ word tables free asks. (free, asks-waits tables n (uttered_of item) asks so.1)) (λ o p x is_open tied nowait. conflict-lawful o p s n x is_open old new t tied k.call a.1 (nowait ∙ ap not a.0)))
        by left total (Deadlock cycle) a (inl so, stays) =
            rw so (refuses-on M orderly s c new left total standing known wait stage n (uttered_of item) (r.Deadlock cycle) wants is stays k.call a.1.rests refl
            (λ word tables free asks. (free, asks-waits tables n (uttered_of item) asks stays)) (λ o p x is_open tied nowait. deadlock-lawful o p s n x is_open old new cycle tied k.call a.1))
        by left total (Deadlock cycle) a (inr so, stays) =
            rw so (refuses-on M orderly s c new left total standing known wait stage n (uttered_of item) r.NoMemory wants is stays k.call a.1.rests refl
            (λ word tables free asks. tt) (λ o p x is_open tied nowait. refl))

    -- a START_TRANSACTION is refused, and its transaction has ended
    pub unstarted-step : (then : Shelf) (locks : State) → Moves s (rolled_back (shelf.seat s)) shelf then → RestsWith s [] new locks → IsReplyTo (uttered_of item) x.answer reply →
        Comes M s c (Writing (writer standing known false wait stage)) (shared word then locks dead) Closing (asked_by s x.asking ++ Said s (uttered_of item) [] reply ∷ RolledBack s ∷ [])
    unstarted-step then locks moves rests so = λ left total.
        subst (λ (es : List Event). Step M s c (session left total (Writing (writer standing known false wait stage))) (shared word then locks dead) (session left total Closing) es)
        (with-asks s n wait old new x k (λ m. Said s (uttered_of item) [] reply ∷ RolledBack s ∷ [])) (by left total x.answer k.answered so)
      where
        by : (left : List Item) (total : ℕ) (a : Want) → Answered (needs_of old s) new s n wait a → IsReplyTo (uttered_of item) a reply →
            Step M s c (session left total (Writing (writer standing known false wait stage))) (shared word then locks dead) (session left total Closing) (wanted_at s n k.call.asks.nodes ++ Said s (uttered_of item) [] reply ∷ RolledBack s ∷ [])
        by left total GotIt a so = absurd so
        by left total (NoticeTo t node mode) a so = absurd so
        by left total (Asleep t) a so = absurd so
        by left total (Conflict t) a so =
            rw so.0 (start-refuses-on M orderly s c then new locks left total standing known wait stage n (uttered_of item) (r.LockConflict t) wants is so.1 k.call a.1.rests refl
            (λ word tables free asks. (free, asks-waits tables n (uttered_of item) asks so.1)) (λ o p x is_open tied nowait. conflict-lawful o p s n x is_open old new t tied k.call a.1 (nowait ∙ ap not a.0)) moves rests)
        by left total (Deadlock cycle) a (inl so, stays) =
            rw so (start-refuses-on M orderly s c then new locks left total standing known wait stage n (uttered_of item) (r.Deadlock cycle) wants is stays k.call a.1.rests refl
            (λ word tables free asks. (free, asks-waits tables n (uttered_of item) asks stays)) (λ o p x is_open tied nowait. deadlock-lawful o p s n x is_open old new cycle tied k.call a.1) moves rests)
        by left total (Deadlock cycle) a (inr so, stays) =
            rw so (start-refuses-on M orderly s c then new locks left total standing known wait stage n (uttered_of item) r.NoMemory wants is stays k.call a.1.rests refl
            (λ word tables free asks. tt) (λ o p x is_open tied nowait. refl) moves rests)

-- ---- how the session stands behind it

-- a stage of a statement whose lock is got: the store rests, and the journal isn't its concern
got-stage : (stage : Stage) → IsOfStatement stage → is_at_rest stage ≡ true → (stand_of (got stage) ≡ writing []) × (has_journal stage ≡ false) × (has_journal (got stage) ≡ false)
got-stage Between of idle = absurd of
got-stage (Working item Opening) of idle = absurd (false≢true idle)
got-stage (Working item Due) of idle = (refl, refl, refl)
got-stage (Working item Out) of idle = (refl, refl, refl)
got-stage (Working item (Lacking need)) of idle = (refl, refl, refl)
got-stage (Working item (Housing room key)) of idle = (refl, refl, refl)
got-stage (Working item (Fetching need)) of idle = (refl, refl, refl)
got-stage (Working item (Lodging room key)) of idle = (refl, refl, refl)
got-stage (Gathering item gather later place) of idle = (refl, refl, refl)
got-stage (Reserving item r locks place) of idle = (refl, refl, refl)
got-stage (Saying item r (Claiming place)) of idle = (refl, refl, refl)
got-stage (Saying item r Changing) of idle = absurd (false≢true idle)
got-stage (Saying item r Broken) of idle = absurd (false≢true idle)
got-stage (Ending end) of idle = absurd of

got-statement : (stage : Stage) → IsOfStatement stage → StatementFitsAt stage → StatementFitsAt (got stage)
got-statement Between of is = absurd of
got-statement (Working item work) of is = is
got-statement (Gathering item gather later place) of is = is
got-statement (Reserving item r locks place) of is = is
got-statement (Saying item r laying) of is = is
got-statement (Ending end) of is = absurd of

off-exclusive : (w : OpenWant) → is_on journal_node w.need.node ≡ false → WantsExclusively journal_node (Some w)
off-exclusive w h = rw h refl

module _ (stand : ℕ → Seat) (s : ℕ) (n : Need) (wait : Bool) (old new : State) (x : Called) (k : IsCalled s n wait old new x) (standing : Standing) (known : Held) (spoken waits : Bool) (stage : Stage) where
  abbrev was : Phase
  was = Writing (writer standing known spoken waits stage)

  pub got-seat : IsOfStatement stage → is_at_rest stage ≡ true → bare (stand s) ≡ writing [] → is_on journal_node n.node ≡ false → x.answer ≡ GotIt → IsSeated stand old s was → IsSeated stand new s (Writing (writer standing known spoken waits (got stage)))
  got-seat of idle at off e f =
      let a = answered-as s n wait old new x k GotIt e in
      let plain = got-stage stage of idle in
      rests-at stand new s (writer standing known spoken waits (got stage)) (at ∙ sym plain.0) (ap (λ (p : Party). p.opened) a.0)
      (subst (λ (b : Bool). HasJournal b (needs_of new s)) (sym plain.2) (subst (HasJournal false) (sym (ap (λ (p : Party). p.needs) a.0)) (got-beside (needs_of old s) n off (subst (λ (b : Bool). HasJournal b (needs_of old s)) plain.1 f.needs))))
      (got-statement stage of f.statement)

  -- the want is open, and was asked for
  asked-seat : (w : OpenWant) → lock_of stage ≡ Some n → is_on journal_node n.node ≡ false → IsWanting new s (needs_of old s) w → w.need ≡ n → IsSeated stand old s was → IsSeated stand new s was
  asked-seat w wants off stands is f = record {
    seat = f.seat;
    wants = subst (λ (p : Party). WantsAtMost (lock_of stage) p.opened) (sym stands) (subst (λ (o : Option Need). WantsAtMost o (Some w)) (sym wants) is);
    beside = subst (λ (p : Party). WantsExclusively journal_node p.opened) (sym stands) (off-exclusive w (ap (λ (m : Need). is_on journal_node m.node) is ∙ off));
    needs = subst (λ (p : Party). HasJournal (has_journal stage) p.needs) (sym stands) f.needs;
    statement = f.statement;
  }

  pub noticed-seat : lock_of stage ≡ Some n → is_on journal_node n.node ≡ false → (t : ℕ) (node : Node) (mode : Mode) → x.answer ≡ NoticeTo t node mode → IsSeated stand old s was → IsSeated stand new s was
  noticed-seat wants off t node mode e f = let a = answered-as s n wait old new x k (NoticeTo t node mode) e in asked-seat a.0 wants off a.1 a.2 f

  pub asleep-seat : lock_of stage ≡ Some n → is_on journal_node n.node ≡ false → (t : ℕ) → x.answer ≡ Asleep t → IsSeated stand old s was → IsSeated stand new s was
  asleep-seat wants off t e f = let a = answered-as s n wait old new x k (Asleep t) e in asked-seat a.1.0 wants off a.1.1 a.1.2 f

  -- the want was refused
  pub refused-seat : (item : Uttered) (reply : Reply) → IsReplyTo item x.answer reply → bare (stand s) ≡ writing [] → has_journal stage ≡ false → IsSeated stand old s was → IsSeated stand new s (Writing (writer standing known spoken waits Between))
  refused-seat item reply so at off f = by x.answer k.answered so
    where
      ended : party_of new.parties s ≡ resting (needs_of old s) → IsSeated stand new s (Writing (writer standing known spoken waits Between))
      ended rests = rests-at stand new s (writer standing known spoken waits Between) at (ap (λ (p : Party). p.opened) rests)
          (subst (HasJournal false) (sym (ap (λ (p : Party). p.needs) rests)) (subst (λ (b : Bool). HasJournal b (needs_of old s)) off f.needs)) tt

      by : (a : Want) → Answered (needs_of old s) new s n wait a → IsReplyTo item a reply → IsSeated stand new s (Writing (writer standing known spoken waits Between))
      by GotIt a so = absurd so
      by (NoticeTo t node mode) a so = absurd so
      by (Asleep t) a so = absurd so
      by (Conflict t) a so = ended a.1.rests
      by (Deadlock cycle) a so = ended a.1.rests
