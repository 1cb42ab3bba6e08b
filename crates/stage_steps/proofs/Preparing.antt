-- A COMMIT is prepared, and wants the journal.
use Rattle.std.proofs.Common.{◌≡◌, ℕ, ◌∷◌, ◌++◌, [], Bool, true, false, List, refl, ◌∙◌, sym, ap, subst, None, Some}
use Rattle.std.proofs.lemmas.Bool.{false≢true}
use Rattle.rdo_ast.specs.declared.reply.Reply.TheVariants as r
use Rattle.rdo_ast.specs.declared.reply.Standing.{Standing}
use Rattle.rdo_ast.specs.declared.syntax.Item.{Item}
use Rattle.rdo_ast.specs.Tree.{said, commit}
use Rattle.rdb_account.specs.Events.{Event, Got, Said, need}
use Rattle.vms_queues.specs.declared.lock_mode.Mode.TheVariants.{EX}
use Rattle.vms_queues.specs.declared.lock_mode.Mode.{Mode}
use Rattle.rdb_types.specs.declared.node.Node.{Node}
use Rattle.lock_needs.specs.declared.need.Need.{Need}
use Rattle.lock_needs.specs.declared.party.OpenWant.{OpenWant}
use Rattle.lock_needs.specs.Party.{Party}
use Rattle.lock_needs.specs.Waits.{converts_at}
use Rattle.lock_tree_laws.specs.Forest.{State, opened_of}
use Rattle.lock_tree_laws.specs.Wanted.{IsOf, needs_of}
use Rattle.lock_tree_laws.specs.Rule.{Finishes, GoesDown, entered}
use Rattle.lock_tree_laws.specs.declared.answer.Want.{Want}
use Rattle.lock_tree_laws.specs.declared.answer.Want.TheVariants.{Got as GotIt, NoticeTo, Asleep, Deadlock}
use Rattle.journal_waits.specs.Holders.{OthersKeepTo, KeepsTo, WantsExclusively, is_exclusive_on}
use Rattle.journal_waits.proofs.Chains.{no-cycle}
use Rattle.journal_waits.proofs.Notices.{no-notice}
use Rattle.journal_waits.proofs.Askings.{got-asked, asleep-asked}
use Rattle.line_view.specs.Held.{Held}
use Rattle.session_limits.specs.line_steps.Images.{journal_node}
use Rattle.line_store.specs.Seats.{Seat, IsWriting, prepared_by, given_back, outside, beginning, writing, changing, broken, prepared, committing, rolling_back, closing, reading, copying, dead}
use Rattle.line_store.specs.declared.answers.CommitStop.TheVariants.{AijFull}
use Rattle.line_store.specs.Calls.{Moves, MayStopCommit}
use Rattle.line_store.specs.Shelves.{Shelf}
use Rattle.line_store.specs.Sights.{Sight, Agrees, Does, GivesBack, Prepares, bare}
use Rattle.line_store.proofs.InTurn.{does-as, moves-in-turn}
use Rattle.stage_steps.proofs.Goes.{does-behind, prepared-flight}
use Rattle.session_jobs.specs.Records.{Model, IsOrderly}
use Rattle.session_limits.proofs.AtLimits.{aij-full-on}
use Rattle.session_limits.specs.session_states.declared.stage.End.{End}
use Rattle.session_limits.specs.session_states.declared.stage.End.TheVariants.{Preparing, Journal, Ready}
use Rattle.session_limits.specs.session_states.declared.stage.Stage.TheVariants.{Between, Ending}
use Rattle.session_limits.specs.session_states.declared.stage.Phase.{Phase}
use Rattle.session_limits.specs.session_states.declared.stage.Phase.TheVariants.{Writing}
use Rattle.session_limits.specs.session_states.Locks.{HasJournal}
use Rattle.session_limits.specs.session_states.States.{writer, session}
use Rattle.session_limits.specs.session_states.Shared.{Shared, with_both, LeavesOthers, RestsWith}
use Rattle.session_limits.specs.session_states.Steps.{AreAt, Step}
use Rattle.session_limits.proofs.of_session_states.Journal.{has-behind}
use Rattle.session_limits.proofs.of_session_states.Preparing.{prepares-on, prepares-got, gives-back, unprepares-on}
use Rattle.session_limits.proofs.of_session_states.Resting.{leaves-others}
use Rattle.session_stands.specs.Seated.{IsSeated}
use Rattle.stage_steps.specs.declared.calling.Called.{Called}
use Rattle.stage_steps.specs.Asking.{IsCalled}
use Rattle.stage_steps.specs.Happenings.{asked_by}
use Rattle.stage_steps.specs.Turns.{Comes, shared}
use Rattle.stage_steps.proofs.Called.{with-asks, answered-as, asks-only}
use Rattle.stage_steps.proofs.Seated.{rests-at}

abbrev pub journal : Need
journal = need journal_node EX

-- ---- what was prepared is given back

is-writing : (seat : Seat) → bare seat ≡ writing [] → IsWriting seat
is-writing outside h = cc
is-writing beginning h = cc
is-writing (writing ws) h = tt
is-writing (changing ws) h = cc
is-writing (broken ws) h = cc
is-writing (prepared ws) h = cc
is-writing (committing ws) h = cc
is-writing (rolling_back ws) h = cc
is-writing closing h = cc
is-writing (reading start) h = cc
is-writing (copying number start) h = cc
is-writing (dead commits ws) h = cc

-- where memory knows a session to write, it does so on each shelf that is shown
pub writes-shown : (sight : Sight) → Agrees sight → (s : ℕ) → bare (sight.stand s) ≡ writing [] → (h : Shelf) → sight.shows h → IsWriting (h.seat s)
writes-shown sight agrees s at h shown = is-writing (h.seat s) (sym (agrees h shown s) ∙ at)

back-again : (seat : Seat) → IsWriting seat → given_back (prepared_by seat) ≡ seat
back-again outside h = absurd h
back-again beginning h = absurd h
back-again (writing ws) h = refl
back-again (changing ws) h = absurd h
back-again (broken ws) h = absurd h
back-again (prepared ws) h = absurd h
back-again (committing ws) h = absurd h
back-again (rolling_back ws) h = absurd h
back-again closing h = absurd h
back-again (reading start) h = absurd h
back-again (copying number start) h = absurd h
back-again (dead commits ws) h = absurd h

-- the seat is as it was
abbrev pub Stirs : ℕ → Shelf → Shelf → Type 0
Stirs s h g = Moves s (h.seat s) h g

pub prepared-back : (s : ℕ) (a b c : Sight) → ((h : Shelf) → a.shows h → IsWriting (h.seat s)) → Does s (prepared []) (Prepares s) a b → Does s (writing []) (GivesBack s) b c → Does s (writing []) (Stirs s) a c
prepared-back s a b c writes one two = does-behind s (prepared []) (writing []) (λ h m. IsWriting (h.seat s) × Prepares s h m) (GivesBack s) (Stirs s) (λ h. prepared_by (h.seat s)) a b c
    (λ h m r. r.1) (λ h. prepared-flight (h.seat s))
    (λ h m g r q. subst (λ (seat : Seat). Moves s seat h g) (ap given_back r.1.mine ∙ back-again (h.seat s) r.0) (moves-in-turn s (prepared_by (h.seat s)) (given_back (m.seat s)) h m g r.1 q))
    refl refl
    (does-as s (prepared []) (Prepares s) (λ h m. IsWriting (h.seat s) × Prepares s h m) a b (λ h m shown told r. (writes h shown, r)) one) two

-- ---- a COMMIT comes once something was said

module _ (M : Model) (orderly : IsOrderly M) where
  unspoken : (s : ℕ) (c d : Shared) (left : List Item) (total : ℕ) (standing : Standing) (known : Held) (waits : Bool) (end : End) (y : Phase) (es : List Event) → d.word ≡ c.word → LeavesOthers s c d → AreAt d.shelf.clock.time es →
      Step M s c (session left total (Writing (writer standing known false waits (Ending end)))) d (session left total y) es
  unspoken s c d left total standing known waits end y es word others at = record { word = word; others = others; moments = at; leaves = λ o p g f. absurd (false≢true f.fits.phase.stage.0) }

  -- the journal has no room for it
  pub full-step : (s : ℕ) (c : Shared) (left : List Item) (total : ℕ) (standing : Standing) (known : Held) (spoken waits : Bool) (limit : ℕ) → MayStopCommit c.shelf s (AijFull limit) →
      Step M s c (session left total (Writing (writer standing known spoken waits (Ending Preparing)))) c (session left total (Writing (writer standing known spoken waits Between))) (Said s (said commit) [] (r.AijFull limit) ∷ [])
  full-step s c left total standing known true waits limit stop = aij-full-on M orderly s c left total standing known waits limit stop
  full-step s c left total standing known false waits limit stop = unspoken s c c left total standing known waits Preparing _ _ refl (leaves-others s c) (tt, tt)

  -- no memory is found for its want, which was open or not
  pub back-step : (s : ℕ) (c : Shared) (shelf : Shelf) (locks : State) (left : List Item) (total : ℕ) (standing : Standing) (known : Held) (spoken waits : Bool) → Moves s (given_back (c.shelf.seat s)) c.shelf shelf → RestsWith s (needs_of c.locks s) c.locks locks →
      Step M s c (session left total (Writing (writer standing known spoken waits (Ending Journal)))) (with_both shelf locks c) (session left total (Writing (writer standing known spoken waits Between))) (Said s (said commit) [] r.NoMemory ∷ [])
  back-step s c shelf locks left total standing known true waits moves rests = gives-back M orderly s c shelf locks left total standing known waits moves rests
  back-step s c shelf locks left total standing known false waits moves rests = unspoken s c (with_both shelf locks c) left total standing known waits Journal _ _ refl (record { store = moves.others; locks = rests.others }) (tt, tt)

  pub undone-step : (s : ℕ) (c : Shared) (shelf : Shelf) (locks : State) (left : List Item) (total : ℕ) (standing : Standing) (known : Held) (spoken waits : Bool) → Moves s (c.shelf.seat s) c.shelf shelf → RestsWith s (needs_of c.locks s) c.locks locks →
      Step M s c (session left total (Writing (writer standing known spoken waits (Ending Preparing)))) (with_both shelf locks c) (session left total (Writing (writer standing known spoken waits Between))) (Said s (said commit) [] r.NoMemory ∷ [])
  undone-step s c shelf locks left total standing known true waits moves rests = unprepares-on M orderly s c shelf locks left total standing known waits moves rests
  undone-step s c shelf locks left total standing known false waits moves rests = unspoken s c (with_both shelf locks c) left total standing known waits Preparing _ _ refl (record { store = moves.others; locks = rests.others }) (tt, tt)

-- ---- answers to a want of the journal

module _ (s : ℕ) (old new : State) (x : Called) (k : IsCalled s journal true old new x) (free : converts_at (needs_of old s) journal_node ≡ false) (rest : OthersKeepTo old s journal_node) where
  still-keep : OthersKeepTo new s journal_node
  still-keep t other = subst (KeepsTo journal_node) (sym (k.call.others t other)) (rest t other)

  pub never-noticed : (t : ℕ) (node : Node) (mode : Mode) → x.answer ≡ NoticeTo t node mode → ⊥
  never-noticed t node mode e = no-notice s journal new true t node mode (needs_of old s) refl k.whole still-keep (answered-as s journal true old new x k (NoticeTo t node mode) e)

  pub never-cyclic : (cycle : List ℕ) → x.answer ≡ Deadlock cycle → ⊥
  never-cyclic cycle e = no-cycle s journal old new true cycle refl free (λ t other h. (rest t other).rests h) k.call.others (answered-as s journal true old new x k (Deadlock cycle) e)

  pub got-somewhere : opened_of old s ≡ None → x.answer ≡ GotIt → k.call.asks.nodes ≡ [] → ⊥
  got-somewhere closed e = got-asked s journal old new true k.call.asks.nodes refl refl k.was_whole closed free (subst (λ (a : Want). GoesDown s journal true (Finishes s a) (entered old s) new) e k.by_rule) (answered-as s journal true old new x k GotIt e) k.call.asks.added

  pub slept-somewhere : opened_of old s ≡ None → (t : ℕ) → x.answer ≡ Asleep t → k.call.asks.nodes ≡ [] → ⊥
  slept-somewhere closed t e = asleep-asked s journal old new true t k.call.asks.nodes k.whole closed (answered-as s journal true old new x k (Asleep t) e) k.call.asks.added

  -- ---- how the session stands behind it

  module _ (stand : ℕ → Seat) (standing : Standing) (known : Held) (spoken waits : Bool) where
    pub ready-seat : bare (stand s) ≡ prepared [] → x.answer ≡ GotIt → IsSeated stand new s (Writing (writer standing known spoken waits (Ending Ready)))
    ready-seat at e =
        let a = answered-as s journal true old new x k GotIt e in
        rests-at stand new s (writer standing known spoken waits (Ending Ready)) at (ap (λ (p : Party). p.opened) a.0)
        (subst (HasJournal true) (sym (ap (λ (p : Party). p.needs) a.0)) (has-behind true (needs_of old s) journal refl free)) tt

    pub waiting-seat : bare (stand s) ≡ prepared [] → (t : ℕ) → x.answer ≡ Asleep t → IsSeated stand new s (Writing (writer standing known spoken waits (Ending Journal)))
    waiting-seat at t e =
        let a = answered-as s journal true old new x k (Asleep t) e in
        record {
          seat = at;
          wants = subst (λ (p : Party). IsOf journal p.opened) (sym a.1.1) a.1.2;
          beside = subst (λ (p : Party). WantsExclusively journal_node p.opened) (sym a.1.1) (exclusive a.1.0 a.1.2);
          needs = subst (λ (p : Party). HasJournal false p.needs) (sym a.1.1) free;
          statement = tt;
        }
      where
        exclusive : (w : OpenWant) → w.need ≡ journal → WantsExclusively journal_node (Some w)
        exclusive w is = subst (λ (n : Need). is_exclusive_on journal_node n ≡ true) (sym is) refl

-- ---- steps from a preparing in the same step

module _ (M : Model) (orderly : IsOrderly M) (s : ℕ) (word : List ℕ) (h shelf : Shelf) (old new : State) (dead : ℕ) (standing : Standing) (known : Held) (spoken waits : Bool) (x : Called)
    (k : IsCalled s journal true old new x) (free : converts_at (needs_of old s) journal_node ≡ false) (rest : OthersKeepTo old s journal_node) (closed : opened_of old s ≡ None) (moves : Moves s (prepared_by (h.seat s)) h shelf) where
  pub sleeps-behind : (t : ℕ) → x.answer ≡ Asleep t →
      Comes M s (shared word h old dead) (Writing (writer standing known spoken waits (Ending Preparing))) (shared word shelf new dead) (Writing (writer standing known spoken waits (Ending Journal))) (asked_by s x.asking)
  sleeps-behind t e = λ left total.
      let a = answered-as s journal true old new x k (Asleep t) e in
      subst (λ (es : List Event). Step M s (shared word h old dead) (session left total (Writing (writer standing known spoken waits (Ending Preparing)))) (shared word shelf new dead) (session left total (Writing (writer standing known spoken waits (Ending Journal)))) es)
      (asks-only s journal true old new x k) (prepares-on M orderly s (shared word h old dead) shelf new left total standing known spoken waits a.1.0 moves k.call (slept-somewhere s old new x k free rest closed t e) a.1.1 a.1.2)

  pub gets-behind : x.answer ≡ GotIt →
      Comes M s (shared word h old dead) (Writing (writer standing known spoken waits (Ending Preparing))) (shared word shelf new dead) (Writing (writer standing known spoken waits (Ending Ready))) (asked_by s x.asking ++ Got s x.asking.need ∷ [])
  gets-behind e = λ left total.
      subst (λ (es : List Event). Step M s (shared word h old dead) (session left total (Writing (writer standing known spoken waits (Ending Preparing)))) (shared word shelf new dead) (session left total (Writing (writer standing known spoken waits (Ending Ready)))) es)
      (with-asks s journal true old new x k (λ m. Got s m ∷ [])) (prepares-got M orderly s (shared word h old dead) shelf new left total standing known spoken waits moves k.call (got-somewhere s old new x k free rest closed e) k.apart (answered-as s journal true old new x k GotIt e).0)
