-- Sessions die and are recovered, and all of them stay sound.
use Rattle.std.proofs.Common.{◌≡◌, ◌≤◌, ◌+◌, ◌-◌, ℕ, zero, suc, ◌++◌, ◌∷◌, [], ◌&&◌, not, Bool, true, false, List, refl, ◌∙◌, sym, ap, subst, arith, Option, Some, None, Result, Ok, Err, slice_get, slice_set}
use Rattle.std.proofs.lemmas.Bool.{false≢true, and_parts}
use Rattle.std.proofs.lemmas.Option.{none-some, same_Some}
use Rattle.rdb_types.specs.declared.session.Cause.{Cause}
use Rattle.rdb_types.specs.declared.session.Cause.TheVariants.{Device, Gate, Stop, Memory}
use Rattle.rdo_ast.specs.declared.syntax.Item.{Item}
use Rattle.rdb_account.specs.Events.{Event, Died}
use Rattle.rdb_account.specs.Places.{Opening}
use Rattle.rdb_account.specs.Backups.{backups}
use Rattle.rdb_account.proofs.Backups.{backups-grown}
use Rattle.line_store.specs.declared.answers.Fault.{Fault}
use Rattle.line_store.specs.declared.answers.Fault.TheVariants.{Failed, Bad}
use Rattle.line_store.specs.Calls.{Fails}
use Rattle.lock_tree_laws.specs.Forest.{State}
use Rattle.line_store.specs.Seats.{Seat, outside, beginning, writing, changing, broken, prepared, committing, rolling_back, closing, reading, copying, dead, begun, begun_by, copied_at, done_at, IsAlive}
use Rattle.line_store.specs.Sights.{Behind, Stands, bare}
use Rattle.line_store.proofs.Begun.{copied-bare}
use Rattle.line_store.proofs.InTurn.{does-as}
use Rattle.session_jobs.specs.Records.{Model, IsOrderly}
use Rattle.session_states.specs.declared.stage.Phase.{Phase}
use Rattle.session_states.specs.declared.stage.Life.{Life}
use Rattle.session_states.specs.declared.stage.Life.TheVariants.{Alive, Dead}
use Rattle.session_states.specs.declared.stage.Member.{Member}
use Rattle.session_states.specs.declared.stage.Work.TheVariants.{Opening as OpeningIt, Due, Out, Lacking, Housing, Fetching, Lodging}
use Rattle.session_states.specs.declared.stage.Laying.TheVariants.{Claiming, Changing, Broken}
use Rattle.session_states.specs.declared.stage.End.TheVariants.{Preparing, Journal, Ready, Committing, RollingBack, Leaving}
use Rattle.session_states.specs.declared.stage.Stage.{Stage}
use Rattle.session_states.specs.declared.stage.Stage.TheVariants.{Between, Working, Gathering, Reserving, Saying, Ending}
use Rattle.session_states.specs.declared.stage.Phase.TheVariants.{Outside, Closing, Writing, Reading, Over}
use Rattle.session_states.specs.States.{commits_in, copies_at, has_said_all, seat_of_reader, may_die_in, session, dead_session, gone_session}
use Rattle.session_states.specs.Steps.{Fall}
use Rattle.line_account.specs.session_stands.Seated.{stand_of, IsStandOf, HasFallen, LivesAt}
use Rattle.line_account.specs.session_stands.Sessions.{AreSeated, IsTold, dead_in, one_dead}
use Rattle.line_account.proofs.of_session_stands.Seating.{seated}
use Rattle.line_account.proofs.of_session_stands.Seats.{dead-seat}
use Rattle.line_account.proofs.of_session_stands.Telling.{falls}
use Rattle.line_account.specs.stage_steps.declared.dying.Recovery.{Recovery}
use Rattle.line_account.specs.stage_steps.declared.dying.Recovery.TheVariants.{More, Done}
use Rattle.line_account.specs.stage_steps.Deaths.{DiesIn, NearerRecoveredIn, RecoversIn, life_behind, recovered_by, dead_behind, recovery_events}
use Rattle.line_account.specs.stage_steps.Scenes.{Scene, Goes, on_shelf}
use Rattle.line_cluster.specs.declared.sessions.Halt.{Halt}
use Rattle.line_cluster.specs.Deaths.{CountsFaults, device_deaths, failures, faults_in, faults_of, is_stop}
use Rattle.line_cluster.specs.Sound.{IsSound, ShowsSpent, is_over_slot, is_unsound}
use Rattle.line_cluster.proofs.Faults.{counts-fewer, counts-on, counts-recovered, failed_in, one-death, recovery-fails, slot_in}
use Rattle.line_cluster.proofs.Places.{suc-less}
use Rattle.line_cluster.proofs.Stepping.{session-of, seated-at, is-dead, told-images}
use Rattle.lent_members.specs.Going.{IsDeadAt, is_dead, is_stopping}

-- how many are dead where one has another life
pub dead-moved : (ms : List Member) (i : ℕ) (m n : Member) → slice_get ms i ≡ Some m → dead_in (slice_set ms i n) + one_dead m.life ≡ dead_in ms + one_dead n.life
dead-moved [] i m n found = absurd (none-some m found)
dead-moved (x ∷ xs) zero m n found = let e : one_dead x.life ≡ one_dead m.life = ap (λ (y : Member). one_dead y.life) (same_Some x m found) in omega (arith, e)
dead-moved (x ∷ xs) (suc i) m n found = let rest = dead-moved xs i m n found in omega (arith, rest)

-- ---- who died or is recovered copies nothing

none-begun : (old new : ℕ → Seat) (s : ℕ) → copied_at (new s) ≡ None → begun (old s) (new s) ≡ None
none-begun old new s none = ap (begun_by (copied_at (old s))) none

fallen-copies : (stand : ℕ → Seat) (locks : State) (s : ℕ) (x : Phase) → HasFallen stand locks s x → copied_at (stand s) ≡ None
fallen-copies stand locks s x f = sym (copied-bare (stand s)) ∙ ap copied_at f.seat

recovered-copies : (stand : ℕ → Seat) (locks : State) (s : ℕ) (x : Phase) (result : Result Recovery Fault) → LivesAt stand locks s x (life_behind result) → copied_at (stand s) ≡ None
recovered-copies stand locks s x (Ok (Done committed moment)) f = sym (copied-bare (stand s)) ∙ ap copied_at f.seat
recovered-copies stand locks s x (Ok More) f = fallen-copies stand locks s x f
recovered-copies stand locks s x (Err fault) f = fallen-copies stand locks s x f

recovered-still : (o : Opening) (events : List Event) (s : ℕ) (result : Result Recovery Fault) → backups o (events ++ recovery_events s result) ≡ backups o events
recovered-still o events s (Ok (Done committed moment)) = backups-grown o events (recovery_events s (Ok (Done committed moment)))
recovered-still o events s (Ok More) = backups-grown o events (recovery_events s (Ok More))
recovered-still o events s (Err fault) = backups-grown o events (recovery_events s (Err fault))

module _ (M : Model) (orderly : IsOrderly M) (told : Type 0) (o : Opening) (faults : ℕ) (c d : Scene) (stands : Stands d.sight) (members : List Member) (events : List Event) (i : ℕ) (was : IsSound M told o faults c members events None) where
  -- one comes to another life
  module _ (N : Type 0) (es : List Event) (m n : Member) (halt : Option Halt) (found : slice_get members i ≡ Some m) (same : n.phase ≡ m.phase)
      (begins : begun (c.sight.stand (suc i)) (d.sight.stand (suc i)) ≡ None) (still : backups o (events ++ es) ≡ backups o events)
      (goes : Goes (suc i) m.phase m.life m.phase n.life (λ h g. Fall M o (suc i) (on_shelf c h (dead_in members)) m (on_shelf d g (dead_in (slice_set members i n))) n es) N c d) where
    sits : AreSeated d.sight.stand d.locks (slice_set members i n)
    sits = seated c.sight.stand d.sight.stand c.locks d.locks members i m n (was.seated refl) found goes.does.others goes.parties
        (subst (λ (x : Phase). LivesAt d.sight.stand d.locks (suc i) x n.life) (sym same) (goes.lives ((was.seated refl).each (suc i) m found)))

    tells : told → IsTold M o d.word d.sight d.locks (slice_set members i n) (events ++ es)
    tells t = falls M orderly o c.word d.word c.sight d.sight c.locks d.locks members events es i m n (d.sight.stand (suc i)) found stands (was.seated refl) sits goes.does begins still (was.kept refl t)

    -- what was counted is counted on
    pub counts-fallen : (k : ℕ) → CountsFaults faults k c.sight → CountsFaults faults k d.sight
    counts-fallen k before = counts-on faults (suc i) c.sight d.sight k (d.sight.stand (suc i))
        (λ h g. Fall M o (suc i) (on_shelf c h (dead_in members)) m (on_shelf d g (dead_in (slice_set members i n))) n es) (λ h g r. r.others.store.later) goes.does before

    pub fallen : (told → CountsFaults faults (failures (events ++ es) halt) d.sight) → is_unsound halt ≡ false → (told → is_over_slot halt ≡ true → ShowsSpent d.sight) → IsSound M told o faults d (slice_set members i n) (events ++ es) halt
    fallen counts agrees spent = record {
      legal = λ t. (tells t).kept.right.legal;
      seated = λ none. sits;
      kept = λ none t. tells t;
      images = λ t. told-images M orderly o d.word d.sight stands d.locks (slice_set members i n) (events ++ es) sits (tells t);
      causes = counts;
      agrees = λ t. agrees;
      spent = spent;
    }

  module _ (left : List Item) (total : ℕ) (x : Phase) (halt : Option Halt) where
    pub dies : slice_get members i ≡ Some (session left total x) → (cause : Cause) → may_die_in o (suc i) left x cause ≡ true → faults_in halt ≡ 0 → is_unsound halt ≡ false → is_over_slot halt ≡ false → (told → CountsFaults faults (device_deaths events + faults_of cause) c.sight) → DiesIn M (suc i) x c d →
        IsSound M told o faults d (slice_set members i (dead_session left total x)) (events ++ Died (suc i) cause ∷ []) halt
    dies found cause may going agrees slot caused g =
        let more : dead_in (slice_set members i (dead_session left total x)) ≡ dead_in members + 1 = (let e = dead-moved members i (session left total x) (dead_session left total x) found in omega (arith, e)) in
        let goes : Goes (suc i) x Alive x Dead (λ h k. Fall M o (suc i) (on_shelf c h (dead_in members)) (session left total x) (on_shelf d k (dead_in (slice_set members i (dead_session left total x)))) (dead_session left total x) (Died (suc i) cause ∷ [])) _ c d = record {
          lives = g.lives;
          parties = g.parties;
          nearer = g.nearer;
          does = does-as (suc i) (d.sight.stand (suc i))
              (λ h k. (p : Opening) (dead : ℕ) (ls : List Item) (n : ℕ) (a : Cause) → may_die_in p (suc i) ls x a ≡ true → Fall M p (suc i) (on_shelf c h dead) (session ls n x) (on_shelf d k (dead + 1)) (dead_session ls n x) (Died (suc i) a ∷ []))
              (λ h k. Fall M o (suc i) (on_shelf c h (dead_in members)) (session left total x) (on_shelf d k (dead_in (slice_set members i (dead_session left total x)))) (dead_session left total x) (Died (suc i) cause ∷ []))
              c.sight d.sight
              (λ h k shown then all. subst (λ (n : ℕ). Fall M o (suc i) (on_shelf c h (dead_in members)) (session left total x) (on_shelf d k n) (dead_session left total x) (Died (suc i) cause ∷ [])) (sym more) (all o (dead_in members) left total cause may))
              g.does;
        } in
        let begins = none-begun c.sight.stand d.sight.stand (suc i) (fallen-copies d.sight.stand d.locks (suc i) x (g.lives ((was.seated refl).each (suc i) (session left total x) found))) in
        let still : backups o (events ++ Died (suc i) cause ∷ []) ≡ backups o events = backups-grown o events (Died (suc i) cause ∷ []) in
        let counted : told → CountsFaults faults (failures (events ++ Died (suc i) cause ∷ []) halt) d.sight = λ t.
        counts-fewer faults (failures (events ++ Died (suc i) cause ∷ []) halt) (device_deaths events + faults_of cause) d.sight (one-death events (suc i) cause halt going)
        (counts-fallen _ (Died (suc i) cause ∷ []) (session left total x) (dead_session left total x) halt found refl begins still goes (device_deaths events + faults_of cause) (caused t)) in
        fallen _ (Died (suc i) cause ∷ []) (session left total x) (dead_session left total x) halt found refl begins still goes counted agrees (λ t over. absurd (false≢true (sym slot ∙ over)))

    life-of-behind : (result : Result Recovery Fault) → (recovered_by result left total x).life ≡ life_behind result
    life-of-behind (Ok (Done committed moment)) = refl
    life-of-behind (Ok More) = refl
    life-of-behind (Err fault) = refl

    phase-of-behind : (result : Result Recovery Fault) → (recovered_by result left total x).phase ≡ x
    phase-of-behind (Ok (Done committed moment)) = refl
    phase-of-behind (Ok More) = refl
    phase-of-behind (Err fault) = refl

    fewer : slice_get members i ≡ Some (dead_session left total x) → (result : Result Recovery Fault) → dead_in (slice_set members i (recovered_by result left total x)) ≡ dead_behind result (dead_in members)
    fewer found (Ok (Done committed moment)) = let e = dead-moved members i (dead_session left total x) (gone_session left total x) found in omega (arith, e)
    fewer found (Ok More) = let e = dead-moved members i (dead_session left total x) (dead_session left total x) found in omega (arith, e)
    fewer found (Err fault) = let e = dead-moved members i (dead_session left total x) (dead_session left total x) found in omega (arith, e)

    -- where it is told that a slot isn't what it has to be, numbers are used up
    spent-recovered : (result : Result Recovery Fault) → NearerRecoveredIn (suc i) result c d left total x → told → slot_in result ≡ true → ShowsSpent d.sight
    spent-recovered (Err (Bad file slot)) near t e =
        let k = was.kept refl t in
        let at = near k.shelf k.shown in
        let it : Behind c.sight d.sight at.0 (Fails (suc i) (Bad file slot)) k.shelf = at.1 in
        let fails : Fails (suc i) (Bad file slot) k.shelf it.shelf = it.related in
        record { shelf = it.shelf; shown = it.shown; spent = fails.cause }
    spent-recovered (Err Failed) near t e = absurd (false≢true e)
    spent-recovered (Ok step) near t e = absurd (false≢true e)

    pub recovers : slice_get members i ≡ Some (dead_session left total x) → (result : Result Recovery Fault) → faults_in halt ≤ failed_in result → is_unsound halt ≡ false → is_over_slot halt ≡ slot_in result → RecoversIn M (suc i) x c d result →
        IsSound M told o faults d (slice_set members i (recovered_by result left total x)) (events ++ recovery_events (suc i) result) halt
    recovers found result says agrees over g =
        let goes : Goes (suc i) x Dead x (recovered_by result left total x).life (λ h k. Fall M o (suc i) (on_shelf c h (dead_in members)) (dead_session left total x) (on_shelf d k (dead_in (slice_set members i (recovered_by result left total x)))) (recovered_by result left total x) (recovery_events (suc i) result)) _ c d = record {
          lives = λ f. subst (λ (l : Life). LivesAt d.sight.stand d.locks (suc i) x l) (sym (life-of-behind result)) (g.lives f);
          parties = g.parties;
          nearer = g.nearer;
          does = does-as (suc i) (d.sight.stand (suc i))
              (λ h k. (p : Opening) (dead : ℕ) (ls : List Item) (n : ℕ) → Fall M p (suc i) (on_shelf c h dead) (dead_session ls n x) (on_shelf d k (dead_behind result dead)) (recovered_by result ls n x) (recovery_events (suc i) result))
              (λ h k. Fall M o (suc i) (on_shelf c h (dead_in members)) (dead_session left total x) (on_shelf d k (dead_in (slice_set members i (recovered_by result left total x)))) (recovered_by result left total x) (recovery_events (suc i) result))
              c.sight d.sight
              (λ h k shown then all. subst (λ (n : ℕ). Fall M o (suc i) (on_shelf c h (dead_in members)) (dead_session left total x) (on_shelf d k n) (recovered_by result left total x) (recovery_events (suc i) result)) (sym (fewer found result)) (all o (dead_in members) left total))
              g.does;
        } in
        let begins = none-begun c.sight.stand d.sight.stand (suc i) (recovered-copies d.sight.stand d.locks (suc i) x result (g.lives ((was.seated refl).each (suc i) (dead_session left total x) found))) in
        let still = recovered-still o events (suc i) result in
        let on : told → CountsFaults faults (failures events None) d.sight = λ t. counts-fallen _ (recovery_events (suc i) result) (dead_session left total x) (recovered_by result left total x) halt found (phase-of-behind result) begins still goes (failures events None) (was.causes t) in
        let counted : told → CountsFaults faults (failures (events ++ recovery_events (suc i) result) halt) d.sight = λ t.
        counts-fewer faults (failures (events ++ recovery_events (suc i) result) halt) (failures events None + failed_in result) d.sight (recovery-fails events (suc i) result None halt says)
        (counts-recovered faults (suc i) (failures events None) c d left total x result (g.nearer left total) (was.causes t) (on t)) in
        fallen _ (recovery_events (suc i) result) (dead_session left total x) (recovered_by result left total x) halt found (phase-of-behind result) begins still goes counted agrees (λ t is. spent-recovered result (g.nearer left total) t (sym over ∙ is))

-- ---- as the code has it

pub has-died : (M : Model) (orderly : IsOrderly M) (told : Type 0) (o : Opening) (faults : ℕ) (c d : Scene) (stands : Stands d.sight) (members put : List Member) (events more : List Event) (s at : ℕ) (m : Member) (cause : Cause) (old halt : Option Halt) →
    1 ≤ s → at ≡ s - 1 → old ≡ None → slice_get members at ≡ Some m → m.life ≡ Alive → IsSound M told o faults c members events old → may_die_in o s m.left m.phase cause ≡ true → faults_in halt ≡ 0 → is_unsound halt ≡ false → is_over_slot halt ≡ false → (told → CountsFaults faults (device_deaths events + faults_of cause) c.sight) → DiesIn M s m.phase c d →
    put ≡ slice_set members at (record { left = m.left; total = m.total; phase = m.phase; life = Dead }) → more ≡ events ++ Died s cause ∷ [] → IsSound M told o faults d put more halt
has-died M orderly told o faults c d stands members put events more s at m cause old halt first is none found alive was may going agrees slot caused dies-in put-is more-is =
    let e : s ≡ suc at = sym (ap suc is ∙ suc-less s first) in
    subst (λ (ms : List Member). IsSound M told o faults d ms more halt) (sym put-is)
    (subst (λ (es : List Event). IsSound M told o faults d (slice_set members at (dead_session m.left m.total m.phase)) es halt) (ap (λ (t : ℕ). events ++ Died t cause ∷ []) (sym e) ∙ sym more-is)
    (dies M orderly told o faults c d stands members events at (subst (λ (x : Option Halt). IsSound M told o faults c members events x) none was) m.left m.total m.phase halt (found ∙ ap Some (session-of m alive)) cause
    (subst (λ (t : ℕ). may_die_in o t m.left m.phase cause ≡ true) e may) going agrees slot caused (subst (λ (t : ℕ). DiesIn M t m.phase c d) e dies-in)))

behind-is : (result : Result Recovery Fault) (left : List Item) (total : ℕ) (x : Phase) → recovered_by result left total x ≡ record { left = left; total = total; phase = x; life = life_behind result }
behind-is (Ok (Done committed moment)) left total x = refl
behind-is (Ok More) left total x = refl
behind-is (Err fault) left total x = refl

pub has-recovered : (M : Model) (orderly : IsOrderly M) (told : Type 0) (o : Opening) (faults : ℕ) (c d : Scene) (stands : Stands d.sight) (members put : List Member) (events more : List Event) (at : ℕ) (m : Member) (result : Result Recovery Fault) (old halt : Option Halt) →
    old ≡ None → slice_get members at ≡ Some m → m.life ≡ Dead → IsSound M told o faults c members events old → faults_in halt ≤ failed_in result → is_unsound halt ≡ false → is_over_slot halt ≡ slot_in result → RecoversIn M (at + 1) m.phase c d result →
    put ≡ slice_set members at (record { left = m.left; total = m.total; phase = m.phase; life = life_behind result }) → more ≡ events ++ recovery_events (at + 1) result → IsSound M told o faults d put more halt
has-recovered M orderly told o faults c d stands members put events more at m result old halt none found died was says agrees over recovers-in put-is more-is =
    let e : at + 1 ≡ suc at = omega arith in
    subst (λ (ms : List Member). IsSound M told o faults d ms more halt) (ap (λ (x : Member). slice_set members at x) (behind-is result m.left m.total m.phase) ∙ sym put-is)
    (subst (λ (es : List Event). IsSound M told o faults d (slice_set members at (recovered_by result m.left m.total m.phase)) es halt) (ap (λ (t : ℕ). events ++ recovery_events t result) (sym e) ∙ sym more-is)
    (recovers M orderly told o faults c d stands members events at (subst (λ (x : Option Halt). IsSound M told o faults c members events x) none was) m.left m.total m.phase halt
    (found ∙ ap (λ (l : Life). Some (record { left = m.left; total = m.total; phase = m.phase; life = l })) died) result says agrees over (subst (λ (t : ℕ). RecoversIn M t m.phase c d result) e recovers-in)))

-- the session at this place is dead for the store
pub dead-stands : (stand : ℕ → Seat) (locks : State) (members : List Member) (at : ℕ) (m : Member) → slice_get members at ≡ Some m → m.life ≡ Dead → AreSeated stand locks members → IsAlive (stand (at + 1)) → ⊥
dead-stands stand locks members at m found died k alive =
    let e : at + 1 ≡ suc at = omega arith in
    let f : HasFallen stand locks (suc at) m.phase = subst (λ (l : Life). LivesAt stand locks (suc at) m.phase l) died (k.each (suc at) m found) in
    dead-seat (stand (suc at)) (commits_in m.phase) f.seat (subst (λ (t : ℕ). IsAlive (stand t)) e alive)

-- a session that lives isn't dead for the store
stage-lives : (stage : Stage) → IsAlive (stand_of stage)
stage-lives Between = tt
stage-lives (Working item OpeningIt) = tt
stage-lives (Working item Due) = tt
stage-lives (Working item Out) = tt
stage-lives (Working item (Lacking n)) = tt
stage-lives (Working item (Housing room key)) = tt
stage-lives (Working item (Fetching n)) = tt
stage-lives (Working item (Lodging room key)) = tt
stage-lives (Gathering item gather later place) = tt
stage-lives (Reserving item r locks place) = tt
stage-lives (Saying item r (Claiming place)) = tt
stage-lives (Saying item r Changing) = tt
stage-lives (Saying item r Broken) = tt
stage-lives (Ending Preparing) = tt
stage-lives (Ending Journal) = tt
stage-lives (Ending Ready) = tt
stage-lives (Ending Committing) = tt
stage-lives (Ending RollingBack) = tt
stage-lives (Ending Leaving) = tt

done-lives : (seat : Seat) → done_at seat ≡ Some outside → IsAlive seat
done-lives outside h = tt
done-lives beginning h = tt
done-lives (writing ws) h = tt
done-lives (changing ws) h = tt
done-lives (broken ws) h = tt
done-lives (prepared ws) h = tt
done-lives (committing ws) h = tt
done-lives (rolling_back ws) h = tt
done-lives closing h = tt
done-lives (reading start) h = tt
done-lives (copying number start) h = tt
done-lives (dead commits ws) h = absurd (none-some outside h)

reader-lives : (number : Option ℕ) → IsAlive (seat_of_reader number [])
reader-lives None = tt
reader-lives (Some n) = tt

phase-lives : (x : Phase) (seat : Seat) → IsStandOf x seat → IsAlive seat
phase-lives Outside seat h = subst (λ (y : Seat). IsAlive y) (sym h) tt
phase-lives Closing seat h = done-lives seat h
phase-lives (Writing w) seat h = subst (λ (y : Seat). IsAlive y) (sym h) (stage-lives w.stage)
phase-lives (Reading r) seat h = subst (λ (y : Seat). IsAlive y) (sym h) (reader-lives (copies_at r.stage))
phase-lives Over seat h = subst (λ (y : Seat). IsAlive y) (sym h) tt

bare-lives : (seat : Seat) → IsAlive (bare seat) → IsAlive seat
bare-lives outside h = tt
bare-lives beginning h = tt
bare-lives (writing ws) h = tt
bare-lives (changing ws) h = tt
bare-lives (broken ws) h = tt
bare-lives (prepared ws) h = tt
bare-lives (committing ws) h = tt
bare-lives (rolling_back ws) h = tt
bare-lives closing h = tt
bare-lives (reading start) h = tt
bare-lives (copying number start) h = tt
bare-lives (dead commits ws) h = h

pub alive-stands : (stand : ℕ → Seat) (locks : State) (members : List Member) (s at : ℕ) (m : Member) → 1 ≤ s → at ≡ s - 1 → slice_get members at ≡ Some m → m.life ≡ Alive → AreSeated stand locks members → IsAlive (stand s)
alive-stands stand locks members s at m first is found alive k = bare-lives (stand s) (phase-lives m.phase (bare (stand s)) (seated-at stand locks members s at m first is found alive k).seat)

-- the session that was taken out is the one that died
pub died-at : (members : List Member) (at : ℕ) (m : Member) → IsDeadAt members at → slice_get members at ≡ Some m → m.life ≡ Dead
died-at members at m d found = is-dead m (subst (λ (x : Member). is_dead x ≡ true) (same_Some d.member m (sym d.found ∙ found)) d.dead)

-- ---- of what it may die

-- of what is no stop it may die anywhere
pub let-die : (o : Opening) (s : ℕ) (left : List Item) (x : Phase) (cause : Cause) → (o.may_die s cause && not (is_stop cause)) ≡ true → may_die_in o s left x cause ≡ true
let-die o s left x Device h = (and_parts (o.may_die s Device) true h).0
let-die o s left x Gate h = (and_parts (o.may_die s Gate) true h).0
let-die o s left x Stop h = absurd (false≢true ((and_parts (o.may_die s Stop) false h).1))
let-die o s left x Memory h = (and_parts (o.may_die s Memory) true h).0

-- of its stop it may die where it has come to it
pub stop-may : (o : Opening) (s : ℕ) (stops : Bool) (m : Member) → stops ≡ o.stops s → is_stopping stops m ≡ true → may_die_in o s m.left m.phase Stop ≡ true
stop-may o s stops m is stopping = subst (λ (b : Bool). (b && has_said_all m.left m.phase) ≡ true) is stopping
