-- One session steps, and all of them stay sound.
use Rattle.std.proofs.Common.{◌≡◌, ◌≤◌, ◌-◌, ℕ, suc, ◌&&◌, not, Bool, true, false, ◌++◌, ◌∷◌, [], List, refl, ◌∙◌, sym, ap, subst, Option, Some, None, slice_get, slice_set, append-nil}
use Rattle.std.specs.Prelude.{is_some}
use Rattle.std.proofs.lemmas.Bool.{false≢true}
use Rattle.std.proofs.lemmas.Option.{same_Some}
use Rattle.rdo_ast.specs.declared.syntax.Item.{Item}
use Rattle.rdb_account.specs.Events.{Event}
use Rattle.rdb_account.specs.Places.{Opening, Place, place}
use Rattle.rdb_account.specs.Backups.{Backup, backups, backups_from}
use Rattle.rdb_account.proofs.Backups.{backups-grown}
use Rattle.rdb_account.specs.Legal.{IsLegal}
use Rattle.lock_tree_laws.specs.Forest.{State, Parties, party_of}
use Rattle.journal_waits.specs.Holders.{WantsExclusively}
use Rattle.line_steps.specs.Images.{journal_node}
use Rattle.line_store.specs.Seats.{Seat, begun, copied_at}
use Rattle.line_store.specs.declared.answers.Fault.TheVariants.{Bad, Failed as FailedCall}
use Rattle.line_store.specs.Calls.{Fails}
use Rattle.line_store.specs.Sights.{Sight, Behind, Stands}
use Rattle.line_store.proofs.Begun.{begun-same}
use Rattle.line_store.proofs.InTurn.{does-as, does-nothing}
use Rattle.session_jobs.specs.Records.{Model, IsOrderly}
use Rattle.session_states.specs.declared.stage.Writer.{Writer}
use Rattle.session_states.specs.declared.stage.Phase.{Phase}
use Rattle.session_states.specs.declared.stage.Phase.TheVariants.{Outside, Closing, Writing, Reading, Over}
use Rattle.session_states.specs.declared.stage.Life.{Life}
use Rattle.session_states.specs.declared.stage.Life.TheVariants.{Alive, Dead, Gone}
use Rattle.session_states.specs.declared.stage.Member.{Member}
use Rattle.session_states.specs.States.{copies_in, session, has_said_all}
use Rattle.session_states.specs.Steps.{Step}
use Rattle.session_states.specs.Shared.{Shared, with_locks}
use Rattle.session_states.specs.Fits.{WantsAtMost}
use Rattle.session_states.proofs.Standing.{finds}
use Rattle.line_account.specs.session_stands.Seated.{lock_in, NeedsFit, IsSeated, LivesAt}
use Rattle.line_account.specs.session_stands.Sessions.{AreSeated, IsTold, KeepsBackups, dead_in, sharing}
use Rattle.line_account.proofs.of_session_stands.Seating.{seated, keep-to, flies-all}
use Rattle.line_account.proofs.of_session_stands.InFlight.{stand-now}
use Rattle.line_account.proofs.of_session_stands.Telling.{steps}
use Rattle.line_account.proofs.of_session_stands.Backing.{backups-still}
use Rattle.line_account.specs.stage_steps.declared.happening.Happening.{Happening}
use Rattle.line_account.specs.stage_steps.declared.happening.Happening.TheVariants.{Quiet, Began, Answered, Unstarted, Asleep, Noticed, Got, Refused, RefusedStart, Committed, BackedUp, RolledBack, Left, Failed, Unlaid, Unworked, Unanswered, Unsound}
use Rattle.line_account.specs.stage_steps.Happenings.{events_of, handed_back}
use Rattle.line_account.specs.stage_steps.Scenes.{Scene, BacksIn, Goes, NearerIn, scene, on_shelf}
use Rattle.line_account.specs.stage_steps.Turns.{Comes}
use Rattle.line_cluster.specs.declared.sessions.Halt.{Halt}
use Rattle.lent_members.specs.line_arms.Going.{GoesOn, IsAmong, is_done}
use Rattle.lent_members.specs.Going.{IsWriterAt, writes_at, is_over, is_stopping, is_dead, is_dead_life}
use Rattle.line_cluster.specs.declared.behind.Notice.{Notice}
use Rattle.line_cluster.specs.Behind.{IsNoticed, is_moving, tells_slot, tells_unsound}
use Rattle.lent_members.proofs.Places.{set-same}
use Rattle.line_cluster.proofs.Places.{suc-less}
use Rattle.line_cluster.proofs.Backing.{keeps-backups}
use Rattle.line_cluster.proofs.Measured.{set-found}
use Rattle.line_cluster.specs.Deaths.{CountsFaults, device_deaths, failures, faults_in}
use Rattle.line_cluster.specs.Sound.{HasImages, IsSound, ShowsSpent, is_over_slot, is_unsound}
use Rattle.line_cluster.proofs.Faults.{counts-fewer, counts-on, no-more, step-alive, stopped-no-more}

-- what a crash leaves, of what is told
pub told-images : (M : Model) → IsOrderly M → (o : Opening) (word : List ℕ) (sight : Sight) → Stands sight → (locks : State) (members : List Member) (events : List Event) → AreSeated sight.stand locks members → IsTold M o word sight locks members events → HasImages M o sight events
told-images M orderly o word sight stands locks members events sits k = record {
  shelf = k.shelf;
  shown = k.shown;
  now = λ lines l. stand-now M o (sharing word k.shelf locks (dead_in members)) members events k.kept sight.stand sits orderly lines (stands k.shelf k.shown lines l);
  since = k.images;
  backups = k.backups;
}

-- no session goes on any more, for something else than a device, a slot or an unsound line
pub stops : (M : Model) (told : Type 0) (o : Opening) (faults : ℕ) (c : Scene) (members : List Member) (events more : List Event) (old : Option Halt) (halt : Halt) → more ≡ events → faults_in (Some halt) ≡ 0 → is_unsound (Some halt) ≡ false → is_over_slot (Some halt) ≡ false →
    IsSound M told o faults c members events old → IsSound M told o faults c members more (Some halt)
stops M told o faults c members events more old halt same quiet agrees slot was = subst (λ (es : List Event). IsSound M told o faults c members es (Some halt)) (sym same) (record {
  legal = was.legal;
  seated = λ none. cc none;
  kept = λ none. cc none;
  images = was.images;
  causes = λ t. counts-fewer faults (failures events (Some halt)) (failures events old) c.sight (stopped-no-more events old (Some halt) quiet) (was.causes t);
  agrees = λ t. agrees;
  spent = λ t over. absurd (false≢true (sym slot ∙ over));
})

-- what is handed back is no event
back-quiet : (s : ℕ) (h : Happening) (item : Item) (more : List Item) → handed_back h ≡ item ∷ more → events_of s h ≡ []
back-quiet s Quiet item more e = refl
back-quiet s (Began kind) item more e = cc e
back-quiet s (Answered a) item more e = cc e
back-quiet s (Unstarted a) item more e = cc e
back-quiet s (Asleep t x) item more e = cc e
back-quiet s (Noticed t n mode x) item more e = cc e
back-quiet s (Got x) item more e = cc e
back-quiet s (Refused x a) item more e = cc e
back-quiet s (RefusedStart x a) item more e = cc e
back-quiet s (Committed moment) item more e = cc e
back-quiet s (BackedUp done moment) item more e = cc e
back-quiet s RolledBack item more e = cc e
back-quiet s Left item more e = cc e
back-quiet s (Failed fault) item more e = refl
back-quiet s (Unlaid stop) item more e = refl
back-quiet s Unworked item more e = refl
back-quiet s (Unanswered i) item more e = refl
back-quiet s (Unsound key) item more e = refl

-- the sessions rest on each other so
pub among : (c : Scene) (members : List Member) (s : ℕ) → AreSeated c.sight.stand c.locks members → IsAmong c.sight.stand c.locks s
among c members s k = record { rest = λ t other. keep-to c.sight.stand c.locks members k t; flies = flies-all c.sight.stand c.locks members k }

module _ (M : Model) (orderly : IsOrderly M) (told : Type 0) (o : Opening) (faults : ℕ) (c d : Scene) (stands : Stands d.sight) (members : List Member) (events : List Event) (i : ℕ) (left rest : List Item) (total : ℕ) (x y : Phase)
    (lives : dead_in members ≡ 0) (found : slice_get members i ≡ Some (session left total x)) (was : IsSound M told o faults c members events None) where
  -- it goes on with these events
  abbrev GoesWith : List Event → Type 0 → Type 0
  GoesWith es N = Goes (suc i) x Alive y Alive (λ h g. (dead n : ℕ) → Step M (suc i) (on_shelf c h dead) (session left n x) (on_shelf d g dead) (session rest n y) es) N c d

  sits : (N : Type 0) (es : List Event) → GoesWith es N → AreSeated d.sight.stand d.locks (slice_set members i (session rest total y))
  sits N es g = seated c.sight.stand d.sight.stand c.locks d.locks members i (session left total x) (session rest total y) (was.seated refl) found g.does.others g.parties
      (g.lives ((was.seated refl).each (suc i) (session left total x) found))

  -- how backups go on with these events
  abbrev KeepsWith : List Event → Type 0
  KeepsWith es = KeepsBackups M o c.word d.word c.sight d.sight c.locks d.locks members events es i (session left total x) (session rest total y) (begun (c.sight.stand (suc i)) (d.sight.stand (suc i)))

  tells : (N : Type 0) (es : List Event) → KeepsWith es → GoesWith es N → told → IsTold M o d.word d.sight d.locks (slice_set members i (session rest total y)) (events ++ es)
  tells N es keeps g t = steps M orderly o c.word d.word c.sight d.sight c.locks d.locks members events es i (session left total x) (session rest total y) (d.sight.stand (suc i)) found stands (was.seated refl) (sits N es g) lives refl refl
      (does-as (suc i) (d.sight.stand (suc i)) (λ h k. (dead n : ℕ) → Step M (suc i) (on_shelf c h dead) (session left n x) (on_shelf d k dead) (session rest n y) es)
      (λ h k. (dead : ℕ) → Step M (suc i) (sharing c.word h c.locks dead) (session left total x) (sharing d.word k d.locks dead) (session rest total y) es)
      c.sight d.sight (λ h k shown then all dead. all dead total) g.does)
      keeps (was.kept refl t)

  -- faults are counted on
  goes-counted : (es : List Event) (halt : Option Halt) → device_deaths es ≡ 0 → faults_in halt ≡ 0 → (N : Type 0) → GoesWith es N → CountsFaults faults (failures events None) c.sight → CountsFaults faults (failures (events ++ es) halt) d.sight
  goes-counted es halt alive quiet N g k = counts-fewer faults (failures (events ++ es) halt) (failures events None) d.sight (no-more events es None halt alive quiet)
      (counts-on faults (suc i) c.sight d.sight (failures events None) (d.sight.stand (suc i)) (λ h k. (dead n : ℕ) → Step M (suc i) (on_shelf c h dead) (session left n x) (on_shelf d k dead) (session rest n y) es)
      (λ h k all. (all 0 0).others.store.later) g.does k)

  -- the session went on
  pub moved : (N : Type 0) (es : List Event) (halt : Option Halt) → device_deaths es ≡ 0 → faults_in halt ≡ 0 → (told → is_unsound halt ≡ false) → (told → is_over_slot halt ≡ true → ShowsSpent d.sight) → KeepsWith es → GoesWith es N → IsSound M told o faults d (slice_set members i (session rest total y)) (events ++ es) halt
  moved N es halt alive quiet agrees spent keeps g = record {
    legal = λ t. (tells N es keeps g t).kept.right.legal;
    seated = λ none. sits N es g;
    kept = λ none t. tells N es keeps g t;
    images = λ t. told-images M orderly o d.word d.sight stands d.locks (slice_set members i (session rest total y)) (events ++ es) (sits N es g) (tells N es keeps g t);
    causes = λ t. goes-counted es halt alive quiet N g (was.causes t);
    agrees = agrees;
    spent = spent;
  }

module _ (M : Model) (orderly : IsOrderly M) (told : Type 0) (o : Opening) (faults : ℕ) (c d : Scene) (stands : Stands d.sight) (members : List Member) (events : List Event) (i : ℕ) (left rest : List Item) (total : ℕ) (x y : Phase)
    (lives : dead_in members ≡ 0) (found : slice_get members i ≡ Some (session left total x)) (was : IsSound M told o faults c members events None) where
  -- where the opening told what the store holds, what the session knows agrees with the lines of the shelf that is shown
  agrees-on : (h : Happening) (n : Member) → told → NearerIn M (suc i) h c d (session left total x) n → tells_unsound h ≡ false
  agrees-on (Unsound key) n t finds-none =
      let k = was.kept refl t in
      absurd (finds-none k.shelf k.shown (dead_in members) o (place o events) k.kept.ground (finds M orderly o (sharing c.word k.shelf c.locks (dead_in members)) members events i (session left total x) lives k.kept found))
  agrees-on Quiet n t near = refl
  agrees-on (Began kind) n t near = refl
  agrees-on (Answered a) n t near = refl
  agrees-on (Unstarted a) n t near = refl
  agrees-on (Asleep u z) n t near = refl
  agrees-on (Noticed u node mode z) n t near = refl
  agrees-on (Got z) n t near = refl
  agrees-on (Refused z a) n t near = refl
  agrees-on (RefusedStart z a) n t near = refl
  agrees-on (Committed moment) n t near = refl
  agrees-on (BackedUp done moment) n t near = refl
  agrees-on RolledBack n t near = refl
  agrees-on Left n t near = refl
  agrees-on (Failed fault) n t near = refl
  agrees-on (Unlaid key) n t near = refl
  agrees-on Unworked n t near = refl
  agrees-on (Unanswered item) n t near = refl

  -- and where it is told that a slot isn't what it has to be, numbers are used up
  spent-on : (h : Happening) (n : Member) → told → NearerIn M (suc i) h c d (session left total x) n → tells_slot h ≡ true → ShowsSpent d.sight
  spent-on (Failed (Bad file slot)) n t near e =
      let k = was.kept refl t in
      let at = near k.shelf k.shown in
      let it : Behind c.sight d.sight at.0 (Fails (suc i) (Bad file slot)) k.shelf = at.1 in
      let fails : Fails (suc i) (Bad file slot) k.shelf it.shelf = it.related in
      record { shelf = it.shelf; shown = it.shown; spent = fails.cause }
  spent-on (Failed FailedCall) n t near e = absurd (false≢true e)
  spent-on Quiet n t near e = absurd (false≢true e)
  spent-on (Began kind) n t near e = absurd (false≢true e)
  spent-on (Answered a) n t near e = absurd (false≢true e)
  spent-on (Unstarted a) n t near e = absurd (false≢true e)
  spent-on (Asleep u z) n t near e = absurd (false≢true e)
  spent-on (Noticed u node mode z) n t near e = absurd (false≢true e)
  spent-on (Got z) n t near e = absurd (false≢true e)
  spent-on (Refused z a) n t near e = absurd (false≢true e)
  spent-on (RefusedStart z a) n t near e = absurd (false≢true e)
  spent-on (Committed moment) n t near e = absurd (false≢true e)
  spent-on (BackedUp done moment) n t near e = absurd (false≢true e)
  spent-on RolledBack n t near e = absurd (false≢true e)
  spent-on Left n t near e = absurd (false≢true e)
  spent-on (Unlaid key) n t near e = absurd (false≢true e)
  spent-on Unworked n t near e = absurd (false≢true e)
  spent-on (Unanswered item) n t near e = absurd (false≢true e)
  spent-on (Unsound key) n t near e = absurd (false≢true e)

  -- it went on, or its item was handed back, and no session goes on
  pub stepped : (h : Happening) (halt : Option Halt) → (handed_back h ≡ [] → GoesOn M (suc i) c left x d rest y h) → (ls : List Item) × GoesOn M (suc i) c left x d ls y h → (halt ≡ None → handed_back h ≡ []) → faults_in halt ≡ 0 → is_unsound halt ≡ tells_unsound h → is_over_slot halt ≡ tells_slot h → (is_some (copies_in x) ≡ true → BacksIn (suc i) h c.sight d.sight) →
      IsSound M told o faults d (slice_set members i (session rest total y)) (events ++ events_of (suc i) h) halt
  stepped h halt goes some going quiet says over backs = by (handed_back h) refl
    where
      agrees : told → is_unsound halt ≡ false
      agrees t = says ∙ agrees-on h (session some.0 total y) t (some.1.nearer total)

      spent : told → is_over_slot halt ≡ true → ShowsSpent d.sight
      spent t is = spent-on h (session some.0 total y) t (some.1.nearer total) (sym over ∙ is)

      -- how backups go on, with this left of the script
      keeps : (ls : List Item) → GoesOn M (suc i) c left x d ls y h → KeepsBackups M o c.word d.word c.sight d.sight c.locks d.locks members events (events_of (suc i) h) i (session left total x) (session ls total y) (begun (c.sight.stand (suc i)) (d.sight.stand (suc i)))
      keeps ls g =
          let seats = (was.seated refl).each (suc i) (session left total x) found in
          keeps-backups M orderly o c d members events i left ls total x y lives found seats (g.lives seats) h backs

      by : (back : List Item) → handed_back h ≡ back → IsSound M told o faults d (slice_set members i (session rest total y)) (events ++ events_of (suc i) h) halt
      by [] e = moved M orderly told o faults c d stands members events i left rest total x y lives found was _ (events_of (suc i) h) halt (step-alive (suc i) h) quiet agrees spent (keeps rest (goes e)) (goes e)
      by (item ∷ more) e = record {
        legal = λ t. subst (λ (es : List Event). IsLegal o es) (sym (append-nil events) ∙ ap (λ es. events ++ es) (sym (back-quiet (suc i) h item more e))) (was.legal t);
        seated = λ none. cc (sym e ∙ going none);
        kept = λ none. cc (sym e ∙ going none);
        images = λ t. told-images M orderly o d.word d.sight stands d.locks (slice_set members i (session some.0 total y)) (events ++ events_of (suc i) h)
            (sits M orderly told o faults c d stands members events i left some.0 total x y lives found was _ (events_of (suc i) h) some.1)
            (tells M orderly told o faults c d stands members events i left some.0 total x y lives found was _ (events_of (suc i) h) (keeps some.0 some.1) some.1 t);
        causes = λ t. goes-counted M orderly told o faults c d stands members events i left some.0 total x y lives found was (events_of (suc i) h) halt (step-alive (suc i) h) quiet _ some.1 (was.causes t);
        agrees = agrees;
        spent = spent;
      }

-- ---- a notice

-- it stands as it did where its needs and its want are what they were
seated-on : (stand : ℕ → Seat) (locks behind : State) (s : ℕ) (x : Phase) → behind.parties ≡ locks.parties → IsSeated stand locks s x → IsSeated stand behind s x
seated-on stand locks behind s x same f = record {
  seat = f.seat;
  wants = subst (λ (ps : Parties). WantsAtMost (lock_in x) (party_of ps s).opened) (sym same) f.wants;
  beside = subst (λ (ps : Parties). WantsExclusively journal_node (party_of ps s).opened) (sym same) f.beside;
  needs = subst (λ (ps : Parties). NeedsFit x (party_of ps s).needs) (sym same) f.needs;
  statement = f.statement;
}

-- the session whose lock comes down is in a read-write transaction
alive-writer : (m : Member) → writes_at m.phase m.life ≡ true → (w : Writer) × (m ≡ session m.left m.total (Writing w))
alive-writer m h = by m.phase m.life refl refl h
  where
    by : (x : Phase) (l : Life) → m.phase ≡ x → m.life ≡ l → writes_at x l ≡ true → (w : Writer) × (m ≡ session m.left m.total (Writing w))
    by (Writing w) Alive px pl h = (w, subst (λ (x : Phase). m ≡ record { left = m.left; total = m.total; phase = x; life = Alive }) px (subst (λ (l : Life). m ≡ record { left = m.left; total = m.total; phase = m.phase; life = l }) pl refl))
    by (Writing w) Dead px pl h = absurd (false≢true h)
    by (Writing w) Gone px pl h = absurd (false≢true h)
    by Outside l px pl h = absurd (false≢true h)
    by Closing l px pl h = absurd (false≢true h)
    by (Reading r) l px pl h = absurd (false≢true h)
    by Over l px pl h = absurd (false≢true h)

pub served : (M : Model) (orderly : IsOrderly M) (told : Type 0) (o : Opening) (faults : ℕ) (word : List ℕ) (sight : Sight) (stands : Stands sight) (locks behind : State) (members : List Member) (events more es : List Event) (s : ℕ) (old halt : Option Halt) →
    old ≡ None → dead_in members ≡ 0 → IsWriterAt members s → IsSound M told o faults (scene word sight locks) members events old → behind.parties ≡ locks.parties →
    ((c : Shared) (w : Writer) → Comes M s (with_locks locks c) (Writing w) (with_locks behind c) (Writing w) es) → device_deaths es ≡ 0 → ((p : Place) (b : ℕ → Backup) → backups_from o p es b ≡ b) → faults_in halt ≡ 0 → is_unsound halt ≡ false → is_over_slot halt ≡ false → more ≡ events ++ es → IsSound M told o faults (scene word sight behind) members more halt
served M orderly told o faults word sight stands locks behind members events more es s old halt none lives is was parties comes alive still quiet agrees slot more-is =
    let at = alive-writer is.member is.writes in
    let w : Writer = at.0 in
    let left : List Item = is.member.left in
    let total : ℕ = is.member.total in
    let found : slice_get members is.at ≡ Some (session left total (Writing w)) = is.found ∙ ap Some at.1 in
    let all : (c : Shared) (v : Writer) → Comes M (suc is.at) (with_locks locks c) (Writing v) (with_locks behind c) (Writing v) es =
    subst (λ (t : ℕ). (c : Shared) (v : Writer) → Comes M t (with_locks locks c) (Writing v) (with_locks behind c) (Writing v) es) is.number comes in
    subst (λ (xs : List Event). IsSound M told o faults (scene word sight behind) members xs halt) (sym more-is)
    (subst (λ (ms : List Member). IsSound M told o faults (scene word sight behind) ms (events ++ es) halt) (set-same members is.at (session left total (Writing w)) found)
    (moved M orderly told o faults (scene word sight locks) (scene word sight behind) stands members events is.at left left total (Writing w) (Writing w) lives found
    (subst (λ (x : Option Halt). IsSound M told o faults (scene word sight locks) members events x) none was) (Unit {0}) es halt alive quiet (λ t. agrees) (λ t over. absurd (false≢true (sym slot ∙ over)))
    (λ h g shown then step kept backed. backups-still M (suc is.at) (begun (sight.stand (suc is.at)) (sight.stand (suc is.at))) (backups o events) (backups o (events ++ es)) sight g.clock.time (begun-same (copied_at (sight.stand (suc is.at)))) (backups-grown o events es ∙ still (place o events) (backups o events)))
    (record {
      lives = seated-on sight.stand locks behind (suc is.at) (Writing w) parties;
      parties = λ u other. ap (λ (ps : Parties). party_of ps u) parties;
      nearer = tt;
      does = does-nothing (suc is.at) (λ h g. (dead n : ℕ) → Step M (suc is.at) (on_shelf (scene word sight locks) h dead) (session left n (Writing w)) (on_shelf (scene word sight behind) g dead) (session left n (Writing w)) es) sight
          (λ h shown dead n. all (sharing word h locks dead) w left n);
    })))

-- ---- as the code has it

-- what moves hands nothing back
pub moving-keeps : (h : Happening) → is_moving h ≡ true → handed_back h ≡ []
moving-keeps Quiet is = refl
moving-keeps (Began kind) is = refl
moving-keeps (Answered a) is = refl
moving-keeps (Unstarted a) is = refl
moving-keeps (Asleep t x) is = refl
moving-keeps (Noticed t n mode x) is = refl
moving-keeps (Got x) is = refl
moving-keeps (Refused x a) is = refl
moving-keeps (RefusedStart x a) is = refl
moving-keeps (Committed moment) is = refl
moving-keeps (BackedUp done moment) is = refl
moving-keeps RolledBack is = refl
moving-keeps Left is = refl
moving-keeps (Failed fault) is = absurd (false≢true is)
moving-keeps (Unlaid stop) is = absurd (false≢true is)
moving-keeps Unworked is = absurd (false≢true is)
moving-keeps (Unanswered i) is = absurd (false≢true is)
moving-keeps (Unsound key) is = absurd (false≢true is)

pub noticed-keeps : (n : Notice) (h : Happening) → IsNoticed n h → handed_back h ≡ []
noticed-keeps n h is = ap handed_back is.is

over-alive : (stops : Bool) (m : Member) (l : Life) → is_over stops m l ≡ false → l ≡ Alive
over-alive stops m Alive h = refl
over-alive stops m Dead h = absurd (false≢true (sym h))
over-alive stops m Gone h = absurd (false≢true (sym h))

pub work-alive : (stops : Bool) (m : Member) → is_over stops m m.life ≡ false → m.life ≡ Alive
work-alive stops m h = over-alive stops m m.life h

-- whose items aren't all said has something left to do
pub has-work : (stops : Bool) (m : Member) → m.life ≡ Alive → is_done m.left m.phase ≡ false → is_over stops m m.life ≡ false
has-work stops m alive undone = ap (λ (l : Life). is_over stops m l) alive ∙ ap (λ (b : Bool). b && not stops) undone

unsaid-undone : (left : List Item) (x : Phase) → has_said_all left x ≡ false → is_done left x ≡ false
unsaid-undone left Outside h = h
unsaid-undone left Closing h = refl
unsaid-undone left (Writing w) h = refl
unsaid-undone left (Reading r) h = refl
unsaid-undone left Over h = h

and-true : (b : Bool) → (b && true) ≡ false → b ≡ false
and-true true h = h
and-true false h = refl

-- who has something left to do, and no stop, has an item or an end before it
pub going-on : (stops : Bool) (m : Member) → m.life ≡ Alive → is_over stops m m.life ≡ false → is_stopping stops m ≡ false → is_done m.left m.phase ≡ false
going-on true m alive work goes = unsaid-undone m.left m.phase goes
going-on false m alive work goes = and-true (is_done m.left m.phase) (subst (λ (l : Life). is_over false m l ≡ false) alive work)

dead-true : (l : Life) → is_dead_life l ≡ true → l ≡ Dead
dead-true Alive h = absurd (false≢true h)
dead-true Dead h = refl
dead-true Gone h = absurd (false≢true h)

pub is-dead : (m : Member) → is_dead m ≡ true → m.life ≡ Dead
is-dead m h = dead-true m.life h

pub session-of : (m : Member) → m.life ≡ Alive → m ≡ session m.left m.total m.phase
session-of m e = ap (λ (l : Life). record { left = m.left; total = m.total; phase = m.phase; life = l }) e

-- where session s stands
pub seated-at : (stand : ℕ → Seat) (locks : State) (members : List Member) (s at : ℕ) (m : Member) → 1 ≤ s → at ≡ s - 1 → slice_get members at ≡ Some m → m.life ≡ Alive → AreSeated stand locks members → IsSeated stand locks s m.phase
seated-at stand locks members s at m first is found alive k =
    let e : suc at ≡ s = ap suc is ∙ suc-less s first in
    subst (λ (t : ℕ). IsSeated stand locks t m.phase) e (subst (λ (l : Life). LivesAt stand locks (suc at) m.phase l) alive (k.each (suc at) m found))

pub turned : (M : Model) (orderly : IsOrderly M) (told : Type 0) (o : Opening) (faults : ℕ) (c d : Scene) (stands : Stands d.sight) (members put : List Member) (events more : List Event) (s at : ℕ) (m : Member) (rest : List Item) (y : Phase) (h : Happening) (old halt : Option Halt) →
    1 ≤ s → at ≡ s - 1 → old ≡ None → dead_in members ≡ 0 → slice_get members at ≡ Some m → m.life ≡ Alive → IsSound M told o faults c members events old →
    (handed_back h ≡ [] → GoesOn M s c m.left m.phase d rest y h) → (ls : List Item) × GoesOn M s c m.left m.phase d ls y h → (halt ≡ None → handed_back h ≡ []) → faults_in halt ≡ 0 → is_unsound halt ≡ tells_unsound h → is_over_slot halt ≡ tells_slot h → (is_some (copies_in m.phase) ≡ true → BacksIn s h c.sight d.sight) →
    put ≡ slice_set members at (record { left = rest; total = m.total; phase = y; life = m.life }) → more ≡ events ++ events_of s h → IsSound M told o faults d put more halt
turned M orderly told o faults c d stands members put events more s at m rest y h old halt first is none lives found alive was goes some going quiet says over backs put-is more-is =
    let e : s ≡ suc at = sym (ap suc is ∙ suc-less s first) in
    let behind : record { left = rest; total = m.total; phase = y; life = m.life } ≡ session rest m.total y = ap (λ (l : Life). record { left = rest; total = m.total; phase = y; life = l }) alive in
    let put-at : slice_set members at (session rest m.total y) ≡ put = ap (λ (x : Member). slice_set members at x) (sym behind) ∙ sym put-is in
    let events-at : events ++ events_of (suc at) h ≡ more = ap (λ (t : ℕ). events ++ events_of t h) (sym e) ∙ sym more-is in
    subst (λ (ms : List Member). IsSound M told o faults d ms more halt) put-at (subst (λ (es : List Event). IsSound M told o faults d (slice_set members at (session rest m.total y)) es halt) events-at
    (stepped M orderly told o faults c d stands members events at m.left rest m.total m.phase y lives (found ∙ ap Some (session-of m alive)) (subst (λ (x : Option Halt). IsSound M told o faults c members events x) none was) h halt
    (λ back. subst (λ (t : ℕ). GoesOn M t c m.left m.phase d rest y h) e (goes back)) (some.0, subst (λ (t : ℕ). GoesOn M t c m.left m.phase d some.0 y h) e some.1) going quiet says over (λ copies. subst (λ (t : ℕ). BacksIn t h c.sight d.sight) e (backs copies))))

-- who was put back lives
pub put-lives : (members put : List Member) (at : ℕ) (m n : Member) → slice_get members at ≡ Some m → put ≡ slice_set members at n → n.life ≡ Alive → (x : Member) → slice_get put at ≡ Some x → x.life ≡ Alive
put-lives members put at m n found put-is lives x there =
    ap (λ (y : Member). y.life) (sym (same_Some n x (sym (set-found at members m n found) ∙ (ap (λ (ms : List Member). slice_get ms at) (sym put-is) ∙ there)))) ∙ lives
