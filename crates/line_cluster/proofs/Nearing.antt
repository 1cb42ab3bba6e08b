-- A turn that moves brings its session nearer to its end, and so all sessions.
use Rattle.std.proofs.Common.{◌≡◌, ◌≤◌, ◌-◌, ◌==◌, ◌⊎◌, ℕ, zero, suc, ◌∷◌, [], List, true, false, refl, sym, ap, subst, ◌∙◌, arith, Option, Some, None, Result, Ok, Err, slice_get, slice_set, is_some, inl, inr, ◌+◌}
use Rattle.std.proofs.lemmas.Bool.{false≢true}
use Rattle.std.proofs.lemmas.Option.{none-some, same_Some}
use Rattle.rdb_types.specs.declared.node.Node.{Node}
use Rattle.vms_queues.specs.declared.lock_mode.Mode.{Mode}
use Rattle.rdo_ast.specs.declared.syntax.Item.{Item}
use Rattle.lock_needs.specs.declared.party.OpenWant.{OpenWant}
use Rattle.lock_needs.specs.Party.{Party}
use Rattle.lock_tree.specs.Sleeping.{is_queued, is_sleeping}
use Rattle.lock_tree_laws.specs.Forest.{State, Parties, IsWhole, idle, opened_of, party_of}
use Rattle.lock_tree_laws.specs.LockTable.{granted_at}
use Rattle.lock_tree_laws.specs.Progress.{is_spare, Falls as LocksFall}
use Rattle.lock_tree_laws.proofs.ServedAt.{nothing-due}
use Rattle.line_store.specs.Seats.{Seat}
use Rattle.session_jobs.specs.Records.{Model}
use Rattle.session_states.specs.declared.stage.Life.{Life}
use Rattle.session_states.specs.declared.stage.Life.TheVariants.{Alive, Dead, Gone}
use Rattle.session_states.specs.declared.stage.Phase.{Phase}
use Rattle.session_states.specs.declared.stage.Phase.TheVariants.{Outside, Closing, Writing, Reading, Over}
use Rattle.session_states.specs.declared.stage.Member.{Member}
use Rattle.session_states.specs.States.{session, dead_session}
use Rattle.line_account.specs.session_stands.Seated.{LivesAt}
use Rattle.line_account.specs.session_stands.Sessions.{AreSeated, dead_in, member_at, one_dead}
use Rattle.session_measure.specs.Weights.{Beside, Falls, unopened}
use Rattle.session_measure.specs.Nearer.{AreRounds, Nears, Keeps, ComesNearer}
use Rattle.session_measure.proofs.Nearer.{same-weight}
use Rattle.rdb_drive.specs.Boards.{Less}
use Rattle.line_account.specs.stage_steps.declared.happening.Asking.{Asking}
use Rattle.line_account.specs.stage_steps.declared.happening.Happening.{Happening}
use Rattle.line_account.specs.stage_steps.declared.happening.Happening.TheVariants as happens
use Rattle.line_account.specs.stage_steps.Nearer.{IsUnqueued, Nearer, is_patient_at}
use Rattle.line_account.specs.stage_steps.declared.dying.Recovery.{Recovery}
use Rattle.line_account.specs.stage_steps.declared.dying.Recovery.TheVariants.{More, Done}
use Rattle.line_account.specs.stage_steps.Deaths.{NearerRecoveredIn, RecoversIn, life_behind}
use Rattle.line_account.specs.stage_steps.Scenes.{Scene, NearerIn, beside}
use Rattle.lent_members.specs.line_arms.declared.allotment.Allotment.{Allotment}
use Rattle.lent_members.specs.line_arms.Going.{GoesOn}
use Rattle.lent_members.specs.Going.{IsWriterAt, writes_at}
use Rattle.line_cluster.specs.declared.behind.Notice.{Notice}
use Rattle.line_cluster.specs.declared.sessions.Halt.{Halt}
use Rattle.line_cluster.specs.Behind.{IsNoticed, is_moving}
use Rattle.line_cluster.specs.Measured.{measure_by}
use Rattle.line_cluster.specs.Turned.{rounds_of, rounds_at}
use Rattle.line_cluster.proofs.Places.{suc-less}
use Rattle.line_cluster.proofs.Falling.{dead-moved}
use Rattle.line_cluster.proofs.Measured.{StayApart, all-fall, all-fall-served, among-from}
use Rattle.line_store.specs.declared.answers.Fault.{Fault}

-- ---- the session

unqueued : (locks : State) (s : ℕ) → is_sleeping locks s ≡ false → IsUnqueued locks s
unqueued locks s awake w is = subst (λ (o : Option OpenWant). is_queued (granted_at locks.table s) o ≡ false) is awake

-- what happened moves it
moves : (M : Model) (s : ℕ) (h : Happening) (c d : Scene) (m n : Member) → is_moving h ≡ true → (is_patient_at m.phase ≡ true → is_sleeping c.locks s ≡ false) → NearerIn M s h c d m n → ComesNearer (beside c) (beside d) s m n
moves M s happens.Quiet c d m n is awake near = near
moves M s (happens.Began kind) c d m n is awake near = near
moves M s (happens.Answered a) c d m n is awake near = near
moves M s (happens.Unstarted a) c d m n is awake near = near
moves M s (happens.Asleep t x) c d m n is awake near = near.1 (unqueued c.locks s (awake near.2))
moves M s (happens.Noticed t node mode x) c d m n is awake near = absurd (false≢true is)
moves M s (happens.Got x) c d m n is awake near = near
moves M s (happens.Refused x a) c d m n is awake near = near
moves M s (happens.RefusedStart x a) c d m n is awake near = near
moves M s (happens.Committed moment) c d m n is awake near = near
moves M s (happens.BackedUp item moment) c d m n is awake near = near
moves M s happens.RolledBack c d m n is awake near = near
moves M s happens.Left c d m n is awake near = near
moves M s (happens.Failed fault) c d m n is awake near = absurd (false≢true is)
moves M s (happens.Unlaid key) c d m n is awake near = absurd (false≢true is)
moves M s happens.Unworked c d m n is awake near = absurd (false≢true is)
moves M s (happens.Unanswered item) c d m n is awake near = absurd (false≢true is)
moves M s (happens.Unsound key) c d m n is awake near = absurd (false≢true is)

-- ---- the others

get-apart : (each : List Allotment) (at j : ℕ) (a : Allotment) → (j == at) ≡ false → slice_get (slice_set each at a) j ≡ slice_get each j
get-apart [] at j a other = refl
get-apart (x ∷ xs) zero zero a other = absurd (false≢true (sym other))
get-apart (x ∷ xs) zero (suc j) a other = refl
get-apart (x ∷ xs) (suc at) zero a other = refl
get-apart (x ∷ xs) (suc at) (suc j) a other = get-apart xs at j a (grind (arith, other))

rounds-apart : (each : List Allotment) (at u : ℕ) (a : Allotment) → (u == suc at) ≡ false → rounds_at (slice_set each at a) u ≡ rounds_at each u
rounds-apart each at zero a other = refl
rounds-apart each at (suc j) a other = ap rounds_of (get-apart each at j a (grind (arith, other)))

rounds-put : (each : List Allotment) (at : ℕ) (a b : Allotment) → slice_get each at ≡ Some b → rounds_at (slice_set each at a) (suc at) ≡ a.rounds
rounds-put [] at a b found = absurd (none-some b found)
rounds-put (x ∷ xs) zero a b found = refl
rounds-put (x ∷ xs) (suc at) a b found = rounds-put xs at a b found

-- ---- a step of one of them

module _ (M : Model) (c d : Scene) (members : List Member) (each : List Allotment) (at : ℕ) (m : Member) (rest : List Item) (y : Phase) (h : Happening) (a b : Allotment)
    (alive : m.life ≡ Alive) (found : slice_get members at ≡ Some m) (given : slice_get each at ≡ Some a) (rounds : AreRounds m.phase y a.rounds b.rounds)
    (goes : GoesOn M (suc at) c m.left m.phase d rest y h) where
  abbrev n : Member
  n = record { left = rest; total = m.total; phase = y; life = m.life }

  as-lives : (P : Member → Member → Type 0) → P (session m.left m.total m.phase) (session rest m.total y) → P m n
  as-lives P p = subst (λ (l : Life). P (record { left = m.left; total = m.total; phase = m.phase; life = l }) (record { left = rest; total = m.total; phase = y; life = l })) (sym alive) p

  stays : StayApart (suc at) (rounds_at each) (rounds_at (slice_set each at b)) (beside c) (beside d)
  stays u x other = same-weight (rounds_at each u) (rounds_at (slice_set each at b) u) u (beside c) (beside d) x (rounds-apart each at u b other) (ap (λ (p : Party). unopened p.opened) (goes.parties u other)) (goes.does.steps u other)

  before-is : rounds_at each (suc at) ≡ a.rounds
  before-is = ap rounds_of given

  behind-is : rounds_at (slice_set each at b) (suc at) ≡ b.rounds
  behind-is = rounds-put each at b a given

  pub falls-moved : is_moving h ≡ true → (is_patient_at m.phase ≡ true → is_sleeping c.locks (suc at) ≡ false) → Less (measure_by false (slice_set members at n) (rounds_at (slice_set each at b)) (beside d)) (measure_by false members (rounds_at each) (beside c))
  falls-moved moving awake = all-fall (suc at) at (rounds_at each) (rounds_at (slice_set each at b)) (beside c) members m n (omega arith) found (beside d) stays
      (subst (λ (k : ℕ). Nears k (rounds_at (slice_set each at b) (suc at)) (beside c) (beside d) (suc at) m n) (sym before-is)
      (subst (λ (l : ℕ). Nears a.rounds l (beside c) (beside d) (suc at) m n) (sym behind-is)
      (as-lives (λ (u v : Member). Nears a.rounds b.rounds (beside c) (beside d) (suc at) u v)
      ((moves M (suc at) h c d (session m.left m.total m.phase) (session rest m.total y) moving awake (goes.nearer m.total)).nears a.rounds b.rounds rounds))))

  -- it found a notice due, which was served
  pub falls-served : (u : ℕ) (node : Node) (mode : Mode) (x : Asking) → h ≡ happens.Noticed u node mode x → (behind : State) → behind.parties ≡ d.locks.parties → IsWriterAt (slice_set members at n) u → LocksFall u d.locks behind →
      Less (measure_by false (slice_set members at n) (rounds_at (slice_set each at b)) (record { locks = behind; steps = d.sight.steps })) (measure_by false members (rounds_at each) (beside c))
  falls-served u node mode x is behind same writer served =
      let e : Beside = record { locks = behind; steps = d.sight.steps } in
      let opened : (v : ℕ) → unopened (opened_of behind v) ≡ unopened (opened_of d.locks v) = λ v. ap (λ (ps : Parties). unopened (party_of ps v).opened) same in
      let near : Nearer (suc at) (happens.Noticed u node mode x) (beside c) (beside d) (session m.left m.total m.phase) (session rest m.total y) = subst (λ (g : Happening). NearerIn M (suc at) g c d (session m.left m.total m.phase) (session rest m.total y)) is (goes.nearer m.total) in
      all-fall-served (suc at) at (rounds_at each) (rounds_at (slice_set each at b)) (beside c) members m n (omega arith) found (beside d) e u
      (λ v w other. same-weight (rounds_at each v) (rounds_at (slice_set each at b) v) v (beside c) e w (rounds-apart each at v b other) (opened v ∙ ap (λ (p : Party). unopened p.opened) (goes.parties v other)) (goes.does.steps v other))
      (among-from u 1 writer.at (slice_set members at n) writer.member (omega (arith, writer.number)) writer.found)
      (same-weight (rounds_at (slice_set each at b) (suc at)) (rounds_at (slice_set each at b) (suc at)) (suc at) (beside d) e n refl (opened (suc at)) refl)
      served
      (subst (λ (k : ℕ). Keeps k (rounds_at (slice_set each at b) (suc at)) (beside c) (beside d) (suc at) m n) (sym before-is)
      (subst (λ (l : ℕ). Keeps a.rounds l (beside c) (beside d) (suc at) m n) (sym behind-is)
      (as-lives (λ (v w : Member). Keeps a.rounds b.rounds (beside c) (beside d) (suc at) v w) (near.0.keeps a.rounds b.rounds rounds))))

-- ---- whose lock comes down

module _ (stand : ℕ → Seat) (locks : State) (members : List Member) (seated : AreSeated stand locks members) (whole : IsWhole locks) (lives : dead_in members ≡ 0) (u : ℕ) (node : Node) (spare : is_spare (granted_at locks.table u) (party_of locks.parties u) node ≡ true) where
  -- it has or wants something
  busy : party_of locks.parties u ≡ idle → ⊥
  busy none = false≢true (sym (nothing-due locks locks u node refl (sym none) whole) ∙ spare)

  -- so it has a read-write transaction
  writer-by : (m : Member) (x : Phase) (l : Life) → l ≡ Dead ⊎ LivesAt stand locks u x l → (l ≡ Dead → ⊥) → writes_at x l ≡ true
  writer-by m x l (inl dead) alive = absurd (alive dead)
  writer-by m (Writing w) Alive (inr f) alive = refl
  writer-by m Outside Alive (inr f) alive = absurd (busy (λ i. record { needs = f.needs i; opened = f.wants i }))
  writer-by m Closing Alive (inr f) alive = absurd (busy (λ i. record { needs = f.needs i; opened = f.wants i }))
  writer-by m (Reading r) Alive (inr f) alive = absurd (busy (λ i. record { needs = f.needs i; opened = f.wants i }))
  writer-by m Over Alive (inr f) alive = absurd (busy (λ i. record { needs = f.needs i; opened = f.wants i }))
  writer-by m x Dead (inr f) alive = absurd (alive refl)
  writer-by m x Gone (inr f) alive = absurd (busy (λ i. record { needs = f.needs i; opened = f.wants i }))

  none-dead : (ms : List Member) (i : ℕ) (m : Member) → dead_in ms ≡ 0 → slice_get ms i ≡ Some m → m.life ≡ Dead → ⊥
  none-dead [] i m none found dead = none-some m found
  none-dead (x ∷ ms) zero m none found dead = let one : one_dead x.life ≡ 1 = ap (λ (y : Member). one_dead y.life) (same_Some x m found) ∙ ap one_dead dead in omega (arith, one, none)
  none-dead (x ∷ ms) (suc i) m none found dead = none-dead ms i m (omega (arith, none)) found dead

  pub spare-writes : IsWriterAt members u
  spare-writes = by u refl (member_at members u) refl
    where
      by : (v : ℕ) → v ≡ u → (o : Option Member) → member_at members u ≡ o → IsWriterAt members u
      by v is None none = absurd (busy (seated.nobodys u none))
      by zero is (Some m) found = absurd (none-some m (ap (member_at members) is ∙ found))
      by (suc i) is (Some m) found =
          let there : slice_get members i ≡ Some m = ap (member_at members) is ∙ found in
          record { at = i; member = m; number = sym is; found = there; writes = writer-by m m.phase m.life (inr (seated.each u m found)) (none-dead members i m lives there) }

-- ---- as the code has it

-- nobody dies of a step
pub lives-on : (ms put : List Member) (at : ℕ) (m : Member) (rest : List Item) (y : Phase) → slice_get ms at ≡ Some m → put ≡ slice_set ms at (record { left = rest; total = m.total; phase = y; life = m.life }) → dead_in ms ≡ 0 → dead_in put ≡ 0
lives-on ms put at m rest y found is none =
    let moved = dead-moved ms at m (record { left = rest; total = m.total; phase = y; life = m.life }) found in
    subst (λ (xs : List Member). dead_in xs ≡ 0) (sym is) (omega (arith, moved, none))

module _ (M : Model) (s at : ℕ) (c d : Scene) (members put : List Member) (each behind : List Allotment) (m : Member) (rest : List Item) (y : Phase) (h : Happening) (a b : Allotment) (old : Option Halt)
    (first : 1 ≤ s) (is : at ≡ s - 1) (none : old ≡ None) (alive : m.life ≡ Alive) (found : slice_get members at ≡ Some m) (given : slice_get each (s - 1) ≡ Some a) (rounds : AreRounds m.phase y a.rounds b.rounds)
    (goes : GoesOn M s c m.left m.phase d rest y h) (put-is : put ≡ slice_set members at (record { left = rest; total = m.total; phase = y; life = m.life })) (behind-is : behind ≡ slice_set each (s - 1) b) where
  abbrev named : s ≡ suc at
  named = sym (ap suc is ∙ suc-less s first)

  as-put : (halted : Option Halt) (locks : State) → halted ≡ None → Less (measure_by false (slice_set members at (record { left = rest; total = m.total; phase = y; life = m.life })) (rounds_at (slice_set each at b)) (record { locks = locks; steps = d.sight.steps })) (measure_by false members (rounds_at each) (beside c)) →
      Less (measure_by (is_some halted) put (rounds_at behind) (record { locks = locks; steps = d.sight.steps })) (measure_by (is_some old) members (rounds_at each) (beside c))
  as-put halted locks on less =
      subst (λ (x : Option Halt). Less (measure_by (is_some x) put (rounds_at behind) (record { locks = locks; steps = d.sight.steps })) (measure_by (is_some old) members (rounds_at each) (beside c))) (sym on)
      (subst (λ (x : Option Halt). Less (measure_by false put (rounds_at behind) (record { locks = locks; steps = d.sight.steps })) (measure_by (is_some x) members (rounds_at each) (beside c))) (sym none)
      (subst (λ (xs : List Member). Less (measure_by false xs (rounds_at behind) (record { locks = locks; steps = d.sight.steps })) (measure_by false members (rounds_at each) (beside c))) (sym put-is)
      (subst (λ (xs : List Allotment). Less (measure_by false (slice_set members at (record { left = rest; total = m.total; phase = y; life = m.life })) (rounds_at xs) (record { locks = locks; steps = d.sight.steps })) (measure_by false members (rounds_at each) (beside c)))
      (ap (λ (i : ℕ). slice_set each i b) is ∙ sym behind-is) less)))

  given-at : slice_get each at ≡ Some a
  given-at = ap (slice_get each) is ∙ given

  goes-at : GoesOn M (suc at) c m.left m.phase d rest y h
  goes-at = subst (λ (t : ℕ). GoesOn M t c m.left m.phase d rest y h) named goes

  pub turned-nearer : (halted : Option Halt) → halted ≡ None → is_moving h ≡ true → (is_patient_at m.phase ≡ true → is_sleeping c.locks s ≡ false) → Less (measure_by (is_some halted) put (rounds_at behind) (beside d)) (measure_by (is_some old) members (rounds_at each) (beside c))
  turned-nearer halted on moving awake = as-put halted d.locks on (falls-moved M c d members each at m rest y h a b alive found given-at rounds goes-at moving (subst (λ (t : ℕ). is_patient_at m.phase ≡ true → is_sleeping c.locks t ≡ false) named awake))

  -- with a notice that was served behind it
  pub served-nearer : (halted : Option Halt) (locks : State) (n : Notice) → halted ≡ None → IsNoticed n h → locks.parties ≡ d.locks.parties → IsWriterAt put n.to.number → LocksFall n.to.number d.locks locks →
      Less (measure_by (is_some halted) put (rounds_at behind) (record { locks = locks; steps = d.sight.steps })) (measure_by (is_some old) members (rounds_at each) (beside c))
  served-nearer halted locks n on noticed same writer falls = as-put halted locks on
      (falls-served M c d members each at m rest y h a b alive found given-at rounds goes-at n.to.number n.node n.mode noticed.asking noticed.is locks same (subst (λ (xs : List Member). IsWriterAt xs n.to.number) put-is writer) falls)

  -- that notice was due
  pub is-due : (n : Notice) → IsNoticed n h → is_spare (granted_at d.locks.table n.to.number) (party_of d.locks.parties n.to.number) n.node ≡ true
  is-due n noticed = (subst (λ (g : Happening). NearerIn M s g c d (session m.left m.total m.phase) (session rest m.total y)) noticed.is (goes.nearer m.total)).1

-- ---- a step of a recovery

module _ (M : Model) (c d : Scene) (members : List Member) (each : List Allotment) (at : ℕ) (m : Member) (died : m.life ≡ Dead) (found : slice_get members at ≡ Some m) where
  abbrev recovered : Life → Member
  recovered l = record { left = m.left; total = m.total; phase = m.phase; life = l }

  -- it comes nearer, and nobody else does anything
  nears-recovered : (r : Result Recovery Fault) (step : Recovery) → r ≡ Ok step → NearerRecoveredIn (suc at) r c d m.left m.total m.phase →
      Falls (rounds_at each (suc at)) (rounds_at each (suc at)) (beside c) (beside d) (suc at) (dead_session m.left m.total m.phase) (recovered (life_behind r))
  nears-recovered (Ok (Done committed moment)) step is near = near (rounds_at each (suc at)) (rounds_at each (suc at))
  nears-recovered (Ok More) step is near = near (rounds_at each (suc at))
  nears-recovered (Err fault) step is near = cc is

  falls-recovered : (r : Result Recovery Fault) (step : Recovery) → r ≡ Ok step → RecoversIn M (suc at) m.phase c d r →
      Less (measure_by false (slice_set members at (recovered (life_behind r))) (rounds_at each) (beside d)) (measure_by false members (rounds_at each) (beside c))
  falls-recovered r step is goes = all-fall (suc at) at (rounds_at each) (rounds_at each) (beside c) members m (recovered (life_behind r)) (omega arith) found (beside d)
      (λ u x other. same-weight (rounds_at each u) (rounds_at each u) u (beside c) (beside d) x refl (ap (λ (p : Party). unopened p.opened) (goes.parties u other)) (goes.does.steps u other))
      (inl (subst (λ (l : Life). Falls (rounds_at each (suc at)) (rounds_at each (suc at)) (beside c) (beside d) (suc at) (recovered l) (recovered (life_behind r))) (sym died)
      (nears-recovered r step is (goes.nearer m.left m.total))))

  -- as the code has it
  pub recovered-nearer : (put : List Member) (r : Result Recovery Fault) (step : Recovery) (old : Option Halt) → old ≡ None → r ≡ Ok step → RecoversIn M (at + 1) m.phase c d r → put ≡ slice_set members at (recovered (life_behind r)) →
      Less (measure_by (is_some old) put (rounds_at each) (beside d)) (measure_by (is_some old) members (rounds_at each) (beside c))
  recovered-nearer put r step old none is goes put-is =
      let next : at + 1 ≡ suc at = omega arith in
      subst (λ (x : Option Halt). Less (measure_by (is_some x) put (rounds_at each) (beside d)) (measure_by (is_some x) members (rounds_at each) (beside c))) (sym none)
      (subst (λ (ms : List Member). Less (measure_by false ms (rounds_at each) (beside d)) (measure_by false members (rounds_at each) (beside c))) (sym put-is)
      (falls-recovered r step is (subst (λ (t : ℕ). RecoversIn M t m.phase c d r) next goes)))
