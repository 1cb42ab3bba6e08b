-- Where some session hasn't ended, one that hasn't ended isn't asleep.
use Rattle.std.proofs.Common.{◌≡◌, ◌≤◌, nat_lt, ℕ, zero, suc, ◌∷◌, [], ◌==◌, ◌&&◌, ◌||◌, not, Bool, true, false, List, length, refl, ◌∙◌, sym, ap, subst, arith, Option, Some, None, slice_get}
use Rattle.std.proofs.lemmas.Bool.{false≢true, and_parts}
use Rattle.rdb_drive.specs.Boards.{IsSession}
use Rattle.rdb_drive.specs.Steps.{IsAwake}
use Rattle.rdb_account.specs.Places.{Opening}
use Rattle.lock_needs.specs.declared.need.Need.{Need}
use Rattle.lock_needs.specs.declared.party.OpenWant.{OpenWant}
use Rattle.lock_needs.specs.declared.party.Asked.{Asked}
use Rattle.lock_needs.specs.Party.{Party}
use Rattle.lock_needs.specs.Wants.{sleeps_at}
use Rattle.lock_needs.specs.Waits.{has_asked}
use Rattle.lock_tree.specs.Sleeping.{is_queued, is_sleeping}
use Rattle.lock_tree_laws.specs.Forest.{State, IsWhole, idle, party_of, open_asks, opened_of}
use Rattle.lock_tree_laws.specs.LockTable.{granted_at}
use Rattle.lock_tree_laws.specs.Order.{waits_by_needs, waits_with}
use Rattle.lock_tree_laws.proofs.AskedByNeeds.{waiter-needed}
use Rattle.lock_tree_laws.proofs.Sleepers.{queued-blocker, sleeping-queued}
use Rattle.lock_tree_laws.proofs.Whole.{live-of}
use Rattle.vms_locks.specs.Table.{queues_at, WaitsIn}
use Rattle.line_store.specs.Seats.{Seat}
use Rattle.session_states.specs.declared.stage.Phase.{Phase}
use Rattle.session_states.specs.declared.stage.Phase.TheVariants.{Outside, Closing, Writing, Reading, Over}
use Rattle.session_states.specs.declared.stage.Life.{Life}
use Rattle.session_states.specs.declared.stage.Life.TheVariants.{Alive, Dead, Gone}
use Rattle.session_states.specs.declared.stage.Member.{Member}
use Rattle.session_stands.specs.Seated.{LivesAt}
use Rattle.session_stands.specs.Sessions.{AreSeated, dead_in, member_at}
use Rattle.line_cluster.specs.lent_members.Going.{is_dead, is_dead_life, is_over}
use Rattle.line_cluster.proofs.Coming.{some-dead}
use Rattle.line_cluster.specs.Turned.{Sessions}
use Rattle.line_cluster.specs.Asleep.{is_asleep, is_mourning, is_patient}
use Rattle.line_drive.specs.Boards.{board_of, has_ended}
use Rattle.line_drive.proofs.Chains.{somebody-awake}

-- ---- who sleeps waits for an owner that has or wants something

queued-want : (locks : State) (s : ℕ) (opened : Option OpenWant) → opened_of locks s ≡ opened → is_queued (granted_at locks.table s) opened ≡ true →
    (w : OpenWant) × ((opened_of locks s ≡ Some w) × (sleeps_at (granted_at locks.table s) (Some w) w.here ≡ true))
queued-want locks s None e h = absurd (false≢true h)
queued-want locks s (Some w) e h = (w, (e, h))

idle-unwaited : (asks : List Asked) (a : ℕ) (opened : Option OpenWant) (b : ℕ) → waits_with asks a opened b idle ≡ false
idle-unwaited asks a None b = refl
idle-unwaited asks a (Some w) b = by (has_asked a asks) (a == b)
  where
    by : (x y : Bool) → (x && (not y && (false || false))) ≡ false
    by true true = refl
    by true false = refl
    by false y = refl

-- whom somebody waits for is not idle
waited-busy : (locks : State) (a b : ℕ) → waits_by_needs (party_of locks.parties) (open_asks locks.parties locks.trail) a b ≡ true → party_of locks.parties b ≡ idle → ⊥
waited-busy locks a b h e =
    false≢true (sym (idle-unwaited (open_asks locks.parties locks.trail) a (opened_of locks a) b)
    ∙ subst (λ (p : Party). waits_with (open_asks locks.parties locks.trail) a (opened_of locks a) b p ≡ true) e h)

-- ---- sessions

number-of : (ms : List Member) (s : ℕ) (m : Member) → member_at ms s ≡ Some m → (1 ≤ s) × (s ≤ length ms)
number-of ms zero m h = cc h
number-of [] (suc i) m h = cc h
number-of (x ∷ ms) (suc zero) m h = (omega arith, omega arith)
number-of (x ∷ ms) (suc (suc i)) m h = let k = number-of ms (suc i) m h in (omega arith, omega (arith, k))

-- where none awaits a recovery, none is dead
pub undead : (ms : List Member) (i : ℕ) (m : Member) → dead_in ms ≡ 0 → slice_get ms i ≡ Some m → is_dead m ≡ false
undead ms i m none found = by (is_dead m) refl
  where
    by : (b : Bool) → is_dead m ≡ b → is_dead m ≡ false
    by false e = e
    by true e = let k = some-dead ms i (record { member = m; found = found; dead = e }) in absurd (omega (arith, k, none))

undead-at : (ms : List Member) (s : ℕ) (m : Member) → dead_in ms ≡ 0 → member_at ms s ≡ Some m → is_dead m ≡ false
undead-at ms zero m none h = cc h
undead-at ms (suc i) m none h = undead ms i m none h

idle-from : (p : Party) → p.needs ≡ [] → p.opened ≡ None → p ≡ idle
idle-from p e f = ap (λ (ws : List Need). record { needs = ws; opened = p.opened }) e ∙ ap (λ (o : Option OpenWant). record { needs = []; opened = o }) f

module _ (stand : ℕ → Seat) (locks : State) (whole : IsWhole locks) where
  -- who has nothing left to do, or is recovered, has no lock, and wants none
  over-idle : (stops : Bool) (s : ℕ) (m : Member) (x : Phase) (l : Life) → is_dead_life l ≡ false → is_over stops (record { left = m.left; total = m.total; phase = x; life = l }) l ≡ true → LivesAt stand locks s x l → party_of locks.parties s ≡ idle
  over-idle stops s m Outside Alive undead over k = idle-from (party_of locks.parties s) k.needs k.wants
  over-idle stops s m Over Alive undead over k = idle-from (party_of locks.parties s) k.needs k.wants
  over-idle stops s m Closing Alive undead over k = absurd (false≢true over)
  over-idle stops s m (Writing w) Alive undead over k = absurd (false≢true over)
  over-idle stops s m (Reading r) Alive undead over k = absurd (false≢true over)
  over-idle stops s m x Dead undead over k = absurd (false≢true (sym undead))
  over-idle stops s m x Gone undead over k = idle-from (party_of locks.parties s) k.needs k.wants

module _ (stops : ℕ → Bool) (stand : ℕ → Seat) (c : Sessions) (seated : AreSeated stand c.locks c.members) (whole : IsWhole c.locks) (none : dead_in c.members ≡ 0) (sessions : ℕ) (count : length c.members ≡ sessions) where
  abbrev Lives : ℕ → Type 0
  Lives s = IsSession sessions s × (has_ended (stops s) (member_at c.members s) ≡ false)

  busy-lives : (s : ℕ) (found : Option Member) → member_at c.members s ≡ found → (party_of c.locks.parties s ≡ idle → ⊥) → Lives s
  busy-lives s None e busy = absurd (busy (seated.nobodys s e))
  busy-lives s (Some m) e busy = by (is_over (stops s) m m.life) refl
    where
      within : IsSession sessions s
      within = let k = number-of c.members s m e in (k.0, subst (λ (n : ℕ). s ≤ n) count k.1)

      undone : is_dead m ≡ false
      undone = undead-at c.members s m none e

      by : (b : Bool) → is_over (stops s) m m.life ≡ b → Lives s
      by false f = (within, ap (has_ended (stops s)) e ∙ ap (λ (b : Bool). b && not (is_dead m)) f)
      by true f = absurd (busy (over-idle stand c.locks whole (stops s) s m m.phase m.life undone f (seated.each s m e)))

  next : (s : ℕ) → Lives s → is_asleep c s ≡ true → (t : ℕ) × (WaitsIn (queues_at c.locks.table) s t × Lives t)
  next s lives asleep =
      let sleeps = (and_parts (is_patient (member_at c.members s)) (is_sleeping c.locks s) asleep).1 in
      let want = queued-want c.locks s (opened_of c.locks s) refl sleeps in
      let queued = sleeping-queued c.locks.table s (party_of c.locks.parties s) want.0 (whole.kept s) want.1.0 want.1.1 in
      let b = queued-blocker c.locks.table c.locks.parties (live-of c.locks whole) whole.kept s want.0.here queued in
      (b.0, (b.2, busy-lives b.0 (member_at c.members b.0) refl (waited-busy c.locks s b.0 (waiter-needed c.locks whole s b.0 b.2))))

  awake-going : (s : ℕ) → IsSession sessions s → has_ended (stops s) (member_at c.members s) ≡ false → (t : ℕ) × (Lives t × (is_asleep c t ≡ false))
  awake-going s session going = somebody-awake (WaitsIn (queues_at c.locks.table)) (live-of c.locks whole).acyclic Lives (is_asleep c) next sessions s (session, going) (λ t l. l.0)

none-more : (n : ℕ) → nat_lt 0 n ≡ false → n ≡ 0
none-more n h = grind arith

-- whether or not the sessions are stopped, or one that died awaits its recovery
pub awake : (told : Type 0) (o : Opening) (c : Sessions) (sessions : ℕ) → (c.halted ≡ false → (stand : ℕ → Seat) × AreSeated stand c.locks c.members) → IsWhole c.locks →
    length c.members ≡ sessions → IsAwake sessions (board_of told o c)
awake told o c sessions seated whole count s session going = by c.halted refl (c.halted || is_mourning c) refl
  where
    -- nobody sleeps
    still : (c.halted || is_mourning c) ≡ true → (t : ℕ) × IsSession sessions t × (has_ended (o.stops t) (member_at c.members t) ≡ false) × ((not (c.halted || is_mourning c) && is_asleep c t) ≡ false)
    still h = (s, session, going, ap (λ (b : Bool). not b && is_asleep c s) h)

    either : (a b : Bool) → b ≡ false → (a && b) ≡ false
    either true b e = e
    either false b e = refl

    unmourned : (a b : Bool) → (a || b) ≡ false → b ≡ false
    unmourned true b h = absurd (false≢true (sym h))
    unmourned false b h = h

    by : (h : Bool) → c.halted ≡ h → (n : Bool) → (c.halted || is_mourning c) ≡ n →
        (t : ℕ) × IsSession sessions t × (has_ended (o.stops t) (member_at c.members t) ≡ false) × ((not (c.halted || is_mourning c) && is_asleep c t) ≡ false)
    by h e true f = still f
    by true e false f = absurd (false≢true (sym f ∙ ap (λ (b : Bool). b || is_mourning c) e))
    by false e false f =
        let k = seated e in
        let a = awake-going o.stops k.0 c k.1 whole (none-more (dead_in c.members) (unmourned c.halted (is_mourning c) f)) sessions count s session going in
        (a.0, a.1.0.0, a.1.0.1, either (not (c.halted || is_mourning c)) (is_asleep c a.0) a.1.1)
