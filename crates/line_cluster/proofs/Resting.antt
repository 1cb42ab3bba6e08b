-- Who rests does so in the account.
use Rattle.std.proofs.Common.{◌≡◌, ◌≤◌, ◌-◌, ℕ, zero, suc, ◌++◌, ◌∷◌, [], List, length, true, false, not, nat_le, refl, ◌∙◌, sym, ap, subst, arith, map, Option, Some, None, slice_get, option_map, ◌==◌, ◌&&◌, ◌||◌, Bool, inl, inr}
use Rattle.std.proofs.lemmas.Bool.{false≢true, and_parts, leb-true}
use Rattle.rdo_ast.specs.declared.syntax.Item.{Item}
use Rattle.rdo_ast.specs.Tree.{Uttered, said, commit}
use Rattle.rdo_ast.specs.Views.{uttered_of}
use Rattle.rdb_account.specs.Events.{Event}
use Rattle.rdb_account.specs.Places.{Opening, Place, place, next_item}
use Rattle.rdb_account.specs.Legal.{has_not_died, is_committing}
use Rattle.rdb_account.specs.Lawful.{is_nowait}
use Rattle.lock_tree.specs.Sleeping.{IsBlockedBy}
use Rattle.lock_tree_laws.specs.Forest.{State, party_of, open_asks}
use Rattle.lock_ties.proofs.Causes.{tree-waits}
use Rattle.line_steps.specs.Members.{Member as Seen, left_of, life_of, under_way}
use Rattle.line_steps.specs.Right.{Ground, Stands}
use Rattle.line_steps.proofs.Common.{next-is}
use Rattle.line_store.specs.Seats.{Seat, outside}
use Rattle.line_store.specs.Sights.{Sight, bare}
use Rattle.line_view.specs.Knowledge.{Lines}
use Rattle.session_jobs.specs.Records.{Model}
use Rattle.session_states.specs.declared.stage.End.TheVariants.{Preparing, Journal, Ready, Committing, RollingBack, Leaving}
use Rattle.session_states.specs.declared.stage.Stage.{Stage}
use Rattle.session_states.specs.declared.stage.Stage.TheVariants.{Between, Working, Gathering, Reserving, Saying, Ending}
use Rattle.session_states.specs.declared.stage.Writer.{Writer}
use Rattle.session_states.specs.declared.stage.Phase.{Phase}
use Rattle.session_states.specs.declared.stage.Phase.TheVariants.{Outside, Closing, Writing, Reading, Over}
use Rattle.session_states.specs.declared.stage.Life.{Life}
use Rattle.session_states.specs.declared.stage.Life.TheVariants.{Alive, Dead, Gone}
use Rattle.session_states.specs.declared.stage.Member.{Member}
use Rattle.session_states.specs.States.{item_of, seen, session, state_of}
use Rattle.session_states.specs.Fits.{LifeFits, WriterFits}
use Rattle.session_states.specs.Shared.{Shared}
use Rattle.line_account.specs.session_stands.Seated.{LivesAt}
use Rattle.line_account.specs.session_stands.Sessions.{AreSeated, IsTold, sharing, dead_in, one_dead}
use Rattle.lent_members.specs.Going.{is_alive_life, is_dead, is_dead_life, is_over}
use Rattle.line_cluster.specs.Sound.{IsLeft}
use Rattle.line_account.specs.stage_steps.Nearer.{is_for_journal, is_patient_at}
use Rattle.line_cluster.specs.Turned.{Sessions, SleepsFor, Waits, HasNothingLeft, HaveAllEnded, HaveEnded, is_session}

-- ---- who has ended

-- a session by its number
member-within : (ms : List Member) (s : ℕ) → 1 ≤ s → s ≤ length ms → (i : ℕ) × (m : Member) × (s ≡ suc i) × (slice_get ms i ≡ Some m)
member-within ms zero first last = absurd (omega arith)
member-within [] (suc i) first last = absurd (omega arith)
member-within (m ∷ ms) (suc zero) first last = (0, m, refl, refl)
member-within (m ∷ ms) (suc (suc i)) first last = let more = member-within ms (suc i) (omega arith) (omega arith) in (suc more.0, more.1, ap suc more.2, more.3)

none-behind : {A : Type 0} (xs ys : List A) → ys ≡ [] → slice_get (xs ++ ys) (length xs) ≡ None
none-behind [] ys e = rw e refl
none-behind (x ∷ xs) ys e = none-behind xs ys e

length-all : {A : Type 0} (xs ys : List A) → ys ≡ [] → length (xs ++ ys) ≡ length xs
length-all [] ys e = rw e refl
length-all (x ∷ xs) ys e = ap suc (length-all xs ys e)

empty-left : (left : List Item) → (length left == 0) ≡ true → left ≡ []
empty-left [] h = refl
empty-left (x ∷ xs) h = absurd (none (length xs) h)
  where
    none : (n : ℕ) → (suc n == 0) ≡ true → ⊥
    none n h = grind arith

-- It has said all, with no stop behind it, has no transaction open, and hasn't died.
record HasSaidAll (stops : Bool) (p : Place) (s : ℕ) (m : Seen) : Type 0 where
  pub left : left_of m ≡ []
  pub goes_on : stops ≡ false
  pub closed : p.transaction s ≡ None
  pub lives : has_not_died (p.life s) ≡ true

no-stop : (stops : Bool) → not stops ≡ true → stops ≡ false
no-stop true h = absurd (false≢true h)
no-stop false h = refl

module _ (M : Model) (o : Opening) (p : Place) (g : Ground) (s : ℕ) where
  at-end : (stops : Bool) (left : List Item) (total : ℕ) (x : Phase) (l : Life) → l ≡ Alive → is_over stops (record { left = left; total = total; phase = x; life = l }) l ≡ true →
      Stands M o p g s (seen (record { left = left; total = total; phase = x; life = l })) → HasSaidAll stops p s (seen (record { left = left; total = total; phase = x; life = l }))
  at-end stops left total Outside Alive alive over st =
      let parts = and_parts (length left == 0) (not stops) over in
      record { left = ap (λ items. map uttered_of items) (empty-left left parts.0); goes_on = no-stop stops parts.1; closed = st.state; lives = ap has_not_died st.lives }
  at-end stops left total Over Alive alive over st = record { left = st.state.1; goes_on = no-stop stops (and_parts true (not stops) over).1; closed = st.state.0; lives = ap has_not_died st.lives }
  at-end stops left total Closing Alive alive over st = absurd (false≢true over)
  at-end stops left total (Writing w) Alive alive over st = absurd (false≢true over)
  at-end stops left total (Reading r) Alive alive over st = absurd (false≢true over)
  at-end stops left total x Dead alive over st = cc alive
  at-end stops left total x Gone alive over st = cc alive

  said-all : (stops : Bool) (m : Member) → m.life ≡ Alive → is_over stops m m.life ≡ true → Stands M o p g s (seen m) → HasSaidAll stops p s (seen m)
  said-all stops m alive over st = at-end stops m.left m.total m.phase m.life alive over st

  none-next : (m : Seen) → Stands M o p g s m → left_of m ≡ [] → next_item o p s ≡ None
  none-next m st none = rw st.script (rw st.count (none-behind st.answered (left_of m) none))

  -- who is dead has died in the account
  has-died : (m : Member) (l : Life) → m.life ≡ l → is_alive_life l ≡ false → Stands M o p g s (seen m) → has_not_died (p.life s) ≡ false
  has-died m Alive is none st = absurd (false≢true (sym none))
  has-died m Dead is none st = ap has_not_died (st.lives ∙ ap (λ (l : Life). life_of (state_of m.phase l)) is)
  has-died m Gone is none st = ap has_not_died (st.lives ∙ ap (λ (l : Life). life_of (state_of m.phase l)) is)

  all-said : (m : Seen) → Stands M o p g s m → left_of m ≡ [] → p.said s ≡ length (o.script s)
  all-said m st none = st.count ∙ sym (ap length st.script ∙ length-all st.answered (left_of m) none)

-- where none of them is dead, none awaits its recovery
not-one : (l : Life) → is_dead_life l ≡ false → one_dead l ≡ 0
not-one Alive h = refl
not-one Dead h = absurd (false≢true (sym h))
not-one Gone h = refl

none-mourned : (ms : List Member) → ((i : ℕ) (m : Member) → slice_get ms i ≡ Some m → is_dead m ≡ false) → dead_in ms ≡ 0
none-mourned [] h = refl
none-mourned (m ∷ ms) h =
    let one : one_dead m.life ≡ 0 = not-one m.life (h 0 m refl) in
    let more : dead_in ms ≡ 0 = none-mourned ms (λ i n found. h (suc i) n found) in
    omega (arith, one, more)

map-get : {A B : Type 0} (f : A → B) (xs : List A) (i : ℕ) (x : A) → slice_get xs i ≡ Some x → slice_get (map f xs) i ≡ Some (f x)
map-get f [] i x h = cc h
map-get f (y ∷ ys) zero x h = ap (λ (z : Option _). option_map f z) h
map-get f (y ∷ ys) (suc i) x h = map-get f ys i x h

-- ---- who waits

and-none : (b : Bool) → (b && false) ≡ false
and-none true = refl
and-none false = refl

module _ (M : Model) (o : Opening) (p : Place) (g : Ground) (c : Shared) (s : ℕ) (left : List Item) (total : ℕ) where
  -- its transaction isn't one under NOWAIT, or its next item is a COMMIT
  abbrev MayWait : Type 0
  MayWait = (is_nowait (p.transaction s) && not (is_committing (next_item o p s))) ≡ false

  committing : (w : Writer) (stage : Stage) → w.stage ≡ stage → item_of stage ≡ Some (said commit) → Stands M o p g s (seen (session left total (Writing w))) → MayWait
  committing w stage at is st =
      let first : left_of (seen (session left total (Writing w))) ≡ said commit ∷ map uttered_of left = ap (λ (x : Stage). under_way (item_of x) ++ map uttered_of left) at ∙ ap (λ (i : Option Uttered). under_way i ++ map uttered_of left) is in
      ap (λ (i : Option Uttered). is_nowait (p.transaction s) && not (is_committing i)) (next-is M o p g s (seen (session left total (Writing w))) (said commit) (map uttered_of left) st first) ∙ and-none (is_nowait (p.transaction s))

  waiting : (w : Writer) → WriterFits M p g c s left w → w.waits ≡ true → MayWait
  waiting w f waits = ap (λ (b : Bool). b && not (is_committing (next_item o p s))) (f.waits ∙ ap not waits)

  writer-waits : (w : Writer) (stage : Stage) → w.stage ≡ stage → (is_for_journal stage || w.waits) ≡ true → WriterFits M p g c s left w → Stands M o p g s (seen (session left total (Writing w))) → MayWait
  writer-waits w Between at patient f st = waiting w f patient
  writer-waits w (Working item work) at patient f st = waiting w f patient
  writer-waits w (Gathering item gather later place) at patient f st = waiting w f patient
  writer-waits w (Reserving item r locks place) at patient f st = waiting w f patient
  writer-waits w (Saying item r laying) at patient f st = waiting w f patient
  writer-waits w (Ending Preparing) at patient f st = committing w (Ending Preparing) at refl st
  writer-waits w (Ending Journal) at patient f st = committing w (Ending Journal) at refl st
  writer-waits w (Ending Ready) at patient f st = waiting w f patient
  writer-waits w (Ending Committing) at patient f st = waiting w f patient
  writer-waits w (Ending RollingBack) at patient f st = waiting w f patient
  writer-waits w (Ending Leaving) at patient f st = waiting w f patient

  patient-waits : (x : Phase) (l : Life) → l ≡ Alive → is_patient_at x ≡ true → LifeFits M p g c s left x l → Stands M o p g s (seen (record { left = left; total = total; phase = x; life = l })) → MayWait
  patient-waits (Writing w) Alive alive patient f st = writer-waits w w.stage refl patient f st
  patient-waits Outside l alive patient f st = absurd (false≢true patient)
  patient-waits Closing l alive patient f st = absurd (false≢true patient)
  patient-waits (Reading r) l alive patient f st = absurd (false≢true patient)
  patient-waits Over l alive patient f st = absurd (false≢true patient)
  patient-waits (Writing w) Dead alive patient f st = cc alive
  patient-waits (Writing w) Gone alive patient f st = cc alive

pub asleep-rests : (M : Model) (o : Opening) (word : List ℕ) (sight : Sight) (locks : State) (members : List Member) (events : List Event) (i t : ℕ) (m : Member) →
    IsTold M o word sight locks members events → slice_get members i ≡ Some m → m.life ≡ Alive → is_patient_at m.phase ≡ true → IsBlockedBy locks (suc i) t → SleepsFor o (place o events) (suc i) t
asleep-rests M o word sight locks members events i t m told found alive patient b =
    let k = told.kept in (
      tree-waits (place o events) (party_of locks.parties) (open_asks locks.parties locks.trail) (suc i) t k.tied b.sleeps.by_needs,
      patient-waits M o (place o events) k.ground (sharing word told.shelf locks (dead_in members)) (suc i) m.left m.total m.phase m.life alive patient (k.phases i m found) (k.right.each i (seen m) (map-get seen members i m found)),
    )

-- ---- who has nothing left to do

module _ (M : Model) (o : Opening) (word : List ℕ) (sight : Sight) (locks : State) (members : List Member) (events : List Event) (told : IsTold M o word sight locks members events) where
  stands : (i : ℕ) (m : Member) → slice_get members i ≡ Some m → Stands M o (place o events) told.kept.ground (suc i) (seen m)
  stands i m found = told.kept.right.each i (seen m) (map-get seen members i m found)

  over-rests : (i : ℕ) (m : Member) → slice_get members i ≡ Some m → m.life ≡ Alive → is_over (o.stops (suc i)) m m.life ≡ true → (next_item o (place o events) (suc i) ≡ None) × (o.stops (suc i) ≡ false)
  over-rests i m found alive over =
      let st = stands i m found in
      let all = said-all M o (place o events) told.kept.ground (suc i) (o.stops (suc i)) m alive over st in
      (none-next M o (place o events) told.kept.ground (suc i) (seen m) st all.left, all.goes_on)

  pub over-left : (i : ℕ) (m : Member) → slice_get members i ≡ Some m → is_over (o.stops (suc i)) m m.life ≡ true → HasNothingLeft o (place o events) (suc i)
  over-left i m found over = by m.life refl
    where
      by : (l : Life) → m.life ≡ l → HasNothingLeft o (place o events) (suc i)
      by Alive is = inl (over-rests i m found is over)
      by Dead is = inr (has-died M o (place o events) told.kept.ground (suc i) m Dead is refl (stands i m found))
      by Gone is = inr (has-died M o (place o events) told.kept.ground (suc i) m Gone is refl (stands i m found))

  -- those that haven't died have said their scripts to the ends
  pub all-whole : (sessions : ℕ) → length members ≡ sessions → HaveEnded o.stops members → HaveAllEnded o sessions events
  all-whole sessions count ended = record {
    whole = λ s is.
        let parts = and_parts (is_session sessions s) (has_not_died ((place o events).life s)) is in
        let at = member-within members s (first-of sessions s parts.0) (within s parts.0) in
        let e = ended at.0 at.1 at.3 in
        let st = subst (λ (t : ℕ). Stands M o (place o events) told.kept.ground t (seen at.1)) (sym at.2) (stands at.0 at.1 at.3) in
        let over = subst (λ (t : ℕ). is_over (o.stops t) at.1 at.1.life ≡ true) (sym at.2) e.0 in
        let all = said-all M o (place o events) told.kept.ground s (o.stops s) at.1 (unfallen s at.1 at.1.life refl st parts.1) over st in
        (all.lives, all-said M o (place o events) told.kept.ground s (seen at.1) st all.left, all.closed, all.goes_on);
    recovered = told.kept.right.fit.dead ∙ (told.kept.is_ground.dead ∙ none-mourned members (λ i m found. (ended i m found).1));
  }
    where
      unfallen : (s : ℕ) (m : Member) (l : Life) → m.life ≡ l → Stands M o (place o events) told.kept.ground s (seen m) → has_not_died ((place o events).life s) ≡ true → m.life ≡ Alive
      unfallen s m Alive is st lives = is
      unfallen s m Dead is st lives = absurd (false≢true (sym (has-died M o (place o events) told.kept.ground s m Dead is refl st) ∙ lives))
      unfallen s m Gone is st lives = absurd (false≢true (sym (has-died M o (place o events) told.kept.ground s m Gone is refl st) ∙ lives))

      below : (a b : ℕ) → nat_le a b ≡ true → a ≤ b
      below a b h = leb-true a b h

      first-of : (n s : ℕ) → is_session n s ≡ true → 1 ≤ s
      first-of n s h = below 1 s (and_parts (nat_le 1 s) (nat_le s n) h).0

      last-of : (n s : ℕ) → is_session n s ≡ true → s ≤ n
      last-of n s h = below s n (and_parts (nat_le 1 s) (nat_le s n) h).1

      within : (t : ℕ) → is_session sessions t ≡ true → t ≤ length members
      within t h = subst (λ (k : ℕ). t ≤ k) (sym count) (last-of sessions t h)

-- by the session's number
numbered : (s : ℕ) → 1 ≤ s → suc (s - 1) ≡ s
numbered s h = omega arith

pub over-left-at : (M : Model) (o : Opening) (word : List ℕ) (sight : Sight) (locks : State) (members : List Member) (events : List Event) (s : ℕ) (m : Member) → IsTold M o word sight locks members events → 1 ≤ s →
    slice_get members (s - 1) ≡ Some m → is_over (o.stops s) m m.life ≡ true → HasNothingLeft o (place o events) s
over-left-at M o word sight locks members events s m told first found over =
    subst (λ (t : ℕ). HasNothingLeft o (place o events) t) (numbered s first)
    (over-left M o word sight locks members events told (s - 1) m found (subst (λ (t : ℕ). is_over (o.stops t) m m.life ≡ true) (sym (numbered s first)) over))

pub asleep-rests-at : (M : Model) (o : Opening) (word : List ℕ) (sight : Sight) (locks : State) (members : List Member) (events : List Event) (s t : ℕ) (c : Sessions) → IsTold M o word sight locks members events → 1 ≤ s →
    Waits s t (record { members = members; events = c.events; measure = c.measure; locks = locks; halted = c.halted }) → SleepsFor o (place o events) s t
asleep-rests-at M o word sight locks members events s t c told first w =
    subst (λ (u : ℕ). SleepsFor o (place o events) u t) (numbered s first)
    (asleep-rests M o word sight locks members events (s - 1) t w.member told w.found w.lives w.patient (subst (λ (u : ℕ). IsBlockedBy locks u t) (sym (numbered s first)) w.blocked))

-- ---- what is left

pub left-behind : (M : Model) (o : Opening) (word : List ℕ) (sight : Sight) (locks : State) (members : List Member) (events : List Event) → IsTold M o word sight locks members events → IsLeft M o sight events
left-behind M o word sight locks members events told = record {
  shelf = told.shelf;
  shown = told.shown;
  stands = subst (λ (all : Lines). M all (place o events).tables) told.kept.is_ground.now told.kept.right.fit.stands;
}

module _ (stand : ℕ → Seat) (locks : State) (s : ℕ) (stops : Bool) (left : List Item) (total : ℕ) where
  ended-outside : (x : Phase) (l : Life) → is_dead_life l ≡ false → is_over stops (record { left = left; total = total; phase = x; life = l }) l ≡ true → LivesAt stand locks s x l → bare (stand s) ≡ outside
  ended-outside Outside Alive undead over k = k.seat
  ended-outside Over Alive undead over k = k.seat
  ended-outside Closing Alive undead over k = absurd (false≢true over)
  ended-outside (Writing w) Alive undead over k = absurd (false≢true over)
  ended-outside (Reading r) Alive undead over k = absurd (false≢true over)
  ended-outside x Dead undead over k = absurd (false≢true (sym undead))
  ended-outside x Gone undead over k = k.seat

pub all-outside : (stops : ℕ → Bool) (stand : ℕ → Seat) (locks : State) (members : List Member) → AreSeated stand locks members → HaveEnded stops members → (s : ℕ) → bare (stand s) ≡ outside
all-outside stops stand locks members k ended zero = k.outsiders zero refl
all-outside stops stand locks members k ended (suc i) = by (slice_get members i) refl
  where
    by : (found : Option Member) → slice_get members i ≡ found → bare (stand (suc i)) ≡ outside
    by None e = k.outsiders (suc i) e
    by (Some m) e = let end = ended i m e in ended-outside stand locks (suc i) (stops (suc i)) m.left m.total m.phase m.life end.1 end.0 (k.each (suc i) m e)
