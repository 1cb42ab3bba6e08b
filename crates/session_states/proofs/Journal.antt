-- Who has got the journal wants nothing, and nobody has or wants it but for itself.
use Rattle.std.proofs.Common.{◌≡◌, ℕ, suc, ◌++◌, ◌∷◌, [], ◌==◌, ◌&&◌, ◌||◌, not, if◌then◌else◌, Bool, true, false, List, refl, ◌∙◌, sym, ap, subst, Option, Some, None, slice_get}
use Rattle.std.specs.List.{list_all}
use Rattle.std.proofs.lemmas.Bool.{false≢true}
use Rattle.std.proofs.lemmas.Option.{none-some, same_Some}
use Rattle.std.proofs.lemmas.List.Folds.{list_any-append, list_all-append}
use Rattle.rdb_types.specs.declared.keys.Dbkey.{Dbkey}
use Rattle.vms_queues.specs.declared.lock_mode.Mode.TheVariants.{PR, EX}
use Rattle.vms_queues.specs.Modes.{at_most}
use Rattle.rdo_ast.specs.declared.reply.Standing.{Standing}
use Rattle.rdo_ast.specs.declared.syntax.Item.{Item}
use Rattle.rdo_ast.specs.Tree.{Uttered}
use Rattle.rdo_ast.specs.Views.{uttered_of}
use Rattle.lock_needs.specs.declared.need.Need.{Need as LockNeed}
use Rattle.lock_needs.specs.declared.party.OpenWant.{OpenWant}
use Rattle.lock_needs.specs.Party.{Party}
use Rattle.lock_needs.specs.Nodes.{is_on}
use Rattle.lock_needs.specs.Waits.{converts_at}
use Rattle.lock_tree_laws.specs.Forest.{party_of}
use Rattle.lock_tree_laws.specs.Wanted.{needs_of}
use Rattle.journal_waits.specs.Holders.{HoldersRest, OthersKeepTo, is_exclusive_on, WantsExclusively, KeepsTo}
use Rattle.rdb_account.specs.Events.{Event, need as lock}
use Rattle.rdb_account.specs.Places.{Opening, Place}
use Rattle.rdb_account.specs.Lawful.{got_of}
use Rattle.line_view.specs.Held.{Held}
use Rattle.line_view.specs.declared.need.Need.TheVariants as need
use Rattle.stepped_jobs.specs.kept_apart.Guards.{line_node, may_write}
use Rattle.line_steps.specs.session_jobs.Records.{Model, IsOrderly}
use Rattle.line_steps.specs.lock_ties.Ties.{needs_at}
use Rattle.line_steps.specs.Right.{Ground, Stands}
use Rattle.line_steps.specs.Images.{journal_node}
use Rattle.session_states.specs.declared.stage.Work.TheVariants.{Opening as OpeningIt, Due, Out, Lacking, Housing, Fetching, Lodging}
use Rattle.session_states.specs.declared.stage.Gather.TheVariants.{Locking, Housing as HousingOf, Reading as ReadingOf, Lodging as LodgingOf}
use Rattle.session_states.specs.declared.stage.Laying.TheVariants.{Claiming, Changing, Broken}
use Rattle.session_states.specs.declared.stage.End.TheVariants.{Preparing, Journal, Ready, Committing, RollingBack, Leaving}
use Rattle.session_states.specs.declared.stage.Stage.{Stage}
use Rattle.session_states.specs.declared.stage.Stage.TheVariants.{Between, Working, Gathering, Reserving, Saying, Ending}
use Rattle.session_states.specs.declared.stage.Phase.{Phase}
use Rattle.session_states.specs.declared.stage.Phase.TheVariants.{Outside, Closing, Writing, Reading, Over}
use Rattle.session_states.specs.declared.stage.Life.TheVariants.{Alive, Dead, Gone}
use Rattle.session_states.specs.declared.stage.Life.{Life}
use Rattle.session_states.specs.declared.stage.Member.{Member}
use Rattle.session_states.specs.Locks.{lock_for_area, lock_for_line, lock_of, has_journal, HasJournal, AreOffJournal}
use Rattle.session_states.specs.Turns.{got}
use Rattle.session_states.specs.States.{seen, is_at_rest, writer, session}
use Rattle.session_states.specs.Shared.{Shared}
use Rattle.session_states.specs.Fits.{StageFits, WantsAtMost, PhaseFits, LifeFits}
use Rattle.session_states.specs.Kept.{AreKept}
use Rattle.session_states.proofs.Basics.{writes-new}
use Rattle.session_states.proofs.Locking.{write-at, at-place}

-- ---- which locks are off the journal

-- what a stage reserves is off it
abbrev pub ReservesOff : Stage → Type 0
ReservesOff (Reserving item r locks place) = AreOffJournal locks
ReservesOff stage = Unit {0}

abbrev pub wants_journal : Stage → Bool
wants_journal (Ending Journal) = true
wants_journal stage = false

-- the lock of a stage: the journal for EX, or one off it
abbrev pub IsLockOf : Bool → LockNeed → Type 0
IsLockOf true n = n ≡ lock journal_node EX
IsLockOf false n = is_on journal_node n.node ≡ false

off-line : (item : Uttered) (key : Dbkey) → is_on journal_node (lock_for_line item key).node ≡ false
off-line item key = by (key.area == 1)
  where
    by : (b : Bool) → is_on journal_node (if b then lock_for_area item 1 else lock (line_node key) PR).node ≡ false
    by true = refl
    by false = refl

off : (m n : LockNeed) → is_on journal_node m.node ≡ false → m ≡ n → is_on journal_node n.node ≡ false
off m n h e = subst (λ (x : LockNeed). is_on journal_node x.node ≡ false) e h

pub lock-is : (stage : Stage) (n : LockNeed) → lock_of stage ≡ Some n → ReservesOff stage → IsLockOf (wants_journal stage) n
lock-is Between n wants off' = absurd (none-some n wants)
lock-is (Working item OpeningIt) n wants off' = absurd (none-some n wants)
lock-is (Working item Due) n wants off' = absurd (none-some n wants)
lock-is (Working item Out) n wants off' = absurd (none-some n wants)
lock-is (Working item (Lacking (need.Line key))) n wants off' = off (lock_for_line (uttered_of item) key) n (off-line (uttered_of item) key) (same_Some _ n wants)
lock-is (Working item (Lacking (need.Area area))) n wants off' = subst (λ (x : LockNeed). is_on journal_node x.node ≡ false) (same_Some _ n wants) refl
lock-is (Working item (Lacking (need.Room room))) n wants off' = absurd (none-some n wants)
lock-is (Working item (Housing room key)) n wants off' = subst (λ (x : LockNeed). is_on journal_node x.node ≡ false) (same_Some _ n wants) refl
lock-is (Working item (Fetching lack)) n wants off' = absurd (none-some n wants)
lock-is (Working item (Lodging room key)) n wants off' = absurd (none-some n wants)
lock-is (Gathering item (Locking (need.Line key)) later place) n wants off' = off (lock_for_line (uttered_of item) key) n (off-line (uttered_of item) key) (same_Some _ n wants)
lock-is (Gathering item (Locking (need.Area area)) later place) n wants off' = subst (λ (x : LockNeed). is_on journal_node x.node ≡ false) (same_Some _ n wants) refl
lock-is (Gathering item (Locking (need.Room room)) later place) n wants off' = absurd (none-some n wants)
lock-is (Gathering item (HousingOf room key) later place) n wants off' = subst (λ (x : LockNeed). is_on journal_node x.node ≡ false) (same_Some _ n wants) refl
lock-is (Gathering item (ReadingOf lack) later place) n wants off' = absurd (none-some n wants)
lock-is (Gathering item (LodgingOf room key) later place) n wants off' = absurd (none-some n wants)
lock-is (Reserving item r locks place) n wants off' = at-place (λ m. is_on journal_node m.node ≡ false) locks place n wants off'
lock-is (Saying item r (Claiming place)) n wants off' = let at = write-at r.writes place n wants in off (lock (line_node at.0.key) EX) n refl at.2
lock-is (Saying item r Changing) n wants off' = absurd (none-some n wants)
lock-is (Saying item r Broken) n wants off' = absurd (none-some n wants)
lock-is (Ending Preparing) n wants off' = absurd (none-some n wants)
lock-is (Ending Journal) n wants off' = sym (same_Some _ n wants)
lock-is (Ending Ready) n wants off' = absurd (none-some n wants)
lock-is (Ending Committing) n wants off' = absurd (none-some n wants)
lock-is (Ending RollingBack) n wants off' = absurd (none-some n wants)
lock-is (Ending Leaving) n wants off' = absurd (none-some n wants)

-- who wants a lock hasn't got the journal, and has it behind that where it wanted it
wanting-has : (stage : Stage) (n : LockNeed) → lock_of stage ≡ Some n → (has_journal stage ≡ false) × (has_journal (got stage) ≡ wants_journal stage)
wanting-has Between n wants = absurd (none-some n wants)
wanting-has (Working item work) n wants = (refl, refl)
wanting-has (Gathering item gather later place) n wants = (refl, refl)
wanting-has (Reserving item r locks place) n wants = (refl, refl)
wanting-has (Saying item r laying) n wants = (refl, refl)
wanting-has (Ending Preparing) n wants = absurd (none-some n wants)
wanting-has (Ending Journal) n wants = (refl, refl)
wanting-has (Ending Ready) n wants = absurd (none-some n wants)
wanting-has (Ending Committing) n wants = absurd (none-some n wants)
wanting-has (Ending RollingBack) n wants = absurd (none-some n wants)
wanting-has (Ending Leaving) n wants = absurd (none-some n wants)

-- who has the journal wants none
has-wants : (stage : Stage) → has_journal stage ≡ true → lock_of stage ≡ None
has-wants Between h = absurd (false≢true h)
has-wants (Working item work) h = absurd (false≢true h)
has-wants (Gathering item gather later place) h = absurd (false≢true h)
has-wants (Reserving item r locks place) h = absurd (false≢true h)
has-wants (Saying item r laying) h = absurd (false≢true h)
has-wants (Ending Preparing) h = absurd (false≢true h)
has-wants (Ending Journal) h = absurd (false≢true h)
has-wants (Ending Ready) h = refl
has-wants (Ending Committing) h = refl
has-wants (Ending RollingBack) h = absurd (false≢true h)
has-wants (Ending Leaving) h = absurd (false≢true h)

-- where the store rests the journal hasn't been got
pub resting-free : (stage : Stage) (ws : List LockNeed) → is_at_rest stage ≡ true → HasJournal (has_journal stage) ws → converts_at ws journal_node ≡ false
resting-free Between ws idle h = h
resting-free (Working item work) ws idle h = h
resting-free (Gathering item gather later place) ws idle h = h
resting-free (Reserving item r locks place) ws idle h = h
resting-free (Saying item r laying) ws idle h = h
resting-free (Ending Preparing) ws idle h = h
resting-free (Ending Journal) ws idle h = h
resting-free (Ending Ready) ws idle h = absurd (false≢true idle)
resting-free (Ending Committing) ws idle h = absurd (false≢true idle)
resting-free (Ending RollingBack) ws idle h = h
resting-free (Ending Leaving) ws idle h = h

-- ---- needs

all-exclusive : (ws : List LockNeed) → converts_at ws journal_node ≡ false → list_all (is_exclusive_on journal_node) ws ≡ true
all-exclusive [] h = refl
all-exclusive (w ∷ ws) h = both (is_on journal_node w.node) (converts_at ws journal_node) (at_most EX w.mode) (list_all (is_exclusive_on journal_node) ws) h (λ k. all-exclusive ws k)
  where
    both : (a b d e : Bool) → (a || b) ≡ false → (b ≡ false → e ≡ true) → ((not a || d) && e) ≡ true
    both true b d e h k = absurd (false≢true (sym h))
    both false b d e h k = k h

exclusive-off : (n : LockNeed) → is_on journal_node n.node ≡ false → is_exclusive_on journal_node n ≡ true
exclusive-off n h = rw h refl

exclusive-itself : (n : LockNeed) → n ≡ lock journal_node EX → is_exclusive_on journal_node n ≡ true
exclusive-itself n e = subst (λ (x : LockNeed). is_exclusive_on journal_node x ≡ true) (sym e) refl

exclusive-lock : (b : Bool) (n : LockNeed) → IsLockOf b n → is_exclusive_on journal_node n ≡ true
exclusive-lock true n h = exclusive-itself n h
exclusive-lock false n h = exclusive-off n h

-- what a lock that is got adds to them
pub has-behind : (b : Bool) (ws : List LockNeed) (n : LockNeed) → IsLockOf b n → converts_at ws journal_node ≡ false → HasJournal b (ws ++ n ∷ [])
has-behind true ws n is none = (
  subst (λ (x : LockNeed). may_write (ws ++ x ∷ []) journal_node ≡ true) (sym is) (writes-new ws (lock journal_node EX) refl),
  list_all-append (is_exclusive_on journal_node) ws (n ∷ []) ∙ both (list_all (is_exclusive_on journal_node) ws) (is_exclusive_on journal_node n) (all-exclusive ws none) (exclusive-itself n is),
)
  where
    both : (a b : Bool) → a ≡ true → b ≡ true → (a && (b && true)) ≡ true
    both a b h k = rw h (rw k refl)
has-behind false ws n is none = list_any-append (λ w. is_on journal_node w.node) ws (n ∷ []) ∙ neither (converts_at ws journal_node) (is_on journal_node n.node) none is
  where
    neither : (a b : Bool) → a ≡ false → b ≡ false → (a || (b || false)) ≡ false
    neither a b h k = rw h (rw k refl)

pub journal-got : (stage : Stage) (n : LockNeed) → lock_of stage ≡ Some n → ReservesOff stage → (ws : List LockNeed) → HasJournal (has_journal stage) ws → HasJournal (has_journal (got stage)) (ws ++ n ∷ [])
journal-got stage n wants off' ws has =
    let at = wanting-has stage n wants in
    subst (λ (b : Bool). HasJournal b (ws ++ n ∷ [])) (sym at.1) (has-behind (wants_journal stage) ws n (lock-is stage n wants off') (subst (λ (b : Bool). HasJournal b ws) at.0 has))

-- ---- owners

pub keeps-none : (p : Party) → p.needs ≡ [] → p.opened ≡ None → KeepsTo journal_node p
keeps-none p needs opened = record {
  needs = ap (list_all (is_exclusive_on journal_node)) needs;
  want = subst (λ (x : Option OpenWant). WantsExclusively journal_node x) (sym opened) tt;
  rests = λ h. opened;
}

pub keeps-to : (stage : Stage) (p : Party) → HasJournal (has_journal stage) p.needs → WantsAtMost (lock_of stage) p.opened → ReservesOff stage → KeepsTo journal_node p
keeps-to stage p has wants off' = by (has_journal stage) refl has
  where
    want : (l : Option LockNeed) (x : Option OpenWant) → lock_of stage ≡ l → WantsAtMost l x → WantsExclusively journal_node x
    want None x e h = subst (λ (y : Option OpenWant). WantsExclusively journal_node y) (sym h) tt
    want (Some n) None e h = tt
    want (Some n) (Some w) e h = subst (λ (m : LockNeed). is_exclusive_on journal_node m ≡ true) (sym h) (exclusive-lock (wants_journal stage) n (lock-is stage n e off'))

    by : (b : Bool) → has_journal stage ≡ b → HasJournal b p.needs → KeepsTo journal_node p
    by true e h = let none : p.opened ≡ None = subst (λ (l : Option LockNeed). WantsAtMost l p.opened) (has-wants stage e) wants in
        record { needs = h.1; want = want (lock_of stage) p.opened refl wants; rests = λ k. none }
    by false e h = record { needs = all-exclusive p.needs h; want = want (lock_of stage) p.opened refl wants; rests = λ k. absurd (false≢true (sym h ∙ k)) }

module _ (M : Model) (orderly : IsOrderly M) where
  pub stage-off : (word : List ℕ) (has : List LockNeed) (standing : Standing) (known : Held) (spoken : Bool) (stage : Stage) → StageFits M word has standing known spoken stage → ReservesOff stage
  stage-off word has standing known spoken Between f = tt
  stage-off word has standing known spoken (Working item work) f = tt
  stage-off word has standing known spoken (Gathering item gather later place) f = tt
  stage-off word has standing known spoken (Reserving item r locks place) f = f.1.off
  stage-off word has standing known spoken (Saying item r laying) f = tt
  stage-off word has standing known spoken (Ending end) f = tt

  none-got : (p : Place) (s : ℕ) → p.transaction s ≡ None → needs_at p s ≡ []
  none-got p s none = ap got_of none

  phase-keeps : (o : Opening) (p : Place) (g : Ground) (c : Shared) (s : ℕ) (left : List Item) (total : ℕ) (x : Phase) → Stands M o p g s (seen (session left total x)) → needs_at p s ≡ needs_of c.locks s → PhaseFits M p g c s left x → KeepsTo journal_node (party_of c.locks.parties s)
  phase-keeps o p g c s left total Outside stands needs f = keeps-none (party_of c.locks.parties s) (sym needs ∙ none-got p s stands.state) f.1
  phase-keeps o p g c s left total Closing stands needs f = keeps-none (party_of c.locks.parties s) (sym needs ∙ none-got p s stands.state) f.1
  phase-keeps o p g c s left total (Writing w) stands needs f = keeps-to w.stage (party_of c.locks.parties s) f.journal f.wants (stage-off c.word (needs_at p s) w.standing w.known w.spoken w.stage f.stage)
  phase-keeps o p g c s left total (Reading r) stands needs f = keeps-none (party_of c.locks.parties s) (sym needs ∙ f.needless) f.wants
  phase-keeps o p g c s left total Over stands needs f = keeps-none (party_of c.locks.parties s) (sym needs ∙ none-got p s stands.state.0) f.1

  pub life-keeps : (o : Opening) (p : Place) (g : Ground) (c : Shared) (s : ℕ) (left : List Item) (total : ℕ) (x : Phase) (life : Life) → Stands M o p g s (seen (record { left = left; total = total; phase = x; life = life })) → needs_at p s ≡ needs_of c.locks s →
      LifeFits M p g c s left x life → KeepsTo journal_node (party_of c.locks.parties s)
  life-keeps o p g c s left total x Alive stands needs f = phase-keeps o p g c s left total x stands needs f
  life-keeps o p g c s left total x Dead stands needs f = f.journal
  life-keeps o p g c s left total x Gone stands needs f = keeps-none (party_of c.locks.parties s) (sym needs ∙ none-got p s stands.state) f.1

  -- ---- all sessions

  pub others-keep : (o : Opening) (c : Shared) (members : List Member) (events : List Event) (s : ℕ) → AreKept M o c members events → OthersKeepTo c.locks s journal_node
  others-keep o c members events s k t other = k.journal t

  pub holders-rest : (o : Opening) (c : Shared) (members : List Member) (events : List Event) (s : ℕ) → AreKept M o c members events → HoldersRest c.locks s journal_node
  holders-rest o c members events s k t other h = (k.journal t).rests h

  pub journal-free : (o : Opening) (c : Shared) (members : List Member) (events : List Event) (i : ℕ) (left : List Item) (total : ℕ) (standing : Standing) (known : Held) (spoken waits : Bool) (stage : Stage) → AreKept M o c members events →
      slice_get members i ≡ Some (session left total (Writing (writer standing known spoken waits stage))) → has_journal stage ≡ false → converts_at (needs_of c.locks (suc i)) journal_node ≡ false
  journal-free o c members events i left total standing known spoken waits stage k found none =
      subst (λ (b : Bool). HasJournal b (needs_of c.locks (suc i))) none (k.phases i (session left total (Writing (writer standing known spoken waits stage))) found).journal
