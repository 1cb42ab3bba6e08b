-- How many faults are counted, and why.
use Rattle.std.proofs.Common.{◌≡◌, ◌≤◌, ◌+◌, ℕ, Bool, false, true, cond, List, [], ◌∷◌, ◌++◌, refl, ap, sym, subst, arith, Option, Some, None, Result, Ok, Err}
use Rattle.std.proofs.lemmas.List.Sums.{sum_by-append}
use Rattle.rdb_types.specs.declared.node.Node.{Node}
use Rattle.rdb_types.specs.declared.session.Cause.{Cause}
use Rattle.rdb_types.specs.declared.session.Cause.TheVariants.{Device}
use Rattle.rdo_ast.specs.declared.syntax.Item.{Item}
use Rattle.rdb_outside.specs.Causes.{Rose}
use Rattle.rdb_account.specs.Events.{Event, Died}
use Rattle.lock_needs.specs.declared.need.Need.{Need}
use Rattle.lock_ties.specs.Ties.{wanted_at}
use Rattle.lock_tree.specs.declared.notice.Demotion.{Demotion}
use Rattle.line_store.specs.declared.answers.Fault.{Fault}
use Rattle.line_store.specs.declared.answers.Fault.TheVariants as fault
use Rattle.line_store.specs.Seats.{Seat, begun}
use Rattle.line_store.specs.Shelves.{Shelf, Elapses}
use Rattle.line_store.specs.Calls.{Fails}
use Rattle.line_store.specs.Sights.{Sight, Behind, Does}
use Rattle.session_states.specs.declared.stage.Phase.{Phase}
use Rattle.line_account.specs.stage_steps.declared.dying.Recovery.{Recovery}
use Rattle.line_account.specs.stage_steps.declared.dying.Recovery.TheVariants.{More, Done}
use Rattle.line_account.specs.stage_steps.declared.happening.Happening.{Happening}
use Rattle.line_account.specs.stage_steps.declared.happening.Happening.TheVariants.{Quiet, Began, Answered, Unstarted, Asleep, Noticed, Got, Refused, RefusedStart, Committed, BackedUp, RolledBack, Left, Failed, Unlaid, Unworked, Unanswered, Unsound}
use Rattle.line_account.specs.stage_steps.Happenings.{events_of}
use Rattle.line_account.specs.stage_steps.Notices.{demoted_by}
use Rattle.line_account.specs.stage_steps.Scenes.{Scene, HasFailed}
use Rattle.line_account.specs.stage_steps.Deaths.{NearerRecoveredIn, recovery_events}
use Rattle.line_cluster.specs.declared.sessions.Halt.{Halt}
use Rattle.line_cluster.specs.declared.sessions.Halt.TheVariants as halts
use Rattle.line_cluster.specs.Sound.{is_over_slot}
use Rattle.line_cluster.specs.Deaths.{is_device, is_device_death, device_deaths, failures, faults_in, faults_of, CountsFaults, RoseBy}

-- ---- counts

rose-on : (n a b c : ℕ) → b ≤ c → RoseBy n a b → RoseBy n a c
rose-on n a b c later rose = omega (arith, later, rose)

rose-more : (n a b c : ℕ) → RoseBy n a b → Rose b c → RoseBy (n + 1) a c
rose-more n a b c before rose = omega (arith, before, rose)

rose-fewer : (m n a b : ℕ) → m ≤ n → RoseBy n a b → RoseBy m a b
rose-fewer m n a b fewer rose = omega (arith, fewer, rose)

pub rose-none : (a b : ℕ) → a ≤ b → RoseBy 0 a b
rose-none a b later = omega (arith, later)

module _ (faults s : ℕ) (old new : Sight) where
  -- a call goes on from each shelf
  pub counts-on : (n : ℕ) (there : Seat) (R : Shelf → Shelf → Type 0) → ((h g : Shelf) → R h g → Elapses h.clock g.clock) → Does s there R old new → CountsFaults faults n old → CountsFaults faults n new
  counts-on n there R later does k =
      let it : Behind old new (begun (old.stand s) there) R k.shelf = does.each k.shelf k.shown in
      let on : Elapses (k.shelf).clock (it.shelf).clock = later k.shelf it.shelf it.related in
      record { shelf = it.shelf; shown = it.shown; rose = rose-on n faults k.shelf.clock.faults it.shelf.clock.faults on.no_fewer k.rose }

  -- a device call failed
  pub counts-failed : (n : ℕ) → HasFailed s fault.Failed old new → CountsFaults faults n old → CountsFaults faults (n + 1) new
  counts-failed n failed k =
      let at = failed k.shelf k.shown in
      let it : Behind old new at.0 (Fails s fault.Failed) k.shelf = at.1 in
      let fails : Fails s fault.Failed k.shelf it.shelf = it.related in
      record { shelf = it.shelf; shown = it.shown; rose = rose-more n faults k.shelf.clock.faults it.shelf.clock.faults k.rose fails.cause }

pub counts-fewer : (faults m n : ℕ) (sight : Sight) → m ≤ n → CountsFaults faults n sight → CountsFaults faults m sight
counts-fewer faults m n sight fewer k = record { shelf = k.shelf; shown = k.shown; rose = rose-fewer m n faults k.shelf.clock.faults fewer k.rose }

-- ---- events

deaths-append : (events es : List Event) → device_deaths (events ++ es) ≡ device_deaths events + device_deaths es
deaths-append events es = sum_by-append (λ e. cond (is_device_death e) 1 0) events es

wanted-alive : (s : ℕ) (n : Need) (nodes : List Node) → device_deaths (wanted_at s n nodes) ≡ 0
wanted-alive s n [] = refl
wanted-alive s n (m ∷ ms) = let e = wanted-alive s n ms in omega (arith, e)

neither-died : (es fs : List Event) → device_deaths es ≡ 0 → device_deaths fs ≡ 0 → device_deaths (es ++ fs) ≡ 0
neither-died es fs h k = let e = deaths-append es fs in omega (arith, e, h, k)

-- nobody dies in a step
pub step-alive : (s : ℕ) (h : Happening) → device_deaths (events_of s h) ≡ 0
step-alive s Quiet = refl
step-alive s (Began kind) = refl
step-alive s (Answered a) = refl
step-alive s (Unstarted a) = refl
step-alive s (Asleep t x) = wanted-alive s x.need x.nodes
step-alive s (Noticed t n mode x) = wanted-alive s x.need x.nodes
step-alive s (Got x) = neither-died (wanted_at s x.need x.nodes) _ (wanted-alive s x.need x.nodes) refl
step-alive s (Refused x a) = neither-died (wanted_at s x.need x.nodes) _ (wanted-alive s x.need x.nodes) refl
step-alive s (RefusedStart x a) = neither-died (wanted_at s x.need x.nodes) _ (wanted-alive s x.need x.nodes) refl
step-alive s (Committed moment) = refl
step-alive s (BackedUp done moment) = refl
step-alive s RolledBack = refl
step-alive s Left = refl
step-alive s (Failed fault) = refl
step-alive s (Unlaid key) = refl
step-alive s Unworked = refl
step-alive s (Unanswered item) = refl
step-alive s (Unsound key) = refl

pub demotion-alive : (s : ℕ) (node : Node) (d : Option Demotion) → device_deaths (demoted_by s node d) ≡ 0
demotion-alive s node (Some d) = refl
demotion-alive s node None = refl

recovery-alive : (s : ℕ) (r : Result Recovery Fault) → device_deaths (recovery_events s r) ≡ 0
recovery-alive s (Ok (Done committed moment)) = refl
recovery-alive s (Ok More) = refl
recovery-alive s (Err fault) = refl

-- ---- failures

-- where nobody died of a device in the new events, and no session was stopped for a device's fault, it tells of no more
pub no-more : (events es : List Event) (old new : Option Halt) → device_deaths es ≡ 0 → faults_in new ≡ 0 → failures (events ++ es) new ≤ failures events old
no-more events es old new alive quiet = let e = deaths-append events es in omega (arith, e, alive, quiet)

-- who was stopped for something else
pub stopped-no-more : (events : List Event) (old new : Option Halt) → faults_in new ≡ 0 → failures events new ≤ failures events old
stopped-no-more events old new quiet = omega (arith, quiet)

death-of : (s : ℕ) (cause : Cause) → device_deaths (Died s cause ∷ []) ≡ faults_of cause
death-of s cause = omega arith

-- a death, and the fault for it
pub one-death : (events : List Event) (s : ℕ) (cause : Cause) (halt : Option Halt) → faults_in halt ≡ 0 → failures (events ++ Died s cause ∷ []) halt ≤ device_deaths events + faults_of cause
one-death events s cause halt going = let e = deaths-append events (Died s cause ∷ []) in let d = death-of s cause in omega (arith, e, d, going)

-- of a device whose call failed just now
pub failed-death : (events : List Event) (halt : Option Halt) → device_deaths events + faults_of Device ≤ failures events halt + 1
failed-death events halt = omega arith

-- of something else than a device
pub other-death : (events : List Event) (cause : Cause) (halt : Option Halt) → is_device cause ≡ false → device_deaths events + faults_of cause ≤ failures events halt
other-death events cause halt other = let e : faults_of cause ≡ 0 = ap (λ (b : Bool). cond b 1 0) other in omega (arith, e)

-- ---- a recovery

-- how many device calls failed in its step
abbrev pub failed_in : Result Recovery Fault → ℕ
failed_in (Err fault.Failed) = 1
failed_in _ = 0

-- a slot isn't what it has to be, by its step
abbrev pub slot_in : Result Recovery Fault → Bool
slot_in (Err (fault.Bad file slot)) = true
slot_in result = false

pub slot-of : (fault : Fault) → is_over_slot (Some (halts.Device fault)) ≡ slot_in (Err fault)
slot-of fault.Failed = refl
slot-of (fault.Bad file slot) = refl

pub recovery-fails : (events : List Event) (s : ℕ) (r : Result Recovery Fault) (old new : Option Halt) → faults_in new ≤ failed_in r → failures (events ++ recovery_events s r) new ≤ failures events old + failed_in r
recovery-fails events s r old new says = let e = deaths-append events (recovery_events s r) in let alive = recovery-alive s r in omega (arith, e, alive, says)

says-fault : (fault : Fault) → faults_in (Some (halts.Device fault)) ≤ failed_in (Err fault)
says-fault fault.Failed = omega arith
says-fault (fault.Bad file slot) = omega arith

-- the halt tells of no more than failed
pub fault-within : (r : Result Recovery Fault) (fault : Fault) → r ≡ Err fault → faults_in (Some (halts.Device fault)) ≤ failed_in r
fault-within r fault is = subst (λ (x : Result Recovery Fault). faults_in (Some (halts.Device fault)) ≤ failed_in x) (sym is) (says-fault fault)

from-none : (n m : ℕ) → n ≡ 0 → n ≤ m
from-none n m none = omega (arith, none)

pub quiet-within : (r : Result Recovery Fault) (halt : Option Halt) → halt ≡ None → faults_in halt ≤ failed_in r
quiet-within r halt none = from-none (faults_in halt) (failed_in r) (ap faults_in none)

module _ (faults s n : ℕ) (c d : Scene) (left : List Item) (total : ℕ) (x : Phase) where
  none-failed : (r : Result Recovery Fault) → failed_in r ≡ 0 → CountsFaults faults n d.sight → CountsFaults faults (n + failed_in r) d.sight
  none-failed r none k = counts-fewer faults (n + failed_in r) n d.sight (omega (arith, none)) k

  -- its fault is counted
  pub counts-recovered : (r : Result Recovery Fault) → NearerRecoveredIn s r c d left total x → CountsFaults faults n c.sight → CountsFaults faults n d.sight → CountsFaults faults (n + failed_in r) d.sight
  counts-recovered (Err fault.Failed) near before on = counts-failed faults s c.sight d.sight n near before
  counts-recovered (Err (fault.Bad file slot)) near before on = none-failed (Err (fault.Bad file slot)) refl on
  counts-recovered (Ok step) near before on = none-failed (Ok step) refl on
