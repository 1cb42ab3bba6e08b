-- A step of a change that fails, or goes astray: the transaction can only end.
use Rattle.std.proofs.Common.{◌≡◌, ◌≤◌, ◌+◌, ◌==◌, ◌⊎◌, ℕ, false, IsTrue, List, [], Some, None, inl, refl, sym, ap, subst, ◌∙◌, arith}
use Rattle.std.specs.Prelude.{slice_get, if◌then◌else◌}
use Rattle.std.proofs.lemmas.Option.{none-some}
use Rattle.rdb_types.specs.declared.file.FileId.{FileId}
use Rattle.rdb_outside.specs.Causes.{Rose}
use Rattle.rdb_outside.specs.Disk.{View, LeavesOnly, IsPending}
use Rattle.line_view.specs.declared.writes.Write.{Write}
use Rattle.line_view.specs.Knowledge.{Lines}
use Rattle.line_store.specs.Seats.{in_flight, failed_at}
use Rattle.line_store.specs.Shelves.{Shelf, Space}
use Rattle.line_store.specs.Calls.{Moves, Fails, KeepsSpace}
use Rattle.line_store.specs.Sights.{bare}
use Rattle.line_store.specs.declared.answers.Fault.{Fault}
use Rattle.line_store.specs.declared.answers.Fault.TheVariants.{Failed, Bad}
use Rattle.line_store.proofs.Causes.{cause-of}
use Rattle.version_writing.specs.Tables.{HoldsAll}
use Rattle.disk_seats.specs.Ledgers.{broken, entries_of, Ledger, stands_as}
use Rattle.disk_seats.specs.Members.{MayEnd, LedgerFacts}
use Rattle.disk_seats.proofs.MemberCalls.{broken_behind}
use Rattle.stable_lines.specs.Slots.{ruj_file}
use Rattle.line_moves.specs.Calls.{OnlyWrites}
use Rattle.ledger_versions.specs.Readers.{ReaderFacts}
use Rattle.ledger_versions.proofs.Restanding.{restands, keeps_others}
use Rattle.member_memory.specs.Memory.{writes_in}
use Rattle.disk_store.specs.declared.member.Member.{Member}
use Rattle.disk_store.specs.declared.member.MemberStage.TheVariants as stage
use Rattle.disk_store.specs.Memory.{StoreMemory}
use Rattle.disk_store.specs.Numbers.{kept_in}
use Rattle.disk_store.specs.Seats.{seat_with, stand_of, stand_at}
use Rattle.disk_store.specs.Standing.{HasBegun, IsBroken, IsJournalling, StageStands}
use Rattle.disk_store.specs.Shown.{DoesOn, NumbersStand, TablesStand, WaitsAs, AreUnused, HaveStarts, Shown}
use Rattle.disk_store.proofs.Moving.{itself}
use Rattle.disk_store.proofs.Beside.{SameAreas, SameHeaders, StaysOf, stays-there}
use Rattle.disk_store.proofs.Stepping.{ComesTo, Becomes, does-step}
use Rattle.disk_store.proofs.Passing.{none-leaves}

-- what stays shown behind a device call of a session that changes
pub record StaysShown (v w : View) (s : ℕ) (held behind : StoreMemory) (h : Shelf) (shown : Shown v held h) : Type 0 where
  pub areas : SameAreas v w
  pub headers : SameHeaders s v w
  pub numbered : NumbersStand w shown.ledger behind.numbers behind.next
  pub kept : behind.numbers.next + kept_in behind.members ≤ behind.numbers.written
  pub tabled : TablesStand w shown.ledger behind.tables
  pub used : HaveStarts behind.tables shown.versions.course
  pub unused : AreUnused behind.tables shown.versions.course
  pub readers : ReaderFacts w shown.ledger behind.limits.snaps shown.versions.course shown.versions.waiting
  pub slots : HoldsAll w.content shown.versions.course.followed behind.limits.snaps behind.slots

-- nothing is written
only-none : (w : View) (s : ℕ) → OnlyWrites (ruj_file s) 1 w w
only-none w s = record { told = refl; later = omega arith; no_fewer = omega arith; pending = λ t f i x other p. p; content = λ t f i other. refl; leaves = λ t. none-leaves w t }

-- who changes may be taken for broken
pub taken-broken : (w : View) (g : Ledger) (s : ℕ) (m : Member) → IsTrue w.tells → HasBegun g s m → LedgerFacts w g → LedgerFacts w (stands_as s broken g)
taken-broken w g s m t has facts = broken_behind w w g s t facts has.transaction has.all has.stable 1 has.stands has.is_open (omega arith) (only-none w s) facts.facts

module _ (v w : View) (held behind : StoreMemory) (s : ℕ) (m n : Member) (was : slice_get held.members s ≡ Some m) (at : m.stage ≡ stage.Changing) (becomes : Becomes held behind s n) (breaks : n.stage ≡ stage.Broken) (number : n.tsn ≡ m.tsn) (same : n.written ≡ m.written) (told : w.tells ≡ v.tells)
    (leaves : IsTrue v.tells → LeavesOnly v w (λ image. IsPending v image ⊎ IsPending w image)) (later : v.moment ≤ w.moment) (no-fewer : v.faults ≤ w.faults)
    (facts : (h : Shelf) (shown : Shown v held h) → HasBegun shown.ledger s m → LedgerFacts w (stands_as s broken shown.ledger))
    (stays : (h : Shelf) (shown : Shown v held h) → StaysShown v w s held behind h shown)
    (keeps-space : (space : Space) → KeepsSpace space (becomes.space_of space)) where
  module _ (h : Shelf) (shown : Shown v held h) (stands : StageStands m.stage v shown.ledger s m) where
    abbrev g : Ledger
    g = shown.ledger

    has : HasBegun g s m
    has = let is : IsJournalling v g s m = subst (λ x. StageStands x v g s m) at stands in is.begun

    abbrev after : Ledger
    after = stands_as s broken g

    kept : StaysShown v w s held behind h shown
    kept = stays h shown

    here : after.standing s ≡ broken
    here = ap (λ b. if b then broken else g.standing s) (itself s)

    there : (t : ℕ) → (t == s) ≡ false → StaysOf t g after
    there t apart = record { standing = inl (ap (λ b. if b then broken else g.standing t) apart); going = refl; commit = refl }

    mine : IsBroken after s n
    mine = record {
      transaction = has.transaction;
      is_open = has.is_open;
      number = number ∙ has.number;
      may_end = subst MayEnd (sym here) tt;
      keys = λ i undo got. absurd (none-some undo (ap (λ x. slice_get (entries_of x) i) (sym here) ∙ got));
    }

    abbrev to-broken : ComesTo v w behind s n g shown.versions.course shown.versions.waiting
    to-broken = record {
      ledger = after;
      facts = facts h shown has;
      limits = refl;
      none = λ t apart rests. ap (λ b. if b then broken else g.standing t) apart ∙ rests;
      others = λ t x apart got stood. stays-there v w g after t kept.areas (there t apart) x (kept.headers t apart) stood;
      mine = subst (λ x. StageStands x w after s n) (sym breaks) mine;
      numbered = record { number = kept.numbered.number; first = kept.numbered.first; ceiling = kept.numbered.ceiling; group = kept.numbered.group };
      kept = kept.kept;
      tabled = record { committed = kept.tabled.committed; classes = kept.tabled.classes; lie = kept.tabled.lie; class = kept.tabled.class; owned = kept.tabled.owned };
      course_behind = shown.versions.course;
      waiting_behind = shown.versions.waiting;
      readers = restands w behind.limits.snaps shown.versions.course shown.versions.waiting g after.standing g.commit g.history g.moments (keeps_others s broken g.standing (λ bad. bad)) kept.readers.its kept.readers.put kept.readers;
      slots = kept.slots;
      waits = subst (λ x. WaitsAs x shown.versions.waiting s n) (sym breaks) tt;
      waits_beside = λ t apart. refl;
      reads = λ t. refl;
      used = kept.used;
      unused = kept.unused;
    }

  still : (ws : List Write) (start : Lines) → in_flight (seat_with m.stage ws start) ≡ None
  still ws start = ap (λ x. in_flight (seat_with x ws start)) at

  -- its seat is that of a change that failed
  seated : (start : Lines) → seat_with n.stage (writes_in n.written.lines) start ≡ failed_at (seat_with m.stage (writes_in m.written.lines) start)
  seated start = ap (λ x. seat_with x (writes_in n.written.lines) start) breaks ∙ ap (λ w. seat_with stage.Broken (writes_in w.lines) start) same ∙ ap (λ x. failed_at (seat_with x (writes_in m.written.lines) start)) (sym at)

  -- it can only end
  pub does-broken : (R : Shelf → Shelf → Type 0) → ((h g : Shelf) → Shown v held h → Moves s (failed_at (h.seat s)) h g → h.clock.faults ≡ v.faults → g.clock.faults ≡ w.faults → R h g) → DoesOn s (failed_at (stand_at held.members s)) R v held w behind
  does-broken R as-asked = subst (λ x. DoesOn s (failed_at (stand_of x)) R v held w behind) (sym was)
      (does-step v w held behind s m n was becomes (λ e. let bad : stage.Broken ≡ stage.Reading = sym breaks ∙ e in cc) told leaves to-broken later no-fewer (failed_at (stand_of (Some m))) R (ap (λ x. bare (seat_with x [] [])) breaks ∙ sym (ap (λ x. bare (failed_at (seat_with x [] []))) at))
      still (λ h shown stands. record { lines = refl; journal = refl; commit = refl }) keeps-space
      (λ h g start related moves. as-asked h g related.shown (subst (λ seat. Moves s seat h g) (seated start ∙ ap failed_at (sym related.seat)) moves) related.shown.lines.faults related.faults_behind))

  pub does-break : (fault : Fault) → (fault ≡ Failed → Rose v.faults w.faults) → ((h : Shelf) → Shown v held h → (file : FileId) (slot : ℕ) → fault ≡ Bad file slot → ⊥) → DoesOn s (failed_at (stand_at held.members s)) (λ h g. Fails s fault h g) v held w behind
  does-break fault rose good = does-broken (λ h g. Fails s fault h g) (λ h g shown moves before after. record {
    moves = moves;
    cause = cause-of fault h.clock g.clock v.faults w.faults rose (λ file slot is. absurd (good h shown file slot is)) before after;
  })
