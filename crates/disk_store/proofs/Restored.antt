-- All before-images of a session that died are put back, and stable.
use Rattle.std.proofs.Common.{◌≡◌, ◌<◌, ◌==◌, ℕ, Bool, false, IsTrue, [], Some, None, inl, refl, sym, ap, subst, ◌∙◌, arith}
use Rattle.std.specs.Prelude.{slice_get, if◌then◌else◌}
use Rattle.rdb_outside.specs.Disk.{View, LeftNow, OnlyReads, IsStable}
use Rattle.line_store.specs.Shelves.{Shelf}
use Rattle.line_store.specs.Calls.{Moves, GoesOn}
use Rattle.line_store.specs.Sights.{bare}
use Rattle.line_versions.specs.Course.{Course}
use Rattle.reader_lines.specs.version_writing.Tables.{HoldsAll}
use Rattle.ledger_versions.specs.disk_seats.Ledgers.{resting, ended_by, Ledger}
use Rattle.ledger_versions.specs.disk_seats.Members.{LedgerFacts}
use Rattle.ledger_versions.proofs.of_disk_seats.Standings.{not_undoing}
use Rattle.ledger_versions.proofs.of_disk_seats.GivenUp.{undone_facts}
use Rattle.ledger_versions.specs.disk_versions.Courses.{course_given, course_undone}
use Rattle.ledger_versions.specs.Readers.{MayEndUndone, set_waiting}
use Rattle.ledger_versions.proofs.MembersEnd.{member_ends}
use Rattle.member_memory.specs.Memory.{writes_in}
use Rattle.disk_store.specs.declared.member.Member.{Member}
use Rattle.disk_store.specs.declared.member.MemberStage.TheVariants as stage
use Rattle.disk_store.specs.declared.member.Recovery.TheVariants as recovery
use Rattle.disk_store.specs.Memory.{StoreMemory, with_member, at_stage}
use Rattle.disk_store.specs.Seats.{seat_with, stand_of, stand_at, steps_in}
use Rattle.disk_store.specs.Standing.{IsUndone, StageStands}
use Rattle.disk_store.specs.Shown.{DoesOn, Shown}
use Rattle.disk_store.proofs.Moving.{itself}
use Rattle.disk_store.proofs.Kept.{kept-stays}
use Rattle.disk_store.proofs.Beside.{StaysOf, stays-there}
use Rattle.disk_store.proofs.Stepping.{ComesTo, does-apart, becomes-member, space-same}
use Rattle.disk_store.proofs.Passing.{Passes, header-read, headers-all, passes-reads, reads-leave, reads-ceiling, tables-pass, slots-pass}
use Rattle.disk_store.proofs.Failing.{KeepsIt}
use Rattle.disk_store.proofs.EndingOpen.{pushed-by, its, none-left, still-held}

-- a call that reads
pub keeps-read : (v w : View) (held : StoreMemory) (s : ℕ) (m : Member) → OnlyReads v w → (IsTrue v.tells → (g : Ledger) → LedgerFacts v g → LedgerFacts w g) → KeepsIt v w held s m
keeps-read v w held s m only keeps = record {
  told = only.told;
  later = only.later;
  no_fewer = only.no_fewer;
  leaves = reads-leave v w only;
  passes = λ t. passes-reads v w t only;
  ceiling = λ t was. reads-ceiling v w t only held.numbers was;
  headers = λ t. headers-all v w s (header-read v w t only);
  own = λ h shown stands at. header-read v w shown.tells only s;
  facts = λ h shown stands. keeps shown.tells shown.ledger shown.facts;
}

module _ (v w : View) (held : StoreMemory) (s : ℕ) (m : Member) (commits : Bool) (was : slice_get held.members s ≡ Some m) (at : m.stage ≡ stage.Dead commits recovery.Restoring) (only : OnlyReads v w)
    (keeps : IsTrue v.tells → (g : Ledger) → LedgerFacts v g → LedgerFacts w g) (stable : IsTrue v.tells → IsStable w) (left : IsTrue w.tells → LeftNow w w.content) where
  abbrev n : Member
  n = at_stage (stage.Dead commits recovery.Ending) m

  undone-at : (g : Ledger) → StageStands m.stage v g s m → IsUndone g s m 0
  undone-at g stands = subst (λ x. StageStands x v g s m) at stands

  module _ (h : Shelf) (shown : Shown v held h) (stands : StageStands m.stage v shown.ledger s m) where
    abbrev g : Ledger
    g = shown.ledger

    u : IsUndone g s m 0
    u = undone-at g stands

    p : Passes v w
    p = passes-reads v w shown.tells only

    facts : LedgerFacts w g
    facts = keeps shown.tells g shown.facts

    abbrev course : Course
    course = shown.versions.course

    held-still : HoldsAll w.content course.followed held.limits.snaps held.slots
    held-still = slots-pass v w p course.followed held.limits.snaps held.slots shown.versions.slots

    stays : (t : ℕ) → (t == s) ≡ false → StaysOf t g (ended_by s g)
    stays t apart = record {
      standing = inl (ap (λ b. if b then resting else g.standing t) apart);
      going = ap (λ b. if b then None else g.base.going t) apart;
      commit = refl;
    }

    abbrev restored-now : ComesTo v w (record (with_member s n held) { numbers = held.numbers }) s n g course shown.versions.waiting
    restored-now = record {
      ledger = ended_by s g;
      facts = undone_facts w g facts (stable shown.tells) s u.all u.stands;
      limits = refl;
      none = λ t apart rests. ap (λ b. if b then resting else g.standing t) apart ∙ rests;
      others = λ t x apart got stood. stays-there v w g (ended_by s g) t p.areas (stays t apart) x (header-read v w shown.tells only t) stood;
      mine = ap (λ b. if b then resting else g.standing s) (itself s);
      numbered = record { number = shown.numbers.number; first = shown.numbers.first; ceiling = reads-ceiling v w shown.tells only held.numbers shown.numbers.ceiling; group = record { in_slot = shown.numbers.group.in_slot; numbered = shown.numbers.group.numbered } };
      kept = kept-stays held.members s held.numbers.next held.numbers.written m n was (omega arith) shown.kept;
      tabled = tables-pass v w p g (ended_by s g) held.tables refl shown.tables;
      course_behind = course_undone u.transaction.tsn.number (course_given (pushed-by held.slots u.transaction.tsn.number) course);
      waiting_behind = set_waiting s [] shown.versions.waiting;
      readers = member_ends w g held.limits.snaps course shown.versions.waiting s u.transaction (left (subst IsTrue (sym only.told) shown.tells)) facts (subst MayEndUndone (sym u.stands) refl) u.is_open (pushed-by held.slots u.transaction.tsn.number)
          (its w held.limits.snaps held.slots course u.transaction.tsn.number held-still shown.versions.readers.versions.files)
          (none-left w held.limits.snaps held.slots course u.transaction.tsn.number held-still shown.versions.readers.versions.files)
          (p.readers g held.limits.snaps course shown.versions.waiting shown.versions.readers);
      slots = still-held w held.limits.snaps held.slots course u.transaction.tsn.number held-still shown.versions.readers.versions.files;
      used = shown.versions.used;
      unused = shown.versions.unused;
      waits = tt;
      waits_beside = λ t apart. ap (λ b. if b then [] else shown.versions.waiting t) apart;
      reads = λ t. refl;
    }

  fewer : (a b : ℕ) → a ≡ 2 → b ≡ 1 → b < a
  fewer a b two one = omega (arith, two, one)

  -- it goes on
  pub does-restore : DoesOn s (stand_at held.members s) (λ h g. GoesOn s h g) v held w (with_member s n held)
  does-restore = subst (λ x. DoesOn s (stand_of x) (λ h g. GoesOn s h g) v held w (with_member s n held)) (sym was)
      (does-apart v w held (record (with_member s n held) { numbers = held.numbers }) s m n was (becomes-member held held.numbers s n) (λ e. cc) only.told (reads-leave v w only) restored-now
      only.later only.no_fewer (stand_of (Some m)) (λ h g. GoesOn s h g) (ap (λ x. bare (seat_with x [] [])) (sym at))
      (λ h shown stands c is. let undone = undone-at shown.ledger stands in not_undoing v shown.ledger s shown.facts undone.all 0 undone.stands c is) (λ h shown stands. record { lines = refl; journal = refl; commit = refl }) space-same
      (λ h g start related moves. record {
        moves = subst (λ x. Moves s x h g) (ap (λ x. seat_with x (writes_in m.written.lines) start) (sym at) ∙ sym related.seat) moves;
        less = fewer (h.steps s) (g.steps s) (related.steps ∙ ap (λ x. steps_in x m) at) related.steps_behind;
      }))
