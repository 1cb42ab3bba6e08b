-- A push that fails: a slot may have been taken and written, which nobody follows, and the transaction can only end.
use Rattle.std.proofs.Common.{◌≡◌, ◌≤◌, ◌-◌, ℕ, zero, suc, IsTrue, Some, refl, sym, ap, subst, ◌∙◌, arith}
use Rattle.std.specs.Prelude.{slice_get}
use Rattle.std.proofs.lemmas.Bool.{false≢true}
use Rattle.rdb_types.specs.declared.keys.Dbkey.{Dbkey}
use Rattle.rdb_types.specs.declared.file.FileId.{FileId}
use Rattle.rdb_outside.specs.Causes.{Rose}
use Rattle.rdb_outside.specs.Disk.{View}
use Rattle.line_store.specs.Shelves.{Shelf}
use Rattle.line_store.specs.Calls.{Fails}
use Rattle.line_store.specs.Seats.{failed_at}
use Rattle.line_store.specs.declared.answers.Fault.{Fault}
use Rattle.line_store.specs.declared.answers.Fault.TheVariants.{Failed, Bad}
use Rattle.line_versions.specs.Versions.{Followed, snap_of}
use Rattle.line_versions.specs.Files.{snap_file}
use Rattle.disk_versions.proofs.Moves.{IsUnfollowed, kept_in_slot}
use Rattle.version_writing.specs.Tables.{HoldsAll, table_of}
use Rattle.version_writing.specs.declared.snapshot_slots.SnapshotSlots.{SnapshotSlots}
use Rattle.version_writing.proofs.Held.{holds_moved}
use Rattle.disk_seats.specs.Ledgers.{broken, stands_as}
use Rattle.disk_seats.specs.Members.{LedgerFacts}
use Rattle.ledger_versions.specs.Readers.{ReaderFacts}
use Rattle.ledger_versions.proofs.Written.{still_reads, still_slot}
use Rattle.disk_store.specs.declared.member.Member.{Member}
use Rattle.disk_store.specs.declared.member.MemberStage.TheVariants as stage
use Rattle.disk_store.specs.ChangeSteps.{TakesAside, broken_off}
use Rattle.disk_store.specs.Memory.{StoreMemory, with_member}
use Rattle.disk_store.specs.Seats.{stand_at}
use Rattle.disk_store.specs.Standing.{HasBegun}
use Rattle.disk_store.specs.Shown.{DoesOn, Shown}
use Rattle.disk_store.proofs.Kept.{kept-stays}
use Rattle.disk_store.proofs.Stepping.{Becomes}
use Rattle.disk_store.proofs.Passing.{header-beside, headers-all, passes-reads, aside-ceiling, slots-pass}
use Rattle.disk_store.proofs.Changed.{used-all}
use Rattle.change_steps.proofs.SnapWritten.{areas, snap-keeps, snap-tables}
use Rattle.disk_store.proofs.SpentSlots.{spends-all, space-less, keeps-less, stands-less}
use Rattle.change_steps.proofs.Breaking.{StaysShown, taken-broken, does-break}

-- what was taken aside, is no more in use or set aside than before
pub takes-fewer : (v w : View) (key : Dbkey) (chain : ℕ) (old new : SnapshotSlots) → TakesAside v w key chain old new → used-all new ≤ used-all old
takes-fewer v w key chain old new takes = spends-all old new (snap_of key) takes.others takes.spends

module _ (v w : View) (held : StoreMemory) (s : ℕ) (m : Member) (was : slice_get held.members s ≡ Some m) (at : m.stage ≡ stage.Changing) (key : Dbkey) (chain : ℕ) (slots : SnapshotSlots) (takes : TakesAside v w key chain held.slots slots) where
  abbrev n : Member
  n = broken_off chain (snap_of key) m

  abbrev behind : StoreMemory
  behind = record (with_member s n held) { slots = slots }

  fewer : used-all slots ≤ used-all held.slots
  fewer = takes-fewer v w key chain held.slots slots takes

  abbrev becomes : Becomes held behind s n
  becomes = record { limits = refl; members = refl; space_of = space-less held.slots slots; spaced = λ space has. stands-less held behind space refl refl refl fewer has }

  module _ (h : Shelf) (shown : Shown v held h) where
    abbrev followed : Followed
    followed = shown.versions.course.followed

    unfollowed : 1 ≤ chain → IsUnfollowed followed (snap_of key) (chain - 1)
    unfollowed some c first same follows =
        let one : chain ≡ c = omega (arith, some, first, same) in
        false≢true (sym (takes.free v.content followed held.limits.snaps shown.versions.slots some).0 ∙ ap (followed (snap_of key)) one ∙ follows)

    readers : (k : ℕ) → chain ≡ k → ReaderFacts w shown.ledger held.limits.snaps shown.versions.course shown.versions.waiting
    readers zero none = still_reads v w held.limits.snaps shown.versions.course shown.versions.waiting shown.ledger shown.tells shown.versions.readers (takes.reads none)
    readers (suc k) some = still_slot v w held.limits.snaps shown.versions.course shown.versions.waiting shown.ledger shown.tells shown.versions.readers (snap_of key) (chain - 1) (unfollowed (omega (arith, some))) takes.writes

    holds : (k : ℕ) → chain ≡ k → HoldsAll w.content followed held.limits.snaps slots
    holds zero none = takes.holds w.content followed held.limits.snaps (slots-pass v w (passes-reads v w shown.tells (takes.reads none)) followed held.limits.snaps held.slots shown.versions.slots)
    holds (suc k) some = takes.holds w.content followed held.limits.snaps (λ file is. holds_moved v.content w.content followed file held.limits.snaps (table_of held.slots file)
        (kept_in_slot v w followed (snap_of key) (chain - 1) shown.tells (unfollowed (omega (arith, some))) takes.writes) (shown.versions.slots file is))

    stays-shown : StaysShown v w s held behind h shown
    stays-shown = record {
      areas = areas v w (snap_of key) (chain - 1) shown.tells takes.writes;
      headers = headers-all v w s (header-beside v w (snap_file (snap_of key)) (chain - 1) shown.tells (λ e. cc) takes.writes);
      numbered = record {
        number = shown.numbers.number;
        first = shown.numbers.first;
        ceiling = aside-ceiling v w shown.tells (snap_file (snap_of key)) (chain - 1) (λ e. cc) takes.writes held.numbers shown.numbers.ceiling;
        group = shown.numbers.group;
      };
      kept = kept-stays held.members s held.numbers.next held.numbers.written m n was (omega arith) shown.kept;
      tabled = snap-tables v w (snap_of key) (chain - 1) shown.tells takes.writes shown.ledger held.tables shown.tables;
      used = shown.versions.used;
      unused = shown.versions.unused;
      readers = readers chain refl;
      slots = holds chain refl;
    }

    facts : HasBegun shown.ledger s m → LedgerFacts w (stands_as s broken shown.ledger)
    facts has = taken-broken w shown.ledger s m (subst IsTrue (sym takes.writes.told) shown.tells) has (snap-keeps v w (snap_of key) (chain - 1) shown.tells takes.writes shown.ledger shown.facts)

  pub does-push-fail : (fault : Fault) → (fault ≡ Failed → Rose v.faults w.faults) → ((h : Shelf) → Shown v held h → (file : FileId) (slot : ℕ) → fault ≡ Bad file slot → ⊥) → DoesOn s (failed_at (stand_at held.members s)) (λ h g. Fails s fault h g) v held w behind
  does-push-fail fault rose good = does-break v w held behind s m n was at becomes refl refl refl takes.writes.told takes.writes.leaves takes.writes.later takes.writes.no_fewer (λ h shown has. facts h shown has) (λ h shown. stays-shown h shown)
      (λ space. keeps-less held.slots slots space) fault rose good
