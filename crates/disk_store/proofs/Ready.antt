-- A session is prepared to commit, with the classes of its lines.
use Rattle.std.proofs.Common.{◌≡◌, ℕ, List, [], Some, refl, sym, ap, subst, ◌∙◌, arith}
use Rattle.std.specs.Prelude.{slice_get}
use Rattle.rdb_outside.specs.Disk.{View}
use Rattle.line_store.specs.Seats.{IsWriting, prepared, prepared_by, in_flight}
use Rattle.line_store.specs.Calls.{Moves}
use Rattle.line_store.specs.Sights.{Prepares}
use Rattle.ledger_versions.specs.disk_seats.Ledgers.{Ledger}
use Rattle.member_memory.specs.Memory.{writes_in}
use Rattle.disk_store.specs.declared.member.Member.{Member}
use Rattle.disk_store.specs.declared.member.MemberStage.TheVariants as stage
use Rattle.disk_store.specs.Memory.{StoreMemory, with_member}
use Rattle.disk_store.specs.Seats.{seat_with}
use Rattle.disk_store.specs.Standing.{HasJournalled, StageStands}
use Rattle.disk_store.specs.Shown.{DoesOn, WaitsAs}
use Rattle.disk_store.specs.Commits.{IsPreparedWith}
use Rattle.disk_store.proofs.Stages.{is-writing, prepared-now}
use Rattle.disk_store.proofs.Kept.{kept-stays}
use Rattle.disk_store.proofs.Stepping.{does-step, becomes-member, space-same}
use Rattle.disk_store.proofs.Passing.{passes-none, none-leaves, same-ledger}

module _ (v : View) (held : StoreMemory) (s : ℕ) (m n : Member) (was : slice_get held.members s ≡ Some m) (writes : IsWriting (seat_with m.stage [] [])) where
  abbrev k : Member
  k = record m { stage = stage.Prepared; classes = n.classes }

  at : m.stage ≡ stage.Writing
  at = is-writing m.stage writes

  journalled : (g : Ledger) → HasJournalled g s m → HasJournalled g s k
  journalled g has = record {
    begun = record { transaction = has.begun.transaction; all = has.begun.all; stable = has.begun.stable; stands = has.begun.stands; is_open = has.begun.is_open; number = has.begun.number; count = has.begun.count; keys = has.begun.keys };
    all_written = has.all_written;
  }

  ready : DoesOn s (prepared []) (Prepares s) v held v (with_member s k held)
  ready = does-step v v held (record (with_member s k held) { numbers = held.numbers }) s m k was (becomes-member held held.numbers s k) (λ e. cc) refl (none-leaves v)
      (λ h shown stands. same-ledger v v (passes-none v) held s k h shown (λ t apart. refl) shown.numbers.ceiling (kept-stays held.members s held.numbers.next held.numbers.written m k was (omega arith) shown.kept) shown.facts (journalled shown.ledger (subst (λ st. StageStands st v shown.ledger s m) at stands)) (subst (λ st. WaitsAs st shown.versions.waiting s m) at (shown.versions.waits s m was)))
      (omega arith) (omega arith) (prepared []) (Prepares s) refl
      (λ ws start. ap (λ st. in_flight (seat_with st ws start)) at) (λ h shown stands. record { lines = refl; journal = refl; commit = refl }) space-same
      (λ h g start related moves. subst (λ seat. Moves s seat h g) (sym (ap prepared_by related.seat ∙ prepared-now m (writes_in m.written.lines) start writes)) moves)

  pub does-ready : (classes : List ℕ) → IsPreparedWith classes m n → DoesOn s (prepared []) (Prepares s) v held v (with_member s n held)
  does-ready classes is = subst (λ (x : Member). DoesOn s (prepared []) (Prepares s) v held v (with_member s x held)) (sym is.is) ready
