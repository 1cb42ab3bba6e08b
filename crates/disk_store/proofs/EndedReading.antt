-- A session ends its reading.
use Rattle.std.proofs.Common.{◌≡◌, ℕ, List, [], Some, None, refl, ap, subst, ◌∙◌, arith}
use Rattle.std.specs.Prelude.{slice_get}
use Rattle.rdb_outside.specs.Disk.{View}
use Rattle.line_view.specs.declared.writes.Write.{Write}
use Rattle.line_view.specs.Knowledge.{Lines}
use Rattle.line_versions.specs.Versions.{Start}
use Rattle.line_store.specs.Seats.{IsReader, outside, in_flight}
use Rattle.line_store.specs.Calls.{Moves}
use Rattle.disk_store.specs.declared.member.Member.{Member}
use Rattle.disk_store.specs.declared.member.MemberStage.{MemberStage}
use Rattle.disk_store.specs.declared.member.MemberStage.TheVariants as stage
use Rattle.disk_store.specs.Memory.{StoreMemory, with_member}
use Rattle.disk_store.specs.Readers.{keeping}
use Rattle.disk_store.specs.Seats.{IsAtStage, seat_with}
use Rattle.disk_store.specs.Standing.{StageStands}
use Rattle.disk_store.specs.Shown.{DoesOn}
use Rattle.disk_store.proofs.Members.{get-within, set-here}
use Rattle.disk_store.proofs.Stepping.{does-step, becomes-member, space-same}
use Rattle.disk_store.proofs.Kept.{kept-stays}
use Rattle.disk_store.proofs.Passing.{passes-none, none-leaves, same-ledger}

pub is-reader : (st : MemberStage) → IsReader (seat_with st [] []) → st ≡ stage.Reading
is-reader stage.Outside is = absurd is
is-reader (stage.Beginning ceiling) is = absurd is
is-reader stage.Writing is = absurd is
is-reader stage.Changing is = absurd is
is-reader stage.Broken is = absurd is
is-reader stage.Prepared is = absurd is
is-reader (stage.Committing turn) is = absurd is
is-reader stage.RollingBack is = absurd is
is-reader stage.Closing is = absurd is
is-reader stage.Reading is = refl
is-reader (stage.Dead commits left) is = absurd is

module _ (v : View) (held : StoreMemory) (s : ℕ) (m : Member) (was : slice_get held.members s ≡ Some m) (reads : IsReader (seat_with m.stage [] [])) (start : Start) where
  abbrev n : Member
  n = keeping stage.Outside start m

  at : m.stage ≡ stage.Reading
  at = is-reader m.stage reads

  still : (ws : List Write) (from : Lines) → in_flight (seat_with m.stage ws from) ≡ None
  still ws from = ap (λ x. in_flight (seat_with x ws from)) at

  pub does-end-reading : DoesOn s outside (Moves s outside) v held v (with_member s n held)
  does-end-reading =
      does-step v v held (record (with_member s n held) { numbers = held.numbers }) s m n was (becomes-member held held.numbers s n) (λ e. cc) refl (none-leaves v)
      (λ h shown stands. same-ledger v v (passes-none v) held s n h shown (λ t apart. refl) shown.numbers.ceiling (kept-stays held.members s held.numbers.next held.numbers.written m n was (omega arith) shown.kept) shown.facts (subst (λ x. StageStands x v shown.ledger s m) at stands) tt)
      (omega arith) (omega arith) outside (Moves s outside) refl still (λ h shown stands. record { lines = refl; journal = refl; commit = refl }) space-same (λ h g from related moves. moves)

pub kept-outside : (held mid : StoreMemory) (s : ℕ) (m : Member) (start : Start) → slice_get held.members s ≡ Some m → mid ≡ with_member s (keeping stage.Outside start m) held → IsAtStage mid.members s stage.Outside
kept-outside held mid s m start was is = record {
  member = keeping stage.Outside start m;
  is = ap (λ (x : StoreMemory). slice_get x.members s) is ∙ set-here held.members s (keeping stage.Outside start m) (get-within held.members s m was);
  at = refl;
}
