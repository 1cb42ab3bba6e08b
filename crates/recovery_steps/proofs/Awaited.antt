-- A member whose commit is to be judged, as memory has it.
use Rattle.std.proofs.Common.{◌≡◌, ◌≤◌, ℕ, Bool, true, length, Some, ap, subst, ◌∙◌}
use Rattle.std.specs.Prelude.{slice_get}
use Rattle.store_endings.specs.disk_store.declared.member.Member.{Member}
use Rattle.store_endings.specs.disk_store.declared.member.MemberStage.TheVariants as stage
use Rattle.store_endings.specs.disk_store.declared.member.Recovery.TheVariants as recovery
use Rattle.store_endings.specs.disk_store.Commits.{is_flying, KeepsCommits}
use Rattle.store_endings.specs.disk_store.Memory.{StoreMemory}
use Rattle.store_endings.specs.disk_store.Seats.{IsAtStage}
use Rattle.store_endings.proofs.of_disk_store.Closing.{one-member}
use Rattle.store_endings.proofs.of_disk_store.CommitsKept.{ready-judged}

-- its commit was under way, and has a line
pub record IsAwaited (m : Member) (commits : Bool) : Type 0 where
  pub at : m.stage ≡ stage.Dead commits recovery.Judging
  pub commits_is : commits ≡ true
  pub flies : is_flying m.stage ≡ true
  pub some : 1 ≤ length m.written.keys

pub awaited : (held : StoreMemory) (s : ℕ) (m : Member) (commits : Bool) → KeepsCommits held → IsAtStage held.members s (stage.Dead commits recovery.Judging) → slice_get held.members s ≡ Some m → IsAwaited m commits
awaited held s m commits keeps died was =
    let at : m.stage ≡ stage.Dead commits recovery.Judging = subst (λ (x : Member). x.stage ≡ stage.Dead commits recovery.Judging) (one-member held.members s died.member m died.is was) died.at in
    let ready = ready-judged held s m commits keeps was at in
    record { at = at; commits_is = ready.0; flies = ap is_flying at ∙ ready.0; some = ready.1 }
