-- A commit of no lines.
use Rattle.std.proofs.Common.{◌≡◌, ℕ, IsTrue, List, [], ◌∷◌, length, Some, refl, sym, ap, subst, ◌∙◌, arith}
use Rattle.std.specs.Prelude.{slice_get}
use Rattle.rdb_types.specs.declared.keys.Dbkey.{Dbkey}
use Rattle.rdb_types.specs.declared.keys.Line.{Line}
use Rattle.rdb_outside.specs.Disk.{View, LeftNow}
use Rattle.line_view.specs.declared.writes.Write.{Write}
use Rattle.line_view.specs.Writes.{laid_all}
use Rattle.line_store.specs.Seats.{closing}
use Rattle.line_store.specs.Calls.{IsCommitted}
use Rattle.member_steps.specs.declared.committing.CommitTurn.TheVariants.{Entering}
use Rattle.member_memory.specs.Memory.{AreKeysOf, writes_in}
use Rattle.disk_store.specs.declared.member.Member.{Member}
use Rattle.disk_store.specs.declared.member.MemberStage.TheVariants as stage
use Rattle.disk_store.specs.Memory.{StoreMemory, with_member, at_stage}
use Rattle.disk_store.specs.Seats.{seat_with}
use Rattle.disk_store.specs.Standing.{HasEntered, StageStands}
use Rattle.disk_store.specs.Shown.{DoesOn}
use Rattle.disk_store.proofs.EndingOpen.{does-end-at}
use Rattle.disk_store.proofs.Stages.{may-end-begun}

none-written : (lines : List (Dbkey × Line)) → length lines ≡ 0 → writes_in lines ≡ []
none-written [] none = refl
none-written (l ∷ ls) none = absurd (omega (arith, none))

module _ (v : View) (held : StoreMemory) (s : ℕ) (m : Member) (was : slice_get held.members s ≡ Some m) (k : ℕ) (at : m.stage ≡ stage.Committing (Entering k)) (none : length m.written.keys ≡ 0) (keys : AreKeysOf m.written.lines m.written.keys) (left : IsTrue v.tells → LeftNow v v.content) where
  no-writes : writes_in m.written.lines ≡ []
  no-writes = none-written m.written.lines (sym keys.long ∙ none)

  pub does-commit-none : (moment : ℕ) → moment ≡ v.moment → DoesOn s closing (λ h g. IsCommitted s moment h g) v held v (with_member s (at_stage stage.Closing m) held)
  does-commit-none moment now =
      does-end-at v held s m was stage.Closing left (λ g rests. rests) (λ waiting. tt) (λ e. cc) refl
      (λ g stands. let entered : HasEntered v g s m k = subst (λ st. StageStands st v g s m) at stands in may-end-begun g s m entered.journalled.begun)
      closing (λ h g. IsCommitted s moment h g) refl
      (λ h g start seat time moves. record {
        writes = writes_in m.written.lines;
        was = seat ∙ ap (λ st. seat_with st (writes_in m.written.lines) start) at;
        commits = record {
          now = moves.now ∙ ap (λ (ws : List Write). laid_all ws h.now) (sym no-writes);
          mine = moves.mine;
          others = moves.others;
          space = record { limits = moves.space.limits; taken = moves.space.taken; snaps = moves.space.snaps; slots = let fewer = moves.space.slots in omega (arith, fewer) };
          at = now ∙ sym time;
        };
      })
