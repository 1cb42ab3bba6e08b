-- How a session stands at a round of needs, as memory knows it.
use Rattle.std.proofs.Common.{◌≡◌, ℕ, ◌+◌, Bool, false, [], List, Option, Some, None, sym, subst}
use Rattle.std.specs.Prelude.{MatchOption, slice_get}
use Rattle.rdo_ast.specs.declared.reply.Standing.{Standing}
use Rattle.rdo_ast.specs.declared.syntax.Item.{Item}
use Rattle.rdo_ast.specs.Views.{uttered_of}
use Rattle.rdb_account.specs.Legal.{ends_by}
use Rattle.lock_tree_laws.specs.Forest.{State, opened_of}
use Rattle.lock_tree_laws.specs.Wanted.{needs_of}
use Rattle.line_view.specs.declared.need.Need.{Need}
use Rattle.line_view.specs.Held.{Held}
use Rattle.line_store.specs.Seats.{Seat, writing}
use Rattle.line_store.specs.Sights.{bare}
use Rattle.stage_steps.specs.session_states.declared.stage.Gather.{Gather}
use Rattle.stage_steps.specs.session_states.declared.stage.Gather.TheVariants.{Locking}
use Rattle.stage_steps.specs.session_states.declared.stage.Work.TheVariants.{Due}
use Rattle.stage_steps.specs.session_states.declared.stage.Stage.{Stage}
use Rattle.stage_steps.specs.session_states.declared.stage.Stage.TheVariants.{Working, Gathering}
use Rattle.stage_steps.specs.session_states.declared.stage.Phase.TheVariants.{Writing}
use Rattle.stage_steps.specs.session_states.Locks.{HasJournal}
use Rattle.stage_steps.specs.session_states.States.{writer}
use Rattle.stage_steps.specs.session_stands.Seated.{IsSeated}
use Rattle.stage_steps.proofs.Seated.{rests-at}

module _ (stand : ℕ → Seat) (locks : State) (s : ℕ) (standing : Standing) (known : Held) (spoken waits : Bool) (item : Item) (at : bare (stand s) ≡ writing []) (ended : opened_of locks s ≡ None) (needs : HasJournal false (needs_of locks s)) (statement : ends_by (uttered_of item) ≡ false) where
  pub gathering-seat : (gather : Gather) (later : List Need) (place : ℕ) → IsSeated stand locks s (Writing (writer standing known spoken waits (Gathering item gather later place)))
  gathering-seat gather later place = rests-at stand locks s (writer standing known spoken waits (Gathering item gather later place)) at ended needs statement

  pub due-seat : IsSeated stand locks s (Writing (writer standing known spoken waits (Working item Due)))
  due-seat = rests-at stand locks s (writer standing known spoken waits (Working item Due)) at ended needs statement

  -- behind a need that was read
  pub behind-seat : (later : List Need) (place : ℕ) (stage : Stage) → MatchOption (slice_get later place) (stage ≡ Working item Due) (λ m. stage ≡ Gathering item (Locking m) later (place + 1)) → IsSeated stand locks s (Writing (writer standing known spoken waits stage))
  behind-seat later place stage is = by (slice_get later place) is
    where
      by : (x : Option Need) → MatchOption x (stage ≡ Working item Due) (λ m. stage ≡ Gathering item (Locking m) later (place + 1)) → IsSeated stand locks s (Writing (writer standing known spoken waits stage))
      by None e = subst (λ (y : Stage). IsSeated stand locks s (Writing (writer standing known spoken waits y))) (sym e) due-seat
      by (Some m) e = subst (λ (y : Stage). IsSeated stand locks s (Writing (writer standing known spoken waits y))) (sym e) (gathering-seat (Locking m) later (place + 1))
