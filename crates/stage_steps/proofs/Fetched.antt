-- What was locked is read, by a step of the store.
use Rattle.std.proofs.Common.{ℕ, Bool, [], List, refl}
use Rattle.rdo_ast.specs.declared.reply.Standing.{Standing}
use Rattle.rdo_ast.specs.declared.syntax.Item.{Item}
use Rattle.lock_needs.specs.declared.need.Need.{Need as LockNeed}
use Rattle.line_view.specs.declared.need.Need.{Need}
use Rattle.line_view.specs.Held.{Held, knows}
use Rattle.line_view.specs.Knowledge.{IsInOrder, Agrees}
use Rattle.kept_apart.specs.Alike.{IsGuarded}
use Rattle.line_store.specs.Shelves.{Shelf, seen_by}
use Rattle.rdb_account.specs.Places.{Opening, Place}
use Rattle.line_store.specs.Calls.{Moves}
use Rattle.session_limits.specs.store_counts.Counts.{IsCounted}
use Rattle.session_limits.proofs.of_store_counts.Kept.{counted-same}
use Rattle.session_jobs.specs.Records.{Model, IsOrderly}
use Rattle.stepped_jobs.specs.Needs.{IsLocked}
use Rattle.session_limits.specs.session_states.declared.stage.Work.TheVariants.{Due, Fetching}
use Rattle.session_limits.specs.session_states.declared.stage.Stage.TheVariants.{Working}
use Rattle.session_limits.specs.session_states.declared.stage.Phase.TheVariants.{Writing}
use Rattle.session_limits.specs.session_states.States.{writer}
use Rattle.session_limits.specs.session_states.Shared.{Shared, with_shelf}
use Rattle.session_limits.proofs.of_session_states.Working.{reads}
use Rattle.stage_steps.specs.Turns.{Comes}

module _ (M : Model) (orderly : IsOrderly M) (s : ℕ) (c : Shared) (shelf : Shelf) (standing : Standing) (known new : Held) (item : Item) (n : Need) (moves : Moves s (c.shelf.seat s) c.shelf shelf)
    (agrees : IsInOrder (seen_by s c.shelf) → Agrees (knows known) (seen_by s c.shelf) → Agrees (knows new) (seen_by s c.shelf)) where
  counted : {A : Type 0} (o : Opening) (p : Place) → A → IsCounted o p c.shelf → IsCounted o p shelf
  counted o p h k = counted-same o p s c.shelf shelf k moves.others moves.now moves.space moves.mine

  module _ (spoken waits : Bool) (guarded : (got : List LockNeed) → IsLocked got n → IsGuarded got (knows known) → IsGuarded got (knows new)) where
    -- not yet all of it
    pub read-on : Comes M s c (Writing (writer standing known spoken waits (Working item (Fetching n)))) (with_shelf shelf c) (Writing (writer standing new spoken waits (Working item (Fetching n)))) []
    read-on left total =
        reads M orderly s c shelf left total standing known new spoken waits item (Fetching n) (Fetching n) n
        (λ got h. h) (λ got h. h) (λ ws seat h. h) (λ ws seat h. h) (λ p h. h) counted refl moves.others moves.now moves.mine (record { agrees = agrees; guarded = guarded })

    pub read-up : Comes M s c (Writing (writer standing known spoken waits (Working item (Fetching n)))) (with_shelf shelf c) (Writing (writer standing new spoken waits (Working item Due))) []
    read-up left total =
        reads M orderly s c shelf left total standing known new spoken waits item (Fetching n) Due n
        (λ got h. h) (λ got h. tt) (λ ws seat h. h) (λ ws seat h. h) (λ p h. tt) counted refl moves.others moves.now moves.mine (record { agrees = agrees; guarded = guarded })
