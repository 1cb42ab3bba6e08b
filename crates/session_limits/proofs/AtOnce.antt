-- A statement whose record isn't done is said at once, whatever it would write.
use Rattle.std.proofs.Common.{◌≡◌, ℕ, ◌∷◌, [], Bool, true, false, List, refl}
use Rattle.rdo_ast.specs.declared.reply.Standing.{Standing}
use Rattle.rdo_ast.specs.declared.syntax.Item.{Item}
use Rattle.rdo_ast.specs.Views.{uttered_of}
use Rattle.rdb_account.specs.Events.{Said}
use Rattle.rdb_account.specs.Places.{is_done}
use Rattle.line_view.specs.Held.{Held, knows}
use Rattle.session_jobs.specs.Records.{Model, IsOrderly}
use Rattle.session_jobs.specs.Jobs.{IsFound, worked_of}
use Rattle.session_jobs.specs.declared.jobs.TxRecord.{TxRecord}
use Rattle.session_jobs.specs.declared.jobs.Found.TheVariants.{Done}
use Rattle.session_states.specs.declared.stage.Work.TheVariants.{Out}
use Rattle.session_states.specs.declared.stage.Laying.TheVariants.{Claiming}
use Rattle.session_states.specs.declared.stage.Stage.TheVariants.{Working, Saying}
use Rattle.session_states.specs.declared.stage.Phase.TheVariants.{Writing}
use Rattle.session_states.specs.Turns.{said_writer}
use Rattle.session_states.specs.States.{writer, session}
use Rattle.session_states.specs.Shared.{Shared}
use Rattle.session_states.specs.Steps.{Step}
use Rattle.session_states.proofs.InTurn.{steps-on}
use Rattle.session_states.proofs.Storing.{says-at-once}
use Rattle.session_states.proofs.Working.{returns-done}
use Rattle.session_limits.proofs.Undone.{right-unwritten}

module _ (M : Model) (orderly : IsOrderly M) where
  abbrev without_writes : TxRecord → TxRecord
  without_writes x = record x { writes = [] }

  pub undone-on : (s : ℕ) (c : Shared) (left : List Item) (total : ℕ) (standing : Standing) (known : Held) (waits : Bool) (item : Item) (x : TxRecord) → is_done x.reply ≡ false → IsFound M c.word standing (uttered_of item) (knows known) (Done x) →
      Step M s c (session left total (Writing (writer standing known true waits (Working item Out)))) c (session left total (Writing (said_writer x known waits))) (Said s (uttered_of item) x.choices x.reply ∷ [])
  undone-on s c left total standing known waits item x undone found =
      let y = without_writes x in
      steps-on M orderly s c c c (session left total (Writing (writer standing known true waits (Working item Out)))) (session left total (Writing (writer standing known true waits (Saying item y (Claiming 0))))) (session left total (Writing (said_writer y known waits))) [] (Said s (uttered_of item) x.choices x.reply ∷ []) refl tt
      (returns-done M orderly s c left total standing known true waits item y (record { right = right-unwritten M c.word standing (knows known) (worked_of (uttered_of item) x) undone found.right; asked = λ all t m agrees. tt }))
      (says-at-once M orderly s c left total standing known true waits item y 0 refl refl)
