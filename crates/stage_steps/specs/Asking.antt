-- A call on the tree of locks for a stage's lock.
use Rattle.std.specs.Prelude.{◌≡◌, ◌⊎◌, ℕ, Bool, true, false, is_some}
use Rattle.rdo_ast.specs.declared.reply.Reply.{Reply}
use Rattle.rdo_ast.specs.declared.reply.Reply.TheVariants.{LockConflict, Deadlock as CyclicWait, NoMemory}
use Rattle.rdo_ast.specs.Tree.{Uttered}
use Rattle.rdo_ast.specs.Views.{uttered_of}
use Rattle.rdb_account.specs.Legal.{ends_by}
use Rattle.session_limits.specs.session_states.declared.stage.Stage.{Stage}
use Rattle.session_limits.specs.session_states.declared.stage.Stage.TheVariants.{Working, Gathering, Reserving, Saying}
use Rattle.lock_tree_laws.specs.declared.answer.Want.TheVariants.{Conflict, Deadlock}
use Rattle.lock_needs.specs.declared.need.Need.{Need}
use Rattle.lock_tree_laws.specs.Forest.{State, IsWhole, NeedsAreApart, opened_of}
use Rattle.lock_tree_laws.specs.Progress.{LeavesLocks, MovesOn}
use Rattle.lock_tree_laws.specs.Wanted.{Answered, needs_of}
use Rattle.lock_tree_laws.specs.Rule.{Finishes, GoesDown, entered}
use Rattle.lock_tree_laws.specs.declared.answer.Want.{Want}
use Rattle.lock_ties.specs.Ties.{IsCall}
use Rattle.stage_steps.specs.declared.calling.Called.{Called}

-- a statement is under way that doesn't end its transaction
abbrev pub IsOfStatement : Stage → Type 0
IsOfStatement (Working item work) = ends_by (uttered_of item) ≡ false
IsOfStatement (Gathering item gather later place) = ends_by (uttered_of item) ≡ false
IsOfStatement (Reserving item worked locks place) = ends_by (uttered_of item) ≡ false
IsOfStatement (Saying item worked laying) = ends_by (uttered_of item) ≡ false
IsOfStatement _ = ⊥

-- The reply to an item that doesn't end its transaction, whose lock is refused so. Where no memory is found to name a cycle, that is said.
abbrev pub IsReplyTo : Uttered → Want → Reply → Type 0
IsReplyTo item (Conflict t) reply = (reply ≡ LockConflict t) × (ends_by item ≡ false)
IsReplyTo item (Deadlock cycle) reply = ((reply ≡ CyclicWait cycle) ⊎ (reply ≡ NoMemory)) × (ends_by item ≡ false)
IsReplyTo item _ reply = ⊥

-- The want was answered so by the tree's rule, and was asked at these nodes. The tree was and is whole. No lock of another is weaker, and a want that was open moves on.
pub record IsCalled (s : ℕ) (n : Need) (wait : Bool) (old new : State) (x : Called) : Type 0 where
  pub call : IsCall s n old new
  pub no_weaker : LeavesLocks s old.table new.table
  pub progress : is_some (opened_of old s) ≡ true → MovesOn s old new x.answer
  pub nodes : call.asks.nodes ≡ x.asking.nodes
  pub need : x.asking.need ≡ n
  pub was_whole : IsWhole old
  pub whole : IsWhole new
  pub apart : NeedsAreApart new
  pub by_rule : GoesDown s n wait (Finishes s x.answer) (entered old s) new
  pub answered : Answered (needs_of old s) new s n wait x.answer
