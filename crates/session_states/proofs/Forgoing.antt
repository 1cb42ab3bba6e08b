-- No memory was found for a statement.
use Rattle.std.proofs.Common.{◌≡◌, ℕ, ◌∷◌, [], ◌&&◌, Bool, true, false, List, map, refl, ◌∙◌, sym, subst, Some}
use Rattle.rdo_ast.specs.declared.reply.Reply.TheVariants.{NoMemory}
use Rattle.rdo_ast.specs.declared.reply.Standing.{Standing}
use Rattle.rdo_ast.specs.declared.syntax.Item.{Item}
use Rattle.rdo_ast.specs.Tree.{Uttered}
use Rattle.rdo_ast.specs.Views.{uttered_of}
use Rattle.lock_needs.specs.declared.need.Need.{Need}
use Rattle.lock_needs.specs.Waits.{converts_at}
use Rattle.lock_tree_laws.specs.Forest.{State}
use Rattle.lock_tree_laws.specs.Wanted.{needs_of}
use Rattle.rdb_account.specs.Events.{Said}
use Rattle.rdb_account.specs.Places.{Line, after}
use Rattle.rdb_account.specs.Legal.{ends_by}
use Rattle.line_view.specs.Held.{Held}
use Rattle.line_steps.specs.session_jobs.Records.{Model, IsOrderly}
use Rattle.line_steps.proofs.of_lock_ties.Got.{ended-tied}
use Rattle.line_steps.specs.Members.{member, writing}
use Rattle.line_steps.specs.Right.{Writes}
use Rattle.line_steps.specs.Steps.{Here}
use Rattle.line_steps.proofs.Saying.{refuses-writing}
use Rattle.session_states.specs.declared.stage.Stage.{Stage}
use Rattle.session_states.specs.declared.stage.Stage.TheVariants.{Between}
use Rattle.session_states.specs.declared.stage.Phase.TheVariants.{Writing}
use Rattle.session_states.specs.States.{item_of, is_at_rest, writer, session}
use Rattle.session_states.specs.Shared.{Shared, with_locks, RestsWith}
use Rattle.session_states.specs.Steps.{Step}
use Rattle.session_states.proofs.Basics.{said-first}
use Rattle.session_states.proofs.Ends.{needs-still}
use Rattle.session_states.proofs.Locking.{desk-resting}
use Rattle.session_states.proofs.Journal.{resting-free}
use Rattle.line_steps.specs.Images.{journal_node}
use Rattle.session_states.proofs.Resting.{leaves-others}
use Rattle.store_counts.proofs.Kept.{counted-events}
use Rattle.session_states.proofs.Storing.{said-needs, said-more, nowait-said}

-- what isn't done ends no transaction
pub and-undone : (b : Bool) → (b && false) ≡ false
and-undone true = refl
and-undone false = refl

module _ (M : Model) (orderly : IsOrderly M) where
  -- The statement under way is answered so, its want ends, and the transaction goes on.
  pub forgoes-on : (s : ℕ) (c : Shared) (locks : State) (left : List Item) (total : ℕ) (standing : Standing) (known : Held) (waits : Bool) (stage : Stage) (item : Uttered) → is_at_rest stage ≡ true → item_of stage ≡ Some item →
      RestsWith s (needs_of c.locks s) c.locks locks →
      Step M s c (session left total (Writing (writer standing known true waits stage))) (with_locks locks c) (session left total (Writing (writer standing known true waits Between))) (Said s item [] NoMemory ∷ [])
  forgoes-on s c locks left total standing known waits stage item idle is rests = record {
    word = refl;
    others = record { store = (leaves-others s c).store; locks = rests.others };
    moments = (tt, tt);
    leaves = λ o p g f.
        let items = map uttered_of left in
        let l : Line = record { item = item; choices = []; reply = NoMemory } in
        let here : Here M o p g s (member items (writing standing (Some item)) total) = subst (λ u. Here M o p g s (member items (writing standing u) total)) is f.here in
        let w : Writes M o p g s standing (Some item) = here.stands.state in
        let at = desk-resting M orderly p g c s standing known stage idle f.fits.phase.desk in
        record {
          ground = g;
          steps = refuses-writing M orderly o p g s items total standing l here refl (λ t sound. tt) refl (said-first (p.transaction s) item NoMemory f.fits.phase.spoken) (and-undone (ends_by item));
          fits = record {
            ground = record { now = f.fits.ground.now; time = f.fits.ground.time; dead = f.fits.ground.dead };
            tied = ended-tied c.locks locks s p (after o p (Said s item [] NoMemory)) f.fits.tied rests.others rests.ended rests.trail refl
                (λ t. said-needs o p s w.transaction l w.is_open t ∙ (f.fits.tied.needs t ∙ needs-still s c.locks locks rests.others rests.needs t));
            phase = record {
              desk = (at.0, at.1);
              spoken = said-more o p s w.transaction l w.is_open;
              waits = nowait-said o p s w.transaction l w.is_open ∙ f.fits.phase.waits;
              stage = refl;
              wants = rests.ended;
              journal = subst (λ (ws : List Need). converts_at ws journal_node ≡ false) (sym rests.needs) (resting-free stage (needs_of c.locks s) idle f.fits.phase.journal);
              ends = tt;
              claims = tt;
            };
          };
          counted = counted-events o p (Said s item [] NoMemory ∷ []) c.shelf (tt, tt) f.counted;
        };
  }
