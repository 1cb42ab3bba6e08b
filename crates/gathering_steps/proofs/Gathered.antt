-- A need is read, by a step of the store, and the next one is wanted or the job is due.
use Rattle.std.proofs.Common.{◌≡◌, ℕ, ◌+◌, Bool, [], List, refl, sym, subst, Option, Some, None, slice_get}
use Rattle.std.specs.Prelude.{MatchOption}
use Rattle.rdo_ast.specs.declared.reply.Standing.{Standing}
use Rattle.rdo_ast.specs.declared.syntax.Item.{Item}
use Rattle.line_view.specs.declared.need.Need.{Need}
use Rattle.line_view.specs.Held.{Held}
use Rattle.line_store.specs.Shelves.{Shelf}
use Rattle.line_store.specs.Calls.{Moves}
use Rattle.store_counts.proofs.Kept.{counted-same}
use Rattle.session_jobs.specs.Records.{Model, IsOrderly}
use Rattle.stepped_jobs.specs.More.{KnowsMore}
use Rattle.stage_steps.specs.session_states.declared.stage.Gather.TheVariants.{Locking, Reading}
use Rattle.stage_steps.specs.session_states.declared.stage.Work.TheVariants.{Due, Fetching}
use Rattle.stage_steps.specs.session_states.declared.stage.Stage.{Stage}
use Rattle.stage_steps.specs.session_states.declared.stage.Stage.TheVariants.{Working, Gathering}
use Rattle.stage_steps.specs.session_states.declared.stage.Phase.TheVariants.{Writing}
use Rattle.stage_steps.specs.session_states.States.{session, writer}
use Rattle.stage_steps.specs.session_states.Shared.{Shared, with_shelf}
use Rattle.stage_steps.specs.session_states.Fits.{Learns}
use Rattle.stage_steps.specs.session_states.Steps.{Step}
use Rattle.stage_steps.proofs.of_session_states.Gathering.{drops-read, reads-on, reads-more-of-it}
use Rattle.stage_steps.proofs.of_session_states.InTurn.{steps-on}
use Rattle.stage_steps.proofs.of_session_states.Working.{reads}

module _ (M : Model) (orderly : IsOrderly M) (s : ℕ) (c : Shared) (left : List Item) (total : ℕ) (standing : Standing) (known new : Held) (spoken waits : Bool) (item : Item) where
  module _ (g : Shelf) (n : Need) (later : List Need) (place : ℕ) (moves : Moves s (c.shelf.seat s) c.shelf g) (learns : Learns s c.shelf n known new) where
    -- the last need is read
    pub gathered-last : Step M s c (session left total (Writing (writer standing known spoken waits (Gathering item (Reading n) later place)))) (with_shelf g c) (session left total (Writing (writer standing new spoken waits (Working item Due)))) []
    gathered-last =
        steps-on M orderly s c c (with_shelf g c) (session left total (Writing (writer standing known spoken waits (Gathering item (Reading n) later place)))) (session left total (Writing (writer standing known spoken waits (Working item (Fetching n))))) (session left total (Writing (writer standing new spoken waits (Working item Due)))) [] [] refl tt
        (drops-read M orderly s c left total standing known spoken waits item n later place)
        (reads M orderly s c g left total standing known new spoken waits item (Fetching n) Due n
        (λ got h. h) (λ got h. tt) (λ ws seat h. h) (λ ws seat h. h) (λ p h. tt) (λ o p h counted. counted-same o p s c.shelf g counted moves.others moves.now moves.space moves.mine) refl moves.others moves.now moves.mine learns)

    module _ (more : KnowsMore known new) where
      pub gathered-more : Step M s c (session left total (Writing (writer standing known spoken waits (Gathering item (Reading n) later place)))) (with_shelf g c) (session left total (Writing (writer standing new spoken waits (Gathering item (Reading n) later place)))) []
      gathered-more = reads-more-of-it M orderly s c g left total standing known new spoken waits item n later place moves.others moves.now moves.mine moves.space learns more

      pub gathered-on : (m : Need) → slice_get later place ≡ Some m → Step M s c (session left total (Writing (writer standing known spoken waits (Gathering item (Reading n) later place)))) (with_shelf g c) (session left total (Writing (writer standing new spoken waits (Gathering item (Locking m) later (place + 1))))) []
      gathered-on m found = reads-on M orderly s c g left total standing known new spoken waits item n m later place found moves.others moves.now moves.mine moves.space learns more

    -- whichever it is
    pub gathered-behind : KnowsMore known new → (stage : Stage) → MatchOption (slice_get later place) (stage ≡ Working item Due) (λ m. stage ≡ Gathering item (Locking m) later (place + 1)) →
        Step M s c (session left total (Writing (writer standing known spoken waits (Gathering item (Reading n) later place)))) (with_shelf g c) (session left total (Writing (writer standing new spoken waits stage))) []
    gathered-behind more stage is = by (slice_get later place) refl is
      where
        by : (x : Option Need) → slice_get later place ≡ x → MatchOption x (stage ≡ Working item Due) (λ m. stage ≡ Gathering item (Locking m) later (place + 1)) →
            Step M s c (session left total (Writing (writer standing known spoken waits (Gathering item (Reading n) later place)))) (with_shelf g c) (session left total (Writing (writer standing new spoken waits stage))) []
        by None found e = subst (λ (y : Stage). Step M s c (session left total (Writing (writer standing known spoken waits (Gathering item (Reading n) later place)))) (with_shelf g c) (session left total (Writing (writer standing new spoken waits y))) []) (sym e) gathered-last
        by (Some m) found e = subst (λ (y : Stage). Step M s c (session left total (Writing (writer standing known spoken waits (Gathering item (Reading n) later place)))) (with_shelf g c) (session left total (Writing (writer standing new spoken waits y))) []) (sym e) (gathered-on more m found)
