-- A room's line is read, its page is taken, and the rooms are known.
use Rattle.std.proofs.Common.{◌≡◌, ℕ, ◌+◌, Bool, [], List, refl, arith, Some, slice_get}
use Rattle.std.proofs.lemmas.Bool.{and_parts}
use Rattle.rdb_types.specs.declared.keys.Dbkey.{Dbkey}
use Rattle.rdo_ast.specs.declared.reply.Standing.{Standing}
use Rattle.rdo_ast.specs.declared.syntax.Item.{Item}
use Rattle.line_view.specs.declared.need.Need.{Need}
use Rattle.line_view.specs.declared.need.Need.TheVariants as need
use Rattle.line_view.specs.declared.need.Room.{Room}
use Rattle.line_view.specs.Held.{Held}
use Rattle.line_store.specs.Shelves.{Space, Shelf}
use Rattle.line_store.specs.Calls.{KeepsOthers, KeepsSpace, Moves}
use Rattle.line_store.specs.Rooms.{Takes}
use Rattle.store_counts.specs.Counts.{TakesAt, is_on_line, written_of}
use Rattle.store_counts.proofs.Kept.{counted-takes}
use Rattle.store_counts.proofs.Rooms.{takes-page, takes-nothing}
use Rattle.session_jobs.specs.Records.{Model, IsOrderly}
use Rattle.stepped_jobs.specs.More.{KnowsMore}
use Rattle.gathering_steps.specs.session_states.declared.stage.Gather.TheVariants.{Locking, Lodging as LodgingOf}
use Rattle.gathering_steps.specs.session_states.declared.stage.Work.TheVariants.{Due, Lodging}
use Rattle.gathering_steps.specs.session_states.declared.stage.Stage.TheVariants.{Working, Gathering}
use Rattle.gathering_steps.specs.session_states.declared.stage.Phase.TheVariants.{Writing}
use Rattle.gathering_steps.specs.session_states.States.{session, writer}
use Rattle.gathering_steps.specs.session_states.Shared.{Shared, with_shelf}
use Rattle.gathering_steps.specs.session_states.Fits.{Learns}
use Rattle.gathering_steps.specs.session_states.Steps.{Step}
use Rattle.gathering_steps.proofs.of_session_states.Gathering.{drops-lodging, lodges-more, lodges-on}
use Rattle.gathering_steps.proofs.of_session_states.InTurn.{steps-on}
use Rattle.gathering_steps.proofs.of_session_states.Working.{reads}

-- ---- what a call of the store leaves

others-same : (s : ℕ) (h : Shelf) → KeepsOthers s h h
others-same s h = record { seat = λ t apart. refl; steps = λ t apart. refl; later = record { later = omega arith; no_fewer = omega arith } }

space-same : (a : Space) → KeepsSpace a a
space-same a = record { limits = refl; taken = λ file page. refl; snaps = omega arith; slots = omega arith }

takes-others : (s : ℕ) (key : Dbkey) (h g : Shelf) → Takes key h g → KeepsOthers s h g
takes-others s key h g takes = record { seat = λ t apart. takes.seat t; steps = λ t apart. takes.steps t; later = takes.later }

pub more-refl : (h : Held) → KnowsMore h h
more-refl h = record { lines = λ key is. is; areas = λ area is. is; rooms = refl }

module _ (M : Model) (orderly : IsOrderly M) (s : ℕ) (c : Shared) (left : List Item) (total : ℕ) (standing : Standing) (known new : Held) (spoken waits : Bool) (item : Item) where
  -- ---- a room

  module _ (room : Room) (key : Dbkey) (later : List Need) (place : ℕ) where
    -- its line is read
    pub lodging-read : (g : Shelf) → Moves s (c.shelf.seat s) c.shelf g → Learns s c.shelf (need.Line key) known new → KnowsMore known new →
        Step M s c (session left total (Writing (writer standing known spoken waits (Gathering item (LodgingOf room key) later place)))) (with_shelf g c) (session left total (Writing (writer standing new spoken waits (Gathering item (LodgingOf room key) later place)))) []
    lodging-read g moves learns more = lodges-more M orderly s c g left total standing known new spoken waits item room key later place moves.others moves.now moves.mine moves.space learns more

    -- the rest is let go
    lets-go : (g : Shelf) → KeepsOthers s c.shelf g → g.now ≡ c.shelf.now → g.seat s ≡ c.shelf.seat s → TakesAt key c.shelf.space g.space → Learns s c.shelf (need.Line key) known new →
        Step M s c (session left total (Writing (writer standing known spoken waits (Gathering item (LodgingOf room key) later place)))) (with_shelf g c) (session left total (Writing (writer standing new spoken waits (Working item Due)))) []
    lets-go g others now mine takes learns =
        steps-on M orderly s c c (with_shelf g c) (session left total (Writing (writer standing known spoken waits (Gathering item (LodgingOf room key) later place)))) (session left total (Writing (writer standing known spoken waits (Working item (Lodging room key))))) (session left total (Writing (writer standing new spoken waits (Working item Due)))) [] [] refl tt
        (drops-lodging M orderly s c left total standing known spoken waits item room key later place)
        (reads M orderly s c g left total standing known new spoken waits item (Lodging room key) Due (need.Line key)
        (λ got h. h.0) (λ got h. tt) (λ ws seat h. h) (λ ws seat h. h) (λ p h. tt)
        (λ o p h counted. counted-takes o p s key c.shelf g (and_parts (is_on_line (written_of (p.transaction s)) key) (is_on_line p.touched key) h).1 counted others now mine takes) refl others now mine learns)

    pub lodged-off : Learns s c.shelf (need.Line key) known new → Step M s c (session left total (Writing (writer standing known spoken waits (Gathering item (LodgingOf room key) later place)))) c (session left total (Writing (writer standing new spoken waits (Working item Due)))) []
    lodged-off learns = lets-go c.shelf (others-same s c.shelf) refl refl (takes-nothing key c.shelf.space c.shelf.space (space-same c.shelf.space)) learns

    pub lodged-last : (g : Shelf) → Takes key c.shelf g → Learns s c.shelf (need.Line key) known new →
        Step M s c (session left total (Writing (writer standing known spoken waits (Gathering item (LodgingOf room key) later place)))) (with_shelf g c) (session left total (Writing (writer standing new spoken waits (Working item Due)))) []
    lodged-last g takes learns = lets-go g (takes-others s key c.shelf g takes) takes.now (takes.seat s) (takes-page key c.shelf g takes) learns

    pub lodged-on : (g : Shelf) (m : Need) → slice_get later place ≡ Some m → Takes key c.shelf g → Learns s c.shelf (need.Line key) known new → KnowsMore known new →
        Step M s c (session left total (Writing (writer standing known spoken waits (Gathering item (LodgingOf room key) later place)))) (with_shelf g c) (session left total (Writing (writer standing new spoken waits (Gathering item (Locking m) later (place + 1))))) []
    lodged-on g m found takes learns more = lodges-on M orderly s c g left total standing known new spoken waits item room key m later place found (takes-others s key c.shelf g takes) takes.now (takes.seat s) (takes-page key c.shelf g takes) learns more

    -- more is known of it, and the rest is let go
    pub lodging-still : Learns s c.shelf (need.Line key) known new → Step M s c (session left total (Writing (writer standing known spoken waits (Gathering item (LodgingOf room key) later place)))) c (session left total (Writing (writer standing new spoken waits (Working item (Lodging room key))))) []
    lodging-still learns =
        steps-on M orderly s c c c (session left total (Writing (writer standing known spoken waits (Gathering item (LodgingOf room key) later place)))) (session left total (Writing (writer standing known spoken waits (Working item (Lodging room key))))) (session left total (Writing (writer standing new spoken waits (Working item (Lodging room key))))) [] [] refl tt
        (drops-lodging M orderly s c left total standing known spoken waits item room key later place)
        (reads M orderly s c c.shelf left total standing known new spoken waits item (Lodging room key) (Lodging room key) (need.Line key)
        (λ got h. h.0) (λ got h. h) (λ ws seat h. h) (λ ws seat h. h) (λ p h. h)
        (λ o p h counted. counted) refl (others-same s c.shelf) refl refl learns)
