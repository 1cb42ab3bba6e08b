-- All that a job lacked is locked and read in turn.
use Rattle.std.proofs.Common.{◌≡◌, ℕ, suc, zero, ◌+◌, ◌∷◌, [], Bool, List, refl, ◌∙◌, sym, ap, subst, Option, Some, None, slice_get}
use Rattle.std.specs.List.{AllByRecursion}
use Rattle.std.proofs.lemmas.Bool.{and_parts}
use Rattle.std.proofs.lemmas.Option.{none-some, same_Some}
use Rattle.rdo_ast.specs.declared.reply.Standing.{Standing}
use Rattle.rdo_ast.specs.declared.syntax.Item.{Item}
use Rattle.rdo_ast.specs.Tree.{Uttered}
use Rattle.rdo_ast.specs.Views.{uttered_of}
use Rattle.lock_needs.specs.declared.need.Need.{Need as LockNeed}
use Rattle.lock_tree_laws.specs.Forest.{opened_of}
use Rattle.rdb_account.specs.Places.{Opening, Place, Transaction}
use Rattle.rdb_account.specs.Lawful.{got_of}
use Rattle.line_view.specs.declared.need.Need.{Need}
use Rattle.line_view.specs.declared.need.Need.TheVariants as need
use Rattle.line_view.specs.declared.need.Room.{Room}
use Rattle.rdb_types.specs.declared.keys.Dbkey.{Dbkey}
use Rattle.line_view.specs.Held.{Held, knows}
use Rattle.line_view.specs.Knowledge.{Knowledge, Lines, IsInOrder, Agrees}
use Rattle.line_view.specs.Writes.{laid_all}
use Rattle.stepped_jobs.specs.kept_apart.Alike.{IsGuarded}
use Rattle.stepped_jobs.proofs.of_kept_apart.Alike.{laid-all-in-order}
use Rattle.line_steps.specs.session_jobs.Records.{Model, IsOrderly}
use Rattle.line_steps.specs.session_jobs.Jobs.{IsFound, IsLacking, WhereItAgrees}
use Rattle.line_steps.specs.session_jobs.declared.jobs.Found.TheVariants.{Missing}
use Rattle.line_store.specs.Seats.{writing as seat_writing}
use Rattle.line_store.specs.Shelves.{Shelf, seen_from, seen_by}
use Rattle.line_store.specs.Calls.{KeepsOthers, KeepsSpace}
use Rattle.line_steps.specs.lock_ties.Ties.{needs_at}
use Rattle.line_steps.specs.Right.{Desk, Ground, Writes}
use Rattle.line_steps.proofs.Common.{desk-same}
use Rattle.stepped_jobs.specs.Needs.{IsLocked}
use Rattle.stepped_jobs.specs.More.{KnowsMore}
use Rattle.stepped_jobs.proofs.Growing.{agrees-before}
use Rattle.store_counts.specs.Counts.{IsCounted, TakesAt, written_of, is_on_line}
use Rattle.store_counts.proofs.Kept.{counted-same, counted-takes}
use Rattle.session_states.specs.declared.stage.Gather.{Gather}
use Rattle.session_states.specs.declared.stage.Gather.TheVariants.{Locking, Housing, Reading, Lodging}
use Rattle.session_states.specs.declared.stage.Work.TheVariants as work
use Rattle.session_states.specs.declared.stage.Work.TheVariants.{Out, Lacking, Fetching}
use Rattle.session_states.specs.declared.stage.Stage.TheVariants.{Working, Gathering}
use Rattle.session_states.specs.declared.stage.Phase.TheVariants.{Writing}
use Rattle.session_states.specs.Locks.{lock_of, lock_of_gather}
use Rattle.session_states.specs.States.{writer, session}
use Rattle.session_states.specs.Shared.{Shared, with_shelf}
use Rattle.session_states.specs.Fits.{IsLacked, AreLacked, GatherFits, ClaimsFit, WantsAtMost, Learns}
use Rattle.session_states.specs.Steps.{Finds, Step}
use Rattle.session_states.proofs.Basics.{wants-none}
use Rattle.session_states.proofs.Resting.{rests-by, learns-on, learnt_desk}

module _ (M : Model) (orderly : IsOrderly M) where
  -- each is asked for, where all are
  each-lacked : (standing : Standing) (item : Uttered) (known : Knowledge) (ns : List Need) → WhereItAgrees M known (λ t. AllByRecursion (IsLacking standing item known t) ns) → AreLacked M standing item known ns
  each-lacked standing item known [] h = tt
  each-lacked standing item known (n ∷ ns) h = (λ all t m agrees. (h all t m agrees).0.asked, each-lacked standing item known ns (λ all t m agrees. (h all t m agrees).1))

  at-place : (standing : Standing) (item : Uttered) (known : Knowledge) (ns : List Need) (place : ℕ) (n : Need) → slice_get ns place ≡ Some n → AreLacked M standing item known ns → IsLacked M standing item known n
  at-place standing item known [] place n found all = absurd (none-some n found)
  at-place standing item known (m ∷ ns) zero n found all = subst (IsLacked M standing item known) (same_Some m n found) all.0
  at-place standing item known (m ∷ ns) (suc place) n found all = at-place standing item known ns place n found all.1

  -- and still is where more is known
  lacked-still : (standing : Standing) (item : Uttered) (known new : Knowledge) → ((all : Lines) → Agrees new all → Agrees known all) → (ns : List Need) → AreLacked M standing item known ns → AreLacked M standing item new ns
  lacked-still standing item known new before [] h = tt
  lacked-still standing item known new before (n ∷ ns) h = (λ all t m agrees. h.0 all t m (before all agrees), lacked-still standing item known new before ns h.1)

  pub gathers-on : (s : ℕ) (c : Shared) (left : List Item) (total : ℕ) (standing : Standing) (known : Held) (spoken waits : Bool) (item : Item) (next : Need) (later : List Need) → IsFound M c.word standing (uttered_of item) (knows known) (Missing next later) →
      Step M s c (session left total (Writing (writer standing known spoken waits (Working item Out)))) c (session left total (Writing (writer standing known spoken waits (Gathering item (Locking next) later 0)))) []
  gathers-on s c left total standing known spoken waits item next later found =
      rests-by M orderly s c left total (Writing (writer standing known spoken waits (Working item Out))) (Writing (writer standing known spoken waits (Gathering item (Locking next) later 0))) refl
      (λ o p g f. record {
        desk = f.fits.phase.desk;
        spoken = f.fits.phase.spoken;
        waits = f.fits.phase.waits;
        stage = (f.fits.phase.stage.0, λ all t m agrees. (found all t m agrees).0.asked, each-lacked standing (uttered_of item) (knows known) later (λ all t m agrees. (found all t m agrees).1));
        wants = wants-none (lock_of (Gathering item (Locking next) later 0)) (opened_of c.locks s) f.fits.phase.wants;
        journal = f.fits.phase.journal;
        ends = tt;
        claims = tt;
      })

  -- the rest is let go
  pub drops-on : (s : ℕ) (c : Shared) (left : List Item) (total : ℕ) (standing : Standing) (known : Held) (spoken waits : Bool) (item : Item) (n : Need) (later : List Need) (place : ℕ) →
      Step M s c (session left total (Writing (writer standing known spoken waits (Gathering item (Locking n) later place)))) c (session left total (Writing (writer standing known spoken waits (Working item (Lacking n))))) []
  drops-on s c left total standing known spoken waits item n later place =
      rests-by M orderly s c left total (Writing (writer standing known spoken waits (Gathering item (Locking n) later place))) (Writing (writer standing known spoken waits (Working item (Lacking n)))) refl
      (λ o p g f. record { desk = f.fits.phase.desk; spoken = f.fits.phase.spoken; waits = f.fits.phase.waits; stage = (f.fits.phase.stage.0, f.fits.phase.stage.1); wants = f.fits.phase.wants; journal = f.fits.phase.journal; ends = tt; claims = tt })

  -- a line is named for a room
  pub houses-in-turn : (s : ℕ) (c : Shared) (left : List Item) (total : ℕ) (standing : Standing) (known : Held) (spoken waits : Bool) (item : Item) (room : Room) (key : Dbkey) (later : List Need) (place : ℕ) → key.area ≡ room.area →
      Step M s c (session left total (Writing (writer standing known spoken waits (Gathering item (Locking (need.Room room)) later place)))) c (session left total (Writing (writer standing known spoken waits (Gathering item (Housing room key) later place)))) []
  houses-in-turn s c left total standing known spoken waits item room key later place within =
      rests-by M orderly s c left total (Writing (writer standing known spoken waits (Gathering item (Locking (need.Room room)) later place))) (Writing (writer standing known spoken waits (Gathering item (Housing room key) later place))) refl
      (λ o p g f. record {
        desk = f.fits.phase.desk;
        spoken = f.fits.phase.spoken;
        waits = f.fits.phase.waits;
        stage = (f.fits.phase.stage.0, (f.fits.phase.stage.1, within), f.fits.phase.stage.2);
        wants = wants-none (lock_of (Gathering item (Housing room key) later place)) (opened_of c.locks s) f.fits.phase.wants;
        journal = f.fits.phase.journal;
        ends = tt;
        claims = tt;
      })

  -- the rest is let go behind the lock
  pub drops-lodging : (s : ℕ) (c : Shared) (left : List Item) (total : ℕ) (standing : Standing) (known : Held) (spoken waits : Bool) (item : Item) (room : Room) (key : Dbkey) (later : List Need) (place : ℕ) →
      Step M s c (session left total (Writing (writer standing known spoken waits (Gathering item (Lodging room key) later place)))) c (session left total (Writing (writer standing known spoken waits (Working item (work.Lodging room key))))) []
  drops-lodging s c left total standing known spoken waits item room key later place =
      rests-by M orderly s c left total (Writing (writer standing known spoken waits (Gathering item (Lodging room key) later place))) (Writing (writer standing known spoken waits (Working item (work.Lodging room key)))) refl
      (λ o p g f. record { desk = f.fits.phase.desk; spoken = f.fits.phase.spoken; waits = f.fits.phase.waits; stage = (f.fits.phase.stage.0, f.fits.phase.stage.1); wants = f.fits.phase.wants; journal = f.fits.phase.journal; ends = tt; claims = f.fits.phase.claims })

  pub drops-read : (s : ℕ) (c : Shared) (left : List Item) (total : ℕ) (standing : Standing) (known : Held) (spoken waits : Bool) (item : Item) (n : Need) (later : List Need) (place : ℕ) →
      Step M s c (session left total (Writing (writer standing known spoken waits (Gathering item (Reading n) later place)))) c (session left total (Writing (writer standing known spoken waits (Working item (Fetching n))))) []
  drops-read s c left total standing known spoken waits item n later place =
      rests-by M orderly s c left total (Writing (writer standing known spoken waits (Gathering item (Reading n) later place))) (Writing (writer standing known spoken waits (Working item (Fetching n)))) refl
      (λ o p g f. record { desk = f.fits.phase.desk; spoken = f.fits.phase.spoken; waits = f.fits.phase.waits; stage = (f.fits.phase.stage.0, f.fits.phase.stage.1); wants = f.fits.phase.wants; journal = f.fits.phase.journal; ends = tt; claims = tt })

  -- ---- this one is read

  reads-in-turn : (s : ℕ) (c : Shared) (shelf : Shelf) (left : List Item) (total : ℕ) (standing : Standing) (known new : Held) (spoken waits : Bool) (item : Item) (n : Need) (later : List Need) (place behind : ℕ) (x y : Gather) →
      ((got : List LockNeed) → GatherFits M got standing (uttered_of item) (knows known) x → IsLocked got n) →
      ((got : List LockNeed) (k : Knowledge) → GatherFits M got standing (uttered_of item) (knows known) x → AreLacked M standing (uttered_of item) k later → GatherFits M got standing (uttered_of item) k y) →
      ((p : Place) → ClaimsFit p s (Gathering item x later place) → ClaimsFit p s (Gathering item y later behind)) → ((o : Opening) (p : Place) → ClaimsFit p s (Gathering item x later place) → IsCounted o p c.shelf → IsCounted o p shelf) →
      lock_of_gather (uttered_of item) x ≡ None → KeepsOthers s c.shelf shelf → shelf.now ≡ c.shelf.now → shelf.seat s ≡ c.shelf.seat s → Learns s c.shelf n known new → KnowsMore known new →
      Step M s c (session left total (Writing (writer standing known spoken waits (Gathering item x later place)))) (with_shelf shelf c) (session left total (Writing (writer standing new spoken waits (Gathering item y later behind)))) []
  reads-in-turn s c shelf left total standing known new spoken waits item n later place behind x y locked fits claims counts needless others now mine learns more =
      learns-on M orderly s c shelf left total standing known new spoken waits (Gathering item x later place) (Gathering item y later behind) refl others now
      (λ o p g f. counts o p f.fits.phase.claims f.counted) (λ o p g f. (good o p g f).0)
      (λ o p g f.
      let d : Desk = learnt_desk M orderly s new g in
      let lacked = lacked-still standing (uttered_of item) (knows known) (knows new) (λ all agrees. agrees-before known new (seen_by s c.shelf) all more (good o p g f).1.0 (good o p g f).1.1 agrees) later f.fits.phase.stage.2 in
      record {
        desk = (
          ap (λ (x : Desk). x.known) (desk-same s d g),
          subst (λ (x : Desk). shelf.seat s ≡ seat_writing x.writes) (sym (desk-same s d g)) (mine ∙ f.fits.phase.desk.1),
        );
        spoken = f.fits.phase.spoken;
        waits = f.fits.phase.waits;
        stage = (f.fits.phase.stage.0, fits (needs_at p s) (knows new) f.fits.phase.stage.1 lacked, lacked);
        wants = wants-none (lock_of (Gathering item y later behind)) (opened_of c.locks s) (subst (λ l. WantsAtMost l (opened_of c.locks s)) needless f.fits.phase.wants);
        journal = f.fits.phase.journal;
        ends = tt;
        claims = claims p f.fits.phase.claims;
      })
    where
      -- what is known more is guarded and agrees; and both agree with the lines that are seen
      good : (o : Opening) (p : Place) (g : Ground) → Finds M o p g c s (session left total (Writing (writer standing known spoken waits (Gathering item x later place)))) →
          (IsGuarded (needs_at p s) (knows new) × Agrees (knows new) (laid_all (g.desk s).writes g.now)) × (Agrees (knows known) (seen_by s c.shelf) × Agrees (knows new) (seen_by s c.shelf))
      good o p g f =
          let w : Writes M o p g s standing (Some (uttered_of item)) = f.here.stands.state in
          let ws = (g.desk s).writes in
          let e : seen_by s c.shelf ≡ laid_all ws g.now = ap (λ x. seen_from x c.shelf.now) f.fits.phase.desk.1 ∙ ap (λ (l : Lines). laid_all ws l) (sym f.fits.ground.now) in
          let was : Agrees (knows known) (seen_by s c.shelf) = subst (λ (l : Lines). Agrees (knows known) l) (sym e) (subst (λ k. Agrees k (laid_all ws g.now)) f.fits.phase.desk.0 w.is.agrees) in
          let is : Agrees (knows new) (seen_by s c.shelf) = learns.agrees (subst (λ (l : Lines). IsInOrder l) (sym e) (laid-all-in-order ws g.now f.here.fit.order)) was in (
            (
              learns.guarded (needs_at p s) (locked (needs_at p s) f.fits.phase.stage.1)
                  (subst (λ k. IsGuarded (needs_at p s) k) f.fits.phase.desk.0 (subst (λ (y : Option Transaction). IsGuarded (got_of y) (g.desk s).known) (sym w.is_open) w.is.guarded)),
              subst (λ (l : Lines). Agrees (knows new) l) e is,
            ),
            (was, is),
          )

  -- there is more of it to read
  pub reads-more-of-it : (s : ℕ) (c : Shared) (shelf : Shelf) (left : List Item) (total : ℕ) (standing : Standing) (known new : Held) (spoken waits : Bool) (item : Item) (n : Need) (later : List Need) (place : ℕ) →
      KeepsOthers s c.shelf shelf → shelf.now ≡ c.shelf.now → shelf.seat s ≡ c.shelf.seat s → KeepsSpace c.shelf.space shelf.space → Learns s c.shelf n known new → KnowsMore known new →
      Step M s c (session left total (Writing (writer standing known spoken waits (Gathering item (Reading n) later place)))) (with_shelf shelf c) (session left total (Writing (writer standing new spoken waits (Gathering item (Reading n) later place)))) []
  reads-more-of-it s c shelf left total standing known new spoken waits item n later place others now mine space learns more =
      reads-in-turn s c shelf left total standing known new spoken waits item n later place place (Reading n) (Reading n) (λ got h. h) (λ got k h lacked. h) (λ p h. h)
      (λ o p h counted. counted-same o p s c.shelf shelf counted others now space mine) refl others now mine learns more

  -- the next one is wanted
  pub reads-on : (s : ℕ) (c : Shared) (shelf : Shelf) (left : List Item) (total : ℕ) (standing : Standing) (known new : Held) (spoken waits : Bool) (item : Item) (n m : Need) (later : List Need) (place : ℕ) → slice_get later place ≡ Some m →
      KeepsOthers s c.shelf shelf → shelf.now ≡ c.shelf.now → shelf.seat s ≡ c.shelf.seat s → KeepsSpace c.shelf.space shelf.space → Learns s c.shelf n known new → KnowsMore known new →
      Step M s c (session left total (Writing (writer standing known spoken waits (Gathering item (Reading n) later place)))) (with_shelf shelf c) (session left total (Writing (writer standing new spoken waits (Gathering item (Locking m) later (place + 1))))) []
  reads-on s c shelf left total standing known new spoken waits item n m later place found others now mine space learns more =
      reads-in-turn s c shelf left total standing known new spoken waits item n later place (place + 1) (Reading n) (Locking m) (λ got h. h) (λ got k h lacked. at-place standing (uttered_of item) k later place m found lacked) (λ p h. tt)
      (λ o p h counted. counted-same o p s c.shelf shelf counted others now space mine) refl others now mine learns more

  -- ---- a room's line

  -- it isn't read yet
  pub lodges-more : (s : ℕ) (c : Shared) (shelf : Shelf) (left : List Item) (total : ℕ) (standing : Standing) (known new : Held) (spoken waits : Bool) (item : Item) (room : Room) (key : Dbkey) (later : List Need) (place : ℕ) →
      KeepsOthers s c.shelf shelf → shelf.now ≡ c.shelf.now → shelf.seat s ≡ c.shelf.seat s → KeepsSpace c.shelf.space shelf.space → Learns s c.shelf (need.Line key) known new → KnowsMore known new →
      Step M s c (session left total (Writing (writer standing known spoken waits (Gathering item (Lodging room key) later place)))) (with_shelf shelf c) (session left total (Writing (writer standing new spoken waits (Gathering item (Lodging room key) later place)))) []
  lodges-more s c shelf left total standing known new spoken waits item room key later place others now mine space learns more =
      reads-in-turn s c shelf left total standing known new spoken waits item (need.Line key) later place place (Lodging room key) (Lodging room key) (λ got h. h.0) (λ got k h lacked. h) (λ p h. h)
      (λ o p h counted. counted-same o p s c.shelf shelf counted others now space mine) refl others now mine learns more

  -- its page is taken, and the next one is wanted
  pub lodges-on : (s : ℕ) (c : Shared) (shelf : Shelf) (left : List Item) (total : ℕ) (standing : Standing) (known new : Held) (spoken waits : Bool) (item : Item) (room : Room) (key : Dbkey) (m : Need) (later : List Need) (place : ℕ) → slice_get later place ≡ Some m →
      KeepsOthers s c.shelf shelf → shelf.now ≡ c.shelf.now → shelf.seat s ≡ c.shelf.seat s → TakesAt key c.shelf.space shelf.space → Learns s c.shelf (need.Line key) known new → KnowsMore known new →
      Step M s c (session left total (Writing (writer standing known spoken waits (Gathering item (Lodging room key) later place)))) (with_shelf shelf c) (session left total (Writing (writer standing new spoken waits (Gathering item (Locking m) later (place + 1))))) []
  lodges-on s c shelf left total standing known new spoken waits item room key m later place found others now mine space learns more =
      reads-in-turn s c shelf left total standing known new spoken waits item (need.Line key) later place (place + 1) (Lodging room key) (Locking m) (λ got h. h.0) (λ got k h lacked. at-place standing (uttered_of item) k later place m found lacked) (λ p h. tt)
      (λ o p h counted. counted-takes o p s key c.shelf shelf (and_parts (is_on_line (written_of (p.transaction s)) key) (is_on_line p.touched key) h).1 counted others now mine space) refl others now mine learns more
