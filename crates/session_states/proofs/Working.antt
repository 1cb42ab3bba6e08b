-- A statement is taken up, worked and read for.
use Rattle.std.proofs.Common.{◌≡◌, ℕ, ◌∷◌, [], Bool, false, List, map, refl, ◌∙◌, sym, ap, subst, Option, Some, None}
use Rattle.rdo_ast.specs.declared.reply.Standing.{Standing}
use Rattle.rdo_ast.specs.declared.syntax.Item.{Item}
use Rattle.rdo_ast.specs.Tree.{said, commit}
use Rattle.rdo_ast.specs.Views.{uttered_of}
use Rattle.lock_needs.specs.declared.need.Need.{Need as LockNeed}
use Rattle.rdb_account.specs.Places.{Opening, Place}
use Rattle.rdb_account.specs.Legal.{ends_by}
use Rattle.line_view.specs.declared.need.Need.{Need}
use Rattle.line_view.specs.declared.need.Need.TheVariants as need
use Rattle.line_view.specs.declared.need.Room.{Room}
use Rattle.line_view.specs.declared.writes.Write.{Write}
use Rattle.line_view.specs.Held.{Held, knows}
use Rattle.line_view.specs.Knowledge.{Lines, IsInOrder, Agrees}
use Rattle.line_view.specs.Writes.{laid_all}
use Rattle.rdb_types.specs.declared.keys.Dbkey.{Dbkey}
use Rattle.stepped_jobs.specs.kept_apart.Alike.{IsGuarded}
use Rattle.stepped_jobs.proofs.of_kept_apart.Alike.{alike-refl, laid-all-in-order}
use Rattle.line_steps.specs.session_jobs.Records.{Model, IsOrderly}
use Rattle.line_steps.specs.session_jobs.Jobs.{IsFound}
use Rattle.line_steps.specs.session_jobs.declared.jobs.TxRecord.{TxRecord}
use Rattle.line_steps.specs.session_jobs.declared.jobs.Found.TheVariants.{Done, Missing, Bad}
use Rattle.line_store.specs.Seats.{Seat, writing as seat_writing}
use Rattle.line_store.specs.Shelves.{Shelf, seen_from, seen_by}
use Rattle.line_steps.specs.lock_ties.Ties.{needs_at}
use Rattle.line_steps.specs.Members.{member, writing}
use Rattle.line_steps.specs.Right.{Desk, Ground, Writes}
use Rattle.line_steps.specs.Steps.{Steps}
use Rattle.line_steps.proofs.Common.{desk-same}
use Rattle.line_steps.proofs.Taking.{takes-up}
use Rattle.session_states.specs.declared.stage.Work.{Work}
use Rattle.session_states.specs.declared.stage.Work.TheVariants.{Due, Out, Lacking, Housing}
use Rattle.session_states.specs.declared.stage.Laying.TheVariants.{Claiming}
use Rattle.session_states.specs.declared.stage.End.TheVariants.{Preparing}
use Rattle.session_states.specs.declared.stage.Stage.{Stage}
use Rattle.session_states.specs.declared.stage.Stage.TheVariants.{Between, Working, Saying, Ending}
use Rattle.session_states.specs.declared.stage.Phase.TheVariants.{Writing}
use Rattle.session_states.specs.States.{item_of, writer, session}
use Rattle.session_states.specs.Shared.{Shared, with_shelf}
use Rattle.stepped_jobs.specs.Needs.{IsLocked}
use Rattle.session_states.specs.Fits.{WorkFits, HasSeat, ClaimsFit, WriterFits, WantsAtMost, Learns}
use Rattle.store_counts.specs.Counts.{IsCounted}
use Rattle.session_states.proofs.Claims.{claimed-none}
use Rattle.session_states.specs.Steps.{Finds, Step}
use Rattle.lock_tree_laws.specs.Forest.{opened_of}
use Rattle.rdb_account.specs.Places.{Transaction}
use Rattle.rdb_account.specs.Lawful.{got_of}
use Rattle.line_store.specs.Calls.{KeepsOthers}
use Rattle.session_states.specs.Locks.{lock_of, lock_of_work}
use Rattle.session_states.proofs.Basics.{wants-none, own-none}
use Rattle.session_states.proofs.Resting.{leaves-others, rests-by, learns-on, learnt_desk}

module _ (M : Model) (orderly : IsOrderly M) where
  -- ---- the next item

  takes : (s : ℕ) (c : Shared) (item : Item) (left : List Item) (total : ℕ) (standing : Standing) (known : Held) (spoken waits : Bool) (y : Stage) → item_of y ≡ Some (uttered_of item) →
      ((o : Opening) (p : Place) (g : Ground) → Finds M o p g c s (session (item ∷ left) total (Writing (writer standing known spoken waits Between))) → WriterFits M p g c s left (writer standing known spoken waits y)) →
      Step M s c (session (item ∷ left) total (Writing (writer standing known spoken waits Between))) c (session left total (Writing (writer standing known spoken waits y))) []
  takes s c item left total standing known spoken waits y same fits = record {
    word = refl;
    others = leaves-others s c;
    moments = tt;
    leaves = λ o p g f. record {
      ground = g;
      steps = subst (λ u. Steps M o p g s (member (map uttered_of left) (writing standing u) total) g []) (sym same) (takes-up M orderly o p g s (uttered_of item) (map uttered_of left) total standing f.here);
      fits = record { ground = f.fits.ground; tied = f.fits.tied; phase = fits o p g f };
      counted = f.counted;
    };
  }

  pub takes-statement : (s : ℕ) (c : Shared) (item : Item) (left : List Item) (total : ℕ) (standing : Standing) (known : Held) (spoken waits : Bool) → ends_by (uttered_of item) ≡ false →
      Step M s c (session (item ∷ left) total (Writing (writer standing known spoken waits Between))) c (session left total (Writing (writer standing known spoken waits (Working item Due)))) []
  takes-statement s c item left total standing known spoken waits stays =
      takes s c item left total standing known spoken waits (Working item Due) refl
      (λ o p g f. record { desk = f.fits.phase.desk; spoken = f.fits.phase.spoken; waits = f.fits.phase.waits; stage = (stays, tt); wants = f.fits.phase.wants; journal = f.fits.phase.journal; ends = tt; claims = tt })

  pub takes-commit : (s : ℕ) (c : Shared) (item : Item) (left : List Item) (total : ℕ) (standing : Standing) (known : Held) (spoken waits : Bool) → uttered_of item ≡ said commit →
      Step M s c (session (item ∷ left) total (Writing (writer standing known spoken waits Between))) c (session left total (Writing (writer standing known spoken waits (Ending Preparing)))) []
  takes-commit s c item left total standing known spoken waits is =
      takes s c item left total standing known spoken waits (Ending Preparing) (ap Some (sym is))
      (λ o p g f. record { desk = f.fits.phase.desk; spoken = f.fits.phase.spoken; waits = f.fits.phase.waits; stage = (f.fits.phase.stage, tt); wants = wants-none (lock_of (Ending Preparing)) (opened_of c.locks s) f.fits.phase.wants; journal = f.fits.phase.journal; ends = tt; claims = tt })

  -- ---- its job

  pub hands-out : (s : ℕ) (c : Shared) (left : List Item) (total : ℕ) (standing : Standing) (known : Held) (spoken waits : Bool) (item : Item) →
      Step M s c (session left total (Writing (writer standing known spoken waits (Working item Due)))) c (session left total (Writing (writer standing known spoken waits (Working item Out)))) []
  hands-out s c left total standing known spoken waits item =
      rests-by M orderly s c left total (Writing (writer standing known spoken waits (Working item Due))) (Writing (writer standing known spoken waits (Working item Out))) refl
      (λ o p g f. record { desk = f.fits.phase.desk; spoken = f.fits.phase.spoken; waits = f.fits.phase.waits; stage = f.fits.phase.stage; wants = f.fits.phase.wants; journal = f.fits.phase.journal; ends = tt; claims = tt })

  pub returns-done : (s : ℕ) (c : Shared) (left : List Item) (total : ℕ) (standing : Standing) (known : Held) (spoken waits : Bool) (item : Item) (r : TxRecord) → IsFound M c.word standing (uttered_of item) (knows known) (Done r) →
      Step M s c (session left total (Writing (writer standing known spoken waits (Working item Out)))) c (session left total (Writing (writer standing known spoken waits (Saying item r (Claiming 0))))) []
  returns-done s c left total standing known spoken waits item r found =
      rests-by M orderly s c left total (Writing (writer standing known spoken waits (Working item Out))) (Writing (writer standing known spoken waits (Saying item r (Claiming 0)))) refl
      (λ o p g f. record {
        desk = f.fits.phase.desk;
        spoken = f.fits.phase.spoken;
        waits = f.fits.phase.waits;
        stage = (f.fits.phase.stage.0, (found, own-none (needs_at p s) r.writes));
        wants = wants-none (lock_of (Saying item r (Claiming 0))) (opened_of c.locks s) f.fits.phase.wants;
        journal = f.fits.phase.journal;
        ends = tt;
        claims = claimed-none p s r.writes;
      })

  pub returns-lacking : (s : ℕ) (c : Shared) (left : List Item) (total : ℕ) (standing : Standing) (known : Held) (spoken waits : Bool) (item : Item) (next : Need) (later : List Need) → IsFound M c.word standing (uttered_of item) (knows known) (Missing next later) →
      Step M s c (session left total (Writing (writer standing known spoken waits (Working item Out)))) c (session left total (Writing (writer standing known spoken waits (Working item (Lacking next))))) []
  returns-lacking s c left total standing known spoken waits item next later found =
      rests-by M orderly s c left total (Writing (writer standing known spoken waits (Working item Out))) (Writing (writer standing known spoken waits (Working item (Lacking next)))) refl
      (λ o p g f. record {
        desk = f.fits.phase.desk;
        spoken = f.fits.phase.spoken;
        waits = f.fits.phase.waits;
        stage = (f.fits.phase.stage.0, λ all t m agrees. (found all t m agrees).0.asked);
        wants = wants-none (lock_of (Working item (Lacking next))) (opened_of c.locks s) f.fits.phase.wants;
        journal = f.fits.phase.journal;
        ends = tt;
        claims = tt;
      })

  -- a line is named for a room
  pub houses : (s : ℕ) (c : Shared) (left : List Item) (total : ℕ) (standing : Standing) (known : Held) (spoken waits : Bool) (item : Item) (room : Room) (key : Dbkey) → key.area ≡ room.area →
      Step M s c (session left total (Writing (writer standing known spoken waits (Working item (Lacking (need.Room room)))))) c (session left total (Writing (writer standing known spoken waits (Working item (Housing room key))))) []
  houses s c left total standing known spoken waits item room key within =
      rests-by M orderly s c left total (Writing (writer standing known spoken waits (Working item (Lacking (need.Room room))))) (Writing (writer standing known spoken waits (Working item (Housing room key)))) refl
      (λ o p g f. record {
        desk = f.fits.phase.desk;
        spoken = f.fits.phase.spoken;
        waits = f.fits.phase.waits;
        stage = (f.fits.phase.stage.0, (f.fits.phase.stage.1, within));
        wants = wants-none (lock_of (Working item (Housing room key))) (opened_of c.locks s) f.fits.phase.wants;
        journal = f.fits.phase.journal;
        ends = tt;
        claims = tt;
      })

  -- no line is bad: the committed lines under the session's writes are sound, and agree with what it knows
  pub never-bad : (s : ℕ) (c : Shared) (left : List Item) (total : ℕ) (standing : Standing) (known : Held) (spoken waits : Bool) (item : Item) (key : Dbkey) → IsFound M c.word standing (uttered_of item) (knows known) (Bad key) →
      (o : Opening) (p : Place) (g : Ground) → Finds M o p g c s (session left total (Writing (writer standing known spoken waits (Working item Out)))) → ⊥
  never-bad s c left total standing known spoken waits item key found o p g f =
      let w : Writes M o p g s standing (Some (uttered_of item)) = f.here.stands.state in
      let leads = w.is.holds g.now p.tables (alike-refl w.transaction.got g.now) f.here.fit.stands in
      found (laid_all (g.desk s).writes g.now) leads.then leads.stands (subst (λ u. Agrees u (laid_all (g.desk s).writes g.now)) f.fits.phase.desk.0 w.is.agrees)

  -- ---- what it lacked is read

  pub reads : (s : ℕ) (c : Shared) (shelf : Shelf) (left : List Item) (total : ℕ) (standing : Standing) (known new : Held) (spoken waits : Bool) (item : Item) (a b : Work) (n : Need) →
      ((got : List LockNeed) → WorkFits M got standing (uttered_of item) (knows known) a → IsLocked got n) → ((got : List LockNeed) → WorkFits M got standing (uttered_of item) (knows known) a → WorkFits M got standing (uttered_of item) (knows new) b) →
      ((ws : List Write) (seat : Seat) → HasSeat (Working item a) ws seat → seat ≡ seat_writing ws) → ((ws : List Write) (seat : Seat) → seat ≡ seat_writing ws → HasSeat (Working item b) ws seat) →
      ((p : Place) → ClaimsFit p s (Working item a) → ClaimsFit p s (Working item b)) → ((o : Opening) (p : Place) → ClaimsFit p s (Working item a) → IsCounted o p c.shelf → IsCounted o p shelf) →
      lock_of_work (uttered_of item) a ≡ None → KeepsOthers s c.shelf shelf → shelf.now ≡ c.shelf.now → shelf.seat s ≡ c.shelf.seat s → Learns s c.shelf n known new →
      Step M s c (session left total (Writing (writer standing known spoken waits (Working item a)))) (with_shelf shelf c) (session left total (Writing (writer standing new spoken waits (Working item b)))) []
  reads s c shelf left total standing known new spoken waits item a b n locked fits from to claims counts needless others now mine more =
      learns-on M orderly s c shelf left total standing known new spoken waits (Working item a) (Working item b) refl others now (λ o p g f. counts o p f.fits.phase.claims f.counted)
      (λ o p g f.
      let w : Writes M o p g s standing (Some (uttered_of item)) = f.here.stands.state in
      let ws = (g.desk s).writes in
      let e : seen_by s c.shelf ≡ laid_all ws g.now = ap (λ x. seen_from x c.shelf.now) (from ws (c.shelf.seat s) f.fits.phase.desk.1) ∙ ap (λ (l : Lines). laid_all ws l) (sym f.fits.ground.now) in (
        more.guarded (needs_at p s) (locked (needs_at p s) f.fits.phase.stage.1)
            (subst (λ k. IsGuarded (needs_at p s) k) f.fits.phase.desk.0 (subst (λ (y : Option Transaction). IsGuarded (got_of y) (g.desk s).known) (sym w.is_open) w.is.guarded)),
        subst (λ (l : Lines). Agrees (knows new) l) e (more.agrees (subst (λ (l : Lines). IsInOrder l) (sym e) (laid-all-in-order ws g.now f.here.fit.order))
            (subst (λ (l : Lines). Agrees (knows known) l) (sym e) (subst (λ k. Agrees k (laid_all ws g.now)) f.fits.phase.desk.0 w.is.agrees))),
      ))
      (λ o p g f.
      let d : Desk = learnt_desk M orderly s new g in
      record {
        desk = (
          ap (λ (x : Desk). x.known) (desk-same s d g),
          subst (λ (x : Desk). HasSeat (Working item b) x.writes (shelf.seat s)) (sym (desk-same s d g))
              (to (g.desk s).writes (shelf.seat s) (mine ∙ from (g.desk s).writes (c.shelf.seat s) f.fits.phase.desk.1)),
        );
        spoken = f.fits.phase.spoken;
        waits = f.fits.phase.waits;
        stage = (f.fits.phase.stage.0, fits (needs_at p s) f.fits.phase.stage.1);
        wants = wants-none (lock_of (Working item b)) (opened_of c.locks s) (subst (λ l. WantsAtMost l (opened_of c.locks s)) needless f.fits.phase.wants);
        journal = f.fits.phase.journal;
        ends = tt;
        claims = claims p f.fits.phase.claims;
      })
