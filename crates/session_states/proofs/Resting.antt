-- Steps in which nothing happens in the account.
use Rattle.std.proofs.Common.{◌≡◌, ◌≤◌, ℕ, [], Bool, List, map, refl, ◌∙◌, sym, subst, arith}
use Rattle.rdo_ast.specs.declared.reply.Standing.{Standing}
use Rattle.rdo_ast.specs.declared.syntax.Item.{Item}
use Rattle.rdo_ast.specs.Views.{uttered_of}
use Rattle.rdb_account.specs.Places.{Opening, Place}
use Rattle.line_view.specs.Held.{Held, knows}
use Rattle.line_view.specs.Knowledge.{Agrees}
use Rattle.line_view.specs.Writes.{laid_all}
use Rattle.stepped_jobs.specs.kept_apart.Alike.{IsGuarded}
use Rattle.line_steps.specs.session_jobs.Records.{Model, IsOrderly}
use Rattle.line_store.specs.Shelves.{Shelf}
use Rattle.line_store.specs.Calls.{KeepsOthers}
use Rattle.line_steps.specs.lock_ties.Ties.{needs_at}
use Rattle.line_steps.specs.Members.{State, Member as Seen, member, writing}
use Rattle.line_steps.specs.Right.{Desk, Ground, with_desk}
use Rattle.line_steps.specs.Steps.{Found, Here, Steps}
use Rattle.line_steps.proofs.Taking.{learns}
use Rattle.line_steps.proofs.Kept.{rests, arrives, in-turn, elapses}
use Rattle.session_states.specs.declared.stage.Stage.{Stage}
use Rattle.session_states.specs.declared.stage.Phase.{Phase}
use Rattle.session_states.specs.declared.stage.Phase.TheVariants.{Writing}
use Rattle.session_states.specs.States.{item_of, state_in, writer, session}
use Rattle.session_states.specs.Shared.{Shared, with_shelf, LeavesOthers}
use Rattle.session_states.specs.Fits.{PhaseFits, WriterFits}
use Rattle.store_counts.specs.Counts.{IsCounted}
use Rattle.session_states.specs.Steps.{Finds, Step}
use Rattle.session_states.proofs.Basics.{at_time}

pub leaves-others : (s : ℕ) (c : Shared) → LeavesOthers s c c
leaves-others s c = record {
  store = record { seat = λ t other. refl; steps = λ t other. refl; later = record { later = omega arith; no_fewer = omega arith } };
  locks = λ u other. refl;
}

module _ (M : Model) (orderly : IsOrderly M) where
  pub found-here : (o : Opening) (p : Place) (g : Ground) (s : ℕ) (m : Seen) → Here M o p g s m → Found M o p g s m
  found-here o p g s m h = record { free = h.free; fit = h.fit; stands = h.stands }

  pub none-dead : (o : Opening) (p : Place) (g : Ground) (s : ℕ) (m : Seen) → Here M o p g s m → g.dead ≡ 0
  none-dead o p g s m h = sym h.fit.dead ∙ h.awake

  -- the store, the locks and the ground stay
  pub rests-by : (s : ℕ) (c : Shared) (left : List Item) (total : ℕ) (x y : Phase) → state_in x ≡ state_in y →
      ((o : Opening) (p : Place) (g : Ground) → Finds M o p g c s (session left total x) → PhaseFits M p g c s left y) →
      Step M s c (session left total x) c (session left total y) []
  rests-by s c left total x y same fits = record {
    word = refl;
    others = leaves-others s c;
    moments = tt;
    leaves = λ o p g f. record {
      ground = g;
      steps = subst (λ (u : State). Steps M o p g s (member (map uttered_of left) u total) g []) same (rests M orderly o p g s (member (map uttered_of left) (state_in x) total) f.here);
      fits = record { ground = f.fits.ground; tied = f.fits.tied; phase = fits o p g f };
      counted = f.counted;
    };
  }

  pub time-later : (o : Opening) (p : Place) (g : Ground) (s : ℕ) (c : Shared) (shelf : Shelf) (left : List Item) (total : ℕ) (x : Phase) → KeepsOthers s c.shelf shelf → Finds M o p g c s (session left total x) → g.time ≤ shelf.clock.time
  time-later o p g s c shelf left total x others f = subst (λ (t : ℕ). t ≤ shelf.clock.time) (sym f.fits.ground.time) others.later.later

  -- the store does something that the account doesn't see
  pub rests-on : (s : ℕ) (c : Shared) (shelf : Shelf) (left : List Item) (total : ℕ) (x y : Phase) → state_in x ≡ state_in y → KeepsOthers s c.shelf shelf → shelf.now ≡ c.shelf.now →
      ((o : Opening) (p : Place) (g : Ground) → Finds M o p g c s (session left total x) → IsCounted o p shelf) →
      ((o : Opening) (p : Place) (g : Ground) → Finds M o p g c s (session left total x) → PhaseFits M p (at_time shelf.clock.time g) (with_shelf shelf c) s left y) →
      Step M s c (session left total x) (with_shelf shelf c) (session left total y) []
  rests-on s c shelf left total x y same others now counts fits = record {
    word = refl;
    others = record { store = others; locks = λ u other. refl };
    moments = tt;
    leaves = λ o p g f. record {
      ground = at_time shelf.clock.time g;
      steps = subst (λ (u : State). Steps M o p g s (member (map uttered_of left) u total) (at_time shelf.clock.time g) []) same
          (elapses M orderly o p g s (map uttered_of left) (state_in x) total shelf.clock.time (found-here o p g s (member (map uttered_of left) (state_in x) total) f.here) (time-later o p g s c shelf left total x others f));
      fits = record { ground = record { now = f.fits.ground.now ∙ sym now; time = refl; dead = f.fits.ground.dead }; tied = f.fits.tied; phase = fits o p g f };
      counted = counts o p g f;
    };
  }

  abbrev pub learnt_desk : ℕ → Held → Ground → Desk
  learnt_desk s new g = record { known = knows new; writes = (g.desk s).writes; start = (g.desk s).start }

  abbrev pub learnt : ℕ → Held → Shelf → Ground → Ground
  learnt s new shelf g = at_time shelf.clock.time (with_desk s (learnt_desk s new g) g)

  -- it knows more than before
  pub learns-on : (s : ℕ) (c : Shared) (shelf : Shelf) (left : List Item) (total : ℕ) (standing : Standing) (known new : Held) (spoken waits : Bool) (x y : Stage) → item_of x ≡ item_of y → KeepsOthers s c.shelf shelf → shelf.now ≡ c.shelf.now →
      ((o : Opening) (p : Place) (g : Ground) → Finds M o p g c s (session left total (Writing (writer standing known spoken waits x))) → IsCounted o p shelf) →
      ((o : Opening) (p : Place) (g : Ground) → Finds M o p g c s (session left total (Writing (writer standing known spoken waits x))) → IsGuarded (needs_at p s) (knows new) × Agrees (knows new) (laid_all (g.desk s).writes g.now)) →
      ((o : Opening) (p : Place) (g : Ground) → Finds M o p g c s (session left total (Writing (writer standing known spoken waits x))) → WriterFits M p (learnt s new shelf g) (with_shelf shelf c) s left (writer standing new spoken waits y)) →
      Step M s c (session left total (Writing (writer standing known spoken waits x))) (with_shelf shelf c) (session left total (Writing (writer standing new spoken waits y))) []
  learns-on s c shelf left total standing known new spoken waits x y same others now counts good fits = record {
    word = refl;
    others = record { store = others; locks = λ u other. refl };
    moments = tt;
    leaves = λ o p g f.
        let m = member (map uttered_of left) (writing standing (item_of x)) total in
        let h : Ground = with_desk s (learnt_desk s new g) g in
        let a : Steps M o p g s m h [] = learns M orderly o p g s (map uttered_of left) total standing (item_of x) (knows new) f.here (good o p g f).0 (good o p g f).1 in
        let b : Steps M o a.to h s m (learnt s new shelf g) [] = elapses M orderly o a.to h s (map uttered_of left) (writing standing (item_of x)) total shelf.clock.time
        (found-here o a.to h s m (arrives M orderly o p g h s m m [] (none-dead o p g s m f.here) f.here a)) (time-later o p g s c shelf left total (Writing (writer standing known spoken waits x)) others f) in
        let ab : Steps M o p g s m (learnt s new shelf g) [] = in-turn M orderly o p g h (learnt s new shelf g) s m m [] [] a b in
        record {
          ground = learnt s new shelf g;
          steps = subst (λ u. Steps M o p g s (member (map uttered_of left) (writing standing u) total) (learnt s new shelf g) []) same ab;
          fits = record { ground = record { now = f.fits.ground.now ∙ sym now; time = refl; dead = f.fits.ground.dead }; tied = f.fits.tied; phase = fits o p g f };
          counted = counts o p g f;
        };
  }
