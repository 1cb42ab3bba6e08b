-- Steps of one session in turn are one step.
use Rattle.std.proofs.Common.{◌≡◌, ℕ, ◌++◌, List, ◌∙◌, sym, subst, arith}
use Rattle.rdb_account.specs.Events.{Event}
use Rattle.rdb_account.specs.Places.{Place, place_from}
use Rattle.rdb_account.proofs.Growth.{place-grown}
use Rattle.line_steps.specs.session_jobs.Records.{Model, IsOrderly}
use Rattle.line_store.specs.Shelves.{Clock, Elapses}
use Rattle.line_steps.specs.Steps.{Here, Steps}
use Rattle.line_steps.proofs.Kept.{arrives, in-turn}
use Rattle.session_states.specs.declared.stage.Member.{Member}
use Rattle.session_states.specs.States.{seen}
use Rattle.session_states.specs.Shared.{Shared, LeavesOthers}
use Rattle.session_states.specs.Fits.{Fits}
use Rattle.store_counts.specs.Counts.{IsCounted}
use Rattle.session_states.specs.Steps.{AreAt, Leaves, Step}
use Rattle.session_states.proofs.Moments.{both-at}
use Rattle.session_states.proofs.Resting.{none-dead}

elapse-on : (a b c : Clock) → Elapses a b → Elapses b c → Elapses a c
elapse-on a b c x y = record { later = omega (arith, x.later, y.later); no_fewer = omega (arith, x.no_fewer, y.no_fewer) }

others-on : (s : ℕ) (c d e : Shared) → LeavesOthers s c d → LeavesOthers s d e → LeavesOthers s c e
others-on s c d e a b = record {
  store = record {
    seat = λ t other. b.store.seat t other ∙ a.store.seat t other;
    steps = λ t other. b.store.steps t other ∙ a.store.steps t other;
    later = elapse-on c.shelf.clock d.shelf.clock e.shelf.clock a.store.later b.store.later;
  };
  locks = λ u other. b.locks u other ∙ a.locks u other;
}

module _ (M : Model) (orderly : IsOrderly M) where
  pub steps-on : (s : ℕ) (c d e : Shared) (m n k : Member) (es fs : List Event) → d.dead ≡ c.dead → AreAt e.shelf.clock.time es → Step M s c m d n es → Step M s d n e k fs → Step M s c m e k (es ++ fs)
  steps-on s c d e m n k es fs alive first a b = record {
    word = b.word ∙ a.word;
    others = others-on s c d e a.others b.others;
    moments = both-at e.shelf.clock.time es fs first b.moments;
    leaves = λ o p g f.
        let x : Leaves M o p g d s n es = a.leaves o p g f in
        let q = place_from o p es in
        let none : x.ground.dead ≡ 0 = x.fits.ground.dead ∙ (alive ∙ (sym f.fits.ground.dead ∙ none-dead M orderly o p g s (seen m) f.here)) in
        let here : Here M o q x.ground s (seen n) = subst (λ (y : Place). Here M o y x.ground s (seen n)) (sym x.steps.leads) (arrives M orderly o p g x.ground s (seen m) (seen n) es none f.here x.steps) in
        let y : Leaves M o q x.ground e s k fs = b.leaves o q x.ground (record { word = f.word ∙ sym a.word; here = here; fits = x.fits; counted = x.counted }) in
        record {
          ground = y.ground;
          steps = in-turn M orderly o p g x.ground y.ground s (seen n) (seen k) es fs x.steps (subst (λ (z : Place). Steps M o z x.ground s (seen k) y.ground fs) x.steps.leads y.steps);
          fits = subst (λ (z : Place). Fits M z y.ground e s k) (sym (place-grown o p es fs)) y.fits;
          counted = subst (λ (z : Place). IsCounted o z e.shelf) (sym (place-grown o p es fs)) y.counted;
        };
  }
