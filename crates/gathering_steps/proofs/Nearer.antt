-- Behind a need that was read the session is nearer to its end.
use Rattle.std.proofs.Common.{◌≡◌, ◌+◌, ℕ, List, refl, sym, subst, arith, Option, Some, None, slice_get}
use Rattle.std.specs.Prelude.{MatchOption}
use Rattle.rdo_ast.specs.declared.syntax.Item.{Item}
use Rattle.line_view.specs.declared.need.Need.{Need}
use Rattle.stage_steps.specs.session_states.declared.stage.Gather.{Gather}
use Rattle.stage_steps.specs.session_states.declared.stage.Gather.TheVariants.{Locking, Reading}
use Rattle.stage_steps.specs.session_states.declared.stage.Work.TheVariants.{Due}
use Rattle.stage_steps.specs.session_states.declared.stage.Stage.{Stage}
use Rattle.stage_steps.specs.session_states.declared.stage.Stage.TheVariants.{Working, Gathering}
use Rattle.stage_steps.specs.session_states.States.{session}
use Rattle.stage_steps.specs.session_measure.Weights.{Beside, gather_left}
use Rattle.stage_steps.specs.session_measure.Nearer.{ComesNearer}
use Rattle.stage_steps.proofs.of_session_measure.Falling.{next-need}
use Rattle.stage_steps.proofs.of_session_measure.Nearer.{nearer-in-round, nearer-by-place}
use Rattle.stage_steps.specs.declared.terms.Terms.{Terms}
use Rattle.stage_steps.specs.Turns.{at_stage}

module _ (s : ℕ) (c d : Beside) (t u : Terms) (item : Item) (later : List Need) (place : ℕ) (left : List Item) (total : ℕ) where
  -- the next one is wanted
  pub nearer-next : (gather : Gather) (m : Need) → gather_left gather ≡ 0 → slice_get later place ≡ Some m →
      ComesNearer c d s (session left total (at_stage t (Gathering item gather later place))) (session left total (at_stage u (Gathering item (Locking m) later (place + 1))))
  nearer-next gather m at found = nearer-by-place s c d (at_stage t (Gathering item gather later place)) (at_stage u (Gathering item (Locking m) later (place + 1))) refl refl refl refl refl
      (let less = next-need later place m found in omega (arith, less, at)) left total

  -- or the job is due
  pub nearer-behind : (n : Need) (stage : Stage) → MatchOption (slice_get later place) (stage ≡ Working item Due) (λ m. stage ≡ Gathering item (Locking m) later (place + 1)) →
      ComesNearer c d s (session left total (at_stage t (Gathering item (Reading n) later place))) (session left total (at_stage u stage))
  nearer-behind n stage is = by (slice_get later place) refl is
    where
      At : Stage → Type 0
      At y = ComesNearer c d s (session left total (at_stage t (Gathering item (Reading n) later place))) (session left total (at_stage u y))

      by : (x : Option Need) → slice_get later place ≡ x → MatchOption x (stage ≡ Working item Due) (λ m. stage ≡ Gathering item (Locking m) later (place + 1)) → At stage
      by None found e = subst (λ (y : Stage). At y) (sym e) (nearer-in-round s c d (at_stage t (Gathering item (Reading n) later place)) (at_stage u (Working item Due)) refl refl refl refl (omega arith) left total)
      by (Some m) found e = subst (λ (y : Stage). At y) (sym e) (nearer-next (Reading n) m refl found)
