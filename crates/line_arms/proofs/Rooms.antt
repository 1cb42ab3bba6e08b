-- A statement that lacks a room has its job worked again.
use Rattle.std.proofs.Common.{refl, arith}
use Rattle.rdb_types.specs.declared.keys.Dbkey.{Dbkey}
use Rattle.rdo_ast.specs.declared.syntax.Item.{Item}
use Rattle.line_view.specs.declared.need.Need.TheVariants as need
use Rattle.line_view.specs.declared.need.Room.{Room}
use Rattle.session_jobs.specs.Records.{Model, IsOrderly}
use Rattle.job_steps.specs.session_states.declared.stage.Work.TheVariants.{Due, Lacking, Lodging}
use Rattle.job_steps.specs.session_states.declared.stage.Stage.TheVariants.{Working}
use Rattle.job_steps.proofs.of_session_states.Resting.{rests-by}
use Rattle.job_steps.proofs.of_session_measure.Nearer.{nearer-in-round}
use Rattle.job_steps.specs.stage_steps.declared.terms.Terms.{Terms}
use Rattle.job_steps.specs.stage_steps.Scenes.{PassesOn}
use Rattle.job_steps.specs.stage_steps.Turns.{at_stage}
use Rattle.job_steps.proofs.of_stage_steps.Seated.{rests-at}

module _ (M : Model) (orderly : IsOrderly M) (t : Terms) (item : Item) (room : Room) where
  pub lacks-again : PassesOn M (at_stage t (Working item (Lacking (need.Room room)))) (at_stage t (Working item Due))
  lacks-again = record {
    comes = λ s c left total. rests-by M orderly s c left total (at_stage t (Working item (Lacking (need.Room room)))) (at_stage t (Working item Due)) refl
        (λ o p g f. record { desk = f.fits.phase.desk; spoken = f.fits.phase.spoken; waits = f.fits.phase.waits; stage = (f.fits.phase.stage.0, tt); wants = f.fits.phase.wants; journal = f.fits.phase.journal; ends = tt; claims = tt });
    seated = λ stand locks s f. rests-at stand locks s _ f.seat f.wants f.needs f.statement;
    nearer = λ s b left total. nearer-in-round s b b _ _ refl refl refl refl (omega arith) left total;
  }

  pub lodges-again : (key : Dbkey) → PassesOn M (at_stage t (Working item (Lodging room key))) (at_stage t (Working item Due))
  lodges-again key = record {
    comes = λ s c left total. rests-by M orderly s c left total (at_stage t (Working item (Lodging room key))) (at_stage t (Working item Due)) refl
        (λ o p g f. record { desk = f.fits.phase.desk; spoken = f.fits.phase.spoken; waits = f.fits.phase.waits; stage = (f.fits.phase.stage.0, tt); wants = f.fits.phase.wants; journal = f.fits.phase.journal; ends = tt; claims = tt });
    seated = λ stand locks s f. rests-at stand locks s _ f.seat f.wants f.needs f.statement;
    nearer = λ s b left total. nearer-in-round s b b _ _ refl refl refl refl (omega arith) left total;
  }
