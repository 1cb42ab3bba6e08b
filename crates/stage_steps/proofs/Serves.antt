-- A lock that comes down, or a call that found no memory for that, changes no needs, wants or askings.
use Rattle.std.proofs.Common.{◌≡◌, ℕ, [], List, map, refl, sym, ap, subst}
use Rattle.rdo_ast.specs.Views.{uttered_of}
use Rattle.lock_needs.specs.declared.party.Asked.{Asked}
use Rattle.lock_tree_laws.specs.Forest.{State, Parties, open_asks, party_of}
use Rattle.rdb_account.specs.Places.{Place}
use Rattle.kept_apart.proofs.Alike.{alike-refl}
use Rattle.session_jobs.specs.Records.{Model, IsOrderly}
use Rattle.lock_ties.specs.Ties.{AreTied, IsTiedTo, needs_at}
use Rattle.session_limits.specs.line_steps.Members.{member, writing}
use Rattle.session_limits.proofs.of_line_steps.Kept.{rests}
use Rattle.session_limits.specs.session_states.declared.stage.Writer.{Writer}
use Rattle.session_limits.specs.session_states.declared.stage.Phase.TheVariants.{Writing}
use Rattle.session_limits.specs.session_states.States.{item_of}
use Rattle.session_limits.specs.session_states.Shared.{Shared, with_locks}
use Rattle.session_limits.proofs.of_session_states.Resting.{leaves-others}
use Rattle.session_limits.proofs.of_session_states.Standing.{phase-stays}
use Rattle.session_limits.proofs.of_store_counts.Places.{more-same}
use Rattle.stage_steps.specs.Turns.{Comes}

same-tied : (p : Place) (old new : State) → new.parties ≡ old.parties → new.trail ≡ old.trail → IsTiedTo p old → IsTiedTo p new
same-tied p old new parties trail tied =
    subst (λ (ps : Parties). AreTied p (party_of ps) (open_asks ps new.trail)) (sym parties)
    (subst (λ (asks : List Asked). AreTied p (party_of old.parties) (open_asks old.parties asks)) (sym trail) tied)

module _ (M : Model) (orderly : IsOrderly M) where
  pub locks-still : (s : ℕ) (c : Shared) (locks : State) (w : Writer) → locks.parties ≡ c.locks.parties → locks.trail ≡ c.locks.trail → Comes M s c (Writing w) (with_locks locks c) (Writing w) []
  locks-still s c locks w parties trail = λ left total. record {
    word = refl;
    others = record { store = (leaves-others s c).store; locks = λ u other. ap (λ (ps : Parties). party_of ps u) parties };
    moments = tt;
    leaves = λ o p g f. record {
      ground = g;
      steps = rests M orderly o p g s (member (map uttered_of left) (writing w.standing (item_of w.stage)) total) f.here;
      fits = record {
        ground = record { now = f.fits.ground.now; time = f.fits.ground.time; dead = f.fits.ground.dead };
        tied = same-tied p c.locks locks parties trail f.fits.tied;
        phase = phase-stays M orderly p p g g c (with_locks locks c) s refl refl refl refl (ap (λ (ps : Parties). party_of ps s) parties) (more-same p.touched p.touched refl) f.here.fit.order f.here.fit.order (alike-refl (needs_at p s) g.now) left (Writing w) f.fits.phase;
      };
      counted = f.counted;
    };
  }
