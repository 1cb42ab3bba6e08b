-- A notice brings down a lock of a session that has a transaction, and changes nothing that its account keeps.
use Rattle.std.proofs.Common.{◌≡◌, ℕ, ◌∷◌, [], List, map, refl, sym, ap, subst}
use Rattle.vms_queues.specs.declared.lock_mode.Mode.{Mode}
use Rattle.rdb_types.specs.declared.node.Node.{Node}
use Rattle.rdo_ast.specs.declared.syntax.Item.{Item}
use Rattle.rdo_ast.specs.Views.{uttered_of}
use Rattle.lock_needs.specs.declared.party.Asked.{Asked}
use Rattle.lock_tree_laws.specs.Forest.{State, Parties, open_asks, party_of}
use Rattle.rdb_account.specs.Events.{Demoted}
use Rattle.rdb_account.specs.Places.{Place}
use Rattle.stepped_jobs.proofs.of_kept_apart.Alike.{alike-refl}
use Rattle.line_steps.specs.session_jobs.Records.{Model, IsOrderly}
use Rattle.line_steps.specs.lock_ties.Ties.{AreTied, IsTiedTo, needs_at}
use Rattle.line_steps.specs.Members.{member, writing}
use Rattle.line_steps.proofs.Taking.{notice-served}
use Rattle.session_states.specs.declared.stage.Writer.{Writer}
use Rattle.session_states.specs.declared.stage.Phase.TheVariants.{Writing}
use Rattle.session_states.specs.States.{item_of, session}
use Rattle.session_states.specs.Shared.{Shared, with_locks}
use Rattle.session_states.specs.Steps.{Step}
use Rattle.session_states.proofs.Resting.{leaves-others}
use Rattle.session_states.proofs.Standing.{phase-stays}
use Rattle.store_counts.proofs.Places.{more-same}
use Rattle.store_counts.proofs.Kept.{counted-events}

-- the tie speaks of needs, wants and askings alone
same-tied : (p : Place) (old new : State) → new.parties ≡ old.parties → new.trail ≡ old.trail → IsTiedTo p old → IsTiedTo p new
same-tied p old new parties trail tied =
    subst (λ (ps : Parties). AreTied p (party_of ps) (open_asks ps new.trail)) (sym parties)
    (subst (λ (asks : List Asked). AreTied p (party_of old.parties) (open_asks old.parties asks)) (sym trail) tied)

module _ (M : Model) (orderly : IsOrderly M) where
  pub serves-on : (s : ℕ) (c : Shared) (locks : State) (left : List Item) (total : ℕ) (w : Writer) (node : Node) (from to : Mode) → locks.parties ≡ c.locks.parties → locks.trail ≡ c.locks.trail →
      Step M s c (session left total (Writing w)) (with_locks locks c) (session left total (Writing w)) (Demoted s node from to ∷ [])
  serves-on s c locks left total w node from to parties trail = record {
    word = refl;
    others = record { store = (leaves-others s c).store; locks = λ u other. ap (λ (ps : Parties). party_of ps u) parties };
    moments = (tt, tt);
    leaves = λ o p g f.
        let items = map uttered_of left in
        record {
          ground = g;
          steps = notice-served M orderly o p g s (member items (writing w.standing (item_of w.stage)) total) s node from to items total w.standing (item_of w.stage) f.here f.here.stands;
          fits = record {
            ground = record { now = f.fits.ground.now; time = f.fits.ground.time; dead = f.fits.ground.dead };
            tied = same-tied p c.locks locks parties trail f.fits.tied;
            phase = phase-stays M orderly p p g g c (with_locks locks c) s refl refl refl refl (ap (λ (ps : Parties). party_of ps s) parties) (more-same p.touched p.touched refl) f.here.fit.order f.here.fit.order (alike-refl (needs_at p s) g.now) left (Writing w) f.fits.phase;
          };
          counted = counted-events o p (Demoted s node from to ∷ []) c.shelf (tt, tt) f.counted;
        };
  }
