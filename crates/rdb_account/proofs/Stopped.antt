-- Accounts of a session whose script ends in a stop.
use Rattle.std.proofs.Common.{arith}
use Rattle.std.specs.Prelude.{refl, ℕ, ◌==◌, if◌then◌else◌, Bool, false, List, [], ◌∷◌}
use Rattle.rdo_ast.specs.Tree.{Uttered}
use Rattle.lock_needs.specs.rdb_types.declared.session.Cause.TheVariants as cause
use Rattle.rdb_account.specs.Events.{Event, Began, Said, RolledBack, Died, Recovered}
use Rattle.rdb_account.specs.Places.{Opening}
use Rattle.rdb_account.specs.Legal.{IsLegal, AreWhole}
use Rattle.rdb_account.proofs.Worked.{writer, start_writing, done, base, beside}

abbrev is_first : ℕ → Bool
is_first s = s == 1

abbrev starting_script : ℕ → List Uttered
starting_script s = if s == 1 then (start_writing ∷ []) else []

-- The first session starts a transaction, and stops.
abbrev stopping : Opening
stopping = record (beside starting_script base) { stops = is_first }

abbrev stopped_events : List Event
stopped_events = Began 1 writer ∷ Said 1 start_writing [] done ∷ Died 1 cause.Stop ∷ Recovered 1 false 0 ∷ []

pub stopped : IsLegal stopping stopped_events
stopped = record {
  steps = ((refl, refl, refl), ((refl, (refl, refl, (refl, refl))), ((refl, refl), ((refl, omega arith, tt), tt))));
  settled = refl;
}

-- outside a transaction
pub stopped_outside : IsLegal (record stopping { script = λ s. [] }) (Died 1 cause.Stop ∷ Recovered 1 false 0 ∷ [])
stopped_outside = record { steps = ((refl, refl), ((refl, omega arith, tt), tt)); settled = refl }

-- It stops before it has said its script.
pub stopped_early : IsLegal stopping (Died 1 cause.Stop ∷ []) → ⊥
stopped_early h = let wrong = h.steps.0.1 in grind arith

-- It dies of a stop, and there is none, though of all else it may die.
pub never_stopped : IsLegal (record stopping { stops = λ s. false }) stopped_events → ⊥
never_stopped h = let wrong = h.steps.1.1.0.1 in grind arith

abbrev left_events : List Event
left_events = Began 1 writer ∷ Said 1 start_writing [] done ∷ RolledBack 1 ∷ []

-- Who is to stop has not come to its script's end where it lives on.
pub lives_on : AreWhole is_first stopping left_events → ⊥
lives_on h = let wrong = (h 1 refl).3 in grind arith
