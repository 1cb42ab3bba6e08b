-- What comes of a step of an open want.
use Rattle.std.specs.Prelude.{◌≡◌, ℕ, Bool, Some, List}
use Rattle.lock_needs.specs.declared.need.Need.{Need}
use Rattle.lock_needs.specs.declared.party.OpenWant.{OpenWant}
use Rattle.lock_needs.specs.Nodes.{above_of}
use Rattle.lock_tree_laws.specs.Parties.{unasked}
use Rattle.lock_tree_laws.specs.Forest.{State}
use Rattle.lock_tree.specs.declared.steps.Step.{Step}
use Rattle.lock_tree.specs.declared.steps.Step.TheVariants.{Down, Ends}
use Rattle.lock_tree_laws.specs.Wanted.{IsWanting, Answered}
use Rattle.lock_tree_laws.specs.Progress.{NeverRises, MovesOn}
use Rattle.lock_tree_laws.specs.Rule.{Finishes}
use Rattle.vms_locks.specs.Table.{Table}

-- a step of the open want
abbrev pub Steps : List Need → State → ℕ → OpenWant → Bool → Step → Type 0
Steps ws s owner w wait (Down v) = IsWanting s owner ws (unasked v) × (v ≡ unasked v) × (v.need ≡ w.need) × (above_of v.here ≡ Some w.here)
Steps ws s owner w wait (Ends answer) = Answered ws s owner w.need wait answer

-- how far a step lets the measure go
abbrev pub StepsOn : ℕ → State → State → Step → Type 0
StepsOn owner s r (Down w) = NeverRises owner s r
StepsOn owner s r (Ends answer) = MovesOn owner s r answer

-- how the table changed behind the last node that was asked
abbrev pub StepFinishes : ℕ → Step → Table → Table → Type 0
StepFinishes owner (Down w) last new = new.entries ≡ last.entries
StepFinishes owner (Ends answer) last new = Finishes owner answer last new
