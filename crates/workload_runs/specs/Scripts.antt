-- What the runs of a workload say.
use Rattle.std.specs.Prelude.{ℕ, List, [], ◌∷◌, map}
use Rattle.session_states.specs.declared.item_queue.WholeScript.{WholeScript}
use Rattle.script_queues.specs.Scripts.{whole_script}
use Rattle.workload_scripts.specs.Scripts.{first_script, transfer_scripts, last_script}
use Rattle.workload_runs.specs.declared.preparing.Part.{Part}
use Rattle.workload_runs.specs.declared.preparing.Part.TheVariants.{First, Transfers, Last}

-- for so many accounts: one text for each session
abbrev pub texts_in : Part → ℕ → List (List ℕ)
texts_in First accounts = first_script accounts ∷ []
texts_in Transfers accounts = transfer_scripts accounts
texts_in Last accounts = last_script ∷ []

abbrev pub scripts_in : Part → ℕ → List WholeScript
scripts_in part accounts = map whole_script (texts_in part accounts)

-- the first in one session, the second in four, the last in one
abbrev pub scripts_of_runs : ℕ → List (List WholeScript)
scripts_of_runs accounts = scripts_in First accounts ∷ scripts_in Transfers accounts ∷ scripts_in Last accounts ∷ []
