use Rattle.session_cases.proofs.Opening.{opening}
use Rattle.session_cases.proofs.stores.run_in_memory.Given as goal

abbrev pub ghosts-run-O-Origin : goal.ghosts-run-O-Origin
ghosts-run-O-Origin a = record { opening = opening a.said.scripts.items; sessions = 4; faults = 0; told = ⊥ }

abbrev pub ghosts-run-O-Naming : goal.ghosts-run-O-Naming
ghosts-run-O-Naming a = record { book = a.said.desk }
