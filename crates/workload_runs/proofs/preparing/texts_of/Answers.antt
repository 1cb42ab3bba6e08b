use Rattle.std.proofs.Common.{◌≡◌, ◌∷◌, [], ℕ, List, IfOk, sym, subst}
use Rattle.workload_runs.specs.declared.preparing.Part.{Part}
use Rattle.workload_runs.specs.Scripts.{texts_in}
use Rattle.workload_runs.proofs.preparing.texts_of.Goals as goal

-- the one text is that of the first script
pub returns-in_ok-first_script-in-First-clause-texts : goal.returns-in_ok-first_script-in-First-clause-texts
returns-in_ok-first_script-in-First-clause-texts c =
    subst (λ (p : Part). IfOk c.one_text.result (λ texts. texts.items ≡ texts_in p c.args.accounts)) (sym c.in-First.is)
    (subst (λ (text : List ℕ). IfOk c.one_text.result (λ texts. texts.items ≡ text ∷ [])) c.in_ok-first_script-in-First.ensures.text c.one_text.ensures)
