use Rattle.std.proofs.Common.{◌≡◌, ◌≤◌, ◌+◌, ◌*◌, List, ℕ, ◌++◌, length, ap, ◌∙◌, subst, sym}
use Rattle.std.specs.Prelude.{codes}
use Rattle.workload_scripts.specs.Scripts.{definitions, first_script, stores_to}
use Rattle.workload_scripts.proofs.Lengths.{of_first}
use Rattle.workload_scripts.proofs.Parts.{three}
use Rattle.workload_scripts.proofs.scripts.first_script.Goals as goal

pub returns-clause-short : goal.returns-clause-short
returns-clause-short c =
    let text : c.extend-2.new.self ≡ first_script c.args.accounts =
    three c.new-text.result definitions (stores_to c.args.accounts) (codes "COMMIT\n") _ _ _ c.in_ok-extend.ensures.ok c.in_ok-stores_text.ensures c.in_ok-extend-2.ensures.ok
    ∙ ap (λ (l : List ℕ). l ++ first_script c.args.accounts) c.new-text.ensures in
    subst (λ (l : List ℕ). length l ≤ 400 + 80 * c.args.accounts) (sym text) (of_first c.args.accounts c.ranges.accounts.fits)
