use Rattle.std.proofs.Common.{rules, ◌≡◌, ◌⊎◌, subst}
use Rattle.root_file.specs.declared.Root.{Root}
use Rattle.root_file.proofs.Readings.{one_root}
use Rattle.database_opening.proofs.reading.root_in.Goals as goal

pub returns-in_default-clause-none : goal.returns-in_default-clause-none
returns-in_default-clause-none c = λ root may. c.in_default.ensures.none root may.is

pub returns-then-may-clause-found : goal.returns-then-may-clause-found
returns-then-may-clause-found c = record { is = c.in-Ok.ensures.found; state = c.is_opened-may.ensures.yes (search rules) }

pub returns-else-may-clause-none : goal.returns-else-may-clause-none
returns-else-may-clause-none c = λ root may.
    let same : root ≡ c.in-Ok.root = one_root c.args.slot.now root c.in-Ok.root may.is c.in-Ok.ensures.found in
    c.is_opened-may.ensures.no (search rules) (subst (λ (r : Root). (r.state ≡ 1) ⊎ (r.state ≡ 3)) same may.state)
