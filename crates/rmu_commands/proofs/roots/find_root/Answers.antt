use Rattle.std.proofs.Common.{rules}
use Rattle.std.proofs.lemmas.Result.{err_from_is_err_and}
use Rattle.rmu_commands.proofs.roots.find_root.Goals as goal

pub returns-in_err-root-clause-refused : goal.returns-in_err-root-clause-refused
returns-in_err-root-clause-refused g c = λ file slot is t has.
    let p = err_from_is_err_and c.from_residual.result c.from_residual.ensures.1 in
    c.root_of.ensures.bad file slot (first_of (cc, search rules)) t has.root has.is
