use Rattle.line_versions.specs.Files.{entries_in}
use Rattle.line_versions.proofs.Exact as exact
use Rattle.line_versions.proofs.laws.undone_entries_are_free.Goals as goal

pub returns-clause-right : goal.returns-clause-right
returns-clause-right c = λ image now course tsn file chain goes nowhere its right are. exact.undone_given (entries_in image) now course tsn file chain goes nowhere its right are

pub returns-clause-exact : goal.returns-clause-exact
returns-clause-exact c = λ image now course tsn file chain goes nowhere its right are. exact.exact_given (entries_in image) now course tsn file chain goes nowhere its right are
