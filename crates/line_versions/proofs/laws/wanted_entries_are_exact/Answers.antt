use Rattle.line_versions.specs.Files.{entries_in}
use Rattle.line_versions.proofs.Exact as exact
use Rattle.line_versions.proofs.Slots.{one_each}
use Rattle.line_versions.proofs.laws.wanted_entries_are_exact.Goals as goal

pub returns-clause-given : goal.returns-clause-given
returns-clause-given c = λ image course are file chain entry followed stands ended none. exact.may_be_given (entries_in image) (one_each image) course are file chain entry followed stands ended none

pub returns-clause-wanted : goal.returns-clause-wanted
returns-clause-wanted c = λ image course chain entry stands may session reading is passes. exact.given_unseen (entries_in image) (one_each image) course chain entry stands may session reading is passes

pub returns-clause-opens : goal.returns-clause-opens
returns-clause-opens c = λ image now lines next. exact.exact_opens (entries_in image) now lines next

pub returns-clause-begins : goal.returns-clause-begins
returns-clause-begins c = λ image course going either goes_on are. exact.exact_begins (entries_in image) course going either goes_on are

pub returns-clause-undone : goal.returns-clause-undone
returns-clause-undone c = λ image course going tsn rest none are. exact.exact_undone (entries_in image) course going tsn rest none are

pub returns-clause-commits : goal.returns-clause-commits
returns-clause-commits c = λ image now course going base lines tsn rest goes each top right are. exact.exact_commits (entries_in image) now course going base lines tsn rest goes each top right are

pub returns-clause-readers : goal.returns-clause-readers
returns-clause-readers c = λ image course active reader active_are either are. exact.exact_readers (entries_in image) course active reader active_are either are
