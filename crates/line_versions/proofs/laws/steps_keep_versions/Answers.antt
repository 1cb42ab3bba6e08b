use Rattle.line_versions.specs.Files.{entries_in}
use Rattle.line_versions.proofs.Steps as steps
use Rattle.line_versions.proofs.Slots as slots
use Rattle.line_versions.proofs.laws.steps_keep_versions.Goals as goal

pub returns-clause-opens : goal.returns-clause-opens
returns-clause-opens c = λ image now lines next shows drawn. steps.opens (entries_in image) now lines next shows drawn

pub returns-clause-written : goal.returns-clause-written
returns-clause-written c = λ old new file slot bytes now v puts free right. slots.slot_written old new file slot bytes now v puts free right

pub returns-clause-held : goal.returns-clause-held
returns-clause-held c = λ image file chain now v right. slots.entry_held (entries_in image) file chain now v right

pub returns-clause-new_line : goal.returns-clause-new_line
returns-clause-new_line c = λ image now course key line right ended going first. steps.changed_new (entries_in image) now course key line right ended going first

pub returns-clause-further : goal.returns-clause-further
returns-clause-further c = λ image now course key line right going tsn chain. steps.changed_again (entries_in image) now course key line right going tsn chain

pub returns-clause-lines : goal.returns-clause-lines
returns-clause-lines c = λ image now then v each right. steps.lines_other (entries_in image) now then v each right

pub returns-clause-begins : goal.returns-clause-begins
returns-clause-begins c = λ image now v going either goes_on right. steps.begins (entries_in image) now v going either goes_on right

pub returns-clause-undone : goal.returns-clause-undone
returns-clause-undone c = λ image now v going tsn rest nowhere right. steps.ends_undone (entries_in image) now v going tsn rest nowhere right

pub returns-clause-commits : goal.returns-clause-commits
returns-clause-commits c = λ image now v going base lines tsn rest goes each right. steps.commits (entries_in image) now v going base lines tsn rest goes each right

pub returns-clause-readers : goal.returns-clause-readers
returns-clause-readers c = λ image now v active reader are either right. steps.readers_other (entries_in image) now v active reader are either right

pub returns-clause-given : goal.returns-clause-given
returns-clause-given c = λ image file chain now v may right. slots.given_back (entries_in image) file chain now v may right

pub returns-clause-first_change : goal.returns-clause-first_change
returns-clause-first_change c = λ old new bytes now then v key line number free puts stands ended going each right. slots.first_change old new bytes now then v key line number free puts stands ended going each right
