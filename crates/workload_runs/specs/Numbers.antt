-- Whether there are numbers for the groups of a journal.
use Rattle.std.specs.Prelude.{ℕ, ◌+◌, ◌^◌, ◌<◌}
use Rattle.root_file.specs.declared.Root.{Root}
use Rattle.line_opening.specs.declared.groups.NextGroup.{NextGroup}

-- fewer than the journal has room for, where so many of its slots are in use
abbrev pub Wanted : Root → NextGroup → ℕ → Type 0
Wanted root next in_use = 2 ^ 62 + in_use < next.number + root.limits.slots
