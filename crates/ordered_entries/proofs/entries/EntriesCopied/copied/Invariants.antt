use Rattle.std.proofs.Common.{◌≡◌, take}
use Rattle.ordered_entries.proofs.entries.EntriesCopied.copied.Given as goal

abbrev pub invariant-loop-entry : goal.invariant-loop-entry
invariant-loop-entry g l = l.held.items ≡ take l.entry-index l.entry-items
