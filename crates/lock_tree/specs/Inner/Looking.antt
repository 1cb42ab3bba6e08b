-- What comes of a look at a node.
use Rattle.std.specs.Prelude.{ℕ, Bool, List}
use Rattle.vms_locks.specs.Table.{Table}
use Rattle.lock_needs.specs.declared.need.Need.{Need}
use Rattle.lock_needs.specs.declared.party.OpenWant.{OpenWant}
use Rattle.lock_tree.specs.declared.looking.Look.{Look}
use Rattle.lock_tree.specs.declared.looking.Look.TheVariants.{NoticeTo, Asked}
use Rattle.lock_tree_laws.specs.Forest.{Parties}
use Rattle.lock_tree_laws.specs.Inner.Answering.{ComesDown, TakesAnswer, AsksAt}
use Rattle.lock_tree_laws.specs.Parties.{wanting, unasked}
use Rattle.lock_needs.specs.Party.{Party}
use Rattle.lock_tree_laws.specs.Asking.{IsDue}
use Rattle.lock_tree_laws.specs.Progress.{IsServedAt, LeavesLocks}

-- The owner's want has looked at its node: either another who is in the way has a stronger lock than it has to have, or it has asked.
abbrev pub TakesLook : Table → Table → Parties → ℕ → List Need → OpenWant → Bool → Look → Type 0
TakesLook old new ps owner ws w wait (NoticeTo other mode) = ComesDown owner (wanting ws (unasked w)) old new × IsDue new ps owner w other mode
TakesLook old new ps owner ws w wait (Asked answer) = TakesAnswer new owner ws w wait answer × AsksAt ps owner w wait old new answer

-- what the table was left as the want looked at its node
abbrev pub LooksOn : ℕ → Party → OpenWant → Table → Table → Look → Type 0
LooksOn owner p w old new (NoticeTo other mode) = IsServedAt owner p w.here old new
LooksOn owner p w old new (Asked answer) = LeavesLocks owner old new
