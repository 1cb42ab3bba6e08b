-- The events of what happened in a step.
use Rattle.std.specs.Prelude.{ℕ, List, [], ◌∷◌, ◌++◌}
use Rattle.rdo_ast.specs.declared.reply.Reply.TheVariants.{Done}
use Rattle.rdo_ast.specs.declared.syntax.Item.{Item}
use Rattle.rdo_ast.specs.Tree.{said, commit, rollback}
use Rattle.rdo_ast.specs.Views.{uttered_of}
use Rattle.rdb_account.specs.Events as event
use Rattle.rdb_account.specs.Events.{Event}
use Rattle.lock_ties.specs.Ties.{wanted_at}
use Rattle.stage_steps.specs.declared.happening.Answer.{Answer}
use Rattle.stage_steps.specs.declared.happening.Asking.{Asking}
use Rattle.stage_steps.specs.declared.happening.Happening.{Happening}
use Rattle.stage_steps.specs.declared.happening.Happening.TheVariants.{Quiet, Began, Answered, Unstarted, Asleep, Noticed, Got, Refused, RefusedStart, Committed, BackedUp, RolledBack, Left, Failed, Unlaid, Unworked, Unsound, Unanswered}

abbrev pub said_by : ℕ → Answer → Event
said_by s a = event.Said s (uttered_of a.item) a.keys a.reply

abbrev pub asked_by : ℕ → Asking → List Event
asked_by s x = wanted_at s x.need x.nodes

abbrev pub events_of : ℕ → Happening → List Event
events_of s Quiet = []
events_of s (Began kind) = event.Began s kind ∷ []
events_of s (Answered a) = said_by s a ∷ []
events_of s (Unstarted a) = said_by s a ∷ event.RolledBack s ∷ []
events_of s (Asleep t x) = asked_by s x
events_of s (Noticed t n mode x) = asked_by s x
events_of s (Got x) = asked_by s x ++ event.Got s x.need ∷ []
events_of s (Refused x a) = asked_by s x ++ said_by s a ∷ []
events_of s (RefusedStart x a) = asked_by s x ++ said_by s a ∷ event.RolledBack s ∷ []
events_of s (Committed moment) = event.Committed s moment.number ∷ event.Said s (said commit) [] (Done []) ∷ []
events_of s (BackedUp item moment) = event.Committed s moment.number ∷ event.Said s (uttered_of item) [] (Done []) ∷ []
events_of s RolledBack = event.RolledBack s ∷ event.Said s (said rollback) [] (Done []) ∷ []
events_of s Left = event.RolledBack s ∷ []
events_of s (Failed fault) = []
events_of s (Unlaid key) = []
events_of s Unworked = []
events_of s (Unsound key) = []
events_of s (Unanswered item) = []

-- the item that is handed back
abbrev pub handed_back : Happening → List Item
handed_back (Unanswered item) = item ∷ []
handed_back _ = []
