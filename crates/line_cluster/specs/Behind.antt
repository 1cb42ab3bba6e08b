-- What is done behind a step.
use Rattle.std.specs.Prelude.{◌≡◌, Bool, true, false, Option, None, Some}
use Rattle.line_store.specs.declared.answers.Fault.TheVariants.{Bad}
use Rattle.line_account.specs.stage_steps.declared.happening.Asking.{Asking}
use Rattle.line_account.specs.stage_steps.declared.happening.Happening.{Happening}
use Rattle.line_account.specs.stage_steps.declared.happening.Happening.TheVariants.{Noticed, Failed, Unlaid, Unworked, Unanswered, Unsound}
use Rattle.line_cluster.specs.declared.behind.Behind.{Behind}
use Rattle.line_cluster.specs.declared.behind.Behind.TheVariants.{Stop}
use Rattle.line_cluster.specs.declared.behind.Notice.{Notice}
use Rattle.line_cluster.specs.declared.sessions.Halt.{Halt}

-- what happened brings its session nearer to its end by itself, where its want wasn't queued before
abbrev pub is_moving : Happening → Bool
is_moving (Noticed t node mode x) = false
is_moving (Failed fault) = false
is_moving (Unlaid key) = false
is_moving Unworked = false
is_moving (Unanswered item) = false
is_moving (Unsound key) = false
is_moving happened = true

-- what a session knows agrees with no sound database
abbrev pub tells_unsound : Happening → Bool
tells_unsound (Unsound key) = true
tells_unsound happened = false

-- a slot isn't what it has to be
abbrev pub tells_slot : Happening → Bool
tells_slot (Failed (Bad file slot)) = true
tells_slot happened = false

-- why no session goes on behind it
abbrev pub halt_behind : Behind → Option Halt
halt_behind (Stop halt) = Some halt
halt_behind then = None

-- this notice was found due
pub record IsNoticed (n : Notice) (happened : Happening) : Type 0 where
  pub asking : Asking
  pub is : happened ≡ Noticed n.to.number n.node n.mode asking
