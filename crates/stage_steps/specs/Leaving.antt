-- Why a statement is left unworked, and where its job calls a line bad.
use Rattle.std.specs.Prelude.{◌≡◌, ℕ, List}
use Rattle.rdo_ast.specs.declared.reply.Standing.TheVariants.{Closed}
use Rattle.rdo_ast.specs.declared.syntax.Item.{Item}
use Rattle.rdo_ast.specs.Views.{uttered_of}
use Rattle.line_view.specs.Held.{knows, nothing}
use Rattle.session_jobs.specs.declared.jobs.Found.{Found}
use Rattle.session_jobs.specs.declared.jobs.Found.TheVariants.{Bad}
use Rattle.session_jobs.specs.Jobs.{Cause}
use Rattle.stage_steps.specs.declared.happening.Happening.{Happening}
use Rattle.stage_steps.specs.declared.happening.Happening.TheVariants.{Unworked, Unsound, Unanswered}

-- the item that is handed back is the one that was taken up, and was left for such a cause
abbrev pub IsLeftFor : Cause → List ℕ → Item → Happening → Type 0
IsLeftFor L word item (Unanswered back) = (back ≡ item) × L word Closed (uttered_of item) (knows nothing)
IsLeftFor L word item _ = Unit {0}

-- where a statement was left unworked, this is so
abbrev pub OnUnworked : Happening → Type 0 → Type 0
OnUnworked Unworked cause = cause
OnUnworked _ cause = Unit {0}

-- a line that a job calls bad is named
abbrev pub NamesBad : Found → Happening → Type 0
NamesBad (Bad key) happened = happened ≡ Unsound key
NamesBad _ happened = Unit {0}
