-- What a step of journalling makes of the ledger.
use Rattle.std.specs.Prelude.{ℕ, List, [], ◌∷◌, ◌++◌}
use Rattle.disk_seats.specs.stable_lines.Slots.{Undo}
use Rattle.disk_seats.specs.Ledgers.{changing, Ledger, stands_as}
use Rattle.member_steps.specs.declared.journalling.Journalled.{Journalled}
use Rattle.member_steps.specs.declared.journalling.Journalled.TheVariants.{Header, BeforeImage}

-- the ledger behind it: the member has the before-image, too, where it was written
abbrev pub ledger_with : Journalled → ℕ → List Undo → Undo → ℕ → Ledger → Ledger
ledger_with Header member all undo stable g = g
ledger_with BeforeImage member all undo stable g = stands_as member (changing (all ++ undo ∷ []) stable) g
