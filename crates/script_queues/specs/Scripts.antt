-- The scripts of texts.
use Rattle.std.specs.Prelude.{ℕ, List}
use Rattle.rdo_parser.specs.Script.{ends_in_stop, script_items}
use Rattle.session_states.specs.declared.item_queue.WholeScript.{WholeScript}

-- the items of a text, and whether they end at a `$ STOP`
abbrev pub whole_script : List ℕ → WholeScript
whole_script text = record { items = script_items text; stops = ends_in_stop text }
