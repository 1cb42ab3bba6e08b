-- What the sessions of a case begin with: their scripts. Nothing is told of the store, and each may die of any cause.
use Rattle.std.proofs.Common.{ℕ, zero, suc, Bool, List, [], true, false, map, Option, Some, None, slice_get}
use Rattle.rdo_ast.specs.Tree.{Uttered}
use Rattle.rdo_ast.specs.Views.{uttered_of}
use Rattle.rdb_meaning.specs.Contents.{no_tables}
use Rattle.rdb_account.specs.Places.{Opening}
use Rattle.session_states.specs.declared.item_queue.WholeScript.{WholeScript}

abbrev pub uttered_in : Option WholeScript → List Uttered
uttered_in (Some x) = map uttered_of x.items
uttered_in None = []

abbrev pub stops_in : Option WholeScript → Bool
stops_in (Some x) = x.stops
stops_in None = false

-- sessions are counted from 1
abbrev pub script_of : List WholeScript → ℕ → List Uttered
script_of scripts zero = []
script_of scripts (suc i) = uttered_in (slice_get scripts i)

abbrev pub stop_of : List WholeScript → ℕ → Bool
stop_of scripts zero = false
stop_of scripts (suc i) = stops_in (slice_get scripts i)

abbrev pub opening : List WholeScript → Opening
opening scripts = record {
  word = [];
  script = script_of scripts;
  stops = stop_of scripts;
  tables = no_tables;
  limits = record { pages = 0; snapshots = 0; entries = 0; slots = 0 };
  has_owner = λ file page. false;
  group_slots = 0;
  moment = 0;
  may_die = λ s cause. true;
}
