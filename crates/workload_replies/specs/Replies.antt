-- What an account says of replies.
use Rattle.std.specs.Prelude.{ℤ, Bool, true, false, List, [], ◌∷◌, Option, Some, None}
use Rattle.std.specs.List.{list_all, list_any}
use Rattle.rdb_types.specs.declared.values.Value.{Value}
use Rattle.rdb_types.specs.declared.values.Value.TheVariants.{Number}
use Rattle.rdb_types.specs.declared.values.Scaled.{Scaled}
use Rattle.rdo_ast.specs.declared.reply.Reply.{Reply}
use Rattle.rdo_ast.specs.declared.reply.Reply.TheVariants.{Done}
use Rattle.rdb_account.specs.declared.event.Event.{Event}
use Rattle.rdb_account.specs.declared.event.Event.TheVariants.{Said, Died}
use Rattle.workload_replies.specs.declared.replies.Counted.{Counted}

-- ---- whether all was done

abbrev pub is_done : Reply → Bool
is_done (Done rows) = true
is_done _ = false

abbrev pub is_done_at : Event → Bool
is_done_at (Said s item keys reply) = is_done reply
is_done_at _ = true

-- each item that was said was done
abbrev pub are_done : List Event → Bool
are_done events = list_all is_done_at events

-- ---- what was counted

abbrev pub number_among : Value → Option ℤ
number_among (Number n) = Some n
number_among _ = None

abbrev pub number_of : Scaled → Option ℤ
number_of scaled = number_among scaled.value

abbrev pub counted_with : Option ℤ → Option ℤ → Option Counted
counted_with (Some m) (Some n) = Some (record { accounts = m; total = n })
counted_with _ _ = None

-- one line of two numbers
abbrev pub counted_by : List (List Scaled) → Option Counted
counted_by ((a ∷ b ∷ []) ∷ []) = counted_with (number_of a) (number_of b)
counted_by _ = None

abbrev pub counted_of : Event → Option Counted
counted_of (Said s item keys (Done rows)) = counted_by rows
counted_of _ = None

abbrev pub first_of : Option Counted → Option Counted → Option Counted
first_of (Some c) later = Some c
first_of None later = later

-- by the first statement that printed such a line
abbrev pub counted_among : List Event → Option Counted
counted_among [] = None
counted_among (e ∷ es) = first_of (counted_of e) (counted_among es)

-- ---- deaths

abbrev pub is_death : Event → Bool
is_death (Died s cause) = true
is_death _ = false

-- some session died
abbrev pub has_death : List Event → Bool
has_death events = list_any is_death events
