-- How an item is worked that the transaction that is open doesn't refuse.
use Rattle.std.specs.Prelude.{◌≡◌, ◌&&◌, Bool, true, false, List, [], ◌∷◌}
use Rattle.rdo_ast.specs.declared.syntax.Reservation.{Reservation}
use Rattle.rdo_ast.specs.Tree.{Expression, number, text, field, negative, chain, count, statistic, Operations, no_operation, operation, Shown, value, all_fields, Act, store, for_each, print, modify, erase, Command, Uttered, said, syntax_fault, invoke, start_read_only, start_read_write, commit, rollback, finish, back_up, perform, define_field, define_relation, define_index, delete_relation, delete_index}
use Rattle.rdb_meaning.specs.Checks.{Use, source_uses, shown_uses, act_uses}
use Rattle.rdb_meaning.specs.Evaluation.{sources_of}
use Rattle.rdo_exec.specs.declared.way.Way.{Way}
use Rattle.rdo_exec.specs.declared.way.Way.TheVariants.{Plain, Reserving, Bare, Acting, Defining, Strange}

-- whether a relation is named
abbrev pub names_any : List Use → Bool
names_any [] = false
names_any (u ∷ us) = true

abbrev pub reserves : List Reservation → Bool
reserves [] = false
reserves (r ∷ rs) = true

-- ---- actions that mean the same over all tables, where they stand alone

-- there is no statistic in it
abbrev mutual
  pub is_plain : Expression → Bool
  is_plain (number n scale) = true
  is_plain (text s) = true
  is_plain (field r) = true
  is_plain (negative e) = is_plain e
  is_plain (chain e os) = is_plain e && are_plain os
  is_plain (count r) = false
  is_plain (statistic s e r) = false

  pub are_plain : Operations → Bool
  are_plain no_operation = true
  are_plain (operation op e os) = is_plain e && are_plain os

abbrev pub all_plain : List Shown → Bool
all_plain [] = true
all_plain (value e ∷ items) = is_plain e && all_plain items
all_plain (all_fields n ∷ items) = all_plain items

-- no variable is bound around a MODIFY or ERASE
abbrev pub is_bare : Act → Bool
is_bare (store s as') = false
is_bare (for_each r cs body) = false
is_bare (print items) = all_plain items
is_bare (modify n as') = true
is_bare (erase n) = true

-- ---- ways

-- a statement about the transaction or the database that names no relation
abbrev pub IsPlain : Command → Type 0
IsPlain (invoke words) = Unit {0}
IsPlain start_read_only = Unit {0}
IsPlain (start_read_write wait rs) = reserves rs ≡ false
IsPlain commit = Unit {0}
IsPlain rollback = Unit {0}
IsPlain finish = Unit {0}
IsPlain (back_up n) = Unit {0}
IsPlain _ = ⊥

abbrev pub IsReserving : Command → Type 0
IsReserving (start_read_write wait rs) = reserves rs ≡ true
IsReserving _ = ⊥

abbrev pub IsBare : Command → Type 0
IsBare (perform a) = is_bare a ≡ true
IsBare _ = ⊥

-- an action that names a relation
abbrev pub NamesSome : Command → Type 0
NamesSome (perform a) = names_any (act_uses a []) ≡ true
NamesSome _ = ⊥

abbrev pub IsDefining : Command → Type 0
IsDefining (define_field n type) = Unit {0}
IsDefining (define_relation n fs) = Unit {0}
IsDefining (define_index d) = Unit {0}
IsDefining (delete_relation n) = Unit {0}
IsDefining (delete_index n) = Unit {0}
IsDefining _ = ⊥

-- a FOR without a range, or a PRINT of a statistic in which no range is
abbrev pub HasNoRange : Act → Type 0
HasNoRange (store s as') = ⊥
HasNoRange (for_each r cs body) = names_any (source_uses (sources_of r)) ≡ false
HasNoRange (print items) = (all_plain items ≡ false) × (names_any (shown_uses items) ≡ false)
HasNoRange (modify n as') = ⊥
HasNoRange (erase n) = ⊥

abbrev pub IsUnranged : Command → Type 0
IsUnranged (perform a) = HasNoRange a
IsUnranged _ = ⊥

abbrev pub IsWay : Way → Command → Type 0
IsWay Plain command = IsPlain command
IsWay Reserving command = IsReserving command
IsWay Bare command = IsBare command
IsWay Acting command = NamesSome command
IsWay Defining command = IsDefining command
IsWay Strange command = IsUnranged command

-- it is worked over a view
abbrev pub IsViewing : Command → Type 0
IsViewing (perform a) = names_any (act_uses a []) ≡ true
IsViewing command = IsDefining command

-- the same of an item
abbrev pub IsViewed : Uttered → Type 0
IsViewed (said command) = IsViewing command
IsViewed (syntax_fault line column) = ⊥
