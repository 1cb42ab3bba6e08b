-- The options of NEW.
use Rattle.std.specs.Prelude.{ℕ, ◌≤◌, Bool, ◌&&◌, nat_le, List, length, codes, Option, Some, None, if◌then◌else◌}
use Rattle.std.specs.List.{list_all}
use Rattle.rdb_types.specs.declared.keys.Limits.{Limits}
use Rattle.std.specs.Char.{is_ascii_digit}
use Rattle.command_words.specs.Bytes.{digits_from, behind}
use Rattle.command_words.specs.declared.options.Taken.{Taken}
use Rattle.command_words.specs.declared.options.Taken.TheVariants.{Other, Bad, Given}
use Rattle.command_words.specs.declared.options.Asked.{Asked}

-- 1 to 10 digits
abbrev pub are_number : List ℕ → Bool
are_number ds = (nat_le 1 (length ds) && nat_le (length ds) 10) && list_all is_ascii_digit ds

-- a number from low to high
abbrev pub number_in : ℕ → ℕ → List ℕ → Option ℕ
number_in low high ds = if are_number ds && (nat_le low (digits_from 0 ds) && nat_le (digits_from 0 ds) high) then Some (digits_from 0 ds) else None

-- what a word says for an option of this name: nothing, a number from low to high where none was said before, or what isn't allowed
abbrev pub number_for : Option ℕ → Option ℕ → Taken
number_for (Some before) found = Bad
number_for None None = Bad
number_for None (Some n) = Given n

abbrev pub taken_from : Option (List ℕ) → ℕ → ℕ → Option ℕ → Taken
taken_from None low high held = Other
taken_from (Some ds) low high held = number_for held (number_in low high ds)

abbrev pub taken_by : List ℕ → ℕ → ℕ → Option ℕ → List ℕ → Taken
taken_by name low high held word = taken_from (behind name word) low high held

abbrev pub nothing_asked : Asked
nothing_asked = record { pages = None; snaps = None; entries = None; slots = None }

-- an option of NEW
abbrev pub ask_slots : Asked → Taken → Option Asked
ask_slots a Other = None
ask_slots a Bad = None
ask_slots a (Given n) = Some (record a { slots = Some n })

abbrev pub ask_entries : Asked → List ℕ → Taken → Option Asked
ask_entries a word Other = ask_slots a (taken_by (codes "--AIJ=") 2 262144 a.slots word)
ask_entries a word Bad = None
ask_entries a word (Given n) = Some (record a { entries = Some n })

abbrev pub ask_snaps : Asked → List ℕ → Taken → Option Asked
ask_snaps a word Other = ask_entries a word (taken_by (codes "--RUJ=") 1 65535 a.entries word)
ask_snaps a word Bad = None
ask_snaps a word (Given n) = Some (record a { snaps = Some n })

abbrev pub ask_pages : Asked → List ℕ → Taken → Option Asked
ask_pages a word Other = ask_snaps a word (taken_by (codes "--SNAP=") 1 65536 a.snaps word)
ask_pages a word Bad = None
ask_pages a word (Given n) = Some (record a { pages = Some n })

abbrev pub ask : Asked → List ℕ → Option Asked
ask a word = ask_pages a word (taken_by (codes "--PAGES=") 2 65536 a.pages word)

abbrev pub or_else : Option ℕ → ℕ → ℕ
or_else None d = d
or_else (Some n) d = n

-- what wasn't asked for is as large as it can be
abbrev pub limits_of : Asked → Limits
limits_of a = record { pages = or_else a.pages 65536; snaps = or_else a.snaps 65536; entries = or_else a.entries 65535; slots = or_else a.slots 262144 }

-- nothing, or a number from low to high
abbrev pub InRange : ℕ → ℕ → Option ℕ → Type 0
InRange low high None = Unit {0}
InRange low high (Some n) = (low ≤ n) × (n ≤ high)

abbrev pub GivenInRange : ℕ → ℕ → Taken → Type 0
GivenInRange low high Other = Unit {0}
GivenInRange low high Bad = Unit {0}
GivenInRange low high (Given n) = (low ≤ n) × (n ≤ high)

-- what was asked for is within its ranges
pub record IsAsked (a : Asked) : Type 0 where
  pub pages : InRange 2 65536 a.pages
  pub snaps : InRange 1 65536 a.snaps
  pub entries : InRange 1 65535 a.entries
  pub slots : InRange 2 262144 a.slots
