-- The header of the before-image journal.
use Rattle.std.specs.Prelude.{ℕ, ◌^◌, ◌<◌, ◌≤◌, ◌≡◌, ◌⊎◌, List, [], ◌∷◌, length, Option, Some, None, replicate}
use Rattle.rdb_page.specs.slot_fields.Fields.{Field, number, text, gap, Has}
use Rattle.rdb_types.specs.declared.keys.Tsn.{Tsn}

-- RUJH
abbrev pub header_word : List ℕ
header_word = 82 ∷ 85 ∷ 74 ∷ 72 ∷ []

-- the number of the transaction whose entries stand behind the header, and 0 where there is none
abbrev pub number_of : Option Tsn → ℕ
number_of None = 0
number_of (Some tsn) = tsn.number

abbrev pub header_fields : Option Tsn → List Field
header_fields open_tsn = text header_word ∷ number 8 (number_of open_tsn) ∷ gap 500 ∷ []

-- numbers of transactions count from 1
abbrev pub IsAllowed : Option Tsn → Type 0
IsAllowed None = Unit {0}
IsAllowed (Some tsn) = (1 ≤ tsn.number) × (tsn.number < 2 ^ 62)

-- a header that was written
pub record IsWritten (slot : List ℕ) (open_tsn : Option Tsn) : Type 0 where
  pub fields : Has (header_fields open_tsn) slot
  pub allowed : IsAllowed open_tsn

-- The slot is a header, with the transaction that is open. Zeros are one with none.
abbrev pub IsHeader : List ℕ → Option Tsn → Type 0
IsHeader slot open_tsn = IsWritten slot open_tsn ⊎ ((slot ≡ replicate (length slot) 0) × (open_tsn ≡ None))
