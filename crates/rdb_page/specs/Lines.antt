-- Lines, as they stand in slots.
use Rattle.std.specs.Prelude.{ℕ, ◌^◌, ◌-◌, ◌+◌, ◌*◌, ◌<◌, ◌≤◌, ◌≡◌, List, [], ◌∷◌, length}
use Rattle.slot_fields.specs.Fields.{Field, number, text, gap, HasPart}
use Rattle.rdb_types.specs.declared.keys.Line.{Line}
use Rattle.rdb_types.specs.declared.keys.LineState.{LineState}
use Rattle.rdb_types.specs.declared.keys.LineState.TheVariants.{Never, Present, Erased}

abbrev pub byte_of : LineState → ℕ
byte_of Never = 0
byte_of Present = 1
byte_of Erased = 2

-- A line that was never there is all zeros; one that was erased has no image.
abbrev pub Agrees : LineState → ℕ → ℕ → List ℕ → Type 0
Agrees Never tsn chain image = (tsn ≡ 0) × (chain ≡ 0) × (length image ≡ 0)
Agrees Present tsn chain image = Unit {0}
Agrees Erased tsn chain image = length image ≡ 0

-- a line with an image of at most so many bytes
pub record IsAllowedLine (class : ℕ) (l : Line) : Type 0 where
  pub tsn : l.tsn.number < 2 ^ 62
  pub image : length l.image ≤ class
  pub agrees : Agrees l.state l.tsn.number l.chain l.image

-- a line of a page whose lines have images of at most so many bytes
abbrev pub line_fields : ℕ → Line → List Field
line_fields class l =
    number 1 (byte_of l.state)
    ∷ gap 1
    ∷ number 2 (length l.image)
    ∷ number 8 l.tsn.number
    ∷ number 4 l.chain
    ∷ text l.image
    ∷ gap (class - length l.image)
    ∷ []

-- a line that was never used
abbrev pub never : Line
never = record { state = Never; tsn = record { number = 0 }; chain = 0; image = [] }

-- where a line of this number begins
abbrev pub line_place : ℕ → ℕ → ℕ
line_place class line = 24 + line * (16 + class)

-- the line of this number on a page of this class
pub record IsLine (page : List ℕ) (class line : ℕ) (l : Line) : Type 0 where
  pub fields : HasPart (line_place class line) (line_fields class l) page
  pub allowed : IsAllowedLine class l
