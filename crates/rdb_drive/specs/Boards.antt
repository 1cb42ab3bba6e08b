-- What contracts see of something that sessions drive.
use Rattle.std.specs.Prelude.{◌≡◌, ◌==◌, if◌then◌else◌, ℕ, ◌+◌, ◌≤◌, ◌<◌, ◌^◌, Bool, true, List, [], ◌∷◌, length, ◌⊎◌, Contains}

-- an entry for each event: an answer of a session, another event of a session, or an event that holds no session
pub data Mark : Type 0 where
  Says : (session : ℕ) → Mark
  Does : (session : ℕ) → Mark
  Other : Mark

abbrev pub answers_of : Mark → ℕ
answers_of (Says s) = 1
answers_of (Does s) = 0
answers_of Other = 0

-- how many entries are answers
abbrev pub answers : List Mark → ℕ
answers [] = 0
answers (m ∷ ms) = answers_of m + answers ms

abbrev pub IsMarkOf : ℕ → Mark → Type 0
IsMarkOf s (Says t) = t ≡ s
IsMarkOf s (Does t) = t ≡ s
IsMarkOf s Other = Unit {0}

abbrev pub IsNobodys : Mark → Type 0
IsNobodys (Says t) = ⊥
IsNobodys (Does t) = ⊥
IsNobodys Other = Unit {0}

abbrev pub AllOf : ℕ → List Mark → Type 0
AllOf s [] = Unit {0}
AllOf s (m ∷ ms) = IsMarkOf s m × AllOf s ms

abbrev pub AllNobodys : List Mark → Type 0
AllNobodys [] = Unit {0}
AllNobodys (m ∷ ms) = IsNobodys m × AllNobodys ms

pub record Board : Type 1 where
  -- falls with each step that moves, compared number by number
  pub measure : List ℕ
  pub marks : List Mark
  -- who rests at which length of the marks
  pub rests : ℕ → ℕ → Type 0
  pub asleep : ℕ → Bool
  pub ended : ℕ → Bool
  -- whether a dead session awaits its recovery
  pub mourns : Bool
  pub stopped : Bool

abbrev pub IsSession : ℕ → ℕ → Type 0
IsSession sessions s = (1 ≤ s) × (s ≤ sessions)

-- the first numbers in which two lists of one length differ are smaller in the first list
abbrev pub Less : List ℕ → List ℕ → Type 0
Less [] ys = ⊥
Less (x ∷ xs) [] = ⊥
Less (x ∷ xs) (y ∷ ys) = ((x < y) × (length xs ≡ length ys)) ⊎ ((x ≡ y) × Less xs ys)

abbrev pub Fits : List ℕ → Type 0
Fits [] = Unit {0}
Fits (x ∷ xs) = (x < 2 ^ 80) × Fits xs

-- every number but the first fits 80 bits, as sums over sessions of numbers of 64 bits do
abbrev pub HasBounds : List ℕ → Type 0
HasBounds [] = Unit {0}
HasBounds (x ∷ xs) = Fits xs

abbrev pub Below : List ℕ → List ℕ → Type 0
Below xs ys = HasBounds xs × Less xs ys

abbrev pub AtMost : List ℕ → List ℕ → Type 0
AtMost xs ys = (xs ≡ ys) ⊎ Below xs ys

-- the answers of s
abbrev pub answer_by : ℕ → Mark → ℕ
answer_by s (Says t) = if t == s then 1 else 0
answer_by s (Does t) = 0
answer_by s Other = 0

abbrev pub answers_by : ℕ → List Mark → ℕ
answers_by s [] = 0
answers_by s (m ∷ ms) = answer_by s m + answers_by s ms

-- whom the gate may have die, may die
abbrev pub MayDie : List ℕ → List ℕ → Type 0
MayDie gates mortals = (s : ℕ) → Contains gates s → Contains mortals s

-- every session has ended
abbrev pub AllEnded : ℕ → Board → Type 0
AllEnded sessions b = (s : ℕ) → 1 ≤ s → s ≤ sessions → b.ended s ≡ true
