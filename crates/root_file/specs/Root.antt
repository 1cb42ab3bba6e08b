-- The root slot.
use Rattle.std.specs.Prelude.{ℕ, ◌^◌, ◌≤◌, ◌≡◌, List, [], ◌∷◌}
use Rattle.slot_fields.specs.Fields.{Field, number, text, gap, Has}
use Rattle.rdb_types.specs.declared.keys.Limits.{Limits}
use Rattle.root_file.specs.declared.Root.{Root}

-- ROOT
abbrev pub root_word : List ℕ
root_word = 82 ∷ 79 ∷ 79 ∷ 84 ∷ []

abbrev pub root_fields : Root → List Field
root_fields r =
    text root_word
    ∷ number 2 r.format
    ∷ number 1 r.state
    ∷ gap 1
    ∷ number 4 r.limits.pages
    ∷ number 4 r.limits.snaps
    ∷ number 4 r.limits.entries
    ∷ number 4 r.limits.slots
    ∷ number 8 r.ceiling
    ∷ number 8 r.applied
    ∷ gap 984
    ∷ []

-- how far files may grow
pub record AreLimits (l : Limits) : Type 0 where
  pub pages : (2 ≤ l.pages) × (l.pages ≤ 65536)
  pub snaps : (1 ≤ l.snaps) × (l.snaps ≤ 65536)
  pub entries : (1 ≤ l.entries) × (l.entries ≤ 65535)
  pub slots : (2 ≤ l.slots) × (l.slots ≤ 262144)

-- a format that is known, a state, limits and numbers within their ranges
pub record IsAllowed (r : Root) : Type 0 where
  pub format : r.format ≡ 1
  pub state : (1 ≤ r.state) × (r.state ≤ 4)
  pub limits : AreLimits r.limits
  pub ceiling : (1 ≤ r.ceiling) × (r.ceiling ≤ 2 ^ 62)
  pub applied : r.applied ≤ 2 ^ 62

-- the slot is a root with these values
pub record IsRoot (slot : List ℕ) (r : Root) : Type 0 where
  pub fields : Has (root_fields r) slot
  pub allowed : IsAllowed r
