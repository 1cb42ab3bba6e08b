-- Entries of a snapshot file.
use Rattle.std.specs.Prelude.{ℕ, ◌-◌, ◌^◌, ◌<◌, ◌≤◌, ◌≡◌, List, [], ◌∷◌, length}
use Rattle.rdb_page.specs.slot_fields.Fields.{Field, number, text, gap, Has}
use Rattle.rdb_page.specs.Lines.{byte_of}
use Rattle.rdb_page.specs.rdb_types.declared.keys.LineState.{LineState}
use Rattle.rdb_page.specs.rdb_types.declared.keys.LineState.TheVariants.{Never, Present, Erased}
use Rattle.snapshot_file.specs.declared.entry.SnapEntry.{SnapEntry}

-- SNPE
abbrev pub entry_word : List ℕ
entry_word = 83 ∷ 78 ∷ 80 ∷ 69 ∷ []

abbrev pub entry_fields : SnapEntry → List Field
entry_fields e =
    text entry_word
    ∷ number 4 e.key.area
    ∷ number 4 e.key.page
    ∷ number 2 e.key.line
    ∷ number 8 e.tsn.number
    ∷ number 1 (byte_of e.state)
    ∷ number 2 (length e.image)
    ∷ number 8 e.pusher.number
    ∷ number 4 e.previous
    ∷ gap 11
    ∷ text e.image
    ∷ gap (464 - length e.image)
    ∷ []

-- a version of a line that was used: present, or erased and without an image
abbrev pub IsVersion : LineState → List ℕ → Type 0
IsVersion Never image = ⊥
IsVersion Present image = Unit {0}
IsVersion Erased image = length image ≡ 0

pub record IsAllowed (e : SnapEntry) : Type 0 where
  pub tsn : e.tsn.number < 2 ^ 62
  pub pusher : e.pusher.number < 2 ^ 62
  pub image : length e.image ≤ 440
  pub version : IsVersion e.state e.image

-- the slot is this entry
pub record IsEntry (slot : List ℕ) (e : SnapEntry) : Type 0 where
  pub fields : Has (entry_fields e) slot
  pub allowed : IsAllowed e
