-- The entries of the before-image journal.
use Rattle.std.specs.Prelude.{ℕ, ◌-◌, ◌^◌, ◌<◌, List, [], ◌∷◌, length}
use Rattle.rdb_page.specs.slot_fields.Fields.{Field, number, text, gap, Has}
use Rattle.rdb_page.specs.Lines.{byte_of, IsAllowedLine}
use Rattle.ruj_journal.specs.declared.entry.RujEntry.{RujEntry}

-- RUJE
abbrev pub entry_word : List ℕ
entry_word = 82 ∷ 85 ∷ 74 ∷ 69 ∷ []

abbrev pub entry_fields : RujEntry → List Field
entry_fields e =
    text entry_word
    ∷ number 8 e.tsn.number
    ∷ number 4 e.index
    ∷ number 4 e.key.area
    ∷ number 4 e.key.page
    ∷ number 2 e.key.line
    ∷ number 1 (byte_of e.before.state)
    ∷ number 2 (length e.before.image)
    ∷ number 8 e.before.tsn.number
    ∷ number 4 e.before.chain
    ∷ gap 7
    ∷ text e.before.image
    ∷ gap (464 - length e.before.image)
    ∷ []

-- the slot is this entry
pub record IsEntry (slot : List ℕ) (e : RujEntry) : Type 0 where
  pub fields : Has (entry_fields e) slot
  pub tsn : e.tsn.number < 2 ^ 62
  pub before : IsAllowedLine 440 e.before
