-- The slots of the members of the cluster.
use Rattle.std.specs.Prelude.{ℕ, Bool, if◌then◌else◌, List, [], ◌∷◌}
use Rattle.slot_fields.specs.Fields.{Field, number, text, gap, Has}

-- MEMB
abbrev pub member_word : List ℕ
member_word = 77 ∷ 69 ∷ 77 ∷ 66 ∷ []

abbrev pub member_fields : ℕ → Bool → List Field
member_fields n attached =
    text member_word
    ∷ number 2 n
    ∷ number 1 (if attached then 1 else 0)
    ∷ gap 1017
    ∷ []

-- the slot is that of a member, which is attached or isn't
abbrev pub IsMember : List ℕ → ℕ → Bool → Type 0
IsMember slot n attached = Has (member_fields n attached) slot
