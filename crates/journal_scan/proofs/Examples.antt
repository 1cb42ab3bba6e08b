-- Small journals, and the whole groups that stand in them.
use Rattle.std.proofs.Common.{◌≡◌, ℕ, List, [], ◌∷◌, ◌++◌, Option, Some, None, refl}
use Rattle.aij_journal.specs.rdb_types.declared.keys.LineState.TheVariants.{Present}
use Rattle.aij_journal.specs.declared.part.GroupLine.{GroupLine}
use Rattle.aij_journal.specs.declared.part.AijPart.{AijPart}
use Rattle.journal_scan.specs.declared.group.Group.{Group}
use Rattle.journal_scan.specs.Whole.{slots_of}
use Rattle.journal_scan.specs.Reading.{groups_of}

abbrev line_of : ℕ → GroupLine
line_of page = record { key = record { area = 16; page = page; line = 0 }; class = 208; state = Present; image = 1 ∷ 0 ∷ [] }

abbrev slot : ℕ → ℕ → ℕ → ℕ → Option GroupLine → Option AijPart
slot number tsn index count line = Some (record { number = number; tsn = record { number = tsn }; index = index; count = count; line = line })

abbrev page : ℕ → Option GroupLine
page p = Some (line_of p)

abbrev group : ℕ → ℕ → List GroupLine → Group
group number tsn lines = record { number = number; tsn = record { number = tsn }; lines = lines }

-- a group of two lines, and one of one line
abbrev first : Group
first = group 5 70 (line_of 2 ∷ line_of 3 ∷ [])

abbrev second : Group
second = group 6 80 (line_of 2 ∷ [])

its_slots : slots_of first ≡ slot 5 70 0 3 (page 2) ∷ slot 5 70 1 3 (page 3) ∷ slot 5 70 2 3 None ∷ []
its_slots = refl

two_groups : groups_of 5 (slots_of first ++ slots_of second) ≡ first ∷ second ∷ []
two_groups = refl

no_slots : groups_of 5 [] ≡ []
no_slots = refl

cut_off : groups_of 5 (slots_of first ++ slot 6 80 0 2 (page 2) ∷ []) ≡ first ∷ []
cut_off = refl

-- nothing is read behind a slot that is none of a group's
a_gap : groups_of 5 (slots_of first ++ None ∷ slots_of second) ≡ first ∷ []
a_gap = refl

-- nor behind a group that another one's slots cut off
interrupted : groups_of 5 (slot 5 70 0 3 (page 2) ∷ slots_of second) ≡ []
interrupted = refl

begun_again : groups_of 6 (slot 6 70 0 3 (page 2) ∷ slots_of second) ≡ []
begun_again = refl

number_left_out : groups_of 5 (slots_of first ++ slots_of (group 7 80 (line_of 2 ∷ []))) ≡ first ∷ []
number_left_out = refl

first_of_another_number : groups_of 4 (slots_of first) ≡ []
first_of_another_number = refl

commit_of_another_number : groups_of 5 (slot 5 70 0 2 (page 2) ∷ slot 6 70 1 2 None ∷ []) ≡ []
commit_of_another_number = refl

commit_of_another_tsn : groups_of 5 (slot 5 70 0 2 (page 2) ∷ slot 5 71 1 2 None ∷ []) ≡ []
commit_of_another_tsn = refl

commit_too_early : groups_of 5 (slot 5 70 0 3 (page 2) ∷ slot 5 70 1 3 None ∷ []) ≡ []
commit_too_early = refl

line_in_the_commits_place : groups_of 5 (slot 5 70 0 2 (page 2) ∷ slot 5 70 1 2 (page 3) ∷ slot 5 70 2 2 None ∷ []) ≡ []
line_in_the_commits_place = refl

another_count : groups_of 5 (slot 5 70 0 3 (page 2) ∷ slot 5 70 1 2 None ∷ []) ≡ []
another_count = refl

index_left_out : groups_of 5 (slot 5 70 0 3 (page 2) ∷ slot 5 70 2 3 None ∷ []) ≡ []
index_left_out = refl

indexes_from_one : groups_of 5 (slot 5 70 1 2 (page 2) ∷ slot 5 70 2 2 None ∷ []) ≡ []
indexes_from_one = refl

equal_keys : groups_of 5 (slots_of (group 5 70 (line_of 2 ∷ line_of 2 ∷ []))) ≡ []
equal_keys = refl

descending_keys : groups_of 5 (slots_of (group 5 70 (line_of 3 ∷ line_of 2 ∷ []))) ≡ []
descending_keys = refl

-- a group of no lines is its commit alone
commit_alone : groups_of 5 (slot 5 70 0 1 None ∷ slots_of second) ≡ group 5 70 [] ∷ second ∷ []
commit_alone = refl
