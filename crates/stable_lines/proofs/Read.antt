-- The groups that a scan of the journal's slots gave are those of the image.
use Rattle.std.proofs.Common.{◌≡◌, ℕ, zero, suc, ◌+◌, ◌≤◌, ◌<◌, List, [], ◌∷◌, ◌++◌, length, Option, Some, None, slice_get, ⊎_elim, refl, sym, ◌∙◌, ap, subst, arith}
use Rattle.std.proofs.lemmas.Option.{slice_get_within}
use Rattle.rdb_types.specs.declared.file.FileId.{FileId}
use Rattle.rdb_types.specs.File.{slot_bytes}
use Rattle.journal_reading.specs.rdb_outside.Disk.{Image, zeros}
use Rattle.new_database.specs.aij_journal.declared.part.AijPart.{AijPart}
use Rattle.new_database.specs.aij_journal.Header.{IsHeader}
use Rattle.journal_reading.specs.journal_scan.declared.group.Group.{Group}
use Rattle.journal_reading.specs.journal_scan.declared.scan.Scan.{Scan}
use Rattle.journal_reading.specs.journal_scan.declared.scan.Stage.{Stage}
use Rattle.journal_reading.specs.journal_scan.declared.scan.Stage.TheVariants.{Ended}
use Rattle.journal_reading.specs.journal_scan.Standing.{what_stands}
use Rattle.journal_reading.specs.journal_scan.Reading.{begins_at, read, read_part, read_all, ended, groups_of}
use Rattle.journal_reading.specs.journal_scan.Whole.{slots_of, IsWhole, AreGroups}
use Rattle.journal_reading.proofs.of_journal_scan.Groups.{are_groups}
use Rattle.journal_reading.proofs.of_journal_scan.Steps.{in_pieces}
use Rattle.journal_reading.specs.Journal.{EndsBy, standing, IsReadUpTo}
use Rattle.new_database.specs.Maker.{aij_file}
use Rattle.stable_lines.specs.Journal.{Journal, slots_in, next_number, next_slot, StandsAt, IsJournalOf}
use Rattle.stable_lines.proofs.Lists.{got_left}
use Rattle.stable_lines.proofs.Unique.{standing_at, length_standing, front_back}
use Rattle.stable_lines.proofs.Fresh.{no_part}

end_reads : (scan : Scan) (what : Option AijPart) → scan.stage ≡ Ended → read scan what ≡ scan
end_reads scan None end = λ i. record { groups = scan.groups; next_slot = scan.next_slot; next_number = scan.next_number; stage = sym end i }
end_reads scan (Some part) end = ap (λ (s : Stage). read_part scan s part) end

end_stays : (scan : Scan) (slots : List (Option AijPart)) → scan.stage ≡ Ended → read_all scan slots ≡ scan
end_stays scan [] end = refl
end_stays scan (what ∷ slots) end = ap (λ (s : Scan). read_all s slots) (end_reads scan what end) ∙ end_stays scan slots end

-- slots in which nothing stands give no group
none_more : (scan : Scan) (slots : List (Option AijPart)) → ((i : ℕ) (what : Option AijPart) → slice_get slots i ≡ Some what → what ≡ None) → (read_all scan slots).groups ≡ scan.groups
none_more scan [] none = refl
none_more scan (what ∷ slots) none = ap (λ w. (read_all (read scan w) slots).groups) (none 0 what refl) ∙ ap (λ (s : Scan). s.groups) (end_stays (ended scan) slots refl)

standing_more : (image : Image) (file : FileId) (slot count more : ℕ) → standing image file slot (count + more) ≡ standing image file slot count ++ standing image file (slot + count) more
standing_more image file slot zero more =
    let counts : 0 + more ≡ more = omega arith in
    let slots : slot ≡ slot + 0 = omega arith in
    ap (λ n. standing image file slot n) counts ∙ ap (λ n. standing image file n more) slots
standing_more image file slot (suc count) more =
    let counts : suc count + more ≡ suc (count + more) = omega arith in
    let slots : slot + 1 + count ≡ slot + suc count = omega arith in
    ap (λ n. standing image file slot n) counts ∙ ap (λ l. what_stands (image file slot) ∷ l) (standing_more image file (slot + 1) count more ∙ ap (λ n. standing image file (slot + 1) count ++ standing image file n more) slots)

-- what stands behind
got_behind : {A : Type 0} (xs ys : List A) (i : ℕ) → slice_get (xs ++ ys) (length xs + i) ≡ slice_get ys i
got_behind [] ys i = ap (λ n. slice_get ys n) (let same : 0 + i ≡ i = omega arith in same)
got_behind (x ∷ xs) ys i = ap (λ n. slice_get (x ∷ xs ++ ys) n) (let same : length (x ∷ xs) + i ≡ suc (length xs + i) = omega arith in same) ∙ got_behind xs ys i

some_same : {A : Type 0} (a b : A) → Some a ≡ Some b → a ≡ b
some_same a b same = cc

module _ (image : Image) (first end : ℕ) (scan : Scan) (ends : EndsBy image aij_file end) (is : IsReadUpTo image aij_file first end scan) where
  abbrev j : Journal
  j = record { first = first; groups = scan.groups }

  groups_are : scan.groups ≡ groups_of first (standing image aij_file 1 is.count)
  groups_are = ap (λ (s : Scan). s.groups) is.read

  -- more slots give no more groups
  go_on : (more : ℕ) → groups_of first (standing image aij_file 1 (is.count + more)) ≡ scan.groups
  go_on more =
      ap (λ l. groups_of first l) (standing_more image aij_file 1 is.count more)
      ∙ ap (λ (s : Scan). s.groups) (in_pieces (begins_at 1 first) (standing image aij_file 1 is.count) (standing image aij_file (1 + is.count) more))
      ∙ ap (λ (s : Scan). (read_all s (standing image aij_file (1 + is.count) more)).groups) (sym is.read)
      ∙ ⊎_elim at_end (λ over. ap (λ (s : Scan). s.groups) (end_stays scan (standing image aij_file (1 + is.count) more) over)) is.all
    where
      at_end : end ≤ is.count + 1 → (read_all scan (standing image aij_file (1 + is.count) more)).groups ≡ scan.groups
      at_end le = none_more scan (standing image aij_file (1 + is.count) more) none
        where
          nothing : (x : List ℕ) → x ≡ zeros aij_file → (w : Option AijPart) → what_stands x ≡ w → w ≡ None
          nothing x zero_is None there = refl
          nothing x zero_is (Some part) there = absurd (no_part x (slot_bytes aij_file) zero_is part there)

          none : (i : ℕ) (what : Option AijPart) → slice_get (standing image aij_file (1 + is.count) more) i ≡ Some what → what ≡ None
          none i what got =
              let within : i < length (standing image aij_file (1 + is.count) more) = slice_get_within _ i what got in
              let long : length (standing image aij_file (1 + is.count) more) ≡ more = length_standing image aij_file (1 + is.count) more in
              nothing (image aij_file (1 + is.count + i)) (ends (1 + is.count + i) (omega (arith, le))) what (some_same _ _ (sym (standing_at image aij_file (1 + is.count) more i (omega (arith, within, long))) ∙ got))

  are : (more : ℕ) → AreGroups first (standing image aij_file 1 (is.count + more)) scan.groups
  are more = subst (λ (gs : List Group). AreGroups first (standing image aij_file 1 (is.count + more)) gs) (go_on more) (are_groups first (standing image aij_file 1 (is.count + more)))

  stand : (i : ℕ) (what : Option AijPart) → slice_get (slots_in j) i ≡ Some what → what_stands (image aij_file (i + 1)) ≡ what
  stand i what got =
      let all = are 0 in
      let there : slice_get (standing image aij_file 1 (is.count + 0)) i ≡ Some what = ap (λ (l : List (Option AijPart)). slice_get l i) all.stand ∙ got_left (slots_in j) all.rest i what got in
      let within : i < length (standing image aij_file 1 (is.count + 0)) = slice_get_within _ i what there in
      let long : length (standing image aij_file 1 (is.count + 0)) ≡ is.count + 0 = length_standing image aij_file 1 (is.count + 0) in
      ap (λ n. what_stands (image aij_file n)) (let same : i + 1 ≡ 1 + i = omega arith in same) ∙ some_same _ _ (sym (standing_at image aij_file 1 (is.count + 0) i (omega (arith, within, long))) ∙ there)

  no_more : (g : Group) → IsWhole (next_number j) g → StandsAt image (next_slot j) g → ⊥
  no_more g whole stands = all.no_more g split.0 whole split.1
    where
      enough : ℕ
      enough = length (slots_in j) + length (slots_of g)

      all : AreGroups first (standing image aij_file 1 (is.count + (length (slots_in j) + length (slots_of g)))) scan.groups
      all = are (length (slots_in j) + length (slots_of g))

      front : (i : ℕ) (what : Option AijPart) → slice_get (slots_of g) i ≡ Some what → slice_get all.rest i ≡ Some what
      front i what got =
          let within : i < length (slots_of g) = slice_get_within (slots_of g) i what got in
          sym (got_behind (slots_in j) all.rest i)
          ∙ sym (ap (λ (l : List (Option AijPart)). slice_get l (length (slots_in j) + i)) all.stand)
          ∙ standing_at image aij_file 1 (is.count + (length (slots_in j) + length (slots_of g))) (length (slots_in j) + i) (omega (arith, within))
          ∙ ap (λ n. Some (what_stands (image aij_file n))) (let same : 1 + (length (slots_in j) + i) ≡ length (slots_in j) + 1 + i = omega arith in same)
          ∙ ap Some (stands i what got)

      split : (behind : List (Option AijPart)) × (all.rest ≡ slots_of g ++ behind)
      split = front_back all.rest (slots_of g) front

  pub journal_read : IsHeader (image aij_file 0) first → IsJournalOf image (record { first = first; groups = scan.groups })
  journal_read header = record { header = header; whole = (are 0).whole; stand = stand; no_more = no_more }
