-- The slots of a whole group are read as it.
use Rattle.std.proofs.Common.{◌≡◌, ℕ, ◌+◌, ◌-◌, ◌<◌, ◌==◌, true, List, [], ◌∷◌, ◌++◌, length, Option, Some, None, slice_get, nat_lt, refl, sym, ◌∙◌, ap, arith, append_assoc, length-append}
use Rattle.std.proofs.lemmas.Bool.{eq-eqb, lt-ltb, and_parts}
use Rattle.std.proofs.lemmas.Option.{slice_get-get_or}
use Rattle.std.proofs.lemmas.List.{append-nil}
use Rattle.std.proofs.Math.Seq.{get_or-append_seam}
use Rattle.aij_journal.specs.declared.part.GroupLine.{GroupLine}
use Rattle.aij_journal.specs.declared.part.AijPart.{AijPart}
use Rattle.journal_scan.specs.declared.group.Group.{Group}
use Rattle.journal_scan.specs.declared.scan.Begun.{Begun}
use Rattle.journal_scan.specs.declared.scan.Scan.{Scan}
use Rattle.journal_scan.specs.declared.scan.Stage.{Stage}
use Rattle.journal_scan.specs.declared.scan.Stage.TheVariants.{Between, Within}
use Rattle.journal_scan.specs.Whole.{count_of, slots_from, slots_of, is_above, ascends}
use Rattle.journal_scan.specs.Reading.{read, read_all, grown}

-- the last of some lines
pub last_pushed : (front : List GroupLine) (line : GroupLine) → slice_get (front ++ line ∷ []) (length (front ++ line ∷ []) - 1) ≡ Some line
last_pushed front line =
    let long : length (front ++ line ∷ []) ≡ length front + 1 = length-append front (line ∷ []) in
    let place : length (front ++ line ∷ []) - 1 ≡ length front = omega (arith, long) in
    let within : length front < length (front ++ line ∷ []) = omega (arith, long) in
    rw place (slice_get-get_or (front ++ line ∷ []) (length front) line within ∙ ap Some (get_or-append_seam front line [] line))

-- a scan that has these groups, at this stage
abbrev pub at_stage : List Group → ℕ → ℕ → Stage → Scan
at_stage groups slot number stage = record { groups = groups; next_slot = slot; next_number = number; stage = stage }

module _ (groups : List Group) (slot : ℕ) (g : Group) where
  -- these of its lines were read
  abbrev pub begun_with : List GroupLine → Begun
  begun_with lines = record { tsn = g.tsn; count = count_of g; lines = lines }

  abbrev pub within : List GroupLine → Scan
  within lines = at_stage groups slot g.number (Within (begun_with lines))

  -- it was read
  abbrev pub behind : Scan
  behind = at_stage (groups ++ g ∷ []) (slot + count_of g) (g.number + 1) Between

  -- a slot in its place
  next_read : (front : List GroupLine) (what : Option GroupLine) (index : ℕ) → index ≡ length front → read (within front) (Some (record { number = g.number; tsn = g.tsn; index = index; count = count_of g; line = what })) ≡ grown (within front) (begun_with front) what
  next_read front what index at =
      let n : (g.number == g.number) ≡ true = eq-eqb g.number g.number refl in
      let t : (g.tsn.number == g.tsn.number) ≡ true = eq-eqb g.tsn.number g.tsn.number refl in
      let c : (count_of g == count_of g) ≡ true = eq-eqb (count_of g) (count_of g) refl in
      let i : (index == length front) ≡ true = eq-eqb index (length front) at in
      rw (n, t, c, i) refl

  commit_read : (front : List GroupLine) → front ≡ g.lines → grown (within front) (begun_with front) None ≡ behind
  commit_read front all =
      let last : (length front + 1 == count_of g) ≡ true = eq-eqb (length front + 1) (count_of g) (ap (λ (l : List GroupLine). length l + 1) all) in
      rw last (ap (λ (l : List GroupLine). at_stage (groups ++ record { number = g.number; tsn = g.tsn; lines = l } ∷ []) (slot + (length l + 1)) (g.number + 1) Between) all)

  line_read : (front : List GroupLine) (line : GroupLine) → length front + 1 < count_of g → is_above line.key (slice_get front (length front - 1)) ≡ true → grown (within front) (begun_with front) (Some line) ≡ within (front ++ line ∷ [])
  line_read front line more above =
      let m : nat_lt (length front + 1) (count_of g) ≡ true = lt-ltb (length front + 1) (count_of g) more in
      rw (m, above) refl

  rest_read : (back front : List GroupLine) (index : ℕ) (rest : List (Option AijPart)) → index ≡ length front → front ++ back ≡ g.lines → ascends (slice_get front (length front - 1)) back ≡ true → read_all (within front) (slots_from g index back ++ rest) ≡ read_all behind rest
  rest_read [] front index rest at all up =
      ap (λ (s : Scan). read_all s rest) (next_read front None index at ∙ commit_read front (sym (append-nil front) ∙ all))
  rest_read (line ∷ back) front index rest at all up =
      let parts = and_parts (is_above line.key (slice_get front (length front - 1))) (ascends (Some line) back) up in
      let long : length front + length (line ∷ back) ≡ length g.lines = sym (length-append front (line ∷ back)) ∙ ap length all in
      let more : length front + 1 < count_of g = omega (arith, long) in
      let next : index + 1 ≡ length (front ++ line ∷ []) = omega (arith, at, length-append front (line ∷ [])) in
      ap (λ (s : Scan). read_all s (slots_from g (index + 1) back ++ rest)) (next_read front (Some line) index at ∙ line_read front line more parts.0)
      ∙ rest_read back (front ++ line ∷ []) (index + 1) rest next (append_assoc front (line ∷ []) back ∙ all) (rw (last_pushed front line) parts.1)

  -- the first slot begins it
  pub begins_read : (lines : List GroupLine) (rest : List (Option AijPart)) → read_all (at_stage groups slot g.number Between) (slots_from g 0 lines ++ rest) ≡ read_all (within []) (slots_from g 0 lines ++ rest)
  begins_read [] rest = refl
  begins_read (line ∷ lines) rest = refl

  pub group_read : (rest : List (Option AijPart)) → ascends None g.lines ≡ true → read_all (at_stage groups slot g.number Between) (slots_of g ++ rest) ≡ read_all behind rest
  group_read rest up = begins_read g.lines rest ∙ rest_read g.lines [] 0 rest refl refl up
