-- Reading from a slot on, up to the end of one group.
use Rattle.std.proofs.Common.{if◌then◌else◌, ◌≡◌, ℕ, zero, suc, ◌+◌, ◌≤◌, ◌==◌, ◌&&◌, Bool, true, false, List, [], ◌∷◌, ◌++◌, length, length-append, append-nil, Option, Some, None, refl, sym, ◌∙◌, ap, subst, ◌⊎◌, inl, inr, ⊎_elim, arith}
use Rattle.rdb_outside.specs.rdb_types.declared.file.FileId.{FileId}
use Rattle.rdb_outside.specs.rdb_types.File.{slot_bytes}
use Rattle.rdb_outside.specs.Disk.{Image}
use Rattle.journal_scan.specs.aij_journal.declared.part.GroupLine.{GroupLine}
use Rattle.journal_scan.specs.aij_journal.declared.part.AijPart.{AijPart}
use Rattle.journal_scan.specs.declared.group.Group.{Group}
use Rattle.journal_scan.specs.declared.scan.Begun.{Begun}
use Rattle.journal_scan.specs.declared.scan.Scan.{Scan}
use Rattle.journal_scan.specs.declared.scan.Stage.{Stage}
use Rattle.journal_scan.specs.declared.scan.Stage.TheVariants.{Between, Within, Ended}
use Rattle.journal_scan.specs.Whole.{count_of, slots_of, slots_from, IsWhole, AreGroups}
use Rattle.journal_scan.specs.Reading.{begins_at, read as read_slot, read_all, read_part, continued, grown, closed, ended, closes, grows_by, is_next, no_lines, with_line, groups_of}
use Rattle.journal_scan.specs.Standing.{what_stands}
use Rattle.journal_scan.proofs.Steps.{in_pieces}
use Rattle.journal_scan.proofs.Groups as found
use Rattle.journal_reading.specs.Journal.{EndsBy, standing}
use Rattle.journal_reading.proofs.Standing.{stand-more, further, ended_before}

-- ---- one slot finds one group at most

abbrev pub Finds : Scan → Scan → Type 0
Finds scan new = (new.groups ≡ scan.groups) ⊎ ((g : Group) × ((new.groups ≡ scan.groups ++ g ∷ []) × (new.stage ≡ Between)))

module _ (scan : Scan) where
  grown_finds : (b : Begun) (line : Option GroupLine) → Finds scan (grown scan b line)
  grown_finds b None = by (closes b)
    where
      by : (v : Bool) → Finds scan (if v then closed scan b else ended scan)
      by true = inr (record { number = scan.next_number; tsn = b.tsn; lines = b.lines }, (refl, refl))
      by false = inl refl
  grown_finds b (Some line) = by (grows_by b line)
    where
      by : (v : Bool) → Finds scan (if v then record scan { stage = Within (with_line line b) } else ended scan)
      by true = inl refl
      by false = inl refl

  continued_finds : (b : Begun) (part : AijPart) → Finds scan (continued scan b part)
  continued_finds b part = by ((part.number == scan.next_number) && is_next b part)
    where
      by : (v : Bool) → Finds scan (if v then grown scan b part.line else ended scan)
      by true = grown_finds b part.line
      by false = inl refl

  part_finds : (stage : Stage) (part : AijPart) → Finds scan (read_part scan stage part)
  part_finds Between part = continued_finds (no_lines part) part
  part_finds (Within b) part = continued_finds b part
  part_finds Ended part = inl refl

  finds_one : (what : Option AijPart) → Finds scan (read_slot scan what)
  finds_one None = inl refl
  finds_one (Some part) = part_finds scan.stage part

alone : (front : List Group) (g other : Group) → front ++ g ∷ [] ≡ other ∷ [] → front ++ g ∷ [] ≡ g ∷ []
alone [] g other is = refl
alone (x ∷ front) g other is =
    let long : length ((x ∷ front) ++ g ∷ []) ≡ 1 = ap length is in
    absurd (omega (arith, long, length-append (x ∷ front) (g ∷ [])))

-- so where the scan had none, and has one, it has that one alone
pub only_one : (scan new : Scan) (what : Option AijPart) (front : List Group) (g : Group) → scan.groups ≡ [] → new ≡ read_slot scan what → new.groups ≡ front ++ g ∷ [] → new.groups ≡ g ∷ []
only_one scan new what front g none is has = ⊎_elim
    (λ (same : new.groups ≡ scan.groups). let long : length (front ++ g ∷ []) ≡ 0 = ap length (sym has ∙ same ∙ none) in absurd (omega (arith, long, length-append front (g ∷ []))))
    (λ (more : (x : Group) × ((new.groups ≡ scan.groups ++ x ∷ []) × (new.stage ≡ Between))).
    has ∙ alone front g more.0 (sym has ∙ more.1.0 ∙ ap (λ (gs : List Group). gs ++ more.0 ∷ []) none))
    (subst (λ (s : Scan). Finds scan s) (sym is) (finds_one scan what))

-- where reading ended, it has none
pub still_none : (scan new : Scan) (what : Option AijPart) → scan.groups ≡ [] → new ≡ read_slot scan what → new.stage ≡ Ended → new.groups ≡ []
still_none scan new what none is end = ⊎_elim
    (λ (same : new.groups ≡ scan.groups). same ∙ none)
    (λ (more : (x : Group) × ((new.groups ≡ scan.groups ++ x ∷ []) × (new.stage ≡ Between))). let bad : Ended ≡ Between = sym end ∙ more.1.1 in absurd (let no : ⊥ = cc in no))
    (subst (λ (s : Scan). Finds scan s) (sym is) (finds_one scan what))

-- ---- what was read

length_slots : (g : Group) (index : ℕ) (lines : List GroupLine) → length (slots_from g index lines) ≡ length lines + 1
length_slots g index [] = refl
length_slots g index (line ∷ lines) = let rest = length_slots g (index + 1) lines in omega (arith, rest)

-- From its slot on the scan took what stands in slots up to here, which are those of the file where the disk tells.
pub record HasRead (image : Image) (file : FileId) (tells : Type 0) (slot number at : ℕ) (scan : Scan) : Type 0 where
  pub whats : List (Option AijPart)
  pub long : slot + length whats ≡ at
  pub read : scan ≡ read_all (begins_at slot number) whats
  pub same : tells → whats ≡ standing image file slot (length whats)

module _ (image : Image) (file : FileId) (tells : Type 0) (slot number : ℕ) where
  pub nothing_read : HasRead image file tells slot number slot (begins_at slot number)
  nothing_read = record { whats = []; long = omega arith; read = refl; same = λ t. refl }

  pub one_more : (at : ℕ) (scan new : Scan) (bytes : List ℕ) → (tells → bytes ≡ image file at) → new ≡ read_slot scan (what_stands bytes) → HasRead image file tells slot number at scan → HasRead image file tells slot number (at + 1) new
  one_more at scan new bytes here taken was =
      let w : Option AijPart = what_stands bytes in
      let size : length (was.whats ++ w ∷ []) ≡ length was.whats + 1 = length-append was.whats (w ∷ []) in
      let long : slot + length was.whats ≡ at = was.long in
      record {
        whats = was.whats ++ w ∷ [];
        long = omega (arith, size, long);
        read = taken ∙ ap (λ (s : Scan). read_slot s w) was.read ∙ sym (in_pieces (begins_at slot number) was.whats (w ∷ []));
        same = λ t. (λ i. was.same t i ++ what_stands ((here t ∙ ap (image file) (sym long)) i) ∷ []) ∙ sym (stand-more image file slot (length was.whats) 1) ∙ ap (standing image file slot) (sym size);
      }

  -- the slots of a group stand in front
  front_stands : (slot n : ℕ) (xs rest : List (Option AijPart)) → standing image file slot n ≡ xs ++ rest → standing image file slot (length xs) ≡ xs
  front_stands slot n [] rest is = refl
  front_stands slot zero (x ∷ xs) rest is = let bad : ⊥ = cc in absurd bad
  front_stands slot (suc n) (x ∷ xs) rest is =
      let first : what_stands (image file slot) ≡ x = cc in
      let behind : standing image file (slot + 1) n ≡ xs ++ rest = cc in
      let more = front_stands (slot + 1) n xs rest behind in
      λ i. first i ∷ more i

  -- the one group that a scan has
  pub record IsFound (at : ℕ) (g : Group) : Type 0 where
    pub whole : IsWhole number g
    pub within : slot + count_of g ≤ at
    pub stands : tells → standing image file slot (count_of g) ≡ slots_of g

  pub one_found : (at : ℕ) (scan : Scan) (g : Group) → HasRead image file tells slot number at scan → scan.groups ≡ g ∷ [] → IsFound at g
  one_found at scan g was has =
      let all : groups_of number was.whats ≡ g ∷ [] = sym (found.anywhere slot number was.whats) ∙ ap (λ (s : Scan). s.groups) (sym was.read) ∙ has in
      let are : AreGroups number was.whats (g ∷ []) = subst (λ (gs : List Group). AreGroups number was.whats gs) all (found.are_groups number was.whats) in
      let stand : was.whats ≡ slots_of g ++ are.rest = are.stand ∙ ap (λ (xs : List (Option AijPart)). xs ++ are.rest) (append-nil (slots_of g)) in
      let size : length (slots_of g) ≡ count_of g = length_slots g 0 g.lines in
      let parts : length was.whats ≡ length (slots_of g) + length are.rest = ap length stand ∙ length-append (slots_of g) are.rest in
      let long : slot + length was.whats ≡ at = was.long in
      record {
        whole = are.whole.0;
        within = omega (arith, size, parts, long);
        stands = λ t. ap (standing image file slot) (sym size) ∙ front_stands slot (length was.whats) (slots_of g) are.rest (sym (was.same t) ∙ stand);
      }

  -- Where a scan has none, however far it goes on, no group stands.
  no_group : (m : ℕ) → ((k : ℕ) → (read_all (begins_at slot number) (standing image file slot (m + k))).groups ≡ []) → (g : Group) → IsWhole number g → standing image file slot (count_of g) ≡ slots_of g → ⊥
  no_group m none g whole stands =
      let slots : List (Option AijPart) = standing image file slot (m + count_of g) in
      let all : groups_of number slots ≡ [] = sym (found.anywhere slot number slots) ∙ none (count_of g) in
      let are : AreGroups number slots [] = subst (λ (gs : List Group). AreGroups number slots gs) all (found.are_groups number slots) in
      let turn : m + count_of g ≡ count_of g + m = omega arith in
      let here : number ≡ number + 0 = omega arith in
      are.no_more g (standing image file (slot + count_of g) m) (subst (λ (n : ℕ). IsWhole n g) here whole)
      (sym are.stand ∙ ap (standing image file slot) turn ∙ stand-more image file slot (count_of g) m ∙ ap (λ (xs : List (Option AijPart)). xs ++ standing image file (slot + count_of g) m) stands)

  module _ (is_journal : slot_bytes file ≡ 512) (at : ℕ) (scan : Scan) (was : HasRead image file tells slot number at scan) (none : scan.groups ≡ []) (t : tells) where
    so_far : scan ≡ read_all (begins_at slot number) (standing image file slot (length was.whats))
    so_far = was.read ∙ ap (read_all (begins_at slot number)) (was.same t)

    pub none_where_ended : scan.stage ≡ Ended → (g : Group) → IsWhole number g → standing image file slot (count_of g) ≡ slots_of g → ⊥
    none_where_ended end = no_group (length was.whats) (λ k.
        ap (λ (s : Scan). s.groups) (ended_before image file is_journal (begins_at slot number) slot (length was.whats) k (ap (λ (s : Scan). s.stage) (sym so_far) ∙ end))
        ∙ ap (λ (s : Scan). s.groups) (sym so_far) ∙ none)

    pub none_at_end : EndsBy image file at → (g : Group) → IsWhole number g → standing image file slot (count_of g) ≡ slots_of g → ⊥
    none_at_end ends = no_group (length was.whats) (λ k.
        (further image file is_journal (begins_at slot number) slot (length was.whats) k (subst (λ (n : ℕ). EndsBy image file n) (sym was.long) ends)).groups
        ∙ ap (λ (s : Scan). s.groups) (sym so_far) ∙ none)
