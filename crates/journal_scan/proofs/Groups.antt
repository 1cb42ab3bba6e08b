-- Reading gives the whole groups, and where the next one is written.
use Rattle.std.proofs.Common.{◌≡◌, ℕ, zero, suc, ◌+◌, ◌≤◌, List, [], ◌∷◌, ◌++◌, length, map, Option, Some, None, refl, sym, ◌∙◌, ap, subst, arith, ◌⊎◌, inl, inr, append_assoc, length-append}
use Rattle.std.specs.List.{flat_map}
use Rattle.std.proofs.lemmas.List.{append-nil, map-append}
use Rattle.aij_journal.specs.declared.part.GroupLine.{GroupLine}
use Rattle.aij_journal.specs.declared.part.AijPart.{AijPart}
use Rattle.journal_scan.specs.declared.group.Group.{Group}
use Rattle.journal_scan.specs.declared.scan.Begun.{Begun}
use Rattle.journal_scan.specs.declared.scan.Scan.{Scan}
use Rattle.journal_scan.specs.declared.scan.Stage.{Stage}
use Rattle.journal_scan.specs.declared.scan.Stage.TheVariants.{Between, Within, Ended}
use Rattle.journal_scan.specs.Whole.{count_of, slots_from, slots_of, Hold, IsWhole, AreWhole, AreGroups}
use Rattle.journal_scan.specs.Reading.{read, read_all, begins_at, grown, no_lines, groups_of}
use Rattle.journal_scan.specs.Standing.{what_stands, groups_in}
use Rattle.journal_scan.proofs.Stands.{all_stand}
use Rattle.journal_scan.proofs.Written.{at_stage, behind, group_read}
use Rattle.journal_scan.proofs.Found.{Stays, end_stays, from_within}

length_slots : (g : Group) (index : ℕ) (lines : List GroupLine) → length (slots_from g index lines) ≡ length lines + 1
length_slots g index [] = refl
length_slots g index (line ∷ lines) = let rest = length_slots g (index + 1) lines in omega (arith, rest)

module _ (groups : List Group) (slot number : ℕ) where
  -- a whole group comes next
  record Next (slots : List (Option AijPart)) : Type 0 where
    pub group : Group
    pub rest : List (Option AijPart)
    pub whole : IsWhole number group
    pub stand : slots ≡ slots_of group ++ rest
    pub is_read : read_all (at_stage groups slot number Between) slots ≡ read_all (behind groups slot group) rest

  starts : (b : Begun) (line : Option GroupLine) → grown (at_stage groups slot number Between) b line ≡ grown (at_stage groups slot number (Within b)) b line
  starts b None = refl
  starts b (Some line) = refl

  started : (part : AijPart) → read (at_stage groups slot number Between) (Some part) ≡ read (at_stage groups slot number (Within (no_lines part))) (Some part)
  started part = rw (starts (no_lines part) part.line) refl

  next_group : (slots : List (Option AijPart)) → Stays groups slot number (read_all (at_stage groups slot number Between) slots) ⊎ Next slots
  next_group [] = inl (Between, refl)
  next_group (None ∷ slots) = inl (Ended, end_stays groups slot number slots)
  next_group (Some part ∷ slots) =
      let start : read_all (at_stage groups slot number Between) (Some part ∷ slots) ≡ read_all (at_stage groups slot number (Within (no_lines part))) (Some part ∷ slots) = ap (λ (s : Scan). read_all s slots) (started part) in
      elim (from_within groups slot number (Some part ∷ slots) (no_lines part)) [
        | inl stays ↦ inl (stays.0, start ∙ stays.1)
        | inr done ↦ inr (record {
          group = done.group;
          rest = done.rest;
          whole = record { numbered = done.numbered; in_order = rw done.lines done.in_order };
          stand = done.stand ∙ ap (λ (l : List GroupLine). slots_from done.group 0 l ++ done.rest) (sym done.lines);
          is_read = start ∙ done.is_read;
        })
      ]

-- All that reading finds, and where it stands then.
pub record Reads (groups : List Group) (slot number : ℕ) (slots : List (Option AijPart)) : Type 0 where
  pub found : List Group
  pub stage : Stage
  pub is_read : read_all (at_stage groups slot number Between) slots ≡ at_stage (groups ++ found) (slot + length (flat_map slots_of found)) (number + length found) stage
  pub are : AreGroups number slots found

-- a group that comes first
preceded : (number : ℕ) (g : Group) (slots rest : List (Option AijPart)) (gs : List Group) → IsWhole number g → slots ≡ slots_of g ++ rest → AreGroups (number + 1) rest gs → AreGroups number slots (g ∷ gs)
preceded number g slots rest gs whole stand are = record {
  whole = (whole, are.whole);
  rest = are.rest;
  stand = stand ∙ ap (λ (l : List (Option AijPart)). slots_of g ++ l) are.stand ∙ sym (append_assoc (slots_of g) (flat_map slots_of gs) are.rest);
  no_more = λ next more w. are.no_more next more (let same : number + length (g ∷ gs) ≡ number + 1 + length gs = omega arith in subst (λ (k : ℕ). IsWhole k next) same w);
}

-- as long as one group comes after another
followed : (groups : List Group) (slot number : ℕ) (slots : List (Option AijPart)) (next : Next groups slot number slots) → Reads (groups ++ next.group ∷ []) (slot + count_of next.group) (next.group.number + 1) next.rest → Reads groups slot number slots
followed groups slot number slots next reads =
    let g : Group = next.group in
    let all : (groups ++ g ∷ []) ++ reads.found ≡ groups ++ g ∷ reads.found = append_assoc groups (g ∷ []) reads.found in
    let place : slot + count_of g + length (flat_map slots_of reads.found) ≡ slot + length (flat_map slots_of (g ∷ reads.found)) =
    omega (arith, length-append (slots_of g) (flat_map slots_of reads.found), length_slots g 0 g.lines) in
    let then : g.number + 1 + length reads.found ≡ number + length (g ∷ reads.found) = omega (arith, next.whole.numbered) in
    record {
      found = g ∷ reads.found;
      stage = reads.stage;
      is_read = next.is_read ∙ reads.is_read ∙ (λ i. at_stage (all i) (place i) (then i) reads.stage);
      are = preceded number g slots next.rest reads.found next.whole next.stand
          (subst (λ (k : ℕ). AreGroups (k + 1) next.rest reads.found) next.whole.numbered reads.are);
    }

-- what stands behind a whole group is fewer slots
fewer : (n : ℕ) (g : Group) (slots rest : List (Option AijPart)) → slots ≡ slots_of g ++ rest → length slots ≤ suc n → length rest ≤ n
fewer n g slots rest stand within =
    let long : length slots ≡ length (slots_of g) + length rest = ap length stand ∙ length-append (slots_of g) rest in
    omega (arith, within, long, length_slots g 0 g.lines)

not_empty : (g : Group) (rest : List (Option AijPart)) → [] ≡ slots_of g ++ rest → ⊥
not_empty g rest stand =
    let long : 0 ≡ length (slots_of g) + length rest = ap length stand ∙ length-append (slots_of g) rest in
    omega (arith, long, length_slots g 0 g.lines)

nothing : (groups : List Group) (slot number : ℕ) (slots : List (Option AijPart)) → Stays groups slot number (read_all (at_stage groups slot number Between) slots) → ((g : Group) (more : List (Option AijPart)) → IsWhole (number + 0) g → slots ≡ slots_of g ++ more → ⊥) → Reads groups slot number slots
nothing groups slot number slots stays none =
    let all : groups ≡ groups ++ [] = sym (append-nil groups) in
    let place : slot ≡ slot + 0 = omega arith in
    let then : number ≡ number + 0 = omega arith in
    record {
      found = [];
      stage = stays.0;
      is_read = stays.1 ∙ (λ i. at_stage (all i) (place i) (then i) stays.0);
      are = record { whole = tt; rest = slots; stand = refl; no_more = none };
    }

-- a scan that found nothing didn't pass a whole group
passed : (groups : List Group) (slot number : ℕ) (slots : List (Option AijPart)) → Stays groups slot number (read_all (at_stage groups slot number Between) slots) → (g : Group) (more : List (Option AijPart)) → IsWhole (number + 0) g → slots ≡ slots_of g ++ more → Reads (groups ++ g ∷ []) (slot + count_of g) (g.number + 1) more → ⊥
passed groups slot number slots stays g more whole stand reads =
    let here : number ≡ g.number = omega (arith, whole.numbered) in
    let same : groups ≡ (groups ++ g ∷ []) ++ reads.found =
    ap (λ (s : Scan). s.groups) (sym stays.1
    ∙ (λ i. read_all (at_stage groups slot (here i) Between) (stand i))
    ∙ group_read groups slot g more whole.in_order
    ∙ reads.is_read) in
    let long : length groups ≡ length groups + 1 + length reads.found = ap length same ∙ length-append (groups ++ g ∷ []) reads.found ∙ ap (λ n. n + length reads.found) (length-append groups (g ∷ [])) in
    omega (arith, long)

reads_within : (n : ℕ) (groups : List Group) (slot number : ℕ) (slots : List (Option AijPart)) → length slots ≤ n → Reads groups slot number slots
reads_within zero groups slot number [] within =
    nothing groups slot number [] (Between, refl) (λ g more w stand. not_empty g more stand)
reads_within zero groups slot number (what ∷ slots) within = let bad : ⊥ = omega (arith, within) in absurd bad
reads_within (suc n) groups slot number slots within =
    elim (next_group groups slot number slots) [
      | inl stays ↦ nothing groups slot number slots stays (λ g more w stand.
          passed groups slot number slots stays g more w stand
          (reads_within n (groups ++ g ∷ []) (slot + count_of g) (g.number + 1) more (fewer n g slots more stand within)))
      | inr next ↦ followed groups slot number slots next
          (reads_within n (groups ++ next.group ∷ []) (slot + count_of next.group) (next.group.number + 1) next.rest (fewer n next.group slots next.rest next.stand within))
    ]

pub reads : (groups : List Group) (slot number : ℕ) (slots : List (Option AijPart)) → Reads groups slot number slots
reads groups slot number slots = reads_within (length slots) groups slot number slots (omega arith)

-- only these are the whole groups
only_these : (found groups : List Group) (slot number : ℕ) (slots : List (Option AijPart)) → AreGroups number slots found → (read_all (at_stage groups slot number Between) slots).groups ≡ groups ++ found
only_these [] groups slot number slots are =
    elim (next_group groups slot number slots) [
      | inl stays ↦ ap (λ (s : Scan). s.groups) stays.1 ∙ sym (append-nil groups)
      | inr next ↦ let bad : ⊥ = are.no_more next.group next.rest
          (let same : number ≡ number + length {A = Group} [] = omega arith in subst (λ (k : ℕ). IsWhole k next.group) same next.whole)
          (sym are.stand ∙ next.stand) in absurd bad
    ]
only_these (g ∷ gs) groups slot number slots are =
    let whole : IsWhole number g = are.whole.0 in
    let rest : List (Option AijPart) = flat_map slots_of gs ++ are.rest in
    let stand : slots ≡ slots_of g ++ rest = are.stand ∙ append_assoc (slots_of g) (flat_map slots_of gs) are.rest in
    let here : number ≡ g.number = sym whole.numbered in
    let later : AreGroups (g.number + 1) rest gs = record {
      whole = subst (λ (k : ℕ). AreWhole (k + 1) gs) here are.whole.1;
      rest = are.rest;
      stand = refl;
      no_more = λ next more w. are.no_more next more (let same : g.number + 1 + length gs ≡ number + length (g ∷ gs) = omega (arith, here) in subst (λ (k : ℕ). IsWhole k next) same w);
    } in
    ap (λ (s : Scan). s.groups) ((λ i. read_all (at_stage groups slot (here i) Between) (stand i)) ∙ group_read groups slot g rest whole.in_order)
    ∙ only_these gs (groups ++ g ∷ []) (slot + count_of g) (g.number + 1) rest later
    ∙ append_assoc groups (g ∷ []) gs

pub only : (first : ℕ) (slots : List (Option AijPart)) (groups : List Group) → AreGroups first slots groups → groups ≡ groups_of first slots
only first slots groups are = sym (only_these groups [] 1 first slots are)

-- reading finds the same wherever it begins
module _ (slot first : ℕ) (slots : List (Option AijPart)) where
  abbrev found_here : List Group
  found_here = (reads [] slot first slots).found

  here_is : found_here ≡ groups_of first slots
  here_is = only first slots found_here (reads [] slot first slots).are

  pub anywhere : (read_all (begins_at slot first) slots).groups ≡ groups_of first slots
  anywhere = ap (λ (s : Scan). s.groups) (reads [] slot first slots).is_read ∙ here_is

  pub next_number : (read_all (begins_at slot first) slots).next_number ≡ first + length (groups_of first slots)
  next_number = ap (λ (s : Scan). s.next_number) (reads [] slot first slots).is_read ∙ ap (λ (gs : List Group). first + length gs) here_is

  pub next_slot : (read_all (begins_at slot first) slots).next_slot ≡ slot + length (flat_map slots_of (groups_of first slots))
  next_slot = ap (λ (s : Scan). s.next_slot) (reads [] slot first slots).is_read ∙ ap (λ (gs : List Group). slot + length (flat_map slots_of gs)) here_is

pub are_groups : (first : ℕ) (slots : List (Option AijPart)) → AreGroups first slots (groups_of first slots)
are_groups first slots = subst (λ (gs : List Group). AreGroups first slots gs) (only first slots (reads [] 1 first slots).found (reads [] 1 first slots).are) (reads [] 1 first slots).are

-- whole groups, and the groups behind them
joined : (groups more : List Group) (first : ℕ) (behind : List (Option AijPart)) → AreWhole first groups → AreGroups (first + length groups) behind more → AreGroups first (flat_map slots_of groups ++ behind) (groups ++ more)
joined [] more first behind whole are = subst (λ (k : ℕ). AreGroups k behind more) (let same : first + 0 ≡ first = omega arith in same) are
joined (g ∷ gs) more first behind whole are =
    preceded first g (flat_map slots_of (g ∷ gs) ++ behind) (flat_map slots_of gs ++ behind) (gs ++ more) whole.0 (append_assoc (slots_of g) (flat_map slots_of gs) behind)
    (joined gs more (first + 1) behind whole.1 (subst (λ (k : ℕ). AreGroups k behind more) (let same : first + length (g ∷ gs) ≡ first + 1 + length gs = omega arith in same) are))

pub written_then : (first : ℕ) (groups : List Group) (slots behind : List (List ℕ)) → AreWhole first groups → Hold slots (flat_map slots_of groups) → groups_in first (slots ++ behind) ≡ groups ++ groups_in (first + length groups) behind
written_then first groups slots behind whole held =
    let later : List (Option AijPart) = map what_stands behind in
    let more : List Group = groups_of (first + length groups) later in
    ap (λ (l : List (Option AijPart)). groups_of first l) (map-append what_stands slots behind ∙ ap (λ (l : List (Option AijPart)). l ++ later) (all_stand slots (flat_map slots_of groups) held))
    ∙ sym (only first (flat_map slots_of groups ++ later) (groups ++ more) (joined groups more first later whole (are_groups (first + length groups) later)))

pub written : (first : ℕ) (groups : List Group) (slots : List (List ℕ)) → AreWhole first groups → Hold slots (flat_map slots_of groups) → groups_in first slots ≡ groups
written first groups slots whole held =
    ap (λ (l : List (List ℕ)). groups_in first l) (sym (append-nil slots))
    ∙ written_then first groups slots [] whole held
    ∙ append-nil groups
