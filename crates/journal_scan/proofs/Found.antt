-- What reading finds is the whole groups.
use Rattle.std.proofs.Common.{◌≡◌, ℕ, ◌+◌, ◌-◌, ◌==◌, ◌&&◌, true, false, List, [], ◌∷◌, ◌++◌, length, Option, Some, None, slice_get, nat_lt, refl, sym, ◌∙◌, ap, subst, ◌⊎◌, inl, inr, append_assoc, length-append}
use Rattle.std.proofs.lemmas.Bool.{eqb-true, and_parts, and_from}
use Rattle.std.proofs.lemmas.List.{append-nil}
use Rattle.aij_journal.specs.rdb_types.declared.keys.Tsn.{Tsn}
use Rattle.aij_journal.specs.declared.part.GroupLine.{GroupLine}
use Rattle.aij_journal.specs.declared.part.AijPart.{AijPart}
use Rattle.journal_scan.specs.declared.group.Group.{Group}
use Rattle.journal_scan.specs.declared.scan.Begun.{Begun}
use Rattle.journal_scan.specs.declared.scan.Scan.{Scan}
use Rattle.journal_scan.specs.declared.scan.Stage.{Stage}
use Rattle.journal_scan.specs.declared.scan.Stage.TheVariants.{Within, Ended}
use Rattle.journal_scan.specs.Whole.{count_of, group_slot, slots_from, is_above, ascends}
use Rattle.journal_scan.specs.Reading.{read_all, continued, grown, closes, grows_by, is_next, with_line}
use Rattle.journal_scan.proofs.Written.{at_stage, last_pushed, behind}

module _ (groups : List Group) (slot number : ℕ) where
  -- no group more was found
  abbrev pub Stays : Scan → Type 0
  Stays scan = (stage : Stage) × (scan ≡ at_stage groups slot number stage)

  abbrev pub at : Stage → Scan
  at stage = at_stage groups slot number stage

  pub end_stays : (slots : List (Option AijPart)) → read_all (at Ended) slots ≡ at Ended
  end_stays [] = refl
  end_stays (None ∷ slots) = end_stays slots
  end_stays (Some part ∷ slots) = end_stays slots

  -- the slots go on with the rest of this group
  pub record Completes (b : Begun) (slots : List (Option AijPart)) : Type 0 where
    pub group : Group
    pub more : List GroupLine
    pub rest : List (Option AijPart)
    pub numbered : group.number ≡ number
    pub tsn : group.tsn ≡ b.tsn
    pub count : count_of group ≡ b.count
    pub lines : group.lines ≡ b.lines ++ more
    pub in_order : ascends (slice_get b.lines (length b.lines - 1)) more ≡ true
    pub stand : slots ≡ slots_from group (length b.lines) more ++ rest
    pub is_read : read_all (at (Within b)) slots ≡ read_all (behind groups slot group) rest

  -- a slot in its place is the group's
  in_place : (b : Begun) (part : AijPart) (g : Group) → ((part.number == number) && is_next b part) ≡ true → g.number ≡ number → g.tsn ≡ b.tsn → count_of g ≡ b.count → Some part ≡ group_slot g (length b.lines) part.line
  in_place b part g test n t c =
      let first = and_parts (part.number == number) (is_next b part) test in
      let second = and_parts ((part.tsn.number == b.tsn.number) && (part.count == b.count)) (part.index == length b.lines) first.1 in
      let third = and_parts (part.tsn.number == b.tsn.number) (part.count == b.count) second.0 in
      let is_number : part.number ≡ g.number = eqb-true part.number number first.0 ∙ sym n in
      let is_tsn : part.tsn.number ≡ g.tsn.number = eqb-true part.tsn.number b.tsn.number third.0 ∙ sym (ap (λ (x : Tsn). x.number) t) in
      let is_count : part.count ≡ count_of g = eqb-true part.count b.count third.1 ∙ sym c in
      let is_index : part.index ≡ length b.lines = eqb-true part.index (length b.lines) second.1 in
      ap Some (λ i. record { number = is_number i; tsn = record { number = is_tsn i }; index = is_index i; count = is_count i; line = part.line })

  ends : (b : Begun) (part : AijPart) (slots : List (Option AijPart)) → ((part.number == number) && is_next b part) ≡ false → Stays (read_all (at (Within b)) (Some part ∷ slots))
  ends b part slots test = (Ended, ap (λ (s : Scan). read_all s slots) (let same : continued (at (Within b)) b part ≡ at Ended = rw test refl in same) ∙ end_stays slots)

  commits : (b : Begun) (part : AijPart) (slots : List (Option AijPart)) → ((part.number == number) && is_next b part) ≡ true → part.line ≡ None → closes b ≡ true → Completes b (Some part ∷ slots)
  commits b part slots test what close =
      let g : Group = record { number = number; tsn = b.tsn; lines = b.lines } in
      let count : count_of g ≡ b.count = eqb-true (length b.lines + 1) b.count close in
      record {
        group = g;
        more = [];
        rest = slots;
        numbered = refl;
        tsn = refl;
        count = count;
        lines = sym (append-nil b.lines);
        in_order = refl;
        stand = ap (λ (s : Option AijPart). s ∷ slots) (in_place b part g test refl refl count ∙ ap (λ (l : Option GroupLine). group_slot g (length b.lines) l) what);
        is_read = ap (λ (s : Scan). read_all s slots) (let same : continued (at (Within b)) b part ≡ behind groups slot g = rw (test, what, close) refl in same);
      }

  goes_on : (b : Begun) (part : AijPart) (line : GroupLine) (slots : List (Option AijPart)) → ((part.number == number) && is_next b part) ≡ true → part.line ≡ Some line → grows_by b line ≡ true → Completes (with_line line b) slots → Completes b (Some part ∷ slots)
  goes_on b part line slots test what grow next =
      let g : Group = next.group in
      let long : length (b.lines ++ line ∷ []) ≡ length b.lines + 1 = length-append b.lines (line ∷ []) in
      let above = and_parts (nat_lt (length b.lines + 1) b.count) (is_above line.key (slice_get b.lines (length b.lines - 1))) grow in
      record {
        group = g;
        more = line ∷ next.more;
        rest = next.rest;
        numbered = next.numbered;
        tsn = next.tsn;
        count = next.count;
        lines = next.lines ∙ append_assoc b.lines (line ∷ []) next.more;
        in_order = and_from _ _ above.1 (subst (λ (last : Option GroupLine). ascends last next.more ≡ true) (last_pushed b.lines line) next.in_order);
        stand = ap (λ (s : Option AijPart). s ∷ slots) (in_place b part g test next.numbered next.tsn next.count ∙ ap (λ (l : Option GroupLine). group_slot g (length b.lines) l) what)
            ∙ ap (λ (rest : List (Option AijPart)). group_slot g (length b.lines) (Some line) ∷ rest) (next.stand ∙ ap (λ i. slots_from g i next.more ++ next.rest) long);
        is_read = ap (λ (s : Scan). read_all s slots) (let same : continued (at (Within b)) b part ≡ at (Within (with_line line b)) = rw (test, what, grow) refl in same) ∙ next.is_read;
      }

  breaks : (b : Begun) (part : AijPart) (slots : List (Option AijPart)) → ((part.number == number) && is_next b part) ≡ true → grown (at (Within b)) b part.line ≡ at Ended → Stays (read_all (at (Within b)) (Some part ∷ slots))
  breaks b part slots test end = (Ended, ap (λ (s : Scan). read_all s slots) (let same : continued (at (Within b)) b part ≡ at Ended = rw test end in same) ∙ end_stays slots)

  -- reading within a group finds no group more, or that group
  pub from_within : (slots : List (Option AijPart)) (b : Begun) → Stays (read_all (at (Within b)) slots) ⊎ Completes b slots
  from_within [] b = inl (Within b, refl)
  from_within (None ∷ slots) b = inl (Ended, end_stays slots)
  from_within (Some part ∷ slots) b =
      elim ((part.number == number) && is_next b part) as (λ v. ((part.number == number) && is_next b part) ≡ v → Stays (read_all (at (Within b)) (Some part ∷ slots)) ⊎ Completes b (Some part ∷ slots)) [
        | false ↦ λ test. inl (ends b part slots test)
        | true ↦ λ test. elim part.line as (λ l. part.line ≡ l → Stays (read_all (at (Within b)) (Some part ∷ slots)) ⊎ Completes b (Some part ∷ slots)) [
          | None ↦ λ what. elim (closes b) as (λ v. closes b ≡ v → Stays (read_all (at (Within b)) (Some part ∷ slots)) ⊎ Completes b (Some part ∷ slots)) [
            | true ↦ λ close. inr (commits b part slots test what close)
            | false ↦ λ close. inl (breaks b part slots test (rw (what, close) refl))
          ] refl
          | Some line ↦ λ what. elim (grows_by b line) as (λ v. grows_by b line ≡ v → Stays (read_all (at (Within b)) (Some part ∷ slots)) ⊎ Completes b (Some part ∷ slots)) [
            | false ↦ λ grow. inl (breaks b part slots test (rw (what, grow) refl))
            | true ↦ λ grow. elim (from_within slots (with_line line b)) [
              | inl stays ↦ inl (stays.0, ap (λ (s : Scan). read_all s slots) (let same : continued (at (Within b)) b part ≡ at (Within (with_line line b)) = rw (test, what, grow) refl in same) ∙ stays.1)
              | inr next ↦ inr (goes_on b part line slots test what grow next)
            ]
          ] refl
        ] refl
      ] refl
