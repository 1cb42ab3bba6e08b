-- Backups rolled forward: where they begin, and what a crash leaves of them.
use Rattle.std.proofs.Common.{◌≡◌, ◌+◌, ◌≤◌, ◌<◌, ◌^◌, ⊎_elim, ℕ, List, [], ◌∷◌, ◌++◌, length, Option, Some, None, refl, sym, ap, subst, ◌∙◌, arith}
use Rattle.std.specs.Prelude.{slice_get}
use Rattle.std.specs.List.{flat_map}
use Rattle.rdb_outside.specs.Disk.{View, Image, LeftNow, IsPending, Pending}
use Rattle.rdb_outside.specs.Moments.{each_slot}
use Rattle.line_view.specs.Knowledge.{Lines}
use Rattle.line_moves.specs.new_database.aij_journal.Header.{IsHeader}
use Rattle.line_moves.specs.new_database.aij_journal.declared.part.AijPart.{AijPart}
use Rattle.line_moves.specs.new_database.aij_journal.declared.part.GroupLine.{GroupLine}
use Rattle.line_moves.specs.new_database.Maker.{aij_file}
use Rattle.journal_scan.specs.declared.group.Group.{Group}
use Rattle.journal_scan.specs.Standing.{what_stands}
use Rattle.journal_scan.specs.Whole.{AreWhole, Holds, slots_from, slots_of}
use Rattle.journal_scan.proofs.Stands.{stands as part_stands}
use Rattle.stable_lines.specs.Journal.{Journal, next_number}
use Rattle.stable_lines.specs.Progress.{Progress, lines_with, journal_with}
use Rattle.stable_lines.specs.Facts.{PendingContents, Facts, StandsAs, as_committed, with_former, with_flight}
use Rattle.stable_lines.specs.Rolling.{IsBehind, rolled}
use Rattle.stable_lines.proofs.Lists.{got_right}
use Rattle.stable_lines.proofs.Rolls.{behind_begins, behind_flight, behind_lands}
use Rattle.stable_lines.proofs.Stands.{stands}
use Rattle.member_steps.specs.disk_seats.line_seat.declared.commit.CommitStage.{CommitStage}
use Rattle.member_steps.specs.disk_seats.line_seat.declared.commit.CommitStage.TheVariants.{Changing, Imaging, Gathering, Sealing, Landing, Committed}
use Rattle.member_steps.specs.disk_seats.line_seat.Stages.{progress_at}
use Rattle.member_steps.specs.disk_seats.Ledgers.{Commit, Ledger, progress_of, progress_with}
use Rattle.member_steps.specs.disk_seats.Members.{LedgerFacts}
use Rattle.disk_store.specs.Shown.{RollsTo}
use Rattle.store_copies.specs.Stood.{NumbersFromOne, RollsFrom}

-- ---- what is committed, while a commit is under way

-- a group that flies changes neither what is committed nor its journal
record SameNow (a b : Progress) : Type 0 where
  pub lines : a.lines ≡ b.lines
  pub journal : a.journal ≡ b.journal
  pub former : a.former ≡ b.former

same-now : (v : View) (g : Ledger) → LedgerFacts v g → SameNow (progress_of g) g.base
same-now v g facts = by g.commit refl
  where
    at : (c : Commit) → g.commit ≡ Some c → (st : CommitStage) → c.stage ≡ st → SameNow (progress_at st g.base c.flight) g.base
    at c is (Changing k) same = record { lines = refl; journal = refl; former = refl }
    at c is (Imaging k) same = record { lines = refl; journal = refl; former = refl }
    at c is Gathering same = record { lines = refl; journal = refl; former = refl }
    at c is Sealing same = record { lines = refl; journal = refl; former = refl }
    at c is Landing same = record { lines = refl; journal = refl; former = refl }
    at c is Committed same = absurd ((facts.commit c is).under_way same)

    by : (x : Option Commit) → g.commit ≡ x → SameNow (progress_with x g.base) g.base
    by None is = record { lines = refl; journal = refl; former = refl }
    by (Some c) is = at c is c.stage refl

behind-alike : (base : Lines) (last : ℕ) (a b : Progress) → a.lines ≡ b.lines → a.journal ≡ b.journal → IsBehind base last b → IsBehind base last a
behind-alike base last a b lines journal was = record {
  below = subst (λ (j : Journal). last < next_number j) (sym journal) was.below;
  gives = lines ∙ was.gives ∙ ap (λ (j : Journal). rolled base last j.groups) (sym journal);
}

-- each image, with or without the group in flight
image-rolls : (P : PendingContents) (now : Progress) (base : Lines) (last : ℕ) (image : Image) → Facts P now → now.former ≡ None → IsBehind base last now → StandsAs now image → RollsFrom base last image
image-rolls P now base last image facts none was (as_committed kept) = record {
  rolls = record { classes = now.classes; lines = now.lines; journal = now.journal; kept = kept; gives = was.gives };
  below = was.below;
}
image-rolls P now base last image facts none was (with_former j is kept) = let bad : None ≡ Some j = sym none ∙ is in absurd (cc)
image-rolls P now base last image facts none was (with_flight f is kept) = record {
  rolls = record { classes = f.classes; lines = lines_with now f; journal = journal_with now f; kept = kept; gives = behind_flight P now f is facts base last was };
  below = (behind_lands P now f is facts base last was).below;
}

-- ---- what a crash leaves

module _ (v : View) (g : Ledger) (facts : LedgerFacts v g) where
  same : SameNow (progress_of g) g.base
  same = same-now v g facts

  none-former : (progress_of g).former ≡ None
  none-former = same.former ∙ facts.settled

  -- the header of each image says the journal's first number
  header : (image : Image) → IsPending v image → IsHeader (image aij_file 0) (progress_of g).journal.first
  header image pending = ⊎_elim
      (λ (is : IsHeader (image aij_file 0) (progress_of g).journal.first). is)
      (λ (old : (former : Journal) × ((progress_of g).former ≡ Some former) × IsHeader (image aij_file 0) former.first). let bad : None ≡ Some old.0 = sym none-former ∙ old.1 in absurd (cc))
      (facts.facts.journal.header (image aij_file 0) (pending aij_file 0))

  pub pending-rolls : (base : Lines) (last : ℕ) → RollsTo base last g.base → (image : Image) → IsPending v image → NumbersFromOne image → RollsFrom base last image
  pending-rolls base last rolls image pending from =
      let one : 1 ≤ g.base.journal.first = subst (λ (j : Journal). 1 ≤ j.first) same.journal (from (progress_of g).journal.first (header image pending)) in
      image-rolls (Pending v) (progress_of g) base last image facts.facts none-former
      (behind-alike base last (progress_of g) g.base same.lines same.journal (rolls one))
      (stands (Pending v) (progress_of g) facts.facts image pending)

-- ---- numbers of groups

record HasPart (whats : List (Option AijPart)) (number : ℕ) : Type 0 where
  pub index : ℕ
  pub part : AijPart
  pub got : slice_get whats index ≡ Some (Some part)
  pub is : part.number ≡ number

first-part : (g : Group) (at : ℕ) (lines : List GroupLine) (rest : List (Option AijPart)) → HasPart (slots_from g at lines ++ rest) g.number
first-part g at [] rest = record { index = 0; part = record { number = g.number; tsn = g.tsn; index = at; count = length g.lines + 1; line = None }; got = refl; is = refl }
first-part g at (l ∷ ls) rest = record { index = 0; part = record { number = g.number; tsn = g.tsn; index = at; count = length g.lines + 1; line = Some l }; got = refl; is = refl }

-- the last of so many groups has a slot
last-part : (first : ℕ) (g : Group) (gs : List Group) → AreWhole first (g ∷ gs) → HasPart (flat_map slots_of (g ∷ gs)) (first + length gs)
last-part first g [] whole =
    let it = first-part g 0 g.lines [] in
    record { index = it.index; part = it.part; got = it.got; is = it.is ∙ whole.0.numbered ∙ (let same : first ≡ first + 0 = omega arith in same) }
last-part first g (h ∷ hs) whole =
    let it = last-part (first + 1) h hs whole.1 in
    record {
      index = length (slots_of g) + it.index;
      part = it.part;
      got = got_right (slots_of g) (flat_map slots_of (h ∷ hs)) it.index (Some it.part) it.got;
      is = it.is ∙ (let same : (first + 1) + length hs ≡ first + length (h ∷ hs) = omega arith in same);
    }

module _ (v : View) (g : Ledger) (facts : LedgerFacts v g) (left : LeftNow v v.content) where
  there : IsPending v v.content
  there = each_slot v v.content left

  abbrev now : Progress
  now = progress_of g

  its-part : (index : ℕ) (part : AijPart) → slice_get (flat_map slots_of now.journal.groups) index ≡ Some (Some part) → part.number ≤ 2 ^ 62
  its-part index part got =
      let slot : List ℕ = v.content aij_file (index + 1) in
      let is : what_stands slot ≡ Some part = facts.facts.journal.groups.stand index (Some part) slot got (there aij_file (index + 1)) in
      let holds : Holds slot (Some part) = subst (λ (what : Option AijPart). Holds slot what) is (part_stands slot) in
      holds.number

  -- the group that comes next has a number in the range, or the one behind it
  next-small : next_number now.journal ≤ 2 ^ 62 + 1
  next-small = by now.journal.groups refl
    where
      first-small : now.journal.first ≤ 2 ^ 62
      first-small = (header v g facts v.content there).allowed

      by : (gs : List Group) → now.journal.groups ≡ gs → now.journal.first + length now.journal.groups ≤ 2 ^ 62 + 1
      by [] is = let none : length now.journal.groups ≡ 0 = ap length is in omega (arith, none, first-small)
      by (h ∷ hs) is =
          let it : HasPart (flat_map slots_of (h ∷ hs)) (now.journal.first + length hs) = last-part now.journal.first h hs (subst (λ (gs : List Group). AreWhole now.journal.first gs) is facts.facts.journal.groups.whole) in
          let small = its-part it.index it.part (ap (λ (gs : List Group). slice_get (flat_map slots_of gs) it.index) is ∙ it.got) in
          let long : length now.journal.groups ≡ length (h ∷ hs) = ap length is in
          omega (arith, it.is, small, long)

  -- a backup of what is committed, whose last group is the one before the next
  pub begins-rolling : (next last : ℕ) → next ≡ next_number g.base.journal → (1 ≤ next → next ≤ 2 ^ 62 + 1 → last + 1 ≡ next) → RollsTo g.base.lines last g.base
  begins-rolling next last is before from =
      let alike : SameNow now g.base = same-now v g facts in
      let number : next_number now.journal ≡ next = ap next_number alike.journal ∙ sym is in
      let small : next ≤ 2 ^ 62 + 1 = subst (λ (n : ℕ). n ≤ 2 ^ 62 + 1) number next-small in
      let one : last + 1 ≡ next = before (let long = is in omega (arith, long, from)) small in
      behind-alike g.base.lines last g.base now (sym alike.lines) (sym alike.journal)
      (subst (λ (l : Lines). IsBehind l last now) alike.lines (behind_begins (Pending v) now last facts.facts (one ∙ sym number)))
