-- By the facts, each image is kept, and stands for what is committed, or for that with the group in flight.
use Rattle.std.proofs.Common.{◌≡◌, ℕ, ◌+◌, ◌<◌, ◌≤◌, ◌⊎◌, inl, inr, ⊎_elim, Bool, true, false, ◌||◌, ◌==◌, List, [], ◌∷◌, ◌++◌, length, take, Option, Some, None, slice_get, refl, sym, ◌∙◌, ap, subst, arith, length-append}
use Rattle.std.proofs.lemmas.Option.{slice_get_within}
use Rattle.std.proofs.lemmas.Bool.{eq-eqb}
use Rattle.rdb_types.specs.declared.keys.Dbkey.{Dbkey}
use Rattle.rdb_types.specs.declared.keys.Tsn.{Tsn}
use Rattle.rdb_types.specs.declared.keys.Limits.{Limits}
use Rattle.journal_reading.specs.rdb_outside.Disk.{Image}
use Rattle.ruj_journal.specs.Entry.{IsEntry}
use Rattle.new_database.specs.aij_journal.declared.part.GroupLine.{GroupLine}
use Rattle.new_database.specs.aij_journal.declared.part.AijPart.{AijPart}
use Rattle.new_database.specs.aij_journal.Header.{IsHeader}
use Rattle.journal_reading.specs.journal_scan.declared.group.Group.{Group}
use Rattle.journal_reading.specs.journal_scan.Standing.{what_stands}
use Rattle.journal_reading.specs.journal_scan.Whole.{slots_of, count_of, IsWhole, AreWhole}
use Rattle.line_view.specs.Knowledge.{Lines, IsInOrder, line_in}
use Rattle.new_database.specs.Maker.{root_file, aij_file}
use Rattle.line_versions.specs.Lines.{shown}
use Rattle.stable_lines.specs.Slots.{ruj_file, file_of, slot_of, IsMember, line_at, named, Undo, entry_at}
use Rattle.stable_lines.specs.Journal.{Journal, slots_in, next_number, next_slot, has_group, commit_of, StandsAt, IsJournalOf}
use Rattle.stable_lines.specs.Image.{IsEnded, IsOpenAt, IsBefore, as_it_stands, put_back, Shows}
use Rattle.stable_lines.specs.Kept.{Kept, IsRootOf, IsWellFormed, IsBelow, BearsOpen, IsUndone, HasNoCommit, FitsClass}
use Rattle.stable_lines.specs.Progress.{Open, Flight, Progress, lines_with, journal_with}
use Rattle.stable_lines.specs.Facts.{PendingContents, IsImageOf, HasEnded, IsChanged, OpenFacts, FormerFacts, FlightFacts, HasLanded, IsInGroup, RootStands, Facts, IsFlying, StandsAs, as_committed, with_former, with_flight}
use Rattle.stable_lines.proofs.Lists.{got_front, length_front, got_either, got_one}
use Rattle.stable_lines.proofs.Laying.{IsLaid, IsLeft, found_behind, grouped_behind, laid_in_order}
use Rattle.stable_lines.proofs.Groups.{commit_last, before_or_commit, whole_behind, of_either}

-- ---- what a line of an image comes to

-- it stays as it stands
record Stays (image : Image) (gs : List Group) (key : Dbkey) (what : Option (List ℕ)) : Type 0 where
  ended : IsEnded image gs (line_at image key).tsn.number
  shows : shown (line_at image key) ≡ what

-- it is put back
record IsBack (P : PendingContents) (now : Progress) (image : Image) (gs : List Group) (key : Dbkey) (what : Option (List ℕ)) : Type 0 where
  changed : IsChanged P now key (line_at image key)
  no_group : has_group changed.transaction.tsn.number gs ≡ false
  ended : IsEnded image gs changed.before.tsn.number
  shows : shown changed.before ≡ what

abbrev Comes : PendingContents → Progress → Image → List Group → Dbkey → Option (List ℕ) → Type 0
Comes P now image gs key what = Stays image gs key what ⊎ IsBack P now image gs key what

some_same : {A : Type 0} (a b : A) → Some a ≡ Some b → a ≡ b
some_same a b same = cc

not_both : (b : Bool) → b ≡ true → b ≡ false → ⊥
not_both b is isnt = let bad : true ≡ false = sym is ∙ isnt in cc

or_true : (b : Bool) → (b || true) ≡ true
or_true true = refl
or_true false = refl

eq_from : (a b : ℕ) → (a == b) ≡ true → a ≡ b
eq_from a b h = grind arith

module _ (P : PendingContents) (now : Progress) (facts : Facts P now) (image : Image) (each : IsImageOf P image) where
  root_stands : RootStands P now (image root_file 0)
  root_stands = facts.root (image root_file 0) (each root_file 0)

  root_of : IsRootOf image root_stands.root
  root_of = record { is = root_stands.is; state = root_stands.state; restored = λ three member is. root_stands.restored three member (image (ruj_file member) 0) is (each (ruj_file member) 0) }

  well_formed : IsWellFormed image root_stands.root.limits.pages
  well_formed = record {
    page = λ file number is plain. facts.pages.page file number _ is plain (each _ _);
    space = λ file number is page space. facts.pages.space file number _ is page space (each _ _);
    header = λ member is. facts.pages.header member _ is (each _ _);
    owner = λ file number is plain owned. facts.pages.owner file number _ _ is plain (each _ _) owned (each _ _);
    past = λ file slot is le lt. facts.pages.past file slot _ is (subst (λ (l : Limits). l.pages ≤ slot) root_stands.limits le) lt (each _ _);
  }

  under : (n : ℕ) → n < now.next_tsn → n < root_stands.root.ceiling
  under n lt = let top : now.next_tsn ≤ root_stands.root.ceiling = root_stands.ceiling in omega (arith, lt, top)

  below : (gs : List Group) → ((i : ℕ) (g : Group) → slice_get gs i ≡ Some g → g.tsn.number < now.next_tsn) → IsBelow image gs root_stands.root.ceiling
  below gs groups = record {
    line = λ key. under _ (facts.below.line key _ (each _ _));
    header = λ member is. under _ (facts.below.header member _ is (each _ _));
    entry = λ member slot e is le entry. under _ (facts.below.entry member slot _ e is le (each _ _) entry);
    group = λ i g got. under _ (groups i g got);
  }

  -- ---- a line that is put back

  module _ (key : Dbkey) (c : IsChanged P now key (line_at image key)) where
    opened : OpenFacts P now c.member c.transaction
    opened = facts.going c.member c.transaction c.is_open

    within : c.index < length c.transaction.entries
    within = slice_get_within c.transaction.entries c.index _ c.entry

    number_is : (line_at image key).tsn.number ≡ c.transaction.tsn.number
    number_is = ap (λ (t : Tsn). t.number) c.tsn

    names : named (image (ruj_file c.member) 0) ≡ c.transaction.tsn.number
    names = opened.names _ (let lt : c.index < length c.transaction.entries = within in omega (arith, lt)) (each _ _)

    only : (other : ℕ) → IsMember other → named (image (ruj_file other) 0) ≡ (line_at image key).tsn.number → other ≡ c.member
    only other is n = opened.only other _ is (each _ _) (n ∙ number_is)

    is_open : (gs : List Group) → has_group c.transaction.tsn.number gs ≡ false → IsOpenAt image gs (line_at image key).tsn.number c.member
    is_open gs none = record {
      number = subst (λ (n : ℕ). 1 ≤ n) (sym number_is) opened.number;
      no_group = subst (λ (n : ℕ). has_group n gs ≡ false) (sym number_is) none;
      is_member = opened.is_member;
      names = names ∙ sym number_is;
      first = λ other is lt n. let same : other ≡ c.member = only other is n in omega (arith, same, lt);
    }

    entry : (i : ℕ) (undo : Undo) → slice_get c.transaction.entries i ≡ Some undo → IsEntry (image (ruj_file c.member) (i + 1)) (entry_at c.transaction.tsn (i + 1) undo)
    entry i undo got = opened.entry i undo _ got (each _ _)

    this : Undo
    this = record { key = key; before = c.before }

    alone : (i : ℕ) (undo : Undo) → slice_get c.transaction.entries i ≡ Some undo → undo.key ≡ key → i ≡ c.index
    alone i undo got same =
        let one : i + 1 ≡ c.index + 1 = c.one (i + 1) (c.index + 1) _ _ (entry_at c.transaction.tsn (i + 1) undo) (entry_at c.transaction.tsn (c.index + 1) (record { key = key; before = c.before })) (omega arith) (omega arith) (each _ _) (each _ _) (entry i undo got) (entry c.index _ c.entry) (record { same_tsn = refl; same_key = same }) (record { same_tsn = refl; same_key = refl }) in
        omega (arith, one)

    before_in : IsBefore image c.member c.transaction.tsn key c.before
    before_in = record {
      earlier = take c.index c.transaction.entries;
      others = λ i undo got same. let front = got_front c.transaction.entries c.index i undo got in let at : i ≡ c.index = alone i undo front.0 same in let lt : i < c.index = front.1 in omega (arith, at, lt);
      stand = λ i undo got. entry i undo (got_front c.transaction.entries c.index i undo got).0;
      here = subst (λ (n : ℕ). IsEntry (image (ruj_file c.member) (n + 1)) (entry_at c.transaction.tsn (n + 1) (record { key = key; before = c.before }))) (sym (length_front c.transaction.entries c.index (let lt : c.index < length c.transaction.entries = within in omega (arith, lt)))) (entry c.index _ c.entry);
    }

    before_is : IsBefore image c.member (line_at image key).tsn key c.before
    before_is = subst (λ (t : Tsn). IsBefore image c.member t key c.before) (sym c.tsn) before_in

    undone_here : (gs : List Group) → IsEnded image gs c.before.tsn.number → IsUndone image gs root_stands.root.ceiling key c.member
    undone_here gs ended = record {
      only = only;
      before = c.before;
      is = before_is;
      one = λ i k a b li lk ea eb ofa ofb. c.one i k _ _ a b li lk (each _ _) (each _ _) ea eb (record { same_tsn = ofa.same_tsn ∙ number_is; same_key = ofa.same_key }) (record { same_tsn = ofb.same_tsn ∙ number_is; same_key = ofb.same_key });
      below = under _ c.below;
      ended = ended;
    }

  shows : (gs : List Group) (lines : Lines) (key : Dbkey) → Comes P now image gs key (line_in key lines) → Shows image gs lines key
  shows gs lines key (inl s) = record { line = line_at image key; is = as_it_stands s.ended refl; shows = s.shows }
  shows gs lines key (inr b) = record { line = b.changed.before; is = put_back b.changed.member (is_open key b.changed gs b.no_group) (before_is key b.changed); shows = b.shows }

  undone : (gs : List Group) (key : Dbkey) (what : Option (List ℕ)) → Comes P now image gs key what → (member : ℕ) → BearsOpen image gs key member → IsUndone image gs root_stands.root.ceiling key member
  undone gs key what (inl s) member bears = absurd (not_both _ (s.ended member bears.is_member bears.number bears.names) bears.no_group)
  undone gs key what (inr b) member bears = subst (λ (m : ℕ). IsUndone image gs root_stands.root.ceiling key m) (sym (only key b.changed member bears.is_member bears.names)) (undone_here key b.changed gs b.ended)

  -- ---- the journal

  journal_of : (j : Journal) → IsHeader (image aij_file 0) j.first → AreWhole j.first j.groups → ((i : ℕ) (what : Option AijPart) → slice_get (slots_in j) i ≡ Some what → what_stands (image aij_file (i + 1)) ≡ what) → HasNoCommit image (next_number j) → IsJournalOf image j
  journal_of j header whole stand none = record { header = header; whole = whole; stand = stand; no_more = no_more }
    where
      no_more : (g : Group) → IsWhole (next_number j) g → StandsAt image (next_slot j) g → ⊥
      no_more g next stands =
          let there = stands (length g.lines) (commit_of g) (commit_last g) in
          let low : g.number < next_number j = none (next_slot j + length g.lines) (record { number = g.number; tsn = g.tsn; index = length g.lines; count = count_of g; line = None }) (omega arith) there refl in
          let is : g.number ≡ next_number j = next.numbered in
          omega (arith, low, is)

  kept : (classes : ℕ → ℕ) (lines : Lines) (j : Journal) → IsJournalOf image j → HasNoCommit image (next_number j) → IsInOrder lines → ((key : Dbkey) → Comes P now image j.groups key (line_in key lines))
      → ((key : Dbkey) (bytes : List ℕ) → line_in key lines ≡ Some bytes → FitsClass (image (file_of key) (slot_of key)) (classes key.area) bytes)
      → ((i : ℕ) (g : Group) → slice_get j.groups i ≡ Some g → g.tsn.number < now.next_tsn) → Kept classes lines j image
  kept classes lines j is none in_order comes class groups = record {
    root = root_stands.root;
    is_root = root_of;
    journal = is;
    commits = none;
    stands = record { in_order = in_order; each = λ key. shows j.groups lines key (comes key) };
    class = class;
    undone = λ key. undone j.groups key (line_in key lines) (comes key);
    alone = λ a b is_a is_b le same. facts.alone a b _ _ is_a is_b (each _ _) (each _ _) le same;
    well_formed = well_formed;
    below = below j.groups groups;
  }

  -- ---- as committed

  ended_now : (tsn : ℕ) → HasEnded P now tsn → IsEnded image now.journal.groups tsn
  ended_now tsn was member is le n = was member _ is le (each _ _) n

  comes_now : (key : Dbkey) → Comes P now image now.journal.groups key (line_in key now.lines)
  comes_now key = ⊎_elim (λ c. inl (record { ended = ended_now _ c.ended; shows = c.shows })) (λ c. inr (record { changed = c; no_group = (opened key c).no_group; ended = ended_now _ c.committed.ended; shows = c.committed.shows })) (facts.line key _ (each _ _))

  kept_now : IsHeader (image aij_file 0) now.journal.first → HasNoCommit image (next_number now.journal) → Kept now.classes now.lines now.journal image
  kept_now header none = kept now.classes now.lines now.journal (journal_of now.journal header facts.journal.groups.whole (λ i what got. facts.journal.groups.stand i what _ got (each _ _)) none) none facts.in_order comes_now (λ key bytes got. facts.pages.class key bytes _ got (each _ _)) facts.below.group

  -- ---- with the former journal, while no header names a transaction

  module _ (j : Journal) (former : FormerFacts P now j) where
    comes_former : (key : Dbkey) → Comes P now image j.groups key (line_in key now.lines)
    comes_former key = ⊎_elim (λ c. inl (record { ended = λ member is le n. absurd (nobody member is le n); shows = c.shows })) (λ c. let o = opened key c in let lt : 1 ≤ c.transaction.tsn.number = o.number in absurd (nobody c.member o.is_member lt (names key c))) (facts.line key _ (each _ _))
      where
        nobody : {tsn : ℕ} (member : ℕ) → IsMember member → 1 ≤ tsn → named (image (ruj_file member) 0) ≡ tsn → ⊥
        nobody {tsn} member is le n = let none : named (image (ruj_file member) 0) ≡ 0 = former.headers member _ is (each _ _) in omega (arith, le, n, none)

    no_commit_former : HasNoCommit image (next_number j)
    no_commit_former slot part le stands none = former.commits slot _ part le (each _ _) stands none

    kept_former : IsHeader (image aij_file 0) j.first → Kept now.classes now.lines j image
    kept_former header = kept now.classes now.lines j (journal_of j header former.groups.whole (λ i what got. former.groups.stand i what _ got (each _ _)) no_commit_former) no_commit_former facts.in_order comes_former (λ key bytes got. facts.pages.class key bytes _ got (each _ _)) former.below

  -- ---- with the group in flight, which is whole in the image

  module _ (f : Flight) (is : now.flight ≡ Some f) (stands : what_stands (image aij_file (next_slot now.journal + length f.group.lines)) ≡ commit_of f.group) where
    flight : FlightFacts P now f
    flight = facts.flight f is

    abbrev old : List Group
    old = now.journal.groups

    ended_more : (tsn : ℕ) → IsEnded image old tsn → IsEnded image (old ++ f.group ∷ []) tsn
    ended_more tsn was member is_member le n = grouped_behind tsn old f.group ∙ ap (λ b. b || (f.group.tsn.number == tsn)) (was member is_member le n)

    landed_ends : (tsn : ℕ) → tsn ≡ f.group.tsn.number → IsEnded image (old ++ f.group ∷ []) tsn
    landed_ends tsn same member is_member le n = grouped_behind tsn old f.group ∙ ap (λ b. has_group tsn old || b) (eq-eqb f.group.tsn.number tsn (sym same)) ∙ or_true (has_group tsn old)

    -- another open transaction has no group
    no_group_more : (o : Open) → has_group o.tsn.number old ≡ false → (f.group.tsn.number ≡ o.tsn.number → ⊥) → has_group o.tsn.number (old ++ f.group ∷ []) ≡ false
    no_group_more o none apart = grouped_behind o.tsn.number old f.group ∙ ap (λ b. b || (f.group.tsn.number == o.tsn.number)) none ∙ differ (f.group.tsn.number == o.tsn.number) refl
      where
        differ : (b : Bool) → (f.group.tsn.number == o.tsn.number) ≡ b → b ≡ false
        differ true same = absurd (apart (eq_from _ _ same))
        differ false same = refl

    comes_flight : (key : Dbkey) → Comes P now image (old ++ f.group ∷ []) key (line_in key (lines_with now f))
    comes_flight key = ⊎_elim laid left (found_behind key f.group.lines now.lines)
      where
        laid : IsLaid key f.group.lines now.lines → Comes P now image (old ++ f.group ∷ []) key (line_in key (lines_with now f))
        laid l =
            let there : HasLanded f.group l.line (line_at image l.line.key) = flight.landed l.index l.line _ l.is (each _ _) in
            let here : HasLanded f.group l.line (line_at image key) = subst (λ (k : Dbkey). HasLanded f.group l.line (line_at image k)) l.same_key there in
            inl (record { ended = landed_ends _ (ap (λ (t : Tsn). t.number) here.tsn); shows = here.shows ∙ sym l.found })

        apart : IsLeft key f.group.lines now.lines → (c : IsChanged P now key (line_at image key)) → f.group.tsn.number ≡ c.transaction.tsn.number → ⊥
        apart l c same =
            let one : f.member ≡ c.member = (opened key c).alone f.member flight.transaction flight.is_open (sym (ap (λ (t : Tsn). t.number) flight.tsn) ∙ same) in
            let this : flight.transaction ≡ c.transaction = some_same _ _ (sym flight.is_open ∙ ap (λ m. now.going m) one ∙ c.is_open) in
            let in_it : IsInGroup f.group key = flight.changed c.index (record { key = key; before = c.before }) (ap (λ (o : Open). slice_get o.entries c.index) this ∙ c.entry) in
            l.none in_it.index in_it.line in_it.is in_it.same_key

        left : IsLeft key f.group.lines now.lines → Comes P now image (old ++ f.group ∷ []) key (line_in key (lines_with now f))
        left l = ⊎_elim (λ c. inl (record { ended = ended_more _ (ended_now _ c.ended); shows = c.shows ∙ sym l.found })) (λ c. inr (record { changed = c; no_group = no_group_more c.transaction (opened key c).no_group (apart l c); ended = ended_more _ (ended_now _ c.committed.ended); shows = c.committed.shows ∙ sym l.found })) (facts.line key _ (each _ _))

    number_is_next : f.group.number ≡ next_number now.journal
    number_is_next = flight.whole.numbered

    next_behind : next_number (journal_with now f) ≡ next_number now.journal + 1
    next_behind = let long : length (now.journal.groups ++ f.group ∷ []) ≡ length now.journal.groups + 1 = length-append now.journal.groups (f.group ∷ []) in ap (λ n. now.journal.first + n) long ∙ (let same : now.journal.first + (length now.journal.groups + 1) ≡ now.journal.first + length now.journal.groups + 1 = omega arith in same)

    no_commit_flight : HasNoCommit image (next_number (journal_with now f))
    no_commit_flight slot part le stand none = ⊎_elim (λ (lt : part.number < next_number now.journal). omega (arith, lt, next_behind)) flying (facts.journal.commits slot _ part le (each _ _) stand none)
      where
        flying : IsFlying now slot part → part.number < next_number (journal_with now f)
        flying fly =
            let this : fly.flight ≡ f = some_same _ _ (sym fly.is ∙ is) in
            let commit : Some part ≡ commit_of f.group = fly.is_commit ∙ ap (λ (g : Flight). commit_of g.group) this in
            let number : part.number ≡ f.group.number = ap (λ (p : AijPart). p.number) (some_same _ _ commit) in
            omega (arith, number, number_is_next, next_behind)

    stand_flight : (i : ℕ) (what : Option AijPart) → slice_get (slots_in (journal_with now f)) i ≡ Some what → what_stands (image aij_file (i + 1)) ≡ what
    stand_flight i what got = ⊎_elim (λ was. facts.journal.groups.stand i what _ was (each _ _)) behind (of_either old f.group i what got)
      where
        behind : (k : ℕ) × (i ≡ length (slots_in now.journal) + k) × (slice_get (slots_of f.group) k ≡ Some what) → what_stands (image aij_file (i + 1)) ≡ what
        behind later =
            let k = later.0 in
            let place : i + 1 ≡ next_slot now.journal + k = (let at : i ≡ length (slots_in now.journal) + later.0 = later.1 in omega (arith, at)) in
            ap (λ n. what_stands (image aij_file n)) place ∙ ⊎_elim (λ lt. flight.stand k what _ lt later.2 (each _ _)) (λ last. ap (λ n. what_stands (image aij_file (next_slot now.journal + n))) last.0 ∙ stands ∙ sym last.1) (before_or_commit f.group k what later.2)

    group_below : (i : ℕ) (g : Group) → slice_get (old ++ f.group ∷ []) i ≡ Some g → g.tsn.number < now.next_tsn
    group_below i g got = ⊎_elim (facts.below.group i g) (λ later. this (got_one f.group g later.0 later.2).1) (got_either old (f.group ∷ []) i g got)
      where
        this : f.group ≡ g → g.tsn.number < now.next_tsn
        this same = subst (λ (h : Group). h.tsn.number < now.next_tsn) same (subst (λ (t : Tsn). t.number < now.next_tsn) (sym flight.tsn) (facts.below.going f.member flight.transaction flight.is_open))

    kept_flight : IsHeader (image aij_file 0) now.journal.first → Kept f.classes (lines_with now f) (journal_with now f) image
    kept_flight header = kept f.classes (lines_with now f) (journal_with now f) (journal_of (journal_with now f) header (whole_behind now.journal.first old f.group facts.journal.groups.whole flight.whole) stand_flight no_commit_flight) no_commit_flight (laid_in_order f.group.lines now.lines facts.in_order) comes_flight (λ key bytes got. flight.class key bytes _ got (each _ _)) group_below

  -- ---- whether the group in flight is whole

  module _ (f : Flight) (is : now.flight ≡ Some f) where
    commit_slot : ℕ
    commit_slot = next_slot now.journal + length f.group.lines

    not_whole : (what_stands (image aij_file (next_slot now.journal + length f.group.lines)) ≡ commit_of f.group → ⊥) → HasNoCommit image (next_number now.journal)
    not_whole apart slot part le stand none = ⊎_elim (λ lt. lt) (λ fly. absurd (flying fly)) (facts.journal.commits slot _ part le (each _ _) stand none)
      where
        flying : IsFlying now slot part → ⊥
        flying fly =
            let this : fly.flight ≡ f = some_same _ _ (sym fly.is ∙ is) in
            apart (sym (ap (λ n. what_stands (image aij_file n)) (fly.in_place ∙ ap (λ (g : Flight). next_slot now.journal + length g.group.lines) this)) ∙ stand ∙ fly.is_commit ∙ ap (λ (g : Flight). commit_of g.group) this)

    decide : (HasNoCommit image (next_number now.journal)) ⊎ (what_stands (image aij_file (next_slot now.journal + length f.group.lines)) ≡ commit_of f.group)
    decide = by (what_stands (image aij_file (next_slot now.journal + length f.group.lines))) refl
      where
        by_line : (part : AijPart) (line : Option GroupLine) → part.line ≡ line → what_stands (image aij_file (next_slot now.journal + length f.group.lines)) ≡ Some part → (HasNoCommit image (next_number now.journal)) ⊎ (what_stands (image aij_file (next_slot now.journal + length f.group.lines)) ≡ commit_of f.group)
        by_line part (Some l) same there = inl (not_whole (λ whole. let this : Some part ≡ commit_of f.group = sym there ∙ whole in let none : part.line ≡ None = ap (λ (p : AijPart). p.line) (some_same _ _ this) in let bad : Some l ≡ None = sym same ∙ none in cc))
        by_line part None same there = ⊎_elim (λ lt. inl (not_whole (low lt))) (λ fly. inr (there ∙ fly.is_commit ∙ ap (λ (g : Flight). commit_of g.group) (some_same _ _ (sym fly.is ∙ is)))) (facts.journal.commits (next_slot now.journal + length f.group.lines) _ part (omega arith) (each _ _) there same)
          where
            low : part.number < next_number now.journal → what_stands (image aij_file (next_slot now.journal + length f.group.lines)) ≡ commit_of f.group → ⊥
            low lt whole =
                let this : Some part ≡ commit_of f.group = sym there ∙ whole in
                let number : part.number ≡ f.group.number = ap (λ (p : AijPart). p.number) (some_same _ _ this) in
                let next : f.group.number ≡ next_number now.journal = (facts.flight f is).whole.numbered in
                omega (arith, lt, number, next)

        by : (w : Option AijPart) → what_stands (image aij_file (next_slot now.journal + length f.group.lines)) ≡ w → (HasNoCommit image (next_number now.journal)) ⊎ (what_stands (image aij_file (next_slot now.journal + length f.group.lines)) ≡ commit_of f.group)
        by None there = inl (not_whole (λ whole. let bad : None ≡ commit_of f.group = sym there ∙ whole in cc))
        by (Some part) there = by_line part part.line refl there

  no_flight : now.flight ≡ None → HasNoCommit image (next_number now.journal)
  no_flight is slot part le stand none = ⊎_elim (λ lt. lt) (λ fly. let bad : None ≡ Some fly.flight = sym is ∙ fly.is in absurd (cc)) (facts.journal.commits slot _ part le (each _ _) stand none)

  pub stands : StandsAs now image
  stands = ⊎_elim (λ header. by_flight header now.flight refl) (λ former. with_former former.0 former.1 (kept_former former.0 (facts.former former.0 former.1) former.2)) (facts.journal.header _ (each aij_file 0))
    where
      by_flight : IsHeader (image aij_file 0) now.journal.first → (f : Option Flight) → now.flight ≡ f → StandsAs now image
      by_flight header None is = as_committed (kept_now header (no_flight is))
      by_flight header (Some f) is = ⊎_elim (λ none. as_committed (kept_now header none)) (λ whole. with_flight f is (kept_flight f is whole header)) (decide f is)
