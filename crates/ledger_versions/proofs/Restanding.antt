-- The versions of members that stand otherwise, and on a disk that was written.
use Rattle.std.proofs.Common.{◌≡◌, ◌≢◌, ℕ, true, List, [], length, Option, Some, None, slice_get, ⊎_elim, ap, sym, subst, ◌∙◌, refl}
use Rattle.rdb_types.specs.declared.keys.Dbkey.{Dbkey}
use Rattle.rdb_types.specs.declared.keys.Tsn.{Tsn}
use Rattle.rdb_types.specs.declared.keys.Line.{Line}
use Rattle.rdb_outside.specs.Disk.{Image, View}
use Rattle.line_versions.specs.Course.{Course}
use Rattle.stable_lines.specs.Slots.{Undo, line_at}
use Rattle.stable_lines.specs.Progress.{Open, Progress}
use Rattle.stable_lines.specs.History.{History}
use Rattle.line_moves.specs.Changes.{KeepsLines}
use Rattle.line_moves.specs.Lines.{ChangedLines, AreDistinct, ArePut, HasLine, PutsOnly}
use Rattle.line_moves.proofs.Putting.{nat_cases}
use Rattle.disk_seats.specs.line_opening.Undoing.{PutsBack}
use Rattle.disk_seats.specs.line_seat.declared.commit.CommitStage.{CommitStage}
use Rattle.disk_seats.specs.line_seat.declared.commit.CommitStage.TheVariants.{Changing, Imaging, Gathering, Sealing, Landing, Committed}
use Rattle.disk_seats.specs.Ledgers.{Standing, resting, changing, broken, committing, undoing, entries_of, gained, Commit, Ledger, flies, again, new_ledger, set_standing, stands_as}
use Rattle.disk_versions.specs.Versions.{VersionFacts, SeatVersions}
use Rattle.disk_versions.proofs.Choices.{chosen, passed_by}
use Rattle.disk_versions.proofs.Moves.{KeepsEntries, seat_moves}
use Rattle.ledger_versions.specs.Readers.{Waiting, set_waiting, HasLines, HasBefore, ReaderFacts}

-- ---- other standings

-- who has lines had them, with the same before-images
abbrev pub KeepsStanding : (ℕ → Standing) → (ℕ → Standing) → Type 0
KeepsStanding new old = (m : ℕ) → HasLines (new m) → HasLines (old m) × (entries_of (new m) ≡ entries_of (old m))

pub restands : (v : View) (limit : ℕ) (course : Course) (waiting : Waiting) (g : Ledger) (standing : ℕ → Standing) (commit : Option Commit) (history : History) (moments : List ℕ) → KeepsStanding standing g.standing
    → ((c : Commit) → commit ≡ Some c → waiting c.member ≡ c.lines)
    → ((c : Commit) → commit ≡ Some c → flies c.stage ≡ true → ArePut v.content c.lines (length c.lines))
    → ReaderFacts v g limit course waiting → ReaderFacts v (record { base = g.base; standing = standing; commit = commit; history = history; moments = moments }) limit course waiting
restands v limit course waiting g standing commit history moments same its put was = record {
  versions = was.versions;
  seats = λ m o has is. let s = same m has in subst (λ (es : List Undo). SeatVersions v course o.tsn es (waiting m)) (sym s.1) (was.seats m o s.0 is);
  journalled = λ m i line has got. let s = same m has in subst (λ (es : List Undo). HasBefore es line.0) (sym s.1) (was.journalled m i line s.0 got);
  its = its;
  put = put;
}

pub keeps_all : (standing : ℕ → Standing) → KeepsStanding standing standing
keeps_all standing m has = (has, refl)

gained_has : (s : Standing) → HasLines (gained s) → HasLines s × (entries_of (gained s) ≡ entries_of s)
gained_has resting has = (has, refl)
gained_has (changing all stable) has = (has, refl)
gained_has broken has = (has, refl)
gained_has (committing all) has = (has, refl)
gained_has (undoing all left) has = (has, refl)

pub keeps_gained : (standing : ℕ → Standing) → KeepsStanding (λ m. gained (standing m)) standing
keeps_gained standing m has = gained_has (standing m) has

-- of one member whose lines don't wait any more
pub keeps_others : (member : ℕ) (s : Standing) (standing : ℕ → Standing) → (HasLines s → ⊥) → KeepsStanding (set_standing member s standing) standing
keeps_others member s standing none m has = ⊎_elim
    (λ same. absurd (none (subst (λ (x : Standing). HasLines x) (chosen s (standing m) m member same) has)))
    (λ apart. (subst (λ (x : Standing). HasLines x) (passed_by s (standing m) m member apart) has, ap entries_of (passed_by s (standing m) m member apart)))
    (nat_cases m member)

-- who has lines isn't that member
pub another : (member : ℕ) (s : Standing) (standing : ℕ → Standing) → (HasLines s → ⊥) → (m : ℕ) → HasLines (set_standing member s standing m) → m ≢ member
another member s standing none m has same = none (subst (λ (x : Standing). HasLines x) (chosen s (standing m) m member same) has)

-- ---- on a disk that was written

pub removes : (v w : View) (limit : ℕ) (course : Course) (waiting : Waiting) (g : Ledger) → KeepsEntries v.content w.content course.followed → VersionFacts w g.base limit course
    → ((c : Commit) → g.commit ≡ Some c → flies c.stage ≡ true → ArePut v.content c.lines (length c.lines) → ArePut w.content c.lines (length c.lines))
    → ReaderFacts v g limit course waiting → ReaderFacts w g limit course waiting
removes v w limit course waiting g kept versions put was = record {
  versions = versions;
  seats = λ m o has is. seat_moves v w course o.tsn (entries_of (g.standing m)) (waiting m) kept (was.seats m o has is);
  journalled = was.journalled;
  its = was.its;
  put = λ c is flown. put c is flown (was.put c is flown);
}

pub put_keeps : (old new : Image) (lines : ChangedLines) (n : ℕ) → KeepsLines old new → ArePut old lines n → ArePut new lines n
put_keeps old new lines n keeps was i line less got = keeps line.0 ∙ was i line less got

one_of : (a b : Dbkey × Line) → Some a ≡ Some b → a ≡ b
one_of a b same = cc

pub put_puts : (old new : Image) (lines : ChangedLines) (n : ℕ) → AreDistinct lines → PutsOnly lines old new → ArePut old lines n → ArePut new lines n
put_puts old new lines n distinct puts was i line less got = ⊎_elim (λ same. same ∙ was i line less got) there (puts line.0)
  where
    there : HasLine lines line.0 (line_at new line.0) → line_at new line.0 ≡ line.1
    there has =
        let at : has.index ≡ i = distinct has.index i has.line line has.is got has.key_is in
        let same : has.line ≡ line = one_of has.line line (sym has.is ∙ ap (λ (k : ℕ). slice_get lines k) at ∙ got) in
        sym has.value_is ∙ ap (λ (l : Dbkey × Line). l.1) same

pub put_backs : (old new : Image) (lines : ChangedLines) (n : ℕ) (o : Open) → PutsBack o old new → ((i j : ℕ) (line : Dbkey × Line) (undo : Undo) → slice_get lines i ≡ Some line → slice_get o.entries j ≡ Some undo → line.0 ≢ undo.key) → ArePut old lines n → ArePut new lines n
put_backs old new lines n o puts apart was i line less got = ⊎_elim (λ same. same ∙ was i line less got) (λ here. absurd (apart i here.index line here.undo got here.is here.key_is)) (puts line.0)

-- ---- one member otherwise

module _ (v : View) (g : Ledger) (member : ℕ) (x : Standing) (lines : ChangedLines) (waiting : Waiting) where
  abbrev pub standing : ℕ → Standing
  standing = set_standing member x g.standing

  abbrev pub waits : Waiting
  waits = set_waiting member lines waiting

  here : (m : ℕ) → m ≡ member → standing m ≡ x
  here m same = chosen x (g.standing m) m member same

  there : (m : ℕ) → m ≢ member → standing m ≡ g.standing m
  there m apart = passed_by x (g.standing m) m member apart

  lines_here : (m : ℕ) → m ≡ member → waits m ≡ lines
  lines_here m same = chosen lines (waiting m) m member same

  pub lines_there : (m : ℕ) → m ≢ member → waits m ≡ waiting m
  lines_there m apart = passed_by lines (waiting m) m member apart

  seat_as : (course : Course) (tsn : Tsn) (s t : Standing) (l k : ChangedLines) → t ≡ s → k ≡ l → SeatVersions v course tsn (entries_of s) l → SeatVersions v course tsn (entries_of t) k
  seat_as course tsn s t l k same equal was = subst (λ (y : ChangedLines). SeatVersions v course tsn (entries_of t) y) (sym equal) (subst (λ (y : Standing). SeatVersions v course tsn (entries_of y) l) (sym same) was)

  pub with_member : (limit : ℕ) (course : Course) (base : Progress) (commit : Option Commit) (history : History) (moments : List ℕ) → VersionFacts v base limit course
      → ((o : Open) → HasLines x → base.going member ≡ Some o → SeatVersions v course o.tsn (entries_of x) lines)
      → ((i : ℕ) (line : Dbkey × Line) → HasLines x → slice_get lines i ≡ Some line → HasBefore (entries_of x) line.0)
      → ((m : ℕ) (o : Open) → m ≢ member → HasLines (g.standing m) → base.going m ≡ Some o → SeatVersions v course o.tsn (entries_of (g.standing m)) (waiting m))
      → ((m i : ℕ) (line : Dbkey × Line) → HasLines (g.standing m) → slice_get (waiting m) i ≡ Some line → HasBefore (entries_of (g.standing m)) line.0)
      → ((c : Commit) → commit ≡ Some c → waits c.member ≡ c.lines)
      → ((c : Commit) → commit ≡ Some c → flies c.stage ≡ true → ArePut v.content c.lines (length c.lines))
      → ReaderFacts v (record { base = base; standing = standing; commit = commit; history = history; moments = moments }) limit course waits
  with_member limit course base commit history moments versions own own_before others others_before its put = record {
    versions = versions;
    seats = λ m o has is. ⊎_elim
        (λ same. seat_as course o.tsn x (standing m) lines (waits m) (here m same) (lines_here m same) (own o (subst (λ (s : Standing). HasLines s) (here m same) has) (ap (λ (k : ℕ). base.going k) (sym same) ∙ is)))
        (λ apart. seat_as course o.tsn (g.standing m) (standing m) (waiting m) (waits m) (there m apart) (lines_there m apart) (others m o apart (subst (λ (s : Standing). HasLines s) (there m apart) has) is))
        (nat_cases m member);
    journalled = λ m i line has got. ⊎_elim
        (λ same. subst (λ (s : Standing). HasBefore (entries_of s) line.0) (sym (here m same)) (own_before i line (subst (λ (s : Standing). HasLines s) (here m same) has) (ap (λ (l : ChangedLines). slice_get l i) (sym (lines_here m same)) ∙ got)))
        (λ apart. subst (λ (s : Standing). HasBefore (entries_of s) line.0) (sym (there m apart)) (others_before m i line (subst (λ (s : Standing). HasLines s) (there m apart) has) (ap (λ (l : ChangedLines). slice_get l i) (sym (lines_there m apart)) ∙ got)))
        (nat_cases m member);
    its = its;
    put = put;
  }

-- it stands as it did
pub same_ledger : (v : View) (limit : ℕ) (course : Course) (waiting : Waiting) (g : Ledger) (member : ℕ) (x : Standing) → g.standing member ≡ x → ReaderFacts v (stands_as member x g) limit course waiting → ReaderFacts v g limit course waiting
same_ledger v limit course waiting g member x same was = restands v limit course waiting (stands_as member x g) g.standing g.commit g.history g.moments (λ m has. by m has) was.its was.put was
  where
    at : (m : ℕ) → g.standing m ≡ set_standing member x g.standing m
    at m = ⊎_elim (λ here. ap (λ (k : ℕ). g.standing k) here ∙ same ∙ sym (chosen x (g.standing m) m member here)) (λ apart. sym (passed_by x (g.standing m) m member apart)) (nat_cases m member)

    by : (m : ℕ) → HasLines (g.standing m) → HasLines (set_standing member x g.standing m) × (entries_of (g.standing m) ≡ entries_of (set_standing member x g.standing m))
    by m has = (subst (λ (s : Standing). HasLines s) (at m) has, ap entries_of (at m))

-- ---- the commit

pub some_commit : (a b : Commit) → Some a ≡ Some b → a ≡ b
some_commit a b same = cc

pub no_commit : (c : Commit) → None ≡ Some c → ⊥
no_commit c is = cc

pub again_flies : (stage : CommitStage) → flies (again stage) ≡ true → flies stage ≡ true
again_flies (Changing at) flown = flown
again_flies (Imaging at) flown = flown
again_flies Gathering flown = flown
again_flies Sealing flown = flown
again_flies Landing flown = flown
again_flies Committed flown = flown

-- ---- the beginning

pub first_readers : (v : View) (base : Progress) (moment limit : ℕ) (course : Course) → VersionFacts v base limit course → ReaderFacts v (new_ledger base moment) limit course (λ m. [])
first_readers v base moment limit course was = record {
  versions = was;
  seats = λ m o has is. absurd has;
  journalled = λ m i line has got. absurd has;
  its = λ c is. absurd (no_commit c is);
  put = λ c is. absurd (no_commit c is);
}
