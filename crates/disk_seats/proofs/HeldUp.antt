-- A commit behind a call of it that may have failed.
use Rattle.std.proofs.Common.{◌≡◌, ◌≢◌, ℕ, ◌+◌, ◌-◌, IsTrue, List, Some, slice_get, length, ◌⊎◌, inl, inr, ⊎_elim, ap, sym, subst, ◌∙◌, refl, arith}
use Rattle.rdb_types.specs.declared.file.FileId.{FileId}
use Rattle.rdb_types.specs.declared.file.FileKind.TheVariants.{Root, Area, Ruj, Aij}
use Rattle.rdb_types.specs.declared.keys.Dbkey.{Dbkey}
use Rattle.rdb_types.specs.declared.keys.Line.{Line}
use Rattle.rdb_outside.specs.Disk.{View, Image, Pending}
use Rattle.area_files.specs.Areas.{IsDataPage, space_page_of}
use Rattle.line_opening.specs.stable_lines.Slots.{ruj_file, area_file, line_at, Undo}
use Rattle.line_opening.specs.stable_lines.Progress.{Flight, Progress}
use Rattle.line_opening.specs.stable_lines.Facts.{Facts}
use Rattle.line_opening.specs.stable_lines.History.{IsAt}
use Rattle.line_opening.proofs.of_stable_lines.Fewer.{committed, changed}
use Rattle.line_opening.proofs.of_stable_lines.Turns.{some_same}
use Rattle.line_opening.specs.line_moves.Calls.{OnlyWrites}
use Rattle.line_opening.specs.line_moves.Lines.{ChangedLines, AreDistinct, MayPutAll, ArePut, PutsOnly}
use Rattle.line_opening.proofs.of_line_moves.PageWrite.{space_apart}
use Rattle.line_opening.proofs.of_line_moves.Putting.{nat_cases}
use Rattle.line_seat.specs.declared.commit.GroupPlace.{GroupPlace}
use Rattle.line_seat.specs.declared.commit.CommitStage.{CommitStage}
use Rattle.line_seat.specs.declared.commit.CommitStage.TheVariants.{Changing, Imaging, Gathering, Sealing, Landing, Committed}
use Rattle.line_seat.specs.Groups.{AreEntered}
use Rattle.line_seat.specs.Stages.{IsDone, progress_at}
use Rattle.line_seat.proofs.CommitSteps.{none_imaged}
use Rattle.disk_seats.specs.Ledgers.{Standing, committing, entries_of, Commit, Ledger, progress_with, progress_of, again, commit_at, held_up}
use Rattle.disk_seats.specs.Members.{MemberStands, CommitStands, LedgerFacts}
use Rattle.disk_seats.proofs.OthersStay.{member_stays, leaves_aside, used_stays}
use Rattle.disk_seats.proofs.Assembled.{since_call}

-- what a step of a commit may write
abbrev pub IsOfCommit : FileId → ℕ → Type 0
IsOfCommit file slot = ((n : ℕ) × (file ≡ area_file n) × IsDataPage (slot + 1)) ⊎ (file.kind ≡ Aij)

pub not_ruj : (file : FileId) (slot : ℕ) → IsOfCommit file slot → file.kind ≢ Ruj
not_ruj file slot of same = ⊎_elim (λ here. let bad : Area ≡ Ruj = ap (λ (f : FileId). f.kind) (sym here.1) ∙ same in cc) (λ here. let bad : Aij ≡ Ruj = sym here ∙ same in cc) of

pub not_root : (file : FileId) (slot : ℕ) → IsOfCommit file slot → file.kind ≢ Root
not_root file slot of same = ⊎_elim (λ here. let bad : Area ≡ Root = ap (λ (f : FileId). f.kind) (sym here.1) ∙ same in cc) (λ here. let bad : Aij ≡ Root = sym here ∙ same in cc) of

pub again_at : (stage : CommitStage) (base : Progress) (f : Flight) → progress_at (again stage) base f ≡ progress_at stage base f
again_at (Changing at) base f = refl
again_at (Imaging at) base f = refl
again_at Gathering base f = refl
again_at Sealing base f = refl
again_at Landing base f = refl
again_at Committed base f = refl

under_again : (stage : CommitStage) → stage ≢ Committed → again stage ≢ Committed
under_again (Changing at) under same = let bad : Changing at ≡ Committed = same in cc
under_again (Imaging at) under same = let bad : Imaging 0 ≡ Committed = same in cc
under_again Gathering under same = let bad : Imaging 0 ≡ Committed = same in cc
under_again Sealing under same = let bad : Sealing ≡ Committed = same in cc
under_again Landing under same = let bad : Sealing ≡ Committed = same in cc
under_again Committed under same = under same

-- each line that was put is as it was, or is put once more
put_again : (old new : Image) (lines : ChangedLines) (n : ℕ) → PutsOnly lines old new → AreDistinct lines → ArePut old lines n → ArePut new lines n
put_again old new lines n puts distinct was i line less got = ⊎_elim
    (λ (same : line_at new line.0 ≡ line_at old line.0). same ∙ was i line less got)
    (λ has.
    let place : has.index ≡ i = distinct has.index i has.line line has.is got has.key_is in
    let here : has.line ≡ line = some_same has.line line (sym has.is ∙ (ap (λ (k : ℕ). slice_get lines k) place ∙ got)) in
    sym has.value_is ∙ ap (λ (l : Dbkey × Line). l.1) here)
    (puts line.0)

module _ (v w : View) (file : FileId) (slot : ℕ) (t : IsTrue v.tells) (rest : OnlyWrites file slot v w) (of : IsOfCommit file slot) where
  journals : (m i : ℕ) (x : List ℕ) → Pending w (ruj_file m) i x → Pending v (ruj_file m) i x
  journals m i x q = rest.pending t (ruj_file m) i x (λ same at. not_ruj file slot of (ap (λ (f : FileId). f.kind) (sym same))) q

  pub may_again : (now : Progress) (lines : ChangedLines) → MayPutAll (Pending v) now lines → MayPutAll (Pending w) now lines
  may_again now lines may i line got = let m = may i line got in record {
    sure = ⊎_elim (λ c. inl (committed (Pending v) (Pending w) now (λ s h q. journals s 0 h q) line.0 line.1 c)) (λ c. inr (changed (Pending v) (Pending w) now (λ s h q. journals s 0 h q) (λ s j x le q. journals s j x q) line.0 line.1 c)) m.sure;
    below = m.below;
    free = m.free;
    within = m.within;
  }

  -- a space page is no data page
  pub entered_again : (lines : ChangedLines) → AreEntered (Pending v) lines → AreEntered (Pending w) lines
  entered_again lines entered i line there got names z q = entered i line there got names z (rest.pending t (area_file there.file) (space_page_of there.page - 1) z off q)
    where
      off : area_file there.file ≡ file → space_page_of there.page - 1 ≢ slot
      off same at = ⊎_elim
          (λ here. let plain = here.2 in let spot : space_page_of there.page - 1 ≡ slot + 1 - 1 = omega (arith, at) in space_apart there.page (slot + 1) plain.is_page.first plain.plain spot names.is_data.is_page.first)
          (λ here. let bad : Area ≡ Aij = ap (λ (f : FileId). f.kind) same ∙ here in cc) of

  done_again : (stage : CommitStage) → stage ≢ Committed → (base : Progress) (place : GroupPlace) (lines : ChangedLines) (f : Flight) → PutsOnly lines v.content w.content → AreDistinct lines → IsDone stage v base place lines f → IsDone (again stage) w base place lines f
  done_again (Changing at) under base place lines f puts distinct done = (may_again base lines done.0, entered_again lines done.1, put_again v.content w.content lines at puts distinct done.2)
  done_again (Imaging at) under base place lines f puts distinct done = (put_again v.content w.content lines (length lines) puts distinct done.0, none_imaged w.content base f)
  done_again Gathering under base place lines f puts distinct done = (put_again v.content w.content lines (length lines) puts distinct done.0, none_imaged w.content base f)
  done_again Sealing under base place lines f puts distinct done = tt
  done_again Landing under base place lines f puts distinct done = tt
  done_again Committed under base place lines f puts distinct done = absurd (under refl)

  -- the members stand as they did
  pub members_stay : (base : Progress) (standing : ℕ → Standing) (member : ℕ) (all : List Undo) → standing member ≡ committing all
      → ((s i : ℕ) (undo : Undo) → s ≢ member → slice_get (entries_of (standing s)) i ≡ Some undo → line_at w.content undo.key ≡ line_at v.content undo.key)
      → ((m : ℕ) → MemberStands v base m (standing m)) → (m : ℕ) → MemberStands w base m (standing m)
  members_stay base standing member all is lines was m = ⊎_elim
      (λ (here : m ≡ member).
      let st : standing m ≡ committing all = ap standing here ∙ is in
      subst (λ (s : Standing). MemberStands w base m s) (sym st) (subst (λ (s : Standing). MemberStands v base m s) st (was m)))
      (λ away. member_stays v w base member (leaves_aside v w base member file slot t (not_ruj file slot of) rest) m away (standing m) (λ i undo got. lines m i undo away got) (was m))
      (nat_cases m member)

  module _ (g : Ledger) (c : Commit) (was : LedgerFacts v g) (commits : g.commit ≡ Some c) (facts : Facts (Pending w) (progress_at c.stage g.base c.flight)) where
    pub now_is : progress_of g ≡ progress_at c.stage g.base c.flight
    now_is = ap (λ o. progress_with o g.base) commits

    pub facts_now : Facts (Pending w) (progress_of g)
    facts_now = subst (λ (p : Progress). Facts (Pending w) p) (sym now_is) facts

    -- the lines of others are as they were
    pub other_lines : PutsOnly c.lines v.content w.content → (s i : ℕ) (undo : Undo) → s ≢ c.member → slice_get (entries_of (g.standing s)) i ≡ Some undo → line_at w.content undo.key ≡ line_at v.content undo.key
    other_lines puts s i undo apart got = ⊎_elim
        (λ (same : line_at w.content undo.key ≡ line_at v.content undo.key). same)
        (λ has.
        let old = was.commit c commits in
        let of_it = old.of_entries has.index has.line has.is in
        let there = ap (λ (st : Standing). slice_get (entries_of st) of_it.1) old.its ∙ of_it.3 in
        absurd (was.apart c.member s of_it.1 i of_it.2 undo (λ same. apart (sym same)) there got (of_it.4 ∙ has.key_is)))
        (puts undo.key)

    pub held_facts : PutsOnly c.lines v.content w.content → AreDistinct c.lines → LedgerFacts w (held_up c g)
    held_facts puts distinct = record {
      facts = there;
      quiet = was.quiet;
      settled = was.settled;
      used = used_stays v w file slot t (not_root file slot of) rest was.used;
      member = members_stay g.base g.standing c.member c.transaction.entries old.its (other_lines puts) was.member;
      commit = λ d same. subst (λ (k : Commit). CommitStands w g.base g.standing k) (some_same (commit_at (again c.stage) c) d same) stands_now;
      apart = was.apart;
      at = subst (λ (p : Progress). IsAt g.history p) (now_is ∙ sym (again_at c.stage g.base c.flight)) was.at;
      marked = was.marked;
      stands = since_call v w file slot g t rest was facts_now;
    }
      where
        old : CommitStands v g.base g.standing c
        old = was.commit c commits

        there : Facts (Pending w) (progress_at (again c.stage) g.base c.flight)
        there = subst (λ (p : Progress). Facts (Pending w) p) (sym (again_at c.stage g.base c.flight)) facts

        stands_now : CommitStands w g.base g.standing (commit_at (again c.stage) c)
        stands_now = record {
          its = old.its;
          under_way = under_again c.stage old.under_way;
          is = old.is;
          of_entries = old.of_entries;
          facts = record { facts = there; done = done_again c.stage old.under_way g.base c.place c.lines c.flight puts distinct old.facts.done };
        }
