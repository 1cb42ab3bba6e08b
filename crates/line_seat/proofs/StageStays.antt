-- What a commit rests on, while others go on.
use Rattle.std.proofs.Common.{◌≡◌, ◌≢◌, ℕ, ◌≤◌, IsTrue, List, Some, ◌⊎◌, inl, inr, ⊎_elim, ap, sym, subst, ◌∙◌, arith}
use Rattle.rdb_types.specs.declared.file.FileId.{FileId}
use Rattle.rdb_types.specs.declared.file.FileKind.TheVariants.{Area, Ruj, Aij}
use Rattle.rdb_types.specs.declared.keys.Dbkey.{Dbkey}
use Rattle.rdb_types.specs.declared.keys.Line.{Line}
use Rattle.rdb_types.specs.declared.keys.Tsn.{Tsn}
use Rattle.rdb_outside.specs.Disk.{View, Pending, Keeps, OnlyReads}
use Rattle.journal_scan.specs.Standing.{what_stands}
use Rattle.line_moves.specs.new_database.Maker.{aij_file}
use Rattle.line_versions.specs.Lines.{storage_area}
use Rattle.line_moves.specs.stable_lines.Slots.{ruj_file, area_file, slot_of, named, line_on}
use Rattle.line_moves.specs.stable_lines.Progress.{Open, Flight, Progress}
use Rattle.line_moves.specs.stable_lines.Facts.{HasEnded, IsNotOpen, IsCommitted, IsChanged, Facts}
use Rattle.line_moves.specs.Calls.{OnlyWrites}
use Rattle.line_moves.specs.Lines.{ChangedLines, MayPutAll}
use Rattle.line_moves.proofs.Putting.{nat_cases}
use Rattle.line_seat.specs.declared.commit.GroupPlace.{GroupPlace}
use Rattle.line_seat.specs.declared.commit.CommitStage.{CommitStage}
use Rattle.line_seat.specs.declared.commit.CommitStage.TheVariants.{Changing, Imaging, Gathering, Sealing, Landing, Committed}
use Rattle.line_seat.specs.Groups.{AreOfTransaction}
use Rattle.line_seat.specs.Stages.{IsDone, CommitFacts, progress_at}
use Rattle.line_seat.proofs.SeatStays.{same_member}

-- what may have been written beside the member's journal, the pages and the after-image journal
pub record IsBesideIt (v w : View) (now : Progress) (member : ℕ) : Type 0 where
  pub own : (i : ℕ) (x : List ℕ) → Pending w (ruj_file member) i x → Pending v (ruj_file member) i x
  pub areas : (f i : ℕ) (x : List ℕ) → Pending w (area_file f) i x → Pending v (area_file f) i x
  pub pages : (f i : ℕ) → w.content (area_file f) i ≡ v.content (area_file f) i
  pub aij : (i : ℕ) → w.content aij_file i ≡ v.content aij_file i
  pub ended : (tsn : ℕ) → IsNotOpen now tsn → HasEnded (Pending v) now tsn → HasEnded (Pending w) now tsn

module _ (v w : View) (now : Progress) (member : ℕ) (o : Open) (is_open : now.going member ≡ Some o) (beside : IsBesideIt v w now member) where
  committed : (key : Dbkey) (line : Line) → IsCommitted (Pending v) now key line → IsCommitted (Pending w) now key line
  committed key line c = record { shows = c.shows; ended = beside.ended line.tsn.number c.not_open c.ended; not_open = c.not_open }

  -- a line that bears the transaction was changed by the member
  changed : Facts (Pending v) now → (key : Dbkey) (line : Line) → line.tsn ≡ o.tsn → IsChanged (Pending v) now key line → IsChanged (Pending w) now key line
  changed facts key line bears c = record {
    member = c.member;
    transaction = c.transaction;
    is_open = c.is_open;
    tsn = c.tsn;
    index = c.index;
    before = c.before;
    entry = c.entry;
    committed = committed key c.before c.committed;
    below = c.below;
    one = λ i k x y a b li lk p q. c.one i k x y a b li lk (its i x p) (its k y q);
  }
    where
      by_it : c.member ≡ member
      by_it = (facts.going member o is_open).alone c.member c.transaction c.is_open (ap (λ (t : Tsn). t.number) (sym c.tsn ∙ bears))

      its : (i : ℕ) (x : List ℕ) → Pending w (ruj_file c.member) i x → Pending v (ruj_file c.member) i x
      its i x p = subst (λ (m : ℕ). Pending v (ruj_file m) i x) (sym by_it) (beside.own i x (subst (λ (m : ℕ). Pending w (ruj_file m) i x) by_it p))

  may_still : Facts (Pending v) now → (lines : ChangedLines) → AreOfTransaction o lines → MayPutAll (Pending v) now lines → MayPutAll (Pending w) now lines
  may_still facts lines bear may i line got = let m = may i line got in record {
    sure = ⊎_elim (λ c. inl (committed line.0 line.1 c)) (λ c. inr (changed facts line.0 line.1 (bear i line got) c)) m.sure;
    below = m.below;
    free = m.free;
    within = m.within;
  }

  done_still : (stage : CommitStage) (group : GroupPlace) (lines : ChangedLines) (f : Flight) → AreOfTransaction o lines → Facts (Pending v) (progress_at stage now f) → IsDone stage v now group lines f → IsDone stage w now group lines f
  done_still (Changing at) group lines f bear facts done = (
    may_still facts lines bear done.0,
    λ i line place got names z q. done.1 i line place got names z (beside.areas place.file _ z q),
    λ i line less got. ap (λ (b : List ℕ). line_on line.0 b) (beside.pages (storage_area line.0.area) (slot_of line.0)) ∙ done.2 i line less got,
  )
  done_still (Imaging at) group lines f bear facts done = (
    λ i line less got. ap (λ (b : List ℕ). line_on line.0 b) (beside.pages (storage_area line.0.area) (slot_of line.0)) ∙ done.0 i line less got,
    λ i what less got. ap what_stands (beside.aij _) ∙ done.1 i what less got,
  )
  done_still Gathering group lines f bear facts done = (
    λ i line less got. ap (λ (b : List ℕ). line_on line.0 b) (beside.pages (storage_area line.0.area) (slot_of line.0)) ∙ done.0 i line less got,
    λ i what less got. ap what_stands (beside.aij _) ∙ done.1 i what less got,
  )
  done_still Sealing group lines f bear facts done = done
  done_still Landing group lines f bear facts done = ap what_stands (beside.aij _) ∙ done
  done_still Committed group lines f bear facts done = done

  pub stage_stays : (stage : CommitStage) (group : GroupPlace) (lines : ChangedLines) (f : Flight) → AreOfTransaction o lines → Facts (Pending w) (progress_at stage now f) → CommitFacts stage v now group lines f → CommitFacts stage w now group lines f
  stage_stays stage group lines f bear facts stands = record { facts = facts; done = done_still stage group lines f bear stands.facts stands.done }

-- ---- what others do is beside it

pub beside_reads : (v w : View) (now : Progress) (member : ℕ) → IsTrue v.tells → OnlyReads v w → IsBesideIt v w now member
beside_reads v w now member t reads = record {
  own = λ i x q. keeps.pending (ruj_file member) i x q;
  areas = λ f i x q. keeps.pending (area_file f) i x q;
  pages = λ f i. keeps.content (area_file f) i;
  aij = λ i. keeps.content aij_file i;
  ended = λ tsn off was m h is le q n. was m h is le (keeps.pending (ruj_file m) 0 h q) n;
}
  where
    keeps : Keeps v w
    keeps = reads.keeps t

area_not_ruj : (f m : ℕ) → area_file f ≡ ruj_file m → ⊥
area_not_ruj f m same = let k : Area ≡ Ruj = ap (λ (g : FileId). g.kind) same in cc

aij_not_ruj : (m : ℕ) → aij_file ≡ ruj_file m → ⊥
aij_not_ruj m same = let k : Aij ≡ Ruj = ap (λ (g : FileId). g.kind) same in cc

module _ (v w : View) (now : Progress) (member other slot : ℕ) (t : IsTrue v.tells) (apart : other ≢ member) (rest : OnlyWrites (ruj_file other) slot v w) where
  with_ended : ((tsn : ℕ) → IsNotOpen now tsn → HasEnded (Pending v) now tsn → HasEnded (Pending w) now tsn) → IsBesideIt v w now member
  with_ended ended = record {
    own = λ i x q. rest.pending t (ruj_file member) i x (λ same at. apart (sym (same_member member other same))) q;
    areas = λ f i x q. rest.pending t (area_file f) i x (λ same at. area_not_ruj f other same) q;
    pages = λ f i. rest.content t (area_file f) i (λ same at. area_not_ruj f other same);
    aij = λ i. rest.content t aij_file i (λ same at. aij_not_ruj other same);
    ended = ended;
  }

  pub beside_entry : 1 ≤ slot → IsBesideIt v w now member
  beside_entry le = with_ended (λ tsn off was m h is one q n. was m h is one (rest.pending t (ruj_file m) 0 h (λ e at. let z : 0 ≡ slot = at in omega (arith, z, le)) q) n)

  pub beside_header : slot ≡ 0 → (number : ℕ) → ((h : List ℕ) → Pending w (ruj_file other) 0 h → Pending v (ruj_file other) 0 h ⊎ (named h ≡ number)) → ((tsn : ℕ) → IsNotOpen now tsn → 1 ≤ tsn → tsn ≢ number) → IsBesideIt v w now member
  beside_header at number headers off = with_ended (λ tsn closed was m h is le q n. ⊎_elim (λ p. was m h is le p n) (λ bad. absurd (off tsn closed le (sym n ∙ bad))) (either m h q))
    where
      either : (m : ℕ) (h : List ℕ) → Pending w (ruj_file m) 0 h → Pending v (ruj_file m) 0 h ⊎ (named h ≡ number)
      either m h q = ⊎_elim (λ (here : m ≡ other). subst (λ (k : ℕ). Pending v (ruj_file k) 0 h ⊎ (named h ≡ number)) (sym here) (headers h (subst (λ (k : ℕ). Pending w (ruj_file k) 0 h) here q)))
          (λ away. inl (rest.pending t (ruj_file m) 0 h (λ e z. away (same_member m other e)) q)) (nat_cases m other)
