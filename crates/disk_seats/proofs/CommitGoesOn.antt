-- A commit goes on beside the steps of other members that no device call shows.
use Rattle.std.proofs.Common.{◌≡◌, ◌≢◌, ℕ, ◌≤◌, ◌<◌, Option, Some, None, inl, inr, ⊎_elim, ap, sym, ◌∙◌, refl, arith}
use Rattle.rdb_outside.specs.Disk.{View, Pending}
use Rattle.rdb_types.specs.declared.keys.Dbkey.{Dbkey}
use Rattle.rdb_types.specs.declared.keys.Line.{Line}
use Rattle.rdb_types.specs.declared.keys.Tsn.{Tsn}
use Rattle.line_opening.specs.stable_lines.Progress.{Open, Flight, Progress, begun, without}
use Rattle.line_opening.specs.stable_lines.Facts.{IsNotOpen, IsCommitted, IsChanged, Facts}
use Rattle.line_opening.specs.line_moves.Lines.{ChangedLines, MayPutAll}
use Rattle.line_seat.specs.declared.commit.GroupPlace.{GroupPlace}
use Rattle.line_seat.specs.declared.commit.CommitStage.{CommitStage}
use Rattle.line_seat.specs.declared.commit.CommitStage.TheVariants.{Changing, Imaging, Gathering, Sealing, Landing, Committed}
use Rattle.line_seat.specs.Groups.{AreOfTransaction}
use Rattle.line_seat.specs.Stages.{IsDone, progress_at}
use Rattle.disk_seats.specs.Ledgers.{Standing, Commit, progress_with}
use Rattle.disk_seats.specs.Members.{CommitStands}

-- others are open than before, and more numbers drawn
abbrev pub with_going : (ℕ → Option Open) → ℕ → Progress → Progress
with_going going next base = record base { going = going; next_tsn = next }

module _ (v : View) (base : Progress) (going : ℕ → Option Open) (next : ℕ) (member : ℕ) (o : Open) (is_open : base.going member ≡ Some o) (same : going member ≡ base.going member) (le : base.next_tsn ≤ next)
    (not_open : (tsn : ℕ) → tsn < base.next_tsn → IsNotOpen base tsn → IsNotOpen (with_going going next base) tsn) where
  committed : (key : Dbkey) (line : Line) → line.tsn.number < base.next_tsn → IsCommitted (Pending v) base key line → IsCommitted (Pending v) (with_going going next base) key line
  committed key line low c = record { shows = c.shows; ended = c.ended; not_open = not_open line.tsn.number low c.not_open }

  -- a line that bears the transaction was changed by the member
  changed : Facts (Pending v) base → (key : Dbkey) (line : Line) → line.tsn ≡ o.tsn → IsChanged (Pending v) base key line → IsChanged (Pending v) (with_going going next base) key line
  changed facts key line bears c = record {
    member = c.member;
    transaction = c.transaction;
    is_open = ap going by_it ∙ (same ∙ (ap (λ (m : ℕ). base.going m) (sym by_it) ∙ c.is_open));
    tsn = c.tsn;
    index = c.index;
    before = c.before;
    entry = c.entry;
    committed = committed key c.before c.below c.committed;
    below = let low : c.before.tsn.number < base.next_tsn = c.below in omega (arith, low, le);
    one = c.one;
  }
    where
      by_it : c.member ≡ member
      by_it = (facts.going member o is_open).alone c.member c.transaction c.is_open (ap (λ (t : Tsn). t.number) (sym c.tsn ∙ bears))

  may_still : Facts (Pending v) base → (lines : ChangedLines) → AreOfTransaction o lines → MayPutAll (Pending v) base lines → MayPutAll (Pending v) (with_going going next base) lines
  may_still facts lines bear may i line got = let m = may i line got in record {
    sure = ⊎_elim (λ c. inl (committed line.0 line.1 m.below c)) (λ c. inr (changed facts line.0 line.1 (bear i line got) c)) m.sure;
    below = let low : line.1.tsn.number < base.next_tsn = m.below in omega (arith, low, le);
    free = m.free;
    within = m.within;
  }

  done_still : (stage : CommitStage) (place : GroupPlace) (lines : ChangedLines) (f : Flight) → AreOfTransaction o lines → Facts (Pending v) (progress_at stage base f) → IsDone stage v base place lines f → IsDone stage v (with_going going next base) place lines f
  done_still (Changing at) place lines f bear facts done = (may_still facts lines bear done.0, done.1, done.2)
  done_still (Imaging at) place lines f bear facts done = done
  done_still Gathering place lines f bear facts done = done
  done_still Sealing place lines f bear facts done = done
  done_still Landing place lines f bear facts done = done
  done_still Committed place lines f bear facts done = done

-- what a commit rests on it rests on then
pub commit_goes_on : (v : View) (base : Progress) (going : ℕ → Option Open) (next : ℕ) (was now : ℕ → Standing) (c : Commit) → now c.member ≡ was c.member → going c.member ≡ base.going c.member → base.next_tsn ≤ next
    → ((tsn : ℕ) → tsn < base.next_tsn → IsNotOpen base tsn → IsNotOpen (with_going going next base) tsn)
    → Facts (Pending v) (progress_at c.stage (with_going going next base) c.flight) → CommitStands v base was c → CommitStands v (with_going going next base) now c
commit_goes_on v base going next was now c stands_same same le not_open facts stands = record {
  its = stands_same ∙ stands.its;
  under_way = stands.under_way;
  is = record {
    its = stands.is.its;
    is_open = same ∙ stands.is.is_open;
    tsn = stands.is.tsn;
    group = stands.is.group;
    numbered = stands.is.numbered;
    in_slot = stands.is.in_slot;
    in_order = stands.is.in_order;
    bears = stands.is.bears;
    changed = stands.is.changed;
    no_flight = stands.is.no_flight;
    no_former = stands.is.no_former;
  };
  of_entries = stands.of_entries;
  facts = record {
    facts = facts;
    done = done_still v base going next c.member c.transaction stands.is.is_open same le not_open c.stage c.place c.lines c.flight stands.is.bears stands.facts.facts stands.facts.done;
  };
}

-- ---- with the group that flies

pub begun_at : (stage : CommitStage) (base : Progress) (f : Flight) (m : ℕ) → stage ≢ Committed → progress_at stage (begun m base) f ≡ begun m (progress_at stage base f)
begun_at (Changing at) base f m under = refl
begun_at (Imaging at) base f m under = refl
begun_at Gathering base f m under = refl
begun_at Sealing base f m under = refl
begun_at Landing base f m under = refl
begun_at Committed base f m under = absurd (under refl)

pub begun_with : (commit : Option Commit) (base : Progress) (m : ℕ) → ((c : Commit) → commit ≡ Some c → c.stage ≢ Committed) → progress_with commit (begun m base) ≡ begun m (progress_with commit base)
begun_with None base m under = refl
begun_with (Some c) base m under = begun_at c.stage base c.flight m (under c refl)

pub without_at : (stage : CommitStage) (base : Progress) (f : Flight) (m : ℕ) → stage ≢ Committed → progress_at stage (without m base) f ≡ without m (progress_at stage base f)
without_at (Changing at) base f m under = refl
without_at (Imaging at) base f m under = refl
without_at Gathering base f m under = refl
without_at Sealing base f m under = refl
without_at Landing base f m under = refl
without_at Committed base f m under = absurd (under refl)

pub without_with : (commit : Option Commit) (base : Progress) (m : ℕ) → ((c : Commit) → commit ≡ Some c → c.stage ≢ Committed) → progress_with commit (without m base) ≡ without m (progress_with commit base)
without_with None base m under = refl
without_with (Some c) base m under = without_at c.stage base c.flight m (under c refl)
