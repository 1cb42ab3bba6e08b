-- The commit of a session that died stands: its lines are committed.
use Rattle.std.proofs.Common.{◌≡◌, ◌+◌, ◌==◌, inl, ℕ, Bool, true, cond, IsTrue, false, List, [], length, map, Some, None, refl, sym, ap, subst, ◌∙◌, arith}
use Rattle.std.specs.Prelude.{slice_get}
use Rattle.std.proofs.lemmas.Bool.{eqb-false}
use Rattle.std.proofs.lemmas.Option.{none-some}
use Rattle.rdb_outside.specs.Disk.{View, OnlyReads, IsStable, LeftNow}
use Rattle.journal_scan.specs.Standing.{what_stands}
use Rattle.new_database.specs.Maker.{aij_file}
use Rattle.line_view.specs.declared.writes.Write.{Write}
use Rattle.line_view.specs.Knowledge.{Lines}
use Rattle.line_view.specs.Writes.{laid_all}
use Rattle.line_store.specs.Seats.{outside}
use Rattle.line_store.specs.Shelves.{Shelf}
use Rattle.line_store.specs.Calls.{IsSaved, TakesGroup}
use Rattle.stable_lines.specs.Slots.{line_at}
use Rattle.stable_lines.specs.Journal.{commit_of, next_slot, write_of}
use Rattle.stable_lines.specs.Progress.{Flight, Progress, lines_with}
use Rattle.line_moves.specs.Changes.{IsCommitOf as IsItsCommit}
use Rattle.line_moves.specs.Lines.{ChangedLines}
use Rattle.disk_seats.specs.Ledgers.{resting, Commit, Ledger, landed_at}
use Rattle.disk_seats.specs.Members.{LedgerFacts}
use Rattle.disk_seats.proofs.GivenUp.{stands_facts}
use Rattle.disk_versions.specs.Courses.{course_landed}
use Rattle.member_steps.specs.Turns.{commit_of_plan}
use Rattle.ledger_versions.specs.Readers.{set_waiting}
use Rattle.ledger_versions.proofs.MembersEnd.{member_lands}
use Rattle.ledger_versions.proofs.Restanding.{some_commit}
use Rattle.member_memory.specs.Memory.{writes_in}
use Rattle.store_endings.specs.disk_store.declared.member.Member.{Member}
use Rattle.store_endings.specs.disk_store.declared.member.MemberStage.TheVariants as stage
use Rattle.store_endings.specs.disk_store.declared.member.Recovery.TheVariants as recovery
use Rattle.store_endings.specs.disk_store.declared.held.Tables.{Tables}
use Rattle.store_endings.specs.disk_store.Dying.{forgotten}
use Rattle.store_endings.specs.disk_store.Landing.{PutsAll, landed_with}
use Rattle.store_endings.specs.disk_store.Memory.{StoreMemory}
use Rattle.store_endings.specs.disk_store.Seats.{seat_with}
use Rattle.store_endings.specs.disk_store.Standing.{IsJudged, StageStands}
use Rattle.store_endings.specs.disk_store.Shown.{DoesOn, Shown}
use Rattle.store_endings.specs.disk_store.Sound.{IsSound}
use Rattle.store_endings.proofs.of_disk_store.Moving.{itself}
use Rattle.store_endings.proofs.of_disk_store.Kept.{kept-stays}
use Rattle.store_endings.proofs.of_disk_store.Ordered.{group-long, same-writes}
use Rattle.store_endings.proofs.of_disk_store.Beside.{StaysWith, same-classes, stays-with}
use Rattle.store_endings.proofs.of_disk_store.Stepping.{ComesTo, does-any}
use Rattle.store_endings.proofs.of_disk_store.Passing.{Passes, header-read, passes-reads, reads-leave, reads-ceiling, tables-pass, slots-pass}
use Rattle.store_endings.proofs.of_disk_store.LinesPut.{all-used}
use Rattle.store_endings.proofs.of_disk_store.Unused.{unused-behind}
use Rattle.store_endings.proofs.of_disk_store.Landed.{slot-behind, number-behind, rolls-landed, tables-landed, becomes-landed, takes-landed}
use Rattle.store_endings.proofs.of_disk_store.Judged.{judged-at, its, as-held, slot-is}

module _ (v w : View) (held : StoreMemory) (s : ℕ) (m : Member) (was : slice_get held.members s ≡ Some m) (at : m.stage ≡ stage.Dead true recovery.Judging) (only : OnlyReads v w)
    (keeps : IsTrue v.tells → (g : Ledger) → LedgerFacts v g → LedgerFacts w g) (stable : IsTrue v.tells → IsStable w) (left : IsTrue w.tells → LeftNow w w.content) (sound : IsSound held) (kept : Tables) (puts : PutsAll held.tables m.written.lines kept)
    (found : IsTrue v.tells → (now : Progress) (flight : Flight) → IsItsCommit now flight held.next.slot held.next.number m.tsn (length m.written.lines) → what_stands (w.content aij_file (held.next.slot + length m.written.lines)) ≡ commit_of flight.group) where
  abbrev n : Member
  n = forgotten stage.Outside m

  abbrev behind : StoreMemory
  behind = landed_with stage.Outside kept s m held

  abbrev ws : List Write
  ws = writes_in m.written.lines

  module _ (h : Shelf) (shown : Shown v held h) (stands : StageStands m.stage v shown.ledger s m) where
    abbrev g : Ledger
    g = shown.ledger

    abbrev j : IsJudged g s m
    j = judged-at v w held s m true was at only keeps stable g stands

    abbrev c : Commit
    c = commit_of_plan j.commit.plan j.at

    abbrev k : Ledger
    k = landed_at w.moment c g

    told : IsTrue w.tells
    told = subst IsTrue (sym only.told) shown.tells

    p : Passes v w
    p = passes-reads v w shown.tells only

    facts-now : LedgerFacts w g
    facts-now = keeps shown.tells g shown.facts

    facts : LedgerFacts w k
    facts = stands_facts w g c facts-now j.commit.under_way (stable shown.tells) j.flying j.commit.long told
        (ap (λ (i : ℕ). what_stands (w.content aij_file i)) (sym (slot-is v w held s m true was at only keeps stable h shown stands))
        ∙ found shown.tells _ c.flight (as-held v w held s m true was at only keeps stable h shown stands))

    -- its group is that of its lines
    group-lines : length c.flight.group.lines ≡ length m.written.keys
    group-lines =
        ap (λ group. length group.lines) (its v w held s m true was at only keeps stable h shown stands).is.group
        ∙ (group-long c.lines c.classes j.commit.long ∙ (ap (λ (l : ChangedLines). length l) j.commit.lines ∙ sym (sound.each s m was).keys.long))

    lines-behind : lines_with g.base c.flight ≡ laid_all ws g.base.lines
    lines-behind =
        ap (λ group. laid_all (map write_of group.lines) g.base.lines) (its v w held s m true was at only keeps stable h shown stands).is.group
        ∙ (ap (λ (x : List Write). laid_all x g.base.lines) (same-writes c.lines c.classes j.commit.long) ∙ ap (λ (l : ChangedLines). laid_all (writes_in l) g.base.lines) j.commit.lines)

    stays : (t : ℕ) → (t == s) ≡ false → StaysWith t g k
    stays t apart = record {
      standing = inl (ap (λ (x : ℕ). cond (t == x) resting (g.standing t)) j.commit.its ∙ ap (λ (b : Bool). cond b resting (g.standing t)) apart);
      going = ap (λ (x : ℕ). cond (t == x) None (g.base.going t)) ((its v w held s m true was at only keeps stable h shown stands).is.its ∙ j.commit.its) ∙ ap (λ (b : Bool). cond b None (g.base.going t)) apart;
      commit = λ d own under. absurd (eqb-false t s apart (sym own ∙ ap (λ (x : Commit). x.member) (some_commit d c (sym under ∙ j.commit.under_way)) ∙ j.commit.its));
    }

    standing-beside : (t : ℕ) → (t == s) ≡ false → k.standing t ≡ g.standing t
    standing-beside t apart = ap (λ (x : ℕ). cond (t == x) resting (g.standing t)) j.commit.its ∙ ap (λ (b : Bool). cond b resting (g.standing t)) apart

    abbrev saved-now : ComesTo v w behind s n g shown.versions.course shown.versions.waiting
    saved-now = record {
      ledger = k;
      facts = facts;
      limits = refl;
      none = λ t apart rests. standing-beside t apart ∙ rests;
      others = λ t x apart got stood. stays-with v w g k t (λ file page is. p.areas.content file _) (same-classes v w p.areas) (stays t apart) x (header-read v w shown.tells only t) stood;
      mine = ap (λ (x : ℕ). cond (s == x) resting (g.standing s)) j.commit.its ∙ ap (λ (b : Bool). cond b resting (g.standing s)) (itself s);
      numbered = record {
        number = shown.numbers.number;
        first = shown.numbers.first;
        ceiling = reads-ceiling v w shown.tells only held.numbers shown.numbers.ceiling;
        group = record {
          in_slot = ap (λ (x : ℕ). x + (length m.written.keys + 1)) shown.numbers.group.in_slot ∙ (ap (λ (x : ℕ). next_slot g.base.journal + (x + 1)) (sym group-lines) ∙ sym (slot-behind g.base.journal c.flight.group));
          numbered = ap (λ (x : ℕ). x + 1) shown.numbers.group.numbered ∙ sym (number-behind g.base.journal c.flight.group);
        };
      };
      kept = kept-stays held.members s held.numbers.next held.numbers.written m n was (omega arith) shown.kept;
      tabled = tables-landed w g k held.tables kept m.written.lines puts lines-behind (tables-pass v w p g g held.tables refl shown.tables);
      course_behind = course_landed c.transaction.tsn.number (line_at w.content) (lines_with g.base c.flight) shown.versions.course;
      waiting_behind = set_waiting c.member [] shown.versions.waiting;
      readers = member_lands w g held.limits.snaps shown.versions.course shown.versions.waiting c w.moment (left told) facts-now facts j.commit.under_way j.flying (p.readers g held.limits.snaps shown.versions.course shown.versions.waiting shown.versions.readers);
      slots = slots-pass v w p shown.versions.course.followed held.limits.snaps held.slots shown.versions.slots;
      used = λ t file reading start is goes lines. all-used held.tables m.written.lines kept puts file start (shown.versions.used t file reading start is goes lines);
      unused = unused-behind w g (left told) facts-now held sound s m was c j.commit.under_way (λ i undo got. j.commit.keys i undo got) shown.versions.course (lines_with g.base c.flight) kept puts shown.versions.unused;
      waits = tt;
      waits_beside = λ t apart. ap (λ (x : ℕ). cond (t == x) [] (shown.versions.waiting t)) j.commit.its ∙ ap (λ (b : Bool). cond b [] (shown.versions.waiting t)) apart;
      reads = λ t. refl;
    }

  -- it is committed since this moment
  pub does-save : (moment : ℕ) → moment ≡ w.moment → DoesOn s outside (λ h g. IsSaved s moment h g) v held w behind
  does-save moment now =
      does-any v w held behind s m n was (becomes-landed held s m stage.Outside kept puts) (λ e. cc) only.told (reads-leave v w only) saved-now
      only.later only.no_fewer outside (λ h g. IsSaved s moment h g) refl
      (λ h shown d is. absurd (none-some d is))
      (λ h shown stands. rolls-landed v shown.ledger (c h shown stands) shown.facts (j h shown stands).commit.under_way (j h shown stands).flying)
      (λ h g start related. record {
        writes = ws;
        was = related.seat ∙ ap (λ st. seat_with st ws start) at;
        commits = record {
          now = related.now_behind ∙ (lines-behind h related.shown related.stands ∙ ap (λ (ls : Lines). laid_all ws ls) (sym related.shown.lines.now));
          mine = related.seat_behind;
          others = related.others;
          space = subst (λ space. TakesGroup ws h.space space) (sym related.space_behind) (takes-landed held s m stage.Outside kept puts v h related.shown was sound);
          at = now ∙ sym related.time_behind;
        };
      })
