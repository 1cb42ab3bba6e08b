-- Behind a barrier the commit of a session that died is judged.
use Rattle.std.proofs.Common.{◌≡◌, ◌≢◌, ◌<◌, ◌==◌, ◌+◌, ℕ, Bool, false, IsTrue, [], length, Some, inl, refl, sym, ap, subst, ◌∙◌, arith}
use Rattle.std.specs.Prelude.{slice_get, if◌then◌else◌}
use Rattle.std.proofs.lemmas.Bool.{eqb-false}
use Rattle.rdb_outside.specs.Disk.{View, OnlyReads, IsStable}
use Rattle.journal_scan.specs.Standing.{what_stands}
use Rattle.new_database.specs.Maker.{aij_file}
use Rattle.line_store.specs.Shelves.{Shelf}
use Rattle.line_store.specs.Calls.{Moves, GoesOn}
use Rattle.line_store.specs.Sights.{bare}
use Rattle.stable_lines.specs.Journal.{commit_of}
use Rattle.stable_lines.specs.Progress.{Flight, Progress, flying}
use Rattle.line_moves.specs.Changes.{IsCommitOf as IsItsCommit}
use Rattle.line_moves.specs.Lines.{ChangedLines}
use Rattle.line_seat.proofs.CommitSteps.{commit_of_it}
use Rattle.member_rooms.specs.member_steps.Turns.{commit_of_plan}
use Rattle.ledger_versions.specs.disk_seats.Ledgers.{undoing, Commit, Ledger, given_up}
use Rattle.ledger_versions.specs.disk_seats.Members.{CommitStands, LedgerFacts}
use Rattle.ledger_versions.proofs.of_disk_seats.GivenUp.{lost_facts}
use Rattle.ledger_versions.proofs.Restanding.{restands, keeps_others, some_commit, no_commit}
use Rattle.member_memory.specs.Memory.{writes_in}
use Rattle.disk_store.specs.declared.member.Member.{Member}
use Rattle.disk_store.specs.declared.member.MemberStage.TheVariants as stage
use Rattle.disk_store.specs.declared.member.Recovery.TheVariants as recovery
use Rattle.disk_store.specs.Memory.{StoreMemory, with_member, at_stage}
use Rattle.disk_store.specs.Seats.{seat_with, stand_of, stand_at, steps_in}
use Rattle.disk_store.specs.Standing.{IsJudged, StageStands}
use Rattle.disk_store.specs.Shown.{DoesOn, Shown}
use Rattle.disk_store.proofs.Moving.{itself}
use Rattle.disk_store.proofs.Kept.{kept-stays}
use Rattle.disk_store.proofs.Beside.{StaysWith, same-classes, stays-with}
use Rattle.disk_store.proofs.Stepping.{ComesTo, does-moves, becomes-member, space-same}
use Rattle.disk_store.proofs.Passing.{Passes, header-read, passes-reads, reads-leave, reads-ceiling, tables-pass, slots-pass}

module _ (v w : View) (held : StoreMemory) (s : ℕ) (m : Member) (commits : Bool) (was : slice_get held.members s ≡ Some m) (at : m.stage ≡ stage.Dead commits recovery.Judging) (only : OnlyReads v w)
    (keeps : IsTrue v.tells → (g : Ledger) → LedgerFacts v g → LedgerFacts w g) (stable : IsTrue v.tells → IsStable w) where
  pub judged-at : (g : Ledger) → StageStands m.stage v g s m → IsJudged g s m
  judged-at g stands = subst (λ x. StageStands x v g s m) at stands

  module _ (h : Shelf) (shown : Shown v held h) (stands : StageStands m.stage v shown.ledger s m) where
    abbrev g : Ledger
    g = shown.ledger

    abbrev j : IsJudged g s m
    j = judged-at g stands

    abbrev c : Commit
    c = commit_of_plan j.commit.plan j.at

    pub facts : LedgerFacts w g
    facts = keeps shown.tells g shown.facts

    pub its : CommitStands w g.base g.standing c
    its = facts.commit c j.commit.under_way

    p : Passes v w
    p = passes-reads v w shown.tells only

    -- where its commit slot is, by memory
    pub as-held : IsItsCommit (flying c.flight g.base) c.flight held.next.slot held.next.number m.tsn (length m.written.lines)
    as-held =
        let it = commit_of_it g.base c.member c.transaction c.place c.lines c.classes c.flight j.commit.long its.is in
        record {
          flies = it.flies;
          in_slot = shown.numbers.group.in_slot;
          numbered = shown.numbers.group.numbered ∙ sym its.is.numbered ∙ it.numbered;
          its = sym j.commit.number ∙ sym its.is.tsn ∙ it.its;
          count = ap (λ (l : ChangedLines). length l) (sym j.commit.lines) ∙ it.count;
        }

    pub slot-is : held.next.slot + length m.written.lines ≡ c.place.slot + length c.lines
    slot-is =
        let first : held.next.slot ≡ c.place.slot = shown.numbers.group.in_slot ∙ sym its.is.in_slot in
        let count : length m.written.lines ≡ length c.lines = ap (λ (l : ChangedLines). length l) (sym j.commit.lines) in
        omega (arith, first, count)

  -- ---- it is lost

  module _ (lost : IsTrue v.tells → (now : Progress) (flight : Flight) → IsItsCommit now flight held.next.slot held.next.number m.tsn (length m.written.lines) → what_stands (w.content aij_file (held.next.slot + length m.written.lines)) ≢ commit_of flight.group) where
    abbrev n : Member
    n = at_stage (stage.Dead commits (recovery.Undoing m.journalled)) m

    module _ (h : Shelf) (shown : Shown v held h) (stands : StageStands m.stage v shown.ledger s m) where
      abbrev after : Ledger
      after = given_up (c h shown stands) (g h shown stands)

      beside-it : (t : ℕ) → (t == s) ≡ false → after.standing t ≡ (g h shown stands).standing t
      beside-it t apart = let is = (j h shown stands).commit in ap (λ b. if b then undoing is.plan.all (length is.plan.all) else (g h shown stands).standing t) (ap (λ k. t == k) is.its ∙ apart)

      own : after.standing s ≡ undoing (j h shown stands).commit.plan.all m.journalled
      own =
          let is = (j h shown stands).commit in
          ap (λ b. if b then undoing is.plan.all (length is.plan.all) else (g h shown stands).standing s) (ap (λ k. s == k) is.its ∙ itself s) ∙ ap (λ k. undoing is.plan.all k) (sym is.count)

      stays : (t : ℕ) → (t == s) ≡ false → StaysWith t (g h shown stands) after
      stays t apart =
          let is = (j h shown stands).commit in
          record {
            standing = inl (beside-it t apart);
            going = refl;
            commit = λ d own-one under. absurd (eqb-false t s apart (sym own-one ∙ ap (λ (x : Commit). x.member) (some_commit d (c h shown stands) (sym under ∙ is.under_way)) ∙ is.its));
          }

      lost-now : LedgerFacts w after
      lost-now =
          let flew = (j h shown stands).flying in
          lost_facts w (g h shown stands) (c h shown stands) (facts h shown stands) (j h shown stands).commit.under_way (stable shown.tells) flew (j h shown stands).commit.long
          (λ same. lost shown.tells _ (c h shown stands).flight (as-held h shown stands) (ap (λ (k : ℕ). what_stands (w.content aij_file k)) (slot-is h shown stands) ∙ same))

      abbrev given-now : ComesTo v w (record (with_member s n held) { numbers = held.numbers }) s n shown.ledger shown.versions.course shown.versions.waiting
      given-now =
          let is = (j h shown stands).commit in
          let old = its h shown stands in
          let it = p h shown stands in
          record {
            ledger = after;
            facts = lost-now;
            limits = refl;
            none = λ t apart rests. beside-it t apart ∙ rests;
            others = λ t x apart got stood. stays-with v w shown.ledger after t (λ file page is. it.areas.content file _) (same-classes v w it.areas) (stays t apart) x (header-read v w shown.tells only t) stood;
            mine = record { transaction = (c h shown stands).transaction; all = is.plan.all; stands = own; is_open = ap (λ k. shown.ledger.base.going k) (sym is.its) ∙ old.is.is_open; number = sym is.number; count = is.count; keys = is.keys };
            numbered = record { number = shown.numbers.number; first = shown.numbers.first; ceiling = reads-ceiling v w shown.tells only held.numbers shown.numbers.ceiling; group = shown.numbers.group };
            kept = kept-stays held.members s held.numbers.next held.numbers.written m n was (omega arith) shown.kept;
            tabled = tables-pass v w it shown.ledger after held.tables refl shown.tables;
            course_behind = shown.versions.course;
            waiting_behind = shown.versions.waiting;
            readers = restands w held.limits.snaps shown.versions.course shown.versions.waiting shown.ledger after.standing after.commit shown.ledger.history shown.ledger.moments
                (keeps_others (c h shown stands).member (undoing is.plan.all (length is.plan.all)) shown.ledger.standing (λ bad. bad)) (λ d bad. absurd (no_commit d bad)) (λ d bad flown. absurd (no_commit d bad))
                (it.readers shown.ledger held.limits.snaps shown.versions.course shown.versions.waiting shown.versions.readers);
            slots = slots-pass v w it shown.versions.course.followed held.limits.snaps held.slots shown.versions.slots;
            waits = tt;
            waits_beside = λ t apart. refl;
            reads = λ t. refl;
            used = shown.versions.used;
            unused = shown.versions.unused;
          }

    fewer : (a b : ℕ) → a ≡ m.journalled + 4 → b ≡ m.journalled + 3 → b < a
    fewer a b four three = omega (arith, four, three)

    -- it goes on, and is undone
    pub does-lose : DoesOn s (stand_at held.members s) (λ h g. GoesOn s h g) v held w (with_member s n held)
    does-lose = subst (λ x. DoesOn s (stand_of x) (λ h g. GoesOn s h g) v held w (with_member s n held)) (sym was)
        (does-moves v w held (record (with_member s n held) { numbers = held.numbers }) s m n was (becomes-member held held.numbers s n) (λ e. cc) only.told (reads-leave v w only) given-now
        only.later only.no_fewer (stand_of (Some m)) (λ h g. GoesOn s h g) (ap (λ x. bare (seat_with x [] [])) (sym at))
        (λ h shown d bad. absurd (no_commit d bad)) (λ h shown stands. refl) (λ h shown stands. refl) space-same
        (λ h g start related moves. record {
          moves = subst (λ x. Moves s x h g) (ap (λ x. seat_with x (writes_in m.written.lines) start) (sym at) ∙ sym related.seat) moves;
          less = fewer (h.steps s) (g.steps s) (related.steps ∙ ap (λ x. steps_in x m) at) related.steps_behind;
        }))
