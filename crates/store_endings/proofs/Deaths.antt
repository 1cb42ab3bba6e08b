-- A session dies.
use Rattle.std.proofs.Common.{◌≡◌, ◌==◌, ℕ, Bool, true, false, IsTrue, List, [], length, Some, inl, refl, sym, ap, subst, ◌∙◌, arith}
use Rattle.std.specs.Prelude.{slice_get, if◌then◌else◌}
use Rattle.std.proofs.lemmas.Bool.{eqb-false}
use Rattle.rdb_outside.specs.Disk.{View, LeftNow}
use Rattle.line_view.specs.declared.writes.Write.{Write}
use Rattle.line_view.specs.Knowledge.{Lines}
use Rattle.line_store.specs.Seats.{dead, died, in_flight, IsAlive}
use Rattle.line_store.specs.Shelves.{Shelf}
use Rattle.line_store.specs.Calls.{Moves}
use Rattle.line_store.specs.Sights.{bare, Dies}
use Rattle.line_seat.specs.declared.commit.CommitStage.{CommitStage}
use Rattle.member_steps.specs.declared.committing.CommitTurn.{CommitTurn}
use Rattle.member_steps.specs.declared.committing.CommitTurn.TheVariants.{Entering, Securing, Going}
use Rattle.member_steps.specs.Turns.{commit_of_plan}
use Rattle.disk_seats.specs.Ledgers.{resting, undoing, Commit, Ledger, flies, given_up}
use Rattle.disk_seats.specs.Members.{MayEnd, CommitStands}
use Rattle.disk_seats.proofs.Standings.{not_resting}
use Rattle.disk_seats.proofs.GivenUp.{given_facts}
use Rattle.disk_store.proofs.of_ledger_versions.Restanding.{restands, keeps_others, some_commit, no_commit}
use Rattle.member_memory.specs.Memory.{Memory, writes_in}
use Rattle.disk_store.specs.declared.member.Member.{Member}
use Rattle.disk_store.specs.declared.member.MemberStage.{MemberStage}
use Rattle.disk_store.specs.declared.member.MemberStage.TheVariants as stage
use Rattle.disk_store.specs.declared.member.Recovery.TheVariants as recovery
use Rattle.disk_store.specs.Dying.{going_to, recovery_at, dead_at, has_none, forgotten}
use Rattle.disk_store.specs.Memory.{StoreMemory, with_member, at_stage}
use Rattle.disk_store.specs.Seats.{seat_with, stand_of, stand_at}
use Rattle.disk_store.specs.Standing.{IsCommitOf, IsGoing, StageStands}
use Rattle.disk_store.specs.Shown.{DoesOn, Shown}
use Rattle.disk_store.proofs.Moving.{itself}
use Rattle.disk_store.proofs.Kept.{kept-stays}
use Rattle.disk_store.proofs.Beside.{StaysWith, stays-with}
use Rattle.disk_store.proofs.Stepping.{ComesTo, does-apart, does-moves, does-flying, becomes-member, space-same}
use Rattle.disk_store.proofs.Passing.{passes-none, none-leaves, tables-pass, same-ledger}
use Rattle.disk_store.proofs.EndingOpen.{does-end}
use Rattle.disk_store.proofs.Stages.{may-end-begun}

module _ (v : View) (held : StoreMemory) (s : ℕ) (m : Member) (was : slice_get held.members s ≡ Some m) where
  abbrev ws : List Write
  ws = writes_in m.written.lines

  -- the session's member is this one behind its death
  abbrev pub DiesAs : Member → Type 0
  DiesAs n = DoesOn s (died (stand_at held.members s)) (Dies s) v held v (with_member s n held)

  stood : (n : Member) → DoesOn s (died (seat_with m.stage [] [])) (Dies s) v held v (with_member s n held) → DiesAs n
  stood n does = subst (λ x. DoesOn s (died (stand_of x)) (Dies s) v held v (with_member s n held)) (sym was) does

  -- its death, from its seat
  dies-from : (h g : Shelf) (start : Lines) (b : Bool) (kept : List Write) → h.seat s ≡ seat_with m.stage ws start → died (seat_with m.stage ws start) ≡ dead b kept → Moves s (dead b kept) h g → Dies s h g
  dies-from h g start b kept seat dies moves = subst (λ x. Moves s x h g) (sym (ap died seat ∙ dies)) moves

  module _ (st : MemberStage) (at : m.stage ≡ st) where
    dies-at : (b : Bool) (kept : List Write) → ((start : Lines) → died (seat_with st ws start) ≡ dead b kept) → (start : Lines) → died (seat_with m.stage ws start) ≡ dead b kept
    dies-at b kept dies start = ap (λ x. died (seat_with x ws start)) at ∙ dies start

    arrives-at : (b : Bool) → bare (dead b []) ≡ bare (died (seat_with st [] [])) → bare (dead b []) ≡ bare (died (seat_with m.stage [] []))
    arrives-at b arrives = arrives ∙ ap (λ x. bare (died (seat_with x [] []))) (sym at)

    -- ---- no transaction is open

    rest-at : (w : Memory) → ((g : Ledger) → StageStands st v g s m → g.standing s ≡ resting) → bare (dead false []) ≡ bare (died (seat_with st [] [])) → ((start : Lines) → died (seat_with st ws start) ≡ dead false (writes_in w.lines)) →
        DiesAs (record m { stage = stage.Dead false recovery.Ending; written = w })
    rest-at w rests arrives dies =
        let n : Member = record m { stage = stage.Dead false recovery.Ending; written = w } in
        let rests-now : (g : Ledger) → StageStands m.stage v g s m → g.standing s ≡ resting = λ g stands. rests g (subst (λ x. StageStands x v g s m) at stands) in
        stood n (does-apart v v held (record (with_member s n held) { numbers = held.numbers }) s m n was (becomes-member held held.numbers s n) (λ e. cc) refl (none-leaves v)
        (λ h shown stands. same-ledger v v (passes-none v) held s n h shown (λ t apart. refl) shown.numbers.ceiling (kept-stays held.members s held.numbers.next held.numbers.written m n was (omega arith) shown.kept) shown.facts (rests-now shown.ledger stands) tt)
        (omega arith) (omega arith) (died (seat_with m.stage [] [])) (Dies s) (arrives-at false arrives)
        (λ h shown stands c is. not_resting v shown.ledger s shown.facts (rests-now shown.ledger stands) c is) (λ h shown stands. record { lines = refl; journal = refl; commit = refl }) space-same
        (λ h g start related moves. dies-from h g start false (writes_in w.lines) related.seat (dies-at false (writes_in w.lines) dies start) moves))

    -- ---- one of which no page was written

    end-at : (left : IsTrue v.tells → LeftNow v v.content) (b : Bool) → ((g : Ledger) → StageStands st v g s m → MayEnd (g.standing s)) → bare (dead b []) ≡ bare (died (seat_with st [] [])) → ((start : Lines) → died (seat_with st ws start) ≡ dead b ws) →
        DiesAs (at_stage (stage.Dead b recovery.Ending) m)
    end-at left b may arrives dies = stood (at_stage (stage.Dead b recovery.Ending) m) (does-end v held s m was (stage.Dead b recovery.Ending) left (λ g rests. rests) (λ waiting. tt) (λ e. cc) refl
        (λ g stands. may g (subst (λ x. StageStands x v g s m) at stands)) (died (seat_with m.stage [] [])) (Dies s) (arrives-at b arrives)
        (λ h g start seat moves. dies-from h g start b ws seat (dies-at b ws dies start) moves))

  -- ---- one whose commit is under way

  module _ (at-turn : CommitStage) (at : m.stage ≡ stage.Committing (Going at-turn)) where
    turned : (g : Ledger) → StageStands m.stage v g s m → IsCommitOf g s m at-turn
    turned g stands = let going : IsGoing v g s m at-turn = subst (λ x. StageStands x v g s m) at stands in going.commit

    -- its group flies: it stays under way
    judged : flies at-turn ≡ true → DiesAs (at_stage (stage.Dead true recovery.Judging) m)
    judged flown =
        let n : Member = at_stage (stage.Dead true recovery.Judging) m in
        stood n (does-flying v v held (record (with_member s n held) { numbers = held.numbers }) s m n was (becomes-member held held.numbers s n) (λ e. cc) refl (none-leaves v)
        (λ h shown stands. same-ledger v v (passes-none v) held s n h shown (λ t apart. refl) shown.numbers.ceiling (kept-stays held.members s held.numbers.next held.numbers.written m n was (omega arith) shown.kept) shown.facts
        (let is = turned shown.ledger stands in record { at = at-turn; commit = record { plan = is.plan; its = is.its; number = is.number; lines = is.lines; long = is.long; count = is.count; keys = is.keys; under_way = is.under_way }; flying = flown }) tt)
        (omega arith) (omega arith) (died (seat_with m.stage [] [])) (Dies s) (arrives-at (stage.Committing (Going at-turn)) at true refl)
        (λ start. sym (ap (λ x. in_flight (seat_with x ws start)) at)) (λ h shown stands. record { lines = refl; journal = refl; commit = refl }) space-same
        (λ h g start related moves. dies-from h g start true ws related.seat (dies-at (stage.Committing (Going at-turn)) at true ws (λ start. refl) start) moves))

    -- it is given up
    module _ (grounded : flies at-turn ≡ false) where
      abbrev n : Member
      n = at_stage (stage.Dead true (recovery.Undoing m.journalled)) m

      module _ (h : Shelf) (shown : Shown v held h) (stands : StageStands m.stage v shown.ledger s m) where
        abbrev g : Ledger
        g = shown.ledger

        is : IsCommitOf g s m at-turn
        is = turned g stands

        abbrev c : Commit
        c = commit_of_plan is.plan at-turn

        abbrev after : Ledger
        after = given_up c g

        old : CommitStands v g.base g.standing c
        old = shown.facts.commit c is.under_way

        beside-it : (t : ℕ) → (t == s) ≡ false → after.standing t ≡ g.standing t
        beside-it t apart = ap (λ b. if b then undoing is.plan.all (length is.plan.all) else g.standing t) (ap (λ k. t == k) is.its ∙ apart)

        own : after.standing s ≡ undoing is.plan.all m.journalled
        own = ap (λ b. if b then undoing is.plan.all (length is.plan.all) else g.standing s) (ap (λ k. s == k) is.its ∙ itself s) ∙ ap (λ k. undoing is.plan.all k) (sym is.count)

        stays : (t : ℕ) → (t == s) ≡ false → StaysWith t g after
        stays t apart = record {
          standing = inl (beside-it t apart);
          going = refl;
          commit = λ d own-one under. absurd (eqb-false t s apart (sym own-one ∙ ap (λ (x : Commit). x.member) (some_commit d c (sym under ∙ is.under_way)) ∙ is.its));
        }

        abbrev given-now : ComesTo v v (record (with_member s n held) { numbers = held.numbers }) s n g shown.versions.course shown.versions.waiting
        given-now = record {
          ledger = after;
          facts = given_facts v g c shown.facts is.under_way grounded;
          limits = refl;
          none = λ t apart rests. beside-it t apart ∙ rests;
          others = λ t x apart got stood. stays-with v v g after t (λ file page is. refl) (λ classes was. was) (stays t apart) x refl stood;
          mine = record { transaction = c.transaction; all = is.plan.all; stands = own; is_open = ap (λ k. g.base.going k) (sym is.its) ∙ old.is.is_open; number = sym is.number; count = is.count; keys = is.keys };
          numbered = record { number = shown.numbers.number; first = shown.numbers.first; ceiling = shown.numbers.ceiling; group = shown.numbers.group };
          kept = kept-stays held.members s held.numbers.next held.numbers.written m n was (omega arith) shown.kept;
          tabled = tables-pass v v (passes-none v) g after held.tables refl shown.tables;
          course_behind = shown.versions.course;
          waiting_behind = shown.versions.waiting;
          readers = restands v held.limits.snaps shown.versions.course shown.versions.waiting g after.standing after.commit g.history g.moments
              (keeps_others c.member (undoing is.plan.all (length is.plan.all)) g.standing (λ bad. bad)) (λ d bad. absurd (no_commit d bad)) (λ d bad flown. absurd (no_commit d bad)) shown.versions.readers;
          slots = shown.versions.slots;
          used = shown.versions.used;
          unused = shown.versions.unused;
          waits = tt;
          waits_beside = λ t apart. refl;
          reads = λ t. refl;
        }

      given : DiesAs n
      given = stood n (does-moves v v held (record (with_member s n held) { numbers = held.numbers }) s m n was (becomes-member held held.numbers s n) (λ e. cc) refl (none-leaves v) given-now
          (omega arith) (omega arith) (died (seat_with m.stage [] [])) (Dies s) (arrives-at (stage.Committing (Going at-turn)) at true refl)
          (λ h shown d bad. absurd (no_commit d bad)) (λ h shown stands. refl) (λ h shown stands. refl) space-same
          (λ h g start related moves. dies-from h g start true ws related.seat (dies-at (stage.Committing (Going at-turn)) at true ws (λ start. refl) start) moves))

    going : (b : Bool) → flies at-turn ≡ b → DiesAs (at_stage (stage.Dead true (going_to b m.journalled)) m)
    going true flown = judged flown
    going false grounded = given grounded

  -- ---- each stage

  abbrev none : Memory
  none = record { lines = []; keys = [] }

  forgets-by : (st : MemberStage) → m.stage ≡ st → has_none st ≡ true → DiesAs (forgotten (dead_at st m.journalled) m)
  forgets-by stage.Outside at has = rest-at stage.Outside at none (λ g rests. rests) refl (λ start. refl)
  forgets-by (stage.Beginning ceiling) at has = rest-at (stage.Beginning ceiling) at none (λ g rests. rests) refl (λ start. refl)
  forgets-by stage.Writing at has = absurd (cc)
  forgets-by stage.Changing at has = absurd (cc)
  forgets-by stage.Broken at has = absurd (cc)
  forgets-by stage.Prepared at has = absurd (cc)
  forgets-by (stage.Committing turn) at has = absurd (cc)
  forgets-by stage.RollingBack at has = absurd (cc)
  forgets-by stage.Closing at has = rest-at stage.Closing at none (λ g rests. rests) refl (λ start. refl)
  forgets-by stage.Reading at has = rest-at stage.Reading at none (λ g rests. rests) refl (λ start. refl)
  forgets-by (stage.Dead commits left) at has = absurd (cc)

  -- its lines are forgotten
  pub dies-forgotten : has_none m.stage ≡ true → DiesAs (forgotten (dead_at m.stage m.journalled) m)
  dies-forgotten has = forgets-by m.stage refl has

  module _ (left : IsTrue v.tells → LeftNow v v.content) where
    commits-by : (turn : CommitTurn) → m.stage ≡ stage.Committing turn → DiesAs (at_stage (stage.Dead true (recovery_at turn m.journalled)) m)
    commits-by (Entering k) at = end-at (stage.Committing (Entering k)) at left true (λ g has. may-end-begun g s m has.journalled.begun) refl (λ start. refl)
    commits-by Securing at = end-at (stage.Committing Securing) at left true (λ g has. may-end-begun g s m has.journalled.begun) refl (λ start. refl)
    commits-by (Going k) at = going k at (flies k) refl

    stays-by : (st : MemberStage) → m.stage ≡ st → has_none st ≡ false → IsAlive (seat_with st [] []) → DiesAs (at_stage (dead_at st m.journalled) m)
    stays-by stage.Outside at has alive = absurd (cc)
    stays-by (stage.Beginning ceiling) at has alive = absurd (cc)
    stays-by stage.Writing at has alive = end-at stage.Writing at left false (λ g has. may-end-begun g s m has.begun) refl (λ start. refl)
    stays-by stage.Changing at has alive = end-at stage.Changing at left false (λ g has. may-end-begun g s m has.begun) refl (λ start. refl)
    stays-by stage.Broken at has alive = end-at stage.Broken at left false (λ g has. has.may_end) refl (λ start. refl)
    stays-by stage.Prepared at has alive = end-at stage.Prepared at left false (λ g has. may-end-begun g s m has.begun) refl (λ start. refl)
    stays-by (stage.Committing turn) at has alive = commits-by turn at
    stays-by stage.RollingBack at has alive = rest-at stage.RollingBack at m.written (λ g rests. rests) refl (λ start. refl)
    stays-by stage.Closing at has alive = absurd (cc)
    stays-by stage.Reading at has alive = absurd (cc)
    stays-by (stage.Dead commits rest) at has alive = absurd alive

    pub dies-kept : has_none m.stage ≡ false → IsAlive (seat_with m.stage [] []) → DiesAs (at_stage (dead_at m.stage m.journalled) m)
    dies-kept has alive = stays-by m.stage refl has alive
