-- The turns of a commit that aren't its last, one by one.
use Rattle.std.proofs.Common.{◌≡◌, ◌≢◌, ◌==◌, inl, inr, ℕ, IsTrue, Bool, false, cond, length, Ok, Some, refl, sym, ap, subst, ◌∙◌, arith}
use Rattle.std.specs.Prelude.{IsErrOf, slice_get}
use Rattle.std.proofs.lemmas.Bool.{eqb-false}
use Rattle.std.proofs.lemmas.Option.{none-some}
use Rattle.rdb_types.specs.declared.file.FileId.{FileId}
use Rattle.rdb_outside.specs.Disk.{View, LeftNow}
use Rattle.line_store.specs.declared.answers.Fault.TheVariants.{Bad}
use Rattle.line_store.specs.Shelves.{Shelf}
use Rattle.line_moves.specs.Lines.{ChangedLines, AreDistinct, PutsOnly}
use Rattle.line_seat.specs.declared.commit.CommitStage.{CommitStage}
use Rattle.line_seat.specs.declared.commit.CommitStage.TheVariants.{Changing, Imaging, Gathering, Sealing, Landing, Committed}
use Rattle.line_seat.specs.Groups.{HaveClasses}
use Rattle.disk_seats.specs.Ledgers.{committing, gained, Commit, Ledger, again, held_up, gone_on}
use Rattle.disk_seats.specs.Members.{LedgerFacts, AreOwned}
use Rattle.member_steps.specs.declared.committing.CommitTurn.{CommitTurn}
use Rattle.member_steps.specs.declared.committing.CommitTurn.TheVariants.{Entering, Securing, Going}
use Rattle.member_steps.specs.Turns.{Plan, TurnFacts, commit_of_plan, ledger_behind, ledger_held}
use Rattle.member_steps.proofs.ClassesHad.{classes_had}
use Rattle.ledger_versions.specs.Readers.{ReaderFacts}
use Rattle.reader_turns.proofs.TurnSteps.{turn_held, turn_further}
use Rattle.member_memory.specs.Memory.{writes_in}
use Rattle.disk_store.specs.declared.member.Member.{Member}
use Rattle.disk_store.specs.declared.member.MemberStage.TheVariants as stage
use Rattle.disk_store.specs.Memory.{StoreMemory, with_member, at_stage}
use Rattle.disk_store.specs.Standing.{HasJournalled, HasEntered, IsGoing, StageStands}
use Rattle.disk_store.specs.Shown.{Shown}
use Rattle.disk_store.specs.Sound.{IsSound}
use Rattle.disk_store.specs.Commits.{AreOfPages, KeepsCommits}
use Rattle.commit_steps.specs.Turns.{group_for, turn_again, MakesTurn}
use Rattle.disk_store.proofs.Stages.{journalled-at}
use Rattle.disk_store.proofs.Beside.{StaysWith}
use Rattle.commit_steps.proofs.Planning.{plan, flight, may-commit-now, none-commits, plan-going, under-way-now, own-commit, of-areas, room-on-pages, waits-now}
use Rattle.commit_steps.proofs.Turning.{FliesAs, TurnedTo, SameBase, comes-turned, flies-going}

same-base : (g : Ledger) → SameBase g g
same-base g = record { lines = refl; journal = refl; next_tsn = refl; limits = refl }

abbrev stage-in : CommitTurn → CommitStage
stage-in (Entering at) = Committed
stage-in Securing = Committed
stage-in (Going at) = at

-- a member at one stage comes to another turn
abbrev pub at-turn : CommitTurn → Member → Member
at-turn next m = at_stage (stage.Committing next) m

module _ (v w : View) (held : StoreMemory) (s : ℕ) (m : Member) (was : slice_get held.members s ≡ Some m) (sound : IsSound held) (commits : KeepsCommits held) (are : AreOfPages held.tables m.written.lines m.classes.items)
    (h : Shelf) (shown : Shown v held h) where
  abbrev g : Ledger
  g = shown.ledger

  -- what the session comes to at a turn, whatever was answered
  abbrev pub TurnsTo : CommitTurn → Type 0
  TurnsTo next = TurnedTo v w (record (with_member s (at-turn next m) held) { numbers = held.numbers }) s (at-turn next m) g shown.versions.course shown.versions.waiting

  module _ (turn : CommitTurn) (at : m.stage ≡ stage.Committing turn) (result : _) (makes : MakesTurn v w turn (group_for held m) m.written.lines m.classes.items result) where
    turned : (next : CommitTurn) (k : Ledger) → LedgerFacts w k → SameBase g k → ((t : ℕ) → (t == s) ≡ false → StaysWith t g k) → StageStands (stage.Committing next) w k s (at-turn next m) → ReaderFacts w k held.limits.snaps shown.versions.course shown.versions.waiting → FliesAs s (writes_in m.written.lines) k → TurnsTo next
    turned next k facts base stays mine readers flies = comes-turned v w held s m was turn at sound commits are result makes h shown next k facts base stays mine readers flies

    -- the ledger stays
    stay-same : (t : ℕ) → (t == s) ≡ false → StaysWith t g g
    stay-same t apart = record { standing = inl refl; going = refl; commit = λ c own is. is }

    -- the commit is its own
    other-commit : (t : ℕ) → (t == s) ≡ false → (k : Ledger) (c : Commit) → c.member ≡ t → g.commit ≡ Some c → k.commit ≡ Some c
    other-commit t apart k c own is = absurd (eqb-false t s apart (sym own ∙ own-commit v held s m was turn at sound commits are h shown c is))

    -- ---- pages that are entered

    module _ (has : HasJournalled g s m) where
      abbrev its : Plan
      its = plan v held s m was turn at sound commits are h shown has

      entered : (next : CommitTurn) (n : ℕ) → AreOwned w.content m.written.lines n → HasEntered w g s (at-turn next m) n
      entered next n owned = record { journalled = journalled-at g s m (stage.Committing next) has; owned = owned }

      readers-held : TurnFacts turn v g its → ReaderFacts w (ledger_held turn its g) held.limits.snaps shown.versions.course shown.versions.waiting
      readers-held facts = turn_held v w g held.limits.snaps shown.versions.course shown.versions.waiting its makes.writes.file makes.writes.slot shown.tells shown.facts makes.writes.not_snap makes.writes.only
          (makes.changes shown.tells g shown.facts) makes.distinct (waits-now v held s m was turn at sound commits are h shown) shown.versions.readers turn facts

      none-flies : FliesAs s (writes_in m.written.lines) g
      none-flies c is = absurd (none-some c (sym (none-commits v held s m was turn at sound commits are h shown has) ∙ is))

      ledger-held : TurnFacts turn v g its → LedgerFacts w (ledger_held turn its g)
      ledger-held facts = makes.keeps shown.tells g s has.begun.transaction has.begun.all its.flight shown.facts facts

    -- ---- pages that are written

    module _ (at-stage : CommitStage) (going : IsGoing v g s m at-stage) where
      abbrev its-going : Plan
      its-going = plan-going v held s m was turn at sound commits are h shown at-stage going

      -- it goes on at a stage
      going-on : (nx : CommitStage) (k : Ledger) → k.commit ≡ Some (commit_of_plan its-going nx) → IsGoing w k s (at-turn (Going nx) m) nx
      going-on nx k under = record {
        commit = record {
          plan = its-going;
          its = refl;
          number = going.commit.number;
          lines = refl;
          long = are.long;
          count = going.commit.count;
          keys = going.commit.keys;
          under_way = under;
        };
        classes = refl;
        of_areas = going.of_areas;
        lie = makes.classed shown.tells g shown.facts going.commit.plan.flight.classes going.of_areas going.lie;
      }

      stay-base : (t : ℕ) → (t == s) ≡ false → (k : Ledger) → k.standing t ≡ g.standing t → k.base.going t ≡ g.base.going t → StaysWith t g k
      stay-base t apart k standing goes = record { standing = inl standing; going = goes; commit = λ c own is. other-commit t apart k c own is }

-- ---- behind a fault

module _ (v w : View) (held : StoreMemory) (s : ℕ) (m : Member) (was : slice_get held.members s ≡ Some m) (sound : IsSound held) (commits : KeepsCommits held) (are : AreOfPages held.tables m.written.lines m.classes.items)
    (h : Shelf) (shown : Shown v held h) where
  pub comes-again : (turn : CommitTurn) (at : m.stage ≡ stage.Committing turn) (result : _) → MakesTurn v w turn (group_for held m) m.written.lines m.classes.items result → StageStands (stage.Committing turn) v shown.ledger s m → TurnsTo v w held s m was sound commits are h shown (turn_again turn)
  comes-again (Entering j) at result makes stands =
      let has : HasJournalled shown.ledger s m = stands.journalled in
      let facts : TurnFacts (Entering j) v shown.ledger (its v w held s m was sound commits are h shown (Entering j) at result makes has) = (may-commit-now v held s m was (Entering j) at sound commits are h shown has, stands.owned) in
      turned v w held s m was sound commits are h shown (Entering j) at result makes (Entering 0) shown.ledger (ledger-held v w held s m was sound commits are h shown (Entering j) at result makes has facts) (same-base shown.ledger)
      (stay-same v w held s m was sound commits are h shown (Entering j) at result makes)
      (entered v w held s m was sound commits are h shown (Entering j) at result makes has (Entering 0) 0 (λ i line place below got of. absurd (omega (arith, below))))
      (readers-held v w held s m was sound commits are h shown (Entering j) at result makes has facts)
      (none-flies v w held s m was sound commits are h shown (Entering j) at result makes has)
  comes-again Securing at result makes stands =
      let has : HasJournalled shown.ledger s m = stands.journalled in
      let facts : TurnFacts Securing v shown.ledger (its v w held s m was sound commits are h shown Securing at result makes has) = (may-commit-now v held s m was Securing at sound commits are h shown has, stands.owned) in
      turned v w held s m was sound commits are h shown Securing at result makes (Entering 0) shown.ledger (ledger-held v w held s m was sound commits are h shown Securing at result makes has facts) (same-base shown.ledger)
      (stay-same v w held s m was sound commits are h shown Securing at result makes)
      (entered v w held s m was sound commits are h shown Securing at result makes has (Entering 0) 0 (λ i line place below got of. absurd (omega (arith, below))))
      (readers-held v w held s m was sound commits are h shown Securing at result makes has facts)
      (none-flies v w held s m was sound commits are h shown Securing at result makes has)
  comes-again (Going st) at result makes stands =
      let plan-now : Plan = its-going v w held s m was sound commits are h shown (Going st) at result makes st stands in
      let under = under-way-now v held s m was (Going st) at sound commits are h shown st stands in
      turned v w held s m was sound commits are h shown (Going st) at result makes (Going (again st)) (held_up (commit_of_plan plan-now st) shown.ledger)
      (makes.keeps shown.tells shown.ledger s plan-now.transaction plan-now.all plan-now.flight shown.facts under)
      (record { lines = refl; journal = refl; next_tsn = refl; limits = refl })
      (λ t apart. stay-base v w held s m was sound commits are h shown (Going st) at result makes st stands t apart (held_up (commit_of_plan plan-now st) shown.ledger) refl refl)
      (going-on v w held s m was sound commits are h shown (Going st) at result makes st stands (again st) (held_up (commit_of_plan plan-now st) shown.ledger) refl)
      (turn_held v w shown.ledger held.limits.snaps shown.versions.course shown.versions.waiting plan-now makes.writes.file makes.writes.slot shown.tells shown.facts makes.writes.not_snap makes.writes.only
      (makes.changes shown.tells shown.ledger shown.facts) makes.distinct (waits-now v held s m was (Going st) at sound commits are h shown) shown.versions.readers (Going st) under)
      (flies-going v w held s m was (Going st) at sound commits are result makes h shown (held_up (commit_of_plan plan-now st) shown.ledger) (again st) plan-now (makes.keeps shown.tells shown.ledger s plan-now.transaction plan-now.all plan-now.flight shown.facts under) refl refl refl refl)

  -- no slot is refused
  pub none-refused : (turn : CommitTurn) (at : m.stage ≡ stage.Committing turn) (result : _) → MakesTurn v w turn (group_for held m) m.written.lines m.classes.items result → StageStands (stage.Committing turn) v shown.ledger s m → (file : FileId) (slot : ℕ) → IsErrOf result (Bad file slot) → ⊥
  none-refused (Entering j) at result makes stands file slot is =
      let has : HasJournalled shown.ledger s m = stands.journalled in
      makes.bad file slot is shown.tells shown.ledger s has.begun.transaction has.begun.all (flight v held s m was (Entering j) at sound commits are h shown has) shown.tables.classes shown.facts
      (may-commit-now v held s m was (Entering j) at sound commits are h shown has, stands.owned) (room-on-pages v held s m was (Entering j) at sound commits are h shown)
  none-refused Securing at result makes stands file slot is =
      let has : HasJournalled shown.ledger s m = stands.journalled in
      makes.bad file slot is shown.tells shown.ledger s has.begun.transaction has.begun.all (flight v held s m was Securing at sound commits are h shown has) shown.tables.classes shown.facts
      (may-commit-now v held s m was Securing at sound commits are h shown has, stands.owned) (room-on-pages v held s m was Securing at sound commits are h shown)
  none-refused (Going st) at result makes stands file slot is =
      let plan-now : Plan = its-going v w held s m was sound commits are h shown (Going st) at result makes st stands in
      makes.bad file slot is shown.tells shown.ledger s plan-now.transaction plan-now.all plan-now.flight shown.tables.classes shown.facts
      (under-way-now v held s m was (Going st) at sound commits are h shown st stands) (room-on-pages v held s m was (Going st) at sound commits are h shown)

-- ---- further

module _ (v w : View) (held : StoreMemory) (s : ℕ) (m : Member) (was : slice_get held.members s ≡ Some m) (sound : IsSound held) (commits : KeepsCommits held) (are : AreOfPages held.tables m.written.lines m.classes.items)
    (left : IsTrue v.tells → LeftNow v v.content) (h : Shelf) (shown : Shown v held h) where
  abbrev gl : Ledger
  gl = shown.ledger

  abbrev Makes : CommitTurn → CommitTurn → Type 0
  Makes turn next = MakesTurn v w turn (group_for held m) m.written.lines m.classes.items (Ok next)

  module _ (turn next : CommitTurn) (at : m.stage ≡ stage.Committing turn) (makes : Makes turn next) where
    readers-on : (p : Plan) → p.member ≡ s → p.lines ≡ m.written.lines → TurnFacts turn v gl p → next ≢ Going Committed → ReaderFacts w (ledger_behind turn next w.moment p gl) held.limits.snaps shown.versions.course shown.versions.waiting
    readers-on p its_member its_lines facts off = turn_further v w gl held.limits.snaps shown.versions.course shown.versions.waiting p makes.writes.file makes.writes.slot shown.tells shown.facts makes.writes.not_snap makes.writes.only
        (subst (λ (ls : ChangedLines). PutsOnly ls v.content w.content) (sym its_lines) (makes.changes shown.tells gl shown.facts)) (subst AreDistinct (sym its_lines) makes.distinct)
        (ap (λ (n : ℕ). shown.versions.waiting n) its_member ∙ (waits-now v held s m was turn at sound commits are h shown ∙ sym its_lines)) shown.versions.readers turn next w.moment facts makes.order off

  -- pages are entered
  enters-on : (j : ℕ) (next : CommitTurn) (n : ℕ) (at : m.stage ≡ stage.Committing (Entering j)) (makes : Makes (Entering j) next) (stands : HasEntered v gl s m j) → next ≢ Going Committed
      → LedgerFacts w gl → AreOwned w.content m.written.lines n → (HasEntered w gl s (at-turn next m) n → StageStands (stage.Committing next) w gl s (at-turn next m)) → TurnsTo v w held s m was sound commits are h shown next
  enters-on j next n at makes stands off facts owned stood =
      let has = stands.journalled in
      let p : Plan = its v w held s m was sound commits are h shown (Entering j) at (Ok next) makes has in
      turned v w held s m was sound commits are h shown (Entering j) at (Ok next) makes next gl facts (same-base gl) (stay-same v w held s m was sound commits are h shown (Entering j) at (Ok next) makes)
      (stood (entered v w held s m was sound commits are h shown (Entering j) at (Ok next) makes has next n owned))
      (readers-on (Entering j) next at makes p refl refl (may-commit-now v held s m was (Entering j) at sound commits are h shown has, stands.owned) off)
      (none-flies v w held s m was sound commits are h shown (Entering j) at (Ok next) makes has)

  -- the commit takes off
  takes-up : (k : ℕ) (at : m.stage ≡ stage.Committing Securing) → Makes Securing (Going (Changing k)) → HasEntered v gl s m (length m.written.lines) → TurnsTo v w held s m was sound commits are h shown (Going (Changing k))
  takes-up k at makes stands =
      let has : HasJournalled gl s m = stands.journalled in
      let next : CommitTurn = Going (Changing k) in
      let p : Plan = its v w held s m was sound commits are h shown Securing at (Ok next) makes has in
      let facts : TurnFacts Securing v gl p = (may-commit-now v held s m was Securing at sound commits are h shown has, stands.owned) in
      let behind : Ledger = ledger_behind Securing next w.moment p gl in
      let goes = makes.goes_on shown.tells gl s has.begun.transaction has.begun.all p.flight shown.facts (λ gathers. let bad : Securing ≡ Going Gathering = gathers in absurd (cc)) facts in
      turned v w held s m was sound commits are h shown Securing at (Ok next) makes next behind goes.0 (record { lines = refl; journal = refl; next_tsn = refl; limits = refl })
      (λ t apart. record {
        standing = inr (ap (λ (b : Bool). cond b (committing has.begun.all) (gained (gl.standing t))) apart);
        going = ap (λ (b : Bool). cond b (Some (record { tsn = has.begun.transaction.tsn; entries = has.begun.all })) (gl.base.going t)) apart;
        commit = λ c own is. other-commit v w held s m was sound commits are h shown Securing at (Ok next) makes t apart behind c own is;
      })
      (record {
        commit = record { plan = p; its = refl; number = sym has.begun.number; lines = refl; long = are.long; count = has.begun.count; keys = has.begun.keys; under_way = goes.1 };
        classes = refl;
        of_areas = of-areas v held s m was Securing at sound commits are h shown;
        lie = makes.classed shown.tells gl shown.facts shown.tables.classes (of-areas v held s m was Securing at sound commits are h shown) shown.tables.lie;
      })
      (readers-on Securing next at makes p refl refl facts (λ same. cc))
      (flies-going v w held s m was Securing at sound commits are (Ok next) makes h shown behind (Changing k) p goes.0 refl refl refl goes.1)

  -- it goes on
  module _ (st nx : CommitStage) (at : m.stage ≡ stage.Committing (Going st)) (makes : Makes (Going st) (Going nx)) (stands : IsGoing v gl s m st) where
    abbrev pub its-plan : Plan
    its-plan = its-going v w held s m was sound commits are h shown (Going st) at (Ok (Going nx)) makes st stands

    pub under : gl.commit ≡ Some (commit_of_plan its-plan st)
    under = under-way-now v held s m was (Going st) at sound commits are h shown st stands

    gathers : Going st ≡ Going Gathering → HaveClasses v.content gl.base its-plan.flight
    gathers same =
        let there = shown.facts.commit (commit_of_plan its-plan Gathering) (under ∙ ap (λ (x : CommitTurn). Some (commit_of_plan its-plan (stage-in x))) same) in
        classes_had v gl.base its-plan.flight its-plan.place its-plan.lines its-plan.classes (left shown.tells) there.facts.facts there.is.group there.facts.done.0 stands.lie

    pub goes-behind : LedgerFacts w (ledger_behind (Going st) (Going nx) w.moment its-plan gl)
    goes-behind = (makes.goes_on shown.tells gl s its-plan.transaction its-plan.all its-plan.flight shown.facts gathers under).0

    gone : nx ≢ Committed → ledger_behind (Going st) (Going nx) w.moment its-plan gl ≡ gone_on nx (commit_of_plan its-plan st) gl → TurnsTo v w held s m was sound commits are h shown (Going nx)
    gone off same =
        let k : Ledger = gone_on nx (commit_of_plan its-plan st) gl in
        turned v w held s m was sound commits are h shown (Going st) at (Ok (Going nx)) makes (Going nx) k (subst (λ (x : Ledger). LedgerFacts w x) same goes-behind) (record { lines = refl; journal = refl; next_tsn = refl; limits = refl })
        (λ t apart. stay-base v w held s m was sound commits are h shown (Going st) at (Ok (Going nx)) makes st stands t apart k refl refl)
        (going-on v w held s m was sound commits are h shown (Going st) at (Ok (Going nx)) makes st stands nx k refl)
        (subst (λ (x : Ledger). ReaderFacts w x held.limits.snaps shown.versions.course shown.versions.waiting) same (readers-on (Going st) (Going nx) at makes its-plan refl refl under (λ e. off (ap stage-in e))))
        (flies-going v w held s m was (Going st) at sound commits are (Ok (Going nx)) makes h shown k nx its-plan (subst (λ (x : Ledger). LedgerFacts w x) same goes-behind) refl refl refl refl)

  going-further : (st nx : CommitStage) (at : m.stage ≡ stage.Committing (Going st)) → Makes (Going st) (Going nx) → IsGoing v gl s m st → nx ≢ Committed → TurnsTo v w held s m was sound commits are h shown (Going nx)
  going-further st (Changing k) at makes stands off = gone st (Changing k) at makes stands off refl
  going-further st (Imaging k) at makes stands off = gone st (Imaging k) at makes stands off refl
  going-further st Gathering at makes stands off = gone st Gathering at makes stands off refl
  going-further st Sealing at makes stands off = gone st Sealing at makes stands off refl
  going-further st Landing at makes stands off = gone st Landing at makes stands off refl
  going-further st Committed at makes stands off = absurd (off refl)

  pub comes-further : (turn next : CommitTurn) (at : m.stage ≡ stage.Committing turn) → Makes turn next → StageStands (stage.Committing turn) v gl s m → next ≢ Going Committed → TurnsTo v w held s m was sound commits are h shown next
  comes-further (Entering j) (Entering k) at makes stands off =
      let goes = makes.goes_on shown.tells gl s stands.journalled.begun.transaction stands.journalled.begun.all (flight v held s m was (Entering j) at sound commits are h shown stands.journalled) shown.facts (λ e. let bad : Entering j ≡ Going Gathering = e in absurd (cc)) (may-commit-now v held s m was (Entering j) at sound commits are h shown stands.journalled, stands.owned) in
      enters-on j (Entering k) k at makes stands off goes.0 goes.1.1 (λ stood. stood)
  comes-further (Entering j) Securing at makes stands off =
      let goes = makes.goes_on shown.tells gl s stands.journalled.begun.transaction stands.journalled.begun.all (flight v held s m was (Entering j) at sound commits are h shown stands.journalled) shown.facts (λ e. let bad : Entering j ≡ Going Gathering = e in absurd (cc)) (may-commit-now v held s m was (Entering j) at sound commits are h shown stands.journalled, stands.owned) in
      enters-on j Securing (length m.written.lines) at makes stands off goes.0 goes.1.1 (λ stood. stood)
  comes-further (Entering j) (Going nx) at makes stands off = absurd makes.order
  comes-further Securing (Entering k) at makes stands off = absurd makes.order
  comes-further Securing Securing at makes stands off = absurd makes.order
  comes-further Securing (Going (Changing k)) at makes stands off = takes-up k at makes stands
  comes-further Securing (Going (Imaging k)) at makes stands off = absurd makes.order
  comes-further Securing (Going Gathering) at makes stands off = absurd makes.order
  comes-further Securing (Going Sealing) at makes stands off = absurd makes.order
  comes-further Securing (Going Landing) at makes stands off = absurd makes.order
  comes-further Securing (Going Committed) at makes stands off = absurd makes.order
  comes-further (Going st) (Entering k) at makes stands off = absurd makes.order
  comes-further (Going st) Securing at makes stands off = absurd makes.order
  comes-further (Going st) (Going nx) at makes stands off = going-further st nx at makes stands (λ e. off (ap Going e))
