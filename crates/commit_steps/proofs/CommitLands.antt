-- The last turn of a commit: its lines are committed.
use Rattle.std.proofs.Common.{◌≡◌, ◌+◌, ◌==◌, inl, inr, ◌⊎◌, ℕ, Bool, false, cond, IsTrue, List, [], length, map, Ok, Some, None, refl, sym, ap, subst, ◌∙◌, arith}
use Rattle.std.specs.Prelude.{slice_get}
use Rattle.std.proofs.lemmas.Bool.{eqb-false}
use Rattle.std.proofs.lemmas.Option.{none-some}
use Rattle.rdb_outside.specs.Disk.{View, LeftNow}
use Rattle.line_view.specs.declared.writes.Write.{Write}
use Rattle.line_view.specs.Knowledge.{Lines}
use Rattle.line_view.specs.Writes.{laid_all}
use Rattle.line_store.specs.Seats.{committing, closing}
use Rattle.line_store.specs.Shelves.{Shelf, Space}
use Rattle.line_store.specs.Calls.{IsCommitted, TakesGroup}
use Rattle.stable_lines.specs.Slots.{line_at}
use Rattle.stable_lines.specs.Journal.{next_slot, write_of}
use Rattle.stable_lines.specs.Progress.{lines_with}
use Rattle.line_seat.specs.declared.commit.CommitStage.TheVariants.{Gathering, Landing, Committed}
use Rattle.line_seat.specs.Groups.{group_of}
use Rattle.disk_seats.specs.Ledgers.{resting, Commit, Ledger, again, commit_at, held_up, landed_at}
use Rattle.disk_seats.specs.Members.{LedgerFacts}
use Rattle.disk_versions.specs.Courses.{course_landed}
use Rattle.member_steps.specs.declared.committing.CommitTurn.{CommitTurn}
use Rattle.member_steps.specs.declared.committing.CommitTurn.TheVariants.{Going}
use Rattle.member_steps.specs.Turns.{Plan, commit_of_plan}
use Rattle.ledger_versions.specs.Readers.{set_waiting}
use Rattle.reader_turns.proofs.TurnSteps.{turn_lands}
use Rattle.member_memory.specs.Memory.{writes_in}
use Rattle.disk_store.specs.declared.member.Member.{Member}
use Rattle.disk_store.specs.declared.member.MemberStage.TheVariants as stage
use Rattle.disk_store.specs.declared.held.Tables.{Tables}
use Rattle.disk_store.specs.Dying.{forgotten}
use Rattle.disk_store.specs.Memory.{StoreMemory}
use Rattle.disk_store.specs.Seats.{seat_with}
use Rattle.disk_store.specs.Standing.{IsGoing, StageStands}
use Rattle.disk_store.specs.Shown.{DoesOn, Sits, TablesStand, Shown}
use Rattle.disk_store.specs.Sound.{IsSound}
use Rattle.disk_store.specs.Commits.{is_flying, AreOfPages, KeepsCommits}
use Rattle.disk_store.specs.Landing.{PutsAll, landed_with}
use Rattle.commit_steps.specs.Turns.{group_for, WritesAside, MakesTurn}
use Rattle.disk_store.proofs.Members.{set-beside}
use Rattle.disk_store.proofs.Moving.{itself}
use Rattle.disk_store.proofs.Ordered.{group-long, same-writes}
use Rattle.commit_steps.proofs.Planning.{own-commit, plan-going, under-way-now, waits-now}
use Rattle.disk_store.proofs.Kept.{kept-stays}
use Rattle.disk_store.proofs.Stepping.{ComesTo, does-any}
use Rattle.disk_store.proofs.Passing.{aside-ceiling}
use Rattle.disk_store.proofs.Beside.{StaysWith, rests}
use Rattle.commit_steps.proofs.Turning.{beside-stands, slots-aside, tables-turned}
use Rattle.commit_steps.proofs.CommitGoes.{lands-from}
use Rattle.disk_store.proofs.LinesPut.{all-used}
use Rattle.disk_store.proofs.Unused.{unused-behind}
use Rattle.disk_store.proofs.Landed.{slot-behind, number-behind, rolls-landed, tables-landed, becomes-landed, takes-landed}

-- ---- what is shown

module _ (v w : View) (held : StoreMemory) (s : ℕ) (m : Member) (was : slice_get held.members s ≡ Some m) (at : m.stage ≡ stage.Committing (Going Landing)) (sound : IsSound held) (commits : KeepsCommits held) (are : AreOfPages held.tables m.written.lines m.classes.items)
    (makes : MakesTurn v w (Going Landing) (group_for held m) m.written.lines m.classes.items (Ok (Going Committed))) (kept : Tables) (puts : PutsAll held.tables m.written.lines kept) where
  abbrev n : Member
  n = forgotten stage.Closing m

  abbrev behind : StoreMemory
  behind = landed_with stage.Closing kept s m held

  abbrev ws : List Write
  ws = writes_in m.written.lines

  module _ (h : Shelf) (shown : Shown v held h) (going : IsGoing v shown.ledger s m Landing) (left : IsTrue w.tells → LeftNow w w.content) where
    abbrev g : Ledger
    g = shown.ledger

    abbrev p : Plan
    p = plan-going v held s m was (Going Landing) at sound commits are h shown Landing going

    abbrev c : Commit
    c = commit_of_plan p Landing

    pub under : g.commit ≡ Some c
    under = under-way-now v held s m was (Going Landing) at sound commits are h shown Landing going

    abbrev k : Ledger
    k = landed_at w.moment c g

    pub facts : LedgerFacts w k
    facts = (makes.goes_on shown.tells g s p.transaction p.all p.flight shown.facts (λ e. let bad : Going Landing ≡ Going Gathering = e in absurd (cc)) under).0

    pub held-facts : LedgerFacts w (held_up c g)
    held-facts = makes.keeps shown.tells g s p.transaction p.all p.flight shown.facts under

    -- its group is that of its lines
    pub its-group : p.flight.group ≡ group_of (group_for held m) m.written.lines m.classes.items
    its-group = (shown.facts.commit c under).is.group

    pub group-lines : length p.flight.group.lines ≡ length m.written.keys
    group-lines = ap (λ group. length group.lines) its-group ∙ (group-long m.written.lines m.classes.items are.long ∙ sym (sound.each s m was).keys.long)

    pub lines-behind : lines_with g.base p.flight ≡ laid_all ws g.base.lines
    lines-behind = ap (λ group. laid_all (map write_of group.lines) g.base.lines) its-group ∙ ap (λ (x : List Write). laid_all x g.base.lines) (same-writes m.written.lines m.classes.items are.long)

    pub stays : (t : ℕ) → (t == s) ≡ false → StaysWith t g k
    stays t apart = record {
      standing = inl (ap (λ (b : Bool). cond b resting (g.standing t)) apart);
      going = ap (λ (x : ℕ). cond (t == x) None (g.base.going t)) (shown.facts.commit c under).is.its ∙ ap (λ (b : Bool). cond b None (g.base.going t)) apart;
      commit = λ d own is. absurd (eqb-false t s apart (sym own ∙ own-commit v held s m was (Going Landing) at sound commits are h shown d is));
    }

    pub tabled : TablesStand w k kept
    tabled = tables-landed w g k held.tables kept m.written.lines puts lines-behind (tables-turned v w held s m was (Going Landing) at sound commits are (Ok (Going Committed)) makes h shown g (record { lines = refl; journal = refl; next_tsn = refl; limits = refl }))

    abbrev pub lands-now : ComesTo v w behind s n g shown.versions.course shown.versions.waiting
    lands-now = record {
      ledger = k;
      facts = facts;
      limits = refl;
      none = λ t apart rested. rests v v g k t (λ file page is. refl) (λ classes lie. lie) (stays t apart) rested;
      others = λ t x apart got stood. beside-stands held s m was (ap is_flying at) commits v w g k t x (makes.journals shown.tells t 0) apart (sym (set-beside held.members s t n apart) ∙ got) (stays t apart) stood;
      mine = ap (λ (b : Bool). cond b resting (g.standing s)) (itself s);
      numbered = record {
        number = shown.numbers.number;
        first = shown.numbers.first;
        ceiling = aside-ceiling v w shown.tells makes.writes.file makes.writes.slot makes.writes.not_root makes.writes.only held.numbers shown.numbers.ceiling;
        group = record {
          in_slot = ap (λ (x : ℕ). x + (length m.written.keys + 1)) shown.numbers.group.in_slot ∙ (ap (λ (x : ℕ). next_slot g.base.journal + (x + 1)) (sym group-lines) ∙ sym (slot-behind g.base.journal p.flight.group));
          numbered = ap (λ (x : ℕ). x + 1) shown.numbers.group.numbered ∙ sym (number-behind g.base.journal p.flight.group);
        };
      };
      kept = kept-stays held.members s held.numbers.next held.numbers.written m n was (omega arith) shown.kept;
      tabled = tabled;
      course_behind = course_landed p.transaction.tsn.number (line_at w.content) (lines_with g.base p.flight) shown.versions.course;
      waiting_behind = set_waiting s [] shown.versions.waiting;
      readers = turn_lands v w g held.limits.snaps shown.versions.course shown.versions.waiting p makes.writes.file makes.writes.slot shown.tells shown.facts makes.writes.not_snap makes.writes.only
          (makes.changes shown.tells g shown.facts) makes.distinct (waits-now v held s m was (Going Landing) at sound commits are h shown) shown.versions.readers w.moment (left (subst IsTrue (sym makes.writes.only.told) shown.tells)) under held-facts facts;
      slots = slots-aside v w shown.tells makes.writes shown.versions.course.followed held.limits.snaps held.slots shown.versions.slots;
      used = λ t file reading start is goes lines. all-used held.tables m.written.lines kept puts file start (shown.versions.used t file reading start is goes lines);
      unused = unused-behind w (held_up c g) (left (subst IsTrue (sym makes.writes.only.told) shown.tells)) held-facts held sound s m was (commit_at (again Landing) c) refl (λ i undo got. going.commit.keys i undo got) shown.versions.course (lines_with g.base p.flight) kept puts shown.versions.unused;
      waits = tt;
      waits_beside = λ t apart. ap (λ (b : Bool). cond b [] (shown.versions.waiting t)) apart;
      reads = λ t. refl;
    }

  seat-was : (h : Shelf) (start : Lines) → h.seat s ≡ seat_with m.stage ws start → h.seat s ≡ committing ws
  seat-was h start seat = seat ∙ ap (λ st. seat_with st ws start) at

  -- it is committed since this moment
  pub does-land : (left : IsTrue w.tells → LeftNow w w.content) (moment : ℕ) → moment ≡ w.moment → DoesOn s closing (λ h g. IsCommitted s moment h g) v held w behind
  does-land left moment now =
      does-any v w held behind s m n was (becomes-landed held s m stage.Closing kept puts) (λ e. cc) makes.writes.only.told makes.writes.only.leaves
      (λ h shown stands. lands-now h shown (subst (λ st. StageStands st v shown.ledger s m) at stands) left)
      makes.writes.only.later makes.writes.only.no_fewer closing (λ h g. IsCommitted s moment h g) refl
      (λ h shown d is. absurd (none-some d is))
      (λ h shown stands. let going = subst (λ st. StageStands st v shown.ledger s m) at stands in rolls-landed v shown.ledger (c h shown going left) shown.facts (under h shown going left) refl)
      (λ h g start related. record {
        writes = ws;
        was = seat-was h start related.seat;
        commits = record {
          now = related.now_behind ∙ (lines-behind h related.shown (subst (λ st. StageStands st v related.shown.ledger s m) at related.stands) left ∙ ap (λ (ls : Lines). laid_all ws ls) (sym related.shown.lines.now));
          mine = related.seat_behind;
          others = related.others;
          space = subst (λ (space : Space). TakesGroup ws h.space space) (sym related.space_behind) (takes-landed held s m stage.Closing kept puts v h related.shown was sound);
          at = now ∙ sym related.time_behind;
        };
      })

-- no commit that is under way is through
module _ (v w : View) (held : StoreMemory) (s : ℕ) (m : Member) (was : slice_get held.members s ≡ Some m) (at : m.stage ≡ stage.Committing (Going Committed)) (only : WritesAside v w) (kept : Tables) (puts : PutsAll held.tables m.written.lines kept) where
  never-through : (h : Shelf) (shown : Shown v held h) → StageStands m.stage v shown.ledger s m → ⊥
  never-through h shown stands =
      let going : IsGoing v shown.ledger s m Committed = subst (λ st. StageStands st v shown.ledger s m) at stands in
      (shown.facts.commit (commit_of_plan going.commit.plan Committed) going.commit.under_way).under_way refl

  pub does-through : (moment : ℕ) → DoesOn s closing (λ h g. IsCommitted s moment h g) v held w (landed_with stage.Closing kept s m held)
  does-through moment =
      does-any v w held (landed_with stage.Closing kept s m held) s m (forgotten stage.Closing m) was (becomes-landed held s m stage.Closing kept puts) (λ e. cc) only.only.told only.only.leaves
      (λ h shown stands. absurd (never-through h shown stands))
      only.only.later only.only.no_fewer closing (λ h g. IsCommitted s moment h g) refl
      (λ h shown d is. absurd (never-through h shown (subst (λ x. Sits v shown.ledger s x (h.seat s)) was (shown.seats s)).stands))
      (λ h shown stands. absurd (never-through h shown stands))
      (λ h g start related. absurd (never-through h related.shown related.stands))

-- the turn that comes to the end is the last one
pub does-last : (v w : View) (held : StoreMemory) (s : ℕ) (m : Member) (was : slice_get held.members s ≡ Some m) (turn next : CommitTurn) (at : m.stage ≡ stage.Committing turn) (sound : IsSound held) (commits : KeepsCommits held) (are : AreOfPages held.tables m.written.lines m.classes.items) (through : next ≡ Going Committed)
    (makes : MakesTurn v w turn (group_for held m) m.written.lines m.classes.items (Ok next)) (kept : Tables) (puts : PutsAll held.tables m.written.lines kept) (left : IsTrue w.tells → LeftNow w w.content) (moment : ℕ) (now : moment ≡ w.moment)
    → DoesOn s closing (λ h g. IsCommitted s moment h g) v held w (landed_with stage.Closing kept s m held)
does-last v w held s m was turn next at sound commits are through makes kept puts left moment now = by (lands-from turn made.order)
  where
    made : MakesTurn v w turn (group_for held m) m.written.lines m.classes.items (Ok (Going Committed))
    made = subst (λ (t : CommitTurn). MakesTurn v w turn (group_for held m) m.written.lines m.classes.items (Ok t)) through makes

    by : (turn ≡ Going Landing) ⊎ (turn ≡ Going Committed) → DoesOn s closing (λ h g. IsCommitted s moment h g) v held w (landed_with stage.Closing kept s m held)
    by (inl lands) = does-land v w held s m was (at ∙ ap stage.Committing lands) sound commits are (subst (λ (t : CommitTurn). MakesTurn v w t (group_for held m) m.written.lines m.classes.items (Ok (Going Committed))) lands made) kept puts left moment now
    by (inr was-through) = does-through v w held s m was (at ∙ ap stage.Committing was-through) made.writes kept puts moment
