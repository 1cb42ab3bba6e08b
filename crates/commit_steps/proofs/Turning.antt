-- A turn of a commit that isn't its last: what is shown behind it.
use Rattle.std.proofs.Common.{◌≡◌, ◌==◌, ℕ, Bool, true, false, IsTrue, List, map, Some, refl, sym, ap, subst, ◌∙◌, arith}
use Rattle.std.specs.Prelude.{slice_get}
use Rattle.std.proofs.lemmas.Bool.{true≢false, eqb-false}
use Rattle.std.proofs.lemmas.Option.{same_Some}
use Rattle.rdb_outside.specs.Disk.{View}
use Rattle.line_view.specs.declared.writes.Write.{Write}
use Rattle.line_view.specs.Knowledge.{Lines}
use Rattle.line_view.specs.Writes.{laid_all}
use Rattle.line_store.specs.Shelves.{Shelf}
use Rattle.line_versions.specs.Files.{snap_file}
use Rattle.line_versions.specs.Versions.{Followed}
use Rattle.stable_lines.specs.Journal.{lines_behind, next_number, next_slot, write_of}
use Rattle.stable_lines.specs.Progress.{lines_with}
use Rattle.stable_lines.specs.Slots.{named}
use Rattle.line_seat.specs.declared.commit.CommitStage.{CommitStage}
use Rattle.line_seat.specs.Groups.{group_lines}
use Rattle.disk_seats.specs.Ledgers.{Commit, Ledger}
use Rattle.disk_seats.specs.Members.{LedgerFacts}
use Rattle.member_steps.specs.declared.committing.CommitTurn.{CommitTurn}
use Rattle.member_steps.specs.Turns.{Plan, commit_of_plan}
use Rattle.committed_tables.specs.Tables.{HasCommitted}
use Rattle.version_writing.specs.Tables.{HoldsAll}
use Rattle.version_writing.specs.declared.snapshot_slots.SnapshotSlots.{SnapshotSlots}
use Rattle.ledger_versions.specs.Readers.{ReaderFacts, Waiting}
use Rattle.line_versions.specs.Course.{Course}
use Rattle.member_memory.specs.Memory.{writes_in}
use Rattle.disk_store.specs.declared.member.Member.{Member}
use Rattle.disk_store.specs.declared.member.MemberStage.{MemberStage}
use Rattle.disk_store.specs.declared.member.MemberStage.TheVariants as stage
use Rattle.disk_store.specs.Memory.{StoreMemory, with_member, at_stage}
use Rattle.disk_store.specs.OwnFiles.{WritesOwn}
use Rattle.disk_store.specs.Standing.{StageStands}
use Rattle.disk_store.specs.Shown.{TablesStand, Shown, pages_of}
use Rattle.disk_store.specs.Sound.{IsSound}
use Rattle.disk_store.specs.Commits.{is_flying, AreOfPages, KeepsCommits}
use Rattle.commit_steps.specs.Turns.{group_for, WritesAside, MakesTurn}
use Rattle.disk_store.proofs.Members.{set-beside}
use Rattle.disk_store.proofs.Beside.{SameHeader, StaysWith, stays-with, rests}
use Rattle.disk_store.proofs.Kept.{kept-stays}
use Rattle.disk_store.proofs.Stepping.{ComesTo}
use Rattle.disk_store.proofs.Passing.{aside-ceiling, slots-stay}
use Rattle.disk_store.proofs.Ordered.{same-writes}
use Rattle.commit_steps.proofs.Planning.{lie-for, of-areas, waits-now}

-- ---- members beside a commit

-- what a member that doesn't commit stands on, no disk says but in its header
view-free : (st : MemberStage) (v w : View) (g : Ledger) (t : ℕ) (m : Member) → SameHeader t v w → is_flying st ≡ false → StageStands st v g t m → StageStands st w g t m
view-free stage.Outside v w g t m header off stands = stands
view-free (stage.Beginning ceiling) v w g t m header off stands = stands
view-free stage.Writing v w g t m header off stands = stands
view-free stage.Changing v w g t m header off stands = record { begun = stands.begun; header = λ noted. ap named header ∙ stands.header noted }
view-free stage.Broken v w g t m header off stands = stands
view-free stage.Prepared v w g t m header off stands = stands
view-free (stage.Committing turn) v w g t m header off stands = absurd (true≢false off)
view-free stage.RollingBack v w g t m header off stands = stands
view-free stage.Closing v w g t m header off stands = stands
view-free stage.Reading v w g t m header off stands = stands
view-free (stage.Dead commits left) v w g t m header off stands = stands

pub not-flying : (b : Bool) → (b ≡ true → ⊥) → b ≡ false
not-flying true no_way = absurd (no_way refl)
not-flying false no_way = refl

module _ (held : StoreMemory) (s : ℕ) (m : Member) (was : slice_get held.members s ≡ Some m) (flies : is_flying m.stage ≡ true) (commits : KeepsCommits held) where
  -- nobody else commits
  pub beside-rests : (t : ℕ) (x : Member) → (t == s) ≡ false → slice_get held.members t ≡ Some x → is_flying x.stage ≡ false
  beside-rests t x apart got = not-flying (is_flying x.stage) (λ flown. eqb-false t s apart (commits.alone t s x m got was flown flies))

  pub beside-stands : (v w : View) (g h : Ledger) (t : ℕ) (x : Member) → SameHeader t v w → (t == s) ≡ false → slice_get held.members t ≡ Some x → StaysWith t g h → StageStands x.stage v g t x → StageStands x.stage w h t x
  beside-stands v w g h t x header apart got stays stands = view-free x.stage v w h t x header (beside-rests t x apart got) (stays-with v v g h t (λ file page is. refl) (λ classes lie. lie) stays x refl stands)

-- ---- what the disk gives

pub writes-own : (v w : View) → WritesAside v w → WritesOwn v w
writes-own v w aside = record { file = aside.file; slot = aside.slot; own = aside.own; only = aside.only }

pub slots-aside : (v w : View) → IsTrue v.tells → WritesAside v w → (followed : Followed) (limit : ℕ) (slots : SnapshotSlots) → HoldsAll v.content followed limit slots → HoldsAll w.content followed limit slots
slots-aside v w t aside followed limit slots was = slots-stay v w (λ file slot. aside.only.content t (snap_file file) slot (λ same at. aside.not_snap (ap (λ f. f.kind) (sym same)))) followed limit slots was

-- the commit that is under way is the session's, and comes to these writes
abbrev pub FliesAs : ℕ → List Write → Ledger → Type 0
FliesAs s ws k = (c : Commit) → k.commit ≡ Some c → (c.member ≡ s) × (lines_with k.base c.flight ≡ laid_all ws k.base.lines)

-- what a turn comes to where nothing is committed
pub record TurnedTo (v w : View) (behind : StoreMemory) (s : ℕ) (n : Member) (g : Ledger) (course : Course) (waiting : Waiting) : Type 0 where
  pub comes : ComesTo v w behind s n g course waiting
  pub flies : FliesAs s (writes_in n.written.lines) comes.ledger
  pub same : comes.ledger.base.lines ≡ g.base.lines
  pub journal : comes.ledger.base.journal ≡ g.base.journal

-- what stays of the ledger's base while nothing is committed
pub record SameBase (g h : Ledger) : Type 0 where
  pub lines : h.base.lines ≡ g.base.lines
  pub journal : h.base.journal ≡ g.base.journal
  pub next_tsn : h.base.next_tsn ≡ g.base.next_tsn
  pub limits : h.base.limits ≡ g.base.limits

module _ (v w : View) (held : StoreMemory) (s : ℕ) (m : Member) (was : slice_get held.members s ≡ Some m) (turn : CommitTurn) (at : m.stage ≡ stage.Committing turn) (sound : IsSound held) (commits : KeepsCommits held) (are : AreOfPages held.tables m.written.lines m.classes.items)
    (result : _) (makes : MakesTurn v w turn (group_for held m) m.written.lines m.classes.items result) (h : Shelf) (shown : Shown v held h) where
  abbrev g : Ledger
  g = shown.ledger

  -- the tables beside another ledger, and behind the turn
  pub tables-turned : (k : Ledger) → SameBase g k → TablesStand w k held.tables
  tables-turned k base = record {
    committed = λ file is. subst (λ (ls : Lines). HasCommitted (pages_of held.tables file) file ls) (sym base.lines) (shown.tables.committed file is);
    classes = shown.tables.classes;
    lie = makes.classed shown.tells g shown.facts shown.tables.classes (of-areas v held s m was turn at sound commits are h shown) shown.tables.lie;
    class = shown.tables.class;
    owned = λ place area is within plain whose. makes.owners shown.tells g shown.facts place area is plain (lie-for held.tables m.written.lines m.classes.items are place area whose) (shown.tables.owned place area is within plain whose);
  }

  pub comes-turned : (next : CommitTurn) (k : Ledger) → LedgerFacts w k → SameBase g k → ((t : ℕ) → (t == s) ≡ false → StaysWith t g k)
      → StageStands (stage.Committing next) w k s (at_stage (stage.Committing next) m)
      → ReaderFacts w k held.limits.snaps shown.versions.course shown.versions.waiting → FliesAs s (writes_in m.written.lines) k
      → TurnedTo v w (record (with_member s (at_stage (stage.Committing next) m) held) { numbers = held.numbers }) s (at_stage (stage.Committing next) m) g shown.versions.course shown.versions.waiting
  comes-turned next k facts base stays mine readers flies = record {
    comes = record {
      ledger = k;
      facts = facts;
      limits = base.limits;
      none = λ t apart rested. rests v v g k t (λ file page is. refl) (λ classes lie. lie) (stays t apart) rested;
      others = λ t x apart got stood. beside-stands held s m was (ap is_flying at) commits v w g k t x (makes.journals shown.tells t 0) apart (sym (set-beside held.members s t (at_stage (stage.Committing next) m) apart) ∙ got) (stays t apart) stood;
      mine = mine;
      numbered = record {
        number = base.next_tsn ∙ shown.numbers.number;
        first = shown.numbers.first;
        ceiling = aside-ceiling v w shown.tells makes.writes.file makes.writes.slot makes.writes.not_root makes.writes.only held.numbers shown.numbers.ceiling;
        group = record { in_slot = shown.numbers.group.in_slot ∙ ap next_slot (sym base.journal); numbered = shown.numbers.group.numbered ∙ ap next_number (sym base.journal) };
      };
      kept = kept-stays held.members s held.numbers.next held.numbers.written m (at_stage (stage.Committing next) m) was (omega arith) shown.kept;
      tabled = tables-turned k base;
      course_behind = shown.versions.course;
      waiting_behind = shown.versions.waiting;
      readers = readers;
      slots = slots-aside v w shown.tells makes.writes shown.versions.course.followed held.limits.snaps held.slots shown.versions.slots;
      used = shown.versions.used;
      unused = shown.versions.unused;
      waits = waits-now v held s m was turn at sound commits are h shown;
      waits_beside = λ t apart. refl;
      reads = λ t. refl;
    };
    flies = flies;
    same = base.lines;
    journal = base.journal;
  }

  -- the group of its commit has its writes
  pub flies-as : (k : Ledger) (nx : CommitStage) (plan : Plan) → LedgerFacts w k → plan.lines ≡ m.written.lines → plan.classes ≡ m.classes.items → k.commit ≡ Some (commit_of_plan plan nx) → lines_with k.base plan.flight ≡ laid_all (writes_in m.written.lines) k.base.lines
  flies-as k nx plan facts lines-are classes-are under =
      let is = (facts.commit (commit_of_plan plan nx) under).is in
      ap (λ group. lines_behind group k.base.lines) is.group
      ∙ ap (λ (ws : List Write). laid_all ws k.base.lines) ((λ i. map write_of (group_lines (lines-are i) (classes-are i))) ∙ same-writes m.written.lines m.classes.items are.long)

  pub flies-going : (k : Ledger) (nx : CommitStage) (plan : Plan) → LedgerFacts w k → plan.member ≡ s → plan.lines ≡ m.written.lines → plan.classes ≡ m.classes.items → k.commit ≡ Some (commit_of_plan plan nx) → FliesAs s (writes_in m.written.lines) k
  flies-going k nx plan facts its lines-are classes-are under c is =
      let same : commit_of_plan plan nx ≡ c = same_Some (commit_of_plan plan nx) c (sym under ∙ is) in
      (ap (λ (x : Commit). x.member) (sym same) ∙ its, subst (λ (x : Commit). lines_with k.base x.flight ≡ laid_all (writes_in m.written.lines) k.base.lines) same (flies-as k nx plan facts lines-are classes-are under))
