-- Before-images of a session that died, put back.
use Rattle.std.proofs.Common.{◌≡◌, ◌≤◌, ◌<◌, ◌==◌, ◌+◌, ◌-◌, ⊎_elim, ℕ, zero, suc, Bool, false, IsTrue, [], Some, inl, refl, sym, ap, subst, ◌∙◌, arith}
use Rattle.std.specs.Prelude.{slice_get, if◌then◌else◌}
use Rattle.rdb_types.specs.declared.file.FileId.{FileId}
use Rattle.rdb_types.specs.declared.file.FileKind.TheVariants.{Area, Snap}
use Rattle.rdb_outside.specs.Disk.{View, Pending}
use Rattle.area_files.specs.Areas.{IsDataPage, space_page_of}
use Rattle.stable_lines.specs.Slots.{area_file, IsAreaFile}
use Rattle.line_versions.specs.Files.{snap_file}
use Rattle.line_moves.specs.declared.places.Place.{Place}
use Rattle.line_moves.specs.Calls.{OnlyWrites}
use Rattle.line_moves.specs.Classes.{HaveTheirClasses, KeepsOwners}
use Rattle.line_moves.proofs.PageWrite.{space_apart}
use Rattle.line_moves.proofs.Putting.{nat_cases}
use Rattle.line_opening.specs.Undoing.{PutsBack}
use Rattle.line_store.specs.Shelves.{Shelf}
use Rattle.line_store.specs.Calls.{Moves, GoesOn}
use Rattle.line_store.specs.Sights.{bare}
use Rattle.disk_seats.specs.Ledgers.{undoing, set_standing, stands_as, Ledger}
use Rattle.disk_seats.specs.Members.{LedgerFacts}
use Rattle.disk_seats.proofs.Standings.{not_undoing}
use Rattle.disk_store.specs.ledger_versions.Readers.{ReaderFacts}
use Rattle.disk_store.proofs.of_ledger_versions.Written.{still_back}
use Rattle.disk_store.proofs.of_ledger_versions.Restanding.{restands, keeps_others}
use Rattle.member_memory.specs.Memory.{writes_in}
use Rattle.disk_store.specs.declared.member.Member.{Member}
use Rattle.disk_store.specs.declared.member.MemberStage.TheVariants as stage
use Rattle.disk_store.specs.declared.member.Recovery.{Recovery}
use Rattle.disk_store.specs.declared.member.Recovery.TheVariants as recovery
use Rattle.disk_store.specs.Dying.{undoing_with}
use Rattle.disk_store.specs.Memory.{StoreMemory, with_member, at_stage}
use Rattle.disk_store.specs.Seats.{seat_with, stand_of, stand_at, recovery_left, steps_in}
use Rattle.disk_store.specs.Standing.{IsUndone, RecoveryStands, StageStands}
use Rattle.disk_store.specs.Shown.{DoesOn, TablesStand, Shown}
use Rattle.disk_store.proofs.Moving.{itself}
use Rattle.disk_store.proofs.Kept.{kept-stays}
use Rattle.disk_store.proofs.Beside.{SameSpaces, StaysWith, stays-with}
use Rattle.disk_store.proofs.Stepping.{ComesTo, does-apart, becomes-member, space-same}
use Rattle.disk_store.proofs.Passing.{header-beside, passes-none, none-leaves, same-ledger, aside-ceiling, slots-stay}

-- a recovery with so many before-images left
pub undone-with : (g : Ledger) (s : ℕ) (m : Member) (rest : ℕ) → IsUndone g s m rest → RecoveryStands (undoing_with rest) g s m
undone-with g s m zero is = is
undone-with g s m (suc rest) is = is

-- What the call says of a ledger: each line is as it was, or its before-image again, and so many are left.
pub record PutsThem (v w : View) (g : Ledger) (s : ℕ) (m : Member) (left rest : ℕ) (u : IsUndone g s m left) : Type 0 where
  pub lines : PutsBack u.transaction v.content w.content
  pub facts : LedgerFacts w (stands_as s (undoing u.all rest) g)

module _ (v w : View) (held : StoreMemory) (s : ℕ) (m : Member) (commits : Bool) (left rest : ℕ) (next : Recovery) (was : slice_get held.members s ≡ Some m) (at : m.stage ≡ stage.Dead commits (recovery.Undoing left))
    (reached : (g : Ledger) → IsUndone g s (at_stage (stage.Dead commits next) m) rest → RecoveryStands next g s (at_stage (stage.Dead commits next) m))
    (file slot : ℕ) (plain : IsDataPage (slot + 1)) (only : OnlyWrites (area_file file) slot v w)
    (said : IsTrue v.tells → (g : Ledger) → LedgerFacts v g → g.base.limits ≡ held.limits → (u : IsUndone g s m left) → PutsThem v w g s m left rest u)
    (classes : IsTrue v.tells → (g : Ledger) → LedgerFacts v g → (its : ℕ → ℕ) → HaveTheirClasses its (Pending v) → HaveTheirClasses its (Pending w))
    (owners : IsTrue v.tells → (g : Ledger) → LedgerFacts v g → (there : Place) (area : ℕ) → IsAreaFile there.file → IsDataPage there.page → KeepsOwners (Pending v) (Pending w) there area) where
  abbrev n : Member
  n = at_stage (stage.Dead commits next) m

  undone-at : (g : Ledger) → StageStands m.stage v g s m → IsUndone g s m left
  undone-at g stands = subst (λ x. StageStands x v g s m) at stands

  not-area : (f : ℕ) → snap_file f ≡ area_file file → ⊥
  not-area f same = let bad : Snap ≡ Area = ap (λ (x : FileId). x.kind) same in cc

  back : (k : ℕ) → k ≡ k + 1 - 1
  back k = omega arith

  spaces : IsTrue v.tells → SameSpaces v w
  spaces t f page is = only.content t (area_file f) (space_page_of page - 1) (λ same here. space_apart page (slot + 1) (omega arith) plain.plain (here ∙ back slot) is.is_page.first)

  module _ (h : Shelf) (shown : Shown v held h) (stands : StageStands m.stage v shown.ledger s m) where
    abbrev g : Ledger
    g = shown.ledger

    u : IsUndone g s m left
    u = undone-at g stands

    puts : PutsThem v w g s m left rest u
    puts = said shown.tells g shown.facts shown.limits u

    abbrev after : Ledger
    after = stands_as s (undoing u.all rest) g

    stays : (t : ℕ) → (t == s) ≡ false → StaysWith t g after
    stays t apart = record {
      standing = inl (ap (λ b. if b then undoing u.all rest else g.standing t) apart);
      going = refl;
      commit = λ c own is. is;
    }

    mine : IsUndone after s n rest
    mine = record {
      transaction = u.transaction;
      all = u.all;
      stands = ap (λ b. if b then undoing u.all rest else g.standing s) (itself s);
      is_open = u.is_open;
      number = u.number;
      count = u.count;
      keys = u.keys;
    }

    same_page : (page : ℕ) → 1 ≤ page → page - 1 ≡ slot → slot + 1 ≡ page
    same_page page first here = omega (arith, first, here)

    tables-put : TablesStand w after held.tables
    tables-put = record {
      committed = shown.tables.committed;
      classes = shown.tables.classes;
      lie = classes shown.tells g shown.facts shown.tables.classes shown.tables.lie;
      class = shown.tables.class;
      owned = λ place area is within is-plain owner. ⊎_elim
          (λ here. owners shown.tells g shown.facts place area is (subst (λ (p : ℕ). IsDataPage p) (same_page place.page within.first here) plain) (shown.tables.owned place area is within is-plain owner))
          (λ off x p. shown.tables.owned place area is within is-plain owner x (only.pending shown.tells (area_file place.file) (place.page - 1) x (λ same here. off here) p))
          (nat_cases (place.page - 1) slot);
    }

    readers-put : ReaderFacts w after held.limits.snaps shown.versions.course shown.versions.waiting
    readers-put =
        let moved = still_back v w held.limits.snaps shown.versions.course shown.versions.waiting g shown.tells shown.versions.readers (area_file file) slot (λ e. cc) s left u.all u.transaction shown.facts u.stands u.is_open only puts.lines in
        restands w held.limits.snaps shown.versions.course shown.versions.waiting g (set_standing s (undoing u.all rest) g.standing) g.commit g.history g.moments (keeps_others s (undoing u.all rest) g.standing (λ bad. bad)) moved.its moved.put moved

    abbrev put-now : ComesTo v w (record (with_member s n held) { numbers = held.numbers }) s n g shown.versions.course shown.versions.waiting
    put-now = record {
      ledger = after;
      facts = puts.facts;
      limits = refl;
      none = λ t apart rests. ap (λ b. if b then undoing u.all rest else g.standing t) apart ∙ rests;
      others = λ t x apart got stood. stays-with v w g after t (spaces shown.tells) (λ its lie. classes shown.tells g shown.facts its lie) (stays t apart) x (header-beside v w (area_file file) slot shown.tells (λ e. cc) only t) stood;
      mine = reached after mine;
      numbered = record { number = shown.numbers.number; first = shown.numbers.first; ceiling = aside-ceiling v w shown.tells (area_file file) slot (λ e. cc) only held.numbers shown.numbers.ceiling; group = shown.numbers.group };
      kept = kept-stays held.members s held.numbers.next held.numbers.written m n was (omega arith) shown.kept;
      tabled = tables-put;
      course_behind = shown.versions.course;
      waiting_behind = shown.versions.waiting;
      readers = readers-put;
      slots = slots-stay v w (λ f i. only.content shown.tells (snap_file f) i (λ same here. not-area f same)) shown.versions.course.followed held.limits.snaps held.slots shown.versions.slots;
      waits = tt;
      waits_beside = λ t apart. refl;
      reads = λ t. refl;
      used = shown.versions.used;
      unused = shown.versions.unused;
    }

  -- its seat stays
  pub does-back : (R : Shelf → Shelf → Type 0) →
      ((h g : Shelf) (shown : Shown v held h) → IsUndone shown.ledger s m left → Moves s (h.seat s) h g → h.steps s ≡ left + 3 → g.steps s ≡ recovery_left next n → h.clock.faults ≡ v.faults → g.clock.faults ≡ w.faults → R h g) →
      DoesOn s (stand_at held.members s) R v held w (with_member s n held)
  does-back R as-asked = subst (λ x. DoesOn s (stand_of x) R v held w (with_member s n held)) (sym was)
      (does-apart v w held (record (with_member s n held) { numbers = held.numbers }) s m n was (becomes-member held held.numbers s n) (λ e. cc) only.told only.leaves put-now
      only.later only.no_fewer (stand_of (Some m)) R (ap (λ x. bare (seat_with x [] [])) (sym at))
      (λ h shown stands c is. let undone = undone-at shown.ledger stands in not_undoing v shown.ledger s shown.facts undone.all left undone.stands c is) (λ h shown stands. record { lines = refl; journal = refl; commit = refl }) space-same
      (λ h g start related moves. as-asked h g related.shown (undone-at related.shown.ledger related.stands)
      (subst (λ x. Moves s x h g) (ap (λ x. seat_with x (writes_in m.written.lines) start) (sym at) ∙ sym related.seat) moves)
      (related.steps ∙ ap (λ x. steps_in x m) at) related.steps_behind related.shown.lines.faults related.faults_behind))

-- ---- none is left

module _ (v : View) (held : StoreMemory) (s : ℕ) (m : Member) (commits : Bool) (left : ℕ) (was : slice_get held.members s ≡ Some m) (at : m.stage ≡ stage.Dead commits (recovery.Undoing left)) (none-left : left ≡ 0) where
  abbrev restoring : Member
  restoring = at_stage (stage.Dead commits recovery.Restoring) m

  undone-there : (g : Ledger) → StageStands m.stage v g s m → IsUndone g s m 0
  undone-there g stands = subst (λ (k : ℕ). IsUndone g s m k) none-left (subst (λ x. StageStands x v g s m) at stands)

  restores : (g : Ledger) → IsUndone g s m 0 → IsUndone g s restoring 0
  restores g u = record { transaction = u.transaction; all = u.all; stands = u.stands; is_open = u.is_open; number = u.number; count = u.count; keys = u.keys }

  fewer : (a b : ℕ) → a ≡ left + 3 → b ≡ 2 → b < a
  fewer a b three two = omega (arith, three, two)

  pub does-none-left : DoesOn s (stand_at held.members s) (λ h g. GoesOn s h g) v held v (with_member s restoring held)
  does-none-left = subst (λ x. DoesOn s (stand_of x) (λ h g. GoesOn s h g) v held v (with_member s restoring held)) (sym was)
      (does-apart v v held (record (with_member s restoring held) { numbers = held.numbers }) s m restoring was (becomes-member held held.numbers s restoring) (λ e. cc) refl (none-leaves v)
      (λ h shown stands. same-ledger v v (passes-none v) held s restoring h shown (λ t apart. refl) shown.numbers.ceiling (kept-stays held.members s held.numbers.next held.numbers.written m restoring was (omega arith) shown.kept) shown.facts (restores shown.ledger (undone-there shown.ledger stands)) tt)
      (omega arith) (omega arith) (stand_of (Some m)) (λ h g. GoesOn s h g) (ap (λ x. bare (seat_with x [] [])) (sym at))
      (λ h shown stands c is. let u = undone-there shown.ledger stands in not_undoing v shown.ledger s shown.facts u.all 0 u.stands c is) (λ h shown stands. record { lines = refl; journal = refl; commit = refl }) space-same
      (λ h g start related moves. record {
        moves = subst (λ x. Moves s x h g) (ap (λ x. seat_with x (writes_in m.written.lines) start) (sym at) ∙ sym related.seat) moves;
        less = fewer (h.steps s) (g.steps s) (related.steps ∙ ap (λ x. steps_in x m) at) related.steps_behind;
      }))

-- ---- what is left falls

pub fewer-left : (rest left : ℕ) (m : Member) → rest < left → recovery_left (undoing_with rest) m < left + 3
fewer-left zero left m less = omega (arith, less)
fewer-left (suc rest) left m less = omega (arith, less)
