-- A before-image of a change is written, or the header before the first.
use Rattle.std.proofs.Common.{◌≡◌, ◌≢◌, ◌≤◌, ◌<◌, ◌==◌, ◌++◌, ℕ, true, false, IsTrue, List, [], ◌∷◌, length, Option, Some, None, ◌⊎◌, inl, inr, refl, sym, ap, subst, ◌∙◌, arith}
use Rattle.std.specs.Prelude.{slice_get, if◌then◌else◌}
use Rattle.std.specs.FinMap.Entries.{find}
use Rattle.std.proofs.lemmas.Option.{same_Some}
use Rattle.rdb_types.specs.declared.keys.Dbkey.{Dbkey}
use Rattle.rdb_types.specs.declared.keys.Line.{Line}
use Rattle.rdb_types.specs.declared.keys.Limits.{Limits}
use Rattle.rdb_types.specs.declared.keys.Tsn.{Tsn}
use Rattle.rdb_types.specs.Order.{dbkey_order}
use Rattle.rdb_types.specs.declared.file.FileId.{FileId}
use Rattle.rdb_outside.specs.Causes.{Rose}
use Rattle.rdb_outside.specs.Disk.{View, IsPending}
use Rattle.line_view.specs.declared.writes.Write.{Write}
use Rattle.line_view.specs.Knowledge.{Lines}
use Rattle.line_store.specs.Seats.{in_flight, failed_at}
use Rattle.line_store.specs.Shelves.{Shelf}
use Rattle.line_store.specs.Calls.{Moves, GoesOn, Fails}
use Rattle.line_store.specs.declared.answers.Fault.{Fault}
use Rattle.line_store.specs.declared.answers.Fault.TheVariants.{Failed, Bad}
use Rattle.stable_lines.specs.Slots.{Undo, ruj_file, line_at, named}
use Rattle.stable_lines.specs.Image.{IsNoneOf}
use Rattle.stable_lines.specs.Progress.{Open}
use Rattle.line_moves.specs.Calls.{OnlyWrites}
use Rattle.disk_seats.specs.Ledgers.{Standing, broken, changing, Ledger, stands_as}
use Rattle.disk_seats.specs.Members.{IsChanging, LedgerFacts, IsLeftTo, MemberStands}
use Rattle.ledger_versions.specs.Readers.{set_waiting}
use Rattle.ledger_versions.proofs.LinesJoin.{line_journalled}
use Rattle.member_memory.proofs.Growing.{get-more, length-more}
use Rattle.disk_store.specs.declared.member.Member.{Member}
use Rattle.disk_store.specs.declared.member.MemberStage.TheVariants as stage
use Rattle.disk_store.specs.Memory.{StoreMemory, at_stage, with_member}
use Rattle.disk_store.specs.Seats.{seat_with, stand_of, stand_at, steps_in}
use Rattle.disk_store.specs.Standing.{HasBegun, IsJournalling, StageStands}
use Rattle.disk_store.specs.Shown.{DoesOn, Sits, SitsAs, WaitPushed, WaitsAs, Shown}
use Rattle.disk_store.specs.Sound.{IsSound}
use Rattle.disk_store.specs.ChangeSteps.{named_now, journalled_more}
use Rattle.disk_store.proofs.Moving.{itself}
use Rattle.disk_store.proofs.Members.{get-within}
use Rattle.disk_store.proofs.Beside.{StaysOf, stays-there}
use Rattle.disk_store.proofs.Kept.{kept-stays}
use Rattle.disk_store.proofs.Stepping.{ComesTo, does-step, becomes-member, space-same}
use Rattle.disk_store.proofs.Passing.{Passes, headers-beside, passes-aside, aside-ceiling, tables-pass, slots-pass, same-ledger}
use Rattle.change_steps.proofs.Breaking.{StaysShown, taken-broken, does-break}
use Rattle.disk_store.proofs.SlotsSound.{found-key}
use Rattle.change_steps.proofs.LeftTo.{left-to, not-borne}

-- ---- what memory has of a key that has no before-image yet

-- it isn't among those that have one
pub none-yet : (g : Ledger) (s : ℕ) (m : Member) (key : Dbkey) → ((i k : ℕ) (q : Dbkey) → slice_get m.written.keys i ≡ Some q → slice_get m.written.keys k ≡ Some q → i ≡ k) → (has : HasBegun g s m) → slice_get m.written.keys m.journalled ≡ Some key → IsNoneOf key has.all
none-yet g s m key once has is i undo got same =
    let at : i ≡ m.journalled = once i m.journalled key (has.keys i undo got ∙ ap Some same) is in
    let less = get-within has.all i undo got in
    omega (arith, at, less, has.count)

-- it lies within the limit of pages
pub key-within : (v : View) (held : StoreMemory) (sound : IsSound held) (s : ℕ) (m : Member) (was : slice_get held.members s ≡ Some m) (key : Dbkey) (line : Line) → find dbkey_order key m.written.lines ≡ Some line → (h : Shelf) (shown : Shown v held h) → key.page ≤ shown.ledger.base.limits.pages
key-within v held sound s m was key line found h shown =
    let lies = (sound.each s m was).lies key line found in
    let long = shown.space.pages.limit lies.place.file in
    let limit = ap (λ (l : Limits). l.pages) (shown.space.limits ∙ sym shown.limits) in
    omega (arith, long, limit, lies.is_line.within.last)

-- what is left is less

pub named-fewer : (m : Member) → m.stage ≡ stage.Changing → m.named ≡ false → steps_in (named_now m).stage (named_now m) < steps_in m.stage m
named-fewer m at unnamed =
    let one : ◌≡◌ {A = ℕ} (if m.named then 0 else 1) 1 = ap (λ b. if b then 0 else 1) unnamed in
    let new : steps_in (named_now m).stage (named_now m) ≡ steps_in stage.Changing (named_now m) = ap (λ x. steps_in x (named_now m)) at in
    let old : steps_in m.stage m ≡ steps_in stage.Changing m = ap (λ x. steps_in x m) at in
    omega (arith, one, new, old)

pub journalled-fewer : (m : Member) → m.stage ≡ stage.Changing → m.journalled < length m.written.keys → steps_in (journalled_more m).stage (journalled_more m) < steps_in m.stage m
journalled-fewer m at less =
    let new : steps_in (journalled_more m).stage (journalled_more m) ≡ steps_in stage.Changing (journalled_more m) = ap (λ x. steps_in x (journalled_more m)) at in
    let old : steps_in m.stage m ≡ steps_in stage.Changing m = ap (λ x. steps_in x m) at in
    omega (arith, new, old, less)

-- the ledger behind a header
pub header-facts : (v w : View) (held : StoreMemory) (s : ℕ) (m : Member) → slice_get held.members s ≡ Some m → IsSound held → (key : Dbkey) → slice_get m.written.keys m.journalled ≡ Some key
    → (IsTrue v.tells → (g : Ledger) (o : Open) (all : List Undo) (stable : ℕ) → LedgerFacts v g → g.standing s ≡ changing all stable → g.base.going s ≡ Some o → m.tsn ≡ o.tsn → m.journalled ≡ length all → IsNoneOf key all → IsLeftTo s key g.standing → key.page ≤ g.base.limits.pages → LedgerFacts w g)
    → (h : Shelf) (shown : Shown v held h) → HasBegun shown.ledger s m → LedgerFacts w shown.ledger
header-facts v w held s m was sound key is goes h shown has =
    let line = found-key held sound s m was m.journalled key is in
    goes shown.tells shown.ledger has.transaction has.all has.stable shown.facts has.stands has.is_open has.number has.count (none-yet shown.ledger s m key (sound.each s m was).keys.once has is)
    (left-to v held sound h shown s m was key line.0 line.1) (key-within v held sound s m was key line.0 line.1 h shown)

module _ (v w : View) (held : StoreMemory) (s : ℕ) (m : Member) (was : slice_get held.members s ≡ Some m) (sound : IsSound held) (at : m.stage ≡ stage.Changing) (slot : ℕ) (only : OnlyWrites (ruj_file s) slot v w) where
  is-journalling : (g : Ledger) → StageStands m.stage v g s m → IsJournalling v g s m
  is-journalling g stands = subst (λ x. StageStands x v g s m) at stands

  pub has-begun : (g : Ledger) → StageStands m.stage v g s m → HasBegun g s m
  has-begun g stands = (is-journalling g stands).begun

  pub passes : IsTrue v.tells → Passes v w
  passes t = passes-aside v w (ruj_file s) slot t (λ e. cc) (λ e. cc) only

  still : (ws : List Write) (start : Lines) → in_flight (seat_with m.stage ws start) ≡ None
  still ws start = ap (λ x. in_flight (seat_with x ws start)) at

  steps-were : steps_in m.stage m ≡ steps_in stage.Changing m
  steps-were = ap (λ x. steps_in x m) at

  plain : m.stage ≢ stage.Reading
  plain reads = let bad : stage.Changing ≡ stage.Reading = sym at ∙ reads in cc

  -- ---- the header

  module _ (facts : (h : Shelf) (shown : Shown v held h) → HasBegun shown.ledger s m → LedgerFacts w shown.ledger) (unnamed : m.named ≡ false) (names : IsTrue v.tells → named (w.content (ruj_file s) 0) ≡ m.tsn.number) where
    abbrev n : Member
    n = named_now m

    pub named-less : steps_in n.stage n < steps_in m.stage m
    named-less =
        let one : ◌≡◌ {A = ℕ} (if m.named then 0 else 1) 1 = ap (λ b. if b then 0 else 1) unnamed in
        let new : steps_in n.stage n ≡ steps_in stage.Changing n = ap (λ x. steps_in x n) at in
        let old = steps-were in
        omega (arith, one, new, old)

    begun-named : (g : Ledger) → HasBegun g s m → HasBegun g s n
    begun-named g has = record { transaction = has.transaction; all = has.all; stable = has.stable; stands = has.stands; is_open = has.is_open; number = has.number; count = has.count; keys = has.keys }

    journals-named : (g : Ledger) → IsTrue v.tells → HasBegun g s m → IsJournalling w g s n
    journals-named g t has = record { begun = begun-named g has; header = λ noted. names t }

    pub does-name : DoesOn s (stand_at held.members s) (λ h g. GoesOn s h g) v held w (with_member s n held)
    does-name = subst (λ x. DoesOn s (stand_of x) (λ h g. GoesOn s h g) v held w (with_member s n held)) (sym was)
        (does-step v w held (record (with_member s n held) { numbers = held.numbers }) s m n was (becomes-member held held.numbers s n) plain only.told only.leaves
        (λ h shown stands. same-ledger v w (passes shown.tells) held s n h shown (headers-beside v w s slot shown.tells only) (aside-ceiling v w shown.tells (ruj_file s) slot (λ e. cc) only held.numbers shown.numbers.ceiling) (kept-stays held.members s held.numbers.next held.numbers.written m n was (omega arith) shown.kept) (facts h shown (has-begun shown.ledger stands))
        (subst (λ x. StageStands x w shown.ledger s n) (sym at) (journals-named shown.ledger shown.tells (has-begun shown.ledger stands))) (subst (λ x. WaitsAs x shown.versions.waiting s n) (sym at) (subst (λ x. WaitsAs x shown.versions.waiting s m) at (shown.versions.waits s m was))))
        only.later only.no_fewer (stand_of (Some m)) (λ h g. GoesOn s h g) refl still (λ h shown stands. record { lines = refl; journal = refl; commit = refl }) space-same
        (λ h g start related moves. record { moves = subst (λ x. Moves s x h g) (sym related.seat) moves; less = let new = related.steps_behind in let old = related.steps in let less = named-less in omega (arith, new, old, less) }))

  -- ---- a before-image

  module _ (key : Dbkey) (is : slice_get m.written.keys m.journalled ≡ Some key) (now : IsTrue v.tells → IsPending v v.content)
      (facts : IsTrue v.tells → (g : Ledger) (o : Open) (all : List Undo) (stable : ℕ) → LedgerFacts v g → g.standing s ≡ changing all stable → g.base.going s ≡ Some o → m.tsn ≡ o.tsn → m.journalled ≡ length all → IsNoneOf key all → IsLeftTo s key g.standing → key.page ≤ g.base.limits.pages
      → LedgerFacts w (stands_as s (changing (all ++ (record { key = key; before = line_at v.content key }) ∷ []) stable) g)) where
    abbrev more : Member
    more = journalled_more m

    abbrev line : Line
    line = (found-key held sound s m was m.journalled key is).0

    found : find dbkey_order key m.written.lines ≡ Some line
    found = (found-key held sound s m was m.journalled key is).1

    pub more-less : steps_in more.stage more < steps_in m.stage m
    more-less =
        let new : steps_in more.stage more ≡ steps_in stage.Changing more = ap (λ x. steps_in x more) at in
        let old = steps-were in
        let less = get-within m.written.keys m.journalled key is in
        omega (arith, new, old, less)

    module _ (h : Shelf) (shown : Shown v held h) (stands : StageStands m.stage v shown.ledger s m) where
      abbrev g : Ledger
      g = shown.ledger

      has : HasBegun g s m
      has = has-begun g stands

      left : IsLeftTo s key g.standing
      left = left-to v held sound h shown s m was key line found

      abbrev undo : Undo
      undo = record { key = key; before = line_at v.content key }

      abbrev after : Ledger
      after = stands_as s (changing (has.all ++ undo ∷ []) has.stable) g

      p : Passes v w
      p = passes shown.tells

      there : (t : ℕ) → (t == s) ≡ false → StaysOf t g after
      there t apart = record { standing = inl (ap (λ b. if b then changing (has.all ++ undo ∷ []) has.stable else g.standing t) apart); going = refl; commit = refl }

      keys-more : (i : ℕ) (u : Undo) → slice_get (has.all ++ undo ∷ []) i ≡ Some u → slice_get m.written.keys i ≡ Some u.key
      keys-more i u got = elim (get-more has.all undo u i got) [
        | inl old ↦ has.keys i u old
        | inr new ↦ ap (λ k. slice_get m.written.keys k) (new.0 ∙ sym has.count) ∙ is ∙ ap (λ (x : Undo). Some x.key) new.1
      ]

      stands-more : after.standing s ≡ changing (has.all ++ undo ∷ []) has.stable
      stands-more = ap (λ b. if b then changing (has.all ++ undo ∷ []) has.stable else g.standing s) (itself s)

      mine : HasBegun after s more
      mine = record {
        transaction = has.transaction;
        all = has.all ++ undo ∷ [];
        stable = has.stable;
        stands = stands-more;
        is_open = has.is_open;
        number = has.number;
        count = let long = length-more has.all undo in omega (arith, long, has.count);
        keys = keys-more;
      }

      facts-more : LedgerFacts w after
      facts-more = facts shown.tells g has.transaction has.all has.stable shown.facts has.stands has.is_open has.number has.count (none-yet g s m key (sound.each s m was).keys.once has is) left (key-within v held sound s m was key line found h shown)

      -- its header stands, as one that has a before-image
      header-more : named (w.content (ruj_file s) 0) ≡ m.tsn.number
      header-more =
          let its : IsChanging w g.base s (has.all ++ undo ∷ []) has.stable = subst (λ (st : Standing). MemberStands w g.base s st) stands-more (facts-more.member s) in
          let long = length-more has.all undo in
          its.seat.names (omega (arith, long)) ∙ ap (λ (o : Open). o.tsn.number) (same_Some _ _ (sym its.seat.is_open ∙ has.is_open)) ∙ ap (λ (k : Tsn). k.number) (sym has.number)

      mine-now : IsJournalling w after s more
      mine-now = record { begun = mine; header = λ noted. header-more }

      -- the lines that wait are the same
      waits-still : (set_waiting s (shown.versions.waiting s) shown.versions.waiting) s ≡ shown.versions.waiting s
      waits-still = ap (λ b. if b then shown.versions.waiting s else shown.versions.waiting s) (itself s)

      abbrev to-more : ComesTo v w (record (with_member s more held) { numbers = held.numbers }) s more g shown.versions.course shown.versions.waiting
      to-more = record {
        ledger = after;
        facts = facts-more;
        limits = refl;
        none = λ t apart rests. ap (λ b. if b then changing (has.all ++ undo ∷ []) has.stable else g.standing t) apart ∙ rests;
        others = λ t x apart got stood. stays-there v w g after t p.areas (there t apart) x (headers-beside v w s slot shown.tells only t apart) stood;
        mine = subst (λ x. StageStands x w after s more) (sym at) mine-now;
        numbered = record { number = shown.numbers.number; first = shown.numbers.first; ceiling = aside-ceiling v w shown.tells (ruj_file s) slot (λ e. cc) only held.numbers shown.numbers.ceiling; group = shown.numbers.group };
        kept = kept-stays held.members s held.numbers.next held.numbers.written m more was (omega arith) shown.kept;
        tabled = tables-pass v w p g after held.tables refl shown.tables;
        course_behind = shown.versions.course;
        waiting_behind = set_waiting s (shown.versions.waiting s) shown.versions.waiting;
        readers = line_journalled v g held.limits.snaps shown.versions.course shown.versions.waiting s has.all has.stable has.transaction shown.facts has.stands has.is_open shown.versions.readers w key slot shown.tells only
            (not-borne v g shown.facts s has.all has.stable has.stands key left held.limits.snaps shown.versions.course shown.versions.waiting shown.versions.readers (now shown.tells));
        slots = slots-pass v w p shown.versions.course.followed held.limits.snaps held.slots shown.versions.slots;
        waits = subst (λ x. WaitsAs x (set_waiting s (shown.versions.waiting s) shown.versions.waiting) s more) (sym at) (subst (λ ls. WaitPushed ls m.pushed m.written) (sym waits-still) (subst (λ x. WaitsAs x shown.versions.waiting s m) at (shown.versions.waits s m was)));
        waits_beside = λ t apart. ap (λ b. if b then shown.versions.waiting s else shown.versions.waiting t) apart;
        reads = λ t. refl;
        used = shown.versions.used;
        unused = shown.versions.unused;
      }

    pub does-journal : DoesOn s (stand_at held.members s) (λ h g. GoesOn s h g) v held w (with_member s more held)
    does-journal = subst (λ x. DoesOn s (stand_of x) (λ h g. GoesOn s h g) v held w (with_member s more held)) (sym was)
        (does-step v w held (record (with_member s more held) { numbers = held.numbers }) s m more was (becomes-member held held.numbers s more) plain only.told only.leaves to-more
        only.later only.no_fewer (stand_of (Some m)) (λ h g. GoesOn s h g) refl still (λ h shown stands. record { lines = refl; journal = refl; commit = refl }) space-same
        (λ h g start related moves. record { moves = subst (λ x. Moves s x h g) (sym related.seat) moves; less = let new = related.steps_behind in let old = related.steps in let less = more-less in omega (arith, new, old, less) }))

  -- ---- a fault

  module _ (kept : IsTrue v.tells → (g : Ledger) → HasBegun g s m → LedgerFacts v g → LedgerFacts w g ⊎ LedgerFacts w (stands_as s broken g)) where
    abbrev b : Member
    b = at_stage stage.Broken m

    abbrev behind-fault : StoreMemory
    behind-fault = record (with_member s b held) { numbers = held.numbers }

    stays-shown : (h : Shelf) (shown : Shown v held h) → StaysShown v w s held behind-fault h shown
    stays-shown h shown =
        let p = passes shown.tells in
        record {
          areas = p.areas;
          headers = headers-beside v w s slot shown.tells only;
          numbered = record { number = shown.numbers.number; first = shown.numbers.first; ceiling = aside-ceiling v w shown.tells (ruj_file s) slot (λ e. cc) only held.numbers shown.numbers.ceiling; group = shown.numbers.group };
          kept = kept-stays held.members s held.numbers.next held.numbers.written m b was (omega arith) shown.kept;
          tabled = tables-pass v w p shown.ledger shown.ledger held.tables refl shown.tables;
          used = shown.versions.used;
          unused = shown.versions.unused;
          readers = p.readers shown.ledger held.limits.snaps shown.versions.course shown.versions.waiting shown.versions.readers;
          slots = slots-pass v w p shown.versions.course.followed held.limits.snaps held.slots shown.versions.slots;
        }

    broken-now : (h : Shelf) (shown : Shown v held h) → HasBegun shown.ledger s m → LedgerFacts w (stands_as s broken shown.ledger)
    broken-now h shown has = elim (kept shown.tells shown.ledger has shown.facts) [
      | inl same ↦ taken-broken w shown.ledger s m (subst IsTrue (sym only.told) shown.tells) has same
      | inr broke ↦ broke
    ]

    pub does-fault : (fault : Fault) → (fault ≡ Failed → Rose v.faults w.faults) → ((h : Shelf) → Shown v held h → (file : FileId) (slot : ℕ) → fault ≡ Bad file slot → ⊥) → DoesOn s (failed_at (stand_at held.members s)) (λ h g. Fails s fault h g) v held w (with_member s b held)
    does-fault fault rose good = does-break v w held behind-fault s m b was at (becomes-member held held.numbers s b) refl refl refl only.told only.leaves only.later only.no_fewer broken-now stays-shown space-same fault rose good

    -- a header that was written stands: it isn't written again
    pub does-unnamed : (file : FileId) (i : ℕ) → m.named ≡ true → (IsTrue v.tells → named (v.content (ruj_file s) 0) ≢ m.tsn.number) → DoesOn s (failed_at (stand_at held.members s)) (λ h g. Fails s (Bad file i) h g) v held w (with_member s b held)
    does-unnamed file i noted another = does-fault (Bad file i) (λ e. let bad : Bad file i ≡ Failed = e in cc) (λ h shown f k is. another shown.tells ((is-journalling shown.ledger (sat h shown).stands).header noted))
      where
        sat : (h : Shelf) (shown : Shown v held h) → SitsAs v shown.ledger s m (h.seat s)
        sat h shown = subst (λ (x : Option Member). Sits v shown.ledger s x (h.seat s)) was (shown.seats s)
