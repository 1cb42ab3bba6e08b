-- The calls of the store, beside what sessions copy.
use Rattle.std.proofs.Common.{◌≡◌, ◌+◌, ◌==◌, ◌<◌, ⊎_elim, inl, inr, ℕ, Bool, true, false, List, [], take, Option, Some, None, Result, Ok, Err, OnOk, OnErr, IfErr, IfOk, is_some, refl, sym, ap, subst, ◌∙◌}
use Rattle.std.proofs.lemmas.Bool.{eqb-true, eqb-false}
use Rattle.std.proofs.lemmas.Option.{none-some}
use Rattle.rdb_types.specs.declared.keys.Dbkey.{Dbkey}
use Rattle.rdb_outside.specs.Disk.{View}
use Rattle.line_view.specs.declared.writes.Write.{Write}
use Rattle.line_view.specs.Knowledge.{Lines, line_in, lines_in}
use Rattle.line_view.specs.Held.{Held as Known}
use Rattle.line_store.specs.declared.answers.ChangeStop.{ChangeStop}
use Rattle.line_store.specs.declared.answers.ChangeStop.TheVariants as change
use Rattle.line_store.specs.declared.answers.CommitStop.{CommitStop}
use Rattle.line_store.specs.declared.answers.CommitStop.TheVariants as commit
use Rattle.line_store.specs.declared.answers.Fault.{Fault}
use Rattle.line_store.specs.declared.answers.Progress.{Progress}
use Rattle.line_store.specs.declared.answers.Progress.TheVariants as progress
use Rattle.line_store.specs.declared.answers.ReadStop.{ReadStop}
use Rattle.line_store.specs.declared.answers.ReadStop.TheVariants as read
use Rattle.line_store.specs.declared.answers.Stepped.{Stepped}
use Rattle.line_store.specs.declared.answers.Stepped.TheVariants.{More, Done, Committed, Recovered}
use Rattle.line_store.specs.Seats.{Seat, outside, beginning, writing, changing, broken, prepared, committing, rolling_back, closing, reading, copying, dead, begun, group_of, lines_added, lines_written, writes_of}
use Rattle.line_store.specs.Shelves.{Shelf, seen_by, set_aside_beside}
use Rattle.line_store.specs.Rooms.{IsFull, IsRoom, first_line}
use Rattle.line_store.specs.Calls.{Changes, Comes, IsRead, MayStopChange, MayStopCommit, Moves}
use Rattle.line_store.specs.Sights.{bare, Does, LearnsArea, LearnsLine, LearnsSome, Sight}
use Rattle.backup_steps.specs.next_lines.partial_backup.declared.copying.Copying.{Copying}
use Rattle.change_steps.specs.disk_store.Grown.{Grow}
use Rattle.change_steps.specs.disk_store.Memory.{StoreMemory}
use Rattle.change_steps.specs.disk_store.declared.member.Member.{Member}
use Rattle.change_steps.specs.disk_store.declared.member.MemberStage.{MemberStage}
use Rattle.change_steps.specs.disk_store.declared.member.MemberStage.TheVariants as stage
use Rattle.change_steps.specs.disk_store.Seats.{seat_with, stand_of, stand_at, IsAtStage}
use Rattle.change_steps.specs.disk_store.Shown.{DoesOn, Shown, sight_of}
use Rattle.store_copies.specs.Memory.{CopiesMemory, copied_by}
use Rattle.store_copies.specs.Shown.{with_copies, is_reader, AreReaders, LeavesOthers, ShownWith, copied_sight}
use Rattle.store_copies.proofs.Begins.{reading-at}
use Rattle.store_copies.proofs.Plain.{Leaves, does-with}
use Rattle.store_copies.proofs.Relations.{changes-with, comes-with, moves-with, reads-with}
use Rattle.store_copies.proofs.Seated.{aside-with, seat-with, seen-with}
use Rattle.store_copies.proofs.Sighted.{same-reader}

-- ---- what a call leaves of others, whatever it answers

pub record Beside (s : ℕ) (old new : Sight) : Type 0 where
  pub stand : (t : ℕ) → (t == s) ≡ false → bare (new.stand t) ≡ bare (old.stand t)
  pub steps : (t : ℕ) → (t == s) ≡ false → new.steps t ≡ old.steps t

pub beside-of : (s : ℕ) (there : Seat) (R : Shelf → Shelf → Type 0) (v w : View) (held behind : StoreMemory) → DoesOn s there R v held w behind → Beside s (sight_of v held) (sight_of w behind)
beside-of s there R v w held behind does = record { stand = does.does.others; steps = does.does.steps }

pub beside-either : {T E : Type 0} (r : Result T E) (s : ℕ) (a b : Seat) (R Q : Shelf → Shelf → Type 0) (v w : View) (held behind : StoreMemory) → OnOk r (DoesOn s a R v held w behind) → OnErr r (DoesOn s b Q v held w behind) → Beside s (sight_of v held) (sight_of w behind)
beside-either (Ok x) s a b R Q v w held behind ok err = beside-of s a R v w held behind ok
beside-either (Err e) s a b R Q v w held behind ok err = beside-of s b Q v w held behind err

pub on-ok : {T E P Q : Type 0} (r : Result T E) → (P → Q) → OnOk r P → OnOk r Q
on-ok (Ok x) to is = to is
on-ok (Err e) to is = is

pub on-err : {T E P Q : Type 0} (r : Result T E) → (P → Q) → OnErr r P → OnErr r Q
on-err (Ok x) to is = is
on-err (Err e) to is = to is

pub if-err : {T E : Type 0} (r : Result T E) (P Q : E → Type 0) → ((e : E) → P e → Q e) → IfErr r P → IfErr r Q
if-err (Ok x) P Q to is = is
if-err (Err e) P Q to is = to e is

pub if-ok : {T E : Type 0} (r : Result T E) (P Q : T → Type 0) → ((x : T) → P x → Q x) → IfOk r P → IfOk r Q
if-ok (Ok x) P Q to is = to x is
if-ok (Err e) P Q to is = is

-- and so does who began to copy
pub begun-readers : {T E : Type 0} (r : Result T E) (held behind : StoreMemory) (before after : CopiesMemory) (s : ℕ) → AreReaders held before → LeavesOthers s held behind → ((t : ℕ) → (t ≡ s → ⊥) → copied_by after t ≡ copied_by before t)
    → OnOk r (IsAtStage behind.members s stage.Reading) → OnErr r (copied_by after s ≡ None) → AreReaders behind after
begun-readers {T} {E} r held behind before after s were leaves others reads nothing t c is = by (t == s) refl
  where
    here : (q : Result T E) → OnOk q (IsAtStage behind.members s stage.Reading) → OnErr q (copied_by after s ≡ None) → copied_by after s ≡ Some c → is_reader (stand_at behind.members s) ≡ true
    here (Ok x) at none own = ap (λ (y : Option Member). is_reader (stand_of y)) at.is ∙ ap (λ (st : MemberStage). is_reader (seat_with st [] [])) at.at
    here (Err e) at none own = absurd (none-some c (sym none ∙ own))

    by : (b : Bool) → (t == s) ≡ b → is_reader (stand_at behind.members t) ≡ true
    by true same = let e : t ≡ s = eqb-true t s same in ap (λ (u : ℕ). is_reader (stand_at behind.members u)) e ∙ here r reads nothing (ap (copied_by after) (sym e) ∙ is)
    by false apart = same-reader (stand_at behind.members t) (stand_at held.members t) (leaves.stand t apart) (were t c (sym (others t (eqb-false t s apart)) ∙ is))

-- who copies goes on as a reader
pub readers-beside : (v w : View) (held behind : StoreMemory) (copies : CopiesMemory) (s : ℕ) → copied_by copies s ≡ None → Beside s (sight_of v held) (sight_of w behind) → AreReaders held copies → AreReaders behind copies
readers-beside v w held behind copies s none beside were t c is = by (t == s) refl
  where
    by : (b : Bool) → (t == s) ≡ b → is_reader (stand_at behind.members t) ≡ true
    by true here = absurd (none-some c (sym none ∙ (ap (copied_by copies) (sym (eqb-true t s here)) ∙ is)))
    by false apart = same-reader (stand_at behind.members t) (stand_at held.members t) (beside.stand t apart) (were t c is)

-- ---- whether a session copies

pub none-of : (x : Option Copying) → is_some x ≡ false → x ≡ None
none-of None is = refl
none-of (Some c) is = absurd (cc)

pub some-of : (x : Option Copying) → is_some x ≡ true → (c : Copying) × (x ≡ Some c)
some-of None is = absurd (cc)
some-of (Some c) is = (c, refl)

bare-reading : (seat : Seat) → is_reader seat ≡ true → bare seat ≡ reading []
bare-reading (reading start) is = refl
bare-reading outside is = absurd (cc)
bare-reading beginning is = absurd (cc)
bare-reading (writing ws) is = absurd (cc)
bare-reading (changing ws) is = absurd (cc)
bare-reading (broken ws) is = absurd (cc)
bare-reading (prepared ws) is = absurd (cc)
bare-reading (committing ws) is = absurd (cc)
bare-reading (rolling_back ws) is = absurd (cc)
bare-reading closing is = absurd (cc)
bare-reading (copying number start) is = absurd (cc)
bare-reading (dead commits ws) is = absurd (cc)

module _ (held : StoreMemory) (before : CopiesMemory) (s : ℕ) (were : AreReaders held before) (c : Copying) (is : copied_by before s ≡ Some c) where
  pub reads-there : IsAtStage held.members s stage.Reading
  reads-there = reading-at held.members s (bare-reading (stand_at held.members s) (were s c is))

  pub readers-stepped : (after : CopiesMemory) → ((t : ℕ) → (t ≡ s → ⊥) → copied_by after t ≡ copied_by before t) → AreReaders held after
  readers-stepped after others t x own = by (t == s) refl
    where
      by : (b : Bool) → (t == s) ≡ b → is_reader (stand_at held.members t) ≡ true
      by true same = ap (λ (u : ℕ). is_reader (stand_at held.members u)) (eqb-true t s same) ∙ were s c is
      by false apart = were t x (sym (others t (eqb-false t s apart)) ∙ own)

-- ---- calls of a session that copies nothing

module _ (v w : View) (held behind : StoreMemory) (copies : CopiesMemory) (s : ℕ) (none : copied_by copies s ≡ None) (left : Leaves v w) (grows : Grow held.tables behind.tables) where
  abbrev with : Shelf → Shelf
  with h = with_copies (copied_by copies) h

  abbrev still : (t : ℕ) → (t == s) ≡ false → copied_by copies t ≡ copied_by copies t
  still t apart = refl

  -- it moves to a seat that the shelf says
  pub moved : {former : View} (there : Seat) (to : Shelf → Seat) → begun (stand_at held.members s) there ≡ None → ((h : Shelf) → to (with h) ≡ to h) → DoesOn s there (λ h g. Moves s (to h) h g) v held w behind
      → Does s there (λ h g. Moves s (to h) h g) (copied_sight former v held copies) (copied_sight former w behind copies)
  moved there to begins same does = does-with v w held behind copies s none left grows there (λ h g. Moves s (to h) h g) (λ h g. Moves s (to h) h g) begins
      (λ h g moves t apart. moves.others.seat t apart)
      (λ h g moves. subst (λ (seat : Seat). Moves s seat (with h) (with g)) (sym (same h)) (moves-with (copied_by copies) (copied_by copies) s still none none (to h) h g moves)) does

  pub changed : {former : View} (there : Seat) (more : List Write) → begun (stand_at held.members s) there ≡ None → DoesOn s there (λ h g. Changes s more h g) v held w behind
      → Does s there (λ h g. Changes s more h g) (copied_sight former v held copies) (copied_sight former w behind copies)
  changed there more begins does = does-with v w held behind copies s none left grows there (λ h g. Changes s more h g) (λ h g. Changes s more h g) begins
      (λ h g changes t apart. changes.others.seat t apart)
      (λ h g changes. changes-with (copied_by copies) (copied_by copies) s still none none more h g changes) does

  reads-keep : (result : Result Progress ReadStop) (h g : Shelf) → IsRead s h g result → (t : ℕ) → (t == s) ≡ false → g.seat t ≡ h.seat t
  reads-keep (Ok progress.Done) h g is t apart = is.others.seat t apart
  reads-keep (Ok progress.More) h g is t apart = is.moves.others.seat t apart
  reads-keep (Err read.NoMemory) h g is t apart = is.others.seat t apart
  reads-keep (Err (read.Fault fault)) h g is t apart = is.moves.others.seat t apart

  pub looked : {former : View} (there : Seat) (result : Result Progress ReadStop) → begun (stand_at held.members s) there ≡ None → DoesOn s there (λ h g. IsRead s h g result) v held w behind
      → Does s there (λ h g. IsRead s h g result) (copied_sight former v held copies) (copied_sight former w behind copies)
  looked there result begins does = does-with v w held behind copies s none left grows there (λ h g. IsRead s h g result) (λ h g. IsRead s h g result) begins
      (λ h g is t apart. reads-keep result h g is t apart)
      (λ h g is. reads-with (copied_by copies) (copied_by copies) s still none none result h g is) does

  comes-keep : (result : Result Stepped Fault) (h g : Shelf) → Comes s h g result → (t : ℕ) → (t == s) ≡ false → g.seat t ≡ h.seat t
  comes-keep (Ok More) h g is t apart = is.moves.others.seat t apart
  comes-keep (Ok Done) h g is t apart = is.moves.others.seat t apart
  comes-keep (Ok (Committed moment)) h g is t apart = is.commits.others.seat t apart
  comes-keep (Ok (Recovered true moment)) h g is t apart = is.commits.others.seat t apart
  comes-keep (Ok (Recovered false moment)) h g is t apart = is.moves.others.seat t apart
  comes-keep (Err fault) h g is t apart = is.moves.others.seat t apart

  pub stepped : {former : View} (there : Seat) (result : Result Stepped Fault) → begun (stand_at held.members s) there ≡ None → DoesOn s there (λ h g. Comes s h g result) v held w behind
      → Does s there (λ h g. Comes s h g result) (copied_sight former v held copies) (copied_sight former w behind copies)
  stepped there result begins does = does-with v w held behind copies s none left grows there (λ h g. Comes s h g result) (λ h g. Comes s h g result) begins
      (λ h g is t apart. comes-keep result h g is t apart)
      (λ h g is. comes-with (copied_by copies) (copied_by copies) s still none none result h g is) does

-- ---- what a session sees

module _ (v : View) (held : StoreMemory) (copies : CopiesMemory) (s : ℕ) where
  -- as without the copies
  pub seen-same : {former : View} (h : Shelf) (shown : ShownWith former v held copies h) → seen_by s h ≡ seen_by s shown.plain
  seen-same h shown = ap (λ (x : Shelf). seen_by s x) shown.is ∙ seen-with (copied_by copies) shown.plain s

  pub learns-line : {former : View} (key : Dbkey) (old new : Known) → LearnsLine (sight_of v held) s key old new → LearnsLine (copied_sight former v held copies) s key old new
  learns-line key old new learns = record {
    image = learns.image;
    learnt = learns.learnt;
    seen = λ h shown. learns.seen shown.plain shown.shown ∙ ap (λ (lines : Lines). line_in key lines) (sym (seen-same h shown));
  }

  pub learns-area : {former : View} (area : ℕ) (old new : Known) → LearnsArea (sight_of v held) s area old new → LearnsArea (copied_sight former v held copies) s area old new
  learns-area area old new learns = record {
    lines = learns.lines;
    learnt = learns.learnt;
    seen = λ h shown. learns.seen shown.plain shown.shown ∙ ap (λ (lines : Lines). lines_in area lines) (sym (seen-same h shown));
  }

  pub learns-some : {former : View} (area : ℕ) (old new : Known) → LearnsSome (sight_of v held) s area old new → LearnsSome (copied_sight former v held copies) s area old new
  learns-some area old new learns = record {
    lines = learns.lines;
    learnt = learns.learnt;
    seen = λ h shown. learns.seen shown.plain shown.shown ∙ ap (λ (lines : Lines). take learns.learnt.0 (lines_in area lines)) (sym (seen-same h shown));
  }

  pub is-room : {former : View} (area : ℕ) (from : Option Dbkey) (key : Dbkey) (h : Shelf) (shown : ShownWith former v held copies h) → IsRoom shown.plain s area from key → IsRoom h s area from key
  is-room area from key h shown is = subst (λ (x : Shelf). IsRoom x s area from key) (sym shown.is) (record {
    area_is = is.area_is;
    file = is.file;
    lies = is.lies;
    stands = is.stands;
    free = ap (λ (lines : Lines). line_in key lines) (seen-with (copied_by copies) shown.plain s) ∙ is.free;
  })

  pub is-full : {former : View} (area limit : ℕ) (h : Shelf) (shown : ShownWith former v held copies h) → IsFull shown.plain s area limit → IsFull h s area limit
  is-full area limit h shown is = subst (λ (x : Shelf). IsFull x s area limit) (sym shown.is) (record {
    limit_is = is.limit_is;
    file = is.file;
    lies = is.lies;
    all = λ page first last. ⊎_elim (λ space. inl space)
        (λ rest. inr (⊎_elim (λ taken. inl taken)
        (λ there. inr (λ none. there (ap (λ (lines : Lines). line_in (first_line area page) lines) (sym (seen-with (copied_by copies) shown.plain s)) ∙ none))) rest)) (is.all page first last);
  })

  -- what stops a change or a commit, where the session copies nothing
  module _ (none : copied_by copies s ≡ None) where
    stops-change : (more : List Write) (stop : ChangeStop) (h : Shelf) → MayStopChange h s more stop → MayStopChange (with_copies (copied_by copies) h) s more stop
    stops-change more (change.RujFull limit) h is = (is.0, subst (λ (seat : Seat). limit < lines_written (writes_of seat) + lines_added (writes_of seat) more) (sym (seat-with (copied_by copies) h s none)) is.1)
    stops-change more (change.SnapFull limit) h is = (is.0, subst (λ (seat : Seat). limit < h.space.snaps + lines_added (writes_of seat) more) (sym (seat-with (copied_by copies) h s none)) is.1)
    stops-change more (change.Unfit key) h is = is
    stops-change more change.NoMemory h is = tt

    pub may-stop-change : {former : View} (more : List Write) (stop : ChangeStop) → ((h : Shelf) → Shown v held h → MayStopChange h s more stop) → (h : Shelf) → ShownWith former v held copies h → MayStopChange h s more stop
    may-stop-change more stop may h shown = subst (λ (x : Shelf). MayStopChange x s more stop) (sym shown.is) (stops-change more stop shown.plain (may shown.plain shown.shown))

    stops-commit : (stop : CommitStop) (h : Shelf) → MayStopCommit h s stop → MayStopCommit (with_copies (copied_by copies) h) s stop
    stops-commit (commit.AijFull limit) h is = (
      is.0,
      subst (λ (seat : Seat). 0 < lines_written (writes_of seat)) (sym seat) is.1,
      subst (λ (n : ℕ). limit < (1 + h.space.slots) + (n + group_of (writes_of ((with_copies (copied_by copies) h).seat s)))) (sym (aside-with (copied_by copies) h s))
          (subst (λ (x : Seat). limit < (1 + h.space.slots) + (set_aside_beside s h + group_of (writes_of x))) (sym seat) is.2),
    )
      where
        seat : (with_copies (copied_by copies) h).seat s ≡ h.seat s
        seat = seat-with (copied_by copies) h s none
    stops-commit commit.NoMemory h is = tt

    pub may-stop-commit : {former : View} (stop : CommitStop) → ((h : Shelf) → Shown v held h → MayStopCommit h s stop) → (h : Shelf) → ShownWith former v held copies h → MayStopCommit h s stop
    may-stop-commit stop may h shown = subst (λ (x : Shelf). MayStopCommit x s stop) (sym shown.is) (stops-commit stop shown.plain (may shown.plain shown.shown))
