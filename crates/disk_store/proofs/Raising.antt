-- A ceiling is raised: the root is written, and a barrier makes it stable.
use Rattle.std.proofs.Common.{◌≡◌, ◌≢◌, ◌≤◌, ◌<◌, ◌+◌, ◌⊎◌, ⊎_elim, ℕ, IsTrue, List, [], Some, inl, inr, refl, sym, ap, subst, ◌∙◌, arith}
use Rattle.std.specs.Prelude.{◌-◌, ◌^◌, slice_get, slice_set}
use Rattle.rdb_outside.specs.Disk.{View, Pending, LeftNow, OnlyReads, IsStable}
use Rattle.rdb_outside.specs.Moments.{each_slot}
use Rattle.root_file.specs.declared.Root.{Root}
use Rattle.root_file.specs.Root.{IsRoot}
use Rattle.root_file.proofs.Readings.{one_root}
use Rattle.new_database.specs.Maker.{root_file}
use Rattle.line_store.specs.Shelves.{Shelf}
use Rattle.line_store.specs.Calls.{Moves, GoesOn, Fails}
use Rattle.line_store.specs.declared.answers.Fault.TheVariants.{Bad}
use Rattle.line_store.specs.Seats.{failed_at}
use Rattle.line_store.specs.Sights.{bare}
use Rattle.line_moves.specs.Calls.{OnlyWrites}
use Rattle.ledger_versions.specs.disk_seats.Ledgers.{resting, Ledger}
use Rattle.ledger_versions.specs.disk_seats.Members.{LedgerFacts}
use Rattle.ledger_versions.proofs.of_disk_seats.Standings.{not_resting}
use Rattle.member_rooms.specs.member_steps.Beginning.{HasCeiling}
use Rattle.member_rooms.proofs.of_member_steps.Ceilings.{stays_raised}
use Rattle.member_memory.specs.Memory.{writes_in}
use Rattle.disk_store.specs.declared.member.Ceiling.TheVariants.{Asking, Raised}
use Rattle.disk_store.specs.declared.member.Member.{Member}
use Rattle.disk_store.specs.declared.member.MemberStage.TheVariants as stage
use Rattle.disk_store.specs.declared.held.Numbers.{Numbers}
use Rattle.disk_store.specs.Memory.{StoreMemory, at_stage, begun_with}
use Rattle.disk_store.specs.Numbers.{kept_at, kept_in, raised_to, with_raised, with_settled}
use Rattle.disk_store.specs.Seats.{seat_with, stand_of, stand_at, steps_in}
use Rattle.disk_store.specs.Standing.{StageStands}
use Rattle.disk_store.specs.Shown.{DoesOn, CeilingStands, Shown}
use Rattle.disk_store.proofs.Kept.{kept-set}
use Rattle.disk_store.proofs.Stepping.{ComesTo, Becomes, does-apart, space-same}
use Rattle.disk_store.proofs.Passing.{Passes, header-beside, header-read, headers-all, passes-none, passes-aside, passes-reads, none-leaves, reads-leave, tables-pass, slots-pass, reads-ceiling}
use Rattle.disk_store.proofs.Failing.{KeepsIt, does-failed, sits-failed}
use Rattle.disk_store.proofs.NoBackups.{copier-stays}
use Rattle.disk_store.proofs.Drawing.{MayDraw, Leads}
use Rattle.disk_store.proofs.Beside.{SameHeader, stays-there}

-- ---- numbers

not-lower : (numbers : Numbers) → (numbers.written ≡ numbers.ceiling) ⊎ (numbers.ceiling + 64 ≤ numbers.written) → numbers.ceiling ≤ numbers.written
not-lower numbers raised = ⊎_elim (λ same. omega (arith, same)) (λ more. omega (arith, more)) raised

-- the one who draws has none kept for it
none-kept : (ms : List Member) (s : ℕ) (m n : Member) → slice_get ms s ≡ Some m → m.stage ≡ stage.Beginning Asking → kept_at n.stage ≡ 0 → kept_in (slice_set ms s n) ≡ kept_in ms
none-kept ms s m n is begins none = let set = kept-set ms s m n is in let old : kept_at m.stage ≡ 0 = ap kept_at begins in omega (arith, set, old, none)

-- or the one that was kept
one-kept : (ms : List Member) (s : ℕ) (m n : Member) → slice_get ms s ≡ Some m → m.stage ≡ stage.Beginning Raised → kept_at n.stage ≡ 0 → kept_in (slice_set ms s n) + 1 ≡ kept_in ms
one-kept ms s m n is begins none = let set = kept-set ms s m n is in let old : kept_at m.stage ≡ 1 = ap kept_at begins in omega (arith, set, old, none)

one-more-kept : (ms : List Member) (s : ℕ) (m : Member) → slice_get ms s ≡ Some m → m.stage ≡ stage.Beginning Asking → kept_in (slice_set ms s (at_stage (stage.Beginning Raised) m)) ≡ kept_in ms + 1
one-more-kept ms s m is begins = let set = kept-set ms s m (at_stage (stage.Beginning Raised) m) is in let old : kept_at m.stage ≡ 0 = ap kept_at begins in omega (arith, set, old)

-- a number below the ceiling that isn't kept for another
pub may-draw : (v : View) (held : StoreMemory) (s : ℕ) (m : Member) → slice_get held.members s ≡ Some m → m.stage ≡ stage.Beginning Asking → held.numbers.next + kept_in held.members < held.numbers.ceiling → (h : Shelf) → Shown v held h → MayDraw v held s held.numbers.ceiling (begun_with held.numbers.next m)
may-draw v held s m was begins free h shown =
    let same = none-kept held.members s m (begun_with held.numbers.next m) was begins refl in
    let order = not-lower held.numbers shown.numbers.ceiling.raised in
    record {
      stands = record { pending = shown.numbers.ceiling.pending; written = shown.numbers.ceiling.written; below = shown.numbers.ceiling.below; raised = shown.numbers.ceiling.raised };
      below = omega (arith, free);
      free = omega (arith, free, same, order);
    }

-- behind a barrier the number that was kept
pub may-draw-kept : (v w : View) (held : StoreMemory) (s : ℕ) (m : Member) → slice_get held.members s ≡ Some m → m.stage ≡ stage.Beginning Raised → OnlyReads v w → (IsTrue v.tells → IsStable w) → (h : Shelf) → Shown v held h → MayDraw w held s held.numbers.written (begun_with held.numbers.next m)
may-draw-kept v w held s m was begins only stable h shown =
    let fewer = one-kept held.members s m (begun_with held.numbers.next m) was begins refl in
    let there = reads-ceiling v w shown.tells only held.numbers shown.numbers.ceiling in
    record {
      stands = record {
        pending = λ content root p is. there.written root (subst (λ (bytes : List ℕ). IsRoot bytes root) (stable shown.tells root_file 0 content p) is);
        written = there.written;
        below = omega (arith, shown.kept);
        raised = inl refl;
      };
      below = omega (arith, fewer, shown.kept);
      free = omega (arith, fewer, shown.kept);
    }

pub leads-read : (v w : View) (held : StoreMemory) → OnlyReads v w → (IsTrue v.tells → (g : Ledger) → LedgerFacts v g → LedgerFacts w g) → Leads v w held
leads-read v w held only keeps = record {
  told = only.told;
  later = only.later;
  no_fewer = only.no_fewer;
  leaves = reads-leave v w only;
  passes = λ t. passes-reads v w t only;
  headers = λ told t. header-read v w told only t;
  facts = λ h shown. keeps shown.tells shown.ledger shown.facts;
}

-- it is there
pub number-is-kept : (v : View) (held : StoreMemory) (s : ℕ) (m : Member) → slice_get held.members s ≡ Some m → m.stage ≡ stage.Beginning Raised → (h : Shelf) → Shown v held h → held.numbers.next < held.numbers.written
number-is-kept v held s m was begins h shown = let fewer = one-kept held.members s m (begun_with held.numbers.next m) was begins refl in omega (arith, fewer, shown.kept)

pub does-none : (v w : View) (held : StoreMemory) (s : ℕ) (m : Member) → slice_get held.members s ≡ Some m → m.stage ≡ stage.Beginning Raised → held.numbers.written ≤ held.numbers.next → (R : Shelf → Shelf → Type 0) → DoesOn s (stand_at held.members s) R v held w (with_settled held)
does-none v w held s m was begins none R = record {
  does = record {
    mine = refl;
    others = λ t apart. refl;
    steps = λ t apart. refl;
    copier = λ number. copier-stays (stand_at held.members s) (slice_get held.members s) (stand_at held.members s) s number refl;
    each = λ h shown. absurd (let kept = number-is-kept v held s m was begins h shown in omega (arith, kept, none));
  };
  rolls = λ h shown. absurd (let kept = number-is-kept v held s m was begins h shown in omega (arith, kept, none));
}

-- ---- another's root waits for a barrier, or one is written

-- what is known behind the write
pub record IsRaisedTo (v w : View) (held : StoreMemory) (ceiling : ℕ) : Type 0 where
  pub stands : CeilingStands w (raised_to ceiling held.numbers)
  pub room : held.numbers.next + (kept_in held.members + 1) ≤ ceiling

module _ (v w : View) (held : StoreMemory) (s ceiling : ℕ) (m : Member) (was : slice_get held.members s ≡ Some m) (begins : m.stage ≡ stage.Beginning Asking) (leads : Leads v w held) (raises : (h : Shelf) → Shown v held h → IsRaisedTo v w held ceiling) where
  abbrev n : Member
  n = at_stage (stage.Beginning Raised) m

  abbrev behind : StoreMemory
  behind = with_raised s ceiling m held

  rests : (g : Ledger) → StageStands m.stage v g s m → g.standing s ≡ resting
  rests g stands = subst (λ x. StageStands x v g s m) begins stands

  module _ (h : Shelf) (shown : Shown v held h) (stands : StageStands m.stage v shown.ledger s m) where
    abbrev g : Ledger
    g = shown.ledger

    p : Passes v w
    p = leads.passes shown.tells

    it : IsRaisedTo v w held ceiling
    it = raises h shown

    kept-now : held.numbers.next + kept_in (slice_set held.members s n) ≤ ceiling
    kept-now = let more = one-more-kept held.members s m was begins in omega (arith, more, it.room)

    abbrev waits-now : ComesTo v w behind s n g shown.versions.course shown.versions.waiting
    waits-now = record {
      ledger = g;
      facts = leads.facts h shown;
      limits = refl;
      none = λ t apart rests. rests;
      others = λ t x apart got stood. stays-there v w g g t p.areas (record { standing = inl refl; going = refl; commit = refl }) x (leads.headers shown.tells t) stood;
      mine = rests g stands;
      numbered = record { number = shown.numbers.number; first = shown.numbers.first; ceiling = it.stands; group = shown.numbers.group };
      kept = kept-now;
      tabled = tables-pass v w p g g held.tables refl shown.tables;
      course_behind = shown.versions.course;
      waiting_behind = shown.versions.waiting;
      readers = p.readers g held.limits.snaps shown.versions.course shown.versions.waiting shown.versions.readers;
      slots = slots-pass v w p shown.versions.course.followed held.limits.snaps held.slots shown.versions.slots;
      waits = tt;
      waits_beside = λ t apart. refl;
      reads = λ t. refl;
      used = shown.versions.used;
      unused = shown.versions.unused;
    }

  abbrev becomes : Becomes held behind s n
  becomes = record {
    limits = refl;
    members = refl;
    space_of = λ space. space;
    spaced = λ space has. record { limits = has.limits; pages = has.pages; snaps = has.snaps; slots = has.slots };
  }

  fewer : (a b : ℕ) → a ≡ 1 → b ≡ 0 → b < a
  fewer a b one none = omega (arith, one, none)

  -- it goes on
  pub does-raise : DoesOn s (stand_at held.members s) (λ h g. GoesOn s h g) v held w behind
  does-raise = subst (λ x. DoesOn s (stand_of x) (λ h g. GoesOn s h g) v held w behind) (sym was)
      (does-apart v w held behind s m n was becomes (λ e. cc) leads.told leads.leaves waits-now leads.later leads.no_fewer (stand_of (Some m)) (λ h g. GoesOn s h g) (ap (λ x. bare (seat_with x [] [])) (sym begins))
      (λ h shown stands c is. not_resting v shown.ledger s shown.facts (rests shown.ledger stands) c is) (λ h shown stands. record { lines = refl; journal = refl; commit = refl }) space-same
      (λ h g start related moves. record {
        moves = subst (λ x. Moves s x h g) (ap (λ x. seat_with x (writes_in m.written.lines) start) (sym begins) ∙ sym related.seat) moves;
        less = fewer (h.steps s) (g.steps s) (related.steps ∙ ap (λ x. steps_in x m) begins) related.steps_behind;
      }))

-- nothing is written
pub leads-nowhere : (v : View) (held : StoreMemory) → Leads v v held
leads-nowhere v held = record { told = refl; later = omega arith; no_fewer = omega arith; leaves = none-leaves v; passes = λ t. passes-none v; headers = λ told t. refl; facts = λ h shown. shown.facts }

-- another raised it, and kept are few
pub raised-before : (v : View) (held : StoreMemory) → kept_in held.members ≤ 17 → held.numbers.ceiling < held.numbers.written → (h : Shelf) → Shown v held h → IsRaisedTo v v held held.numbers.written
raised-before v held few higher h shown =
    let more : held.numbers.ceiling + 64 ≤ held.numbers.written = ⊎_elim (λ same. absurd (omega (arith, same, higher))) (λ more. more) shown.numbers.ceiling.raised in
    record {
      stands = record { pending = shown.numbers.ceiling.pending; written = shown.numbers.ceiling.written; below = shown.numbers.ceiling.below; raised = shown.numbers.ceiling.raised };
      room = omega (arith, few, more, shown.numbers.ceiling.below);
    }

module _ (v w : View) (held : StoreMemory) (root : Root) (only : OnlyWrites root_file 0 v w) (higher : root.ceiling ≡ held.numbers.written + 64) (limits : root.limits ≡ held.limits) (lower : held.numbers.written ≤ held.numbers.ceiling)
    (roots : IsTrue v.tells → (content : List ℕ) → Pending w root_file 0 content → Pending v root_file 0 content ⊎ IsRoot content root)
    (keeps : IsTrue v.tells → (g : Ledger) → LedgerFacts v g → root.limits ≡ g.base.limits → g.base.next_tsn ≤ root.ceiling → LedgerFacts w g) where
  same : CeilingStands v held.numbers → held.numbers.written ≡ held.numbers.ceiling
  same stands = let order = not-lower held.numbers stands.raised in omega (arith, order, lower)

  pending-now : IsTrue v.tells → CeilingStands v held.numbers → HasCeiling (Pending w) held.numbers.ceiling
  pending-now t stands = let is = same stands in stays_raised v w held.numbers.ceiling root (omega (arith, higher, is)) (roots t) stands.pending

  facts-now : (h : Shelf) (shown : Shown v held h) → LedgerFacts w shown.ledger
  facts-now h shown =
      let is = same shown.numbers.ceiling in
      keeps shown.tells shown.ledger shown.facts (limits ∙ sym shown.limits) (omega (arith, shown.numbers.number, shown.numbers.ceiling.below, is, higher))

  passes-root : IsTrue v.tells → Passes v w
  passes-root t = passes-aside v w root_file 0 t (λ e. cc) (λ e. cc) only

  header-root : IsTrue v.tells → (t : ℕ) → SameHeader t v w
  header-root told t = header-beside v w root_file 0 told (λ e. cc) only t

  pub leads-root : Leads v w held
  leads-root = record { told = only.told; later = only.later; no_fewer = only.no_fewer; leaves = only.leaves; passes = passes-root; headers = header-root; facts = facts-now }

  -- where the write failed reads give the old root or this one
  pub keeps-root : (s : ℕ) (m : Member) → (IsTrue w.tells → LeftNow w w.content) → KeepsIt v w held s m
  keeps-root s m left = record {
    told = only.told;
    later = only.later;
    no_fewer = only.no_fewer;
    leaves = only.leaves;
    passes = passes-root;
    ceiling = λ t stands. let pends = pending-now t stands in let is = same stands in record {
      pending = pends;
      written = λ other here. let low = pends (w.content root_file 0) other (each_slot w w.content (left (subst IsTrue (sym only.told) t)) root_file 0) here in omega (arith, low, is);
      below = stands.below;
      raised = stands.raised;
    };
    headers = λ t. headers-all v w s (header-root t);
    own = λ h shown stands at. header-root shown.tells s;
    facts = λ h shown stands. facts-now h shown;
  }

  module _ (stands : IsTrue v.tells → IsRoot (w.content root_file 0) root) (few : kept_in held.members ≤ 17) where
    pub raised-now : (h : Shelf) → Shown v held h → IsRaisedTo v w held root.ceiling
    raised-now h shown = let is = same shown.numbers.ceiling in record {
      stands = record {
        pending = pending-now shown.tells shown.numbers.ceiling;
        written = λ other here. let one = ap (λ (r : Root). r.ceiling) (one_root (w.content root_file 0) other root here (stands shown.tells)) in omega (arith, one);
        below = shown.numbers.ceiling.below;
        raised = inr (omega (arith, higher, is));
      };
      room = omega (arith, few, higher, is, shown.numbers.ceiling.below);
    }

-- the numbers are used up, and nothing changes
pub does-refuse-now : (v : View) (held : StoreMemory) (s : ℕ) (m : Member) → slice_get held.members s ≡ Some m → m.stage ≢ stage.Changing → (file : _) (slot : ℕ) → 2 ^ 62 - 64 < held.numbers.ceiling
    → DoesOn s (failed_at (stand_at held.members s)) (λ h g. Fails s (Bad file slot) h g) v held v held
does-refuse-now v held s m was other file slot spent = does-failed held s m was other (λ h g. Fails s (Bad file slot) h g) v v held held (record {
  does = record {
    mine = refl;
    others = λ t apart. refl;
    steps = λ t apart. refl;
    copier = λ number. copier-stays (stand_at held.members s) (slice_get held.members s) (stand_at held.members s) s number refl;
    each = λ h shown. record {
      shelf = h;
      shown = shown;
      related = record {
        moves = record {
          now = refl;
          mine = sym (sits-failed v held s m was other h shown);
          others = record { seat = λ t apart. refl; steps = λ t apart. refl; later = record { later = omega arith; no_fewer = omega arith } };
          space = space-same h.space;
        };
        cause = subst (λ (n : ℕ). 2 ^ 62 - 64 < n) (sym shown.promised) spent;
      };
      lasts = record { since = λ t lines early is. inl is };
      opens = λ t early was. was;
      backed = λ number t lines early apart was. was;
    };
  };
  rolls = λ h shown base last was. was;
})
