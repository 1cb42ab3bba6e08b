-- Slots are given back behind the end of a session's transaction: what is shown behind it.
use Rattle.std.proofs.Common.{◌≡◌, ◌≢◌, ◌≤◌, ◌==◌, ◌&&◌, ℕ, Bool, true, false, not, List, [], length, Some, None, inl, inr, ⊎_elim, refl, sym, ap, subst, ◌∙◌, arith}
use Rattle.std.specs.Prelude.{slice_get, slice_set}
use Rattle.std.proofs.lemmas.Bool.{true≢false, false≢true, eq-eqb, eqb-true, and_parts}
use Rattle.std.proofs.lemmas.Option.{same_Some}
use Rattle.rdb_outside.specs.Disk.{View}
use Rattle.line_view.specs.declared.writes.Write.{Write}
use Rattle.line_view.specs.Knowledge.{Lines}
use Rattle.line_store.specs.Seats.{outside, in_flight}
use Rattle.line_store.specs.Shelves.{Shelf}
use Rattle.line_store.specs.Calls.{Moves}
use Rattle.line_store.specs.Sights.{bare}
use Rattle.snapshot_file.specs.declared.entry.SnapEntry.{SnapEntry}
use Rattle.snapshot_file.specs.Slots.{is_free}
use Rattle.line_versions.specs.Versions.{sees}
use Rattle.line_versions.specs.Files.{entries_in}
use Rattle.line_versions.specs.Course.{Course, MayBeGiven, Reading}
use Rattle.stable_lines.specs.Slots.{IsAreaFile}
use Rattle.disk_versions.specs.Courses.{course_given}
use Rattle.version_writing.specs.Slots.{SlotTable, GivesBack, HoldsFile, pusher_at}
use Rattle.version_writing.specs.Tables.{HoldsAll, table_of}
use Rattle.version_writing.specs.Wanting.{IsInUse, Sifts}
use Rattle.version_writing.specs.declared.snapshot_slots.SnapshotSlots.{SnapshotSlots}
use Rattle.disk_seats.specs.Ledgers.{Ledger}
use Rattle.disk_store.proofs.of_ledger_versions.Written.{slots_given}
use Rattle.member_memory.specs.Memory.{writes_in}
use Rattle.disk_store.specs.declared.member.Member.{Member}
use Rattle.disk_store.specs.declared.member.MemberStage.TheVariants as stage
use Rattle.disk_store.specs.ChangeSteps.{without_asides}
use Rattle.disk_store.specs.Giving.{GivesSlots, GivesUnwanted, HasAllWanted, HasNoSlots, IsUnwanted, IsUnwantedBy, MayGive, SiftsAll, SiftsSlots, StaysStill, without_slots}
use Rattle.disk_store.specs.Memory.{StoreMemory, with_member}
use Rattle.disk_store.specs.Dying.{forgotten}
use Rattle.disk_store.specs.Seats.{IsAtStage, seat_with, stand_at, stand_of}
use Rattle.disk_store.specs.Standing.{StageStands}
use Rattle.disk_store.specs.Shown.{DoesOn, IsReading, Sits, SitsAs, WaitsAs, Shown, used_in}
use Rattle.disk_store.proofs.Members.{get-within, set-beside, set-here}
use Rattle.disk_store.proofs.Kept.{kept-stays}
use Rattle.disk_store.proofs.Beside.{same-areas, stays-there}
use Rattle.disk_store.proofs.Stepping.{ComesTo, Becomes, does-step}
use Rattle.disk_store.proofs.Passing.{passes-none, none-leaves, tables-pass}
use Rattle.disk_store.proofs.Changed.{used-all}
use Rattle.disk_store.proofs.EndingOpen.{pushed-by, its}
use Rattle.disk_store.proofs.Going.{are-active, numbered}
use Rattle.disk_store.proofs.SlotsSound.{each-file}
use Rattle.disk_store.proofs.SpentSlots.{fewer-left, held-left, space-less, keeps-less, stands-less}

-- ---- so many slots are in use

given-fewer : (tsn : ℕ) (old new : SlotTable) → GivesBack old new tsn → used_in new ≤ used_in old
given-fewer tsn old new back = omega (arith, back.long, back.aside, back.left)

all-fewer : (tsn : ℕ) (old new : SnapshotSlots) → ((file : ℕ) → IsAreaFile file → GivesBack (table_of old file) (table_of new file) tsn) → used-all new ≤ used-all old
all-fewer tsn old new back =
    let a = given-fewer tsn old.catalog new.catalog (back 1 (record { first = omega arith; last = omega arith })) in
    let b = given-fewer tsn old.relations new.relations (back 2 (record { first = omega arith; last = omega arith })) in
    let c = given-fewer tsn old.indexes new.indexes (back 3 (record { first = omega arith; last = omega arith })) in
    omega (arith, a, b, c)

-- ---- nobody wants what the transaction pushed aside

module _ (v : View) (held : StoreMemory) (tsn : ℕ) (unwanted : IsUnwanted tsn held.members) (h : Shelf) (shown : Shown v held h) where
  abbrev course : Course
  course = shown.versions.course

  -- it has ended
  ended : (b : Bool) → course.going tsn ≡ b → course.going tsn ≡ false
  ended false is = is
  ended true is =
      let one = numbered held.members tsn ((are-active v held h shown).all tsn is) in
      absurd ((unwanted one.place one.member one.at).0 one.goes one.number)

  -- and each reader sees it
  seen : (r : ℕ) (x : Reading) → course.reader r ≡ Some x → sees x.start tsn ≡ true
  seen r x goes =
      let at = shown.versions.only r x goes in
      let sat : SitsAs v shown.ledger r at.member (h.seat r) = subst (λ o. Sits v shown.ledger r o (h.seat r)) at.is (shown.seats r) in
      let reading : IsReading course r at.member sat.start = shown.versions.reading r at.member sat.start at.is at.at (sat.is ∙ ap (λ st. seat_with st (writes_in at.member.written.lines) sat.start) at.at) in
      let same : reading.reading ≡ x = same_Some _ _ (sym reading.goes ∙ goes) in
      ap (λ (y : Reading). sees y.start tsn) (sym same) ∙ (ap (λ k. sees k tsn) (sym reading.kept) ∙ (unwanted r at.member at.is).1 at.at)

  pub past : (e : SnapEntry) → e.pusher.number ≡ tsn → MayBeGiven course e
  past e number = record { ended = ap course.going number ∙ ended (course.going tsn) refl; seen = λ r x goes. ap (λ k. sees x.start k) number ∙ seen r x goes }

module _ (v : View) (held : StoreMemory) (tsn : ℕ) (mid : SnapshotSlots) (given : GivesUnwanted tsn held.members held.slots mid) (h : Shelf) (shown : Shown v held h) where
  abbrev its-course : Course
  its-course = shown.versions.course

  pub may-give : (file chain : ℕ) (e : SnapEntry) → pushed-by held.slots tsn file chain ≡ true → its-course.followed file chain ≡ true → entries_in v.content file chain e → MayBeGiven its-course e
  may-give file chain e is follows stands =
      past v held tsn given.unwanted h shown e (its v held.limits.snaps held.slots its-course tsn shown.versions.slots shown.versions.readers.versions.files file chain e is follows stands)

  not-its : (file chain : ℕ) → not (pushed-by held.slots tsn file chain) ≡ true → (pusher_at (table_of held.slots file).pushers chain).number ≢ tsn
  not-its file chain off same = true≢false (sym (ap not (sym (eq-eqb _ tsn same)) ∙ off))

  pub still-holds : HoldsAll v.content (course_given (pushed-by held.slots tsn) its-course).followed held.limits.snaps mid
  still-holds file is =
      let old : HoldsFile v.content its-course.followed file held.limits.snaps (table_of held.slots file) = shown.versions.slots file is in
      let back = given.back file is in
      record {
        long = back.long ∙ old.long;
        used = λ chain first follows. let both = and_parts _ _ follows in (back.others chain first (not-its file chain both.1)).0 ∙ old.used chain first both.0;
        pusher = λ chain e follows stands. let both = and_parts _ _ follows in (back.others chain stands.number (not-its file chain both.1)).1 ∙ old.pusher chain e both.0 stands;
      }

-- ---- all that nobody wants

-- the slots that are free
abbrev free-now : SnapshotSlots → ℕ → ℕ → Bool
free-now slots = λ file chain. is_free (table_of slots file).slots chain

not-free : (b free : Bool) → (b && not free) ≡ true → free ≡ false
not-free b false follows = refl
not-free true true follows = absurd (false≢true follows)
not-free false true follows = absurd (false≢true follows)

sifted-fewer : (members : List Member) (old new : SlotTable) → Sifts (λ tsn. IsUnwanted tsn members) old new → used_in new ≤ used_in old
sifted-fewer members old new sifts = let may = sifts.may in omega (arith, may.long, may.aside, may.left)

sifted-less : (members : List Member) (old new : SnapshotSlots) → SiftsAll members old new → used-all new ≤ used-all old
sifted-less members old new all =
    let a = sifted-fewer members old.catalog new.catalog (all 1 (record { first = omega arith; last = omega arith })) in
    let b = sifted-fewer members old.relations new.relations (all 2 (record { first = omega arith; last = omega arith })) in
    let c = sifted-fewer members old.indexes new.indexes (all 3 (record { first = omega arith; last = omega arith })) in
    omega (arith, a, b, c)

module _ (v : View) (held : StoreMemory) (mid : SnapshotSlots) (all : SiftsAll held.members held.slots mid) (h : Shelf) (shown : Shown v held h) where
  abbrev of-course : Course
  of-course = shown.versions.course

  abbrev Stays : ℕ → ℕ → Type 0
  Stays file chain = (is_free (table_of mid file).slots chain ≡ is_free (table_of held.slots file).slots chain) × (pusher_at (table_of mid file).pushers chain ≡ pusher_at (table_of held.slots file).pushers chain)

  abbrev IsGiven : ℕ → ℕ → Type 0
  IsGiven file chain = (is_free (table_of mid file).slots chain ≡ true) × IsUnwanted (pusher_at (table_of held.slots file).pushers chain).number held.members

  may-sift : (file chain : ℕ) (e : SnapEntry) → free-now mid file chain ≡ true → of-course.followed file chain ≡ true → entries_in v.content file chain e → MayBeGiven of-course e
  may-sift file chain e free follows stands =
      let is : IsAreaFile file = shown.versions.readers.versions.files file chain follows in
      let old : HoldsFile v.content of-course.followed file held.limits.snaps (table_of held.slots file) = shown.versions.slots file is in
      ⊎_elim
      (λ (stays : Stays file chain). absurd (true≢false (sym free ∙ (stays.0 ∙ old.used chain stands.number follows))))
      (λ (given : IsGiven file chain). past v held (pusher_at (table_of held.slots file).pushers chain).number given.1 h shown e (ap (λ t. t.number) (sym (old.pusher chain e follows stands))))
      ((all file is).may.each chain stands.number)

  sifted-holds : HoldsAll v.content (course_given (free-now mid) of-course).followed held.limits.snaps mid
  sifted-holds file is =
      let old : HoldsFile v.content of-course.followed file held.limits.snaps (table_of held.slots file) = shown.versions.slots file is in
      let sifts = all file is in
      record {
        long = sifts.may.long ∙ old.long;
        used = λ chain first follows. not-free (of-course.followed file chain) (free-now mid file chain) follows;
        pusher = λ chain e follows stands. ⊎_elim
            (λ (stays : Stays file chain). stays.1 ∙ old.pusher chain e (and_parts _ _ follows).0 stands)
            (λ (given : IsGiven file chain). absurd (true≢false (sym given.0 ∙ not-free (of-course.followed file chain) (free-now mid file chain) follows)))
            (sifts.may.each chain stands.number);
      }

-- ---- what is shown

module _ (v : View) (held : StoreMemory) (s : ℕ) (m : Member) (was : slice_get held.members s ≡ Some m) (at : m.stage ≡ stage.Outside) (mid : SnapshotSlots) (given : ℕ → ℕ → Bool) (less : used-all mid ≤ used-all held.slots)
    (may : (h : Shelf) (shown : Shown v held h) (file chain : ℕ) (e : SnapEntry) → given file chain ≡ true → shown.versions.course.followed file chain ≡ true → entries_in v.content file chain e → MayBeGiven shown.versions.course e)
    (holds : (h : Shelf) (shown : Shown v held h) → HoldsAll v.content (course_given given shown.versions.course).followed held.limits.snaps mid) where
  abbrev n : Member
  n = without_slots m

  abbrev behind : StoreMemory
  behind = record (with_member s n held) { slots = without_asides m.aside mid }

  fewer : used-all behind.slots ≤ used-all held.slots
  fewer = let left = fewer-left m.aside mid in omega (arith, left, less)

  abbrev becomes : Becomes held behind s n
  becomes = record { limits = refl; members = refl; space_of = space-less held.slots behind.slots; spaced = λ space has. stands-less held behind space refl refl refl fewer has }

  module _ (h : Shelf) (shown : Shown v held h) (stands : StageStands m.stage v shown.ledger s m) where
    abbrev g : Ledger
    g = shown.ledger

    abbrev to-given : ComesTo v v behind s n g shown.versions.course shown.versions.waiting
    to-given = record {
      ledger = g;
      facts = shown.facts;
      limits = refl;
      none = λ t apart rests. rests;
      others = λ t x apart got stood. stays-there v v g g t (same-areas v) (record { standing = inl refl; going = refl; commit = refl }) x refl stood;
      mine = subst (λ x. StageStands x v g s n) (sym at) (subst (λ x. StageStands x v g s m) at stands);
      numbered = record { number = shown.numbers.number; first = shown.numbers.first; ceiling = shown.numbers.ceiling; group = shown.numbers.group };
      kept = kept-stays held.members s held.numbers.next held.numbers.written m n was (omega arith) shown.kept;
      tabled = tables-pass v v (passes-none v) g g held.tables refl shown.tables;
      course_behind = course_given given shown.versions.course;
      waiting_behind = shown.versions.waiting;
      readers = slots_given v held.limits.snaps shown.versions.course shown.versions.waiting g shown.versions.readers given (may h shown);
      slots = held-left v (course_given given shown.versions.course).followed held.limits.snaps m.aside mid (holds h shown);
      used = shown.versions.used;
      unused = shown.versions.unused;
      waits = subst (λ x. WaitsAs x shown.versions.waiting s n) (sym at) tt;
      waits_beside = λ t apart. refl;
      reads = λ t. refl;
    }

  still : (ws : List Write) (start : Lines) → in_flight (seat_with m.stage ws start) ≡ None
  still ws start = ap (λ x. in_flight (seat_with x ws start)) at

  pub does-still : DoesOn s outside (StaysStill s) v held v behind
  does-still = does-step v v held behind s m n was becomes (λ reads. let bad : stage.Outside ≡ stage.Reading = sym at ∙ reads in cc) refl (none-leaves v) to-given (omega arith) (omega arith) outside (StaysStill s)
      (ap (λ x. bare (seat_with x [] [])) at) still (λ h shown stands. record { lines = refl; journal = refl; commit = refl }) (λ space. keeps-less held.slots behind.slots space)
      (λ h g start related moves. (subst (λ x. Moves s x h g) (sym related.seat) moves, related.time_behind ∙ sym related.shown.lines.time))

-- by whether what it pushed is wanted
by-wants : (v : View) (held : StoreMemory) (s : ℕ) (m : Member) (was : slice_get held.members s ≡ Some m) (out : m.stage ≡ stage.Outside) (mid : SnapshotSlots) → MayGive m.tsn.number held.members held.slots mid
    → DoesOn s outside (StaysStill s) v held v (record (with_member s (without_slots m) held) { slots = without_asides m.aside mid })
by-wants v held s m was out mid (inl same) = does-still v held s m was out mid (λ file chain. false) (let e = ap used-all same.0 in omega (arith, e)) (λ h shown file chain e bad follows stands. absurd (false≢true bad))
    (λ h shown. subst (λ (x : SnapshotSlots). HoldsAll v.content (course_given (λ file chain. false) shown.versions.course).followed held.limits.snaps x) (sym same.0) (λ file is. record {
      long = (shown.versions.slots file is).long;
      used = λ chain first follows. (shown.versions.slots file is).used chain first (and_parts _ _ follows).0;
      pusher = λ chain e follows stands. (shown.versions.slots file is).pusher chain e (and_parts _ _ follows).0 stands;
    }))
by-wants v held s m was out mid (inr given) = does-still v held s m was out mid (pushed-by held.slots m.tsn.number) (all-fewer m.tsn.number held.slots mid given.back)
    (λ h shown. may-give v held m.tsn.number mid given h shown) (λ h shown. still-holds v held m.tsn.number mid given h shown)

pub does-give : (v : View) (held after : StoreMemory) (s : ℕ) → IsAtStage held.members s stage.Outside → GivesSlots s held after → DoesOn s outside (StaysStill s) v held v after
does-give v held after s at gives =
    let m : Member = gives.member in
    let out : m.stage ≡ stage.Outside = subst (λ (x : Member). x.stage ≡ stage.Outside) (same_Some at.member m (sym at.is ∙ gives.was)) at.at in
    subst (λ (x : StoreMemory). DoesOn s outside (StaysStill s) v held v x) (sym gives.is) (by-wants v held s m gives.was out gives.mid gives.gives)

-- ---- behind the end

pub forgotten-outside : (held mid : StoreMemory) (s : ℕ) (m : Member) → slice_get held.members s ≡ Some m → mid ≡ with_member s (forgotten stage.Outside m) held → IsAtStage mid.members s stage.Outside
forgotten-outside held mid s m was is = record {
  member = forgotten stage.Outside m;
  is = ap (λ (x : StoreMemory). slice_get x.members s) is ∙ set-here held.members s (forgotten stage.Outside m) (get-within held.members s m was);
  at = refl;
}

pub stands-outside : (members : List Member) (s : ℕ) → IsAtStage members s stage.Outside → stand_at members s ≡ outside
stands-outside members s at = ap stand_of at.is ∙ ap (λ st. seat_with st [] []) at.at

-- what nobody wants behind it, nobody wanted before
unwanted-before : (tsn : ℕ) (ms : List Member) (s : ℕ) (m : Member) → slice_get ms s ≡ Some m → IsUnwanted tsn (slice_set ms s (without_slots m)) → IsUnwanted tsn ms
unwanted-before tsn ms s m was unwanted t x at = by (t == s) refl
  where
    by : (b : Bool) → (t == s) ≡ b → IsUnwantedBy tsn x
    by true same =
        let one : m ≡ x = same_Some m x (sym was ∙ (ap (λ k. slice_get ms k) (sym (eqb-true t s same)) ∙ at)) in
        subst (λ (y : Member). IsUnwantedBy tsn y) one (unwanted s (without_slots m) (set-here ms s (without_slots m) (get-within ms s m was)))
    by false apart = unwanted t x (set-beside ms s t (without_slots m) apart ∙ at)

module _ (tsn : ℕ) (held : StoreMemory) (m : Member) (mid : SnapshotSlots) (given : GivesUnwanted tsn held.members held.slots mid) where
  abbrev IsGoneOf : ℕ → Type 0
  IsGoneOf f = (chain : ℕ) → 1 ≤ chain → chain ≤ length (table_of (without_asides m.aside mid) f).slots → (pusher_at (table_of (without_asides m.aside mid) f).pushers chain).number ≢ tsn

  gone : (file : ℕ) → IsAreaFile file → IsGoneOf file
  gone = each-file IsGoneOf
      (λ chain first last. let back = given.back 1 (record { first = omega arith; last = omega arith }) in back.gone chain first (omega (arith, last, back.long)))
      (λ chain first last. let back = given.back 2 (record { first = omega arith; last = omega arith }) in back.gone chain first (omega (arith, last, back.long)))
      (λ chain first last. let back = given.back 3 (record { first = omega arith; last = omega arith }) in back.gone chain first (omega (arith, last, back.long)))

pub no-slots : (held after : StoreMemory) (s : ℕ) → GivesSlots s held after → HasNoSlots s after
no-slots held after s gives =
    let m : Member = gives.member in
    subst (λ (x : StoreMemory). HasNoSlots s x) (sym gives.is) (record {
      member = without_slots m;
      is = set-here held.members s (without_slots m) (get-within held.members s m gives.was);
      none = refl;
      gone = λ unwanted file is chain first last. ⊎_elim
          (λ (same : (gives.mid ≡ held.slots) × (IsUnwanted m.tsn.number held.members → ⊥)). absurd (same.1 (unwanted-before m.tsn.number held.members s m gives.was unwanted)))
          (λ (given : GivesUnwanted m.tsn.number held.members held.slots gives.mid). gone m.tsn.number held m gives.mid given file is chain first last)
          gives.gives;
    })

-- ---- behind a reader

pub does-sift : (v : View) (held after : StoreMemory) (s : ℕ) → IsAtStage held.members s stage.Outside → SiftsSlots s held after → DoesOn s outside (StaysStill s) v held v after
does-sift v held after s at sifts =
    let m : Member = sifts.member in
    let out : m.stage ≡ stage.Outside = subst (λ (x : Member). x.stage ≡ stage.Outside) (same_Some at.member m (sym at.is ∙ sifts.was)) at.at in
    subst (λ (x : StoreMemory). DoesOn s outside (StaysStill s) v held v x) (sym sifts.is)
    (does-still v held s m sifts.was out sifts.mid (free-now sifts.mid) (sifted-less held.members held.slots sifts.mid sifts.sifts) (may-sift v held sifts.mid sifts.sifts) (sifted-holds v held sifts.mid sifts.sifts))

module _ (held : StoreMemory) (s : ℕ) (m : Member) (was : slice_get held.members s ≡ Some m) (mid : SnapshotSlots) (all : SiftsAll held.members held.slots mid) where
  abbrev IsWantedIn : ℕ → Type 0
  IsWantedIn f = (chain : ℕ) → IsInUse (table_of (without_asides m.aside mid) f).slots chain → IsUnwanted (pusher_at (table_of (without_asides m.aside mid) f).pushers chain).number (slice_set held.members s (without_slots m)) → ⊥

  wanted-all : (file : ℕ) → IsAreaFile file → IsWantedIn file
  wanted-all = each-file IsWantedIn
      (λ chain busy off. (all 1 (record { first = omega arith; last = omega arith })).wanted chain busy (unwanted-before _ held.members s m was off))
      (λ chain busy off. (all 2 (record { first = omega arith; last = omega arith })).wanted chain busy (unwanted-before _ held.members s m was off))
      (λ chain busy off. (all 3 (record { first = omega arith; last = omega arith })).wanted chain busy (unwanted-before _ held.members s m was off))

pub all-wanted : (held after : StoreMemory) (s : ℕ) → SiftsSlots s held after → HasAllWanted after
all-wanted held after s sifts = subst HasAllWanted (sym sifts.is) (wanted-all held s sifts.member sifts.was sifts.mid sifts.sifts)
