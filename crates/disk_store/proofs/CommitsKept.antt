-- What memory keeps of commits, behind what its functions change.
use Rattle.std.proofs.Common.{◌≡◌, ◌≤◌, ◌<◌, ◌+◌, ◌^◌, ◌==◌, ◌⊎◌, inl, inr, if◌then◌else◌, ℕ, zero, suc, Bool, true, false, List, [], length, sum_by, Option, Some, None, ⊎_elim, refl, sym, ap, subst, ◌∙◌, arith}
use Rattle.std.specs.Prelude.{slice_get, slice_set}
use Rattle.std.proofs.lemmas.Bool.{true≢false, eqb-false, eqb-true}
use Rattle.std.proofs.lemmas.Option.{same_Some, none-some}
use Rattle.std.specs.FinMap.Entries.{find}
use Rattle.rdb_types.specs.declared.keys.Dbkey.{Dbkey}
use Rattle.rdb_types.specs.Order.{dbkey_order}
use Rattle.rdb_page.specs.Page.{lines_of}
use Rattle.line_store.specs.Seats.{IsMember, members, group_of, lines_written, set_aside}
use Rattle.member_rooms.specs.member_steps.declared.committing.CommitTurn.{CommitTurn}
use Rattle.member_rooms.specs.member_steps.declared.committing.CommitTurn.TheVariants.{Entering}
use Rattle.line_moves.proofs.Putting.{nat_cases}
use Rattle.member_rooms.specs.page_table.Pages.{owner_in}
use Rattle.member_rooms.specs.page_table.Scans.{IsNew}
use Rattle.reader_lines.specs.version_writing.declared.snapshot_slots.SnapshotSlots.{SnapshotSlots}
use Rattle.member_memory.specs.Memory.{Memory, AreKeysOf, writes_in}
use Rattle.disk_store.specs.declared.member.Member.{Member}
use Rattle.disk_store.specs.declared.member.MemberStage.{MemberStage}
use Rattle.disk_store.specs.declared.member.MemberStage.TheVariants as stage
use Rattle.disk_store.specs.declared.member.Recovery.TheVariants as recovery
use Rattle.disk_store.specs.declared.held.Numbers.{Numbers}
use Rattle.disk_store.specs.declared.held.Tables.{Tables}
use Rattle.disk_store.specs.Memory.{StoreMemory, with_member, with_tables}
use Rattle.disk_store.specs.Preparing.{aside_of, aside_beside}
use Rattle.disk_store.specs.Seats.{seat_with, IsAtStage}
use Rattle.disk_store.specs.Shown.{pages_of}
use Rattle.disk_store.specs.Taken.{TakesIn}
use Rattle.disk_store.specs.Landing.{PutsAll, group_behind, landed_with}
use Rattle.disk_store.specs.Sound.{IsSound, IsUsedIn}
use Rattle.disk_store.specs.Dying.{forgotten}
use Rattle.disk_store.specs.Commits.{is_bound, is_free, is_flying, group_slots, due_if, due_of, due_in, HasClass, AreOfPages, IsReady, AreAlone, KeepsCommits, HasRoomFor, HasSome}
use Rattle.disk_store.proofs.Members.{set-here, set-beside, get-within}
use Rattle.disk_store.proofs.Moving.{itself}
use Rattle.disk_store.proofs.Aside.{below}
use Rattle.disk_store.proofs.Written.{lines-counted}
use Rattle.disk_store.proofs.Tabled.{some-owner}
use Rattle.disk_store.proofs.Sound.{KeepsPages, takes-keeps, sound-empty, sound-member, sound-tables, loses-lines}
use Rattle.disk_store.proofs.LinesPut.{SamePages, all-same}
use Rattle.disk_store.proofs.EverUsed.{all-back}
use Rattle.disk_store.proofs.FoundLines.{found-there}
use Rattle.disk_store.proofs.SlotsSound.{found-key}

-- ---- sums over sessions

below-low : (f g : ℕ → ℕ) → ((t : ℕ) → f t ≤ g t) → (n : ℕ) → below f n ≤ below g n
below-low f g low zero = omega arith
below-low f g low (suc n) = let rest = below-low f g low n in let one = low (suc n) in omega (arith, rest, one)

sum-low : (f g : ℕ → ℕ) → ((t : ℕ) → f t ≤ g t) → sum_by f members ≤ sum_by g members
sum-low f g low = below-low f g low 16

abbrev without : ℕ → (ℕ → ℕ) → ℕ → ℕ
without s f t = if t == s then 0 else f t

below-before : (f : ℕ → ℕ) (s n : ℕ) → n < s → below (without s f) n ≡ below f n
below-before f s zero before = refl
below-before f s (suc n) before =
    let rest = below-before f s n (omega (arith, before)) in
    let apart : (suc n == s) ≡ false = by (suc n == s) refl in
    let one : without s f (suc n) ≡ f (suc n) = ap (λ (b : Bool). if b then 0 else f (suc n)) apart in
    omega (arith, rest, one)
  where
    by : (b : Bool) → (suc n == s) ≡ b → (suc n == s) ≡ false
    by true same = absurd (let e = eqb-true (suc n) s same in omega (arith, e, before))
    by false apart = apart

below-split : (f : ℕ → ℕ) (s n : ℕ) → 1 ≤ s → s ≤ n → below f n ≡ below (without s f) n + f s
below-split f s zero first last = absurd (omega (arith, first, last))
below-split f s (suc n) first last = ⊎_elim here (beyond (λ inside. below-split f s n first inside)) (nat_cases s (suc n))
  where
    here : s ≡ suc n → below f (suc n) ≡ below (without s f) (suc n) + f s
    here same =
        let rest = below-before f s n (omega (arith, same)) in
        let mine : without s f (suc n) ≡ 0 = ap (λ (b : Bool). if b then 0 else f (suc n)) (ap (λ (k : ℕ). suc n == k) same ∙ itself (suc n)) in
        let value = ap f same in
        omega (arith, rest, mine, value)

    beyond : (s ≤ n → below f n ≡ below (without s f) n + f s) → (s ≡ suc n → ⊥) → below f (suc n) ≡ below (without s f) (suc n) + f s
    beyond before away =
        let rest = before (omega (arith, last, away)) in
        let apart : (suc n == s) ≡ false = by (suc n == s) refl in
        let one : without s f (suc n) ≡ f (suc n) = ap (λ (b : Bool). if b then 0 else f (suc n)) apart in
        omega (arith, rest, one)
      where
        by : (b : Bool) → (suc n == s) ≡ b → (suc n == s) ≡ false
        by true same = absurd (away (sym (eqb-true (suc n) s same)))
        by false apart = apart

-- one session, and the others
pub sum-split : (f : ℕ → ℕ) (s : ℕ) → IsMember s → sum_by f members ≡ sum_by (without s f) members + f s
sum-split f s is = below-split f s 16 is.first is.last

-- ---- one member is another

abbrev due-at : List Member → ℕ → ℕ
due-at ms t = due_of (slice_get ms t)

-- what is due for the others
abbrev pub due-beside : ℕ → List Member → ℕ
due-beside s ms = sum_by (without s (due-at ms)) members

module _ (ms : List Member) (s : ℕ) (m n : Member) (was : slice_get ms s ≡ Some m) where
  abbrev after : List Member
  after = slice_set ms s n

  here : slice_get after s ≡ Some n
  here = set-here ms s n (get-within ms s m was)

  beside-same : due-beside s after ≡ due-beside s ms
  beside-same = ap (λ (f : ℕ → ℕ). sum_by f members) (λ i t. by t (t == s) refl i)
    where
      by : (t : ℕ) (b : Bool) → (t == s) ≡ b → (if t == s then 0 else due-at after t) ≡ (if t == s then 0 else due-at ms t)
      by t true same = ap (λ (b : Bool). if b then 0 else due-at after t) same ∙ sym (ap (λ (b : Bool). if b then 0 else due-at ms t) same)
      by t false apart = ap (λ (x : Option Member). if t == s then 0 else due_of x) (set-beside ms s t n apart)

  pub due-before : IsMember s → due_in ms ≡ due-beside s ms + due_of (Some m)
  due-before is = sum-split (due-at ms) s is ∙ ap (λ (x : Option Member). due-beside s ms + due_of x) was

  pub due-after : IsMember s → due_in after ≡ due-beside s ms + due_of (Some n)
  due-after is = sum-split (due-at after) s is ∙ ((λ i. beside-same i + due-at after s) ∙ ap (λ (x : Option Member). due-beside s ms + due_of x) here)

  is-n : (t : ℕ) (x : Member) → t ≡ s → slice_get after t ≡ Some x → n ≡ x
  is-n t x e is = same_Some n x (sym here ∙ (ap (λ (u : ℕ). slice_get after u) (sym e) ∙ is))

  pub still-alone : (is_flying n.stage ≡ true → is_flying m.stage ≡ true) → AreAlone ms → AreAlone after
  still-alone flown alone t u a b at bt fa fb = by (t == s) refl (u == s) refl
    where
      from : (k : ℕ) (x : Member) → k ≡ s → slice_get after k ≡ Some x → is_flying x.stage ≡ true → is_flying m.stage ≡ true
      from k x e is flies = flown (ap (λ (y : Member). is_flying y.stage) (is-n k x e is) ∙ flies)

      kept : (k : ℕ) (x : Member) → (k == s) ≡ false → slice_get after k ≡ Some x → slice_get ms k ≡ Some x
      kept k x apart is = sym (set-beside ms s k n apart) ∙ is

      by : (p : Bool) → (t == s) ≡ p → (q : Bool) → (u == s) ≡ q → t ≡ u
      by true ts true us = eqb-true t s ts ∙ sym (eqb-true u s us)
      by true ts false us = let e = eqb-true t s ts in e ∙ alone s u m b was (kept u b us bt) (from t a e at fa) fb
      by false ts true us = let e = eqb-true u s us in alone t s a m (kept t a ts at) was fa (from u b e bt fb) ∙ sym e
      by false ts false us = alone t u a b (kept t a ts at) (kept u b us bt) fa fb

  pub still-ready : (tables : Tables) → IsReady n.stage tables n → ((t : ℕ) (x : Member) → slice_get ms t ≡ Some x → IsReady x.stage tables x) → (t : ℕ) (x : Member) → slice_get after t ≡ Some x → IsReady x.stage tables x
  still-ready tables mine others t x is = by (t == s) refl
    where
      by : (b : Bool) → (t == s) ≡ b → IsReady x.stage tables x
      by true same = subst (λ (y : Member). IsReady y.stage tables y) (is-n t x (eqb-true t s same) is) mine
      by false apart = others t x (sym (set-beside ms s t n apart) ∙ is)

-- room for no more
less-room : (slot limit a b : ℕ) → b ≤ a → (a ≡ 0) ⊎ (slot + a ≤ limit) → (b ≡ 0) ⊎ (slot + b ≤ limit)
less-room slot limit a b low (inl none) = inl (omega (arith, low, none))
less-room slot limit a b low (inr fits) = inr (omega (arith, low, fits))

-- a member that sets nothing more aside
pub member-kept : (held : StoreMemory) (s : ℕ) (m n : Member) → IsMember s → slice_get held.members s ≡ Some m → due_of (Some n) ≤ due_of (Some m) → (is_flying n.stage ≡ true → is_flying m.stage ≡ true) → IsReady n.stage held.tables n → KeepsCommits held → KeepsCommits (with_member s n held)
member-kept held s m n is was less flown ready kept = record {
  alone = still-alone held.members s m n was flown kept.alone;
  room = less-room held.next.slot held.limits.slots (due_in held.members) (due_in (slice_set held.members s n))
      (let a = due-before held.members s m n was is in let b = due-after held.members s m n was is in omega (arith, a, b, less)) kept.room;
  few = kept.few;
  number = kept.number;
  ready = still-ready held.members s m n was held.tables ready kept.ready;
}

-- ---- a stage that sets nothing aside

free-due : (b : Bool) (keys : ℕ) → b ≡ false → due_if b keys ≡ 0
free-due b keys is = rw is refl

pub free-bound : (st : MemberStage) → is_free st ≡ true → is_bound st ≡ false
free-bound stage.Outside free = refl
free-bound (stage.Beginning ceiling) free = refl
free-bound stage.Writing free = refl
free-bound stage.Changing free = refl
free-bound stage.Broken free = refl
free-bound stage.Prepared free = absurd (true≢false (sym free))
free-bound (stage.Committing turn) free = absurd (true≢false (sym free))
free-bound stage.RollingBack free = refl
free-bound stage.Closing free = refl
free-bound stage.Reading free = refl
free-bound (stage.Dead true left) free = absurd (true≢false (sym free))
free-bound (stage.Dead false left) free = refl

flying-bound : (st : MemberStage) → is_flying st ≡ true → is_bound st ≡ true
flying-bound stage.Outside flies = absurd (true≢false (sym flies))
flying-bound (stage.Beginning ceiling) flies = absurd (true≢false (sym flies))
flying-bound stage.Writing flies = absurd (true≢false (sym flies))
flying-bound stage.Changing flies = absurd (true≢false (sym flies))
flying-bound stage.Broken flies = absurd (true≢false (sym flies))
flying-bound stage.Prepared flies = refl
flying-bound (stage.Committing turn) flies = refl
flying-bound stage.RollingBack flies = absurd (true≢false (sym flies))
flying-bound stage.Closing flies = absurd (true≢false (sym flies))
flying-bound stage.Reading flies = absurd (true≢false (sym flies))
flying-bound (stage.Dead commits left) flies = flies

free-flies : (st : MemberStage) → is_free st ≡ true → is_flying st ≡ true → ⊥
free-flies st free flies = true≢false (sym (flying-bound st flies) ∙ free-bound st free)

free-ready : (st : MemberStage) (tables : Tables) (m : Member) → is_free st ≡ true → IsReady st tables m
free-ready stage.Outside tables m free = tt
free-ready (stage.Beginning ceiling) tables m free = tt
free-ready stage.Writing tables m free = tt
free-ready stage.Changing tables m free = tt
free-ready stage.Broken tables m free = tt
free-ready stage.Prepared tables m free = absurd (true≢false (sym free))
free-ready (stage.Committing turn) tables m free = absurd (true≢false (sym free))
free-ready stage.RollingBack tables m free = tt
free-ready stage.Closing tables m free = tt
free-ready stage.Reading tables m free = tt
free-ready (stage.Dead true left) tables m free = absurd (true≢false (sym free))
free-ready (stage.Dead false recovery.Judging) tables m free = absurd (true≢false (sym free))
free-ready (stage.Dead false recovery.Ending) tables m free = tt
free-ready (stage.Dead false (recovery.Undoing left)) tables m free = tt
free-ready (stage.Dead false recovery.Restoring) tables m free = tt

pub free-kept : (held : StoreMemory) (s : ℕ) (m n : Member) → IsMember s → slice_get held.members s ≡ Some m → is_free n.stage ≡ true → KeepsCommits held → KeepsCommits (with_member s n held)
free-kept held s m n is was free kept =
    member-kept held s m n is was (let none = free-due (is_bound n.stage) (length n.written.keys) (free-bound n.stage free) in omega (arith, none)) (λ flies. absurd (free-flies n.stage free flies)) (free-ready n.stage held.tables n free) kept

pub numbers-kept : (held : StoreMemory) (numbers : Numbers) → KeepsCommits held → KeepsCommits (record held { numbers = numbers })
numbers-kept held numbers kept = record { alone = kept.alone; room = kept.room; few = kept.few; number = kept.number; ready = kept.ready }

-- the slots of the snapshot files are others
pub slots-kept : (held : StoreMemory) (slots : SnapshotSlots) → KeepsCommits held → KeepsCommits (record held { slots = slots })
slots-kept held slots kept = record { alone = kept.alone; room = kept.room; few = kept.few; number = kept.number; ready = kept.ready }

-- a session that is dead
pub dead-kept : (held : StoreMemory) (s : ℕ) (m n : Member) → IsMember s → slice_get held.members s ≡ Some m → (commits : Bool) (left : _) → n.stage ≡ stage.Dead commits left → (is_flying n.stage ≡ true → is_flying m.stage ≡ true) → IsReady n.stage held.tables n → n.written ≡ m.written → KeepsCommits held → KeepsCommits (with_member s n held)
dead-kept held s m n is was commits left at flown ready written kept =
    member-kept held s m n is was (by commits at) flown ready kept
  where
    by : (b : Bool) → n.stage ≡ stage.Dead b left → due_of (Some n) ≤ due_of (Some m)
    by true dead =
        let up = flying-bound m.stage (flown (ap is_flying dead)) in
        let a : due_of (Some n) ≡ group_slots (length m.written.keys) = ap (λ (st : MemberStage). due_if (is_bound st) (length n.written.keys)) dead ∙ ap (λ w. group_slots (length w.keys)) written in
        let b : due_of (Some m) ≡ group_slots (length m.written.keys) = ap (λ (x : Bool). due_if x (length m.written.keys)) up in
        omega (arith, a, b)
    by false dead = let a : due_of (Some n) ≡ 0 = ap (λ (st : MemberStage). due_if (is_bound st) (length n.written.keys)) dead in omega (arith, a)

-- one that begins to commit, alone
pub begun-kept : (held : StoreMemory) (s : ℕ) (m n : Member) → IsMember s → slice_get held.members s ≡ Some m → IsAtStage held.members s stage.Prepared → n.stage ≡ stage.Committing (Entering 0) → n.written ≡ m.written → n.classes ≡ m.classes
    → ((t : ℕ) (x : Member) → (t == s) ≡ false → slice_get held.members t ≡ Some x → is_flying x.stage ≡ false) → KeepsCommits held → KeepsCommits (with_member s n held)
begun-kept held s m n is was prepared at written classes alone kept = record {
  alone = λ t u a b got also fa fb. by t u a b got also fa fb (t == s) refl (u == s) refl;
  room = less-room held.next.slot held.limits.slots (due_in held.members) (due_in (slice_set held.members s n)) (let a = due-before held.members s m n was is in let b = due-after held.members s m n was is in let d = due in omega (arith, a, b, d)) kept.room;
  few = kept.few;
  number = kept.number;
  ready = still-ready held.members s m n was held.tables (subst (λ (st : MemberStage). IsReady st held.tables n) (sym at) (subst (λ c. AreOfPages held.tables n.written.lines c.items) (sym classes) (subst (λ w. AreOfPages held.tables w.lines m.classes.items) (sym written) (subst (λ (st : MemberStage). IsReady st held.tables m) stood (kept.ready s m was))), tt)) kept.ready;
}
  where
    stood : m.stage ≡ stage.Prepared
    stood = subst (λ (x : Member). x.stage ≡ stage.Prepared) (same_Some prepared.member m (sym prepared.is ∙ was)) prepared.at

    due : due_of (Some n) ≡ due_of (Some m)
    due = (ap (λ (st : MemberStage). due_if (is_bound st) (length n.written.keys)) at ∙ ap (λ w. group_slots (length w.keys)) written) ∙ sym (ap (λ (st : MemberStage). due_if (is_bound st) (length m.written.keys)) stood)

    off : (t : ℕ) (x : Member) → (t == s) ≡ false → slice_get (slice_set held.members s n) t ≡ Some x → is_flying x.stage ≡ true → ⊥
    off t x apart got flies = true≢false (sym flies ∙ alone t x apart (sym (set-beside held.members s t n apart) ∙ got))

    by : (t u : ℕ) (a b : Member) → slice_get (slice_set held.members s n) t ≡ Some a → slice_get (slice_set held.members s n) u ≡ Some b → is_flying a.stage ≡ true → is_flying b.stage ≡ true → (p : Bool) → (t == s) ≡ p → (q : Bool) → (u == s) ≡ q → t ≡ u
    by t u a b got also fa fb true ts true us = eqb-true t s ts ∙ sym (eqb-true u s us)
    by t u a b got also fa fb true ts false us = absurd (off u b us also fb)
    by t u a b got also fa fb false ts q us = absurd (off t a ts got fa)

-- one that comes to another turn
pub turned-kept : (held : StoreMemory) (s : ℕ) (m n : Member) → IsMember s → slice_get held.members s ≡ Some m → (turn : CommitTurn) → IsAtStage held.members s (stage.Committing turn) → (next : CommitTurn) → n.stage ≡ stage.Committing next → n.written ≡ m.written → n.classes ≡ m.classes → HasSome next (length m.written.keys) → KeepsCommits held → KeepsCommits (with_member s n held)
turned-kept held s m n is was turn commits next at written classes some kept =
    member-kept held s m n is was (let d = due in omega (arith, d)) (λ flies. ap is_flying stood)
    (subst (λ (st : MemberStage). IsReady st held.tables n) (sym at) (subst (λ c. AreOfPages held.tables n.written.lines c.items) (sym classes) (subst (λ w. AreOfPages held.tables w.lines m.classes.items) (sym written) (subst (λ (st : MemberStage). IsReady st held.tables m) stood (kept.ready s m was)).0), subst (λ w. HasSome next (length w.keys)) (sym written) some)) kept
  where
    stood : m.stage ≡ stage.Committing turn
    stood = subst (λ (x : Member). x.stage ≡ stage.Committing turn) (same_Some commits.member m (sym commits.is ∙ was)) commits.at

    due : due_of (Some n) ≡ due_of (Some m)
    due = (ap (λ (st : MemberStage). due_if (is_bound st) (length n.written.keys)) at ∙ ap (λ w. group_slots (length w.keys)) written) ∙ sym (ap (λ (st : MemberStage). due_if (is_bound st) (length m.written.keys)) stood)

-- ---- a session is prepared

-- what is due is set aside
due-aside : (x : Option Member) → ((m : Member) → x ≡ Some m → AreKeysOf m.written.lines m.written.keys) → due_of x ≤ aside_of x
due-aside None keys = omega arith
due-aside (Some m) keys = by m.stage
  where
    slots-few : (lines : ℕ) → group_slots lines ≤ 1 + lines
    slots-few zero = omega arith
    slots-few (suc n) = omega arith

    group : group_slots (length m.written.keys) ≤ group_of (writes_in m.written.lines)
    group = let count = lines-counted m.written.lines m.written.keys (keys m refl) in let few = slots-few (length m.written.keys) in omega (arith, count, few)

    by : (st : MemberStage) → due_if (is_bound st) (length m.written.keys) ≤ set_aside (seat_with st (writes_in m.written.lines) [])
    by stage.Outside = omega arith
    by (stage.Beginning ceiling) = omega arith
    by stage.Writing = omega arith
    by stage.Changing = omega arith
    by stage.Broken = omega arith
    by stage.Prepared = group
    by (stage.Committing turn) = group
    by stage.RollingBack = omega arith
    by stage.Closing = omega arith
    by stage.Reading = omega arith
    by (stage.Dead true left) = group
    by (stage.Dead false left) = omega arith

pub beside-aside : (ms : List Member) (s : ℕ) → ((t : ℕ) (m : Member) → slice_get ms t ≡ Some m → AreKeysOf m.written.lines m.written.keys) → due-beside s ms ≤ aside_beside s ms
beside-aside ms s keys = sum-low (without s (due-at ms)) (λ t. if t == s then 0 else aside_of (slice_get ms t)) (λ t. by t (t == s))
  where
    by : (t : ℕ) (b : Bool) → (if b then 0 else due-at ms t) ≤ (if b then 0 else aside_of (slice_get ms t))
    by t true = omega arith
    by t false = due-aside (slice_get ms t) (λ m is. keys t m is)

pub prepared-kept : (held : StoreMemory) (s : ℕ) (m n : Member) → IsMember s → slice_get held.members s ≡ Some m → ((t : ℕ) (x : Member) → slice_get held.members t ≡ Some x → AreKeysOf x.written.lines x.written.keys) → n.stage ≡ stage.Prepared → n.written ≡ m.written → AreOfPages held.tables m.written.lines n.classes.items
    → HasRoomFor held s m → KeepsCommits held → KeepsCommits (with_member s n held)
prepared-kept held s m n is was keys at written are room kept = record {
  alone = still-alone held.members s m n was (λ flies. absurd (true≢false (sym flies ∙ ap is_flying at))) kept.alone;
  room = by room;
  few = kept.few;
  number = kept.number;
  ready = still-ready held.members s m n was held.tables (subst (λ (st : MemberStage). IsReady st held.tables n) (sym at) (subst (λ w. AreOfPages held.tables w.lines n.classes.items) (sym written) are)) kept.ready;
}
  where
    due : due_of (Some n) ≡ group_slots (length m.written.keys)
    due = ap (λ (st : MemberStage). due_if (is_bound st) (length n.written.keys)) at ∙ ap (λ w. group_slots (length w.keys)) written

    count : lines_written (writes_in m.written.lines) ≡ length m.written.keys
    count = lines-counted m.written.lines m.written.keys (keys s m was)

    slots-few : (lines : ℕ) → group_slots lines ≤ 1 + lines
    slots-few zero = omega arith
    slots-few (suc k) = omega arith

    by : HasRoomFor held s m → (due_in (slice_set held.members s n) ≡ 0) ⊎ (held.next.slot + due_in (slice_set held.members s n) ≤ held.limits.slots)
    by (inl none) =
        let zero_due : group_slots (length m.written.keys) ≡ 0 = ap group_slots (sym count ∙ none) in
        let a = due-before held.members s m n was is in
        let b = due-after held.members s m n was is in
        let d = due in
        less-room held.next.slot held.limits.slots (due_in held.members) (due_in (slice_set held.members s n)) (omega (arith, a, b, d, zero_due)) kept.room
    by (inr fits) =
        let b = due-after held.members s m n was is in
        let d = due in
        let few = slots-few (length m.written.keys) in
        let c = count in
        let low = beside-aside held.members s keys in
        inr (omega (arith, fits, b, d, few, c, low))

-- ---- tables

-- a line keeps its class where owned pages keep owners and classes
class-kept : (old new : Tables) → KeepsPages old new → (line : _) (class : ℕ) → HasClass old line class → HasClass new line class
class-kept old new keeps line class has =
    let within = has.is_line.within in
    let some : 1 ≤ owner_in (pages_of old has.place.file) line.0.page = subst (λ (n : ℕ). 1 ≤ n) (sym has.is_line.owner) (some-owner has.place.file line.0.area has.is.owner) in
    let same-class = keeps.class has.place.file line.0.page within some in
    record {
      place = has.place;
      is = has.is;
      is_line = record {
        within = record { first = within.first; last = let last = within.last in let long = keeps.long has.place.file in omega (arith, last, long) };
        owner = keeps.owner has.place.file line.0.page within some ∙ has.is_line.owner;
        line = subst (λ (k : ℕ). line.0.line < lines_of k) (sym same-class) has.is_line.line;
      };
      class_is = has.class_is ∙ sym same-class;
      allowed = has.allowed;
    }

pub keeps-pages : (old new : Tables) → SamePages old new → KeepsPages old new
keeps-pages old new same = record { long = same.long; owner = λ file page within some. same.owner file page within.first; class = λ file page within some. same.class file page within.first }

ready-with : (old new : Tables) → ((line : _) (c : ℕ) → HasClass old line c → HasClass new line c) → (st : MemberStage) (m : Member) → IsReady st old m → IsReady st new m
ready-with old new each stage.Outside m is = tt
ready-with old new each (stage.Beginning ceiling) m is = tt
ready-with old new each stage.Writing m is = tt
ready-with old new each stage.Changing m is = tt
ready-with old new each stage.Broken m is = tt
ready-with old new each stage.Prepared m is = record { long = is.long; each = λ i line class got of. each line class (is.each i line class got of) }
ready-with old new each (stage.Committing turn) m is = (record { long = is.0.long; each = λ i line class got of. each line class (is.0.each i line class got of) }, is.1)
ready-with old new each stage.RollingBack m is = tt
ready-with old new each stage.Closing m is = tt
ready-with old new each stage.Reading m is = tt
ready-with old new each (stage.Dead commits recovery.Judging) m is = is
ready-with old new each (stage.Dead commits recovery.Ending) m is = tt
ready-with old new each (stage.Dead commits (recovery.Undoing left)) m is = tt
ready-with old new each (stage.Dead commits recovery.Restoring) m is = tt

-- a page is taken
pub taken-kept : (held : StoreMemory) (file page area class : ℕ) (kept : Tables) → IsNew (pages_of held.tables file) page → TakesIn file page area class held.tables kept → KeepsCommits held → KeepsCommits (with_tables kept held)
taken-kept held file page area class kept fresh takes was = record {
  alone = was.alone;
  room = was.room;
  few = was.few;
  number = was.number;
  ready = λ t x is. ready-with held.tables kept (class-kept held.tables kept (takes-keeps file page area class held.tables kept fresh takes)) x.stage x (was.ready t x is);
}

-- ---- a commit lands

slots-of-some : (lines : ℕ) → 1 ≤ lines → group_slots lines ≡ lines + 1
slots-of-some zero some = absurd (omega (arith, some))
slots-of-some (suc n) some = refl

-- what is due for a commit that is under way
pub due-flying : (m : Member) → is_flying m.stage ≡ true → 1 ≤ length m.written.keys → due_of (Some m) ≡ length m.written.keys + 1
due-flying m flies some = ap (λ (b : Bool). due_if b (length m.written.keys)) (flying-bound m.stage flies) ∙ slots-of-some (length m.written.keys) some

-- it is within the journal
pub due-room : (held : StoreMemory) (s : ℕ) (m : Member) → IsMember s → slice_get held.members s ≡ Some m → is_flying m.stage ≡ true → 1 ≤ length m.written.keys → KeepsCommits held → held.next.slot + (due-beside s held.members + (length m.written.keys + 1)) ≤ held.limits.slots
due-room held s m is was flies some kept = by kept.room
  where
    due : due_in held.members ≡ due-beside s held.members + (length m.written.keys + 1)
    due = due-before held.members s m m was is ∙ ap (λ (k : ℕ). due-beside s held.members + k) (due-flying m flies some)

    by : (due_in held.members ≡ 0) ⊎ (held.next.slot + due_in held.members ≤ held.limits.slots) → held.next.slot + (due-beside s held.members + (length m.written.keys + 1)) ≤ held.limits.slots
    by (inl none) = absurd (let d = due in omega (arith, d, none))
    by (inr fits) = let d = due in omega (arith, d, fits)

pub landed-kept : (held : StoreMemory) (s : ℕ) (m : Member) (next : MemberStage) (kept : Tables) → IsMember s → slice_get held.members s ≡ Some m → is_free next ≡ true → is_flying m.stage ≡ true → 1 ≤ length m.written.keys → PutsAll held.tables m.written.lines kept → KeepsCommits held → KeepsCommits (landed_with next kept s m held)
landed-kept held s m next kept is was free flies some puts keeps = record {
  alone = still-alone held.members s m n was (λ f. absurd (free-flies next free f)) keeps.alone;
  room = inr (
      let room = due-room held s m is was flies some keeps in
      let after = due-after held.members s m n was is in
      let none : due_of (Some n) ≡ 0 = free-due (is_bound next) 0 (free-bound next free) in
      omega (arith, room, after, none)
      );
  few = keeps.few;
  number = let number = keeps.number in omega (arith, number);
  ready = still-ready held.members s m n was kept (free-ready next kept n free) (λ t x got. ready-with held.tables kept (class-kept held.tables kept (keeps-pages held.tables kept (all-same held.tables m.written.lines kept puts))) x.stage x (keeps.ready t x got));
}
  where
    n : Member
    n = forgotten next m

-- ---- what is ready

pub ready-judged : (held : StoreMemory) (s : ℕ) (m : Member) (commits : Bool) → KeepsCommits held → slice_get held.members s ≡ Some m → m.stage ≡ stage.Dead commits recovery.Judging → (commits ≡ true) × (1 ≤ length m.written.keys)
ready-judged held s m commits kept was at = subst (λ (st : MemberStage). IsReady st held.tables m) at (kept.ready s m was)

pub ready-now : (held : StoreMemory) (s : ℕ) (m : Member) (turn : CommitTurn) → KeepsCommits held → IsAtStage held.members s (stage.Committing turn) → slice_get held.members s ≡ Some m → AreOfPages held.tables m.written.lines m.classes.items × HasSome turn (length m.written.keys)
ready-now held s m turn kept at was = subst (λ (st : MemberStage). IsReady st held.tables m) (subst (λ (x : Member). x.stage ≡ stage.Committing turn) (same_Some at.member m (sym at.is ∙ was)) at.at) (kept.ready s m was)

-- with what else is written of it
pub landed-as : (held : StoreMemory) (s : ℕ) (m : Member) (next : MemberStage) (kept : Tables) (n : Member) (count : ℕ) → n ≡ forgotten next m → count ≡ length m.written.keys → KeepsCommits (landed_with next kept s m held) → KeepsCommits (record (with_member s n held) { tables = kept; next = group_behind count held.next })
landed-as held s m next kept n count is same keeps =
    let there : KeepsCommits (record (with_member s (forgotten next m) held) { tables = kept; next = group_behind count held.next }) =
    subst (λ (k : ℕ). KeepsCommits (record (with_member s (forgotten next m) held) { tables = kept; next = group_behind k held.next })) (sym same) keeps in
    subst (λ (x : Member). KeepsCommits (record (with_member s x held) { tables = kept; next = group_behind count held.next })) (sym is) there

pub sound-landed : (held : StoreMemory) (s : ℕ) (m n : Member) (kept : Tables) (count : ℕ) → slice_get held.members s ≡ Some m → IsSound held → PutsAll held.tables m.written.lines kept → n.tsn ≡ m.tsn → n.aside ≡ m.aside → n.written ≡ record { lines = []; keys = [] } → IsSound (record (with_member s n held) { tables = kept; next = group_behind count held.next })
sound-landed held s m n kept count was sound puts number slots none =
    let old = sound.each s m was in
    let with : IsSound (with_member s n held) = sound-member held s m n was sound (sound-empty held.tables n (subst (λ t. 1 ≤ t.number) (sym number) old.first) (subst (λ t. t.number < 2 ^ 62) (sym number) old.last) none) (loses-lines m n (ap (λ w. w.lines) none) slots) in
    let all : IsSound (with_tables kept (with_member s n held)) = sound-tables (with_member s n held) kept (keeps-pages held.tables kept (all-same held.tables m.written.lines kept puts)) (λ t i x key got at file used. used-before t i x key (t == s) refl got at file used) with in
    record { first = all.first; last = all.last; allowed = all.allowed; each = all.each; apart = all.apart; asides = all.asides }
  where
    -- the lines of the others aren't among its own
    used-before : (t i : ℕ) (x : Member) (key : Dbkey) (b : Bool) → (t == s) ≡ b → slice_get (slice_set held.members s n) t ≡ Some x → slice_get x.written.keys i ≡ Some key → (file : ℕ) → IsUsedIn kept file key → IsUsedIn held.tables file key
    used-before t i x key true same got at file used =
        let one : n ≡ x = same_Some _ _ (sym (set-here held.members s n (get-within held.members s m was)) ∙ (ap (λ (u : ℕ). slice_get (slice_set held.members s n) u) (sym (eqb-true t s same)) ∙ got)) in
        absurd (none-some key (ap (λ (w : Memory). slice_get w.keys i) (sym none) ∙ (ap (λ (y : Member). slice_get y.written.keys i) one ∙ at)))
    used-before t i x key false apart got at file used =
        let there : slice_get held.members t ≡ Some x = sym (set-beside held.members s t n apart) ∙ got in
        let found = found-key held sound t x there i key at in
        all-back held.tables m.written.lines kept puts file key
        (λ k line is same. eqb-false t s apart (sound.apart t s x m key found.0 line.1 there was found.1 (ap (λ (q : Dbkey). find dbkey_order q m.written.lines) (sym same) ∙ found-there m.written.lines k line (sound.each s m was).keys.ordered is)))
        used
