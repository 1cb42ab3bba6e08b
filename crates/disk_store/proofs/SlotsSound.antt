-- A memory stays sound where slots are taken of those that are set aside for a session, or are given back, and where the chain of one of its lines is another.
use Rattle.std.proofs.Common.{◌≡◌, ◌≢◌, ◌≤◌, ◌<◌, ◌+◌, ◌-◌, ◌^◌, ◌==◌, ◌⊎◌, inl, inr, ℕ, zero, suc, Bool, true, false, if◌then◌else◌, cond, drop, length, List, ◌∷◌, Some, refl, sym, ap, subst, ◌∙◌, arith}
use Rattle.std.specs.Prelude.{slice_get}
use Rattle.std.specs.Ordering.{is_eq}
use Rattle.std.specs.FinMap.Entries.{find, find-put}
use Rattle.std.proofs.lemmas.Bool.{eqb-true}
use Rattle.std.proofs.lemmas.Option.{same_Some}
use Rattle.rdb_types.specs.declared.keys.Dbkey.{Dbkey}
use Rattle.rdb_types.specs.declared.keys.Line.{Line}
use Rattle.rdb_types.specs.Order.{dbkey_order}
use Rattle.rdb_types.specs.OrderLaws.{dbkey_total, same_dbkey}
use Rattle.rdb_outside.specs.Disk.{View}
use Rattle.line_versions.specs.Versions.{snap_of}
use Rattle.stable_lines.specs.Slots.{IsAreaFile}
use Rattle.line_moves.proofs.Putting.{nat_cases}
use Rattle.reader_lines.specs.version_writing.Slots.{SlotTable, Spends}
use Rattle.reader_lines.specs.version_writing.Tables.{table_of}
use Rattle.reader_lines.specs.version_writing.declared.snapshot_slots.Wanted.{Wanted}
use Rattle.reader_lines.specs.version_writing.declared.snapshot_slots.SnapshotSlots.{SnapshotSlots}
use Rattle.member_memory.specs.Memory.{Memory, AreKeysOf}
use Rattle.member_memory.proofs.Growing.{has-it, tied}
use Rattle.disk_store.specs.declared.member.Member.{Member}
use Rattle.disk_store.specs.declared.member.MemberStage.TheVariants as stage
use Rattle.disk_store.specs.declared.held.Tables.{Tables}
use Rattle.disk_store.specs.ChangeSteps.{IsNext, Rechains, TakesAside, rechained, no_slots, one_less, spent, without_asides}
use Rattle.disk_store.specs.Memory.{StoreMemory, with_member}
use Rattle.disk_store.specs.Sound.{LiesIn, IsSoundMember, IsUsedIn, AtMost, HasSlotsFor, wanted_in, IsSound}
use Rattle.disk_store.proofs.AtMost.{at-most-behind, at-most-less, drop-first, drop-through}
use Rattle.disk_store.proofs.Changed.{some-found}
use Rattle.disk_store.proofs.Sound.{Lessens, sound-member, sum-set}

-- ---- keys

-- a key of a member is found in memory
pub found-key : (held : StoreMemory) (sound : IsSound held) (s : ℕ) (m : Member) → slice_get held.members s ≡ Some m → (place : ℕ) (key : Dbkey) → slice_get m.written.keys place ≡ Some key → (line : Line) × (find dbkey_order key m.written.lines ≡ Some line)
found-key held sound s m was place key is =
    let keys = (sound.each s m was).keys in
    some-found (find dbkey_order key m.written.lines) (sym (keys.same key) ∙ has-it m.written.keys place key is)

pub next-its : (members : List Member) (s : ℕ) (key : Dbkey) (m : Member) → slice_get members s ≡ Some m → IsNext members s key → (m.stage ≡ stage.Changing) × (slice_get m.written.keys m.pushed ≡ Some key)
next-its members s key m was next =
    let one = same_Some next.member m (sym next.is ∙ was) in (
      subst (λ (x : Member). x.stage ≡ stage.Changing) one next.at,
      subst (λ (x : Member). slice_get x.written.keys x.pushed ≡ Some key) one next.next,
    )

-- ---- what is wanted of a file

pub each-file : (P : ℕ → Type 0) → P 1 → P 2 → P 3 → (f : ℕ) → IsAreaFile f → P f
each-file P a b c zero is = absurd (let first = is.first in omega (arith, first))
each-file P a b c (suc zero) is = a
each-file P a b c (suc (suc zero)) is = b
each-file P a b c (suc (suc (suc zero))) is = c
each-file P a b c (suc (suc (suc (suc f)))) is = absurd (let last = is.last in omega (arith, last))

none-wanted : (file : ℕ) → wanted_in file no_slots ≡ 0
none-wanted file = by (file == 1) (file == 2)
  where
    by : (a b : Bool) → ◌≡◌ {A = ℕ} (if a then 0 else (if b then 0 else 0)) 0
    by true b = refl
    by false true = refl
    by false false = refl

less-here : (wanted : Wanted) (f : ℕ) → IsAreaFile f → wanted_in f (one_less f wanted) ≡ wanted_in f wanted - 1
less-here wanted = each-file (λ f. wanted_in f (one_less f wanted) ≡ wanted_in f wanted - 1) refl refl refl

less-beside : (wanted : Wanted) (f : ℕ) → IsAreaFile f → (file : ℕ) → IsAreaFile file → file ≢ f → wanted_in file (one_less f wanted) ≡ wanted_in file wanted
less-beside wanted = each-file (λ f. (file : ℕ) → IsAreaFile file → file ≢ f → wanted_in file (one_less f wanted) ≡ wanted_in file wanted)
    (each-file (λ file. file ≢ 1 → wanted_in file (one_less 1 wanted) ≡ wanted_in file wanted) (λ off. absurd (off refl)) (λ off. refl) (λ off. refl))
    (each-file (λ file. file ≢ 2 → wanted_in file (one_less 2 wanted) ≡ wanted_in file wanted) (λ off. refl) (λ off. absurd (off refl)) (λ off. refl))
    (each-file (λ file. file ≢ 3 → wanted_in file (one_less 3 wanted) ≡ wanted_in file wanted) (λ off. refl) (λ off. refl) (λ off. absurd (off refl)))

-- of no file it is more
abbrev fewer-first : Wanted → Wanted
fewer-first wanted = record { catalog = wanted.catalog - 1; relations = wanted.relations; indexes = wanted.indexes }

abbrev fewer-second : Wanted → Wanted
fewer-second wanted = record { catalog = wanted.catalog; relations = wanted.relations - 1; indexes = wanted.indexes }

abbrev fewer-third : Wanted → Wanted
fewer-third wanted = record { catalog = wanted.catalog; relations = wanted.relations; indexes = wanted.indexes - 1 }

in-file : (less wanted : Wanted) (file : ℕ) → less.catalog ≤ wanted.catalog → less.relations ≤ wanted.relations → less.indexes ≤ wanted.indexes → wanted_in file less ≤ wanted_in file wanted
in-file less wanted file x y z = by (file == 1) (file == 2)
  where
    by : (a b : Bool) → (if a then less.catalog else (if b then less.relations else less.indexes)) ≤ (if a then wanted.catalog else (if b then wanted.relations else wanted.indexes))
    by true b = x
    by false true = y
    by false false = z

no-more : (wanted : Wanted) (f file : ℕ) → wanted_in file (one_less f wanted) ≤ wanted_in file wanted
no-more wanted f file = by (f == 1) (f == 2)
  where
    by : (a b : Bool) → wanted_in file (if a then fewer-first wanted else (if b then fewer-second wanted else fewer-third wanted)) ≤ wanted_in file wanted
    by true b = in-file (fewer-first wanted) wanted file (omega arith) (omega arith) (omega arith)
    by false true = in-file (fewer-second wanted) wanted file (omega arith) (omega arith) (omega arith)
    by false false = in-file (fewer-third wanted) wanted file (omega arith) (omega arith) (omega arith)

pub spent-no-more : (chain f : ℕ) (wanted : Wanted) (file : ℕ) → wanted_in file (spent chain f wanted) ≤ wanted_in file wanted
spent-no-more chain f wanted file = by (chain == 0)
  where
    by : (b : Bool) → wanted_in file (if b then wanted else one_less f wanted) ≤ wanted_in file wanted
    by true = omega arith
    by false = no-more wanted f file

-- ---- the slots are others, too

-- So many are set aside for the session then, and so many of the file.
abbrev pub KeepsAsides : Wanted → Wanted → SnapshotSlots → SnapshotSlots → Type 0
KeepsAsides before after old new = (file : ℕ) → IsAreaFile file → wanted_in file after + (table_of old file).aside ≤ wanted_in file before + (table_of new file).aside

-- where a slot was taken
pub spent-keeps : (chain f : ℕ) (wanted : Wanted) (old new : SnapshotSlots) → IsAreaFile f → 1 ≤ wanted_in f wanted → (chain ≡ 0 → new ≡ old) → ((file : ℕ) → IsAreaFile file → file ≢ f → table_of new file ≡ table_of old file) → Spends (table_of old f) (table_of new f) → KeepsAsides wanted (spent chain f wanted) old new
spent-keeps chain f wanted old new is some keeps others spends file there = by (chain == 0) refl
  where
    by : (b : Bool) → (chain == 0) ≡ b → wanted_in file (if b then wanted else one_less f wanted) + (table_of old file).aside ≤ wanted_in file wanted + (table_of new file).aside
    by true e = let same = ap (λ (x : SnapshotSlots). (table_of x file).aside) (keeps (eqb-true chain 0 e)) in omega (arith, same)
    by false e = elim (nat_cases file f) [
      | inl same ↦ subst (λ (n : ℕ). wanted_in n (one_less f wanted) + (table_of old n).aside ≤ wanted_in n wanted + (table_of new n).aside) (sym same)
          (let one = less-here wanted f is in let less = spends.aside in omega (arith, one, less, some))
      | inr apart ↦ (let one = less-beside wanted f is file there apart in let same = ap (λ (t : SlotTable). t.aside) (others file there apart) in omega (arith, one, same))
    ]

-- where none is set aside any more
pub left-keeps : (wanted : Wanted) (slots : SnapshotSlots) → KeepsAsides wanted no_slots slots (without_asides wanted slots)
left-keeps wanted slots = each-file (λ file. wanted_in file no_slots + (table_of slots file).aside ≤ wanted_in file wanted + (table_of (without_asides wanted slots) file).aside) (omega arith) (omega arith) (omega arith)

pub left-no-more : (wanted : Wanted) (file : ℕ) → wanted_in file no_slots ≤ wanted_in file wanted
left-no-more wanted file = let none = none-wanted file in omega (arith, none)

pub sound-slots : (h : StoreMemory) (s : ℕ) (m n : Member) (slots : SnapshotSlots) → slice_get h.members s ≡ Some m → IsSound h → IsSoundMember h.tables n → Lessens m n → KeepsAsides m.aside n.aside h.slots slots → IsSound (record (with_member s n h) { slots = slots })
sound-slots h s m n slots was sound its less keeps =
    let it = sound-member h s m n was sound its less in
    record {
      first = it.first;
      last = it.last;
      allowed = it.allowed;
      each = it.each;
      apart = it.apart;
      asides = λ file is.
          let sum = sum-set (λ (x : Member). wanted_in file x.aside) h.members s m n was in
          let all = sound.asides file is in
          let kept = keeps file is in
          omega (arith, sum, all, kept);
    }

-- where one was taken for a line, or none
pub sound-spent : (v w : View) (h : StoreMemory) (s : ℕ) (m n : Member) (key : Dbkey) (chain : ℕ) (slots : SnapshotSlots) → TakesAside v w key chain h.slots slots → IsAreaFile (snap_of key) → 1 ≤ wanted_in (snap_of key) m.aside → n.aside ≡ spent chain (snap_of key) m.aside
    → slice_get h.members s ≡ Some m → IsSound h → IsSoundMember h.tables n → ((q : Dbkey) (line : Line) → find dbkey_order q n.written.lines ≡ Some line → (before : Line) × (find dbkey_order q m.written.lines ≡ Some before)) → IsSound (record (with_member s n h) { slots = slots })
sound-spent v w h s m n key chain slots takes is some aside was sound its lines = sound-slots h s m n slots was sound its
    (record { lines = lines; asides = λ file. subst (λ (x : Wanted). wanted_in file x ≤ wanted_in file m.aside) (sym aside) (spent-no-more chain (snap_of key) m.aside file) })
    (subst (λ (x : Wanted). KeepsAsides m.aside x h.slots slots) (sym aside) (spent-keeps chain (snap_of key) m.aside h.slots slots is some takes.keeps takes.others takes.spends))

-- ---- the slots that are left for the lines that aren't pushed aside yet

-- none is wanted where no line is left
pub slots-through : (tables : Tables) (aside : Wanted) (keys : List Dbkey) → HasSlotsFor tables aside (drop (length keys) keys)
slots-through tables aside keys file is = subst (λ (ks : List Dbkey). AtMost (IsUsedIn tables file) (wanted_in file aside) ks) (sym (drop-through keys)) tt

module _ (tables : Tables) (m : Member) (key : Dbkey) (next : slice_get m.written.keys m.pushed ≡ Some key) (was : HasSlotsFor tables m.aside (drop m.pushed m.written.keys)) where
  left-behind : (file : ℕ) → IsAreaFile file → AtMost (IsUsedIn tables file) (wanted_in file m.aside) (key ∷ drop (m.pushed + 1) m.written.keys)
  left-behind file is = subst (λ (ks : List Dbkey). AtMost (IsUsedIn tables file) (wanted_in file m.aside) ks) (drop-first m.written.keys m.pushed key next) (was file is)

  -- the next line is passed
  pub slots-passed : HasSlotsFor tables m.aside (drop (m.pushed + 1) m.written.keys)
  slots-passed file is = at-most-behind (IsUsedIn tables file) (wanted_in file m.aside) key (drop (m.pushed + 1) m.written.keys) (left-behind file is)

  -- it was used, so a slot is set aside for it
  pub slot-there : (file : ℕ) → IsAreaFile file → IsUsedIn tables file key → 1 ≤ wanted_in file m.aside
  slot-there file is used = (at-most-less (IsUsedIn tables file) (wanted_in file m.aside) key (drop (m.pushed + 1) m.written.keys) used (left-behind file is)).0

  -- and it may take that
  pub slots-spent : (f chain : ℕ) → IsAreaFile f → IsUsedIn tables f key → HasSlotsFor tables (spent chain f m.aside) (drop (m.pushed + 1) m.written.keys)
  slots-spent f chain of used file is = by (chain == 0)
    where
      fewer : (n : ℕ) → n ≡ wanted_in file m.aside - 1 → file ≡ f → AtMost (IsUsedIn tables file) n (drop (m.pushed + 1) m.written.keys)
      fewer n same here = subst (λ (k : ℕ). AtMost (IsUsedIn tables file) k (drop (m.pushed + 1) m.written.keys)) (sym same)
          (at-most-less (IsUsedIn tables file) (wanted_in file m.aside) key (drop (m.pushed + 1) m.written.keys) (subst (λ (k : ℕ). IsUsedIn tables k key) (sym here) used) (left-behind file is)).1

      by : (b : Bool) → AtMost (IsUsedIn tables file) (wanted_in file (if b then m.aside else one_less f m.aside)) (drop (m.pushed + 1) m.written.keys)
      by true = slots-passed file is
      by false = elim (nat_cases file f) [
        | inl here ↦ fewer (wanted_in file (one_less f m.aside)) (subst (λ (k : ℕ). wanted_in k (one_less f m.aside) ≡ wanted_in k m.aside - 1) (sym here) (less-here m.aside f of)) here
        | inr off ↦ subst (λ (k : ℕ). AtMost (IsUsedIn tables file) k (drop (m.pushed + 1) m.written.keys)) (sym (less-beside m.aside f of file is off)) (slots-passed file is)
      ]

-- ---- slots that are others

-- the slots are others, of which as many are set aside
pub slots-sound : (h : StoreMemory) (slots : SnapshotSlots) → ((file : ℕ) → IsAreaFile file → (table_of slots file).aside ≡ (table_of h.slots file).aside) → IsSound h → IsSound (record h { slots = slots })
slots-sound h slots same sound = record {
  first = sound.first;
  last = sound.last;
  allowed = sound.allowed;
  each = sound.each;
  apart = sound.apart;
  asides = λ file is. let all = sound.asides file is in let e = same file is in omega (arith, all, e);
}

-- what is set aside for a session, is set aside of the file
pub aside-there : (h : StoreMemory) (s : ℕ) (m : Member) → slice_get h.members s ≡ Some m → IsSound h → (file : ℕ) → IsAreaFile file → wanted_in file m.aside ≤ (table_of h.slots file).aside
aside-there h s m was sound file is =
    let sum = sum-set (λ (x : Member). wanted_in file x.aside) h.members s m (record m { aside = no_slots }) was in
    let none = none-wanted file in
    let all = sound.asides file is in
    omega (arith, sum, none, all)

-- ---- the chain of a line is another

lies-rechained : (tables : Tables) (key : Dbkey) (chain : ℕ) (line : Line) → LiesIn tables key line → LiesIn tables key (rechained chain line)
lies-rechained tables key chain line lies = record { place = lies.place; is = lies.is; is_line = lies.is_line; allowed = record { class = lies.allowed.class; image = lies.allowed.image; leaves = lies.allowed.leaves } }

module _ (tables : Tables) (m : Member) (written : Memory) (key : Dbkey) (chain : ℕ) (its : IsSoundMember tables m) (before : Line) (found : find dbkey_order key m.written.lines ≡ Some before) (rechains : Rechains key chain m.written written) where
  found-now : (q : Dbkey) → find dbkey_order q written.lines ≡ cond (is_eq (dbkey_order q key)) (Some (rechained chain before)) (find dbkey_order q m.written.lines)
  found-now q = ap (find dbkey_order q) (rechains.line before found) ∙ find-put dbkey_order dbkey_total q key (rechained chain before) m.written.lines

  -- each line is one of those before, but for its chain
  pub line-before : (q : Dbkey) (line : Line) → find dbkey_order q written.lines ≡ Some line → (old : Line) × (find dbkey_order q m.written.lines ≡ Some old) × ((line ≡ rechained chain old) ⊎ (line ≡ old))
  line-before q line is = by (is_eq (dbkey_order q key)) refl
    where
      by : (b : Bool) → is_eq (dbkey_order q key) ≡ b → (old : Line) × (find dbkey_order q m.written.lines ≡ Some old) × ((line ≡ rechained chain old) ⊎ (line ≡ old))
      by true tie = (
        before,
        ap (λ k. find dbkey_order k m.written.lines) (same_dbkey q key (tied _ tie)) ∙ found,
        inl (same_Some _ _ (sym is ∙ (found-now q ∙ ap (λ b. cond b (Some (rechained chain before)) (find dbkey_order q m.written.lines)) tie))),
      )
      by false off = (line, ap (λ b. cond b (Some (rechained chain before)) (find dbkey_order q m.written.lines)) (sym off) ∙ (sym (found-now q) ∙ is), inr refl)

  pub sound-rechained : (n : Member) → n.tsn ≡ m.tsn → n.written ≡ written → AreKeysOf written.lines written.keys → length written.keys < 2 ^ 32 → HasSlotsFor tables n.aside (drop n.pushed m.written.keys) → IsSoundMember tables n
  sound-rechained n number same keys few slots = record {
    first = subst (λ t. 1 ≤ t.number) (sym number) its.first;
    last = subst (λ t. t.number < 2 ^ 62) (sym number) its.last;
    keys = subst (λ (w : Memory). AreKeysOf w.lines w.keys) (sym same) keys;
    few = subst (λ (w : Memory). length w.keys < 2 ^ 32) (sym same) few;
    bears = λ q line is.
        let old = line-before q line (ap (λ (w : Memory). find dbkey_order q w.lines) (sym same) ∙ is) in
        elim old.2 [ inl new ↦ ap (λ (l : Line). l.tsn) new | inr still ↦ ap (λ (l : Line). l.tsn) still ] ∙ its.bears q old.0 old.1 ∙ sym number;
    lies = λ q line is.
        let old = line-before q line (ap (λ (w : Memory). find dbkey_order q w.lines) (sym same) ∙ is) in
        let lies = its.lies q old.0 old.1 in
        elim old.2 [ inl new ↦ subst (LiesIn tables q) (sym new) (lies-rechained tables q chain old.0 lies) | inr still ↦ subst (LiesIn tables q) (sym still) lies ];
    slots = λ file is. subst (λ (ks : List Dbkey). AtMost (IsUsedIn tables file) (wanted_in file n.aside) (drop n.pushed ks)) (sym (ap (λ (w : Memory). w.keys) same ∙ rechains.keys)) (slots file is);
  }

  pub rechained-lessens : (n : Member) → n.written ≡ written → ((file : ℕ) → wanted_in file n.aside ≤ wanted_in file m.aside) → Lessens m n
  rechained-lessens n same asides = record {
    lines = λ q line is. let old = line-before q line (ap (λ (w : Memory). find dbkey_order q w.lines) (sym same) ∙ is) in (old.0, old.1);
    asides = asides;
  }
