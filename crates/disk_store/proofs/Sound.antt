-- A memory stays sound where one member is another, and where the tables are others.
use Rattle.std.proofs.Common.{◌≡◌, ◌≤◌, ◌<◌, ◌+◌, ◌^◌, inl, inr, ℕ, zero, suc, List, [], ◌∷◌, drop, length, Some, refl, sym, ap, subst, ◌∙◌, arith}
use Rattle.std.specs.Prelude.{slice_get, slice_set, sum_by}
use Rattle.std.specs.FinMap.Entries.{find}
use Rattle.std.proofs.lemmas.Option.{same_Some, none-some}
use Rattle.std.proofs.lemmas.List.Sums.{sum_by-cons}
use Rattle.rdb_types.specs.declared.keys.Dbkey.{Dbkey}
use Rattle.rdb_types.specs.declared.keys.Line.{Line}
use Rattle.rdb_types.specs.Order.{dbkey_order}
use Rattle.aij_journal.specs.Part.{IsAllowedLine}
use Rattle.rdb_page.specs.Page.{IsOwner, lines_of}
use Rattle.stable_lines.specs.Slots.{IsAreaFile}
use Rattle.line_seat.specs.Groups.{group_line}
use Rattle.line_moves.proofs.Putting.{nat_cases}
use Rattle.member_rooms.specs.page_table.declared.uses.PageUse.{PageUse}
use Rattle.member_rooms.specs.page_table.Pages.{Pages, IsWithin, owner_in, class_in, use_of}
use Rattle.member_rooms.specs.page_table.Scans.{IsNew}
use Rattle.reader_lines.specs.version_writing.Tables.{table_of}
use Rattle.reader_lines.specs.version_writing.declared.snapshot_slots.Wanted.{Wanted}
use Rattle.member_memory.specs.Memory.{AreKeysOf}
use Rattle.disk_store.specs.declared.member.Member.{Member}
use Rattle.disk_store.specs.declared.held.Tables.{Tables}
use Rattle.disk_store.specs.declared.held.Numbers.{Numbers}
use Rattle.disk_store.specs.Memory.{StoreMemory, with_member, with_tables}
use Rattle.disk_store.specs.Numbers.{AreAllowed, with_settled}
use Rattle.disk_store.specs.Shown.{pages_of}
use Rattle.disk_store.specs.Taken.{TakesIn}
use Rattle.disk_store.specs.Sound.{LiesIn, IsSoundMember, IsUsedIn, AtMost, HasSlotsFor, WroteApart, wanted_in, aside_in, IsSound}
use Rattle.disk_store.proofs.AtMost.{at-most-those, drop-none, dropped}
use Rattle.disk_store.proofs.Members.{set-either}

-- ---- a sum over the members, of which one is another

pub sum-set : {X : Type 0} (f : X → ℕ) (xs : List X) (i : ℕ) (x y : X) → slice_get xs i ≡ Some x → sum_by f (slice_set xs i y) + f x ≡ sum_by f xs + f y
sum-set f [] i x y is = absurd (none-some x is)
sum-set f (z ∷ zs) zero x y is =
    let new = sum_by-cons f y zs in
    let old = sum_by-cons f z zs in
    let same = ap f (same_Some _ _ is) in
    omega (arith, new, old, same)
sum-set f (z ∷ zs) (suc i) x y is =
    let new = sum_by-cons f z (slice_set zs i y) in
    let old = sum_by-cons f z zs in
    let rest = sum-set f zs i x y is in
    omega (arith, new, old, rest)

-- ---- one member is another

-- It has written no line that the member before hadn't, and no more slots are set aside for it.
pub record Lessens (m n : Member) : Type 0 where
  pub lines : (key : Dbkey) (line : Line) → find dbkey_order key n.written.lines ≡ Some line → (before : Line) × (find dbkey_order key m.written.lines ≡ Some before)
  pub asides : (file : ℕ) → wanted_in file n.aside ≤ wanted_in file m.aside

pub keeps-lines : (m n : Member) → n.written ≡ m.written → n.aside ≡ m.aside → Lessens m n
keeps-lines m n same slots = record {
  lines = λ key line is. (line, ap (λ w. find dbkey_order key w.lines) (sym same) ∙ is);
  asides = λ file. let e : wanted_in file n.aside ≡ wanted_in file m.aside = ap (wanted_in file) slots in omega (arith, e);
}

pub loses-lines : (m n : Member) → n.written.lines ≡ [] → n.aside ≡ m.aside → Lessens m n
loses-lines m n none slots = record {
  lines = λ key line is. absurd (none-some line (sym (ap (find dbkey_order key) none) ∙ is));
  asides = λ file. let e : wanted_in file n.aside ≡ wanted_in file m.aside = ap (wanted_in file) slots in omega (arith, e);
}

no-keys : AreKeysOf [] []
no-keys = record { ordered = refl; long = refl; same = λ key. refl; once = λ i k key is also. absurd (none-some key is) }

-- of one without a line
pub sound-empty : (tables : Tables) (n : Member) → 1 ≤ n.tsn.number → n.tsn.number < 2 ^ 62 → n.written ≡ record { lines = []; keys = [] } → IsSoundMember tables n
sound-empty tables n first last none = record {
  first = first;
  last = last;
  keys = subst (λ w. AreKeysOf w.lines w.keys) (sym none) no-keys;
  few = let e : length n.written.keys ≡ 0 = ap (λ w. length w.keys) none in omega (arith, e);
  bears = λ key line is. absurd (none-some line (sym (ap (λ w. find dbkey_order key w.lines) none) ∙ is));
  lies = λ key line is. absurd (none-some line (sym (ap (λ w. find dbkey_order key w.lines) none) ∙ is));
  slots = λ file is. subst (λ (ks : List Dbkey). AtMost (IsUsedIn tables file) (wanted_in file n.aside) ks) (sym (ap (λ w. drop n.pushed w.keys) none ∙ drop-none n.pushed)) tt;
}

pub sound-but : (tables : Tables) (m n : Member) → n.tsn ≡ m.tsn → n.written ≡ m.written → HasSlotsFor tables n.aside (drop n.pushed n.written.keys) → IsSoundMember tables m → IsSoundMember tables n
sound-but tables m n number same slots was = record {
  first = subst (λ t. 1 ≤ t.number) (sym number) was.first;
  last = subst (λ t. t.number < 2 ^ 62) (sym number) was.last;
  keys = subst (λ w. AreKeysOf w.lines w.keys) (sym same) was.keys;
  few = subst (λ w. length w.keys < 2 ^ 32) (sym same) was.few;
  bears = λ key line is. was.bears key line (ap (λ w. find dbkey_order key w.lines) (sym same) ∙ is) ∙ sym number;
  lies = λ key line is. was.lies key line (ap (λ w. find dbkey_order key w.lines) (sym same) ∙ is);
  slots = slots;
}

-- no more of its lines are left to be pushed aside, and as many slots
pub sound-as : (tables : Tables) (m n : Member) → n.tsn ≡ m.tsn → n.written ≡ m.written → n.pushed ≡ m.pushed → n.aside ≡ m.aside → IsSoundMember tables m → IsSoundMember tables n
sound-as tables m n number same pushed aside was = sound-but tables m n number same (λ file is.
    subst (λ (n_aside : Wanted). AtMost (IsUsedIn tables file) (wanted_in file n_aside) (drop n.pushed n.written.keys)) (sym aside)
    (subst (λ (count : ℕ). AtMost (IsUsedIn tables file) (wanted_in file m.aside) (drop count n.written.keys)) (sym pushed)
    (subst (λ w. AtMost (IsUsedIn tables file) (wanted_in file m.aside) (drop m.pushed w.keys)) (sym same) (was.slots file is)))) was

module _ (h : StoreMemory) (s : ℕ) (m n : Member) (was : slice_get h.members s ≡ Some m) (sound : IsSound h) (its : IsSoundMember h.tables n) (less : Lessens m n) where
  abbrev members : List Member
  members = slice_set h.members s n

  apart : WroteApart members
  apart t u a b key x y at also has too = elim (set-either h.members s t n a at) [
    | inl here ↦ elim (set-either h.members s u n b also) [
      | inl there ↦ here.0 ∙ sym there.0
      | inr away ↦ let old = less.lines key x (ap (λ (k : Member). find dbkey_order key k.written.lines) (sym here.1) ∙ has) in here.0 ∙ sound.apart s u m b key old.0 y was away old.1 too
    ]
    | inr off ↦ elim (set-either h.members s u n b also) [
      | inl there ↦ let old = less.lines key y (ap (λ (k : Member). find dbkey_order key k.written.lines) (sym there.1) ∙ too) in sound.apart t s a m key x old.0 off was has old.1 ∙ sym there.0
      | inr away ↦ sound.apart t u a b key x y off away has too
    ]
  ]

  each : (t : ℕ) (x : Member) → slice_get members t ≡ Some x → IsSoundMember h.tables x
  each t x at = elim (set-either h.members s t n x at) [
    | inl here ↦ subst (IsSoundMember h.tables) (sym here.1) its
    | inr off ↦ sound.each t x off
  ]

  asides : (file : ℕ) → IsAreaFile file → aside_in file members ≤ (table_of h.slots file).aside
  asides file is =
      let sum = sum-set (λ (x : Member). wanted_in file x.aside) h.members s m n was in
      let fewer = less.asides file in
      let all = sound.asides file is in
      omega (arith, sum, fewer, all)

  -- the numbers may be others
  pub sound-with : (numbers : Numbers) → 1 ≤ numbers.next → numbers.ceiling ≤ 2 ^ 62 → AreAllowed h.limits numbers → IsSound (record (with_member s n h) { numbers = numbers })
  sound-with numbers first last allowed = record { first = first; last = last; allowed = allowed; each = each; apart = apart; asides = asides }

  pub sound-member : IsSound (with_member s n h)
  sound-member = let it = sound-with h.numbers sound.first sound.last sound.allowed in record { first = it.first; last = it.last; allowed = it.allowed; each = it.each; apart = it.apart; asides = it.asides }

-- the ceiling that was written last is stable
pub sound-settled : (h : StoreMemory) → IsSound h → IsSound (with_settled h)
sound-settled h sound = record {
  first = sound.first;
  last = sound.allowed.written;
  allowed = record { limited = sound.allowed.limited; applied = sound.allowed.applied; written = sound.allowed.written };
  each = sound.each;
  apart = sound.apart;
  asides = sound.asides;
}

-- ---- the tables are others

named : (file area : ℕ) → IsOwner file area → 1 ≤ area
named file area (inl first) = omega (arith, first.1)
named file area (inr (inl second)) = omega (arith, second.1)
named file area (inr (inr third)) = omega (arith, third.1)

-- Pages that an area owns are that area's still, and of that class.
pub record KeepsPages (old new : Tables) : Type 0 where
  pub long : (file : ℕ) → length (pages_of new file) ≡ length (pages_of old file)
  pub owner : (file page : ℕ) → IsWithin (pages_of old file) page → 1 ≤ owner_in (pages_of old file) page → owner_in (pages_of new file) page ≡ owner_in (pages_of old file) page
  pub class : (file page : ℕ) → IsWithin (pages_of old file) page → 1 ≤ owner_in (pages_of old file) page → class_in (pages_of new file) page ≡ class_in (pages_of old file) page

module _ (old new : Tables) (keeps : KeepsPages old new) where
  pub lies-still : (key : Dbkey) (line : Line) → LiesIn old key line → LiesIn new key line
  lies-still key line lies =
      let file = lies.place.file in
      let is = lies.is_line in
      let some : 1 ≤ owner_in (pages_of old file) key.page = subst (λ (n : ℕ). 1 ≤ n) (sym is.owner) (named file key.area lies.is.owner) in
      let class = keeps.class file key.page is.within some in
      record {
        place = lies.place;
        is = lies.is;
        is_line = record {
          within = record { first = is.within.first; last = let e = keeps.long file in omega (arith, e, is.within.last) };
          owner = keeps.owner file key.page is.within some ∙ is.owner;
          line = subst (λ (c : ℕ). key.line < lines_of c) (sym class) is.line;
        };
        allowed = subst (λ (c : ℕ). IsAllowedLine (group_line (key, line) c)) (sym class) lies.allowed;
      }

  pub sound-still : (m : Member) → ((i : ℕ) (key : Dbkey) → slice_get m.written.keys i ≡ Some key → (file : ℕ) → IsUsedIn new file key → IsUsedIn old file key) → IsSoundMember old m → IsSoundMember new m
  sound-still m back was = record {
    first = was.first;
    last = was.last;
    keys = was.keys;
    few = was.few;
    bears = was.bears;
    lies = λ key line is. lies-still key line (was.lies key line is);
    slots = λ file is. at-most-those (IsUsedIn old file) (IsUsedIn new file) (wanted_in file m.aside) (drop m.pushed m.written.keys)
        (λ i key got used. let at = dropped m.written.keys m.pushed i key got in back at.0 key at.1 file used) (was.slots file is);
  }

-- no more of the members' lines were ever used
pub sound-tables : (h : StoreMemory) (tables : Tables) → KeepsPages h.tables tables
    → ((s i : ℕ) (m : Member) (key : Dbkey) → slice_get h.members s ≡ Some m → slice_get m.written.keys i ≡ Some key → (file : ℕ) → IsUsedIn tables file key → IsUsedIn h.tables file key) → IsSound h → IsSound (with_tables tables h)
sound-tables h tables keeps back sound = record { first = sound.first; last = sound.last; allowed = sound.allowed; each = λ s m is. sound-still h.tables tables keeps m (λ i key got file used. back s i m key is got file used) (sound.each s m is); apart = sound.apart; asides = sound.asides }

-- a page that was nobody's is taken
pub takes-keeps : (file page area class : ℕ) (old new : Tables) → IsNew (pages_of old file) page → TakesIn file page area class old new → KeepsPages old new
takes-keeps file page area class old new fresh takes = record {
  long = λ f. elim (nat_cases f file) [
    | inl same ↦ subst (λ (n : ℕ). length (pages_of new n) ≡ length (pages_of old n)) (sym same) takes.here.long
    | inr apart ↦ ap (λ (ps : Pages). length ps) (takes.others f apart)
  ];
  owner = λ f p within some. ap (λ (u : PageUse). u.owner) (same-use f p within some);
  class = λ f p within some. ap (λ (u : PageUse). u.class) (same-use f p within some);
}
  where
    same-use : (f p : ℕ) → IsWithin (pages_of old f) p → 1 ≤ owner_in (pages_of old f) p → use_of (pages_of new f) p ≡ use_of (pages_of old f) p
    same-use f p within some = elim (nat_cases f file) [
      | inl same ↦ subst (λ (n : ℕ). use_of (pages_of new n) p ≡ use_of (pages_of old n) p) (sym same)
          (takes.here.others p within.first (λ at. let none : owner_in (pages_of old f) p ≡ 0 = ap (λ (k : ℕ). owner_in (pages_of old k) p) same ∙ ap (λ (k : ℕ). owner_in (pages_of old file) k) at ∙ fresh.free in omega (arith, none, some)))
      | inr apart ↦ ap (λ (ps : Pages). use_of ps p) (takes.others f apart)
    ]
