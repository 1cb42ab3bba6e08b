-- A version is pushed aside.
use Rattle.std.proofs.Common.{◌≡◌, ◌≢◌, ℕ, ◌-◌, ◌≤◌, ◌<◌, ◌==◌, ◌&&◌, Bool, true, false, cond, List, ◌⊎◌, inl, inr, ⊎_elim, ap, sym, subst, ◌∙◌, refl, arith, IsTrue}
use Rattle.std.proofs.lemmas.Bool.{false≢true, eqb-true, eq-eqb}
use Rattle.rdb_types.specs.declared.keys.Dbkey.{Dbkey}
use Rattle.rdb_types.specs.declared.keys.Tsn.{Tsn}
use Rattle.rdb_types.specs.declared.keys.Line.{Line}
use Rattle.rdb_outside.specs.Disk.{View}
use Rattle.snapshot_file.specs.declared.entry.SnapEntry.{SnapEntry}
use Rattle.line_versions.specs.Versions.{Followed, snap_of}
use Rattle.line_versions.specs.Files.{entries_in, snap_file}
use Rattle.line_versions.specs.Course.{Course, IsAbove, with_entry}
use Rattle.line_versions.proofs.Slots.{one_each, entry_held}
use Rattle.line_versions.proofs.Steps.{is_base}
use Rattle.line_versions.proofs.Exact.{exact_entries, ComesNew}
use Rattle.line_opening.specs.stable_lines.Slots.{Undo, IsAreaFile, line_at}
use Rattle.line_opening.specs.stable_lines.Progress.{Progress}
use Rattle.line_opening.specs.line_moves.Calls.{OnlyWrites}
use Rattle.line_opening.specs.line_moves.Lines.{ChangedLines}
use Rattle.disk_versions.specs.Courses.{course_pushed}
use Rattle.disk_versions.specs.Versions.{VersionFacts, SeatVersions}
use Rattle.disk_versions.proofs.Moves.{kept_in_slot, lines_in_slot, versions_move}

both : (a b : Bool) → a ≡ true → b ≡ true → (a && b) ≡ true
both a b h k = grind arith

first : (a b : Bool) → (a && b) ≡ true → a ≡ true
first a b h = grind arith

second : (a b : Bool) → (a && b) ≡ true → b ≡ true
second a b h = grind arith

-- what is followed with one entry more
pub with_it : (followed : Followed) (file chain : ℕ) → with_entry file chain followed file chain ≡ true
with_it followed file chain = ap (λ b. cond b true (followed file chain)) (both (file == file) (chain == chain) (eq-eqb file file refl) (eq-eqb chain chain refl))

pub with_others : (followed : Followed) (file chain f c : ℕ) → followed f c ≡ true → with_entry file chain followed f c ≡ true
with_others followed file chain f c held = by ((f == file) && (c == chain)) (followed f c) held
  where
    by : (b x : Bool) → x ≡ true → cond b true x ≡ true
    by true x h = refl
    by false x h = h

pub which_is : (followed : Followed) (file chain f c : ℕ) → with_entry file chain followed f c ≡ true → (followed f c ≡ true) ⊎ ((f ≡ file) × (c ≡ chain))
which_is followed file chain f c held = by ((f == file) && (c == chain)) refl held
  where
    by : (b : Bool) → ((f == file) && (c == chain)) ≡ b → cond ((f == file) && (c == chain)) true (followed f c) ≡ true → (followed f c ≡ true) ⊎ ((f ≡ file) × (c ≡ chain))
    by true is h = inr (eqb-true f file (first (f == file) (c == chain) is), eqb-true c chain (second (f == file) (c == chain) is))
    by false is h = inl (ap (λ b. cond b true (followed f c)) (sym is) ∙ h)

-- ---- a push

module _ (v w : View) (now : Progress) (limit : ℕ) (course : Course) (number chain : ℕ) (entry : SnapEntry) (told : IsTrue v.tells) (some : 1 ≤ chain) (within : chain ≤ limit) (free : course.followed number chain ≡ false)
    (writes : OnlyWrites (snap_file number) (chain - 1) v w) (stands : entries_in w.content number chain entry) (was : VersionFacts v now limit course) where
  pub unfollowed : (c : ℕ) → 1 ≤ c → chain - 1 ≡ c - 1 → course.followed number c ≡ true → ⊥
  unfollowed c low at held =
      let same : chain ≡ c = omega (arith, some, low, at) in
      false≢true (sym free ∙ ap (λ (n : ℕ). course.followed number n) same ∙ held)

  -- the slot was written, and isn't followed yet
  pub written : VersionFacts w now limit course
  written = versions_move v w now limit course (kept_in_slot v w course.followed number (chain - 1) told unfollowed writes) (λ key. inl (lines_in_slot v w number (chain - 1) told writes key)) was

  pub pushes : IsAreaFile number → course.going entry.pusher.number ≡ true → course.going entry.tsn.number ≡ false → entry.tsn.number < course.next → VersionFacts w now limit (course_pushed number chain course)
  pushes file_is goes past low = record {
    right = entry_held (entries_in w.content) number chain (line_at w.content) course written.right;
    exact = exact_entries (entries_in w.content) (entries_in w.content) (with_entry number chain course.followed) course (λ r x is f c e s held unseen. (s, with_others course.followed number chain f c held)) written.right.below
        (λ f c e held s. from f c e s (which_is course.followed number chain f c held)) written.exact;
    within = λ f c held. ⊎_elim (λ h. was.within f c h) (λ here. subst (λ (n : ℕ). n ≤ limit) (sym here.1) within) (which_is course.followed number chain f c held);
    files = λ f c held. ⊎_elim (λ h. was.files f c h) (λ here. subst (λ (n : ℕ). IsAreaFile n) (sym here.0) file_is) (which_is course.followed number chain f c held);
    next = was.next;
    lines = was.lines;
    going = was.going;
    goes = was.goes;
    befores = was.befores;
  }
    where
      from : (f c : ℕ) (e : SnapEntry) → entries_in w.content f c e → (course.followed f c ≡ true) ⊎ ((f ≡ number) × (c ≡ chain)) → ((course.followed f c ≡ true) × (entries_in w.content f c e)) ⊎ ComesNew course e
      from f c e s (inl held) = inl (held, s)
      from f c e s (inr here) =
          let same : entry ≡ e = one_each w.content number chain entry e stands (subst (λ (n : ℕ). entries_in w.content number n e) here.1 (subst (λ (m : ℕ). entries_in w.content m c e) here.0 s)) in
          inr (subst (λ (x : SnapEntry). ComesNew course x) same (record { goes = goes; past = past; low = low }))

-- ---- what follows for a line

-- no transaction that goes on bears it, so it is the committed one
pub stands_as_base : (v : View) (now : Progress) (limit : ℕ) (course : Course) (key : Dbkey) → VersionFacts v now limit course → course.going (line_at v.content key).tsn.number ≡ false → line_at v.content key ≡ course.base key
stands_as_base v now limit course key was ended = is_base (entries_in v.content) (line_at v.content) course was.right key ended

-- ---- seats

pub above_held : (v : View) (followed held : Followed) (key : Dbkey) (line before : Line) → ((f c : ℕ) → followed f c ≡ true → held f c ≡ true) → IsAbove (entries_in v.content) followed key line before → IsAbove (entries_in v.content) held key line before
above_held v followed held key line before more (inl first) = inl first
above_held v followed held key line before more (inr p) = inr (record { number = p.number; entry = p.entry; stands = p.stands; held = more (snap_of key) line.chain p.held; key_is = p.key_is; pusher = p.pusher; version = p.version })

-- what another pushed is none of its own
pub seat_beside_push : (v : View) (course : Course) (number chain : ℕ) (entry : SnapEntry) (tsn : Tsn) (all : List Undo) (lines : ChangedLines) → entries_in v.content number chain entry → entry.pusher.number ≢ tsn.number → SeatVersions v course tsn all lines → SeatVersions v (course_pushed number chain course) tsn all lines
seat_beside_push v course number chain entry tsn all lines stands other was = record {
  bases = was.bases;
  bears = was.bears;
  above = λ i line got. let c = was.above i line got in record { going = c.going; above = above_held v course.followed (with_entry number chain course.followed) line.0 line.1 (course.base line.0) (with_others course.followed number chain) c.above };
  pushed = λ f c e held s its. ⊎_elim (λ h. was.pushed f c e h s its)
      (λ here. absurd (other (ap (λ (x : SnapEntry). x.pusher.number) (one_each v.content number chain entry e stands (subst (λ (n : ℕ). entries_in v.content number n e) here.1 (subst (λ (m : ℕ). entries_in v.content m c e) here.0 s))) ∙ its)))
      (which_is course.followed number chain f c held);
}
