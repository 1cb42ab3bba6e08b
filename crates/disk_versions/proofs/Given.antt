-- Slots are given back.
use Rattle.std.proofs.Common.{◌≡◌, ◌≢◌, ℕ, ◌&&◌, Bool, true, false, not, List, Some, slice_get, ◌⊎◌, inl, inr, ap, sym, ◌∙◌, refl, arith}
use Rattle.std.proofs.lemmas.Bool.{false≢true}
use Rattle.rdb_types.specs.declared.keys.Dbkey.{Dbkey}
use Rattle.rdb_types.specs.declared.keys.Tsn.{Tsn}
use Rattle.rdb_types.specs.declared.keys.Line.{Line}
use Rattle.rdb_outside.specs.Disk.{View}
use Rattle.snapshot_file.specs.declared.entry.SnapEntry.{SnapEntry}
use Rattle.line_versions.specs.Versions.{Entries, Followed, snap_of}
use Rattle.line_versions.specs.Files.{entries_in}
use Rattle.line_versions.specs.Course.{Course, IsAbove, IsChanged, IsNeeded, MayBeGiven, AreRight, with_followed}
use Rattle.line_versions.specs.Exact.{AreExact}
use Rattle.line_versions.proofs.Steps.{entries_other}
use Rattle.line_versions.proofs.Exact.{exact_entries, walk_ended}
use Rattle.line_opening.specs.stable_lines.Slots.{Undo, line_at}
use Rattle.line_opening.specs.stable_lines.Progress.{Progress}
use Rattle.line_opening.specs.line_moves.Lines.{ChangedLines}
use Rattle.disk_versions.specs.Courses.{course_given}
use Rattle.disk_versions.specs.Versions.{VersionFacts, SeatVersions}

-- what is followed still
pub was_followed : (a b : Bool) → (a && not b) ≡ true → a ≡ true
was_followed a b h = grind arith

pub not_given : (a b : Bool) → (a && not b) ≡ true → b ≡ false
not_given a b h = grind arith

pub left_in : (a b : Bool) → a ≡ true → b ≡ false → (a && not b) ≡ true
left_in a b h k = grind arith

-- a slot stays where it isn't given back
stays : (course : Course) (given : ℕ → ℕ → Bool) (file chain : ℕ) → course.followed file chain ≡ true → (given file chain ≡ true → ⊥) → (course.followed file chain && not (given file chain)) ≡ true
stays course given file chain held keep = left_in (course.followed file chain) (given file chain) held (by (given file chain) refl)
  where
    by : (b : Bool) → given file chain ≡ b → b ≡ false
    by true is = absurd (keep is)
    by false is = refl

module _ (v : View) (now : Progress) (limit : ℕ) (course : Course) (given : ℕ → ℕ → Bool) (was : VersionFacts v now limit course) where
  abbrev pub E : Entries
  E = entries_in v.content

  abbrev pub held : Followed
  held = λ file chain. course.followed file chain && not (given file chain)

  rest : AreRight E (line_at v.content) (with_followed held course) → AreExact E (with_followed held course) → VersionFacts v now limit (course_given given course)
  rest right exact = record {
    right = right;
    exact = exact;
    within = λ file chain h. was.within file chain (was_followed (course.followed file chain) (given file chain) h);
    files = λ file chain h. was.files file chain (was_followed (course.followed file chain) (given file chain) h);
    next = was.next;
    lines = was.lines;
    going = was.going;
    goes = was.goes;
    befores = was.befores;
  }

  -- their transactions have ended, and every reader sees those
  pub gives : ((file chain : ℕ) (e : SnapEntry) → given file chain ≡ true → course.followed file chain ≡ true → E file chain e → MayBeGiven course e) → VersionFacts v now limit (course_given given course)
  gives may = rest
      (entries_other E E held (line_at v.content) course (λ f c e s h needed. (s, stays course given f c h (λ g. never e (may f c e g h s) needed))) was.right)
      (exact_entries E E held course (λ r x is f c e s h unseen. (s, stays course given f c h (λ g. false≢true (sym unseen ∙ (may f c e g h s).seen r x is)))) was.right.below
      (λ f c e h s. inl (was_followed (course.followed f c) (given f c) h, s)) was.exact)
    where
      never : (e : SnapEntry) → MayBeGiven course e → IsNeeded course e → ⊥
      never e m (inl goes) = false≢true (sym m.ended ∙ goes)
      never e m (inr n) = false≢true (sym n.3 ∙ m.seen n.0 n.1 n.2)

  -- they were pushed by a transaction whose lines are all undone, or were never put
  pub gives_undone : (tsn : ℕ) → course.going tsn ≡ true → ((key : Dbkey) → (line_at v.content key).tsn.number ≢ tsn) → ((file chain : ℕ) (e : SnapEntry) → given file chain ≡ true → course.followed file chain ≡ true → E file chain e → e.pusher.number ≡ tsn) → VersionFacts v now limit (course_given given course)
  gives_undone tsn goes nowhere its = rest
      (record {
        shows = was.right.shows;
        drawn = was.right.drawn;
        ended = was.right.ended;
        below = was.right.below;
        current = λ key. by key (was.right.current key);
        readers = λ r x is. record {
          began = (was.right.readers r x is).began;
          unseen = (was.right.readers r x is).unseen;
          sees_base = λ key. let s = (was.right.readers r x is).sees_base key in record { over = s.over; walk = walk_ended E course.followed held course x.start key was.exact.past ended_stays s.over (course.base key) (x.lines key) (was.right.ended key) s.walk };
        };
      })
      (record {
        past = λ f c e h s. was.exact.past f c e (was_followed (course.followed f c) (given f c) h) s;
        drawn = λ f c e h s. was.exact.drawn f c e (was_followed (course.followed f c) (given f c) h) s;
        passed = λ f c e r x h s ended is unseen.
            let p = was.exact.passed f c e r x (was_followed (course.followed f c) (given f c) h) s ended is unseen in
            (p.0, record { over = p.1.over; walk = walk_ended E course.followed held course x.start e.key was.exact.past ended_stays p.1.over (course.base e.key) (x.lines e.key) (was.right.ended e.key) p.1.walk; there = p.1.there });
      })
    where
      other_stays : (f c : ℕ) (e : SnapEntry) → E f c e → course.followed f c ≡ true → e.pusher.number ≢ tsn → held f c ≡ true
      other_stays f c e s h other = stays course given f c h (λ g. other (its f c e g h s))

      ended_stays : (f c : ℕ) (e : SnapEntry) → E f c e → course.followed f c ≡ true → course.going e.pusher.number ≡ false → held f c ≡ true
      ended_stays f c e s h ended = other_stays f c e s h (λ same. false≢true (sym ended ∙ (ap course.going same ∙ goes)))

      above : (key : Dbkey) → IsAbove E course.followed key (line_at v.content key) (course.base key) → IsAbove E held key (line_at v.content key) (course.base key)
      above key (inl first) = inl first
      above key (inr p) = inr (record {
        number = p.number;
        entry = p.entry;
        stands = p.stands;
        held = other_stays (snap_of key) (line_at v.content key).chain p.entry p.stands p.held (λ same. nowhere key (sym (ap (λ (t : Tsn). t.number) p.pusher) ∙ same));
        key_is = p.key_is;
        pusher = p.pusher;
        version = p.version;
      })

      by : (key : Dbkey) → (line_at v.content key ≡ course.base key) ⊎ IsChanged E course key (line_at v.content key) → (line_at v.content key ≡ course.base key) ⊎ IsChanged E (with_followed held course) key (line_at v.content key)
      by key (inl same) = inl same
      by key (inr c) = inr (record { going = c.going; above = above key c.above })

-- the lines of another transaction wait on
pub seat_beside_given : (v : View) (course : Course) (given : ℕ → ℕ → Bool) (tsn : Tsn) (all : List Undo) (lines : ChangedLines) → ((file chain : ℕ) (e : SnapEntry) → given file chain ≡ true → course.followed file chain ≡ true → entries_in v.content file chain e → e.pusher.number ≢ tsn.number) → SeatVersions v course tsn all lines → SeatVersions v (course_given given course) tsn all lines
seat_beside_given v course given tsn all lines other was = record {
  bases = was.bases;
  bears = was.bears;
  above = λ i line got. let c = was.above i line got in record { going = c.going; above = kept i line got c.above };
  pushed = λ f c e h s its. was.pushed f c e (was_followed (course.followed f c) (given f c) h) s its;
}
  where
    kept : (i : ℕ) (line : Dbkey × Line) → slice_get lines i ≡ Some line → IsAbove (entries_in v.content) course.followed line.0 line.1 (course.base line.0) → IsAbove (entries_in v.content) (λ f c. course.followed f c && not (given f c)) line.0 line.1 (course.base line.0)
    kept i line got (inl first) = inl first
    kept i line got (inr p) = inr (record {
      number = p.number;
      entry = p.entry;
      stands = p.stands;
      held = stays course given (snap_of line.0) line.1.chain p.held (λ g. other (snap_of line.0) line.1.chain p.entry g p.held p.stands (ap (λ (t : Tsn). t.number) (p.pusher ∙ was.bears i line got)));
      key_is = p.key_is;
      pusher = p.pusher;
      version = p.version;
    })
