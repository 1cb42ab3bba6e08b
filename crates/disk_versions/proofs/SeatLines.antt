-- The lines of a transaction that wait: one more, or another for one of them.
use Rattle.std.specs.Prelude.{◌%◌, nat_eq, if◌then◌else◌}
use Rattle.std.proofs.Common.{arith, ◌≡◌, ℕ, ◌-◌, ◌≤◌, ◌<◌, Bool, true, false, List, [], ◌∷◌, ◌++◌, Some, slice_get, ◌⊎◌, inl, inr, ⊎_elim, ap, sym, subst, ◌∙◌, IsTrue}
use Rattle.rdb_types.specs.declared.keys.Dbkey.{Dbkey}
use Rattle.rdb_types.specs.declared.keys.Tsn.{Tsn}
use Rattle.rdb_types.specs.declared.keys.Line.{Line}
use Rattle.rdb_outside.specs.Disk.{View}
use Rattle.snapshot_file.specs.declared.entry.SnapEntry.{SnapEntry}
use Rattle.line_versions.specs.Versions.{snap_of}
use Rattle.line_versions.specs.Files.{entries_in, snap_file}
use Rattle.line_versions.specs.Course.{Course, pushed, IsAbove, IsFirst, IsChanged, with_entry}
use Rattle.line_versions.proofs.Slots.{one_each}
use Rattle.line_versions.proofs.Steps.{changed_first, changed_new}
use Rattle.line_versions.specs.Lines.{storage_area}
use Rattle.line_opening.specs.stable_lines.Slots.{Undo, IsAreaFile, line_at}
use Rattle.line_opening.specs.stable_lines.Progress.{Progress}
use Rattle.line_opening.proofs.of_stable_lines.Lists.{got_either, got_one}
use Rattle.line_opening.specs.line_moves.Calls.{OnlyWrites}
use Rattle.line_opening.specs.line_moves.Lines.{ChangedLines, HasLine}
use Rattle.line_opening.proofs.of_line_moves.LinePut.{same_key}
use Rattle.disk_versions.specs.Courses.{course_pushed}
use Rattle.disk_versions.specs.Versions.{VersionFacts, SeatVersions, IsPushedBy, PutsIn, IsNoneOfThem}
use Rattle.disk_versions.proofs.Moves.{kept_in_slot, lines_in_slot, seat_moves}
use Rattle.disk_versions.proofs.Pushes.{stands_as_base, unfollowed, pushes, above_held, with_it, with_others, which_is}

-- ---- another line for a key, which stands above the committed one as the one before did

module _ (v : View) (course : Course) (tsn : Tsn) (all : List Undo) (lines more : ChangedLines) (key : Dbkey) (line : Line) (puts : PutsIn lines key line more) (bears : line.tsn ≡ tsn) (was : SeatVersions v course tsn all lines) where
  each_bears : (i : ℕ) (l : Dbkey × Line) → slice_get more i ≡ Some l → l.1.tsn ≡ tsn
  each_bears i l got = ⊎_elim (λ h. ap (λ (x : Line). x.tsn) (sym h.value_is) ∙ was.bears h.index h.line h.is) (λ here. ap (λ (x : Line). x.tsn) here.1 ∙ bears) (puts.each i l got)

  each_above : IsChanged (entries_in v.content) course key line → (i : ℕ) (l : Dbkey × Line) → slice_get more i ≡ Some l → IsChanged (entries_in v.content) course l.0 l.1
  each_above changed i l got = ⊎_elim
      (λ h. subst (λ (k : Dbkey). IsChanged (entries_in v.content) course k l.1) h.key_is (subst (λ (x : Line). IsChanged (entries_in v.content) course h.line.0 x) h.value_is (was.above h.index h.line h.is)))
      (λ here. subst (λ (k : Dbkey). IsChanged (entries_in v.content) course k l.1) (sym here.0) (subst (λ (x : Line). IsChanged (entries_in v.content) course key x) (sym here.1) changed))
      (puts.each i l got)

  -- an entry whose line waits has its line still
  still_its : (file chain : ℕ) (e : SnapEntry) → ((i : ℕ) (l : Dbkey × Line) → slice_get lines i ≡ Some l → l.0 ≡ key → l.1.chain ≡ line.chain) → IsPushedBy lines file chain e → IsPushedBy more file chain e
  still_its file chain e same p = ⊎_elim
      (λ keys. record { index = puts.here.index; line = puts.here.line; is = puts.here.is; key_is = puts.here.key_is ∙ sym keys ∙ p.key_is; chain_is = ap (λ (x : Line). x.chain) puts.here.value_is ∙ sym (same p.index p.line p.is keys) ∙ p.chain_is; file_is = p.file_is })
      (λ apart. let h = puts.kept p.index p.line p.is apart in record { index = h.index; line = h.line; is = h.is; key_is = h.key_is ∙ p.key_is; chain_is = ap (λ (x : Line). x.chain) h.value_is ∙ p.chain_is; file_is = p.file_is })
      (same_key p.line.0 key)

  with_line : IsChanged (entries_in v.content) course key line → ((i : ℕ) (l : Dbkey × Line) → slice_get lines i ≡ Some l → l.0 ≡ key → l.1.chain ≡ line.chain) → SeatVersions v course tsn all more
  with_line changed same = record {
    bases = was.bases;
    bears = each_bears;
    above = each_above changed;
    pushed = λ file chain e held s its. still_its file chain e same (was.pushed file chain e held s its);
  }

  -- a line that was never used has nothing to push
  pub seat_first : (now : Progress) (limit : ℕ) → VersionFacts v now limit course → IsNoneOfThem lines key → course.going (line_at v.content key).tsn.number ≡ false → course.going tsn.number ≡ true → IsFirst line (line_at v.content key) → SeatVersions v course tsn all more
  seat_first now limit facts none ended goes is_first = with_line
      (changed_new (entries_in v.content) (line_at v.content) course key line facts.right ended (ap (λ (t : Tsn). course.going t.number) bears ∙ goes) is_first)
      (λ i l got same. absurd (none i l got same))

  -- a further change keeps the chain
  pub seat_further : (before : Line) → HasLine lines key before → line.chain ≡ before.chain → ((i : ℕ) (l : Dbkey × Line) → slice_get lines i ≡ Some l → l.0 ≡ key → l.1 ≡ before) → SeatVersions v course tsn all more
  seat_further before has chain one = with_line changed (λ i l got same. ap (λ (x : Line). x.chain) (one i l got same) ∙ sym chain)
    where
      old : IsChanged (entries_in v.content) course key before
      old = subst (λ (k : Dbkey). IsChanged (entries_in v.content) course k before) has.key_is (subst (λ (x : Line). IsChanged (entries_in v.content) course has.line.0 x) has.value_is (was.above has.index has.line has.is))

      tsn_is : line.tsn ≡ before.tsn
      tsn_is = bears ∙ sym (was.bears has.index has.line has.is) ∙ ap (λ (x : Line). x.tsn) has.value_is

      above : IsAbove (entries_in v.content) course.followed key before (course.base key) → IsAbove (entries_in v.content) course.followed key line (course.base key)
      above (inl f) = inl (record { never = f.never; none = f.none; chain = chain ∙ f.chain })
      above (inr p) = inr (record {
        number = subst (λ (n : ℕ). 1 ≤ n) (sym chain) p.number;
        entry = p.entry;
        stands = subst (λ (n : ℕ). entries_in v.content (snap_of key) n p.entry) (sym chain) p.stands;
        held = ap (λ (n : ℕ). course.followed (snap_of key) n) chain ∙ p.held;
        key_is = p.key_is;
        pusher = p.pusher ∙ sym tsn_is;
        version = p.version;
      })

      changed : IsChanged (entries_in v.content) course key line
      changed = record { going = ap (λ (t : Tsn). course.going t.number) tsn_is ∙ old.going; above = above old.above }

-- ---- a first change of a line that was used

of_tests : (a b : Bool) → IsAreaFile (if a then 1 else (if b then 2 else 3))
of_tests true b = record { first = omega arith; last = omega arith }
of_tests false true = record { first = omega arith; last = omega arith }
of_tests false false = record { first = omega arith; last = omega arith }

snap_file_is : (area : ℕ) → IsAreaFile (storage_area area)
snap_file_is area = of_tests (nat_eq area 1) (nat_eq (area % 2) 0)

module _ (v w : View) (now : Progress) (limit : ℕ) (course : Course) (key : Dbkey) (line : Line) (told : IsTrue v.tells) (some : 1 ≤ line.chain) (within : line.chain ≤ limit) (free : course.followed (snap_of key) line.chain ≡ false)
    (writes : OnlyWrites (snap_file (snap_of key)) (line.chain - 1) v w) (stands : entries_in w.content (snap_of key) line.chain (pushed key line.tsn (line_at v.content key)))
    (ended : course.going (line_at v.content key).tsn.number ≡ false) (goes : course.going line.tsn.number ≡ true) (was : VersionFacts v now limit course) where
  abbrev entry : SnapEntry
  entry = pushed key line.tsn (line_at v.content key)

  abbrev pub after : Course
  after = course_pushed (snap_of key) line.chain course

  same_line : line_at w.content key ≡ line_at v.content key
  same_line = lines_in_slot v w (snap_of key) (line.chain - 1) told writes key

  low : (line_at v.content key).tsn.number < course.next
  low = by (was.right.current key)
    where
      by : (line_at v.content key ≡ course.base key) ⊎ IsChanged (entries_in v.content) course key (line_at v.content key) → (line_at v.content key).tsn.number < course.next
      by (inl same) = subst (λ (l : Line). l.tsn.number < course.next) (sym same) (was.right.drawn key)
      by (inr c) = was.right.below (line_at v.content key).tsn.number c.going

  pub line_pushed : VersionFacts w now limit after
  line_pushed = pushes v w now limit course (snap_of key) line.chain entry told some within free writes stands was (snap_file_is key.area) goes ended low

  changed : IsChanged (entries_in w.content) after key line
  changed = changed_first (entries_in w.content) (line_at w.content) after key line line_pushed.right (ap (λ (l : Line). course.going l.tsn.number) same_line ∙ ended) goes some
      (subst (λ (l : Line). entries_in w.content (snap_of key) line.chain (pushed key line.tsn l)) (sym same_line) stands) (with_it course.followed (snap_of key) line.chain)

  pub seat_pushes : (tsn : Tsn) (all : List Undo) (lines more : ChangedLines) → PutsIn lines key line more → line.tsn ≡ tsn → IsNoneOfThem lines key → SeatVersions v course tsn all lines → SeatVersions w after tsn all more
  seat_pushes tsn all lines more puts bears none seat = record {
    bases = seat.bases;
    bears = each_bears v course tsn all lines more key line puts bears seat;
    above = λ i l got. ⊎_elim
        (λ h. subst (λ (k : Dbkey). IsChanged (entries_in w.content) after k l.1) h.key_is (subst (λ (x : Line). IsChanged (entries_in w.content) after h.line.0 x) h.value_is (held_still h.index h.line h.is)))
        (λ here. subst (λ (k : Dbkey). IsChanged (entries_in w.content) after k l.1) (sym here.0) (subst (λ (x : Line). IsChanged (entries_in w.content) after key x) (sym here.1) changed))
        (puts.each i l got);
    pushed = λ f c e held s its. ⊎_elim (λ h. still_its v course tsn all lines more key line puts bears seat f c e (λ i l got same. absurd (none i l got same)) (moved.pushed f c e h s its)) (λ here. its_own f c e s here) (which_is course.followed (snap_of key) line.chain f c held);
  }
    where
      moved : SeatVersions w course tsn all lines
      moved = seat_moves v w course tsn all lines (kept_in_slot v w course.followed (snap_of key) (line.chain - 1) told (unfollowed v w now limit course (snap_of key) line.chain entry told some within free writes stands was) writes) seat

      held_still : (i : ℕ) (l : Dbkey × Line) → slice_get lines i ≡ Some l → IsChanged (entries_in w.content) after l.0 l.1
      held_still i l got = let c = moved.above i l got in record { going = c.going; above = above_held w course.followed (with_entry (snap_of key) line.chain course.followed) l.0 l.1 (course.base l.0) (with_others course.followed (snap_of key) line.chain) c.above }

      its_own : (f c : ℕ) (e : SnapEntry) → entries_in w.content f c e → (f ≡ snap_of key) × (c ≡ line.chain) → IsPushedBy more f c e
      its_own f c e s here =
          let same : entry ≡ e = one_each w.content (snap_of key) line.chain entry e stands (subst (λ (n : ℕ). entries_in w.content (snap_of key) n e) here.1 (subst (λ (m : ℕ). entries_in w.content m c e) here.0 s)) in
          let keys : key ≡ e.key = ap (λ (x : SnapEntry). x.key) same in
          record { index = puts.here.index; line = puts.here.line; is = puts.here.is; key_is = puts.here.key_is ∙ keys; chain_is = ap (λ (x : Line). x.chain) puts.here.value_is ∙ sym here.1; file_is = ap snap_of (sym keys) ∙ sym here.0 }

-- ---- a line is journalled

pub seat_journalled : (v : View) (now : Progress) (limit : ℕ) (course : Course) (key : Dbkey) (tsn : Tsn) (all : List Undo) (lines : ChangedLines) → course.going (line_at v.content key).tsn.number ≡ false → VersionFacts v now limit course → SeatVersions v course tsn all lines
    → SeatVersions v course tsn (all ++ (record { key = key; before = line_at v.content key }) ∷ []) lines
seat_journalled v now limit course key tsn all lines ended facts was = record {
  bases = λ i undo got. ⊎_elim (λ old. was.bases i undo old) (λ new. subst (λ (u : Undo). u.before ≡ course.base u.key) (got_one (record { key = key; before = line_at v.content key }) undo new.0 new.2).1 (stands_as_base v now limit course key facts ended))
      (got_either all ((record { key = key; before = line_at v.content key }) ∷ []) i undo got);
  bears = was.bears;
  above = was.above;
  pushed = was.pushed;
}
