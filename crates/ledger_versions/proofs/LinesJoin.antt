-- Lines are journalled, pushed aside, and join those that wait.
use Rattle.std.proofs.Common.{◌≡◌, ℕ, ◌-◌, ◌≤◌, true, false, List, [], ◌∷◌, ◌++◌, length, Some, slice_get, inl, inr, ⊎_elim, ap, sym, subst, ◌∙◌, IsTrue}
use Rattle.rdb_types.specs.declared.file.FileKind.TheVariants.{Snap, Area, Ruj}
use Rattle.rdb_types.specs.declared.keys.Dbkey.{Dbkey}
use Rattle.rdb_types.specs.declared.keys.Tsn.{Tsn}
use Rattle.rdb_types.specs.declared.keys.Line.{Line}
use Rattle.rdb_outside.specs.Disk.{View}
use Rattle.line_versions.specs.Versions.{Entries, snap_of}
use Rattle.line_versions.specs.Files.{entries_in, snap_file}
use Rattle.line_versions.specs.Course.{Course, IsAbove, IsChanged, IsFirst, pushed}
use Rattle.stable_lines.specs.Slots.{Undo, ruj_file, line_at}
use Rattle.stable_lines.specs.Progress.{Open}
use Rattle.stable_lines.proofs.Lists.{got_left}
use Rattle.stable_lines.proofs.Turns.{some_same}
use Rattle.line_moves.specs.Calls.{OnlyWrites}
use Rattle.line_moves.specs.Lines.{ChangedLines, HasLine}
use Rattle.line_moves.proofs.OnlyPut.{lines_beside}
use Rattle.disk_seats.specs.Ledgers.{Standing, changing, committing, entries_of, Commit, Ledger, stands_as}
use Rattle.disk_seats.specs.Members.{LedgerFacts}
use Rattle.disk_versions.specs.Courses.{course_pushed}
use Rattle.disk_versions.specs.Versions.{SeatVersions, PutsIn, IsNoneOfThem}
use Rattle.disk_versions.proofs.Moves.{KeepsEntries, kept_aside, kept_in_slot, lines_in_slot, seat_moves, versions_move}
use Rattle.disk_versions.proofs.Pushes.{unfollowed, seat_beside_push}
use Rattle.disk_versions.proofs.SeatLines.{line_pushed, seat_pushes, seat_first, seat_further, seat_journalled}
use Rattle.ledger_versions.specs.Readers.{Waiting, set_waiting, HasLines, HasBefore, HasVersionOf, AreAlike, ReaderFacts}
use Rattle.ledger_versions.proofs.Standings.{one_number}
use Rattle.ledger_versions.proofs.Restanding.{with_member, lines_there, put_keeps}
use Rattle.ledger_versions.proofs.MembersEnd.{commits_as}

not_committing : (all es : List Undo) (stable : ℕ) → changing all stable ≡ committing es → ⊥
not_committing all es stable bad = cc

has_lines : (s : Standing) (all : List Undo) (stable : ℕ) → s ≡ changing all stable → HasLines s
has_lines s all stable same = subst (λ (x : Standing). HasLines x) (sym same) tt

-- what stands above the committed line is told by transaction and chain alone
alike_changed : (E : Entries) (course : Course) (key : Dbkey) (line before : Line) → line.tsn ≡ before.tsn → line.chain ≡ before.chain → IsChanged E course key before → IsChanged E course key line
alike_changed E course key line before tsn chain was = record { going = ap (λ (t : Tsn). course.going t.number) tsn ∙ was.going; above = above was.above }
  where
    above : IsAbove E course.followed key before (course.base key) → IsAbove E course.followed key line (course.base key)
    above (inl f) = inl (record { never = f.never; none = f.none; chain = chain ∙ f.chain })
    above (inr p) = inr (record {
      number = subst (λ (n : ℕ). 1 ≤ n) (sym chain) p.number;
      entry = p.entry;
      stands = subst (λ (n : ℕ). E (snap_of key) n p.entry) (sym chain) p.stands;
      held = ap (λ (n : ℕ). course.followed (snap_of key) n) chain ∙ p.held;
      key_is = p.key_is;
      pusher = p.pusher ∙ sym tsn;
      version = p.version;
    })

seat_alike : (v : View) (course : Course) (tsn : Tsn) (all : List Undo) (lines more : ChangedLines) → AreAlike lines more → SeatVersions v course tsn all lines → SeatVersions v course tsn all more
seat_alike v course tsn all lines more alike was = record {
  bases = was.bases;
  bears = λ i l got. let h = alike.each i l got in sym h.tsn_is ∙ was.bears h.index h.line h.is;
  above = λ i l got.
      let h = alike.each i l got in
      alike_changed (entries_in v.content) course l.0 l.1 h.line.1 (sym h.tsn_is) (sym h.chain_is) (subst (λ (k : Dbkey). IsChanged (entries_in v.content) course k h.line.1) h.key_is (was.above h.index h.line h.is));
  pushed = λ file chain e held s its.
      let p = was.pushed file chain e held s its in
      let h = alike.kept p.index p.line p.is in
      record { index = h.index; line = h.line; is = h.is; key_is = h.key_is ∙ p.key_is; chain_is = h.chain_is ∙ p.chain_is; file_is = p.file_is };
}

module _ (v : View) (g : Ledger) (limit : ℕ) (course : Course) (waiting : Waiting) (member : ℕ) (all : List Undo) (stable : ℕ) (o : Open) (facts : LedgerFacts v g) (stands : g.standing member ≡ changing all stable) (is : g.base.going member ≡ Some o) (was : ReaderFacts v g limit course waiting) where
  -- its seat
  pub seat : SeatVersions v course o.tsn all (waiting member)
  seat = subst (λ (s : Standing). SeatVersions v course o.tsn (entries_of s) (waiting member)) stands (was.seats member o (has_lines (g.standing member) all stable stands) is)

  pub befores : (i : ℕ) (line : Dbkey × Line) → slice_get (waiting member) i ≡ Some line → HasBefore all line.0
  befores i line got = subst (λ (s : Standing). HasBefore (entries_of s) line.0) stands (was.journalled member i line (has_lines (g.standing member) all stable stands) got)

  its_tsn : (p : Open) → g.base.going member ≡ Some p → o ≡ p
  its_tsn p got = some_same o p (sym is ∙ got)

  beside : (lines : ChangedLines) (x : Standing) (c : Commit) → g.commit ≡ Some c → set_waiting member lines waiting c.member ≡ c.lines
  beside lines x c under = lines_there v g member x lines waiting c.member (commits_as v g facts c under member (λ es bad. not_committing all es stable (sym stands ∙ bad))) ∙ was.its c under

  -- ---- its before-image is journalled

  pub line_journalled : (w : View) (key : Dbkey) (index : ℕ) → IsTrue v.tells → OnlyWrites (ruj_file member) index v w → course.going (line_at v.content key).tsn.number ≡ false
      → ReaderFacts w (stands_as member (changing (all ++ (record { key = key; before = line_at v.content key }) ∷ []) stable) g) limit course (set_waiting member (waiting member) waiting)
  line_journalled w key index t writes ended =
      with_member w g member (changing more stable) (waiting member) waiting limit course g.base g.commit g.history g.moments
      (versions_move v w g.base limit course kept (λ k. inl (keeps k)) was.versions)
      (λ p has got. subst (λ (q : Open). SeatVersions w course q.tsn more (waiting member)) (its_tsn p got)
      (seat_moves v w course o.tsn more (waiting member) kept (seat_journalled v g.base limit course key o.tsn all (waiting member) ended was.versions seat)))
      (λ i line has got. let b = befores i line got in record { index = b.index; undo = b.undo; is = got_left all ((record { key = key; before = line_at v.content key }) ∷ []) b.index b.undo b.is; key_is = b.key_is })
      (λ m p apart has got. seat_moves v w course p.tsn (entries_of (g.standing m)) (waiting m) kept (was.seats m p has got))
      was.journalled
      (λ c under. beside (waiting member) (changing more stable) c under)
      (λ c under flown. put_keeps v.content w.content c.lines (length c.lines) keeps (was.put c under flown))
    where
      more : List Undo
      more = all ++ (record { key = key; before = line_at v.content key }) ∷ []

      kept : KeepsEntries v.content w.content course.followed
      kept = kept_aside v w course.followed (ruj_file member) index t (λ k. let bad : Ruj ≡ Snap = k in cc) writes

      keeps : (k : Dbkey) → line_at w.content k ≡ line_at v.content k
      keeps = lines_beside v w (ruj_file member) index t (λ k. let bad : Ruj ≡ Area = k in cc) writes

  -- ---- its line is pushed aside

  pub line_joins : (w : View) (key : Dbkey) (line : Line) (more : ChangedLines) → IsTrue v.tells → 1 ≤ line.chain → line.chain ≤ limit → course.followed (snap_of key) line.chain ≡ false
      → OnlyWrites (snap_file (snap_of key)) (line.chain - 1) v w → entries_in w.content (snap_of key) line.chain (pushed key line.tsn (line_at v.content key))
      → course.going (line_at v.content key).tsn.number ≡ false → line.tsn ≡ o.tsn → HasBefore all key → PutsIn (waiting member) key line more → IsNoneOfThem (waiting member) key
      → ReaderFacts w (stands_as member (changing all stable) g) limit (course_pushed (snap_of key) line.chain course) (set_waiting member more waiting)
  line_joins w key line more t some within free writes there ended bears before puts none =
      with_member w g member (changing all stable) more waiting limit (course_pushed (snap_of key) line.chain course) g.base g.commit g.history g.moments
      (line_pushed v w g.base limit course key line t some within free writes there ended goes was.versions)
      (λ p has got. subst (λ (q : Open). SeatVersions w (course_pushed (snap_of key) line.chain course) q.tsn all more) (its_tsn p got)
      (seat_pushes v w g.base limit course key line t some within free writes there ended goes was.versions o.tsn all (waiting member) more puts bears none seat))
      (λ i l has got. ⊎_elim (λ h. subst (λ (k : Dbkey). HasBefore all k) h.key_is (befores h.index h.line h.is)) (λ here. subst (λ (k : Dbkey). HasBefore all k) (sym here.0) before) (puts.each i l got))
      (λ m p apart has got. seat_beside_push w course (snap_of key) line.chain (pushed key line.tsn (line_at v.content key)) p.tsn (entries_of (g.standing m)) (waiting m) there
      (λ same. apart (one_number v g facts member m o p is got (sym same ∙ ap (λ (x : Tsn). x.number) bears)))
      (seat_moves v w course p.tsn (entries_of (g.standing m)) (waiting m) kept (was.seats m p has got)))
      was.journalled
      (λ c under. beside more (changing all stable) c under)
      (λ c under flown. put_keeps v.content w.content c.lines (length c.lines) (lines_in_slot v w (snap_of key) (line.chain - 1) t writes) (was.put c under flown))
    where
      goes : course.going line.tsn.number ≡ true
      goes = ap (λ (x : Tsn). course.going x.number) bears ∙ was.versions.goes member o is

      kept : KeepsEntries v.content w.content course.followed
      kept = kept_in_slot v w course.followed (snap_of key) (line.chain - 1) t (unfollowed v w g.base limit course (snap_of key) line.chain (pushed key line.tsn (line_at v.content key)) t some within free writes there was.versions) writes

  -- ---- a line that needs no push

  same_others : (more : ChangedLines) → SeatVersions v course o.tsn all more → ((i : ℕ) (l : Dbkey × Line) → slice_get more i ≡ Some l → HasBefore all l.0) → ReaderFacts v (stands_as member (changing all stable) g) limit course (set_waiting member more waiting)
  same_others more new before =
      with_member v g member (changing all stable) more waiting limit course g.base g.commit g.history g.moments was.versions
      (λ p has got. subst (λ (q : Open). SeatVersions v course q.tsn all more) (its_tsn p got) new)
      (λ i l has got. before i l got)
      (λ m p apart has got. was.seats m p has got)
      was.journalled
      (λ c under. beside more (changing all stable) c under)
      was.put

  pub line_first : (key : Dbkey) (line : Line) (more : ChangedLines) → course.going (line_at v.content key).tsn.number ≡ false → line.tsn ≡ o.tsn → IsFirst line (line_at v.content key) → HasBefore all key → PutsIn (waiting member) key line more → IsNoneOfThem (waiting member) key
      → ReaderFacts v (stands_as member (changing all stable) g) limit course (set_waiting member more waiting)
  line_first key line more ended bears is_first before puts none = same_others more
      (seat_first v course o.tsn all (waiting member) more key line puts bears seat g.base limit was.versions none ended (was.versions.goes member o is) is_first)
      (λ i l got. ⊎_elim (λ h. subst (λ (k : Dbkey). HasBefore all k) h.key_is (befores h.index h.line h.is)) (λ here. subst (λ (k : Dbkey). HasBefore all k) (sym here.0) before) (puts.each i l got))

  pub line_again : (key : Dbkey) (line before : Line) (more : ChangedLines) → line.tsn ≡ o.tsn → HasLine (waiting member) key before → ((i : ℕ) (other : Dbkey × Line) → slice_get (waiting member) i ≡ Some other → other.0 ≡ key → other.1 ≡ before) → line.chain ≡ before.chain → PutsIn (waiting member) key line more
      → ReaderFacts v (stands_as member (changing all stable) g) limit course (set_waiting member more waiting)
  line_again key line before more bears has one chain puts = same_others more
      (seat_further v course o.tsn all (waiting member) more key line puts bears seat before has chain one)
      (λ i l got. ⊎_elim (λ h. subst (λ (k : Dbkey). HasBefore all k) h.key_is (befores h.index h.line h.is)) (λ here. subst (λ (k : Dbkey). HasBefore all k) (has.key_is ∙ sym here.0) (befores has.index has.line has.is)) (puts.each i l got))

  -- the lines that wait show something else
  pub lines_alike : (more : ChangedLines) → AreAlike (waiting member) more → ReaderFacts v (stands_as member (changing all stable) g) limit course (set_waiting member more waiting)
  lines_alike more alike = same_others more
      (seat_alike v course o.tsn all (waiting member) more alike seat)
      (λ i l got. let h = alike.each i l got in subst (λ (k : Dbkey). HasBefore all k) h.key_is (befores h.index h.line h.is))
