-- The versions when transactions end.
use Rattle.std.proofs.Common.{◌≡◌, ◌≢◌, ℕ, ◌<◌, Bool, true, false, List, [], ◌∷◌, zero, suc, arith, length, Some, None, slice_get, ◌⊎◌, inl, inr, ⊎_elim, ap, sym, subst, ◌∙◌, refl}
use Rattle.std.proofs.lemmas.Bool.{false≢true}
use Rattle.rdb_types.specs.declared.keys.Dbkey.{Dbkey}
use Rattle.rdb_types.specs.declared.keys.Tsn.{Tsn}
use Rattle.rdb_types.specs.declared.keys.Line.{Line}
use Rattle.rdb_outside.specs.Disk.{View, LeftNow, Pending}
use Rattle.snapshot_file.specs.declared.entry.SnapEntry.{SnapEntry}
use Rattle.line_view.specs.Knowledge.{line_in}
use Rattle.line_versions.specs.Lines.{shown}
use Rattle.line_versions.specs.Files.{entries_in}
use Rattle.line_versions.specs.Course.{Course, AreOthers, IsSettled, IsLeft}
use Rattle.line_versions.specs.Exact.{IsOnTop}
use Rattle.line_versions.proofs.Steps as steps
use Rattle.line_versions.proofs.Exact.{exact_undone, exact_commits}
use Rattle.line_opening.specs.stable_lines.Slots.{Undo, file_of, slot_of, line_on, line_at}
use Rattle.line_opening.specs.stable_lines.Progress.{Open, Flight, Progress, set_going, without, flying, landed, lines_with}
use Rattle.line_opening.specs.stable_lines.Facts.{PendingContents, OnPage, IsInGroup, IsChanged, Facts}
use Rattle.line_opening.proofs.of_stable_lines.Laying.{found_behind}
use Rattle.line_opening.proofs.of_stable_lines.Turns.{some_same, going_is, going_there}
use Rattle.line_opening.specs.line_moves.Lines.{ChangedLines, ArePut}
use Rattle.line_opening.proofs.of_line_moves.Putting.{nat_cases}
use Rattle.line_opening.proofs.of_line_moves.Runs.{pends}
use Rattle.line_opening.specs.Undoing.{AreUndone}
use Rattle.disk_versions.specs.Courses.{without_number, course_undone, based, course_landed}
use Rattle.disk_versions.specs.Versions.{IsOpenNumber, VersionFacts, SeatVersions}
use Rattle.disk_versions.proofs.Choices.{chosen, passed_by}

none_open : (p : Open) → None ≡ Some p → ⊥
none_open p is = cc

-- the numbers that go on, but for one
pub are_others : (tsn : ℕ) (going : ℕ → Bool) → AreOthers tsn going (without_number tsn going)
are_others tsn going = record {
  gone = chosen false (going tsn) tsn tsn refl;
  fewer = λ t on. ⊎_elim (λ same. absurd (false≢true (sym (chosen false (going t) t tsn same) ∙ on))) (λ apart. sym (passed_by false (going t) t tsn apart) ∙ on) (nat_cases t tsn);
  others = λ t apart on. passed_by false (going t) t tsn apart ∙ on;
}

pub not_it : (tsn : ℕ) (going : ℕ → Bool) (t : ℕ) → without_number tsn going t ≡ true → t ≢ tsn
not_it tsn going t on same = false≢true (sym (chosen false (going t) t tsn same) ∙ on)

-- the transaction of a member has ended, and the others go on
module _ (now : Progress) (course : Course) (member : ℕ) (o : Open) (is_open : now.going member ≡ Some o)
    (alone : (other : ℕ) (p : Open) → now.going other ≡ Some p → p.tsn.number ≡ o.tsn.number → other ≡ member)
    (going : (t : ℕ) → course.going t ≡ true → IsOpenNumber now t) (goes : (m : ℕ) (p : Open) → now.going m ≡ Some p → course.going p.tsn.number ≡ true) where
  abbrev pub ended : ℕ → Bool
  ended = without_number o.tsn.number course.going

  pub still_open : (t : ℕ) → ended t ≡ true → IsOpenNumber (set_going member None now) t
  still_open t on =
      let g = going t ((are_others o.tsn.number course.going).fewer t on) in
      record { member = g.member; transaction = g.transaction; is_open = going_there now member None g.member (λ same. not_it o.tsn.number course.going t on (sym g.number ∙ ap (λ (p : Open). p.tsn.number) (some_same g.transaction o (sym g.is_open ∙ ap (λ (m : ℕ). now.going m) same ∙ is_open)))) ∙ g.is_open; number = g.number }

  pub was_open : (m : ℕ) (p : Open) → (set_going member None now).going m ≡ Some p → (now.going m ≡ Some p) × (m ≢ member)
  was_open m p is = ⊎_elim (λ here. absurd (none_open p (sym here.is ∙ is))) (λ there. (sym there.is ∙ is, there.apart)) (going_is now member None m)

  pub still_goes : (m : ℕ) (p : Open) → (set_going member None now).going m ≡ Some p → ended p.tsn.number ≡ true
  still_goes m p is = let w = was_open m p is in (are_others o.tsn.number course.going).others p.tsn.number (λ same. w.1 (alone m p w.0 same)) (goes m p w.0)

-- ---- as undone

pub ends : (v : View) (now : Progress) (limit : ℕ) (course : Course) (member : ℕ) (o : Open) → now.going member ≡ Some o
    → ((other : ℕ) (p : Open) → now.going other ≡ Some p → p.tsn.number ≡ o.tsn.number → other ≡ member)
    → ((key : Dbkey) → (line_at v.content key).tsn.number ≢ o.tsn.number)
    → ((file chain : ℕ) (e : SnapEntry) → course.followed file chain ≡ true → entries_in v.content file chain e → e.pusher.number ≢ o.tsn.number)
    → VersionFacts v now limit course → VersionFacts v (without member now) limit (course_undone o.tsn.number course)
ends v now limit course member o is_open alone nowhere none was = record {
  right = steps.ends_undone (entries_in v.content) (line_at v.content) course (without_number tsn course.going) tsn (are_others tsn course.going) nowhere was.right;
  exact = exact_undone (entries_in v.content) course (without_number tsn course.going) tsn (are_others tsn course.going) none was.exact;
  within = was.within;
  files = was.files;
  next = was.next;
  lines = was.lines;
  going = still_open now course member o is_open alone was.going was.goes;
  goes = still_goes now course member o is_open alone was.going was.goes;
  befores = λ m p is. was.befores m p (was_open now course member o is_open alone was.going was.goes m p is).0;
}
  where
    tsn : ℕ
    tsn = o.tsn.number

-- no line bears it, where the lines of its entries don't
pub nowhere : (v : View) (now : Progress) (member : ℕ) (o : Open) → Facts (Pending v) now → now.going member ≡ Some o → LeftNow v v.content → AreUndone v.content o 0 → (key : Dbkey) → (line_at v.content key).tsn.number ≢ o.tsn.number
nowhere v now member o facts is_open left undone key bears = ⊎_elim (λ c. c.not_open member o is_open bears) by (facts.line key (v.content (file_of key) (slot_of key)) (pends v left (file_of key) (slot_of key)))
  where
    by : IsChanged (Pending v) now key (line_at v.content key) → ⊥
    by c =
        let at : c.member ≡ member = (facts.going member o is_open).alone c.member c.transaction c.is_open (ap (λ (t : Tsn). t.number) (sym c.tsn) ∙ bears) in
        let same : c.transaction ≡ o = some_same c.transaction o (sym c.is_open ∙ ap (λ (m : ℕ). now.going m) at ∙ is_open) in
        undone c.index (record { key = key; before = c.before }) (omega arith) (subst (λ (p : Open). slice_get p.entries c.index ≡ Some (record { key = key; before = c.before })) same c.entry) bears

-- ---- as committed

module _ (P : PendingContents) (now : Progress) (f : Flight) (o : Open) (is_open : now.going f.member ≡ Some o) (flies : Facts P (flying f now)) (key : Dbkey) (y : List ℕ) (there : OnPage P key y) where
  -- a line that bears the transaction is in its group
  pub in_group : (line_on key y).tsn.number ≡ o.tsn.number → IsInGroup f.group key
  in_group bears = ⊎_elim (λ c. absurd (c.not_open f.member o is_open bears)) by (flies.line key y there)
    where
      by : IsChanged P (flying f now) key (line_on key y) → IsInGroup f.group key
      by c =
          let its = flies.flight f refl in
          let at : c.member ≡ f.member = (flies.going f.member o is_open).alone c.member c.transaction c.is_open (ap (λ (t : Tsn). t.number) (sym c.tsn) ∙ bears) in
          let same : c.transaction ≡ its.transaction = some_same c.transaction its.transaction (sym c.is_open ∙ ap (λ (m : ℕ). now.going m) at ∙ its.is_open) in
          its.changed c.index (record { key = key; before = c.before }) (subst (λ (p : Open). slice_get p.entries c.index ≡ Some (record { key = key; before = c.before })) same c.entry)

  -- and a line that doesn't is committed as it was
  pub as_it_was : (line_on key y).tsn.number ≢ o.tsn.number → line_in key (lines_with now f) ≡ line_in key now.lines
  as_it_was other = ⊎_elim
      (λ laid. absurd (other (let its = flies.flight f refl in
      let landed = its.landed laid.index laid.line y laid.is (subst (λ (k : Dbkey). OnPage P k y) (sym laid.same_key) there) in
      let same : its.transaction ≡ o = some_same its.transaction o (sym its.is_open ∙ is_open) in
      ap (λ (k : Dbkey). (line_on k y).tsn.number) (sym laid.same_key) ∙ ap (λ (t : Tsn). t.number) (landed.tsn ∙ its.tsn) ∙ ap (λ (p : Open). p.tsn.number) same)))
      (λ left. left.found) (found_behind key f.group.lines now.lines)

-- behind the landing a line that bears the transaction shows what is committed
pub now_shown : (P : PendingContents) (now : Progress) (f : Flight) (o : Open) → now.going f.member ≡ Some o
    → ((other : ℕ) (p : Open) → now.going other ≡ Some p → p.tsn.number ≡ o.tsn.number → other ≡ f.member)
    → Facts P (landed f now) → (key : Dbkey) (y : List ℕ) → OnPage P key y → (line_on key y).tsn.number ≡ o.tsn.number → shown (line_on key y) ≡ line_in key (lines_with now f)
now_shown P now f o is_open alone facts key y there bears = ⊎_elim (λ c. c.shows) (λ c. absurd (other c)) (facts.line key y there)
  where
    other : IsChanged P (landed f now) key (line_on key y) → ⊥
    other c = ⊎_elim (λ here. none_open c.transaction (sym here.is ∙ c.is_open))
        (λ away. away.apart (alone c.member c.transaction (sym away.is ∙ c.is_open) (ap (λ (t : Tsn). t.number) (sym c.tsn) ∙ bears))) (going_is now f.member None c.member)

module _ (v : View) (now : Progress) (limit : ℕ) (course : Course) (f : Flight) (o : Open) (is_open : now.going f.member ≡ Some o)
    (alone : (other : ℕ) (p : Open) → now.going other ≡ Some p → p.tsn.number ≡ o.tsn.number → other ≡ f.member)
    (settled : (key : Dbkey) → (line_at v.content key).tsn.number ≡ o.tsn.number → shown (line_at v.content key) ≡ line_in key (lines_with now f))
    (left : (key : Dbkey) → (line_at v.content key).tsn.number ≢ o.tsn.number → line_in key (lines_with now f) ≡ line_in key now.lines)
    (was : VersionFacts v now limit course) where
  abbrev pub tsn : ℕ
  tsn = o.tsn.number

  abbrev base : Dbkey → Line
  base = based tsn (line_at v.content) course.base

  each : (key : Dbkey) → IsSettled tsn (line_at v.content key) (base key) (line_in key (lines_with now f)) ⊎ IsLeft tsn (line_at v.content key) (course.base key) (base key) (course.lines key) (line_in key (lines_with now f))
  each key = ⊎_elim
      (λ same. inl (record { bears = same; is = chosen (line_at v.content key) (course.base key) (line_at v.content key).tsn.number tsn same; shown_is = settled key same }))
      (λ apart. inr (record { other = apart; is = passed_by (line_at v.content key) (course.base key) (line_at v.content key).tsn.number tsn apart; shows_as = left key apart ∙ sym (was.lines key) }))
      (nat_cases (line_at v.content key).tsn.number tsn)

  pub lands : ((file chain : ℕ) (e : SnapEntry) → course.followed file chain ≡ true → entries_in v.content file chain e → e.pusher.number ≡ tsn → IsOnTop (line_at v.content) tsn file chain e)
      → ((m : ℕ) (p : Open) (i : ℕ) (undo : Undo) → m ≢ f.member → now.going m ≡ Some p → slice_get p.entries i ≡ Some undo → (line_at v.content undo.key).tsn.number ≢ tsn)
      → VersionFacts v (landed f now) limit (course_landed tsn (line_at v.content) (lines_with now f) course)
  lands top apart = record {
    right = steps.commits (entries_in v.content) (line_at v.content) course (without_number tsn course.going) base (λ key. line_in key (lines_with now f)) tsn (are_others tsn course.going) (was.goes f.member o is_open) each was.right;
    exact = exact_commits (entries_in v.content) (line_at v.content) course (without_number tsn course.going) base (λ key. line_in key (lines_with now f)) tsn (are_others tsn course.going) (was.goes f.member o is_open) each top was.right was.exact;
    within = was.within;
    files = was.files;
    next = was.next;
    lines = λ key. refl;
    going = λ t on. let g = still_open now course f.member o is_open alone was.going was.goes t on in record { member = g.member; transaction = g.transaction; is_open = g.is_open; number = g.number };
    goes = still_goes now course f.member o is_open alone was.going was.goes;
    befores = λ m p is i undo got. let w = was_open now course f.member o is_open alone was.going was.goes m p is in
        was.befores m p w.0 i undo got ∙ sym (passed_by (line_at v.content undo.key) (course.base undo.key) (line_at v.content undo.key).tsn.number tsn (apart m p i undo w.1 w.0 got));
  }

less_than : {A : Type 0} (xs : List A) (i : ℕ) (x : A) → slice_get xs i ≡ Some x → i < length xs
less_than [] i x got = let bad : None ≡ Some x = got in cc
less_than (y ∷ ys) zero x got = omega arith
less_than (y ∷ ys) (suc i) x got = let rest = less_than ys i x got in omega (arith, rest)

-- what it pushed stands at the chains of its lines
pub on_top : (v : View) (course : Course) (number : Tsn) (all : List Undo) (lines : ChangedLines) → SeatVersions v course number all lines → ArePut v.content lines (length lines)
    → (file chain : ℕ) (e : SnapEntry) → course.followed file chain ≡ true → entries_in v.content file chain e → e.pusher.number ≡ number.number → IsOnTop (line_at v.content) number.number file chain e
on_top v course number all lines seat put file chain e held stands its =
    let p = seat.pushed file chain e held stands its in
    let here : line_at v.content e.key ≡ p.line.1 = subst (λ (k : Dbkey). line_at v.content k ≡ p.line.1) p.key_is (put p.index p.line (less_than lines p.index p.line p.is) p.is) in
    record {
      file_is = p.file_is;
      bears = ap (λ (l : Line). l.tsn.number) here ∙ ap (λ (t : Tsn). t.number) (seat.bears p.index p.line p.is);
      chain_is = ap (λ (l : Line). l.chain) here ∙ p.chain_is;
      number = stands.number;
    }
