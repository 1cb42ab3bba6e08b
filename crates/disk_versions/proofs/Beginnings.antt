-- The versions at opening, and when transactions begin.
use Rattle.std.proofs.Common.{◌≡◌, ◌≢◌, ℕ, ◌+◌, ◌==◌, Bool, true, if◌then◌else◌, List, [], Option, Some, None, slice_get, ◌⊎◌, inl, inr, ⊎_elim, ap, sym, subst, ◌∙◌, refl}
use Rattle.std.proofs.lemmas.Bool.{false≢true}
use Rattle.rdb_types.specs.declared.keys.Dbkey.{Dbkey}
use Rattle.rdb_outside.specs.Disk.{View, LeftNow, Pending}
use Rattle.line_view.specs.Knowledge.{line_in}
use Rattle.line_versions.specs.Lines.{shown}
use Rattle.line_versions.specs.Files.{entries_in}
use Rattle.line_versions.specs.Course.{Course, opened}
use Rattle.line_versions.proofs.Steps as steps
use Rattle.line_versions.proofs.Exact.{exact_opens, exact_begins}
use Rattle.line_opening.specs.stable_lines.Slots.{Undo, file_of, slot_of, line_at}
use Rattle.line_opening.specs.stable_lines.Progress.{Open, Progress, begun}
use Rattle.line_opening.specs.stable_lines.Facts.{IsCommitted, IsChanged, Facts}
use Rattle.line_opening.proofs.of_stable_lines.Turns.{some_same, going_is, going_there, going_here}
use Rattle.line_opening.proofs.of_line_moves.Putting.{nat_cases}
use Rattle.line_opening.proofs.of_line_moves.Runs.{pends}
use Rattle.line_seat.specs.Seats.{next_open, secured}
use Rattle.disk_versions.specs.Courses.{course_begun}
use Rattle.disk_versions.specs.Versions.{IsOpenNumber, AreBases, VersionFacts}
use Rattle.disk_versions.proofs.Choices.{chosen, passed_by}

none_open : (o : Option Open) (p : Open) → o ≡ None → o ≡ Some p → ⊥
none_open o p none some = let bad : None ≡ Some p = sym none ∙ some in cc

-- ---- opening

no_one : (now : Progress) → ((m : ℕ) → now.going m ≡ None) → (m : ℕ) (o : Open) → now.going m ≡ Some o → ⊥
no_one now idle m o is = none_open (now.going m) o (idle m) is

pub opens : (v : View) (now : Progress) (limit : ℕ) → LeftNow v v.content → Facts (Pending v) now → ((m : ℕ) → now.going m ≡ None) → VersionFacts v now limit (opened now.next_tsn (line_at v.content) (λ key. line_in key now.lines))
opens v now limit left facts idle = record {
  right = steps.opens (entries_in v.content) (line_at v.content) (λ key. line_in key now.lines) now.next_tsn shows (λ key. facts.below.line key (v.content (file_of key) (slot_of key)) (pends v left (file_of key) (slot_of key)));
  exact = exact_opens (entries_in v.content) (line_at v.content) (λ key. line_in key now.lines) now.next_tsn;
  within = λ file chain held. absurd (false≢true held);
  files = λ file chain held. absurd (false≢true held);
  next = refl;
  lines = λ key. refl;
  going = λ tsn on. absurd (false≢true on);
  goes = λ m o is. absurd (no_one now idle m o is);
  befores = λ m o is. absurd (no_one now idle m o is);
}
  where
    shows : (key : Dbkey) → shown (line_at v.content key) ≡ line_in key now.lines
    shows key = ⊎_elim (λ (c : IsCommitted (Pending v) now key (line_at v.content key)). c.shows) (λ (c : IsChanged (Pending v) now key (line_at v.content key)). absurd (no_one now idle c.member c.transaction c.is_open))
        (facts.line key (v.content (file_of key) (slot_of key)) (pends v left (file_of key) (slot_of key)))

-- ---- a transaction draws the next number

module _ (v : View) (now : Progress) (limit : ℕ) (course : Course) (member : ℕ) (idle : now.going member ≡ None) (was : VersionFacts v now limit course) where
  abbrev going : ℕ → Bool
  going = λ t. if t == course.next then true else course.going t

  either : (t : ℕ) → going t ≡ true → (course.going t ≡ true) ⊎ (t ≡ course.next)
  either t on = ⊎_elim (λ same. inr same) (λ apart. inl (sym (passed_by true (course.going t) t course.next apart) ∙ on)) (nat_cases t course.next)

  goes_on : (t : ℕ) → course.going t ≡ true → going t ≡ true
  goes_on t on = ⊎_elim (λ same. chosen true (course.going t) t course.next same) (λ apart. passed_by true (course.going t) t course.next apart ∙ on) (nat_cases t course.next)

  off_it : (m : ℕ) (o : Open) → now.going m ≡ Some o → m ≢ member
  off_it m o is same = none_open (now.going m) o (ap (λ (k : ℕ). now.going k) same ∙ idle) is

  open_of : (t : ℕ) → (course.going t ≡ true) ⊎ (t ≡ course.next) → IsOpenNumber (begun member now) t
  open_of t (inl on) = let g = was.going t on in record { member = g.member; transaction = g.transaction; is_open = going_there now member (Some (next_open now)) g.member (off_it g.member g.transaction g.is_open) ∙ g.is_open; number = g.number }
  open_of t (inr same) = record { member = member; transaction = next_open now; is_open = going_here now member (Some (next_open now)); number = sym (same ∙ was.next) }

  nothing : (i : ℕ) (undo : Undo) → slice_get [] i ≡ Some undo → ⊥
  nothing i undo is = cc

  pub begins : VersionFacts v (begun member now) limit (course_begun course)
  begins = record {
    right = steps.begins (entries_in v.content) (line_at v.content) course going either goes_on was.right;
    exact = exact_begins (entries_in v.content) course going either goes_on was.exact;
    within = was.within;
    files = was.files;
    next = ap (λ (n : ℕ). n + 1) was.next;
    lines = was.lines;
    going = λ t on. open_of t (either t on);
    goes = λ m o is. ⊎_elim
        (λ here. subst (λ (p : Open). going p.tsn.number ≡ true) (some_same (next_open now) o (sym here.is ∙ is)) (chosen true (course.going now.next_tsn) now.next_tsn course.next (sym was.next)))
        (λ there. goes_on o.tsn.number (was.goes m o (sym there.is ∙ is))) (going_is now member (Some (next_open now)) m);
    befores = λ m o is. ⊎_elim
        (λ here. subst (λ (p : Open). AreBases course p.entries) (some_same (next_open now) o (sym here.is ∙ is)) (λ i undo got. absurd (nothing i undo got)))
        (λ there. was.befores m o (sym there.is ∙ is)) (going_is now member (Some (next_open now)) m);
  }

-- ---- its before-images stand

module _ (v : View) (now : Progress) (limit : ℕ) (course : Course) (member : ℕ) (o : Open) (all : List Undo) (is_open : now.going member ≡ Some o) (bases : AreBases course all) (was : VersionFacts v now limit course) where
  abbrev new : Open
  new = record { tsn = o.tsn; entries = all }

  pub secures : VersionFacts v (secured member o all now) limit course
  secures = record {
    right = was.right;
    exact = was.exact;
    within = was.within;
    files = was.files;
    next = was.next;
    lines = was.lines;
    going = λ t on. let g = was.going t on in ⊎_elim
        (λ same. record { member = member; transaction = new; is_open = going_here now member (Some new); number = ap (λ (p : Open). p.tsn.number) (some_same o g.transaction (sym is_open ∙ ap (λ (m : ℕ). now.going m) (sym same) ∙ g.is_open)) ∙ g.number })
        (λ apart. record { member = g.member; transaction = g.transaction; is_open = going_there now member (Some new) g.member apart ∙ g.is_open; number = g.number }) (nat_cases g.member member);
    goes = λ m p is. ⊎_elim
        (λ here. subst (λ (q : Open). course.going q.tsn.number ≡ true) (some_same new p (sym here.is ∙ is)) (was.goes member o is_open))
        (λ there. was.goes m p (sym there.is ∙ is)) (going_is now member (Some new) m);
    befores = λ m p is. ⊎_elim
        (λ here. subst (λ (q : Open). AreBases course q.entries) (some_same new p (sym here.is ∙ is)) bases)
        (λ there. was.befores m p (sym there.is ∙ is)) (going_is now member (Some new) m);
  }
