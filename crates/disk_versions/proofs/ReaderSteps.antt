-- Readers begin and end.
use Rattle.std.proofs.Common.{◌≡◌, ℕ, ◌==◌, if◌then◌else◌, List, Option, Some, None, ◌⊎◌, inl, inr, ⊎_elim, sym, ◌∙◌}
use Rattle.rdb_types.specs.declared.keys.Dbkey.{Dbkey}
use Rattle.rdb_types.specs.declared.keys.Line.{Line}
use Rattle.rdb_outside.specs.Disk.{View}
use Rattle.line_versions.specs.Versions.{Entries}
use Rattle.line_versions.specs.Files.{entries_in}
use Rattle.line_versions.specs.Course.{Course, Reading, AreActive, AreRight, IsChanged, begun, with_readers}
use Rattle.line_versions.specs.Exact.{AreExact}
use Rattle.line_versions.proofs.Steps.{readers_other}
use Rattle.line_versions.proofs.Exact.{exact_readers}
use Rattle.line_opening.specs.stable_lines.Slots.{line_at}
use Rattle.line_opening.specs.stable_lines.Progress.{Progress}
use Rattle.line_opening.proofs.of_line_moves.Putting.{nat_cases}
use Rattle.disk_versions.specs.Courses.{course_reading, course_read}
use Rattle.disk_versions.specs.Versions.{VersionFacts}
use Rattle.disk_versions.proofs.Choices.{chosen, passed_by}

one_of : {A : Type 0} (a b : A) → Some a ≡ Some b → a ≡ b
one_of a b same = cc

none_of : {A : Type 0} (a : A) → None ≡ Some a → ⊥
none_of a same = cc

pub reads : (v : View) (now : Progress) (limit : ℕ) (course : Course) (session : ℕ) (active : List ℕ) → AreActive active course → VersionFacts v now limit course → VersionFacts v now limit (course_reading session active course)
reads v now limit course session active are was = record {
  right = readers_other (entries_in v.content) (line_at v.content) course active reader are either was.right;
  exact = exact_readers (entries_in v.content) course active reader are either was.exact;
  within = was.within;
  files = was.files;
  next = was.next;
  lines = was.lines;
  going = was.going;
  goes = was.goes;
  befores = was.befores;
}
  where
    reader : ℕ → Option Reading
    reader = λ s. if s == session then Some (begun active course) else course.reader s

    either : (s : ℕ) (x : Reading) → reader s ≡ Some x → (course.reader s ≡ Some x) ⊎ (x ≡ begun active course)
    either s x is = ⊎_elim
        (λ same. inr (sym (one_of (begun active course) x (sym (chosen (Some (begun active course)) (course.reader s) s session same) ∙ is))))
        (λ apart. inl (sym (passed_by (Some (begun active course)) (course.reader s) s session apart) ∙ is)) (nat_cases s session)

-- readers alone are fewer
module _ (E : Entries) (now : Dbkey → Line) (v : Course) (reader : ℕ → Option Reading) (fewer : (s : ℕ) (x : Reading) → reader s ≡ Some x → v.reader s ≡ Some x) where
  still : (key : Dbkey) → (now key ≡ v.base key) ⊎ IsChanged E v key (now key) → (now key ≡ v.base key) ⊎ IsChanged E (with_readers reader v) key (now key)
  still key (inl same) = inl same
  still key (inr c) = inr (record { going = c.going; above = c.above })

  pub right_fewer : AreRight E now v → AreRight E now (with_readers reader v)
  right_fewer was = record {
    shows = was.shows;
    drawn = was.drawn;
    ended = was.ended;
    below = was.below;
    current = λ key. still key (was.current key);
    readers = λ s x is. let r = was.readers s x (fewer s x is) in record { began = r.began; unseen = r.unseen; sees_base = r.sees_base };
  }

  pub exact_fewer : AreExact E v → AreExact E (with_readers reader v)
  exact_fewer was = record {
    past = was.past;
    drawn = was.drawn;
    passed = λ file chain e s x held stands ended is unseen.
        let p = was.passed file chain e s x held stands ended (fewer s x is) unseen in
        (p.0, record { over = p.1.over; walk = p.1.walk; there = p.1.there });
  }

pub stops_reading : (v : View) (now : Progress) (limit : ℕ) (course : Course) (session : ℕ) → VersionFacts v now limit course → VersionFacts v now limit (course_read session course)
stops_reading v now limit course session was = record {
  right = right_fewer (entries_in v.content) (line_at v.content) course reader fewer was.right;
  exact = exact_fewer (entries_in v.content) (line_at v.content) course reader fewer was.exact;
  within = was.within;
  files = was.files;
  next = was.next;
  lines = was.lines;
  going = was.going;
  goes = was.goes;
  befores = was.befores;
}
  where
    reader : ℕ → Option Reading
    reader = λ s. if s == session then None else course.reader s

    fewer : (s : ℕ) (x : Reading) → reader s ≡ Some x → course.reader s ≡ Some x
    fewer s x is = ⊎_elim (λ same. absurd (none_of x (sym (chosen None (course.reader s) s session same) ∙ is))) (λ apart. sym (passed_by None (course.reader s) s session apart) ∙ is) (nat_cases s session)
