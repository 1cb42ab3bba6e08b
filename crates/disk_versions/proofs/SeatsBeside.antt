-- The lines of a transaction that wait, behind the steps of others.
use Rattle.std.proofs.Common.{◌≡◌, ◌≢◌, ℕ, ◌==◌, true, if◌then◌else◌, List, Some, slice_get, ⊎_elim, ap, sym, subst, ◌∙◌}
use Rattle.rdb_types.specs.declared.keys.Dbkey.{Dbkey}
use Rattle.rdb_types.specs.declared.keys.Tsn.{Tsn}
use Rattle.rdb_types.specs.declared.keys.Line.{Line}
use Rattle.rdb_outside.specs.Disk.{View}
use Rattle.line_view.specs.Knowledge.{Lines}
use Rattle.line_versions.specs.Files.{entries_in}
use Rattle.line_versions.specs.Course.{Course, IsAbove}
use Rattle.line_opening.specs.stable_lines.Slots.{Undo, line_at}
use Rattle.line_opening.specs.line_moves.Lines.{ChangedLines}
use Rattle.line_opening.proofs.of_line_moves.Putting.{nat_cases}
use Rattle.disk_versions.specs.Courses.{without_number, course_begun, course_undone, course_landed, course_reading, course_read}
use Rattle.disk_versions.specs.Versions.{SeatVersions}
use Rattle.disk_versions.proofs.Choices.{chosen, passed_by}
use Rattle.disk_versions.proofs.Ends.{are_others}

module _ (v : View) (course : Course) (tsn : Tsn) (all : List Undo) (lines : ChangedLines) (was : SeatVersions v course tsn all lines) where
  pub seat_begun : SeatVersions v (course_begun course) tsn all lines
  seat_begun = record {
    bases = was.bases;
    bears = was.bears;
    above = λ i line got. let c = was.above i line got in record { going = goes_on line.1.tsn.number c.going; above = c.above };
    pushed = was.pushed;
  }
    where
      goes_on : (t : ℕ) → course.going t ≡ true → (if t == course.next then true else course.going t) ≡ true
      goes_on t on = ⊎_elim (λ same. chosen true (course.going t) t course.next same) (λ apart. passed_by true (course.going t) t course.next apart ∙ on) (nat_cases t course.next)

  -- another ends, and this one goes on
  still : (other : ℕ) → tsn.number ≢ other → (i : ℕ) (line : Dbkey × Line) → slice_get lines i ≡ Some line → without_number other course.going line.1.tsn.number ≡ true
  still other apart i line got = (are_others other course.going).others line.1.tsn.number (λ same. apart (sym (ap (λ (t : Tsn). t.number) (was.bears i line got)) ∙ same)) (was.above i line got).going

  pub seat_undone : (other : ℕ) → tsn.number ≢ other → SeatVersions v (course_undone other course) tsn all lines
  seat_undone other apart = record {
    bases = was.bases;
    bears = was.bears;
    above = λ i line got. record { going = still other apart i line got; above = (was.above i line got).above };
    pushed = was.pushed;
  }

  pub seat_landed : (other : ℕ) (committed : Lines) → tsn.number ≢ other → ((i : ℕ) (undo : Undo) → slice_get all i ≡ Some undo → (line_at v.content undo.key).tsn.number ≢ other)
      → ((i : ℕ) (line : Dbkey × Line) → slice_get lines i ≡ Some line → (line_at v.content line.0).tsn.number ≢ other) → SeatVersions v (course_landed other (line_at v.content) committed course) tsn all lines
  seat_landed other committed apart befores theirs = record {
    bases = λ i undo got. was.bases i undo got ∙ sym (base_of undo.key (befores i undo got));
    bears = was.bears;
    above = λ i line got. record { going = still other apart i line got; above = subst (λ (b : Line). IsAbove (entries_in v.content) course.followed line.0 line.1 b) (sym (base_of line.0 (theirs i line got))) (was.above i line got).above };
    pushed = was.pushed;
  }
    where
      base_of : (key : Dbkey) → (line_at v.content key).tsn.number ≢ other → (if (line_at v.content key).tsn.number == other then line_at v.content key else course.base key) ≡ course.base key
      base_of key off = passed_by (line_at v.content key) (course.base key) (line_at v.content key).tsn.number other off

  pub seat_reading : (session : ℕ) (active : List ℕ) → SeatVersions v (course_reading session active course) tsn all lines
  seat_reading session active = record {
    bases = was.bases;
    bears = was.bears;
    above = λ i line got. let c = was.above i line got in record { going = c.going; above = c.above };
    pushed = was.pushed;
  }

  pub seat_read : (session : ℕ) → SeatVersions v (course_read session course) tsn all lines
  seat_read session = record {
    bases = was.bases;
    bears = was.bears;
    above = λ i line got. let c = was.above i line got in record { going = c.going; above = c.above };
    pushed = was.pushed;
  }
