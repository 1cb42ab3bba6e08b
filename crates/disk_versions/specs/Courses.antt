-- What each step of a transaction or a reader makes of the course of the versions.
use Rattle.std.specs.Prelude.{ℕ, ◌+◌, ◌==◌, ◌&&◌, Bool, true, false, not, if◌then◌else◌, List, Some, None}
use Rattle.rdb_types.specs.declared.keys.Dbkey.{Dbkey}
use Rattle.rdb_types.specs.declared.keys.Line.{Line}
use Rattle.line_view.specs.Knowledge.{Lines, line_in}
use Rattle.line_versions.specs.Course.{Course, begun, committed, with_entry, with_followed, with_going, with_readers}

-- a transaction draws the next number
abbrev pub course_begun : Course → Course
course_begun course = with_going (course.next + 1) (λ t. if t == course.next then true else course.going t) course

abbrev pub without_number : ℕ → (ℕ → Bool) → ℕ → Bool
without_number tsn going = λ t. if t == tsn then false else going t

-- the transaction of that number has ended as undone
abbrev pub course_undone : ℕ → Course → Course
course_undone tsn course = with_going course.next (without_number tsn course.going) course

-- the lines that bear the number as they stand, and the others as they were committed
abbrev pub based : ℕ → (Dbkey → Line) → (Dbkey → Line) → Dbkey → Line
based tsn now base = λ key. if (now key).tsn.number == tsn then now key else base key

-- It is committed, where its lines stand and these are the committed ones then.
abbrev pub course_landed : ℕ → (Dbkey → Line) → Lines → Course → Course
course_landed tsn now lines course = committed (without_number tsn course.going) (based tsn now course.base) (λ key. line_in key lines) course

-- a reader begins while these transactions go on
abbrev pub course_reading : ℕ → List ℕ → Course → Course
course_reading session active course = with_readers (λ s. if s == session then Some (begun active course) else course.reader s) course

-- a reader ends
abbrev pub course_read : ℕ → Course → Course
course_read session course = with_readers (λ s. if s == session then None else course.reader s) course

-- one entry more is followed
abbrev pub course_pushed : ℕ → ℕ → Course → Course
course_pushed file chain course = with_followed (with_entry file chain course.followed) course

-- slots are given back
abbrev pub course_given : (ℕ → ℕ → Bool) → Course → Course
course_given given course = with_followed (λ file chain. course.followed file chain && not (given file chain)) course
