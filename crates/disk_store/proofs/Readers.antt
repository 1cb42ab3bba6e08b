-- The readers beside a session that is none.
use Rattle.std.proofs.Common.{◌≡◌, ◌==◌, ℕ, Bool, true, false, List, Some, None, refl, sym, ap, ◌∙◌}
use Rattle.std.specs.Prelude.{slice_get, if◌then◌else◌}
use Rattle.std.proofs.lemmas.Option.{none-some}
use Rattle.line_versions.specs.Course.{Course, Reading}
use Rattle.ledger_versions.specs.disk_versions.Courses.{course_read}
use Rattle.member_rooms.specs.committed_tables.Tables.{WereUsed}
use Rattle.disk_store.specs.declared.member.Member.{Member}
use Rattle.disk_store.specs.declared.held.Tables.{Tables}
use Rattle.disk_store.specs.declared.member.MemberStage.TheVariants as stage
use Rattle.disk_store.specs.Seats.{IsAtStage}
use Rattle.disk_store.specs.Shown.{pages_of, AreReaders, HaveStarts}

module _ (s : ℕ) (course : Course) where
  pub reader-beside : (t : ℕ) → (t == s) ≡ false → (course_read s course).reader t ≡ course.reader t
  reader-beside t apart = ap (λ b. if b then None else course.reader t) apart

  none-here : (t : ℕ) → (t == s) ≡ true → (reading : Reading) → (course_read s course).reader t ≡ Some reading → ⊥
  none-here t same reading goes = none-some _ (sym (ap (λ b. if b then None else course.reader t) same) ∙ goes)

  pub readers-still : (old new : List Member) → ((t : ℕ) → (t == s) ≡ false → slice_get new t ≡ slice_get old t) → AreReaders old course → AreReaders new (course_read s course)
  readers-still old new beside was t reading goes = by (t == s) refl
    where
      by : (b : Bool) → (t == s) ≡ b → IsAtStage new t stage.Reading
      by true same = absurd (none-here t same reading goes)
      by false apart =
          let at = was t reading (sym (reader-beside t apart) ∙ goes) in
          record { member = at.member; is = beside t apart ∙ at.is; at = at.at }

  pub starts-still : (tables : Tables) → HaveStarts tables course → HaveStarts tables (course_read s course)
  starts-still tables was t file reading start is goes lines = by (t == s) refl
    where
      by : (b : Bool) → (t == s) ≡ b → WereUsed (pages_of tables file) file start
      by true same = absurd (none-here t same reading goes)
      by false apart = was t file reading start is (sym (reader-beside t apart) ∙ goes) lines
