-- What is kept of the slots, beside the versions.
use Rattle.std.proofs.Common.{◌≡◌, ℕ, ◌-◌, ◌≤◌, Bool, true, false, List, [], inl, inr, ⊎_elim, ap, sym, subst, ◌∙◌, refl, arith, IsTrue}
use Rattle.std.proofs.lemmas.Bool.{false≢true}
use Rattle.rdb_types.specs.declared.keys.Dbkey.{Dbkey}
use Rattle.rdb_types.specs.declared.keys.Tsn.{Tsn}
use Rattle.rdb_types.specs.declared.keys.LineState.TheVariants.{Never}
use Rattle.rdb_outside.specs.Disk.{Image, View, OnlyReads}
use Rattle.snapshot_file.specs.declared.entry.SnapEntry.{SnapEntry}
use Rattle.snapshot_file.specs.Entry.{IsEntry}
use Rattle.snapshot_file.specs.Slots.{is_free}
use Rattle.line_versions.specs.Versions.{Followed, snap_of}
use Rattle.line_versions.specs.Files.{entries_in, snap_file}
use Rattle.line_versions.specs.Course.{Course, pushed, with_entry}
use Rattle.line_versions.proofs.Slots.{one_each}
use Rattle.stable_lines.specs.Slots.{line_at}
use Rattle.stable_lines.specs.Progress.{Progress}
use Rattle.line_moves.specs.Calls.{OnlyWrites}
use Rattle.line_moves.proofs.OnlyPut.{keeps_lines}
use Rattle.line_moves.proofs.Putting.{nat_cases}
use Rattle.disk_versions.specs.Courses.{course_pushed}
use Rattle.disk_versions.specs.Versions.{VersionFacts}
use Rattle.disk_versions.proofs.Moves.{KeepsEntries, versions_move, kept_by_reads, kept_in_slot, lines_in_slot}
use Rattle.disk_versions.proofs.Pushes.{which_is}
use Rattle.disk_versions.proofs.SeatLines.{line_pushed}
use Rattle.version_writing.specs.Slots.{SlotTable, pusher_at, IsMine, HasSlot, HoldsFile}

-- what is followed is as it was
pub holds_moved : (old new : Image) (followed : Followed) (file limit : ℕ) (table : SlotTable) → KeepsEntries old new followed → HoldsFile old followed file limit table → HoldsFile new followed file limit table
holds_moved old new followed file limit table kept was = record {
  long = was.long;
  used = was.used;
  pusher = λ chain e held s. was.pusher chain e held (record { number = s.number; is = subst (λ (b : List ℕ). IsEntry b e) (kept file chain s.number held) s.is });
}

-- one entry more is followed
pub holds_pushed : (image : Image) (followed : Followed) (file chain limit : ℕ) (table : SlotTable) (entry : SnapEntry) → IsMine table chain entry.pusher → entries_in image file chain entry → HoldsFile image followed file limit table → HoldsFile image (with_entry file chain followed) file limit table
holds_pushed image followed file chain limit table entry mine stands was = record {
  long = was.long;
  used = λ c low held. ⊎_elim (λ h. was.used c low h) (λ here. subst (λ (n : ℕ). is_free table.slots n ≡ false) (sym here.1) mine.used) (which_is followed file chain file c held);
  pusher = λ c e held s. ⊎_elim (λ h. was.pusher c e h s)
      (λ here. ap (λ (n : ℕ). pusher_at table.pushers n) here.1 ∙ mine.its ∙ ap (λ (x : SnapEntry). x.pusher) (one_each image file chain entry e stands (subst (λ (n : ℕ). entries_in image file n e) here.1 s)))
      (which_is followed file chain file c held);
}

-- ---- the slot that a push has

module _ (image : Image) (followed : Followed) (file limit : ℕ) (old new : SlotTable) (before chain : ℕ) (tsn : Tsn) (was : HoldsFile image followed file limit old) (free : 1 ≤ before → followed file before ≡ false) where
  pub its_slot : HasSlot old new before chain tsn → IsMine new chain tsn
  its_slot (inl h) = subst (λ (t : SlotTable). IsMine t chain tsn) (sym h.0) h.2
  its_slot (inr h) = h.1.mine

  pub its_unfollowed : HasSlot old new before chain tsn → followed file chain ≡ false
  its_unfollowed (inl h) = let first = h.2.first in let at : chain ≡ before = h.1 in ap (λ (n : ℕ). followed file n) at ∙ free (omega (arith, first, at))
  its_unfollowed (inr h) = by (followed file chain) refl
    where
      by : (b : Bool) → followed file chain ≡ b → b ≡ false
      by false is = refl
      by true is = absurd (false≢true (sym (was.used chain h.1.mine.first is) ∙ h.1.was_free))

  pub its_within : HasSlot old new before chain tsn → chain ≤ limit
  its_within (inl h) = let last = h.2.last in let long = was.long in omega (arith, last, long)
  its_within (inr h) = let last = h.1.mine.last in let same = h.1.long in let long = was.long in omega (arith, last, same, long)

  pub holds_taken : HasSlot old new before chain tsn → HoldsFile image followed file limit new
  holds_taken (inl h) = subst (λ (t : SlotTable). HoldsFile image followed file limit t) (sym h.0) was
  holds_taken (inr h) = record {
    long = h.1.long ∙ was.long;
    used = λ c low held. ⊎_elim (λ (same : c ≡ chain). subst (λ (n : ℕ). is_free new.slots n ≡ false) (sym same) h.1.mine.used) (λ apart. (h.1.others c low apart).0 ∙ was.used c low held) (nat_cases c chain);
    pusher = λ c e held s. (h.1.others c s.number (λ same. false≢true (sym (its_unfollowed (inr h)) ∙ ap (λ (n : ℕ). followed file n) (sym same) ∙ held))).1 ∙ was.pusher c e held s;
  }

-- ---- the versions behind a push

pub versions_read : (v w : View) (now : Progress) (limit : ℕ) (course : Course) → IsTrue v.tells → OnlyReads v w → VersionFacts v now limit course → VersionFacts w now limit course
versions_read v w now limit course t reads was = versions_move v w now limit course (kept_by_reads v w course.followed t reads) (λ key. inl (keeps_lines v.content w.content (reads.keeps t).content key)) was

module _ (v w : View) (now : Progress) (limit : ℕ) (course : Course) (key : Dbkey) (tsn : Tsn) (old new : SlotTable) (before chain : ℕ) (told : IsTrue v.tells) (has : HasSlot old new before chain tsn)
    (writes : OnlyWrites (snap_file (snap_of key)) (chain - 1) v w) (was : HoldsFile v.content course.followed (snap_of key) limit old) (free : 1 ≤ before → course.followed (snap_of key) before ≡ false) (facts : VersionFacts v now limit course) where
  mine : IsMine new chain tsn
  mine = its_slot v.content course.followed (snap_of key) limit old new before chain tsn was free has

  unfollowed : course.followed (snap_of key) chain ≡ false
  unfollowed = its_unfollowed v.content course.followed (snap_of key) limit old new before chain tsn was free has

  no_other : (c : ℕ) → 1 ≤ c → chain - 1 ≡ c - 1 → course.followed (snap_of key) c ≡ true → ⊥
  no_other c low at held =
      let some = mine.first in
      let same : chain ≡ c = omega (arith, some, low, at) in
      false≢true (sym unfollowed ∙ ap (λ (n : ℕ). course.followed (snap_of key) n) same ∙ held)

  kept : KeepsEntries v.content w.content course.followed
  kept = kept_in_slot v w course.followed (snap_of key) (chain - 1) told no_other writes

  -- the slot isn't followed, so nothing is another
  pub versions_stay : VersionFacts w now limit course
  versions_stay = versions_move v w now limit course kept (λ k. inl (lines_in_slot v w (snap_of key) (chain - 1) told writes k)) facts

  pub versions_pushed : entries_in w.content (snap_of key) chain (pushed key tsn (line_at v.content key)) → course.going (line_at v.content key).tsn.number ≡ false → course.going tsn.number ≡ true → VersionFacts w now limit (course_pushed (snap_of key) chain course)
  versions_pushed stands ended goes = line_pushed v w now limit course key (record { state = Never; tsn = tsn; chain = chain; image = [] }) told mine.first (its_within v.content course.followed (snap_of key) limit old new before chain tsn was free has) unfollowed writes stands ended goes facts

  pub table_pushed : entries_in w.content (snap_of key) chain (pushed key tsn (line_at v.content key)) → HoldsFile w.content (with_entry (snap_of key) chain course.followed) (snap_of key) limit new
  table_pushed stands = holds_pushed w.content course.followed (snap_of key) chain limit new (pushed key tsn (line_at v.content key)) mine stands
      (holds_moved v.content w.content course.followed (snap_of key) limit new kept (holds_taken v.content course.followed (snap_of key) limit old new before chain tsn was free has))
