-- Why sessions were stopped, and what status 4 says.
use Rattle.std.proofs.Common.{◌≡◌, ◌∙◌, ℕ, Option, Some, None, ◌⊎◌, inl, inr, ⊎_elim, IsTrue, refl, sym, subst, ap, arith, false, true}
use Rattle.std.proofs.lemmas.Option.{none-some}
use Rattle.std.proofs.lemmas.Bool.{false≢true}
use Rattle.rdb_types.specs.declared.file.FileId.{FileId}
use Rattle.rdb_outside.specs.Disk.{Image, View, LeftNow, OnlyReads}
use Rattle.root_file.specs.declared.Root.{Root}
use Rattle.root_file.specs.Root.{IsRoot}
use Rattle.new_database.specs.Maker.{root_file}
use Rattle.line_view.specs.Knowledge.{Lines}
use Rattle.stable_lines.specs.Journal.{Journal, IsJournalOf}
use Rattle.stable_lines.specs.Kept.{Kept}
use Rattle.store_shows.specs.Shows.{OpensTo}
use Rattle.line_runs.specs.opened_store.Opened.{AreUsedUp}
use Rattle.page_faults.proofs.Reading.{image_same, told_on}
use Rattle.line_opening.specs.declared.fault.OpeningFault.{OpeningFault}
use Rattle.line_opening.specs.declared.fault.OpeningFault.TheVariants as opening
use Rattle.line_store.specs.declared.answers.Fault.TheVariants as faulty
use Rattle.line_runs.specs.line_cluster.declared.sessions.Halt.{Halt}
use Rattle.line_runs.specs.line_cluster.declared.sessions.Halt.TheVariants as halts
use Rattle.line_runs.specs.line_cluster.Sound.{is_over_slot, is_unsound}
use Rattle.line_runs.specs.Openings.{HasNoNumbers, HasSpent}
use Rattle.rmu_commands.specs.Usable.{IsUsable, status_at}
use Rattle.workload_runs.specs.Statuses.{IsBadOpening, IsOverLine, IsOverSlot, stopped_status}
use Rattle.workload_runs.proofs.Opening.{told-before}

-- ---- what status 4 says

pub stopped-bad : (halt : Option Halt) → stopped_status halt ≡ 4 → IsOverSlot halt ⊎ IsOverLine halt
stopped-bad None is = absurd (omega (arith, is))
stopped-bad (Some (halts.Device faulty.Failed)) is = absurd (omega (arith, is))
stopped-bad (Some (halts.Device (faulty.Bad file slot))) is = inl (file, slot, refl)
stopped-bad (Some (halts.Unlaid key)) is = absurd (omega (arith, is))
stopped-bad (Some halts.Unworked) is = absurd (omega (arith, is))
stopped-bad (Some halts.Lost) is = absurd (omega (arith, is))
stopped-bad (Some (halts.Unsound key)) is = inr (key, refl)

pub bad-fault : (fault : OpeningFault) → status_at fault ≡ 4 → (file : FileId) × (slot : ℕ) × (fault ≡ opening.Bad file slot)
bad-fault opening.Failed is = absurd (omega (arith, is))
bad-fault opening.NoMemory is = absurd (omega (arith, is))
bad-fault (opening.Bad file slot) is = (file, slot, refl)

pub unopened-bad : (unopened : Option OpeningFault) (fault : OpeningFault) → unopened ≡ Some fault → status_at fault ≡ 4 → IsBadOpening unopened
unopened-bad unopened fault at is = let it = bad-fault fault is in (it.0, it.1, at ∙ (λ i. Some (it.2 i)))

-- told or not, they weren't stopped over an unsound line where none was
pub unsound-told : (halt said : Option Halt) → (said ≡ halt) ⊎ (said ≡ None) → is_unsound halt ≡ false → is_unsound said ≡ false
unsound-told halt said (inl same) agrees = subst (λ (h : Option Halt). is_unsound h ≡ false) (sym same) agrees
unsound-told halt said (inr none) agrees = subst (λ (h : Option Halt). is_unsound h ≡ false) (sym none) refl

-- told or not, it was a slot only where it was one
pub over-told : (halt said : Option Halt) → (said ≡ halt) ⊎ (said ≡ None) → is_over_slot said ≡ true → is_over_slot halt ≡ true
over-told halt said (inl same) over = subst (λ (h : Option Halt). is_over_slot h ≡ true) same over
over-told halt said (inr none) over = absurd (false≢true (sym (ap is_over_slot none) ∙ over))

-- over sound lines it is a slot
pub over-slot : (halt : Option Halt) → is_unsound halt ≡ false → IsOverSlot halt ⊎ IsOverLine halt → IsOverSlot halt
over-slot halt agrees (inl over) = over
over-slot halt agrees (inr (key, is)) = absurd (let no = subst (λ (h : Option Halt). is_unsound h ≡ false) is agrees in cc)

pub slot-over : (halt : Option Halt) → IsOverSlot halt → is_over_slot halt ≡ true
slot-over halt (file, slot, is) = ap is_over_slot is

pub stopped-not-whole : (why : Halt) → 0 ≡ stopped_status (Some why) → ⊥
stopped-not-whole (halts.Device faulty.Failed) is = omega (arith, is)
stopped-not-whole (halts.Device (faulty.Bad file slot)) is = omega (arith, is)
stopped-not-whole (halts.Unlaid key) is = omega (arith, is)
stopped-not-whole halts.Unworked is = omega (arith, is)
stopped-not-whole halts.Lost is = omega (arith, is)
stopped-not-whole (halts.Unsound key) is = omega (arith, is)

-- ---- as it is told

abbrev pub AsTold : Option Halt → ℕ → Option Halt → ℕ → Type 0
AsTold halt status said ended = ((said ≡ halt) × (ended ≡ status)) ⊎ ((said ≡ None) × (ended ≡ 5))

-- the status is that of what stopped them
abbrev pub IsHalted : Option Halt → ℕ → Type 0
IsHalted halt status = (why : Halt) → halt ≡ Some why → status ≡ stopped_status (Some why)

-- status 4 says that numbers are used up
abbrev pub IsRefused : View → ℕ → Type 0
IsRefused v status = status ≡ 4 → HasNoNumbers v

pub nobody-halted : (halt : Option Halt) (status : ℕ) → halt ≡ None → IsHalted halt status
nobody-halted halt status none why is = absurd (none-some why (sym none ∙ is))

pub halted-told : (halt : Option Halt) (status : ℕ) (said : Option Halt) (ended : ℕ) → AsTold halt status said ended → IsHalted halt status → IsHalted said ended
halted-told halt status said ended (inl (same, is)) halted why says = is ∙ halted why (sym same ∙ says)
halted-told halt status said ended (inr (none, five)) halted why says = absurd (none-some why (sym none ∙ says))

pub refused-told : (v : View) (halt : Option Halt) (status : ℕ) (said : Option Halt) (ended : ℕ) → AsTold halt status said ended → IsRefused v status → IsRefused v ended
refused-told v halt status said ended (inl (same, is)) refused four = refused (sym is ∙ four)
refused-told v halt status said ended (inr (none, five)) refused four = absurd (let no : ⊥ = omega (arith, five, four) in no)

-- a call that failed is told where the watch saw one
pub halted-seen : (halt said : Option Halt) (status ended : ℕ) (failed : Type 0) → (said ≡ halt) ⊎ (said ≡ None)
    → (said ≡ Some (halts.Device faulty.Failed) → failed) → (failed → ended ≡ status) → (ended ≡ status) ⊎ ((ended ≡ 5) × (status ≡ 3))
    → IsHalted halt status → IsHalted said ended
halted-seen halt said status ended failed (inl same) seen kept (inl is) halted why says = is ∙ halted why (sym same ∙ says)
halted-seen halt said status ended failed (inl same) seen kept (inr (five, three)) halted why says =
    kept (seen (says ∙ (λ i. Some (is-device why (sym (halted why (sym same ∙ says)) ∙ three) i)))) ∙ halted why (sym same ∙ says)
  where
    is-device : (why : Halt) → stopped_status (Some why) ≡ 3 → why ≡ halts.Device faulty.Failed
    is-device (halts.Device faulty.Failed) is = refl
    is-device (halts.Device (faulty.Bad file slot)) is = absurd (omega (arith, is))
    is-device (halts.Unlaid key) is = absurd (omega (arith, is))
    is-device halts.Unworked is = absurd (omega (arith, is))
    is-device halts.Lost is = absurd (omega (arith, is))
    is-device (halts.Unsound key) is = absurd (omega (arith, is))
halted-seen halt said status ended failed (inr none) seen kept ended_as halted why says = absurd (none-some why (sym none ∙ says))

-- ---- numbers

-- those of transactions are used up, by the root that reads give
pub spent-none : (v : View) → (IsTrue v.tells → LeftNow v v.content) → HasSpent v → HasNoNumbers v
spent-none v left spent t classes lines journal kept =
    inl (spent (v.content root_file 0) kept.root (record { image = v.content; left = left t; same = refl }) kept.is_root.is)

module _ (old new : View) (reads : OnlyReads old new) where
  -- what was read of the disk says that they are used up
  pub used-up : (IsTrue old.tells → (root : Root) → IsRoot (old.content root_file 0) root → (journal : Journal) → IsJournalOf old.content journal → AreUsedUp journal root) → HasNoNumbers new
  used-up spent t classes lines journal kept =
      let told = told-before old new reads t in
      let same = image_same old new reads told in
      spent told kept.root (subst (λ (m : Image). IsRoot (m root_file 0) kept.root) same kept.is_root.is) journal (subst (λ (m : Image). IsJournalOf m journal) same kept.journal)

  -- or that they aren't
  pub has-numbers : IsTrue old.tells → (lines : Lines) → OpensTo old.content lines
      → (IsTrue old.tells → (root : Root) → IsRoot (old.content root_file 0) root → (journal : Journal) → IsJournalOf old.content journal → AreUsedUp journal root → ⊥)
      → HasNoNumbers new → ⊥
  has-numbers t lines to left none =
      let same = image_same old new reads t in
      let kept : Kept to.has.classes lines to.has.journal new.content = subst (λ (m : Image). Kept to.has.classes lines to.has.journal m) (sym same) to.has.kept in
      left t kept.root (subst (λ (m : Image). IsRoot (m root_file 0) kept.root) same kept.is_root.is) to.has.journal to.has.kept.journal
      (none (told_on old new reads t) to.has.classes lines to.has.journal kept)

-- ---- what opens is read

pub opens-usable : (image : Image) (lines : Lines) → OpensTo image lines → IsUsable image
opens-usable image lines to =
    let kept = to.has.kept in
    record { root = record { root = kept.root; is = kept.is_root.is; state = kept.is_root.state }; headers = kept.well_formed.header; journal = to.has.journal; has_journal = kept.journal }
