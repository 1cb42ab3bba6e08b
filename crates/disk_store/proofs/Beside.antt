-- The members beside a session that makes a step.
use Rattle.std.proofs.Common.{Some, ◌≡◌, ◌==◌, ◌⊎◌, inl, inr, ℕ, false, ◌-◌, List, length, refl, sym, ap, subst, ◌∙◌}
use Rattle.rdb_outside.specs.Disk.{View, Pending}
use Rattle.stable_lines.specs.Slots.{area_file, ruj_file, named}
use Rattle.member_rooms.specs.member_steps.declared.committing.CommitTurn.{CommitTurn}
use Rattle.member_rooms.specs.member_steps.declared.committing.CommitTurn.TheVariants.{Entering, Securing, Going}
use Rattle.line_moves.specs.Lines.{ChangedLines}
use Rattle.line_moves.specs.Classes.{HaveTheirClasses}
use Rattle.member_rooms.specs.member_steps.Turns.{commit_of_plan}
use Rattle.area_files.specs.Areas.{IsDataPage, space_page_of}
use Rattle.space_pages.specs.Space.{owner_of}
use Rattle.std.specs.Prelude.{slice_get}
use Rattle.ledger_versions.proofs.of_disk_seats.Standings.{entries_gained}
use Rattle.ledger_versions.specs.disk_seats.Ledgers.{entries_of, Standing, resting, changing, broken, committing, undoing, gained, Commit, Ledger}
use Rattle.ledger_versions.specs.disk_seats.Members.{MayEnd, AreOwned}
use Rattle.disk_store.specs.declared.member.Member.{Member}
use Rattle.disk_store.specs.declared.member.MemberStage.{MemberStage}
use Rattle.disk_store.specs.declared.member.MemberStage.TheVariants as stage
use Rattle.disk_store.specs.declared.member.Recovery.{Recovery}
use Rattle.disk_store.specs.declared.member.Recovery.TheVariants as recovery
use Rattle.disk_store.specs.Standing.{HasBegun, IsJournalling, IsBroken, HasJournalled, IsCommitOf, HasEntered, TurnStands, IsUndone, RecoveryStands, StageStands}

-- A member stands as before, or its before-images are stable now; the commit that is under way is as before.
pub record StaysOf (t : ℕ) (g h : Ledger) : Type 0 where
  pub standing : (h.standing t ≡ g.standing t) ⊎ (h.standing t ≡ gained (g.standing t))
  pub going : h.base.going t ≡ g.base.going t
  pub commit : h.commit ≡ g.commit

-- The same, but that a commit that is under way need only be as before where it is the member's own.
pub record StaysWith (t : ℕ) (g h : Ledger) : Type 0 where
  pub standing : (h.standing t ≡ g.standing t) ⊎ (h.standing t ≡ gained (g.standing t))
  pub going : h.base.going t ≡ g.base.going t
  pub commit : (c : Commit) → c.member ≡ t → g.commit ≡ Some c → h.commit ≡ Some c

-- reads of space pages give what they gave
abbrev pub SameSpaces : View → View → Type 0
SameSpaces v w = (file page : ℕ) → IsDataPage page → w.content (area_file file) (space_page_of page - 1) ≡ v.content (area_file file) (space_page_of page - 1)

-- reads of area files give what they gave, and a crash may leave no more of them
pub record SameAreas (v w : View) : Type 0 where
  pub content : (file slot : ℕ) → w.content (area_file file) slot ≡ v.content (area_file file) slot
  pub pending : (file slot : ℕ) (x : List ℕ) → Pending w (area_file file) slot x → Pending v (area_file file) slot x

pub same-areas : (v : View) → SameAreas v v
same-areas v = record { content = λ file slot. refl; pending = λ file slot x p. p }

-- the header of a member's before-image journal reads as it did
abbrev pub SameHeader : ℕ → View → View → Type 0
SameHeader t v w = w.content (ruj_file t) 0 ≡ v.content (ruj_file t) 0

-- those of all members but one
abbrev pub SameHeaders : ℕ → View → View → Type 0
SameHeaders s v w = (t : ℕ) → (t == s) ≡ false → SameHeader t v w

-- pages keep the classes of their areas
abbrev pub KeepClasses : View → View → Type 0
KeepClasses v w = (classes : ℕ → ℕ) → HaveTheirClasses classes (Pending v) → HaveTheirClasses classes (Pending w)

module _ (v w : View) (g h : Ledger) (t : ℕ) (same : SameSpaces v w) (keep : KeepClasses v w) (stays : StaysWith t g h) where
  pub rests : g.standing t ≡ resting → h.standing t ≡ resting
  rests was = elim stays.standing [ inl is ↦ is ∙ was | inr is ↦ is ∙ ap gained was ]

  ends : MayEnd (g.standing t) → MayEnd (h.standing t)
  ends may = elim stays.standing [
    | inl is ↦ subst MayEnd (sym is) may
    | inr is ↦ subst MayEnd (sym is) (by (g.standing t) may)
  ]
    where
      by : (x : Standing) → MayEnd x → MayEnd (gained x)
      by resting m = absurd m
      by (changing all stable) m = tt
      by broken m = tt
      by (committing all) m = absurd m
      by (undoing all left) m = absurd m

  broken-stays : (m : Member) → IsBroken g t m → IsBroken h t m
  broken-stays m is = record {
    transaction = is.transaction;
    is_open = stays.going ∙ is.is_open;
    number = is.number;
    may_end = ends is.may_end;
    keys = λ i undo got. is.keys i undo (elim stays.standing [
      | inl same ↦ ap (λ x. slice_get (entries_of x) i) (sym same) ∙ got
      | inr more ↦ ap (λ l. slice_get l i) (sym (entries_gained (g.standing t)) ∙ ap entries_of (sym more)) ∙ got
    ]);
  }

  undoing-stays : (all : _) (left : ℕ) → g.standing t ≡ undoing all left → h.standing t ≡ undoing all left
  undoing-stays all left was = elim stays.standing [ inl is ↦ is ∙ was | inr is ↦ is ∙ ap gained was ]

  begun : (m : Member) → HasBegun g t m → HasBegun h t m
  begun m has = elim stays.standing [
    | inl is ↦ record { transaction = has.transaction; all = has.all; stable = has.stable; stands = is ∙ has.stands; is_open = stays.going ∙ has.is_open; number = has.number; count = has.count; keys = has.keys }
    | inr is ↦ record { transaction = has.transaction; all = has.all; stable = length has.all; stands = is ∙ ap gained has.stands; is_open = stays.going ∙ has.is_open; number = has.number; count = has.count; keys = has.keys }
  ]

  journals : (m : Member) → SameHeader t v w → IsJournalling v g t m → IsJournalling w h t m
  journals m same_one is = record { begun = begun m is.begun; header = λ noted. ap named same_one ∙ is.header noted }

  journalled : (m : Member) → HasJournalled g t m → HasJournalled h t m
  journalled m has = record { begun = begun m has.begun; all_written = has.all_written }

  abbrev commit-of : (m : Member) (at : _) → IsCommitOf g t m at → IsCommitOf h t m at
  commit-of m at is = record { plan = is.plan; its = is.its; number = is.number; lines = is.lines; long = is.long; count = is.count; keys = is.keys; under_way = stays.commit (commit_of_plan is.plan at) is.its is.under_way }

  owned : (lines : ChangedLines) (n : ℕ) → AreOwned v.content lines n → AreOwned w.content lines n
  owned lines n are i line place below at of = ap (λ bytes. owner_of place.page bytes) (same place.file place.page of.is_data) ∙ are i line place below at of

  entered : (m : Member) (n : ℕ) → HasEntered v g t m n → HasEntered w h t m n
  entered m n has = record { journalled = journalled m has.journalled; owned = owned m.written.lines n has.owned }

  undone : (m : Member) (left : ℕ) → IsUndone g t m left → IsUndone h t m left
  undone m left is = record { transaction = is.transaction; all = is.all; stands = undoing-stays is.all left is.stands; is_open = stays.going ∙ is.is_open; number = is.number; count = is.count; keys = is.keys }

  turns : (turn : CommitTurn) (m : Member) → TurnStands turn v g t m → TurnStands turn w h t m
  turns (Entering at) m is = entered m at is
  turns Securing m is = entered m (length m.written.lines) is
  turns (Going at) m is = record { commit = commit-of m at is.commit; classes = is.classes; of_areas = is.of_areas; lie = keep is.commit.plan.flight.classes is.lie }

  recovers : (left : Recovery) (m : Member) → RecoveryStands left g t m → RecoveryStands left h t m
  recovers recovery.Ending m is = rests is
  recovers recovery.Judging m is = record { at = is.at; commit = commit-of m is.at is.commit; flying = is.flying }
  recovers (recovery.Undoing left) m is = undone m left is
  recovers recovery.Restoring m is = undone m 0 is

  stage-stays : (st : MemberStage) (m : Member) → (st ≡ stage.Changing → SameHeader t v w) → StageStands st v g t m → StageStands st w h t m
  stage-stays stage.Outside m header is = rests is
  stage-stays (stage.Beginning ceiling) m header is = rests is
  stage-stays stage.Writing m header is = journalled m is
  stage-stays stage.Changing m header is = journals m (header refl) is
  stage-stays stage.Broken m header is = broken-stays m is
  stage-stays stage.Prepared m header is = journalled m is
  stage-stays (stage.Committing turn) m header is = turns turn m is
  stage-stays stage.RollingBack m header is = rests is
  stage-stays stage.Closing m header is = rests is
  stage-stays stage.Reading m header is = rests is
  stage-stays (stage.Dead commits left) m header is = recovers left m is

  pub stays-with : (m : Member) → SameHeader t v w → StageStands m.stage v g t m → StageStands m.stage w h t m
  stays-with m header is = stage-stays m.stage m (λ at. header) is

  -- its header may read otherwise where no before-image is to be written
  pub stays-own : (m : Member) → (m.stage ≡ stage.Changing → SameHeader t v w) → StageStands m.stage v g t m → StageStands m.stage w h t m
  stays-own m header is = stage-stays m.stage m header is

pub same-classes : (v w : View) → SameAreas v w → KeepClasses v w
same-classes v w same classes was file number x is plain p = was file number x is plain (same.pending file (number - 1) x p)

pub stays-there : (v w : View) (g h : Ledger) (t : ℕ) → SameAreas v w → StaysOf t g h → (m : Member) → SameHeader t v w → StageStands m.stage v g t m → StageStands m.stage w h t m
stays-there v w g h t same stays = stays-with v w g h t (λ file page is. same.content file (space_page_of page - 1)) (same-classes v w same) (record { standing = stays.standing; going = stays.going; commit = λ c own is. stays.commit ∙ is })

-- a ledger that stays
pub stays-here : (v w : View) (g : Ledger) (t : ℕ) → SameAreas v w → (m : Member) → (m.stage ≡ stage.Changing → SameHeader t v w) → StageStands m.stage v g t m → StageStands m.stage w g t m
stays-here v w g t same = stays-own v w g g t (λ file page is. same.content file (space_page_of page - 1)) (same-classes v w same) (record { standing = inl refl; going = refl; commit = λ c own is. is })
