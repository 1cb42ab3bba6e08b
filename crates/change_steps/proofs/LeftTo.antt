-- A line that a session has in memory is left to it by the others, and bears no open transaction.
use Rattle.std.proofs.Common.{◌≡◌, ◌≢◌, ℕ, Bool, true, false, List, [], Option, Some, None, ⊎_elim, refl, sym, ap, subst, ◌∙◌}
use Rattle.std.specs.Prelude.{slice_get}
use Rattle.std.specs.FinMap.Entries.{find}
use Rattle.std.proofs.lemmas.Option.{same_Some, none-some}
use Rattle.rdb_types.specs.declared.keys.Dbkey.{Dbkey}
use Rattle.rdb_types.specs.declared.keys.Line.{Line}
use Rattle.rdb_types.specs.Order.{dbkey_order}
use Rattle.rdb_outside.specs.Disk.{View, IsPending}
use Rattle.line_versions.specs.Course.{Course}
use Rattle.line_store.specs.Shelves.{Shelf}
use Rattle.stable_lines.specs.Slots.{Undo, file_of, slot_of, line_at}
use Rattle.stable_lines.specs.Progress.{Open}
use Rattle.line_moves.proofs.Putting.{nat_cases}
use Rattle.member_steps.specs.declared.committing.CommitTurn.TheVariants.{Entering, Securing, Going}
use Rattle.member_steps.specs.Turns.{commit_of_plan}
use Rattle.disk_seats.specs.Ledgers.{Standing, resting, changing, broken, committing, undoing, entries_of, Ledger}
use Rattle.disk_seats.specs.Members.{MemberStands, HasOpen, IsChanging, LedgerFacts, IsLeftTo}
use Rattle.disk_seats.proofs.Standings.{no_entry}
use Rattle.disk_seats.proofs.Progresses.{same_going}
use Rattle.ledger_versions.specs.Readers.{ReaderFacts, Waiting}
use Rattle.member_memory.proofs.Growing.{has-it}
use Rattle.disk_store.specs.declared.member.Member.{Member}
use Rattle.disk_store.specs.declared.member.MemberStage.{MemberStage}
use Rattle.disk_store.specs.declared.member.MemberStage.TheVariants as stage
use Rattle.disk_store.specs.declared.member.Recovery.TheVariants as recovery
use Rattle.disk_store.specs.Memory.{StoreMemory}
use Rattle.disk_store.specs.Standing.{HasBegun, IsCommitOf, IsUndone, StageStands}
use Rattle.disk_store.specs.Shown.{Sits, Shown}
use Rattle.disk_store.specs.Sound.{IsSound}
use Rattle.disk_store.proofs.FoundLines.{KeyAt}
use Rattle.disk_store.proofs.Changed.{some-found}

-- ---- what the ledger has of a member is of lines that its memory has

module _ (v : View) (g : Ledger) (facts : LedgerFacts v g) (t : ℕ) (x : Member) (i : ℕ) (undo : Undo) (got : slice_get (entries_of (g.standing t)) i ≡ Some undo) where
  at-standing : (st : Standing) → g.standing t ≡ st → slice_get (entries_of st) i ≡ Some undo
  at-standing st is = ap (λ (y : Standing). slice_get (entries_of y) i) (sym is) ∙ got

  of-resting : g.standing t ≡ resting → KeyAt x.written.keys undo.key
  of-resting rests = absurd (no_entry (g.standing t) rests i undo got)

  of-begun : HasBegun g t x → KeyAt x.written.keys undo.key
  of-begun has = record { place = i; is = has.keys i undo (at-standing (changing has.all has.stable) has.stands) }

  of-commit : (at : _) → IsCommitOf g t x at → KeyAt x.written.keys undo.key
  of-commit at c =
      let its = ap g.standing (sym c.its) ∙ (facts.commit (commit_of_plan c.plan at) c.under_way).its in
      record { place = i; is = c.keys i undo (at-standing (committing c.plan.all) its) }

  of-undone : (left : ℕ) → IsUndone g t x left → KeyAt x.written.keys undo.key
  of-undone left u = record { place = i; is = u.keys i undo (at-standing (undoing u.all left) u.stands) }

  pub in-memory : (st : MemberStage) → StageStands st v g t x → KeyAt x.written.keys undo.key
  in-memory stage.Outside rests = of-resting rests
  in-memory (stage.Beginning ceiling) rests = of-resting rests
  in-memory stage.Writing has = of-begun has.begun
  in-memory stage.Changing has = of-begun has.begun
  in-memory stage.Broken is = record { place = i; is = is.keys i undo got }
  in-memory stage.Prepared has = of-begun has.begun
  in-memory (stage.Committing (Entering at)) has = of-begun has.journalled.begun
  in-memory (stage.Committing Securing) has = of-begun has.journalled.begun
  in-memory (stage.Committing (Going at)) is = of-commit at is.commit
  in-memory stage.RollingBack rests = of-resting rests
  in-memory stage.Closing rests = of-resting rests
  in-memory stage.Reading rests = of-resting rests
  in-memory (stage.Dead commits recovery.Ending) rests = of-resting rests
  in-memory (stage.Dead commits recovery.Judging) is = of-commit is.at is.commit
  in-memory (stage.Dead commits (recovery.Undoing left)) is = of-undone left is
  in-memory (stage.Dead commits recovery.Restoring) is = of-undone 0 is

-- ---- so no other has a before-image of a session's line

module _ (v : View) (held : StoreMemory) (sound : IsSound held) (h : Shelf) (shown : Shown v held h) (s : ℕ) (m : Member) (was : slice_get held.members s ≡ Some m) (key : Dbkey) (line : Line) (found : find dbkey_order key m.written.lines ≡ Some line) where
  another : (t i : ℕ) (undo : Undo) → t ≢ s → slice_get (entries_of (shown.ledger.standing t)) i ≡ Some undo → undo.key ≡ key → (x : Option Member) → slice_get held.members t ≡ x → ⊥
  another t i undo ne got same None none = no_entry (shown.ledger.standing t) (subst (λ (y : Option Member). Sits v shown.ledger t y (h.seat t)) none (shown.seats t)).1 i undo got
  another t i undo ne got same (Some x) is =
      let sat = subst (λ (y : Option Member). Sits v shown.ledger t y (h.seat t)) is (shown.seats t) in
      let at = in-memory v shown.ledger shown.facts t x i undo got x.stage sat.stands in
      let keys = (sound.each t x is).keys in
      let has = some-found (find dbkey_order undo.key x.written.lines) (sym (keys.same undo.key) ∙ has-it x.written.keys at.place undo.key at.is) in
      ne (sound.apart t s x m key has.0 line is was (subst (λ (k : Dbkey). find dbkey_order k x.written.lines ≡ Some has.0) same has.1) found)

  pub left-to : IsLeftTo s key shown.ledger.standing
  left-to t i undo ne got same = another t i undo ne got same (slice_get held.members t) refl

-- ---- and its line bears no open transaction

module _ (v : View) (g : Ledger) (facts : LedgerFacts v g) (s : ℕ) (all : List Undo) (stable : ℕ) (stands : g.standing s ≡ changing all stable) (key : Dbkey) (left : IsLeftTo s key g.standing) where
  -- what stands of an open transaction is what the ledger has of it
  its-entries : (m : ℕ) (st : Standing) → MemberStands v g.base m st → (o : Open) → g.base.going m ≡ Some o → (i : ℕ) (undo : Undo) → slice_get o.entries i ≡ Some undo → slice_get (entries_of st) i ≡ Some undo
  its-entries m resting is o going i undo got = absurd (none-some o (sym is ∙ going))
  its-entries m (changing es n) is o going i undo got =
      let same : o ≡ is.transaction = same_Some _ _ (sym going ∙ is.seat.is_open) in
      absurd (none-some undo (ap (λ (l : List Undo). slice_get l i) (sym (ap (λ (p : Open). p.entries) same ∙ is.seat.none_stands)) ∙ got))
  its-entries m broken is o going i undo got = taken m [] is o going i undo got
    where
      taken : (m : ℕ) (es : List Undo) → HasOpen g.base m es → (o : Open) → g.base.going m ≡ Some o → (i : ℕ) (undo : Undo) → slice_get o.entries i ≡ Some undo → slice_get es i ≡ Some undo
      taken m es is o going i undo got = let same : o ≡ is.transaction = same_Some _ _ (sym going ∙ is.is_open) in ap (λ (l : List Undo). slice_get l i) (sym (ap (λ (p : Open). p.entries) same ∙ is.entries)) ∙ got
  its-entries m (committing es) is o going i undo got = let same : o ≡ is.transaction = same_Some _ _ (sym going ∙ is.is_open) in ap (λ (l : List Undo). slice_get l i) (sym (ap (λ (p : Open). p.entries) same ∙ is.entries)) ∙ got
  its-entries m (undoing es n) is o going i undo got = let same : o ≡ is.transaction = same_Some _ _ (sym going ∙ is.is_open) in ap (λ (l : List Undo). slice_get l i) (sym (ap (λ (p : Open). p.entries) same ∙ is.entries)) ∙ got

  nothing-own : (o : Open) → g.base.going s ≡ Some o → (i : ℕ) (undo : Undo) → slice_get o.entries i ≡ Some undo → ⊥
  nothing-own o going i undo got =
      let is : IsChanging v g.base s all stable = subst (λ (st : Standing). MemberStands v g.base s st) stands (facts.member s) in
      let same : o ≡ is.transaction = same_Some _ _ (sym going ∙ is.seat.is_open) in
      none-some undo (ap (λ (l : List Undo). slice_get l i) (sym (ap (λ (p : Open). p.entries) same ∙ is.seat.none_stands)) ∙ got)

  untouched : (m : ℕ) (o : Open) → g.base.going m ≡ Some o → (i : ℕ) (undo : Undo) → slice_get o.entries i ≡ Some undo → undo.key ≢ key
  untouched m o going i undo got same = ⊎_elim
      (λ (here : m ≡ s). nothing-own o (ap (λ (k : ℕ). g.base.going k) (sym here) ∙ going) i undo got)
      (λ away. left m i undo away (its-entries m (g.standing m) (facts.member m) o going i undo got) same)
      (nat_cases m s)

  module _ (limit : ℕ) (course : Course) (waiting : Waiting) (readers : ReaderFacts v g limit course waiting) (now : IsPending v v.content) where
    pub not-borne : course.going (line_at v.content key).tsn.number ≡ false
    not-borne = by (course.going (line_at v.content key).tsn.number) refl
      where
        by : (b : Bool) → course.going (line_at v.content key).tsn.number ≡ b → course.going (line_at v.content key).tsn.number ≡ false
        by false is = is
        by true is =
            let o = readers.versions.going (line_at v.content key).tsn.number is in
            ⊎_elim
            (λ c. absurd (c.not_open o.member o.transaction (same_going v g facts o.member ∙ o.is_open) (sym o.number)))
            (λ c. absurd (untouched c.member c.transaction (sym (same_going v g facts c.member) ∙ c.is_open) c.index (record { key = key; before = c.before }) c.entry refl))
            (facts.facts.line key (v.content (file_of key) (slot_of key)) (now (file_of key) (slot_of key)))
