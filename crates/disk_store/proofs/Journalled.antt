-- Members whose before-images stand, by the ledger.
use Rattle.std.proofs.Common.{◌≡◌, ◌≤◌, ◌∙◌, ℕ, List, [], length, Option, Some, None, slice_get, ap, refl, sym, subst, arith}
use Rattle.std.proofs.lemmas.Option.{same_Some, none-some}
use Rattle.rdb_outside.specs.Disk.{View}
use Rattle.line_store.specs.Shelves.{Shelf}
use Rattle.stable_lines.specs.Slots.{Undo}
use Rattle.stable_lines.specs.Progress.{Open}
use Rattle.ledger_versions.specs.disk_seats.Ledgers.{Standing, resting, changing, broken, committing, undoing, Ledger}
use Rattle.ledger_versions.specs.disk_seats.Members.{MemberStands, MayEnd}
use Rattle.member_rooms.specs.member_steps.declared.committing.CommitTurn.TheVariants.{Entering, Securing, Going}
use Rattle.reader_lines.specs.committed_lines.Seen.{Seen, IsSeen, Stands, AreSeen}
use Rattle.disk_store.specs.declared.member.Member.{Member}
use Rattle.disk_store.specs.declared.member.MemberStage.{MemberStage}
use Rattle.disk_store.specs.declared.member.MemberStage.TheVariants as stage
use Rattle.disk_store.specs.declared.member.Recovery.TheVariants as recovery
use Rattle.disk_store.specs.BeforeImages.{its_own, seen_in, seen_of}
use Rattle.disk_store.specs.Memory.{StoreMemory}
use Rattle.disk_store.specs.Standing.{IsCommitOf, IsUndone, StageStands}
use Rattle.disk_store.specs.Shown.{Sits, Shown}

-- the key of a search is the one of its own
pub own_keys : (m : Member) (seen : Seen) → seen_in m.stage m ≡ Some seen → seen ≡ its_own m
own_keys m seen is = by m.stage is
  where
    by : (st : MemberStage) → seen_in st m ≡ Some seen → seen ≡ its_own m
    by stage.Outside at = absurd (none-some _ at)
    by (stage.Beginning ceiling) at = absurd (none-some _ at)
    by stage.Writing at = absurd (none-some _ at)
    by stage.Changing at = absurd (none-some _ at)
    by stage.Broken at = absurd (none-some _ at)
    by stage.Prepared at = absurd (none-some _ at)
    by (stage.Committing (Entering n)) at = absurd (none-some _ at)
    by (stage.Committing Securing) at = absurd (none-some _ at)
    by (stage.Committing (Going n)) at = same_Some _ _ (sym at)
    by stage.RollingBack at = absurd (none-some _ at)
    by stage.Closing at = absurd (none-some _ at)
    by stage.Reading at = absurd (none-some _ at)
    by (stage.Dead commits recovery.Ending) at = absurd (none-some _ at)
    by (stage.Dead commits recovery.Judging) at = same_Some _ _ (sym at)
    by (stage.Dead commits (recovery.Undoing left)) at = same_Some _ _ (sym at)
    by (stage.Dead commits recovery.Restoring) at = same_Some _ _ (sym at)

module _ (v : View) (held : StoreMemory) (h : Shelf) (shown : Shown v held h) where
  abbrev g : Ledger
  g = shown.ledger

  abbrev Opens : ℕ → Seen → Type 0
  Opens s seen = (o : Open) × (g.base.going s ≡ Some o) × IsSeen o seen

  -- a commit that writes pages
  of_commit : (s : ℕ) (m : Member) (at : _) → IsCommitOf g s m at → Opens s (its_own m)
  of_commit s m at c =
      let stands = shown.facts.commit _ c.under_way in
      (_, ap (λ (n : ℕ). g.base.going n) (sym c.its) ∙ stands.is.is_open, record { tsn = sym c.number; keys = c.keys })

  -- one that is undone
  of_undone : (s : ℕ) (m : Member) (left : ℕ) → IsUndone g s m left → Opens s (its_own m)
  of_undone s m left u =
      let puts = subst (λ (st : Standing). MemberStands v g.base s st) u.stands (shown.facts.member s) in
      let same : puts.transaction ≡ u.transaction = same_Some _ _ (sym puts.is_open ∙ u.is_open) in
      let entries : u.transaction.entries ≡ u.all = ap (λ (o : Open). o.entries) (sym same) ∙ puts.entries in
      (u.transaction, u.is_open, record { tsn = u.number; keys = λ i undo is. u.keys i undo (ap (λ (l : List Undo). slice_get l i) (sym entries) ∙ is) })

  opens : (s : ℕ) (m : Member) (seen : Seen) → StageStands m.stage v g s m → seen_in m.stage m ≡ Some seen → Opens s seen
  opens s m seen stands is = subst (λ (x : Seen). Opens s x) (sym (own_keys m seen is)) (by m.stage stands is)
    where
      by : (st : MemberStage) → StageStands st v g s m → seen_in st m ≡ Some seen → Opens s (its_own m)
      by stage.Outside x at = absurd (none-some _ at)
      by (stage.Beginning ceiling) x at = absurd (none-some _ at)
      by stage.Writing x at = absurd (none-some _ at)
      by stage.Changing x at = absurd (none-some _ at)
      by stage.Broken x at = absurd (none-some _ at)
      by stage.Prepared x at = absurd (none-some _ at)
      by (stage.Committing (Entering n)) x at = absurd (none-some _ at)
      by (stage.Committing Securing) x at = absurd (none-some _ at)
      by (stage.Committing (Going n)) x at = of_commit s m n x.commit
      by stage.RollingBack x at = absurd (none-some _ at)
      by stage.Closing x at = absurd (none-some _ at)
      by stage.Reading x at = absurd (none-some _ at)
      by (stage.Dead commits recovery.Ending) x at = absurd (none-some _ at)
      by (stage.Dead commits recovery.Judging) x at = of_commit s m x.at x.commit
      by (stage.Dead commits (recovery.Undoing left)) x at = of_undone s m left x
      by (stage.Dead commits recovery.Restoring) x at = of_undone s m 0 x

  -- ---- and no other has before-images that stand

  module _ (s : ℕ) (o : Open) (is_open : g.base.going s ≡ Some o) (some : 1 ≤ length o.entries) where
    not_resting : g.standing s ≡ resting → ⊥
    not_resting rests = none-some _ (sym (subst (λ (st : Standing). MemberStands v g.base s st) rests (shown.facts.member s)) ∙ is_open)

    none_of : (p : Open) → g.base.going s ≡ Some p → p.entries ≡ [] → ⊥
    none_of p is none = let same : p ≡ o = same_Some _ _ (sym is ∙ is_open) in let zero_is : length o.entries ≡ 0 = ap (λ (x : Open). length x.entries) (sym same) ∙ ap (λ (l : List Undo). length l) none in omega (arith, zero_is, some)

    not_changing : (all : List Undo) (stable : ℕ) → g.standing s ≡ changing all stable → ⊥
    not_changing all stable is = let c = subst (λ (st : Standing). MemberStands v g.base s st) is (shown.facts.member s) in none_of c.transaction c.seat.is_open c.seat.none_stands

    not_ending : (st : Standing) → g.standing s ≡ st → MayEnd st → ⊥
    not_ending resting is may = may
    not_ending (changing all stable) is may = not_changing all stable is
    not_ending broken is may = let b = subst (λ (st : Standing). MemberStands v g.base s st) is (shown.facts.member s) in none_of b.transaction b.is_open b.entries
    not_ending (committing all) is may = may
    not_ending (undoing all left) is may = may

    its : (m : Member) → StageStands m.stage v g s m → (seen : Seen) × (seen_in m.stage m ≡ Some seen)
    its m stands = by m.stage stands
      where
        by : (st : MemberStage) → StageStands st v g s m → (seen : Seen) × (seen_in st m ≡ Some seen)
        by stage.Outside x = absurd (not_resting x)
        by (stage.Beginning ceiling) x = absurd (not_resting x)
        by stage.Writing x = absurd (not_changing x.begun.all x.begun.stable x.begun.stands)
        by stage.Changing x = absurd (not_changing x.begun.all x.begun.stable x.begun.stands)
        by stage.Broken x = absurd (not_ending (g.standing s) refl x.may_end)
        by stage.Prepared x = absurd (not_changing x.begun.all x.begun.stable x.begun.stands)
        by (stage.Committing (Entering n)) x = absurd (not_changing x.journalled.begun.all x.journalled.begun.stable x.journalled.begun.stands)
        by (stage.Committing Securing) x = absurd (not_changing x.journalled.begun.all x.journalled.begun.stable x.journalled.begun.stands)
        by (stage.Committing (Going n)) x = (its_own m, refl)
        by stage.RollingBack x = absurd (not_resting x)
        by stage.Closing x = absurd (not_resting x)
        by stage.Reading x = absurd (not_resting x)
        by (stage.Dead commits recovery.Ending) x = absurd (not_resting x)
        by (stage.Dead commits recovery.Judging) x = (its_own m, refl)
        by (stage.Dead commits (recovery.Undoing left)) x = (its_own m, refl)
        by (stage.Dead commits recovery.Restoring) x = (its_own m, refl)

    stands_there : (x : Option Member) → slice_get held.members s ≡ x → Stands seen_of held.members s
    stands_there None none = absurd (not_resting (subst (λ (y : Option Member). Sits v g s y (h.seat s)) none (shown.seats s)).1)
    stands_there (Some m) is =
        let sat = subst (λ (y : Option Member). Sits v g s y (h.seat s)) is (shown.seats s) in
        let it = its m sat.stands in
        record { its = m; is = is; seen = it.0; has = it.1 }

  pub are_seen : AreSeen seen_of g held.members
  are_seen = record {
    each = λ s m seen got has. opens s m seen (subst (λ (y : Option Member). Sits v g s y (h.seat s)) got (shown.seats s)).stands has;
    none_else = λ s o is some. stands_there s o is some (slice_get held.members s) refl;
  }
