-- The next line of a session was pushed aside, or had nothing to push: what is shown behind it.
use Rattle.std.proofs.Common.{◌≡◌, ◌≤◌, ◌<◌, ℕ, zero, suc, false, IsTrue, length, Some, ◌⊎◌, inl, inr, refl, sym, ap, subst, ◌∙◌, arith}
use Rattle.std.specs.Prelude.{slice_get}
use Rattle.std.proofs.lemmas.Bool.{false≢true}
use Rattle.std.proofs.lemmas.Option.{same_Some}
use Rattle.rdb_types.specs.declared.keys.Dbkey.{Dbkey}
use Rattle.rdb_types.specs.declared.keys.Line.{Line}
use Rattle.rdb_page.specs.Page.{IsOwner}
use Rattle.rdb_outside.specs.Disk.{View, IsPending}
use Rattle.rdb_outside.specs.Runs.{no_calls}
use Rattle.line_store.specs.Shelves.{Shelf}
use Rattle.line_store.specs.Calls.{GoesOn}
use Rattle.line_versions.specs.Versions.{snap_of}
use Rattle.line_versions.specs.Files.{entries_in}
use Rattle.line_versions.specs.Course.{IsChanged}
use Rattle.stable_lines.specs.Slots.{line_at}
use Rattle.disk_store.specs.declared.member.Member.{Member}
use Rattle.disk_store.specs.declared.member.MemberStage.TheVariants as stage
use Rattle.disk_store.specs.ChangeSteps.{IsNext, PassesNext, PushesNext, Unpushed, pushed_more, with_spent}
use Rattle.disk_store.specs.Memory.{StoreMemory, with_member}
use Rattle.disk_store.specs.Seats.{stand_at, steps_at}
use Rattle.disk_store.specs.Shown.{DoesOn, IsUnused, Shown}
use Rattle.disk_store.specs.Sound.{IsSound, IsUsedIn}
use Rattle.disk_store.proofs.SlotsSound.{found-key}
use Rattle.disk_store.proofs.Members.{get-within}
use Rattle.disk_store.proofs.Changed.{used-all}
use Rattle.change_steps.proofs.PushFaults.{takes-fewer}
use Rattle.change_steps.proofs.PushSteps.{does-pass, does-push, pushed-fewer}
use Rattle.change_steps.proofs.ChangeCalls.{fewer-at}

module _ (held : StoreMemory) (s : ℕ) (key : Dbkey) (changes : Unpushed held.members s) (next : IsNext held.members s key) (m : Member) (was : slice_get held.members s ≡ Some m) where
  its-stage : m.stage ≡ stage.Changing
  its-stage = subst (λ (x : Member). x.stage ≡ stage.Changing) (same_Some next.member m (sym next.is ∙ was)) next.at

  its-key : slice_get m.written.keys m.pushed ≡ Some key
  its-key = subst (λ (x : Member). slice_get x.written.keys x.pushed ≡ Some key) (same_Some next.member m (sym next.is ∙ was)) next.next

  all-in : length m.written.keys ≤ m.journalled
  all-in = subst (λ (x : Member). length x.written.keys ≤ x.journalled) (same_Some changes.member m (sym changes.is ∙ was)) changes.all

-- ---- into a slot that was set aside

module _ (v w : View) (held behind : StoreMemory) (s : ℕ) (key : Dbkey) (changes : Unpushed held.members s) (next : IsNext held.members s key) (pushes : PushesNext s key v w held behind) where
  abbrev m : Member
  m = pushes.member

  abbrev n : Member
  n = with_spent pushes.chain (snap_of key) (pushed_more pushes.written m)

  abbrev new : StoreMemory
  new = record (with_member s n held) { slots = pushes.slots }

  fewer : used-all pushes.slots ≤ used-all held.slots
  fewer = takes-fewer v w key pushes.chain held.slots pushes.slots pushes.takes

  at : m.stage ≡ stage.Changing
  at = its-stage held s key changes next m pushes.was

  is : slice_get m.written.keys m.pushed ≡ Some key
  is = its-key held s key changes next m pushes.was

  all : length m.written.keys ≤ m.journalled
  all = all-in held s key changes next m pushes.was

  pub next-pushed-less : steps_at behind.members s < steps_at held.members s
  next-pushed-less = fewer-at held.members behind.members s m n pushes.was (ap (λ (x : StoreMemory). x.members) pushes.is)
      (pushed-fewer m n at refl refl refl refl pushes.rechains.keys (get-within m.written.keys m.pushed key is))

  module _ (sound : IsSound held) (now : IsTrue v.tells → IsPending v v.content) where
    by : (k : ℕ) → pushes.chain ≡ k → DoesOn s (stand_at held.members s) (λ h g. GoesOn s h g) v held w new
    by zero none = does-pass v w held new s m n pushes.was sound at all key is pushes.chain refl refl refl refl refl pushes.rechains.keys pushes.rechains.line pushes.rechains.same refl refl refl refl refl fewer now
        (pushes.takes.reads none) none (λ h shown ended. let never = pushes.stands.never none shown.tells in record { never = never.0; none = never.1 }) (pushes.takes.keeps none)
    by (suc k) more =
        let some : 1 ≤ pushes.chain = omega (arith, more) in
        does-push v w held new s m n pushes.was sound at all key is pushes.chain refl refl refl refl refl pushes.rechains.keys pushes.rechains.line pushes.rechains.same refl refl refl refl refl fewer now
        pushes.takes.writes some (λ h shown. pushes.takes.free v.content shown.versions.course.followed held.limits.snaps shown.versions.slots some) (pushes.stands.stands some)
        (λ h shown ended goes. pushes.stands.held some shown.tells shown.ledger.base shown.versions.course held.limits.snaps shown.versions.slots ended goes shown.versions.readers.versions)

    pub does-next-push : DoesOn s (stand_at held.members s) (λ h g. GoesOn s h g) v held w behind
    does-next-push = subst (λ (x : StoreMemory). DoesOn s (stand_at held.members s) (λ h g. GoesOn s h g) v held w x) (sym pushes.is) (by pushes.chain refl)

-- ---- without a slot

-- a line that the tables never used is unused on its page, where it bears no open transaction
unused-here : (v : View) (held : StoreMemory) (h : Shelf) (shown : Shown v held h) (file : ℕ) (key : Dbkey) → IsOwner file key.area → (IsUsedIn held.tables file key → ⊥) → shown.versions.course.going (line_at v.content key).tsn.number ≡ false → IsUnused (line_at v.content key)
unused-here v held h shown file key owner never ended = by (shown.versions.readers.versions.right.current key)
  where
    base : IsUnused (shown.versions.course.base key)
    base = shown.versions.unused file key owner (λ used. never (record { owner = owner; used = used }))

    by : (line_at v.content key ≡ shown.versions.course.base key) ⊎ IsChanged (entries_in v.content) shown.versions.course key (line_at v.content key) → IsUnused (line_at v.content key)
    by (inl same) = subst (λ (l : Line). IsUnused l) (sym same) base
    by (inr changed) = absurd (false≢true (sym ended ∙ changed.going))

module _ (v : View) (held behind : StoreMemory) (s : ℕ) (key : Dbkey) (changes : Unpushed held.members s) (next : IsNext held.members s key) (passes : PassesNext s key held behind) where
  abbrev passed-m : Member
  passed-m = passes.member

  abbrev passed-n : Member
  passed-n = pushed_more passes.written passed-m

  passed-is : slice_get passed-m.written.keys passed-m.pushed ≡ Some key
  passed-is = its-key held s key changes next passed-m passes.was

  pub next-passed-less : steps_at behind.members s < steps_at held.members s
  next-passed-less = fewer-at held.members behind.members s passed-m passed-n passes.was (ap (λ (x : StoreMemory). x.members) passes.is)
      (pushed-fewer passed-m passed-n (its-stage held s key changes next passed-m passes.was) refl refl refl refl passes.rechains.keys (get-within passed-m.written.keys passed-m.pushed key passed-is))

  -- its line lies in a file
  its-file : IsSound held → (file : ℕ) × IsOwner file key.area
  its-file sound =
      let found = found-key held sound s passed-m passes.was passed-m.pushed key passed-is in
      let lies = (sound.each s passed-m passes.was).lies key found.0 found.1 in
      (lies.place.file, lies.is.owner)

  pub does-next-pass : IsSound held → (IsTrue v.tells → IsPending v v.content) → DoesOn s (stand_at held.members s) (λ h g. GoesOn s h g) v held v behind
  does-next-pass sound now = subst (λ (x : StoreMemory). DoesOn s (stand_at held.members s) (λ h g. GoesOn s h g) v held v x) (sym passes.is)
      (does-pass v v held (with_member s passed-n held) s passed-m passed-n passes.was sound (its-stage held s key changes next passed-m passes.was) (all-in held s key changes next passed-m passes.was) key passed-is 0 refl refl refl refl refl passes.rechains.keys passes.rechains.line passes.rechains.same refl refl refl refl refl (omega arith) now
      (no_calls v) refl (λ h shown ended. let file = its-file sound in unused-here v held h shown file.0 key file.1 (passes.never file.0) ended) refl)
