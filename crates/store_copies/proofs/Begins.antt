-- A session begins to copy what is committed.
use Rattle.std.proofs.Common.{◌≡◌, ◌≤◌, ◌+◌, ◌^◌, ◌==◌, inl, ℕ, Bool, true, false, IsTrue, List, [], Option, Some, None, Result, Ok, Err, OnErr, refl, sym, ap, subst, ◌∙◌, if◌then◌else◌}
use Rattle.std.specs.Prelude.{slice_get}
use Rattle.std.proofs.lemmas.Bool.{eqb-true}
use Rattle.std.proofs.lemmas.Option.{same_Some, none-some}
use Rattle.rdb_types.specs.declared.keys.Limits.{Limits}
use Rattle.rdb_outside.specs.Disk.{View, LeftNow}
use Rattle.root_file.specs.Root.{AreLimits}
use Rattle.line_view.specs.Knowledge.{Lines}
use Rattle.line_store.specs.Seats.{Seat, outside, reading, copying, begun}
use Rattle.line_store.specs.Shelves.{Shelf}
use Rattle.line_store.specs.Sights.{bare, Does, BeginsCopying, BeginsReading, copier_behind}
use Rattle.backup_making.specs.Making.{file_of, Former}
use Rattle.partial_backup.specs.declared.copying.Copying.{Copying}
use Rattle.partial_backup.specs.Partial.{IsCopying, IsUntouched, MightHold}
use Rattle.disk_store.specs.declared.member.Member.{Member}
use Rattle.disk_store.specs.declared.member.MemberStage.{MemberStage}
use Rattle.disk_store.specs.declared.member.MemberStage.TheVariants as stage
use Rattle.disk_store.specs.Memory.{StoreMemory}
use Rattle.disk_store.specs.Seats.{seat_with, stand_of, stand_at, IsAtStage}
use Rattle.disk_store.specs.Shown.{DoesOn, RollsOn, RollsTo, Shown}
use Rattle.disk_store.proofs.Growing.{grow-same}
use Rattle.disk_store.proofs.Moving.{itself}
use Rattle.disk_store.proofs.Passing.{none-leaves}
use Rattle.store_copies.specs.Memory.{CopiesMemory, copied_behind, copied_by, copier_in, done_behind, is_done}
use Rattle.store_copies.specs.Shown.{seated, GoesOn, IsFit, copied_sight}
use Rattle.store_copies.proofs.Fitted.{fit-now}
use Rattle.store_copies.proofs.Lifted.{Copies, does-lifted}
use Rattle.store_copies.proofs.Relations.{moves-to}
use Rattle.store_copies.proofs.Rolled.{begins-rolling}

-- ---- who stands as a reader is at the stage of readers

reads-as : (st : MemberStage) → bare (seat_with st [] []) ≡ reading [] → st ≡ stage.Reading
reads-as stage.Outside is = absurd (cc)
reads-as (stage.Beginning ceiling) is = absurd (cc)
reads-as stage.Writing is = absurd (cc)
reads-as stage.Changing is = absurd (cc)
reads-as stage.Broken is = absurd (cc)
reads-as stage.Prepared is = absurd (cc)
reads-as (stage.Committing turn) is = absurd (cc)
reads-as stage.RollingBack is = absurd (cc)
reads-as stage.Closing is = absurd (cc)
reads-as stage.Reading is = refl
reads-as (stage.Dead commits left) is = absurd (cc)

pub reading-at : (members : List Member) (s : ℕ) → bare (stand_at members s) ≡ reading [] → IsAtStage members s stage.Reading
reading-at members s is = by (slice_get members s) refl is
  where
    by : (x : Option Member) → slice_get members s ≡ x → bare (stand_of x) ≡ reading [] → IsAtStage members s stage.Reading
    by None at seat = absurd (cc)
    by (Some m) at seat = record { member = m; is = at; at = reads-as m.stage seat }

-- what is so behind either answer
pub on-error : {T E P : Type 0} (r : Result T E) → P → OnErr r P
on-error (Ok x) is = tt
on-error (Err e) is = is

-- nothing is written
untouched-none : (v : View) (n : ℕ) → IsUntouched (file_of n) v v
untouched-none v n = record { content = λ slot. refl; pending = λ slot bytes p. p }

-- ---- it begins

module _ (v : View) (left : IsTrue v.tells → LeftNow v v.content) (held behind : StoreMemory) (before after : CopiesMemory) (s number : ℕ) (next : Copying) (was-none : copied_by before s ≡ None)
    (set : (t : ℕ) → copied_by after t ≡ copied_behind s (Some next) (copied_by before) t) (numbers : (n : ℕ) → copier_in after n ≡ copier_behind s (Some number) (copier_in before) n)
    (done : (n : ℕ) → is_done after n ≡ done_behind number false (is_done before) n) (number-is : next.backup.number ≡ number) (limits : next.backup.limits ≡ held.limits) (limited : AreLimits held.limits) (tables : behind.tables ≡ held.tables)
    (starts : (former : Former) (classes : ℕ → ℕ) (lines : Lines) → MightHold former v (file_of number) → IsCopying former classes lines v next)
    (last : 1 ≤ held.next.number → held.next.number ≤ 2 ^ 62 + 1 → next.backup.last_group + 1 ≡ held.next.number)
    (out : stand_at held.members s ≡ outside) (does : DoesOn s (reading []) (BeginsReading s) v held v behind) where
  own : copied_by after s ≡ Some next
  own = set s ∙ ap (λ (b : Bool). if b then Some next else copied_by before s) (itself s)

  not-done : (n : ℕ) (b : Bool) → (n == number) ≡ b → b ≡ true → is_done after n ≡ false
  not-done n b same is = done n ∙ ap (λ (e : Bool). if e then false else is_done before n) (same ∙ is)

  done-as : (n : ℕ) → (n == number) ≡ false → is_done after n ≡ is_done before n
  done-as n apart = done n ∙ ap (λ (e : Bool). if e then false else is_done before n) apart

  done-before : (n : ℕ) (b : Bool) → (n == number) ≡ b → is_done after n ≡ true → is_done before n ≡ true
  done-before n true same is = let bad : false ≡ true = sym (not-done n true same refl) ∙ is in absurd (cc)
  done-before n false apart is = sym (done-as n apart) ∙ is

  done-behind : (n : ℕ) (b : Bool) → (n == number) ≡ b → (Some number ≡ Some n → ⊥) → is_done before n ≡ true → is_done after n ≡ true
  done-behind n true same apart is = absurd (apart (ap (λ (m : ℕ). Some m) (sym (eqb-true n number same))))
  done-behind n false other apart is = done-as n other ∙ is

  copies : Copies before after s (Some number) None
  copies = record {
    beside = λ t apart. set t ∙ ap (λ (b : Bool). if b then Some next else copied_by before t) apart;
    numbers = numbers;
    its = λ c is. inl (ap (λ (n : ℕ). Some n) (sym number-is ∙ ap (λ (x : Copying). x.backup.number) (same_Some next c (sym own ∙ is))));
    anew = λ n is. not-done n true (ap (λ (m : ℕ). m == number) (sym (same_Some number n is)) ∙ itself number) refl;
    kept = λ n apart is. done-behind n (n == number) refl apart is;
    done = λ n is. inl (done-before n (n == number) refl is);
    ended = λ n bad. absurd (none-some n bad);
  }

  stands : seated (copied_by before s) (stand_at held.members s) ≡ outside
  stands = λ i. seated (was-none i) (out i)

  reads : IsAtStage behind.members s stage.Reading
  reads = reading-at behind.members s does.does.mine

  -- the lines that it copies are what is committed
  copies-from : (h g : Shelf) → Shown v held h → Shown v behind g → BeginsReading s h g → (c : Copying) (start : Lines) → copied_by after s ≡ Some c → g.seat s ≡ reading start → GoesOn v behind.tables c start
  copies-from h g shown now moves c start is seat =
      let start-is : h.now ≡ start = (let same : reading h.now ≡ reading start = sym moves.mine ∙ seat in cc) in
      let lines-are : start ≡ now.ledger.base.lines = sym start-is ∙ sym moves.now ∙ now.lines.now in
      let limits-are : behind.limits ≡ held.limits = sym now.space.limits ∙ moves.space.limits ∙ shown.space.limits in
      let fit : IsFit behind.tables behind.limits now.tables.classes start =
      fit-now v (left shown.tells) behind g now s reads.member reads.is reads.at (subst AreLimits (sym limits-are) limited) start seat lines-are in
      let goes : GoesOn v behind.tables next start = record {
        former = λ slot bytes. true;
        classes = now.tables.classes;
        is = starts (λ slot bytes. true) now.tables.classes start (λ slot bytes p. refl);
        fit = subst (λ (l : Limits). IsFit behind.tables l now.tables.classes start) (limits-are ∙ sym limits) fit;
      } in
      subst (λ (x : Copying). GoesOn v behind.tables x start) (same_Some next c (sym own ∙ is)) goes

  -- and rolled forward they give it
  rolls-from : (h g : Shelf) (shown : Shown v held h) (now : Shown v behind g) → RollsOn shown.ledger.base now.ledger.base → BeginsReading s h g → (c : Copying) (start : Lines) → copied_by after s ≡ Some c → g.seat s ≡ reading start → RollsTo start c.backup.last_group now.ledger.base
  rolls-from h g shown now on moves c start is seat =
      let start-is : h.now ≡ start = (let same : reading h.now ≡ reading start = sym moves.mine ∙ seat in cc) in
      let begins : RollsTo shown.ledger.base.lines next.backup.last_group shown.ledger.base = begins-rolling v shown.ledger shown.facts (left shown.tells) held.next.number next.backup.last_group shown.numbers.group.numbered last in
      subst (λ (x : Copying). RollsTo start x.backup.last_group now.ledger.base) (same_Some next c (sym own ∙ is))
      (on start next.backup.last_group (subst (λ (l : Lines). RollsTo l next.backup.last_group shown.ledger.base) (sym shown.lines.now ∙ start-is) begins))

  pub does-begin-copy : {former : View} → Does s (copying number []) (BeginsCopying s number) (copied_sight former v held before) (copied_sight former v behind after)
  does-begin-copy = does-lifted v v held behind before after s (Some number) None copies left (λ t n other. untouched-none v n) (λ t. none-leaves v t) (grow-same held.tables behind.tables tables)
      (BeginsReading s) (BeginsCopying s number) (λ h g moves t apart. moves.others.seat t apart)
      (λ h g with-it shown now moves. moves-to (copied_by before) (copied_by after) s copies.beside (reading h.now) (copying number h.now) h g
      ((λ i. seated (own i) (reading h.now)) ∙ ap (λ (n : ℕ). copying n h.now) number-is) moves)
      (λ h g with-it shown now moves c start is last seat. copies-from h g shown now moves c start is seat)
      (λ h g shown now on were moves c start is last seat. rolls-from h g shown now on moves c start is seat)
      (λ h g with-it shown now on were moves n bad. absurd (none-some n bad))
      (reading []) (copying number []) (ap (λ (x : Seat). begun x (copying number [])) stands)
      ((λ i. bare (seated (own i) (stand_at behind.members s))) ∙ ap (λ (x : Seat). bare (seated (Some next) x)) (stand-reads reads) ∙ ap (λ (n : ℕ). copying n []) number-is) does
    where
      stand-reads : IsAtStage behind.members s stage.Reading → stand_at behind.members s ≡ reading []
      stand-reads at = ap stand_of at.is ∙ ap (λ (st : MemberStage). seat_with st [] []) at.at
