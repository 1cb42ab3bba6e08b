-- What a step of a copy does.
use Rattle.std.proofs.Common.{◌≡◌, ◌≢◌, ◌<◌, ◌==◌, ◌⊎◌, inl, inr, ⊎_elim, ℕ, Bool, true, false, IsTrue, [], Option, Some, None, Ok, Err, refl, sym, ap, subst, ◌∙◌, arith, if◌then◌else◌}
use Rattle.std.specs.Prelude.{slice_get}
use Rattle.std.proofs.lemmas.Bool.{eqb-true, eqb-false}
use Rattle.std.proofs.lemmas.Option.{same_Some, none-some}
use Rattle.rdb_types.specs.declared.file.FileId.{FileId}
use Rattle.rdb_outside.specs.Causes.{Rose}
use Rattle.rdb_outside.specs.Disk.{View, LeftNow}
use Rattle.rdb_outside.specs.Moments.{each_slot}
use Rattle.rdb_types.specs.declared.keys.Limits.{Limits}
use Rattle.line_view.specs.Knowledge.{Lines, IsInOrder}
use Rattle.line_store.specs.declared.answers.Fault.{Fault}
use Rattle.line_store.specs.declared.answers.Fault.TheVariants.{Failed, Bad}
use Rattle.line_store.specs.declared.answers.Stepped.TheVariants.{More, Done}
use Rattle.line_store.specs.Seats.{Seat, reading, copying, done_at, failed_at}
use Rattle.line_store.specs.Shelves.{Shelf}
use Rattle.line_store.specs.Calls.{GoesOn as Goes, IsDone, Fails, Moves}
use Rattle.line_store.specs.Sights.{bare, Does, Steps, IsBackedBy, stepped_to}
use Rattle.line_store.proofs.Begun.{step-begins}
use Rattle.line_store.proofs.Causes.{cause-of}
use Rattle.backup_making.specs.declared.making.Stage.TheVariants.{Ended}
use Rattle.backup_making.specs.Making.{file_of, Former}
use Rattle.partial_backup.specs.declared.copying.Copying.{Copying}
use Rattle.partial_backup.specs.Left.{HasCopied}
use Rattle.partial_backup.specs.Partial.{IsCopying, IsUntouched}
use Rattle.backup_steps.specs.Beside.{IsBeside}
use Rattle.backup_steps.specs.Copies.{MayBeCopied}
use Rattle.backup_steps.specs.reader_lines.Readers.{IsReader}
use Rattle.member_steps.specs.disk_seats.Ledgers.{Ledger}
use Rattle.copies_beside.specs.Read.{IsReadBy}
use Rattle.backup_steps.specs.Steps.{steps_left}
use Rattle.line_moves.proofs.Putting.{nat_cases}
use Rattle.copies_beside.proofs.Shelves.{does_beside}
use Rattle.disk_store.specs.declared.member.Member.{Member}
use Rattle.disk_store.specs.declared.member.MemberStage.TheVariants as stage
use Rattle.disk_store.specs.Classed.{LieClassed}
use Rattle.disk_store.specs.Sound.{IsSound}
use Rattle.disk_store.specs.Memory.{StoreMemory}
use Rattle.disk_store.specs.Seats.{stand_of, stand_at, seat_with}
use Rattle.disk_store.specs.Shown.{DoesOn, RollsOn, RollsTo, Shown}
use Rattle.disk_store.proofs.Growing.{grow-same}
use Rattle.disk_store.proofs.Moving.{itself}
use Rattle.disk_store.proofs.Passing.{none-leaves}
use Rattle.store_copies.specs.Memory.{CopiesMemory, copied_behind, copied_by, copier_in, done_behind, is_done}
use Rattle.store_copies.specs.Shown.{seated, steps_with, with_copies, GoesOn, AreBehind, AreGoing, IsFit, IsRolling, ShownWith, IsBacked, copied_sight}
use Rattle.store_copies.proofs.Relations.{moves-to}
use Rattle.store_copies.proofs.Lifted.{Copies, IsAtWork, copies-same, does-lifted}
use Rattle.store_copies.proofs.OneBackup.{same-rolls}
use Rattle.store_copies.proofs.Others.{ended-pending}
use Rattle.store_copies.proofs.Rolled.{pending-rolls}
use Rattle.store_copies.proofs.Working.{ReadsFrom, is-read-from, may-be-copied, reads-from}

-- ---- what is copied behind it

-- one session copies otherwise, into the backup that it copied into
module _ (before after : CopiesMemory) (s : ℕ) (now : Option Copying) (set : (t : ℕ) → copied_by after t ≡ copied_behind s now (copied_by before) t) (numbers : (n : ℕ) → copier_in after n ≡ copier_in before n) where
  pub set-own : copied_by after s ≡ now
  set-own = set s ∙ ap (λ (b : Bool). if b then now else copied_by before s) (itself s)

  pub set-others : (t : ℕ) → (t == s) ≡ false → copied_by after t ≡ copied_by before t
  set-others t apart = set t ∙ ap (λ (b : Bool). if b then now else copied_by before t) apart

  pub copies-set : ((n : ℕ) → is_done after n ≡ is_done before n) → ((c : Copying) → now ≡ Some c → (b : Copying) × (copied_by before s ≡ Some b) × (b.backup.number ≡ c.backup.number)) → Copies before after s None None
  copies-set done its = record {
    beside = set-others;
    numbers = numbers;
    its = λ c is. inr (its c (sym set-own ∙ is));
    anew = λ n bad. absurd (none-some n bad);
    kept = λ n apart is. done n ∙ is;
    done = λ n is. inl (sym (done n) ∙ is);
    ended = λ n bad. absurd (none-some n bad);
  }

-- the number that it has come to the end of, by another name
pub done-as : (before after : CopiesMemory) (n number : ℕ) → n ≡ number → ((k : ℕ) → is_done after k ≡ done_behind n true (is_done before) k) → (k : ℕ) → is_done after k ≡ done_behind number true (is_done before) k
done-as before after n number same done = subst (λ (m : ℕ). (k : ℕ) → is_done after k ≡ done_behind m true (is_done before) k) same done

pub done-there : (before after : CopiesMemory) (number : ℕ) → ((k : ℕ) → is_done after k ≡ done_behind number true (is_done before) k) → is_done after number ≡ true
done-there before after number done = done number ∙ ap (λ (b : Bool). if b then true else is_done before number) (itself number)

-- it has come to the end of the backup of this number
pub copies-ended : (before after : CopiesMemory) (s number : ℕ) (set : (t : ℕ) → copied_by after t ≡ copied_behind s None (copied_by before) t) (numbers : (n : ℕ) → copier_in after n ≡ copier_in before n) (done : (n : ℕ) → is_done after n ≡ done_behind number true (is_done before) n)
    → IsAtWork before s number → Copies before after s None (Some number)
copies-ended before after s number set numbers done work = record {
  beside = set-others before after s None set numbers;
  numbers = numbers;
  its = λ c is. absurd (none-some c (sym (set-own before after s None set numbers) ∙ is));
  anew = λ n bad. absurd (none-some n bad);
  kept = λ n apart is. kept n (n == number) refl is;
  done = λ n is. was n (n == number) refl is;
  ended = λ n is. (subst (λ (m : ℕ). IsAtWork before s m) (same_Some number n is) work, set-own before after s None set numbers);
}
  where
    done-as : (n : ℕ) (b : Bool) → (n == number) ≡ b → is_done after n ≡ (if b then true else is_done before n)
    done-as n b is = done n ∙ ap (λ (e : Bool). if e then true else is_done before n) is

    kept : (n : ℕ) (b : Bool) → (n == number) ≡ b → is_done before n ≡ true → is_done after n ≡ true
    kept n true same is = done-as n true same
    kept n false apart is = done-as n false apart ∙ is

    was : (n : ℕ) (b : Bool) → (n == number) ≡ b → is_done after n ≡ true → (is_done before n ≡ true) ⊎ (Some number ≡ Some n)
    was n true same is = inr (ap (λ (m : ℕ). Some m) (sym (eqb-true n number same)))
    was n false apart is = inl (sym (done-as n false apart) ∙ is)

-- ---- no call at all

pub beside-none : (file : FileId) (v : View) → IsBeside file v v
beside-none file v = record {
  told = refl;
  later = omega arith;
  no_fewer = omega arith;
  others = λ t. record { content = λ f i apart. refl; pending = λ f i x apart p. p };
  leaves = λ t. none-leaves v t;
}

-- other backups than the one that is written stay
pub untouched-beside : (v w : View) (number n : ℕ) → IsBeside (file_of number) v w → IsTrue v.tells → n ≢ number → IsUntouched (file_of n) v w
untouched-beside v w number n beside tells apart = record {
  content = λ slot. (beside.others tells).content (file_of n) slot other;
  pending = λ slot bytes p. (beside.others tells).pending (file_of n) slot bytes other p;
}
  where
    other : file_of n ≢ file_of number
    other same = apart (ap (λ (f : FileId). f.number) same)

module _ (v : View) (held : StoreMemory) (s : ℕ) (m : Member) (was : slice_get held.members s ≡ Some m) (reads : m.stage ≡ stage.Reading) (before : CopiesMemory) (c : Copying) (is : copied_by before s ≡ Some c) where
  -- the session stands as a reader whose lines are copied
  stands : stand_at held.members s ≡ reading []
  stands = ap stand_of was ∙ ap (λ st. seat_with st [] []) reads

  pub stands-copying : seated (copied_by before s) (stand_at held.members s) ≡ copying c.backup.number []
  stands-copying = λ i. seated (is i) (stands i)

  seat-copying : (h : Shelf) (start : Lines) → h.seat s ≡ reading start → (with_copies (copied_by before) h).seat s ≡ copying c.backup.number start
  seat-copying h start seat = λ i. seated (is i) (seat i)

  from : (h : Shelf) → Shown v held h → ReadsFrom h s
  from h shown = reads-from v held h shown s m was reads

  module _ (w : View) (beside : IsBeside (file_of c.backup.number) v w) (now : IsTrue v.tells → LeftNow v v.content) (after : CopiesMemory) where
    plain : DoesOn s (stand_at held.members s) (λ h g. Moves s (h.seat s) h g) v held w held
    plain = does_beside c.backup.number v w beside held s

    keeps : (h g : Shelf) → Moves s (h.seat s) h g → (t : ℕ) → (t == s) ≡ false → g.seat t ≡ h.seat t
    keeps h g moves t apart = moves.others.seat t apart

    -- ---- it is done

    module _ (none : copied_by after s ≡ None) (ends : Option ℕ) (copies : Copies before after s None ends) (kept : IsTrue v.tells → (n : ℕ) → (IsAtWork before s n → ⊥) → IsUntouched (file_of n) v w)
        (rolling : (h g : Shelf) → AreGoing v held.tables before h → (shown : Shown v held h) (behind : Shown w held g) → RollsOn shown.ledger.base behind.ledger.base → AreBehind before shown.ledger.base h → (n : ℕ) → ends ≡ Some n → IsRolling w n behind.ledger.base) where
      done-shelf : (h g : Shelf) → Shown v held h → Moves s (h.seat s) h g → IsDone s (with_copies (copied_by before) h) (with_copies (copied_by after) g)
      done-shelf h g shown moves =
          let it : ReadsFrom h s = from h shown in
          record {
            seat = reading it.start;
            comes = ap done_at (seat-copying h it.start it.seat);
            moves = moves-to (copied_by before) (copied_by after) s copies.beside (h.seat s) (reading it.start) h g (ap (λ (x : Option Copying). seated x (h.seat s)) none ∙ it.seat) moves;
          }

      abbrev stood : Seat
      stood = seated (copied_by before s) (stand_at held.members s)

      arrives : bare (seated (copied_by after s) (stand_at held.members s)) ≡ bare (stepped_to stood (Ok Done))
      arrives = ap (λ (x : Option Copying). bare (seated x (stand_at held.members s))) none ∙ ap bare stands ∙ sym (ap (λ (x : Seat). bare (stepped_to x (Ok Done))) stands-copying)

      pub does-done : {former : View} → Does s (stepped_to stood (Ok Done)) (Steps s (Ok Done)) (copied_sight former v held before) (copied_sight former w held after)
      does-done = does-lifted v w held held before after s None ends copies now kept beside.leaves (grow-same held.tables held.tables refl)
          (λ h g. Moves s (h.seat s) h g) (Steps s (Ok Done)) keeps
          (λ h g with-it shown behind moves. done-shelf h g shown moves)
          (λ h g with-it shown behind moves copied start own last seat. absurd (none-some copied (sym none ∙ own)))
          (λ h g shown behind on were moves copied start own last seat. absurd (none-some copied (sym none ∙ own)))
          (λ h g with-it shown behind on were moves n is. rolling h g with-it shown behind on were n is)
          (stand_at held.members s) (stepped_to stood (Ok Done)) (step-begins stood (Ok Done)) arrives plain

    -- ---- there is more to do

    module _ (next : Copying) (own : copied_by after s ≡ Some next) (number : next.backup.number ≡ c.backup.number) (group : next.backup.last_group ≡ c.backup.last_group) (less : steps_left next < steps_left c) (copies : Copies before after s None None) (kept : IsTrue v.tells → (n : ℕ) → (IsAtWork before s n → ⊥) → IsUntouched (file_of n) v w)
        (goes : (h : Shelf) (start : Lines) → AreGoing v held.tables before h → Shown v held h → h.seat s ≡ reading start → GoesOn w held.tables next start) where
      abbrev stood-more : Seat
      stood-more = seated (copied_by before s) (stand_at held.members s)

      more-shelf : (h g : Shelf) → Shown v held h → Shown w held g → Moves s (h.seat s) h g → Goes s (with_copies (copied_by before) h) (with_copies (copied_by after) g)
      more-shelf h g shown behind moves =
          let it : ReadsFrom h s = from h shown in
          record {
            moves = moves-to (copied_by before) (copied_by after) s copies.beside (h.seat s) ((with_copies (copied_by before) h).seat s) h g
                ((λ i. seated (own i) (it.seat i)) ∙ ap (λ (n : ℕ). copying n it.start) number ∙ sym (seat-copying h it.start it.seat)) moves;
            less = subst (λ (n : ℕ). n < (with_copies (copied_by before) h).steps s) (sym (ap (λ (x : Option Copying). steps_with x (g.steps s)) own))
                (subst (λ (n : ℕ). steps_left next < n) (sym (ap (λ (x : Option Copying). steps_with x (h.steps s)) is)) less);
          }

      arrives-more : bare (seated (copied_by after s) (stand_at held.members s)) ≡ bare (stepped_to stood-more (Ok More))
      arrives-more = (λ i. bare (seated (own i) (stands i))) ∙ ap (λ (n : ℕ). bare (copying n [])) number ∙ sym (ap bare stands-copying)

      rolls-more : (h g : Shelf) (shown : Shown v held h) (behind : Shown w held g) → RollsOn shown.ledger.base behind.ledger.base → AreBehind before shown.ledger.base h → Moves s (h.seat s) h g
          → (copied : Copying) (start : Lines) → next ≡ copied → copier_in after copied.backup.number ≡ Some s → g.seat s ≡ reading start → RollsTo start copied.backup.last_group behind.ledger.base
      rolls-more h g shown behind on were moves copied start same last seat =
          let was-last : copier_in before c.backup.number ≡ Some s = sym (copies.numbers c.backup.number) ∙ ap (copier_in after) (sym number ∙ ap (λ (x : Copying). x.backup.number) same) ∙ last in
          subst (λ (x : Copying). RollsTo start x.backup.last_group behind.ledger.base) same
          (subst (λ (n : ℕ). RollsTo start n behind.ledger.base) (sym group) (on start c.backup.last_group (were s c start is was-last (sym moves.mine ∙ seat))))

      pub does-more : {former : View} → Does s (stepped_to stood-more (Ok More)) (Steps s (Ok More)) (copied_sight former v held before) (copied_sight former w held after)
      does-more = does-lifted v w held held before after s None None copies now kept beside.leaves (grow-same held.tables held.tables refl)
          (λ h g. Moves s (h.seat s) h g) (Steps s (Ok More)) keeps
          (λ h g with-it shown behind moves. more-shelf h g shown behind moves)
          (λ h g with-it shown behind moves copied start is-own last seat.
          subst (λ (x : Copying). GoesOn w held.tables x start) (same_Some next copied (sym own ∙ is-own)) (goes h start with-it shown (sym moves.mine ∙ seat)))
          (λ h g shown behind on were moves copied start is-own last seat. rolls-more h g shown behind on were moves copied start (same_Some next copied (sym own ∙ is-own)) last seat)
          (λ h g with-it shown behind on were moves n bad. absurd (none-some n bad))
          (stand_at held.members s) (stepped_to stood-more (Ok More)) (step-begins stood-more (Ok More)) arrives-more plain

    -- ---- it failed, and is made again

    module _ (same : after ≡ before) (fault : Fault) (rose : fault ≡ Failed → Rose v.faults w.faults) (kept : IsTrue v.tells → (n : ℕ) → (IsAtWork before s n → ⊥) → IsUntouched (file_of n) v w)
        (good : (h : Shelf) (start : Lines) → AreGoing v held.tables before h → Shown v held h → h.seat s ≡ reading start → (file : FileId) (slot : ℕ) → fault ≡ Bad file slot → ⊥)
        (goes : (h : Shelf) (start : Lines) → AreGoing v held.tables before h → Shown v held h → h.seat s ≡ reading start → GoesOn w held.tables c start) where
      abbrev stood-fault : Seat
      stood-fault = seated (copied_by before s) (stand_at held.members s)

      fault-shelf : (h g : Shelf) → AreGoing v held.tables before h → Shown v held h → Shown w held g → Moves s (h.seat s) h g → Fails s fault (with_copies (copied_by before) h) (with_copies (copied_by before) g)
      fault-shelf h g with-it shown behind moves =
          let it : ReadsFrom h s = from h shown in
          record {
            moves = subst (λ (x : Seat). Moves s (failed_at x) (with_copies (copied_by before) h) (with_copies (copied_by before) g)) (sym (seat-copying h it.start it.seat))
                (moves-to (copied_by before) (copied_by before) s (λ t apart. refl) (h.seat s) (copying c.backup.number it.start) h g (seat-copying h it.start it.seat) moves);
            cause = cause-of fault h.clock g.clock v.faults w.faults rose (λ file slot told. absurd (good h it.start with-it shown it.seat file slot told)) shown.lines.faults behind.lines.faults;
          }

      arrives-fault : bare (seated (copied_by before s) (stand_at held.members s)) ≡ bare (stepped_to stood-fault (Err fault))
      arrives-fault = ap bare stands-copying ∙ sym (ap (λ (x : Seat). bare (stepped_to x (Err fault))) stands-copying)

      does-fault-same : {former : View} → Does s (stepped_to stood-fault (Err fault)) (Steps s (Err fault)) (copied_sight former v held before) (copied_sight former w held before)
      does-fault-same = does-lifted v w held held before before s None None (copies-same before s) now kept beside.leaves (grow-same held.tables held.tables refl)
          (λ h g. Moves s (h.seat s) h g) (Steps s (Err fault)) keeps
          (λ h g with-it shown behind moves. fault-shelf h g with-it shown behind moves)
          (λ h g with-it shown behind moves copied start own last seat.
          subst (λ (x : Copying). GoesOn w held.tables x start) (same_Some c copied (sym is ∙ own)) (goes h start with-it shown (sym moves.mine ∙ seat)))
          (λ h g shown behind on were moves copied start own last seat. on start copied.backup.last_group (were s copied start own last (sym moves.mine ∙ seat)))
          (λ h g with-it shown behind on were moves n bad. absurd (none-some n bad))
          (stand_at held.members s) (stepped_to stood-fault (Err fault)) (step-begins stood-fault (Err fault)) arrives-fault plain

      pub does-fault : {former : View} → Does s (stepped_to stood-fault (Err fault)) (Steps s (Err fault)) (copied_sight former v held before) (copied_sight former w held after)
      does-fault {former} = subst (λ (x : CopiesMemory). Does s (stepped_to stood-fault (Err fault)) (Steps s (Err fault)) (copied_sight former v held before) (copied_sight former w held x)) (sym same) does-fault-same

  -- ---- what the copy comes to

  module _ (left : IsTrue v.tells → LeftNow v v.content) (last : copier_in before c.backup.number ≡ Some s) where
    -- its lines are those of the reader
    goes-of : (h : Shelf) (start : Lines) → AreGoing v held.tables before h → h.seat s ≡ reading start → GoesOn v held.tables c start
    goes-of h start were seat = were s c start is last seat

    module _ (w : View) (next : Copying) (limits : next.backup.limits ≡ c.backup.limits)
        (copied : IsTrue v.tells → (former : Former) (classes : ℕ → ℕ) (ledger : Ledger) (lines : Lines) → IsReader v ledger held.limits.snaps m.reader lines → IsInOrder lines → LieClassed held.tables classes lines → IsCopying former classes lines v c → IsCopying former classes lines w next) where
      pub goes-worked : (h : Shelf) (start : Lines) → AreGoing v held.tables before h → Shown v held h → h.seat s ≡ reading start → GoesOn w held.tables next start
      goes-worked h start with-it shown seat =
          let goes : GoesOn v held.tables c start = goes-of h start with-it seat in
          let read : IsReadBy v shown.ledger held m start = is-read-from v held h shown s m was reads start seat (left shown.tells) in
          record {
            former = goes.former;
            classes = goes.classes;
            is = copied shown.tells goes.former goes.classes shown.ledger start read.reader goes.fit.ordered goes.fit.lie goes.is;
            fit = subst (λ (l : Limits). IsFit held.tables l goes.classes start) (sym limits) goes.fit;
          }

    -- no slot is refused
    pub none-bad : (sound : IsSound held) (fault : Fault)
        → ((file : FileId) (slot : ℕ) → fault ≡ Bad file slot → IsTrue v.tells → (former : Former) (classes : ℕ → ℕ) (ledger : Ledger) (lines : Lines) → IsReader v ledger held.limits.snaps m.reader lines → IsInOrder lines → MayBeCopied classes lines m.reader → LieClassed held.tables classes lines → IsCopying former classes lines v c → ⊥)
        → (h : Shelf) (start : Lines) → AreGoing v held.tables before h → Shown v held h → h.seat s ≡ reading start → (file : FileId) (slot : ℕ) → fault ≡ Bad file slot → ⊥
    none-bad sound fault bad h start with-it shown seat file slot told =
        let goes : GoesOn v held.tables c start = goes-of h start with-it seat in
        let read : IsReadBy v shown.ledger held m start = is-read-from v held h shown s m was reads start seat (left shown.tells) in
        bad file slot told shown.tells goes.former goes.classes shown.ledger start read.reader goes.fit.ordered
        (may-be-copied v held h shown s m was reads start seat sound held.tables c.backup.limits goes.classes goes.fit) goes.fit.lie goes.is

    -- the files of all other backups stay
    pub kept-working : (w : View) → IsBeside (file_of c.backup.number) v w → IsTrue v.tells → (n : ℕ) → (IsAtWork before s n → ⊥) → IsUntouched (file_of n) v w
    kept-working w beside tells n other = ⊎_elim
        (λ (same : n ≡ c.backup.number). absurd (other (record { copying = c; is = is; number_is = sym same; last = ap (copier_in before) same ∙ last })))
        (λ (apart : n ≢ c.backup.number). untouched-beside v w c.backup.number n beside tells apart)
        (nat_cases n c.backup.number)

  -- ---- what is backed up behind the last step

  module _ (w : View) (after : CopiesMemory) (none : copied_by after s ≡ None) (copies : Copies before after s None (Some c.backup.number)) (last : copier_in before c.backup.number ≡ Some s) (left : IsTrue w.tells → LeftNow w w.content) (next : Copying) (number : next.backup.number ≡ c.backup.number)
      (group : next.backup.last_group ≡ c.backup.last_group) (ended : next.backup.stage ≡ Ended) (done : is_done after c.backup.number ≡ true)
      (goes : (h : Shelf) (start : Lines) → AreGoing v held.tables before h → Shown v held h → h.seat s ≡ reading start → GoesOn w held.tables next start) where
    -- reads give it
    has-copied : (start : Lines) (it : GoesOn w held.tables next start) → IsTrue w.tells → HasCopied it.classes start next.backup w.content
    has-copied start it tells = ended-pending it.former it.classes start w next ended it.is w.content (each_slot w w.content (left tells))

    pub rolling-done : (h g : Shelf) → AreGoing v held.tables before h → (shown : Shown v held h) (behind : Shown w held g) → RollsOn shown.ledger.base behind.ledger.base → AreBehind before shown.ledger.base h → (n : ℕ) → Some c.backup.number ≡ Some n → IsRolling w n behind.ledger.base
    rolling-done h g with-it shown behind on were n same =
        let it : ReadsFrom h s = from h shown in
        let its : GoesOn w held.tables next it.start = goes h it.start with-it shown it.seat in
        record {
          classes = its.classes;
          lines = it.start;
          copying = next;
          number_is = number ∙ same_Some c.backup.number n same;
          has = has-copied it.start its behind.tells;
          rolls = subst (λ (k : ℕ). RollsTo it.start k behind.ledger.base) (sym group) (on it.start c.backup.last_group (were s c it.start is last it.seat));
        }

    backed-now : {former : View} (start : Lines) → GoesOn w held.tables next start → (k : Shelf) → ShownWith former w held after k → IsBacked w after c.backup.number w.moment start
    backed-now start it k behind = record {
      whole = record {
        early = omega arith;
        former = it.former;
        classes = it.classes;
        copying = next;
        number_is = number;
        ended = ended;
        is = it.is;
        left = λ image left. ended-pending it.former it.classes start w next ended it.is image (each_slot w image left);
        rolls = λ image left from. pending-rolls w behind.shown.ledger behind.shown.facts start next.backup.last_group
            (same-rolls w c.backup.number behind.shown.ledger.base it.classes start next.backup number (has-copied start it behind.shown.tells) (behind.rolling c.backup.number done).1) image (each_slot w image left) from;
        ordered = it.fit.ordered;
        limited = it.fit.limited;
        pages = it.fit.pages;
      };
      done = done;
      quiet = λ t x own its last-now. by t (t == s) refl x own (sym (copies.numbers c.backup.number) ∙ last-now);
    }
      where
        by : (t : ℕ) (e : Bool) → (t == s) ≡ e → (x : Copying) → copied_by after t ≡ Some x → copier_in before c.backup.number ≡ Some t → ⊥
        by t true same x own last-now = none-some x (sym (ap (copied_by after) (eqb-true t s same) ∙ none) ∙ own)
        by t false apart x own last-now = eqb-false t s apart (same_Some t s (sym last-now ∙ last))

    pub backed-done : {former : View} → IsBackedBy s (copied_sight former v held before) (copied_sight former w held after)
    backed-done h k n start shown behind seat copier =
        let it : ReadsFrom shown.plain s = from shown.plain shown.shown in
        let same : copying n start ≡ copying c.backup.number it.start = sym seat ∙ ap (λ (x : Shelf). x.seat s) shown.is ∙ seat-copying shown.plain it.start it.seat in
        let number-is : n ≡ c.backup.number = cc in
        let start-is : start ≡ it.start = cc in
        let time : k.clock.time ≡ w.moment = ap (λ (x : Shelf). x.clock.time) behind.is ∙ behind.shown.lines.time in
        subst (λ (t : ℕ). IsBacked w after n t start) (sym time)
        (subst (λ (x : ℕ). IsBacked w after x w.moment start) (sym number-is)
        (subst (λ (l : Lines). IsBacked w after c.backup.number w.moment l) (sym start-is) (backed-now it.start (goes shown.plain it.start shown.goes_on shown.shown it.seat) k behind)))

  -- another session began a backup of its number: nothing is promised
  pub backed-by-none : {former : View} (w : View) (after : CopiesMemory) → copier_in before c.backup.number ≢ Some s → IsBackedBy s (copied_sight former v held before) (copied_sight former w held after)
  backed-by-none w after other h k n start shown behind seat copier =
      let it : ReadsFrom shown.plain s = from shown.plain shown.shown in
      let same : copying n start ≡ copying c.backup.number it.start = sym seat ∙ ap (λ (x : Shelf). x.seat s) shown.is ∙ seat-copying shown.plain it.start it.seat in
      let number-is : n ≡ c.backup.number = cc in
      absurd (other (ap (copier_in before) (sym number-is) ∙ copier))
