-- Calls of a session that copies nothing, beside the copies of others.
use Rattle.std.proofs.Common.{◌≡◌, ◌==◌, ◌⊎◌, ℕ, Bool, true, false, IsTrue, Option, Some, None, refl, sym, ap, subst, ◌∙◌}
use Rattle.std.proofs.lemmas.Bool.{eqb-true}
use Rattle.std.proofs.lemmas.Option.{none-some}
use Rattle.rdb_outside.specs.Disk.{View, LeavesOnly, LeftNow, IsPending, OnlyReads}
use Rattle.line_store.specs.Seats.{Seat, outside, beginning, writing, changing, broken, prepared, committing, rolling_back, closing, reading, copying, dead, begun, copied_at, died}
use Rattle.rdb_types.specs.declared.keys.Dbkey.{Dbkey}
use Rattle.line_store.specs.Rooms.{Takes}
use Rattle.line_store.specs.Shelves.{Shelf}
use Rattle.line_store.proofs.Begun.{begun-same}
use Rattle.line_store.specs.Sights.{bare, Does, Dies, Stays}
use Rattle.backup_making.specs.Making.{file_of}
use Rattle.partial_backup.specs.declared.copying.Copying.{Copying}
use Rattle.partial_backup.specs.Partial.{IsUntouched}
use Rattle.disk_store.specs.Grown.{Grow}
use Rattle.disk_store.specs.Memory.{StoreMemory}
use Rattle.disk_store.specs.OwnFiles.{WritesOwn}
use Rattle.disk_store.specs.Seats.{stand_at}
use Rattle.disk_store.specs.Shown.{DoesOn, StaysOn}
use Rattle.disk_store.proofs.OwnFiles.{others-left, others-read}
use Rattle.disk_store.proofs.Passing.{none-leaves, reads-leave}
use Rattle.store_copies.specs.Memory.{CopiesMemory, copied_behind, copied_by, copier_in, is_done}
use Rattle.store_copies.specs.Shown.{copying_at, seated, with_copies, is_reader, AreReaders, copied_sight}
use Rattle.store_copies.proofs.Lifted.{Copies, copies-same, does-lifted}
use Rattle.store_copies.proofs.Others.{goes-on-still}
use Rattle.store_copies.proofs.Relations.{moves-to, takes-with}
use Rattle.store_copies.proofs.Seated.{bare-seated}
use Rattle.store_copies.proofs.Sighted.{same-reader}
use Rattle.store_copies.proofs.CopySteps.{copies-set, set-own, set-others}

-- what a call leaves of backups, and that reads give what a crash may leave
pub record Leaves (v w : View) : Type 0 where
  pub reads : IsTrue v.tells → LeftNow v v.content
  pub untouched : IsTrue v.tells → (n : ℕ) → IsUntouched (file_of n) v w
  pub leaves : IsTrue v.tells → LeavesOnly v w (λ image. IsPending v image ⊎ IsPending w image)

pub leaves-none : (v : View) → (IsTrue v.tells → LeftNow v v.content) → Leaves v v
leaves-none v reads = record { reads = reads; untouched = λ t n. record { content = λ slot. refl; pending = λ slot bytes p. p }; leaves = λ t. none-leaves v t }

pub leaves-reads : (v w : View) → (IsTrue v.tells → LeftNow v v.content) → OnlyReads v w → Leaves v w
leaves-reads v w reads only = record {
  reads = reads;
  untouched = λ t n. record { content = λ slot. (only.keeps t).content (file_of n) slot; pending = λ slot bytes p. (only.keeps t).pending (file_of n) slot bytes p };
  leaves = λ t. reads-leave v w only t;
}

pub leaves-own : (v w : View) → (IsTrue v.tells → LeftNow v v.content) → WritesOwn v w → Leaves v w
leaves-own v w reads writes = record {
  reads = reads;
  untouched = λ t n. record { content = λ slot. others-read v w t writes (file_of n) slot refl; pending = λ slot bytes p. others-left v w t writes (file_of n) slot bytes refl p };
  leaves = writes.only.leaves;
}

module _ (v w : View) (held behind : StoreMemory) (copies : CopiesMemory) (s : ℕ) (none : copied_by copies s ≡ None) (left : Leaves v w) (grows : Grow held.tables behind.tables) where
  pub does-with : {former : View} (there : Seat) (R Q : Shelf → Shelf → Type 0) → begun (stand_at held.members s) there ≡ None
      → ((h g : Shelf) → R h g → (t : ℕ) → (t == s) ≡ false → g.seat t ≡ h.seat t)
      → ((h g : Shelf) → R h g → Q (with_copies (copied_by copies) h) (with_copies (copied_by copies) g))
      → DoesOn s there R v held w behind → Does s there Q (copied_sight former v held copies) (copied_sight former w behind copies)
  does-with there R Q begins keeps seen does = does-lifted v w held behind copies copies s None None (copies-same copies s) left.reads (λ t n other. left.untouched t n) left.leaves grows R Q keeps
      (λ h g with-it shown now is. seen h g is)
      (λ h g with-it shown now is c start own last seat. absurd (none-some c (sym none ∙ own)))
      (λ h g shown now on were is c start own last seat. absurd (none-some c (sym none ∙ own)))
      (λ h g with-it shown now on were is n bad. absurd (none-some n bad))
      there there (ap (λ (x : Option Copying). begun (seated x (stand_at held.members s)) there) none ∙ begins)
      (ap (λ (x : Option Copying). bare (seated x (stand_at behind.members s))) none ∙ does.does.mine) does

  -- who copies goes on as a reader
  pub readers-with : (there : Seat) (R : Shelf → Shelf → Type 0) → DoesOn s there R v held w behind → AreReaders held copies → AreReaders behind copies
  readers-with there R does were t c is = by (t == s) refl
    where
      by : (b : Bool) → (t == s) ≡ b → is_reader (stand_at behind.members t) ≡ true
      by true here = absurd (none-some c (sym none ∙ (ap (copied_by copies) (sym (eqb-true t s here)) ∙ is)))
      by false apart = same-reader (stand_at behind.members t) (stand_at held.members t) (does.does.others t apart) (were t c is)

-- nothing changes, where nothing does without the copies
pub stays-with : {former : View} (v w : View) (held behind : StoreMemory) (copies : CopiesMemory) (s : ℕ) → copied_by copies s ≡ None → Leaves v w → Grow held.tables behind.tables → begun (stand_at held.members s) (stand_at held.members s) ≡ None
    → StaysOn s v held w behind → Stays s (copied_sight former v held copies) (copied_sight former w behind copies)
stays-with {former} v w held behind copies s none left grows begins stays =
    subst (λ (seat : Seat). Does s seat (λ h g. g ≡ h) (copied_sight former v held copies) (copied_sight former w behind copies)) (sym (ap (λ (x : Option Copying). seated x (stand_at held.members s)) none))
    (does-with v w held behind copies s none left grows (stand_at held.members s) (λ h g. g ≡ h) (λ h g. g ≡ h) begins
    (λ h g is t apart. ap (λ (x : Shelf). x.seat t) is) (λ h g is. ap (with_copies (copied_by copies)) is) stays)

-- ---- a death ends a copy

died-copying : (n : ℕ) (seat : Seat) → died (copying_at n seat) ≡ died seat
died-copying n outside = refl
died-copying n beginning = refl
died-copying n (writing ws) = refl
died-copying n (changing ws) = refl
died-copying n (broken ws) = refl
died-copying n (prepared ws) = refl
died-copying n (committing ws) = refl
died-copying n (rolling_back ws) = refl
died-copying n closing = refl
died-copying n (reading start) = refl
died-copying n (copying number start) = refl
died-copying n (dead commits ws) = refl

pub died-seated : (c : Option Copying) (seat : Seat) → died (seated c seat) ≡ died seat
died-seated None seat = refl
died-seated (Some c) seat = died-copying c.backup.number seat

module _ (v : View) (held behind : StoreMemory) (before after : CopiesMemory) (s : ℕ) (set : (t : ℕ) → copied_by after t ≡ copied_behind s None (copied_by before) t) (numbers : (n : ℕ) → copier_in after n ≡ copier_in before n) (done : (n : ℕ) → is_done after n ≡ is_done before n) (reads : IsTrue v.tells → LeftNow v v.content) (grows : Grow held.tables behind.tables)
    (does : DoesOn s (died (stand_at held.members s)) (Dies s) v held v behind) where
  gone : copied_by after s ≡ None
  gone = set-own before after s None set numbers

  left-copies : Copies before after s None None
  left-copies = copies-set before after s None set numbers done (λ c bad. absurd (none-some c bad))

  pub does-die : {former : View} → Does s (died (seated (copied_by before s) (stand_at held.members s))) (Dies s) (copied_sight former v held before) (copied_sight former v behind after)
  does-die = does-lifted v v held behind before after s None None left-copies reads (λ t n other. (leaves-none v reads).untouched t n) (leaves-none v reads).leaves grows (Dies s) (Dies s)
      (λ h g moves t apart. moves.others.seat t apart)
      (λ h g with-it shown now moves. moves-to (copied_by before) (copied_by after) s left-copies.beside (died (h.seat s)) (died ((with_copies (copied_by before) h).seat s)) h g
      (ap (λ (x : Option Copying). seated x (died (h.seat s))) gone ∙ sym (died-seated (copied_by before s) (h.seat s))) moves)
      (λ h g with-it shown now moves c start own last seat. absurd (none-some c (sym gone ∙ own)))
      (λ h g shown now on were moves c start own last seat. absurd (none-some c (sym gone ∙ own)))
      (λ h g with-it shown now on were moves n bad. absurd (none-some n bad))
      (died (stand_at held.members s)) (died (seated (copied_by before s) (stand_at held.members s))) refl
      (ap (λ (x : Option Copying). bare (seated x (stand_at behind.members s))) gone ∙ does.does.mine ∙ ap bare (sym (died-seated (copied_by before s) (stand_at held.members s)))) does

  pub readers-left : AreReaders held before → AreReaders behind after
  readers-left were t c is = by (t == s) refl
    where
      by : (b : Bool) → (t == s) ≡ b → is_reader (stand_at behind.members t) ≡ true
      by true here = absurd (none-some c (sym gone ∙ (ap (copied_by after) (sym (eqb-true t s here)) ∙ is)))
      by false apart = same-reader (stand_at behind.members t) (stand_at held.members t) (does.does.others t apart) (were t c (sym (set-others before after s None set numbers t apart) ∙ is))

-- ---- a page is taken, by whomever

module _ (v : View) (held behind : StoreMemory) (copies : CopiesMemory) (s : ℕ) (key : Dbkey) (reads : IsTrue v.tells → LeftNow v v.content) (grows : Grow held.tables behind.tables) (does : DoesOn s (stand_at held.members s) (Takes key) v held v behind) where
  pub does-take : {former : View} → Does s (seated (copied_by copies s) (stand_at held.members s)) (Takes key) (copied_sight former v held copies) (copied_sight former v behind copies)
  does-take = does-lifted v v held behind copies copies s None None (copies-same copies s) reads (λ t n other. (leaves-none v reads).untouched t n) (leaves-none v reads).leaves grows (Takes key) (Takes key)
      (λ h g takes t apart. takes.seat t)
      (λ h g were shown now takes. takes-with (copied_by copies) key h g takes)
      (λ h g were shown now takes c start own last seat. goes-on-still v v held.tables behind.tables c start ((leaves-none v reads).untouched shown.tells c.backup.number) grows (were s c start own last (sym (takes.seat s) ∙ seat)))
      (λ h g shown now on were takes c start own last seat. on start c.backup.last_group (were s c start own last (sym (takes.seat s) ∙ seat)))
      (λ h g with-it shown now on were takes n bad. absurd (none-some n bad))
      (stand_at held.members s) (seated (copied_by copies s) (stand_at held.members s)) (begun-same (copied_at (seated (copied_by copies s) (stand_at held.members s))))
      (bare-seated (copied_by copies s) (stand_at behind.members s) (stand_at held.members s) does.does.mine) does

-- whoever calls: where nothing changes without the copies, nothing does with them
pub stays-any : {former : View} (v : View) (held behind : StoreMemory) (copies : CopiesMemory) (s : ℕ) → (IsTrue v.tells → LeftNow v v.content) → Grow held.tables behind.tables → StaysOn s v held v behind → Stays s (copied_sight former v held copies) (copied_sight former v behind copies)
stays-any v held behind copies s reads grows stays =
    does-lifted v v held behind copies copies s None None (copies-same copies s) reads (λ t n other. (leaves-none v reads).untouched t n) (leaves-none v reads).leaves grows (λ h g. g ≡ h) (λ h g. g ≡ h)
    (λ h g same t apart. ap (λ (x : Shelf). x.seat t) same)
    (λ h g were shown now same. ap (with_copies (copied_by copies)) same)
    (λ h g were shown now same c start own last seat. goes-on-still v v held.tables behind.tables c start ((leaves-none v reads).untouched shown.tells c.backup.number) grows (were s c start own last (ap (λ (x : Shelf). x.seat s) (sym same) ∙ seat)))
    (λ h g shown now on were same c start own last seat. on start c.backup.last_group (were s c start own last (ap (λ (x : Shelf). x.seat s) (sym same) ∙ seat)))
    (λ h g with-it shown now on were same n bad. absurd (none-some n bad))
    (stand_at held.members s) (seated (copied_by copies s) (stand_at held.members s)) (begun-same (copied_at (seated (copied_by copies s) (stand_at held.members s))))
    (bare-seated (copied_by copies s) (stand_at behind.members s) (stand_at held.members s) stays.does.mine) stays
