-- What a call does to the store's database and memory, it does beside what sessions copy.
use Rattle.std.proofs.Common.{◌≡◌, ◌≤◌, ◌==◌, ◌⊎◌, inl, inr, ⊎_elim, ℕ, Bool, true, false, cond, IsTrue, Option, Some, None, refl, sym, ap, subst, ◌∙◌}
use Rattle.std.proofs.lemmas.Bool.{eqb-true, eqb-false}
use Rattle.std.proofs.lemmas.Option.{same_Some, none-some}
use Rattle.rdb_outside.specs.Disk.{View, Image, LeavesOnly, LeftNow, IsPending}
use Rattle.line_view.specs.Knowledge.{Lines}
use Rattle.line_store.specs.Seats.{Seat, reading, begun}
use Rattle.line_store.specs.Shelves.{Shelf}
use Rattle.line_store.specs.Calls.{Lasts}
use Rattle.line_store.specs.Sights.{bare, Behind, Does, copier_behind}
use Rattle.backup_making.specs.Making.{file_of}
use Rattle.partial_backup.specs.declared.copying.Copying.{Copying}
use Rattle.partial_backup.specs.Partial.{IsUntouched}
use Rattle.disk_store.specs.Grown.{Grow}
use Rattle.disk_store.specs.Memory.{StoreMemory}
use Rattle.disk_store.specs.Seats.{stand_at}
use Rattle.disk_store.specs.Shown.{DoesOn, RollsOn, RollsTo, Shown, sight_of}
use Rattle.store_copies.specs.Memory.{CopiesMemory, copied_by, copier_in, is_done}
use Rattle.store_copies.specs.Shown.{seated, steps_with, with_copies, GoesOn, AreBehind, AreGoing, AreRolling, AreStanding, IsQuiet, IsRolling, IsStanding, ShownWith, IsBacked, copied_sight}
use Rattle.store_copies.specs.Stood.{NumbersFromOne, RollsFrom}
use Rattle.store_copies.proofs.Seated.{bare-seated, stand-with}
use Rattle.store_copies.proofs.OneBackup.{rolling-still, rolls-whole}
use Rattle.store_copies.proofs.Others.{backed-still, goes-on-still, stood-still}
use Rattle.store_copies.proofs.Rolled.{pending-rolls}

-- ---- who began a backup last

-- another session's backup was its own before
pub copier-was : (s t : ℕ) (begins : Option ℕ) (f : ℕ → Option ℕ) (n : ℕ) → (t == s) ≡ false → copier_behind s begins f n ≡ Some t → f n ≡ Some t
copier-was s t None f n apart is = is
copier-was s t (Some number) f n apart is = by (n == number) refl
  where
    by : (b : Bool) → (n == number) ≡ b → f n ≡ Some t
    by true same =
        let own : Some s ≡ Some t = sym (ap (λ (b : Bool). cond b (Some s) (f n)) same) ∙ is in
        absurd (eqb-false t s apart (sym (same_Some s t own)))
    by false other = sym (ap (λ (b : Bool). cond b (Some s) (f n)) other) ∙ is

-- a backup that isn't begun has who it had
pub copier-same : (s : ℕ) (begins : Option ℕ) (f : ℕ → Option ℕ) (n : ℕ) → (begins ≡ Some n → ⊥) → copier_behind s begins f n ≡ f n
copier-same s None f n apart = refl
copier-same s (Some number) f n apart = by (n == number) refl
  where
    by : (b : Bool) → (n == number) ≡ b → copier_behind s (Some number) f n ≡ f n
    by true same = absurd (apart (ap (λ (m : ℕ). Some m) (sym (eqb-true n number same))))
    by false other = ap (λ (b : Bool). cond b (Some s) (f n)) other

-- where nobody began one behind the call, nobody had before it
pub copier-none : (s : ℕ) (begins : Option ℕ) (f : ℕ → Option ℕ) (n : ℕ) → copier_behind s begins f n ≡ None → f n ≡ None
copier-none s None f n is = is
copier-none s (Some number) f n is = by (n == number) refl
  where
    by : (b : Bool) → (n == number) ≡ b → f n ≡ None
    by true same = absurd (none-some s (sym is ∙ ap (λ (b : Bool). cond b (Some s) (f n)) same))
    by false other = sym (ap (λ (b : Bool). cond b (Some s) (f n)) other) ∙ is

-- ---- what the session itself copies

-- the session is at work on the backup of this number, and began it last
pub record IsAtWork (copies : CopiesMemory) (s number : ℕ) : Type 0 where
  pub copying : Copying
  pub is : copied_by copies s ≡ Some copying
  pub number_is : copying.backup.number ≡ number
  pub last : copier_in copies number ≡ Some s

-- What a call of the session makes of what is copied: it may begin a backup, or end one that it was at work on. Where it began none, it copies into none that it didn't copy into before.
pub record Copies (before after : CopiesMemory) (s : ℕ) (begins ends : Option ℕ) : Type 0 where
  pub beside : (t : ℕ) → (t == s) ≡ false → copied_by after t ≡ copied_by before t
  pub numbers : (n : ℕ) → copier_in after n ≡ copier_behind s begins (copier_in before) n
  pub its : (c : Copying) → copied_by after s ≡ Some c → (begins ≡ Some c.backup.number) ⊎ ((b : Copying) × (copied_by before s ≡ Some b) × (b.backup.number ≡ c.backup.number))
  pub anew : (n : ℕ) → begins ≡ Some n → is_done after n ≡ false
  pub kept : (n : ℕ) → (begins ≡ Some n → ⊥) → is_done before n ≡ true → is_done after n ≡ true
  pub done : (n : ℕ) → is_done after n ≡ true → (is_done before n ≡ true) ⊎ (ends ≡ Some n)
  pub ended : (n : ℕ) → ends ≡ Some n → IsAtWork before s n × (copied_by after s ≡ None)

-- the session begins none, and ends none
pub copies-same : (copies : CopiesMemory) (s : ℕ) → Copies copies copies s None None
copies-same copies s = record {
  beside = λ t apart. refl;
  numbers = λ n. refl;
  its = λ c is. inr (c, is, refl);
  anew = λ n bad. absurd (none-some n bad);
  kept = λ n apart is. is;
  done = λ n is. inl is;
  ended = λ n bad. absurd (none-some n bad);
}

module _ (v w : View) (held behind : StoreMemory) (before after : CopiesMemory) (s : ℕ) (begins ends : Option ℕ) (copies : Copies before after s begins ends) (reads : IsTrue v.tells → LeftNow v v.content)
    (kept : IsTrue v.tells → (n : ℕ) → (IsAtWork before s n → ⊥) → IsUntouched (file_of n) v w)
    (leaves : IsTrue v.tells → LeavesOnly v w (λ image. IsPending v image ⊎ IsPending w image))
    (grows : Grow held.tables behind.tables) where
  -- another session's copy
  copier-before : (t n : ℕ) → (t == s) ≡ false → copier_in after n ≡ Some t → copier_in before n ≡ Some t
  copier-before t n apart is = copier-was s t begins (copier_in before) n apart (sym (copies.numbers n) ∙ is)

  not-its : (t n : ℕ) → (t == s) ≡ false → copier_in before n ≡ Some t → IsAtWork before s n → ⊥
  not-its t n apart is work = eqb-false t s apart (same_Some t s (sym is ∙ work.last))

  module _ (R Q : Shelf → Shelf → Type 0)
      (keeps : (h g : Shelf) → R h g → (t : ℕ) → (t == s) ≡ false → g.seat t ≡ h.seat t)
      (seen : (h g : Shelf) → AreGoing v held.tables before h → Shown v held h → Shown w behind g → R h g → Q (with_copies (copied_by before) h) (with_copies (copied_by after) g))
      (mine-goes : (h g : Shelf) → AreGoing v held.tables before h → Shown v held h → Shown w behind g → R h g
      → (c : Copying) (start : Lines) → copied_by after s ≡ Some c → copier_in after c.backup.number ≡ Some s → g.seat s ≡ reading start → GoesOn w behind.tables c start)
      (mine-rolls : (h g : Shelf) (shown : Shown v held h) (now : Shown w behind g) → RollsOn shown.ledger.base now.ledger.base → AreBehind before shown.ledger.base h → R h g
      → (c : Copying) (start : Lines) → copied_by after s ≡ Some c → copier_in after c.backup.number ≡ Some s → g.seat s ≡ reading start → RollsTo start c.backup.last_group now.ledger.base)
      (mine-ends : (h g : Shelf) → AreGoing v held.tables before h → (shown : Shown v held h) (now : Shown w behind g) → RollsOn shown.ledger.base now.ledger.base → AreBehind before shown.ledger.base h → R h g
      → (n : ℕ) → ends ≡ Some n → IsRolling w n now.ledger.base) where
    -- nobody is at work where nobody was, or where the session has come to the end
    quiet-still : (n : ℕ) → (begins ≡ Some n → ⊥) → IsQuiet before n → IsQuiet after n
    quiet-still n apart was u c is number last = by u (u == s) refl c is number (sym (sym (copies.numbers n) ∙ last) ∙ copier-same s begins (copier_in before) n apart)
      where
        by : (u : ℕ) (e : Bool) → (u == s) ≡ e → (c : Copying) → copied_by after u ≡ Some c → c.backup.number ≡ n → Some u ≡ copier_in before n → ⊥
        by u true same c is number last =
            let e : u ≡ s = eqb-true u s same in
            ⊎_elim
            (λ (begun-now : begins ≡ Some c.backup.number). apart (begun-now ∙ ap (λ (m : ℕ). Some m) number))
            (λ (was-its : (b : Copying) × (copied_by before s ≡ Some b) × (b.backup.number ≡ c.backup.number)). was s was-its.0 was-its.1 (was-its.2 ∙ number) (sym last ∙ ap (λ (m : ℕ). Some m) e))
            (copies.its c (ap (copied_by after) (sym e) ∙ is))
        by u false apart-one c is number last = was u c (sym (copies.beside u apart-one) ∙ is) number (sym last)

    quiet-ended : (n : ℕ) → ends ≡ Some n → IsQuiet after n
    quiet-ended n is t c own number last = by (t == s) refl
      where
        it : IsAtWork before s n × (copied_by after s ≡ None)
        it = copies.ended n is

        by : (e : Bool) → (t == s) ≡ e → ⊥
        by true same = none-some c (sym (ap (copied_by after) (eqb-true t s same) ∙ it.1) ∙ own)
        by false apart = not-its t n apart (copier-before t n apart last) it.0

    module _ {former : View} (h : Shelf) (shown : ShownWith former v held before h) (plain : Seat) (b : Behind (sight_of v held) (sight_of w behind) (begun (stand_at held.members s) plain) R shown.plain) (on : RollsOn shown.shown.ledger.base b.shown.ledger.base) where
      goes-on-behind : (t : ℕ) (e : Bool) → (t == s) ≡ e → (c : Copying) (start : Lines) → copied_by after t ≡ Some c → copier_in after c.backup.number ≡ Some t → b.shelf.seat t ≡ reading start → GoesOn w behind.tables c start
      goes-on-behind t true same c start is last seat =
          let e : t ≡ s = eqb-true t s same in
          mine-goes shown.plain b.shelf shown.goes_on shown.shown b.shown b.related c start
          (ap (copied_by after) (sym e) ∙ is) (last ∙ ap (λ (n : ℕ). Some n) e) (ap b.shelf.seat (sym e) ∙ seat)
      goes-on-behind t false apart c start is last seat =
          let was = copier-before t c.backup.number apart last in
          goes-on-still v w held.tables behind.tables c start (kept shown.shown.tells c.backup.number (not-its t c.backup.number apart was)) grows
          (shown.goes_on t c start (sym (copies.beside t apart) ∙ is) was (sym (keeps shown.plain b.shelf b.related t apart) ∙ seat))

      rolls-behind : (t : ℕ) (e : Bool) → (t == s) ≡ e → (c : Copying) (start : Lines) → copied_by after t ≡ Some c → copier_in after c.backup.number ≡ Some t → b.shelf.seat t ≡ reading start → RollsTo start c.backup.last_group b.shown.ledger.base
      rolls-behind t true same c start is last seat =
          let e : t ≡ s = eqb-true t s same in
          mine-rolls shown.plain b.shelf shown.shown b.shown on shown.behind b.related c start
          (ap (copied_by after) (sym e) ∙ is) (last ∙ ap (λ (n : ℕ). Some n) e) (ap b.shelf.seat (sym e) ∙ seat)
      rolls-behind t false apart c start is last seat =
          on start c.backup.last_group
          (shown.behind t c start (sym (copies.beside t apart) ∙ is) (copier-before t c.backup.number apart last) (sym (keeps shown.plain b.shelf b.related t apart) ∙ seat))

      untouched-quiet : (n : ℕ) → IsQuiet before n → IsUntouched (file_of n) v w
      untouched-quiet n quiet = kept shown.shown.tells n (λ work. quiet s work.copying work.is work.number_is work.last)

      rolling-behind : AreRolling w after b.shown.ledger.base
      rolling-behind n done = ⊎_elim
          (λ (was : is_done before n ≡ true).
          let it : IsQuiet before n × IsRolling v n shown.shown.ledger.base = shown.rolling n was in
          (quiet-still n (λ anew. let bad : false ≡ true = sym (copies.anew n anew) ∙ done in cc) it.0, rolling-still v w n shown.shown.ledger.base b.shown.ledger.base (untouched-quiet n it.0) on it.1))
          (λ (is : ends ≡ Some n). (quiet-ended n is, mine-ends shown.plain b.shelf shown.goes_on shown.shown b.shown on shown.behind b.related n is))
          (copies.done n done)

      -- what a crash leaves before and behind the call, rolled forward from what gave what was committed
      rolls-still : (base : Lines) (last : ℕ) → RollsTo base last shown.shown.ledger.base → (image : Image) → IsPending v image ⊎ IsPending w image → NumbersFromOne image → RollsFrom base last image
      rolls-still base last rolls image pending from = ⊎_elim
          (λ old. pending-rolls v shown.shown.ledger shown.shown.facts base last rolls image old from)
          (λ new. pending-rolls w b.shown.ledger b.shown.facts base last (on base last rolls) image new from) pending

      -- each backup that stood before the store was opened stands, where nobody began one of its number
      standing-behind : AreStanding former w after b.shown.ledger.base
      standing-behind used n since stood had none =
          let was-none : copier_in before n ≡ None = copier-none s begins (copier_in before) n (sym (copies.numbers n) ∙ none) in
          let it : IsStanding v n since stood shown.shown.ledger.base = shown.standing used n since stood had was-none in
          record {
            has = stood-still v w n since stood (leaves shown.shown.tells) (kept shown.shown.tells n (λ work. none-some s (sym was-none ∙ work.last))) it.has
                (rolls-still stood.lines stood.last_group it.rolls);
            rolls = on stood.lines stood.last_group it.rolls;
          }

      abbrev shelf : Shelf
      shelf = with_copies (copied_by after) b.shelf

      shown-behind : ShownWith former w behind after shelf
      shown-behind = record {
        plain = b.shelf;
        shown = b.shown;
        is = refl;
        goes_on = λ t c start is last seat. goes-on-behind t (t == s) refl c start is last seat;
        behind = λ t c start is last seat. rolls-behind t (t == s) refl c start is last seat;
        rolling = rolling-behind;
        standing = standing-behind;
      }

      abbrev as-before : Shelf
      as-before = with_copies (copied_by before) shown.plain

      shelf-lasts : Lasts (copied_sight former v held before).left (copied_sight former w behind after).left as-before shelf
      shelf-lasts = record {
        since = λ t lines early left. ⊎_elim (λ was. inl was)
            (λ stands. inr (⊎_elim (λ old. inl (stand-with (copied_by before) shown.plain lines old)) (λ new. inr (stand-with (copied_by after) b.shelf lines new)) stands))
            (b.lasts.since t lines early left);
      }

      backed-behind : (n t : ℕ) (lines : Lines) → t ≤ shown.plain.clock.time → (begins ≡ Some n → ⊥) → IsBacked v before n t lines → IsBacked w after n t lines
      backed-behind n t lines early apart was =
          let rolls : RollsTo lines was.whole.copying.backup.last_group shown.shown.ledger.base = rolls-whole v held before h shown reads n t lines was.whole was.done in
          record {
            whole = backed-still v w n t lines (subst (λ (k : ℕ). t ≤ k) shown.shown.lines.time early) (leaves shown.shown.tells) (untouched-quiet n was.quiet) was.whole
                (rolls-still lines was.whole.copying.backup.last_group rolls);
            done = copies.kept n apart was.done;
            quiet = quiet-still n apart was.quiet;
          }

      lifted : Behind (copied_sight former v held before) (copied_sight former w behind after) begins Q as-before
      lifted = record {
        shelf = shelf;
        shown = shown-behind;
        related = seen shown.plain b.shelf shown.goes_on shown.shown b.shown b.related;
        lasts = shelf-lasts;
        opens = b.opens;
        backed = backed-behind;
      }

    -- the call, beside what sessions copy
    pub does-lifted : {former : View} (plain there : Seat) → begun (seated (copied_by before s) (stand_at held.members s)) there ≡ begins → bare (seated (copied_by after s) (stand_at behind.members s)) ≡ bare there
        → DoesOn s plain R v held w behind → Does s there Q (copied_sight former v held before) (copied_sight former w behind after)
    does-lifted {former} plain there begins-is arrives does = record {
      mine = arrives;
      others = λ t apart. bare-seated (copied_by after t) (stand_at behind.members t) (stand_at held.members t) (does.does.others t apart) ∙ ap (λ (c : Option Copying). bare (seated c (stand_at held.members t))) (copies.beside t apart);
      steps = λ t apart. λ i. steps_with (copies.beside t apart i) (does.does.steps t apart i);
      copier = λ n. copies.numbers n ∙ ap (λ (b : Option ℕ). copier_behind s b (copier_in before) n) (sym begins-is);
      each = λ h shown. subst (λ (x : Shelf). Behind (copied_sight former v held before) (copied_sight former w behind after) (begun (seated (copied_by before s) (stand_at held.members s)) there) Q x) (sym shown.is)
          (subst (λ (b : Option ℕ). Behind (copied_sight former v held before) (copied_sight former w behind after) b Q (with_copies (copied_by before) shown.plain)) (sym begins-is) (lifted h shown plain (does.does.each shown.plain shown.shown) (does.rolls shown.plain shown.shown)));
    }
