-- What a store with copies shows agrees with its memory, and what a crash leaves of it.
use Rattle.std.proofs.Common.{◌≡◌, ◌≤◌, ◌<◌, ◌^◌, ℕ, Bool, true, false, Option, Some, None, refl, sym, ap, subst, ◌∙◌, arith}
use Rattle.std.proofs.lemmas.Option.{none-some}
use Rattle.rdb_types.specs.declared.keys.Dbkey.{Dbkey}
use Rattle.rdb_outside.specs.Disk.{View}
use Rattle.line_store.specs.Seats.{Seat, outside, beginning, writing, changing, broken, prepared, committing, rolling_back, closing, reading, copying, dead, IsAtRest, IsPrepared, IsReader, IsWriting}
use Rattle.line_store.specs.Shelves.{Shelf}
use Rattle.line_store.specs.Calls.{MayStand}
use Rattle.line_store.specs.Sights.{bare, Agrees, Counts, MayBeOpened, Stands}
use Rattle.backup_making.specs.declared.making.Stage.{Stage}
use Rattle.backup_making.specs.declared.making.Stage.TheVariants.{Begun, Blanked, Open, Closed, Headed, Ended}
use Rattle.partial_backup.specs.declared.copying.Copying.{Copying}
use Rattle.backup_steps.specs.Steps.{left_at, keys_left}
use Rattle.disk_store.specs.Memory.{StoreMemory}
use Rattle.disk_store.specs.Seats.{stand_at, steps_at}
use Rattle.disk_store.specs.Shown.{Shown}
use Rattle.disk_store.proofs.Agreeing.{agreeing, opening, standing}
use Rattle.store_copies.specs.Memory.{CopiesMemory, copied_by, is_done}
use Rattle.store_copies.specs.Shown.{copying_at, seated, steps_with, with_copies, is_reader, AllStand, AreReaders, ShownWith, copied_sight}
use Rattle.store_copies.proofs.Seated.{bare-seated, stand-with}

pub agreeing-with : (former v : View) (held : StoreMemory) (copies : CopiesMemory) → Agrees (copied_sight former v held copies)
agreeing-with former v held copies h shown s =
    bare-seated (copied_by copies s) (stand_at held.members s) (shown.plain.seat s) (agreeing v held shown.plain shown.shown s) ∙ ap (λ (x : Shelf). bare (x.seat s)) (sym shown.is)

pub standing-with : (former v : View) (held : StoreMemory) (copies : CopiesMemory) → Stands (copied_sight former v held copies)
standing-with former v held copies h shown lines left =
    subst (λ (x : Shelf). MayStand x lines) (sym shown.is)
    (stand-with (copied_by copies) shown.plain lines (standing v held shown.plain shown.shown lines (subst (λ (x : Shelf). (copied_sight former v held copies).left x.clock.time lines) shown.is left)))

pub opening-with : (former v : View) (held : StoreMemory) (copies : CopiesMemory) → MayBeOpened (copied_sight former v held copies)
opening-with former v held copies h shown = subst (λ (x : Shelf). (copied_sight former v held copies).opens x.clock.time) (sym shown.is) (opening v held shown.plain shown.shown)

-- ---- steps

keys-few : (from : Option Dbkey) → keys_left from ≤ 2 ^ 51
keys-few None = omega arith
keys-few (Some from) = omega arith

left-few : (stage : Stage) (from : Option Dbkey) → left_at stage from < 2 ^ 64
left-few Begun from = omega arith
left-few Blanked from = omega arith
left-few Open from = let few = keys-few from in omega (arith, few)
left-few Closed from = omega arith
left-few Headed from = omega arith
left-few Ended from = omega arith

steps-few : (c : Option Copying) (steps : ℕ) → steps < 2 ^ 64 → steps_with c steps < 2 ^ 64
steps-few None steps few = few
steps-few (Some c) steps few = left-few c.backup.stage c.from

pub counting-with : (former v : View) (held : StoreMemory) (copies : CopiesMemory) → ((s : ℕ) → steps_at held.members s < 2 ^ 64) → Counts (copied_sight former v held copies)
counting-with former v held copies few = record {
  same = λ h shown s. ap (steps_with (copied_by copies s)) (sym (shown.shown.steps s)) ∙ ap (λ (x : Shelf). x.steps s) (sym shown.is);
  few = λ s. steps-few (copied_by copies s) (steps_at held.members s) (few s);
}

-- ---- who copies nothing

abbrev is_copying : Seat → Bool
is_copying (copying number start) = true
is_copying seat = false

copies-there : (n : ℕ) (seat : Seat) → is_reader seat ≡ true → is_copying (copying_at n seat) ≡ true
copies-there n (reading start) reads = refl
copies-there n outside reads = absurd (cc)
copies-there n beginning reads = absurd (cc)
copies-there n (writing ws) reads = absurd (cc)
copies-there n (changing ws) reads = absurd (cc)
copies-there n (broken ws) reads = absurd (cc)
copies-there n (prepared ws) reads = absurd (cc)
copies-there n (committing ws) reads = absurd (cc)
copies-there n (rolling_back ws) reads = absurd (cc)
copies-there n closing reads = absurd (cc)
copies-there n (copying number start) reads = absurd (cc)
copies-there n (dead commits ws) reads = absurd (cc)

module _ (v : View) (held : StoreMemory) (copies : CopiesMemory) (readers : AreReaders held copies) (s : ℕ) where
  -- who isn't told to copy copies nothing
  nothing : is_copying (seated (copied_by copies s) (stand_at held.members s)) ≡ false → copied_by copies s ≡ None
  nothing plain = by (copied_by copies s) refl plain
    where
      by : (c : Option Copying) → copied_by copies s ≡ c → is_copying (seated c (stand_at held.members s)) ≡ false → copied_by copies s ≡ None
      by None is other = is
      by (Some c) is other = let bad : true ≡ false = sym (copies-there c.backup.number (stand_at held.members s) (readers s c is)) ∙ other in absurd (cc)

  pub none-outside : seated (copied_by copies s) (stand_at held.members s) ≡ outside → copied_by copies s ≡ None
  none-outside at = nothing (ap is_copying at)

  rests : (seat : Seat) → IsAtRest seat → is_copying seat ≡ false
  rests (copying number start) is = absurd is
  rests seat is = refl

  writes : (seat : Seat) → IsWriting seat → is_copying seat ≡ false
  writes (copying number start) is = absurd is
  writes seat is = refl

  is-prepared : (seat : Seat) → IsPrepared seat → is_copying seat ≡ false
  is-prepared (copying number start) is = absurd is
  is-prepared seat is = refl

  reads : (seat : Seat) → IsReader seat → is_copying seat ≡ false
  reads (copying number start) is = absurd is
  reads seat is = refl

  pub none-resting : IsAtRest (seated (copied_by copies s) (stand_at held.members s)) → copied_by copies s ≡ None
  none-resting is = nothing (rests (seated (copied_by copies s) (stand_at held.members s)) is)

  pub none-writing : IsWriting (seated (copied_by copies s) (stand_at held.members s)) → copied_by copies s ≡ None
  none-writing is = nothing (writes (seated (copied_by copies s) (stand_at held.members s)) is)

  pub none-prepared : IsPrepared (seated (copied_by copies s) (stand_at held.members s)) → copied_by copies s ≡ None
  none-prepared is = nothing (is-prepared (seated (copied_by copies s) (stand_at held.members s)) is)

  pub none-reading : IsReader (seated (copied_by copies s) (stand_at held.members s)) → copied_by copies s ≡ None
  none-reading is = nothing (reads (seated (copied_by copies s) (stand_at held.members s)) is)

  -- so it stands as in the store's database
  pub stands-plain : copied_by copies s ≡ None → seated (copied_by copies s) (stand_at held.members s) ≡ stand_at held.members s
  stands-plain none = ap (λ (c : Option Copying). seated c (stand_at held.members s)) none

-- ---- readers stay readers

bare-reader : (seat : Seat) → is_reader (bare seat) ≡ is_reader seat
bare-reader outside = refl
bare-reader beginning = refl
bare-reader (writing ws) = refl
bare-reader (changing ws) = refl
bare-reader (broken ws) = refl
bare-reader (prepared ws) = refl
bare-reader (committing ws) = refl
bare-reader (rolling_back ws) = refl
bare-reader closing = refl
bare-reader (reading start) = refl
bare-reader (copying number start) = refl
bare-reader (dead commits ws) = refl

pub same-reader : (a b : Seat) → bare a ≡ bare b → is_reader b ≡ true → is_reader a ≡ true
same-reader a b same is = sym (bare-reader a) ∙ ap is_reader same ∙ bare-reader b ∙ is

-- who stands outside does so without the copies
outside-copying : (n : ℕ) (seat : Seat) → copying_at n seat ≡ outside → seat ≡ outside
outside-copying n outside is = refl
outside-copying n beginning is = absurd (cc)
outside-copying n (writing ws) is = absurd (cc)
outside-copying n (changing ws) is = absurd (cc)
outside-copying n (broken ws) is = absurd (cc)
outside-copying n (prepared ws) is = absurd (cc)
outside-copying n (committing ws) is = absurd (cc)
outside-copying n (rolling_back ws) is = absurd (cc)
outside-copying n closing is = absurd (cc)
outside-copying n (reading start) is = absurd (cc)
outside-copying n (copying number start) is = absurd (cc)
outside-copying n (dead commits ws) is = absurd (cc)

pub outside-plain : (c : Option Copying) (seat : Seat) → seated c seat ≡ outside → seat ≡ outside
outside-plain None seat is = is
outside-plain (Some c) seat is = outside-copying c.backup.number seat is

-- ---- where nobody copies

pub with-nothing : (copied : ℕ → Option Copying) → ((s : ℕ) → copied s ≡ None) → (h : Shelf) → with_copies copied h ≡ h
with-nothing copied none h = λ i. record h { seat = λ s. seated (none s i) (h.seat s); steps = λ s. steps_with (none s i) (h.steps s) }

pub shown-plain : {former : View} (v : View) (held : StoreMemory) (copies : CopiesMemory) → ((s : ℕ) → copied_by copies s ≡ None) → (h : Shelf) → ShownWith former v held copies h → Shown v held h
shown-plain v held copies none h shown = subst (λ (x : Shelf). Shown v held x) (sym (shown.is ∙ with-nothing (copied_by copies) none shown.plain)) shown.shown

pub plain-shown : {former : View} (v : View) (held : StoreMemory) (copies : CopiesMemory) → ((s : ℕ) → copied_by copies s ≡ None) → ((n : ℕ) → is_done copies n ≡ false) → (h : Shelf) (shown : Shown v held h) → AllStand former v shown.ledger.base → ShownWith former v held copies h
plain-shown v held copies none not-done h shown all = record {
  plain = h;
  shown = shown;
  is = sym (with-nothing (copied_by copies) none h);
  goes_on = λ s c start own last seat. absurd (none-some c (sym (none s) ∙ own));
  behind = λ s c start own last seat. absurd (none-some c (sym (none s) ∙ own));
  rolling = λ n done. let bad : false ≡ true = sym (not-done n) ∙ done in absurd (cc);
  standing = λ used n since stood had nobody. all used n since stood had;
}
