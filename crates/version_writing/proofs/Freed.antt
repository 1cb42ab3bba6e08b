-- Slots that are given back aren't followed any more.
use Rattle.std.proofs.Common.{◌≡◌, ◌≢◌, ℕ, ◌==◌, ◌&&◌, Bool, true, false, not, ⊎_elim, ap, sym, subst, ◌∙◌, refl, arith}
use Rattle.std.proofs.lemmas.Bool.{false≢true, eqb-true, eq-eqb}
use Rattle.rdb_types.specs.declared.keys.Tsn.{Tsn}
use Rattle.rdb_outside.specs.Disk.{Image}
use Rattle.snapshot_file.specs.declared.entry.SnapEntry.{SnapEntry}
use Rattle.snapshot_file.specs.Slots.{is_free}
use Rattle.line_versions.specs.Versions.{Followed, sees}
use Rattle.line_versions.specs.Files.{entries_in}
use Rattle.line_versions.specs.Course.{Course, MayBeGiven, with_entry}
use Rattle.disk_versions.proofs.Given.{was_followed, not_given}
use Rattle.disk_versions.proofs.Pushes.{which_is}
use Rattle.version_writing.specs.Slots.{SlotTable, pusher_at, GivesBack, HoldsFile, chains_of}
use Rattle.version_writing.specs.Wanting.{Sifts, IsPast, free_in}

-- the followed chains that aren't given back
abbrev pub left_of : Followed → (ℕ → ℕ → Bool) → Followed
left_of followed given = λ f c. followed f c && not (given f c)

both : (a b : Bool) → a ≡ true → b ≡ true → (a && b) ≡ true
both a b h k = grind arith

first : (a b : Bool) → (a && b) ≡ true → a ≡ true
first a b h = grind arith

second : (a b : Bool) → (a && b) ≡ true → b ≡ true
second a b h = grind arith

-- a chain of the file that is followed still holds nothing of the transaction
other_chain : (followed : Followed) (file tsn : ℕ) (old : SlotTable) (chain : ℕ) → left_of followed (chains_of file old tsn) file chain ≡ true → (pusher_at old.pushers chain).number ≢ tsn
other_chain followed file tsn old chain held same =
    false≢true (sym (not_given (followed file chain) (chains_of file old tsn file chain) held) ∙ both (file == file) ((pusher_at old.pushers chain).number == tsn) (eq-eqb file file refl) (eq-eqb (pusher_at old.pushers chain).number tsn same))

pub holds_given : (image : Image) (followed : Followed) (file limit tsn : ℕ) (old new : SlotTable) → GivesBack old new tsn → HoldsFile image followed file limit old → HoldsFile image (left_of followed (chains_of file old tsn)) file limit new
holds_given image followed file limit tsn old new gives was = record {
  long = gives.long ∙ was.long;
  used = λ chain low held. (gives.others chain low (other_chain followed file tsn old chain held)).0 ∙ was.used chain low (was_followed (followed file chain) (chains_of file old tsn file chain) held);
  pusher = λ chain e held s. (gives.others chain s.number (other_chain followed file tsn old chain held)).1 ∙ was.pusher chain e (was_followed (followed file chain) (chains_of file old tsn file chain) held) s;
}

-- what is given back was pushed by the transaction
pub its_entry : (image : Image) (followed : Followed) (file limit tsn : ℕ) (old : SlotTable) → HoldsFile image followed file limit old → (f c : ℕ) (e : SnapEntry) → chains_of file old tsn f c ≡ true → followed f c ≡ true → entries_in image f c e → e.pusher.number ≡ tsn
its_entry image followed file limit tsn old was f c e given held s =
    let here : f ≡ file = eqb-true f file (first (f == file) ((pusher_at old.pushers c).number == tsn) given) in
    ap (λ (t : Tsn). t.number) (sym (was.pusher c e (ap (λ (n : ℕ). followed n c) (sym here) ∙ held) (subst (λ (n : ℕ). entries_in image n c e) here s))) ∙ eqb-true (pusher_at old.pushers c).number tsn (second (f == file) ((pusher_at old.pushers c).number == tsn) given)

pub none_left : (image : Image) (followed : Followed) (file limit tsn : ℕ) (old : SlotTable) → HoldsFile image followed file limit old → (chain : ℕ) (e : SnapEntry) → left_of followed (chains_of file old tsn) file chain ≡ true → entries_in image file chain e → e.pusher.number ≢ tsn
none_left image followed file limit tsn old was chain e held s same =
    other_chain followed file tsn old chain held (ap (λ (t : Tsn). t.number) (was.pusher chain e (was_followed (followed file chain) (chains_of file old tsn file chain) held) s) ∙ same)

-- ---- what nobody wants

-- a chain that is followed was in use
module _ (image : Image) (course : Course) (file limit : ℕ) (old new : SlotTable) (gives : Sifts (IsPast course) old new) (was : HoldsFile image course.followed file limit old) where
  its-pusher : (f c : ℕ) (e : SnapEntry) → f ≡ file → course.followed f c ≡ true → entries_in image f c e → pusher_at old.pushers c ≡ e.pusher
  its-pusher f c e here held s = was.pusher c e (ap (λ (n : ℕ). course.followed n c) (sym here) ∙ held) (subst (λ (n : ℕ). entries_in image n c e) here s)

  pub past_entry : (f c : ℕ) (e : SnapEntry) → free_in file new f c ≡ true → course.followed f c ≡ true → entries_in image f c e → MayBeGiven course e
  past_entry f c e given held s =
      let here : f ≡ file = eqb-true f file (first (f == file) (is_free new.slots c) given) in
      let free : is_free new.slots c ≡ true = second (f == file) (is_free new.slots c) given in
      let used : is_free old.slots c ≡ false = was.used c s.number (ap (λ (n : ℕ). course.followed n c) (sym here) ∙ held) in
      let number : (pusher_at old.pushers c).number ≡ e.pusher.number = ap (λ (t : Tsn). t.number) (its-pusher f c e here held s) in
      ⊎_elim
      (λ (stays : (is_free new.slots c ≡ is_free old.slots c) × (pusher_at new.pushers c ≡ pusher_at old.pushers c)). absurd (false≢true (sym used ∙ (sym stays.0 ∙ free))))
      (λ (past : (is_free new.slots c ≡ true) × IsPast course (pusher_at old.pushers c).number). record {
        ended = ap course.going (sym number) ∙ past.1.0;
        seen = λ r x goes. ap (λ (n : ℕ). sees x.start n) (sym number) ∙ past.1.1 r x goes;
      })
      (gives.may.each c s.number)

  still-used : (c : ℕ) → left_of course.followed (free_in file new) file c ≡ true → is_free new.slots c ≡ false
  still-used c held = by (is_free new.slots c) refl
    where
      by : (b : Bool) → is_free new.slots c ≡ b → is_free new.slots c ≡ false
      by false is = is
      by true is = absurd (false≢true (sym (not_given (course.followed file c) (free_in file new file c) held) ∙ both (file == file) (is_free new.slots c) (eq-eqb file file refl) is))

  pub holds_unwanted : HoldsFile image (left_of course.followed (free_in file new)) file limit new
  holds_unwanted = record {
    long = gives.may.long ∙ was.long;
    used = λ c low held. still-used c held;
    pusher = λ c e held s. ⊎_elim
        (λ (stays : (is_free new.slots c ≡ is_free old.slots c) × (pusher_at new.pushers c ≡ pusher_at old.pushers c)). stays.1 ∙ was.pusher c e (was_followed (course.followed file c) (free_in file new file c) held) s)
        (λ (past : (is_free new.slots c ≡ true) × IsPast course (pusher_at old.pushers c).number). absurd (false≢true (sym (still-used c held) ∙ past.0)))
        (gives.may.each c s.number);
  }

-- ---- other files

pub holds_beside : (image : Image) (followed : Followed) (file limit : ℕ) (table : SlotTable) (number chain : ℕ) → file ≢ number → HoldsFile image followed file limit table → HoldsFile image (with_entry number chain followed) file limit table
holds_beside image followed file limit table number chain apart was = record {
  long = was.long;
  used = λ c low held. was.used c low (as_was c held);
  pusher = λ c e held s. was.pusher c e (as_was c held) s;
}
  where
    as_was : (c : ℕ) → with_entry number chain followed file c ≡ true → followed file c ≡ true
    as_was c held = ⊎_elim (λ h. h) (λ here. absurd (apart here.0)) (which_is followed number chain file c held)

pub holds_beside_given : (image : Image) (followed : Followed) (file other limit tsn : ℕ) (table theirs : SlotTable) → HoldsFile image followed file limit table → HoldsFile image (left_of followed (chains_of other theirs tsn)) file limit table
holds_beside_given image followed file other limit tsn table theirs was = record {
  long = was.long;
  used = λ c low held. was.used c low (was_followed (followed file c) (chains_of other theirs tsn file c) held);
  pusher = λ c e held s. was.pusher c e (was_followed (followed file c) (chains_of other theirs tsn file c) held) s;
}
