-- Slots in use, as they are taken and given back.
use Rattle.std.proofs.Common.{◌≡◌, ◌≢◌, ◌≤◌, ◌<◌, ◌+◌, ◌-◌, ◌==◌, ◌⊎◌, ℕ, zero, suc, Bool, true, false, cond, List, [], ◌∷◌, length, inl, inr, ⊎_elim, refl, sym, ap, subst, ◌∙◌, arith}
use Rattle.std.specs.Prelude.{slice_index, slice_index_or, slice_set}
use Rattle.std.proofs.lemmas.Bool.{true≢false, eqb-true}
use Rattle.std.proofs.lemmas.List.{length-set, get_or-set_same, get_or-set_other}
use Rattle.rdb_types.specs.declared.keys.Tsn.{Tsn}
use Rattle.snapshot_file.specs.Slots.{Gives, Takes, is_free, left_in}
use Rattle.snapshot_file.proofs.Counts.{left_given, left_taken}
use Rattle.line_moves.proofs.Putting.{nat_cases}
use Rattle.version_writing.specs.Slots.{GivesBack, GivesOne, IsTable, SlotTable, nobody, pusher_at}
use Rattle.version_writing.specs.Wanting.{AreTaken, Sifts, IsInUse, OnlyGives, StaysOrGiven}
use Rattle.version_writing.proofs.Counted.{one-more}

-- ---- who pushed

pusher-here : (xs : List Tsn) (chain : ℕ) (x : Tsn) → 1 ≤ chain → chain ≤ length xs → pusher_at (slice_set xs (chain - 1) x) chain ≡ x
pusher-here xs chain x first last = get_or-set_same xs (chain - 1) x nobody (omega (arith, first, last))

pusher-beside : (xs : List Tsn) (chain other : ℕ) (x : Tsn) → 1 ≤ chain → 1 ≤ other → other ≢ chain → pusher_at (slice_set xs (chain - 1) x) other ≡ pusher_at xs other
pusher-beside xs chain other x first some apart = get_or-set_other xs (chain - 1) (other - 1) x nobody (λ same. apart (omega (arith, same, first, some)))

some-number : (n : ℕ) → 1 ≤ n → (n == 0) ≡ false
some-number n some = grind arith

pub table-given : (old new : List Bool) (pushers : List Tsn) (chain : ℕ) → IsTable old pushers → 1 ≤ chain → chain ≤ length old → Gives old new chain → IsTable new (slice_set pushers (chain - 1) nobody)
table-given old new pushers chain is first last gives = record {
  long = length-set pushers (chain - 1) nobody ∙ is.long ∙ sym gives.limit;
  agrees = λ c some within. ⊎_elim
      (λ (same : c ≡ chain).
      let none : pusher_at (slice_set pushers (chain - 1) nobody) c ≡ nobody = ap (λ k. pusher_at (slice_set pushers (chain - 1) nobody) k) same ∙ pusher-here pushers chain nobody first (omega (arith, last, is.long)) in
      ap (λ k. is_free new k) same ∙ gives.returned ∙ ap (λ (t : Tsn). t.number == 0) (sym none))
      (λ (apart : c ≢ chain). gives.others c apart ∙ is.agrees c some (omega (arith, within, gives.limit)) ∙ ap (λ (t : Tsn). t.number == 0) (sym (pusher-beside pushers chain c nobody first some apart)))
      (nat_cases c chain);
}

pub table-taken : (old new : List Bool) (pushers : List Tsn) (chain : ℕ) (tsn : Tsn) → IsTable old pushers → Takes old new chain → 1 ≤ tsn.number → IsTable new (slice_set pushers (chain - 1) tsn)
table-taken old new pushers chain tsn is takes number = record {
  long = length-set pushers (chain - 1) tsn ∙ is.long ∙ sym takes.limit;
  agrees = λ c some within. ⊎_elim
      (λ (same : c ≡ chain).
      let its : pusher_at (slice_set pushers (chain - 1) tsn) c ≡ tsn = ap (λ k. pusher_at (slice_set pushers (chain - 1) tsn) k) same ∙ pusher-here pushers chain tsn takes.within.0 (omega (arith, takes.within.1, is.long)) in
      ap (λ k. is_free new k) same ∙ takes.is_used ∙ (sym (some-number tsn.number number) ∙ ap (λ (t : Tsn). t.number == 0) (sym its)))
      (λ (apart : c ≢ chain). takes.others c apart ∙ is.agrees c some (omega (arith, within, takes.limit)) ∙ ap (λ (t : Tsn). t.number == 0) (sym (pusher-beside pushers chain c tsn takes.within.0 some apart)))
      (nat_cases c chain);
}

-- ---- slots in use, in a row

all-left : (xs : List Bool) → ((slot : ℕ) → 1 ≤ slot → slot ≤ length xs → is_free xs slot ≡ true) → left_in xs ≡ length xs
all-left [] free = refl
all-left (x ∷ xs) free =
    let here : x ≡ true = free 1 (omega arith) (omega arith) in
    let rest = all-left xs later in
    ap (λ b. cond b (suc (left_in xs)) (left_in xs)) here ∙ ap (λ n. suc n) rest
  where
    later : (slot : ℕ) → 1 ≤ slot → slot ≤ length xs → is_free xs slot ≡ true
    later zero some within = absurd (omega (arith, some))
    later (suc k) some within = free (suc (suc k)) (omega arith) (omega (arith, within))

pub taken-none : (slots : List Bool) (taken : List ℕ) → length taken ≡ length slots → ((slot : ℕ) → 1 ≤ slot → slot ≤ length slots → is_free slots slot ≡ true) → AreTaken slots taken 0
taken-none slots taken long free = record {
  long = long;
  few = let all = all-left slots free in omega (arith, all);
  used = λ i less. absurd (omega (arith, less));
  has = λ chain busy. absurd (true≢false (sym (free chain busy.first busy.last) ∙ busy.used));
  once = λ i k less other same. absurd (omega (arith, less));
}

module _ (old new : List Bool) (taken : List ℕ) (count chain : ℕ) (is : AreTaken old taken count) (takes : Takes old new chain) where
  abbrev more : List ℕ
  more = slice_set taken count chain

  one-less : left_in old ≡ left_in new + 1
  one-less = left_taken old new chain takes

  here : slice_index more count ≡ chain
  here = get_or-set_same taken count chain 0 (let long = is.long in let few = is.few in let less = one-less in omega (arith, long, few, less))

  beside : (i : ℕ) → i ≢ count → slice_index more i ≡ slice_index taken i
  beside i apart = get_or-set_other taken count i chain 0 apart

  -- what was in use isn't the one that was taken
  other : (i : ℕ) → i < count → slice_index taken i ≢ chain
  other i less same = true≢false (sym takes.was_free ∙ (ap (λ k. is_free old k) (sym same) ∙ (is.used i less).used))

  its : IsInUse new chain
  its = record { first = takes.within.0; last = (let w = takes.within.1 in let l = takes.limit in omega (arith, w, l)); used = takes.is_used }

  used-more : (i : ℕ) → i < count + 1 → IsInUse new (slice_index more i)
  used-more i less = ⊎_elim
      (λ (same : i ≡ count). subst (λ (k : ℕ). IsInUse new k) (sym (ap (λ k. slice_index more k) same ∙ here)) its)
      (λ (apart : i ≢ count).
      let before : i < count = omega (arith, less, apart) in
      let u = is.used i before in
      subst (λ (k : ℕ). IsInUse new k) (sym (beside i apart)) (record { first = u.first; last = (let w = u.last in let l = takes.limit in omega (arith, w, l)); used = takes.others (slice_index taken i) (other i before) ∙ u.used }))
      (nat_cases i count)

  has-more : (c : ℕ) → IsInUse new c → (i : ℕ) × (i < count + 1) × (slice_index more i ≡ c)
  has-more c busy = ⊎_elim
      (λ (same : c ≡ chain). (count, (let r : count < count + 1 = omega arith in r), here ∙ sym same))
      (λ (apart : c ≢ chain).
      let found = is.has c (record { first = busy.first; last = (let w = busy.last in let l = takes.limit in omega (arith, w, l)); used = sym (takes.others c apart) ∙ busy.used }) in
      let less = found.1 in
      (found.0, (let r : found.0 < count + 1 = omega (arith, less) in r), beside found.0 (λ same. omega (arith, same, less)) ∙ found.2))
      (nat_cases c chain)

  once-more : (i k : ℕ) → i < count + 1 → k < count + 1 → slice_index more i ≡ slice_index more k → i ≡ k
  once-more i k less also same = ⊎_elim
      (λ (at : i ≡ count). ⊎_elim
      (λ (so : k ≡ count). at ∙ sym so)
      (λ (apart : k ≢ count). absurd (other k (omega (arith, also, apart)) (sym (beside k apart) ∙ sym same ∙ ap (λ j. slice_index more j) at ∙ here)))
      (nat_cases k count))
      (λ (off : i ≢ count). ⊎_elim
      (λ (so : k ≡ count). absurd (other i (omega (arith, less, off)) (sym (beside i off) ∙ same ∙ ap (λ j. slice_index more j) so ∙ here)))
      (λ (apart : k ≢ count). is.once i k (omega (arith, less, off)) (omega (arith, also, apart)) (sym (beside i off) ∙ same ∙ beside k apart))
      (nat_cases k count))
      (nat_cases i count)

  pub taken-more : AreTaken new more (count + 1)
  taken-more = record {
    long = length-set taken count chain ∙ is.long ∙ sym takes.limit;
    few = (let few = is.few in let less = one-less in let l = takes.limit in omega (arith, few, less, l));
    used = used-more;
    has = has-more;
    once = once-more;
  }

module _ (old new : List Bool) (taken : List ℕ) (n place : ℕ) (is : AreTaken old taken (n + 1)) (within : place ≤ n) (gives : Gives old new (slice_index taken place)) where
  abbrev slot : ℕ
  slot = slice_index taken place

  abbrev fewer : List ℕ
  fewer = slice_set taken place (slice_index taken n)

  slot-used : IsInUse old slot
  slot-used = is.used place (omega (arith, within))

  one-free : left_in new ≡ left_in old + 1
  one-free = left_given old new slot slot-used.first slot-used.last slot-used.used gives

  moved : slice_index fewer place ≡ slice_index taken n
  moved = get_or-set_same taken place (slice_index taken n) 0 (let long = is.long in let few = is.few in omega (arith, long, few, within))

  pub kept-place : (i : ℕ) → i ≢ place → slice_index fewer i ≡ slice_index taken i
  kept-place i apart = get_or-set_other taken place i (slice_index taken n) 0 apart

  -- another place has another slot
  not-slot : (i : ℕ) → i < n + 1 → i ≢ place → slice_index taken i ≢ slot
  not-slot i less apart same = apart (is.once i place less (omega (arith, within)) same)

  still-used : (i : ℕ) → i < n + 1 → i ≢ place → IsInUse new (slice_index taken i)
  still-used i less apart =
      let u = is.used i less in
      record { first = u.first; last = (let w = u.last in let l = gives.limit in omega (arith, w, l)); used = gives.others (slice_index taken i) (not-slot i less apart) ∙ u.used }

  used-less : (i : ℕ) → i < n → IsInUse new (slice_index fewer i)
  used-less i less = ⊎_elim
      (λ (same : i ≡ place). subst (λ (k : ℕ). IsInUse new k) (sym (ap (λ k. slice_index fewer k) same ∙ moved)) (still-used n (omega arith) (λ end. omega (arith, end, same, less))))
      (λ (apart : i ≢ place). subst (λ (k : ℕ). IsInUse new k) (sym (kept-place i apart)) (still-used i (omega (arith, less)) apart))
      (nat_cases i place)

  has-less : (c : ℕ) → IsInUse new c → (i : ℕ) × (i < n) × (slice_index fewer i ≡ c)
  has-less c busy =
      let apart : c ≢ slot = λ same. true≢false (sym gives.returned ∙ (ap (λ k. is_free new k) (sym same) ∙ busy.used)) in
      let found = is.has c (record { first = busy.first; last = (let w = busy.last in let l = gives.limit in omega (arith, w, l)); used = sym (gives.others c apart) ∙ busy.used }) in
      let less = found.1 in
      let off : found.0 ≢ place = λ same. apart (sym found.2 ∙ ap (λ k. slice_index taken k) same) in
      ⊎_elim
      (λ (end : found.0 ≡ n). (place, (let r : place < n = omega (arith, end, off, within) in r), moved ∙ (ap (λ k. slice_index taken k) (sym end) ∙ found.2)))
      (λ (early : found.0 ≢ n). (found.0, (let r : found.0 < n = omega (arith, early, less) in r), kept-place found.0 off ∙ found.2))
      (nat_cases found.0 n)

  once-less : (i k : ℕ) → i < n → k < n → slice_index fewer i ≡ slice_index fewer k → i ≡ k
  once-less i k less also same = ⊎_elim
      (λ (at : i ≡ place). ⊎_elim
      (λ (so : k ≡ place). at ∙ sym so)
      (λ (apart : k ≢ place). let bad : n ≡ k = is.once n k (omega arith) (omega (arith, also)) (sym moved ∙ ap (λ j. slice_index fewer j) (sym at) ∙ same ∙ kept-place k apart) in absurd (omega (arith, bad, also)))
      (nat_cases k place))
      (λ (off : i ≢ place). ⊎_elim
      (λ (so : k ≡ place). let bad : i ≡ n = is.once i n (omega (arith, less)) (omega arith) (sym (kept-place i off) ∙ same ∙ ap (λ j. slice_index fewer j) so ∙ moved) in absurd (omega (arith, bad, less)))
      (λ (apart : k ≢ place). is.once i k (omega (arith, less)) (omega (arith, also)) (sym (kept-place i off) ∙ same ∙ kept-place k apart))
      (nat_cases k place))
      (nat_cases i place)

  pub taken-less : AreTaken new fewer n
  taken-less = record {
    long = length-set taken place (slice_index taken n) ∙ is.long ∙ sym gives.limit;
    few = (let few = is.few in let more = one-free in let l = gives.limit in omega (arith, few, more, l));
    used = used-less;
    has = has-less;
    once = once-less;
  }

-- ---- what nobody wants

pub may-none : (Unwanted : ℕ → Type 0) (table : SlotTable) → OnlyGives Unwanted table table
may-none Unwanted table = record { each = λ chain some. inl (refl, refl); long = refl; aside = refl; left = omega arith }

pub may-more : (Unwanted : ℕ → Type 0) (first mid last : SlotTable) (chain : ℕ) → OnlyGives Unwanted first mid → IsInUse mid.slots chain → GivesOne mid last chain → Unwanted (pusher_at mid.pushers chain).number → OnlyGives Unwanted first last
may-more Unwanted first mid last chain may busy gives off = record {
  each = λ c some. ⊎_elim
      (λ (same : c ≡ chain).
      let free : is_free last.slots c ≡ true = ap (λ k. is_free last.slots k) same ∙ gives.free in
      ⊎_elim
      (λ (stays : (is_free mid.slots c ≡ is_free first.slots c) × (pusher_at mid.pushers c ≡ pusher_at first.pushers c)).
      let its : StaysOrGiven Unwanted first last c = inr (free, subst Unwanted (ap (λ (t : Tsn). t.number) (ap (λ k. pusher_at mid.pushers k) (sym same) ∙ stays.1)) off) in its)
      (λ (given : (is_free mid.slots c ≡ true) × Unwanted (pusher_at first.pushers c).number). let its : StaysOrGiven Unwanted first last c = inr (free, given.1) in its)
      (may.each c some))
      (λ (apart : c ≢ chain).
      let o = gives.others c some apart in
      ⊎_elim
      (λ (stays : (is_free mid.slots c ≡ is_free first.slots c) × (pusher_at mid.pushers c ≡ pusher_at first.pushers c)). let its : StaysOrGiven Unwanted first last c = inl (o.0 ∙ stays.0, o.1 ∙ stays.1) in its)
      (λ (given : (is_free mid.slots c ≡ true) × Unwanted (pusher_at first.pushers c).number). let its : StaysOrGiven Unwanted first last c = inr (o.0 ∙ given.0, given.1) in its)
      (may.each c some))
      (nat_cases c chain);
  long = gives.long ∙ may.long;
  aside = gives.aside ∙ may.aside;
  left = (let before = may.left in let more = one-more mid last chain busy.first busy.last busy.used gives in omega (arith, before, more));
}

-- what one transaction pushed is all that isn't wanted
pub gives-back : (Unwanted : ℕ → Type 0) (tsn : ℕ) (old new : SlotTable) → 1 ≤ tsn → ((n : ℕ) → Unwanted n → n ≡ tsn) → Unwanted tsn → IsTable new.slots new.pushers → Sifts Unwanted old new → GivesBack old new tsn
gives-back Unwanted tsn old new some only its table gives = record {
  gone = λ chain first last same. by chain first (let l = gives.may.long in omega (arith, last, l)) same (is_free new.slots chain) refl;
  others = λ chain first off. ⊎_elim
      (λ stays. stays)
      (λ (given : (is_free new.slots chain ≡ true) × Unwanted (pusher_at old.pushers chain).number). absurd (off (only (pusher_at old.pushers chain).number given.1)))
      (gives.may.each chain first);
  long = gives.may.long;
  aside = gives.may.aside;
  left = gives.may.left;
}
  where
    by : (chain : ℕ) → 1 ≤ chain → chain ≤ length new.slots → (pusher_at new.pushers chain).number ≡ tsn → (b : Bool) → is_free new.slots chain ≡ b → ⊥
    by chain first last same true free =
        let none : (pusher_at new.pushers chain).number ≡ 0 = eqb-true (pusher_at new.pushers chain).number 0 (sym (table.agrees chain first last) ∙ free) in
        omega (arith, none, same, some)
    by chain first last same false used = gives.wanted chain (record { first = first; last = last; used = used }) (subst Unwanted (sym same) its)
