-- Open transactions held one by one, and what is laid over the lines by them.
use Rattle.std.specs.Prelude.{if◌then◌else◌, unwrap_or}
use Rattle.std.proofs.Common.{◌≡◌, ◌≢◌, ℕ, zero, suc, ◌+◌, ◌-◌, ◌≤◌, ◌<◌, ◌==◌, ◌||◌, Bool, true, false, List, [], ◌∷◌, ◌++◌, Option, Some, None, get_or, ◌⊎◌, ⊎_elim, refl, sym, ap, subst, ◌∙◌, arith}
use Rattle.std.proofs.lemmas.Bool.{eqb-true, eq-eqb}
use Rattle.std.specs.FinMap.Entries.{find}
use Rattle.rdb_types.specs.Order.{dbkey_order}
use Rattle.rdb_types.specs.declared.keys.Dbkey.{Dbkey}
use Rattle.rdb_types.specs.declared.keys.Tsn.{Tsn}
use Rattle.rdb_types.specs.declared.keys.Line.{Line}
use Rattle.rdb_outside.specs.Disk.{Image}
use Rattle.journal_scan.specs.declared.group.Group.{Group}
use Rattle.stable_lines.specs.Slots.{IsMember, line_at}
use Rattle.stable_lines.specs.Image.{IsOpenAt, LineIs, as_it_stands, put_back, not_found}
use Rattle.line_opening.specs.Headers.{number_of}
use Rattle.before_images.specs.declared.lines.OpenTransaction.{OpenTransaction}
use Rattle.before_images.specs.Before.{BeforeIs, HoldsBefore, held_of, laid, LaysLines}
use Rattle.before_images.specs.Open.{AreOpen, HoldsMore}
use Rattle.before_images.proofs.Numbers.{IsFirst, open_at, ended}

-- whether some transaction of this number is held
abbrev has_open : ℕ → List OpenTransaction → Bool
has_open n [] = false
has_open n (one ∷ more) = (one.tsn.number == n) || has_open n more

none_of : (n : ℕ) (held : List OpenTransaction) → has_open n held ≡ false → held_of n held ≡ []
none_of n [] none = refl
none_of n (one ∷ more) none = by (none_of n more) (one.tsn.number == n) none
  where
    by : (has_open n more ≡ false → held_of n more ≡ []) → (b : Bool) → (b || has_open n more) ≡ false → (if b then one.before else held_of n more) ≡ []
    by rest true is = let bad : true ≡ false = is in absurd (let no : ⊥ = cc in no)
    by rest false is = rest is

kept : (n : ℕ) (held : List OpenTransaction) (t : OpenTransaction) → has_open n held ≡ true → (has_open n (held ++ t ∷ []) ≡ true) × (held_of n (held ++ t ∷ []) ≡ held_of n held)
kept n [] t has = let bad : false ≡ true = has in absurd (let no : ⊥ = cc in no)
kept n (one ∷ more) t has = by (kept n more t) (one.tsn.number == n) has
  where
    by : (has_open n more ≡ true → (has_open n (more ++ t ∷ []) ≡ true) × (held_of n (more ++ t ∷ []) ≡ held_of n more)) → (b : Bool) → (b || has_open n more) ≡ true
        → ((b || has_open n (more ++ t ∷ [])) ≡ true) × ((if b then one.before else held_of n (more ++ t ∷ [])) ≡ (if b then one.before else held_of n more))
    by rest true is = (refl, refl)
    by rest false is = rest is

or_none : (a : Bool) → (a || false) ≡ a
or_none true = refl
or_none false = refl

added : (n : ℕ) (held : List OpenTransaction) (t : OpenTransaction) → has_open n held ≡ false → (has_open n (held ++ t ∷ []) ≡ (t.tsn.number == n)) × (held_of n (held ++ t ∷ []) ≡ (if t.tsn.number == n then t.before else []))
added n [] t none = (or_none (t.tsn.number == n), refl)
added n (one ∷ more) t none = by (added n more t) (one.tsn.number == n) none
  where
    by : (has_open n more ≡ false → (has_open n (more ++ t ∷ []) ≡ (t.tsn.number == n)) × (held_of n (more ++ t ∷ []) ≡ (if t.tsn.number == n then t.before else []))) → (b : Bool) → (b || has_open n more) ≡ false
        → ((b || has_open n (more ++ t ∷ [])) ≡ (t.tsn.number == n)) × ((if b then one.before else held_of n (more ++ t ∷ [])) ≡ (if t.tsn.number == n then t.before else []))
    by rest true is = let bad : true ≡ false = is in absurd (let no : ⊥ = cc in no)
    by rest false is = rest is

-- What is held of a transaction, of those of the members before the end: nothing where it is none's, and else what its first member's entries say.
pub data IsHeld (image : Image) (numbers : List ℕ) (end : ℕ) (held : List OpenTransaction) (tsn : Tsn) : Type 0 where
  of_none : (1 ≤ tsn.number → (member : ℕ) → IsMember member → member < end → number_of numbers member ≢ tsn.number) → has_open tsn.number held ≡ false → IsHeld image numbers end held tsn
  of_one : (member : ℕ) → 1 ≤ tsn.number → IsFirst numbers tsn.number member → has_open tsn.number held ≡ true → HoldsBefore image member tsn (held_of tsn.number held) → IsHeld image numbers end held tsn

abbrev pub AreHeld : Image → List ℕ → ℕ → List OpenTransaction → Type 0
AreHeld image numbers end held = (tsn : Tsn) → IsHeld image numbers end held tsn

earlier_or_last : (m n : ℕ) → m < n + 1 → (m < n) ⊎ (m ≡ n)
earlier_or_last m n lt = grind arith

module _ (image : Image) (numbers : List ℕ) where
  pub none_held : AreHeld image numbers 1 []
  none_held tsn = of_none (λ some member is lt. let first = is.first in absurd (let no : ⊥ = omega (arith, first, lt) in no)) refl

  module _ (end number : ℕ) (is_member : IsMember end) (here : number_of numbers end ≡ number) where
    -- not there either
    none_there : (n : ℕ) → number ≢ n → ((member : ℕ) → IsMember member → member < end → number_of numbers member ≢ n) → (member : ℕ) → IsMember member → member < end + 1 → number_of numbers member ≢ n
    none_there n off none member is lt = ⊎_elim (λ less. none member is less) (λ at same. off (sym here ∙ ap (λ (m : ℕ). number_of numbers m) (sym at) ∙ same)) (earlier_or_last member end lt)

    -- the member has none
    pub none_more : (held : List OpenTransaction) → number ≡ 0 → AreHeld image numbers end held → AreHeld image numbers (end + 1) held
    none_more held is_zero were tsn = by (were tsn)
      where
        by : IsHeld image numbers end held tsn → IsHeld image numbers (end + 1) held tsn
        by (of_none none not_held) = of_none (λ some. none_there tsn.number (λ same. let no : ⊥ = omega (arith, same, is_zero, some) in no) (none some)) not_held
        by (of_one member some first has is) = of_one member some first has is

    -- the member has one
    module _ (old : List OpenTransaction) (before : List (Dbkey × Line)) (some : 1 ≤ number) (tsn : Tsn) where
      abbrev one : OpenTransaction
      one = record { tsn = record { number = number }; before = before }

      abbrev ApartBefore : Type 0
      ApartBefore = 1 ≤ tsn.number → (member : ℕ) → IsMember member → member < end → number_of numbers member ≢ tsn.number

      first_held : HoldsBefore image end (record { number = number }) before → ApartBefore → has_open tsn.number old ≡ false → (b : Bool) → (number == tsn.number) ≡ b → IsHeld image numbers (end + 1) (old ++ one ∷ []) tsn
      first_held are none not_held true is =
          let same : number ≡ tsn.number = eqb-true number tsn.number is in
          let now = added tsn.number old one not_held in
          let it_is : 1 ≤ tsn.number = omega (arith, some, same) in
          let held : held_of tsn.number (old ++ one ∷ []) ≡ before = now.1 ∙ ap (λ (b : Bool). if b then before else []) is in
          of_one end it_is (record { is_member = is_member; has = here ∙ same; first = none it_is }) (now.0 ∙ is)
          (subst (λ (l : List (Dbkey × Line)). HoldsBefore image end tsn l) (sym held) (subst (λ (n : ℕ). HoldsBefore image end (record { number = n }) before) same are))
      first_held are none not_held false is =
          let now = added tsn.number old one not_held in
          of_none (λ there. none_there tsn.number (λ same. let bad : true ≡ false = sym (eq-eqb number tsn.number same) ∙ is in let no : ⊥ = cc in no) (none there)) (now.0 ∙ is)

      more_held : HoldsBefore image end (record { number = number }) before → IsHeld image numbers end old tsn → IsHeld image numbers (end + 1) (old ++ one ∷ []) tsn
      more_held are (of_none none not_held) = first_held are none not_held (number == tsn.number) refl
      more_held are (of_one member there first has is) =
          let now = kept tsn.number old one has in
          of_one member there first now.0 (subst (λ (l : List (Dbkey × Line)). HoldsBefore image member tsn l) (sym now.1) is)

    pub one_more : (old new : List OpenTransaction) → 1 ≤ number → HoldsMore image end (record { number = number }) old new → AreHeld image numbers end old → AreHeld image numbers (end + 1) new
    one_more old new some more were tsn = subst (λ (l : List OpenTransaction). IsHeld image numbers (end + 1) l tsn) (sym more.added) (more_held old more.before some tsn more.are (were tsn))

-- the next member's, which is in this place
pub next_held : (image : Image) (numbers : List ℕ) (place number : ℕ) (old new : List OpenTransaction) → place < 16 → get_or numbers place 0 ≡ number → (number ≡ 0 → new ≡ old) → (1 ≤ number → HoldsMore image (place + 1) (record { number = number }) old new)
    → AreHeld image numbers (place + 1) old → AreHeld image numbers (place + 1 + 1) new
next_held image numbers place number old new within here none more were = by number here none more
  where
    is_member : IsMember (place + 1)
    is_member = record { first = omega arith; last = omega (arith, within) }

    there : (n : ℕ) → get_or numbers place 0 ≡ n → number_of numbers (place + 1) ≡ n
    there n is = let back : place + 1 - 1 ≡ place = omega arith in ap (λ (k : ℕ). get_or numbers k 0) back ∙ is

    by : (n : ℕ) → get_or numbers place 0 ≡ n → (n ≡ 0 → new ≡ old) → (1 ≤ n → HoldsMore image (place + 1) (record { number = n }) old new) → AreHeld image numbers (place + 1 + 1) new
    by zero is still longer = subst (λ (l : List OpenTransaction). AreHeld image numbers (place + 1 + 1) l) (sym (still refl)) (none_more image numbers (place + 1) 0 is_member (there 0 is) old refl were)
    by (suc n) is still longer = one_more image numbers (place + 1) (suc n) is_member (there (suc n) is) old new (omega arith) (longer (omega arith)) were

-- of an open transaction's line
module _ (image : Image) (groups : List Group) (key : Dbkey) (member : ℕ) (is : IsOpenAt image groups (line_at image key).tsn.number member) where
  was_before : (o : Option Line) → BeforeIs image member (line_at image key).tsn key o → LineIs image groups key (unwrap_or o (line_at image key))
  was_before None none = not_found member is none refl
  was_before (Some line) before = put_back member is before

-- all members' are held
module _ (image : Image) (groups : List Group) (numbers : List ℕ) (end : ℕ) (held : List OpenTransaction) (are : AreOpen image groups numbers) (enough : 17 ≤ end) (key : Dbkey) where
  line_laid : IsHeld image numbers end held (line_at image key).tsn → LineIs image groups key (laid held key (line_at image key))
  line_laid (of_none none not_held) =
      as_it_stands (ended image groups numbers are (line_at image key).tsn.number (λ some member is. let last = is.last in none some member is (omega (arith, last, enough))))
      (ap (λ (l : List (Dbkey × Line)). unwrap_or (find dbkey_order key l) (line_at image key)) (none_of (line_at image key).tsn.number held not_held))
  line_laid (of_one member some first has is) = was_before image groups key member (open_at image groups numbers are (line_at image key).tsn.number some member first) (find dbkey_order key (held_of (line_at image key).tsn.number held)) (is key)

pub all_laid : (image : Image) (groups : List Group) (numbers : List ℕ) (end : ℕ) (held : List OpenTransaction) → AreOpen image groups numbers → 17 ≤ end → AreHeld image numbers end held → LaysLines image groups held
all_laid image groups numbers end held are enough were key = line_laid image groups numbers end held are enough key (were (line_at image key).tsn)
