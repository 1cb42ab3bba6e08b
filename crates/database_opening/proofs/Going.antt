-- The open transactions, of what was read: numbers of the headers without those of the groups, and counts of entries.
use Rattle.std.proofs.Common.{◌≡◌, ℕ, zero, suc, ◌-◌, ◌≤◌, ◌<◌, Bool, true, false, if◌then◌else◌, List, length, map, get_or, Option, Some, None, ◌⊎◌, inl, inr, refl, sym, ◌∙◌, ap, subst, arith}
use Rattle.std.proofs.lemmas.List.{get_or-map}
use Rattle.rdb_outside.specs.Disk.{Image, View, Pending, IsStable}
use Rattle.journal_scan.specs.declared.group.Group.{Group}
use Rattle.line_opening.specs.stable_lines.Slots.{ruj_file, IsMember, named}
use Rattle.line_opening.specs.stable_lines.Journal.{has_group}
use Rattle.line_opening.specs.stable_lines.Progress.{Open}
use Rattle.line_opening.specs.stable_lines.Opening.{IsFound}
use Rattle.line_opening.specs.stable_lines.Steps.{NamesNone}
use Rattle.line_opening.specs.Headers.{number_of, AreNamed, open_in}
use Rattle.database_opening.specs.Reading.{AreCounted, AreKnown}

some_same : {A : Type 0} (a b : A) → Some a ≡ Some b → a ≡ b
some_same a b same = cc

-- ---- numbers

open_of : (image : Image) (groups : List Group) (named_all numbers : List ℕ) (member : ℕ) → AreNamed image named_all → numbers ≡ map (open_in groups) named_all → IsMember member → number_of numbers member ≡ open_in groups (named (image (ruj_file member) 0))
open_of image groups named_all numbers member are same is =
    let first = is.first in let last = is.last in let long = are.long in
    ap (λ (l : List ℕ). get_or l (member - 1) 0) same ∙ get_or-map (open_in groups) named_all (member - 1) 0 0 (omega (arith, first, last, long)) ∙ ap (open_in groups) (are.each member is)

no_group_of : (b : Bool) (number : ℕ) → 1 ≤ (if b then 0 else number) → b ≡ false
no_group_of true number le = absurd (omega arith)
no_group_of false number le = refl

named_of : (b : Bool) (number : ℕ) → 1 ≤ (if b then 0 else number) → (if b then 0 else number) ≡ number
named_of true number le = absurd (omega arith)
named_of false number le = refl

grouped_of : (b : Bool) (number : ℕ) → 1 ≤ number → (if b then 0 else number) ≡ 0 → b ≡ true
grouped_of true number le none = refl
grouped_of false number le none = absurd (omega (arith, le, none))

none_of : (b : Bool) (number : ℕ) → number ≡ 0 → (if b then 0 else number) ≡ 0
none_of true number is = refl
none_of false number is = is

-- ---- who is open

-- The member has an open transaction, or it has none.
abbrev pub IsGoing : List ℕ → ℕ → Type 0
IsGoing numbers member = IsMember member × (1 ≤ number_of numbers member)

pub has_cases : (numbers : List ℕ) (member : ℕ) → IsGoing numbers member ⊎ (IsGoing numbers member → ⊥)
has_cases numbers member = by (cases 1 member) (cases member 16) (cases 1 (number_of numbers member))
  where
    cases : (a b : ℕ) → (a ≤ b) ⊎ (b < a)
    cases a b = grind arith

    by : ((1 ≤ member) ⊎ (member < 1)) → ((member ≤ 16) ⊎ (16 < member)) → ((1 ≤ number_of numbers member) ⊎ (number_of numbers member < 1)) → IsGoing numbers member ⊎ (IsGoing numbers member → ⊥)
    by (inl first) (inl last) (inl some) = inl (record { first = first; last = last }, some)
    by (inr before) last some = inr (λ is. let first = is.0.first in omega (arith, before, first))
    by (inl first) (inr past) some = inr (λ is. let last = is.0.last in omega (arith, past, last))
    by (inl first) (inl last) (inr none) = inr (λ is. let some = is.1 in omega (arith, none, some))

module _ (image : Image) (groups : List Group) (named_all numbers counts : List ℕ) (are : AreNamed image named_all) (same : numbers ≡ map (open_in groups) named_all) (counted : AreCounted image numbers counts) where
  abbrev pub open_by : (member : ℕ) → IsGoing numbers member ⊎ (IsGoing numbers member → ⊥) → Option Open
  open_by member (inl is) = Some (record { tsn = record { number = number_of numbers member }; entries = (counted.each member is.0 is.1).undos })
  open_by member (inr isnt) = None

  abbrev pub going_of : ℕ → Option Open
  going_of member = open_by member (has_cases numbers member)

  abbrev name_of : ℕ → ℕ
  name_of member = named (image (ruj_file member) 0)

  found_by : (member : ℕ) (h : IsGoing numbers member ⊎ (IsGoing numbers member → ⊥)) → IsFound image groups member (open_by member h)
  found_by member (inl is) =
      let at = open_of image groups named_all numbers member are same is.0 in
      let some : 1 ≤ open_in groups (name_of member) = subst (λ (n : ℕ). 1 ≤ n) at is.1 in
      let named_is : number_of numbers member ≡ name_of member = at ∙ named_of (has_group (name_of member) groups) (name_of member) some in
      record {
        is_member = is.0;
        number = is.1;
        names = sym named_is;
        no_group = ap (λ (n : ℕ). has_group n groups) named_is ∙ no_group_of (has_group (name_of member) groups) (name_of member) some;
        entries = (counted.each member is.0 is.1).entries;
      }
  found_by member (inr isnt) = λ is le.
      let at = open_of image groups named_all numbers member are same is in
      let none : number_of numbers member ≡ 0 = zero_or (number_of numbers member) (λ some. isnt (is, some)) in
      grouped_of (has_group (name_of member) groups) (name_of member) le (sym at ∙ none)
    where
      zero_or : (n : ℕ) → (1 ≤ n → ⊥) → n ≡ 0
      zero_or zero isnt_some = refl
      zero_or (suc n) isnt_some = absurd (isnt_some (omega arith))

  pub all_found : (member : ℕ) → IsFound image groups member (going_of member)
  all_found member = found_by member (has_cases numbers member)

  number_by : (member : ℕ) (h : IsGoing numbers member ⊎ (IsGoing numbers member → ⊥)) (o : Open) → open_by member h ≡ Some o → number_of numbers member ≡ o.tsn.number
  number_by member (inl is) o got = ap (λ (p : Open). p.tsn.number) (some_same _ _ got)
  number_by member (inr isnt) o got = absurd (cc)

  count_by : (member : ℕ) (h : IsGoing numbers member ⊎ (IsGoing numbers member → ⊥)) (o : Open) → open_by member h ≡ Some o → number_of counts member ≡ length o.entries
  count_by member (inl is) o got = sym (counted.each member is.0 is.1).long ∙ ap (λ (p : Open). length p.entries) (some_same _ _ got)
  count_by member (inr isnt) o got = absurd (cc)

  none_by : (member : ℕ) (h : IsGoing numbers member ⊎ (IsGoing numbers member → ⊥)) → IsMember member → open_by member h ≡ None → number_of counts member ≡ 0
  none_by member (inl is) is_member none = absurd (cc)
  none_by member (inr isnt) is_member none = counted.none member is_member (zero_or (number_of numbers member) (λ some. isnt (is_member, some)))
    where
      zero_or : (n : ℕ) → (1 ≤ n → ⊥) → n ≡ 0
      zero_or zero isnt_some = refl
      zero_or (suc n) isnt_some = absurd (isnt_some (omega arith))

  pub all_known : AreKnown going_of numbers counts
  all_known = record {
    number = λ member o got. number_by member (has_cases numbers member) o got;
    count = λ member o got. count_by member (has_cases numbers member) o got;
    none = λ member is none. none_by member (has_cases numbers member) is none;
  }

  -- where no header names a transaction
  pub none_going : ((member : ℕ) → number_of named_all member ≡ 0) → (member : ℕ) → going_of member ≡ None
  none_going none member = by (has_cases numbers member)
    where
      by : (h : IsGoing numbers member ⊎ (IsGoing numbers member → ⊥)) → open_by member h ≡ None
      by (inl is) =
          let at = open_of image groups named_all numbers member are same is.0 in
          let zero_is : number_of numbers member ≡ 0 = at ∙ none_of (has_group (name_of member) groups) (name_of member) (sym (are.each member is.0) ∙ none member) in
          let some = is.1 in
          absurd (omega (arith, some, zero_is))
      by (inr isnt) = refl

pub names_none : (v : View) (named_all : List ℕ) → IsStable v → AreNamed v.content named_all → ((member : ℕ) → number_of named_all member ≡ 0) → NamesNone (Pending v)
names_none v named_all stable are none member header is pending = ap named (stable (ruj_file member) 0 header pending) ∙ sym (are.each member is) ∙ none member
