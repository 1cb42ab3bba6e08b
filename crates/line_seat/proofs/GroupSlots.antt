-- The slots of the group that a commit writes.
use Rattle.std.proofs.Common.{◌≡◌, ℕ, zero, suc, ◌+◌, ◌<◌, List, [], ◌∷◌, length, Some, slice_get, slice_index_or, ap, sym, ◌∙◌, arith, refl}
use Rattle.rdb_types.specs.declared.keys.Dbkey.{Dbkey}
use Rattle.rdb_types.specs.declared.keys.Line.{Line}
use Rattle.aij_journal.specs.declared.part.GroupLine.{GroupLine}
use Rattle.journal_scan.specs.declared.group.Group.{Group}
use Rattle.journal_scan.specs.Whole.{slots_of, slots_from}
use Rattle.line_moves.specs.Lines.{ChangedLines}
use Rattle.line_seat.specs.declared.commit.GroupPlace.{GroupPlace}
use Rattle.line_seat.specs.Groups.{group_line, group_lines, group_of}

no_such : {A : Type 0} (i : ℕ) (x : A) → slice_get [] i ≡ Some x → ⊥
no_such i x is = cc

-- as many lines as are given
pub as_many : (lines : ChangedLines) (classes : List ℕ) → length classes ≡ length lines → length (group_lines lines classes) ≡ length lines
as_many [] classes long = refl
as_many (line ∷ lines) [] long = sym (absurd (omega (arith, long)))
as_many (line ∷ lines) (class ∷ classes) long = let rest = as_many lines classes (omega (arith, long)) in omega (arith, rest)

-- each is one of them, with its class
pub record IsFrom (lines : ChangedLines) (classes : List ℕ) (i : ℕ) (of : GroupLine) : Type 0 where
  pub line : Dbkey × Line
  pub class : ℕ
  pub got : slice_get lines i ≡ Some line
  pub is : of ≡ group_line line class

pub of_lines : (lines : ChangedLines) (classes : List ℕ) (i : ℕ) (of : GroupLine) → slice_get (group_lines lines classes) i ≡ Some of → IsFrom lines classes i of
of_lines [] classes i of is = absurd (no_such i of is)
of_lines (line ∷ lines) [] i of is = absurd (no_such i of is)
of_lines (line ∷ lines) (class ∷ classes) zero of is = record { line = line; class = class; got = refl; is = let same : Some (group_line line class) ≡ Some of = is in cc }
of_lines (line ∷ lines) (class ∷ classes) (suc i) of is = let rest = of_lines lines classes i of is in record { line = rest.line; class = rest.class; got = rest.got; is = rest.is }

-- the slot of a line
slot_from : (g : Group) (lines : ChangedLines) (classes : List ℕ) (k i : ℕ) (line : Dbkey × Line) (class : ℕ) → slice_get lines i ≡ Some line → slice_get classes i ≡ Some class
    → slice_get (slots_from g k (group_lines lines classes)) i ≡ Some (Some (record { number = g.number; tsn = g.tsn; index = k + i; count = length g.lines + 1; line = Some (group_line line class) }))
slot_from g [] classes k i line class got is = absurd (no_such i line got)
slot_from g (l ∷ lines) [] k i line class got is = absurd (no_such i class is)
slot_from g (l ∷ lines) (c ∷ classes) k zero line class got is =
    let at : k ≡ k + 0 = omega arith in
    let same : l ≡ line = (let e : Some l ≡ Some line = got in cc) in
    let of : c ≡ class = (let e : Some c ≡ Some class = is in cc) in
    λ j. Some (Some (record { number = g.number; tsn = g.tsn; index = at j; count = length g.lines + 1; line = Some (group_line (same j) (of j)) }))
slot_from g (l ∷ lines) (c ∷ classes) k (suc i) line class got is =
    let at : k + 1 + i ≡ k + suc i = omega arith in
    slot_from g lines classes (k + 1) i line class got is ∙ (λ j. Some (Some (record { number = g.number; tsn = g.tsn; index = at j; count = length g.lines + 1; line = Some (group_line line class) })))

pub slot_is : (place : GroupPlace) (lines : ChangedLines) (classes : List ℕ) (i : ℕ) (line : Dbkey × Line) (class : ℕ) → length classes ≡ length lines → slice_get lines i ≡ Some line → slice_get classes i ≡ Some class
    → slice_get (slots_of (group_of place lines classes)) i ≡ Some (Some (record { number = place.number; tsn = place.tsn; index = i; count = length lines + 1; line = Some (group_line line class) }))
slot_is place lines classes i line class long got is =
    let many = as_many lines classes long in
    let at : 0 + i ≡ i = omega arith in
    slot_from (group_of place lines classes) lines classes 0 i line class got is
    ∙ (λ j. Some (Some (record { number = place.number; tsn = place.tsn; index = at j; count = many j + 1; line = Some (group_line line class) })))

-- what indexing gives
pub got_read : {A : Type 0} (xs : List A) (i : ℕ) (r : A) → i < length xs → r ≡ slice_index_or xs i r → slice_get xs i ≡ Some r
got_read [] i r less is = absurd (omega (arith, less))
got_read (y ∷ ys) zero r less is = ap Some (sym is)
got_read (y ∷ ys) (suc i) r less is = got_read ys i r (omega (arith, less)) is

pub got_at : {A : Type 0} (xs : List A) (i : ℕ) (d : A) → i < length xs → slice_get xs i ≡ Some (slice_index_or xs i d)
got_at [] i d less = absurd (omega (arith, less))
got_at (y ∷ ys) zero d less = refl
got_at (y ∷ ys) (suc i) d less = got_at ys i d (omega (arith, less))
