-- Each step leaves fewer.
use Rattle.std.proofs.Common.{◌≡◌, ◌≤◌, ◌<◌, ◌^◌, true, Option, Some, None, refl, sym, subst, arith}
use Rattle.std.specs.declared.cmp.Ordering.{Ordering}
use Rattle.std.specs.declared.cmp.Ordering.TheVariants.{Less, Equal, Greater}
use Rattle.std.specs.Ordering.{MatchOrdering, is_lt, nat_cmp, ordering_then}
use Rattle.std.proofs.lemmas.Cmp.{ranked}
use Rattle.rdb_types.specs.Order.{dbkey_order}
use Rattle.rdb_types.specs.declared.keys.Dbkey.{Dbkey}
use Rattle.backup_making.specs.declared.making.Stage.{Stage}
use Rattle.backup_making.specs.declared.making.Stage.TheVariants.{Begun, Blanked, Open, Closed, Headed, Ended}
use Rattle.backup_making.specs.Making.{next_stage}
use Rattle.next_lines.specs.declared.next.NextLine.{NextLine}
use Rattle.next_lines.specs.Next.{IsLow}
use Rattle.next_lines.specs.partial_backup.Partial.{is_left}
use Rattle.backup_steps.specs.Steps.{place_in_order, keys_left, left_at, GoesOn}

module _ (from key : Dbkey) (low : IsLow key) where
  by_line : (r : Ordering) → MatchOrdering r (from.line < key.line) (from.line ≡ key.line) (key.line < from.line) → r ≡ Less → from.area ≡ key.area → from.page ≡ key.page → place_in_order from < place_in_order key
  by_line Less h is area page = let line = low.line in let on = low.page in omega (arith, h, area, page, line, on)
  by_line Equal h is area page = let bad : ⊥ = cc in absurd bad
  by_line Greater h is area page = let bad : ⊥ = cc in absurd bad

  by_page : (r : Ordering) → MatchOrdering r (from.page < key.page) (from.page ≡ key.page) (key.page < from.page) → ordering_then r (nat_cmp from.line key.line) ≡ Less → from.area ≡ key.area → place_in_order from < place_in_order key
  by_page Less h is area = let line = low.line in let on = low.page in omega (arith, h, area, line, on)
  by_page Equal h is area = by_line (nat_cmp from.line key.line) (ranked from.line key.line (nat_cmp from.line key.line) refl) is area h
  by_page Greater h is area = let bad : ⊥ = cc in absurd bad

  by_area : (r : Ordering) → MatchOrdering r (from.area < key.area) (from.area ≡ key.area) (key.area < from.area) → ordering_then r (ordering_then (nat_cmp from.page key.page) (nat_cmp from.line key.line)) ≡ Less → place_in_order from < place_in_order key
  by_area Less h is = omega (arith, h)
  by_area Equal h is = by_page (nat_cmp from.page key.page) (ranked from.page key.page (nat_cmp from.page key.page) refl) is h
  by_area Greater h is = let bad : ⊥ = cc in absurd bad

  pub places : dbkey_order from key ≡ Less → place_in_order from < place_in_order key
  places is = by_area (nat_cmp from.area key.area) (ranked from.area key.area (nat_cmp from.area key.area) refl) is

less : (o : Ordering) → is_lt o ≡ true → o ≡ Less
less Less is = refl
less Equal is = cc
less Greater is = cc

last_place : (key : Dbkey) → key.area < 2 ^ 32 → place_in_order key < 2 ^ 51
last_place key area = omega (arith, area)

keys_fall : (from : Option Dbkey) (key : Dbkey) → key.area < 2 ^ 32 → IsLow key → is_left from key ≡ true → keys_left (Some key) < keys_left from
keys_fall None key area low left = let last = last_place key area in omega (arith, last)
keys_fall (Some f) key area low left = let last = last_place key area in let more = places f key low (less (dbkey_order f key) left) in omega (arith, last, more)

-- a line was looked at
pub line_falls : (s : Stage) (from : Option Dbkey) (next : NextLine) → next.key.area < 2 ^ 32 → s ≡ Open → GoesOn from (Some next) → left_at s (Some next.key) < left_at s from
line_falls s from next area opens on = subst (λ (x : Stage). left_at x (Some next.key) < left_at x from) (sym opens) (let fall = keys_fall from next.key area on.0 on.1 in omega (arith, fall))

keys_most : (from : Option Dbkey) → keys_left from ≤ 2 ^ 51
keys_most None = omega arith
keys_most (Some f) = omega arith

-- it went on without one
pub stage_falls : (s : Stage) (from : Option Dbkey) → (s ≡ Ended → ⊥) → left_at (next_stage s None) from < left_at s from
stage_falls Begun from on = omega arith
stage_falls Blanked from on = let most = keys_most from in omega (arith, most)
stage_falls Open from on = omega arith
stage_falls Closed from on = omega arith
stage_falls Headed from on = omega arith
stage_falls Ended from on = absurd (on refl)
