-- Where a value meets a comparison it is within the end that the comparison gives, and that end is included where it meets the comparison itself.
use Rattle.std.proofs.Common.{◌≡◌, Bool, true, not, if◌then◌else◌, refl}
use Rattle.std.specs.declared.cmp.Ordering.{Ordering}
use Rattle.std.specs.declared.cmp.Ordering.TheVariants.{Less, Equal, Greater}
use Rattle.std.specs.Ordering.{ordering_then, is_lt, is_le, is_gt, is_ge}
use Rattle.rdo_ast.specs.declared.syntax.Comparison.{Comparison}
use Rattle.rdo_ast.specs.declared.syntax.Comparison.TheVariants as by
use Rattle.rdb_meaning.specs.Comparison.{passes}

-- from a low end on, and up to a high one, by the order of a value and the end's
abbrev pub is_from : Bool → Ordering → Bool
is_from included o = not (if included then is_lt o else is_le o)

abbrev pub is_up_to : Bool → Ordering → Bool
is_up_to included o = not (if included then is_gt o else is_ge o)

abbrev pub IsInEnd : Comparison → Bool → Ordering → Type 0
IsInEnd by.Equal included o = (is_from included o ≡ true) × (is_up_to included o ≡ true)
IsInEnd by.NotEqual included o = Unit {0}
IsInEnd by.Greater included o = is_from included o ≡ true
IsInEnd by.GreaterEqual included o = is_from included o ≡ true
IsInEnd by.Less included o = is_up_to included o ≡ true
IsInEnd by.LessEqual included o = is_up_to included o ≡ true

-- o is the order of a value and the end's, and e that of the end's and the value compared with
pub ends : (op : Comparison) (o e : Ordering) → passes op (ordering_then o e) ≡ true → IsInEnd op (passes op e) o
ends by.Equal Less Less h = absurd (cc)
ends by.Equal Less Equal h = absurd (cc)
ends by.Equal Less Greater h = absurd (cc)
ends by.Equal Equal Less h = absurd (cc)
ends by.Equal Equal Equal h = (refl, refl)
ends by.Equal Equal Greater h = absurd (cc)
ends by.Equal Greater Less h = absurd (cc)
ends by.Equal Greater Equal h = absurd (cc)
ends by.Equal Greater Greater h = absurd (cc)
ends by.NotEqual o e h = tt
ends by.Greater Less Less h = absurd (cc)
ends by.Greater Less Equal h = absurd (cc)
ends by.Greater Less Greater h = absurd (cc)
ends by.Greater Equal Less h = absurd (cc)
ends by.Greater Equal Equal h = absurd (cc)
ends by.Greater Equal Greater h = refl
ends by.Greater Greater Less h = refl
ends by.Greater Greater Equal h = refl
ends by.Greater Greater Greater h = refl
ends by.GreaterEqual Less Less h = absurd (cc)
ends by.GreaterEqual Less Equal h = absurd (cc)
ends by.GreaterEqual Less Greater h = absurd (cc)
ends by.GreaterEqual Equal Less h = absurd (cc)
ends by.GreaterEqual Equal Equal h = refl
ends by.GreaterEqual Equal Greater h = refl
ends by.GreaterEqual Greater Less h = refl
ends by.GreaterEqual Greater Equal h = refl
ends by.GreaterEqual Greater Greater h = refl
ends by.Less Less Less h = refl
ends by.Less Less Equal h = refl
ends by.Less Less Greater h = refl
ends by.Less Equal Less h = refl
ends by.Less Equal Equal h = absurd (cc)
ends by.Less Equal Greater h = absurd (cc)
ends by.Less Greater Less h = absurd (cc)
ends by.Less Greater Equal h = absurd (cc)
ends by.Less Greater Greater h = absurd (cc)
ends by.LessEqual Less Less h = refl
ends by.LessEqual Less Equal h = refl
ends by.LessEqual Less Greater h = refl
ends by.LessEqual Equal Less h = refl
ends by.LessEqual Equal Equal h = refl
ends by.LessEqual Equal Greater h = absurd (cc)
ends by.LessEqual Greater Less h = absurd (cc)
ends by.LessEqual Greater Equal h = absurd (cc)
ends by.LessEqual Greater Greater h = absurd (cc)
