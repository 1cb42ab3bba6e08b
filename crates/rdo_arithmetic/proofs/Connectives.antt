-- AND, OR and the parts of a selection's condition may be taken from the left.
use Rattle.std.proofs.Common.{◌≡◌, Bool, true, false, refl}
use Rattle.rdb_meaning.specs.Comparison.{Weighed, holds, fails, unknown, overflows, and_of, or_of, Verdict, chosen, passed_over, undecided, both_parts}

pub and_of_assoc : (a b c : Weighed) → and_of (and_of a b) c ≡ and_of a (and_of b c)
and_of_assoc holds holds holds = refl
and_of_assoc holds holds fails = refl
and_of_assoc holds holds unknown = refl
and_of_assoc holds holds overflows = refl
and_of_assoc holds fails holds = refl
and_of_assoc holds fails fails = refl
and_of_assoc holds fails unknown = refl
and_of_assoc holds fails overflows = refl
and_of_assoc holds unknown holds = refl
and_of_assoc holds unknown fails = refl
and_of_assoc holds unknown unknown = refl
and_of_assoc holds unknown overflows = refl
and_of_assoc holds overflows c = refl
and_of_assoc fails holds holds = refl
and_of_assoc fails holds fails = refl
and_of_assoc fails holds unknown = refl
and_of_assoc fails holds overflows = refl
and_of_assoc fails fails holds = refl
and_of_assoc fails fails fails = refl
and_of_assoc fails fails unknown = refl
and_of_assoc fails fails overflows = refl
and_of_assoc fails unknown holds = refl
and_of_assoc fails unknown fails = refl
and_of_assoc fails unknown unknown = refl
and_of_assoc fails unknown overflows = refl
and_of_assoc fails overflows c = refl
and_of_assoc unknown holds holds = refl
and_of_assoc unknown holds fails = refl
and_of_assoc unknown holds unknown = refl
and_of_assoc unknown holds overflows = refl
and_of_assoc unknown fails holds = refl
and_of_assoc unknown fails fails = refl
and_of_assoc unknown fails unknown = refl
and_of_assoc unknown fails overflows = refl
and_of_assoc unknown unknown holds = refl
and_of_assoc unknown unknown fails = refl
and_of_assoc unknown unknown unknown = refl
and_of_assoc unknown unknown overflows = refl
and_of_assoc unknown overflows c = refl
and_of_assoc overflows b c = refl

pub and_of-holds : (a : Weighed) → and_of holds a ≡ a
and_of-holds holds = refl
and_of-holds fails = refl
and_of-holds unknown = refl
and_of-holds overflows = refl

pub and_of-overflows : (a : Weighed) → and_of a overflows ≡ overflows
and_of-overflows holds = refl
and_of-overflows fails = refl
and_of-overflows unknown = refl
and_of-overflows overflows = refl

pub or_of_assoc : (a b c : Weighed) → or_of (or_of a b) c ≡ or_of a (or_of b c)
or_of_assoc holds holds holds = refl
or_of_assoc holds holds fails = refl
or_of_assoc holds holds unknown = refl
or_of_assoc holds holds overflows = refl
or_of_assoc holds fails holds = refl
or_of_assoc holds fails fails = refl
or_of_assoc holds fails unknown = refl
or_of_assoc holds fails overflows = refl
or_of_assoc holds unknown holds = refl
or_of_assoc holds unknown fails = refl
or_of_assoc holds unknown unknown = refl
or_of_assoc holds unknown overflows = refl
or_of_assoc holds overflows c = refl
or_of_assoc fails holds holds = refl
or_of_assoc fails holds fails = refl
or_of_assoc fails holds unknown = refl
or_of_assoc fails holds overflows = refl
or_of_assoc fails fails holds = refl
or_of_assoc fails fails fails = refl
or_of_assoc fails fails unknown = refl
or_of_assoc fails fails overflows = refl
or_of_assoc fails unknown holds = refl
or_of_assoc fails unknown fails = refl
or_of_assoc fails unknown unknown = refl
or_of_assoc fails unknown overflows = refl
or_of_assoc fails overflows c = refl
or_of_assoc unknown holds holds = refl
or_of_assoc unknown holds fails = refl
or_of_assoc unknown holds unknown = refl
or_of_assoc unknown holds overflows = refl
or_of_assoc unknown fails holds = refl
or_of_assoc unknown fails fails = refl
or_of_assoc unknown fails unknown = refl
or_of_assoc unknown fails overflows = refl
or_of_assoc unknown unknown holds = refl
or_of_assoc unknown unknown fails = refl
or_of_assoc unknown unknown unknown = refl
or_of_assoc unknown unknown overflows = refl
or_of_assoc unknown overflows c = refl
or_of_assoc overflows b c = refl

pub or_of-fails : (a : Weighed) → or_of fails a ≡ a
or_of-fails holds = refl
or_of-fails fails = refl
or_of-fails unknown = refl
or_of-fails overflows = refl

pub or_of-overflows : (a : Weighed) → or_of a overflows ≡ overflows
or_of-overflows holds = refl
or_of-overflows fails = refl
or_of-overflows unknown = refl
or_of-overflows overflows = refl

pub both_parts_assoc : (a b c : Verdict) → both_parts (both_parts a b) c ≡ both_parts a (both_parts b c)
both_parts_assoc chosen chosen chosen = refl
both_parts_assoc chosen chosen passed_over = refl
both_parts_assoc chosen chosen undecided = refl
both_parts_assoc chosen passed_over c = refl
both_parts_assoc chosen undecided chosen = refl
both_parts_assoc chosen undecided passed_over = refl
both_parts_assoc chosen undecided undecided = refl
both_parts_assoc passed_over b c = refl
both_parts_assoc undecided chosen chosen = refl
both_parts_assoc undecided chosen passed_over = refl
both_parts_assoc undecided chosen undecided = refl
both_parts_assoc undecided passed_over c = refl
both_parts_assoc undecided undecided chosen = refl
both_parts_assoc undecided undecided passed_over = refl
both_parts_assoc undecided undecided undecided = refl

pub both_parts-chosen : (a : Verdict) → both_parts chosen a ≡ a
both_parts-chosen chosen = refl
both_parts-chosen passed_over = refl
both_parts-chosen undecided = refl

pub both_parts-passed_over : (a : Verdict) → both_parts a passed_over ≡ passed_over
both_parts-passed_over chosen = refl
both_parts-passed_over passed_over = refl
both_parts-passed_over undecided = refl

-- no part was false or missing, and whether one overflowed
abbrev pub so_far : Bool → Verdict
so_far true = undecided
so_far false = chosen

pub both_parts-chosen_right : (v : Verdict) → both_parts v chosen ≡ v
both_parts-chosen_right chosen = refl
both_parts-chosen_right passed_over = refl
both_parts-chosen_right undecided = refl

pub so_far-undecided : (b : Bool) → both_parts (so_far b) undecided ≡ undecided
so_far-undecided true = refl
so_far-undecided false = refl
