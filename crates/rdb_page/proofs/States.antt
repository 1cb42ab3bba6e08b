-- The byte of a line's state.
use Rattle.std.specs.Prelude.{ℕ, zero, suc, ◌<◌, ◌^◌, ◌≡◌, refl}
use Rattle.std.proofs.Common.{arith, sym, ap, ◌∙◌}
use Rattle.rdb_types.specs.declared.keys.LineState.{LineState}
use Rattle.rdb_types.specs.declared.keys.LineState.TheVariants.{Never, Present, Erased}
use Rattle.rdb_page.specs.Lines.{byte_of}

pub byte_small : (s : LineState) → byte_of s < 256 ^ 1
byte_small Never = omega arith
byte_small Present = omega arith
byte_small Erased = omega arith

abbrev state_from : ℕ → LineState
state_from zero = Never
state_from (suc zero) = Present
state_from (suc (suc n)) = Erased

state_back : (s : LineState) → state_from (byte_of s) ≡ s
state_back Never = refl
state_back Present = refl
state_back Erased = refl

-- a byte says one state
pub one_state : (a b : LineState) → byte_of a ≡ byte_of b → a ≡ b
one_state a b same = sym (state_back a) ∙ ap state_from same ∙ state_back b
