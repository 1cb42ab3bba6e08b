-- Which slots the writes that are kept are of.
use Rattle.std.specs.Prelude.{ℕ, zero, suc, ◌+◌, ◌≡◌, ◌<◌, ◌≤◌, Bool, true, false, List, [], ◌∷◌, ◌++◌, length, take, get_or, ◌&&◌, ◌||◌, ◌==◌, not, nat_lt, if◌then◌else◌, refl}
use Rattle.std.proofs.Common.{ap, arith}
use Rattle.std.proofs.lemmas.Bool.{and_parts}
use Rattle.rdb_types.specs.declared.file.FileId.{FileId}
use Rattle.rdb_types.specs.File.{is_same}
use Rattle.rdb_outside.specs.declared.event.Effect.{Effect}
use Rattle.rdb_outside.specs.declared.event.Effect.TheVariants.{Passed, Written, Lost, Settled}
use Rattle.rdb_outside.specs.declared.event.Event.{Event}
use Rattle.rdb_outside.specs.Failing.{failed, kept, is_written, writes, may_be_left}
use Rattle.rdb_outside.specs.Memory.{written}
use Rattle.rdb_outside.specs.Plan.{is_within, are_within}

and_both : (a b : Bool) → a ≡ true → b ≡ true → (a && b) ≡ true
and_both true b x y = y
and_both false b x y = x

pub within_push : (slots : ℕ) (log : List Event) (e : Event) → are_within slots log ≡ true → is_within slots e ≡ true → are_within slots (log ++ e ∷ []) ≡ true
within_push slots [] e all one = and_both (is_within slots e) true one refl
within_push slots (d ∷ log) e all one = let both = and_parts (is_within slots d) (are_within slots log) all in and_both _ _ both.0 (within_push slots log e both.1 one)

pub within_at : (slots : ℕ) (log : List Event) (k : ℕ) (d : Event) → are_within slots log ≡ true → k < length log → is_within slots (get_or log k d) ≡ true
within_at slots [] k d all less = let bad : ⊥ = omega (arith, less) in absurd bad
within_at slots (e ∷ log) zero d all less = (and_parts (is_within slots e) (are_within slots log) all).0
within_at slots (e ∷ log) (suc k) d all less = within_at slots log k d (and_parts (is_within slots e) (are_within slots log) all).1 (grind arith)

slot_by : (w : Effect) (less : Bool) → (not (may_be_left w) || less) ≡ true → is_written w ≡ true → less ≡ true
slot_by Passed less is does = let bad : ⊥ = cc in absurd bad
slot_by Written less is does = is
slot_by Lost less is does = let bad : ⊥ = cc in absurd bad
slot_by Settled less is does = let bad : ⊥ = cc in absurd bad

left_by : (w : Effect) (less : Bool) → (not (may_be_left w) || less) ≡ true → may_be_left w ≡ true → less ≡ true
left_by Passed less is does = let bad : ⊥ = cc in absurd bad
left_by Written less is does = is
left_by Lost less is does = is
left_by Settled less is does = let bad : ⊥ = cc in absurd bad

pub less_from : (a b : ℕ) → nat_lt a b ≡ true → a < b
less_from a b is = grind arith

pub slot_within : (slots : ℕ) (e : Event) (file : FileId) → is_within slots e ≡ true → writes e file e.slot ≡ true → e.slot < slots
slot_within slots e file is does =
    let both = and_parts (is_written e.effect && is_same file e.file) (e.slot == e.slot) does in
    let here = and_parts (is_written e.effect) (is_same file e.file) both.0 in
    less_from e.slot slots (slot_by e.effect (nat_lt e.slot slots) is here.0)

pub kept_within : (slots : ℕ) (e : Event) → is_within slots e ≡ true → may_be_left e.effect ≡ true → is_within slots (kept e) ≡ true
kept_within slots e is left = left_by e.effect (nat_lt e.slot slots) is left

-- a write as it is kept has its place and its bytes
pub kept_is : (b : Bool) (e : Event) (file : FileId) (slot : ℕ) (bytes : List ℕ) → e.file ≡ file → e.slot ≡ slot → written e ≡ bytes
    → ((if b then e else failed e).file ≡ file) × ((if b then e else failed e).slot ≡ slot) × (written (if b then e else failed e) ≡ bytes)
kept_is true e file slot bytes f s w = (f, s, w)
kept_is false e file slot bytes f s w = (f, s, w)

pub end_within : (slots : ℕ) (log : List Event) (i : ℕ) (d : Event) (file : FileId) (next : ℕ) → are_within slots log ≡ true → i < length log → writes (get_or log i d) file (get_or log i d).slot ≡ true → next ≡ (get_or log i d).slot + 1 → next ≤ slots
end_within slots log i d file next all less does is = let low = slot_within slots (get_or log i d) file (within_at slots log i d all less) does in omega (arith, low, is)

pub within_take : (slots : ℕ) (log : List Event) (n : ℕ) → are_within slots log ≡ true → are_within slots (take n log) ≡ true
within_take slots log zero all = refl
within_take slots [] (suc n) all = refl
within_take slots (e ∷ log) (suc n) all = let both = and_parts (is_within slots e) (are_within slots log) all in and_both _ _ both.0 (within_take slots log n both.1)

pub settled_within : (slots : ℕ) (e : Event) → e.effect ≡ Settled → is_within slots e ≡ true
settled_within slots e is = ap (λ w. not (may_be_left w) || nat_lt e.slot slots) is
