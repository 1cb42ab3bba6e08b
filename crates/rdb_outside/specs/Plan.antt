-- What a disk in memory is made for: its room, and which of its calls fail.
use Rattle.std.specs.Prelude.{ℕ, ◌≡◌, ◌≤◌, ◌<◌, ◌+◌, ◌⊎◌, Bool, true, false, List, ◌==◌, ◌||◌, not, nat_lt}
use Rattle.std.specs.List.{list_any, list_all}
use Rattle.rdb_outside.specs.declared.event.Event.{Event}
use Rattle.rdb_outside.specs.Failing.{may_be_left}

pub record Plan : Type 0 where
  -- how many slots each file has
  pub slots : ℕ
  -- how many calls there is room for
  pub calls : ℕ
  -- the numbers of the calls that fail, counted from 1
  pub fails : List ℕ
  -- the numbers of those that fail and yet do what they are asked
  pub done : List ℕ

abbrev pub is_listed : List ℕ → ℕ → Bool
is_listed numbers number = list_any (λ n. n == number) numbers

-- whether the call at this moment is to answer that it failed: its number is one more
abbrev pub fails_at : Plan → ℕ → Bool
fails_at plan t = is_listed plan.fails (t + 1) || is_listed plan.done (t + 1)

-- whether the call at this moment does what it is asked
abbrev pub does_at : Plan → ℕ → Bool
does_at plan t = is_listed plan.done (t + 1) || not (is_listed plan.fails (t + 1))

-- A call has failed for a reason: it is one of those that are to fail, or there is no room for one more.
abbrev pub IsMeantToFail : Plan → ℕ → Type 0
IsMeantToFail plan t = (fails_at plan t ≡ true) ⊎ (plan.calls ≤ t)

-- A call succeeds only where it is to.
abbrev pub IsMeantToWork : Plan → ℕ → Type 0
IsMeantToWork plan t = (fails_at plan t ≡ false) × (t < plan.calls)

-- Each write that is kept is one of a slot that there is.
abbrev pub is_within : ℕ → Event → Bool
is_within slots e = not (may_be_left e.effect) || nat_lt e.slot slots

abbrev pub are_within : ℕ → List Event → Bool
are_within slots log = list_all (is_within slots) log
