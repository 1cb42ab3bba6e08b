-- What a call does by the effect that is kept of it.
use Rattle.std.specs.Prelude.{ℕ, ◌+◌, ◌≡◌, ◌⊎◌, Bool, true, false, List, [], ◌∷◌, ◌++◌, ◌||◌, not, refl, if◌then◌else◌}
use Rattle.std.proofs.Common.{inl, inr, sym, subst, ◌∙◌, ap}
use Rattle.rdb_types.specs.declared.file.FileId.{FileId}
use Rattle.rdb_outside.specs.declared.event.Effect.{Effect}
use Rattle.rdb_outside.specs.declared.event.Effect.TheVariants.{Passed, Written, Lost, Settled}
use Rattle.rdb_outside.specs.declared.event.Event.{Event}
use Rattle.rdb_outside.specs.Disk.{Keeps, Puts, Adds, SameContent, Pending, StillPending}
use Rattle.rdb_outside.specs.Failing.{failed, failing, is_written, may_be_left, is_settled}
use Rattle.rdb_outside.specs.Memory.{State, written, state_of, content_of, memory_view}
use Rattle.rdb_outside.specs.Plan.{Plan, is_listed, fails_at, does_at}
use Rattle.rdb_outside.proofs.Calls.{state_push, pend, pend_of, settles, same_log, passes_or, adds_to, puts_to, written_adds, written_puts, lost_adds}
use Rattle.rdb_outside.proofs.Picks.{skip, grows, gives}

pub keeps_by : (w : Effect) (log new : List Event) (e : Event) (f g : ℕ) → e.effect ≡ w → may_be_left w ≡ false → (new ≡ log ++ e ∷ []) ⊎ (new ≡ log) → Keeps (memory_view log f) (memory_view new g)
keeps_by Passed log new e f g is left which = passes_or log new e f g is which
keeps_by Written log new e f g is left which = let bad : ⊥ = cc in absurd bad
keeps_by Lost log new e f g is left which = let bad : ⊥ = cc in absurd bad
keeps_by Settled log new e f g is left (inl more) = settles log new e f g is more
keeps_by Settled log new e f g is left (inr same) = same_log log new f g same

-- a barrier, kept as it is or as one that failed
pub barrier_left : (b : Bool) (e : Event) → e.effect ≡ Settled → may_be_left (if b then e else failed e).effect ≡ false
barrier_left true e is = ap may_be_left is
barrier_left false e is = ap (λ w. may_be_left (failing w)) is

pub barrier_does : (b : Bool) (e : Event) → e.effect ≡ Settled → b ≡ true → (if b then e else failed e).effect ≡ Settled
barrier_does true e is does = is
barrier_does false e is does = let bad : ⊥ = cc in absurd bad

does_by : (a b : Bool) → (a || b) ≡ false → (b || not a) ≡ true
does_by true b is = let bad : ⊥ = cc in absurd bad
does_by false true is = let bad : ⊥ = cc in absurd bad
does_by false false is = refl

-- a call that isn't to fail does what it is asked
pub fails_does : (plan : Plan) (t : ℕ) → fails_at plan t ≡ false → does_at plan t ≡ true
fails_does plan t is = does_by (is_listed plan.fails (t + 1)) (is_listed plan.done (t + 1)) is

pub adds_by : (w : Effect) (log new : List Event) (e : Event) (f g : ℕ) (file : FileId) (slot : ℕ) (bytes : List ℕ) → e.effect ≡ w → is_settled w ≡ false
    → (may_be_left w ≡ true → (e.file ≡ file) × (e.slot ≡ slot) × (written e ≡ bytes)) → (new ≡ log ++ e ∷ []) ⊎ (new ≡ log) → Adds file slot bytes (memory_view log f) (memory_view new g)
adds_by Passed log new e f g file slot bytes is plain puts which = λ h i x p. inl ((passes_or log new e f g is which).pending h i x p)
adds_by Written log new e f g file slot bytes is plain puts (inl more) = let here = puts refl in adds_to _ _ _ _ _ _ _ _ (written_adds log new e f g is more) here.0 here.1 here.2
adds_by Written log new e f g file slot bytes is plain puts (inr same) = λ h i x p. inl ((same_log log new f g same).pending h i x p)
adds_by Lost log new e f g file slot bytes is plain puts which = let here = puts refl in adds_to _ _ _ _ _ _ _ _ (lost_adds log new e f g is which) here.0 here.1 here.2
adds_by Settled log new e f g file slot bytes is plain puts which = let bad : ⊥ = cc in absurd bad

written_from : (w : Effect) → is_written w ≡ true → w ≡ Written
written_from Passed is = let bad : ⊥ = cc in absurd bad
written_from Written is = refl
written_from Lost is = let bad : ⊥ = cc in absurd bad
written_from Settled is = let bad : ⊥ = cc in absurd bad

pub puts_by : (log new : List Event) (e : Event) (file : FileId) (slot : ℕ) (bytes : List ℕ) → is_written e.effect ≡ true
    → (may_be_left e.effect ≡ true → (e.file ≡ file) × (e.slot ≡ slot) × (written e ≡ bytes)) → new ≡ log ++ e ∷ [] → Puts file slot bytes (content_of log) (content_of new)
puts_by log new e file slot bytes is puts more =
    let w = written_from e.effect is in let here = puts (ap may_be_left w) in
    puts_to _ _ _ _ _ _ _ _ (written_puts log new e w more) here.0 here.1 here.2

pub same_by : (log new : List Event) (e : Event) → is_written e.effect ≡ false → (new ≡ log ++ e ∷ []) ⊎ (new ≡ log) → SameContent (content_of log) (content_of new)
same_by log new e is (inl more) f i = ap (λ s. s.content f i) (ap state_of more ∙ state_push log e) ∙ skip e.effect e (state_of log) is f i
same_by log new e is (inr same) f i = ap (λ l. content_of l f i) same

pub same_or_puts : (log new : List Event) (e : Event) (file : FileId) (slot : ℕ) (bytes : List ℕ)
    → (may_be_left e.effect ≡ true → (e.file ≡ file) × (e.slot ≡ slot) × (written e ≡ bytes)) → (new ≡ log ++ e ∷ []) ⊎ (new ≡ log)
    → SameContent (content_of log) (content_of new) ⊎ Puts file slot bytes (content_of log) (content_of new)
same_or_puts log new e file slot bytes puts (inr same) = inl (λ f i. ap (λ l. content_of l f i) same)
same_or_puts log new e file slot bytes puts (inl more) = at (is_written e.effect) refl
  where
    at : (b : Bool) → is_written e.effect ≡ b → SameContent (content_of log) (content_of new) ⊎ Puts file slot bytes (content_of log) (content_of new)
    at true is = inr (puts_by log new e file slot bytes is puts more)
    at false is = inl (same_by log new e is (inl more))

-- a write that is kept may be left by a crash
pub may_by : (log new : List Event) (e : Event) (g : ℕ) (file : FileId) (slot : ℕ) (bytes : List ℕ) → may_be_left e.effect ≡ true
    → (may_be_left e.effect ≡ true → (e.file ≡ file) × (e.slot ≡ slot) × (written e ≡ bytes)) → new ≡ log ++ e ∷ [] → Pending (memory_view new g) file slot bytes
may_by log new e g file slot bytes is puts more =
    let here = puts is in
    let now : (state_of new).pending e.file e.slot (written e) = subst (λ (s : State). s.pending e.file e.slot (written e)) (sym (ap state_of more ∙ state_push log e)) (gives e.effect e (state_of log) is) in
    let first : (state_of new).pending file e.slot (written e) = subst (λ (f : FileId). (state_of new).pending f e.slot (written e)) here.0 now in
    let second : (state_of new).pending file slot (written e) = subst (λ (i : ℕ). (state_of new).pending file i (written e)) here.1 first in
    pend new g file slot bytes (subst (λ (x : List ℕ). (state_of new).pending file slot x) here.2 second)

-- what may be left is left out by nothing but a barrier
pub still : (log new : List Event) (e : Event) (f g : ℕ) → is_settled e.effect ≡ false → (new ≡ log ++ e ∷ []) ⊎ (new ≡ log) → StillPending (memory_view log f) (memory_view new g)
still log new e f g plain (inl more) h i x p =
    pend new g h i x (subst (λ (s : State). s.pending h i x) (sym (ap state_of more ∙ state_push log e)) (grows e.effect e (state_of log) h i x plain (pend_of log f h i x p)))
still log new e f g plain (inr same) h i x p = pend new g h i x (subst (λ (l : List Event). (state_of l).pending h i x) (sym same) (pend_of log f h i x p))

pub barrier_plain : (b : Bool) (e : Event) → e.effect ≡ Settled → b ≡ false → is_settled (if b then e else failed e).effect ≡ false
barrier_plain true e is fails = let bad : ⊥ = cc in absurd bad
barrier_plain false e is fails = ap (λ w. is_settled (failing w)) is
