-- No image has anything in a slot that there isn't.
use Rattle.std.specs.Prelude.{ℕ, ◌≡◌, ◌<◌, ◌≤◌, Bool, true, false, List, [], ◌∷◌, ◌==◌, ◌&&◌, ◌||◌, not, nat_lt, if◌then◌else◌, refl}
use Rattle.std.proofs.Common.{◌∙◌, arith, inl, inr}
use Rattle.std.proofs.lemmas.Bool.{and_parts}
use Rattle.rdb_types.specs.declared.file.FileId.{FileId}
use Rattle.rdb_types.specs.File.{is_same}
use Rattle.rdb_outside.specs.declared.event.Effect.{Effect}
use Rattle.rdb_outside.specs.declared.event.Effect.TheVariants.{Passed, Written, Lost, Settled}
use Rattle.rdb_outside.specs.declared.event.Event.{Event}
use Rattle.rdb_outside.specs.Disk.{Image, zeros}
use Rattle.rdb_outside.specs.Failing.{may_be_left}
use Rattle.rdb_outside.specs.Memory.{State, put, written, adds, after_call, after, zeroed, IsImage}
use Rattle.rdb_outside.specs.MemoryLaws.{eq_from}
use Rattle.rdb_outside.specs.Plan.{is_within, are_within}
use Rattle.rdb_outside.proofs.Within.{less_from}

record IsBare (slots : ℕ) (s : State) : Type 0 where
  pub content : (f : FileId) (i : ℕ) → slots ≤ i → s.content f i ≡ zeros f
  pub pending : (f : FileId) (i : ℕ) (x : List ℕ) → slots ≤ i → s.pending f i x → x ≡ zeros f

elsewhere : (slots : ℕ) (e : Event) (image : Image) (f : FileId) (i : ℕ) → e.slot < slots → slots ≤ i → image f i ≡ zeros f → put e.file e.slot (written e) image f i ≡ zeros f
elsewhere slots e image f i low le was = at (is_same f e.file && (i == e.slot)) refl
  where
    at : (b : Bool) → (is_same f e.file && (i == e.slot)) ≡ b → (if b then written e else image f i) ≡ zeros f
    at true is = let eq = eq_from i e.slot (and_parts (is_same f e.file) (i == e.slot) is).1 in let bad : ⊥ = omega (arith, eq, low, le) in absurd bad
    at false is = was

more : (slots : ℕ) (e : Event) (s : State) (f : FileId) (i : ℕ) (x : List ℕ) → e.slot < slots → slots ≤ i → IsBare slots s → adds e.file e.slot (written e) s.pending f i x → x ≡ zeros f
more slots e s f i x low le was (inl old) = was.pending f i x le old
more slots e s f i x low le was (inr new) = let bad : ⊥ = omega (arith, new.1, low, le) in absurd bad

bare_call : (slots : ℕ) (w : Effect) (e : Event) (s : State) → (not (may_be_left w) || nat_lt e.slot slots) ≡ true → IsBare slots s → IsBare slots (after_call w e s)
bare_call slots Passed e s is was = was
bare_call slots Written e s is was = let low = less_from e.slot slots is in record {
  content = λ f i le. elsewhere slots e s.content f i low le (was.content f i le);
  pending = λ f i x le p. more slots e s f i x low le was p;
}
bare_call slots Lost e s is was = let low = less_from e.slot slots is in record {
  content = was.content;
  pending = λ f i x le p. more slots e s f i x low le was p;
}
bare_call slots Settled e s is was = record {
  content = was.content;
  pending = λ f i x le p. p ∙ was.content f i le;
}

bare : (slots : ℕ) (s : State) (log : List Event) → are_within slots log ≡ true → IsBare slots s → IsBare slots (after s log)
bare slots s [] all was = was
bare slots s (e ∷ log) all was = let both = and_parts (is_within slots e) (are_within slots log) all in bare slots (after_call e.effect e s) log both.1 (bare_call slots e.effect e s both.0 was)

pub image_bare : (slots : ℕ) (log : List Event) (image : Image) → are_within slots log ≡ true → IsImage log image → (f : FileId) (i : ℕ) → slots ≤ i → image f i ≡ zeros f
image_bare slots log image all is f i le = (bare slots zeroed log all (record { content = λ g j less. refl; pending = λ g j x less p. p })).pending f i (image f i) le (is f i)
