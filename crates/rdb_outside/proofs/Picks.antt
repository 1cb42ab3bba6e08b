-- How an image of a disk in memory is made of its calls.
use Rattle.std.specs.Prelude.{ℕ, ◌+◌, ◌≡◌, ◌≤◌, ◌<◌, Bool, true, false, List, [], ◌∷◌, ◌++◌, length, take, get_or, ◌==◌, if◌then◌else◌, refl}
use Rattle.std.proofs.Common.{inl, inr, sym, ◌∙◌, ap, subst, arith}
use Rattle.std.proofs.lemmas.List.{take_more}
use Rattle.std.proofs.lemmas.Bool.{and_parts}
use Rattle.rdb_types.specs.declared.file.FileId.{FileId}
use Rattle.rdb_types.specs.declared.file.FileKind.TheVariants.{Root}
use Rattle.rdb_outside.specs.declared.event.Effect.{Effect}
use Rattle.rdb_outside.specs.declared.event.Effect.TheVariants.{Passed, Written, Lost, Settled}
use Rattle.rdb_outside.specs.declared.event.Event.{Event}
use Rattle.rdb_types.specs.File.{is_same}
use Rattle.rdb_outside.specs.Disk.{Image}
use Rattle.rdb_outside.specs.Failing.{is_written, writes, may_be_left, is_settled, kept}
use Rattle.rdb_outside.specs.Memory.{State, written, after_call, state_of, content_of, IsImage, LeftSince}
use Rattle.rdb_outside.specs.MemoryLaws.{eq_from, same_file}
use Rattle.rdb_outside.proofs.Calls.{state_push, content_by}

pub content_push : (log : List Event) (e : Event) (file : FileId) (slot : ℕ) → content_of (log ++ e ∷ []) file slot ≡ (if writes e file slot then written e else content_of log file slot)
content_push log e file slot = ap (λ s. s.content file slot) (state_push log e) ∙ content_by e.effect e (state_of log) file slot

pub again_wrote : (log h : List Event) (k : ℕ) (d : Event) → k < length h → ((file : FileId) (slot : ℕ) → content_of log file slot ≡ content_of (take k h) file slot)
    → (file : FileId) (slot : ℕ) → content_of (log ++ get_or h k d ∷ []) file slot ≡ content_of (take (k + 1) h) file slot
again_wrote log h k d less same file slot =
    let e = get_or h k d in
    content_push log e file slot ∙ ap (λ x. if writes e file slot then written e else x) (same file slot) ∙ sym (content_push (take k h) e file slot) ∙ ap (λ l. content_of l file slot) (sym (take_more h k d less))

pub skip : (w : Effect) (e : Event) (s : State) → is_written w ≡ false → (file : FileId) (slot : ℕ) → (after_call w e s).content file slot ≡ s.content file slot
skip Passed e s is file slot = refl
skip Written e s is file slot = let bad : ⊥ = cc in absurd bad
skip Lost e s is file slot = refl
skip Settled e s is file slot = refl

pub again_skip : (log h : List Event) (k : ℕ) (d : Event) → k < length h → is_written (get_or h k d).effect ≡ false → ((file : FileId) (slot : ℕ) → content_of log file slot ≡ content_of (take k h) file slot)
    → (file : FileId) (slot : ℕ) → content_of log file slot ≡ content_of (take (k + 1) h) file slot
again_skip log h k d less is same file slot =
    let e = get_or h k d in
    same file slot ∙ sym (skip e.effect e (state_of (take k h)) is file slot) ∙ ap (λ s. s.content file slot) (sym (state_push (take k h) e)) ∙ ap (λ l. content_of l file slot) (sym (take_more h k d less))

pub grows : (w : Effect) (e : Event) (s : State) (f : FileId) (i : ℕ) (x : List ℕ) → is_settled w ≡ false → s.pending f i x → (after_call w e s).pending f i x
grows Passed e s f i x is may = may
grows Written e s f i x is may = inl may
grows Lost e s f i x is may = inl may
grows Settled e s f i x is may = let bad : ⊥ = cc in absurd bad

left_not_settled : (w : Effect) → may_be_left w ≡ true → is_settled w ≡ false
left_not_settled Passed is = refl
left_not_settled Written is = refl
left_not_settled Lost is = refl
left_not_settled Settled is = let bad : ⊥ = cc in absurd bad

pub gives : (w : Effect) (e : Event) (s : State) → may_be_left w ≡ true → (after_call w e s).pending e.file e.slot (written e)
gives Passed e s is = let bad : ⊥ = cc in absurd bad
gives Written e s is = inr (refl, refl, refl)
gives Lost e s is = inr (refl, refl, refl)
gives Settled e s is = let bad : ⊥ = cc in absurd bad

to_next : (h : List Event) (k : ℕ) (d : Event) (image : Image) → k < length h → ((f : FileId) (i : ℕ) → (after_call (get_or h k d).effect (get_or h k d) (state_of (take k h))).pending f i (image f i)) → IsImage (take (k + 1) h) image
to_next h k d image less every = subst (λ (l : List Event). IsImage l image) (sym (take_more h k d less)) (subst (λ (s : State). (f : FileId) (i : ℕ) → s.pending f i (image f i)) (sym (state_push (take k h) (get_or h k d))) every)

pub pick_skip : (h : List Event) (k : ℕ) (d : Event) (image : Image) → k < length h → is_settled (get_or h k d).effect ≡ false → IsImage (take k h) image → IsImage (take (k + 1) h) image
pick_skip h k d image less is was = to_next h k d image less (λ f i. grows (get_or h k d).effect (get_or h k d) (state_of (take k h)) f i (image f i) is (was f i))

pub pick_take : (log h : List Event) (k : ℕ) (d : Event) → k < length h → may_be_left (get_or h k d).effect ≡ true → IsImage (take k h) (content_of log) → IsImage (take (k + 1) h) (content_of (log ++ kept (get_or h k d) ∷ []))
pick_take log h k d less is was = to_next h k d _ less (λ f i. subst (λ (x : List ℕ). (after_call e.effect e (state_of (take k h))).pending f i x) (sym (content_push log (kept e) f i)) (at f i (writes (kept e) f i) refl))
  where
    e : Event
    e = get_or h k d

    at : (f : FileId) (i : ℕ) (b : Bool) → writes (kept e) f i ≡ b → (after_call e.effect e (state_of (take k h))).pending f i (if b then written e else content_of log f i)
    at f i true does =
        let both = and_parts (is_same f e.file) (i == e.slot) does in
        let fe = same_file f e.file both.0 in let ie = eq_from i e.slot both.1 in
        subst (λ (g : FileId). (after_call e.effect e (state_of (take k h))).pending g i (written e)) (sym fe) (subst (λ (j : ℕ). (after_call e.effect e (state_of (take k h))).pending e.file j (written e)) (sym ie) (gives e.effect e (state_of (take k h)) is))
    at f i false does = grows e.effect e (state_of (take k h)) f i (content_of log f i) (left_not_settled e.effect is) (was f i)

-- images that agree
pub same_image : (h : List Event) (a b : Image) → ((f : FileId) (i : ℕ) → a f i ≡ b f i) → IsImage h a → IsImage h b
same_image h a b same was f i = subst (λ (x : List ℕ). (state_of h).pending f i x) (same f i) (was f i)

pub image_of : (h a b : List Event) → a ≡ b → IsImage h (content_of b) → IsImage h (content_of a)
image_of h a b same was = subst (λ (l : List Event). IsImage h (content_of l)) (sym same) was

abbrev pub some_event : Event
some_event = record { effect = Passed; file = record { kind = Root; number = 0 }; slot = 0; bytes = [] }

-- a barrier keeps the image
pub closed : (h log new : List Event) (e : Event) → e.effect ≡ Settled → new ≡ log ++ e ∷ [] → IsImage h (content_of log) → IsImage h (content_of new)
closed h log new e is more was = same_image h (content_of log) (content_of new) (λ f i. sym (ap (λ l. content_of l f i) more ∙ ap (λ s. s.content f i) (state_push log e) ∙ skip e.effect e (state_of log) (ap is_written is) f i)) was

pub left_at : (log same : List Event) (t : ℕ) (image : Image) → same ≡ log → t ≤ length log → IsImage (take t same) image → LeftSince log t image
left_at log same t image is le was = record { calls = t; from = omega arith; made = le; is_image = subst (λ (l : List Event). IsImage (take t l) image) is was }

-- a barrier changes nothing that reads give
pub barrier_same : (log new : List Event) (e : Event) → e.effect ≡ Settled → new ≡ log ++ e ∷ [] → (f : FileId) (i : ℕ) → content_of new f i ≡ content_of log f i
barrier_same log new e is more f i = ap (λ l. content_of l f i) more ∙ ap (λ s. s.content f i) (state_push log e) ∙ skip e.effect e (state_of log) (ap is_written is) f i
