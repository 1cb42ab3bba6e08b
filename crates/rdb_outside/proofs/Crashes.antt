-- A crash by the calls: what the definition of picked writes says of one call more, and that the images are just the picks.
use Rattle.std.specs.Prelude.{ℕ, suc, ◌+◌, ◌%◌, ◌≡◌, ◌≤◌, ◌<◌, ◌⊎◌, Bool, true, false, List, [], ◌∷◌, ◌++◌, length, take, map, get_or, ◌==◌, ◌&&◌, if◌then◌else◌, refl}
use Rattle.std.proofs.Common.{inl, inr, sym, ◌∙◌, ap, arith, ⊎_elim, eq-eqb, length-append}
use Rattle.std.proofs.Math.Nat.{mod-eq_of_lt, eq-or-lt_of_le}
use Rattle.std.proofs.lemmas.List.{take_more, get_or_default, get_or-map, length-map}
use Rattle.rdb_outside.proofs.Picks.{some_event}
use Rattle.std.proofs.lemmas.Bool.{and_parts}
use Rattle.rdb_types.specs.declared.file.FileId.{FileId}
use Rattle.rdb_outside.specs.declared.event.Effect.{Effect}
use Rattle.rdb_outside.specs.declared.event.Effect.TheVariants.{Passed, Written, Lost, Settled}
use Rattle.rdb_outside.specs.declared.event.Event.{Event}
use Rattle.rdb_types.specs.File.{is_same, rank}
use Rattle.rdb_outside.specs.Disk.{Image}
use Rattle.rdb_outside.specs.Failing.{may_be_left, is_settled}
use Rattle.rdb_outside.specs.Memory.{State, put, written, after_call, after, state_of, content_of, IsImage}
use Rattle.rdb_outside.specs.MemoryLaws.{eq_from, same_file}
use Rattle.rdb_outside.specs.Picks.{Crash, crash_call, crash_after, crash_of, over, picked, turned, late_writes}

-- one call more
crash_push : (c : Crash) (log : List Event) (e : Event) → crash_after c (log ++ e ∷ []) ≡ crash_call e.effect e (crash_after c log)
crash_push c [] e = refl
crash_push c (d ∷ log) e = crash_push (crash_call d.effect d c) log e

pub crash_of_push : (log : List Event) (e : Event) → crash_of (log ++ e ∷ []) ≡ crash_call e.effect e (crash_of log)
crash_of_push log e = crash_push _ log e

pub crash_next : (h : List Event) (k : ℕ) (d : Event) → k < length h → crash_of (take (k + 1) h) ≡ crash_call (get_or h k d).effect (get_or h k d) (crash_of (take k h))
crash_next h k d less = ap crash_of (take_more h k d less) ∙ crash_of_push (take k h) (get_or h k d)

-- the contents of one slot that a crash may leave
abbrev pub Among : FileId → ℕ → List ℕ → List Event → Type 0
Among f i x [] = ⊥
Among f i x (e ∷ es) = ((f ≡ e.file) × (i ≡ e.slot) × (x ≡ written e)) ⊎ Among f i x es

among_old : (f : FileId) (i : ℕ) (x : List ℕ) (es : List Event) (e : Event) → Among f i x es → Among f i x (es ++ e ∷ [])
among_old f i x [] e was = absurd was
among_old f i x (d ∷ es) e (inl here) = inl here
among_old f i x (d ∷ es) e (inr was) = inr (among_old f i x es e was)

among_new : (f : FileId) (i : ℕ) (x : List ℕ) (es : List Event) (e : Event) → (f ≡ e.file) × (i ≡ e.slot) × (x ≡ written e) → Among f i x (es ++ e ∷ [])
among_new f i x [] e here = inl here
among_new f i x (d ∷ es) e here = inr (among_new f i x es e here)

among_pop : (f : FileId) (i : ℕ) (x : List ℕ) (es : List Event) (e : Event) → Among f i x (es ++ e ∷ []) → Among f i x es ⊎ ((f ≡ e.file) × (i ≡ e.slot) × (x ≡ written e))
among_pop f i x [] e (inl here) = inr here
among_pop f i x [] e (inr was) = absurd was
among_pop f i x (d ∷ es) e (inl here) = inl (inl here)
among_pop f i x (d ∷ es) e (inr was) = ⊎_elim (λ old. inl (inr old)) (λ new. inr new) (among_pop f i x es e was)

abbrev pub Pends : Crash → FileId → ℕ → List ℕ → Type 0
Pends c f i x = (x ≡ c.stable f i) ⊎ Among f i x c.late

-- the state and the crash say the same
record Alike (s : State) (c : Crash) : Type 0 where
  pub content : (f : FileId) (i : ℕ) → c.now f i ≡ s.content f i
  pub to : (f : FileId) (i : ℕ) (x : List ℕ) → s.pending f i x → Pends c f i x
  pub from : (f : FileId) (i : ℕ) (x : List ℕ) → Pends c f i x → s.pending f i x

more_pends : (c : Crash) (e : Event) (f : FileId) (i : ℕ) (x : List ℕ) → Pends c f i x → (x ≡ c.stable f i) ⊎ Among f i x (c.late ++ e ∷ [])
more_pends c e f i x (inl is) = inl is
more_pends c e f i x (inr was) = inr (among_old f i x c.late e was)

fewer_pends : (c : Crash) (e : Event) (f : FileId) (i : ℕ) (x : List ℕ) → (x ≡ c.stable f i) ⊎ Among f i x (c.late ++ e ∷ []) → Pends c f i x ⊎ ((f ≡ e.file) × (i ≡ e.slot) × (x ≡ written e))
fewer_pends c e f i x (inl is) = inl (inl is)
fewer_pends c e f i x (inr was) = ⊎_elim (λ old. inl (inr old)) (λ new. inr new) (among_pop f i x c.late e was)

alike_call : (w : Effect) (e : Event) (s : State) (c : Crash) → Alike s c → Alike (after_call w e s) (crash_call w e c)
alike_call Passed e s c was = was
alike_call Written e s c was = record {
  content = λ f i. ap (λ x. if is_same f e.file && (i == e.slot) then written e else x) (was.content f i);
  to = λ f i x p. ⊎_elim (λ old. more_pends c e f i x (was.to f i x old)) (λ new. inr (among_new f i x c.late e new)) p;
  from = λ f i x p. ⊎_elim (λ old. inl (was.from f i x old)) (λ new. inr new) (fewer_pends c e f i x p);
}
alike_call Lost e s c was = record {
  content = was.content;
  to = λ f i x p. ⊎_elim (λ old. more_pends c e f i x (was.to f i x old)) (λ new. inr (among_new f i x c.late e new)) p;
  from = λ f i x p. ⊎_elim (λ old. inl (was.from f i x old)) (λ new. inr new) (fewer_pends c e f i x p);
}
alike_call Settled e s c was = record {
  content = was.content;
  to = λ f i x p. inl (p ∙ sym (was.content f i));
  from = λ f i x p. ⊎_elim (λ is. is ∙ was.content f i) (λ none. absurd none) p;
}

alike : (s : State) (c : Crash) (log : List Event) → Alike s c → Alike (after s log) (crash_after c log)
alike s c [] was = was
alike s c (e ∷ log) was = alike (after_call e.effect e s) (crash_call e.effect e c) log (alike_call e.effect e s c was)

all_alike : (log : List Event) → Alike (state_of log) (crash_of log)
all_alike log = alike _ _ log (record { content = λ f i. refl; to = λ f i x p. inl p; from = λ f i x p. ⊎_elim (λ is. is) (λ none. absurd none) p })

pub crash_now : (log : List Event) (f : FileId) (i : ℕ) → (crash_of log).now f i ≡ content_of log f i
crash_now log f i = (all_alike log).content f i

-- The last barrier
pub settled_late : (h : List Event) (k : ℕ) (d : Event) → k < length h → (get_or h k d).effect ≡ Settled → (crash_of (take (k + 1) h)).late ≡ []
settled_late h k d less is = ap (λ c. c.late) (crash_next h k d less ∙ ap (λ w. crash_call w (get_or h k d) (crash_of (take k h))) is)

pub settled_stable : (h : List Event) (k : ℕ) (d : Event) → k < length h → (get_or h k d).effect ≡ Settled → (f : FileId) (i : ℕ) → (crash_of (take (k + 1) h)).stable f i ≡ content_of (take (k + 1) h) f i
settled_stable h k d less is f i =
    let c : crash_of (take (k + 1) h) ≡ crash_call Settled (get_or h k d) (crash_of (take k h)) = crash_next h k d less ∙ ap (λ w. crash_call w (get_or h k d) (crash_of (take k h))) is in
    ap (λ x. x.stable f i) c ∙ sym (ap (λ x. x.now f i) c) ∙ crash_now (take (k + 1) h) f i

pub settled_from : (w : Effect) → is_settled w ≡ true → w ≡ Settled
settled_from Passed is = let bad : ⊥ = cc in absurd bad
settled_from Written is = let bad : ⊥ = cc in absurd bad
settled_from Lost is = let bad : ⊥ = cc in absurd bad
settled_from Settled is = refl

pub later_step : (h : List Event) (end next i : ℕ) (d : Event) → next ≡ end → i < length h → is_settled (get_or h i d).effect ≡ false → ((k : ℕ) (d : Event) → end ≤ k → k < i → is_settled (get_or h k d).effect ≡ false)
    → (k : ℕ) (e : Event) → next ≤ k → k < i + 1 → is_settled (get_or h k e).effect ≡ false
later_step h end next i d same less is was k e le small = ⊎_elim (λ here. ap (λ n. is_settled (get_or h n e).effect) here ∙ ap (λ x. is_settled x.effect) (get_or_default h i e d less) ∙ is) (λ there. was k e (omega (arith, le, same)) there) (eq-or-lt_of_le (omega (arith, small)))

-- one write more over an image
over_push : (keep : ℕ → Bool) (j : ℕ) (es : List Event) (e : Event) (image : Image) → over keep j (es ++ e ∷ []) image ≡ (if keep (j + length es) then put e.file e.slot (written e) (over keep j es image) else over keep j es image)
over_push keep j [] e image = let n : j ≡ j + length {A = Event} [] = omega arith in ap (λ k. if keep k then put e.file e.slot (written e) image else image) n
over_push keep j (d ∷ es) e image =
    let n : (j + 1) + length es ≡ j + length (d ∷ es) = grind arith in
    let next = if keep j then put d.file d.slot (written d) image else image in
    over_push keep (j + 1) es e next ∙ ap (λ k. if keep k then put e.file e.slot (written e) (over keep (j + 1) es next) else over keep (j + 1) es next) n

-- a call that is no late write and no barrier
skip_call : (w : Effect) (e : Event) (c : Crash) → may_be_left w ≡ false → is_settled w ≡ false → crash_call w e c ≡ c
skip_call Passed e c none plain = refl
skip_call Written e c none plain = let bad : ⊥ = cc in absurd bad
skip_call Lost e c none plain = let bad : ⊥ = cc in absurd bad
skip_call Settled e c none plain = let bad : ⊥ = cc in absurd bad

pub crash_skip : (h : List Event) (k : ℕ) (d : Event) → k < length h → may_be_left (get_or h k d).effect ≡ false → is_settled (get_or h k d).effect ≡ false → crash_of (take (k + 1) h) ≡ crash_of (take k h)
crash_skip h k d less none plain = crash_next h k d less ∙ skip_call (get_or h k d).effect (get_or h k d) (crash_of (take k h)) none plain

late_call : (w : Effect) (e : Event) (c : Crash) → may_be_left w ≡ true → (crash_call w e c).late ≡ c.late ++ e ∷ []
late_call Passed e c is = let bad : ⊥ = cc in absurd bad
late_call Written e c is = refl
late_call Lost e c is = refl
late_call Settled e c is = let bad : ⊥ = cc in absurd bad

stable_call : (w : Effect) (e : Event) (c : Crash) → is_settled w ≡ false → (crash_call w e c).stable ≡ c.stable
stable_call Passed e c is = refl
stable_call Written e c is = refl
stable_call Lost e c is = refl
stable_call Settled e c is = let bad : ⊥ = cc in absurd bad

pub late_next : (h : List Event) (k : ℕ) (d : Event) → k < length h → may_be_left (get_or h k d).effect ≡ true → (crash_of (take (k + 1) h)).late ≡ (crash_of (take k h)).late ++ get_or h k d ∷ []
late_next h k d less is = ap (λ c. c.late) (crash_next h k d less) ∙ late_call (get_or h k d).effect (get_or h k d) (crash_of (take k h)) is

pub late_count : (h : List Event) (k : ℕ) (d : Event) → k < length h → may_be_left (get_or h k d).effect ≡ true → late_writes (take (k + 1) h) ≡ late_writes (take k h) + 1
late_count h k d less is = ap (λ es. length es) (late_next h k d less is) ∙ omega (arith, length-append (crash_of (take k h)).late (get_or h k d ∷ []))

pub picked_next : (keep : ℕ → Bool) (h : List Event) (k : ℕ) (d : Event) → k < length h → may_be_left (get_or h k d).effect ≡ true → is_settled (get_or h k d).effect ≡ false
    → picked (take (k + 1) h) keep ≡ (if keep (late_writes (take k h)) then put (get_or h k d).file (get_or h k d).slot (written (get_or h k d)) (picked (take k h) keep) else picked (take k h) keep)
picked_next keep h k d less is plain =
    let c = crash_of (take k h) in
    let stays : (crash_of (take (k + 1) h)).stable ≡ c.stable = ap (λ x. x.stable) (crash_next h k d less) ∙ stable_call (get_or h k d).effect (get_or h k d) c plain in
    ap (λ es. over keep 0 es (crash_of (take (k + 1) h)).stable) (late_next h k d less is)
    ∙ ap (λ image. over keep 0 (c.late ++ get_or h k d ∷ []) image) stays
    ∙ over_push keep 0 c.late (get_or h k d) c.stable
    ∙ (let n : 0 + length c.late ≡ length c.late = omega arith in ap (λ m. if keep m then put (get_or h k d).file (get_or h k d).slot (written (get_or h k d)) (picked (take k h) keep) else picked (take k h) keep) n)

-- Each pick is an image.
over_one : (keep : ℕ → Bool) (j : ℕ) (es : List Event) (image : Image) (f : FileId) (i : ℕ) → (over keep j es image f i ≡ image f i) ⊎ Among f i (over keep j es image f i) es
over_one keep j [] image f i = inl refl
over_one keep j (e ∷ es) image f i = by (λ base. over_one keep (j + 1) es base f i) (keep j) refl
  where
    here : ((base : Image) → (over keep (j + 1) es base f i ≡ base f i) ⊎ Among f i (over keep (j + 1) es base f i) es) → (base : Image) → ((base f i ≡ image f i) ⊎ ((f ≡ e.file) × (i ≡ e.slot) × (base f i ≡ written e))) → (over keep (j + 1) es base f i ≡ image f i) ⊎ Among f i (over keep (j + 1) es base f i) (e ∷ es)
    here rest base was = ⊎_elim (λ is. ⊎_elim (λ old. inl (is ∙ old)) (λ new. inr (inl (new.0, new.1, is ∙ new.2))) was) (λ later. inr (inr later)) (rest base)

    put_at : (b : Bool) → (is_same f e.file && (i == e.slot)) ≡ b → ((if b then written e else image f i) ≡ image f i) ⊎ ((f ≡ e.file) × (i ≡ e.slot) × ((if b then written e else image f i) ≡ written e))
    put_at true is = let both = and_parts (is_same f e.file) (i == e.slot) is in inr (same_file f e.file both.0, eq_from i e.slot both.1, refl)
    put_at false is = inl refl

    by : ((base : Image) → (over keep (j + 1) es base f i ≡ base f i) ⊎ Among f i (over keep (j + 1) es base f i) es) → (b : Bool) → keep j ≡ b → (over keep (j + 1) es (if b then put e.file e.slot (written e) image else image) f i ≡ image f i) ⊎ Among f i (over keep (j + 1) es (if b then put e.file e.slot (written e) image else image) f i) (e ∷ es)
    by rest true is = here rest (put e.file e.slot (written e) image) (put_at (is_same f e.file && (i == e.slot)) refl)
    by rest false is = here rest image (inl refl)

pub picked_is_image : (log : List Event) (keep : ℕ → Bool) → IsImage log (picked log keep)
picked_is_image log keep f i = (all_alike log).from f i (picked log keep f i) (over_one keep 0 (crash_of log).late (crash_of log).stable f i)

-- picks that agree
pub over_same : (a b : ℕ → Bool) (j : ℕ) (es : List Event) (image : Image) → ((k : ℕ) → k < j + length es → a k ≡ b k) → over a j es image ≡ over b j es image
over_same a b j [] image same = refl
over_same a b j (e ∷ es) image same =
    let n : j < j + length (e ∷ es) = grind arith in
    ap (λ c. over a (j + 1) es (if c then put e.file e.slot (written e) image else image)) (same j n)
    ∙ over_same a b (j + 1) es _ (λ k less. same k (grind arith))

pub picked_same : (a b : ℕ → Bool) (log : List Event) → ((k : ℕ) → k < late_writes log → a k ≡ b k) → picked log a ≡ picked log b
picked_same a b log same = over_same a b 0 (crash_of log).late (crash_of log).stable (λ k less. same k (omega (arith, less)))

-- Each image is a pick: of the late writes those are kept whose bytes the image has.
abbrev pub same_bytes : List ℕ → List ℕ → Bool
same_bytes [] [] = true
same_bytes (x ∷ xs) (y ∷ ys) = (x == y) && same_bytes xs ys
same_bytes [] (y ∷ ys) = false
same_bytes (x ∷ xs) [] = false

bytes_same : (xs ys : List ℕ) → same_bytes xs ys ≡ true → xs ≡ ys
bytes_same [] [] is = refl
bytes_same (x ∷ xs) (y ∷ ys) is = let both = and_parts (x == y) (same_bytes xs ys) is in ap (λ z. z ∷ xs) (eq_from x y both.0) ∙ ap (λ zs. y ∷ zs) (bytes_same xs ys both.1)
bytes_same [] (y ∷ ys) is = let bad : ⊥ = cc in absurd bad
bytes_same (x ∷ xs) [] is = let bad : ⊥ = cc in absurd bad

bytes_self : (xs : List ℕ) → same_bytes xs xs ≡ true
bytes_self [] = refl
bytes_self (x ∷ xs) = rw (eq-eqb x x refl) (bytes_self xs)

abbrev pub chosen : Image → Event → Bool
chosen target e = same_bytes (written e) (target e.file e.slot)

abbrev lay : (Event → Bool) → List Event → Image → Image
lay p [] image = image
lay p (e ∷ es) image = lay p es (if p e then put e.file e.slot (written e) image else image)

over_lay : (keep : ℕ → Bool) (p : Event → Bool) (d : Event) (j : ℕ) (es : List Event) (image : Image) → ((k : ℕ) → k < length es → keep (j + k) ≡ p (get_or es k d)) → over keep j es image ≡ lay p es image
over_lay keep p d j [] image same = refl
over_lay keep p d j (e ∷ es) image same =
    let first : keep j ≡ p e = (let n : j ≡ j + 0 = omega arith in ap keep n ∙ same 0 (grind arith)) in
    ap (λ c. over keep (j + 1) es (if c then put e.file e.slot (written e) image else image)) first
    ∙ over_lay keep p d (j + 1) es _ (λ k less. (let n : (j + 1) + k ≡ j + suc k = omega arith in ap keep n ∙ same (suc k) (grind arith)))

put_chosen : (target base : Image) (e : Event) (f : FileId) (i : ℕ) → (base f i ≡ target f i) ⊎ ((f ≡ e.file) × (i ≡ e.slot)) → written e ≡ target e.file e.slot → put e.file e.slot (written e) base f i ≡ target f i
put_chosen target base e f i was is = at (is_same f e.file && (i == e.slot)) refl was
  where
    at : (b : Bool) → (is_same f e.file && (i == e.slot)) ≡ b → (base f i ≡ target f i) ⊎ ((f ≡ e.file) × (i ≡ e.slot)) → (if b then written e else base f i) ≡ target f i
    at true does was = let both = and_parts (is_same f e.file) (i == e.slot) does in is ∙ ap (λ g. target g e.slot) (sym (same_file f e.file both.0)) ∙ ap (λ j. target f j) (sym (eq_from i e.slot both.1))
    at false does (inl same) = same
    at false does (inr here) = let yes : (is_same f e.file && (i == e.slot)) ≡ true = ap (λ g. is_same g e.file && (i == e.slot)) here.0 ∙ self e.file ∙ eq-eqb i e.slot here.1 in let bad : ⊥ = cc in absurd bad
      where
        self : (g : FileId) → (is_same g g && (i == e.slot)) ≡ (i == e.slot)
        self g = rw (eq-eqb (rank g.kind) (rank g.kind) refl, eq-eqb g.number g.number refl) refl

lay_keeps : (target : Image) (es : List Event) (base : Image) (f : FileId) (i : ℕ) → base f i ≡ target f i → lay (chosen target) es base f i ≡ target f i
lay_keeps target [] base f i was = was
lay_keeps target (e ∷ es) base f i was = lay_keeps target es _ f i (at (chosen target e) refl)
  where
    at : (b : Bool) → chosen target e ≡ b → (if b then put e.file e.slot (written e) base else base) f i ≡ target f i
    at true is = put_chosen target base e f i (inl was) (bytes_same _ _ is)
    at false is = was

lay_among : (target : Image) (es : List Event) (base : Image) (f : FileId) (i : ℕ) → Among f i (target f i) es → lay (chosen target) es base f i ≡ target f i
lay_among target [] base f i none = absurd none
lay_among target (e ∷ es) base f i (inr later) = lay_among target es _ f i later
lay_among target (e ∷ es) base f i (inl here) = lay_keeps target es _ f i (ap (λ b. (if b then put e.file e.slot (written e) base else base) f i) picks ∙ put_chosen target base e f i (inr (here.0, here.1)) has)
  where
    has : written e ≡ target e.file e.slot
    has = sym here.2 ∙ ap (λ g. target g i) here.0 ∙ ap (λ j. target e.file j) here.1

    picks : chosen target e ≡ true
    picks = ap (λ xs. same_bytes (written e) xs) (sym has) ∙ bytes_self (written e)

abbrev pub choice_of : List Event → Image → List Bool
choice_of log image = map (chosen image) (crash_of log).late

-- the list of choices keeps each late write whose bytes the image has
turned_map : (p : Event → Bool) (d : Event) (es : List Event) (k : ℕ) → k < length es → turned (map p es) (0 + k) ≡ p (get_or es k d)
turned_map p d es k less =
    let all : length (map p es) ≡ length es = length-map es p in
    let small : (0 + k) % length (map p es) ≡ k = mod-eq_of_lt {n = 0 + k} {m = length (map p es)} (omega (arith, less, all)) ∙ omega arith in
    ap (λ n. get_or (map p es) n false) small ∙ get_or-map p es k d false less

pub complete : (log : List Event) (image : Image) → IsImage log image → (f : FileId) (i : ℕ) → picked log (turned (choice_of log image)) f i ≡ image f i
complete log image is f i =
    ap (λ m. m f i) (over_lay (turned (choice_of log image)) (chosen image) some_event 0 (crash_of log).late (crash_of log).stable (turned_map (chosen image) some_event (crash_of log).late))
    ∙ ⊎_elim (λ stable. lay_keeps image (crash_of log).late (crash_of log).stable f i (sym stable)) (λ late. lay_among image (crash_of log).late (crash_of log).stable f i late) ((all_alike log).to f i (image f i) (is f i))

pub choice_length : (log : List Event) (image : Image) → length (choice_of log image) ≡ late_writes log
choice_length log image = length-map (crash_of log).late (chosen image)
