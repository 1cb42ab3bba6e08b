-- What one call more does to what a disk in memory tells.
use Rattle.std.specs.Prelude.{ℕ, ◌+◌, ◌≡◌, ◌≢◌, ◌≤◌, ◌<◌, ◌⊎◌, Bool, true, false, List, [], ◌∷◌, ◌++◌, length, take, ◌==◌, ◌&&◌, if◌then◌else◌, refl, Result, IsOk, IsErr, get_or}
use Rattle.std.proofs.Common.{Ok, Err}
use Rattle.std.proofs.lemmas.List.{take_more}
use Rattle.std.proofs.Common.{inl, inr, sym, ◌∙◌, ap, subst, arith, eq-eqb, length-append, ⊎_elim}
use Rattle.std.proofs.Math.Nat.{eq-or-lt_of_le}
use Rattle.std.proofs.Math.Seq.{take-length}
use Rattle.std.proofs.lemmas.List.{take-append-le}
use Rattle.std.proofs.lemmas.Bool.{and_parts}
use Rattle.rdb_types.specs.declared.file.FileId.{FileId}
use Rattle.rdb_outside.specs.declared.event.Effect.{Effect}
use Rattle.rdb_outside.specs.declared.event.Effect.TheVariants.{Passed, Written, Lost, Settled}
use Rattle.rdb_outside.specs.declared.event.Event.{Event}
use Rattle.rdb_types.specs.File.{slot_bytes, is_same, rank}
use Rattle.rdb_outside.specs.Disk.{Image, View, LeftNow, Pending, Elapses, Counts, Keeps, Puts, Adds, IsStable, zeros}
use Rattle.rdb_outside.specs.Causes.{Rose}
use Rattle.rdb_outside.specs.Failing.{is_written, writes}
use Rattle.rdb_outside.specs.Memory.{State, put, written, adds, after_call, after, zeroed, state_of, content_of, IsImage, LeftSince, memory_view}
use Rattle.rdb_outside.specs.MemoryLaws.{eq_from, same_file, content_is_image}

after_push : (s : State) (log : List Event) (e : Event) → after s (log ++ e ∷ []) ≡ after_call e.effect e (after s log)
after_push s [] e = refl
after_push s (d ∷ log) e = after_push (after_call d.effect d s) log e

pub state_push : (log : List Event) (e : Event) → state_of (log ++ e ∷ []) ≡ after_call e.effect e (state_of log)
state_push log e = after_push zeroed log e

same_self : (f : FileId) → is_same f f ≡ true
same_self f = rw (eq-eqb (rank f.kind) (rank f.kind) refl, eq-eqb f.number f.number refl) refl

-- what a slot may have after a crash, by the calls
pub pend_of : (log : List Event) (faults : ℕ) (f : FileId) (i : ℕ) (x : List ℕ) → Pending (memory_view log faults) f i x → (state_of log).pending f i x
pend_of log faults f i x p =
    let all : p.left.calls ≡ length log = omega (arith, p.left.from, p.left.made) in
    let whole : take p.left.calls log ≡ log = ap (λ n. take n log) all ∙ take-length log in
    let image : IsImage log p.image = subst (λ (l : List Event). IsImage l p.image) whole p.left.is_image in
    subst (λ (y : List ℕ). (state_of log).pending f i y) p.same (image f i)

pub pend : (log : List Event) (faults : ℕ) (f : FileId) (i : ℕ) (x : List ℕ) → (state_of log).pending f i x → Pending (memory_view log faults) f i x
pend log faults f i x may = record {
  image = put f i x (content_of log);
  left = record { calls = length log; from = omega arith; made = omega arith; is_image = subst (λ (l : List Event). IsImage l (put f i x (content_of log))) (sym (take-length log)) every };
  same = here;
}
  where
    here : put f i x (content_of log) f i ≡ x
    here = rw (same_self f, eq-eqb i i refl) refl

    at : (g : FileId) (j : ℕ) (b : Bool) → (is_same g f && (j == i)) ≡ b → (state_of log).pending g j (if b then x else content_of log g j)
    at g j true is = let both = and_parts (is_same g f) (j == i) is in
        let gf = same_file g f both.0 in let ji = eq_from j i both.1 in
        subst (λ (h : FileId). (state_of log).pending h j x) (sym gf) (subst (λ (k : ℕ). (state_of log).pending f k x) (sym ji) may)
    at g j false is = content_is_image log g j

    every : IsImage log (put f i x (content_of log))
    every g j = at g j (is_same g f && (j == i)) refl

pub elapses_same : (log : List Event) (f g : ℕ) → Elapses (memory_view log f) (memory_view log g)
elapses_same log f g = record { nothing_else = λ t image le left. inl left; keeps = λ t image le left. left }

pub elapses_push : (log : List Event) (e : Event) (f g : ℕ) → Elapses (memory_view log f) (memory_view (log ++ e ∷ []) g)
elapses_push log e f g = record {
  nothing_else = λ t image le left. by_calls t image left (eq-or-lt_of_le left.made);
  keeps = λ t image le left. record {
    calls = left.calls;
    from = left.from;
    made = omega (arith, left.made, length-append log (e ∷ []));
    is_image = subst (λ (l : List Event). IsImage l image) (sym (take-append-le left.calls log (e ∷ []) left.made)) left.is_image;
  };
}
  where
    by_calls : (t : ℕ) (image : Image) (left : LeftSince (log ++ e ∷ []) t image) → (left.calls ≡ length (log ++ e ∷ [])) ⊎ (left.calls < length (log ++ e ∷ [])) → LeftSince log t image ⊎ LeftNow (memory_view (log ++ e ∷ []) g) image
    by_calls t image left (inl all) = inr (record { calls = left.calls; from = omega (arith, all); made = left.made; is_image = left.is_image })
    by_calls t image left (inr less) = let le : left.calls ≤ length log = omega (arith, less, length-append log (e ∷ [])) in
        inl (record { calls = left.calls; from = left.from; made = le; is_image = subst (λ (l : List Event). IsImage l image) (take-append-le left.calls log (e ∷ []) le) left.is_image })

-- the call that succeeded
pub counts_ok : {T E : Type 0} (x : T) (log new : List Event) (e : Event) (f g : ℕ) → new ≡ log ++ e ∷ [] → g ≡ f → Counts {T = T} {E = E} (memory_view log f) (memory_view new g) (Ok x)
counts_ok {T = T} {E = E} x log new e f g is same = subst (λ (l : List Event). Counts {T = T} {E = E} (memory_view log f) (memory_view l g) (Ok x)) (sym is) (record {
  told = refl;
  later = omega (arith, length-append log (e ∷ []));
  moves = λ ok. omega (arith, length-append log (e ∷ []));
  no_fewer = omega (arith, same);
  cause = λ err. let bad : ⊥ = cc in absurd bad;
  time = λ told. elapses_push log e f g;
})

not_both : {T E : Type 0} (r : Result T E) → IsErr r → IsOk r → ⊥
not_both (Ok x) err ok = cc
not_both (Err y) err ok = cc

-- one that failed, kept or not
pub counts_err : {T E : Type 0} (r : Result T E) (log new : List Event) (e : Event) (f g : ℕ) → IsErr r → (new ≡ log ++ e ∷ []) ⊎ (new ≡ log) → Rose f g × (f ≤ g) → Counts (memory_view log f) (memory_view new g) r
counts_err r log new e f g err (inl is) rose = subst (λ (l : List Event). Counts (memory_view log f) (memory_view l g) r) (sym is) (record {
  told = refl;
  later = omega (arith, length-append log (e ∷ []));
  moves = λ ok. absurd (not_both r err ok);
  no_fewer = rose.1;
  cause = λ err. rose.0;
  time = λ told. elapses_push log e f g;
})
counts_err r log new e f g err (inr is) rose = subst (λ (l : List Event). Counts (memory_view log f) (memory_view l g) r) (sym is) (record {
  told = refl;
  later = omega arith;
  moves = λ ok. absurd (not_both r err ok);
  no_fewer = rose.1;
  cause = λ err. rose.0;
  time = λ told. elapses_same log f g;
})

-- what each kind of call does
passed_state : (log : List Event) (e : Event) → e.effect ≡ Passed → state_of (log ++ e ∷ []) ≡ state_of log
passed_state log e is = state_push log e ∙ ap (λ w. after_call w e (state_of log)) is

settled_state : (log : List Event) (e : Event) → e.effect ≡ Settled → state_of (log ++ e ∷ []) ≡ after_call Settled e (state_of log)
settled_state log e is = state_push log e ∙ ap (λ w. after_call w e (state_of log)) is

written_state : (log : List Event) (e : Event) → e.effect ≡ Written → state_of (log ++ e ∷ []) ≡ after_call Written e (state_of log)
written_state log e is = state_push log e ∙ ap (λ w. after_call w e (state_of log)) is

lost_state : (log : List Event) (e : Event) → e.effect ≡ Lost → state_of (log ++ e ∷ []) ≡ after_call Lost e (state_of log)
lost_state log e is = state_push log e ∙ ap (λ w. after_call w e (state_of log)) is

-- what holds of the states holds of what is told
keeps_from : (log new : List Event) (f g : ℕ) → ((file : FileId) (i : ℕ) → content_of new file i ≡ content_of log file i)
    → ((file : FileId) (i : ℕ) (x : List ℕ) → (state_of new).pending file i x → (state_of log).pending file i x) → Keeps (memory_view log f) (memory_view new g)
keeps_from log new f g same fewer = record { content = same; pending = λ file i x p. pend log f file i x (fewer file i x (pend_of new g file i x p)) }

pub passes : (log new : List Event) (e : Event) (f g : ℕ) → e.effect ≡ Passed → new ≡ log ++ e ∷ [] → Keeps (memory_view log f) (memory_view new g)
passes log new e f g is more =
    let st : state_of new ≡ state_of log = ap state_of more ∙ passed_state log e is in
    keeps_from log new f g (λ file i. ap (λ s. s.content file i) st) (λ file i x p. subst (λ (s : State). s.pending file i x) st p)

pub same_log : (log new : List Event) (f g : ℕ) → new ≡ log → Keeps (memory_view log f) (memory_view new g)
same_log log new f g is = keeps_from log new f g (λ file i. ap (λ l. content_of l file i) is) (λ file i x p. subst (λ (l : List Event). (state_of l).pending file i x) is p)

pub passes_or : (log new : List Event) (e : Event) (f g : ℕ) → e.effect ≡ Passed → (new ≡ log ++ e ∷ []) ⊎ (new ≡ log) → Keeps (memory_view log f) (memory_view new g)
passes_or log new e f g is (inl more) = passes log new e f g is more
passes_or log new e f g is (inr same) = same_log log new f g same

pub settles : (log new : List Event) (e : Event) (f g : ℕ) → e.effect ≡ Settled → new ≡ log ++ e ∷ [] → Keeps (memory_view log f) (memory_view new g)
settles log new e f g is more =
    let st : state_of new ≡ after_call Settled e (state_of log) = ap state_of more ∙ settled_state log e is in
    keeps_from log new f g (λ file i. ap (λ s. s.content file i) st)
    (λ file i x p. let eq : x ≡ content_of log file i = subst (λ (s : State). s.pending file i x) st p in subst (λ (y : List ℕ). (state_of log).pending file i y) (sym eq) (content_is_image log file i))

pub stable : (log new : List Event) (e : Event) (g : ℕ) → e.effect ≡ Settled → new ≡ log ++ e ∷ [] → IsStable (memory_view new g)
stable log new e g is more file i x p =
    let st : state_of new ≡ after_call Settled e (state_of log) = ap state_of more ∙ settled_state log e is in
    let eq : x ≡ content_of log file i = subst (λ (s : State). s.pending file i x) st (pend_of new g file i x p) in
    eq ∙ sym (ap (λ s. s.content file i) st)

adds_from : (log new : List Event) (e : Event) (f g : ℕ) → ((file : FileId) (i : ℕ) (x : List ℕ) → (state_of new).pending file i x → adds e.file e.slot (written e) (state_of log).pending file i x)
    → Adds e.file e.slot (written e) (memory_view log f) (memory_view new g)
adds_from log new e f g more file i x p = ⊎_elim (λ was. inl (pend log f file i x was)) (λ here. inr here) (more file i x (pend_of new g file i x p))

pub written_adds : (log new : List Event) (e : Event) (f g : ℕ) → e.effect ≡ Written → new ≡ log ++ e ∷ [] → Adds e.file e.slot (written e) (memory_view log f) (memory_view new g)
written_adds log new e f g is more =
    let st : state_of new ≡ after_call Written e (state_of log) = ap state_of more ∙ written_state log e is in
    adds_from log new e f g (λ file i x p. subst (λ (s : State). s.pending file i x) st p)

pub lost_adds : (log new : List Event) (e : Event) (f g : ℕ) → e.effect ≡ Lost → (new ≡ log ++ e ∷ []) ⊎ (new ≡ log) → Adds e.file e.slot (written e) (memory_view log f) (memory_view new g)
lost_adds log new e f g is (inl more) =
    let st : state_of new ≡ after_call Lost e (state_of log) = ap state_of more ∙ lost_state log e is in
    adds_from log new e f g (λ file i x p. subst (λ (s : State). s.pending file i x) st p)
lost_adds log new e f g is (inr same) = adds_from log new e f g (λ file i x p. inl (subst (λ (l : List Event). (state_of l).pending file i x) same p))

pub lost_keeps : (log new : List Event) (e : Event) → e.effect ≡ Lost → (new ≡ log ++ e ∷ []) ⊎ (new ≡ log) → (file : FileId) (i : ℕ) → content_of new file i ≡ content_of log file i
lost_keeps log new e is (inl more) file i = ap (λ s. s.content file i) (ap state_of more ∙ lost_state log e is)
lost_keeps log new e is (inr same) file i = ap (λ l. content_of l file i) same

put_here : (file : FileId) (i : ℕ) (x : List ℕ) (image : Image) → put file i x image file i ≡ x
put_here file i x image = rw (same_self file, eq-eqb i i refl) refl

put_else : (file f : FileId) (i j : ℕ) (x : List ℕ) (image : Image) → (f ≡ file → j ≢ i) → put file i x image f j ≡ image f j
put_else file f i j x image other = at (is_same f file && (j == i)) refl
  where
    at : (b : Bool) → (is_same f file && (j == i)) ≡ b → (if b then x else image f j) ≡ image f j
    at true is = let both = and_parts (is_same f file) (j == i) is in absurd (other (same_file f file both.0) (eq_from j i both.1))
    at false is = refl

pub written_puts : (log new : List Event) (e : Event) → e.effect ≡ Written → new ≡ log ++ e ∷ [] → Puts e.file e.slot (written e) (content_of log) (content_of new)
written_puts log new e is more =
    let st : state_of new ≡ after_call Written e (state_of log) = ap state_of more ∙ written_state log e is in
    record {
      here = ap (λ s. s.content e.file e.slot) st ∙ put_here e.file e.slot (written e) (content_of log);
      others = λ f i other. ap (λ s. s.content f i) st ∙ put_else e.file f e.slot i (written e) (content_of log) other;
    }

-- one call more, as a loop over the calls meets it
pub content_by : (w : Effect) (e : Event) (s : State) (file : FileId) (slot : ℕ) → (after_call w e s).content file slot ≡ (if is_written w && is_same file e.file && (slot == e.slot) then written e else s.content file slot)
content_by Passed e s file slot = refl
content_by Written e s file slot = refl
content_by Lost e s file slot = refl
content_by Settled e s file slot = refl

pub content_wrote : (log : List Event) (e : Event) (file : FileId) (slot : ℕ) → writes e file slot ≡ true → content_of (log ++ e ∷ []) file slot ≡ take (slot_bytes file) e.bytes
content_wrote log e file slot does =
    let both = and_parts (is_written e.effect && is_same file e.file) (slot == e.slot) does in
    let here = and_parts (is_written e.effect) (is_same file e.file) both.0 in
    let step : content_of (log ++ e ∷ []) file slot ≡ (if writes e file slot then written e else content_of log file slot) = ap (λ s. s.content file slot) (state_push log e) ∙ content_by e.effect e (state_of log) file slot in
    step ∙ ap (λ b. if b then written e else content_of log file slot) does ∙ ap (λ f. take (slot_bytes f) e.bytes) (sym (same_file file e.file here.1))

pub content_else : (log : List Event) (e : Event) (file : FileId) (slot : ℕ) → writes e file slot ≡ false → content_of (log ++ e ∷ []) file slot ≡ content_of log file slot
content_else log e file slot does =
    ap (λ s. s.content file slot) (state_push log e) ∙ content_by e.effect e (state_of log) file slot ∙ ap (λ b. if b then written e else content_of log file slot) does

pub loop_wrote : (log : List Event) (i : ℕ) (d : Event) (file : FileId) (slot : ℕ) → i < length log → writes (get_or log i d) file slot ≡ true → take (slot_bytes file) (get_or log i d).bytes ≡ content_of (take (i + 1) log) file slot
loop_wrote log i d file slot less does = sym (ap (λ l. content_of l file slot) (take_more log i d less) ∙ content_wrote (take i log) (get_or log i d) file slot does)

pub loop_else : (log : List Event) (i : ℕ) (d : Event) (file : FileId) (slot : ℕ) → i < length log → writes (get_or log i d) file slot ≡ false → content_of (take (i + 1) log) file slot ≡ content_of (take i log) file slot
loop_else log i d file slot less does = ap (λ l. content_of l file slot) (take_more log i d less) ∙ content_else (take i log) (get_or log i d) file slot does

and_false : (a b : Bool) → b ≡ false → (a && b) ≡ false
and_false true b is = is
and_false false b is = refl

false_and : (a b c : Bool) → (a && b) ≡ false → (a && c) ≡ false ⊎ (b ≡ false)
false_and true b c is = inr is
false_and false b c is = inl refl

pub other_slot : (e : Event) (file : FileId) (slot : ℕ) → (slot ≡ e.slot → ⊥) → writes e file slot ≡ false
other_slot e file slot other = and_false _ _ (at (slot == e.slot) refl)
  where
    at : (b : Bool) → (slot == e.slot) ≡ b → (slot == e.slot) ≡ false
    at true is = absurd (other (eq_from slot e.slot is))
    at false is = is

pub other_file : (e : Event) (file : FileId) (slot : ℕ) → writes e file e.slot ≡ false → writes e file slot ≡ false
other_file e file slot does = ⊎_elim (λ no. no) (λ no. let bad : ⊥ = (let yes : (e.slot == e.slot) ≡ true = eq-eqb e.slot e.slot refl in cc) in absurd bad) (false_and (is_written e.effect && is_same file e.file) (e.slot == e.slot) (slot == e.slot) does)

pub end_step : (log : List Event) (i : ℕ) (d : Event) (file : FileId) (end next : ℕ) → i < length log → ((slot : ℕ) → end ≤ slot → content_of (take i log) file slot ≡ zeros file)
    → end ≤ next → ((slot : ℕ) → next ≤ slot → writes (get_or log i d) file slot ≡ false) → (slot : ℕ) → next ≤ slot → content_of (take (i + 1) log) file slot ≡ zeros file
end_step log i d file end next less was later none slot le = loop_else log i d file slot less (none slot le) ∙ was slot (omega (arith, later, le))

-- the event of a write has what the write was given
pub written_is : (e : Event) (file : FileId) (bytes : List ℕ) → e.file ≡ file → length bytes ≡ slot_bytes file → take (length bytes) e.bytes ≡ bytes → written e ≡ bytes
written_is e file bytes same len is = ap (λ f. take (slot_bytes f) e.bytes) same ∙ ap (λ n. take n e.bytes) (sym len) ∙ is

pub adds_to : (f g : FileId) (i j : ℕ) (x y : List ℕ) (old new : View) → Adds f i x old new → f ≡ g → i ≡ j → x ≡ y → Adds g j y old new
adds_to f g i j x y old new adds fg ij xy h k z p = ⊎_elim (λ was. inl was) (λ here. inr (here.0 ∙ fg, here.1 ∙ ij, here.2 ∙ xy)) (adds h k z p)

pub puts_to : (f g : FileId) (i j : ℕ) (x y : List ℕ) (old new : Image) → Puts f i x old new → f ≡ g → i ≡ j → x ≡ y → Puts g j y old new
puts_to f g i j x y old new puts fg ij xy = record {
  here = ap (λ h. new h j) (sym fg) ∙ ap (λ k. new f k) (sym ij) ∙ puts.here ∙ xy;
  others = λ h k other. puts.others h k (λ hf ki. other (hf ∙ fg) (ki ∙ ij));
}

pub end_raise : (log : List Event) (i : ℕ) (d : Event) (file : FileId) (end next : ℕ) → i < length log → ((slot : ℕ) → end ≤ slot → content_of (take i log) file slot ≡ zeros file)
    → end ≤ (get_or log i d).slot → next ≡ (get_or log i d).slot + 1 → (slot : ℕ) → next ≤ slot → content_of (take (i + 1) log) file slot ≡ zeros file
end_raise log i d file end next less was low is = end_step log i d file end next less was (omega (arith, low, is)) (λ slot le. other_slot (get_or log i d) file slot (λ eq. omega (arith, eq, is, le)))

pub end_keep : (log : List Event) (i : ℕ) (d : Event) (file : FileId) (end next : ℕ) → i < length log → ((slot : ℕ) → end ≤ slot → content_of (take i log) file slot ≡ zeros file)
    → (get_or log i d).slot < end → next ≡ end → (slot : ℕ) → next ≤ slot → content_of (take (i + 1) log) file slot ≡ zeros file
end_keep log i d file end next less was low is = end_step log i d file end next less was (omega (arith, is)) (λ slot le. other_slot (get_or log i d) file slot (λ eq. omega (arith, eq, is, low, le)))

pub end_other : (log : List Event) (i : ℕ) (d : Event) (file : FileId) (end next : ℕ) → i < length log → ((slot : ℕ) → end ≤ slot → content_of (take i log) file slot ≡ zeros file)
    → writes (get_or log i d) file (get_or log i d).slot ≡ false → next ≡ end → (slot : ℕ) → next ≤ slot → content_of (take (i + 1) log) file slot ≡ zeros file
end_other log i d file end next less was none is = end_step log i d file end next less was (omega (arith, is)) (λ slot le. other_file (get_or log i d) file slot none)
