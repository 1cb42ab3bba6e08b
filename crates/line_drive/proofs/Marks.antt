-- The marks of what happened.
use Rattle.std.proofs.Common.{◌≡◌, ◌≤◌, ℕ, zero, suc, ◌+◌, ◌++◌, ◌∷◌, [], ◌==◌, Bool, true, false, List, length, refl, ◌∙◌, sym, ap, arith, map, take, drop}
use Rattle.std.proofs.lemmas.List.{map-append}
use Rattle.rdb_account.specs.declared.event.Event.{Event as Declared}
use Rattle.rdb_account.specs.Events.{Event, event_of}
use Rattle.rdb_drive.specs.Boards.{Mark, Says, Does, Other, AllOf, IsMarkOf, answers, answers_of, answers_by, answer_by}
use Rattle.line_cluster.specs.Turned.{mark_of}
use Rattle.line_drive.specs.Boards.{marks_of}

pub marks-map : (events : List Declared) → marks_of events ≡ map mark_of (map event_of events)
marks-map [] = refl
marks-map (e ∷ es) = ap (λ xs. mark_of (event_of e) ∷ xs) (marks-map es)

pub marks-grown : (old new : List Declared) (es : List Event) → map event_of new ≡ map event_of old ++ es → marks_of new ≡ marks_of old ++ map mark_of es
marks-grown old new es grown = marks-map new ∙ (ap (λ xs. map mark_of xs) grown ∙ (map-append mark_of (map event_of old) es ∙ ap (λ xs. xs ++ map mark_of es) (sym (marks-map old))))

pub length-marks : (events : List Declared) → length (marks_of events) ≡ length (map event_of events)
length-marks [] = refl
length-marks (e ∷ es) = ap suc (length-marks es)

pub length-events : (events : List Declared) → length (map event_of events) ≡ length events
length-events [] = refl
length-events (e ∷ es) = ap suc (length-events es)

-- ---- earlier events

take-front : {A : Type 0} (n : ℕ) (xs ys : List A) → n ≤ length xs → take n (xs ++ ys) ≡ take n xs
take-front zero xs ys within = refl
take-front (suc n) [] ys within = absurd (omega arith)
take-front (suc n) (x ∷ xs) ys within = ap (λ zs. x ∷ zs) (take-front n xs ys (omega arith))

pub take-grown : (n : ℕ) (old new es : List Event) → new ≡ old ++ es → n ≤ length old → take n new ≡ take n old
take-grown n old new es grown within = ap (λ xs. take n xs) grown ∙ take-front n old es within

pub take-all : {A : Type 0} (xs : List A) → take (length xs) xs ≡ xs
take-all [] = refl
take-all (x ∷ xs) = ap (λ zs. x ∷ zs) (take-all xs)

-- what stands behind the events before is what happened since
drop-behind : {A : Type 0} (xs ys : List A) → drop (length xs) (xs ++ ys) ≡ ys
drop-behind [] ys = refl
drop-behind (x ∷ xs) ys = drop-behind xs ys

map-drop : {A B : Type 0} (f : A → B) (n : ℕ) (xs : List A) → map f (drop n xs) ≡ drop n (map f xs)
map-drop f zero xs = refl
map-drop f (suc n) [] = refl
map-drop f (suc n) (x ∷ xs) = map-drop f n xs

pub marks-since : (old new : List Declared) (es : List Event) → map event_of new ≡ map event_of old ++ es → marks_of (drop (length old) new) ≡ map mark_of es
marks-since old new es grown =
    marks-map (drop (length old) new) ∙ ap (λ xs. map mark_of xs) (map-drop event_of (length old) new ∙ (ap (λ xs. drop (length old) xs) grown
    ∙ (ap (λ n. drop n (map event_of old ++ es)) (sym (length-events old)) ∙ drop-behind (map event_of old) es)))

-- ---- counts

append-counts : (t : ℕ) (xs ys : List Mark) → answers_by t (xs ++ ys) ≡ answers_by t xs + answers_by t ys
append-counts t [] ys = omega arith
append-counts t (x ∷ xs) ys = let more = append-counts t xs ys in omega (arith, more)

same-number : (s : ℕ) → (s == s) ≡ true
same-number s = grind arith

counted-own : (s : ℕ) (m : Mark) → IsMarkOf s m → answer_by s m ≡ answers_of m
counted-own s (Says t) of = rw of (rw (same-number s) refl)
counted-own s (Does t) of = refl
counted-own s Other of = refl

pub count-own : (s : ℕ) (ms : List Mark) → AllOf s ms → answers_by s ms ≡ answers ms
count-own s [] of = refl
count-own s (m ∷ ms) of = let one = counted-own s m of.0 in let more = count-own s ms of.1 in omega (arith, one, more)

counted-other : (s t : ℕ) (m : Mark) → IsMarkOf s m → (s == t) ≡ false → answer_by t m ≡ 0
counted-other s t (Says u) of other = rw of (rw other refl)
counted-other s t (Does u) of other = refl
counted-other s t Other of other = refl

pub count-other : (s t : ℕ) (ms : List Mark) → AllOf s ms → (s == t) ≡ false → answers_by t ms ≡ 0
count-other s t [] of other = refl
count-other s t (m ∷ ms) of other = let one = counted-other s t m of.0 other in let more = count-other s t ms of.1 other in omega (arith, one, more)

pub count-more : (t : ℕ) (old new : List Declared) (es : List Event) → map event_of new ≡ map event_of old ++ es → answers_by t (marks_of new) ≡ answers_by t (marks_of old) + answers_by t (map mark_of es)
count-more t old new es grown = ap (λ ms. answers_by t ms) (marks-grown old new es grown) ∙ append-counts t (marks_of old) (map mark_of es)

answer-few : (t : ℕ) (m : Mark) → answer_by t m ≤ 1
answer-few t (Says s) = by (s == t) refl
  where
    by : (b : Bool) → (s == t) ≡ b → answer_by t (Says s) ≤ 1
    by true e = rw e (omega arith)
    by false e = rw e (omega arith)
answer-few t (Does s) = omega arith
answer-few t Other = omega arith

-- no more than there are
pub count-few : (t : ℕ) (ms : List Mark) → answers_by t ms ≤ length ms
count-few t [] = omega arith
count-few t (m ∷ ms) = let one = answer-few t m in let more = count-few t ms in omega (arith, one, more)
