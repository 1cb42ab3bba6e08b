-- The steps of what the cases drive.
use Rattle.std.proofs.lemmas.List.{append-nil, map-append, take_more}
use Rattle.std.proofs.Common.{take, get_or, ◌≡◌, ℕ, zero, suc, ◌+◌, ◌≤◌, ◌<◌, ◌==◌, if◌then◌else◌, nat_lt, Bool, true, false, List, [], ◌∷◌, ◌++◌, length, map, refl, inl, ap, sym, ◌∙◌, arith}
use Rattle.rdb_drive.specs.declared.driven.Step.TheVariants.{Compute, Moved, Asleep, Stopped, Ended}
use Rattle.rdb_drive.specs.Boards.{Says, answers_by}
use Rattle.rdb_drive.proofs.Boards.{answers_by-append}
use Rattle.rdb_drive.specs.Steps.{IsAwake, IsQuiet, Goes, StepOf, RecoveryOf}
use Rattle.drive_cases.specs.Talk.{talk_board}

-- where session 1 has ended nobody sleeps
nobody_sleeps : (s : ℕ) → (if s == 1 then false else nat_lt 0 0) ≡ false
nobody_sleeps s = grind arith

pub awake : (said : List ℕ) (first second : ℕ) (stopped : Bool) → IsAwake 2 (talk_board said first second stopped)
awake said zero second stopped = λ s is e. (s, is, e, nobody_sleeps s)
awake said (suc first) second stopped = λ s is e. (1, (omega arith, omega arith), grind arith, refl)

still_ended : (t f g h k : ℕ) → h ≤ f → k ≤ g → (if t == 1 then f == 0 else g == 0) ≡ true → (if t == 1 then h == 0 else k == 0) ≡ true
still_ended t f g h k le la e = grind arith

pub quiet : (said : List ℕ) (s f g : ℕ) (b : Bool) → IsQuiet s (talk_board said f g b) (talk_board said f g b)
quiet said s f g b = record { asleep = λ t not e. e; ended = λ t not. refl; measure = inl refl }

-- nothing is said
pub goes_silent : (said : List ℕ) (f g h k : ℕ) (b d : Bool) → h ≤ f → k ≤ g → Goes (talk_board said f g b) (talk_board said h k d) []
goes_silent said f g h k b d le la =
    record {
      marks = sym (append-nil (map (λ s. Says s) said));
      rests = λ n s less r. tt;
      ended = λ t e. still_ended t f g h k le la e;
    }

-- a session is answered
pub goes_answered : (said : List ℕ) (s f g h k : ℕ) (b d : Bool) → h ≤ f → k ≤ g → Goes (talk_board said f g b) (talk_board (said ++ s ∷ []) h k d) (Says s ∷ [])
goes_answered said s f g h k b d le la =
    record {
      marks = map-append (λ n. Says n) said (s ∷ []);
      rests = λ n t less r. tt;
      ended = λ t e. still_ended t f g h k le la e;
    }

pub answered_step : (said : List ℕ) (s f g h k : ℕ) (b : Bool) → h ≤ f → k ≤ g → h + k < f + g → StepOf {P = ℕ} 2 s (talk_board said f g b) (talk_board (said ++ s ∷ []) h k b) Moved
answered_step said s f g h k b le la less =
    record {
      more = Says s ∷ [];
      goes = goes_answered said s f g h k b b le la;
      of_s = (refl, tt);
      tells = ((tt, inl (less, refl)), omega arith);
      awake = awake (said ++ s ∷ []) h k b;
    }

pub worked_step : (said : List ℕ) (s f g h p : ℕ) (b : Bool) → h < f → StepOf {P = ℕ} 2 s (talk_board said f g b) (talk_board said h g b) (Compute p)
worked_step said s f g h p b less =
    record {
      more = [];
      goes = goes_silent said f g h g b b (omega arith) (omega arith);
      of_s = tt;
      tells = ((tt, inl (omega arith, refl)), refl);
      awake = awake said h g b;
    }

pub slept_step : (said : List ℕ) (f g : ℕ) (b : Bool) → 0 < f → 0 < g → StepOf {P = ℕ} 2 2 (talk_board said f g b) (talk_board said f g b) Asleep
slept_step said f g b busy some =
    record {
      more = [];
      goes = goes_silent said f g f g b b (omega arith) (omega arith);
      of_s = tt;
      tells = (tt, grind arith, grind arith, quiet said 2 f g b, refl);
      awake = awake said f g b;
    }

pub stopped_step : (said : List ℕ) (s f g : ℕ) (b : Bool) → StepOf {P = ℕ} 2 s (talk_board said f g b) (talk_board said f g true) Stopped
stopped_step said s f g b =
    record {
      more = [];
      goes = goes_silent said f g f g b true (omega arith) (omega arith);
      of_s = tt;
      tells = (refl, inl refl);
      awake = awake said f g true;
    }

pub no_recovery : (said : List ℕ) (f g : ℕ) (b : Bool) → RecoveryOf {P = ℕ} 2 (talk_board said f g b) (talk_board said f g b) Ended
no_recovery said f g b =
    record {
      more = [];
      goes = goes_silent said f g f g b b (omega arith) (omega arith);
      nobodys = tt;
      tells = (refl, inl refl);
      awake = awake said f g b;
    }

-- one entry more
pub answers_more : (s i : ℕ) (said : List ℕ) → i < length said → answers_by s (map (λ n. Says n) (take (i + 1) said)) ≡ answers_by s (map (λ n. Says n) (take i said)) + (if get_or said i 0 == s then 1 else 0)
answers_more s i said less =
    let e = ap (λ xs. answers_by s (map (λ n. Says n) xs)) (take_more said i 0 less) in
    let f = ap (answers_by s) (map-append (λ n. Says n) (take i said) (get_or said i 0 ∷ [])) in
    let g = answers_by-append s (map (λ n. Says n) (take i said)) (Says (get_or said i 0) ∷ []) in
    e ∙ (f ∙ (g ∙ ap (λ n. answers_by s (map (λ m. Says m) (take i said)) + n) (omega arith)))
