-- The sessions from 1 on, one more.
use Rattle.std.proofs.Common.{◌≡◌, ℕ, zero, suc, ◌+◌, ◌++◌, ◌∷◌, [], List, length, refl, ◌∙◌, ap, arith, map}
use Rattle.std.proofs.lemmas.List.{map-append, append-nil}
use Rattle.std.proofs.lemmas.Grind.{flat_map-append}
use Rattle.std.specs.List.{flat_map}
use Rattle.rdb_drive.specs.Orders.{upward}
use Rattle.rdb_account.specs.declared.event.Event.{Event}
use Rattle.rdb_account.specs.Transcript.{transcript}
use Rattle.script_queues.specs.Scripts.{whole_script}
use Rattle.rdb_top.specs.Runs.{scripts_of, transcripts}

next-one : (first n : ℕ) → first + 1 + n ≡ first + suc n
next-one first n = omega arith

none-more : (first : ℕ) → first ≡ first + 0
none-more first = omega arith

upward-more : (first n : ℕ) → upward first (suc n) ≡ upward first n ++ (first + n) ∷ []
upward-more first zero = ap (λ k. k ∷ []) (none-more first)
upward-more first (suc n) = ap (λ ks. first ∷ ks) (upward-more (first + 1) n ∙ ap (λ k. upward (first + 1) n ++ k ∷ []) (next-one first n))

one-behind : (n : ℕ) → 1 + n ≡ n + 1
one-behind n = omega arith

plus-one : (n : ℕ) → n + 1 ≡ suc n
plus-one n = omega arith

pub transcripts-more : (n : ℕ) (events : List Event) → transcripts (n + 1) events ≡ transcripts n events ++ transcript (n + 1) events
transcripts-more n events =
    ap (λ k. transcripts k events) (plus-one n)
    ∙ (ap (λ ks. flat_map (λ s. transcript s events) ks) (upward-more 1 n ∙ ap (λ k. upward 1 n ++ k ∷ []) (one-behind n))
    ∙ (flat_map-append (λ s. transcript s events) (upward 1 n) ((n + 1) ∷ []) ∙ ap (λ bs. transcripts n events ++ bs) (append-nil (transcript (n + 1) events))))

pub scripts-more : (left : ℕ → List ℕ) (n : ℕ) → scripts_of left (n + 1) ≡ scripts_of left n ++ whole_script (left (n + 1)) ∷ []
scripts-more left n =
    ap (λ k. scripts_of left k) (plus-one n)
    ∙ (ap (λ ks. map (λ s. whole_script (left s)) ks) (upward-more 1 n ∙ ap (λ k. upward 1 n ++ k ∷ []) (one-behind n))
    ∙ map-append (λ s. whole_script (left s)) (upward 1 n) ((n + 1) ∷ []))

scripts-from : (left : ℕ → List ℕ) (first n : ℕ) → length (map (λ s. whole_script (left s)) (upward first n)) ≡ n
scripts-from left first zero = refl
scripts-from left first (suc n) = ap suc (scripts-from left (first + 1) n)

pub scripts-length : (left : ℕ → List ℕ) (n : ℕ) → length (scripts_of left n) ≡ n
scripts-length left n = scripts-from left 1 n
