-- The memory of a store that begins is sound, and keeps what it must of commits.
use Rattle.std.proofs.Common.{◌≡◌, ◌≤◌, ◌+◌, ◌^◌, ◌==◌, inl, ℕ, zero, suc, Bool, true, false, List, [], ◌∷◌, length, Option, Some, None, refl, sym, ap, subst, ◌∙◌, arith}
use Rattle.std.specs.Prelude.{slice_get, if◌then◌else◌}
use Rattle.std.specs.FinMap.Entries.{find}
use Rattle.std.proofs.lemmas.Bool.{true≢false}
use Rattle.std.proofs.lemmas.Option.{none-some}
use Rattle.std.proofs.lemmas.List.Sums.{sum_by-cons}
use Rattle.rdb_types.specs.Order.{dbkey_order}
use Rattle.member_memory.specs.Memory.{Memory}
use Rattle.disk_store.specs.declared.member.Member.{Member}
use Rattle.disk_store.specs.declared.member.MemberStage.{MemberStage}
use Rattle.disk_store.specs.Memory.{StoreMemory}
use Rattle.disk_store.specs.Numbers.{AreAllowed}
use Rattle.disk_store.specs.Opening.{IsFresh, AreFresh}
use Rattle.disk_store.specs.Sound.{wanted_in, aside_in, IsSound}
use Rattle.disk_store.specs.Commits.{is_bound, is_flying, due_if, due_of, due_in, IsReady, KeepsCommits}
use Rattle.disk_store.proofs.Aside.{below}
use Rattle.disk_store.proofs.Sound.{sound-empty}

none-in : (a b : Bool) → ◌≡◌ {A = ℕ} (if a then 0 else (if b then 0 else 0)) 0
none-in true b = refl
none-in false true = refl
none-in false false = refl

none-wanted : (file : ℕ) (m : Member) → IsFresh m → wanted_in file m.aside ≡ 0
none-wanted file m fresh = ap (wanted_in file) fresh.aside ∙ none-in (file == 1) (file == 2)

none-aside : (file : ℕ) (ms : List Member) → AreFresh ms → aside_in file ms ≡ 0
none-aside file [] fresh = refl
none-aside file (m ∷ ms) fresh =
    let sum = sum_by-cons (λ (x : Member). wanted_in file x.aside) m ms in
    let here = none-wanted file m (fresh 0 m refl) in
    let rest = none-aside file ms (λ s x is. fresh (suc s) x is) in
    omega (arith, sum, here, rest)

pub first-sound : (h : StoreMemory) → 1 ≤ h.numbers.next → h.numbers.ceiling ≤ 2 ^ 62 → AreAllowed h.limits h.numbers → AreFresh h.members → IsSound h
first-sound h first last allowed fresh = record {
  first = first;
  last = last;
  allowed = allowed;
  each = λ s m is. let f = fresh s m is in let one = f.number in sound-empty h.tables m (omega (arith, one)) (omega (arith, one)) f.written;
  apart = λ s t m n key a b is also has too. absurd (none-some a (sym (ap (λ (w : Memory). find dbkey_order key w.lines) (fresh s m is).written) ∙ has));
  asides = λ file is. let none = none-aside file h.members fresh in omega (arith, none);
}

-- ---- commits

none-due : (x : Option Member) → ((m : Member) → x ≡ Some m → IsFresh m) → due_of x ≡ 0
none-due None fresh = refl
none-due (Some m) fresh = ap (λ (st : MemberStage). due_if (is_bound st) (length m.written.keys)) (fresh m refl).at

none-below : (f : ℕ → ℕ) → ((t : ℕ) → f t ≡ 0) → (n : ℕ) → below f n ≡ 0
none-below f none zero = refl
none-below f none (suc n) = let rest = none-below f none n in let one = none (suc n) in omega (arith, rest, one)

none-due-in : (ms : List Member) → AreFresh ms → due_in ms ≡ 0
none-due-in ms fresh = none-below (λ t. due_of (slice_get ms t)) (λ t. none-due (slice_get ms t) (fresh t)) 16

pub first-commits : (h : StoreMemory) → AreAllowed h.limits h.numbers → h.next.number + h.limits.slots ≤ 2 ^ 62 + h.next.slot → AreFresh h.members → KeepsCommits h
first-commits h allowed number fresh = record {
  alone = λ s t m n is also flies too. absurd (true≢false (sym flies ∙ ap is_flying (fresh s m is).at));
  room = inl (none-due-in h.members fresh);
  few = let slots = allowed.limited.slots in omega (arith, slots.1);
  number = number;
  ready = λ s m is. subst (λ (st : MemberStage). IsReady st h.tables m) (sym (fresh s m is).at) tt;
}
