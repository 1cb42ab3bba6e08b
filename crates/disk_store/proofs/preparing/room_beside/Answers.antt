use Rattle.std.proofs.Common.{◌≡◌, ◌≤◌, ◌<◌, ◌+◌, ◌-◌, ◌==◌, ℕ, zero, suc, List, [], ◌∷◌, length, get_or, Option, Some, None, SomeIff, MatchOption, false, refl, sym, ap, subst, ◌∙◌, arith}
use Rattle.std.specs.Prelude.{slice_get}
use Rattle.std.specs.ControlFlow.{continue_value}
use Rattle.std.proofs.lemmas.Bool.{eq-eqb}
use Rattle.disk_store.specs.Preparing.{aside_beside}
use Rattle.disk_store.proofs.Aside.{aside_at, below, all-below, some-below, next-below, aside-mine, aside-nobody, aside-other}
use Rattle.disk_store.proofs.preparing.room_beside.Goals as goal
use Rattle.disk_store.proofs.preparing.room_beside.Goals.{then-place-s+in-Some+in_ok-left, then-place-s+in_default, else-place-s}

taken-off : (r : Option ℕ) (P : Type 0) (v x : ℕ) → SomeIff r P v → r ≡ Some x → P × (x ≡ v)
taken-off r P v x h is = subst (λ (o : Option ℕ). SomeIff o P v) is h

other : (a b : ℕ) → (a ≡ b → ⊥) → (a == b) ≡ false
other a b h = grind arith

there : {X : Type 0} (xs : List X) (i : ℕ) (x : X) → i < length xs → ((d : X) → x ≡ get_or xs i d) → slice_get xs i ≡ Some x
there [] i x h k = absurd (omega (arith, h))
there (y ∷ ys) zero x h k = ap Some (sym (k y))
there (y ∷ ys) (suc i) x h k = there ys i x (omega (arith, h)) k

nobody : {X : Type 0} (xs : List X) (i : ℕ) → length xs ≤ i → slice_get xs i ≡ None
nobody [] i h = refl
nobody (y ∷ ys) zero h = absurd (omega (arith, h))
nobody (y ∷ ys) (suc i) h = nobody ys i (omega (arith, h))

pub returns-in_err-left : goal.returns-in_err-left
returns-in_err-left c =
    subst (λ r. MatchOption r (c.args.room < aside_beside c.args.s.number c.args.members.now) (λ left. left + aside_beside c.args.s.number c.args.members.now ≡ c.args.room)) (sym c.from_residual.ensures) over
  where
    over : c.args.room < aside_beside c.args.s.number c.args.members.now
    over =
        let s = c.args.s.number in
        let ms = c.args.members.now in
        let t = c.loop-place.place in
        let here = aside-other s ms t c.in-Some.member.now (other t s c.if-place-s.true) (there ms t c.in-Some.member.now c.in-Some.ensures.lookup.3.0 c.in-Some.ensures.lookup.3.1) in
        let next = next-below (aside_at s ms) t c.loop-place.auto.place in
        let most = some-below s ms ((t + 1) - 1) (omega (arith, c.loop-place-test.true)) in
        let fewer = c.in_err-left.ensures in
        less c.aside_for.result c.loop-place.left (below (aside_at s ms) (t - 1)) (aside_beside s ms) c.args.room fewer c.loop-place.invariant (omega (arith, most, next, here, c.aside_for.ensures))
      where
        less : (aside left part all room : ℕ) → (aside ≤ left → ⊥) → left + part ≡ room → part + aside ≤ all → room < all
        less aside left part all room h k m = grind arith

pub loop-place-preserved : goal.loop-place-preserved
loop-place-preserved c = elim c.if-place-s.branch [
  | then-place-s+in-Some+in_ok-left w ↦
      let s = c.args.s.number in
      let ms = c.args.members.now in
      let t = c.loop-place.place in
      let off = taken-off w.checked_sub.result _ _ w.in_ok-left.left w.checked_sub.ensures (w.branch-left.ensures ∙ ap continue_value w.in_ok-left.is) in
      let here = aside-other s ms t w.in-Some.member.now (other t s w.if-place-s.true) (there ms t w.in-Some.member.now w.in-Some.ensures.lookup.3.0 w.in-Some.ensures.lookup.3.1) in
      let next = next-below (aside_at s ms) t c.loop-place.auto.place in
      omega (arith, off.0, off.1, here, next, w.left-is, w.aside_for.ensures, c.loop-place.invariant)
  | then-place-s+in_default w ↦
      let s = c.args.s.number in
      let ms = c.args.members.now in
      let t = c.loop-place.place in
      let here = aside-nobody s ms t (nobody ms t w.in_default.ensures.lookup.3) in
      let next = next-below (aside_at s ms) t c.loop-place.auto.place in
      omega (arith, here, next, w.left-is, c.loop-place.invariant)
  | else-place-s w ↦
      let s = c.args.s.number in
      let ms = c.args.members.now in
      let t = c.loop-place.place in
      let here = aside-mine s ms t (eq-eqb t s w.if-place-s.false) in
      let next = next-below (aside_at s ms) t c.loop-place.auto.place in
      omega (arith, here, next, w.left-is, c.loop-place.invariant)
]

pub returns : goal.returns
returns c =
    let at = ap (below (aside_at c.args.s.number c.args.members.now)) (last c.loop-place.place c.loop-place-test.false (c.loop-place.auto.place-end (omega arith))) in
    let all = all-below c.args.s.number c.args.members.now in
    omega (arith, at, all, c.loop-place.invariant)
  where
    last : (t : ℕ) → 17 ≤ t → t ≤ 17 → t - 1 ≡ 16
    last t h k = omega (arith, h, k)
