use Rattle.std.proofs.Common.{◌≡◌, ◌<◌, ◌+◌, ◌^◌, ◌∙◌, ◌∷◌, [], ℕ, zero, suc, List, Some, ap, length, sym, subst, slice_get, arith, below_more}
use Rattle.std.proofs.lemmas.Option.{same_Some}
use Rattle.session_states.specs.declared.stage.Member.{Member}
use Rattle.line_cluster.specs.Turned.{rounds_at}
use Rattle.line_cluster.proofs.Bounds.{IsCounted, bounded}
use Rattle.line_cluster.proofs.sessions.Core.count.Goals as goal

next : (n : ℕ) → n + 1 ≡ suc n
next n = omega arith

pub loop-at-preserved : goal.loop-at-preserved
loop-at-preserved g c =
    let P : ℕ → Type 0 = λ i. (m : Member) → slice_get c.args.self.now.members.items i ≡ Some m → IsCounted (rounds_at c.args.self.now.allotments (suc i)) c.args.self.now.common.tree (suc i) m in
    let there : slice_get c.args.self.now.members.items c.loop-at.at ≡ Some c.member_at.result.now = ap (λ (ms : List Member). slice_get ms c.loop-at.at) (sym c.deref.ensures.value) ∙ c.member_at.ensures in
    below_more P c.loop-at.at c.loop-at.invariant (λ m found.
    subst (λ (x : Member). IsCounted (rounds_at c.args.self.now.allotments (suc c.loop-at.at)) c.args.self.now.common.tree (suc c.loop-at.at) x) (same_Some c.member_at.result.now m (sym there ∙ found))
    (subst (λ (t : ℕ). IsCounted (rounds_at c.args.self.now.allotments t) c.args.self.now.common.tree t c.member_at.result.now) (next c.loop-at.at) (record {
      items = c.count_session.ensures.items;
      places = c.count_session.ensures.places;
      handed = let e = c.rounds-rounds.ensures in omega (arith, e);
      needs = let e = c.count_needs-needs.ensures in omega (arith, e);
    })))

-- whom a place holds stands before the end
got-below : {A : Type 0} (xs : List A) (i : ℕ) (x : A) → slice_get xs i ≡ Some x → i < length xs
got-below [] i x h = cc h
got-below (y ∷ ys) zero x h = omega arith
got-below (y ∷ ys) (suc i) x h = let k = got-below ys i x h in omega (arith, k)

pub returns : goal.returns
returns g c = bounded _ c.args.self.now.members.items _ (record { locks = c.args.self.now.common.tree; steps = (g.L.LineStore.sight c.args.self.now.common.store).steps }) (g.L.LineStore.counts c.args.self.now.common.store).few c.requires.few
    (λ i m found. c.loop-at.invariant i (let k = got-below c.args.self.now.members.items i m found in omega (arith, k)) m found)
