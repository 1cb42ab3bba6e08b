use Rattle.std.proofs.Common.{◌≡◌, ◌≢◌, ◌<◌, ◌-◌, ℕ, ⊎_elim, sym, ap, subst, ◌∙◌, arith}
use Rattle.std.specs.Prelude.{slice_index}
use Rattle.rdb_types.specs.declared.keys.Tsn.{Tsn}
use Rattle.line_moves.proofs.Putting.{nat_cases}
use Rattle.version_writing.specs.Slots.{pusher_at}
use Rattle.version_writing.specs.Wanting.{IsUnwantedIn, with_pushers}
use Rattle.version_writing.proofs.Sifted.{may-more}
use Rattle.version_writing.proofs.sifting.sift.Goals as goal

pub sift-preserved-then-is_wanted : goal.sift-preserved-then-is_wanted
sift-preserved-then-is_wanted g c =
    let was = c.sift.invariant in
    let place = c.sift.place in
    let U : ℕ → Type 0 = IsUnwantedIn g.T.MayWant.unwanted c.args.members.now in
    record {
      within = omega (arith, c.sift-test.true);
      table = was.table;
      taken = was.taken;
      may = was.may;
      wanted = λ i less off. ⊎_elim
          (λ (same : i ≡ place). c.is_wanted.ensures.yes c.if-is_wanted.true (subst U (ap (λ (k : ℕ). (pusher_at c.sift.pushers (slice_index c.sift.taken k)).number) same ∙ ap (λ (t : Tsn). t.number) (sym c.pusher_of-pusher.ensures)) off))
          (λ (apart : i ≢ place). was.wanted i (omega (arith, less, apart)) off)
          (nat_cases i place);
    }

pub sift-preserved : goal.sift-preserved
sift-preserved g c =
    let was = c.sift.invariant in
    let place = c.sift.place in
    let give = c.give_at.ensures in
    let U : ℕ → Type 0 = IsUnwantedIn g.T.MayWant.unwanted c.args.members.now in
    let chain : ℕ = slice_index c.sift.taken place in
    let off : U (pusher_at c.sift.pushers chain).number = subst U (ap (λ (t : Tsn). t.number) c.pusher_of-pusher.ensures) (c.is_wanted.ensures.no c.if-is_wanted.false) in
    record {
      within = omega (arith, c.sift-test.true);
      table = give.table;
      taken = give.taken;
      may = may-more U (with_pushers c.args.stock.now c.args.pushers.now) (with_pushers c.sift.stock c.sift.pushers) (with_pushers c.give_at.new.stock c.give_at.new.pushers) chain was.may (was.taken.used place c.sift-test.true) give.gives off;
      wanted = λ i less still.
          let before : i < c.sift.left = omega (arith, less, c.sift-test.true) in
          let apart : slice_index c.sift.taken i ≢ chain = λ same. (let one : i ≡ place = was.taken.once i place before c.sift-test.true same in omega (arith, one, less)) in
          was.wanted i less (subst U (ap (λ (k : ℕ). (pusher_at c.give_at.new.pushers k).number) (give.before i less) ∙ ap (λ (t : Tsn). t.number) (give.gives.others (slice_index c.sift.taken i) (was.taken.used i before).first apart).1) still);
    }

pub returns-clause-gives : goal.returns-clause-gives
returns-clause-gives g c =
    let was = c.sift.invariant in
    let U : ℕ → Type 0 = IsUnwantedIn g.T.MayWant.unwanted c.args.members.now in
    record {
      may = was.may;
      wanted = λ chain busy off.
          let found = was.taken.has chain busy in
          was.wanted found.0 (omega (arith, found.1, c.sift-test.false)) (subst U (ap (λ (k : ℕ). (pusher_at c.sift.pushers k).number) (sym found.2)) off);
    }
