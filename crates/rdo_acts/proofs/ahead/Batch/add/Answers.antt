use Rattle.std.proofs.Common.{◌≡◌, List, refl, sym, subst}
use Rattle.line_view.specs.declared.need.Need.{Need}
use Rattle.line_view.specs.Held.{knows}
use Rattle.index_ahead.specs.Added.{AddsOnly}
use Rattle.index_ahead.proofs.Added.{kept, pushed}
use Rattle.rdo_acts.proofs.AheadNeeds.{added}
use Rattle.rdo_acts.proofs.ahead.Batch.add.Goals as goal

pub returns-in_ok-push-clause-ahead : goal.returns-in_ok-push-clause-ahead
returns-in_ok-push-clause-ahead c = λ first to.
    added (knows c.args.known.now) first c.args.self.now.needs c.push.new.self c.args.self.now.last c.args.need c.in_ok-push.ensures.ok
    (c.comes_behind.ensures c.if-comes_behind.true) (c.is_unknown.ensures c.if-is_unknown.true) to

pub returns-in_ok-push-clause-only : goal.returns-in_ok-push-clause-only
returns-in_ok-push-clause-only c =
    subst (λ (ns : List Need). AddsOnly (λ n. n ≡ c.args.need) c.args.self.now.needs ns) (sym c.in_ok-push.ensures.ok) (pushed (λ n. n ≡ c.args.need) c.args.need refl c.args.self.now.needs)

pub returns-else-comes_behind-clause-only : goal.returns-else-comes_behind-clause-only
returns-else-comes_behind-clause-only c = kept (λ n. n ≡ c.args.need) c.args.self.now.needs
