use Rattle.std.proofs.Common.{ap}
use Rattle.fitted_groups.specs.declared.claims.PageClaim.{PageClaim}
use Rattle.fitted_groups.proofs.Claiming.{set_here, set_others, set_long, may_free, is_same, may_same, may_only, not_class}
use Rattle.fitted_groups.proofs.lines.claim_seat.Goals as goal

pub returns-then-found-eq0-clause-size : goal.returns-then-found-eq0-clause-size
returns-then-found-eq0-clause-size c = set_long c.args.claims.now c.args.seat c.args.claim

pub returns-then-found-eq0-clause-others : goal.returns-then-found-eq0-clause-others
returns-then-found-eq0-clause-others c = λ k apart. set_others c.args.claims.now c.args.seat c.args.claim k apart

pub returns-then-found-eq0-clause-claimed : goal.returns-then-found-eq0-clause-claimed
returns-then-found-eq0-clause-claimed c = λ is. set_here c.args.claims.now c.args.seat c.args.claim c.requires

pub returns-then-found-eq0-clause-was : goal.returns-then-found-eq0-clause-was
returns-then-found-eq0-clause-was c = λ is. may_free c.args.claims.now c.args.seat c.args.claim (record { owner = 0; class = 0 }) c.requires c.if-found-eq0.true

pub returns-then-found-claim-clause-claimed : goal.returns-then-found-claim-clause-claimed
returns-then-found-claim-clause-claimed c = λ is. is_same c.args.claims.now c.args.seat c.args.claim (record { owner = 0; class = 0 }) c.requires c.if-found-claim.true is

pub returns-then-found-claim-clause-was : goal.returns-then-found-claim-clause-was
returns-then-found-claim-clause-was c = λ is. may_same c.args.claims.now c.args.seat c.args.claim (record { owner = 0; class = 0 }) c.requires c.if-found-claim.true is

pub returns-then-found-claim-clause-refused : goal.returns-then-found-claim-clause-refused
returns-then-found-claim-clause-refused c = λ is may.
    not_class _ _ (ap (λ (f : PageClaim). f.class) (may_only c.args.claims.now c.args.seat c.args.claim (record { owner = 0; class = 0 }) c.requires c.if-found-eq0.false may)) is

pub returns-else-found-claim-clause-refused : goal.returns-else-found-claim-clause-refused
returns-else-found-claim-clause-refused c = λ is may.
    c.if-found-claim.false (ap (λ (f : PageClaim). f.owner) (may_only c.args.claims.now c.args.seat c.args.claim (record { owner = 0; class = 0 }) c.requires c.if-found-eq0.false may))
