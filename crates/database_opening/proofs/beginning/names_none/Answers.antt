use Rattle.std.proofs.Common.{rules, ◌≡◌, ◌≤◌, ◌-◌, length, arith}
use Rattle.database_opening.proofs.Counts.{zero_more, all_zero}
use Rattle.database_opening.proofs.beginning.names_none.Goals as goal

pub loop-place-preserved : goal.loop-place-preserved
loop-place-preserved c = zero_more c.args.numbers.now c.loop-place.place (search rules) c.loop-place.invariant

pub returns : goal.returns
returns c = λ yes_is member.
    let past : 16 ≤ c.loop-place.place = search rules in
    let long : length c.args.numbers.now ≡ 16 = search rules in
    all_zero c.args.numbers.now (λ k less. c.loop-place.invariant k (omega (arith, less, long, past))) (member - 1)
