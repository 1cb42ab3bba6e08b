use Rattle.std.proofs.Common.{refl, ap, arith, inl, inr}
use Rattle.session_measure.specs.Weights.{life_left}
use Rattle.session_measure.proofs.Falling.{by-items, by-steps, taken-up}
use Rattle.session_measure.proofs.ends.transactions_go_on.Goals as goal

pub returns-clause-answered : goal.returns-clause-answered
returns-clause-answered c = λ k l s c d m n same fewer. by-items k l s c d m n (ap life_left same) fewer

pub returns-clause-steps : goal.returns-clause-steps
returns-clause-steps c = λ k s c d m same fewer. by-steps k s c d m same fewer

pub returns-clause-begins : goal.returns-clause-begins
returns-clause-begins c = λ k l s c d item left total waits. inr (refl, inr (taken-up item left, inl (omega arith, refl)))

pub returns-clause-opens : goal.returns-clause-opens
returns-clause-opens c = λ k s c d item left total standing known spoken waits. inr (refl, inr (refl, inl (omega arith, refl)))

pub returns-clause-takes_commit : goal.returns-clause-takes_commit
returns-clause-takes_commit c = λ k l s c item left total standing known spoken waits. inr (refl, inr (taken-up item left, inl (omega arith, refl)))

pub returns-clause-prepares : goal.returns-clause-prepares
returns-clause-prepares c = λ k s c d left total standing known spoken waits. inr (refl, inr (refl, inl (omega arith, refl)))

pub returns-clause-prepares_got : goal.returns-clause-prepares_got
returns-clause-prepares_got c = λ k s c d left total standing known spoken waits. inr (refl, inr (refl, inl (omega arith, refl)))

pub returns-clause-commits : goal.returns-clause-commits
returns-clause-commits c = λ k s c d left total standing known spoken waits. inr (refl, inr (refl, inl (omega arith, refl)))

pub returns-clause-undoes : goal.returns-clause-undoes
returns-clause-undoes c = λ k l s c d item left total standing known spoken waits. inr (refl, inr (taken-up item left, inl (omega arith, refl)))

pub returns-clause-leaves : goal.returns-clause-leaves
returns-clause-leaves c = λ k l s c d total standing known spoken waits. inr (refl, inr (refl, inl (omega arith, refl)))

pub returns-clause-over : goal.returns-clause-over
returns-clause-over c = λ k s c d left total standing known spoken waits. inr (refl, inr (refl, inl (omega arith, refl)))

pub returns-clause-closes : goal.returns-clause-closes
returns-clause-closes c = λ k s c d left total. inr (refl, inr (refl, inl (omega arith, refl)))

pub returns-clause-dies : goal.returns-clause-dies
returns-clause-dies c = λ k l s c d left total x. inl (omega arith, refl)

pub returns-clause-recovered : goal.returns-clause-recovered
returns-clause-recovered c = λ k l s c d left total x. inl (omega arith, refl)
