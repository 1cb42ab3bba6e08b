use Rattle.std.proofs.Common.{refl, ap, arith, inl, inr}
use Rattle.session_measure.specs.Weights.{unopened}
use Rattle.session_measure.proofs.Falling.{taken-up, next-place}
use Rattle.session_measure.proofs.readers.readers_go_on.Goals as goal

pub returns-clause-begins : goal.returns-clause-begins
returns-clause-begins c = λ k l s c d item left total. inr (refl, inr (taken-up item left, inl (omega arith, refl)))

pub returns-clause-copies : goal.returns-clause-copies
returns-clause-copies c = λ k l s c d item left total. inr (refl, inr (taken-up item left, inl (omega arith, refl)))

pub returns-clause-takes : goal.returns-clause-takes
returns-clause-takes c = λ k l s c item left total standing known spoken. inr (refl, inr (taken-up item left, inl (omega arith, refl)))

pub returns-clause-hands_out : goal.returns-clause-hands_out
returns-clause-hands_out c = λ k l s c item left total standing known spoken less. inr (refl, inr (refl, inr (refl, inl (less, refl))))

pub returns-clause-lacking : goal.returns-clause-lacking
returns-clause-lacking c = λ k s c item left total standing known spoken n later. inr (refl, inr (refl, inr (refl, inr (refl, inl (omega arith, refl)))))

pub returns-clause-read_on : goal.returns-clause-read_on
returns-clause-read_on c = λ k s c d item left total standing known new spoken n m later place found. inr (refl, inr (refl, inr (refl, inr (refl, inr (refl, inl (next-place later place m found, refl))))))

pub returns-clause-read : goal.returns-clause-read
returns-clause-read c = λ k s c d item left total standing known new spoken n later place. inr (refl, inr (refl, inr (refl, inr (refl, inl (omega arith, refl)))))

pub returns-clause-leaves : goal.returns-clause-leaves
returns-clause-leaves c = λ k l s c d total standing known spoken. inr (refl, inr (refl, inl (omega arith, refl)))

pub returns-clause-more : goal.returns-clause-more
returns-clause-more c = λ k s c d left total standing known new spoken stage same fewer. inr (refl, inr (refl, inr (refl, inr (refl, inr (refl, inr (refl, inr (ap unopened same, inl (fewer, refl))))))))
