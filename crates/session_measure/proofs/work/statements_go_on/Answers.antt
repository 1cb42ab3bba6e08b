use Rattle.std.proofs.Common.{refl, ap, arith, inl, inr, length, ◌-◌}
use Rattle.session_measure.specs.Weights.{unopened}
use Rattle.session_measure.proofs.Falling.{taken-up, next-need, housed}
use Rattle.session_measure.proofs.work.statements_go_on.Goals as goal

pub returns-clause-takes : goal.returns-clause-takes
returns-clause-takes c = λ k l s c item left total standing known spoken waits. inr (refl, inr (taken-up item left, inl (omega arith, refl)))

pub returns-clause-hands_out : goal.returns-clause-hands_out
returns-clause-hands_out c = λ k l s c item left total standing known spoken waits less. inr (refl, inr (refl, inr (refl, inl (less, refl))))

pub returns-clause-done : goal.returns-clause-done
returns-clause-done c = λ k s c item left total standing known spoken waits r. inr (refl, inr (refl, inl (omega arith, refl)))

pub returns-clause-reserves : goal.returns-clause-reserves
returns-clause-reserves c = λ k s c item left total standing known spoken waits r locks. inr (refl, inr (refl, inl (omega arith, refl)))

pub returns-clause-reserved : goal.returns-clause-reserved
returns-clause-reserved c = λ k s c item left total standing known spoken waits r locks place. inr (refl, inr (refl, inl (omega arith, refl)))

pub returns-clause-lacking : goal.returns-clause-lacking
returns-clause-lacking c = λ k s c item left total standing known spoken waits n. inr (refl, inr (refl, inr (refl, inr (refl, inl (omega arith, refl)))))

pub returns-clause-gathers : goal.returns-clause-gathers
returns-clause-gathers c = λ k s c item left total standing known spoken waits n later. inr (refl, inr (refl, inr (refl, inr (refl, inl (omega arith, refl)))))

pub returns-clause-read_on : goal.returns-clause-read_on
returns-clause-read_on c = λ k s c d item left total standing known new spoken waits n m later place found. inr (refl, inr (refl, inr (refl, inr (refl, inr (refl, inl (next-need later place m found, refl))))))

pub returns-clause-housed : goal.returns-clause-housed
returns-clause-housed c = λ k s c item left total standing known spoken waits n room key later place. inr (refl, inr (refl, inr (refl, inr (refl, inr (refl, inl (housed (length later - place), refl))))))

pub returns-clause-lodged_on : goal.returns-clause-lodged_on
returns-clause-lodged_on c = λ k s c d item left total standing known new spoken waits room key m later place found. inr (refl, inr (refl, inr (refl, inr (refl, inr (refl, inl (next-need later place m found, refl))))))

pub returns-clause-drops_lodging : goal.returns-clause-drops_lodging
returns-clause-drops_lodging c = λ k s c item left total standing known spoken waits room key later place. inr (refl, inr (refl, inr (refl, inr (refl, inl (omega arith, refl)))))

pub returns-clause-drops : goal.returns-clause-drops
returns-clause-drops c = λ k s c item left total standing known spoken waits n later place. inr (refl, inr (refl, inr (refl, inr (refl, inl (omega arith, refl)))))

pub returns-clause-drops_read : goal.returns-clause-drops_read
returns-clause-drops_read c = λ k s c item left total standing known spoken waits n later place. inr (refl, inr (refl, inr (refl, inr (refl, inl (omega arith, refl)))))

pub returns-clause-houses : goal.returns-clause-houses
returns-clause-houses c = λ k s c item left total standing known spoken waits n room key. inr (refl, inr (refl, inr (refl, inr (refl, inl (omega arith, refl)))))

pub returns-clause-read : goal.returns-clause-read
returns-clause-read c = λ k s c d item left total standing known new spoken waits n. inr (refl, inr (refl, inr (refl, inr (refl, inl (omega arith, refl)))))

pub returns-clause-lodged : goal.returns-clause-lodged
returns-clause-lodged c = λ k s c d item left total standing known new spoken waits room key. inr (refl, inr (refl, inr (refl, inr (refl, inl (omega arith, refl)))))

pub returns-clause-laid : goal.returns-clause-laid
returns-clause-laid c = λ k s c d item left total standing known new spoken waits r place. inr (refl, inr (refl, inl (omega arith, refl)))

pub returns-clause-more : goal.returns-clause-more
returns-clause-more c = λ k s c d left total standing known new spoken waits stage same fewer. inr (refl, inr (refl, inr (refl, inr (refl, inr (refl, inr (refl, inr (ap unopened same, inl (fewer, refl))))))))
