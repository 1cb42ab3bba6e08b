use Rattle.std.proofs.Common.{refl, ◌+◌}
use Rattle.session_states.specs.declared.stage.ReaderWork.TheVariants.{Due, Out}
use Rattle.session_states.specs.declared.stage.ReaderStage.TheVariants.{Working, Gathering}
use Rattle.session_states.proofs.Reading.{begins-to-read, takes-to-read, goes-to-read, reads-more, answers-to-reader, forgoes-to-reader}
use Rattle.session_states.proofs.laws.reading.readers_step.Goals as goal

pub returns-clause-begins : goal.returns-clause-begins
returns-clause-begins g c = begins-to-read g.S.Statements.stands g.met.S.Statements.orderly

pub returns-clause-takes : goal.returns-clause-takes
returns-clause-takes g c = takes-to-read g.S.Statements.stands g.met.S.Statements.orderly

pub returns-clause-hands_out : goal.returns-clause-hands_out
returns-clause-hands_out g c = λ s d left total standing known spoken item. goes-to-read g.S.Statements.stands g.met.S.Statements.orderly s d left total standing known spoken (Working item Due) (Working item Out) refl refl (λ stays. stays)

pub returns-clause-lacking : goal.returns-clause-lacking
returns-clause-lacking g c = λ s d left total standing known spoken item n later. goes-to-read g.S.Statements.stands g.met.S.Statements.orderly s d left total standing known spoken (Working item Out) (Gathering item n later 0) refl refl (λ stays. stays)

pub returns-clause-more : goal.returns-clause-more
returns-clause-more g c = λ s d shelf left total standing known new spoken item n later place.
    reads-more g.S.Statements.stands g.met.S.Statements.orderly s d shelf left total standing known new spoken (Gathering item n later place) (Gathering item n later place) refl refl (λ stays. stays)

pub returns-clause-read_on : goal.returns-clause-read_on
returns-clause-read_on g c = λ s d shelf left total standing known new spoken item n m later place found.
    reads-more g.S.Statements.stands g.met.S.Statements.orderly s d shelf left total standing known new spoken (Gathering item n later place) (Gathering item m later (place + 1)) refl refl (λ stays. stays)

pub returns-clause-read : goal.returns-clause-read
returns-clause-read g c = λ s d shelf left total standing known new spoken item n later place.
    reads-more g.S.Statements.stands g.met.S.Statements.orderly s d shelf left total standing known new spoken (Gathering item n later place) (Working item Due) refl refl (λ stays. stays)

pub returns-clause-passes : goal.returns-clause-passes
returns-clause-passes g c = λ s d left total standing known spoken item n m later place found.
    goes-to-read g.S.Statements.stands g.met.S.Statements.orderly s d left total standing known spoken (Gathering item n later place) (Gathering item m later (place + 1)) refl refl (λ stays. stays)

pub returns-clause-drops : goal.returns-clause-drops
returns-clause-drops g c = λ s d left total standing known spoken item n later place.
    goes-to-read g.S.Statements.stands g.met.S.Statements.orderly s d left total standing known spoken (Gathering item n later place) (Working item Due) refl refl (λ stays. stays)

pub returns-clause-answered : goal.returns-clause-answered
returns-clause-answered g c = answers-to-reader g.S.Statements.stands g.met.S.Statements.orderly

pub returns-clause-forgone : goal.returns-clause-forgone
returns-clause-forgone g c = forgoes-to-reader g.S.Statements.stands g.met.S.Statements.orderly
