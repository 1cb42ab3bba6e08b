use Rattle.rdb_account.specs.Places.{place}
use Rattle.lock_ties.proofs.Single.{legal-one, may-want}
use Rattle.lock_ties.proofs.laws.asks_are_for_one_need.Goals as goal

pub returns : goal.returns
returns c = λ o events s n legal may. may-want (place o events) s n (legal-one o events legal) may
