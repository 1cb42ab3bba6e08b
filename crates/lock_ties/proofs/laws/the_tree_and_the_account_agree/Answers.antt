use Rattle.std.proofs.Common.{◌∙◌}
use Rattle.rdb_account.specs.Places.{place_from}
use Rattle.lock_ties.specs.Ties.{wanted_at}
use Rattle.lock_ties.proofs.Answers.{asked-tied}
use Rattle.lock_ties.proofs.Parted.{may-get, got-apart}
use Rattle.lock_ties.proofs.Got.{got-tied, closed-tied, ended-tied, wants-needs}
use Rattle.lock_ties.proofs.laws.the_tree_and_the_account_agree.Goals as goal

pub returns-clause-notice : goal.returns-clause-notice
returns-clause-notice c = λ o p s n x is_open old new wait t node mode tied call a. asked-tied o p s n x is_open old new a.0 tied call a.1 a.2

pub returns-clause-asleep : goal.returns-clause-asleep
returns-clause-asleep c = λ o p s n x is_open old new wait t tied call a. asked-tied o p s n x is_open old new a.1.0 tied call a.1.1 a.1.2

pub returns-clause-got : goal.returns-clause-got
returns-clause-got c = λ o p s n x is_open old new wait tied call a. got-tied o old new s n p x is_open tied call a.0

pub returns-clause-apart : goal.returns-clause-apart
returns-clause-apart c = λ o p s n x is_open old new wait tied call all a.
    let q = place_from o p (wanted_at s n call.asks.nodes) in
    may-get q s n (got-apart old new s n q (λ t. wants-needs o p s x n call.asks.nodes is_open t ∙ tied.needs t) call.others a.0 all)

pub returns-clause-refused : goal.returns-clause-refused
returns-clause-refused c = λ o p q s n x is_open old new tied call closed less needs. closed-tied o old new s n p q x is_open tied call closed less needs

pub returns-clause-ended : goal.returns-clause-ended
returns-clause-ended c = λ p q s old new tied others closed same less needs. ended-tied old new s p q tied others closed same less needs
