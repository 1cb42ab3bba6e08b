use Rattle.line_history.proofs.Transactions.{holds-said, writing-beside, stands-told, stands-asked, commit-stands}
use Rattle.sound_maps.specs.Maps.{IsSoundWith}
use Rattle.sound_history.proofs.laws.transactions_hold_over_sound_lines.Goals as goal

pub returns-clause-said_more : goal.returns-clause-said_more
returns-clause-said_more c = holds-said IsSoundWith (λ all t m. m.0)

pub returns-clause-beside : goal.returns-clause-beside
returns-clause-beside c = writing-beside IsSoundWith (λ all t m. m.0)

pub returns-clause-told : goal.returns-clause-told
returns-clause-told c = stands-told IsSoundWith (λ all t m. m.0)

pub returns-clause-asked : goal.returns-clause-asked
returns-clause-asked c = stands-asked IsSoundWith (λ all t m. m.0)

pub returns-clause-commits : goal.returns-clause-commits
returns-clause-commits c = commit-stands IsSoundWith (λ all t m. m.0)
