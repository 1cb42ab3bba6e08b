use Rattle.restored_rolls.proofs.laws.copies_stand.Goals as goal

pub returns-clause-journal : goal.returns-clause-journal
returns-clause-journal c = λ image journal is. (record { header = is.header; whole = is.whole; stand = is.stand; no_more = is.no_more }, tt)

pub returns-clause-copy : goal.returns-clause-copy
returns-clause-copy c = λ image number copy copies journals is rest. (is, rest)
