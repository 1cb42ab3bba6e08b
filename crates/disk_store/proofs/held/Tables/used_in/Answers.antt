use Rattle.disk_store.proofs.held.Tables.used_in.Goals as goal

pub returns-in_default-clause-never : goal.returns-in_default-clause-never
returns-in_default-clause-never c = λ file used. c.in_default.ensures.none file used.owner
