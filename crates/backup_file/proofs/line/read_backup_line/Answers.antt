use Rattle.backup_file.proofs.line.read_backup_line.Goals as goal

pub returns-in-None-clause-again : goal.returns-in-None-clause-again
returns-in-None-clause-again c = λ number line is. absurd (c.in-None.ensures.none number line is)
