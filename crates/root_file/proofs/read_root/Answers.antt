use Rattle.root_file.proofs.read_root.Goals as goal

pub returns-in-None-clause-again : goal.returns-in-None-clause-again
returns-in-None-clause-again c = λ root is. absurd (c.in-None.ensures.none root is)
