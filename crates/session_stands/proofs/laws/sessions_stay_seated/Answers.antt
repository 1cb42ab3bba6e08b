use Rattle.session_stands.proofs.Seating.{seated, keep-to, flies-all, alone, began}
use Rattle.session_stands.proofs.laws.sessions_stay_seated.Goals as goal

pub returns-clause-began : goal.returns-clause-began
returns-clause-began g c = began

pub returns-clause-seated : goal.returns-clause-seated
returns-clause-seated g c = λ stand there locks behind members i m n k found others parties mine. seated stand there locks behind members i m n k found others parties mine

pub returns-clause-keep_to : goal.returns-clause-keep_to
returns-clause-keep_to g c = λ stand locks members s k t other. keep-to stand locks members k t

pub returns-clause-flies : goal.returns-clause-flies
returns-clause-flies g c = flies-all

pub returns-clause-alone : goal.returns-clause-alone
returns-clause-alone g c = λ store locks s. alone (g.L.LineStore.sight store) locks s
