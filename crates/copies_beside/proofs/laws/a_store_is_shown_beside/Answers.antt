use Rattle.copies_beside.proofs.Shelves.{does_beside, shown_beside}
use Rattle.copies_beside.proofs.laws.a_store_is_shown_beside.Goals as goal

pub returns-clause-shown : goal.returns-clause-shown
returns-clause-shown g c = let v = g.D.Disk.view in λ number beside h shown. shown_beside number (v c.args.before.now) (v c.args.after.now) beside c.args.held.now h shown

pub returns-clause-does : goal.returns-clause-does
returns-clause-does g c = let v = g.D.Disk.view in λ number session beside. does_beside number (v c.args.before.now) (v c.args.after.now) beside c.args.held.now session
