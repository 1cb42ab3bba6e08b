use Rattle.std.proofs.Common.{arith}
use Rattle.line_moves.proofs.Runs.{still_tells}
use Rattle.reader_turns.proofs.TurnSteps.{turn_held, turn_further, turn_lands}
use Rattle.reader_turns.proofs.turns.a_turn_keeps_readers.Goals as goal

pub returns-clause-held : goal.returns-clause-held
returns-clause-held g c = let v = g.D.Disk.view in λ ledger limit course waiting plan turn file slot facts its other writes puts distinct waits was.
    turn_held (v c.args.before.now) (v c.args.after.now) ledger limit course waiting plan file slot c.requires.tells facts other writes puts distinct waits was turn its

pub returns-clause-further : goal.returns-clause-further
returns-clause-further g c = let v = g.D.Disk.view in λ ledger limit moment course waiting plan turn next file slot facts its other writes puts distinct waits is off was.
    turn_further (v c.args.before.now) (v c.args.after.now) ledger limit course waiting plan file slot c.requires.tells facts other writes puts distinct waits was turn next moment its is off

pub returns-clause-lands : goal.returns-clause-lands
returns-clause-lands g c = let v = g.D.Disk.view in λ ledger limit moment course waiting plan file slot facts under held behind other writes puts distinct waits was.
    let old = v c.args.before.now in let new = v c.args.after.now in
    turn_lands old new ledger limit course waiting plan file slot c.requires.tells facts other writes puts distinct waits was moment
    (g.met.D.Disk.content_left c.args.after.now new.moment (still_tells old new writes.told c.requires.tells) (omega arith)) under held behind
