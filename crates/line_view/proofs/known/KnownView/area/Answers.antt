use Rattle.std.proofs.Common.{rules, sym}
use Rattle.line_view.proofs.known.KnownView.area.Goals as goal
use Rattle.line_view.proofs.Entries.{find_keys}

pub returns : goal.returns
returns c = rw (sym c.self.view_is, find_keys c.args.area c.self.inside.areas.entries) (search rules)
