use Rattle.journal_scan.proofs.Stands.{stands, only_stands}
use Rattle.journal_scan.proofs.laws.one_thing_stands.Goals as goal

pub returns : goal.returns
returns c = record { stands = stands; only = only_stands }
