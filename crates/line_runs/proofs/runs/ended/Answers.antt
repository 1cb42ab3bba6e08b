use Rattle.line_runs.proofs.Backups.{holds-backups, leaves-backups}
use Rattle.line_runs.proofs.Prefix.{harmed, holds-prefix, holds-all, spent-root}
use Rattle.line_runs.proofs.runs.ended.Goals as goal

pub returns-clause-images : goal.returns-clause-images
returns-clause-images g c o events has = holds-prefix _ o (g.D.Disk.view c.into_disk.result) events _ c.into_disk.ensures has

pub returns-clause-faults : goal.returns-clause-faults
returns-clause-faults g c faults more k = harmed (g.D.Disk.view c.into_disk.result) _ c.into_disk.ensures faults more k

pub returns-clause-left : goal.returns-clause-left
returns-clause-left g c o events it rests = holds-all _ o (g.D.Disk.view c.into_disk.result) events _ c.into_disk.ensures it rests

pub returns-clause-spent : goal.returns-clause-spent
returns-clause-spent g c k = spent-root (g.D.Disk.view c.into_disk.result) _ c.into_disk.ensures k

pub returns-clause-backups : goal.returns-clause-backups
returns-clause-backups g c o events has = holds-backups _ o g.B.FormerDisk.former (g.D.Disk.view c.into_disk.result) events _ c.into_disk.ensures has

pub returns-clause-backups_before : goal.returns-clause-backups_before
returns-clause-backups_before g c o events has = leaves-backups _ o g.B.FormerDisk.former (g.D.Disk.view c.into_disk.result) events _ c.into_disk.ensures has
