use Rattle.line_seat.proofs.SeatGoesOn.{behind_begun, behind_secured, behind_without, behind_takeoff, behind_landing, behind_fall}
use Rattle.line_seat.proofs.laws.a_seat_goes_on.Goals as goal

pub returns-clause-begins : goal.returns-clause-begins
returns-clause-begins g c = λ now member o all n other apart was. behind_begun (g.D.Disk.view c.args.disk.now) now member other o all n apart was

pub returns-clause-secures : goal.returns-clause-secures
returns-clause-secures g c = λ now member o all n other theirs entries apart is was. behind_secured (g.D.Disk.view c.args.disk.now) now member other o all n apart was theirs entries is

pub returns-clause-ends : goal.returns-clause-ends
returns-clause-ends g c = λ now member o all n other apart was. behind_without (g.D.Disk.view c.args.disk.now) now member other o all n apart was

pub returns-clause-takes_off : goal.returns-clause-takes_off
returns-clause-takes_off g c = λ now member o all n flight apart keys was. behind_takeoff (g.D.Disk.view c.args.disk.now) now member o all n flight was apart keys

pub returns-clause-lands : goal.returns-clause-lands
returns-clause-lands g c = λ now member o all n flight flies was. behind_landing (g.D.Disk.view c.args.disk.now) now member o all n flight was flies

pub returns-clause-falls : goal.returns-clause-falls
returns-clause-falls g c = λ now member o all n was. behind_fall (g.D.Disk.view c.args.disk.now) now member o all n was
