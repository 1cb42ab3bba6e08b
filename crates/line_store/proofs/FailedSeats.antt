-- Where a session stands behind a call that failed: a change alone is broken by it.
use Rattle.std.proofs.Common.{◌≡◌, false, refl}
use Rattle.line_store.specs.Seats.{Seat, outside, beginning, writing, changing, broken, prepared, committing, rolling_back, closing, reading, copying, dead, failed_at, is_changing, IsAtRest}

pub stays-failed : (seat : Seat) → is_changing seat ≡ false → failed_at seat ≡ seat
stays-failed outside plain = refl
stays-failed beginning plain = refl
stays-failed (writing ws) plain = refl
stays-failed (changing ws) plain = cc plain
stays-failed (broken ws) plain = refl
stays-failed (prepared ws) plain = refl
stays-failed (committing ws) plain = refl
stays-failed (rolling_back ws) plain = refl
stays-failed closing plain = refl
stays-failed (reading start) plain = refl
stays-failed (copying number start) plain = refl
stays-failed (dead commits ws) plain = refl

pub rests-failed : (seat : Seat) → IsAtRest seat → failed_at seat ≡ seat
rests-failed outside rests = refl
rests-failed beginning rests = refl
rests-failed (writing ws) rests = refl
rests-failed (changing ws) rests = absurd rests
rests-failed (broken ws) rests = refl
rests-failed (prepared ws) rests = refl
rests-failed (committing ws) rests = refl
rests-failed (rolling_back ws) rests = refl
rests-failed closing rests = refl
rests-failed (reading start) rests = refl
rests-failed (copying number start) rests = refl
rests-failed (dead commits ws) rests = refl
