-- What the calls of a store ask of a seat, where its lines play no part.
use Rattle.std.proofs.Common.{◌≡◌, Bool, true, [], refl, sym, ap, ◌∙◌, Some, is_some}
use Rattle.line_store.specs.Seats.{Seat, outside, beginning, writing, changing, broken, prepared, committing, rolling_back, closing, reading, copying, dead, done_at, is_committing, IsWriting, IsPrepared, IsReader, IsAlive}
use Rattle.line_store.specs.Sights.{bare}

pub outside-seat : (seat : Seat) → bare seat ≡ outside → seat ≡ outside
outside-seat outside h = refl
outside-seat beginning h = cc h
outside-seat (writing ws) h = cc h
outside-seat (changing ws) h = cc h
outside-seat (broken ws) h = cc h
outside-seat (prepared ws) h = cc h
outside-seat (committing ws) h = cc h
outside-seat (rolling_back ws) h = cc h
outside-seat closing h = cc h
outside-seat (reading start) h = cc h
outside-seat (copying number start) h = cc h
outside-seat (dead commits ws) h = cc h

pub beginning-seat : (seat : Seat) → bare seat ≡ beginning → seat ≡ beginning
beginning-seat outside h = cc h
beginning-seat beginning h = refl
beginning-seat (writing ws) h = cc h
beginning-seat (changing ws) h = cc h
beginning-seat (broken ws) h = cc h
beginning-seat (prepared ws) h = cc h
beginning-seat (committing ws) h = cc h
beginning-seat (rolling_back ws) h = cc h
beginning-seat closing h = cc h
beginning-seat (reading start) h = cc h
beginning-seat (copying number start) h = cc h
beginning-seat (dead commits ws) h = cc h

pub writing-seat : (seat : Seat) → bare seat ≡ writing [] → IsWriting seat
writing-seat outside h = cc h
writing-seat beginning h = cc h
writing-seat (writing ws) h = tt
writing-seat (changing ws) h = cc h
writing-seat (broken ws) h = cc h
writing-seat (prepared ws) h = cc h
writing-seat (committing ws) h = cc h
writing-seat (rolling_back ws) h = cc h
writing-seat closing h = cc h
writing-seat (reading start) h = cc h
writing-seat (copying number start) h = cc h
writing-seat (dead commits ws) h = cc h

pub prepared-seat : (seat : Seat) → bare seat ≡ prepared [] → IsPrepared seat
prepared-seat outside h = cc h
prepared-seat beginning h = cc h
prepared-seat (writing ws) h = cc h
prepared-seat (changing ws) h = cc h
prepared-seat (broken ws) h = cc h
prepared-seat (prepared ws) h = tt
prepared-seat (committing ws) h = cc h
prepared-seat (rolling_back ws) h = cc h
prepared-seat closing h = cc h
prepared-seat (reading start) h = cc h
prepared-seat (copying number start) h = cc h
prepared-seat (dead commits ws) h = cc h

pub reader-seat : (seat : Seat) → bare seat ≡ reading [] → IsReader seat
reader-seat outside h = cc h
reader-seat beginning h = cc h
reader-seat (writing ws) h = cc h
reader-seat (changing ws) h = cc h
reader-seat (broken ws) h = cc h
reader-seat (prepared ws) h = cc h
reader-seat (committing ws) h = cc h
reader-seat (rolling_back ws) h = cc h
reader-seat closing h = cc h
reader-seat (reading start) h = tt
reader-seat (copying number start) h = cc h
reader-seat (dead commits ws) h = cc h

pub committing-seat : (seat : Seat) → bare seat ≡ committing [] → is_committing seat ≡ true
committing-seat outside h = cc h
committing-seat beginning h = cc h
committing-seat (writing ws) h = cc h
committing-seat (changing ws) h = cc h
committing-seat (broken ws) h = cc h
committing-seat (prepared ws) h = cc h
committing-seat (committing ws) h = refl
committing-seat (rolling_back ws) h = cc h
committing-seat closing h = cc h
committing-seat (reading start) h = cc h
committing-seat (copying number start) h = cc h
committing-seat (dead commits ws) h = cc h

-- what is told to be done
pub done-bare : (seat : Seat) → is_some (done_at (bare seat)) ≡ is_some (done_at seat)
done-bare outside = refl
done-bare beginning = refl
done-bare (writing ws) = refl
done-bare (changing ws) = refl
done-bare (broken ws) = refl
done-bare (prepared ws) = refl
done-bare (committing ws) = refl
done-bare (rolling_back ws) = refl
done-bare closing = refl
done-bare (reading start) = refl
done-bare (copying number start) = refl
done-bare (dead commits ws) = refl

pub done-seat : (seat there : Seat) → bare seat ≡ there → is_some (done_at there) ≡ true → is_some (done_at seat) ≡ true
done-seat seat there e h = sym (done-bare seat) ∙ (ap (λ (x : Seat). is_some (done_at x)) e ∙ h)

pub closing-seat : (seat : Seat) → done_at (bare seat) ≡ Some outside → done_at seat ≡ Some outside
closing-seat outside h = h
closing-seat beginning h = h
closing-seat (writing ws) h = h
closing-seat (changing ws) h = cc h
closing-seat (broken ws) h = h
closing-seat (prepared ws) h = h
closing-seat (committing ws) h = h
closing-seat (rolling_back ws) h = h
closing-seat closing h = h
closing-seat (reading start) h = h
closing-seat (copying number start) h = cc h
closing-seat (dead commits ws) h = h

pub dead-seat : (seat : Seat) (b : Bool) → bare seat ≡ dead b [] → IsAlive seat → ⊥
dead-seat outside b h k = cc h
dead-seat beginning b h k = cc h
dead-seat (writing ws) b h k = cc h
dead-seat (changing ws) b h k = cc h
dead-seat (broken ws) b h k = cc h
dead-seat (prepared ws) b h k = cc h
dead-seat (committing ws) b h k = cc h
dead-seat (rolling_back ws) b h k = cc h
dead-seat closing b h k = cc h
dead-seat (reading start) b h k = cc h
dead-seat (copying number start) b h k = cc h
dead-seat (dead commits ws) b h k = k
