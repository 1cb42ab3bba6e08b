-- The other members behind a step that no device call shows.
use Rattle.std.proofs.Common.{◌≡◌, ◌≢◌, ℕ, List, ⊎_elim, sym, subst, ◌∙◌, refl}
use Rattle.rdb_outside.specs.Disk.{View}
use Rattle.line_opening.specs.stable_lines.Slots.{Undo}
use Rattle.line_opening.specs.stable_lines.Progress.{Open, Progress}
use Rattle.line_seat.specs.Seats.{SeatFacts}
use Rattle.disk_seats.specs.Ledgers.{Standing, resting, changing, broken, committing, undoing, set_standing}
use Rattle.disk_seats.specs.Members.{MemberStands}
use Rattle.disk_seats.proofs.Standings.{standing_is}

pub member_goes_on : (v : View) (base new : Progress) (s : ℕ) → new.going s ≡ base.going s → (st : Standing) → ((o : Open) (all : List Undo) (n : ℕ) → st ≡ changing all n → SeatFacts v base s o all n → SeatFacts v new s o all n) → MemberStands v base s st → MemberStands v new s st
member_goes_on v base new s going resting seat was = going ∙ was
member_goes_on v base new s going (changing all n) seat was = record { transaction = was.transaction; seat = seat was.transaction all n refl was.seat }
member_goes_on v base new s going broken seat was = record { transaction = was.transaction; is_open = going ∙ was.is_open; entries = was.entries }
member_goes_on v base new s going (committing all) seat was = record { transaction = was.transaction; is_open = going ∙ was.is_open; entries = was.entries }
member_goes_on v base new s going (undoing all left) seat was = record { transaction = was.transaction; is_open = going ∙ was.is_open; entries = was.entries; within = was.within; undone = was.undone }

-- all of them, one of which stands otherwise
pub members_go_on : (v : View) (base new : Progress) (member : ℕ) (st : Standing) (standing : ℕ → Standing) → ((s : ℕ) → s ≢ member → new.going s ≡ base.going s)
    → ((s : ℕ) (o : Open) (all : List Undo) (n : ℕ) → s ≢ member → standing s ≡ changing all n → SeatFacts v base s o all n → SeatFacts v new s o all n)
    → ((m : ℕ) → MemberStands v base m (standing m)) → MemberStands v new member st → (m : ℕ) → MemberStands v new m (set_standing member st standing m)
members_go_on v base new member st standing going seat was own m = ⊎_elim
    (λ here. subst (λ (s : Standing). MemberStands v new m s) (sym here.1) (subst (λ (k : ℕ). MemberStands v new k st) (sym here.0) own))
    (λ away. subst (λ (s : Standing). MemberStands v new m s) (sym away.1) (member_goes_on v base new m (going m away.0) (standing m) (λ o all n. seat m o all n away.0) (was m)))
    (standing_is member st standing m)
