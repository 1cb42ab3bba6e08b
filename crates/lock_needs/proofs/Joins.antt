-- The join of modes as a sum: associative, with NL as its nothing.
use Rattle.std.proofs.Common.{◌≡◌, true, refl}
use Rattle.std.specs.Prelude.{◌&&◌}
use Rattle.std.proofs.lemmas.Bool.{false≢true}
use Rattle.vms_queues.specs.declared.lock_mode.Mode.{Mode}
use Rattle.vms_queues.specs.declared.lock_mode.Mode.TheVariants.{NL, CR, CW, PR, PW, EX}
use Rattle.vms_queues.specs.Modes.{at_most, least_above}
use Rattle.vms_queues.proofs.ModeLaws.{all_modes-at, all_modes_3-at}

-- modes of which each is at most the other are one
pub at_most-both : (a b : Mode) → (at_most a b && at_most b a) ≡ true → a ≡ b
at_most-both NL NL h = refl
at_most-both CR CR h = refl
at_most-both CW CW h = refl
at_most-both PR PR h = refl
at_most-both PW PW h = refl
at_most-both EX EX h = refl
at_most-both a b h = absurd (false≢true h)

pub join_assoc : (a b c : Mode) → least_above (least_above a b) c ≡ least_above a (least_above b c)
join_assoc a b c =
    at_most-both (least_above (least_above a b) c) (least_above a (least_above b c))
    (all_modes_3-at (λ a b c. at_most (least_above (least_above a b) c) (least_above a (least_above b c)) && at_most (least_above a (least_above b c)) (least_above (least_above a b) c)) refl a b c)

pub join-none : (a : Mode) → least_above NL a ≡ a
join-none a = at_most-both (least_above NL a) a (all_modes-at (λ a. at_most (least_above NL a) a && at_most a (least_above NL a)) refl a)

pub join-none_right : (a : Mode) → least_above a NL ≡ a
join-none_right a = at_most-both (least_above a NL) a (all_modes-at (λ a. at_most (least_above a NL) a && at_most a (least_above a NL)) refl a)

pub nothing : (m : Mode) → at_most NL m ≡ true
nothing m = all_modes-at (λ m. at_most NL m) refl m
