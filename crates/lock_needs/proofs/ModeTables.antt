-- The laws of the modes, each by one look at its whole table.
use Rattle.std.proofs.Common.{◌≡◌, true, refl}
use Rattle.std.specs.Prelude.{◌&&◌}
use Rattle.vms_queues.specs.declared.lock_mode.Mode.{Mode}
use Rattle.vms_queues.specs.declared.lock_mode.Mode.TheVariants.{NL, CR, CW, PR, PW, EX}
use Rattle.vms_queues.specs.Modes.{may_share, at_most, least_above, intent}
use Rattle.vms_queues.proofs.ModeLaws.{all_modes-at, all_modes_2-at, all_modes_3-at, all_modes_4-at, implies, from_implies, agree, from_agree}
use Rattle.lock_needs.specs.Needs.{covers_below}

pub at_most-refl : (a : Mode) → at_most a a ≡ true
at_most-refl a = all_modes-at (λ a. at_most a a) refl a

pub at_most-trans : (a b c : Mode) → at_most a b ≡ true → at_most b c ≡ true → at_most a c ≡ true
at_most-trans a b c h k =
    from_implies (at_most b c) (at_most a c) (from_implies (at_most a b) (implies (at_most b c) (at_most a c))
    (all_modes_3-at (λ a b c. implies (at_most a b) (implies (at_most b c) (at_most a c))) refl a b c) h) k

-- the law of the join: what it shares with is what both share with
pub shares-join : (a b m : Mode) → may_share (least_above a b) m ≡ (may_share a m && may_share b m)
shares-join a b m =
    from_agree (may_share (least_above a b) m) (may_share a m && may_share b m)
    (all_modes_3-at (λ a b m. agree (may_share (least_above a b) m) (may_share a m && may_share b m)) refl a b m)

-- the order comes from the table: the first is at most the second where all that shares with the second shares with the first
pub at_most-shares : (a b m : Mode) → at_most a b ≡ true → may_share b m ≡ true → may_share a m ≡ true
at_most-shares a b m h k =
    from_implies (may_share b m) (may_share a m) (from_implies (at_most a b) (implies (may_share b m) (may_share a m))
    (all_modes_3-at (λ a b m. implies (at_most a b) (implies (may_share b m) (may_share a m))) refl a b m) h) k

-- the join is the least that is at least both
pub at_most-join : (a b m : Mode) → at_most (least_above a b) m ≡ (at_most a m && at_most b m)
at_most-join a b m =
    from_agree (at_most (least_above a b) m) (at_most a m && at_most b m)
    (all_modes_3-at (λ a b m. agree (at_most (least_above a b) m) (at_most a m && at_most b m)) refl a b m)

pub join-left : (a b : Mode) → at_most a (least_above a b) ≡ true
join-left a b = all_modes_2-at (λ a b. at_most a (least_above a b)) refl a b

pub join-right : (a b : Mode) → at_most b (least_above a b) ≡ true
join-right a b = all_modes_2-at (λ a b. at_most b (least_above a b)) refl a b

pub intent-most : (a b : Mode) → at_most a b ≡ true → at_most (intent a) (intent b) ≡ true
intent-most a b h =
    from_implies (at_most a b) (at_most (intent a) (intent b)) (all_modes_2-at (λ a b. implies (at_most a b) (at_most (intent a) (intent b))) refl a b) h

pub intent-twice : (a : Mode) → intent (intent a) ≡ intent a
intent-twice NL = refl
intent-twice CR = refl
intent-twice CW = refl
intent-twice PR = refl
intent-twice PW = refl
intent-twice EX = refl

pub intent-own : (a : Mode) → at_most (intent a) a ≡ true
intent-own a = all_modes-at (λ a. at_most (intent a) a) refl a

-- the intent of the join is at most what both intents are at most
pub intent-join : (a b m : Mode) → at_most (intent a) m ≡ true → at_most (intent b) m ≡ true → at_most (intent (least_above a b)) m ≡ true
intent-join a b m h k =
    from_implies (at_most (intent b) m) (at_most (intent (least_above a b)) m) (from_implies (at_most (intent a) m) (implies (at_most (intent b) m) (at_most (intent (least_above a b)) m))
    (all_modes_3-at (λ a b m. implies (at_most (intent a) m) (implies (at_most (intent b) m) (at_most (intent (least_above a b)) m))) refl a b m) h) k

-- A lock taken lower is always granted: whoever has a lock under a node has its intent there, beside what covers the need.
pub lower-shares : (held need other under : Mode) → covers_below held need ≡ true → may_share held other ≡ true → at_most (intent under) other ≡ true → may_share need under ≡ true
lower-shares held need other under c s i =
    from_implies (at_most (intent under) other) (may_share need under)
    (from_implies (may_share held other) (implies (at_most (intent under) other) (may_share need under))
    (from_implies (covers_below held need) (implies (may_share held other) (implies (at_most (intent under) other) (may_share need under)))
    (all_modes_4-at (λ held need other under. implies (covers_below held need) (implies (may_share held other) (implies (at_most (intent under) other) (may_share need under)))) refl held need other under) c) s) i

-- what covers the needs of a mode is at least the mode
pub covers_below-most : (held need : Mode) → covers_below held need ≡ true → at_most need held ≡ true
covers_below-most held need h =
    from_implies (covers_below held need) (at_most need held) (all_modes_2-at (λ a b. implies (covers_below a b) (at_most b a)) refl held need) h

-- a stronger lock covers as much
pub covers_below-more : (a b need : Mode) → at_most a b ≡ true → covers_below a need ≡ true → covers_below b need ≡ true
covers_below-more a b need h k =
    from_implies (covers_below a need) (covers_below b need) (from_implies (at_most a b) (implies (covers_below a need) (covers_below b need))
    (all_modes_3-at (λ a b need. implies (at_most a b) (implies (covers_below a need) (covers_below b need))) refl a b need) h) k

-- read and exclusive cover their own kind below
pub covers_below-own : (held : Mode) → at_most PR held ≡ true → covers_below held PR ≡ true
covers_below-own held h = from_implies (at_most PR held) (covers_below held PR) (all_modes-at (λ a. implies (at_most PR a) (covers_below a PR)) refl held) h
