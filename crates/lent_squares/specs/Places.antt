-- What a seat was asked, wherever that is now.
use Rattle.std.specs.Prelude.{ℕ}
use Rattle.lent_squares.specs.declared.seat.Place.{Place}
use Rattle.lent_squares.specs.declared.seat.Place.TheVariants.{Due, Out, Worked}

abbrev pub asked_of : {J : Type 0} → Place J → ℕ
asked_of (Due n) = n
asked_of (Out receipt) = receipt
asked_of (Worked square) = square.of
