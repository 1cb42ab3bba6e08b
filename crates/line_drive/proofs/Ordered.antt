-- What drivers say of the order of turns, said of the events.
use Rattle.std.proofs.Common.{◌≡◌, ℕ, ◌+◌, ◌++◌, ◌∷◌, [], List, length, ◌∙◌, sym, ap, subst, false}
use Rattle.rdb_account.specs.Places.{Opening}
use Rattle.rdb_drive.specs.Boards.{Mark}
use Rattle.rdb_drive.specs.Orders.{AreParts, IsPart, Keeps, KeepsOrder, rounds}
use Rattle.line_cluster.specs.Turned.{Sessions}
use Rattle.line_drive.specs.Boards.{board_of, marks_of, RestsBehind}
use Rattle.line_drive.specs.Turns.{KeepsTurns}

-- where the premises hold
given-part : (A B : Type 0) (rests : ℕ → ℕ → Type 0) (at s : ℕ) (part : List Mark) → A → B → IsPart (λ n t. A → B → rests n t) at s part → IsPart rests at s part
given-part A B rests at s part a b p = record { of_s = p.of_s; one = p.one; rests_there = λ none. p.rests_there none a b }

given-parts : (A B : Type 0) (rests : ℕ → ℕ → Type 0) (at : ℕ) (turns : List ℕ) (marks : List Mark) → A → B → AreParts (λ n t. A → B → rests n t) at turns marks → AreParts rests at turns marks
given-parts A B rests at [] marks a b p = p
given-parts A B rests at (s ∷ turns) marks a b p = (p.0, p.1, p.2, given-part A B rests at s p.0 a b p.3, given-parts A B rests (at + length p.0) turns p.1 a b p.4)

from-none : (told : Type 0) (o : Opening) (order : List ℕ) (old new : Sessions) → told → new.halted ≡ false → marks_of old.events ≡ [] → (k : Keeps order (board_of told o old) (board_of told o new)) →
    AreParts (RestsBehind o new.events) 0 order (marks_of new.events)
from-none told o order old new given going none k =
    subst (λ ms. AreParts (RestsBehind o new.events) 0 order ms) (sym (k.marks ∙ ap (λ ms. ms ++ k.added) none))
    (given-parts told (new.halted ≡ false) (RestsBehind o new.events) 0 order k.added given going
    (subst (λ ms. AreParts (λ n t. told → new.halted ≡ false → RestsBehind o new.events n t) (length ms) order k.added) none k.parts))

pub keeps-turns : (told : Type 0) (o : Opening) (sessions : ℕ) (order : List ℕ) (old new : Sessions) → told → new.halted ≡ false → old.events ≡ [] → KeepsOrder order sessions (board_of told o old) (board_of told o new) → KeepsTurns o sessions order new.events
keeps-turns told o sessions order old new given going fresh k = record {
  times = k.times;
  parts = from-none told o (order ++ rounds sessions k.times) old new given going (ap marks_of fresh) k.keeps;
}
