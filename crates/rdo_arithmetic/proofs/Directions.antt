-- Orders that may be turned, and taken one after the other.
use Rattle.std.proofs.Common.{◌≡◌, Bool, true, false, refl, subst}
use Rattle.std.specs.Cmp.{IsTotalOrder}
use Rattle.std.specs.declared.cmp.Ordering.{Ordering}
use Rattle.std.specs.declared.cmp.Ordering.TheVariants.{Less, Equal, Greater}
use Rattle.std.specs.Ordering.{ordering_then, is_ne}
use Rattle.std.proofs.lemmas.Cmp.{back_total}
use Rattle.rdb_types.specs.Order.{value_order}
use Rattle.rdb_types.specs.OrderLaws.{value_total}
use Rattle.rdb_meaning.specs.Selecting.{turned}

pub turned_total : (d : Bool) → IsTotalOrder (λ a b. turned d (value_order a b))
turned_total true = subst IsTotalOrder (λ i a b. value_total.antisymm b a i) (back_total value_total)
turned_total false = value_total

pub equal_total : {A : Type 0} → IsTotalOrder (λ (a b : A). Equal)
equal_total = record { antisymm = λ a b. refl; trans = λ a b c p q. p; congr = λ a b c p. refl }

pub then_ne : (o p : Ordering) → is_ne o ≡ true → ordering_then o p ≡ o
then_ne Less p e = refl
then_ne Equal p e = cc
then_ne Greater p e = refl

pub then_not_ne : (o p : Ordering) → is_ne o ≡ false → ordering_then o p ≡ p
then_not_ne Less p e = cc
then_not_ne Equal p e = refl
then_not_ne Greater p e = cc
