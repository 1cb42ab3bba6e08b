-- Tests, keys and names.
use Rattle.std.proofs.Common.{◌≡◌, Bool, true, false, Option, Some, None, T, refl, ap}
use Rattle.std.specs.Prelude.{◌||◌}
use Rattle.std.specs.declared.cmp.Ordering.{Ordering}
use Rattle.std.specs.declared.cmp.Ordering.TheVariants.{Less, Equal, Greater}
use Rattle.std.specs.Ordering.{is_eq}
use Rattle.std.specs.Cmp.{tied_itself}
use Rattle.rdb_types.specs.declared.keys.Dbkey.{Dbkey}
use Rattle.rdb_types.specs.Order.{dbkey_order}
use Rattle.rdb_types.specs.OrderLaws.{dbkey_total}
use Rattle.rdo_ast.specs.Tree.{Name}
use Rattle.rdb_meaning.specs.Checks.{needs_some, needs_none}

pub equal : (r : Ordering) → is_eq r ≡ true → r ≡ Equal
equal Less is = let bad : ⊥ = cc in absurd bad
equal Equal is = refl
equal Greater is = let bad : ⊥ = cc in absurd bad

pub or_true : (b : Bool) → (b || true) ≡ true
or_true true = refl
or_true false = refl

pub true_from_T : (b : Bool) → T b → b ≡ true
true_from_T true h = refl
true_from_T false h = absurd h

-- a Dbkey ties with itself
pub itself : (key : Dbkey) → is_eq (dbkey_order key key) ≡ true
itself key = ap is_eq (tied_itself dbkey_total key)

-- what isn't refused is there, or isn't
pub some_named : {A : Type 0} (name : Name) (found : Option A) → needs_some name found ≡ None → (x : A) × (found ≡ Some x)
some_named name (Some x) none = (x, refl)
some_named name None none = let bad : ⊥ = cc in absurd bad

pub none_named : {A : Type 0} (name : Name) (found : Option A) → needs_none name found ≡ None → found ≡ None
none_named name (Some x) none = let bad : ⊥ = cc in absurd bad
none_named name None none = refl
