-- A line behind writes, one behind another.
use Rattle.std.proofs.Common.{◌≡◌, ◌≢◌, ℕ, zero, suc, Bool, true, false, cond, List, [], ◌∷◌, ◌++◌, take, Option, Some, slice_get, ◌⊎◌, inl, inr, ⊎_elim, refl, sym, ◌∙◌, ap}
use Rattle.std.specs.List.{flat_map}
use Rattle.std.specs.Ordering.{is_eq}
use Rattle.std.specs.declared.cmp.Ordering.{Ordering}
use Rattle.std.specs.declared.cmp.Ordering.TheVariants.{Less, Equal, Greater}
use Rattle.std.proofs.lemmas.Cmp.{tied_itself}
use Rattle.rdb_types.specs.declared.keys.Dbkey.{Dbkey}
use Rattle.rdb_types.specs.Order.{dbkey_order}
use Rattle.rdb_types.specs.OrderLaws.{dbkey_total, same_dbkey}
use Rattle.line_view.specs.declared.writes.Write.{Write}
use Rattle.stable_lines.proofs.Lists.{got_either}
use Rattle.rolled_lines.specs.HalfLaid.{line_behind}
use Rattle.laid_groups.specs.Forward.{IsWrittenBy}

some_same : {A : Type 0} (a b : A) → Some a ≡ Some b → a ≡ b
some_same a b same = cc

-- ---- keys

ties : (o : Ordering) → is_eq o ≡ true → o ≡ Equal
ties Less is = cc
ties Equal is = refl
ties Greater is = cc

pub same_when : (a b : Dbkey) → is_eq (dbkey_order a b) ≡ true → a ≡ b
same_when a b is = same_dbkey a b (ties (dbkey_order a b) is)

pub its_own : (key : Dbkey) → is_eq (dbkey_order key key) ≡ true
its_own key = ap is_eq (tied_itself dbkey_total key)

pub apart_when : (a b : Dbkey) → is_eq (dbkey_order a b) ≡ false → a ≢ b
apart_when a b off same = let bad : true ≡ false = sym (its_own a) ∙ ap (λ (k : Dbkey). is_eq (dbkey_order a k)) same ∙ off in cc

-- ---- lines

pub behind_both : (key : Dbkey) (xs ys : List Write) (what : Option (List ℕ)) → line_behind key (xs ++ ys) what ≡ line_behind key ys (line_behind key xs what)
behind_both key [] ys what = refl
behind_both key (x ∷ xs) ys what = behind_both key xs ys (cond (is_eq (dbkey_order key x.key)) x.image what)

-- the last of some writes is what a line of its key is behind them
pub behind_last : (ws : List Write) (k : ℕ) (w : Write) (what : Option (List ℕ)) → slice_get ws k ≡ Some w → line_behind w.key (take (suc k) ws) what ≡ w.image
behind_last [] k w what got = let bad : ⊥ = cc in absurd bad
behind_last (x ∷ ws) zero w what got =
    let same : x ≡ w = some_same x w got in
    ap (λ (y : Write). cond (is_eq (dbkey_order w.key y.key)) y.image what) same ∙ ap (λ (b : Bool). cond b w.image what) (its_own w.key)
behind_last (x ∷ ws) (suc k) w what got = behind_last ws k w (cond (is_eq (dbkey_order w.key x.key)) x.image what) got

-- ---- pages that are written

pub written_either : (xs ys : List Write) (file number : ℕ) → IsWrittenBy (xs ++ ys) file number → IsWrittenBy xs file number ⊎ IsWrittenBy ys file number
written_either xs ys file number by = ⊎_elim
    (λ is. inl (record { index = by.index; write = by.write; is = is; on = by.on }))
    (λ q. inr (record { index = q.0; write = by.write; is = q.2; on = by.on }))
    (got_either xs ys by.index by.write by.is)

-- ---- writes of groups

pub flat_both : {A B : Type 0} (f : A → List B) (xs ys : List A) → flat_map f (xs ++ ys) ≡ flat_map f xs ++ flat_map f ys
flat_both f [] ys = refl
flat_both f (x ∷ xs) ys = ap (λ l. f x ++ l) (flat_both f xs ys) ∙ sym (joins (f x) (flat_map f xs) (flat_map f ys))
  where
    joins : {A : Type 0} (a b c : List A) → (a ++ b) ++ c ≡ a ++ (b ++ c)
    joins [] b c = refl
    joins (y ∷ a) b c = ap (λ l. y ∷ l) (joins a b c)
