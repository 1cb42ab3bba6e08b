-- Lines in order, found by their keys and by their places.
use Rattle.std.proofs.Common.{◌≡◌, ℕ, zero, suc, ◌||◌, Bool, true, false, cond, List, [], ◌∷◌, Some, refl, sym, ap, ◌∙◌}
use Rattle.std.specs.Prelude.{slice_get}
use Rattle.std.specs.declared.cmp.Ordering.{Ordering}
use Rattle.std.specs.declared.cmp.Ordering.TheVariants.{Less, Equal, Greater}
use Rattle.std.specs.Ordering.{is_eq, is_lt, ordering_reverse}
use Rattle.std.specs.Cmp.{tied_itself}
use Rattle.std.specs.FinMap.Entries.{find, is_sorted, below_all}
use Rattle.std.proofs.lemmas.Bool.{false≢true, and_parts}
use Rattle.std.proofs.lemmas.Option.{same_Some, none-some}
use Rattle.rdb_types.specs.declared.keys.Dbkey.{Dbkey}
use Rattle.rdb_types.specs.declared.keys.Line.{Line}
use Rattle.rdb_types.specs.Order.{dbkey_order}
use Rattle.rdb_types.specs.OrderLaws.{dbkey_total, same_dbkey}
use Rattle.member_memory.specs.Memory.{has_key}
use Rattle.member_memory.proofs.Growing.{tied}

-- a line stands in a place
pub record StandsAt (es : List (Dbkey × Line)) (key : Dbkey) (line : Line) : Type 0 where
  pub place : ℕ
  pub is : slice_get es place ≡ Some (key, line)

pub record KeyAt (keys : List Dbkey) (key : Dbkey) : Type 0 where
  pub place : ℕ
  pub is : slice_get keys place ≡ Some key

apart : (o : Ordering) → is_lt o ≡ true → is_eq (ordering_reverse o) ≡ false
apart Less h = refl
apart Equal h = absurd (false≢true h)
apart Greater h = refl

-- each of these is behind the key
below-there : (key : Dbkey) (es : List (Dbkey × Line)) (i : ℕ) (e : Dbkey × Line) → below_all dbkey_order key es ≡ true → slice_get es i ≡ Some e → is_lt (dbkey_order key e.0) ≡ true
below-there key [] i e low is = absurd (none-some e is)
below-there key (x ∷ xs) zero e low is = ap (λ (y : Dbkey × Line). is_lt (dbkey_order key y.0)) (sym (same_Some _ _ is)) ∙ (and_parts _ _ low).0
below-there key (x ∷ xs) (suc i) e low is = below-there key xs i e (and_parts _ _ low).1 is

pub found-there : (es : List (Dbkey × Line)) (i : ℕ) (e : Dbkey × Line) → is_sorted dbkey_order es ≡ true → slice_get es i ≡ Some e → find dbkey_order e.0 es ≡ Some e.1
found-there [] i e sorted is = absurd (none-some e is)
found-there (x ∷ xs) zero e sorted is =
    ap (λ (y : Dbkey × Line). find dbkey_order y.0 (x ∷ xs)) (sym (same_Some _ _ is))
    ∙ ap (λ r. cond (is_eq r) (Some x.1) (find dbkey_order x.0 xs)) (tied_itself dbkey_total x.0)
    ∙ ap (λ (y : Dbkey × Line). Some y.1) (same_Some _ _ is)
found-there (x ∷ xs) (suc i) e sorted is =
    let parts = and_parts _ _ sorted in
    let off : is_eq (dbkey_order e.0 x.0) ≡ false = ap is_eq (dbkey_total.antisymm e.0 x.0) ∙ apart (dbkey_order x.0 e.0) (below-there x.0 xs i e parts.0 is) in
    ap (λ b. cond b (Some x.1) (find dbkey_order e.0 xs)) off ∙ found-there xs i e parts.1 is

pub stands-there : (es : List (Dbkey × Line)) (key : Dbkey) (line : Line) → find dbkey_order key es ≡ Some line → StandsAt es key line
stands-there [] key line is = absurd (none-some line is)
stands-there (x ∷ xs) key line is = by (λ found. stands-there xs key line found) (is_eq (dbkey_order key x.0)) refl
  where
    by : (find dbkey_order key xs ≡ Some line → StandsAt xs key line) → (b : Bool) → is_eq (dbkey_order key x.0) ≡ b → StandsAt (x ∷ xs) key line
    by behind true tie =
        let same : key ≡ x.0 = same_dbkey key x.0 (tied _ tie) in
        let value : x.1 ≡ line = same_Some _ _ (ap (λ b. cond b (Some x.1) (find dbkey_order key xs)) (sym tie) ∙ is) in
        record { place = 0; is = ap Some (λ i. (sym same i, value i)) }
    by behind false off =
        let rest = behind (ap (λ b. cond b (Some x.1) (find dbkey_order key xs)) (sym off) ∙ is) in
        record { place = suc rest.place; is = rest.is }

pub key-there : (keys : List Dbkey) (key : Dbkey) → has_key key keys ≡ true → KeyAt keys key
key-there [] key has = absurd (false≢true has)
key-there (k ∷ ks) key has = by (λ it. key-there ks key it) (is_eq (dbkey_order key k)) refl
  where
    by : (has_key key ks ≡ true → KeyAt ks key) → (b : Bool) → is_eq (dbkey_order key k) ≡ b → KeyAt (k ∷ ks) key
    by behind true tie = record { place = 0; is = ap Some (sym (same_dbkey key k (tied _ tie))) }
    by behind false off =
        let rest = behind (ap (λ b. b || has_key key ks) (sym off) ∙ has) in
        record { place = suc rest.place; is = rest.is }
