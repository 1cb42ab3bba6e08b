-- A write laid over a full map: what is found then, and the keys of its areas.
use Rattle.std.proofs.Common.{◌≡◌, ℕ, Bool, true, false, cond, not, ◌&&◌, ◌==◌, List, [], ◌∷◌, Option, Some, None, T, refl, sym, ap, ◌∙◌}
use Rattle.std.specs.Prelude.{is_some}
use Rattle.std.specs.declared.cmp.Ordering.{Ordering}
use Rattle.std.specs.declared.cmp.Ordering.TheVariants.{Less, Equal, Greater}
use Rattle.std.specs.Ordering.{is_eq, is_lt, ordering_reverse, match_ordering}
use Rattle.std.specs.Cmp.{IsTotalOrder, tied_back}
use Rattle.std.specs.FinMap.Entries.{put, by_order, below_all, is_sorted, find-put, find-where_key}
use Rattle.std.specs.Set.{remove_key}
use Rattle.std.specs.BTreeMap.{is_at}
use Rattle.std.specs.BTreeSet.{insert_key}
use Rattle.std.proofs.Math.Dec.{eqb_refl}
use Rattle.std.proofs.lemmas.Bool.{and_parts}
use Rattle.std.proofs.lemmas.Option.{none-some}
use Rattle.ordered_entries.specs.rdb_types.declared.keys.Dbkey.{Dbkey}
use Rattle.ordered_entries.specs.rdb_types.Order.{dbkey_order}
use Rattle.ordered_entries.specs.rdb_types.OrderLaws.{dbkey_total, same_dbkey}
use Rattle.line_view.specs.Knowledge.{Lines, line_in, lines_in, keys_of, laid}
use Rattle.line_view.specs.Held.{written}

abbrev R : Dbkey → Dbkey → Ordering
R = dbkey_order

abbrev o : IsTotalOrder dbkey_order
o = dbkey_total

greater : (r s : Ordering) → s ≡ ordering_reverse r → r ≡ Less → s ≡ Greater
greater r s turn low = turn ∙ ap ordering_reverse low

less : (r : Ordering) → is_lt r ≡ true → r ≡ Less
less Less e = refl
less Equal e = absurd (cc)
less Greater e = absurd (cc)

-- a key that ties with one below all is not found
none_above : (x k : Dbkey) (es : Lines) → R x k ≡ Equal → below_all R x es ≡ true → line_in k es ≡ None
none_above x k [] tie below = refl
none_above x k (e ∷ es) tie below =
    let parts = and_parts _ _ below in
    ap (λ r. cond (is_eq r) (Some e.1) (line_in k es)) (sym (o.congr x k e.0 tie) ∙ less _ parts.0) ∙ none_above x k es tie parts.1

without_none : (k : Dbkey) (es : Lines) → line_in k es ≡ None → laid k None es ≡ es
without_none k [] none = refl
without_none k (e ∷ es) none = elim (R k e.0) as (λ r. cond (is_eq r) (Some e.1) (line_in k es) ≡ None → cond (not (is_eq r)) (e ∷ laid k None es) (laid k None es) ≡ e ∷ es) [
  | Less ↦ λ h. ap (λ l. e ∷ l) (without_none k es h)
  | Equal ↦ λ h. absurd (none-some e.1 (sym h))
  | Greater ↦ λ h. ap (λ l. e ∷ l) (without_none k es h)
] none

true_from_T : (b : Bool) → T b → b ≡ true
true_from_T true h = refl
true_from_T false h = absurd h

itself : (n : ℕ) → (n == n) ≡ true
itself n = true_from_T _ (eqb_refl n)

-- ---- a look-up behind a write

alike : (q x key : Dbkey) → R q x ≡ Equal → R key x ≡ R key q
alike q x key tie = ap (λ k. R key k) (sym (same_dbkey q x tie))

pub laid_found : (q key : Dbkey) (image : Option (List ℕ)) (lines : Lines) → line_in q (laid key image lines) ≡ cond (is_eq (R q key)) image (line_in q lines)
laid_found q key (Some image) lines = find-put R o q key image lines
laid_found q key None lines =
    find-where_key R (λ x. not (is_eq (R key x))) q (λ x tie. ap (λ r. not (is_eq r)) (alike q x key tie)) lines
    ∙ elim (R q key) as (λ r. R q key ≡ r → cond (not (is_eq (R key q))) (line_in q lines) None ≡ cond (is_eq r) None (line_in q lines)) [
      | Less ↦ λ p. ap (λ r. cond (not (is_eq r)) (line_in q lines) None) (greater _ _ (o.antisymm key q) p)
      | Equal ↦ λ p. ap (λ r. cond (not (is_eq r)) (line_in q lines) None) (tied_back o q key p)
      | Greater ↦ λ p. ap (λ r. cond (not (is_eq r)) (line_in q lines) None) (o.antisymm key q ∙ ap ordering_reverse p)
    ] refl

-- ---- the keys of another area

same_area : (key : Dbkey) (a : ℕ) → (key.area == a) ≡ false → (k : Dbkey) → R key k ≡ Equal → (k.area == a) ≡ false
same_area key a other k tie = ap (λ (k : Dbkey). k.area == a) (sym (same_dbkey key k tie)) ∙ other

pub other_area : (key : Dbkey) (image : Option (List ℕ)) (a : ℕ) (lines : Lines) → (key.area == a) ≡ false → lines_in a (laid key image lines) ≡ lines_in a lines
other_area key (Some image) a [] other = ap (λ b. cond b ((key, image) ∷ []) []) other
other_area key (Some image) a (e ∷ es) other =
    elim (R key e.0) as (λ r. R key e.0 ≡ r → lines_in a (by_order r ((key, image) ∷ e ∷ es) ((e.0, image) ∷ es) (e ∷ put R key image es)) ≡ lines_in a (e ∷ es)) [
      | Less ↦ λ p. ap (λ b. cond b ((key, image) ∷ lines_in a (e ∷ es)) (lines_in a (e ∷ es))) other
      | Equal ↦ λ p. let out = same_area key a other e.0 p in ap (λ b. cond b ((e.0, image) ∷ lines_in a es) (lines_in a es)) out ∙ sym (ap (λ b. cond b (e ∷ lines_in a es) (lines_in a es)) out)
      | Greater ↦ λ p. ap (λ l. cond (e.0.area == a) (e ∷ l) l) (other_area key (Some image) a es other)
    ] refl
other_area key None a [] other = refl
other_area key None a (e ∷ es) other =
    elim (R key e.0) as (λ r. R key e.0 ≡ r → lines_in a (cond (not (is_eq r)) (e ∷ laid key None es) (laid key None es)) ≡ lines_in a (e ∷ es)) [
      | Less ↦ λ p. ap (λ l. cond (e.0.area == a) (e ∷ l) l) (other_area key None a es other)
      | Equal ↦ λ p. other_area key None a es other ∙ sym (ap (λ b. cond b (e ∷ lines_in a es) (lines_in a es)) (same_area key a other e.0 p))
      | Greater ↦ λ p. ap (λ l. cond (e.0.area == a) (e ∷ l) l) (other_area key None a es other)
    ] refl

-- ---- the keys of the write's own area

-- no key of the lines is below
first_key : (key : Dbkey) (a : ℕ) (es : Lines) → below_all R key es ≡ true → insert_key R (keys_of (lines_in a es)) key ≡ key ∷ keys_of (lines_in a es)
first_key key a [] below = refl
first_key key a (e ∷ es) below =
    let parts = and_parts _ _ below in
    elim (e.0.area == a) as (λ b. insert_key R (keys_of (cond b (e ∷ lines_in a es) (lines_in a es))) key ≡ key ∷ keys_of (cond b (e ∷ lines_in a es) (lines_in a es))) [
      | true ↦ ap (λ r. match_ordering r (key ∷ e.0 ∷ keys_of (lines_in a es)) (e.0 ∷ keys_of (lines_in a es)) (e.0 ∷ insert_key R (keys_of (lines_in a es)) key)) (less _ parts.0)
      | false ↦ first_key key a es parts.1
    ]

below_on : (x y : Dbkey) (es : Lines) → R x y ≡ Less → below_all R y es ≡ true → below_all R x es ≡ true
below_on x y [] low below = refl
below_on x y (e ∷ es) low below =
    let parts = and_parts _ _ below in
    ap (λ r. is_lt r && below_all R x es) (o.trans x y e.0 low (less _ parts.0)) ∙ below_on x y es low parts.1

pub key_put : (key : Dbkey) (image : List ℕ) (lines : Lines) → is_sorted R lines ≡ true → keys_of (lines_in key.area (put R key image lines)) ≡ insert_key R (keys_of (lines_in key.area lines)) key
key_put key image [] sorted = ap (λ b. keys_of (cond b ((key, image) ∷ []) [])) (itself key.area)
key_put key image (e ∷ es) sorted =
    let parts = and_parts _ _ sorted in
    elim (R key e.0) as (λ r. R key e.0 ≡ r → keys_of (lines_in key.area (by_order r ((key, image) ∷ e ∷ es) ((e.0, image) ∷ es) (e ∷ put R key image es))) ≡ insert_key R (keys_of (lines_in key.area (e ∷ es))) key) [
      | Less ↦ λ p. ap (λ b. keys_of (cond b ((key, image) ∷ lines_in key.area (e ∷ es)) (lines_in key.area (e ∷ es)))) (itself key.area)
          ∙ sym (first_key key key.area (e ∷ es) (ap (λ r. is_lt r && below_all R key es) p ∙ below_on key e.0 es p parts.0))
      | Equal ↦ λ p. let own = ap (λ (k : Dbkey). k.area == key.area) (sym (same_dbkey key e.0 p)) ∙ itself key.area in
          ap (λ b. keys_of (cond b ((e.0, image) ∷ lines_in key.area es) (lines_in key.area es))) own
          ∙ sym (ap (λ b. insert_key R (keys_of (cond b (e ∷ lines_in key.area es) (lines_in key.area es))) key) own
          ∙ ap (λ r. match_ordering r (key ∷ e.0 ∷ keys_of (lines_in key.area es)) (e.0 ∷ keys_of (lines_in key.area es)) (e.0 ∷ insert_key R (keys_of (lines_in key.area es)) key)) p)
      | Greater ↦ λ p.
          elim (e.0.area == key.area) as (λ b. keys_of (cond b (e ∷ lines_in key.area (put R key image es)) (lines_in key.area (put R key image es))) ≡ insert_key R (keys_of (cond b (e ∷ lines_in key.area es) (lines_in key.area es))) key) [
            | true ↦ ap (λ l. e.0 ∷ l) (key_put key image es parts.1)
                ∙ sym (ap (λ r. match_ordering r (key ∷ e.0 ∷ keys_of (lines_in key.area es)) (e.0 ∷ keys_of (lines_in key.area es)) (e.0 ∷ insert_key R (keys_of (lines_in key.area es)) key)) p)
            | false ↦ key_put key image es parts.1
          ]
    ] refl

key_kept : (key : Dbkey) (e : Dbkey × List ℕ) (es : Lines) → is_eq (R key e.0) ≡ false →
    keys_of (lines_in key.area (laid key None es)) ≡ remove_key (is_at (R key)) (keys_of (lines_in key.area es)) →
    keys_of (lines_in key.area (e ∷ laid key None es)) ≡ remove_key (is_at (R key)) (keys_of (lines_in key.area (e ∷ es)))
key_kept key e es apart rest =
    elim (e.0.area == key.area) as (λ b. keys_of (cond b (e ∷ lines_in key.area (laid key None es)) (lines_in key.area (laid key None es))) ≡ remove_key (is_at (R key)) (keys_of (cond b (e ∷ lines_in key.area es) (lines_in key.area es)))) [
      | true ↦ ap (λ l. e.0 ∷ l) rest ∙ sym (ap (λ b. cond b (keys_of (lines_in key.area es)) (e.0 ∷ remove_key (is_at (R key)) (keys_of (lines_in key.area es)))) apart)
      | false ↦ rest
    ]

pub key_removed : (key : Dbkey) (lines : Lines) → is_sorted R lines ≡ true → keys_of (lines_in key.area (laid key None lines)) ≡ remove_key (is_at (R key)) (keys_of (lines_in key.area lines))
key_removed key [] sorted = refl
key_removed key (e ∷ es) sorted =
    let parts = and_parts _ _ sorted in
    elim (R key e.0) as (λ r. R key e.0 ≡ r → keys_of (lines_in key.area (cond (not (is_eq r)) (e ∷ laid key None es) (laid key None es))) ≡ remove_key (is_at (R key)) (keys_of (lines_in key.area (e ∷ es)))) [
      | Less ↦ λ p. key_kept key e es (ap is_eq p) (key_removed key es parts.1)
      | Equal ↦ λ p. let own = ap (λ (k : Dbkey). k.area == key.area) (sym (same_dbkey key e.0 p)) ∙ itself key.area in
          ap (λ l. keys_of (lines_in key.area l)) (without_none key es (none_above e.0 key es (tied_back o key e.0 p) parts.0))
          ∙ sym (ap (λ b. remove_key (is_at (R key)) (keys_of (cond b (e ∷ lines_in key.area es) (lines_in key.area es)))) own
          ∙ ap (λ r. cond (is_eq r) (keys_of (lines_in key.area es)) (e.0 ∷ remove_key (is_at (R key)) (keys_of (lines_in key.area es)))) p)
      | Greater ↦ λ p. key_kept key e es (ap is_eq p) (key_removed key es parts.1)
    ] refl

pub keys_written : (key : Dbkey) (image : Option (List ℕ)) (lines : Lines) → is_sorted R lines ≡ true → written key (is_some image) (keys_of (lines_in key.area lines)) ≡ keys_of (lines_in key.area (laid key image lines))
keys_written key (Some image) lines sorted = sym (key_put key image lines sorted)
keys_written key None lines sorted = sym (key_removed key lines sorted)
