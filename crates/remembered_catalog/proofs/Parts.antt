-- A map that agrees with what is known agrees with a part of it.
use lib.Pointwise.{pointwise}
use Rattle.std.proofs.Common.{◌≡◌, ◌==◌, ℕ, true, false, cond, List, [], ◌∷◌, Option, Some, None, refl, sym, ap, subst, ◌∙◌}
use Rattle.std.specs.Prelude.{◌&&◌, option_map, if◌then◌else◌}
use Rattle.std.specs.declared.cmp.Ordering.TheVariants.{Less, Equal, Greater}
use Rattle.std.specs.Ordering.{is_eq}
use Rattle.std.specs.FinMap.Entries.{find, put, by_order}
use Rattle.std.proofs.lemmas.Bool.{false≢true, and_parts, eqb-true}
use Rattle.std.proofs.lemmas.Option.{none-some, same_Some}
use Rattle.rdb_types.specs.declared.keys.Dbkey.{Dbkey}
use Rattle.rdb_types.specs.contracts.keys.DbkeyPartialEq.TheImpl as key_eq
use Rattle.rdb_types.specs.Order.{dbkey_order}
use Rattle.rdb_types.specs.OrderLaws.{same_dbkey}
use Rattle.line_view.specs.Knowledge.{Knowledge, Lines, Agrees, line_in, lines_in, keys_of}
use Rattle.session_jobs.specs.Kept.{HasCatalogOf}
use Rattle.remembered_catalog.specs.Part.{Part, part_knows, AreKnown, IsPartOf}

-- ---- what `==` says of keys

same_key : (a b : Dbkey) → (key_eq.ghosts).eq a b ≡ true → a ≡ b
same_key a b is =
    let rest = and_parts (a.area == b.area) ((a.page == b.page) && (a.line == b.line)) is in
    let own = and_parts (a.page == b.page) (a.line == b.line) rest.1 in
    let area = eqb-true a.area b.area rest.0 in
    let page = eqb-true a.page b.page own.0 in
    let line = eqb-true a.line b.line own.1 in
    λ i. record { area = area i; page = page i; line = line i }

pub same_keys : (xs ys : List Dbkey) → pointwise (key_eq.ghosts).eq xs ys ≡ true → xs ≡ ys
same_keys [] [] is = refl
same_keys [] (y ∷ ys) is = absurd (false≢true is)
same_keys (x ∷ xs) [] is = absurd (false≢true is)
same_keys (x ∷ xs) (y ∷ ys) is =
    let each = and_parts ((key_eq.ghosts).eq x y) (pointwise (key_eq.ghosts).eq xs ys) is in
    λ i. same_key x y each.0 i ∷ same_keys xs ys each.1 i

-- ---- lines that are known

-- one more line that is known
pub put_known : (known : Knowledge) (k : Dbkey) (image : List ℕ) (es : Lines) → known.line k ≡ Some (Some image) → AreKnown known es → AreKnown known (put dbkey_order k image es)
put_known known k image [] is all = (is, tt)
put_known known k image (e ∷ es) is all = elim (dbkey_order k e.0) as (λ o. dbkey_order k e.0 ≡ o → AreKnown known (by_order o ((k, image) ∷ e ∷ es) ((e.0, image) ∷ es) (e ∷ put dbkey_order k image es))) [
  | Less ↦ λ ties. (is, all)
  | Equal ↦ λ ties. (subst (λ (q : Dbkey). known.line q ≡ Some (Some image)) (same_dbkey k e.0 ties) is, all.1)
  | Greater ↦ λ ties. (all.0, put_known known k image es is all.1)
] refl

-- a line that is found among them is known
found : (known : Knowledge) (k : Dbkey) (image : List ℕ) (es : Lines) → AreKnown known es → line_in k es ≡ Some image → known.line k ≡ Some (Some image)
found known k image [] all is = absurd (none-some image is)
found known k image (e ∷ es) all is = elim (dbkey_order k e.0) as (λ o. dbkey_order k e.0 ≡ o → cond (is_eq o) (Some e.1) (find dbkey_order k es) ≡ Some image → known.line k ≡ Some (Some image)) [
  | Less ↦ λ ties got. found known k image es all.1 got
  | Equal ↦ λ ties got. subst (λ (q : Dbkey). known.line q ≡ Some (Some image)) (sym (same_dbkey k e.0 ties)) (all.0 ∙ ap (λ (x : List ℕ). Some (Some x)) (same_Some _ _ got))
  | Greater ↦ λ ties got. found known k image es all.1 got
] refl is

module _ (known : Knowledge) (p : Part) (is : IsPartOf known p) (all : Lines) (agrees : Agrees known all) where
  line_is : (k : Dbkey) (what : Option (List ℕ)) → option_map Some (line_in k p.lines) ≡ Some what → what ≡ line_in k all
  line_is k what got = elim (line_in k p.lines) as (λ (o : Option (List ℕ)). line_in k p.lines ≡ o → option_map Some o ≡ Some what → what ≡ line_in k all) [
    | None ↦ λ at got. absurd (none-some what got)
    | Some image ↦ λ at got. sym (same_Some _ _ got) ∙ agrees.line k (Some image) (found known k image p.lines is.lines at)
  ] refl got

  area_is : (area : ℕ) (keys : List Dbkey) → (if area == 1 then Some p.keys else None) ≡ Some keys → keys ≡ keys_of (lines_in area all)
  area_is area keys got = elim (area == 1) as (λ b. (area == 1) ≡ b → (if b then Some p.keys else None) ≡ Some keys → keys ≡ keys_of (lines_in area all)) [
    | true ↦ λ own got. sym (same_Some _ _ got) ∙ agrees.area area p.keys (ap known.area (eqb-true area 1 own) ∙ is.keys)
    | false ↦ λ own got. absurd (none-some keys got)
  ] refl got

  pub part_agrees : Agrees (part_knows p) all
  part_agrees = record {
    line = line_is;
    area = area_is;
    within = λ room key none. absurd (none-some key none);
    free = λ room key none. absurd (none-some key none);
    apart = λ a b key none. absurd (none-some key none);
  }

-- each map with which the whole agrees has the catalog of its part
pub has_catalog : (known : Knowledge) (p : Part) → IsPartOf known p → HasCatalogOf known (part_knows p)
has_catalog known p is = λ all agrees. record {
  before = all;
  agrees = part_agrees known p is all agrees;
  same = record { keys = refl; lines = λ key own. refl };
}
