-- The keys of areas that a statement keeps, and its writes.
use Rattle.std.proofs.Common.{◌≡◌, ℕ, Bool, true, false, cond, List, [], ◌∷◌, map, Option, Some, None, refl, sym, ap, subst, ◌∙◌}
use Rattle.std.specs.Prelude.{is_some, option_map}
use Rattle.std.specs.declared.cmp.Ordering.TheVariants.{Less, Equal, Greater}
use Rattle.std.specs.Ordering.{nat_cmp, is_eq}
use Rattle.std.specs.Cmp.{nat_cmp_total, tied_itself}
use Rattle.std.specs.FinMap.Entries.{find, put, by_order, is_sorted}
use Rattle.std.specs.Map.{lookup, set_value}
use Rattle.std.specs.List.{AllZip}
use Rattle.std.specs.List.Sorted.{IsStrictlySortedBy}
use Rattle.std.specs.BTreeMap.{is_at, insert_entry}
use Rattle.std.specs.BTreeSet.{BTreeSet}
use Rattle.rdb_types.specs.declared.keys.Dbkey.{Dbkey}
use Rattle.rdb_types.specs.Order.{dbkey_order}
use Rattle.rdb_types.specs.OrderLaws.{dbkey_total}
use Rattle.ordered_entries.proofs.Laws.{put-put, put_found, find-put_same}
use Rattle.line_view.specs.Knowledge.{Lines, laid}
use Rattle.line_view.specs.Writes.{laid_all}
use Rattle.line_view.specs.Held.{Held, knows, key_sets, written}
use Rattle.line_view.proofs.Entries.{put_insert, find_keys, set_keys, insert_keys, sorted_entries}
use Rattle.statement_view.specs.Over.{Over, first_of, area_written, area_kept, laid_over, with_over, writes_of, Stands}
use Rattle.statement_view.proofs.Laying.{Written, over_put}
use Rattle.statement_view.proofs.Agreeing.{write_agrees}

abbrev pub Areas : Type 0
Areas = List (ℕ × List Dbkey)

-- ---- the areas

pub kept_already : (area : ℕ) (areas : List (ℕ × BTreeSet Dbkey)) (below : Option (List Dbkey)) → true ≡ is_some (lookup (is_at (nat_cmp area)) areas) → key_sets areas ≡ area_kept area (key_sets areas) (find nat_cmp area (key_sets areas)) below
kept_already area areas below is = by_case (lookup (is_at (nat_cmp area)) areas) (find_keys area areas) is where
  by_case : (l : Option (BTreeSet Dbkey)) → find nat_cmp area (key_sets areas) ≡ option_map (λ (s : BTreeSet Dbkey). s.keys) l → true ≡ is_some l → key_sets areas ≡ area_kept area (key_sets areas) (find nat_cmp area (key_sets areas)) below
  by_case (Some s) found is = sym (ap (λ f. area_kept area (key_sets areas) f below) found)
  by_case None found is = let bad : ⊥ = cc in absurd bad

not_kept : (area : ℕ) (areas : List (ℕ × BTreeSet Dbkey)) → false ≡ is_some (lookup (is_at (nat_cmp area)) areas) → find nat_cmp area (key_sets areas) ≡ None
not_kept area areas is = by_case (lookup (is_at (nat_cmp area)) areas) (find_keys area areas) is where
  by_case : (l : Option (BTreeSet Dbkey)) → find nat_cmp area (key_sets areas) ≡ option_map (λ (s : BTreeSet Dbkey). s.keys) l → false ≡ is_some l → find nat_cmp area (key_sets areas) ≡ None
  by_case (Some s) found is = let bad : ⊥ = cc in absurd bad
  by_case None found is = found

pub kept_now : (area : ℕ) (areas new : List (ℕ × BTreeSet Dbkey)) (copy : BTreeSet Dbkey) (keys : List Dbkey) (below : Option (List Dbkey)) → false ≡ is_some (lookup (is_at (nat_cmp area)) areas) →
    Some keys ≡ below → copy.keys ≡ keys → new ≡ insert_entry nat_cmp areas area copy → key_sets new ≡ area_kept area (key_sets areas) (find nat_cmp area (key_sets areas)) below
kept_now area areas new copy keys below is known same step =
    ap key_sets step ∙ insert_keys area copy areas ∙ ap (λ ks. put nat_cmp area ks (key_sets areas)) same
    ∙ ap (λ b. area_kept area (key_sets areas) None b) known
    ∙ sym (ap (λ f. area_kept area (key_sets areas) f below) (not_kept area areas is))

-- setting the value of a key that was just put
set_put : (area : ℕ) (v w : List Dbkey) (es : Areas) → set_value (is_at (nat_cmp area)) (put nat_cmp area v es) w ≡ put nat_cmp area w es
set_put area v w [] = ap (λ r. cond (is_eq r) ((area, w) ∷ []) ((area, v) ∷ [])) (tied_itself nat_cmp_total area)
set_put area v w (e ∷ es) =
    elim (nat_cmp area e.0) as (λ r. nat_cmp area e.0 ≡ r → set_value (is_at (nat_cmp area)) (by_order r ((area, v) ∷ e ∷ es) ((e.0, v) ∷ es) (e ∷ put nat_cmp area v es)) w ≡ by_order r ((area, w) ∷ e ∷ es) ((e.0, w) ∷ es) (e ∷ put nat_cmp area w es)) [
      | Less ↦ λ p. ap (λ r. cond (is_eq r) ((area, w) ∷ e ∷ es) ((area, v) ∷ set_value (is_at (nat_cmp area)) (e ∷ es) w)) (tied_itself nat_cmp_total area)
      | Equal ↦ λ p. ap (λ r. cond (is_eq r) ((e.0, w) ∷ es) ((e.0, v) ∷ set_value (is_at (nat_cmp area)) es w)) p
      | Greater ↦ λ p. ap (λ r. cond (is_eq r) ((e.0, w) ∷ put nat_cmp area v es) (e ∷ set_value (is_at (nat_cmp area)) (put nat_cmp area v es) w)) p ∙ ap (λ l. e ∷ l) (set_put area v w es)
    ] refl

set_is_put : (area : ℕ) (v w : List Dbkey) (es : Areas) → is_sorted nat_cmp es ≡ true → find nat_cmp area es ≡ Some v → set_value (is_at (nat_cmp area)) es w ≡ put nat_cmp area w es
set_is_put area v w es sorted found = ap (λ l. set_value (is_at (nat_cmp area)) l w) (sym (put_found nat_cmp nat_cmp_total area v es sorted found)) ∙ set_put area v w es

same_firsts : (areas : List (ℕ × BTreeSet Dbkey)) → map (λ e. e.0) (key_sets areas) ≡ map (λ e. e.0) areas
same_firsts [] = refl
same_firsts (e ∷ es) = ap (λ l. e.0 ∷ l) (same_firsts es)

pub set_written : (areas : List (ℕ × BTreeSet Dbkey)) (before after : BTreeSet Dbkey) (key : Dbkey) (is_present : Bool) → IsStrictlySortedBy nat_cmp (map (λ e. e.0) areas) →
    lookup (is_at (nat_cmp key.area)) areas ≡ Some before → after.keys ≡ written key is_present before.keys →
    key_sets (set_value (is_at (nat_cmp key.area)) areas after) ≡ area_written key is_present (key_sets areas) (find nat_cmp key.area (key_sets areas))
set_written areas before after key is_present sorted found change =
    let now : find nat_cmp key.area (key_sets areas) ≡ Some before.keys = find_keys key.area areas ∙ ap (option_map (λ (s : BTreeSet Dbkey). s.keys)) found in
    set_keys (is_at (nat_cmp key.area)) areas after
    ∙ set_is_put key.area before.keys after.keys (key_sets areas) (sorted_entries nat_cmp nat_cmp_total (key_sets areas) (subst (IsStrictlySortedBy nat_cmp) (sym (same_firsts areas)) sorted)) now
    ∙ ap (λ ks. put nat_cmp key.area ks (key_sets areas)) change
    ∙ ap (λ o. area_written key is_present (key_sets areas) o) (sym now)

pub nothing_kept : (areas : List (ℕ × BTreeSet Dbkey)) (key : Dbkey) (is_present : Bool) → lookup (is_at (nat_cmp key.area)) areas ≡ None →
    key_sets areas ≡ area_written key is_present (key_sets areas) (find nat_cmp key.area (key_sets areas))
nothing_kept areas key is_present none = ap (λ o. area_written key is_present (key_sets areas) o) (sym (find_keys key.area areas ∙ ap (option_map (λ (s : BTreeSet Dbkey). s.keys)) none))

-- an area is kept, and then it is changed
kept_and_written : (key : Dbkey) (is_present : Bool) (areas : Areas) (f below : Option (List Dbkey)) → find nat_cmp key.area areas ≡ f →
    area_written key is_present (area_kept key.area areas f below) (find nat_cmp key.area (area_kept key.area areas f below)) ≡ area_written key is_present areas (first_of f below)
kept_and_written key is_present areas (Some above) below is = ap (area_written key is_present areas) is
kept_and_written key is_present areas None (Some keys) is =
    ap (area_written key is_present (put nat_cmp key.area keys areas)) (find-put_same nat_cmp nat_cmp_total key.area keys areas)
    ∙ put-put nat_cmp nat_cmp_total key.area keys (written key is_present keys) areas
kept_and_written key is_present areas None None is = ap (area_written key is_present areas) is

-- ---- a write

pub is_with_over : (known : Held) (lines new : Written) (areas kept now : Areas) (o : Over) (key : Dbkey) (image : Option (List ℕ)) (is_present : Bool) →
    record { base = known; lines = lines; areas = areas } ≡ o → is_present ≡ is_some image → kept ≡ area_kept key.area areas (find nat_cmp key.area areas) ((knows known).area key.area) →
    now ≡ area_written key is_present kept (find nat_cmp key.area kept) → new ≡ insert_entry dbkey_order lines key image → record { base = known; lines = new; areas = now } ≡ with_over key image o
is_with_over known lines new areas kept now o key image is_present view present keep write step =
    (λ i. record {
      base = known;
      lines = (step ∙ sym (put_insert dbkey_order key image lines)) i;
      areas = (write ∙ ap (λ k. area_written key is_present k (find nat_cmp key.area k)) keep ∙ kept_and_written key is_present areas (find nat_cmp key.area areas) ((knows known).area key.area) refl
          ∙ ap (λ b. area_written key b areas (first_of (find nat_cmp key.area areas) ((knows known).area key.area))) present) i;
    })
    ∙ ap (λ (o : Over). with_over key image o) view

sorted_lines : (lines : Written) → IsStrictlySortedBy dbkey_order (map (λ e. e.0) lines) → is_sorted dbkey_order lines ≡ true
sorted_lines lines sorted = sorted_entries dbkey_order dbkey_total lines sorted

pub stands_behind : (lines : Written) (o now : Over) (key : Dbkey) (image : Option (List ℕ)) → o.lines ≡ lines → IsStrictlySortedBy dbkey_order (map (λ e. e.0) lines) → now ≡ with_over key image o → (first : Lines) → Stands o first → Stands now first
stands_behind lines o now key image same sorted is first stands =
    let in_order : is_sorted dbkey_order o.lines ≡ true = ap (λ (l : Written). is_sorted dbkey_order l) same ∙ sorted_lines lines sorted in
    subst (λ (n : Over). Stands n first) (sym is) (record { ordered = stands.ordered; base = stands.base; agrees = write_agrees o key image first in_order stands.ordered stands.base stands.agrees })

pub laid_behind : (lines : Written) (o now : Over) (key : Dbkey) (image : Option (List ℕ)) → o.lines ≡ lines → IsStrictlySortedBy dbkey_order (map (λ e. e.0) lines) → now ≡ with_over key image o → (first : Lines) → Stands o first →
    laid_over now.lines first ≡ laid key image (laid_over o.lines first)
laid_behind lines o now key image same sorted is first stands =
    let in_order : is_sorted dbkey_order o.lines ≡ true = ap (λ (l : Written). is_sorted dbkey_order l) same ∙ sorted_lines lines sorted in
    ap (λ (n : Over). laid_over n.lines first) is ∙ over_put key image o.lines first in_order stands.ordered

-- ---- all writes

pub keys_listed : (lines : Written) → map (λ w. w.key) (writes_of lines) ≡ map (λ e. e.0) lines
keys_listed [] = refl
keys_listed (e ∷ es) = ap (λ ks. e.0 ∷ ks) (keys_listed es)

pub all_laid : (lines : Written) (all : Lines) → laid_all (writes_of lines) all ≡ laid_over lines all
all_laid [] all = refl
all_laid (e ∷ es) all = all_laid es (laid e.0 e.1 all)

pub zipped : (xs ys : List Dbkey) → AllZip (λ a b. a ≡ b) xs ys → ys ≡ xs
zipped [] [] z = refl
zipped [] (y ∷ ys) z = absurd z
zipped (x ∷ xs) [] z = absurd z
zipped (x ∷ xs) (y ∷ ys) z = λ i. (sym z.0 i) ∷ (zipped xs ys z.1 i)

pub zipped_by : (R : Dbkey → Dbkey → Type 0) → ((x y : Dbkey) → R x y → x ≡ y) → (xs ys : List Dbkey) → AllZip R xs ys → ys ≡ xs
zipped_by R same [] [] z = refl
zipped_by R same [] (y ∷ ys) z = absurd z
zipped_by R same (x ∷ xs) [] z = absurd z
zipped_by R same (x ∷ xs) (y ∷ ys) z = λ i. (sym (same x y z.0) i) ∷ (zipped_by R same xs ys z.1 i)
