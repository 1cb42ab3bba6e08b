-- Lines that are taken out of a catalog.
use Rattle.std.proofs.Common.{◌≡◌, ◌==◌, inl, inr, ◌<◌, ◌≤◌, ℕ, suc, Bool, true, false, not, cond, T, List, [], ◌∷◌, ◌++◌, length, Option, Some, None, refl, sym, ap, subst, ◌∙◌, arith}
use Rattle.std.specs.Prelude.{IsSome}
use Rattle.std.specs.List.{filter}
use Rattle.std.specs.Ordering.{is_eq}
use Rattle.std.specs.FinMap.Entries.{is_sorted-where_key}
use Rattle.std.proofs.lemmas.Option.{none-some, same_Some}
use Rattle.std.proofs.lemmas.List.Elements.{All-weaker}
use Rattle.rdb_types.specs.declared.keys.Dbkey.{Dbkey}
use Rattle.rdb_types.specs.Order.{dbkey_order}
use Rattle.rdb_meaning.specs.declared.tables.Tables.{Tables}
use Rattle.line_view.specs.declared.need.Need.{Need}
use Rattle.line_view.specs.declared.need.Need.TheVariants.{Line, Area, Room}
use Rattle.line_view.specs.Knowledge.{Knowledge, Lines, IsInOrder, Agrees, line_in, lines_in, keys_of, laid}
use Rattle.line_view.specs.Held.{knows, nothing, ordered, with_area}
use Rattle.catalog_lines.specs.declared.line.CatalogLine.{CatalogLine}
use Rattle.catalog_lines.specs.Lines.{IsCatalogLine}
use Rattle.catalog.specs.declared.directory.PlacedLine.{PlacedLine}
use Rattle.catalog.specs.declared.directory.Directory.{Directory}
use Rattle.catalog.specs.Directory.{directory}
use Rattle.catalog.specs.Schema.{misfit_from, stands, catalog_tables}
use Rattle.catalog.specs.Reading.{catalog_area, line_keys, IsPresent, IsKnown, IsBad, IsNext}
use Rattle.catalog.specs.Reading.IsBad.{spoiled, unfit}
use Rattle.line_faults.specs.Catalog.{IsBadLine, without, AreTaken}
use Rattle.line_faults.specs.Catalog.IsBadLine.{undecoded, first_misfit}
use Rattle.line_faults.specs.Found.{IsIn}
use Rattle.line_faults.proofs.Learnt.{IsFound, split_in, ordered_in, found_in, area_in, in_whole, learnt_keys, learnt_line}

-- ---- one line more

pub record HasTaken (all : Lines) (keys : List Dbkey) (left : Lines) : Type 0 where
  pub taken : AreTaken all keys
  pub are : left ≡ lines_in catalog_area (without keys all)
  pub sorted : IsInOrder (without keys all)

taken_more : (all : Lines) (keys : List Dbkey) (key : Dbkey) → AreTaken all keys → IsBadLine (without keys all) key → AreTaken all (keys ++ key ∷ [])
taken_more all [] key taken is = (is, tt)
taken_more all (k ∷ ks) key taken is = (taken.0, taken_more (laid k None all) ks key taken.1 is)

without_more : (all : Lines) (keys : List Dbkey) (key : Dbkey) → without (keys ++ key ∷ []) all ≡ laid key None (without keys all)
without_more all [] key = refl
without_more all (k ∷ ks) key = without_more (laid k None all) ks key

-- two filters in either order
other_order : {X : Type 0} (p q : X → Bool) (xs : List X) → filter p (filter q xs) ≡ filter q (filter p xs)
other_order p q [] = refl
other_order p q (x ∷ xs) = elim (p x) as (λ b. p x ≡ b → filter p (cond (q x) (x ∷ filter q xs) (filter q xs)) ≡ filter q (cond b (x ∷ filter p xs) (filter p xs))) [
  | true ↦ λ is. elim (q x) as (λ c. q x ≡ c → filter p (cond c (x ∷ filter q xs) (filter q xs)) ≡ cond (q x) (x ∷ filter q (filter p xs)) (filter q (filter p xs))) [
    | true ↦ λ too. ap (λ b. cond b (x ∷ filter p (filter q xs)) (filter p (filter q xs))) is ∙ ap (λ l. x ∷ l) (other_order p q xs) ∙ sym (ap (λ c. cond c (x ∷ filter q (filter p xs)) (filter q (filter p xs))) too)
    | false ↦ λ not_too. other_order p q xs ∙ sym (ap (λ c. cond c (x ∷ filter q (filter p xs)) (filter q (filter p xs))) not_too)
  ] refl
  | false ↦ λ isnt. elim (q x) as (λ c. filter p (cond c (x ∷ filter q xs) (filter q xs)) ≡ filter q (filter p xs)) [
    | true ↦ ap (λ b. cond b (x ∷ filter p (filter q xs)) (filter p (filter q xs))) isnt ∙ other_order p q xs
    | false ↦ other_order p q xs
  ]
] refl

true_from_T : (b : Bool) → T b → b ≡ true
true_from_T true h = refl
true_from_T false h = absurd h

pub still_sorted : (key : Dbkey) (lines : Lines) → IsInOrder lines → IsInOrder (laid key None lines)
still_sorted key lines sorted = true_from_T _ (is_sorted-where_key dbkey_order (λ k. not (is_eq (dbkey_order key k))) lines (subst T (sym sorted) tt))

pub start_taken : (all lines : Lines) → IsInOrder all → lines ≡ lines_in catalog_area all → HasTaken all [] lines
start_taken all lines sorted is = record { taken = tt; are = is; sorted = sorted }

pub one_taken : (all : Lines) (keys more : List Dbkey) (left new : Lines) (key : Dbkey) → HasTaken all keys left → IsBadLine (without keys all) key → new ≡ laid key None left → more ≡ keys ++ key ∷ [] → HasTaken all more new
one_taken all keys more left new key has is removed pushed = subst (λ (ks : List Dbkey). HasTaken all ks new) (sym pushed) (record {
  taken = taken_more all keys key has.taken is;
  are = removed ∙ ap (λ l. laid key None l) has.are
      ∙ other_order (λ e. not (is_eq (dbkey_order key e.0))) (λ e. e.0.area == catalog_area) (without keys all)
      ∙ sym (ap (λ l. lines_in catalog_area l) (without_more all keys key));
  sorted = subst IsInOrder (sym (without_more all keys key)) (still_sorted key (without keys all) has.sorted);
})

-- ---- fewer lines

no_more : {X : Type 0} (p : X → Bool) (xs : List X) → length (filter p xs) ≤ length xs
no_more p [] = omega arith
no_more p (x ∷ xs) = elim (p x) as (λ b. length (cond b (x ∷ filter p xs) (filter p xs)) ≤ suc (length xs)) [
  | true ↦ let rest = no_more p xs in omega arith
  | false ↦ let rest = no_more p xs in omega arith
]

pub fewer : (key : Dbkey) (lines : Lines) → IsFound key lines → length (laid key None lines) < length lines
fewer key [] found = absurd (none-some found.0 found.1)
fewer key (e ∷ es) found = elim (is_eq (dbkey_order key e.0)) as (λ b. cond b (Some e.1) (line_in key es) ≡ Some found.0 → length (cond (not b) (e ∷ laid key None es) (laid key None es)) < suc (length es)) [
  | true ↦ λ h. let rest = no_more (λ (x : Dbkey × List ℕ). not (is_eq (dbkey_order key x.0))) es in omega arith
  | false ↦ λ h. let rest = fewer key es (found.0, h) in omega arith
] found.1

-- ---- a bad line of what is known

misfit_in : (d : Directory) (t : Tables) (ps : List PlacedLine) (key : Dbkey) → misfit_from d t ps ≡ Some key → IsIn key (line_keys ps)
misfit_in d t [] key is = absurd (none-some key is)
misfit_in d t (p ∷ ps) key is = elim (stands d t p.key p.line) as (λ b. cond b (misfit_from d t ps) (Some p.key) ≡ Some key → IsIn key (p.key ∷ line_keys ps)) [
  | true ↦ λ h. inr (misfit_in d t ps key h)
  | false ↦ λ h. inl (same_Some _ _ h)
] is

-- a bad line is one of the area's
bad_in : (known : Knowledge) (keys : List Dbkey) (key : Dbkey) → known.area catalog_area ≡ Some keys → IsBad known key → IsIn key keys
bad_in known keys key told (spoiled to spoil) = subst (IsIn key) (same_Some _ _ (sym to.keys ∙ told)) (split_in key (line_keys to.before) to.behind)
bad_in known keys key told (unfit ps reads misfits) = subst (IsIn key) (same_Some _ _ (sym reads.keys ∙ told)) (misfit_in (directory ps) (catalog_tables ps) ps key misfits)

pub bad_found : (lines : Lines) (key : Dbkey) → IsBad (knows (with_area catalog_area lines nothing)) key → IsFound key lines
bad_found lines key is = found_in key lines (ordered_in key (keys_of lines) (bad_in (knows (with_area catalog_area lines nothing)) (ordered (keys_of lines)) key (learnt_keys nothing catalog_area lines) is))

spoils : (known : Knowledge) (all : Lines) (key : Dbkey) (image : List ℕ) → Agrees known all → line_in key all ≡ Some image → (what : Option (Option (List ℕ))) → known.line key ≡ what → IsSome what → ((line : CatalogLine) → IsKnown known key line → ⊥) → (line : CatalogLine) → IsCatalogLine image line → ⊥
spoils known all key image agrees there None is some none line decodes = let bad : ⊥ = cc in bad
spoils known all key image agrees there (Some what) is some none line decodes =
    none line (record { image = image; present = is ∙ ap Some (agrees.line key what is ∙ there); decodes = decodes })

pub bad_line : (known : Knowledge) (all : Lines) (key : Dbkey) → Agrees known all → IsBad known key → IsBadLine all key
bad_line known all key agrees (spoiled to spoil) =
    let there : IsIn key (keys_of (lines_in catalog_area all)) = subst (IsIn key) (agrees.area catalog_area _ to.keys) (split_in key (line_keys to.before) to.behind) in
    let own = area_in key catalog_area all there in
    let found = found_in key (lines_in catalog_area all) there in
    let present : line_in key all ≡ Some found.0 = sym (in_whole key catalog_area all own) ∙ found.1 in
    undecoded found.0 own present (spoils known all key found.0 agrees present (known.line key) refl spoil.0 spoil.1)
bad_line known all key agrees (unfit ps reads misfits) = first_misfit ps (record {
  keys = agrees.area catalog_area (line_keys ps) reads.keys;
  images = All-weaker (λ (p : PlacedLine). IsKnown known p.key p.line) (IsPresent all) (λ p is. record { image = is.image; present = sym (agrees.line p.key (Some is.image) is.present); decodes = is.decodes }) ps reads.lines;
}) misfits

-- ---- nothing is read next

pub nothing_next : (lines : Lines) (need : Need) → IsNext (knows (with_area catalog_area lines nothing)) need → ⊥
nothing_next lines (Area area) next = none-some (ordered (keys_of lines)) (sym next.1 ∙ learnt_keys nothing catalog_area lines)
nothing_next lines (Line key) next =
    let there : IsIn key (ordered (keys_of lines)) = subst (IsIn key) (same_Some _ _ (sym next.0.keys ∙ learnt_keys nothing catalog_area lines)) (split_in key (line_keys next.0.before) next.0.behind) in
    let is = learnt_line nothing catalog_area lines key there in
    none-some is.0 (sym next.1 ∙ is.1)
nothing_next lines (Room room) next = next
