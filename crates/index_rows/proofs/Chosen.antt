-- The access that is chosen is a scan or that of one of the indexes.
use Rattle.std.proofs.Common.{◌≡◌, true, false, cond, List, [], ◌∷◌, Option, Some, None, option_map, unwrap_or, inl, inr, refl, ap, sym, subst, ◌∙◌}
use Rattle.std.specs.declared.cmp.Ordering.{Ordering}
use Rattle.std.specs.declared.cmp.Ordering.TheVariants.{Less, Equal, Greater}
use Rattle.std.specs.Ordering.{is_eq}
use Rattle.std.specs.Option.{option_or}
use Rattle.std.specs.List.{AllByRecursion}
use Rattle.std.proofs.lemmas.Bool.{false≢true}
use Rattle.rdb_types.specs.declared.keys.Dbkey.{Dbkey}
use Rattle.rdb_types.specs.Order.{dbkey_order}
use Rattle.rdb_types.specs.OrderLaws.{same_dbkey}
use Rattle.rdb_meaning.specs.Contents.{Row}
use Rattle.rdo_values.specs.Tree.{Conjunction}
use Rattle.line_view.specs.Knowledge.{Lines}
use Rattle.sorted_index_laws.specs.Nodes.{AnyByRecursion}
use Rattle.sorted_index_laws.proofs.Lines.{equal_eq}
use Rattle.access_paths.specs.declared.choice.IndexPath.{IndexPath}
use Rattle.access_paths.specs.declared.choice.Access.{Access}
use Rattle.access_paths.specs.declared.choice.Access.TheVariants.{Scan, Find, Range}
use Rattle.access_paths.specs.Equated.{key_at}
use Rattle.access_paths.specs.Choice.{access_by_key, first_by_key, access_by_limits, first_limits, first_by_limits, choice}
use Rattle.access_paths.specs.Reached.{IsOfRoot}
use Rattle.access_paths.proofs.Rooted.{rooted}
use Rattle.relation_rows.specs.Indexed.{IsIndexOf}
use Rattle.index_rows.specs.Indexed.{AreIndexesOf, fields_of_root, positions_in}
use Rattle.index_rows.specs.Given.{Serves}

-- ---- the choice for several indexes is that for one of them

-- which of two options
abbrev either : Option Access → Option Access → Access
either a b = unwrap_or (option_or a b) Scan

module _ (before : Row) (tests : Conjunction) where
  abbrev by_key : IndexPath → Option Access
  by_key x = option_map (access_by_key x.root) (key_at before tests x.fields)

  abbrev by_limits : IndexPath → Option Access
  by_limits x = access_by_limits x.root (first_limits before tests x.fields)

  key_found : (xs : List IndexPath) (a : Access) → first_by_key before tests xs ≡ Some a → AnyByRecursion (λ x. by_key x ≡ Some a) xs
  key_found [] a e = absurd (cc)
  key_found (x ∷ xs) a e =
      elim (by_key x) as (λ o. by_key x ≡ o → option_or o (first_by_key before tests xs) ≡ Some a → AnyByRecursion (λ x. by_key x ≡ Some a) (x ∷ xs)) [
        | Some b ↦ λ p f. inl (p ∙ f)
        | None ↦ λ p f. inr (key_found xs a f)
      ] refl e

  key_none : (xs : List IndexPath) → first_by_key before tests xs ≡ None → AllByRecursion (λ x. by_key x ≡ None) xs
  key_none [] e = tt
  key_none (x ∷ xs) e =
      elim (by_key x) as (λ o. by_key x ≡ o → option_or o (first_by_key before tests xs) ≡ None → AllByRecursion (λ x. by_key x ≡ None) (x ∷ xs)) [
        | Some b ↦ λ p f. absurd (cc)
        | None ↦ λ p f. (p, key_none xs f)
      ] refl e

  limits_found : (xs : List IndexPath) (a : Access) → first_by_limits before tests xs ≡ Some a → AllByRecursion (λ x. by_key x ≡ None) xs → AnyByRecursion (λ x. (by_key x ≡ None) × (by_limits x ≡ Some a)) xs
  limits_found [] a e none = absurd (cc)
  limits_found (x ∷ xs) a e none =
      elim (by_limits x) as (λ o. by_limits x ≡ o → option_or o (first_by_limits before tests xs) ≡ Some a → AnyByRecursion (λ x. (by_key x ≡ None) × (by_limits x ≡ Some a)) (x ∷ xs)) [
        | Some b ↦ λ p f. inl (none.0, p ∙ f)
        | None ↦ λ p f. inr (limits_found xs a f none.1)
      ] refl e

  any_mapped : (P Q : IndexPath → Type 0) → ((x : IndexPath) → P x → Q x) → (xs : List IndexPath) → AnyByRecursion P xs → AnyByRecursion Q xs
  any_mapped P Q f [] h = h
  any_mapped P Q f (x ∷ xs) h = elim h as (λ h. AnyByRecursion Q (x ∷ xs)) [
    | inl own ↦ inl (f x own)
    | inr later ↦ inr (any_mapped P Q f xs later)
  ]

  key_alone : (a : Access) (x : IndexPath) → by_key x ≡ Some a → choice (x ∷ []) before tests ≡ a
  key_alone a x e = ap (λ o. either (option_or o None) (option_or (by_limits x) None)) e

  limits_alone : (a : Access) (x : IndexPath) → (by_key x ≡ None) × (by_limits x ≡ Some a) → choice (x ∷ []) before tests ≡ a
  limits_alone a x e = λ i. either (option_or (e.0 i) None) (option_or (e.1 i) None)

  -- a choice of one index alone
  abbrev pub IsOfOne : List IndexPath → Access → Type 0
  IsOfOne xs a = AnyByRecursion (λ x. choice (x ∷ []) before tests ≡ a) xs

  module _ (P : Access → Type 0) (xs : List IndexPath) (scan : P Scan) (one : (a : Access) → IsOfOne xs a → P a) where
    by_limits_else : (l : Option Access) → first_by_key before tests xs ≡ None → first_by_limits before tests xs ≡ l → P (either None l)
    by_limits_else None none e = scan
    by_limits_else (Some a) none e =
        one a (any_mapped (λ x. (by_key x ≡ None) × (by_limits x ≡ Some a)) (λ x. choice (x ∷ []) before tests ≡ a) (limits_alone a) xs (limits_found xs a e (key_none xs none)))

    by_either : (k l : Option Access) → first_by_key before tests xs ≡ k → first_by_limits before tests xs ≡ l → P (either k l)
    by_either None l e f = by_limits_else l e f
    by_either (Some a) l e f = one a (any_mapped (λ x. by_key x ≡ Some a) (λ x. choice (x ∷ []) before tests ≡ a) (key_alone a) xs (key_found xs a e))

    -- what holds of a scan and of a choice of one index alone holds of the choice
    pub chosen_by_one : P (choice xs before tests)
    chosen_by_one = by_either (first_by_key before tests xs) (first_by_limits before tests xs) refl refl

-- ---- the access that is chosen serves

equal : (o : Ordering) → is_eq o ≡ true → o ≡ Equal
equal Less e = absurd (cc)
equal Equal e = refl
equal Greater e = absurd (cc)

module _ (all : Lines) (rows : List (Dbkey × Row)) where
  another_root : (root : Dbkey) (x : IndexPath) → is_eq (dbkey_order root x.root) ≡ false → x.root ≡ root → ⊥
  another_root root x other own = false≢true (sym other ∙ subst (λ key. is_eq (dbkey_order root key) ≡ true) (sym own) (equal_eq root))

  fields_serve : (root : Dbkey) (xs : List IndexPath) → AreIndexesOf all xs rows → AnyByRecursion (λ x. x.root ≡ root) xs → IsIndexOf all root (fields_of_root root xs) rows
  fields_serve root [] are some = absurd some
  fields_serve root (x ∷ xs) are some =
      elim (is_eq (dbkey_order root x.root)) as (λ b. is_eq (dbkey_order root x.root) ≡ b → IsIndexOf all root (cond b x.fields (fields_of_root root xs)) rows) [
        | true ↦ λ same. subst (λ root. IsIndexOf all root x.fields rows) (sym (same_dbkey root x.root (equal _ same))) are.0.0
        | false ↦ λ other. fields_serve root xs are.1 (elim some as (λ s. AnyByRecursion (λ x. x.root ≡ root) xs) [
          | inl own ↦ absurd (another_root root x other own)
          | inr later ↦ later
        ])
      ] refl

  serves_rooted : (xs : List IndexPath) (a : Access) → AreIndexesOf all xs rows → AnyByRecursion (λ x. IsOfRoot x.root a) xs → Serves all (positions_in xs a) rows a
  serves_rooted xs Scan are some = tt
  serves_rooted xs (Find root key) are some = fields_serve root xs are some
  serves_rooted xs (Range root bounds) are some = fields_serve root xs are some

pub serves_chosen : (all : Lines) (rows : List (Dbkey × Row)) (indexes : List IndexPath) (before : Row) (tests : Conjunction) → AreIndexesOf all indexes rows → Serves all (positions_in indexes (choice indexes before tests)) rows (choice indexes before tests)
serves_chosen all rows indexes before tests are =
    chosen_by_one before tests (λ a. Serves all (positions_in indexes a) rows a) indexes tt
    (λ a some. serves_rooted all rows indexes a are (any_mapped before tests (λ x. choice (x ∷ []) before tests ≡ a) (λ x. IsOfRoot x.root a) (λ x e. subst (IsOfRoot x.root) e (rooted before tests x)) indexes some))
