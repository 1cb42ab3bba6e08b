-- Where a map has a catalog, no line has to be taken out of it.
use Rattle.std.proofs.Common.{◌≡◌, inl, inr, ◌⊎◌, ℕ, cond, List, [], ◌∷◌, Some, None, refl, sym, ap, subst, ◌∙◌}
use Rattle.std.specs.List.{All}
use Rattle.std.specs.declared.cmp.Ordering.TheVariants.{Less, Equal, Greater}
use Rattle.std.specs.Ordering.{is_eq}
use Rattle.std.proofs.lemmas.Option.{none-some, same_Some}
use Rattle.std.proofs.lemmas.List.Elements.{All-head, All-tail, All-weaker}
use Rattle.rdb_types.specs.declared.keys.Dbkey.{Dbkey}
use Rattle.rdb_types.specs.Order.{dbkey_order}
use Rattle.rdb_types.specs.OrderLaws.{same_dbkey}
use Rattle.line_view.specs.Knowledge.{Knowledge, Lines, Agrees, line_in, lines_in, keys_of}
use Rattle.catalog_lines.specs.declared.line.CatalogLine.{CatalogLine}
use Rattle.catalog_lines.specs.Lines.{IsCatalogLine}
use Rattle.catalog.specs.declared.directory.PlacedLine.{PlacedLine}
use Rattle.catalog.specs.declared.reading.Catalog.{Catalog}
use Rattle.catalog.specs.Reading.{catalog_area, line_keys, IsPresent, IsCatalogOf, IsKnown}
use Rattle.catalog.specs.Reading.IsBad.{unfit}
use Rattle.catalog.proofs.Agreements.{no_catalog}
use Rattle.line_faults.specs.Catalog.{IsBadLine, AreTaken}
use Rattle.line_faults.specs.Catalog.IsBadLine.{undecoded, first_misfit}
use Rattle.line_faults.specs.Found.{IsIn}
use Rattle.line_faults.proofs.Learnt.{in_whole}

-- ---- a view that knows all of a map

abbrev all_known : Lines → Knowledge
all_known all = record { line = λ key. Some (line_in key all); area = λ area. Some (keys_of (lines_in area all)); room = λ room. None }

it_agrees : (all : Lines) → Agrees (all_known all) all
it_agrees all = record {
  line = λ key what is. sym (same_Some _ _ is);
  area = λ area keys is. sym (same_Some _ _ is);
  within = λ room key is. absurd (none-some key is);
  free = λ room key is. absurd (none-some key is);
  apart = λ a b key is too. absurd (none-some key is);
}

known_there : (all : Lines) (p : PlacedLine) → IsPresent all p → IsKnown (all_known all) p.key p.line
known_there all p is = record { image = is.image; present = ap Some is.present; decodes = is.decodes }

-- ---- a line that is present is one of the catalog's

among_keys : (key : Dbkey) (image : List ℕ) (lines : Lines) → line_in key lines ≡ Some image → IsIn key (keys_of lines)
among_keys key image [] there = absurd (none-some image there)
among_keys key image (e ∷ es) there = elim (dbkey_order key e.0) as (λ r. dbkey_order key e.0 ≡ r → cond (is_eq r) (Some e.1) (line_in key es) ≡ Some image → (e.0 ≡ key) ⊎ IsIn key (keys_of es)) [
  | Less ↦ λ is h. inr (among_keys key image es h)
  | Equal ↦ λ is h. inl (sym (same_dbkey key e.0 is))
  | Greater ↦ λ is h. inr (among_keys key image es h)
] refl there

record Decoded (all : Lines) (key : Dbkey) : Type 0 where
  line : CatalogLine
  image : List ℕ
  there : line_in key all ≡ Some image
  decodes : IsCatalogLine image line

decoded_at : (all : Lines) (key : Dbkey) (ps : List PlacedLine) → All (IsPresent all) ps → IsIn key (line_keys ps) → Decoded all key
decoded_at all key [] each there = absurd there
decoded_at all key (p ∷ ps) each (inl same) =
    let is = All-head (IsPresent all) p ps each in
    record { line = p.line; image = is.image; there = ap (λ k. line_in k all) (sym same) ∙ is.present; decodes = is.decodes }
decoded_at all key (p ∷ ps) each (inr there) = decoded_at all key ps (All-tail (IsPresent all) p ps each) there

-- ---- no line is bad

module _ (all : Lines) (c : Catalog) (is : IsCatalogOf all c) where
  not_bad : (key : Dbkey) → IsBadLine all key → ⊥
  not_bad key (undecoded image own there none) =
      let within : line_in key (lines_in catalog_area all) ≡ Some image = in_whole key catalog_area all own ∙ there in
      let found = decoded_at all key c.lines is.lines.images (subst (IsIn key) (sym is.lines.keys) (among_keys key image (lines_in catalog_area all) within)) in
      none found.line (subst (λ (bytes : List ℕ). IsCatalogLine bytes found.line) (same_Some _ _ (sym found.there ∙ there)) found.decodes)
  not_bad key (first_misfit ps are misfits) =
      no_catalog (all_known all) all key c (it_agrees all)
      (unfit ps (record { keys = ap Some (sym are.keys); lines = All-weaker (IsPresent all) (λ (p : PlacedLine). IsKnown (all_known all) p.key p.line) (known_there all) ps are.images }) misfits)
      is

  pub none_taken : (taken : List Dbkey) → AreTaken all taken → taken ≡ []
  none_taken [] are = refl
  none_taken (key ∷ keys) are = absurd (not_bad key are.0)
