-- Which lines a catalog has: those that are present in its area.
use Rattle.std.proofs.Common.{◌≡◌, ◌==◌, ℕ, zero, suc, true, false, cond, List, [], ◌∷◌, Some, None, ◌⊎◌, inl, inr, refl, sym, ap, subst, ◌∙◌}
use Rattle.std.specs.List.{AllByRecursion, slice_get}
use Rattle.std.specs.Ordering.{is_eq}
use Rattle.std.specs.FinMap.Entries.{find, find-where_key}
use Rattle.std.proofs.lemmas.Option.{none-some}
use Rattle.std.proofs.lemmas.List.Elements.{recursion_from_All}
use Rattle.rdb_types.specs.declared.keys.Dbkey.{Dbkey}
use Rattle.rdb_types.specs.Order.{dbkey_order}
use Rattle.line_view.specs.Knowledge.{Lines, line_in, lines_in, keys_of}
use Rattle.catalog_lines.specs.Lines.{IsCatalogLine}
use Rattle.catalog_lines.proofs.Lines.{one_line}
use Rattle.sound_lines.specs.catalog.declared.directory.PlacedLine.{PlacedLine}
use Rattle.sound_lines.specs.catalog.declared.reading.Catalog.{Catalog}
use Rattle.sound_lines.specs.catalog.Reading.{catalog_area, line_keys, IsPresent, AreCatalogLines, IsCatalogOf}
use Rattle.sound_changes.proofs.Basics.{equal, both_of}
use Rattle.sound_changes.proofs.Frames.{in_area}
use Rattle.rdb_types.specs.OrderLaws.{same_dbkey}
use Rattle.sound_changes.proofs.IndexLaid.{at_place}

-- two lines that are present at one key are one
pub one_placed : (all : Lines) (p q : PlacedLine) → p.key ≡ q.key → IsPresent all p → IsPresent all q → p ≡ q
one_placed all p q key is too =
    let found : line_in p.key all ≡ line_in q.key all = ap (λ k. line_in k all) key in
    let first = is.present in
    let second = too.present in
    let image : is.image ≡ too.image = cc in
    let line : p.line ≡ q.line = one_line too.image p.line q.line (subst (λ bytes. IsCatalogLine bytes p.line) image is.decodes) too.decodes in
    λ i. record { key = key i; line = line i }

-- a line at this key is among these
place_of : (k : Dbkey) (image : List ℕ) (ps : List PlacedLine) (es : Lines) → line_keys ps ≡ keys_of es → find dbkey_order k es ≡ Some image → (i : ℕ) × (q : PlacedLine) × (slice_get ps i ≡ Some q) × (q.key ≡ k)
place_of k image [] [] same found = absurd (none-some image found)
place_of k image [] (e ∷ es) same found = let bad : ⊥ = cc in absurd bad
place_of k image (p ∷ ps) [] same found = let bad : ⊥ = cc in absurd bad
place_of k image (p ∷ ps) (e ∷ es) same found =
    let key : p.key ≡ e.0 = cc in
    let rest : line_keys ps ≡ keys_of es = cc in
    elim (is_eq (dbkey_order k e.0)) as (λ b. is_eq (dbkey_order k e.0) ≡ b → cond b (Some e.1) (find dbkey_order k es) ≡ Some image → (i : ℕ) × (q : PlacedLine) × (slice_get (p ∷ ps) i ≡ Some q) × (q.key ≡ k)) [
      | true ↦ λ tie h. (zero, p, refl, key ∙ sym (same_dbkey k e.0 (equal _ tie)))
      | false ↦ λ apart h. let more = place_of k image ps es rest h in (suc more.0, more.1, more.2, more.3)
    ] refl found

-- a line that is present in the catalog's area is one of its lines
pub listed_at : (all : Lines) (ps : List PlacedLine) (p : PlacedLine) → AreCatalogLines all ps → (p.key.area == catalog_area) ≡ true → IsPresent all p → (i : ℕ) × (slice_get ps i ≡ Some p)
listed_at all ps p are own present =
    let inside : find dbkey_order p.key (lines_in catalog_area all) ≡ Some present.image =
    find-where_key dbkey_order (λ k. k.area == catalog_area) p.key (λ x tie. ap (λ (k : Dbkey). k.area == catalog_area) (sym (same_dbkey p.key x tie))) all
    ∙ ap (λ b. cond b (line_in p.key all) None) own ∙ present.present in
    let there = place_of p.key present.image ps (lines_in catalog_area all) are.keys inside in
    let also = at_place (IsPresent all) ps there.0 there.1 (recursion_from_All (IsPresent all) ps are.images) there.2 in
    (there.0, there.2 ∙ ap Some (one_placed all there.1 p there.3 also present))

pub listed : (all : Lines) (ps : List PlacedLine) (P : PlacedLine → Type 0) (p : PlacedLine) → AreCatalogLines all ps → (p.key.area == catalog_area) ≡ true → IsPresent all p → AllByRecursion P ps → P p
listed all ps P p are own present each =
    let there = listed_at all ps p are own present in
    at_place P ps there.0 p each there.1

-- A line of the catalog behind is one of the catalog before, or it is new: what holds of these holds of it.
pub behind_all : (all now : Lines) (c after : Catalog) (P : PlacedLine → Type 0) → IsCatalogOf all c → IsCatalogOf now after → AllByRecursion P c.lines →
    ((p : PlacedLine) → IsPresent now p → IsPresent all p ⊎ P p) → AllByRecursion P after.lines
behind_all all now c after P is too each new =
    both_of (λ (p : PlacedLine). (p.key.area == catalog_area) ≡ true) (IsPresent now) P
    (λ p own present. elim (new p present) [ inl old ↦ listed all c.lines P p is.lines own old each | inr holds ↦ holds ]) after.lines
    (in_area now after too) (recursion_from_All (IsPresent now) after.lines too.lines.images)
