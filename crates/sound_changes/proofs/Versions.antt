-- The version of a relation is that of its line.
use Rattle.std.proofs.Common.{◌≡◌, ◌==◌, ℕ, zero, suc, true, false, cond, List, [], ◌∷◌, Some, refl, sym, ap, subst, ◌∙◌}
use Rattle.std.specs.List.{AllByRecursion, slice_get}
use Rattle.std.specs.Option.{unwrap_or}
use Rattle.std.specs.Ordering.{is_eq}
use Rattle.std.specs.Cmp.{tied_itself}
use Rattle.std.specs.FinMap.Entries.{find, find-put}
use Rattle.std.proofs.lemmas.Option.{none-some, same_Some}
use Rattle.rdo_ast.specs.Tree.{Name}
use Rattle.rdb_meaning.specs.declared.tables.Relation.{Relation as Rows}
use Rattle.rdb_meaning.specs.declared.tables.Tables.{Tables}
use Rattle.rdb_meaning.specs.Contents.{relation_named, fields_of}
use Rattle.rdb_meaning.specs.Execution.{area_of}
use Rattle.line_view.specs.Knowledge.{Lines}
use Rattle.catalog_lines.specs.declared.line.RelationLine.{RelationLine}
use Rattle.catalog_lines.specs.declared.line.CatalogLine.{CatalogLine}
use Rattle.catalog_lines.specs.declared.line.CatalogLine.TheVariants.{Relation, Global, Field as FieldOf, Index}
use Rattle.sound_lines.specs.catalog.declared.directory.PlacedLine.{PlacedLine}
use Rattle.sound_lines.specs.catalog.declared.directory.Directory.{Directory}
use Rattle.sound_lines.specs.catalog.declared.reading.Catalog.{Catalog}
use Rattle.sound_lines.specs.catalog.Directory.{area_order, numbered, directory}
use Rattle.sound_lines.specs.catalog.Schema.{stands, catalog_tables}
use Rattle.sound_lines.specs.catalog.Reading.{catalog_area, IsPresent, IsCatalogOf}
use Rattle.sound_lines.proofs.of_catalog.Differences.{relation_parts, one_key}
use Rattle.sound_lines.specs.Contents.{with_version, versions_from, versions_in, version_of}
use Rattle.sound_lines.specs.Sound.{relation_in, versions_rise, IsSoundRelation, IsSoundLine}
use Rattle.sound_changes.specs.Standing.{IsSoundAs}
use Rattle.sound_changes.proofs.Basics.{equal, all_of}
use Rattle.sound_changes.proofs.Named.{Fits, all_fit}
use Rattle.sound_changes.proofs.RowLaid.{found as known_of}
use Rattle.sound_changes.proofs.PairPut.{own_relation}
use Rattle.sound_changes.proofs.IndexLaid.{at_place}
use Rattle.rdb_types.specs.Order.{chars_order}
use Rattle.rdb_types.specs.OrderLaws.{chars_total, same_chars}
use Rattle.sound_changes.proofs.Listed.{one_placed, listed_at, listed}

-- a relation's line of this name has this version
abbrev pub NamedSo : Name → ℕ → CatalogLine → Type 0
NamedSo n v (Relation s) = is_eq (chars_order n s.name) ≡ true → s.version ≡ v
NamedSo n v (Global g) = Unit {0}
NamedSo n v (FieldOf f) = Unit {0}
NamedSo n v (Index x) = Unit {0}

step : (n : Name) (v : ℕ) (line : CatalogLine) (versions : List (Name × ℕ)) → NamedSo n v line → find chars_order n versions ≡ Some v → find chars_order n (with_version line versions) ≡ Some v
step n v (Relation s) versions so found =
    find-put chars_order chars_total n s.name s.version versions
    ∙ elim (is_eq (chars_order n s.name)) as (λ b. (b ≡ true → s.version ≡ v) → cond b (Some s.version) (find chars_order n versions) ≡ Some v) [ true ↦ λ h. ap Some (h refl) | false ↦ λ h. found ] so
step n v (Global g) versions so found = found
step n v (FieldOf f) versions so found = found
step n v (Index x) versions so found = found

stays : (n : Name) (v : ℕ) (ps : List PlacedLine) (versions : List (Name × ℕ)) → AllByRecursion (λ (p : PlacedLine). NamedSo n v p.line) ps → find chars_order n versions ≡ Some v → find chars_order n (versions_from versions ps) ≡ Some v
stays n v [] versions so found = found
stays n v (p ∷ ps) versions so found = stays n v ps (with_version p.line versions) so.1 (step n v p.line versions so.0 found)

abbrev pub IsNamed : Name → CatalogLine → Type 0
IsNamed n (Relation s) = is_eq (chars_order n s.name) ≡ true
IsNamed n (Global g) = ⊥
IsNamed n (FieldOf f) = ⊥
IsNamed n (Index x) = ⊥

here : (n : Name) (v : ℕ) (line : CatalogLine) (versions : List (Name × ℕ)) → NamedSo n v line → IsNamed n line → find chars_order n (with_version line versions) ≡ Some v
here n v (Relation s) versions so named = find-put chars_order chars_total n s.name s.version versions ∙ ap (λ b. cond b (Some s.version) (find chars_order n versions)) named ∙ ap Some (so named)
here n v (Global g) versions so named = absurd named
here n v (FieldOf f) versions so named = absurd named
here n v (Index x) versions so named = absurd named

-- the version is given by a line of the name, wherever it stands
given : (n : Name) (v : ℕ) (ps : List PlacedLine) (versions : List (Name × ℕ)) (i : ℕ) (q : PlacedLine) → AllByRecursion (λ (p : PlacedLine). NamedSo n v p.line) ps → slice_get ps i ≡ Some q → IsNamed n q.line → find chars_order n (versions_from versions ps) ≡ Some v
given n v [] versions i q so at named = absurd (none-some q at)
given n v (p ∷ ps) versions zero q so at named =
    stays n v ps (with_version p.line versions) so.1 (here n v p.line versions so.0 (subst (λ (x : PlacedLine). IsNamed n x.line) (sym (same_Some p q at)) named))
given n v (p ∷ ps) versions (suc j) q so at named = given n v ps (with_version p.line versions) j q so.1 at named

-- ---- one name has one version

module _ (all : Lines) (d : Directory) (t : Tables) (p : PlacedLine) (r : RelationLine) (is : p.line ≡ Relation r) (fits : Fits all d t p) where
  one_version : (q : PlacedLine) (line : CatalogLine) → q.line ≡ line → Fits all d t q → NamedSo r.name r.version line
  one_version q (Relation s) also other = λ tie.
      let name : r.name ≡ s.name = same_chars r.name s.name (equal _ tie) in
      let first = relation_parts d t p.key r (ap (λ l. stands d t p.key l) (sym is) ∙ fits.stood) in
      let second = relation_parts d t q.key s (ap (λ l. stands d t q.key l) (sym also) ∙ other.stood) in
      let area : r.area ≡ s.area = sym first.0 ∙ ap (λ n. area_of (relation_named n t)) name ∙ second.0 in
      let key : p.key ≡ q.key = one_key p.key q.key _ _ first.1 second.1 (ap (λ (k : ℕ). find area_order (numbered k) d.areas) area) in
      let same : p ≡ q = one_placed all p q key fits.present other.present in
      let lines : Relation r ≡ Relation s = sym is ∙ ap (λ (x : PlacedLine). x.line) same ∙ also in
      let version : s.version ≡ r.version = cc in
      version
  one_version q (Global g) also other = tt
  one_version q (FieldOf f) also other = tt
  one_version q (Index x) also other = tt

-- the version of a relation's line that is present
pub version_is : (all : Lines) (c : Catalog) (p : PlacedLine) (r : RelationLine) → IsCatalogOf all c → (p.key.area == catalog_area) ≡ true → IsPresent all p → p.line ≡ Relation r → version_of r.name (versions_in c.lines) ≡ r.version
version_is all c p r decodes own present is =
    let d = directory c.lines in
    let t = catalog_tables c.lines in
    let each = all_fit all c decodes in
    let at = listed_at all c.lines p decodes.lines own present in
    let fits = at_place (Fits all d t) c.lines at.0 p each at.1 in
    let so = all_of (Fits all d t) (λ (q : PlacedLine). NamedSo r.name r.version q.line) (λ q other. one_version all d t p r is fits q q.line refl other) c.lines each in
    let named : IsNamed r.name p.line = subst (IsNamed r.name) (sym is) (ap is_eq (tied_itself chars_total r.name)) in
    ap (λ o. unwrap_or o 0) (given r.name r.version c.lines [] at.0 p so at.1 named)

-- the versions of a relation's fields rise to the one in which its rows are stored
pub versions_rise_to : (all : Lines) (c : Catalog) (t : Tables) (n : Name) (rel : Rows) → IsSoundAs all c t → relation_named n t ≡ Some rel → versions_rise 1 (version_of n (versions_in c.lines)) rel.fields ≡ true
versions_rise_to all c t n rel sound is =
    let own = (known_of all c t n rel sound.decodes sound.are is).own in
    let p : PlacedLine = record { key = own.key; line = Relation own.r } in
    let line : IsSoundRelation own.r (fields_of (relation_in own.r.area t.relations)) = listed all c.lines (λ (q : PlacedLine). IsSoundLine all t q.line) p sound.decodes.lines own.inside own.present sound.things in
    let fields : fields_of (relation_in own.r.area t.relations) ≡ rel.fields = ap (λ (a : ℕ). fields_of (relation_in a t.relations)) (sym own.placed) ∙ ap fields_of (own_relation all c t n rel (λ l. t) sound is) in
    let version : version_of n (versions_in c.lines) ≡ own.r.version = ap (λ (m : Name). version_of m (versions_in c.lines)) own.named ∙ version_is all c p own.r sound.decodes own.inside own.present refl in
    ap (λ (v : ℕ). versions_rise 1 v rel.fields) version ∙ ap (versions_rise 1 own.r.version) (sym fields) ∙ line.versions
