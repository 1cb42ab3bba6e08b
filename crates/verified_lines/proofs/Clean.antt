-- Where no line is at fault, the map is sound.
use Rattle.std.proofs.Common.{◌≡◌, ◌≤◌, ◌%◌, ◌==◌, inl, inr, ℕ, Bool, true, false, not, cond, ◌&&◌, List, [], ◌∷◌, ◌++◌, map, length, Option, Some, None, is_some, refl, sym, ap, subst, ◌∙◌, arith}
use Rattle.std.specs.Prelude.{nat_le, is_none, filter, IsSome}
use Rattle.std.specs.List.{AllByRecursion}
use Rattle.std.specs.declared.cmp.Ordering.TheVariants.{Less, Equal, Greater}
use Rattle.std.specs.Ordering.{match_ordering}
use Rattle.std.specs.FinMap.Entries.{put, by_order}
use Rattle.std.specs.BTreeSet.{insert_key}
use Rattle.std.proofs.lemmas.Bool.{and_parts, eqb-true, eq-eqb}
use Rattle.std.proofs.lemmas.Bool.Decides.{nat_tests}
use Rattle.std.proofs.lemmas.Option.{none-some}
use Rattle.rdb_types.specs.declared.keys.Dbkey.{Dbkey}
use Rattle.rdb_types.specs.declared.values.Field.{Field}
use Rattle.rdb_types.specs.Order.{dbkey_order, chars_order}
use Rattle.rdo_ast.specs.Tree.{Name}
use Rattle.rdb_meaning.specs.declared.tables.Relation.{Relation as Rows}
use Rattle.rdb_meaning.specs.declared.tables.Tables.{Tables}
use Rattle.rdb_meaning.specs.Contents.{Row, fields_of, class_of}
use Rattle.line_view.specs.Knowledge.{Lines, IsInOrder, line_in, lines_in, keys_of}
use Rattle.line_view.specs.Held.{ordered, ordered_from}
use Rattle.line_view.proofs.Agreements.{Found, found_all}
use Rattle.catalog_lines.specs.declared.line.RelationLine.{RelationLine}
use Rattle.catalog_lines.specs.declared.line.IndexLine.{IndexLine}
use Rattle.catalog_lines.specs.declared.line.CatalogLine.{CatalogLine}
use Rattle.catalog_lines.specs.declared.line.CatalogLine.TheVariants.{Relation, Global, Field as FieldOf, Index}
use Rattle.catalog.specs.declared.directory.PlacedLine.{PlacedLine}
use Rattle.catalog.specs.Reading.{IsCatalogOf}
use Rattle.relation_rows.specs.declared.stored.StoredRelation.{StoredRelation}
use Rattle.relation_rows.specs.Stored.{AreRowsOf}
use Rattle.relation_rows.specs.Relations.{stored_row, HasRows}
use Rattle.sound_lines.specs.Contents.{versions_in, HaveRows}
use Rattle.sound_lines.specs.Gathered.{put_all}
use Rattle.sound_lines.specs.Sound.{relation_in, longest_key, IsSoundRelation, IsSoundIndex, IsSoundLine, IsOwned, IsSound}
use Rattle.rmu_texts.specs.declared.faults.VerifyFault.TheVariants as fault
use Rattle.line_faults.specs.Catalog.{without, is_sound_relation, is_sound_line, unsound_in}
use Rattle.line_faults.specs.Found.{Finds}
use Rattle.line_faults.specs.Rows.{IsRowLine}
use Rattle.line_faults.proofs.Learnt.{in_whole}
use Rattle.line_faults.proofs.Sifted.{all_fine}
use Rattle.verified_lines.specs.Relations.{stored_entry, FindsRows, is_stray, strays_in, entry_in, IsJudgedOf, FindsIndex, FindsIndexes}
use Rattle.verified_lines.specs.Relations.IsJudged.{broken, holds, differs}
use Rattle.verified_lines.specs.Faults.{IsAmong, Covers, names_in_order, AreLineFaults}

-- ---- nothing is in a list

none_first : {X : Type 0} (xs ys : List X) → [] ≡ xs ++ ys → [] ≡ xs
none_first [] ys is = refl
none_first (x ∷ xs) ys is = absurd (let no : ⊥ = cc in no)

none_then : {X : Type 0} (xs ys : List X) → [] ≡ xs ++ ys → [] ≡ ys
none_then [] ys is = is
none_then (x ∷ xs) ys is = absurd (let no : ⊥ = cc in no)

none_mapped : {X Y : Type 0} (f : X → Y) (xs : List X) → [] ≡ map f xs → xs ≡ []
none_mapped f [] is = refl
none_mapped f (x ∷ xs) is = absurd (let no : ⊥ = cc in no)

still_some : (x : Dbkey) (found ks : List Dbkey) → ordered_from (x ∷ found) ks ≡ [] → ⊥
still_some x found [] is = let no : ⊥ = cc in no
still_some x found (k ∷ ks) is = elim (dbkey_order k x) as (λ r. ordered_from (match_ordering r (k ∷ x ∷ found) (x ∷ found) (x ∷ insert_key dbkey_order found k)) ks ≡ [] → ⊥) [
  | Less ↦ still_some k (x ∷ found) ks
  | Equal ↦ still_some x found ks
  | Greater ↦ still_some x (insert_key dbkey_order found k) ks
] is

none_ordered : (ks : List Dbkey) → ordered ks ≡ [] → ks ≡ []
none_ordered [] is = refl
none_ordered (k ∷ ks) is = absurd (still_some k [] ks is)

abbrev Marked : Type 0
Marked = List (Name × Unit {0})

still_named : (e : Name × Unit {0}) (held es : Marked) → put_all chars_order (e ∷ held) es ≡ [] → ⊥
still_named e held [] is = let no : ⊥ = cc in no
still_named e held (x ∷ xs) is = elim (chars_order x.0 e.0) as (λ r. put_all chars_order (by_order r ((x.0, x.1) ∷ e ∷ held) ((e.0, x.1) ∷ held) (e ∷ put chars_order x.0 x.1 held)) xs ≡ [] → ⊥) [
  | Less ↦ still_named (x.0, x.1) (e ∷ held) xs
  | Equal ↦ still_named (e.0, x.1) held xs
  | Greater ↦ still_named e (put chars_order x.0 x.1 held) xs
] is

none_named : (names : List Name) → [] ≡ names_in_order names → names ≡ []
none_named [] is = refl
none_named (n ∷ ns) is = absurd (still_named (n, tt) [] (map (λ (m : Name). (m, tt)) ns) (none_mapped (λ (e : Name × Unit {0}). e.0) _ is))

-- ---- rows

-- the rows of lines that are rows
record RowsOfLines (r : StoredRelation) (lines : Lines) : Type 0 where
  rows : List (Dbkey × Row)
  are : AreRowsOf r lines (map stored_row rows)

rows_of_lines : (r : StoredRelation) (lines : Lines) → AllByRecursion (IsRowLine r) lines → RowsOfLines r lines
rows_of_lines r [] all = record { rows = []; are = tt }
rows_of_lines r (e ∷ es) all = let rest = rows_of_lines r es all.1 in record { rows = (e.0, all.0.0) ∷ rest.rows; are = (refl, all.0.1, rest.are) }

record Rebuilt (all : Lines) (versions : List (Name × ℕ)) (bs : List (Name × Rows)) : Type 0 where
  ws : List (Name × Rows)
  have : HaveRows all versions bs ws

rebuilt : (all : Lines) (versions : List (Name × ℕ)) (bs : List (Name × Rows)) (found : List Dbkey) → found ≡ [] → FindsRows all versions bs found → Rebuilt all versions bs
rebuilt all versions [] found none finds = record { ws = []; have = tt }
rebuilt all versions (b ∷ bs) found none finds =
    let parts : [] ≡ finds.0 ++ finds.1 = sym none ∙ finds.2 in
    let r = stored_entry versions b in
    let fine = all_fine (IsRowLine r) (λ e. IsRowLine r e → ⊥) (λ e. e.0) (lines_in r.area all) (subst (λ (l : List Dbkey). Finds (IsRowLine r) (λ e. IsRowLine r e → ⊥) (λ e. e.0) (lines_in r.area all) l) (sym (none_first finds.0 finds.1 parts)) finds.3) in
    let mine = rows_of_lines r (lines_in r.area all) fine in
    let rest = rebuilt all versions bs finds.1 (sym (none_then finds.0 finds.1 parts)) finds.4 in
    record {
      ws = (b.0, record { area = b.1.area; fields = b.1.fields; rows = mine.rows }) ∷ rest.ws;
      have = (refl, record { area = refl; fields = refl; rows = mine.are }, rest.have);
    }

-- ---- the relation of a logical area, without and with rows

abbrev Matches : Lines → List (Name × ℕ) → Option (Name × Rows) → Option Rows → Type 0
Matches all versions (Some e) (Some w) = HasRows all (stored_entry versions e) w
Matches all versions (Some e) None = ⊥
Matches all versions None (Some w) = ⊥
Matches all versions None None = Unit {0}

matches : (all : Lines) (versions : List (Name × ℕ)) (area : ℕ) (bs ws : List (Name × Rows)) → HaveRows all versions bs ws → Matches all versions (entry_in area bs) (relation_in area ws)
matches all versions area [] [] have = tt
matches all versions area [] (w ∷ ws) have = absurd have
matches all versions area (b ∷ bs) [] have = absurd have
matches all versions area (b ∷ bs) (w ∷ ws) have =
    let same : (b.1.area == area) ≡ (w.1.area == area) = ap (λ (n : ℕ). n == area) have.1.area in
    elim (b.1.area == area) as (λ x. (b.1.area == area) ≡ x → Matches all versions (cond x (Some b) (entry_in area bs)) (cond (w.1.area == area) (Some w.1) (relation_in area ws))) [
      | true ↦ λ is. subst (λ (x : Bool). Matches all versions (Some b) (cond x (Some w.1) (relation_in area ws))) (sym is ∙ same) have.1
      | false ↦ λ isnt. subst (λ (x : Bool). Matches all versions (entry_in area bs) (cond x (Some w.1) (relation_in area ws))) (sym isnt ∙ same) (matches all versions area bs ws have.2)
    ] refl

abbrev second : Option (Name × Rows) → Option Rows
second (Some e) = Some e.1
second None = None

same_entry : (area : ℕ) (bs : List (Name × Rows)) → relation_in area bs ≡ second (entry_in area bs)
same_entry area [] = refl
same_entry area (b ∷ bs) = elim (b.1.area == area) as (λ x. cond x (Some b.1) (relation_in area bs) ≡ second (cond x (Some b) (entry_in area bs))) [
  | true ↦ refl
  | false ↦ same_entry area bs
]

-- the fields stay
fields_match : (all : Lines) (versions : List (Name × ℕ)) (e : Option (Name × Rows)) (w : Option Rows) → Matches all versions e w → fields_of (second e) ≡ fields_of w
fields_match all versions (Some e) (Some w) is = is.fields
fields_match all versions (Some e) None is = absurd is
fields_match all versions None (Some w) is = absurd is
fields_match all versions None None is = refl

some_match : (all : Lines) (versions : List (Name × ℕ)) (e : Option (Name × Rows)) (w : Option Rows) → Matches all versions e w → is_some (second e) ≡ true → is_some w ≡ true
some_match all versions (Some e) (Some w) is some = refl
some_match all versions (Some e) None is some = absurd is
some_match all versions None w is some = absurd (let no : ⊥ = cc in no)

-- ---- the lines of the catalog

all_sound : (t : Tables) (ps : List PlacedLine) → unsound_in t ps ≡ [] → AllByRecursion (λ p. is_sound_line t p.line ≡ true) ps
all_sound t [] none = tt
all_sound t (p ∷ ps) none = elim (is_sound_line t p.line) as (λ b. is_sound_line t p.line ≡ b → map (λ (q : PlacedLine). q.key) (cond (not b) (p ∷ filter (λ q. not (is_sound_line t q.line)) ps) (filter (λ q. not (is_sound_line t q.line)) ps)) ≡ [] → AllByRecursion (λ q. is_sound_line t q.line ≡ true) (p ∷ ps)) [
  | true ↦ λ is h. (is, all_sound t ps h)
  | false ↦ λ is h. absurd (let no : ⊥ = cc in no)
] refl none

sound_relation : (r : RelationLine) (fields : List Field) → is_sound_relation r fields ≡ true → IsSoundRelation r fields
sound_relation r fields is =
    let one = and_parts _ _ is in
    let two = and_parts _ _ one.1 in
    record {
      class = eqb-true r.class (class_of fields) one.0;
      versions = two.0;
      version = (let le : r.version ≤ length fields = grind (arith, nat_tests, two.1) in le);
    }

sound_index : (all : Lines) (versions : List (Name × ℕ)) (x : IndexLine) (e : Option (Name × Rows)) (w : Option Rows) → Matches all versions e w → is_some (second e) ≡ true → nat_le (longest_key x.fields (fields_of (second e))) 120 ≡ true
    → IsJudgedOf all versions e x [] [] → IsSoundIndex all x w
sound_index all versions x None w matched some short judged = absurd (let no : ⊥ = cc in no)
sound_index all versions x (Some e) None matched some short judged = absurd matched
sound_index all versions x (Some e) (Some w) matched some short (broken nodes names order) = absurd (nodes refl)
sound_index all versions x (Some e) (Some w) matched some short (differs held nodes names order isnt) = absurd (let no : ⊥ = cc in no)
sound_index all versions x (Some e) (Some w) matched some short (holds held nodes names order keys) =
    let has = keys w.rows matched.rows in
    record {
      short = subst (λ (fs : List Field). longest_key x.fields fs ≤ 120) matched.fields (let le : longest_key x.fields e.1.fields ≤ 120 = grind (arith, nat_tests, short) in le);
      is = record { level = order.level; tree = order.tree; is = order.index; holds = sym order.holds ∙ has.holds };
      unique = has.apart;
    }

module _ (all : Lines) (versions : List (Name × ℕ)) (c : Tables) (t : Tables) (have : HaveRows all versions c.relations t.relations) where
  sound_line : (line : CatalogLine) → is_sound_line c line ≡ true → FindsIndex all versions c line [] [] → IsSoundLine all t line
  sound_line (Relation r) is finds =
      sound_relation r (fields_of (relation_in r.area t.relations))
      (subst (λ (fs : List Field). is_sound_relation r fs ≡ true) (ap fields_of (same_entry r.area c.relations) ∙ fields_match all versions (entry_in r.area c.relations) (relation_in r.area t.relations) (matches all versions r.area c.relations t.relations have)) is)
  sound_line (Global g) is finds = tt
  sound_line (FieldOf f) is finds = tt
  sound_line (Index x) is finds =
      let parts = and_parts _ _ is in
      let entry = same_entry x.relation c.relations in
      sound_index all versions x (entry_in x.relation c.relations) (relation_in x.relation t.relations) (matches all versions x.relation c.relations t.relations have)
      (ap (λ (o : Option Rows). is_some o) (sym entry) ∙ parts.0)
      (ap (λ (o : Option Rows). nat_le (longest_key x.fields (fields_of o)) 120) (sym entry) ∙ parts.1) finds

  sound_lines : (ps : List PlacedLine) (nodes : List Dbkey) (names : List Name) → nodes ≡ [] → names ≡ [] → AllByRecursion (λ p. is_sound_line c p.line ≡ true) ps → FindsIndexes all versions c ps nodes names → AllByRecursion (λ p. IsSoundLine all t p.line) ps
  sound_lines [] nodes names no_node no_name sound finds = tt
  sound_lines (p ∷ ps) nodes names no_node no_name sound finds =
      let ns : [] ≡ finds.0 ++ finds.1 = sym no_node ∙ finds.4 in
      let ws : [] ≡ finds.2 ++ finds.3 = sym no_name ∙ finds.5 in
      let mine : FindsIndex all versions c p.line [] [] = subst (λ (l : List Name). FindsIndex all versions c p.line [] l) (sym (none_first finds.2 finds.3 ws)) (subst (λ (l : List Dbkey). FindsIndex all versions c p.line l finds.2) (sym (none_first finds.0 finds.1 ns)) finds.6) in
      (sound_line p.line sound.0 mine, sound_lines ps finds.1 finds.3 (sym (none_then finds.0 finds.1 ns)) (sym (none_then finds.2 finds.3 ws)) sound.1 finds.7)

  -- ---- lines without a relation
  stray_of : (areas : List ℕ) (area : ℕ) → strays_in all c areas ≡ [] → IsAmong area areas → is_stray c area ≡ true → keys_of (lines_in area all) ≡ []
  stray_of [] area none there stray = absurd there
  stray_of (a ∷ others) area none there stray =
      let parts = sym none in
      let here = sym (none_first (cond (is_stray c a) (keys_of (lines_in a all)) []) (strays_in all c others) parts) in
      let rest = sym (none_then (cond (is_stray c a) (keys_of (lines_in a all)) []) (strays_in all c others) parts) in
      elim there [
        | inl same ↦ subst (λ (n : ℕ). keys_of (lines_in n all) ≡ []) same (sym (ap (λ b. cond b (keys_of (lines_in a all)) []) (subst (λ (n : ℕ). is_stray c n ≡ true) (sym same) stray)) ∙ here)
        | inr behind ↦ stray_of others area rest behind stray
      ]

  no_keys : (lines : Lines) (key : Dbkey) (image : List ℕ) → keys_of lines ≡ [] → line_in key lines ≡ Some image → ⊥
  no_keys [] key image none there = none-some image there
  no_keys (e ∷ es) key image none there = let no : ⊥ = cc in no

  none_or_some : {X : Type 0} (o : Option X) → is_none o ≡ false → is_some o ≡ true
  none_or_some None is = absurd (let no : ⊥ = cc in no)
  none_or_some (Some x) is = refl

  is_owned : (areas : List ℕ) (e : Dbkey × List ℕ) → Covers all areas → strays_in all c areas ≡ [] → line_in e.0 all ≡ Some e.1 → IsOwned t e
  is_owned areas e covers none there = λ even. by (is_none (relation_in e.0.area c.relations)) refl even where
    by : (b : Bool) → is_none (relation_in e.0.area c.relations) ≡ b → e.0.area % 2 ≡ 0 → IsSome (relation_in e.0.area t.relations)
    by true is even =
        let stray : is_stray c e.0.area ≡ true = (λ i. eq-eqb (e.0.area % 2) 0 even i && is i) in
        absurd (no_keys (lines_in e.0.area all) e.0 e.1 (stray_of areas e.0.area none (covers e.0 e.1 there even) stray) (in_whole e.0 e.0.area all refl ∙ there))
    by false is even = some_match all versions (entry_in e.0.area c.relations) (relation_in e.0.area t.relations) (matches all versions e.0.area c.relations t.relations have)
        (ap (λ (o : Option Rows). is_some o) (sym (same_entry e.0.area c.relations)) ∙ none_or_some (relation_in e.0.area c.relations) is)

  all_owned : (areas : List ℕ) (es : Lines) → Covers all areas → strays_in all c areas ≡ [] → Found all es → AllByRecursion (IsOwned t) es
  all_owned areas [] covers none found = tt
  all_owned areas (e ∷ es) covers none found = (is_owned areas e covers none found.0, all_owned areas es covers none found.1)

-- ---- the map

pub clean : (all : Lines) → IsInOrder all → AreLineFaults all [] → IsSound all
clean all sorted f =
    let catalog = none_mapped fault.Catalog f.catalog (none_first (map fault.Catalog f.catalog) _ f.are) in
    let rest = none_then (map fault.Catalog f.catalog) _ f.are in
    let rows = none_ordered (f.rows ++ strays_in all f.c.tables f.areas) (none_mapped fault.Row (ordered (f.rows ++ strays_in all f.c.tables f.areas)) (none_first (map fault.Row (ordered (f.rows ++ strays_in all f.c.tables f.areas))) _ rest)) in
    let behind = none_then (map fault.Row (ordered (f.rows ++ strays_in all f.c.tables f.areas))) _ rest in
    let nodes = none_ordered f.nodes (none_mapped fault.Node (ordered f.nodes) (none_first (map fault.Node (ordered f.nodes)) _ behind)) in
    let names = none_named f.names (sym (none_mapped fault.Index (names_in_order f.names) (none_then (map fault.Node (ordered f.nodes)) _ behind))) in
    let keys = none_ordered (f.checked.taken ++ unsound_in f.c.tables f.c.lines) (sym f.checked.are ∙ catalog) in
    let taken : [] ≡ f.checked.taken = none_first f.checked.taken (unsound_in f.c.tables f.c.lines) (sym keys) in
    let unsound : [] ≡ unsound_in f.c.tables f.c.lines = none_then f.checked.taken (unsound_in f.c.tables f.c.lines) (sym keys) in
    let decodes : IsCatalogOf all f.c = subst (λ (ks : List Dbkey). IsCatalogOf (without ks all) f.c) (sym taken) f.checked.left in
    let built = rebuilt all (versions_in f.c.lines) f.c.tables.relations f.rows (sym (none_first f.rows (strays_in all f.c.tables f.areas) (sym rows))) f.finds_rows in
    let t : Tables = record { globals = f.c.tables.globals; relations = built.ws; indexes = f.c.tables.indexes } in
    record {
      catalog = f.c;
      decodes = decodes;
      tables = t;
      are = record { globals = refl; relations = built.have; indexes = refl };
      things = sound_lines all (versions_in f.c.lines) f.c.tables t built.have f.c.lines f.nodes f.names nodes names (all_sound f.c.tables f.c.lines (sym unsound)) f.finds_indexes;
      owned = all_owned all (versions_in f.c.lines) f.c.tables t built.have f.areas all f.covers (sym (none_then f.rows (strays_in all f.c.tables f.areas) (sym rows))) (found_all all sorted);
    }
