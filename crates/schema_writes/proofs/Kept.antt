-- Definitions and deletions keep to their areas.
use Rattle.std.proofs.Common.{◌≡◌, ◌==◌, ℕ, ◌+◌, Bool, true, false, not, cond, List, [], ◌∷◌, Some, inl, inr, refl, sym, ap, subst, ◌∙◌, nat_eq}
use Rattle.std.specs.Prelude.{◌⊎◌, ◌||◌, ◌&&◌, Ok, Err}
use Rattle.std.specs.List.{AllByRecursion, filter}
use Rattle.std.specs.FinMap.Entries.{find}
use Rattle.std.proofs.lemmas.Bool.{eqb-true, eq-eqb}
use Rattle.rdb_types.specs.declared.keys.Dbkey.{Dbkey}
use Rattle.rdb_types.specs.Order.{chars_order}
use Rattle.rdo_ast.specs.Tree.{Name}
use Rattle.rdo_ast.specs.declared.reply.Reply.{Reply}
use Rattle.rdb_meaning.specs.declared.tables.Index.{Index as IndexOf}
use Rattle.rdb_meaning.specs.declared.tables.Relation.{Relation as Rows}
use Rattle.rdb_meaning.specs.declared.tables.Tables.{Tables}
use Rattle.rdb_meaning.specs.Contents.{is_used, relation_named}
use Rattle.rdb_meaning.specs.Checks.{Refusal}
use Rattle.rdb_meaning.specs.Execution.{area_of}
use Rattle.line_view.specs.declared.need.Need.{Need}
use Rattle.line_view.specs.declared.need.Need.TheVariants as needs
use Rattle.line_view.specs.declared.need.Room.{Room as RoomOf}
use Rattle.line_view.specs.declared.stop.Stop.{Stop}
use Rattle.line_view.specs.declared.stop.Stop.TheVariants.{Missing, Bad, NoMemory, Own}
use Rattle.line_view.specs.declared.writes.Write.{Write}
use Rattle.line_view.specs.Knowledge.{Knowledge, Agrees, Lines}
use Rattle.line_view.specs.Held.{Held}
use Rattle.catalog_lines.specs.declared.line.IndexLine.{IndexLine}
use Rattle.catalog_lines.specs.declared.line.CatalogLine.{CatalogLine}
use Rattle.catalog_lines.specs.declared.line.CatalogLine.TheVariants.{Index}
use Rattle.catalog.specs.declared.directory.PlacedLine.{PlacedLine}
use Rattle.catalog.specs.declared.reading.Catalog.{Catalog}
use Rattle.catalog.specs.Deletions.{is_index_named, is_of_relation, keys_where}
use Rattle.catalog.specs.Directory.{directory}
use Rattle.catalog.specs.Reading.{catalog_area, IsCatalogOf, line_keys}
use Rattle.catalog.specs.Schema.{catalog_tables, index_area, stands}
use Rattle.catalog.proofs.Differences.{index_parts}
use Rattle.catalog_definitions.specs.Causes.{catalog_room, rooms_from, StopsDefining}
use Rattle.catalog_definitions.specs.Written.{AreWritten}
use Rattle.catalog_definitions.proofs.KeyPlaces.{names_are}
use Rattle.sorted_index_laws.proofs.Ordered.{all_append}
use Rattle.sound_changes.specs.Standing.{IsSoundAs, IsDone}
use Rattle.sound_changes.proofs.Basics.{all_of, number_is}
use Rattle.sound_changes.proofs.Frames.{in_area}
use Rattle.sound_changes.proofs.IndexLaid.{at_place}
use Rattle.sound_changes.proofs.Named.{Fits, all_fit}
use Rattle.sound_changes.proofs.Schemas.{catalogs_schema}
use Rattle.sound_statements.specs.Owned.{IsOfIndex}
use Rattle.statement_view.specs.Over.{Over, laid_over, knows_over}
use Rattle.statement_view.specs.Areas.{is_among, IsNeedOf, WritesOf}
use Rattle.row_writes.specs.Target.{AreOwn}
use Rattle.row_writes.specs.Rows.{IsSoundView}
use Rattle.row_writes.specs.Areas.{areas_of, areas_with}
use Rattle.row_writes.proofs.AreaLists.{one_more_area, first_area, writes_then, StopsAt, stops_at}
use Rattle.schema_writes.specs.declared.stop.SchemaRefusal.{SchemaRefusal}
use Rattle.schema_writes.specs.Stop.{SchemaStop, TellsRoom, Tells}
use Rattle.schema_writes.specs.Deletions.{AreNodes, nodes_in, AreOwned}
use Rattle.schema_writes.specs.Areas.{IsAreaOf, WantsArea, IsIndexArea, IsAreaNamed, IsAreaOwned, SchemaKeeps, NoOthers, AreOfIndex, AreOfRelation}
use Rattle.schema_writes.proofs.Alike.{area_bare}
use Rattle.schema_writes.proofs.Made.{next_in}
use Rattle.schema_writes.proofs.Nodes.{keys_on, nodes_owned}

abbrev AreAmong : List ℕ → List Dbkey → Type 0
AreAmong areas = AllByRecursion (λ (k : Dbkey). is_among areas k.area ≡ true)

-- keys of one area, which is one of these
of_area : (area : ℕ) (areas : List ℕ) (keys : List Dbkey) → is_among areas area ≡ true → AllByRecursion (λ (k : Dbkey). k.area ≡ area) keys → AreAmong areas keys
of_area area areas keys among = all_of (λ (k : Dbkey). k.area ≡ area) (λ (k : Dbkey). is_among areas k.area ≡ true) (λ k is. subst (λ (a : ℕ). is_among areas a ≡ true) (sym is) among) keys

-- ---- a definition

pub catalog_written : (known : Knowledge) (all : Lines) (areas : List ℕ) (nth : ℕ) (lines : List CatalogLine) (writes : List Write) → Agrees known all → is_among areas catalog_area ≡ true → AreWritten known nth lines writes → AllByRecursion (λ (w : Write). is_among areas (w.key).area ≡ true) writes
catalog_written known all areas nth [] [] agrees among written = tt
catalog_written known all areas nth [] (w ∷ ws) agrees among written = absurd written
catalog_written known all areas nth (line ∷ lines) [] agrees among written = absurd written
catalog_written known all areas nth (line ∷ lines) (w ∷ ws) agrees among written = (
  subst (λ (a : ℕ). is_among areas a ≡ true) (sym (agrees.within (catalog_room nth) w.key written.0)) among,
  catalog_written known all areas (nth + 1) lines ws agrees among written.2,
)

pub defined_keeps : (old new : Over) (c : Catalog) (lines : List CatalogLine) (writes given : List Write) → given ≡ writes → AreWritten (knows_over old) 0 lines writes →
    ((areas : List ℕ) → AllByRecursion (λ (w : Write). is_among areas (w.key).area ≡ true) given → WritesOf areas old new) → SchemaKeeps {E = SchemaRefusal} old new c NoOthers (Ok tt)
defined_keeps old new c lines writes given same written puts = λ t first others view none.
    puts (catalog_area ∷ others)
    (subst (AllByRecursion (λ (w : Write). is_among (catalog_area ∷ others) (w.key).area ≡ true)) (sym same) (catalog_written (knows_over old) (laid_over old.lines first) (catalog_area ∷ others) 0 lines writes view.stands.agrees (first_area catalog_area others) written))

-- what is told of a room is of its area
pub room_told : (base : Held) (room : RoomOf) (read areas : List ℕ) (told : SchemaStop) → is_among areas room.area ≡ true → TellsRoom base room told → StopsAt (IsNeedOf read areas) told
room_told base room read areas (Missing (needs.Line key)) among tells = absurd tells.1
room_told base room read areas (Missing (needs.Area area)) among tells = absurd tells.1
room_told base room read areas (Missing (needs.Room lacked)) among tells = subst (λ (a : ℕ). is_among areas a ≡ true) (sym tells.1) among
room_told base room read areas (Bad key) among tells = absurd tells
room_told base room read areas NoMemory among tells = absurd tells
room_told base room read areas (Own reason) among tells = tt

defining_told : (base : Held) (known : Knowledge) (refusal : Refusal) (lines : List CatalogLine) (areas : List ℕ) (stop : Stop Reply) (told : SchemaStop) → is_among areas catalog_area ≡ true → StopsDefining known refusal (rooms_from 0 lines) stop → Tells base stop told → StopsAt (IsNeedOf areas areas) told
defining_told base known refusal lines areas (Missing need) told among said tells =
    let room = next_in known lines 0 need said.1 in
    room_told base (catalog_room room.0) areas areas told among (subst (λ (x : Need). Tells base (Missing x) told) (sym room.1) tells)
defining_told base known refusal lines areas (Bad key) told among said tells = absurd said
defining_told base known refusal lines areas NoMemory told among said tells = subst (StopsAt (IsNeedOf areas areas)) (sym tells) tt
defining_told base known refusal lines areas (Own reply) told among said tells = subst (StopsAt (IsNeedOf areas areas)) (sym tells) tt

pub defining_keeps : (old new : Over) (c : Catalog) (refusal : Refusal) (lines : List CatalogLine) (stop : Stop Reply) (told : SchemaStop) → StopsDefining (knows_over old) refusal (rooms_from 0 lines) stop → Tells old.base stop told → SchemaKeeps old new c NoOthers (Err told)
defining_keeps old new c refusal lines stop told said tells = λ t first others view none.
    defining_told old.base (knows_over old) refusal lines (catalog_area ∷ others) stop told (first_area catalog_area others) said tells

-- ---- what a deletion lacks

area_needed : (Is : ℕ → Type 0) (areas : List ℕ) → ((a : ℕ) → Is a → is_among areas a ≡ true) → (need : Need) → IsAreaOf Is need → IsNeedOf areas areas need
area_needed Is areas because (needs.Line key) is = absurd is
area_needed Is areas because (needs.Area area) is = because area is
area_needed Is areas because (needs.Room room) is = absurd is

wants_among : (Is : ℕ → Type 0) (areas : List ℕ) → ((a : ℕ) → Is a → is_among areas a ≡ true) → (stop : Stop Reply) → WantsArea Is stop → StopsAt (IsNeedOf areas areas) stop
wants_among Is areas because stop wants = stops_at (IsAreaOf Is) (IsNeedOf areas areas) (area_needed Is areas because) stop wants

-- ---- what it erases of the catalog

lines_among : (holds : CatalogLine → Bool) (areas : List ℕ) (ps : List PlacedLine) → is_among areas catalog_area ≡ true → AllByRecursion (λ (p : PlacedLine). (p.key.area == catalog_area) ≡ true) ps → AreAmong areas (keys_where holds ps)
lines_among holds areas [] among each = tt
lines_among holds areas (p ∷ ps) among each =
    let rest = lines_among holds areas ps among each.1 in
    elim (holds p.line) as (λ b. AreAmong areas (line_keys (cond b (p ∷ filter (λ (q : PlacedLine). holds q.line) ps) (filter (λ (q : PlacedLine). holds q.line) ps)))) [
      | true ↦ (subst (λ (a : ℕ). is_among areas a ≡ true) (sym (number_is p.key.area catalog_area each.0)) among, rest)
      | false ↦ rest
    ]

abbrev pub ErasesOf : Over → Over → List Dbkey → Type 0
ErasesOf old new keys = (areas : List ℕ) → AreAmong areas keys → WritesOf areas old new

both_erased : (old mid new : Over) (c : Catalog) (all : Lines) (holds : CatalogLine → Bool) (others : List ℕ) (lines given nodes known : List Dbkey) → given ≡ lines → known ≡ nodes → lines ≡ keys_where holds c.lines → IsCatalogOf all c → AreAmong (catalog_area ∷ others) nodes →
    ErasesOf old mid given → ErasesOf mid new known → WritesOf (catalog_area ∷ others) old new
both_erased old mid new c all holds others lines given nodes known same_lines same_nodes are is among one two =
    let areas = catalog_area ∷ others in
    writes_then areas old mid new (one areas (subst (AreAmong areas) (sym (same_lines ∙ are)) (lines_among holds areas c.lines (first_area catalog_area others) (in_area all c is)))) (two areas (subst (AreAmong areas) (sym same_nodes) among))

-- ---- an index

-- the index of a name has one area, in the lines and in the tables
index_area_is : (all : Lines) (c : Catalog) (t : Tables) (n : Name) (x : IndexOf) (a : ℕ) → IsSoundAs all c t → find chars_order n t.indexes ≡ Some x → IsAreaNamed c.lines n a → a ≡ x.area
index_area_is all c t n x a sound found named =
    let d = directory c.lines in
    let u = catalog_tables c.lines in
    let fits = at_place (Fits all d u) c.lines named.place named.line (all_fit all c sound.decodes) named.stands in
    let parts = index_parts d u named.line.key named.index (ap (λ l. stands d u named.line.key l) (sym named.is) ∙ fits.stood) in
    let tables : u.indexes ≡ t.indexes = ap (λ (v : Tables). v.indexes) (sym sound.decodes.tables) ∙ sym sound.are.indexes in
    named.same ∙ sym parts.0 ∙ (λ i. index_area (find chars_order (sym (names_are n named.index.name named.holding) i) (tables i))) ∙ ap index_area found

nodes_among : (known : Knowledge) (all : Lines) (c : Catalog) (t : Tables) (n : Name) (x : IndexOf) (areas : List ℕ) (nodes : List Dbkey) → Agrees known all → IsSoundAs all c t → find chars_order n t.indexes ≡ Some x → is_among areas x.area ≡ true → AreNodes known c.lines n nodes → AreAmong areas nodes
nodes_among known all c t n x areas nodes agrees sound found among (inl none) = subst (AreAmong areas) (sym none.0) tt
nodes_among known all c t n x areas nodes agrees sound found among (inr own) =
    let a = own.index.area in
    let same = index_area_is all c t n x a sound found (record { place = own.place; line = own.line; stands = own.stands; index = own.index; is = own.is; holding = own.named; same = refl }) in
    of_area a areas nodes (subst (λ (b : ℕ). is_among areas b ≡ true) (sym same) among) (subst (AllByRecursion (λ (k : Dbkey). k.area ≡ a)) (sym (agrees.area a nodes own.told)) (keys_on a all))

second_area : (others : List ℕ) (x : ℕ) → others ≡ x ∷ [] → is_among (catalog_area ∷ others) x ≡ true
second_area others x are = one_more_area catalog_area others x (subst (λ (l : List ℕ). is_among l x ≡ true) (sym are) (first_area x []))

pub index_wants : (old new : Over) (c : Catalog) (n : Name) (stop : Stop Reply) → WantsArea (IsAreaNamed c.lines n) stop → SchemaKeeps old new c (AreOfIndex n) (Err stop)
index_wants old new c n stop wants = λ t first others view of.
    wants_among (IsAreaNamed c.lines n) (catalog_area ∷ others)
    (λ a named. subst (λ (b : ℕ). is_among (catalog_area ∷ others) b ≡ true) (sym (index_area_is (laid_over old.lines first) c t n of.0 a view.sound of.1 named)) (second_area others (of.0).area of.2)) stop wants

pub index_keeps : (old mid new : Over) (c : Catalog) (n : Name) (lines given nodes known : List Dbkey) → given ≡ lines → known ≡ nodes → lines ≡ keys_where (is_index_named n) c.lines → AreNodes (knows_over old) c.lines n nodes → ErasesOf old mid given → ErasesOf mid new known → SchemaKeeps {E = Reply} old new c (AreOfIndex n) (Ok tt)
index_keeps old mid new c n lines given nodes known same_lines same_nodes are they one two = λ t first others view of.
    both_erased old mid new c (laid_over old.lines first) (is_index_named n) others lines given nodes known same_lines same_nodes are view.sound.decodes
    (nodes_among (knows_over old) (laid_over old.lines first) c t n of.0 (catalog_area ∷ others) nodes view.stands.agrees view.sound of.1 (second_area others (of.0).area of.2) they) one two

-- ---- a relation

used_or : (a b : ℕ) (rest : Bool) → (nat_eq a b || rest) ≡ true → (a ≡ b) ⊎ (rest ≡ true)
used_or a b rest h = elim (nat_eq a b) as (λ t. nat_eq a b ≡ t → (t || rest) ≡ true → (a ≡ b) ⊎ (rest ≡ true)) [
  | true ↦ λ is k. inl (eqb-true a b is)
  | false ↦ λ is k. inr k
] refl h

done_is : (on used : Bool) → on ≡ true → (on && not used) ≡ false → used ≡ true
done_is on true is h = refl
done_is true false is h = let bad : ⊥ = cc in absurd bad
done_is false false is h = let bad : ⊥ = cc in absurd bad

-- an index of the relation is one of these, but for those that are done
own_among : (c : Catalog) (relation : ℕ) (done : List ℕ) (xs : List IndexLine) (a : ℕ) → AreOwn c relation done xs → IsIndexArea (λ x. x.relation ≡ relation) c.lines a → (is_used a done ≡ true) ⊎ (is_among (areas_of xs) a ≡ true)
own_among c relation done [] a own index =
    let x = index.index in
    let here : IsDone relation done (Index x) = subst (IsDone relation done) index.is (at_place (λ (p : PlacedLine). IsDone relation done p.line) c.lines index.place index.line own index.stands) in
    inl (subst (λ (b : ℕ). is_used b done ≡ true) (sym index.same) (done_is (x.relation == relation) (is_used x.area done) (eq-eqb x.relation relation index.holding) here))
own_among c relation done (x ∷ xs) a own index =
    elim (own_among c relation (x.area ∷ done) xs a own.2 index) [
      | inl used ↦ elim (used_or a x.area (is_used a done) used) [
        | inl same ↦ inr (subst (λ (b : ℕ). is_among (areas_of (x ∷ xs)) b ≡ true) (sym same) (first_area x.area (areas_of xs)))
        | inr before ↦ inl before
      ]
      | inr among ↦ inr (one_more_area x.area (areas_of xs) a among)
    ]

none_done : (a : ℕ) (xs : List IndexLine) → (is_used a [] ≡ true) ⊎ (is_among (areas_of xs) a ≡ true) → is_among (areas_of xs) a ≡ true
none_done a xs (inl used) = let bad : ⊥ = cc in absurd bad
none_done a xs (inr among) = among

-- the relation's area in the catalog is that in the tables
relation_area_is : (all : Lines) (c : Catalog) (t : Tables) (n : Name) (rel : Rows) (area : ℕ) → IsSoundAs all c t → relation_named n t ≡ Some rel → area ≡ area_of (relation_named n c.tables) → area ≡ rel.area
relation_area_is all c t n rel area sound named is = is ∙ sym (area_bare (relation_named n c.tables)) ∙ ap area_of (catalogs_schema all c t sound.are n) ∙ area_bare (relation_named n t) ∙ ap area_of named

module _ (old : Over) (c : Catalog) (n : Name) (area : ℕ) (is_area : area ≡ area_of (relation_named n c.tables)) (t : Tables) (first : Lines) (others : List ℕ) (view : IsSoundView old c t first) (of : AreOfRelation c n t others) where
  abbrev rel : Rows
  rel = of.0

  abbrev xs : List IndexLine
  xs = of.1

  here : area ≡ rel.area
  here = relation_area_is (laid_over old.lines first) c t n rel area view.sound of.2 is_area

  own_area : is_among (catalog_area ∷ others) area ≡ true
  own_area = one_more_area catalog_area others area (subst (λ (l : List ℕ). is_among l area ≡ true) (sym of.4) (subst (λ (b : ℕ). is_among (areas_with rel xs) b ≡ true) (sym here) (first_area rel.area (areas_of xs))))

  on_area : (a : ℕ) → IsIndexArea (λ x. x.relation ≡ area) c.lines a → is_among (catalog_area ∷ others) a ≡ true
  on_area a index =
      let among = none_done a xs (own_among c rel.area [] xs a of.3 (subst (λ (r : ℕ). IsIndexArea (λ x. x.relation ≡ r) c.lines a) here index)) in
      one_more_area catalog_area others a (subst (λ (l : List ℕ). is_among l a ≡ true) (sym of.4) (one_more_area rel.area (areas_of xs) a among))

  owned_area : (a : ℕ) → IsAreaOwned area c.lines a → is_among (catalog_area ∷ others) a ≡ true
  owned_area a (inl same) = subst (λ (b : ℕ). is_among (catalog_area ∷ others) b ≡ true) (sym same) own_area
  owned_area a (inr index) = on_area a index

  owned_key : (k : Dbkey) → IsOfIndex c area k → is_among (catalog_area ∷ others) k.area ≡ true
  owned_key k own = on_area k.area (record { place = own.place; line = own.line; stands = own.stands; index = own.index; is = own.is; holding = own.on; same = own.within })

  owned_among : (keys : List Dbkey) → AreOwned (knows_over old) area c.lines keys → AreAmong (catalog_area ∷ others) keys
  owned_among keys own =
      let all = laid_over old.lines first in
      let rows = of_area area (catalog_area ∷ others) own.rows own_area (subst (AllByRecursion (λ (k : Dbkey). k.area ≡ area)) (sym (view.stands.agrees.area area own.rows own.told)) (keys_on area all)) in
      let nodes = all_of (IsOfIndex c area) (λ (k : Dbkey). is_among (catalog_area ∷ others) k.area ≡ true) owned_key (nodes_in (knows_over old) area c.lines) (nodes_owned (knows_over old) c area all view.stands.agrees) in
      subst (AreAmong (catalog_area ∷ others)) (sym own.are) (all_append (λ (k : Dbkey). is_among (catalog_area ∷ others) k.area ≡ true) own.rows (nodes_in (knows_over old) area c.lines) rows nodes)

pub relation_wants : (old new : Over) (c : Catalog) (n : Name) (area : ℕ) (stop : Stop Reply) → area ≡ area_of (relation_named n c.tables) → WantsArea (IsAreaOwned area c.lines) stop → SchemaKeeps old new c (AreOfRelation c n) (Err stop)
relation_wants old new c n area stop is wants = λ t first others view of. wants_among (IsAreaOwned area c.lines) (catalog_area ∷ others) (owned_area old c n area is t first others view of) stop wants

pub relation_keeps : (old mid new : Over) (c : Catalog) (n : Name) (area : ℕ) (lines given owned known : List Dbkey) → given ≡ lines → known ≡ owned → area ≡ area_of (relation_named n c.tables) → lines ≡ keys_where (is_of_relation (area_of (relation_named n c.tables))) c.lines → AreOwned (knows_over old) area c.lines owned →
    ErasesOf old mid given → ErasesOf mid new known → SchemaKeeps {E = Reply} old new c (AreOfRelation c n) (Ok tt)
relation_keeps old mid new c n area lines given owned known same_lines same_owned is are own one two = λ t first others view of.
    both_erased old mid new c (laid_over old.lines first) (is_of_relation (area_of (relation_named n c.tables))) others lines given owned known same_lines same_owned are view.sound.decodes (owned_among old c n area is t first others view of owned own) one two
