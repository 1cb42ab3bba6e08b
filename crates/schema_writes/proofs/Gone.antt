-- A deletion that was made, or why it stopped.
use Rattle.std.proofs.Common.{◌≡◌, inl, inr, ℕ, List, ◌++◌, Option, Some, None, refl, sym, ap, subst, ◌∙◌}
use Rattle.std.specs.Prelude.{Ok, Err}
use Rattle.std.specs.FinMap.Entries.{find}
use Rattle.std.specs.Ordering.{nat_cmp}
use Rattle.std.proofs.lemmas.List.{append-nil}
use Rattle.std.proofs.lemmas.Option.{none-some}
use Rattle.std.specs.List.{AllByRecursion}
use Rattle.line_view.specs.declared.writes.Write.{Write}
use Rattle.rdb_types.specs.declared.keys.Dbkey.{Dbkey}
use Rattle.rdb_types.specs.Order.{chars_order}
use Rattle.rdo_ast.specs.Tree.{Name}
use Rattle.rdo_ast.specs.declared.reply.Reply.{Reply}
use Rattle.rdb_meaning.specs.declared.tables.Relation.{Relation as Rows}
use Rattle.rdb_meaning.specs.declared.tables.Tables.{Tables}
use Rattle.rdb_meaning.specs.Contents.{relation_named}
use Rattle.rdb_meaning.specs.Checks.{Refusal, needs_some}
use Rattle.rdb_meaning.specs.Defining.{without_index, without_relation}
use Rattle.rdb_meaning.specs.Execution.{area_of}
use Rattle.rdb_checks.specs.declared.stop.Stop.{Stop as CheckStop}
use Rattle.rdb_checks.specs.declared.stop.Stop.TheVariants.{Refused, Memory}
use Rattle.rdb_checks.specs.Answers.{Finds}
use Rattle.line_view.specs.declared.stop.Stop.{Stop}
use Rattle.line_view.specs.declared.stop.Stop.TheVariants.{Missing, Bad, NoMemory, Own}
use Rattle.line_view.specs.Knowledge.{Knowledge, Agrees, Lines, lines_in, keys_of}
use Rattle.line_view.specs.Held.{knows}
use Rattle.line_view.specs.Writes.{laid_all}
use Rattle.line_view.proofs.Written.{laid_in_turn}
use Rattle.catalog.specs.declared.reading.Catalog.{Catalog}
use Rattle.catalog.specs.Deletions.{is_of_relation, is_index_named, keys_where}
use Rattle.catalog_definitions.specs.Causes.{stop_of_check}
use Rattle.catalog_definitions.specs.Leaving.{erasures}
use Rattle.sound_changes.specs.Standing.{IsSoundAs}
use Rattle.sound_changes.proofs.Schemas.{catalogs_schema}
use Rattle.sound_statements.proofs.GoneIndexes.{index_deleted, index_deleted_whole}
use Rattle.sound_statements.specs.Owned.{IsOfIndex}
use Rattle.sound_statements.proofs.GoneRelations.{relation_deleted_whole}
use Rattle.statement_view.specs.Over.{Over, Stands, laid_over, knows_over, first_of}
use Rattle.schema_writes.specs.Deletions.{AreNodes, nodes_in, AreOwned, HasNoNodes, ErasesNodes, Deletes, LacksArea}
use Rattle.schema_writes.proofs.Alike.{Alike, index_alike, relation_alike, area_bare}
use Rattle.schema_writes.proofs.Made.{Stays, AllLaid}
use Rattle.schema_writes.proofs.Nodes.{keys_on, nodes_owned, nodes_gone, index_emptied}

-- what the meaning refuses
abbrev pub no_index : Name → Tables → Refusal
no_index n t = needs_some n (find chars_order n t.indexes)

abbrev pub no_relation : Name → Tables → Refusal
no_relation n t = needs_some n (relation_named n t)

-- ---- it is refused

refused : (old new : Over) (c : Catalog) (refusal : Tables → Refusal) (after : Tables → Tables) (stop : CheckStop) (told : Stop Reply) → Alike c refusal → Finds {A = List Dbkey} (Err stop) (refusal c.tables) → told ≡ stop_of_check stop → Deletes old new c refusal after (Err told)
refused old new c refusal after (Refused reply) told alike finds same =
    subst (λ (s : Stop Reply). Deletes old new c refusal after (Err s)) (sym same) (λ t first view. sym (alike (laid_over old.lines first) t view.sound) ∙ finds)
refused old new c refusal after Memory told alike finds same = subst (λ (s : Stop Reply). Deletes old new c refusal after (Err s)) (sym same) (λ t first view. tt)

pub index_refused : (old new : Over) (c : Catalog) (n : Name) (stop : CheckStop) (told : Stop Reply) → Finds {A = List Dbkey} (Err stop) (no_index n c.tables) → told ≡ stop_of_check stop → Deletes old new c (no_index n) (without_index n) (Err told)
index_refused old new c n stop told = refused old new c (no_index n) (without_index n) stop told (index_alike c n)

pub relation_refused : (old new : Over) (c : Catalog) (n : Name) (stop : CheckStop) (told : Stop Reply) → Finds {A = List Dbkey} (Err stop) (no_relation n c.tables) → told ≡ stop_of_check stop → Deletes old new c (no_relation n) (without_relation n) (Err told)
relation_refused old new c n stop told = refused old new c (no_relation n) (without_relation n) stop told (relation_alike c n)

-- the keys of the area aren't known
pub area_lacks : (old new : Over) (c : Catalog) (n : Name) (stop : Stop Reply) → no_relation n c.tables ≡ None → LacksArea old.base stop → Deletes old new c (no_relation n) (without_relation n) (Err stop)
area_lacks old new c n (Missing need) none lacks = λ t first view. (sym (relation_alike c n (laid_over old.lines first) t view.sound) ∙ none, lacks)
area_lacks old new c n (Bad key) none lacks = absurd lacks
area_lacks old new c n NoMemory none lacks = λ t first view. tt
area_lacks old new c n (Own reply) none lacks = absurd lacks

-- the keys of an area that the view lacks aren't known
pub area_unknown : (o : Over) (area : ℕ) → (knows_over o).area area ≡ None → (knows o.base).area area ≡ None
area_unknown o area none = by_case (find nat_cmp area o.areas) none where
  by_case : (f : Option (List Dbkey)) → first_of f ((knows o.base).area area) ≡ None → (knows o.base).area area ≡ None
  by_case (Some x) h = absurd (none-some x (sym h))
  by_case None h = h

-- ---- it is made

-- the catalog behind both erasures, whether there are nodes or not
emptied : (known : Knowledge) (all : Lines) (c : Catalog) (t : Tables) (n : Name) (nodes : List Dbkey) → Agrees known all → IsSoundAs all c t → AreNodes known c.lines n nodes →
    (after : Catalog) × IsSoundAs (laid_all (erasures (keys_where (is_index_named n) c.lines) ++ erasures nodes) all) after (without_index n t)
emptied known all c t n nodes agrees sound (inl none) =
    let left = index_deleted all c t n sound in
    let gone = erasures (keys_where (is_index_named n) c.lines) in
    (left.0, subst (λ (ws : List Write). IsSoundAs (laid_all ws all) left.0 (without_index n t)) (sym (append-nil gone) ∙ ap (λ (ks : List Dbkey). gone ++ erasures ks) (sym none.0)) left.1)
emptied known all c t n nodes agrees sound (inr is) =
    index_deleted_whole all c t n is.place is.line is.index nodes sound is.stands is.is is.named
    (subst (λ (ks : List Dbkey). AllByRecursion (λ (k : Dbkey). k.area ≡ is.index.area) ks) (sym (agrees.area is.index.area nodes is.told)) (keys_on is.index.area all))

-- the map behind both erasures
both_laid : (old mid new : Over) (gone lines given keys known : List Dbkey) → given ≡ lines → lines ≡ gone → known ≡ keys → Stays old mid → AllLaid old mid (erasures given) → AllLaid mid new (erasures known) →
    (first : Lines) → Stands old first → laid_over new.lines first ≡ laid_all (erasures gone ++ erasures keys) (laid_over old.lines first)
both_laid old mid new gone lines given keys known same_lines are same_keys first_stay first_laid then_laid = λ first stands.
    let all = laid_over old.lines first in
    let these : given ≡ gone = same_lines ∙ are in
    then_laid first (first_stay first stands) ∙ ap (laid_all (erasures known)) (first_laid first stands) ∙ (λ i. laid_all (erasures (same_keys i)) (laid_all (erasures (these i)) all)) ∙ sym (laid_in_turn (erasures gone) (erasures keys) all)

module _ (old mid new : Over) (c : Catalog) (n : Name) (lines given nodes known : List Dbkey) (same_lines : given ≡ lines) (same_nodes : known ≡ nodes) (are : lines ≡ keys_where (is_index_named n) c.lines) (they : AreNodes (knows_over old) c.lines n nodes)
    (first_stay : Stays old mid) (first_laid : AllLaid old mid (erasures given)) (then_stay : Stays mid new) (then_laid : AllLaid mid new (erasures known)) where
  abbrev index_lines : List Dbkey
  index_lines = keys_where (is_index_named n) c.lines

  index_behind : (first : Lines) → Stands old first → laid_over new.lines first ≡ laid_all (erasures index_lines ++ erasures nodes) (laid_over old.lines first)
  index_behind = both_laid old mid new index_lines lines given nodes known same_lines are same_nodes first_stay first_laid then_laid

  pub index_gone : no_index n c.tables ≡ None → Deletes old new c (no_index n) (without_index n) (Ok tt)
  index_gone none = λ t first view.
      let all = laid_over old.lines first in
      let left = emptied (knows_over old) all c t n nodes view.stands.agrees view.sound they in
      record {
        unrefused = sym (index_alike c n all t view.sound) ∙ none;
        catalog = left.0;
        behind = record {
          stands = then_stay first (first_stay first view.stands);
          sound = subst (λ (l : Lines). IsSoundAs l left.0 (without_index n t)) (sym (index_behind first view.stands)) left.1;
        };
      }

  pub index_erases : ErasesNodes old new c (is_index_named n)
  index_erases = λ t first view.
      subst (HasNoNodes (is_index_named n) c) (sym (index_behind first view.stands)) (index_emptied (knows_over old) (laid_over old.lines first) c n index_lines nodes view.stands.agrees view.sound.decodes they)

-- the keys of its area aren't known
pub index_lacks : (old new : Over) (c : Catalog) (n : Name) (stop : Stop Reply) → no_index n c.tables ≡ None → LacksArea old.base stop → Deletes old new c (no_index n) (without_index n) (Err stop)
index_lacks old new c n (Missing need) none lacks = λ t first view. (sym (index_alike c n (laid_over old.lines first) t view.sound) ∙ none, lacks)
index_lacks old new c n (Bad key) none lacks = absurd lacks
index_lacks old new c n NoMemory none lacks = λ t first view. tt
index_lacks old new c n (Own reply) none lacks = absurd lacks

is_there : (n : Name) (o : Option Rows) → needs_some n o ≡ None → (rel : Rows) × (o ≡ Some rel)
is_there n (Some rel) none = (rel, refl)
is_there n None none = let bad : ⊥ = cc in absurd bad

module _ (old mid new : Over) (c : Catalog) (n : Name) (area : ℕ) (lines given owned known : List Dbkey) (same_lines : given ≡ lines) (same_owned : known ≡ owned) (is_area : area ≡ area_of (relation_named n c.tables))
    (are : lines ≡ keys_where (is_of_relation (area_of (relation_named n c.tables))) c.lines) (own : AreOwned (knows_over old) area c.lines owned)
    (first_stay : Stays old mid) (first_laid : AllLaid old mid (erasures given)) (then_stay : Stays mid new) (then_laid : AllLaid mid new (erasures known)) where
  abbrev relation_lines : List Dbkey
  relation_lines = keys_where (is_of_relation area) c.lines

  abbrev nodes : List Dbkey
  nodes = nodes_in (knows_over old) area c.lines

  relation_behind : (first : Lines) → Stands old first → laid_over new.lines first ≡ laid_all (erasures relation_lines ++ erasures (own.rows ++ nodes)) (laid_over old.lines first)
  relation_behind = both_laid old mid new relation_lines lines given (own.rows ++ nodes) known same_lines (are ∙ ap (λ (a : ℕ). keys_where (is_of_relation a) c.lines) (sym is_area)) (same_owned ∙ own.are) first_stay first_laid then_laid

  pub relation_gone : no_relation n c.tables ≡ None → Deletes old new c (no_relation n) (without_relation n) (Ok tt)
  relation_gone none = λ t first view.
      let all = laid_over old.lines first in
      let unrefused : no_relation n t ≡ None = sym (relation_alike c n all t view.sound) ∙ none in
      let there = is_there n (relation_named n t) unrefused in
      let rel = there.0 in
      let here : area ≡ rel.area = is_area ∙ sym (area_bare (relation_named n c.tables)) ∙ ap area_of (catalogs_schema all c t view.sound.are n) ∙ area_bare (relation_named n t) ∙ ap area_of there.1 in
      let left = relation_deleted_whole all c t n rel nodes view.sound there.1 (subst (λ (a : ℕ). AllByRecursion (IsOfIndex c a) nodes) here (nodes_owned (knows_over old) c area all view.stands.agrees)) in
      let rows : own.rows ≡ keys_of (lines_in rel.area all) = view.stands.agrees.area area own.rows own.told ∙ ap (λ (a : ℕ). keys_of (lines_in a all)) here in
      let behind : laid_over new.lines first ≡ laid_all (erasures (keys_where (is_of_relation rel.area) c.lines) ++ erasures (keys_of (lines_in rel.area all) ++ nodes)) all =
      relation_behind first view.stands ∙ (λ i. laid_all (erasures (keys_where (is_of_relation (here i)) c.lines) ++ erasures (rows i ++ nodes)) all) in
      record {
        unrefused = unrefused;
        catalog = left.0;
        behind = record { stands = then_stay first (first_stay first view.stands); sound = subst (λ (l : Lines). IsSoundAs l left.0 (without_relation n t)) (sym behind) left.1 };
      }

  pub relation_erases : ErasesNodes old new c (is_of_relation (area_of (relation_named n c.tables)))
  relation_erases = λ t first view.
      subst (λ (a : ℕ). HasNoNodes (is_of_relation a) c (laid_over new.lines first)) is_area
      (subst (HasNoNodes (is_of_relation area) c) (sym (relation_behind first view.stands)) (nodes_gone (knows_over old) (laid_over old.lines first) c area relation_lines own.rows view.stands.agrees own.nodes))
