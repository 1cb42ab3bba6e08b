-- A map with a line that is no row has no tables.
use Rattle.std.proofs.Common.{◌≡◌, ◌==◌, ℕ, List, [], ◌∷◌, ◌++◌, map, Some, sym, ap, subst, ◌∙◌}
use Rattle.std.proofs.lemmas.Option.{same_Some}
use Rattle.rdb_types.specs.declared.values.Value.{Value}
use Rattle.rdb_types.specs.declared.keys.Dbkey.{Dbkey}
use Rattle.rdo_ast.specs.Tree.{Name}
use Rattle.rdb_meaning.specs.declared.tables.Relation.{Relation}
use Rattle.rdb_meaning.specs.declared.tables.Tables.{Tables}
use Rattle.line_view.specs.declared.stop.Stop.TheVariants.{Bad}
use Rattle.line_view.specs.Knowledge.{Knowledge, Lines, IsInOrder, Agrees, line_in, lines_in, keys_of}
use Rattle.line_view.proofs.Agreements.{Found, found_all, found_some}
use Rattle.catalog.proofs.Agreements.{one_catalog, no_catalog}
use Rattle.relation_rows.specs.declared.stored.StoredRelation.{StoredRelation}
use Rattle.relation_rows.specs.declared.stored.StoredRow.{StoredRow}
use Rattle.relation_rows.specs.Stored.{IsRowOf, AreRowsOf}
use Rattle.relation_rows.specs.Relations.{stored_row}
use Rattle.sound_lines.specs.Contents.{versions_in, version_of, stored, HaveRows, AreTablesOf}
use Rattle.sound_lines.specs.Reading.{IsBadRow, StopsTables}
use Rattle.sound_lines.specs.Reading.StopsTables.{in_catalog, in_rows}
use Rattle.sound_lines.proofs.OneTables.{with_catalog}

-- among lines that are rows, the line of each key is a row
no_row : (all : Lines) (r : StoredRelation) (key : Dbkey) (before behind : List Dbkey) (lines : Lines) (rows : List StoredRow) → Found all lines → before ++ key ∷ behind ≡ keys_of lines → AreRowsOf r lines rows →
    ((image : List ℕ) (row : List Value) → line_in key all ≡ Some image → IsRowOf r image row → ⊥) → ⊥
no_row all r key [] behind [] rows found same are none = let bad : ⊥ = cc in bad
no_row all r key (k ∷ ks) behind [] rows found same are none = let bad : ⊥ = cc in bad
no_row all r key before behind (l ∷ ls) [] found same are none = are
no_row all r key [] behind (l ∷ ls) (x ∷ xs) found same are none =
    let here : key ≡ l.0 = cc in
    none l.1 x.row (ap (λ (k : Dbkey). line_in k all) here ∙ found.0) are.1
no_row all r key (k ∷ ks) behind (l ∷ ls) (x ∷ xs) found same are none =
    let rest : ks ++ key ∷ behind ≡ keys_of ls = cc in
    no_row all r key ks behind ls xs found.1 rest are.2 none

bad_row : (known : Knowledge) (all : Lines) (r : StoredRelation) (key : Dbkey) (rows : List StoredRow) → IsInOrder all → Agrees known all → IsBadRow known r key → AreRowsOf r (lines_in r.area all) rows → ⊥
bad_row known all r key rows sorted agrees bad are =
    no_row all r key bad.before bad.behind (lines_in r.area all) rows
    (found_some all all (λ e. e.0.area == r.area) (found_all all sorted))
    (agrees.area r.area (bad.before ++ key ∷ bad.behind) bad.told)
    are
    (λ image row is stands. bad.bad.2 row (subst (λ (i : List ℕ). IsRowOf r i row) (sym (same_Some _ _ (agrees.line key (Some bad.bad.0) bad.bad.1 ∙ is))) stands))

bad_relation : (known : Knowledge) (all : Lines) (versions : List (Name × ℕ)) (e : Name × Relation) (key : Dbkey) (before behind whole : List (Name × Relation)) → IsInOrder all → Agrees known all →
    IsBadRow known (stored (version_of e.0 versions) e.1) key → HaveRows all versions (before ++ e ∷ behind) whole → ⊥
bad_relation known all versions e key [] behind [] sorted agrees bad have = have
bad_relation known all versions e key [] behind (w ∷ ws) sorted agrees bad have = bad_row known all (stored (version_of e.0 versions) e.1) key (map stored_row w.1.rows) sorted agrees bad have.1.rows
bad_relation known all versions e key (b ∷ bs) behind [] sorted agrees bad have = have
bad_relation known all versions e key (b ∷ bs) behind (w ∷ ws) sorted agrees bad have = bad_relation known all versions e key bs behind ws sorted agrees bad have.2

pub no_tables : (known : Knowledge) (all : Lines) (key : Dbkey) (t : Tables) → IsInOrder all → Agrees known all → StopsTables known all (Bad key) → AreTablesOf all t → ⊥
no_tables known all key t sorted agrees (in_catalog bad) is = no_catalog known all key is.catalog agrees bad is.decodes
no_tables known all key t sorted agrees (in_rows c decodes stops) is =
    let tables = with_catalog all c t is (one_catalog all is.catalog c is.decodes decodes) in
    bad_relation known all (versions_in c.lines) stops.at key stops.reaches.before stops.reaches.behind t.relations sorted agrees stops.stops
    (subst (λ (l : List (Name × Relation)). HaveRows all (versions_in c.lines) l t.relations) stops.reaches.stands tables.relations)
