-- A map has one list of tables.
use Rattle.std.proofs.Common.{◌≡◌, ℕ, List, [], ◌∷◌, map, refl, sym, subst, ◌∙◌}
use Rattle.rdb_types.specs.declared.keys.Dbkey.{Dbkey}
use Rattle.rdo_ast.specs.Tree.{Name}
use Rattle.rdb_meaning.specs.declared.tables.Relation.{Relation}
use Rattle.rdb_meaning.specs.declared.tables.Tables.{Tables}
use Rattle.rdb_meaning.specs.Contents.{Row}
use Rattle.line_view.specs.Knowledge.{Lines, lines_in}
use Rattle.catalog.specs.declared.reading.Catalog.{Catalog}
use Rattle.catalog.proofs.Agreements.{one_catalog}
use Rattle.relation_rows.specs.declared.stored.StoredRelation.{StoredRelation}
use Rattle.relation_rows.specs.Stored.{AreRowsOf}
use Rattle.relation_rows.specs.Relations.{stored_row, HasRows}
use Rattle.relation_rows.proofs.OneRow.{same_row}
use Rattle.sound_lines.specs.Contents.{versions_in, version_of, stored, HaveRows, AreTablesWith, AreTablesOf}

pub same_rows : (r : StoredRelation) (lines : Lines) (a b : List (Dbkey × Row)) → AreRowsOf r lines (map stored_row a) → AreRowsOf r lines (map stored_row b) → a ≡ b
same_rows r [] [] [] x y = refl
same_rows r [] [] (f ∷ fs) x y = absurd y
same_rows r [] (e ∷ es) b x y = absurd x
same_rows r (l ∷ ls) [] b x y = absurd x
same_rows r (l ∷ ls) (e ∷ es) [] x y = absurd y
same_rows r (l ∷ ls) (e ∷ es) (f ∷ fs) x y =
    let key : e.0 ≡ f.0 = x.0 ∙ sym y.0 in
    let row : e.1 ≡ f.1 = same_row r l.1 e.1 f.1 x.1 y.1 in
    let rest : es ≡ fs = same_rows r ls es fs x.2 y.2 in
    λ i. (key i, row i) ∷ rest i

same_relation : (all : Lines) (version : ℕ) (bare a b : Relation) → HasRows all (stored version bare) a → HasRows all (stored version bare) b → a ≡ b
same_relation all version bare a b x y =
    let area : a.area ≡ b.area = sym x.area ∙ y.area in
    let fields : a.fields ≡ b.fields = sym x.fields ∙ y.fields in
    let rows : a.rows ≡ b.rows = same_rows (stored version bare) (lines_in bare.area all) a.rows b.rows x.rows y.rows in
    λ i. record { area = area i; fields = fields i; rows = rows i }

same_relations : (all : Lines) (versions : List (Name × ℕ)) (bs xs ys : List (Name × Relation)) → HaveRows all versions bs xs → HaveRows all versions bs ys → xs ≡ ys
same_relations all versions [] [] [] p q = refl
same_relations all versions [] [] (y ∷ ys) p q = absurd q
same_relations all versions [] (x ∷ xs) ys p q = absurd p
same_relations all versions (b ∷ bs) [] ys p q = absurd p
same_relations all versions (b ∷ bs) (x ∷ xs) [] p q = absurd q
same_relations all versions (b ∷ bs) (x ∷ xs) (y ∷ ys) p q =
    let name : x.0 ≡ y.0 = p.0 ∙ sym q.0 in
    let relation : x.1 ≡ y.1 = same_relation all (version_of b.0 versions) b.1 x.1 y.1 p.1 q.1 in
    let rest : xs ≡ ys = same_relations all versions bs xs ys p.2 q.2 in
    λ i. (name i, relation i) ∷ rest i

same_tables : (all : Lines) (c : Catalog) (a b : Tables) → AreTablesWith all c a → AreTablesWith all c b → a ≡ b
same_tables all c a b x y =
    let globals : a.globals ≡ b.globals = x.globals ∙ sym y.globals in
    let relations : a.relations ≡ b.relations = same_relations all (versions_in c.lines) c.tables.relations a.relations b.relations x.relations y.relations in
    let indexes : a.indexes ≡ b.indexes = x.indexes ∙ sym y.indexes in
    λ i. record { globals = globals i; relations = relations i; indexes = indexes i }

pub with_catalog : (all : Lines) (c : Catalog) (t : Tables) (is : AreTablesOf all t) → is.catalog ≡ c → AreTablesWith all c t
with_catalog all c t is same = subst (λ (d : Catalog). AreTablesWith all d t) same is.tables

pub one_tables : (all : Lines) (a b : Tables) → AreTablesOf all a → AreTablesOf all b → a ≡ b
one_tables all a b x y = same_tables all y.catalog a b (with_catalog all y.catalog a x (one_catalog all x.catalog y.catalog x.decodes y.decodes)) y.tables
