-- The lines of a sound map's relations are their rows, and there are no others of even areas.
use Rattle.std.proofs.Common.{◌≡◌, ◌%◌, ◌==◌, inl, inr, ℕ, true, false, cond, List, [], ◌∷◌, ◌++◌, map, Option, Some, None, refl, sym, ap, ◌∙◌}
use Rattle.std.specs.Prelude.{is_none, is_some, IsSome}
use Rattle.std.specs.List.{AllByRecursion}
use Rattle.std.proofs.lemmas.Bool.{and_parts, eqb-true}
use Rattle.rdb_types.specs.declared.keys.Dbkey.{Dbkey}
use Rattle.rdo_ast.specs.Tree.{Name}
use Rattle.rdb_meaning.specs.declared.tables.Relation.{Relation as Rows}
use Rattle.rdb_meaning.specs.declared.tables.Tables.{Tables}
use Rattle.rdb_meaning.specs.Contents.{Row}
use Rattle.line_view.specs.Knowledge.{Lines, lines_in, keys_of}
use Rattle.relation_rows.specs.declared.stored.StoredRelation.{StoredRelation}
use Rattle.relation_rows.specs.Stored.{AreRowsOf}
use Rattle.relation_rows.specs.Relations.{stored_row}
use Rattle.catalog.specs.declared.reading.Catalog.{Catalog}
use Rattle.sound_lines.specs.Contents.{versions_in, HaveRows}
use Rattle.sound_lines.specs.Sound.{relation_in, IsOwned}
use Rattle.line_faults.specs.Found.{Finds}
use Rattle.line_faults.specs.Rows.{IsRowLine}
use Rattle.verified_lines.specs.Relations.{stored_entry, FindsRows, is_stray, strays_in}
use Rattle.faultless_databases.proofs.Alike.{somes_alike}
use Rattle.faultless_databases.proofs.Standing.{IsSoundOver}

-- ---- rows

none_found : (r : StoredRelation) (lines : Lines) (rows : List (Dbkey × Row)) (found : List Dbkey) → AreRowsOf r lines (map stored_row rows) → Finds (IsRowLine r) (λ e. IsRowLine r e → ⊥) (λ e. e.0) lines found → found ≡ []
none_found r [] rows found are finds = finds
none_found r (e ∷ es) [] found are finds = absurd are
none_found r (e ∷ es) (x ∷ xs) found are (inl rest) = none_found r es xs found are.2 rest.1
none_found r (e ∷ es) (x ∷ xs) found are (inr bad) = absurd (bad.0 (x.1, are.1))

none_of : (all : Lines) (versions : List (Name × ℕ)) (bs ws : List (Name × Rows)) (found : List Dbkey) → HaveRows all versions bs ws → FindsRows all versions bs found → found ≡ []
none_of all versions [] ws found have finds = finds
none_of all versions (b ∷ bs) [] found have finds = absurd have
none_of all versions (b ∷ bs) (w ∷ ws) found have finds =
    let r = stored_entry versions b in
    let here = none_found r (lines_in r.area all) w.1.rows finds.0 have.1.rows finds.3 in
    let rest = none_of all versions bs ws finds.1 have.2 finds.4 in
    finds.2 ∙ (λ i. here i ++ rest i)

pub no_row : (all : Lines) (c : Catalog) → IsSoundOver all c → (found : List Dbkey) → FindsRows all (versions_in c.lines) c.tables.relations found → found ≡ []
no_row all c is found = none_of all (versions_in c.lines) c.tables.relations is.tables.relations found is.are.relations

-- ---- lines without a relation

none_or_some : (o : Option Rows) → is_none o ≡ true → is_some o ≡ false
none_or_some None is = refl
none_or_some (Some x) is = absurd (let no : ⊥ = cc in no)

is_there : (o : Option Rows) → IsSome o → is_some o ≡ true
is_there None some = absurd (let no : ⊥ = cc in no)
is_there (Some x) some = refl

module _ (all : Lines) (versions : List (Name × ℕ)) (c t : Tables) (have : HaveRows all versions c.relations t.relations) where
  -- where an area is a stray no line that is owned is of it
  not_stray : (area : ℕ) (e : Dbkey × List ℕ) → IsOwned t e → is_stray c area ≡ true → e.0.area ≡ area → ⊥
  not_stray area e owned stray same =
      let parts = and_parts (area % 2 == 0) (is_none (relation_in area c.relations)) stray in
      let even : e.0.area % 2 ≡ 0 = ap (λ (n : ℕ). n % 2) same ∙ eqb-true (area % 2) 0 parts.0 in
      let some : is_some (relation_in area t.relations) ≡ true = ap (λ (n : ℕ). is_some (relation_in n t.relations)) (sym same) ∙ is_there (relation_in e.0.area t.relations) (owned even) in
      let none : is_some (relation_in area t.relations) ≡ false = sym (somes_alike all versions area c.relations t.relations have) ∙ none_or_some (relation_in area c.relations) parts.1 in
      let no : ⊥ = cc in no

  no_lines : (area : ℕ) (es : Lines) → AllByRecursion (IsOwned t) es → is_stray c area ≡ true → keys_of (lines_in area es) ≡ []
  no_lines area [] owned stray = refl
  no_lines area (e ∷ es) owned stray = elim (e.0.area == area) as (λ b. (e.0.area == area) ≡ b → keys_of (cond b (e ∷ lines_in area es) (lines_in area es)) ≡ []) [
    | true ↦ λ is. absurd (not_stray area e owned.0 stray (eqb-true e.0.area area is))
    | false ↦ λ isnt. no_lines area es owned.1 stray
  ] refl

  no_strays : (areas : List ℕ) → AllByRecursion (IsOwned t) all → strays_in all c areas ≡ []
  no_strays [] owned = refl
  no_strays (area ∷ areas) owned = elim (is_stray c area) as (λ b. is_stray c area ≡ b → cond b (keys_of (lines_in area all)) [] ++ strays_in all c areas ≡ []) [
    | true ↦ λ is. ap (λ (l : List Dbkey). l ++ strays_in all c areas) (no_lines area all owned is) ∙ no_strays areas owned
    | false ↦ λ isnt. no_strays areas owned
  ] refl

pub no_stray : (all : Lines) (c : Catalog) → IsSoundOver all c → (areas : List ℕ) → strays_in all c.tables areas ≡ []
no_stray all c is areas = no_strays all (versions_in c.lines) c.tables is.tables is.are.relations areas is.owned
