-- What is found of the relations of a catalog.
use Rattle.std.proofs.Common.{◌≡◌, ◌<◌, ◌+◌, inl, inr, ℕ, Bool, true, false, cond, List, [], ◌∷◌, ◌++◌, drop, length, get_or, Option, Some, refl, sym, ap, subst, ◌∙◌}
use Rattle.std.specs.Option.{unwrap_or}
use Rattle.std.specs.Ordering.{is_eq}
use Rattle.std.specs.FinMap.Entries.{find, put, find-put}
use Rattle.std.proofs.lemmas.List.{append_assoc, append-nil, drop_more}
use Rattle.rdb_types.specs.declared.keys.Dbkey.{Dbkey}
use Rattle.rdb_types.specs.Order.{chars_order}
use Rattle.rdb_types.specs.OrderLaws.{chars_total}
use Rattle.rdo_ast.specs.Tree.{Name}
use Rattle.rdb_meaning.specs.declared.tables.Relation.{Relation as Rows}
use Rattle.line_view.specs.Knowledge.{Lines, lines_in}
use Rattle.catalog_lines.specs.declared.line.RelationLine.{RelationLine}
use Rattle.catalog.specs.declared.directory.PlacedLine.{PlacedLine}
use Rattle.relation_rows.specs.declared.stored.StoredRelation.{StoredRelation}
use Rattle.sound_lines.specs.Contents.{with_version, versions_from, versions_in, version_of}
use Rattle.sound_lines.proofs.RowsRead.{row_alike}
use Rattle.line_faults.specs.Found.{Finds}
use Rattle.line_faults.specs.Rows.{IsRowLine, AreRowFaults}
use Rattle.verified_lines.specs.Relations.{stored_entry, FindsRows}
use Rattle.rmu_verify.specs.Added.{AddsSome}

-- ---- versions

pub version_put : (name : Name) (r : RelationLine) (versions : List (Name × ℕ)) (b : Bool) → is_eq (chars_order name r.name) ≡ b → version_of name (put chars_order r.name r.version versions) ≡ cond b r.version (version_of name versions)
version_put name r versions true is = ap (λ (o : Option ℕ). unwrap_or o 0) (find-put chars_order chars_total name r.name r.version versions ∙ ap (λ x. cond x (Some r.version) (find chars_order name versions)) is)
version_put name r versions false is = ap (λ (o : Option ℕ). unwrap_or o 0) (find-put chars_order chars_total name r.name r.version versions ∙ ap (λ x. cond x (Some r.version) (find chars_order name versions)) is)

pub record Noted (name : Name) (lines left : List PlacedLine) (version : ℕ) : Type 0 where
  pub versions : List (Name × ℕ)
  pub is : version ≡ version_of name versions
  pub rest : versions_from versions left ≡ versions_in lines

pub note_start : (name : Name) (lines : List PlacedLine) → Noted name lines lines 0
note_start name lines = record { versions = []; is = refl; rest = refl }

pub note_more : (name : Name) (lines : List PlacedLine) (i version new : ℕ) (p : PlacedLine) → i < length lines → p ≡ get_or lines i p → Noted name lines (drop i lines) version
    → ((versions : List (Name × ℕ)) → version ≡ version_of name versions → new ≡ version_of name (with_version p.line versions)) → Noted name lines (drop (i + 1) lines) new
note_more name lines i version new p inside is n step =
    let next : drop i lines ≡ p ∷ drop (i + 1) lines = drop_more lines i p inside ∙ ap (λ (q : PlacedLine). q ∷ drop (i + 1) lines) (sym is) in
    record { versions = with_version p.line n.versions; is = step n.versions n.is; rest = sym (ap (versions_from n.versions) next) ∙ n.rest }

pub note_end : (name : Name) (lines left : List PlacedLine) (version : ℕ) → left ≡ [] → Noted name lines left version → version ≡ version_of name (versions_in lines)
note_end name lines left version ended n = n.is ∙ ap (version_of name) (sym (ap (versions_from n.versions) ended) ∙ n.rest)

-- ---- rows of one relation

finds_map : {X F : Type 0} (Fine Bad Good Ill : X → Type 0) (name : X → F) → ((x : X) → Fine x → Good x) → ((x : X) → Bad x → Ill x) → (xs : List X) (found : List F) → Finds Fine Bad name xs found → Finds Good Ill name xs found
finds_map Fine Bad Good Ill name f b [] found is = is
finds_map Fine Bad Good Ill name f b (x ∷ xs) found (inl h) = inl (f x h.0, finds_map Fine Bad Good Ill name f b xs found h.1)
finds_map Fine Bad Good Ill name f b (x ∷ xs) found (inr h) = inr (b x h.0, (h.1.0, h.1.1, finds_map Fine Bad Good Ill name f b xs h.1.0 h.1.2))

line_alike : (r s : StoredRelation) → r.version ≡ s.version → r.fields.now ≡ s.fields.now → (e : Dbkey × List ℕ) → IsRowLine r e → IsRowLine s e
line_alike r s version fields e is = (is.0, row_alike r s e.1 is.0 version fields is.1)

-- of relations that are stored alike the same lines are found
pub faults_alike : (r s : StoredRelation) (all : Lines) (found : List Dbkey) → r.area ≡ s.area → r.version ≡ s.version → r.fields.now ≡ s.fields.now → AreRowFaults r all found → AreRowFaults s all found
faults_alike r s all found area version fields are =
    subst (λ (a : ℕ). Finds (IsRowLine s) (λ e. IsRowLine s e → ⊥) (λ e. e.0) (lines_in a all) found) area
    (finds_map (IsRowLine r) (λ e. IsRowLine r e → ⊥) (IsRowLine s) (λ e. IsRowLine s e → ⊥) (λ e. e.0) (line_alike r s version fields) (λ e no is. no (line_alike s r (sym version) (sym fields) e is)) (lines_in r.area all) found are)

-- ---- of all relations

pub rows_more : (all : Lines) (versions : List (Name × ℕ)) (bs : List (Name × Rows)) (b : Name × Rows) (found here : List Dbkey) → FindsRows all versions bs found → AreRowFaults (stored_entry versions b) all here → FindsRows all versions (bs ++ b ∷ []) (found ++ here)
rows_more all versions [] b found here finds are = (here, [], ap (λ (l : List Dbkey). l ++ here) finds ∙ sym (append-nil here), are, refl)
rows_more all versions (c ∷ cs) b found here finds are =
    (finds.0, finds.1 ++ here, ap (λ (l : List Dbkey). l ++ here) finds.2 ∙ append_assoc finds.0 finds.1 here, finds.3, rows_more all versions cs b finds.1 here finds.4 are)

pub adds_more : (all : Lines) (versions : List (Name × ℕ)) (bs : List (Name × Rows)) (b : Name × Rows) (old mid new : List Dbkey) → AddsSome (FindsRows all versions bs) old mid → AddsSome (AreRowFaults (stored_entry versions b) all) mid new → AddsSome (FindsRows all versions (bs ++ b ∷ [])) old new
adds_more all versions bs b old mid new x y =
    (x.0 ++ y.0, y.1 ∙ ap (λ (l : List Dbkey). l ++ y.0) x.1 ∙ append_assoc old x.0 y.0, rows_more all versions bs b x.0 y.0 x.2 y.2)
