use Rattle.std.proofs.Common.{rules, ◌≡◌, ◌∙◌, ◌∷◌, List, [], Option, Some, Err, Result, refl, sym, ap, subst}
use Rattle.std.specs.List.Sorted.{IsStrictlySortedBy}
use Rattle.std.proofs.lemmas.List.{append-nil}
use Rattle.std.proofs.lemmas.Result.{err_from_is_err_and}
use Rattle.rdb_types.specs.declared.keys.Dbkey.{Dbkey}
use Rattle.rdo_ast.specs.Tree.{Name}
use Rattle.rdb_meaning.specs.declared.tables.Relation.{Relation as Rows}
use Rattle.rdb_meaning.specs.Contents.{Row}
use Rattle.rdb_outside.specs.Runs.{then_reads}
use Rattle.line_opening.specs.declared.fault.OpeningFault.{OpeningFault}
use Rattle.line_view.specs.Knowledge.{Lines}
use Rattle.catalog_lines.specs.Lines.{IsRelationArea, IsIndexArea}
use Rattle.catalog.specs.declared.directory.PlacedLine.{PlacedLine}
use Rattle.index_node.specs.Order.{entry_order}
use Rattle.index_faults.specs.declared.contents.Judgement.{Judgement}
use Rattle.index_faults.specs.Contents.{HasTheRows, HoldsRows}
use Rattle.index_faults.specs.Walks.{IsInOrderWith}
use Rattle.relation_rows.specs.declared.stored.StoredRelation.{StoredRelation}
use Rattle.sound_lines.specs.Contents.{versions_in, version_of}
use Rattle.verified_lines.specs.Relations.{entry_in, stored_entry, IsJudgedOf}
use Rattle.verified_lines.specs.Relations.IsJudged.{broken}
use Rattle.areas_at_rest.specs.Runs.{IsQuiet}
use Rattle.areas_at_rest.proofs.Defined.{relation_owner, index_owner}
use Rattle.areas_at_rest.proofs.Quiet.{then as behind_reads, stopped, done, want, at_rest}
use Rattle.rmu_verify.proofs.IndexLines.{IsRead, entry_area, holds_of, unjudged_of, differs_of}
use Rattle.rmu_verify.proofs.indexes.verify_index.Goals as goal

pub returns-in_default-clause-found : goal.returns-in_default-clause-found
returns-in_default-clause-found g c = λ t left so groups lines lays stands.
    ([], [], sym (append-nil _), sym (append-nil _), subst (λ (o : Option (Name × Rows)). IsJudgedOf lines (versions_in c.args.catalog.now.lines) o c.args.index.now [] []) (sym c.in_default.ensures.none) (refl, refl))

pub returns-in-Holds-clause-found : goal.returns-in-Holds-clause-found
returns-in-Holds-clause-found g c = λ t left so groups lines lays stands.
    let v = g.D.Disk.view in
    let e = c.in-Some.field-0.now in
    let versions = versions_in c.args.catalog.now.lines in
    let found : entry_in c.args.index.now.relation c.args.catalog.now.tables.relations ≡ Some e = c.in-Some.ensures.some in
    let empty : c.in_ok-walk.walk.faults ≡ [] = first_of (cc, search rules) in
    let read : StoredRelation = record { area = e.1.area; version = c.version_of.result; fields = c.as_slice-2.result } in
    let is_read : IsRead read (stored_entry versions e) = record { area = refl; version = sym (c.version_of.ensures ∙ ap (λ (l : List PlacedLine). version_of e.0 (versions_in l)) c.as_slice.ensures); fields = sym c.as_slice-2.ensures } in
    let owner = relation_owner e.1.area (subst IsRelationArea (sym (entry_area c.args.index.now.relation c.args.catalog.now.tables.relations e found)) c.requires.allowed.relation) in
    let root = index_owner c.args.index.now.root.area (subst IsIndexArea (sym c.requires.rooted) c.requires.allowed.area) in
    let held : c.as_slice-3.result.now ≡ c.in_ok-walk.walk.pairs = c.as_slice-3.ensures in
    let in_order : IsInOrderWith lines c.args.index.now.root c.as_slice-3.result.now = subst (IsInOrderWith lines c.args.index.now.root) (sym held) (c.in_ok-walk.ensures.found empty 3 root t left so groups lines lays stands) in
    let said = at_rest (v c.args.disk.now) (v c.walk_of.new.disk) c.args.held.now (λ (all : Lines). (rows : List (Dbkey × Row)) → HasTheRows read all rows → IsStrictlySortedBy entry_order c.as_slice-3.result.now → HoldsRows c.args.index.now.fields c.args.index.now.unique c.as_slice-3.result.now rows) c.walk_of.ensures.quiet.reads (c.in_ok-judged.ensures.holds (first_of (cc, search rules)) 2 owner) t left so groups lines lays stands in
    ([], [], sym (append-nil _), sym (append-nil _), subst (λ (o : Option (Name × Rows)). IsJudgedOf lines versions o c.args.index.now [] []) (sym found) (holds_of lines read (stored_entry versions e) c.args.index.now c.as_slice-3.result.now is_read in_order said))

pub returns-in-Unjudged-clause-found : goal.returns-in-Unjudged-clause-found
returns-in-Unjudged-clause-found g c = λ t left so groups lines lays stands.
    let v = g.D.Disk.view in
    let e = c.in-Some.field-0.now in
    let versions = versions_in c.args.catalog.now.lines in
    let found : entry_in c.args.index.now.relation c.args.catalog.now.tables.relations ≡ Some e = c.in-Some.ensures.some in
    let empty : c.in_ok-walk.walk.faults ≡ [] = first_of (cc, search rules) in
    let read : StoredRelation = record { area = e.1.area; version = c.version_of.result; fields = c.as_slice-2.result } in
    let is_read : IsRead read (stored_entry versions e) = record { area = refl; version = sym (c.version_of.ensures ∙ ap (λ (l : List PlacedLine). version_of e.0 (versions_in l)) c.as_slice.ensures); fields = sym c.as_slice-2.ensures } in
    let owner = relation_owner e.1.area (subst IsRelationArea (sym (entry_area c.args.index.now.relation c.args.catalog.now.tables.relations e found)) c.requires.allowed.relation) in
    let root = index_owner c.args.index.now.root.area (subst IsIndexArea (sym c.requires.rooted) c.requires.allowed.area) in
    let held : c.as_slice-3.result.now ≡ c.in_ok-walk.walk.pairs = c.as_slice-3.ensures in
    let in_order : IsInOrderWith lines c.args.index.now.root c.as_slice-3.result.now = subst (IsInOrderWith lines c.args.index.now.root) (sym held) (c.in_ok-walk.ensures.found empty 3 root t left so groups lines lays stands) in
    let said = at_rest (v c.args.disk.now) (v c.walk_of.new.disk) c.args.held.now (λ (all : Lines). (rows : List (Dbkey × Row)) → HasTheRows read all rows → ⊥) c.walk_of.ensures.quiet.reads (c.in_ok-judged.ensures.unjudged (first_of (cc, search rules)) 2 owner) t left so groups lines lays stands in
    ([], [], sym (append-nil _), sym (append-nil _), subst (λ (o : Option (Name × Rows)). IsJudgedOf lines versions o c.args.index.now [] []) (sym found) (unjudged_of lines read (stored_entry versions e) c.args.index.now c.as_slice-3.result.now is_read in_order said))

pub returns-in-Ok-add_name-clause-found : goal.returns-in-Ok-add_name-clause-found
returns-in-Ok-add_name-clause-found g c = λ t left so groups lines lays stands.
    let v = g.D.Disk.view in
    let e = c.in-Some.field-0.now in
    let versions = versions_in c.args.catalog.now.lines in
    let found : entry_in c.args.index.now.relation c.args.catalog.now.tables.relations ≡ Some e = c.in-Some.ensures.some in
    let empty : c.in_ok-walk.walk.faults ≡ [] = first_of (cc, search rules) in
    let read : StoredRelation = record { area = e.1.area; version = c.version_of.result; fields = c.as_slice-2.result } in
    let is_read : IsRead read (stored_entry versions e) = record { area = refl; version = sym (c.version_of.ensures ∙ ap (λ (l : List PlacedLine). version_of e.0 (versions_in l)) c.as_slice.ensures); fields = sym c.as_slice-2.ensures } in
    let owner = relation_owner e.1.area (subst IsRelationArea (sym (entry_area c.args.index.now.relation c.args.catalog.now.tables.relations e found)) c.requires.allowed.relation) in
    let root = index_owner c.args.index.now.root.area (subst IsIndexArea (sym c.requires.rooted) c.requires.allowed.area) in
    let held : c.as_slice-3.result.now ≡ c.in_ok-walk.walk.pairs = c.as_slice-3.ensures in
    let in_order : IsInOrderWith lines c.args.index.now.root c.as_slice-3.result.now = subst (IsInOrderWith lines c.args.index.now.root) (sym held) (c.in_ok-walk.ensures.found empty 3 root t left so groups lines lays stands) in
    let said = at_rest (v c.args.disk.now) (v c.walk_of.new.disk) c.args.held.now (λ (all : Lines). (rows : List (Dbkey × Row)) → HasTheRows read all rows → IsStrictlySortedBy entry_order c.as_slice-3.result.now → HoldsRows c.args.index.now.fields c.args.index.now.unique c.as_slice-3.result.now rows → ⊥) c.walk_of.ensures.quiet.reads (c.in_ok-judged.ensures.differs (first_of (cc, search rules)) 2 owner) t left so groups lines lays stands in
    ([], (c.args.index.now.name ∷ []), sym (append-nil _), c.in-Ok-add_name.ensures, subst (λ (o : Option (Name × Rows)). IsJudgedOf lines versions o c.args.index.now [] (c.args.index.now.name ∷ [])) (sym found) (differs_of lines read (stored_entry versions e) c.args.index.now c.as_slice-3.result.now is_read in_order said))

pub returns-in-Holds-clause-quiet : goal.returns-in-Holds-clause-quiet
returns-in-Holds-clause-quiet g c =
    let v = g.D.Disk.view in
    done (v c.args.disk.now) (v c.judged.new.disk) tt (then_reads (v c.args.disk.now) (v c.walk_of.new.disk) (v c.judged.new.disk) c.walk_of.ensures.quiet.reads c.judged.ensures.quiet.reads)

pub returns-in-Unjudged-clause-quiet : goal.returns-in-Unjudged-clause-quiet
returns-in-Unjudged-clause-quiet g c =
    let v = g.D.Disk.view in
    done (v c.args.disk.now) (v c.judged.new.disk) tt (then_reads (v c.args.disk.now) (v c.walk_of.new.disk) (v c.judged.new.disk) c.walk_of.ensures.quiet.reads c.judged.ensures.quiet.reads)

pub returns-in-Ok-add_name-clause-quiet : goal.returns-in-Ok-add_name-clause-quiet
returns-in-Ok-add_name-clause-quiet g c =
    let v = g.D.Disk.view in
    done (v c.args.disk.now) (v c.judged.new.disk) tt (then_reads (v c.args.disk.now) (v c.walk_of.new.disk) (v c.judged.new.disk) c.walk_of.ensures.quiet.reads c.judged.ensures.quiet.reads)

pub returns-clause-quiet : goal.returns-clause-quiet
returns-clause-quiet g c =
    let v = g.D.Disk.view in
    want (v c.args.disk.now) (v c.judged.new.disk) (then_reads (v c.args.disk.now) (v c.walk_of.new.disk) (v c.judged.new.disk) c.walk_of.ensures.quiet.reads c.judged.ensures.quiet.reads)

pub returns-in_err-judged-clause-quiet : goal.returns-in_err-judged-clause-quiet
returns-in_err-judged-clause-quiet g c =
    let v = g.D.Disk.view in
    let p = err_from_is_err_and c.from_residual-in_err-judged.result c.from_residual-in_err-judged.ensures.1 in
    rw (p.1, p.2) (behind_reads (v c.args.disk.now) (v c.walk_of.new.disk) (v c.judged.new.disk) (Err c.in_err-judged.field-0.0) c.walk_of.ensures.quiet.reads
    (stopped (v c.walk_of.new.disk) (v c.judged.new.disk) c.in_err-judged.field-0.0 (subst (λ (r : Result Judgement OpeningFault). IsQuiet c.args.held.now.faulty (v c.walk_of.new.disk) (v c.judged.new.disk) r) c.in_err-judged.was c.judged.ensures.quiet)))

pub returns-then-not-is_empty-clause-found : goal.returns-then-not-is_empty-clause-found
returns-then-not-is_empty-clause-found g c = λ t left so groups lines lays stands.
    let e = c.in-Some.field-0.now in
    let versions = versions_in c.args.catalog.now.lines in
    let faults = c.in_ok-walk.walk.faults in
    let found : entry_in c.args.index.now.relation c.args.catalog.now.tables.relations ≡ Some e = c.in-Some.ensures.some in
    let some : faults ≡ [] → ⊥ = (λ none. let is = c.is_empty.ensures.1 none in let no : ⊥ = first_of (cc, search rules) in no) in
    let root = index_owner c.args.index.now.root.area (subst IsIndexArea (sym c.requires.rooted) c.requires.allowed.area) in
    let order = c.in_ok-walk.ensures.at_fault some 3 root t left so groups lines lays stands in
    (faults, [], c.in-Ok.ensures, sym (append-nil _), subst (λ (o : Option (Name × Rows)). IsJudgedOf lines versions o c.args.index.now faults []) (sym found) (broken some refl order))
