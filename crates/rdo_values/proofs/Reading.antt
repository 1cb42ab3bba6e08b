-- What stands at a reference's place in the row of all variables is what the reference reads.
use Rattle.std.proofs.Common.{◌≡◌, ℕ, ◌+◌, Bool, true, false, if◌then◌else◌, List, [], ◌∷◌, ◌++◌, length, Option, Some, None, option_map, slice_get, zero, suc, refl, ap, sym, ◌∙◌, subst, arith}
use Rattle.rdb_types.specs.declared.values.Value.{Value}
use Rattle.rdb_types.specs.declared.values.Field.{Field}
use Rattle.rdo_ast.specs.Tree.{Name}
use Rattle.rdo_ast.specs.declared.syntax.Reference.{Reference}
use Rattle.rdb_meaning.specs.declared.tables.Tables.{Tables}
use Rattle.rdb_meaning.specs.declared.scope.Binding.{Binding}
use Rattle.rdb_meaning.specs.Contents.{Row, same_name, relation_named, fields_of, place_of, place_from}
use Rattle.rdb_meaning.specs.Evaluation.{Scope, bound_as, row_now, scaled_if, read_place, read_if_bound, read_bound, read}
use Rattle.rdo_values.specs.Rows.{values_of, row_or_none, row_of, variables_of}
use Rattle.rdo_values.specs.Places.{Place, place_of_field, behind, located}

pub some_same : {A : Type 0} (a b : A) → Some a ≡ Some b → a ≡ b
some_same a b e = cc

-- ---- a field of the first variable

-- the field's place among the fields behind n others, and its value in the row
abbrev Reads : ℕ → List Field → Row → Row → ℕ × Field → Type 0
Reads n fs row rest p = (k : ℕ) × ((p.0 ≡ n + k) × (scaled_if p.1.kind (slice_get (values_of fs row ++ rest) k) ≡ scaled_if p.1.kind (slice_get row k)))

first_absent : (n : ℕ) (f : Field) (fs : List Field) (rest : Row) → Reads n (f ∷ fs) [] rest (n, f)
first_absent n f fs rest = (0, (omega arith, refl))

first_value : (n : ℕ) (f : Field) (fs : List Field) (v : Value) (vs rest : Row) → Reads n (f ∷ fs) (v ∷ vs) rest (n, f)
first_value n f fs v vs rest = (0, (omega arith, refl))

later_absent : (n : ℕ) (f : Field) (fs : List Field) (rest : Row) (p : ℕ × Field) → Reads (n + 1) fs [] rest p → Reads n (f ∷ fs) [] rest p
later_absent n f fs rest p h = (suc h.0, (let e = h.1.0 in omega arith, h.1.1))

later_value : (n : ℕ) (f : Field) (fs : List Field) (v : Value) (vs rest : Row) (p : ℕ × Field) → Reads (n + 1) fs vs rest p → Reads n (f ∷ fs) (v ∷ vs) rest p
later_value n f fs v vs rest p h = (suc h.0, (let e = h.1.0 in omega arith, h.1.1))

absent_step : (same : Bool) (n : ℕ) (f : Field) (fs : List Field) (rest : Row) (found : Option (ℕ × Field)) (p : ℕ × Field) → (found ≡ Some p → Reads (n + 1) fs [] rest p) → (if same then Some (n, f) else found) ≡ Some p → Reads n (f ∷ fs) [] rest p
absent_step true n f fs rest found p later e = subst (Reads n (f ∷ fs) [] rest) (some_same (n, f) p e) (first_absent n f fs rest)
absent_step false n f fs rest found p later e = later_absent n f fs rest p (later e)

value_step : (same : Bool) (n : ℕ) (f : Field) (fs : List Field) (v : Value) (vs rest : Row) (found : Option (ℕ × Field)) (p : ℕ × Field) → (found ≡ Some p → Reads (n + 1) fs vs rest p) → (if same then Some (n, f) else found) ≡ Some p → Reads n (f ∷ fs) (v ∷ vs) rest p
value_step true n f fs v vs rest found p later e = subst (Reads n (f ∷ fs) (v ∷ vs) rest) (some_same (n, f) p e) (first_value n f fs v vs rest)
value_step false n f fs v vs rest found p later e = later_value n f fs v vs rest p (later e)

field_read : (n : ℕ) (name : Name) (fs : List Field) (row rest : Row) (p : ℕ × Field) → place_from n name fs ≡ Some p → Reads n fs row rest p
field_read n name [] row rest p e = cc
field_read n name (f ∷ fs) [] rest p e = absent_step (same_name name f.name) n f fs rest (place_from (n + 1) name fs) p (field_read (n + 1) name fs [] rest p) e
field_read n name (f ∷ fs) (v ∷ vs) rest p e = value_step (same_name name f.name) n f fs v vs rest (place_from (n + 1) name fs) p (field_read (n + 1) name fs vs rest p) e

row_read : (p : ℕ × Field) (row : Option Row) → scaled_if p.1.kind (slice_get (row_or_none row) p.0) ≡ read_place (Some p) row
row_read p (Some row) = refl
row_read p None = refl

-- ---- a field of a later variable

behind_values : (fs : List Field) (row rest : Row) (n k : ℕ) → n ≡ length fs + k → slice_get (values_of fs row ++ rest) n ≡ slice_get rest k
behind_values [] row rest n k e = ap (slice_get rest) (omega arith)
behind_values (f ∷ fs) row rest zero k e = absurd (omega arith)
behind_values (f ∷ fs) [] rest (suc n) k e = behind_values fs [] rest n k (omega arith)
behind_values (f ∷ fs) (v ∷ vs) rest (suc n) k e = behind_values fs vs rest n k (omega arith)

-- ---- all variables

abbrev fields_in : Tables → Binding → List Field
fields_in t b = fields_of (relation_named b.relation t)

-- the variable's own field
own_field : (t : Tables) (b : Binding) (rest : Row) (r : Reference) (p : Place) (found : Option (ℕ × Field)) → place_of r.field (fields_in t b) ≡ found → option_map place_of_field found ≡ Some p → scaled_if p.kind (slice_get (values_of (fields_in t b) (row_or_none (row_now t b)) ++ rest) p.place) ≡ read_bound r.field t b
own_field t b rest r p None e h = cc
own_field t b rest r p (Some q) e h =
    let place = some_same (place_of_field q) p h in
    let reads = field_read 0 r.field (fields_in t b) (row_or_none (row_now t b)) rest q e in
    let at : q.0 ≡ reads.0 = let s = reads.1.0 in omega arith in
    ap (λ p. scaled_if p.kind (slice_get (values_of (fields_in t b) (row_or_none (row_now t b)) ++ rest) p.place)) (sym place)
    ∙ ap (λ k. scaled_if q.1.kind (slice_get (values_of (fields_in t b) (row_or_none (row_now t b)) ++ rest) k)) at
    ∙ reads.1.1 ∙ ap (λ k. scaled_if q.1.kind (slice_get (row_or_none (row_now t b)) k)) (sym at)
    ∙ row_read q (row_now t b) ∙ ap (λ o. read_place o (row_now t b)) (sym e)

other_field : (t : Tables) (b : Binding) (scope : Scope) (r : Reference) (p : Place) (found : Option Place) → ((q : Place) → found ≡ Some q → scaled_if q.kind (slice_get (row_of t scope) q.place) ≡ read r t scope) → option_map (behind (length (fields_in t b))) found ≡ Some p → scaled_if p.kind (slice_get (row_of t (b ∷ scope)) p.place) ≡ read r t scope
other_field t b scope r p None later h = cc
other_field t b scope r p (Some q) later h =
    let place = some_same (behind (length (fields_in t b)) q) p h in
    ap (λ p. scaled_if p.kind (slice_get (row_of t (b ∷ scope)) p.place)) (sym place)
    ∙ ap (scaled_if q.kind) (behind_values (fields_in t b) (row_or_none (row_now t b)) (row_of t scope) (length (fields_in t b) + q.place) q.place refl)
    ∙ later q refl

variable_step : (same : Bool) (t : Tables) (b : Binding) (scope : Scope) (r : Reference) (p : Place) → ((q : Place) → located r t (variables_of scope) ≡ Some q → scaled_if q.kind (slice_get (row_of t scope) q.place) ≡ read r t scope) → (if same then option_map place_of_field (place_of r.field (fields_in t b)) else option_map (behind (length (fields_in t b))) (located r t (variables_of scope))) ≡ Some p → scaled_if p.kind (slice_get (row_of t (b ∷ scope)) p.place) ≡ read_if_bound r.field t (if same then Some b else bound_as r.variable scope)
variable_step true t b scope r p later h = own_field t b (row_of t scope) r p (place_of r.field (fields_in t b)) refl h
variable_step false t b scope r p later h = other_field t b scope r p (located r t (variables_of scope)) later h

pub read_located : (t : Tables) (scope : Scope) (r : Reference) (p : Place) → located r t (variables_of scope) ≡ Some p → scaled_if p.kind (slice_get (row_of t scope) p.place) ≡ read r t scope
read_located t [] r p h = cc
read_located t (b ∷ scope) r p h = variable_step (same_name r.variable b.variable) t b scope r p (read_located t scope r) h
