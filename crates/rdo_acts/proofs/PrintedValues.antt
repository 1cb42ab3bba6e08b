-- Lines that are printed item by item, from the values of all variables.
use Rattle.std.proofs.Common.{◌≡◌, ℕ, ◌+◌, ◌<◌, ◌≤◌, zero, suc, true, false, cond, List, [], ◌∷◌, ◌++◌, map, length, drop, get_or, Option, Some, None, option_map, refl, sym, ap, subst, ◌∙◌, arith, append_assoc, append-nil, add-zero, if◌then◌else◌}
use Rattle.std.specs.Prelude.{slice_get}
use Rattle.std.proofs.lemmas.List.{at_drop_more, at_drop_all}
use Rattle.std.proofs.lemmas.Option.{none-some, same_Some, slice_get-get_or, slice_get_within, get_or_from_slice_get}
use Rattle.rdb_types.specs.declared.values.Field.{Field}
use Rattle.rdb_types.specs.declared.values.FieldType.{FieldType}
use Rattle.rdb_types.specs.declared.values.Scaled.{Scaled}
use Rattle.rdo_ast.specs.Tree.{Name}
use Rattle.rdb_meaning.specs.declared.tables.Tables.{Tables}
use Rattle.rdb_meaning.specs.declared.scope.Binding.{Binding}
use Rattle.rdb_meaning.specs.Contents.{Row, same_name, relation_named, fields_of}
use Rattle.rdb_meaning.specs.Evaluation.{Scope, bound_as, row_now, scaled_if}
use Rattle.rdb_meaning.specs.Execution.{Line, line, no_line, joined, row_line_from, fields_line, binding_line, item_line, printed}
use Rattle.rdo_values.specs.Rows.{values_of, row_or_none, row_of, variables_of}
use Rattle.rdo_bind.specs.declared.variable.BoundVariable.{BoundVariable}
use Rattle.rdo_bind.specs.declared.action.BoundPrintItem.{BoundPrintItem}
use Rattle.rdo_bind.specs.Variables.{VariablePlace, kinds_of, first_of, behind, located_variable, IsVariable}
use Rattle.rdo_bind.specs.Acting.{written_item}
use Rattle.rdo_acts.specs.declared.stop.Refusal.{Refusal}
use Rattle.rdo_acts.specs.declared.stop.Refusal.TheVariants.{Overflow, TooLong, Duplicate, Unwritten}
use Rattle.rdo_acts.specs.Printing.{values_line, IsNoLine}

-- ---- value by value

pub kind_there : (kinds : List FieldType) (i : ℕ) → i < length kinds → None ≡ slice_get kinds i → ⊥
kind_there [] i within none = absurd (omega (arith, within))
kind_there (k ∷ ks) i within none = none-some (get_or (k ∷ ks) i k) (none ∙ slice_get-get_or (k ∷ ks) i k within)

pub kind_within : (kinds : List FieldType) (i : ℕ) (kind : FieldType) → Some kind ≡ slice_get kinds i → i < length kinds
kind_within kinds i kind there = slice_get_within kinds i kind (sym there)

pub kind_read : (kinds : List FieldType) (i : ℕ) (kind : FieldType) → Some kind ≡ slice_get kinds i → kind ≡ get_or kinds i kind
kind_read kinds i kind there = sym (get_or_from_slice_get kinds i kind kind (sym there))

pub value_more : (kinds : List FieldType) (i : ℕ) (kind : FieldType) (place : ℕ) (values : Row) (before after : List Scaled) (v : Scaled) → i < length kinds → kind ≡ get_or kinds i kind → after ≡ before ++ v ∷ [] → v ≡ scaled_if kind (slice_get values (place + i))
    → values_line kinds place values ≡ before ++ values_line (drop i kinds) (place + i) values → values_line kinds place values ≡ after ++ values_line (drop (i + 1) kinds) (place + (i + 1)) values
value_more kinds i kind place values before after v within read pushed is so =
    let rest = drop (i + 1) kinds in
    let next : place + i + 1 ≡ place + (i + 1) = omega arith in
    so ∙ ap (λ (l : List Scaled). before ++ l) (at_drop_more (λ (l : List FieldType). values_line l (place + i) values) kinds i kind within ∙ ap (λ (k : FieldType). values_line (k ∷ rest) (place + i) values) (sym read))
    ∙ ap (λ (x : Scaled). before ++ x ∷ values_line rest (place + i + 1) values) (sym is)
    ∙ ap (λ (n : ℕ). before ++ v ∷ values_line rest n values) next
    ∙ sym (append_assoc before (v ∷ []) (values_line rest (place + (i + 1)) values))
    ∙ ap (λ (l : List Scaled). l ++ values_line rest (place + (i + 1)) values) (sym pushed)

pub values_done : (kinds : List FieldType) (i place : ℕ) (values : Row) (l : List Scaled) → length kinds ≤ i → values_line kinds place values ≡ l ++ values_line (drop i kinds) (place + i) values → l ≡ values_line kinds place values
values_done kinds i place values l all so = sym (so ∙ at_drop_all (λ (ks : List FieldType). l ++ values_line ks (place + i) values) kinds i all ∙ append-nil l)

pub values_begin : (kinds : List FieldType) (place : ℕ) (values : Row) (l : List Scaled) → l ≡ [] → values_line kinds place values ≡ l ++ values_line kinds (place + 0) values
values_begin kinds place values l none = ap (λ (n : ℕ). values_line kinds n values) (sym (add-zero place)) ∙ ap (λ (x : List Scaled). x ++ values_line kinds (place + 0) values) (sym none)

-- ---- the values of a variable stand from its place on

-- two rows have the same values for a line, from these places on
abbrev AreAlike : ℕ → ℕ → ℕ → Row → Row → Type 0
AreAlike count m n xs ys = (k : ℕ) → k < count → (kind : FieldType) → scaled_if kind (slice_get xs (m + k)) ≡ scaled_if kind (slice_get ys (n + k))

alike_line : (kinds : List FieldType) (m n : ℕ) (xs ys : Row) → AreAlike (length kinds) m n xs ys → values_line kinds m xs ≡ values_line kinds n ys
alike_line [] m n xs ys alike = refl
alike_line (kind ∷ kinds) m n xs ys alike =
    let head : scaled_if kind (slice_get xs m) ≡ scaled_if kind (slice_get ys n) =
    ap (λ (x : ℕ). scaled_if kind (slice_get xs x)) (sym (add-zero m)) ∙ alike 0 (omega arith) kind ∙ ap (λ (x : ℕ). scaled_if kind (slice_get ys x)) (add-zero n) in
    let tail : values_line kinds (m + 1) xs ≡ values_line kinds (n + 1) ys =
    alike_line kinds (m + 1) (n + 1) xs ys (λ k within other.
    let left : m + 1 + k ≡ m + (k + 1) = omega arith in
    let right : n + (k + 1) ≡ n + 1 + k = omega arith in
    ap (λ (x : ℕ). scaled_if other (slice_get xs x)) left ∙ alike (k + 1) (omega (arith, within)) other ∙ ap (λ (x : ℕ). scaled_if other (slice_get ys x)) right) in
    ap (λ (x : Scaled). x ∷ values_line kinds (m + 1) xs) head ∙ ap (λ (l : List Scaled). scaled_if kind (slice_get ys n) ∷ l) tail

field_values : (fields : List Field) (n : ℕ) (row : Row) → row_line_from n fields row ≡ values_line (kinds_of fields) n row
field_values [] n row = refl
field_values (f ∷ fs) n row = ap (λ (l : List Scaled). scaled_if f.kind (slice_get row n) ∷ l) (field_values fs (n + 1) row)

own_alike : (fields : List Field) (row rest : Row) (k : ℕ) → k < length fields → (kind : FieldType) → scaled_if kind (slice_get row k) ≡ scaled_if kind (slice_get (values_of fields row ++ rest) k)
own_alike [] row rest k within kind = absurd (omega (arith, within))
own_alike (f ∷ fs) [] rest zero within kind = refl
own_alike (f ∷ fs) [] rest (suc k) within kind = own_alike fs [] rest k (omega (arith, within)) kind
own_alike (f ∷ fs) (v ∷ row) rest zero within kind = refl
own_alike (f ∷ fs) (v ∷ row) rest (suc k) within kind = own_alike fs row rest k (omega (arith, within)) kind

length-kinds : (fields : List Field) → length (kinds_of fields) ≡ length fields
length-kinds [] = refl
length-kinds (f ∷ fs) = ap suc (length-kinds fs)

length-values : (fields : List Field) (row : Row) → length (values_of fields row) ≡ length fields
length-values [] row = refl
length-values (f ∷ fs) [] = ap suc (length-values fs [])
length-values (f ∷ fs) (v ∷ row) = ap suc (length-values fs row)

shifted : (front rest : Row) (n k : ℕ) → n ≡ length front + k → slice_get rest k ≡ slice_get (front ++ rest) n
shifted [] rest n k is = let same : k ≡ n = omega (arith, is) in ap (slice_get rest) same
shifted (v ∷ vs) rest zero k is = absurd (omega (arith, is))
shifted (v ∷ vs) rest (suc n) k is = shifted vs rest n k (omega (arith, is))

own_line : (fields : List Field) (row rest : Row) → row_line_from 0 fields row ≡ values_line (kinds_of fields) 0 (values_of fields row ++ rest)
own_line fields row rest =
    field_values fields 0 row
    ∙ alike_line (kinds_of fields) 0 0 row (values_of fields row ++ rest) (λ k within kind.
    let below : k < length fields = omega (arith, within, length-kinds fields) in
    let same : 0 + k ≡ k = omega arith in
    ap (λ (x : ℕ). scaled_if kind (slice_get row x)) same ∙ own_alike fields row rest k below kind ∙ ap (λ (x : ℕ). scaled_if kind (slice_get (values_of fields row ++ rest) x)) (sym same))

bound_line : (fields : List Field) (o : Option Row) (rest : Row) → fields_line fields o ≡ values_line (kinds_of fields) 0 (values_of fields (row_or_none o) ++ rest)
bound_line fields (Some row) rest = own_line fields row rest
bound_line fields None rest = own_line fields [] rest

module _ (t : Tables) (n : Name) where
  abbrev located : Scope → Option VariablePlace
  located scope = located_variable n t (variables_of scope)

  abbrev shows : Option Binding → VariablePlace → Row → Type 0
  shows b p row = binding_line t b ≡ values_line p.kinds p.place row

  later : (own rest : Row) (width : ℕ) (p : VariablePlace) (b : Option Binding) → length own ≡ width → shows b p rest → shows b (behind 1 width p) (own ++ rest)
  later own rest width p b wide is =
      is
      ∙ alike_line p.kinds p.place (width + p.place) rest (own ++ rest) (λ k within kind.
      let far : width + p.place + k ≡ length own + (p.place + k) = omega (arith, wide) in
      ap (scaled_if kind) (shifted own rest (width + p.place + k) (p.place + k) far))

  found_later : (own rest : Row) (width : ℕ) (o : Option VariablePlace) (p : VariablePlace) (b : Option Binding) → length own ≡ width → ((q : VariablePlace) → o ≡ Some q → shows b q rest) → option_map (behind 1 width) o ≡ Some p → shows b p (own ++ rest)
  found_later own rest width None p b wide each is = absurd (none-some p is)
  found_later own rest width (Some q) p b wide each is = subst (λ (x : VariablePlace). shows b x (own ++ rest)) (same_Some (behind 1 width q) p is) (later own rest width q b wide (each q refl))

  variable_line : (scope : Scope) (p : VariablePlace) → located scope ≡ Some p → shows (bound_as n scope) p (row_of t scope)
  variable_line [] p is = absurd (none-some p is)
  variable_line (b ∷ scope) p is =
      let fields = fields_of (relation_named b.relation t) in
      let own = values_of fields (row_or_none (row_now t b)) in
      elim (same_name n b.variable) as (λ same. (if same then Some (first_of fields) else option_map (behind 1 (length fields)) (located scope)) ≡ Some p → shows (cond same (Some b) (bound_as n scope)) p (own ++ row_of t scope)) [
        | true ↦ λ h. subst (λ (x : VariablePlace). shows (Some b) x (own ++ row_of t scope)) (same_Some (first_of fields) p h) (bound_line fields (row_now t b) (row_of t scope))
        | false ↦ λ h. found_later own (row_of t scope) (length fields) (located scope) p (bound_as n scope) (length-values fields (row_or_none (row_now t b))) (variable_line scope) h
      ] is

-- the values of a variable that is bound
pub fields_printed : (t : Tables) (scope : Scope) (v : BoundVariable) (values : Row) (l : List Scaled) → IsVariable t (variables_of scope) v → row_of t scope ≡ values → l ≡ values_line v.kinds v.place values → line (binding_line t (bound_as v.variable scope)) ≡ line l
fields_printed t scope v values l is same printed =
    ap line (variable_line t v.variable scope (record { number = v.number; place = v.place; kinds = v.kinds }) is ∙ ap (values_line v.kinds v.place) same ∙ sym printed)

-- ---- item by item

joined_assoc : (vs ws : List Scaled) (l : Line) → joined (line (vs ++ ws)) l ≡ joined (line vs) (joined (line ws) l)
joined_assoc vs ws (line xs) = ap line (append_assoc vs ws xs)
joined_assoc vs ws no_line = refl

joined_nothing : (l : Line) → joined (line []) l ≡ l
joined_nothing (line xs) = refl
joined_nothing no_line = refl

-- where a piece is no line, there is none
pub no_piece : (refusal : Refusal) (vs : List Scaled) (piece rest : Line) → IsNoLine refusal piece → IsNoLine refusal (joined (line vs) (joined piece rest))
no_piece Overflow vs piece rest is = ap (λ (l : Line). joined (line vs) (joined l rest)) is
no_piece TooLong vs piece rest is = absurd is
no_piece (Duplicate name) vs piece rest is = absurd is
no_piece (Unwritten reason) vs piece rest is = absurd is

module _ (items : List BoundPrintItem) (t : Tables) (scope : Scope) where
  abbrev pub whole : Line
  whole = printed (map written_item items) t scope

  abbrev pub from : ℕ → Line
  from i = printed (map written_item (drop i items)) t scope

  pub none_printed : (vs : List Scaled) → vs ≡ [] → whole ≡ joined (line vs) whole
  none_printed vs none = sym (ap (λ (l : List Scaled). joined (line l) whole) none ∙ joined_nothing whole)

  pub all_printed : (i : ℕ) (vs : List Scaled) → length items ≤ i → whole ≡ joined (line vs) (from i) → whole ≡ line vs
  all_printed i vs all so = so ∙ at_drop_all (λ (l : List BoundPrintItem). joined (line vs) (printed (map written_item l) t scope)) items i all ∙ ap line (append-nil vs)

  module _ (i : ℕ) (x : BoundPrintItem) (vs : List Scaled) (within : i < length items) (read : x ≡ get_or items i x) (so : whole ≡ joined (line vs) (from i)) where
    next : whole ≡ joined (line vs) (joined (item_line (written_item x) t scope) (from (i + 1)))
    next =
        so ∙ ap (joined (line vs))
        (at_drop_more (λ (l : List BoundPrintItem). printed (map written_item l) t scope) items i x within ∙ ap (λ (y : BoundPrintItem). joined (item_line (written_item y) t scope) (from (i + 1))) (sym read))

    pub item_printed : (ws after : List Scaled) → after ≡ vs ++ ws → item_line (written_item x) t scope ≡ line ws → whole ≡ joined (line after) (from (i + 1))
    item_printed ws after behind is =
        next ∙ ap (λ (l : Line). joined (line vs) (joined l (from (i + 1)))) is ∙ sym (joined_assoc vs ws (from (i + 1)))
        ∙ ap (λ (l : List Scaled). joined (line l) (from (i + 1))) (sym behind)

    pub item_refused : (refusal : Refusal) → IsNoLine refusal (item_line (written_item x) t scope) → IsNoLine refusal whole
    item_refused refusal is = subst (IsNoLine refusal) (sym next) (no_piece refusal vs (item_line (written_item x) t scope) (from (i + 1)) is)
