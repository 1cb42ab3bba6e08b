-- A reference is located by going through the variables from the outermost on, and it is located exactly where its names stand for something.
use Rattle.std.proofs.Common.{◌≡◌, ℕ, ◌+◌, ◌<◌, ◌≤◌, Bool, true, false, if◌then◌else◌, List, [], ◌∷◌, length, get_or, drop, Err, Option, Some, None, option_map, option_and_then, refl, ap, sym, ◌∙◌, add_assoc, zero-add}
use Rattle.std.proofs.lemmas.List.{at_drop_more, at_drop_all}
use Rattle.rdb_types.specs.declared.values.Field.{Field}
use Rattle.rdo_ast.specs.declared.syntax.Reference.{Reference}
use Rattle.rdo_ast.specs.declared.reply.Reply.TheVariants.{NoSuch}
use Rattle.rdb_meaning.specs.declared.tables.Tables.{Tables}
use Rattle.rdb_meaning.specs.declared.scope.Binding.{Binding}
use Rattle.rdb_meaning.specs.Contents.{same_name, relation_named, fields_of, place_of}
use Rattle.rdb_meaning.specs.Evaluation.{bound_as, field_in, referred}
use Rattle.rdb_meaning.specs.Checks.{Refusal, or_else, needs_some, reference_names}
use Rattle.rdb_checks.specs.declared.stop.Stop.{Stop}
use Rattle.rdb_checks.specs.declared.stop.Stop.TheVariants.{Refused, Memory}
use Rattle.rdb_checks.specs.Answers.{Finds}
use Rattle.rdo_bind.specs.Answers.{Refuses}
use Rattle.rdo_values.specs.Rows.{variables_of}
use Rattle.rdo_values.specs.Places.{Place, place_of_field, behind, located}

-- ---- one variable after the other

abbrev pub located_from : Tables → Reference → List Binding → Option Place
located_from t r scope = located r t (variables_of scope)

abbrev pub fields_in : Tables → Binding → List Field
fields_in t b = fields_of (relation_named b.relation t)

behind_none : (p : Place) → p ≡ behind 0 p
behind_none p = λ i. record { place = sym (zero-add p.place) i; kind = p.kind }

pub located_first : (o : Option Place) → o ≡ option_map (behind 0) o
located_first None = refl
located_first (Some p) = ap Some (behind_none p)

behind_both : (n w : ℕ) (o : Option Place) → option_map (behind n) (option_map (behind w) o) ≡ option_map (behind (n + w)) o
behind_both n w None = refl
behind_both n w (Some p) = λ i. Some (record { place = sym (add_assoc n w p.place) i; kind = p.kind })

pub at_item : {Y : Type 0} (F : List Binding → Y) (xs : List Binding) (i : ℕ) (x : Binding) → i < length xs → x ≡ get_or xs i x → F (drop i xs) ≡ F (x ∷ drop (i + 1) xs)
at_item F xs i x h e = at_drop_more F xs i x h ∙ ap (λ y. F (y ∷ drop (i + 1) xs)) (sym e)

pub located_own : (t : Tables) (r : Reference) (scope : List Binding) (i : ℕ) (b : Binding) (total : Option Place) (n : ℕ) → i < length scope → b ≡ get_or scope i b → total ≡ option_map (behind n) (located_from t r (drop i scope)) → same_name r.variable b.variable ≡ true → total ≡ option_map (behind n) (option_map place_of_field (place_of r.field (fields_in t b)))
located_own t r scope i b total n h e inv same =
    inv ∙ at_item (λ s. option_map (behind n) (located_from t r s)) scope i b h e
    ∙ ap (λ v. option_map (behind n) (if v then option_map place_of_field (place_of r.field (fields_in t b)) else option_map (behind (length (fields_in t b))) (located_from t r (drop (i + 1) scope)))) same

pub located_later : (t : Tables) (r : Reference) (scope : List Binding) (i : ℕ) (b : Binding) (total : Option Place) (n m : ℕ) → i < length scope → b ≡ get_or scope i b → total ≡ option_map (behind n) (located_from t r (drop i scope)) → same_name r.variable b.variable ≡ false → m ≡ n + length (fields_in t b) → total ≡ option_map (behind m) (located_from t r (drop (i + 1) scope))
located_later t r scope i b total n m h e inv same sum =
    inv ∙ at_item (λ s. option_map (behind n) (located_from t r s)) scope i b h e
    ∙ ap (λ v. option_map (behind n) (if v then option_map place_of_field (place_of r.field (fields_in t b)) else option_map (behind (length (fields_in t b))) (located_from t r (drop (i + 1) scope)))) same
    ∙ behind_both n (length (fields_in t b)) (located_from t r (drop (i + 1) scope))
    ∙ ap (λ m. option_map (behind m) (located_from t r (drop (i + 1) scope))) (sym sum)

pub located_nowhere : (t : Tables) (r : Reference) (scope : List Binding) (i : ℕ) (total : Option Place) (n : ℕ) → length scope ≤ i → total ≡ option_map (behind n) (located_from t r (drop i scope)) → total ≡ None
located_nowhere t r scope i total n h inv = inv ∙ at_drop_all (λ s. option_map (behind n) (located_from t r s)) scope i h

-- ---- names

none_before : {A B : Type 0} (f : A → B) (o : Option A) → option_map f o ≡ None → o ≡ None
none_before f None e = refl
none_before f (Some x) e = cc

unnamed_step : (same : Bool) (t : Tables) (r : Reference) (b : Binding) (w : ℕ) (rest : Option Place) (found : Option Binding) → (rest ≡ None → option_and_then (field_in r.field t) found ≡ None) → (if same then option_map place_of_field (place_of r.field (fields_in t b)) else option_map (behind w) rest) ≡ None → option_and_then (field_in r.field t) (if same then Some b else found) ≡ None
unnamed_step true t r b w rest found later h = none_before place_of_field (place_of r.field (fields_in t b)) h
unnamed_step false t r b w rest found later h = later (none_before (behind w) rest h)

unnamed : (t : Tables) (r : Reference) (scope : List Binding) → located_from t r scope ≡ None → referred r t scope ≡ None
unnamed t r [] h = refl
unnamed t r (b ∷ scope) h = unnamed_step (same_name r.variable b.variable) t r b (length (fields_in t b)) (located_from t r scope) (bound_as r.variable scope) (unnamed t r scope) h

pub names_unlocated : (t : Tables) (r : Reference) (scope : List Binding) → located_from t r scope ≡ None → reference_names r t scope ≡ or_else (needs_some r.variable (bound_as r.variable scope)) (Some (NoSuch r.field))
names_unlocated t r scope h = ap (λ o. or_else (needs_some r.variable (bound_as r.variable scope)) (needs_some r.field o)) (unnamed t r scope h)

abbrev Found : Option (ℕ × Field) → Type 0
Found o = (q : ℕ × Field) × (o ≡ Some q)

found_before : {B : Type 0} (f : ℕ × Field → B) (o : Option (ℕ × Field)) (p : B) → option_map f o ≡ Some p → Found o
found_before f None p e = cc
found_before f (Some q) p e = (q, refl)

named_step : (same : Bool) (t : Tables) (r : Reference) (b : Binding) (w : ℕ) (rest : Option Place) (found : Option Binding) (p : Place) → ((q : Place) → rest ≡ Some q → Found (option_and_then (field_in r.field t) found)) → (if same then option_map place_of_field (place_of r.field (fields_in t b)) else option_map (behind w) rest) ≡ Some p → Found (option_and_then (field_in r.field t) (if same then Some b else found))
named_step true t r b w rest found p later h = found_before place_of_field (place_of r.field (fields_in t b)) p h
named_step false t r b w None found p later h = cc
named_step false t r b w (Some q) found p later h = later q refl

named : (t : Tables) (r : Reference) (scope : List Binding) (p : Place) → located_from t r scope ≡ Some p → Found (referred r t scope)
named t r [] p h = cc
named t r (b ∷ scope) p h = named_step (same_name r.variable b.variable) t r b (length (fields_in t b)) (located_from t r scope) (bound_as r.variable scope) p (named t r scope) h

both_named : (t : Tables) (r : Reference) (bound : Option Binding) → Found (option_and_then (field_in r.field t) bound) → or_else (needs_some r.variable bound) (needs_some r.field (option_and_then (field_in r.field t) bound)) ≡ None
both_named t r None h = let e = h.1 in cc
both_named t r (Some b) h = ap (needs_some r.field) h.1

pub names_located : (t : Tables) (r : Reference) (scope : List Binding) (p : Place) → located_from t r scope ≡ Some p → reference_names r t scope ≡ None
names_located t r scope p h = both_named t r (bound_as r.variable scope) (named t r scope p h)

-- ---- refusals

pub refused_as : (A : Type 0) (stop : Stop) (a b : Refusal) → Refuses stop a → b ≡ a → Finds {A = A} (Err stop) b
refused_as A (Refused reply) a b h e = e ∙ h
refused_as A Memory a b h e = tt
