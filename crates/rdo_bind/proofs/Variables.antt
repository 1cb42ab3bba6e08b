-- A variable is located by going through the variables from the outermost on, and it is located exactly where it is bound.
use Rattle.std.proofs.Common.{◌≡◌, ℕ, ◌+◌, ◌<◌, ◌≤◌, Bool, true, false, if◌then◌else◌, List, [], ◌∷◌, length, get_or, drop, Option, Some, None, option_map, refl, ap, sym, ◌∙◌, add_assoc, zero-add}
use Rattle.std.proofs.lemmas.List.{at_drop_all}
use Rattle.rdo_ast.specs.Tree.{Name}
use Rattle.rdb_meaning.specs.declared.tables.Tables.{Tables}
use Rattle.rdb_meaning.specs.declared.scope.Binding.{Binding}
use Rattle.rdb_meaning.specs.Contents.{same_name}
use Rattle.rdb_meaning.specs.Evaluation.{bound_as}
use Rattle.rdb_meaning.specs.Checks.{needs_some}
use Rattle.rdo_ast.specs.declared.reply.Reply.TheVariants.{NoSuch}
use Rattle.rdo_values.specs.Rows.{variables_of}
use Rattle.rdo_bind.specs.Variables.{VariablePlace, first_of, behind, located_variable}
use Rattle.rdo_bind.proofs.Locating.{fields_in, at_item}

abbrev pub variable_from : Tables → Name → List Binding → Option VariablePlace
variable_from t n scope = located_variable n t (variables_of scope)

behind_none : (p : VariablePlace) → p ≡ behind 0 0 p
behind_none p = λ i. record { number = sym (zero-add p.number) i; place = sym (zero-add p.place) i; kinds = p.kinds }

pub variable_first : (o : Option VariablePlace) → o ≡ option_map (behind 0 0) o
variable_first None = refl
variable_first (Some p) = ap Some (behind_none p)

behind_both : (n w m v : ℕ) (o : Option VariablePlace) → option_map (behind n w) (option_map (behind m v) o) ≡ option_map (behind (n + m) (w + v)) o
behind_both n w m v None = refl
behind_both n w m v (Some p) = λ i. Some (record { number = sym (add_assoc n m p.number) i; place = sym (add_assoc w v p.place) i; kinds = p.kinds })

pub variable_own : (t : Tables) (n : Name) (scope : List Binding) (i : ℕ) (b : Binding) (total : Option VariablePlace) (w : ℕ) → i < length scope → b ≡ get_or scope i b → total ≡ option_map (behind i w) (variable_from t n (drop i scope)) → same_name n b.variable ≡ true → total ≡ Some (behind i w (first_of (fields_in t b)))
variable_own t n scope i b total w h e inv same =
    inv ∙ at_item (λ s. option_map (behind i w) (variable_from t n s)) scope i b h e
    ∙ ap (λ v. option_map (behind i w) (if v then Some (first_of (fields_in t b)) else option_map (behind 1 (length (fields_in t b))) (variable_from t n (drop (i + 1) scope)))) same

pub variable_later : (t : Tables) (n : Name) (scope : List Binding) (i : ℕ) (b : Binding) (total : Option VariablePlace) (w m : ℕ) → i < length scope → b ≡ get_or scope i b → total ≡ option_map (behind i w) (variable_from t n (drop i scope)) → same_name n b.variable ≡ false → m ≡ w + length (fields_in t b) → total ≡ option_map (behind (i + 1) m) (variable_from t n (drop (i + 1) scope))
variable_later t n scope i b total w m h e inv same sum =
    inv ∙ at_item (λ s. option_map (behind i w) (variable_from t n s)) scope i b h e
    ∙ ap (λ v. option_map (behind i w) (if v then Some (first_of (fields_in t b)) else option_map (behind 1 (length (fields_in t b))) (variable_from t n (drop (i + 1) scope)))) same
    ∙ behind_both i w 1 (length (fields_in t b)) (variable_from t n (drop (i + 1) scope))
    ∙ ap (λ m. option_map (behind (i + 1) m) (variable_from t n (drop (i + 1) scope))) (sym sum)

pub variable_nowhere : (t : Tables) (n : Name) (scope : List Binding) (i : ℕ) (total : Option VariablePlace) (w : ℕ) → length scope ≤ i → total ≡ option_map (behind i w) (variable_from t n (drop i scope)) → total ≡ None
variable_nowhere t n scope i total w h inv = inv ∙ at_drop_all (λ s. option_map (behind i w) (variable_from t n s)) scope i h

-- ---- names

unbound_step : (same : Bool) (first : VariablePlace) (w : ℕ) (rest : Option VariablePlace) (n : Name) (b : Binding) (found : Option Binding) → (rest ≡ None → needs_some n found ≡ Some (NoSuch n)) → (if same then Some first else option_map (behind 1 w) rest) ≡ None → needs_some n (if same then Some b else found) ≡ Some (NoSuch n)
unbound_step true first w rest n b found later h = cc
unbound_step false first w None n b found later h = later refl
unbound_step false first w (Some p) n b found later h = cc

pub unbound : (t : Tables) (n : Name) (scope : List Binding) → variable_from t n scope ≡ None → needs_some n (bound_as n scope) ≡ Some (NoSuch n)
unbound t n [] h = refl
unbound t n (b ∷ scope) h = unbound_step (same_name n b.variable) (first_of (fields_in t b)) (length (fields_in t b)) (variable_from t n scope) n b (bound_as n scope) (unbound t n scope) h

bound_step : (same : Bool) (first : VariablePlace) (w : ℕ) (rest : Option VariablePlace) (p : VariablePlace) (n : Name) (b : Binding) (found : Option Binding) → ((q : VariablePlace) → rest ≡ Some q → needs_some n found ≡ None) → (if same then Some first else option_map (behind 1 w) rest) ≡ Some p → needs_some n (if same then Some b else found) ≡ None
bound_step true first w rest p n b found later h = refl
bound_step false first w None p n b found later h = cc
bound_step false first w (Some q) p n b found later h = later q refl

pub bound : (t : Tables) (n : Name) (scope : List Binding) (p : VariablePlace) → variable_from t n scope ≡ Some p → needs_some n (bound_as n scope) ≡ None
bound t n [] p h = cc
bound t n (b ∷ scope) p h = bound_step (same_name n b.variable) (first_of (fields_in t b)) (length (fields_in t b)) (variable_from t n scope) p n b (bound_as n scope) (bound t n scope) h
