-- The longest key by positions is that by the names of the fields.
use Rattle.std.proofs.Common.{◌≡◌, ℕ, ◌+◌, true, false, cond, List, [], ◌∷◌, ◌++◌, length, Option, Some, None, refl, sym, ap, ◌∙◌, arith, length-append}
use Rattle.std.specs.Prelude.{slice_get}
use Rattle.std.specs.List.{cons_option}
use Rattle.std.proofs.lemmas.List.{append_assoc}
use Rattle.std.proofs.lemmas.List.Sums.{sum_by-cons}
use Rattle.rdb_types.specs.declared.values.Field.{Field}
use Rattle.rdo_ast.specs.Tree.{Name}
use Rattle.rdb_meaning.specs.Contents.{same_name, place_from, place_of}
use Rattle.rdb_meaning.specs.Defining.{place_number, positions_of, longest_field, longest_at, longest_key as longest_of_names}
use Rattle.sound_lines.specs.Sound.{longest_in, longest_key}

abbrev longest_if : List Field → Option ℕ → ℕ
longest_if fields (Some p) = longest_in (slice_get fields p)
longest_if fields None = 0

behind : (before : List Field) (f : Field) (fs : List Field) → slice_get (before ++ f ∷ fs) (length before) ≡ Some f
behind [] f fs = refl
behind (b ∷ bs) f fs = behind bs f fs

at_place : (name : Name) (fields before fs : List Field) (n : ℕ) → fields ≡ before ++ fs → n ≡ length before → longest_if fields (place_number (place_from n name fs)) ≡ longest_field (place_from n name fs)
at_place name fields before [] n whole at = refl
at_place name fields before (f ∷ fs) n whole at =
    elim (same_name name f.name) as (λ b. longest_if fields (place_number (cond b (Some (n, f)) (place_from (n + 1) name fs))) ≡ longest_field (cond b (Some (n, f)) (place_from (n + 1) name fs))) [
      | true ↦ ap longest_in (ap (slice_get fields) at ∙ (ap (λ (l : List Field). slice_get l (length before)) whole ∙ behind before f fs))
      | false ↦ at_place name fields (before ++ f ∷ []) fs (n + 1) (whole ∙ sym (append_assoc before (f ∷ []) fs)) (omega (arith, at, length-append before (f ∷ [])))
    ]

one_more : (fields : List Field) (o : Option ℕ) (rest : List ℕ) → longest_key (cons_option o rest) fields ≡ longest_if fields o + longest_key rest fields
one_more fields None rest = omega arith
one_more fields (Some p) rest = sum_by-cons (λ q. longest_in (slice_get fields q)) p rest

pub of_names : (names : List Name) (fields : List Field) → longest_key (positions_of names fields) fields ≡ longest_of_names names fields
of_names [] fields = refl
of_names (n ∷ ns) fields =
    one_more fields (place_number (place_of n fields)) (positions_of ns fields)
    ∙ ((λ i. at_place n fields [] fields 0 refl refl i + of_names ns fields i)
    ∙ sym (sum_by-cons (longest_at fields) n ns))
