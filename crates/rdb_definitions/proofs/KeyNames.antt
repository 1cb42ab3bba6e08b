-- The names of an index's fields, one at a time.
use Rattle.std.proofs.Common.{◌≡◌, ℕ, ◌+◌, ◌<◌, Bool, List, [], ◌∷◌, length, reverse, take, drop, get_or, if◌then◌else◌, Some, None, sym, ap, ◌∙◌}
use Rattle.std.proofs.lemmas.List.{at_drop_more, take_more, reverse-append}
use Rattle.std.proofs.lemmas.List.Sorted.{IsPermutation-reverse, list_any-IsPermutation}
use Rattle.rdb_types.specs.declared.values.Field.{Field}
use Rattle.rdo_ast.specs.declared.reply.Reply.TheVariants.{Exists}
use Rattle.rdo_ast.specs.Tree.{Name}
use Rattle.rdb_checks.specs.rdb_meaning.Contents.{same_name, place_of}
use Rattle.rdb_checks.specs.rdb_meaning.Checks.{or_else, needs_some}
use Rattle.rdb_checks.specs.rdb_meaning.Defining.{is_among, index_fields_names}

is_among-reverse : (n : Name) (ns : List Name) → is_among n (reverse ns) ≡ is_among n ns
is_among-reverse n ns = sym (list_any-IsPermutation (same_name n) ns (reverse ns) (IsPermutation-reverse ns))

-- what stands after a name that is there: a refusal where it was named before, else what the others give
module _ (ns : List Name) (fields : List Field) (i : ℕ) (n : Name) (h : i < length ns) (is : n ≡ get_or ns i n) (there : needs_some n (place_of n fields) ≡ None) where
  one_more : n ∷ reverse (take i ns) ≡ reverse (take (i + 1) ns)
  one_more = ap (λ x. x ∷ reverse (take i ns)) is ∙ sym (ap reverse (take_more ns i n h) ∙ reverse-append (take i ns) (get_or ns i n ∷ []))

  pub index_fields_names_more : (again : Bool) → is_among n (take i ns) ≡ again → index_fields_names (reverse (take i ns)) (drop i ns) fields ≡ or_else (if again then Some (Exists n) else None) (index_fields_names (reverse (take (i + 1) ns)) (drop (i + 1) ns) fields)
  index_fields_names_more again e =
      let before = reverse (take i ns) in
      let after = drop (i + 1) ns in
      at_drop_more (λ l. index_fields_names before l fields) ns i n h
      ∙ ap (λ x. index_fields_names before (x ∷ after) fields) (sym is)
      ∙ ap (λ r. or_else r (or_else (if is_among n before then Some (Exists n) else None) (index_fields_names (n ∷ before) after fields))) there
      ∙ ap (λ b. or_else (if b then Some (Exists n) else None) (index_fields_names (n ∷ before) after fields)) (is_among-reverse n (take i ns) ∙ e)
      ∙ ap (λ l. or_else (if again then Some (Exists n) else None) (index_fields_names l after fields)) one_more
