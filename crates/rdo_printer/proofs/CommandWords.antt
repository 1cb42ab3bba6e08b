-- What is printed of actions and statements is words.
use Rattle.std.proofs.Common.{ℕ, Bool, true, false, List, [], ◌∷◌, ◌++◌, refl, arith, ◌≤◌}
use Rattle.std.specs.List.{AllByRecursion, flat_map}
use Rattle.rdb_types.specs.declared.values.DataType.{DataType}
use Rattle.rdb_types.specs.declared.values.DataType.TheVariants as data_type
use Rattle.rdb_types.specs.declared.values.FieldType.{FieldType}
use Rattle.rdo_ast.specs.declared.syntax.SortKey.{SortKey}
use Rattle.rdo_ast.specs.declared.syntax.Clause.{Clause}
use Rattle.rdo_ast.specs.declared.syntax.Clause.TheVariants as clause
use Rattle.rdo_ast.specs.declared.syntax.Share.{Share}
use Rattle.rdo_ast.specs.declared.syntax.Share.TheVariants as share
use Rattle.rdo_ast.specs.declared.syntax.Reservation.{Reservation}
use Rattle.rdo_ast.specs.declared.syntax.DefinedType.{DefinedType}
use Rattle.rdo_ast.specs.declared.syntax.DefinedType.TheVariants as dtype
use Rattle.rdo_ast.specs.declared.syntax.FieldDefinition.{FieldDefinition}
use Rattle.rdo_ast.specs.declared.syntax.IndexDefinition.{IndexDefinition}
use Rattle.rdo_ast.specs.Tree.{Assignment, Shown, value, all_fields, Act, store, for_each, print, modify, erase, Acts, no_act, act, Command, invoke, start_read_only, start_read_write, commit, rollback, finish, back_up, perform, define_field, define_relation, define_index, delete_relation, delete_index}
use Rattle.rdo_tokens.specs.declared.token.Kind.{Kind}
use Rattle.rdo_tokens.specs.declared.token.Kind.TheVariants as k
use Rattle.rdo_tokens.specs.Lex.{Text}
use Rattle.rdo_parser.specs.Statements.{max_scale, max_text_size, max_backup}
use Rattle.rdo_printer.specs.Words.{Spelled, word, name_word, spelling_of}
use Rattle.rdo_printer.specs.Trees.{reference_words, range_words, expression_words, ranging_words}
use Rattle.rdo_printer.specs.Commands.{assign_words, assigns_words, shown_words, key_words, clause_words, action_words, body_words, reservation_words, reserving_words, integer_words, type_words, field_type_words, defined_words, field_words, index_field_words, duplicates_words, index_words, statement_words, command_words}
use Rattle.rdo_printer.specs.Printable.{IsName, IsReference, IsKey, AreItems, AreClauses, FitsAssign, FitsShown, FitsRanging, FitsAction, FitsActions, IsReservation, IsDataType, IsFieldType, IsDefinedType, IsFieldDefinition, IsIndexDefinition, IsPrintable}
use Rattle.rdo_printer.proofs.TokenLaws.{IsWord, AreWords, are_words-append, is_word, name_is_word, number_is_word, text_is_word}
use Rattle.rdo_printer.proofs.TreeWords.{inside, reference_spelled, range_spelled, separated_spelled, expression_spelled, ranging_spelled}

flat_spelled : {A : Type 0} (words : A → List Spelled) (P : A → Type 0) → ((x : A) → P x → AreWords (words x)) → (xs : List A) → AllByRecursion P xs → AreWords (flat_map words xs)
flat_spelled words P f [] h = tt
flat_spelled words P f (x ∷ xs) h = are_words-append (words x) (flat_map words xs) (f x h.0) (flat_spelled words P f xs h.1)

each : {A : Type 0} (P : A → Type 0) (xs : List A) → AreItems P xs → AllByRecursion P xs
each P [] h = absurd h
each P (x ∷ xs) h = h

-- ---- actions

assign_spelled : (levels : ℕ) (x : Assignment) → FitsAssign levels x → AreWords (assign_words x)
assign_spelled levels x h =
    are_words-append (reference_words x.left) (word k.Equal ∷ expression_words x.right ++ (word k.Semicolon ∷ [])) (reference_spelled x.left h.0)
    (is_word k.Equal refl, are_words-append (expression_words x.right) (word k.Semicolon ∷ []) (expression_spelled x.right levels false h.1) (is_word k.Semicolon refl, tt))

shown_spelled : (levels : ℕ) (x : Shown) → FitsShown levels x → AreWords (shown_words x)
shown_spelled levels (value x) h = expression_spelled x levels false h
shown_spelled levels (all_fields n) h = (name_is_word n h, (is_word k.Dot refl, (is_word k.Star refl, tt)))

key_by : (descending : Bool) (s : SortKey) → IsKey s → AreWords (key_words (record { descending = descending; reference = s.reference }))
key_by true s h = (is_word k.Descending refl, reference_spelled s.reference h)
key_by false s h = (is_word k.Ascending refl, reference_spelled s.reference h)

keys_spelled : (xs : List SortKey) → AreItems IsKey xs → AreWords (clause_words (clause.Sorted xs))
keys_spelled xs h = (is_word k.Sorted refl, (is_word k.By refl, separated_spelled k.Comma key_words IsKey (is_word k.Comma refl) (λ s f. key_by s.descending s f) xs h))

refs_spelled : (xs : _) → AreItems IsReference xs → AreWords (clause_words (clause.Reduced xs))
refs_spelled xs h = (is_word k.Reduced refl, (is_word k.To refl, separated_spelled k.Comma reference_words IsReference (is_word k.Comma refl) reference_spelled xs h))

clauses_spelled : (cs : List Clause) → AreClauses cs → AreWords (flat_map clause_words cs)
clauses_spelled [] h = tt
clauses_spelled (clause.Sorted keys ∷ []) h = are_words-append (clause_words (clause.Sorted keys)) [] (keys_spelled keys h) tt
clauses_spelled (clause.Reduced refs ∷ []) h = are_words-append (clause_words (clause.Reduced refs)) [] (refs_spelled refs h) tt
clauses_spelled (clause.Sorted keys ∷ clause.Reduced refs ∷ []) h =
    are_words-append (clause_words (clause.Sorted keys)) (clause_words (clause.Reduced refs) ++ []) (keys_spelled keys h.0) (are_words-append (clause_words (clause.Reduced refs)) [] (refs_spelled refs h.1) tt)
clauses_spelled (clause.Reduced refs ∷ clause.Sorted keys ∷ []) h =
    are_words-append (clause_words (clause.Reduced refs)) (clause_words (clause.Sorted keys) ++ []) (refs_spelled refs h.0) (are_words-append (clause_words (clause.Sorted keys)) [] (keys_spelled keys h.1) tt)
clauses_spelled cs h = absurd h

assigns_spelled : (levels : ℕ) (xs : List Assignment) → AllByRecursion (FitsAssign levels) xs → (end : Kind) → IsWord end (spelling_of end) → AreWords (assigns_words xs ++ (word end ∷ []))
assigns_spelled levels xs h end e = are_words-append (assigns_words xs) (word end ∷ []) (flat_spelled assign_words (FitsAssign levels) (λ x f. assign_spelled levels x f) xs h) (e, tt)

mutual
  pub action_spelled : (x : Act) (levels : ℕ) (nested : Bool) → FitsAction x levels nested → AreWords (action_words x)
  action_spelled (store into xs) levels nested h =
      (is_word k.Store refl, are_words-append (range_words into) (word k.Using ∷ assigns_words xs ++ (word k.EndStore ∷ [])) (range_spelled into h.0) (is_word k.Using refl, assigns_spelled levels xs h.1 k.EndStore (is_word k.EndStore refl)))
  action_spelled (for_each over cs body) levels nested h =
      inside levels (λ i. FitsRanging over i × AreClauses cs × FitsActions body i) h (λ i f. (
        is_word k.For refl,
        are_words-append (ranging_words over) (flat_map clause_words cs ++ body_words body) (ranging_spelled over i f.0)
            (are_words-append (flat_map clause_words cs) (body_words body) (clauses_spelled cs f.1) (body_spelled body i f.2)),
      ))
  action_spelled (print items) levels nested h = (is_word k.Print refl, separated_spelled k.Comma shown_words (FitsShown levels) (is_word k.Comma refl) (λ x f. shown_spelled levels x f) items h)
  action_spelled (modify n xs) levels nested h = (is_word k.Modify refl, (name_is_word n h.1, (is_word k.Using refl, assigns_spelled levels xs h.2 k.EndModify (is_word k.EndModify refl))))
  action_spelled (erase n) levels nested h = (is_word k.Erase refl, (name_is_word n h.1, tt))

  body_spelled : (xs : Acts) (levels : ℕ) → FitsActions xs levels → AreWords (body_words xs)
  body_spelled no_act levels h = (is_word k.EndFor refl, tt)
  body_spelled (act x xs) levels h = are_words-append (action_words x) (word k.Dot ∷ body_words xs) (action_spelled x levels true h.0) (is_word k.Dot refl, body_spelled xs levels h.1)

-- ---- statements

reservation_by : (mode : Share) (write : Bool) (n : Text) → IsName n → AreWords (reservation_words (record { relation = n; share = mode; writes = write }))
reservation_by share.Shared true n h = (name_is_word n h, (is_word k.For refl, (is_word k.Shared refl, (is_word k.Write refl, tt))))
reservation_by share.Shared false n h = (name_is_word n h, (is_word k.For refl, (is_word k.Shared refl, (is_word k.Read refl, tt))))
reservation_by share.Protected true n h = (name_is_word n h, (is_word k.For refl, (is_word k.Protected refl, (is_word k.Write refl, tt))))
reservation_by share.Protected false n h = (name_is_word n h, (is_word k.For refl, (is_word k.Protected refl, (is_word k.Read refl, tt))))
reservation_by share.Exclusive true n h = (name_is_word n h, (is_word k.For refl, (is_word k.Exclusive refl, (is_word k.Write refl, tt))))
reservation_by share.Exclusive false n h = (name_is_word n h, (is_word k.For refl, (is_word k.Exclusive refl, (is_word k.Read refl, tt))))

reserving_spelled : (rs : List Reservation) → AllByRecursion IsReservation rs → AreWords (reserving_words rs)
reserving_spelled [] h = tt
reserving_spelled (r ∷ rs) h = (is_word k.Reserving refl, separated_spelled k.Comma reservation_words IsReservation (is_word k.Comma refl) (λ x f. reservation_by x.share x.writes x.relation f) (r ∷ rs) h)

integer_spelled : (kind : Kind) → IsWord kind (spelling_of kind) → (scale : ℕ) → scale ≤ max_scale → AreWords (integer_words kind scale)
integer_spelled kind w scale h = (is_word k.Signed refl, (w, (is_word k.Scale refl, (is_word k.Is refl, (is_word k.Minus refl, (number_is_word scale 0 (omega arith), tt))))))

type_spelled : (d : DataType) (scale size : ℕ) → IsDataType d scale size → AreWords (type_words d scale size)
type_spelled data_type.Text scale size h =
    let top : size ≤ max_text_size = h.2 in (is_word k.Text refl, (is_word k.Size refl, (is_word k.Is refl, (number_is_word size 0 (omega arith), (is_word k.Characters refl, tt)))))
type_spelled data_type.Word scale size h = integer_spelled k.Word (is_word k.Word refl) scale h.1
type_spelled data_type.Longword scale size h = integer_spelled k.Longword (is_word k.Longword refl) scale h.1
type_spelled data_type.Quadword scale size h = integer_spelled k.Quadword (is_word k.Quadword refl) scale h.1

field_type_spelled : (t : FieldType) → IsFieldType t → AreWords (field_type_words t)
field_type_spelled t h = (is_word k.Datatype refl, (is_word k.Is refl, type_spelled t.kind t.scale t.size h))

defined_spelled : (d : DefinedType) → IsDefinedType d → AreWords (defined_words d)
defined_spelled (dtype.Own t) h = field_type_spelled t h
defined_spelled (dtype.BasedOn n) h = (is_word k.Based refl, (is_word k.On refl, (name_is_word n h, tt)))

field_spelled : (f : FieldDefinition) → IsFieldDefinition f → AreWords (field_words f)
field_spelled f h = (name_is_word f.name h.0, are_words-append (defined_words f.kind) (word k.Dot ∷ []) (defined_spelled f.kind h.1) (is_word k.Dot refl, tt))

index_field_spelled : (n : Text) → IsName n → AreWords (index_field_words n)
index_field_spelled n h = (name_is_word n h, (is_word k.Dot refl, tt))

duplicates_spelled : (unique : Bool) → AreWords (duplicates_words unique)
duplicates_spelled true = (is_word k.Duplicates refl, (is_word k.Are refl, (is_word k.Not refl, (is_word k.Allowed refl, tt))))
duplicates_spelled false = (is_word k.Duplicates refl, (is_word k.Are refl, (is_word k.Allowed refl, tt)))

index_spelled : (d : IndexDefinition) → IsIndexDefinition d → AreWords (index_words d)
index_spelled d h =
    let end : List Spelled = word k.End ∷ name_word d.name ∷ word k.Index ∷ [] in
    let fields : List Spelled = word k.Dot ∷ flat_map index_field_words d.fields ++ end in
    let e : AreWords end = (is_word k.End refl, (name_is_word d.name h.name, (is_word k.Index refl, tt))) in
    let f : AreWords (flat_map index_field_words d.fields) = flat_spelled index_field_words IsName index_field_spelled d.fields (each IsName d.fields h.fields) in
    (is_word k.Define refl, (is_word k.Index refl, (name_is_word d.name h.name, (is_word k.For refl, (name_is_word d.relation h.relation, are_words-append (duplicates_words d.unique) fields (duplicates_spelled d.unique) (is_word k.Dot refl, are_words-append (flat_map index_field_words d.fields) end f e))))))

wait_spelled : (waits : Bool) (rs : List Reservation) → AllByRecursion IsReservation rs → AreWords (statement_words (start_read_write waits rs))
wait_spelled true rs h = (is_word k.StartTransaction refl, (is_word k.ReadWrite refl, (is_word k.Wait refl, reserving_spelled rs h)))
wait_spelled false rs h = (is_word k.StartTransaction refl, (is_word k.ReadWrite refl, (is_word k.Nowait refl, reserving_spelled rs h)))

statement_spelled : (c : Command) → IsPrintable c → AreWords (statement_words c)
statement_spelled (invoke file) h = (is_word k.Invoke refl, (is_word k.Database refl, (is_word k.Filename refl, (text_is_word file h, tt))))
statement_spelled start_read_only h = (is_word k.StartTransaction refl, (is_word k.ReadOnly refl, tt))
statement_spelled (start_read_write waits reserved) h = wait_spelled waits reserved h
statement_spelled commit h = (is_word k.Commit refl, tt)
statement_spelled rollback h = (is_word k.Rollback refl, tt)
statement_spelled finish h = (is_word k.Finish refl, tt)
statement_spelled (back_up n) h =
    let top : n ≤ max_backup = h.1 in
    (is_word k.Dollar refl, (is_word k.Rmu refl, (is_word k.Slash refl, (is_word k.Backup refl, (is_word k.Slash refl, (is_word k.Online refl, (number_is_word n 0 (omega arith), tt)))))))
statement_spelled (perform x) h = action_spelled x _ false h
statement_spelled (define_field n t) h = (is_word k.Define refl, (is_word k.Field refl, (name_is_word n h.0, field_type_spelled t h.1)))
statement_spelled (define_relation n xs) h =
    let end : List Spelled = word k.End ∷ name_word n ∷ word k.Relation ∷ [] in
    let e : AreWords end = (is_word k.End refl, (name_is_word n h.0, (is_word k.Relation refl, tt))) in
    (is_word k.Define refl, (is_word k.Relation refl, (name_is_word n h.0, (is_word k.Dot refl, are_words-append (flat_map field_words xs) end (flat_spelled field_words IsFieldDefinition field_spelled xs (each IsFieldDefinition xs h.1)) e))))
statement_spelled (define_index d) h = index_spelled d h
statement_spelled (delete_relation n) h = (is_word k.Delete refl, (is_word k.Relation refl, (name_is_word n h, tt)))
statement_spelled (delete_index n) h = (is_word k.Delete refl, (is_word k.Index refl, (name_is_word n h, tt)))

pub command_spelled : (c : Command) → IsPrintable c → AreWords (command_words c)
command_spelled c h = are_words-append (statement_words c) (word k.Dot ∷ []) (statement_spelled c h) (is_word k.Dot refl, tt)
