-- What is printed of each statement is read as it.
use Rattle.std.proofs.Common.{◌≡◌, ℕ, zero, suc, ◌+◌, ◌≤◌, Bool, true, false, List, [], ◌∷◌, ◌++◌, length, Ok, refl, ap, sym, ◌∙◌, append_assoc, append-nil, arith}
use Rattle.std.specs.List.{AllByRecursion, flat_map}
use Rattle.std.specs.Str.{str_eq_ignore_ascii_case, str_to_ascii_lowercase}
use Rattle.std.proofs.lemmas.Slice.Eq.{bytes_eq-Decides}
use Rattle.std.proofs.lemmas.List.{map-id}
use Rattle.rdb_types.specs.declared.values.DataType.{DataType}
use Rattle.rdb_types.specs.declared.values.DataType.TheVariants as data_type
use Rattle.rdb_types.specs.declared.values.FieldType.{FieldType}
use Rattle.rdo_ast.specs.declared.syntax.Share.{Share}
use Rattle.rdo_ast.specs.declared.syntax.Share.TheVariants as share
use Rattle.rdo_ast.specs.declared.syntax.Reservation.{Reservation}
use Rattle.rdo_ast.specs.declared.syntax.DefinedType.{DefinedType}
use Rattle.rdo_ast.specs.declared.syntax.DefinedType.TheVariants as dtype
use Rattle.rdo_ast.specs.declared.syntax.FieldDefinition.{FieldDefinition}
use Rattle.rdo_ast.specs.declared.syntax.IndexDefinition.{IndexDefinition}
use Rattle.rdo_ast.specs.Tree.{Act, store, for_each, print, modify, erase, Command, invoke, start_read_only, start_read_write, commit, rollback, finish, back_up, perform, define_field, define_relation, define_index, delete_relation, delete_index}
use Rattle.rdo_tokens.specs.declared.token.Kind.{Kind}
use Rattle.rdo_tokens.specs.declared.token.Kind.TheVariants as k
use Rattle.rdo_tokens.specs.Lex.{Text, same_kind, max_number}
use Rattle.rdo_tokens.specs.Input.{Input, kind, spelling, next, sees, after, expect, name, same_name, whole_number}
use Rattle.rdo_grammar.specs.Grammar.{max_nesting}
use Rattle.rdo_parser.specs.Statements as st
use Rattle.rdo_parser.specs.Statements.{max_text_size, max_scale, max_backup, share_mode, writes, reservation, reservations, wait, reserving, read_write, start_transaction, integer_type, scale, text_type, signed_type, field_type, field_kind, field_definition, pointed_field, fields_from, fields, duplicates, index_type, pointed_name, index_fields_from, index_fields, index_head, define, delete, statement, pointed}
use Rattle.rdo_printer.specs.Words.{Spelled, word, name_word, number_word, quoted_word, text_of}
use Rattle.rdo_printer.proofs.Labels.{labelled}
use Rattle.rdo_printer.specs.Commands.{action_words, reservation_words, reserving_words, type_words, field_type_words, defined_words, field_words, index_field_words, duplicates_words, statement_words, command_words}
use Rattle.rdo_printer.specs.Printable.{IsName, IsReservation, IsDataType, IsFieldType, IsDefinedType, IsFieldDefinition, IsIndexDefinition, AreItems, FitsAction, IsPrintable}
use Rattle.rdo_printer.proofs.Reading.{Reads, in_front, name_read, text_read, whole_read, Anything, separated_read}
use Rattle.rdo_printer.proofs.ExpressionLaws.{false-true}
use Rattle.rdo_printer.proofs.ItemLaws.{NotName}
use Rattle.rdo_printer.proofs.ActionLaws.{AfterAction, action_law, point_read}
use Rattle.rdo_printer.proofs.Built.{built_command}

abbrev pub IsDot : Kind → Type 0
IsDot kd = kd ≡ k.Dot

after_dot : (kd : Kind) → IsDot kd → AfterAction kd
unfolding same_kind
after_dot kd a = rw a (((((refl, refl), refl), refl, refl), refl, refl), refl)

-- ---- transactions

reservation_by : (relation : Text) (mode : Share) (write : Bool) → IsName relation →
    Reads reservation (reservation_words (record { relation = relation; share = mode; writes = write })) (record { relation = relation; share = mode; writes = write }) Anything
unfolding reservation share_mode writes name expect sees kind spelling next same_kind
reservation_by n share.Shared true h behind other a = rw h.capitals refl
reservation_by n share.Shared false h behind other a = rw h.capitals refl
reservation_by n share.Protected true h behind other a = rw h.capitals refl
reservation_by n share.Protected false h behind other a = rw h.capitals refl
reservation_by n share.Exclusive true h behind other a = rw h.capitals refl
reservation_by n share.Exclusive false h behind other a = rw h.capitals refl

reserving_read : (rs : List Reservation) → AllByRecursion IsReservation rs → Reads reserving (reserving_words rs) rs IsDot
unfolding reserving reservations sees after kind next same_kind
reserving_read [] all behind other a = rw a refl
reserving_read (r ∷ rs) all behind other a =
    let stops : same_kind (kind other) k.Comma ≡ false = rw a refl in
    separated_read k.Comma reservation reservation_words (λ x. x) IsReservation Anything refl tt (λ x f. reservation_by x.relation x.share x.writes f) (r ∷ rs) all behind other tt stops
    ∙ ap (λ (v : List Reservation). Ok (v, other)) (map-id (r ∷ rs))

start_read : (waits : Bool) (rs : List Reservation) → AllByRecursion IsReservation rs → Reads statement (statement_words (start_read_write waits rs)) (built_command (start_read_write waits rs)) IsDot
unfolding statement start_transaction read_write wait kind next
start_read true rs all behind other a = rw (reserving_read rs all behind other a) refl
start_read false rs all behind other a = rw (reserving_read rs all behind other a) refl

-- ---- types

size_read : (size : ℕ) → 1 ≤ size → size ≤ max_text_size → (vs : List Spelled) (behind : ℕ) (other : Input) → whole_number 1 max_text_size (labelled (number_word size 0 ∷ vs) behind other) ≡ Ok (size, labelled vs behind other)
size_read size low high vs behind other = let limit : max_text_size ≤ max_number = omega arith in whole_read 1 max_text_size size low high limit (length (text_of (number_word size 0 ∷ vs)) + behind) (labelled vs behind other)

scale_read : (n : ℕ) → n ≤ max_scale → (vs : List Spelled) (behind : ℕ) (other : Input) → whole_number 0 max_scale (labelled (number_word n 0 ∷ vs) behind other) ≡ Ok (n, labelled vs behind other)
scale_read n high vs behind other =
    let limit : max_scale ≤ max_number = omega arith in let low : 0 ≤ n = omega arith in whole_read 0 max_scale n low high limit (length (text_of (number_word n 0 ∷ vs)) + behind) (labelled vs behind other)

type_read : (d : DataType) (digits size : ℕ) → IsDataType d digits size → Reads field_type (word k.Is ∷ type_words d digits size) (record { kind = d; scale = digits; size = size }) Anything
unfolding field_type text_type signed_type integer_type scale expect sees after kind next same_kind
type_read data_type.Text digits size h behind other a = rw (size_read size h.1 h.2 (word k.Characters ∷ []) behind other) (rw h.0 refl)
type_read data_type.Word digits size h behind other a = rw (scale_read digits h.1 [] behind other) (rw h.0 refl)
type_read data_type.Longword digits size h behind other a = rw (scale_read digits h.1 [] behind other) (rw h.0 refl)
type_read data_type.Quadword digits size h behind other a = rw (scale_read digits h.1 [] behind other) (rw h.0 refl)

field_type_read : (t : FieldType) → IsFieldType t → Reads field_type (word k.Is ∷ type_words t.kind t.scale t.size) t Anything
field_type_read t h = type_read t.kind t.scale t.size h

-- ---- definitions

defined_read : (d : DefinedType) → IsDefinedType d → Reads field_kind (defined_words d) d Anything
unfolding field_kind expect sees kind next same_kind
defined_read (dtype.Own t) h behind other a = rw (field_type_read t h behind other tt) refl
defined_read (dtype.BasedOn n) h behind other a = rw (name_read n h (length (text_of (name_word n ∷ [])) + behind) other) refl

field_read : (f : FieldDefinition) → IsFieldDefinition f → Reads pointed_field (field_words f) f Anything
unfolding pointed_field field_definition expect sees kind next same_kind
field_read f h behind other a =
    let vs : List Spelled = defined_words f.kind ++ (word k.Dot ∷ []) in
    rw (name_read f.name h.0 (length (text_of (name_word f.name ∷ vs)) + behind) (labelled vs behind other)) (rw (in_front field_kind (defined_words f.kind) f.kind Anything (defined_read f.kind h.1) (word k.Dot ∷ []) behind other tt) refl)

more_fields : (xs : List FieldDefinition) → AllByRecursion IsFieldDefinition xs → (turns : ℕ) (found : List FieldDefinition) (behind : ℕ) (other : Input) → length xs ≤ turns → NotName (kind other) →
    fields_from turns found (labelled (flat_map field_words xs) behind other) ≡ Ok (found ++ xs, other)
unfolding fields_from sees kind same_kind
more_fields [] all zero found behind other l a = ap (λ (v : List FieldDefinition). Ok (v, other)) (sym (append-nil found))
more_fields [] all (suc turns) found behind other l a = rw a (ap (λ (v : List FieldDefinition). Ok (v, other)) (sym (append-nil found)))
more_fields (x ∷ xs) all zero found behind other l a = absurd (omega arith)
more_fields (x ∷ xs) all (suc turns) found behind other l a =
    let one = in_front pointed_field (field_words x) x Anything (field_read x all.0) (flat_map field_words xs) behind other tt in
    let l2 : length xs ≤ turns = omega arith in
    rw one (more_fields xs all.1 turns (found ++ x ∷ []) behind other l2 a ∙ ap (λ (v : List FieldDefinition). Ok (v, other)) (append_assoc found (x ∷ []) xs))

fields_read : (xs : List FieldDefinition) → AreItems IsFieldDefinition xs → length xs ≤ 50 → Reads fields (flat_map field_words xs) xs NotName
unfolding fields
fields_read [] all l behind other a = absurd all
fields_read (x ∷ xs) all l behind other a =
    let one = in_front pointed_field (field_words x) x Anything (field_read x all.0) (flat_map field_words xs) behind other tt in
    let l2 : length xs ≤ 49 = omega arith in
    rw one (more_fields xs all.1 49 (x ∷ []) behind other l2 a)

same_text : (n : Text) → str_eq_ignore_ascii_case n n ≡ true
same_text n = (bytes_eq-Decides (str_to_ascii_lowercase n) (str_to_ascii_lowercase n)).1 refl

same_read : (n : Text) → (l : ℕ) (ts : Input) → same_name n (record { kind = k.Name; spelling = n; left = l } ∷ ts) ≡ Ok (tt, ts)
unfolding same_name sees kind spelling next same_kind
same_read n l ts = rw (same_text n) refl

define_relation_read : (n : Text) (xs : List FieldDefinition) → IsName n → AreItems IsFieldDefinition xs → length xs ≤ 50 → Reads statement (statement_words (define_relation n xs)) (built_command (define_relation n xs)) IsDot
unfolding statement define st.define_relation expect sees kind next same_kind
define_relation_read n xs h all l behind other a =
    let tail : List Spelled = word k.End ∷ name_word n ∷ word k.Relation ∷ [] in
    let vs : List Spelled = word k.Dot ∷ flat_map field_words xs ++ tail in
    let e1 = name_read n h (length (text_of (name_word n ∷ vs)) + behind) (labelled vs behind other) in
    let e2 = in_front fields (flat_map field_words xs) xs NotName (fields_read xs all l) tail behind other refl in
    let e3 = same_read n (length (text_of (name_word n ∷ word k.Relation ∷ [])) + behind) (labelled (word k.Relation ∷ []) behind other) in
    rw e1 (rw e2 (rw e3 refl))

-- ---- indexes

index_field_read : (n : Text) → IsName n → Reads pointed_name (index_field_words n) n Anything
unfolding pointed_name expect sees kind next same_kind
index_field_read n h behind other a = rw (name_read n h (length (text_of (index_field_words n)) + behind) (labelled (word k.Dot ∷ []) behind other)) refl

more_index_fields : (xs : List Text) → AllByRecursion IsName xs → (turns : ℕ) (found : List Text) (behind : ℕ) (other : Input) → length xs ≤ turns → NotName (kind other) →
    index_fields_from turns found (labelled (flat_map index_field_words xs) behind other) ≡ Ok (found ++ xs, other)
unfolding index_fields_from sees kind same_kind
more_index_fields [] all zero found behind other l a = ap (λ (v : List Text). Ok (v, other)) (sym (append-nil found))
more_index_fields [] all (suc turns) found behind other l a = rw a (ap (λ (v : List Text). Ok (v, other)) (sym (append-nil found)))
more_index_fields (x ∷ xs) all zero found behind other l a = absurd (omega arith)
more_index_fields (x ∷ xs) all (suc turns) found behind other l a =
    let one = in_front pointed_name (index_field_words x) x Anything (index_field_read x all.0) (flat_map index_field_words xs) behind other tt in
    let l2 : length xs ≤ turns = omega arith in
    rw one (more_index_fields xs all.1 turns (found ++ x ∷ []) behind other l2 a ∙ ap (λ (v : List Text). Ok (v, other)) (append_assoc found (x ∷ []) xs))

index_fields_read : (xs : List Text) → AreItems IsName xs → length xs ≤ 8 → Reads index_fields (flat_map index_field_words xs) xs NotName
unfolding index_fields
index_fields_read [] all l behind other a = absurd all
index_fields_read (x ∷ xs) all l behind other a =
    let one = in_front pointed_name (index_field_words x) x Anything (index_field_read x all.0) (flat_map index_field_words xs) behind other tt in
    let l2 : length xs ≤ 7 = omega arith in
    rw one (more_index_fields xs all.1 7 (x ∷ []) behind other l2 a)

duplicates_read : (unique : Bool) → Reads duplicates (duplicates_words unique) unique Anything
unfolding duplicates expect sees after kind next same_kind
duplicates_read true behind other a = refl
duplicates_read false behind other a = refl

define_index_read : (d : IndexDefinition) → IsIndexDefinition d → Reads statement (statement_words (define_index d)) (built_command (define_index d)) IsDot
unfolding statement define st.define_index index_head index_type expect sees after kind next same_kind
define_index_read d h behind other a =
    let tail : List Spelled = word k.End ∷ name_word d.name ∷ word k.Index ∷ [] in
    let fields : List Spelled = word k.Dot ∷ flat_map index_field_words d.fields ++ tail in
    let options : List Spelled = duplicates_words d.unique ++ fields in
    let e1 = name_read d.name h.name (length (text_of (name_word d.name ∷ word k.For ∷ name_word d.relation ∷ options)) + behind) (labelled (word k.For ∷ name_word d.relation ∷ options) behind other) in
    let e2 = name_read d.relation h.relation (length (text_of (name_word d.relation ∷ options)) + behind) (labelled options behind other) in
    let e3 = in_front duplicates (duplicates_words d.unique) d.unique Anything (duplicates_read d.unique) fields behind other tt in
    let e4 = in_front index_fields (flat_map index_field_words d.fields) d.fields NotName (index_fields_read d.fields h.fields h.few) tail behind other refl in
    let e5 = same_read d.name (length (text_of (name_word d.name ∷ word k.Index ∷ [])) + behind) (labelled (word k.Index ∷ []) behind other) in
    rw e1 (rw e2 (rw e3 (rw e4 (rw e5 refl))))

-- ---- statements

perform_read : (x : Act) → FitsAction x max_nesting false → Reads statement (action_words x) (built_command (perform x)) IsDot
unfolding statement kind
perform_read (store into assigns) fits behind other a = rw (action_law (store into assigns) max_nesting false fits behind other (after_dot (kind other) a)) refl
perform_read (for_each over clauses body) fits behind other a = rw (action_law (for_each over clauses body) max_nesting false fits behind other (after_dot (kind other) a)) refl
perform_read (print items) fits behind other a = rw (action_law (print items) max_nesting false fits behind other (after_dot (kind other) a)) refl
perform_read (modify n assigns) fits behind other a = false-true fits.0
perform_read (erase n) fits behind other a = false-true fits.0

back_up_read : (n : ℕ) → 1 ≤ n → n ≤ max_backup → Reads statement (statement_words (back_up n)) (built_command (back_up n)) IsDot
unfolding statement st.back_up expect sees kind next same_kind
back_up_read n low high behind other a =
    let limit : max_backup ≤ max_number = omega arith in rw (whole_read 1 max_backup n low high limit (length (text_of (number_word n 0 ∷ [])) + behind) other) refl

statement_read : (c : Command) → IsPrintable c → Reads statement (statement_words c) (built_command c) IsDot
unfolding statement start_transaction st.invoke delete define st.define_field expect sees kind next same_kind
statement_read (invoke file) h behind other a = rw (text_read file h (length (text_of (quoted_word file ∷ [])) + behind) other) refl
statement_read start_read_only h behind other a = refl
statement_read (start_read_write waits reserved) h behind other a = start_read waits reserved h behind other a
statement_read commit h behind other a = refl
statement_read rollback h behind other a = refl
statement_read finish h behind other a = refl
statement_read (back_up n) h behind other a = back_up_read n h.0 h.1 behind other a
statement_read (perform x) h behind other a = perform_read x h behind other a
statement_read (define_field n t) h behind other a =
    rw (name_read n h.0 (length (text_of (name_word n ∷ field_type_words t)) + behind) (labelled (field_type_words t) behind other)) (rw (field_type_read t h.1 behind other tt) refl)
statement_read (define_relation n xs) h behind other a = define_relation_read n xs h.0 h.1 h.2 behind other a
statement_read (define_index d) h behind other a = define_index_read d h behind other a
statement_read (delete_relation n) h behind other a = rw (name_read n h (length (text_of (name_word n ∷ [])) + behind) other) refl
statement_read (delete_index n) h behind other a = rw (name_read n h (length (text_of (name_word n ∷ [])) + behind) other) refl

dot : (behind : ℕ) (other : Input) → IsDot (kind (labelled (word k.Dot ∷ []) behind other))
unfolding kind
dot behind other = refl

pub command_read : (c : Command) → IsPrintable c → (behind : ℕ) (other : Input) → pointed (labelled (command_words c) behind other) ≡ Ok (built_command c, other)
unfolding pointed
command_read c h behind other =
    rw (in_front statement (statement_words c) (built_command c) IsDot (statement_read c h) (word k.Dot ∷ []) behind other (dot behind other)) (rw (point_read [] behind other) refl)
