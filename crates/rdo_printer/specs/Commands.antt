-- The words of actions and statements. A point stands behind each statement and each action of a FOR.
use Rattle.std.specs.Prelude.{ℕ, Bool, true, false, if◌then◌else◌, List, [], ◌∷◌, ◌++◌}
use Rattle.std.specs.List.{flat_map}
use Rattle.rdb_types.specs.declared.values.DataType.{DataType}
use Rattle.rdb_types.specs.declared.values.DataType.TheVariants as data_type
use Rattle.rdb_types.specs.declared.values.FieldType.{FieldType}
use Rattle.rdo_ast.specs.declared.syntax.SortKey.{SortKey}
use Rattle.rdo_ast.specs.declared.syntax.Clause.{Clause}
use Rattle.rdo_ast.specs.declared.syntax.Clause.TheVariants as clause
use Rattle.rdo_ast.specs.declared.syntax.Share.{Share}
use Rattle.rdo_ast.specs.declared.syntax.Share.TheVariants as share
use Rattle.rdo_ast.specs.declared.syntax.Reservation.{Reservation}
use Rattle.rdo_ast.specs.declared.syntax.DefinedType.{DefinedType}
use Rattle.rdo_ast.specs.declared.syntax.DefinedType.TheVariants as dtype
use Rattle.rdo_ast.specs.declared.syntax.FieldDefinition.{FieldDefinition}
use Rattle.rdo_ast.specs.declared.syntax.IndexDefinition.{IndexDefinition}
use Rattle.rdo_ast.specs.Tree.{Assignment, Shown, value, all_fields, Act, store, for_each, print, modify, erase, Acts, no_act, act, Command, invoke, start_read_only, start_read_write, commit, rollback, finish, back_up, perform, define_field, define_relation, define_index, delete_relation, delete_index}
use Rattle.rdo_tokens.specs.declared.token.Kind.{Kind}
use Rattle.rdo_tokens.specs.declared.token.Kind.TheVariants as k
use Rattle.rdo_tokens.specs.Lex.{Text}
use Rattle.rdo_printer.specs.Words.{Spelled, word, name_word, number_word, quoted_word, separated_words, text_of}
use Rattle.rdo_printer.specs.Trees.{reference_words, range_words, expression_words, ranging_words}

-- ---- actions

abbrev pub assign_words : Assignment → List Spelled
assign_words a = reference_words a.left ++ (word k.Equal ∷ expression_words a.right ++ (word k.Semicolon ∷ []))

abbrev pub assigns_words : List Assignment → List Spelled
assigns_words = flat_map assign_words

abbrev pub shown_words : Shown → List Spelled
shown_words (value x) = expression_words x
shown_words (all_fields n) = name_word n ∷ word k.Dot ∷ word k.Star ∷ []

abbrev pub key_words : SortKey → List Spelled
key_words s = word (if s.descending then k.Descending else k.Ascending) ∷ reference_words s.reference

abbrev pub clause_words : Clause → List Spelled
clause_words (clause.Sorted keys) = word k.Sorted ∷ word k.By ∷ separated_words k.Comma key_words keys
clause_words (clause.Reduced refs) = word k.Reduced ∷ word k.To ∷ separated_words k.Comma reference_words refs

abbrev mutual
  pub action_words : Act → List Spelled
  action_words (store into assigns) = word k.Store ∷ range_words into ++ (word k.Using ∷ assigns_words assigns ++ (word k.EndStore ∷ []))
  action_words (for_each over clauses body) = word k.For ∷ ranging_words over ++ (flat_map clause_words clauses ++ body_words body)
  action_words (print items) = word k.Print ∷ separated_words k.Comma shown_words items
  action_words (modify n assigns) = word k.Modify ∷ name_word n ∷ word k.Using ∷ assigns_words assigns ++ (word k.EndModify ∷ [])
  action_words (erase n) = word k.Erase ∷ name_word n ∷ []

  -- the actions of a FOR, and its end
  pub body_words : Acts → List Spelled
  body_words no_act = word k.EndFor ∷ []
  body_words (act a acts) = action_words a ++ (word k.Dot ∷ body_words acts)

-- ---- statements

abbrev pub share_kind : Share → Kind
share_kind share.Shared = k.Shared
share_kind share.Protected = k.Protected
share_kind share.Exclusive = k.Exclusive

abbrev pub reservation_words : Reservation → List Spelled
reservation_words r = name_word r.relation ∷ word k.For ∷ word (share_kind r.share) ∷ word (if r.writes then k.Write else k.Read) ∷ []

abbrev pub reserving_words : List Reservation → List Spelled
reserving_words [] = []
reserving_words (r ∷ rs) = word k.Reserving ∷ separated_words k.Comma reservation_words (r ∷ rs)

abbrev pub integer_words : Kind → ℕ → List Spelled
integer_words kind scale = word k.Signed ∷ word kind ∷ word k.Scale ∷ word k.Is ∷ word k.Minus ∷ number_word scale 0 ∷ []

abbrev pub type_words : DataType → ℕ → ℕ → List Spelled
type_words data_type.Text scale size = word k.Text ∷ word k.Size ∷ word k.Is ∷ number_word size 0 ∷ word k.Characters ∷ []
type_words data_type.Word scale size = integer_words k.Word scale
type_words data_type.Longword scale size = integer_words k.Longword scale
type_words data_type.Quadword scale size = integer_words k.Quadword scale

abbrev pub field_type_words : FieldType → List Spelled
field_type_words t = word k.Datatype ∷ word k.Is ∷ type_words t.kind t.scale t.size

abbrev pub defined_words : DefinedType → List Spelled
defined_words (dtype.Own t) = field_type_words t
defined_words (dtype.BasedOn n) = word k.Based ∷ word k.On ∷ name_word n ∷ []

abbrev pub field_words : FieldDefinition → List Spelled
field_words f = name_word f.name ∷ defined_words f.kind ++ (word k.Dot ∷ [])

abbrev pub index_field_words : Text → List Spelled
index_field_words n = name_word n ∷ word k.Dot ∷ []

-- DUPLICATES ARE [ NOT ] ALLOWED
abbrev pub duplicates_words : Bool → List Spelled
duplicates_words true = word k.Duplicates ∷ word k.Are ∷ word k.Not ∷ word k.Allowed ∷ []
duplicates_words false = word k.Duplicates ∷ word k.Are ∷ word k.Allowed ∷ []

abbrev pub index_words : IndexDefinition → List Spelled
index_words d =
    word k.Define ∷ word k.Index ∷ name_word d.name ∷ word k.For ∷ name_word d.relation ∷ duplicates_words d.unique
    ++ (word k.Dot ∷ flat_map index_field_words d.fields ++ (word k.End ∷ name_word d.name ∷ word k.Index ∷ []))

abbrev pub statement_words : Command → List Spelled
statement_words (invoke file) = word k.Invoke ∷ word k.Database ∷ word k.Filename ∷ quoted_word file ∷ []
statement_words start_read_only = word k.StartTransaction ∷ word k.ReadOnly ∷ []
statement_words (start_read_write waits reserved) = word k.StartTransaction ∷ word k.ReadWrite ∷ word (if waits then k.Wait else k.Nowait) ∷ reserving_words reserved
statement_words commit = word k.Commit ∷ []
statement_words rollback = word k.Rollback ∷ []
statement_words finish = word k.Finish ∷ []
statement_words (back_up n) = word k.Dollar ∷ word k.Rmu ∷ word k.Slash ∷ word k.Backup ∷ word k.Slash ∷ word k.Online ∷ number_word n 0 ∷ []
statement_words (perform a) = action_words a
statement_words (define_field n t) = word k.Define ∷ word k.Field ∷ name_word n ∷ field_type_words t
statement_words (define_relation n fields) =
    word k.Define ∷ word k.Relation ∷ name_word n ∷ word k.Dot ∷ flat_map field_words fields ++ (word k.End ∷ name_word n ∷ word k.Relation ∷ [])
statement_words (define_index d) = index_words d
statement_words (delete_relation n) = word k.Delete ∷ word k.Relation ∷ name_word n ∷ []
statement_words (delete_index n) = word k.Delete ∷ word k.Index ∷ name_word n ∷ []

-- a statement and its point
abbrev pub command_words : Command → List Spelled
command_words c = statement_words c ++ (word k.Dot ∷ [])

-- a statement on a line of its own
abbrev pub command_text : Command → Text
command_text c = text_of (command_words c) ++ (10 ∷ [])

abbrev pub script_text : List Command → Text
script_text = flat_map command_text
