-- The grammar of RDO's statements, one definition a production, over that of its actions.
use Rattle.std.specs.Prelude.{ℕ, zero, suc, ◌+◌, ◌-◌, Bool, true, false, if◌then◌else◌, List, [], ◌∷◌, ◌++◌, Option, Some, None, Result, Ok, Err}
use Rattle.rdb_types.specs.declared.values.DataType.{DataType}
use Rattle.rdb_types.specs.declared.values.DataType.TheVariants as data_type
use Rattle.rdb_types.specs.declared.values.FieldType.{FieldType}
use Rattle.rdo_ast.specs.declared.syntax.Share.{Share}
use Rattle.rdo_ast.specs.declared.syntax.Share.TheVariants as share
use Rattle.rdo_ast.specs.declared.syntax.Reservation.{Reservation}
use Rattle.rdo_ast.specs.declared.syntax.DefinedType.{DefinedType}
use Rattle.rdo_ast.specs.declared.syntax.DefinedType.TheVariants as dtype
use Rattle.rdo_ast.specs.declared.syntax.FieldDefinition.{FieldDefinition}
use Rattle.rdo_ast.specs.declared.syntax.IndexDefinition.{IndexDefinition}
use Rattle.rdo_ast.specs.declared.syntax.Statement.{Statement}
use Rattle.rdo_ast.specs.declared.syntax.Statement.TheVariants as s
use Rattle.rdo_tokens.specs.declared.token.Kind.{Kind}
use Rattle.rdo_tokens.specs.declared.token.Kind.TheVariants as k
use Rattle.rdo_tokens.specs.Lex.{Text}
use Rattle.rdo_tokens.specs.Input.{Input, sees, Parser, ◌>>=◌, ◌>>◌, ◌<$>◌, pure, refuse, peek, take_token, eat, expect, left, name, same_name, text, whole_number, separated}
use Rattle.rdo_grammar.specs.Grammar.{max_nesting, point, action_at}

-- ---- limits

abbrev pub max_fields : ℕ
max_fields = 50

abbrev pub max_index_fields : ℕ
max_index_fields = 8

abbrev pub max_text_size : ℕ
max_text_size = 500

abbrev pub max_scale : ℕ
max_scale = 9

-- the greatest number of a backup
abbrev pub max_backup : ℕ
max_backup = 9

-- ---- transactions

abbrev pub share_by : Kind → Parser Share
share_by k.Shared = take_token >> pure share.Shared
share_by k.Protected = take_token >> pure share.Protected
share_by k.Exclusive = take_token >> pure share.Exclusive
share_by _ = refuse

unfoldable pub share_mode : Parser Share
share_mode = peek >>= share_by

abbrev pub writes_by : Kind → Parser Bool
writes_by k.Read = take_token >> pure false
writes_by k.Write = take_token >> pure true
writes_by _ = refuse

unfoldable pub writes : Parser Bool
writes = peek >>= writes_by

-- reservation := name FOR ( SHARED | PROTECTED | EXCLUSIVE ) ( READ | WRITE )
unfoldable pub reservation : Parser Reservation
reservation = do
  relation ← name
  expect k.For
  mode ← share_mode
  write ← writes
  pure (record { relation = relation; share = mode; writes = write })

-- reservation { "," reservation }
unfoldable pub reservations : Parser (List Reservation)
reservations = separated k.Comma reservation

-- [ WAIT | NOWAIT ]
abbrev pub wait_by : Kind → Parser Bool
wait_by k.Wait = take_token >> pure true
wait_by k.Nowait = take_token >> pure false
wait_by _ = pure true

unfoldable pub wait : Parser Bool
wait = peek >>= wait_by

-- [ RESERVING reservation { "," reservation } ]
unfoldable pub reserving : Parser (List Reservation)
reserving = do
  found ← eat k.Reserving
  if found then reservations else pure []

unfoldable pub read_write : Parser Statement
read_write = do
  waits ← wait
  reserved ← reserving
  pure (s.StartReadWrite waits reserved)

-- START_TRANSACTION [ READ_ONLY | READ_WRITE [ WAIT | NOWAIT ] [ RESERVING reservation { "," reservation } ] ]
abbrev pub start_by : Kind → Parser Statement
start_by k.ReadOnly = take_token >> pure s.StartReadOnly
start_by k.ReadWrite = take_token >> read_write
start_by _ = pure s.StartReadOnly

unfoldable pub start_transaction : Parser Statement
start_transaction = peek >>= start_by

-- ---- definitions

-- WORD | LONGWORD | QUADWORD
abbrev pub integer_by : Kind → Parser DataType
integer_by k.Word = take_token >> pure data_type.Word
integer_by k.Longword = take_token >> pure data_type.Longword
integer_by k.Quadword = take_token >> pure data_type.Quadword
integer_by _ = refuse

unfoldable pub integer_type : Parser DataType
integer_type = peek >>= integer_by

-- [ SCALE [ IS ] "-" number ]
unfoldable pub scale : Parser ℕ
scale = do
  found ← eat k.Scale
  if found then (do eat k.Is; expect k.Minus; whole_number 0 max_scale) else pure 0

-- TEXT SIZE IS number [ CHARACTERS ]
unfoldable pub text_type : Parser FieldType
text_type = do
  expect k.Size
  expect k.Is
  size ← whole_number 1 max_text_size
  eat k.Characters
  pure (record { kind = data_type.Text; scale = 0; size = size })

unfoldable pub signed_type : Parser FieldType
signed_type = do
  kind ← integer_type
  digits ← scale
  pure (record { kind = kind; scale = digits; size = 0 })

-- type := DATATYPE IS ( TEXT SIZE IS number [ CHARACTERS ] | SIGNED ( WORD | LONGWORD | QUADWORD ) [ SCALE [ IS ] "-" number ] ), after DATATYPE
abbrev pub type_by : Kind → Parser FieldType
type_by k.Text = take_token >> text_type
type_by k.Signed = take_token >> signed_type
type_by _ = refuse

unfoldable pub field_type : Parser FieldType
field_type = do
  expect k.Is
  kind ← peek
  type_by kind

-- fielddef := name ( type | BASED ON name )
abbrev pub field_kind_by : Kind → Parser DefinedType
field_kind_by k.Datatype = take_token >> dtype.Own <$> field_type
field_kind_by k.Based = take_token >> expect k.On >> dtype.BasedOn <$> name
field_kind_by _ = refuse

unfoldable pub field_kind : Parser DefinedType
field_kind = peek >>= field_kind_by

unfoldable pub field_definition : Parser FieldDefinition
field_definition = do
  field ← name
  kind ← field_kind
  pure (record { name = field; kind = kind })

-- field_definition "."
unfoldable pub pointed_field : Parser FieldDefinition
pointed_field = do
  x ← field_definition
  expect k.Dot
  pure x

-- { field_definition "." }, one to the limit. Past the limit only END may come, so another name is the offending token.
unfoldable pub fields_from : ℕ → List FieldDefinition → Parser (List FieldDefinition)
fields_from zero found = pure found
fields_from (suc n) found = λ i. (if sees k.Name i then (do x ← pointed_field; fields_from n (found ++ x ∷ [])) else pure found) i

unfoldable pub fields : Parser (List FieldDefinition)
fields = pointed_field >>= (λ x. fields_from (max_fields - 1) (x ∷ []))

-- DEFINE RELATION name "." { field_definition "." } END name RELATION, after RELATION; the name after END is the defined one
unfoldable pub define_relation : Parser Statement
define_relation = do
  defined ← name
  expect k.Dot
  all ← fields
  expect k.End
  same_name defined
  expect k.Relation
  pure (s.DefineRelation defined all)

-- [ DUPLICATES ARE [ NOT ] ALLOWED ]: whether they are not
unfoldable pub duplicates : Parser Bool
duplicates = do
  found ← eat k.Duplicates
  if found then (do expect k.Are; unique ← eat k.Not; expect k.Allowed; pure unique) else pure false

-- [ TYPE IS SORTED ]
unfoldable pub index_type : Parser (Unit {0})
index_type = do
  found ← eat k.TypeWord
  if found then (do expect k.Is; expect k.Sorted) else pure tt

-- name "."
unfoldable pub pointed_name : Parser Text
pointed_name = do
  x ← name
  expect k.Dot
  pure x

-- { name "." }, one to the limit
unfoldable pub index_fields_from : ℕ → List Text → Parser (List Text)
index_fields_from zero found = pure found
index_fields_from (suc n) found = λ i. (if sees k.Name i then (do x ← pointed_name; index_fields_from n (found ++ x ∷ [])) else pure found) i

unfoldable pub index_fields : Parser (List Text)
index_fields = pointed_name >>= (λ x. index_fields_from (max_index_fields - 1) (x ∷ []))

-- FOR name [ DUPLICATES ARE [ NOT ] ALLOWED ] [ TYPE IS SORTED ] "." { name "." }
unfoldable pub index_head : Text → Parser IndexDefinition
index_head defined = do
  expect k.For
  relation ← name
  unique ← duplicates
  index_type
  expect k.Dot
  all ← index_fields
  pure (record { name = defined; relation = relation; unique = unique; fields = all })

-- DEFINE INDEX name FOR name [ DUPLICATES ARE [ NOT ] ALLOWED ] [ TYPE IS SORTED ] "." { name "." } END name INDEX, after INDEX
unfoldable pub define_index : Parser Statement
define_index = do
  defined ← name
  index ← index_head defined
  expect k.End
  same_name index.name
  expect k.Index
  pure (s.DefineIndex index)

-- DEFINE FIELD name type, after FIELD
unfoldable pub define_field : Parser Statement
define_field = do
  defined ← name
  expect k.Datatype
  kind ← field_type
  pure (s.DefineField defined kind)

abbrev pub define_by : Kind → Parser Statement
define_by k.Field = take_token >> define_field
define_by k.Relation = take_token >> define_relation
define_by k.Index = take_token >> define_index
define_by _ = refuse

unfoldable pub define : Parser Statement
define = peek >>= define_by

-- DELETE RELATION name | DELETE INDEX name, after DELETE
abbrev pub delete_by : Kind → Parser Statement
delete_by k.Relation = take_token >> s.DeleteRelation <$> name
delete_by k.Index = take_token >> s.DeleteIndex <$> name
delete_by _ = refuse

unfoldable pub delete : Parser Statement
delete = peek >>= delete_by

-- ---- statements

-- INVOKE DATABASE FILENAME text, after INVOKE
unfoldable pub invoke : Parser Statement
invoke = do
  expect k.Database
  expect k.Filename
  s.Invoke <$> text

-- "$" RMU "/" BACKUP "/" ONLINE number, after "$"
unfoldable pub back_up : Parser Statement
back_up = do
  expect k.Rmu
  expect k.Slash
  expect k.Backup
  expect k.Slash
  expect k.Online
  s.BackUp <$> whole_number 1 max_backup

-- statement := INVOKE .. | START_TRANSACTION .. | COMMIT | ROLLBACK | FINISH | "$" RMU .. | action | define
abbrev pub statement_by : Kind → Parser Statement
statement_by k.Invoke = take_token >> invoke
statement_by k.StartTransaction = take_token >> start_transaction
statement_by k.Commit = take_token >> pure s.Commit
statement_by k.Rollback = take_token >> pure s.Rollback
statement_by k.Finish = take_token >> pure s.Finish
statement_by k.Dollar = take_token >> back_up
statement_by k.Define = take_token >> define
statement_by k.Delete = take_token >> delete
statement_by _ = s.Act <$> action_at (suc max_nesting) false

unfoldable pub statement : Parser Statement
statement = peek >>= statement_by

-- statement [ "." ]
unfoldable pub pointed : Parser Statement
pointed = do
  x ← statement
  point
  pure x
