-- The trees whose canonical words are read back: the limits of names, numbers, texts, lists and nesting, and what stands where.
-- Two kinds of trees that some text has are not among them: those that pass the nesting limit by a pair of parentheses that the text could do without,
-- and a comparison that begins with a statistic before an operator, where the statistic's condition ends with MISSING, a group or the ranges of an ANY.
use Rattle.std.specs.Prelude.{◌≡◌, ◌≤◌, ℕ, zero, suc, ℤ, pos, negsuc, Bool, true, false, ◌&&◌, List, [], ◌∷◌, length, slice_index, ◌||◌, ◌==◌, Option, Some, None}
use Rattle.std.specs.Char.{is_ascii_alphabetic, is_ascii_alphanumeric}
use Rattle.std.specs.List.{AllByRecursion}
use Rattle.rdb_types.specs.declared.values.DataType.{DataType}
use Rattle.rdb_types.specs.declared.values.DataType.TheVariants as data_type
use Rattle.rdb_types.specs.declared.values.FieldType.{FieldType}
use Rattle.rdo_ast.specs.declared.syntax.Reference.{Reference}
use Rattle.rdo_ast.specs.declared.syntax.Range.{Range}
use Rattle.rdo_ast.specs.declared.syntax.SortKey.{SortKey}
use Rattle.rdo_ast.specs.declared.syntax.Clause.{Clause}
use Rattle.rdo_ast.specs.declared.syntax.Clause.TheVariants as clause
use Rattle.rdo_ast.specs.declared.syntax.Reservation.{Reservation}
use Rattle.rdo_ast.specs.declared.syntax.DefinedType.{DefinedType}
use Rattle.rdo_ast.specs.declared.syntax.DefinedType.TheVariants as dtype
use Rattle.rdo_ast.specs.declared.syntax.FieldDefinition.{FieldDefinition}
use Rattle.rdo_ast.specs.declared.syntax.IndexDefinition.{IndexDefinition}
use Rattle.rdo_ast.specs.Tree.{Expression, number, text, field, negative, chain, count, statistic, Operations, no_operation, operation, Testing, compare, between, containing, starting_with, missing, any, negated, group, Conjunction, no_test, test, Condition, no_conjunction, conjunction, Ranging, ranging, With, without_condition, with_condition, Assignment, Shown, value, all_fields, Act, store, for_each, print, modify, erase, Acts, no_act, act, Command, invoke, start_read_only, start_read_write, commit, rollback, finish, back_up, perform, define_field, define_relation, define_index, delete_relation, delete_index}
use Rattle.rdo_tokens.specs.declared.token.Kind.TheVariants as k
use Rattle.rdo_tokens.specs.Lex.{Text, is_printable, trimmed, word_kind, same_kind, max_name, max_number, max_number_scale}
use Rattle.rdo_tokens.specs.Input.{upper}
use Rattle.rdo_grammar.specs.Grammar.{Plain, max_nesting}
use Rattle.rdo_parser.specs.Statements.{max_fields, max_index_fields, max_text_size, max_scale, max_backup}
use Rattle.rdo_printer.specs.Words.{Spelled}
use Rattle.rdo_printer.specs.Trees.{has_condition, is_open, is_times, is_guarded, is_first_guarded, expression_words}
use Rattle.rdo_ast.specs.declared.syntax.Arithmetic.TheVariants as by

-- ---- names, numbers and texts

-- letters, digits, `_` and `$`
abbrev pub is_name_character : ℕ → Bool
is_name_character b = is_ascii_alphanumeric b || b == 95 || b == 36

-- a name in capitals
pub record IsName (n : Text) : Type 0 where
  pub begins : is_ascii_alphabetic (slice_index n 0) ≡ true
  pub characters : AllByRecursion (λ b. is_name_character b ≡ true) n
  pub short : length n ≤ max_name
  pub capitals : upper n ≡ n
  pub free : word_kind n ≡ k.Name

-- printable bytes, and no blank at the end
pub record IsText (z : Text) : Type 0 where
  pub printable : AllByRecursion (λ b. is_printable b ≡ true) z
  pub ends : trimmed z ≡ z

abbrev pub IsNumber : ℤ → ℕ → Type 0
IsNumber (pos n) scale = (n ≤ max_number) × (scale ≤ max_number_scale)
IsNumber (negsuc n) scale = ⊥

abbrev pub IsFirst : Option ℕ → Type 0
IsFirst None = Unit {0}
IsFirst (Some n) = n ≤ max_number

abbrev pub IsReference : Reference → Type 0
IsReference r = IsName r.variable × IsName r.field

abbrev pub IsRange : Range → Type 0
IsRange r = IsName r.variable × IsName r.relation

-- at least one, and this holds of each
abbrev pub AreItems : {A : Type 0} → (A → Type 0) → List A → Type 0
AreItems P [] = ⊥
AreItems P (x ∷ xs) = P x × AllByRecursion P xs

-- ---- nesting. The number counts the levels that may still be opened.

-- a level is opened, and this holds of what is inside
abbrev pub Opens : ℕ → (ℕ → Type 0) → Type 0
Opens zero P = ⊥
Opens (suc levels) P = P levels

-- in parentheses if the flag says so
abbrev pub Guarded : Bool → ℕ → (ℕ → Type 0) → Type 0
Guarded true levels P = Opens levels P
Guarded false levels P = P levels

-- ---- expressions and conditions

abbrev pub AreOperations : Bool → Operations → Type 0
AreOperations times no_operation = Unit {0}
AreOperations times (operation o x os) = (is_times o ≡ times) × AreOperations times os

-- at least one operation, and `+` and `-` alone or `*` alone
abbrev pub IsChain : Operations → Type 0
IsChain no_operation = ⊥
IsChain (operation o x os) = AreOperations (is_times o) os

abbrev pub IsSingle : Ranging → Type 0
IsSingle (ranging n (x ∷ []) w) = Unit {0}
IsSingle r = ⊥

-- A test that compares begins with no parenthesis: that would begin a condition.
abbrev pub ComparesFrom : List Spelled → Type 0
ComparesFrom [] = ⊥
ComparesFrom (w ∷ ws) = same_kind w.kind k.Open ≡ false

-- A condition of an ANY goes on with each AND and OR, so that it stands only in the last test.
abbrev pub EndsIn : Bool → Bool → Type 0
EndsIn last true = last ≡ true
EndsIn last false = Unit {0}

abbrev pub is_last_test : Conjunction → Bool
is_last_test no_test = true
is_last_test (test t ts) = false

abbrev pub is_last_conjunction : Condition → Bool
is_last_conjunction no_conjunction = true
is_last_conjunction (conjunction c cs) = false

-- `plain`: no statistic may stand there.
abbrev mutual
  pub FitsExpression : Expression → ℕ → Plain → Type 0
  FitsExpression (number n scale) levels plain = IsNumber n scale
  FitsExpression (text z) levels plain = IsText z
  FitsExpression (field r) levels plain = IsReference r
  FitsExpression (negative x) levels plain = Opens levels (λ inside. Guarded (is_guarded by.Times x) inside (λ l. FitsExpression x l plain))
  FitsExpression (chain x os) levels plain = IsChain os × Guarded (is_first_guarded os x) levels (λ l. FitsExpression x l plain) × FitsOperations os levels plain
  FitsExpression (count r) levels plain = (plain ≡ false) × IsSingle r × Opens levels (λ inside. FitsRanging r inside)
  FitsExpression (statistic s x r) levels plain = (plain ≡ false) × IsSingle r × Opens levels (λ inside. FitsExpression x inside true × FitsRanging r inside)

  pub FitsOperations : Operations → ℕ → Plain → Type 0
  FitsOperations no_operation levels plain = Unit {0}
  FitsOperations (operation o x os) levels plain = Guarded (is_guarded o x) levels (λ l. FitsExpression x l plain) × FitsOperations os levels plain

  -- `last`: nothing of its condition stands behind the test.
  pub FitsTest : Testing → ℕ → Bool → Type 0
  FitsTest (compare o a b) levels last = FitsExpression a levels false × ComparesFrom (expression_words a) × Guarded (is_open b) levels (λ l. FitsExpression b l false)
  FitsTest (between a low high) levels last =
      FitsExpression a levels false × ComparesFrom (expression_words a) × Guarded (is_open low) levels (λ l. FitsExpression low l false) × Guarded (is_open high) levels (λ l. FitsExpression high l false)
  FitsTest (containing a b) levels last = FitsExpression a levels false × ComparesFrom (expression_words a) × Guarded (is_open b) levels (λ l. FitsExpression b l false)
  FitsTest (starting_with a b) levels last = FitsExpression a levels false × ComparesFrom (expression_words a) × Guarded (is_open b) levels (λ l. FitsExpression b l false)
  FitsTest (missing a) levels last = FitsExpression a levels false × ComparesFrom (expression_words a)
  FitsTest (any r) levels last = EndsIn last (has_condition r) × Opens levels (λ inside. FitsRanging r inside)
  FitsTest (negated t) levels last = Opens levels (λ inside. FitsTest t inside last)
  FitsTest (group c) levels last = Opens levels (λ inside. FitsCondition c inside)

  pub FitsConjunction : Conjunction → ℕ → Bool → Type 0
  FitsConjunction no_test levels last = ⊥
  FitsConjunction (test t ts) levels last = FitsTest t levels (last && is_last_test ts) × FitsTests ts levels last

  pub FitsTests : Conjunction → ℕ → Bool → Type 0
  FitsTests no_test levels last = Unit {0}
  FitsTests (test t ts) levels last = FitsTest t levels (last && is_last_test ts) × FitsTests ts levels last

  pub FitsCondition : Condition → ℕ → Type 0
  FitsCondition no_conjunction levels = ⊥
  FitsCondition (conjunction c cs) levels = FitsConjunction c levels (is_last_conjunction cs) × FitsConjunctions cs levels

  pub FitsConjunctions : Condition → ℕ → Type 0
  FitsConjunctions no_conjunction levels = Unit {0}
  FitsConjunctions (conjunction c cs) levels = FitsConjunction c levels (is_last_conjunction cs) × FitsConjunctions cs levels

  pub FitsRanging : Ranging → ℕ → Type 0
  FitsRanging (ranging n ranges w) levels = IsFirst n × AreItems IsRange ranges × FitsWith w levels

  pub FitsWith : With → ℕ → Type 0
  FitsWith without_condition levels = Unit {0}
  FitsWith (with_condition c) levels = FitsCondition c levels

-- ---- actions

abbrev pub FitsAssign : ℕ → Assignment → Type 0
FitsAssign levels a = IsReference a.left × FitsExpression a.right levels false

abbrev pub FitsShown : ℕ → Shown → Type 0
FitsShown levels (value x) = FitsExpression x levels false
FitsShown levels (all_fields n) = IsName n

abbrev pub IsKey : SortKey → Type 0
IsKey s = IsReference s.reference

-- none, one, or both in either order
abbrev pub AreClauses : List Clause → Type 0
AreClauses [] = Unit {0}
AreClauses (clause.Sorted keys ∷ []) = AreItems IsKey keys
AreClauses (clause.Reduced refs ∷ []) = AreItems IsReference refs
AreClauses (clause.Sorted keys ∷ clause.Reduced refs ∷ []) = AreItems IsKey keys × AreItems IsReference refs
AreClauses (clause.Reduced refs ∷ clause.Sorted keys ∷ []) = AreItems IsReference refs × AreItems IsKey keys
AreClauses cs = ⊥

abbrev mutual
  -- `nested`: in a FOR.
  pub FitsAction : Act → ℕ → Bool → Type 0
  FitsAction (store into assigns) levels nested = IsRange into × AllByRecursion (FitsAssign levels) assigns
  FitsAction (for_each over clauses body) levels nested = Opens levels (λ inside. FitsRanging over inside × AreClauses clauses × FitsActions body inside)
  FitsAction (print items) levels nested = AreItems (FitsShown levels) items
  FitsAction (modify n assigns) levels nested = (nested ≡ true) × IsName n × AllByRecursion (FitsAssign levels) assigns
  FitsAction (erase n) levels nested = (nested ≡ true) × IsName n

  pub FitsActions : Acts → ℕ → Type 0
  FitsActions no_act levels = Unit {0}
  FitsActions (act a acts) levels = FitsAction a levels true × FitsActions acts levels

-- ---- statements

abbrev pub IsReservation : Reservation → Type 0
IsReservation r = IsName r.relation

-- a text has no scale, and a number no size
abbrev pub IsDataType : DataType → ℕ → ℕ → Type 0
IsDataType data_type.Text scale size = (scale ≡ 0) × (1 ≤ size) × (size ≤ max_text_size)
IsDataType kind scale size = (size ≡ 0) × (scale ≤ max_scale)

abbrev pub IsFieldType : FieldType → Type 0
IsFieldType t = IsDataType t.kind t.scale t.size

abbrev pub IsDefinedType : DefinedType → Type 0
IsDefinedType (dtype.Own t) = IsFieldType t
IsDefinedType (dtype.BasedOn n) = IsName n

abbrev pub IsFieldDefinition : FieldDefinition → Type 0
IsFieldDefinition f = IsName f.name × IsDefinedType f.kind

pub record IsIndexDefinition (d : IndexDefinition) : Type 0 where
  pub name : IsName d.name
  pub relation : IsName d.relation
  pub fields : AreItems IsName d.fields
  pub few : length d.fields ≤ max_index_fields

abbrev pub IsPrintable : Command → Type 0
IsPrintable (invoke file) = IsText file
IsPrintable start_read_only = Unit {0}
IsPrintable (start_read_write waits reserved) = AllByRecursion IsReservation reserved
IsPrintable commit = Unit {0}
IsPrintable rollback = Unit {0}
IsPrintable finish = Unit {0}
IsPrintable (back_up n) = (1 ≤ n) × (n ≤ max_backup)
IsPrintable (perform a) = FitsAction a max_nesting false
IsPrintable (define_field n t) = IsName n × IsFieldType t
IsPrintable (define_relation n fields) = IsName n × AreItems IsFieldDefinition fields × (length fields ≤ max_fields)
IsPrintable (define_index d) = IsIndexDefinition d
IsPrintable (delete_relation n) = IsName n
IsPrintable (delete_index n) = IsName n
