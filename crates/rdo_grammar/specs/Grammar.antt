-- The grammar of RDO's expressions, conditions, selections and actions, one definition a production. `eat` takes a token if it comes next, `expect` refuses any other.
use Rattle.std.specs.Prelude.{ℕ, zero, suc, pos, Bool, true, false, if◌then◌else◌, ◌==◌, List, [], ◌∷◌, ◌++◌, Option, Some, None}
use Rattle.rdo_ast.specs.declared.syntax.Reference.{Reference}
use Rattle.rdo_ast.specs.declared.syntax.Range.{Range}
use Rattle.rdo_ast.specs.declared.syntax.Comparison.{Comparison}
use Rattle.rdo_ast.specs.declared.syntax.Comparison.TheVariants as op
use Rattle.rdo_ast.specs.declared.syntax.Arithmetic.{Arithmetic}
use Rattle.rdo_ast.specs.declared.syntax.Arithmetic.TheVariants as by
use Rattle.rdo_ast.specs.declared.syntax.Statistic.{Statistic}
use Rattle.rdo_ast.specs.declared.syntax.Statistic.TheVariants as of
use Rattle.rdo_ast.specs.declared.syntax.Expression.{Expression}
use Rattle.rdo_ast.specs.declared.syntax.Expression.TheVariants as e
use Rattle.rdo_ast.specs.declared.syntax.Inner.{Inner, roll-Inner}
use Rattle.rdo_ast.specs.declared.syntax.Test.{Test}
use Rattle.rdo_ast.specs.declared.syntax.Test.TheVariants as t
use Rattle.rdo_ast.specs.declared.syntax.Operation.{Operation, roll-Operation}
use Rattle.rdo_ast.specs.declared.syntax.Conjunction.{Conjunction, roll-Conjunction}
use Rattle.rdo_ast.specs.declared.syntax.Condition.{Condition, roll-Condition}
use Rattle.rdo_ast.specs.declared.syntax.SortKey.{SortKey}
use Rattle.rdo_ast.specs.declared.syntax.Clause.{Clause}
use Rattle.rdo_ast.specs.declared.syntax.Clause.TheVariants as clause
use Rattle.rdo_ast.specs.declared.syntax.Selection.{Selection}
use Rattle.rdo_ast.specs.declared.syntax.Assign.{Assign}
use Rattle.rdo_ast.specs.declared.syntax.PrintItem.{PrintItem}
use Rattle.rdo_ast.specs.declared.syntax.PrintItem.TheVariants as p
use Rattle.rdo_ast.specs.declared.syntax.Action.{Action}
use Rattle.rdo_ast.specs.declared.syntax.Action.TheVariants as a
use Rattle.rdo_tokens.specs.declared.token.Kind.{Kind}
use Rattle.rdo_tokens.specs.declared.token.Kind.TheVariants as k
use Rattle.rdo_tokens.specs.Lex.{Text, max_number}
use Rattle.rdo_tokens.specs.Input.{sees, Parser, ◌>>=◌, ◌>>◌, ◌<$>◌, pure, refuse, peek, take_token, eat, expect, left, name, text, number, whole_number, separated}

-- ---- limits

abbrev pub max_nesting : ℕ
max_nesting = 16

-- ---- ref, ranges and FIRST

-- ref := name "." name
unfoldable pub ref_from : Text → Parser Reference
ref_from variable = (λ field. record { variable = variable; field = field }) <$> name

unfoldable pub reference : Parser Reference
reference = do
  variable ← name
  expect k.Dot
  ref_from variable

-- range := name IN name
unfoldable pub range : Parser Range
range = do
  variable ← name
  expect k.In
  relation ← name
  pure (record { variable = variable; relation = relation })

-- range { CROSS range }
unfoldable pub crossed : Parser (List Range)
crossed = separated k.Cross range

-- the same, or one range alone
unfoldable pub ranges : Bool → Parser (List Range)
ranges is_single = if is_single then (λ x. x ∷ []) <$> range else crossed

-- [ FIRST number ]
unfoldable pub first : Parser (Option ℕ)
first = do
  found ← eat k.First
  if found then Some <$> whole_number 0 max_number else pure None

-- ---- expressions and conditions

-- op := EQ | "=" | NE | "<>" | GT | ">" | GE | ">=" | LT | "<" | LE | "<="
abbrev pub operator : Kind → Option Comparison
operator k.Eq = Some op.Equal
operator k.Equal = Some op.Equal
operator k.Ne = Some op.NotEqual
operator k.Unequal = Some op.NotEqual
operator k.Gt = Some op.Greater
operator k.Greater = Some op.Greater
operator k.Ge = Some op.GreaterEqual
operator k.GreaterEqual = Some op.GreaterEqual
operator k.Lt = Some op.Less
operator k.Less = Some op.Less
operator k.Le = Some op.LessEqual
operator k.LessEqual = Some op.LessEqual
operator _ = None

-- what a parser of the next level reads: a whole expr, or a prim alone
abbrev pub Alone : Type 0
Alone = Bool

-- whether a statistic may stand here: not in the expr of a TOTAL, MIN or MAX
abbrev pub Plain : Type 0
Plain = Bool

-- how many levels may still be opened, and what is read in the next one
pub record Level : Type 0 where
  pub depth : ℕ
  pub next_cond : Parser Condition
  pub next_test : Parser Test
  pub next_expr : Alone → Plain → Parser Expression

abbrev pub operation : Arithmetic → Expression → Operation
operation o x = roll-Operation (record { operator = o; operand = x })

-- an operand and the operations on it, or the operand alone where there are none
abbrev pub chained : Expression → List Operation → Expression
chained first [] = first
chained first (o ∷ os) = e.Chain first (o ∷ os)

module _ (level : Level) where
  -- takes a token that opens a level
  unfoldable pub open_level : Parser (Unit {0})
  open_level = if level.depth == 0 then refuse else take_token >> pure tt

  -- [ WITH cond ], in the level that was opened
  unfoldable pub with : Parser (Option Condition)
  with = do
    found ← eat k.With
    if found then Some <$> level.next_cond else pure None

  -- single := [ FIRST number ] range [ WITH cond ]
  -- inner := [ FIRST number ] range { CROSS range } [ WITH cond ]
  unfoldable pub inner : Bool → Parser Inner
  inner is_single = do
    n ← first
    over ← ranges is_single
    condition ← with
    pure (roll-Inner (record { first = n; ranges = over; condition = condition }))

  -- after COUNT, TOTAL, MIN or MAX
  unfoldable pub count : Parser Expression
  count = expect k.Of >> e.Count <$> inner true

  unfoldable pub statistic : Statistic → Parser Expression
  statistic which = do
    value ← level.next_expr false true
    expect k.Of
    e.Statistic which value <$> inner true

  -- "-" prim
  unfoldable pub minus : Plain → Parser Expression
  minus plain = open_level >> e.Negative <$> level.next_expr true plain

  -- "(" expr ")"
  unfoldable pub parenthesized : Plain → Parser Expression
  parenthesized plain = do
    open_level
    x ← level.next_expr false plain
    expect k.Close
    pure x

  abbrev pub statistic_of : Kind → Parser Expression
  statistic_of k.Count = count
  statistic_of k.Total = statistic of.Total
  statistic_of k.Min = statistic of.Minimum
  statistic_of _ = statistic of.Maximum

  unfoldable pub statistic_by : Kind → Parser Expression
  statistic_by kind = open_level >> statistic_of kind

  -- prim := number | text | ref | "-" prim | "(" expr ")" | COUNT OF single | TOTAL expr OF single | MIN expr OF single | MAX expr OF single
  abbrev pub prim_by : Plain → Kind → Parser Expression
  prim_by plain k.Number = (λ n. e.Number (pos n.digits) n.scale) <$> number
  prim_by plain k.Quoted = e.Text <$> text
  prim_by plain k.Name = e.Field <$> reference
  prim_by plain k.Minus = minus plain
  prim_by plain k.Open = parenthesized plain
  prim_by plain k.Count = if plain then refuse else statistic_by k.Count
  prim_by plain k.Total = if plain then refuse else statistic_by k.Total
  prim_by plain k.Min = if plain then refuse else statistic_by k.Min
  prim_by plain k.Max = if plain then refuse else statistic_by k.Max
  prim_by plain _ = refuse

  unfoldable pub prim : Plain → Parser Expression
  prim plain = peek >>= prim_by plain

  -- { "*" prim }
  unfoldable pub products_from : Plain → ℕ → List Operation → Parser (List Operation)
  products_from plain zero found = pure found
  products_from plain (suc n) found = do
    more ← eat k.Star
    if more then (do x ← prim plain; products_from plain n (found ++ operation by.Times x ∷ [])) else pure found

  unfoldable pub products : Plain → Parser (List Operation)
  products plain = λ i. products_from plain (left i) [] i

  -- term := prim { "*" prim }
  unfoldable pub term_after : Plain → Expression → Parser Expression
  term_after plain first = chained first <$> products plain

  unfoldable pub term : Plain → Parser Expression
  term plain = prim plain >>= term_after plain

  -- a term behind its operator
  unfoldable pub signed_term : Plain → Arithmetic → Parser Operation
  signed_term plain o = operation o <$> term plain

  -- { ( "+" | "-" ) term }
  unfoldable pub sums_from : Plain → ℕ → List Operation → Parser (List Operation)
  sums_from plain zero found = pure found
  sums_from plain (suc n) found = do
    plus ← eat k.Plus
    if plus then (do x ← signed_term plain by.Plus; sums_from plain n (found ++ x ∷ [])) else (do
      minus ← eat k.Minus
      if minus then (do x ← signed_term plain by.Minus; sums_from plain n (found ++ x ∷ [])) else pure found)

  unfoldable pub sums : Plain → Parser (List Operation)
  sums plain = λ i. sums_from plain (left i) [] i

  -- expr := term { ( "+" | "-" ) term }
  unfoldable pub expr_after : Plain → Expression → Parser Expression
  expr_after plain first = chained first <$> sums plain

  unfoldable pub expr : Plain → Parser Expression
  expr plain = term plain >>= expr_after plain

  -- an expr that begins with this operand
  unfoldable pub expr_with : Expression → Parser Expression
  expr_with first = term_after false first >>= expr_after false

  -- compare := expr ( op expr | BETWEEN expr AND expr | CONTAINING expr | STARTING WITH expr | MISSING )
  unfoldable pub compared : Comparison → Expression → Parser Test
  compared o l = t.Compare o l <$> expr false

  unfoldable pub between : Expression → Parser Test
  between l = do
    low ← expr false
    expect k.And
    t.Between l low <$> expr false

  abbrev pub compare_by : Expression → Kind → Parser Test
  compare_by l k.Between = take_token >> between l
  compare_by l k.Containing = take_token >> t.Containing l <$> expr false
  compare_by l k.Starting = take_token >> expect k.With >> t.StartingWith l <$> expr false
  compare_by l k.Missing = take_token >> pure (t.Missing l)
  compare_by l _ = refuse

  abbrev pub compare_op : Expression → Kind → Option Comparison → Parser Test
  compare_op l kind (Some o) = take_token >> compared o l
  compare_op l kind None = compare_by l kind

  unfoldable pub compare_after : Expression → Parser Test
  compare_after l = peek >>= (λ kind. compare_op l kind (operator kind))

  unfoldable pub compare : Parser Test
  compare = expr false >>= compare_after

  -- NOT test
  unfoldable pub negated : Parser Test
  negated = open_level >> t.Not <$> level.next_test

  -- "(" cond ")"
  unfoldable pub grouped : Parser Test
  grouped = do
    open_level
    x ← level.next_cond
    expect k.Close
    pure (t.Group x)

  -- ANY inner
  unfoldable pub any : Parser Test
  any = open_level >> t.Any <$> inner false

  -- test := NOT test | "(" cond ")" | ANY inner | compare
  abbrev pub test_by : Kind → Parser Test
  test_by k.Not = negated
  test_by k.Open = grouped
  test_by k.Any = any
  test_by _ = compare

  unfoldable pub one_test : Parser Test
  one_test = peek >>= test_by

  -- test { AND test }
  unfoldable pub tests : Parser (List Test)
  tests = separated k.And one_test

  -- conj := test { AND test }
  unfoldable pub conj : Parser Conjunction
  conj = (λ all. roll-Conjunction (record { tests = all })) <$> tests

  -- conj { OR conj }
  unfoldable pub conjunctions : Parser (List Conjunction)
  conjunctions = separated k.Or conj

  -- cond := conj { OR conj }
  unfoldable pub cond : Parser Condition
  cond = (λ all. roll-Condition (record { conjunctions = all })) <$> conjunctions

-- One more than the levels that may still be opened. At zero nothing is read, and nothing is asked: the token that would open a level is refused first.
unfoldable mutual
  pub cond_at : ℕ → Parser Condition
  cond_at zero = refuse
  cond_at (suc depth) = cond (record { depth = depth; next_cond = cond_at depth; next_test = test_at depth; next_expr = expr_at depth })

  pub test_at : ℕ → Parser Test
  test_at zero = refuse
  test_at (suc depth) = one_test (record { depth = depth; next_cond = cond_at depth; next_test = test_at depth; next_expr = expr_at depth })

  pub expr_at : ℕ → Alone → Plain → Parser Expression
  expr_at zero alone plain = refuse
  expr_at (suc depth) alone plain =
      let level : Level = record { depth = depth; next_cond = cond_at depth; next_test = test_at depth; next_expr = expr_at depth } in
      if alone then prim level plain else expr level plain

-- the level in which this many levels may still be opened
abbrev pub level_at : ℕ → Level
level_at depth = record { depth = depth; next_cond = cond_at depth; next_test = test_at depth; next_expr = expr_at depth }

-- ---- selections and actions. The first number counts the levels that may still be opened.

-- assign := ref "=" expr ";"
unfoldable pub assign : ℕ → Parser Assign
assign depth = do
  field ← reference
  expect k.Equal
  value ← expr (level_at depth) false
  expect k.Semicolon
  pure (record { left = field; right = value })

-- { assign }
unfoldable pub assigns_from : ℕ → ℕ → List Assign → Parser (List Assign)
assigns_from depth zero found = pure found
assigns_from depth (suc n) found = λ i. (if sees k.Name i then (do x ← assign depth; assigns_from depth n (found ++ x ∷ [])) else pure found) i

unfoldable pub assigns : ℕ → Parser (List Assign)
assigns depth = λ i. assigns_from depth (left i) [] i

-- printed := expr | name "." "*"
-- A name and a point begin both, so an expr may go on from the ref that they turn out to begin.
unfoldable pub printed_ref : ℕ → Text → Parser PrintItem
printed_ref depth variable = do
  r ← ref_from variable
  p.Value <$> expr_with (level_at depth) (e.Field r)

unfoldable pub printed_name : ℕ → Parser PrintItem
printed_name depth = do
  variable ← name
  expect k.Dot
  all ← eat k.Star
  if all then pure (p.Fields variable) else printed_ref depth variable

abbrev pub printed_by : ℕ → Kind → Parser PrintItem
printed_by depth k.Name = printed_name depth
printed_by depth _ = p.Value <$> expr (level_at depth) false

unfoldable pub printed : ℕ → Parser PrintItem
printed depth = peek >>= printed_by depth

-- key := [ ASCENDING | DESCENDING ] ref
abbrev pub order_by : Kind → Parser Bool
order_by k.Ascending = take_token >> pure false
order_by k.Descending = take_token >> pure true
order_by _ = pure false

unfoldable pub order : Parser Bool
order = peek >>= order_by

unfoldable pub key : Parser SortKey
key = do
  descending ← order
  field ← reference
  pure (record { descending = descending; reference = field })

-- sorted := SORTED BY key { "," key }, after SORTED
unfoldable pub keys : Parser (List SortKey)
keys = separated k.Comma key

unfoldable pub references : Parser (List Reference)
references = separated k.Comma reference

unfoldable pub sorted : Parser (List SortKey)
sorted = expect k.By >> keys

-- reduced := REDUCED TO ref { "," ref }, after REDUCED
unfoldable pub reduced : Parser (List Reference)
reduced = expect k.To >> references

-- { sorted | reduced }, each at most once, in the order of the text
unfoldable pub sorted_only : Parser (List Clause)
sorted_only = do
  found ← eat k.Sorted
  if found then (λ keys. clause.Sorted keys ∷ []) <$> sorted else pure []

unfoldable pub reduced_only : Parser (List Clause)
reduced_only = do
  found ← eat k.Reduced
  if found then (λ refs. clause.Reduced refs ∷ []) <$> reduced else pure []

abbrev pub shape_by : Kind → Parser (List Clause)
shape_by k.Sorted = do
  take_token
  keys ← sorted
  more ← reduced_only
  pure (clause.Sorted keys ∷ more)
shape_by k.Reduced = do
  take_token
  refs ← reduced
  more ← sorted_only
  pure (clause.Reduced refs ∷ more)
shape_by _ = pure []

unfoldable pub shape : Parser (List Clause)
shape = peek >>= shape_by

-- selection := [ FIRST number ] range { CROSS range } [ WITH cond ] { sorted | reduced }
unfoldable pub selection : ℕ → Parser Selection
selection depth = do
  n ← first
  over ← crossed
  condition ← with (level_at depth)
  ordered ← shape
  pure (record { inner = roll-Inner (record { first = n; ranges = over; condition = condition }); clauses = ordered })

unfoldable pub printed_list : ℕ → Parser (List PrintItem)
printed_list depth = separated k.Comma (printed depth)

-- the point that may follow a statement
unfoldable pub point : Parser Bool
point = eat k.Dot

-- whether a token begins an action2
abbrev pub begins_action : Kind → Bool
begins_action k.Store = true
begins_action k.For = true
begins_action k.Print = true
begins_action k.Modify = true
begins_action k.Erase = true
begins_action _ = false

-- action := STORE range USING { assign } END_STORE
unfoldable pub store : ℕ → Parser Action
store depth = do
  into ← range
  expect k.Using
  values ← assigns depth
  expect k.EndStore
  pure (a.Store into values)

-- action2 := action | MODIFY name USING { assign } END_MODIFY
unfoldable pub modify : ℕ → Parser Action
modify depth = do
  variable ← name
  expect k.Using
  values ← assigns depth
  expect k.EndModify
  pure (a.Modify variable values)

-- | PRINT printed { "," printed }
unfoldable pub print : ℕ → Parser Action
print depth = a.Print <$> printed_list depth

-- the levels that may still be opened, and the action2 of the next level
module _ (depth : ℕ) (next_action : Parser Action) where
  -- { action2 [ "." ] }
  unfoldable pub body_from : ℕ → List Action → Parser (List Action)
  body_from zero found = pure found
  body_from (suc n) found = do
    kind ← peek
    if begins_action kind then (do x ← next_action; point; body_from n (found ++ x ∷ [])) else pure found

  unfoldable pub body : Parser (List Action)
  body = λ i. body_from (left i) [] i

  -- | FOR selection { action2 [ "." ] } END_FOR
  unfoldable pub for_action : Parser Action
  for_action = do
    open_level (level_at depth)
    over ← selection depth
    actions ← body
    expect k.EndFor
    pure (a.For over actions)

  -- A FOR opens a level. The flag says whether MODIFY and ERASE may stand here.
  abbrev pub action_by : Bool → Kind → Parser Action
  action_by nested k.Store = take_token >> store depth
  action_by nested k.For = for_action
  action_by nested k.Print = take_token >> print depth
  action_by nested k.Modify = if nested then take_token >> modify depth else refuse
  action_by nested k.Erase = if nested then take_token >> a.Erase <$> name else refuse
  action_by nested _ = refuse

  unfoldable pub action : Bool → Parser Action
  action nested = peek >>= action_by nested

unfoldable pub action_at : ℕ → Bool → Parser Action
action_at zero nested = refuse
action_at (suc depth) nested = action depth (action_at depth true) nested
