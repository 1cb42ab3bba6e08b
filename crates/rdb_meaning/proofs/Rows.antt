-- Worked scripts, whose replies the definitions compute.
use Rattle.std.specs.Prelude.{◌≡◌, refl, ℕ, zero, suc, true, false, ℤ, pos, negsuc, List, [], ◌∷◌, Some, None, codes}
use Rattle.ordered_entries.specs.rdb_types.declared.values.Scaled.{Scaled}
use Rattle.ordered_entries.specs.rdb_types.declared.keys.Dbkey.{Dbkey}
use Rattle.ordered_entries.specs.rdb_types.declared.values.FieldType.{FieldType}
use Rattle.ordered_entries.specs.rdb_types.declared.values.DataType.TheVariants as data_type
use Rattle.ordered_entries.specs.rdb_types.declared.values.DataType.TheVariants.{Word, Longword, Quadword}
use Rattle.rdo_ast.specs.declared.syntax.Range.{Range}
use Rattle.rdo_ast.specs.declared.syntax.Clause.TheVariants.{Sorted}
use Rattle.rdo_ast.specs.declared.syntax.Comparison.TheVariants as by
use Rattle.rdo_ast.specs.declared.syntax.Arithmetic.TheVariants.{Plus}
use Rattle.rdo_ast.specs.declared.syntax.Statistic.TheVariants.{Total, Minimum}
use Rattle.rdo_ast.specs.declared.syntax.Share.TheVariants.{Shared, Protected}
use Rattle.rdo_ast.specs.declared.syntax.FieldDefinition.{FieldDefinition}
use Rattle.rdo_ast.specs.declared.syntax.DefinedType.TheVariants.{Own, BasedOn}
use Rattle.rdo_ast.specs.declared.reply.Reply.{Reply}
use Rattle.rdo_ast.specs.declared.reply.Reply.TheVariants as r
use Rattle.rdo_ast.specs.Tree.{Name, Expression, number, text, field, negative, chain, count, statistic, no_operation, operation, Testing, compare, missing, negated, Conjunction, no_test, test, no_conjunction, conjunction, Ranging, ranging, With, without_condition, with_condition, Assignment, value, all_fields, Act, store, for_each, print, modify, no_act, act, Command, invoke, start_read_write, commit, rollback, finish, perform, define_field, define_relation, define_index, Uttered, said, syntax_fault}
use Rattle.rdb_meaning.specs.Numbers.{numeral, letters, absent}
use Rattle.rdb_meaning.specs.Scripts.{Script, Alone, fresh, replies, after_script}

abbrev pub run : Script → List Reply
run script = replies (codes "PERS") script fresh

-- ---- short words

abbrev pub at_line : ℕ → List Dbkey
at_line n = record { area = 16; page = 2; line = n } ∷ []

abbrev pub plain : Uttered → Uttered × List Dbkey
plain u = (u, [])

abbrev pub word : FieldType
word = record { kind = Word; scale = 0; size = 0 }

abbrev pub longword : FieldType
longword = record { kind = Longword; scale = 0; size = 0 }

abbrev pub quadword : FieldType
quadword = record { kind = Quadword; scale = 0; size = 0 }

abbrev pub chars : ℕ → FieldType
chars n = record { kind = data_type.Text; scale = 0; size = n }

abbrev pub defined : Name → FieldType → FieldDefinition
defined n type = record { name = n; kind = Own type }

abbrev pub ref : Name → Name → Expression
ref v f = field (record { variable = v; field = f })

abbrev pub set_to : Name → Name → Expression → Assignment
set_to v f e = record { left = record { variable = v; field = f }; right = e }

abbrev pub in_relation : Name → Name → Range
in_relation v n = record { variable = v; relation = n }

abbrev pub each : Name → Name → With → Act → Command
each v n c a = perform (for_each (ranging None (in_relation v n ∷ []) c) [] (act a no_act))

abbrev pub whole : ℕ → Expression
whole n = number (pos n) 0

abbrev pub shows : Expression → Act
shows e = print (value e ∷ [])

abbrev pub is_equal : Expression → Expression → Testing
is_equal = compare by.Equal

abbrev pub plus : Expression → Expression → Expression
plus a b = chain a (operation Plus b no_operation)

abbrev pub one : Testing → Conjunction
one c = test c no_test

abbrev pub all_of : Conjunction → With
all_of c = with_condition (conjunction c no_conjunction)

abbrev pub with : Testing → With
with c = all_of (one c)

abbrev pub start : Uttered × List Dbkey
start = plain (said (start_read_write true []))

abbrev pub n0 : ℤ → Scaled
n0 n = numeral n 0

abbrev pub nothing : Reply
nothing = r.Done []

-- ---- the first run

abbrev pub dept : Name
dept = codes "DEPT"

abbrev pub d : Name
d = codes "D"

abbrev pub code : Name
code = codes "CODE"

abbrev pub staff : Name
staff = codes "STAFF"

abbrev pub first_script : Script
first_script =
    start ∷
    plain (said (define_relation dept (defined code (chars 4) ∷ defined staff word ∷ []))) ∷
    (said (perform (store (in_relation d dept) (set_to d code (text (codes "ENGR")) ∷ set_to d staff (whole 12) ∷ []))), at_line 0) ∷
    (said (perform (store (in_relation d dept) (set_to d code (text (codes "ADMN")) ∷ []))), at_line 1) ∷
    plain (said (each d dept without_condition (print (value (ref d code) ∷ value (ref d staff) ∷ [])))) ∷
    plain (said (each d dept (with (compare by.Greater (ref d staff) (whole 5))) (print (all_fields d ∷ [])))) ∷
    plain (said commit) ∷ []

pub first_run : run first_script ≡
    nothing ∷ nothing ∷ nothing ∷ nothing ∷
    r.Done ((letters (codes "ENGR") ∷ n0 (pos 12) ∷ []) ∷ (letters (codes "ADMN") ∷ absent ∷ []) ∷ []) ∷
    r.Done ((letters (codes "ENGR") ∷ n0 (pos 12) ∷ []) ∷ []) ∷
    nothing ∷ []
first_run = refl

-- ---- missing values

abbrev pub q : Name
q = codes "Q"

abbrev pub x : Name
x = codes "X"

abbrev pub a : Name
a = codes "A"

abbrev pub all_x : Ranging
all_x = ranging None (in_relation x q ∷ []) without_condition

abbrev pub missing_script : Script
missing_script =
    start ∷
    plain (said (define_relation q (defined a longword ∷ []))) ∷
    plain (said (each x q without_condition (shows (ref x a)))) ∷
    plain (said (perform (print (value (count all_x) ∷ value (statistic Total (ref x a) all_x) ∷ value (statistic Minimum (ref x a) all_x) ∷ [])))) ∷
    (said (perform (store (in_relation x q) [])), at_line 0) ∷
    plain (said (each x q without_condition (shows (ref x a)))) ∷
    plain (said (perform (for_each (ranging (Some 0) (in_relation x q ∷ []) without_condition) [] (act (shows (ref x a)) no_act)))) ∷
    plain (said (each x q (with (is_equal (ref x a) (ref x a))) (shows (text (codes "EQ"))))) ∷
    plain (said (each x q (with (negated (is_equal (ref x a) (ref x a)))) (shows (text (codes "NE"))))) ∷
    plain (said (each x q (with_condition (conjunction (one (missing (ref x a))) (conjunction (one (is_equal (ref x a) (whole 1))) no_conjunction))) (shows (text (codes "OR"))))) ∷
    plain (said rollback) ∷ []

pub missing_values : run missing_script ≡
    nothing ∷ nothing ∷ nothing ∷
    r.Done ((n0 (pos 0) ∷ n0 (pos 0) ∷ absent ∷ []) ∷ []) ∷
    nothing ∷ r.Done ((absent ∷ []) ∷ []) ∷ nothing ∷ nothing ∷ nothing ∷
    r.Done ((letters (codes "OR") ∷ []) ∷ []) ∷ nothing ∷ []
missing_values = refl

-- ---- a key that is there already

abbrev pub t : Name
t = codes "T"

abbrev pub e : Name
e = codes "E"

abbrev pub k : Name
k = codes "K"

abbrev pub v : Name
v = codes "V"

abbrev pub store_t : ℕ → ℕ → Uttered
store_t i j = said (perform (store (in_relation e t) (set_to e k (whole i) ∷ set_to e v (whole j) ∷ [])))

abbrev pub base : Script → Script
base rest =
    start ∷
    plain (said (define_relation t (defined k longword ∷ defined v quadword ∷ []))) ∷
    plain (said (define_index (record { name = codes "TK"; relation = t; unique = true; fields = k ∷ [] }))) ∷
    (store_t 1 10, at_line 0) ∷ (store_t 2 20, at_line 1) ∷ plain (said commit) ∷ rest

abbrev pub all_of_t : Uttered × List Dbkey
all_of_t = plain (said (each e t without_condition (print (all_fields e ∷ []))))

pub duplicate_key : run (base (start ∷ plain (store_t 2 99) ∷ all_of_t ∷ plain (said commit) ∷ [])) ≡
    nothing ∷ nothing ∷ nothing ∷ nothing ∷ nothing ∷ nothing ∷ nothing ∷
    r.Duplicate (codes "TK") ∷
    r.Done ((n0 (pos 1) ∷ n0 (pos 10) ∷ []) ∷ (n0 (pos 2) ∷ n0 (pos 20) ∷ []) ∷ []) ∷ nothing ∷ []
duplicate_key = refl

-- ---- an overflow in the second row undoes the first

abbrev pub n : Name
n = codes "N"

abbrev pub store_n : ℕ → ℕ → Uttered × List Dbkey
store_n line i = (said (perform (store (in_relation e n) (set_to e v (whole i) ∷ []))), at_line line)

abbrev pub overflow_script : Script
overflow_script =
    start ∷
    plain (said (define_relation n (defined v quadword ∷ []))) ∷
    store_n 0 1 ∷ store_n 1 9223372036854775807 ∷ store_n 2 3 ∷
    plain (said (perform (for_each (ranging None (in_relation e n ∷ []) without_condition) []
    (act (modify e (set_to e v (plus (ref e v) (whole 1)) ∷ [])) (act (shows (ref e v)) no_act))))) ∷
    plain (said (each e n without_condition (shows (ref e v)))) ∷ plain (said commit) ∷ []

pub overflow_undone : run overflow_script ≡
    nothing ∷ nothing ∷ nothing ∷ nothing ∷ nothing ∷
    r.Overflow ∷
    r.Done ((n0 (pos 1) ∷ []) ∷ (n0 (pos 9223372036854775807) ∷ []) ∷ (n0 (pos 3) ∷ []) ∷ []) ∷ nothing ∷ []
overflow_undone = refl

-- ---- refusals in order, behind the first run

abbrev pub refusals_script : Script
refusals_script =
    plain (said commit) ∷
    plain (syntax_fault 2 11) ∷
    plain (said (each d (codes "DEPTS") without_condition (shows (ref d code)))) ∷
    plain (said (perform (store (in_relation d dept) (set_to d code (text (codes "X")) ∷ [])))) ∷
    start ∷
    plain (said rollback) ∷
    plain (said (start_read_write true (record { relation = dept; share = Shared; writes = false } ∷ []))) ∷
    plain (said (perform (store (in_relation d dept) (set_to d code (text (codes "X")) ∷ [])))) ∷
    plain (said (each d dept (with (is_equal (ref d staff) (text (codes "A")))) (shows (whole 1)))) ∷
    plain (said (define_relation dept (defined a word ∷ []))) ∷
    plain (said finish) ∷ []

abbrev pub after_first_run : Alone
after_first_run = after_script (codes "PERS") first_script fresh

pub refusals_in_order : replies (codes "PERS") refusals_script after_first_run ≡
    r.NoTransaction ∷ r.Syntax 2 11 ∷ r.NoSuch (codes "DEPTS") ∷ r.ReadOnly ∷ r.InTransaction ∷ nothing ∷ nothing ∷
    r.NotReserved dept ∷ r.TypeClash ∷ r.Exists dept ∷ r.InTransaction ∷ []
refusals_in_order = refl

-- ---- a personnel database of four, with a scale, a field based on another, a CROSS in descending order, and totals

abbrev pub employees : Name
employees = codes "EMPLOYEES"

abbrev pub history : Name
history = codes "JOB_HISTORY"

abbrev pub id : Name
id = codes "EMPLOYEE_ID"

abbrev pub last : Name
last = codes "LAST_NAME"

abbrev pub salary : Name
salary = codes "SALARY"

abbrev pub job : Name
job = codes "JOB_CODE"

abbrev pub j : Name
j = codes "J"

abbrev pub based : Name → FieldDefinition
based m = record { name = m; kind = BasedOn (codes "ID_NUMBER") }

abbrev pub employee : ℕ → List ℕ → List ℕ → ℕ → Uttered × List Dbkey
employee line key name cents = (
  said (perform (store (in_relation e employees)
      (set_to e id (text key) ∷ set_to e last (text name) ∷ set_to e salary (number (pos cents) 2) ∷ []))),
  record { area = 16; page = 2; line = line } ∷ [],
)

abbrev pub worked : ℕ → List ℕ → List ℕ → Uttered × List Dbkey
worked line key code' =
    (said (perform (store (in_relation j history) (set_to j id (text key) ∷ set_to j job (text code') ∷ []))), record { area = 18; page = 2; line = line } ∷ [])

abbrev pub total_salary : Uttered × List Dbkey
total_salary = plain (said (perform (print (value (statistic Total (ref e salary) (ranging None (in_relation e employees ∷ []) without_condition)) ∷ []))))

abbrev pub personnel_script : Script
personnel_script =
    plain (said (invoke (codes "pers"))) ∷
    start ∷
    plain (said (define_field (codes "ID_NUMBER") (chars 5))) ∷
    plain (said (define_relation employees (based id ∷ defined last (chars 14) ∷ defined salary (record { kind = Longword; scale = 2; size = 0 }) ∷ []))) ∷
    plain (said (define_relation history (based id ∷ defined job (chars 4) ∷ []))) ∷
    plain (said (define_index (record { name = codes "EMP_ID"; relation = employees; unique = true; fields = id ∷ [] }))) ∷
    plain (said (define_index (record { name = codes "JH_ID"; relation = history; unique = false; fields = id ∷ [] }))) ∷
    employee 0 (codes "00001") (codes "N1") 100150 ∷ employee 1 (codes "00002") (codes "N2") 100250 ∷
    employee 2 (codes "00003") (codes "N3") 100350 ∷ employee 3 (codes "00004") (codes "N4") 100450 ∷
    worked 0 (codes "00001") (codes "J3") ∷ worked 1 (codes "00002") (codes "J2") ∷
    worked 2 (codes "00003") (codes "J3") ∷ worked 3 (codes "00004") (codes "J3") ∷
    plain (said commit) ∷
    total_salary ∷
    plain (said (perform (for_each (ranging (Some 2) (in_relation e employees ∷ in_relation j history ∷ [])
    (all_of (test (is_equal (ref e id) (ref j id)) (one (is_equal (ref j job) (text (codes "J3")))))))
    (Sorted (record { descending = true; reference = record { variable = e; field = id } } ∷ []) ∷ [])
    (act (print (value (ref e last) ∷ value (ref j job) ∷ value (ref e salary) ∷ [])) no_act)))) ∷
    plain (said commit) ∷
    plain (said (start_read_write true (record { relation = employees; share = Protected; writes = true } ∷ record { relation = history; share = Shared; writes = false } ∷ []))) ∷
    plain (said (each e employees (with (is_equal (ref e id) (text (codes "00003"))))
    (modify e (set_to e salary (plus (ref e salary) (whole 100)) ∷ [])))) ∷
    plain (said commit) ∷
    total_salary ∷
    plain (said commit) ∷
    plain (said finish) ∷ []

abbrev pub again : ℕ → List Reply → List Reply
again zero rs = rs
again (suc m) rs = nothing ∷ again m rs

pub personnel : run personnel_script ≡
    again 16 (r.Done ((numeral (pos 401200) 2 ∷ []) ∷ []) ∷
    r.Done ((letters (codes "N4") ∷ letters (codes "J3") ∷ numeral (pos 100450) 2 ∷ []) ∷
    (letters (codes "N3") ∷ letters (codes "J3") ∷ numeral (pos 100350) 2 ∷ []) ∷ []) ∷
    again 4 (r.Done ((numeral (pos 411200) 2 ∷ []) ∷ []) ∷ again 2 []))
personnel = refl

-- ---- a negative number with digits after the point

pub printed_outside : run (plain (said (perform (print (value (text (codes "a b")) ∷ value (negative (number (pos 5) 2)) ∷ [])))) ∷ []) ≡
    r.Done ((letters (codes "a b") ∷ numeral (negsuc 4) 2 ∷ []) ∷ []) ∷ []
printed_outside = refl
