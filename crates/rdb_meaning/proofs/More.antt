-- Small scripts on rules that are easily read in two ways.
use Rattle.std.specs.Prelude.{◌≡◌, refl, ℕ, Bool, ◌++◌, true, false, pos, List, [], ◌∷◌, Some, None, codes, replicate}
use Rattle.rdo_ast.specs.declared.syntax.Comparison.TheVariants as by
use Rattle.rdo_ast.specs.declared.syntax.Share.TheVariants.{Shared}
use Rattle.rdo_ast.specs.declared.reply.Reply.{Reply}
use Rattle.rdo_ast.specs.declared.reply.Reply.TheVariants as r
use Rattle.rdo_ast.specs.Tree.{Expression, text, compare, between, group, test, conjunction, no_conjunction, without_condition, ranging, store, for_each, modify, erase, no_act, act, rollback, perform, define_relation, delete_index, define_field, start_read_write, said}
use Rattle.rdb_meaning.specs.Numbers.{absent}
use Rattle.rdb_meaning.specs.Scripts.{Script}
use Rattle.rdb_meaning.proofs.Rows.{run, plus, one, all_of, plain, start, base, each, shows, ref, set_to, in_relation, whole, with, is_equal, e, t, k, v, n0, nothing, again, all_of_t, at_line, defined, chars, x, a}

-- K = 9 and V + 9223372036854775807 > 0: the first part is false for both rows
abbrev too_large : Expression
too_large = plus (ref e v) (whole 9223372036854775807)

abbrev on_base : Script → List Reply → Type 0
on_base script replies = run (base (start ∷ script)) ≡ again 7 replies

pub false_part_decides : on_base (plain (said (each e t (all_of (test (compare by.Greater too_large (whole 0)) (one (is_equal (ref e k) (whole 9))))) (shows (ref e k)))) ∷ []) (nothing ∷ [])
false_part_decides = refl

-- the same in parentheses is one part, so it overflows
pub group_is_one_part : on_base (plain (said (each e t (with (group (conjunction (test (compare by.Greater too_large (whole 0)) (one (is_equal (ref e k) (whole 9)))) no_conjunction))) (shows (ref e k)))) ∷ []) (r.Overflow ∷ [])
group_is_one_part = refl

-- FIRST 1 does not spare the second row: 10 + 9223372036854775797 fits, 20 + 9223372036854775797 does not
pub first_spares_nothing : on_base (plain (said (perform (for_each (ranging (Some 1) (in_relation e t ∷ []) (with (compare by.Greater (plus (ref e v) (whole 9223372036854775797)) (whole 0)))) [] (act (shows (ref e k)) no_act)))) ∷ []) (r.Overflow ∷ [])
first_spares_nothing = refl

-- a row that the body erased reads as missing, and the selection was made before
pub erased_reads_missing : on_base (plain (said (perform (for_each (ranging None (in_relation e t ∷ []) without_condition) [] (act (erase e) (act (shows (ref e k)) no_act))))) ∷ []) (r.Done ((absent ∷ []) ∷ (absent ∷ []) ∷ []) ∷ [])
erased_reads_missing = refl

-- BETWEEN, and a key that is there already at a MODIFY, until its index is gone
pub between_and_duplicates : on_base
    (plain (said (each e t (with (between (ref e k) (whole 2) (whole 9))) (shows (ref e v)))) ∷
    plain (said (each e t (with (is_equal (ref e k) (whole 1))) (modify e (set_to e k (whole 2) ∷ [])))) ∷
    plain (said (delete_index (codes "TK"))) ∷
    plain (said (each e t (with (is_equal (ref e k) (whole 1))) (modify e (set_to e k (whole 2) ∷ [])))) ∷
    all_of_t ∷ plain (said rollback) ∷ [])
    (r.Done ((n0 (pos 20) ∷ []) ∷ []) ∷ r.Duplicate (codes "TK") ∷ nothing ∷ nothing ∷
    r.Done ((n0 (pos 2) ∷ n0 (pos 10) ∷ []) ∷ (n0 (pos 2) ∷ n0 (pos 20) ∷ []) ∷ []) ∷ nothing ∷ [])
between_and_duplicates = refl

-- an image of 440 bytes fits, one of 441 does not
abbrev w : List ℕ
w = codes "W"

abbrev long_text : ℕ → Script
long_text count = (said (perform (store (in_relation x w) (set_to x a (text (replicate count 65)) ∷ []))), at_line 0) ∷ []

pub longest_image : run (start ∷ plain (said (define_relation w (defined a (chars 435) ∷ []))) ∷ long_text 434) ≡ nothing ∷ nothing ∷ nothing ∷ []
longest_image = refl

pub image_too_long : run (start ∷ plain (said (define_relation w (defined a (chars 435) ∷ []))) ∷ long_text 435) ≡ nothing ∷ nothing ∷ r.TooLong ∷ []
image_too_long = refl

-- DELETE INDEX changes the relation of its index, and definitions of relations and fields need no reservation
abbrev reserving_t : Bool → Script
reserving_t writes = plain (said (start_read_write true (record { relation = t; share = Shared; writes = writes } ∷ []))) ∷ []

abbrev delete_tk : Script
delete_tk = plain (said (delete_index (codes "TK"))) ∷ []

pub index_of_a_reserved_relation : run (base (reserving_t false ++ delete_tk ++ plain (said (define_relation x (defined a (chars 4) ∷ []))) ∷ plain (said (define_field x (chars 4))) ∷ plain (said rollback) ∷ reserving_t true ++ delete_tk)) ≡
    again 6 (nothing ∷ r.NotReserved t ∷ nothing ∷ nothing ∷ nothing ∷ nothing ∷ nothing ∷ [])
index_of_a_reserved_relation = refl
