-- A PRINT without statistics, a MODIFY or an ERASE that stands alone means the same over all tables.
use Rattle.std.proofs.Common.{◌≡◌, ◌&&◌, ◌||◌, ℕ, Bool, true, false, List, [], ◌∷◌, Some, None, refl, sym, ap, ◌∙◌}
use Rattle.std.specs.List.{list_any}
use Rattle.rdb_types.specs.declared.keys.Dbkey.{Dbkey}
use Rattle.rdo_ast.specs.declared.reply.Reply.{Reply}
use Rattle.rdo_ast.specs.declared.reply.Reply.TheVariants.{NoSuch}
use Rattle.rdo_ast.specs.declared.reply.Standing.{Standing}
use Rattle.rdo_ast.specs.Tree.{Expression, number, text, field, negative, chain, count, statistic, Operations, no_operation, operation, Shown, value, all_fields, Act, store, for_each, print, modify, erase, perform, said}
use Rattle.rdb_meaning.specs.declared.tables.Tables.{Tables}
use Rattle.rdb_meaning.specs.Contents.{no_tables}
use Rattle.rdb_meaning.specs.Numbers.{Computed, negation, arithmetic}
use Rattle.rdb_meaning.specs.Checks as checks
use Rattle.rdb_meaning.specs.Checks.{Refusal, or_else, reservation_refusal, act_uses}
use Rattle.rdb_meaning.specs.Evaluation.{computed, computed_after}
use Rattle.rdb_meaning.specs.Execution.{Line, line, no_line, joined, value_line, printed, printed_in, world, done}
use Rattle.rdb_meaning.specs.Meaning.{Meaning, means, meaningless, unless, after_running, clash, reservations_of, needs_read_write, act_refusal, standing_for, meaning, Does}
use Rattle.rdo_exec.specs.Ways.{is_plain, are_plain, all_plain, is_bare}

and_first : (a b : Bool) → (a && b) ≡ true → a ≡ true
and_first true b h = refl
and_first false b h = cc

and_rest : (a b : Bool) → (a && b) ≡ true → b ≡ true
and_rest true b h = h
and_rest false b h = cc

-- the same meaning, with these tables behind it
abbrev with_tables : Tables → Meaning → Meaning
with_tables u (means reply t standing choices) = means reply u standing choices
with_tables u meaningless = meaningless

module _ (t u : Tables) where
  mutual
    names_same : (e : Expression) → is_plain e ≡ true → checks.expression_names e t [] ≡ checks.expression_names e u []
    names_same (number n scale) p = refl
    names_same (text s) p = refl
    names_same (field r) p = refl
    names_same (negative e) p = names_same e p
    names_same (chain e os) p = λ i. or_else (names_same e (and_first (is_plain e) (are_plain os) p) i) (operations_names os (and_rest (is_plain e) (are_plain os) p) i)
    names_same (count r) p = cc
    names_same (statistic s e r) p = cc

    operations_names : (os : Operations) → are_plain os ≡ true → checks.operations_names os t [] ≡ checks.operations_names os u []
    operations_names no_operation p = refl
    operations_names (operation op e os) p = λ i. or_else (names_same e (and_first (is_plain e) (are_plain os) p) i) (operations_names os (and_rest (is_plain e) (are_plain os) p) i)

  textual_same : (e : Expression) → is_plain e ≡ true → checks.is_textual e t [] ≡ checks.is_textual e u []
  textual_same (number n scale) p = refl
  textual_same (text s) p = refl
  textual_same (field r) p = refl
  textual_same (negative e) p = refl
  textual_same (chain e os) p = refl
  textual_same (count r) p = cc
  textual_same (statistic s e r) p = cc

  mutual
    clashes_same : (e : Expression) → is_plain e ≡ true → checks.expression_clashes e t [] ≡ checks.expression_clashes e u []
    clashes_same (number n scale) p = refl
    clashes_same (text s) p = refl
    clashes_same (field r) p = refl
    clashes_same (negative e) p = λ i. clashes_same e p i || textual_same e p i
    clashes_same (chain e os) p = λ i.
        clashes_same e (and_first (is_plain e) (are_plain os) p) i || textual_same e (and_first (is_plain e) (are_plain os) p) i || operations_clash os (and_rest (is_plain e) (are_plain os) p) i
    clashes_same (count r) p = cc
    clashes_same (statistic s e r) p = cc

    operations_clash : (os : Operations) → are_plain os ≡ true → checks.operations_clash os t [] ≡ checks.operations_clash os u []
    operations_clash no_operation p = refl
    operations_clash (operation op e os) p = λ i.
        clashes_same e (and_first (is_plain e) (are_plain os) p) i || textual_same e (and_first (is_plain e) (are_plain os) p) i || operations_clash os (and_rest (is_plain e) (are_plain os) p) i

  mutual
    computed_same : (e : Expression) → is_plain e ≡ true → computed e t [] ≡ computed e u []
    computed_same (number n scale) p = refl
    computed_same (text s) p = refl
    computed_same (field r) p = refl
    computed_same (negative e) p = ap negation (computed_same e p)
    computed_same (chain e os) p =
        ap (λ v. computed_after v os t []) (computed_same e (and_first (is_plain e) (are_plain os) p))
        ∙ after_same (computed e u []) os (and_rest (is_plain e) (are_plain os) p)
    computed_same (count r) p = cc
    computed_same (statistic s e r) p = cc

    after_same : (v : Computed) (os : Operations) → are_plain os ≡ true → computed_after v os t [] ≡ computed_after v os u []
    after_same v no_operation p = refl
    after_same v (operation op e os) p =
        ap (λ w. computed_after (arithmetic op v w) os t []) (computed_same e (and_first (is_plain e) (are_plain os) p))
        ∙ after_same (arithmetic op v (computed e u [])) os (and_rest (is_plain e) (are_plain os) p)

  shown_names_same : (items : List Shown) → all_plain items ≡ true → checks.first_refusal (checks.shown_names t []) items ≡ checks.first_refusal (checks.shown_names u []) items
  shown_names_same [] p = refl
  shown_names_same (value e ∷ items) p = λ i. or_else (names_same e (and_first (is_plain e) (all_plain items) p) i) (shown_names_same items (and_rest (is_plain e) (all_plain items) p) i)
  shown_names_same (all_fields n ∷ items) p = λ i. or_else (Some (NoSuch n)) (shown_names_same items p i)

  shown_clashes_same : (items : List Shown) → all_plain items ≡ true → list_any (checks.shown_clashes t []) items ≡ list_any (checks.shown_clashes u []) items
  shown_clashes_same [] p = refl
  shown_clashes_same (value e ∷ items) p = λ i. clashes_same e (and_first (is_plain e) (all_plain items) p) i || shown_clashes_same items (and_rest (is_plain e) (all_plain items) p) i
  shown_clashes_same (all_fields n ∷ items) p = shown_clashes_same items p

  printed_same : (items : List Shown) → all_plain items ≡ true → printed items t [] ≡ printed items u []
  printed_same [] p = refl
  printed_same (value e ∷ items) p = λ i. joined (value_line (computed_same e (and_first (is_plain e) (all_plain items) p) i)) (printed_same items (and_rest (is_plain e) (all_plain items) p) i)
  printed_same (all_fields n ∷ items) p = λ i. joined (line []) (printed_same items p i)

  -- ---- meanings

  print_refusal_same : (items : List Shown) (standing : Standing) → all_plain items ≡ true → act_refusal (print items) standing t ≡ act_refusal (print items) standing u
  print_refusal_same items standing p = λ i.
      or_else (shown_names_same items p i) (or_else (reservation_refusal (reservations_of standing) (act_uses (print items) [])) (clash (shown_clashes_same items p i)))

  run_same : (l : Line) (behind : Standing) (choices : List Dbkey) →
      after_running (printed_in (world u choices []) l) u behind choices ≡ with_tables u (after_running (printed_in (world t choices []) l) t behind choices)
  run_same (line vs) behind choices = refl
  run_same no_line behind choices = refl

  unless_same : (o : Refusal) (behind : Standing) (choices : List Dbkey) (x y : Meaning) → y ≡ with_tables u x → unless o u behind choices y ≡ with_tables u (unless o t behind choices x)
  unless_same (Some reply) behind choices x y same = refl
  unless_same None behind choices x y same = same

  unless_refused : (o : Refusal) (reply : Reply) (behind : Standing) (choices : List Dbkey) (x y : Meaning) →
      unless (or_else o (Some reply)) u behind choices y ≡ with_tables u (unless (or_else o (Some reply)) t behind choices x)
  unless_refused (Some why) reply behind choices x y = refl
  unless_refused None reply behind choices x y = refl

  pub bare_same : (word : List ℕ) (a : Act) (standing : Standing) (choices : List Dbkey) → is_bare a ≡ true →
      meaning word standing (said (perform a)) choices u ≡ with_tables u (meaning word standing (said (perform a)) choices t)
  bare_same word (store s as') standing choices p = cc
  bare_same word (for_each r cs body) standing choices p = cc
  bare_same word (print items) standing choices p =
      let behind : Standing = standing_for (print items) standing in
      let own : (l : Line) → Meaning = λ (l : Line). after_running (printed_in (world u choices []) l) u behind choices in
      ap (λ o. unless o u behind choices (own (printed items u []))) (sym (print_refusal_same items standing p))
      ∙ ap (λ l. unless (act_refusal (print items) standing t) u behind choices (own l)) (sym (printed_same items p))
      ∙ unless_same (act_refusal (print items) standing t) behind choices (after_running (printed_in (world t choices []) (printed items t [])) t behind choices) (own (printed items t [])) (run_same (printed items t []) behind choices)
  bare_same word (modify n as') standing choices p =
      unless_refused (needs_read_write standing) (NoSuch n) standing choices (after_running (done (modify n as') t [] (world t choices [])) t standing choices) (after_running (done (modify n as') u [] (world u choices [])) u standing choices)
  bare_same word (erase n) standing choices p =
      unless_refused (needs_read_write standing) (NoSuch n) standing choices (after_running (done (erase n) t [] (world t choices [])) t standing choices) (after_running (done (erase n) u [] (world u choices [])) u standing choices)

-- what is meant over these tables is meant over all
pub does_everywhere : (word : List ℕ) (a : Act) (standing : Standing) (choices : List Dbkey) (reply : Reply) (then : Tables) (behind : Standing) → is_bare a ≡ true →
    Does word standing (said (perform a)) choices no_tables reply then behind → (t : Tables) → Does word standing (said (perform a)) choices t reply t behind
does_everywhere word a standing choices reply then behind p does t = bare_same no_tables t word a standing choices p ∙ ap (with_tables t) does
