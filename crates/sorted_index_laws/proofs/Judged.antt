-- Which nodes a search of a node's children has found there.
use Rattle.std.proofs.Common.{◌≡◌, ℕ, suc, ◌≤◌, Bool, true, false, cond, List, ◌∷◌, length, drop, Some, None, refl, sym, ap, subst, ◌∙◌, inl, inr}
use Rattle.std.specs.Prelude.{◌⊎◌}
use Rattle.std.specs.List.{AllByRecursion, cons_option}
use Rattle.std.proofs.lemmas.List.{drop_all}
use Rattle.rdb_types.specs.declared.keys.Dbkey.{Dbkey}
use Rattle.index_node.specs.declared.entry.NodeEntry.{NodeEntry}
use Rattle.index_node.specs.declared.node.IndexNode.{IndexNode}
use Rattle.line_view.specs.Knowledge.{Lines, line_in}
use Rattle.sorted_index_laws.specs.Keys.{Interval}
use Rattle.sorted_index_laws.specs.Tree.{Bears}
use Rattle.sorted_index_laws.specs.Search.{may_hold}
use Rattle.sorted_index_laws.specs.Nodes.{children_read, AreThere, AnyByRecursion, Lacks}
use Rattle.sorted_index_laws.proofs.Children.{is_first}

abbrev pub IsThere : Lines → Interval → ℕ → Dbkey → Type 0
IsThere lines s level child = (node : IndexNode) × (Bears (line_in child lines) node × (node.level ≡ level) × AreThere lines s level node.entries)

abbrev pub IsLacked : Lines → Interval → ℕ → Dbkey → Dbkey → Type 0
IsLacked lines s level bad child = ((bad ≡ child) × ((node : IndexNode) → Bears (line_in child lines) node → node.level ≡ level → ⊥))
    ⊎ ((node : IndexNode) × (Bears (line_in child lines) node × (node.level ≡ level) × Lacks lines s level node.entries bad))

-- what the children from a place on tell, all children tell
pub record Judged (lines : Lines) (s : Interval) (level : ℕ) (entries : List NodeEntry) (i : ℕ) : Type 0 where
  pub there : AllByRecursion (IsThere lines s level) (children_read s (is_first i) (drop i entries)) → AllByRecursion (IsThere lines s level) (children_read s true entries)
  pub lacks : (bad : Dbkey) → AnyByRecursion (IsLacked lines s level bad) (children_read s (is_first i) (drop i entries)) → AnyByRecursion (IsLacked lines s level bad) (children_read s true entries)

pub none_judged : (lines : Lines) (s : Interval) (level : ℕ) (entries : List NodeEntry) → Judged lines s level entries 0
none_judged lines s level entries = record { there = λ h. h; lacks = λ bad h. h }

same_read : (lines : Lines) (s : Interval) (level : ℕ) (entries : List NodeEntry) (i : ℕ) → Judged lines s level entries i → children_read s (is_first i) (drop i entries) ≡ children_read s false (drop (suc i) entries) → Judged lines s level entries (suc i)
same_read lines s level entries i was same = record {
  there = λ h. was.there (subst (AllByRecursion (IsThere lines s level)) (sym same) h);
  lacks = λ bad h. was.lacks bad (subst (AnyByRecursion (IsLacked lines s level bad)) (sym same) h);
}

-- a child that isn't read tells nothing
pub passed_over : (lines : Lines) (s : Interval) (level : ℕ) (entries : List NodeEntry) (i : ℕ) (entry : NodeEntry) → Judged lines s level entries i → drop i entries ≡ entry ∷ drop (suc i) entries → may_hold s (is_first i) (drop i entries) ≡ false → Judged lines s level entries (suc i)
passed_over lines s level entries i entry was behind fails =
    let rest = drop (suc i) entries in
    same_read lines s level entries i was
    (ap (children_read s (is_first i)) behind ∙ ap (λ b. cond b (cons_option entry.child (children_read s false rest)) (children_read s false rest)) (ap (may_hold s (is_first i)) (sym behind) ∙ fails))

pub childless : (lines : Lines) (s : Interval) (level : ℕ) (entries : List NodeEntry) (i : ℕ) (entry : NodeEntry) → Judged lines s level entries i → drop i entries ≡ entry ∷ drop (suc i) entries → entry.child ≡ None → Judged lines s level entries (suc i)
childless lines s level entries i entry was behind none =
    let rest = drop (suc i) entries in
    same_read lines s level entries i was
    (ap (children_read s (is_first i)) behind ∙ (ap (λ child. cond (may_hold s (is_first i) (entry ∷ rest)) (cons_option child (children_read s false rest)) (children_read s false rest)) none
    ∙ alike (may_hold s (is_first i) (entry ∷ rest)) (children_read s false rest)))
  where
    alike : (b : Bool) (xs : List Dbkey) → cond b xs xs ≡ xs
    alike true xs = refl
    alike false xs = refl

read_there : (s : Interval) (entries : List NodeEntry) (i : ℕ) (entry : NodeEntry) (child : Dbkey) → drop i entries ≡ entry ∷ drop (suc i) entries → may_hold s (is_first i) (drop i entries) ≡ true → entry.child ≡ Some child → children_read s (is_first i) (drop i entries) ≡ child ∷ children_read s false (drop (suc i) entries)
read_there s entries i entry child behind holds some =
    let rest = drop (suc i) entries in
    ap (children_read s (is_first i)) behind ∙ (ap (λ b. cond b (cons_option entry.child (children_read s false rest)) (children_read s false rest)) (ap (may_hold s (is_first i)) (sym behind) ∙ holds)
    ∙ ap (λ c. cons_option c (children_read s false rest)) some)

-- a child that is there
pub found_there : (lines : Lines) (s : Interval) (level : ℕ) (entries : List NodeEntry) (i : ℕ) (entry : NodeEntry) (child : Dbkey) → Judged lines s level entries i → drop i entries ≡ entry ∷ drop (suc i) entries → may_hold s (is_first i) (drop i entries) ≡ true → entry.child ≡ Some child → IsThere lines s level child → Judged lines s level entries (suc i)
found_there lines s level entries i entry child was behind holds some is =
    let same = read_there s entries i entry child behind holds some in
    record {
      there = λ h. was.there (subst (AllByRecursion (IsThere lines s level)) (sym same) (is, h));
      lacks = λ bad h. was.lacks bad (subst (AnyByRecursion (IsLacked lines s level bad)) (sym same) (inr h));
    }

-- a child that lacks a node, itself or below it
pub found_lacked : (lines : Lines) (s : Interval) (level : ℕ) (entries : List NodeEntry) (i : ℕ) (entry : NodeEntry) (child bad : Dbkey) → Judged lines s level entries i → drop i entries ≡ entry ∷ drop (suc i) entries → may_hold s (is_first i) (drop i entries) ≡ true → entry.child ≡ Some child → IsLacked lines s level bad child → AnyByRecursion (IsLacked lines s level bad) (children_read s true entries)
found_lacked lines s level entries i entry child bad was behind holds some is =
    was.lacks bad (subst (AnyByRecursion (IsLacked lines s level bad)) (sym (read_there s entries i entry child behind holds some)) (inl is))

pub all_judged : (lines : Lines) (s : Interval) (level : ℕ) (entries : List NodeEntry) (i : ℕ) → length entries ≤ i → Judged lines s level entries i → AllByRecursion (IsThere lines s level) (children_read s true entries)
all_judged lines s level entries i past was = was.there (subst (λ es. AllByRecursion (IsThere lines s level) (children_read s (is_first i) es)) (sym (drop_all i entries past)) tt)
