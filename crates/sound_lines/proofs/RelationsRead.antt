-- The relations whose rows were read, and those that are left.
use Rattle.std.proofs.Common.{◌≡◌, ℕ, true, List, [], ◌∷◌, ◌++◌, refl, sym, ap, subst, ◌∙◌}
use Rattle.std.specs.List.{AllByRecursion}
use Rattle.std.specs.FinMap.Entries.{put, is_sorted}
use Rattle.std.proofs.lemmas.List.{append-nil, append_assoc}
use Rattle.rdo_ast.specs.Tree.{Name}
use Rattle.rdb_meaning.specs.declared.tables.Relation.{Relation}
use Rattle.rdb_types.specs.Order.{chars_order}
use Rattle.rdb_types.specs.OrderLaws.{chars_total}
use Rattle.line_view.specs.declared.stop.Stop.{Stop}
use Rattle.line_view.specs.declared.stop.Never.{Never}
use Rattle.line_view.specs.declared.stop.Stop.TheVariants.{Missing, Bad, NoMemory, Own}
use Rattle.line_view.specs.Knowledge.{Knowledge, Lines, IsInOrder, Agrees}
use Rattle.relation_rows.specs.Relations.{HasRows}
use Rattle.sound_lines.specs.Gathered.{put_all}
use Rattle.sound_lines.specs.Contents.{version_of, stored, HaveRows}
use Rattle.relation_rows.specs.Stored.{IsAreaKnown}
use Rattle.sound_lines.specs.Reading.{StopsRows, StopsAt, StopsRelations}
use Rattle.sound_lines.proofs.Gathering.{keys, gathered, put_all_more, same_sorted}

abbrev IsRead : Knowledge → Name × Relation → Type 0
IsRead known b = IsAreaKnown known b.1.area

-- of these relations those before the ones that are left were read, and these were found
pub record AreFound (known : Knowledge) (versions : List (Name × ℕ)) (relations left found : List (Name × Relation)) : Type 0 where
  pub done : List (Name × Relation)
  pub whole : List (Name × Relation)
  pub stands : relations ≡ done ++ left
  pub gathers : found ≡ put_all chars_order [] whole
  pub names : keys done ≡ keys whole
  pub rows : (all : Lines) → IsInOrder all → Agrees known all → HaveRows all versions done whole
  pub read : AllByRecursion (IsRead known) done

pub none_found : (known : Knowledge) (versions : List (Name × ℕ)) (relations : List (Name × Relation)) → AreFound known versions relations relations []
none_found known versions relations = record { done = []; whole = []; stands = refl; gathers = refl; names = refl; rows = λ all sorted agrees. tt; read = tt }

one_name : (done whole : List (Name × Relation)) (b w : Name × Relation) → keys done ≡ keys whole → b.0 ≡ w.0 → keys (done ++ b ∷ []) ≡ keys (whole ++ w ∷ [])
one_name [] [] b w same name = λ i. name i ∷ []
one_name [] (x ∷ xs) b w same name = absurd (cc)
one_name (d ∷ ds) [] b w same name = absurd (cc)
one_name (d ∷ ds) (x ∷ xs) b w same name =
    let first : d.0 ≡ x.0 = cc in
    let rest : keys ds ≡ keys xs = cc in
    λ i. first i ∷ one_name ds xs b w rest name i

one_read : (known : Knowledge) (done : List (Name × Relation)) (b : Name × Relation) → AllByRecursion (IsRead known) done → IsRead known b → AllByRecursion (IsRead known) (done ++ b ∷ [])
one_read known [] b all is = (is, tt)
one_read known (d ∷ ds) b all is = (all.0, one_read known ds b all.1 is)

one_whole : (all : Lines) (versions : List (Name × ℕ)) (done whole : List (Name × Relation)) (b w : Name × Relation) → HaveRows all versions done whole → w.0 ≡ b.0 → HasRows all (stored (version_of b.0 versions) b.1) w.1 → HaveRows all versions (done ++ b ∷ []) (whole ++ w ∷ [])
one_whole all versions [] [] b w have name has = (name, has, tt)
one_whole all versions [] (x ∷ xs) b w have name has = absurd have
one_whole all versions (d ∷ ds) [] b w have name has = absurd have
one_whole all versions (d ∷ ds) (x ∷ xs) b w have name has = (have.0, have.1, one_whole all versions ds xs b w have.2 name has)

pub one_more_found : (known : Knowledge) (versions : List (Name × ℕ)) (relations left found new : List (Name × Relation)) (b : Name × Relation) (whole : Relation) →
    AreFound known versions relations (b ∷ left) found → ((all : Lines) → IsInOrder all → Agrees known all → HasRows all (stored (version_of b.0 versions) b.1) whole) → IsAreaKnown known b.1.area →
    new ≡ put chars_order b.0 whole found → AreFound known versions relations left new
one_more_found known versions relations left found new b whole are rows read made = record {
  done = are.done ++ b ∷ [];
  whole = are.whole ++ (b.0, whole) ∷ [];
  stands = are.stands ∙ sym (append_assoc are.done (b ∷ []) left);
  gathers = made ∙ ap (λ l. put chars_order b.0 whole l) are.gathers ∙ sym (put_all_more chars_order [] are.whole b.0 whole);
  names = one_name are.done are.whole b (b.0, whole) are.names refl;
  rows = λ all sorted agrees. one_whole all versions are.done are.whole b (b.0, whole) (are.rows all sorted agrees) refl (rows all sorted agrees);
  read = one_read known are.done b are.read read;
}

pub all_found : (known : Knowledge) (versions : List (Name × ℕ)) (relations found : List (Name × Relation)) → is_sorted chars_order relations ≡ true → AreFound known versions relations [] found →
    (all : Lines) → IsInOrder all → Agrees known all → HaveRows all versions relations found
all_found known versions relations found sorted are all in_order agrees =
    let same : relations ≡ are.done = are.stands ∙ append-nil are.done in
    let ordered : is_sorted chars_order are.whole ≡ true = sym (same_sorted chars_order are.done are.whole are.names) ∙ (ap (is_sorted chars_order) (sym same) ∙ sorted) in
    let whole : found ≡ are.whole = are.gathers ∙ gathered chars_order chars_total are.whole ordered in
    subst (λ (l : List (Name × Relation)). HaveRows all versions l found) (sym same)
    (subst (λ (l : List (Name × Relation)). HaveRows all versions are.done l) (sym whole) (are.rows all in_order agrees))

stops_at : (known : Knowledge) (versions : List (Name × ℕ)) (relations left found : List (Name × Relation)) (b : Name × Relation) (stop : Stop Never) →
    AreFound known versions relations (b ∷ left) found → StopsRows known (stored (version_of b.0 versions) b.1) stop → StopsAt known versions relations stop
stops_at known versions relations left found b stop are stops = record {
  at = b;
  reaches = record { before = are.done; behind = left; stands = are.stands; read = are.read };
  stops = stops;
}

pub relation_stops : (known : Knowledge) (versions : List (Name × ℕ)) (relations left found : List (Name × Relation)) (b : Name × Relation) (stop : Stop Never) →
    AreFound known versions relations (b ∷ left) found → StopsRows known (stored (version_of b.0 versions) b.1) stop → StopsRelations known versions relations stop
relation_stops known versions relations left found b (Missing need) are stops = stops_at known versions relations left found b (Missing need) are stops
relation_stops known versions relations left found b (Bad key) are stops = stops_at known versions relations left found b (Bad key) are stops
relation_stops known versions relations left found b NoMemory are stops = tt
relation_stops known versions relations left found b (Own never) are stops = elim never [ ]
