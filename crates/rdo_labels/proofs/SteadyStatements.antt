-- Each statement is steady, so that it is read alike wherever its words stand.
use Rattle.std.proofs.Common.{◌≡◌, ℕ, zero, suc, true, false, cond, List, [], ◌∷◌, ◌++◌, ◌-◌, Err, ap, sym, ◌∙◌, subst, arith}
use Rattle.std.specs.Str.{str_eq_ignore_ascii_case}
use Rattle.std.proofs.lemmas.List.{append_cancel_right}
use Rattle.rdb_types.specs.declared.values.DataType.TheVariants as data_type
use Rattle.rdo_ast.specs.declared.syntax.FieldDefinition.{FieldDefinition}
use Rattle.rdo_ast.specs.declared.syntax.DefinedType.TheVariants as dtype
use Rattle.rdo_ast.specs.declared.syntax.Statement.TheVariants as s
use Rattle.rdo_ast.specs.declared.syntax.Share.TheVariants as share
use Rattle.rdo_tokens.specs.declared.token.Kind.{Kind}
use Rattle.rdo_tokens.specs.declared.token.Kind.TheVariants as k
use Rattle.rdo_tokens.specs.Lex.{Text, same_kind, tokens}
use Rattle.rdo_tokens.specs.Input.{Input, ◌>>=◌, pure, refuse, peek, take_token, kind, spelling, left, sees, same_name}
use Rattle.rdo_labels.specs.Alike.{SameWords, Descends, ReadAlike, RefusedAlike, TextReadAlike, TextRefusedAlike}
use Rattle.rdo_grammar.specs.Grammar.{point, max_nesting}
use Rattle.rdo_parser.specs.Statements.{share_by, share_mode, writes_by, writes, reservation, reservations, wait_by, wait, reserving, read_write, start_by, start_transaction, integer_by, integer_type, scale, max_scale, text_type, max_text_size, signed_type, type_by, field_type, field_kind_by, field_kind, field_definition, pointed_field, fields_from, fields, define_relation, duplicates, index_type, pointed_name, index_fields_from, index_fields, index_head, define_index, define_field, define_by, define, delete_by, delete, invoke, back_up, max_backup, statement_by, statement, pointed, max_fields, max_index_fields}
use Rattle.rdo_labels.proofs.Pairs.{ReachesAs, Steady, law_pure, law_refuse, law_bind, law_if, law_as}
use Rattle.rdo_labels.proofs.Steps.{law_peek, law_take, law_expect, law_name, law_eat, law_text, law_whole, law_separated, comma_apart, spelled, law_spelled, if_at}
use Rattle.rdo_labels.proofs.SteadyGrammar.{law_action_at}
use Rattle.rdo_tokens.proofs.LabelLemmas.{Falls, falls}

law_share_by : (kind : Kind) → Steady (share_by kind)
law_share_by k.Shared = law_bind _ _ law_take (λ _. law_pure share.Shared)
law_share_by k.Protected = law_bind _ _ law_take (λ _. law_pure share.Protected)
law_share_by k.Exclusive = law_bind _ _ law_take (λ _. law_pure share.Exclusive)
law_share_by _ = law_refuse

law_writes_by : (kind : Kind) → Steady (writes_by kind)
law_writes_by k.Read = law_bind _ _ law_take (λ _. law_pure false)
law_writes_by k.Write = law_bind _ _ law_take (λ _. law_pure true)
law_writes_by _ = law_refuse

law_reservation : Steady reservation
unfolding reservation share_mode writes
law_reservation = law_bind _ _ law_name (λ r. law_bind _ _ (law_expect k.For) (λ _. law_bind _ _ (law_bind _ _ law_peek law_share_by) (λ m. law_bind _ _ (law_bind _ _ law_peek law_writes_by) (λ w. law_pure _))))

law_wait_by : (kind : Kind) → Steady (wait_by kind)
law_wait_by k.Wait = law_bind _ _ law_take (λ _. law_pure true)
law_wait_by k.Nowait = law_bind _ _ law_take (λ _. law_pure false)
law_wait_by _ = law_pure true

law_start_by : (kind : Kind) → Steady (start_by kind)
unfolding read_write wait reserving reservations
law_start_by k.ReadOnly = law_bind _ _ law_take (λ _. law_pure s.StartReadOnly)
law_start_by k.ReadWrite = law_bind _ _ law_take (λ _. law_bind _ _ (law_bind _ _ law_peek law_wait_by)
    (λ w. law_bind _ _ (law_bind _ _ (law_eat k.Reserving) (λ b. law_if _ _ b (law_separated k.Comma comma_apart reservation law_reservation) (law_pure []))) (λ rs. law_pure (s.StartReadWrite w rs))))
law_start_by _ = law_pure s.StartReadOnly

law_integer_by : (kind : Kind) → Steady (integer_by kind)
law_integer_by k.Word = law_bind _ _ law_take (λ _. law_pure data_type.Word)
law_integer_by k.Longword = law_bind _ _ law_take (λ _. law_pure data_type.Longword)
law_integer_by k.Quadword = law_bind _ _ law_take (λ _. law_pure data_type.Quadword)
law_integer_by _ = law_refuse

law_scale : Steady scale
unfolding scale
law_scale = law_bind _ _ (law_eat k.Scale) (λ b. law_if _ _ b (law_bind _ _ (law_eat k.Is) (λ _. law_bind _ _ (law_expect k.Minus) (λ _. law_whole 0 max_scale))) (law_pure 0))

law_type_by : (kind : Kind) → Steady (type_by kind)
unfolding text_type signed_type integer_type
law_type_by k.Text = law_bind _ _ law_take (λ _. law_bind _ _ (law_expect k.Size) (λ _. law_bind _ _ (law_expect k.Is) (λ _. law_bind _ _ (law_whole 1 max_text_size) (λ n. law_bind _ _ (law_eat k.Characters) (λ _. law_pure (record { kind = data_type.Text; scale = 0; size = n }))))))
law_type_by k.Signed = law_bind _ _ law_take (λ _. law_bind _ _ (law_bind _ _ law_peek law_integer_by) (λ w. law_bind _ _ law_scale (λ n. law_pure (record { kind = w; scale = n; size = 0 }))))
law_type_by _ = law_refuse

law_type : Steady field_type
unfolding field_type
law_type = law_bind _ _ (law_expect k.Is) (λ _. law_bind _ _ law_peek law_type_by)

law_field_kind_by : (kind : Kind) → Steady (field_kind_by kind)
law_field_kind_by k.Datatype = law_bind _ _ law_take (λ _. law_bind _ _ law_type (λ t. law_pure (dtype.Own t)))
law_field_kind_by k.Based = law_bind _ _ (law_bind _ _ law_take (λ _. law_expect k.On)) (λ _. law_bind _ _ law_name (λ n. law_pure (dtype.BasedOn n)))
law_field_kind_by _ = law_refuse

law_pointed_field : Steady pointed_field
unfolding pointed_field field_definition field_kind
law_pointed_field = law_bind _ _ (law_bind _ _ law_name (λ n. law_bind _ _ (law_bind _ _ law_peek law_field_kind_by) (λ t. law_pure _))) (λ x. law_bind _ _ (law_expect k.Dot) (λ _. law_pure x))

law_fields_from : (n : ℕ) (found : List FieldDefinition) → Steady (fields_from n found)
unfolding fields_from sees
law_fields_from zero found = law_pure found
law_fields_from (suc n) found = law_bind peek (λ kd. cond (same_kind kd k.Name) (pointed_field >>= (λ x. fields_from n (found ++ x ∷ []))) (pure found)) law_peek
    (λ kd. law_if _ _ (same_kind kd k.Name) (law_bind _ _ law_pointed_field (λ x. law_fields_from n (found ++ x ∷ []))) (law_pure found))

law_pointed_name : Steady pointed_name
unfolding pointed_name
law_pointed_name = law_bind _ _ law_name (λ x. law_bind _ _ (law_expect k.Dot) (λ _. law_pure x))

law_index_fields_from : (n : ℕ) (found : List Text) → Steady (index_fields_from n found)
unfolding index_fields_from sees
law_index_fields_from zero found = law_pure found
law_index_fields_from (suc n) found = law_bind peek (λ kd. cond (same_kind kd k.Name) (pointed_name >>= (λ x. index_fields_from n (found ++ x ∷ []))) (pure found)) law_peek
    (λ kd. law_if _ _ (same_kind kd k.Name) (law_bind _ _ law_pointed_name (λ x. law_index_fields_from n (found ++ x ∷ []))) (law_pure found))

law_same_name : (known : Text) → Steady (same_name known)
unfolding same_name sees
law_same_name known = law_as (same_name known) (peek >>= (λ kd. cond (same_kind kd k.Name) (spelled >>= (λ w. cond (str_eq_ignore_ascii_case w known) (take_token >>= (λ _. pure tt)) refuse)) refuse)) same_as
    (law_bind _ _ law_peek (λ kd. law_if _ _ (same_kind kd k.Name) (law_bind _ _ law_spelled (λ w. law_if _ _ (str_eq_ignore_ascii_case w known) (law_bind _ _ law_take (λ _. law_pure tt)) law_refuse)) law_refuse))
  where
    same_as : (i : Input) → (peek >>= (λ kd. cond (same_kind kd k.Name) (spelled >>= (λ w. cond (str_eq_ignore_ascii_case w known) (take_token >>= (λ _. pure tt)) refuse)) refuse)) i ≡ same_name known i
    same_as i =
        if_at (spelled >>= (λ w. cond (str_eq_ignore_ascii_case w known) (take_token >>= (λ _. pure tt)) refuse)) refuse (same_kind (kind i) k.Name) i
        ∙ ap (λ r. cond (same_kind (kind i) k.Name) r (Err i)) (if_at (take_token >>= (λ _. pure tt)) refuse (str_eq_ignore_ascii_case (spelling i) known) i)

law_define_relation : Steady define_relation
unfolding define_relation fields
law_define_relation = law_bind _ _ law_name (λ n. law_bind _ _ (law_expect k.Dot) (λ _. law_bind _ _ (law_bind _ _ law_pointed_field (λ x. law_fields_from (max_fields - 1) (x ∷ [])))
    (λ xs. law_bind _ _ (law_expect k.End) (λ _. law_bind _ _ (law_same_name n) (λ _. law_bind _ _ (law_expect k.Relation) (λ _. law_pure _))))))

law_duplicates : Steady duplicates
unfolding duplicates
law_duplicates = law_bind _ _ (law_eat k.Duplicates) (λ b. law_if _ _ b (law_bind _ _ (law_expect k.Are) (λ _. law_bind _ _ (law_eat k.Not) (λ u. law_bind _ _ (law_expect k.Allowed) (λ _. law_pure u)))) (law_pure false))

law_index_type : Steady index_type
unfolding index_type
law_index_type = law_bind _ _ (law_eat k.TypeWord) (λ b. law_if _ _ b (law_bind _ _ (law_expect k.Is) (λ _. law_expect k.Sorted)) (law_pure tt))

law_index_head : (n : Text) → Steady (index_head n)
unfolding index_head index_fields
law_index_head n = law_bind _ _ (law_expect k.For) (λ _. law_bind _ _ law_name (λ r. law_bind _ _ law_duplicates (λ u. law_bind _ _ law_index_type (λ _. law_bind _ _ (law_expect k.Dot)
    (λ _. law_bind _ _ (law_bind _ _ law_pointed_name (λ x. law_index_fields_from (max_index_fields - 1) (x ∷ []))) (λ xs. law_pure _))))))

law_define_index : Steady define_index
unfolding define_index
law_define_index = law_bind _ _ law_name (λ n. law_bind _ _ (law_index_head n) (λ x. law_bind _ _ (law_expect k.End) (λ _. law_bind _ _ (law_same_name x.name) (λ _. law_bind _ _ (law_expect k.Index) (λ _. law_pure _)))))

law_define_by : (kind : Kind) → Steady (define_by kind)
unfolding define_field
law_define_by k.Field = law_bind _ _ law_take (λ _. law_bind _ _ law_name (λ n. law_bind _ _ (law_expect k.Datatype) (λ _. law_bind _ _ law_type (λ t. law_pure (s.DefineField n t)))))
law_define_by k.Relation = law_bind _ _ law_take (λ _. law_define_relation)
law_define_by k.Index = law_bind _ _ law_take (λ _. law_define_index)
law_define_by _ = law_refuse

law_delete_by : (kind : Kind) → Steady (delete_by kind)
law_delete_by k.Relation = law_bind _ _ law_take (λ _. law_bind _ _ law_name (λ n. law_pure (s.DeleteRelation n)))
law_delete_by k.Index = law_bind _ _ law_take (λ _. law_bind _ _ law_name (λ n. law_pure (s.DeleteIndex n)))
law_delete_by _ = law_refuse

law_invoke : Steady invoke
unfolding invoke
law_invoke = law_bind _ _ (law_expect k.Database) (λ _. law_bind _ _ (law_expect k.Filename) (λ _. law_bind _ _ law_text (λ t. law_pure _)))

law_back_up : Steady back_up
unfolding back_up
law_back_up = law_bind _ _ (law_expect k.Rmu) (λ _. law_bind _ _ (law_expect k.Slash) (λ _. law_bind _ _ (law_expect k.Backup) (λ _. law_bind _ _ (law_expect k.Slash) (λ _. law_bind _ _ (law_expect k.Online)
    (λ _. law_bind _ _ (law_whole 1 max_backup) (λ n. law_pure (s.BackUp n)))))))

law_statement_by : (kind : Kind) → Steady (statement_by kind)
unfolding start_transaction define delete
law_statement_by k.Invoke = law_bind _ _ law_take (λ _. law_invoke)
law_statement_by k.StartTransaction = law_bind _ _ law_take (λ _. law_bind _ _ law_peek law_start_by)
law_statement_by k.Commit = law_bind _ _ law_take (λ _. law_pure s.Commit)
law_statement_by k.Rollback = law_bind _ _ law_take (λ _. law_pure s.Rollback)
law_statement_by k.Finish = law_bind _ _ law_take (λ _. law_pure s.Finish)
law_statement_by k.Dollar = law_bind _ _ law_take (λ _. law_back_up)
law_statement_by k.Define = law_bind _ _ law_take (λ _. law_bind _ _ law_peek law_define_by)
law_statement_by k.Delete = law_bind _ _ law_take (λ _. law_bind _ _ law_peek law_delete_by)
law_statement_by _ = law_bind _ _ (law_action_at (suc max_nesting) false) (λ x. law_pure (s.Act x))

pub law_pointed : Steady pointed
unfolding pointed statement point
law_pointed = law_bind _ _ (law_bind _ _ law_peek law_statement_by) (λ x. law_bind _ _ (law_eat k.Dot) (λ _. law_pure x))

-- ---- what was read or refused, at any labels

reaches : (i : Input) → Descends i → (m : ℕ) → ReachesAs pointed m i (pointed i)
reaches i d m = (law_pointed.pair (left i) m).at i d (omega arith)

pub read_alike : ReadAlike
read_alike i rest x d e =
    let first = subst (ReachesAs pointed 0 i) e (reaches i d 0) in (
      first.0,
      first.1,
      λ words other s nx dw.
          let k = subst (ReachesAs pointed (left (words ++ other)) i) e (reaches i d (left (words ++ other))) in
          k.2 words other (subst (λ z. SameWords z words) (append_cancel_right first.0 k.0 rest (sym first.1 ∙ k.1)) s) nx dw (omega arith),
    )

pub refused_alike : RefusedAlike
refused_alike i rest d e =
    let first = subst (ReachesAs pointed 0 i) e (reaches i d 0) in (
      first.0,
      first.1,
      λ words other s nx dw.
          let k = subst (ReachesAs pointed (left (words ++ other)) i) e (reaches i d (left (words ++ other))) in
          k.2 words other (subst (λ z. SameWords z words) (append_cancel_right first.0 k.0 rest (sym first.1 ∙ k.1)) s) nx dw (omega arith),
    )

-- ---- texts

descends : (i : Input) → Falls i → Descends i
descends [] f = tt
descends (t ∷ ts) f = (f.0, descends ts f.1)

pub text_read_alike : TextReadAlike
text_read_alike z rest x e =
    let r = read_alike (tokens z) rest x (descends (tokens z) (falls z)) e in
    (r.0, r.1, λ y words other j s nx. ap pointed j ∙ r.2 words other s nx (subst Descends j (descends (tokens y) (falls y))))

pub text_refused_alike : TextRefusedAlike
text_refused_alike z rest e =
    let r = refused_alike (tokens z) rest (descends (tokens z) (falls z)) e in
    (r.0, r.1, λ y words other j s nx. ap pointed j ∙ r.2 words other s nx (subst Descends j (descends (tokens y) (falls y))))
