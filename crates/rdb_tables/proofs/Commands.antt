-- What INVOKE and START_TRANSACTION READ_WRITE mean, by what they are refused for.
use Rattle.std.proofs.Common.{◌≡◌, ℕ, Bool, true, false, cond, List, [], Some, None, refl}
use Rattle.std.specs.Str.{str_eq_ignore_ascii_case}
use Rattle.rdb_types.specs.declared.keys.Dbkey.{Dbkey}
use Rattle.rdo_ast.specs.declared.syntax.Reservation.{Reservation}
use Rattle.rdo_ast.specs.declared.reply.Reply.TheVariants as r
use Rattle.rdo_ast.specs.declared.reply.Standing.{Standing}
use Rattle.rdo_ast.specs.declared.reply.Standing.TheVariants.{Closed, ReadWrite}
use Rattle.rdo_ast.specs.Tree.{invoke, start_read_write}
use Rattle.rdb_meaning.specs.declared.tables.Tables.{Tables}
use Rattle.rdb_meaning.specs.Checks.{Refusal}
use Rattle.rdb_meaning.specs.Meaning.{means, command_meaning, is_word, reserved_names, unless, doing}
use Rattle.rdb_meaning.specs.Usual.{is_refusal_of_means}
use Rattle.rdb_tables.specs.Answers.{reply_or_done, closed_or}

done_unless : (o : Refusal) (t : Tables) (s : Standing) (ks : List Dbkey) → unless o t s ks (doing t s ks) ≡ means (reply_or_done o) t s ks
done_unless (Some reply) t s ks = refl
done_unless None t s ks = refl

pub invoke_means : (word text : List ℕ) (s : Standing) (t : Tables) (ks : List Dbkey) → command_meaning word (invoke text) s ks t ≡ means (reply_or_done (is_word word text)) t s ks
invoke_means word text s t ks = done_unless (is_word word text) t s ks

started_unless : (o : Refusal) (t : Tables) (opened : Standing) (ks : List Dbkey) → unless o t Closed ks (doing t opened ks) ≡ means (reply_or_done o) t (closed_or o opened) ks
started_unless (Some reply) t opened ks = refl
started_unless None t opened ks = refl

pub start_means : (word : List ℕ) (wait : Bool) (rs : List Reservation) (t : Tables) (ks : List Dbkey) → command_meaning word (start_read_write wait rs) Closed ks t ≡ means (reply_or_done (reserved_names [] rs t)) t (closed_or (reserved_names [] rs t) (ReadWrite wait rs)) ks
start_means word wait rs t ks = started_unless (reserved_names [] rs t) t (ReadWrite wait rs) ks

usual_word_by : (same : Bool) (text : List ℕ) → is_refusal_of_means (reply_or_done (cond same None (Some (r.NoSuch text)))) ≡ false
usual_word_by true text = refl
usual_word_by false text = refl

pub usual_word : (word text : List ℕ) → is_refusal_of_means (reply_or_done (is_word word text)) ≡ false
usual_word word text = usual_word_by (str_eq_ignore_ascii_case word text) text
