-- A START_TRANSACTION READ_ONLY, where none was open, is always done; an online backup in a transaction in which something was said never is.
use Rattle.std.proofs.Common.{◌≡◌, ℕ, ◌∷◌, [], ◌==◌, ◌&&◌, ◌||◌, not, Bool, true, false, List, length, refl, ◌∙◌, sym, ap, subst, arith, Some}
use Rattle.std.proofs.lemmas.Bool.{false≢true}
use Rattle.std.proofs.lemmas.Option.{none-some, same_Some}
use Rattle.rdb_types.specs.declared.keys.Dbkey.{Dbkey}
use Rattle.rdo_ast.specs.declared.reply.Standing.{Standing}
use Rattle.rdo_ast.specs.declared.reply.Standing.TheVariants.{Closed, ReadOnly, ReadWrite}
use Rattle.rdo_ast.specs.Tree.{Uttered, said, syntax_fault, invoke, start_read_only, start_read_write, commit, rollback, finish, back_up, perform, define_field, define_relation, define_index, delete_relation, delete_index}
use Rattle.rdb_meaning.specs.declared.tables.Tables.{Tables}
use Rattle.rdb_meaning.specs.Meaning.{Meaning, means, meaningless, meaning}
use Rattle.rdb_account.specs.Places.{Place, Line, begins, leaves_none, is_done, is_writer}
use Rattle.rdb_account.specs.Legal.{ends_by, ends_its_own, standing_of_reader}
use Rattle.line_steps.specs.session_jobs.Records.{Model, IsOrderly, IsRight}
use Rattle.line_steps.specs.session_jobs.Jobs.{worked_of}
use Rattle.line_steps.specs.session_jobs.declared.jobs.TxRecord.{TxRecord}
use Rattle.line_steps.specs.Right.{Ground, Reads}
use Rattle.session_states.specs.Fits.{has_said, ReadsOn}

abbrev is_done_by : Meaning → Bool
is_done_by (means reply t standing ks) = is_done reply
is_done_by meaningless = false

-- it is the only such item that begins a read-only transaction, but for what ends its own
only-start : (item : Uttered) (kind : Standing) → begins item ≡ Some kind → is_writer kind ≡ false → leaves_none item ≡ true → ends_its_own item ≡ false → item ≡ said start_read_only
only-start (syntax_fault line column) kind b w l e = absurd (none-some kind b)
only-start (said (invoke text)) kind b w l e = absurd (none-some kind b)
only-start (said start_read_only) kind b w l e = refl
only-start (said (start_read_write wait rs)) kind b w l e = absurd (false≢true (sym w ∙ ap is_writer (sym (same_Some (ReadWrite wait rs) kind b))))
only-start (said commit) kind b w l e = absurd (none-some kind b)
only-start (said rollback) kind b w l e = absurd (none-some kind b)
only-start (said finish) kind b w l e = absurd (none-some kind b)
only-start (said (back_up n)) kind b w l e = absurd (false≢true (sym e))
only-start (said (perform a)) kind b w l e = absurd (false≢true l)
only-start (said (define_field n type)) kind b w l e = absurd (none-some kind b)
only-start (said (define_relation n fs)) kind b w l e = absurd (none-some kind b)
only-start (said (define_index d)) kind b w l e = absurd (none-some kind b)
only-start (said (delete_relation n)) kind b w l e = absurd (none-some kind b)
only-start (said (delete_index n)) kind b w l e = absurd (none-some kind b)

start-done : (word : List ℕ) (ks : List Dbkey) (t : Tables) → is_done_by (meaning word Closed (said start_read_only) ks t) ≡ true
start-done word ks t = refl

pub closed-first : (lines : List Line) → (length lines == 0) ≡ true → standing_of_reader lines ≡ Closed
closed-first [] h = refl
closed-first (l ∷ ls) h = grind arith

silent-lines : (b : Bool) → not b ≡ false → b ≡ true
silent-lines true h = refl
silent-lines false h = sym h

-- an online backup is refused in a read-only transaction
in-reader : (word : List ℕ) (item : Uttered) (ks : List Dbkey) (t : Tables) → ends_by item ≡ false → ends_its_own item ≡ true → is_done_by (meaning word ReadOnly item ks t) ≡ false
in-reader word (syntax_fault line column) ks t stays own = absurd (false≢true own)
in-reader word (said (invoke text)) ks t stays own = absurd (false≢true own)
in-reader word (said start_read_only) ks t stays own = absurd (false≢true own)
in-reader word (said (start_read_write wait rs)) ks t stays own = absurd (false≢true own)
in-reader word (said commit) ks t stays own = absurd (false≢true (sym stays))
in-reader word (said rollback) ks t stays own = absurd (false≢true (sym stays))
in-reader word (said finish) ks t stays own = absurd (false≢true own)
in-reader word (said (back_up n)) ks t stays own = refl
in-reader word (said (perform a)) ks t stays own = absurd (false≢true own)
in-reader word (said (define_field n type)) ks t stays own = absurd (false≢true own)
in-reader word (said (define_relation n fs)) ks t stays own = absurd (false≢true own)
in-reader word (said (define_index d)) ks t stays own = absurd (false≢true own)
in-reader word (said (delete_relation n)) ks t stays own = absurd (false≢true own)
in-reader word (said (delete_index n)) ks t stays own = absurd (false≢true own)

open-reader : (lines : List Line) → not (length lines == 0) ≡ true → standing_of_reader lines ≡ ReadOnly
open-reader [] h = absurd (false≢true h)
open-reader (l ∷ ls) h = refl

silent-own : (own : Bool) → (own && not false) ≡ false → own ≡ false
silent-own own h = grind arith

module _ (M : Model) (orderly : IsOrderly M) where
  started : (word : List ℕ) (p : Place) (g : Ground) (s : ℕ) (standing : Standing) (item : Uttered) (r : TxRecord) → Reads M p g s standing (Some item) → IsRight M word standing (g.desk s).known (worked_of item r) →
      has_said (p.transaction s) ≡ false → leaves_none item ≡ true → ends_its_own item ≡ false → is_done r.reply ≡ true
  started word p g s standing item r w right silent starts other =
      let x = w.transaction in
      let none : (length x.lines == 0) ≡ true = silent-lines (length x.lines == 0) (sym (ap has_said w.is_open) ∙ silent) in
      let b = w.spoken none in
      let is : item ≡ said start_read_only = only-start item x.kind (subst (λ (i : Uttered). begins i ≡ Some x.kind) (sym (same_Some item b.0 b.1)) b.2) w.reads starts other in
      let closed : standing ≡ Closed = sym w.has_standing ∙ closed-first x.lines none in
      let does = right.does (g.desk s).start x.base w.is.stands w.is.agrees in
      let done : is_done_by (meaning word standing item r.choices x.base) ≡ true =
      subst (λ (u : Standing). is_done_by (meaning word u item r.choices x.base) ≡ true) (sym closed) (subst (λ (i : Uttered). is_done_by (meaning word Closed i r.choices x.base) ≡ true) (sym is) (start-done word r.choices x.base)) in
      sym (ap is_done_by does.does) ∙ done

  -- so its transaction stays open behind a record
  pub reader-stays : (word : List ℕ) (p : Place) (g : Ground) (s : ℕ) (standing : Standing) (item : Uttered) (r : TxRecord) (spoken : Bool) → Reads M p g s standing (Some item) → IsRight M word standing (g.desk s).known (worked_of item r) →
      has_said (p.transaction s) ≡ spoken → (ends_its_own item && not spoken) ≡ false → (spoken || not (leaves_none item && not (is_done r.reply))) ≡ true
  reader-stays word p g s standing item r true w right says own = refl
  reader-stays word p g s standing item r false w right says own = by (leaves_none item) (is_done r.reply) (λ e. started word p g s standing item r w right says e (silent-own (ends_its_own item) own))
    where
      by : (l d : Bool) → (l ≡ true → d ≡ true) → (false || not (l && not d)) ≡ true
      by false d h = refl
      by true true h = refl
      by true false h = absurd (false≢true (h refl))

  -- a statement that is done doesn't end its own transaction, since nothing was said in that before
  pub reader-undone : (word : List ℕ) (p : Place) (g : Ground) (s : ℕ) (standing : Standing) (item : Uttered) (r : TxRecord) (spoken : Bool) → Reads M p g s standing (Some item) → IsRight M word standing (g.desk s).known (worked_of item r) →
      has_said (p.transaction s) ≡ spoken → ReadsOn spoken item → (ends_its_own item && is_done r.reply) ≡ false
  reader-undone word p g s standing item r false w right says on = ap (λ (b : Bool). b && is_done r.reply) (silent-own (ends_its_own item) on.1)
  reader-undone word p g s standing item r true w right says on = by (ends_its_own item) refl
    where
      by : (own : Bool) → ends_its_own item ≡ own → (own && is_done r.reply) ≡ false
      by false e = refl
      by true e =
          let x = w.transaction in
          let here : standing ≡ ReadOnly = sym w.has_standing ∙ open-reader x.lines (sym (ap has_said w.is_open) ∙ says) in
          let does = right.does (g.desk s).start x.base w.is.stands w.is.agrees in
          sym (ap is_done_by does.does) ∙ subst (λ (u : Standing). is_done_by (meaning word u item r.choices x.base) ≡ false) (sym here) (in-reader word item r.choices x.base on.0 e)
