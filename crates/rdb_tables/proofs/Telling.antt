-- From a run to an answer.
use Rattle.std.proofs.Common.{◌≡◌, ℕ, List, [], ◌++◌, inl, inr, Some, None, Result, Ok, Err, sym, ap, ◌∙◌, subst, append-nil}
use Rattle.std.specs.Prelude.{IfOk, OnOk, OnErr, false}
use Rattle.std.proofs.lemmas.Result.{on_err_weaker}
use Rattle.rdb_types.specs.declared.memory.NoMemory.{NoMemory}
use Rattle.rdb_types.specs.declared.keys.Dbkey.{Dbkey}
use Rattle.rdb_types.specs.declared.values.Scaled.{Scaled}
use Rattle.rdo_ast.specs.declared.reply.Reply.{Reply}
use Rattle.rdo_ast.specs.declared.reply.Reply.TheVariants as r
use Rattle.rdo_ast.specs.declared.reply.Standing.{Standing}
use Rattle.rdo_ast.specs.Tree.{Act, Uttered, said, perform}
use Rattle.rdb_meaning.specs.declared.tables.Tables.{Tables}
use Rattle.rdb_meaning.specs.Checks.{Refusal}
use Rattle.rdb_meaning.specs.Execution.{World, world, Ran, ran, done}
use Rattle.rdb_meaning.specs.Meaning.{Meaning, meaning, Does, means, act_meaning, act_refusal, standing_for, unless, after_running}
use Rattle.rdb_meaning.specs.Usual.{is_refusal_of_means}
use Rattle.rdb_tables.specs.declared.told.Told.{Told}
use Rattle.rdb_tables.specs.declared.stop.Stop.{Stop}
use Rattle.rdb_tables.specs.declared.stop.Stop.TheVariants as stop
use Rattle.rdb_tables.specs.Stages.{stage, Goes, Runs, refusing}
use Rattle.rdb_tables.specs.Answers.{Answers, Says, Tells, TakesFirst, reply_to}
use Rattle.rdb_tables.specs.Redefining.{Redefines}
use Rattle.rdb_tables.specs.declared.undo.Undo.{Undo}
use Rattle.rdb_tables.specs.declared.work.Work.{Work}
use Rattle.rdb_tables.specs.Undoing.{beginning}
use Rattle.rdb_tables.proofs.Actions.{at_stage}
use Rattle.rdb_tables.proofs.Undos.{beginning_nothing, undo_with}

-- nothing is taken, and the choices are left whatever they are
pub tells_plain : (m : List Dbkey → Meaning) (choices : List Dbkey) (d : Told) (t : Tables) → d.taken ≡ [] → ((left : List Dbkey) → m left ≡ means d.reply t d.standing left) → Tells m choices d t
tells_plain m choices d t none h = record {
  means = λ left. ap (λ (ks : List Dbkey). m (ks ++ left)) none ∙ h left;
  follows = inr (choices, ap (λ (ks : List Dbkey). ks ++ choices) (sym none));
}

-- ---- an action

abbrev pub no_work : Work
no_work = record { lines = []; taken = []; undo = undo_with [] [] }

module _ (a : Act) (s : Standing) (t : Tables) where
  abbrev pub act_told : List Dbkey → Meaning
  act_told ks = act_meaning a s ks t

  -- it is refused before it is done
  pub act_refused : (reply : Reply) → act_refusal a s t ≡ Some reply → (left : List Dbkey) → act_told left ≡ means reply t (standing_for a s) left
  act_refused reply e left =
      ap (λ (o : Refusal). unless o t (standing_for a s) left (after_running (done a t [] (world t left [])) t (standing_for a s) left)) e

  act_runs : act_refusal a s t ≡ None → (left : List Dbkey) → act_told left ≡ after_running (done a t [] (world t left [])) t (standing_for a s) left
  act_runs e left =
      ap (λ (o : Refusal). unless o t (standing_for a s) left (after_running (done a t [] (world t left [])) t (standing_for a s) left)) e

  -- What it comes to is what it means, where the tables are t'' when it ends and t' in the answer.
  come : (choices : List Dbkey) (rest : World → Ran) (d : Told) (t' t'' : Tables) (lines : List (List Scaled)) → act_refusal a s t ≡ None → d.standing ≡ standing_for a s → Goes choices (done a t []) rest (at_stage t [] []) (at_stage t'' lines d.taken) → ((left ks : List Dbkey) → after_running (rest (world t'' left lines)) t (standing_for a s) ks ≡ means d.reply t' (standing_for a s) left) → Tells act_told choices d t'
  come choices rest d t' t'' lines free standing goes ends = record {
    means = λ left.
        act_runs free (d.taken ++ left)
        ∙ ap (λ (ks : List Dbkey). after_running (done a t [] (world t (ks ++ left) [])) t (standing_for a s) (d.taken ++ left)) goes.gives
        ∙ ap (λ (x : Ran). after_running x t (standing_for a s) (d.taken ++ left)) (goes.comes left)
        ∙ ends left (d.taken ++ left)
        ∙ ap (λ (x : Standing). means d.reply t' x left) (sym standing);
    follows = elim goes.follows [
      | inl strays ↦ inl (act_runs free choices ∙ ap (λ (x : Ran). after_running x t (standing_for a s) choices) strays)
      | inr found ↦ inr (found.0, found.1 ∙ ap (λ (ks : List Dbkey). ks ++ found.0) (sym goes.gives))
    ];
  }

  ended : (choices : List Dbkey) (reply : Reply) (d : Told) (t' t'' : Tables) (lines : List (List Scaled)) → act_refusal a s t ≡ None → d.standing ≡ standing_for a s → d.reply ≡ reply → t' ≡ t → Goes choices (done a t []) (refusing reply) (at_stage t [] []) (at_stage t'' lines d.taken) → Tells act_told choices d t'
  ended choices reply d t' t'' lines free standing is same goes =
      come choices (refusing reply) d t' t'' lines free standing goes
      (λ left ks. ap (λ (x : Reply). means x t (standing_for a s) left) (sym is) ∙ ap (λ (x : Tables). means d.reply x (standing_for a s) left) (sym same))

  -- it was done, or refused on the way and undone
  act_tells : (end : Result (Unit {0}) Stop) (choices : List Dbkey) (d : Told) (t' t'' : Tables) (lines : List (List Scaled)) → act_refusal a s t ≡ None → d.standing ≡ standing_for a s → reply_to end lines ≡ Some d.reply → OnOk end (t' ≡ t'') → OnErr end (t' ≡ t) → Runs end choices (done a t []) (at_stage t [] []) (at_stage t'' lines d.taken) → Tells act_told choices d t'
  act_tells (Ok _) choices d t' t'' lines free standing is kept same goes =
      let e : r.Done lines ≡ d.reply = cc in
      come choices ran d t' t'' lines free standing goes
      (λ left ks. ap (λ (x : Reply). means x t'' (standing_for a s) left) e ∙ ap (λ (x : Tables). means d.reply x (standing_for a s) left) (sym kept))
  act_tells (Err stop.Overflow) choices d t' t'' lines free standing is kept same goes =
      let e : d.reply ≡ r.Overflow = cc in ended choices r.Overflow d t' t'' lines free standing e same goes
  act_tells (Err stop.TooLong) choices d t' t'' lines free standing is kept same goes =
      let e : d.reply ≡ r.TooLong = cc in ended choices r.TooLong d t' t'' lines free standing e same goes
  act_tells (Err (stop.Duplicate index)) choices d t' t'' lines free standing is kept same goes =
      let e : d.reply ≡ r.Duplicate index = cc in ended choices (r.Duplicate index) d t' t'' lines free standing e same goes
  act_tells (Err stop.Memory) choices d t' t'' lines free standing is kept same goes = absurd (cc)

  -- where what was changed is undone
  module _ (work : Work) (t'' t' : Tables) (undo : Undo) (end : Result (Unit {0}) Stop) (new : work ≡ no_work) (kept : beginning t'' undo ≡ beginning t work.undo) (done_so : OnOk end (t' ≡ t'')) (undone_so : OnErr end (t' ≡ beginning t'' undo)) where
    begins : beginning t work.undo ≡ t
    begins = ap (λ (w : Work). beginning t w.undo) new ∙ beginning_nothing t

    undone_to : OnErr end (t' ≡ t)
    undone_to = on_err_weaker end (λ is. is ∙ kept ∙ begins) undone_so

    pub act_answers : (res : Result Told NoMemory) (choices taken : List Dbkey) (lines : List (List Scaled)) (after : Standing) → act_refusal a s t ≡ None → after ≡ standing_for a s → IfOk res (λ d. reply_to end lines ≡ Some d.reply) → IfOk res (λ d. d.standing ≡ after) → IfOk res (λ d. d.taken ≡ taken) → Runs end choices (done a (beginning t work.undo) []) (stage t work) (at_stage t'' lines taken) → Answers res act_told choices t'
    act_answers (Ok d) choices taken lines after free stands reply standing took runs =
        act_tells end choices d t' t'' lines free (standing ∙ stands) reply done_so undone_to
        (subst (λ (ks : List Dbkey). Runs end choices (done a t []) (at_stage t [] []) (at_stage t'' lines ks)) (sym took)
        (subst (λ (w : Work). Runs end choices (done a t []) (stage t w) (at_stage t'' lines taken)) new
        (subst (λ (x : Tables). Runs end choices (done a x []) (stage t work) (at_stage t'' lines taken)) begins runs)))
    act_answers (Err e) choices taken lines after free stands reply standing took runs = tt

    pub act_same : (res : Result Told NoMemory) → OnErr res (end ≡ Err stop.Memory) → OnErr res (t' ≡ t)
    act_same (Ok d) h = tt
    act_same (Err e) h = subst (λ (x : Result (Unit {0}) Stop). OnErr x (t' ≡ t)) h undone_to

usual_end : (end : Result (Unit {0}) Stop) (lines : List (List Scaled)) (reply : Reply) → reply_to end lines ≡ Some reply → is_refusal_of_means reply ≡ false
usual_end (Ok _) lines reply h = let e : r.Done lines ≡ reply = cc in ap is_refusal_of_means (sym e)
usual_end (Err stop.Overflow) lines reply h = let e : r.Overflow ≡ reply = cc in ap is_refusal_of_means (sym e)
usual_end (Err stop.TooLong) lines reply h = let e : r.TooLong ≡ reply = cc in ap is_refusal_of_means (sym e)
usual_end (Err (stop.Duplicate index)) lines reply h = let e : r.Duplicate index ≡ reply = cc in ap is_refusal_of_means (sym e)
usual_end (Err stop.Memory) lines reply h = absurd (cc)

pub usual_answer : (res : Result Told NoMemory) (end : Result (Unit {0}) Stop) (lines : List (List Scaled)) → IfOk res (λ d. reply_to end lines ≡ Some d.reply) → IfOk res (λ d. is_refusal_of_means d.reply ≡ false)
usual_answer (Ok d) end lines h = usual_end end lines d.reply h
usual_answer (Err e) end lines h = tt

-- ---- the public clauses

pub does_so : (m : List Dbkey → Meaning) (choices : List Dbkey) (d : Told) (t : Tables) → Tells m choices d t → m d.taken ≡ means d.reply t d.standing []
does_so m choices d t tells = ap m (sym (append-nil d.taken)) ∙ tells.means []

pub takes_nothing : (m : Meaning) (choices taken : List Dbkey) → taken ≡ [] → TakesFirst m choices taken
takes_nothing m choices taken none = inr (choices, ap (λ (ks : List Dbkey). ks ++ choices) (sym none))

pub says_first : (res : Result Told NoMemory) (m : List Dbkey → Meaning) (t : Tables) (whole : Meaning) (choices : List Dbkey) → Says res m t → IfOk res (λ d. TakesFirst whole choices d.taken)
says_first (Ok d) m t whole choices says = takes_nothing whole choices d.taken says.1
says_first (Err e) m t whole choices says = tt

pub redefines_first : (res : Result Told NoMemory) (m : List Dbkey → Meaning) (old new : Tables) (whole : Meaning) (choices : List Dbkey) → Redefines res m old new → IfOk res (λ d. TakesFirst whole choices d.taken)
redefines_first (Ok d) m old new whole choices says = takes_nothing whole choices d.taken says.1
redefines_first (Err e) m old new whole choices says = tt

pub does_act : (res : Result Told NoMemory) (word : List ℕ) (s : Standing) (u : Uttered) (a : Act) (choices : List Dbkey) (t t' : Tables) → u ≡ said (perform a) → Answers res (λ ks. act_meaning a s ks t) choices t' → IfOk res (λ d. Does word s u d.taken t d.reply t' d.standing)
does_act (Ok d) word s u a choices t t' is tells = ap (λ (x : Uttered). meaning word s x d.taken t) is ∙ does_so (λ ks. act_meaning a s ks t) choices d t' tells
does_act (Err e) word s u a choices t t' is tells = tt

pub chosen_act : (res : Result Told NoMemory) (word : List ℕ) (s : Standing) (u : Uttered) (a : Act) (choices : List Dbkey) (t t' : Tables) → u ≡ said (perform a) → Answers res (λ ks. act_meaning a s ks t) choices t' → IfOk res (λ d. TakesFirst (meaning word s u choices t) choices d.taken)
chosen_act (Ok d) word s u a choices t t' is tells = subst (λ (x : Uttered). TakesFirst (meaning word s x choices t) choices d.taken) (sym is) tells.follows
chosen_act (Err e) word s u a choices t t' is tells = tt

-- an action that is refused before it is done
pub refused_tells : (a : Act) (s after : Standing) (choices : List Dbkey) (t : Tables) (d : Told) (reply : Reply) → act_refusal a s t ≡ Some reply → after ≡ standing_for a s → d ≡ record { reply = reply; standing = after; taken = [] } → Tells (λ ks. act_meaning a s ks t) choices d t
refused_tells a s after choices t d reply e standing is =
    tells_plain (λ ks. act_meaning a s ks t) choices d t (ap (λ (x : Told). x.taken) is)
    (λ left. act_refused a s t reply e left ∙ ap (λ (x : Standing). means reply t x left) (sym standing) ∙ ap (λ (x : Told). means x.reply t x.standing left) (sym is))
