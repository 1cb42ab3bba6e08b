-- An item that begins no transaction is answered where none is open.
use Rattle.std.proofs.Common.{◌≡◌, ℕ, ◌∷◌, [], ◌&&◌, true, false, List, map, refl, ◌∙◌, sym, ap, subst, Option, Some, None}
use Rattle.rdb_types.specs.declared.keys.Dbkey.{Dbkey}
use Rattle.rdo_ast.specs.declared.reply.Reply.{Reply}
use Rattle.rdo_ast.specs.declared.reply.Reply.TheVariants.{NoMemory}
use Rattle.rdo_ast.specs.declared.reply.Standing.{Standing}
use Rattle.rdo_ast.specs.declared.reply.Standing.TheVariants.{Closed}
use Rattle.rdo_ast.specs.declared.syntax.Item.{Item}
use Rattle.rdo_ast.specs.Tree.{Uttered, said, syntax_fault, invoke, start_read_only, start_read_write, commit, rollback, finish, back_up, perform, define_field, define_relation, define_index, delete_relation, delete_index}
use Rattle.rdo_ast.specs.Views.{uttered_of}
use Rattle.rdb_meaning.specs.declared.tables.Tables.{Tables}
use Rattle.line_steps.specs.Right.{Ground}
use Rattle.rdb_meaning.specs.Meaning.{Meaning, means, meaningless, meaning}
use Rattle.rdb_account.specs.Events.{Said}
use Rattle.rdb_account.specs.Places.{Opening, Place, Transaction, Line, after, begins, changed, with_line, is_done}
use Rattle.rdb_account.specs.Lawful.{got_of, reply_of}
use Rattle.rdb_account.specs.Legal.{ends_by, may_be_outside, IsReply}
use Rattle.line_view.specs.Held.{knows, nothing}
use Rattle.line_steps.specs.session_jobs.Records.{Model, IsOrderly}
use Rattle.line_steps.specs.session_jobs.Jobs.{IsFound}
use Rattle.line_steps.specs.session_jobs.declared.jobs.TxRecord.{TxRecord}
use Rattle.line_steps.specs.session_jobs.declared.jobs.Found.TheVariants.{Done}
use Rattle.line_steps.proofs.of_lock_ties.Got.{ended-tied}
use Rattle.line_steps.proofs.Outside.{answers-outside}
use Rattle.session_states.specs.declared.stage.Phase.TheVariants.{Outside}
use Rattle.session_states.specs.States.{session}
use Rattle.session_states.specs.Shared.{Shared}
use Rattle.session_states.specs.Steps.{Finds, Step}
use Rattle.session_states.proofs.Forgoing.{and-undone}
use Rattle.session_states.proofs.Parting.{nothing-agrees}
use Rattle.session_states.proofs.Resting.{leaves-others}
use Rattle.store_counts.proofs.Kept.{counted-events}

-- outside a transaction a COMMIT or ROLLBACK isn't done
abbrev EndsNone : Uttered → Meaning → Type 0
EndsNone item (means reply t standing ks) = (ends_by item && is_done reply) ≡ false
EndsNone item meaningless = Unit {0}

ends-none : (item : Uttered) (m : Meaning) → ends_by item ≡ false → EndsNone item m
ends-none item (means reply t standing ks) h = rw h refl
ends-none item meaningless h = tt

none-ends : (word : List ℕ) (item : Uttered) (ks : List Dbkey) (t : Tables) → EndsNone item (meaning word Closed item ks t)
none-ends word (syntax_fault line column) ks t = ends-none (syntax_fault line column) (meaning word Closed (syntax_fault line column) ks t) refl
none-ends word (said (invoke text)) ks t = ends-none (said (invoke text)) (meaning word Closed (said (invoke text)) ks t) refl
none-ends word (said start_read_only) ks t = ends-none (said start_read_only) (meaning word Closed (said start_read_only) ks t) refl
none-ends word (said (start_read_write wait rs)) ks t = ends-none (said (start_read_write wait rs)) (meaning word Closed (said (start_read_write wait rs)) ks t) refl
none-ends word (said commit) ks t = refl
none-ends word (said rollback) ks t = refl
none-ends word (said finish) ks t = ends-none (said finish) (meaning word Closed (said finish) ks t) refl
none-ends word (said (back_up n)) ks t = ends-none (said (back_up n)) (meaning word Closed (said (back_up n)) ks t) refl
none-ends word (said (perform a)) ks t = ends-none (said (perform a)) (meaning word Closed (said (perform a)) ks t) refl
none-ends word (said (define_field n type)) ks t = ends-none (said (define_field n type)) (meaning word Closed (said (define_field n type)) ks t) refl
none-ends word (said (define_relation n fs)) ks t = ends-none (said (define_relation n fs)) (meaning word Closed (said (define_relation n fs)) ks t) refl
none-ends word (said (define_index d)) ks t = ends-none (said (define_index d)) (meaning word Closed (said (define_index d)) ks t) refl
none-ends word (said (delete_relation n)) ks t = ends-none (said (delete_relation n)) (meaning word Closed (said (delete_relation n)) ks t) refl
none-ends word (said (delete_index n)) ks t = ends-none (said (delete_index n)) (meaning word Closed (said (delete_index n)) ks t) refl

-- for want of memory even what would begin a transaction may be answered outside
may-forgo : (kind : Option Standing) → may_be_outside kind NoMemory ≡ true
may-forgo None = refl
may-forgo (Some kind) = refl

module _ (M : Model) (orderly : IsOrderly M) where
  -- whatever its reply is
  says-outside : (s : ℕ) (c : Shared) (item : Item) (left : List Item) (total : ℕ) (choices : List Dbkey) (reply : Reply) → may_be_outside (begins (uttered_of item)) reply ≡ true →
      ((o : Opening) (p : Place) (g : Ground) → Finds M o p g c s (session (item ∷ left) total Outside) → IsReply o p s Closed p.tables (record { item = uttered_of item; choices = choices; reply = reply }) × ((ends_by (uttered_of item) && is_done reply) ≡ false)) →
      Step M s c (session (item ∷ left) total Outside) c (session left total Outside) (Said s (uttered_of item) choices reply ∷ [])
  says-outside s c item left total choices reply may replies = record {
    word = refl;
    others = leaves-others s c;
    moments = (tt, tt);
    leaves = λ o p g f.
        let i = uttered_of item in
        let l : Line = record { item = i; choices = choices; reply = reply } in
        let q : Place = after o p (Said s i choices reply) in
        let same : q.transaction ≡ p.transaction = ap (λ (z : Option Transaction). (changed s (with_line l) z p).transaction) f.here.stands.state in
        record {
          ground = g;
          steps = answers-outside M orderly o p g s (map uttered_of left) total l f.here (replies o p g f).0 may (replies o p g f).1;
          fits = record {
            ground = record { now = f.fits.ground.now; time = f.fits.ground.time; dead = f.fits.ground.dead };
            tied = ended-tied c.locks c.locks s p q f.fits.tied (λ u other. refl) f.fits.phase.1 refl refl (λ t. ap (λ (e : ℕ → Option Transaction). got_of (e t)) same ∙ f.fits.tied.needs t);
            phase = f.fits.phase;
          };
          counted = counted-events o p (Said s i choices reply ∷ []) c.shelf (tt, tt) f.counted;
        };
  }

  -- it was worked over nothing that is known, with which every map agrees
  pub answers-on : (s : ℕ) (c : Shared) (item : Item) (left : List Item) (total : ℕ) (r : TxRecord) → begins (uttered_of item) ≡ None → IsFound M c.word Closed (uttered_of item) (knows nothing) (Done r) →
      Step M s c (session (item ∷ left) total Outside) c (session left total Outside) (Said s (uttered_of item) r.choices r.reply ∷ [])
  answers-on s c item left total r none found =
      let i = uttered_of item in
      says-outside s c item left total r.choices r.reply (subst (λ (kind : Option Standing). may_be_outside kind r.reply ≡ true) (sym none) refl)
      (λ o p g f.
      let does = found.right.does g.now p.tables f.here.fit.stands (nothing-agrees g.now) in (
        rw found.right.usual (subst (λ (w : List ℕ). reply_of (meaning w Closed i r.choices p.tables) ≡ Some r.reply) (sym f.word) (ap reply_of does.does)),
        subst (EndsNone i) does.does (none-ends c.word i r.choices p.tables),
      ))

  -- no memory is found for it
  pub forgoes-outside : (s : ℕ) (c : Shared) (item : Item) (left : List Item) (total : ℕ) →
      Step M s c (session (item ∷ left) total Outside) c (session left total Outside) (Said s (uttered_of item) [] NoMemory ∷ [])
  forgoes-outside s c item left total =
      says-outside s c item left total [] NoMemory (may-forgo (begins (uttered_of item))) (λ o p g f. ((tt, refl), and-undone (ends_by (uttered_of item))))
