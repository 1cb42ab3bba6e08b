-- A statement is refused by a lock, in a transaction in which something was said.
use Rattle.std.proofs.Common.{◌≡◌, ℕ, ◌++◌, ◌∷◌, [], ◌==◌, ◌&&◌, not, Bool, true, false, List, map, refl, ◌∙◌, sym, ap, subst, Some, None}
use Rattle.std.proofs.lemmas.Bool.{false≢true}
use Rattle.rdo_ast.specs.declared.reply.Reply.{Reply}
use Rattle.rdo_ast.specs.declared.reply.Standing.{Standing}
use Rattle.rdo_ast.specs.declared.syntax.Item.{Item}
use Rattle.rdo_ast.specs.Tree.{Uttered, said, syntax_fault, invoke, start_read_only, start_read_write, commit, rollback, finish, back_up, perform, define_field, define_relation, define_index, delete_relation, delete_index}
use Rattle.rdo_ast.specs.Views.{uttered_of}
use Rattle.rdb_meaning.specs.Checks.{Refusal}
use Rattle.rdb_meaning.specs.Usual.{is_refusal_of_means}
use Rattle.rdb_meaning.specs.declared.tables.Tables.{Tables}
use Rattle.lock_needs.specs.declared.need.Need.{Need}
use Rattle.lock_needs.specs.Party.{Party}
use Rattle.lock_needs.specs.Waits.{converts_at}
use Rattle.lock_tree_laws.specs.Forest.{State, party_of}
use Rattle.lock_tree_laws.specs.Parties.{resting}
use Rattle.lock_tree_laws.specs.Wanted.{needs_of}
use Rattle.rdb_account.specs.Events.{Said}
use Rattle.rdb_account.specs.Places.{Opening, Place, Transaction, Line, after, place_from, is_done}
use Rattle.rdb_account.specs.Lawful.{IsExcused, has_cause, first_refusal, is_nowait, never_waits}
use Rattle.rdb_account.specs.AskedFor.{item_asks}
use Rattle.rdb_account.specs.Legal.{ends_by}
use Rattle.rdb_account.proofs.Growth.{place-grown}
use Rattle.line_view.specs.Held.{Held}
use Rattle.line_view.specs.Writes.{laid_all}
use Rattle.line_steps.specs.session_jobs.Records.{Model, IsOrderly}
use Rattle.line_steps.specs.line_history.Transactions.{IsAskedOver}
use Rattle.line_steps.specs.lock_ties.Ties.{IsTiedTo, IsCall, wanted_at}
use Rattle.line_steps.proofs.of_lock_ties.Places.{number}
use Rattle.line_steps.proofs.of_lock_ties.Got.{closed-tied, wants-needs, wants-open}
use Rattle.line_steps.specs.Members.{member, writing}
use Rattle.line_steps.specs.Right.{Writes}
use Rattle.line_steps.specs.Steps.{Here, Steps}
use Rattle.line_steps.proofs.Wants.{wants-all}
use Rattle.line_steps.proofs.Saying.{refuses-writing}
use Rattle.line_steps.proofs.Kept.{arrives, in-turn}
use Rattle.session_states.specs.declared.stage.Stage.{Stage}
use Rattle.session_states.specs.declared.stage.Stage.TheVariants.{Between}
use Rattle.session_states.specs.declared.stage.Phase.TheVariants.{Writing}
use Rattle.session_states.specs.Locks.{lock_of}
use Rattle.session_states.specs.States.{item_of, writer, session}
use Rattle.session_states.specs.Shared.{Shared, with_locks}
use Rattle.session_states.specs.Fits.{has_said}
use Rattle.session_states.specs.Steps.{Step}
use Rattle.session_states.proofs.Basics.{said-first, said-wants, nowait-wants}
use Rattle.session_states.proofs.Locking.{wanting-rests, desk-resting, lock-asks}
use Rattle.session_states.proofs.Journal.{resting-free}
use Rattle.line_steps.specs.Images.{journal_node}
use Rattle.session_states.proofs.Resting.{leaves-others, none-dead}
use Rattle.session_states.proofs.Asking.{may-call}
use Rattle.store_counts.proofs.Kept.{counted-events}
use Rattle.session_states.proofs.Claims.{wanted-nothing, both-nothing}
use Rattle.session_states.proofs.Storing.{said-needs, said-more, nowait-said}
use Rattle.session_states.proofs.Moments.{wants-at, both-at}

-- what asks for a need isn't refused by its standing
pub asks-free : (refused : Refusal) (t : Tables) (n : Need) (item : Uttered) → item_asks refused t n item ≡ true → refused ≡ None
asks-free None t n item h = refl
asks-free (Some reply) t n item h = absurd (false≢true h)

-- and waits for locks, unless it ends its transaction
pub asks-waits : (t : Tables) (n : Need) (item : Uttered) → item_asks None t n item ≡ true → ends_by item ≡ false → never_waits item ≡ false
asks-waits t n (syntax_fault line column) h stays = refl
asks-waits t n (said (invoke text)) h stays = absurd (false≢true h)
asks-waits t n (said start_read_only) h stays = refl
asks-waits t n (said (start_read_write wait rs)) h stays = refl
asks-waits t n (said commit) h stays = absurd (false≢true (sym stays))
asks-waits t n (said rollback) h stays = absurd (false≢true (sym stays))
asks-waits t n (said finish) h stays = absurd (false≢true h)
asks-waits t n (said (back_up number)) h stays = absurd (false≢true h)
asks-waits t n (said (perform a)) h stays = refl
asks-waits t n (said (define_field name type)) h stays = refl
asks-waits t n (said (define_relation name fs)) h stays = refl
asks-waits t n (said (define_index d)) h stays = refl
asks-waits t n (said (delete_relation name)) h stays = refl
asks-waits t n (said (delete_index name)) h stays = refl

-- what doesn't end its transaction, whatever its reply
pub unended : (b d : Bool) → b ≡ false → (b && d) ≡ false
unended b d h = rw h refl

module _ (M : Model) (orderly : IsOrderly M) where
  pub refuses-on : (s : ℕ) (c : Shared) (locks : State) (left : List Item) (total : ℕ) (standing : Standing) (known : Held) (waits : Bool) (stage : Stage) (n : Need) (item : Uttered) (reply : Reply) → lock_of stage ≡ Some n →
      item_of stage ≡ Some item → ends_by item ≡ false → (call : IsCall s n c.locks locks) → party_of locks.parties s ≡ resting (needs_of c.locks s) → is_refusal_of_means reply ≡ true →
      ((word : List ℕ) (t : Tables) → first_refusal standing item ≡ None → item_asks None t n item ≡ true → IsExcused reply word standing t item) →
      ((o : Opening) (p : Place) (x : Transaction) → p.transaction s ≡ Some x → IsTiedTo p c.locks → is_nowait (p.transaction s) ≡ not waits → has_cause o (place_from o p (wanted_at s n call.asks.nodes)) s reply ≡ true) →
      Step M s c (session left total (Writing (writer standing known true waits stage))) (with_locks locks c) (session left total (Writing (writer standing known true waits Between))) (wanted_at s n call.asks.nodes ++ Said s item [] reply ∷ [])
  refuses-on s c locks left total standing known waits stage n item reply wants is stays call rests refused excused cause = record {
    word = refl;
    others = record { store = (leaves-others s c).store; locks = call.others };
    moments = both-at c.shelf.clock.time (wanted_at s n call.asks.nodes) (Said s item [] reply ∷ []) (wants-at c.shelf.clock.time s n call.asks.nodes) (tt, tt);
    leaves = λ o p g f.
        let items = map uttered_of left in
        let i = item in
        let m = member items (writing standing (Some i)) total in
        let k = member items (writing standing None) total in
        let x = f.here.stands.state.transaction in
        let is_open = f.here.stands.state.is_open in
        let nodes = call.asks.nodes in
        let q = place_from o p (wanted_at s n nodes) in
        let l : Line = record { item = i; choices = []; reply = reply } in
        let r = after o q (Said s i [] reply) in
        let there = wants-open o p s x n nodes is_open in
        let at = desk-resting M orderly p g c s standing known stage (wanting-rests stage n i wants is stays) f.fits.phase.desk in
        let none = none-dead M orderly o p g s (member items (writing standing (item_of stage)) total) f.here in
        let here : Here M o p g s m = subst (λ u. Here M o p g s (member items (writing standing u) total)) is f.here in
        let asked : IsAskedOver M standing (Some i) (g.desk s).known n = subst (λ u. IsAskedOver M standing u (g.desk s).known n) is (lock-asks M orderly o p g c s left total standing known true waits stage n wants f) in
        let a : Steps M o p g s m g (wanted_at s n nodes) = wants-all M orderly o p g s items total standing i n nodes none here call.asks.way (may-call p c.locks s n f.fits.tied call.same) asked in
        let w : Writes M o p g s standing (Some i) = here.stands.state in
        let b : Steps M o a.to g s k g (Said s i [] reply ∷ []) =
        refuses-writing M orderly o a.to g s items total standing l (arrives M orderly o p g g s m m (wanted_at s n nodes) none here a) refused
        (λ t sound. let h = asked (laid_all (g.desk s).writes g.now) t sound w.is.agrees in let free = asks-free (first_refusal standing i) t n i h in
        excused o.word t free (subst (λ (u : Refusal). item_asks u t n i ≡ true) free h))
        (subst (λ (y : Place). has_cause o y s reply ≡ true) a.leads (cause o p x is_open f.fits.tied f.fits.phase.waits))
        (said-first (a.to.transaction s) i reply (subst (λ (y : Place). has_said (y.transaction s) ≡ true) a.leads (said-wants o p s x n nodes is_open ∙ f.fits.phase.spoken)))
        (unended (ends_by i) (is_done reply) stays) in
        let grown : place_from o p (wanted_at s n nodes ++ Said s i [] reply ∷ []) ≡ r = place-grown o p (wanted_at s n nodes) (Said s i [] reply ∷ []) in
        record {
          ground = g;
          steps = in-turn M orderly o p g g g s m k (wanted_at s n nodes) (Said s i [] reply ∷ []) a b;
          fits = record {
            ground = record { now = f.fits.ground.now; time = f.fits.ground.time; dead = f.fits.ground.dead };
            tied = subst (λ (y : Place). IsTiedTo y locks) (sym grown)
                (closed-tied o c.locks locks s n p r x is_open f.fits.tied call (ap (λ (y : Party). y.opened) rests) refl
                (λ t. said-needs o q s there.0 l there.1 t ∙ (wants-needs o p s x n nodes is_open t ∙ (f.fits.tied.needs t ∙ same c locks rests call t (t == s) refl))));
            phase = record {
              desk = (at.0, at.1);
              spoken = ap (λ (y : Place). has_said (y.transaction s)) grown ∙ said-more o q s there.0 l there.1;
              waits = ap (λ (y : Place). is_nowait (y.transaction s)) grown ∙ (nowait-said o q s there.0 l there.1 ∙ (nowait-wants o p s x n nodes is_open ∙ f.fits.phase.waits));
              stage = refl;
              wants = ap (λ (y : Party). y.opened) rests;
              journal = subst (λ (y : Party). converts_at y.needs journal_node ≡ false) (sym rests) (resting-free stage (needs_of c.locks s) (wanting-rests stage n i wants is stays) f.fits.phase.journal);
              ends = tt;
              claims = tt;
            };
          };
          counted = counted-events o p (wanted_at s n nodes ++ Said s i [] reply ∷ []) c.shelf (both-nothing c.shelf (wanted_at s n nodes) (Said s i [] reply ∷ []) (wanted-nothing c.shelf s n nodes) (tt, tt)) f.counted;
        };
  }
    where
      same : (c : Shared) (locks : State) → party_of locks.parties s ≡ resting (needs_of c.locks s) → IsCall s n c.locks locks → (t : ℕ) (b : Bool) → (t == s) ≡ b → (party_of c.locks.parties t).needs ≡ (party_of locks.parties t).needs
      same c locks rests call t true e = subst (λ u. (party_of c.locks.parties u).needs ≡ (party_of locks.parties u).needs) (sym (number t s e)) (sym (ap (λ (y : Party). y.needs) rests))
      same c locks rests call t false e = ap (λ (y : Party). y.needs) (sym (call.others t e))
