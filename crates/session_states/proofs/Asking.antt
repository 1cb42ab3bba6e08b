-- A lock that a stage wants is asked for, got, or refused.
use Rattle.std.proofs.Common.{◌≡◌, ℕ, ◌++◌, ◌∷◌, [], Bool, true, false, List, map, refl, ◌∙◌, sym, ap, subst, if◌then◌else◌, is_some, Option, Some, None, inl, inr}
use Rattle.rdo_ast.specs.declared.reply.Standing.{Standing}
use Rattle.rdo_ast.specs.declared.syntax.Item.{Item}
use Rattle.rdo_ast.specs.Views.{uttered_of}
use Rattle.lock_needs.specs.declared.need.Need.{Need}
use Rattle.lock_needs.specs.declared.party.OpenWant.{OpenWant}
use Rattle.lock_needs.specs.Party.{Party}
use Rattle.lock_needs.specs.Waits.{wanted, has_asked}
use Rattle.lock_tree_laws.specs.Forest.{State, NeedsAreApart, party_of, open_asks, opened_of}
use Rattle.lock_tree_laws.specs.Parties.{resting}
use Rattle.lock_tree_laws.specs.Wanted.{IsOf, IsWanting, needs_of}
use Rattle.rdb_account.specs.Events.{Got}
use Rattle.rdb_account.specs.Places.{Place, after, place_from}
use Rattle.rdb_account.specs.Lawful.{want_in, is_nowait}
use Rattle.rdb_account.proofs.Growth.{place-grown}
use Rattle.line_view.specs.Held.{Held}
use Rattle.line_steps.specs.session_jobs.Records.{Model, IsOrderly}
use Rattle.line_steps.specs.line_history.Transactions.{IsAskedOver}
use Rattle.line_steps.specs.lock_ties.Ties.{IsTiedTo, IsCall, MayWant, needs_at, wanted_at}
use Rattle.line_steps.proofs.of_lock_ties.Answers.{asked-tied}
use Rattle.line_steps.proofs.of_lock_ties.Got.{got-tied, wants-needs, wants-open}
use Rattle.line_steps.proofs.of_lock_ties.Parted.{got-apart}
use Rattle.line_steps.specs.Members.{member, writing}
use Rattle.line_steps.specs.Steps.{Here, Steps}
use Rattle.line_steps.proofs.Wants.{wants-all, wants-got}
use Rattle.session_states.specs.declared.stage.Stage.{Stage}
use Rattle.session_states.specs.declared.stage.Phase.TheVariants.{Writing}
use Rattle.session_states.specs.Locks.{lock_of, has_journal, HasJournal}
use Rattle.session_states.specs.Turns.{got}
use Rattle.session_states.specs.States.{item_of, writer, session}
use Rattle.session_states.specs.Shared.{Shared, with_locks}
use Rattle.session_states.specs.Fits.{has_said, StageFits, ClaimsFit, WantsAtMost}
use Rattle.store_counts.specs.Counts.{IsCounted}
use Rattle.store_counts.proofs.Kept.{counted-events, counted-gets}
use Rattle.session_states.proofs.Claims.{claims-stay, claims-got, wanted-nothing}
use Rattle.session_states.specs.Steps.{Step}
use Rattle.session_states.proofs.Basics.{said-wants, said-got, nowait-wants, nowait-got, wants-none}
use Rattle.session_states.proofs.Locking.{under-way, item-got, desk-wanting, desk-asks, stage-got, lock-asks, ends-got}
use Rattle.session_states.proofs.Resting.{leaves-others, none-dead}
use Rattle.session_states.proofs.Journal.{stage-off, journal-got}
use Rattle.session_states.proofs.Moments.{wants-at, both-at}

-- no want is open, or one of this need
pub may-call : (p : Place) (locks : State) (s : ℕ) (n : Need) → IsTiedTo p locks → IsOf n (opened_of locks s) → MayWant p s n
may-call p locks s n tied is = by (has_asked s (open_asks locks.parties locks.trail)) (opened_of locks s) is (tied.wants s)
  where
    by : (b : Bool) (w : Option OpenWant) → IsOf n w → want_in s p.asks ≡ (if b then wanted w else None) → MayWant p s n
    by false w is e = inl e
    by true None is e = inl e
    by true (Some w) is e = inr (e ∙ ap Some is)

-- the want that a call finds open is of the stage's lock, and so is the one that it leaves open
wants-of : (l : Option Need) (n : Need) (opened : Option OpenWant) → l ≡ Some n → IsOf n opened → WantsAtMost l opened
wants-of l n opened e h = subst (λ (x : Option Need). WantsAtMost x opened) (sym e) h

module _ (M : Model) (orderly : IsOrderly M) where
  -- The want is open behind the call: a notice is due, or it sleeps.
  pub asks-on : (s : ℕ) (c : Shared) (locks : State) (left : List Item) (total : ℕ) (standing : Standing) (known : Held) (spoken waits : Bool) (stage : Stage) (n : Need) (w : OpenWant) → lock_of stage ≡ Some n →
      (call : IsCall s n c.locks locks) → IsWanting locks s (needs_of c.locks s) w → w.need ≡ n →
      Step M s c (session left total (Writing (writer standing known spoken waits stage))) (with_locks locks c) (session left total (Writing (writer standing known spoken waits stage))) (wanted_at s n call.asks.nodes)
  asks-on s c locks left total standing known spoken waits stage n w wants call stands is = record {
    word = refl;
    others = record { store = (leaves-others s c).store; locks = call.others };
    moments = wants-at c.shelf.clock.time s n call.asks.nodes;
    leaves = λ o p g f.
        let items = map uttered_of left in
        let i = under-way stage n wants in
        let m = member items (writing standing (item_of stage)) total in
        let x = f.here.stands.state.transaction in
        let is_open = f.here.stands.state.is_open in
        let nodes = call.asks.nodes in
        let q = place_from o p (wanted_at s n nodes) in
        let at = desk-wanting M orderly p g c s standing known stage n wants f.fits.phase.desk in
        let steps : Steps M o p g s (member items (writing standing (Some i.0)) total) g (wanted_at s n nodes) =
        wants-all M orderly o p g s items total standing i.0 n nodes (none-dead M orderly o p g s m f.here)
        (subst (λ u. Here M o p g s (member items (writing standing u) total)) i.1 f.here) call.asks.way (may-call p c.locks s n f.fits.tied call.same)
        (subst (λ u. IsAskedOver M standing u (g.desk s).known n) i.1 (lock-asks M orderly o p g c s left total standing known spoken waits stage n wants f)) in
        record {
          ground = g;
          steps = subst (λ u. Steps M o p g s (member items (writing standing u) total) g (wanted_at s n nodes)) (sym i.1) steps;
          fits = record {
            ground = record { now = f.fits.ground.now; time = f.fits.ground.time; dead = f.fits.ground.dead };
            tied = asked-tied o p s n x is_open c.locks locks w f.fits.tied call stands is;
            phase = record {
              desk = (desk-asks M orderly q g (with_locks locks c) s standing known stage n wants at.0 at.1).0;
              spoken = said-wants o p s x n nodes is_open ∙ f.fits.phase.spoken;
              waits = nowait-wants o p s x n nodes is_open ∙ f.fits.phase.waits;
              stage = subst (λ ws. StageFits M c.word ws standing known spoken stage) (sym (wants-needs o p s x n nodes is_open s)) f.fits.phase.stage;
              wants = wants-of (lock_of stage) n (opened_of locks s) wants (subst (λ (y : Party). IsOf n y.opened) (sym stands) is);
              journal = subst (λ (y : Party). HasJournal (has_journal stage) y.needs) (sym stands) f.fits.phase.journal;
              ends = f.fits.phase.ends;
              claims = claims-stay c.shelf o p (wanted_at s n nodes) s (wanted-nothing c.shelf s n nodes) (ap is_some (wants-open o p s x n nodes is_open).1) stage f.fits.phase.claims;
            };
          };
          counted = counted-events o p (wanted_at s n nodes) c.shelf (wanted-nothing c.shelf s n nodes) f.counted;
        };
  }

  -- the lock is got
  pub gets-on : (s : ℕ) (c : Shared) (locks : State) (left : List Item) (total : ℕ) (standing : Standing) (known : Held) (spoken waits : Bool) (stage : Stage) (n : Need) → lock_of stage ≡ Some n →
      (call : IsCall s n c.locks locks) → NeedsAreApart locks → party_of locks.parties s ≡ resting (needs_of c.locks s ++ n ∷ []) →
      Step M s c (session left total (Writing (writer standing known spoken waits stage))) (with_locks locks c) (session left total (Writing (writer standing known spoken waits (got stage)))) (wanted_at s n call.asks.nodes ++ Got s n ∷ [])
  gets-on s c locks left total standing known spoken waits stage n wants call apart rests = record {
    word = refl;
    others = record { store = (leaves-others s c).store; locks = call.others };
    moments = both-at c.shelf.clock.time (wanted_at s n call.asks.nodes) (Got s n ∷ []) (wants-at c.shelf.clock.time s n call.asks.nodes) (tt, tt);
    leaves = λ o p g f.
        let items = map uttered_of left in
        let i = under-way stage n wants in
        let m = member items (writing standing (item_of stage)) total in
        let x = f.here.stands.state.transaction in
        let is_open = f.here.stands.state.is_open in
        let nodes = call.asks.nodes in
        let q = place_from o p (wanted_at s n nodes) in
        let r = after o q (Got s n) in
        let there = wants-open o p s x n nodes is_open in
        let grown : place_from o p (wanted_at s n nodes ++ Got s n ∷ []) ≡ r = place-grown o p (wanted_at s n nodes) (Got s n ∷ []) in
        let tied : IsTiedTo r locks = got-tied o c.locks locks s n p x is_open f.fits.tied call rests in
        let has : needs_at r s ≡ needs_at p s ++ n ∷ [] = tied.needs s ∙ (ap (λ (y : Party). y.needs) rests ∙ ap (λ ws. ws ++ n ∷ []) (sym (f.fits.tied.needs s))) in
        let at = desk-wanting M orderly p g c s standing known stage n wants f.fits.phase.desk in
        let steps : Steps M o p g s (member items (writing standing (Some i.0)) total) g (wanted_at s n nodes ++ Got s n ∷ []) =
        wants-got M orderly o p g s items total standing i.0 n nodes (none-dead M orderly o p g s m f.here)
        (subst (λ u. Here M o p g s (member items (writing standing u) total)) i.1 f.here) call.asks.way (may-call p c.locks s n f.fits.tied call.same)
        (subst (λ u. IsAskedOver M standing u (g.desk s).known n) i.1 (lock-asks M orderly o p g c s left total standing known spoken waits stage n wants f))
        (got-apart c.locks locks s n p f.fits.tied.needs call.others rests apart) in
        record {
          ground = g;
          steps = subst (λ u. Steps M o p g s (member items (writing standing u) total) g (wanted_at s n nodes ++ Got s n ∷ [])) (sym i.1 ∙ item-got stage) steps;
          fits = record {
            ground = record { now = f.fits.ground.now; time = f.fits.ground.time; dead = f.fits.ground.dead };
            tied = subst (λ (y : Place). IsTiedTo y locks) (sym grown) tied;
            phase = record {
              desk = (desk-asks M orderly (place_from o p (wanted_at s n nodes ++ Got s n ∷ [])) g (with_locks locks c) s standing known stage n wants at.0 at.1).1;
              spoken = ap (λ (y : Place). has_said (y.transaction s)) grown ∙ (said-got o q s there.0 n there.1 ∙ (said-wants o p s x n nodes is_open ∙ f.fits.phase.spoken));
              waits = ap (λ (y : Place). is_nowait (y.transaction s)) grown ∙ (nowait-got o q s there.0 n there.1 ∙ (nowait-wants o p s x n nodes is_open ∙ f.fits.phase.waits));
              stage = subst (λ ws. StageFits M c.word ws standing known spoken (got stage)) (sym (ap (λ (y : Place). needs_at y s) grown ∙ has)) (stage-got M orderly c.word (needs_at p s) standing known spoken stage n wants f.fits.phase.stage);
              wants = wants-none (lock_of (got stage)) (opened_of locks s) (ap (λ (y : Party). y.opened) rests);
              journal = subst (λ (y : Party). HasJournal (has_journal (got stage)) y.needs) (sym rests) (journal-got stage n wants (stage-off M orderly c.word (needs_at p s) standing known spoken stage f.fits.phase.stage) (needs_of c.locks s) f.fits.phase.journal);
              ends = ends-got left stage n wants;
              claims = subst (λ (y : Place). ClaimsFit y s (got stage)) (sym grown) (claims-got o q s there.0 stage n there.1 wants (claims-stay c.shelf o p (wanted_at s n nodes) s (wanted-nothing c.shelf s n nodes) (ap is_some there.1) stage f.fits.phase.claims));
            };
          };
          counted = subst (λ (y : Place). IsCounted o y c.shelf) (sym grown) (counted-gets o q s there.0 n c.shelf there.1 (counted-events o p (wanted_at s n nodes) c.shelf (wanted-nothing c.shelf s n nodes) f.counted));
        };
  }
