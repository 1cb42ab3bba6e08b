-- A session asks for a need that its statement asks for, node by node, and gets it.
use Rattle.std.proofs.Common.{◌≡◌, ℕ, ◌+◌, ◌++◌, ◌∷◌, [], ◌==◌, if◌then◌else◌, Bool, true, false, List, refl, sym, ap, subst, Option, Some, inl, inr, length}
use Rattle.std.specs.List.{AllByRecursion}
use Rattle.std.proofs.lemmas.Bool.{and_from}
use Rattle.rdb_types.specs.declared.node.Node.{Node}
use Rattle.rdo_ast.specs.declared.reply.Standing.{Standing}
use Rattle.rdo_ast.specs.Tree.{Uttered}
use Rattle.lock_needs.specs.declared.need.Need.{Need}
use Rattle.lock_needs.specs.Nodes.{is_on}
use Rattle.line_view.specs.declared.writes.Write.{Write}
use Rattle.rdb_account.specs.Events.{Wanted, Got}
use Rattle.rdb_account.specs.Places.{Opening, Place, Transaction, at, after, wanting, with_need, asks_of_others, is_line, pairs_with}
use Rattle.rdb_account.specs.Lawful.{got_of, want_in}
use Rattle.rdb_account.specs.Legal.{is_one_want}
use Rattle.lock_ties.specs.Ties.{needs_at, Apart, MayWant, wanted_at}
use Rattle.lock_ties.proofs.Places.{at-same}
use Rattle.lock_ties.proofs.Asks.{ask, want-more, want-again}
use Rattle.lock_ties.proofs.Single.{may-want}
use Rattle.lock_ties.proofs.Parted.{may-get}
use Rattle.lock_ties.proofs.Got.{wants-needs}
use Rattle.line_history.specs.kept_apart.Guards.{AreOwn, line_node}
use Rattle.line_history.proofs.of_kept_apart.Alike.{alike-refl, guarded-more}
use Rattle.line_history.proofs.of_kept_apart.Apart.{guarded-grown, may-write-grown}
use Rattle.line_history.specs.session_jobs.Records.{Model, IsOrderly}
use Rattle.line_history.specs.session_jobs.Asked.{locks}
use Rattle.line_history.specs.Transactions.{IsAskedOver}
use Rattle.line_history.proofs.Transactions.{holds-now, writing-learns, stands-asked}
use Rattle.line_history.proofs.Standings.{writer-locks, start-locks}
use Rattle.line_steps.specs.Members.{writing, member}
use Rattle.line_steps.specs.Right.{Ground, Writes}
use Rattle.line_steps.specs.Steps.{Here, Steps}
use Rattle.line_steps.proofs.Common.{ready, next-is, stands-silent, apart-still, fit-with}
use Rattle.line_steps.proofs.Saying.{first-said}
use Rattle.line_steps.proofs.Kept.{rests, arrives, in-turn}

-- a want that is asked at one more node is open then
wanted-now : (p : Place) (s : ℕ) (n : Need) (node : Node) → MayWant p s n → want_in s (p.asks ++ ask s n node ∷ []) ≡ Some n
wanted-now p s n node (inl none) = want-more s n node p.asks none
wanted-now p s n node (inr some) = want-again s n n node p.asks some

module _ (M : Model) (orderly : IsOrderly M) where
  -- ---- a want is asked at one more node

  abbrev pub behind_wanted : Place → ℕ → Transaction → Need → Node → Place
  behind_wanted p s x n asked = record p { transaction = at s (Some (wanting n x)) p.transaction; asks = p.asks ++ record { session = s; need = n; node = asked } ∷ [] }

  wanted-place : (o : Opening) (p : Place) (s : ℕ) (x : Transaction) (n : Need) (asked : Node) → p.transaction s ≡ Some x → after o p (Wanted s n asked) ≡ behind_wanted p s x n asked
  wanted-place o p s x n asked is_open = rw is_open refl

  pub wants : (o : Opening) (p : Place) (g : Ground) (s : ℕ) (left : List Uttered) (total : ℕ) (standing : Standing) (item : Uttered) (n : Need) (asked : Node) →
      Here M o p g s (member left (writing standing (Some item)) total) → is_on asked n.node ≡ true → MayWant p s n → IsAskedOver M standing (Some item) (g.desk s).known n →
      Steps M o p g s (member left (writing standing (Some item)) total) g (Wanted s n asked ∷ [])
  wants o p g s left total standing item n asked h on_way may needed =
      let w = h.stands.state in
      let x = w.transaction in
      let m = member left (writing standing (Some item)) total in
      let next = next-is M o p g s m item left h.stands refl in
      record {
        may = (
          (
            ready p s h.awake h.free h.stands.lives,
            rw w.is_open w.writes,
            and_from (is_on asked n.node) (is_one_want s n p.asks) on_way (may-want p s n h.asks may),
            stands-asked M orderly o.word o p s x g.now (g.desk s).writes standing (g.desk s).known item n h.fit.stands refl w.is_open next w.is.holds w.is.agrees needed,
          ),
          tt,
        );
        own = (refl, tt);
        to = behind_wanted p s x n asked;
        leads = wanted-place o p s x n asked w.is_open;
        settled = h.free;
        fit = fit-with M p (behind_wanted p s x n asked) g g s (Some (wanting n x)) refl h.fit.dead h.fit.past h.fit.order h.fit.stands (apart-still p s x.got (ap got_of w.is_open) h.fit.apart) h.fit;
        stands = stands-silent M o p (behind_wanted p s x n asked) g g s m m h.stands refl refl refl h.stands.lives
            (record { transaction = wanting n x; is_open = at-same s (Some (wanting n x)) p.transaction; writes = w.writes; spoken = w.spoken; remains = w.remains; is = w.is });
        desks = λ t other. refl;
        alike = λ t other. alike-refl (needs_at p t) g.now;
      }

  -- ---- a need is got

  abbrev pub behind_got : Place → ℕ → Transaction → Need → Place
  behind_got p s x n = record p {
    transaction = at s (Some (with_need n x)) p.transaction;
    asks = asks_of_others s p.asks;
    touched = if is_line n.node.level then p.touched ++ n.node ∷ [] else p.touched;
    pairs = p.pairs + pairs_with n (Some x);
  }

  got-place : (o : Opening) (p : Place) (s : ℕ) (x : Transaction) (n : Need) → p.transaction s ≡ Some x → after o p (Got s n) ≡ behind_got p s x n
  got-place o p s x n is_open = rw is_open refl

  own-grown : (got more : List Need) (writes : List Write) → AreOwn got writes → AreOwn (got ++ more) writes
  own-grown got more [] h = tt
  own-grown got more (w ∷ ws) h = (may-write-grown got more (line_node w.key) h.0, own-grown got more ws h.1)

  pub gets : (o : Opening) (p : Place) (g : Ground) (s : ℕ) (left : List Uttered) (total : ℕ) (standing : Standing) (item : Uttered) (n : Need) →
      Here M o p g s (member left (writing standing (Some item)) total) → ((t : ℕ) → (t == s) ≡ false → Apart (needs_at p s ++ n ∷ []) (needs_at p t)) → IsAskedOver M standing (Some item) (g.desk s).known n →
      Steps M o p g s (member left (writing standing (Some item)) total) g (Got s n ∷ [])
  gets o p g s left total standing item n h apart needed =
      let w = h.stands.state in
      let x = w.transaction in
      let m = member left (writing standing (Some item)) total in
      let next = next-is M o p g s m item left h.stands refl in
      record {
        may = (
          (
            ready p s h.awake h.free h.stands.lives,
            rw w.is_open w.writes,
            stands-asked M orderly o.word o p s x g.now (g.desk s).writes standing (g.desk s).known item n h.fit.stands refl w.is_open next w.is.holds w.is.agrees needed,
            may-get p s n apart,
          ),
          tt,
        );
        own = (refl, tt);
        to = behind_got p s x n;
        leads = got-place o p s x n w.is_open;
        settled = h.free;
        fit = fit-with M p (behind_got p s x n) g g s (Some (with_need n x)) refl h.fit.dead h.fit.past h.fit.order h.fit.stands
            (λ t other. subst (λ (y : Option Transaction). Apart (got_of y ++ n ∷ []) (needs_at p t)) w.is_open (apart t other)) h.fit;
        stands = stands-silent M o p (behind_got p s x n) g g s m m h.stands refl refl refl h.stands.lives
            (record {
              transaction = with_need n x;
              is_open = at-same s (Some (with_need n x)) p.transaction;
              writes = w.writes;
              spoken = w.spoken;
              remains = w.remains;
              is = writing-learns M orderly o.word x.got (x.got ++ n ∷ []) g.now x.lines (g.desk s).writes standing (g.desk s).known (g.desk s).known w.is
                  (guarded-grown x.got (n ∷ [])) (own-grown x.got (n ∷ []) (g.desk s).writes w.is.own) (guarded-more x.got (x.got ++ n ∷ []) (g.desk s).known (guarded-grown x.got (n ∷ [])) w.is.guarded) w.is.agrees;
            });
        desks = λ t other. refl;
        alike = λ t other. alike-refl (needs_at p t) g.now;
      }

  -- ---- a whole call of a want

  -- it is asked at these nodes in turn
  pub wants-all : (o : Opening) (p : Place) (g : Ground) (s : ℕ) (left : List Uttered) (total : ℕ) (standing : Standing) (item : Uttered) (n : Need) (nodes : List Node) → g.dead ≡ 0 →
      Here M o p g s (member left (writing standing (Some item)) total) → AllByRecursion (λ asked. is_on asked n.node ≡ true) nodes → MayWant p s n → IsAskedOver M standing (Some item) (g.desk s).known n →
      Steps M o p g s (member left (writing standing (Some item)) total) g (wanted_at s n nodes)
  wants-all o p g s left total standing item n [] none h on_way may needed = rests M orderly o p g s (member left (writing standing (Some item)) total) h
  wants-all o p g s left total standing item n (asked ∷ nodes) none h on_way may needed =
      let m = member left (writing standing (Some item)) total in
      let a = wants o p g s left total standing item n asked h on_way.0 may needed in
      in-turn M orderly o p g g g s m m (Wanted s n asked ∷ []) (wanted_at s n nodes) a
      (wants-all o a.to g s left total standing item n nodes none (arrives M orderly o p g g s m m (Wanted s n asked ∷ []) none h a) on_way.1
      (subst (λ (q : Place). MayWant q s n) a.leads (inr (wanted-now p s n asked may))) needed)

  -- and got
  pub wants-got : (o : Opening) (p : Place) (g : Ground) (s : ℕ) (left : List Uttered) (total : ℕ) (standing : Standing) (item : Uttered) (n : Need) (nodes : List Node) → g.dead ≡ 0 →
      (h : Here M o p g s (member left (writing standing (Some item)) total)) → AllByRecursion (λ asked. is_on asked n.node ≡ true) nodes → MayWant p s n → IsAskedOver M standing (Some item) (g.desk s).known n →
      ((t : ℕ) → (t == s) ≡ false → Apart (needs_at p s ++ n ∷ []) (needs_at p t)) →
      Steps M o p g s (member left (writing standing (Some item)) total) g (wanted_at s n nodes ++ Got s n ∷ [])
  wants-got o p g s left total standing item n nodes none h on_way may needed apart =
      let m = member left (writing standing (Some item)) total in
      let a = wants-all o p g s left total standing item n nodes none h on_way may needed in
      let same : (t : ℕ) → needs_at a.to t ≡ needs_at p t = λ t. subst (λ (q : Place). needs_at q t ≡ needs_at p t) a.leads (wants-needs o p s h.stands.state.transaction n nodes h.stands.state.is_open t) in
      in-turn M orderly o p g g g s m m (wanted_at s n nodes) (Got s n ∷ []) a
      (gets o a.to g s left total standing item n (arrives M orderly o p g g s m m (wanted_at s n nodes) none h a)
      (λ t other. subst (λ ws. Apart (needs_at a.to s ++ n ∷ []) ws) (sym (same t)) (subst (λ ws. Apart (ws ++ n ∷ []) (needs_at p t)) (sym (same s)) (apart t other))) needed)

  -- ---- what is asked for

  -- the statement under way takes locks
  pub takes-locks : (o : Opening) (p : Place) (g : Ground) (s : ℕ) (standing : Standing) (item : Uttered) → M g.now p.tables → Writes M o p g s standing (Some item) → locks standing item ≡ true
  takes-locks o p g s standing item m w = by (length w.transaction.lines == 0) refl
    where
      by : (b : Bool) → (length w.transaction.lines == 0) ≡ b → locks standing item ≡ true
      by false e = writer-locks standing item (w.remains e)
      by true e =
          let leads = holds-now M orderly o.word w.transaction.got g.now w.transaction.lines (g.desk s).writes standing p.tables m w.is.holds in
          let first = first-said M orderly o.word p.tables leads.then w.transaction standing item w.spoken e leads.folded in
          subst (λ (u : Standing). locks u item ≡ true) (sym first.0) (start-locks item w.transaction.kind first.1 w.writes)
