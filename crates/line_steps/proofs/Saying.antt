-- A statement is answered in its transaction.
use Rattle.std.proofs.Common.{◌≡◌, ◌≤◌, ℕ, ◌+◌, ◌++◌, ◌∷◌, [], ◌==◌, ◌&&◌, not, Bool, true, false, List, length, map, refl, ◌∙◌, sym, ap, subst, arith, Option, Some, None}
use Rattle.std.proofs.lemmas.Bool.{false≢true, and_left, and_right}
use Rattle.std.proofs.lemmas.Option.{same_Some}
use Rattle.rdo_ast.specs.declared.reply.Standing.{Standing}
use Rattle.rdo_ast.specs.declared.reply.Standing.TheVariants.{Closed, ReadOnly}
use Rattle.rdo_ast.specs.Tree.{Uttered}
use Rattle.rdb_meaning.specs.declared.tables.Tables.{Tables}
use Rattle.rdb_meaning.specs.Meaning.{meaning, means}
use Rattle.rdb_meaning.specs.Usual.{is_refusal_of_means}
use Rattle.line_view.specs.Knowledge.{Knowledge, Lines, IsInOrder, Agrees}
use Rattle.line_view.specs.declared.writes.Write.{Write}
use Rattle.line_view.specs.Writes.{laid_all}
use Rattle.line_view.proofs.Written.{laid_in_turn}
use Rattle.rdb_account.specs.Events.{Said}
use Rattle.rdb_account.specs.Places.{Opening, Place, Transaction, Line, nothing, living, at, after, begins, leaves_none, with_line, is_writer, is_done, is_first_refused, asks_of_others, retold, some_reply}
use Rattle.rdb_account.specs.Lawful.{got_of, has_cause, IsExcused}
use Rattle.rdb_account.specs.Legal.{MaySay, ends_by, ends_its_own, IsAnsweredIn, standing_of_reader}
use Rattle.line_history.specs.kept_apart.Guards.{AreOwn}
use Rattle.line_history.specs.kept_apart.Alike.{IsGuarded}
use Rattle.line_history.proofs.of_kept_apart.Alike.{alike-refl}
use Rattle.line_history.specs.session_jobs.Records.{Model, IsOrderly, Worked, DoesSo, IsRight}
use Rattle.line_history.specs.Transactions.{line_of, Leads, IsWriting}
use Rattle.line_history.proofs.Transactions.{holds-now, holds-said, holds-relaid, holds-excused, stands-told, stands-answered, stands-excused, reader-answered, reader-excused}
use Rattle.line_history.proofs.Standings.{stays-writer, starts-writer, starts-leaves, ends-alone, starts-ends, excused-undone}
use Rattle.line_steps.specs.Members.{writing, reading, Member, member, left_of, life_of}
use Rattle.lock_ties.specs.Ties.{needs_at}
use Rattle.line_steps.specs.Right.{Desk, Ground, Writes, StandsAs, HasSpoken, with_desk}
use Rattle.line_steps.specs.Steps.{Here, Steps}
use Rattle.lock_ties.proofs.Places.{at-same}
use Rattle.line_steps.proofs.Common.{ready, next-is, stands-said, apart-still, fit-with, desk-same, desk-other}

abbrev pub behind_line : Place → ℕ → Transaction → Line → Place
behind_line p s x l = record p {
  transaction = at s (Some (with_line l x)) p.transaction;
  said = at s (p.said s + 1) p.said;
  asks = asks_of_others s p.asks;
  due = nothing;
}

line-place : (o : Opening) (p : Place) (s : ℕ) (x : Transaction) (l : Line) → p.transaction s ≡ Some x → is_first_refused (Some x) l.item l.reply ≡ false →
    after o p (Said s l.item l.choices l.reply) ≡ behind_line p s x l
line-place o p s x l is_open stays = rw is_open (rw stays refl)

spoken-more : (lines : List Line) (l : Line) → (length (lines ++ l ∷ []) == 0) ≡ false
spoken-more [] l = refl
spoken-more (m ∷ ls) l = grind arith

reader-standing : (lines : List Line) (l : Line) → standing_of_reader (lines ++ l ∷ []) ≡ ReadOnly
reader-standing [] l = refl
reader-standing (m ∷ ls) l = refl

has-spoken : (under : Option Uttered) (l : Line) (x : Transaction) → HasSpoken under (with_line l x)
has-spoken under l x none = absurd (false≢true (sym (spoken-more x.lines l) ∙ none))

nothing-said : (lines : List Line) → (length lines == 0) ≡ true → lines ≡ []
nothing-said [] h = refl
nothing-said (l ∷ ls) h = absurd (grind arith)

module _ (M : Model) (orderly : IsOrderly M) where
  -- whatever may be said in a transaction that is open
  said-in : (o : Opening) (p : Place) (g h : Ground) (s : ℕ) (m n : Member) (x : Transaction) (l : Line) → (here : Here M o p g s m) →
      p.transaction s ≡ Some x → left_of m ≡ l.item ∷ left_of n → n.total ≡ m.total → life_of m.state ≡ life_of n.state →
      is_first_refused (Some x) l.item l.reply ≡ false → (ends_its_own l.item && is_done l.reply) ≡ false → p.life s ≡ living →
      IsAnsweredIn o p s (is_writer x.kind) x l → h.now ≡ g.now → g.time ≤ h.time → h.dead ≡ g.dead → ((t : ℕ) → (t == s) ≡ false → h.desk t ≡ g.desk t) →
      StandsAs M o (behind_line p s x l) h s n.left n.state →
      Steps M o p g s n h (Said s l.item l.choices l.reply ∷ [])
  said-in o p g h s m n x l here is_open left total life stays ends lives answered same later dead desks stands = record {
    may = (
      (
        next-is M o p g s m l.item (left_of n) here.stands left,
        subst (λ d. MaySay d o p s l) (sym here.free) (ready p s here.awake here.free lives, ends, rw is_open answered),
      ),
      tt,
    );
    own = (refl, tt);
    to = behind_line p s x l;
    leads = line-place o p s x l is_open stays;
    settled = refl;
    fit = fit-with M p (behind_line p s x l) g h s (Some (with_line l x)) refl (here.fit.dead ∙ sym dead) (omega (arith, here.fit.past, later)) (rw same here.fit.order) (rw same here.fit.stands)
        (apart-still p s x.got (ap got_of is_open) here.fit.apart) here.fit;
    stands = stands-said M o p (behind_line p s x l) g h s m n l.item here.stands left total (at-same s (p.said s + 1) p.said) (here.stands.lives ∙ life) stands;
    desks = desks;
    alike = λ t other. rw same (alike-refl (needs_at p t) g.now);
  }

  -- ---- in a read-write transaction

  under-left : (item : Uttered) (left : List Uttered) (total : ℕ) (standing : Standing) → left_of (member left (writing standing (Some item)) total) ≡ item ∷ left
  under-left item left total standing = refl

  -- the first statement is said over nothing, and begins the transaction
  pub first-said : (word : List ℕ) (t then : Tables) (x : Transaction) (standing : Standing) (item : Uttered) → HasSpoken (Some item) x → (length x.lines == 0) ≡ true →
      retold word t x.lines ≡ record { tables = then; standing = standing; replies = map some_reply x.lines } → (standing ≡ Closed) × (begins item ≡ Some x.kind)
  first-said word t then x standing item spoken none folded =
      let b = spoken none in
      (sym (ap (λ f. f.standing) (ap (λ ls. retold word t ls) (sym (nothing-said x.lines none)) ∙ folded)), subst (λ (i : Uttered). begins i ≡ Some x.kind) (sym (same_Some item b.0 b.1)) b.2)

  -- the transaction stays a read-write one
  said-remains : (o : Opening) (p : Place) (g : Ground) (s : ℕ) (standing : Standing) (r : Worked) → (w : Writes M o p g s standing (Some r.item)) → M g.now p.tables → IsRight M o.word standing (g.desk s).known r →
      is_first_refused (Some w.transaction) r.item r.reply ≡ false → (ends_by r.item && is_done r.reply) ≡ false → is_writer r.behind ≡ true
  said-remains o p g s standing r w m right stays ends = by (length w.transaction.lines == 0) refl
    where
      leads : Leads M o.word w.transaction.lines (g.desk s).writes standing g.now p.tables
      leads = holds-now M orderly o.word w.transaction.got g.now w.transaction.lines (g.desk s).writes standing p.tables m w.is.holds

      does : DoesSo M o.word standing r (laid_all (g.desk s).writes g.now) leads.then
      does = right.does (laid_all (g.desk s).writes g.now) leads.then leads.stands w.is.agrees

      is-done : (a b d : Bool) → a ≡ true → b ≡ true → (a && (b && not d)) ≡ false → d ≡ true
      is-done a b d h k e = grind arith

      by : (b : Bool) → (length w.transaction.lines == 0) ≡ b → is_writer r.behind ≡ true
      by false e = stays-writer o.word standing r.behind r.item r.choices leads.then does.then r.reply (w.remains e) does.does ends
      by true e =
          let first = first-said o.word p.tables leads.then w.transaction standing r.item w.spoken e leads.folded in
          starts-writer o.word w.transaction.kind r.behind r.item r.choices leads.then does.then r.reply first.1 w.writes
          (subst (λ (u : Standing). meaning o.word u r.item r.choices leads.then ≡ means r.reply does.then r.behind []) first.0 does.does)
          (is-done (length w.transaction.lines == 0) (leaves_none r.item) (is_done r.reply) e (starts-leaves r.item w.transaction.kind first.1 w.writes) stays)

  -- it goes on behind what was worked in it, also where that is an online backup
  said-alone : (o : Opening) (p : Place) (g : Ground) (s : ℕ) (standing : Standing) (r : Worked) → (w : Writes M o p g s standing (Some r.item)) → M g.now p.tables → IsRight M o.word standing (g.desk s).known r →
      (ends_by r.item && is_done r.reply) ≡ false → (ends_its_own r.item && is_done r.reply) ≡ false
  said-alone o p g s standing r w m right ends = by (length w.transaction.lines == 0) refl
    where
      leads : Leads M o.word w.transaction.lines (g.desk s).writes standing g.now p.tables
      leads = holds-now M orderly o.word w.transaction.got g.now w.transaction.lines (g.desk s).writes standing p.tables m w.is.holds

      does : DoesSo M o.word standing r (laid_all (g.desk s).writes g.now) leads.then
      does = right.does (laid_all (g.desk s).writes g.now) leads.then leads.stands w.is.agrees

      by : (b : Bool) → (length w.transaction.lines == 0) ≡ b → (ends_its_own r.item && is_done r.reply) ≡ false
      by false e = ends-alone o.word standing r.behind r.item r.choices leads.then does.then r.reply (w.remains e) does.does ends
      by true e =
          let first = first-said o.word p.tables leads.then w.transaction standing r.item w.spoken e leads.folded in
          and_left (ends_its_own r.item) (is_done r.reply) (starts-ends r.item w.transaction.kind first.1 w.writes)

  refused-alone : (l : Line) → is_refusal_of_means l.reply ≡ true → (ends_its_own l.item && is_done l.reply) ≡ false
  refused-alone l refused = and_right (ends_its_own l.item) (is_done l.reply) (excused-undone l.reply refused)

  refused-remains : (under : Uttered) (l : Line) (x : Transaction) (standing : Standing) → HasSpoken (Some under) x → is_writer x.kind ≡ true → under ≡ l.item → ((length x.lines == 0) ≡ false → is_writer standing ≡ true) →
      is_refusal_of_means l.reply ≡ true → is_first_refused (Some x) l.item l.reply ≡ false → is_writer standing ≡ true
  refused-remains under l x standing spoken writes is remains refused stays = by (length x.lines == 0) refl
    where
      clash : (a b d : Bool) → a ≡ true → b ≡ true → d ≡ false → (a && (b && not d)) ≡ false → ⊥
      clash a b d h k e f = grind arith

      by : (b : Bool) → (length x.lines == 0) ≡ b → is_writer standing ≡ true
      by false e = remains e
      by true e =
          let b = spoken e in
          let begun = subst (λ (i : Uttered). begins i ≡ Some x.kind) (sym (same_Some under b.0 b.1) ∙ is) b.2 in
          absurd (clash (length x.lines == 0) (leaves_none l.item) (is_done l.reply) e (starts-leaves l.item x.kind begun writes) (excused-undone l.reply refused) stays)

  -- The statement was worked over what the session knew, and its writes were made: those behind it come to the same as its own laid over those before.
  pub answers-writing : (o : Opening) (p : Place) (g : Ground) (s : ℕ) (left : List Uttered) (total : ℕ) (standing : Standing) (r : Worked) (behind : List Write) (new : Knowledge) (time : ℕ) →
      (h : Here M o p g s (member left (writing standing (Some r.item)) total)) → IsRight M o.word standing (g.desk s).known r → AreOwn (needs_at p s) behind →
      ((all : Lines) → IsInOrder all → laid_all behind all ≡ laid_all r.writes (laid_all (g.desk s).writes all)) →
      is_first_refused (p.transaction s) r.item r.reply ≡ false → (ends_by r.item && is_done r.reply) ≡ false → g.time ≤ time →
      IsGuarded (needs_at p s) new → Agrees new (laid_all behind g.now) →
      Steps M o p g s (member left (writing r.behind None) total) (record (with_desk s (record { known = new; writes = behind; start = (g.desk s).start }) g) { time = time }) (Said s r.item r.choices r.reply ∷ [])
  answers-writing o p g s left total standing r behind new time h right own same stays ends later guarded agrees =
      let w = h.stands.state in
      let x = w.transaction in
      let d : Desk = record { known = new; writes = behind; start = (g.desk s).start } in
      let l = line_of r in
      said-in o p g (record (with_desk s d g) { time = time }) s (member left (writing standing (Some r.item)) total) (member left (writing r.behind None) total) x l h
      w.is_open refl refl refl (subst (λ (y : Option Transaction). is_first_refused y r.item r.reply ≡ false) w.is_open stays) (said-alone o p g s standing r w h.fit.stands right ends) h.stands.lives
      (rw w.writes (
        stands-told M orderly o.word x.got g.now x.lines (g.desk s).writes standing p.tables h.fit.stands w.is.holds,
        stands-answered M orderly o.word o p s x.got g.now x.lines (g.desk s).writes standing (g.desk s).known r h.fit.stands refl w.is.holds right w.is.agrees,
      ))
      refl later refl (desk-other s d g)
      (record {
        transaction = with_line l x;
        is_open = at-same s (Some (with_line l x)) p.transaction;
        writes = w.writes;
        spoken = has-spoken None l x;
        remains = λ some. said-remains o p g s standing r w h.fit.stands right (subst (λ (y : Option Transaction). is_first_refused y r.item r.reply ≡ false) w.is_open stays) ends;
        is = subst (λ (e : Desk). IsWriting M o.word x.got g.now (x.lines ++ l ∷ []) e.writes r.behind e.known) (sym (desk-same s d g)) (record {
          holds = holds-relaid M orderly o.word x.got g.now (x.lines ++ l ∷ []) ((g.desk s).writes ++ r.writes) behind r.behind (λ all order. same all order ∙ sym (laid_in_turn (g.desk s).writes r.writes all))
              (holds-said M orderly o.word x.got x.got g.now x.lines (g.desk s).writes standing (g.desk s).known r h.fit.order w.is.holds (λ n e. e) right w.is.guarded w.is.agrees);
          own = subst (λ (y : Option Transaction). AreOwn (got_of y) behind) w.is_open own;
          guarded = subst (λ (y : Option Transaction). IsGuarded (got_of y) new) w.is_open guarded;
          agrees = agrees;
        });
      })

  -- The statement was refused by a lock, a limit or memory, and wrote nothing.
  pub refuses-writing : (o : Opening) (p : Place) (g : Ground) (s : ℕ) (left : List Uttered) (total : ℕ) (standing : Standing) (l : Line) →
      (h : Here M o p g s (member left (writing standing (Some l.item)) total)) → is_refusal_of_means l.reply ≡ true →
      ((t : Tables) → M (laid_all (g.desk s).writes g.now) t → IsExcused l.reply o.word standing t l.item) → has_cause o p s l.reply ≡ true →
      is_first_refused (p.transaction s) l.item l.reply ≡ false → (ends_by l.item && is_done l.reply) ≡ false →
      Steps M o p g s (member left (writing standing None) total) g (Said s l.item l.choices l.reply ∷ [])
  refuses-writing o p g s left total standing l h refused excused cause stays ends =
      let w = h.stands.state in
      let x = w.transaction in
      said-in o p g g s (member left (writing standing (Some l.item)) total) (member left (writing standing None) total) x l h
      w.is_open refl refl refl (subst (λ (y : Option Transaction). is_first_refused y l.item l.reply ≡ false) w.is_open stays) (refused-alone l refused) h.stands.lives
      (rw w.writes (
        stands-told M orderly o.word x.got g.now x.lines (g.desk s).writes standing p.tables h.fit.stands w.is.holds,
        stands-excused M orderly o.word o p s x.got g.now x.lines (g.desk s).writes standing l h.fit.stands refl w.is.holds refused excused cause,
      ))
      refl (omega arith) refl (λ t other. refl)
      (record {
        transaction = with_line l x;
        is_open = at-same s (Some (with_line l x)) p.transaction;
        writes = w.writes;
        spoken = has-spoken None l x;
        remains = λ some. refused-remains l.item l x standing w.spoken w.writes refl w.remains refused (subst (λ (y : Option Transaction). is_first_refused y l.item l.reply ≡ false) w.is_open stays);
        is = record {
          holds = holds-excused M orderly o.word x.got x.got g.now x.lines (g.desk s).writes standing l w.is.holds (λ n e. e) refused;
          own = w.is.own;
          guarded = w.is.guarded;
          agrees = w.is.agrees;
        };
      })

  -- ---- in a read-only transaction

  pub answers-reading : (o : Opening) (p : Place) (g : Ground) (s : ℕ) (left : List Uttered) (total : ℕ) (standing : Standing) (r : Worked) →
      (h : Here M o p g s (member left (reading standing (Some r.item)) total)) → IsRight M o.word standing (g.desk s).known r →
      is_first_refused (p.transaction s) r.item r.reply ≡ false → (ends_its_own r.item && is_done r.reply) ≡ false →
      Steps M o p g s (member left (reading ReadOnly None) total) g (Said s r.item r.choices r.reply ∷ [])
  answers-reading o p g s left total standing r h right stays ends =
      let w = h.stands.state in
      let x = w.transaction in
      let l = line_of r in
      said-in o p g g s (member left (reading standing (Some r.item)) total) (member left (reading ReadOnly None) total) x l h
      w.is_open refl refl refl (subst (λ (y : Option Transaction). is_first_refused y r.item r.reply ≡ false) w.is_open stays) ends h.stands.lives
      (rw w.reads (reader-answered M orderly o.word o p s (g.desk s).start x.base x.lines (g.desk s).known r refl w.is
      (subst (λ (u : Standing). IsRight M o.word u (g.desk s).known r) (sym w.has_standing) right)))
      refl (omega arith) refl (λ t other. refl)
      (record { transaction = with_line l x; is_open = at-same s (Some (with_line l x)) p.transaction; reads = w.reads; spoken = has-spoken None l x; has_standing = reader-standing x.lines l; is = w.is })

  -- A limit or memory refused it.
  pub refuses-reading : (o : Opening) (p : Place) (g : Ground) (s : ℕ) (left : List Uttered) (total : ℕ) (standing : Standing) (l : Line) →
      (h : Here M o p g s (member left (reading standing (Some l.item)) total)) → is_refusal_of_means l.reply ≡ true →
      ((t : Tables) → M (g.desk s).start t → IsExcused l.reply o.word standing t l.item) → has_cause o p s l.reply ≡ true →
      is_first_refused (p.transaction s) l.item l.reply ≡ false → (ends_by l.item && is_done l.reply) ≡ false →
      Steps M o p g s (member left (reading ReadOnly None) total) g (Said s l.item l.choices l.reply ∷ [])
  refuses-reading o p g s left total standing l h refused excused cause stays ends =
      let w = h.stands.state in
      let x = w.transaction in
      said-in o p g g s (member left (reading standing (Some l.item)) total) (member left (reading ReadOnly None) total) x l h
      w.is_open refl refl refl (subst (λ (y : Option Transaction). is_first_refused y l.item l.reply ≡ false) w.is_open stays) (refused-alone l refused) h.stands.lives
      (rw w.reads (reader-excused M orderly o.word o p s (g.desk s).start x.base x.lines (g.desk s).known l refl w.is refused
      (subst (λ (u : Standing). (t : Tables) → M (g.desk s).start t → IsExcused l.reply o.word u t l.item) (sym w.has_standing) excused) cause))
      refl (omega arith) refl (λ t other. refl)
      (record { transaction = with_line l x; is_open = at-same s (Some (with_line l x)) p.transaction; reads = w.reads; spoken = has-spoken None l x; has_standing = reader-standing x.lines l; is = w.is })
